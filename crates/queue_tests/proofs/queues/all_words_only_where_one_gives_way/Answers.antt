use Rattle.std.proofs.Common.{refl, ap, ◌∙◌}
use Rattle.zone_desk.specs.Passes.{Pass}
use Rattle.queue_tests.proofs.queues.all_words_only_where_one_gives_way.Goals as goal

pub put_back-requires : goal.put_back-requires
put_back-requires g c =
    let taken = (c.take_word.ensures.zone 3 refl).2 in
    record {
      desk = ap (λ (p : Pass). p.desk) taken ∙ c.in_ok-second.ensures.desk;
      none_open = ap (λ (p : Pass). p.opened) taken ∙ c.in_ok-second.ensures.none_open;
    }
