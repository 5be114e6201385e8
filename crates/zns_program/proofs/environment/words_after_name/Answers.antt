use Rattle.std.proofs.Common.{◌≡◌, length, drop, map, sym, ap, ◌∙◌}
use Rattle.std.specs.Vec.Iter.{into_iter_items, into_iter_len}
use Rattle.zns_program.proofs.Arguments.{without_first, all_given}
use Rattle.std.specs.String.{string_bytes}
use Rattle.zns_program.proofs.environment.words_after_name.Goals as goal

pub returns : goal.returns
returns c =
    let none : length (into_iter_items c.loop-arg.arg-iterator) ≡ 0 = sym c.loop-arg.arg-iterator.rest.ok.0 ∙ c.in-None.ensures.steps.0 in
    let given : into_iter_items c.into_iter-arg-iterator.result ≡ c.loop-arg.yielded = all_given c.into_iter-arg-iterator.result c.loop-arg.yielded c.loop-arg.arg-iterator c.loop-arg.yielded_by none in
    let rest : drop 1 (into_iter_items c.args.args) ≡ into_iter_items c.next-name.new.self =
    without_first c.next-name.result (into_iter_items c.args.args) (into_iter_items c.next-name.new.self) (into_iter_len c.args.args) c.next-name.ensures.items c.args.args.rest.ok.0 c.next-name.ensures.variant in
    c.loop-arg.invariant ∙ ap (map string_bytes) (sym (rest ∙ (sym (ap into_iter_items c.into_iter-arg-iterator.ensures.into_iter_gives) ∙ given)))
