use Rattle.std.proofs.Common.{◌≡◌, ◌<◌, List, length, get_or, sym, ap, ◌∙◌, subst, arith}
use Rattle.cqe_codec.specs.declared.cqe.Cqe.{Cqe}
use Rattle.zns_types.specs.Statuses.{is_success}
use Rattle.zone_model.specs.Entries.{posted}
use Rattle.zns_program.proofs.Counted.{none_posted, first_posted, both-is_success}
use Rattle.zns_program.proofs.summing.took.Goals as goal

pub returns-in-Some : goal.returns-in-Some
returns-in-Some c g h a is =
    let entry = c.in-Some.entry.now in
    let entries : c.deref.result.now ≡ posted g h a = c.deref.ensures.0 ∙ is.entries in
    let some : 0 < length (posted g h a) = subst (λ (xs : List Cqe). 0 < length xs) entries c.in-Some.ensures.item.3.0 in
    let first : entry ≡ get_or (posted g h a) 0 entry = subst (λ (xs : List Cqe). entry ≡ get_or xs 0 entry) entries c.in-Some.ensures.item.1 in
    c.eq.ensures ∙ both-is_success entry.code ∙ ap is_success (first_posted g h a entry some first)

pub returns-in-None : goal.returns-in-None
returns-in-None c g h a is =
    let entries : c.deref.result.now ≡ posted g h a = c.deref.ensures.0 ∙ is.entries in
    sym (none_posted g h a (omega (arith, ap (λ (xs : List Cqe). length xs) entries, c.in-None.ensures.item.3)))
