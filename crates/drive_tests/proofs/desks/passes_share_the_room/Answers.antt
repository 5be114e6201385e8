use Rattle.std.proofs.Common.{◌≡◌, ℕ, zero, suc, List, [], ◌∷◌, replicate, set, refl, ap, sym, ◌∙◌, subst, arith}
use mathlib.Core.Option.{some, some-injective, some-ne-none}
use lib.ListN.{get_elem?}
use Rattle.zns_types.specs.declared.fields.GeometryFields.{GeometryFields}
use Rattle.zone_desk.specs.Passes.{Pass, Distinct, AllLive, Exactly}
use Rattle.zone_desk.specs.declared.sight.Standing.{Standing}
use Rattle.zone_desk.specs.declared.sight.Standing.TheVariants.{Free, Live}
use Rattle.zone_desk.specs.declared.sight.Sight.{Sight}
use Rattle.drive_tests.proofs.desks.passes_share_the_room.Goals as goal

abbrev queue_of : Pass → ℕ
queue_of p = p.sight.queue

distinct_two : (p q : Pass) → queue_of p ≡ 1 → queue_of q ≡ 2 → Distinct (p ∷ q ∷ [])
distinct_two p q one two zero zero a b ea eb same = refl
distinct_two p q one two zero (suc zero) a b ea eb same = absurd (omega (arith, ap queue_of (some-injective p a ea), ap queue_of (some-injective q b eb), one, two, same))
distinct_two p q one two zero (suc (suc j)) a b ea eb same = absurd (some-ne-none b (sym eb))
distinct_two p q one two (suc zero) zero a b ea eb same = absurd (omega (arith, ap queue_of (some-injective q a ea), ap queue_of (some-injective p b eb), one, two, same))
distinct_two p q one two (suc zero) (suc zero) a b ea eb same = refl
distinct_two p q one two (suc zero) (suc (suc j)) a b ea eb same = absurd (some-ne-none b (sym eb))
distinct_two p q one two (suc (suc i)) j a b ea eb same = absurd (some-ne-none a (sym ea))

all_two : (p q : Pass) → queue_of p ≡ 1 → queue_of q ≡ 2 → AllLive (Free ∷ Live ∷ Live ∷ []) (p ∷ q ∷ [])
all_two p q one two zero e = absurd (cc (some-injective Free Live e))
all_two p q one two (suc zero) e = (0, (p, refl, one))
all_two p q one two (suc (suc zero)) e = (1, (q, refl, two))
all_two p q one two (suc (suc (suc n))) e = absurd (some-ne-none Live (sym e))

live_two : (p q : Pass) → queue_of p ≡ 1 → queue_of q ≡ 2 → (i : ℕ) (x : Pass) → get_elem? (p ∷ q ∷ []) i ≡ some x → get_elem? (Free ∷ Live ∷ Live ∷ []) (queue_of x) ≡ some Live
live_two p q one two zero x e = subst (λ (n : ℕ). get_elem? (Free ∷ Live ∷ Live ∷ []) n ≡ some Live) (sym one ∙ ap queue_of (some-injective p x e)) refl
live_two p q one two (suc zero) x e = subst (λ (n : ℕ). get_elem? (Free ∷ Live ∷ Live ∷ []) n ≡ some Live) (sym two ∙ ap queue_of (some-injective q x e)) refl
live_two p q one two (suc (suc i)) x e = absurd (some-ne-none x (sym e))

exactly_two : (standings : List Standing) (p q : Pass) → standings ≡ Free ∷ Live ∷ Live ∷ [] → queue_of p ≡ 1 → queue_of q ≡ 2 → Exactly standings (p ∷ q ∷ [])
exactly_two standings p q is one two = subst (λ (s : List Standing). Exactly s (p ∷ q ∷ [])) (sym is) record { distinct = distinct_two p q one two; all = all_two p q one two; live = live_two p q one two }

pub close-solo-requires-clause-all : goal.close-solo-requires-clause-all
close-solo-requires-clause-all g c =
    let of : Pass → List Standing = λ p. p.sight.standings in
    let none : of c.in_ok-desk.main ≡ Free ∷ Free ∷ Free ∷ [] = ap (λ (v : Sight). v.standings) c.in_ok-desk.ensures.sight ∙ ap (λ (f : GeometryFields). replicate f.queues Free) c.in_ok-g.ensures.fields in
    let one : of c.pass.new.main ≡ Free ∷ Live ∷ Free ∷ [] = ap of c.in_ok-first.ensures.main ∙ ap (λ (l : List Standing). set l 1 Live) none in
    let same : of c.pass-3.new.main ≡ Free ∷ Live ∷ Free ∷ [] = ap of (c.in-Err-pass.ensures.unchanged ∙ c.in-Err.ensures.unchanged) ∙ one in
    let two : of c.pass-4.new.main ≡ Free ∷ Live ∷ Live ∷ [] = ap of c.in_ok-second.ensures.main ∙ ap (λ (l : List Standing). set l 2 Live) same in
    let p : Pass = c.note-note.new.pass in
    let q : Pass = c.learn.new.pass in
    let first : queue_of p ≡ 1 = ap queue_of c.note-note.ensures.pass ∙ (c.take_and_give.ensures.queue ∙ ap (λ (v : Sight). v.queue) c.in_ok-first.ensures.sight) in
    let second : queue_of q ≡ 2 = ap queue_of c.learn.ensures.pass ∙ ap (λ (v : Sight). v.queue) c.in_ok-second.ensures.sight in
    let ps : List Pass = c.in_ok-vec.field-0.items in
    let all : Exactly (of c.pass-4.new.main) ps = subst (Exactly (of c.pass-4.new.main)) (sym c.in_ok-vec.ensures.items) (exactly_two (of c.pass-4.new.main) p q two first second) in
    subst (λ (p : Pass). Exactly p.sight.standings ps) (sym c.main-2.view_is) all
