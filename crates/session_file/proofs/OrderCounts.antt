-- The number of acts of each queue, with one act more or one fewer.
use Rattle.std.proofs.Common.{◌≡◌, ℕ, ◌+◌, ◌-◌, ◌<◌, ◌≤◌, ◌≢◌, ⊎_elim, Bool, true, false, List, length, take, get_or, refl, sym, ap, ◌∙◌, arith}
use Rattle.std.proofs.lemmas.Bool.{cases_lt}
use Rattle.std.proofs.lemmas.Bool.Decides.{nat_tests}
use Rattle.std.proofs.lemmas.List.{get_or-set_same, get_or-set_other, length-take-le}
use Rattle.std.proofs.lemmas.List.Sums.{count_by_more_yes, count_by_more_no, count_by-le-length}
use Rattle.std.specs.List.{AllByRecursion}
use Rattle.std.specs.Prelude.{slice_index, slice_set, count_by, ◌==◌}
use Rattle.drive_rules.specs.Shown.{one}
use Rattle.zone_model.specs.declared.act.Act.{Act}
use Rattle.zone_model.specs.Sessions.{is_of, rest_of}
use Rattle.session_file.specs.Orders.{AreCounts}
use Rattle.session_file.proofs.OrderLists.{counted-next, next-count, next-few}

-- among the first acts, a queue has no more acts than there are
pub counted_at_most : (acts : List Act) (i queue : ℕ) → i ≤ length acts → count_by (is_of queue) (take i acts) ≤ i
counted_at_most acts i queue h = omega (arith, count_by-le-length (is_of queue) (take i acts), length-take-le i acts h)

pub counts-more : (counts : List ℕ) (acts : List Act) (i queue : ℕ) (d : Act) → i < length acts → queue ≡ (get_or acts i d).queue → queue < length counts → AreCounts (take i acts) counts → AreCounts (take (i + 1) acts) (slice_set counts queue (slice_index counts queue + 1))
counts-more counts acts i queue d h e within all q few = go (is_of q (get_or acts i d)) refl
  where
    go : (b : Bool) → is_of q (get_or acts i d) ≡ b → slice_index (slice_set counts queue (slice_index counts queue + 1)) q ≡ count_by (is_of q) (take (i + 1) acts)
    go true t =
        let same : q ≡ queue = grind (arith, nat_tests) in
        let here : slice_index counts queue ≡ count_by (is_of q) (take i acts) = ap (slice_index counts) (sym same) ∙ all q few in
        ap (slice_index (slice_set counts queue (slice_index counts queue + 1))) same
        ∙ get_or-set_same counts queue (slice_index counts queue + 1) 0 within
        ∙ ap (λ n. n + 1) here
        ∙ sym (count_by_more_yes (is_of q) acts i d h t)
    go false t =
        let other : q ≢ queue = grind (arith, nat_tests) in
        get_or-set_other counts queue q (slice_index counts queue + 1) 0 other ∙ all q few ∙ sym (count_by_more_no (is_of q) acts i d h t)

pub counts-less : (left : List ℕ) (acts : List Act) (queue : ℕ) → queue < 17 → queue < length left → 0 < slice_index left queue → AreCounts acts left → AreCounts (rest_of queue acts) (slice_set left queue (slice_index left queue - 1))
counts-less left acts queue small within some all q few = go (queue == q) refl
  where
    counted : count_by (is_of q) acts ≡ one (queue == q) + count_by (is_of q) (rest_of queue acts)
    counted = next-count queue acts (counted-next queue acts (omega (arith, all queue small))) q

    go : (b : Bool) → (queue == q) ≡ b → slice_index (slice_set left queue (slice_index left queue - 1)) q ≡ count_by (is_of q) (rest_of queue acts)
    go true t =
        let same : q ≡ queue = grind (arith, nat_tests) in
        let more : count_by (is_of q) acts ≡ 1 + count_by (is_of q) (rest_of queue acts) = counted ∙ ap (λ b. one b + count_by (is_of q) (rest_of queue acts)) t in
        let here : slice_index left queue ≡ count_by (is_of q) acts = ap (slice_index left) (sym same) ∙ all q few in
        let less : slice_index left queue - 1 ≡ count_by (is_of q) (rest_of queue acts) = omega arith in
        ap (slice_index (slice_set left queue (slice_index left queue - 1))) same
        ∙ get_or-set_same left queue (slice_index left queue - 1) 0 within
        ∙ less
    go false t =
        let other : q ≢ queue = grind (arith, nat_tests) in
        let none : count_by (is_of q) acts ≡ 0 + count_by (is_of q) (rest_of queue acts) = counted ∙ ap (λ b. one b + count_by (is_of q) (rest_of queue acts)) t in
        let kept : count_by (is_of q) acts ≡ count_by (is_of q) (rest_of queue acts) = omega arith in
        get_or-set_other left queue q (slice_index left queue - 1) 0 other ∙ all q few ∙ kept

-- a queue whose count is 0 has no act
pub no_more : (left : List ℕ) (acts : List Act) (queue : ℕ) → (queue < 17 → slice_index left queue ≡ 0) → AreCounts acts left → AllByRecursion (λ (a : Act). a.queue < 17) acts → count_by (is_of queue) acts ≡ 0
no_more left acts queue none all few = ⊎_elim (λ h. zero_from h) (λ h. omega arith) (cases_lt 0 (count_by (is_of queue) acts))
  where
    zero_from : 0 < count_by (is_of queue) acts → count_by (is_of queue) acts ≡ 0
    zero_from h =
        let small : queue < 17 = next-few queue acts few (counted-next queue acts h) in
        sym (all queue small) ∙ none small
