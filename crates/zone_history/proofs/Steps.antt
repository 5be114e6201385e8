-- The effect of one more deed on a zone: its state, its pointer and its blocks.
use Rattle.std.proofs.Common.{◌≡◌, ℕ, ◌+◌, ◌-◌, ◌≤◌, max, Bool, true, false, cond, List, [], ◌∷◌, Some, None, refl, sym, ap, ◌∙◌, arith}
use Rattle.std.specs.Prelude.{◌&&◌, ◌||◌, nat_lt, nat_le}
use Rattle.std.proofs.lemmas.Bool.{or_right}
use Rattle.std.proofs.lemmas.Bool.Decides.{nat_tests}
use Rattle.zns_types.specs.declared.fields.GeometryFields.{GeometryFields}
use Rattle.zns_types.specs.Geometry.{block_len}
use Rattle.zone_state.specs.Transitions.{after, state_after, adds_blocks}
use Rattle.zrwa_commit.specs.Least.{least_multiple}
use Rattle.zrwa_commit.proofs.LeastLemmas.{least_multiple-max}
use Rattle.drive_rules.specs.declared.deed.Deed.{Deed}
use Rattle.drive_rules.specs.Blocks.{block_at}
use Rattle.drive_rules.specs.Deeds.{action_of, is_reset, is_finish, asks_window, blocks_of, start_of, bound_of}
use Rattle.zone_history.specs.Histories.{Done, since, before_first_in, after_first_in, greatest, total, opens_window, count_of, asked_by, pointer_since, pointer_of, state_of, was_windowed, was_finished, block_of}

-- A deed that leaves the pointer and the blocks: no reset, finish, write or commit, and no request for a random write area.
pub record IsQuiet (g : GeometryFields) (e : Deed) : Type 0 where
  pub no_reset : is_reset e ≡ false
  pub no_finish : is_finish e ≡ false
  pub no_write : blocks_of e ≡ 0
  pub no_window : asks_window e ≡ false
  pub no_bound : bound_of g e ≡ 0

-- ---- states

pub state-step : (g : GeometryFields) (d : Done) (ds : List Done) → state_of g (d ∷ ds) ≡ state_after g.capacity (action_of d.deed) (pointer_of g (d ∷ ds)) (state_of g ds)
unfolding state_of
state-step g d ds = refl

-- the state, for an action that adds no blocks, whatever the pointer is
pub state-led : (g : GeometryFields) (d : Done) (ds : List Done) → adds_blocks (action_of d.deed) ≡ false → state_of g (d ∷ ds) ≡ after (action_of d.deed) (state_of g ds)
unfolding state_of
state-led g d ds other = rw other refl

-- ---- what was done since the last reset

pub finished-kept : (d : Done) (ds : List Done) → is_reset d.deed ≡ false → is_finish d.deed ≡ false → was_finished (d ∷ ds) ≡ was_finished ds
finished-kept d ds keeps goes_on = rw (keeps, goes_on) refl

pub windowed-kept : (d : Done) (ds : List Done) → is_reset d.deed ≡ false → asks_window d.deed ≡ false → was_windowed (d ∷ ds) ≡ was_windowed ds
windowed-kept d ds keeps none = rw (keeps, none) refl

pub windowed-reset : (d : Done) (ds : List Done) → is_reset d.deed ≡ true → was_windowed (d ∷ ds) ≡ false
windowed-reset d ds reset = rw reset refl

-- ---- pointers

pub pointer-reset : (g : GeometryFields) (d : Done) (ds : List Done) → is_reset d.deed ≡ true → pointer_of g (d ∷ ds) ≡ 0
unfolding pointer_since
pointer-reset g d ds reset = rw reset refl

pub pointer-finish : (g : GeometryFields) (d : Done) (ds : List Done) → is_reset d.deed ≡ false → is_finish d.deed ≡ true → pointer_of g (d ∷ ds) ≡ g.capacity
unfolding pointer_since
pointer-finish g d ds keeps finish = rw (keeps, finish) refl

-- without a random write area, the pointer moves by the blocks that are written
pub pointer-add : (g : GeometryFields) (d : Done) (ds : List Done) → is_reset d.deed ≡ false → is_finish d.deed ≡ false → asks_window d.deed ≡ false
    → was_finished ds ≡ false → was_windowed ds ≡ false → pointer_of g (d ∷ ds) ≡ blocks_of d.deed + pointer_of g ds
unfolding pointer_since
pointer-add g d ds keeps goes_on no_open unfinished unopened = rw (keeps, goes_on, no_open, unfinished, unopened) refl

-- a random write area begins at the least multiple of the granule at or after the pointer, when it is first asked for
pub pointer-opened : (g : GeometryFields) (d : Done) (ds : List Done) → is_reset d.deed ≡ false → is_finish d.deed ≡ false → asks_window d.deed ≡ true
    → was_finished ds ≡ false → was_windowed ds ≡ false → pointer_of g (d ∷ ds) ≡ least_multiple g.granule (max (pointer_of g ds) 0)
unfolding pointer_since
pointer-opened g d ds keeps goes_on opens unfinished unopened = rw (keeps, goes_on, opens, unfinished, unopened) refl

-- with a random write area, the pointer moves to the least multiple at or after what the deed asks for
pub pointer-windowed : (g : GeometryFields) (d : Done) (ds : List Done) → 1 ≤ g.granule → is_reset d.deed ≡ false → is_finish d.deed ≡ false
    → was_finished ds ≡ false → was_windowed ds ≡ true → pointer_of g (d ∷ ds) ≡ least_multiple g.granule (max (pointer_of g ds) (bound_of g d.deed))
unfolding pointer_since
pointer-windowed g d ds some keeps goes_on unfinished opened =
    let first = total count_of (before_first_in opens_window (since ds)) in
    let later = greatest (asked_by g) (after_first_in opens_window (since ds)) in
    let bound = bound_of g d.deed in
    let any : (asks_window d.deed || was_windowed ds) ≡ true = or_right _ _ opened in
    let order : max first (max bound later) ≡ max bound (max first later) = omega arith in
    let turn : max (least_multiple g.granule (max first later)) bound ≡ max bound (least_multiple g.granule (max first later)) = omega arith in
    rw (keeps, any, goes_on, unfinished, opened) (ap (least_multiple g.granule) order ∙ sym (least_multiple-max g.granule bound (max first later) some) ∙ ap (least_multiple g.granule) (sym turn))

-- if a deed asks for nothing and writes nothing, both what the area covers and what is written without one stay
same_cover : (opened : Bool) (granule : ℕ) (g : GeometryFields) (d : Done) (ds before rest : List Done) → blocks_of d.deed ≡ 0 → bound_of g d.deed ≡ 0 →
    cond opened (least_multiple granule (max (total count_of (cond opened before (d ∷ ds))) (greatest (asked_by g) (cond opened (d ∷ rest) [])))) (blocks_of d.deed + total count_of ds)
    ≡ cond opened (least_multiple granule (max (total count_of before) (greatest (asked_by g) rest))) (total count_of ds)
same_cover true granule g d ds before rest w a = rw a (ap (least_multiple granule) (omega arith))
same_cover false granule g d ds before rest w a = rw w (omega arith)

pub pointer-quiet : (g : GeometryFields) (d : Done) (ds : List Done) → IsQuiet g d.deed → pointer_of g (d ∷ ds) ≡ pointer_of g ds
unfolding pointer_since
pointer-quiet g d ds q =
    let now = since ds in
    rw (q.no_reset, q.no_finish, q.no_window)
    (ap (cond (was_finished ds) g.capacity) (same_cover (was_windowed ds) g.granule g d now (before_first_in opens_window now) (after_first_in opens_window now) q.no_write q.no_bound))

-- ---- blocks

pub block-reset : (g : GeometryFields) (d : Done) (ds : List Done) (b : ℕ) → is_reset d.deed ≡ true → block_of g (d ∷ ds) b ≡ None
unfolding block_of
block-reset g d ds b reset = rw reset refl

-- the blocks that a write covers take its data
pub block-step : (g : GeometryFields) (d : Done) (ds : List Done) (b start : ℕ) → is_reset d.deed ≡ false → start_of (pointer_of g ds) d.deed ≡ start
    → block_of g (d ∷ ds) b ≡ cond (nat_le start b && nat_lt b (start + blocks_of d.deed)) (Some (block_at (block_len g) d.payload (b - start))) (block_of g ds b)
unfolding block_of
block-step g d ds b start keeps begins = rw (keeps, begins) refl

-- a range of no blocks contains no block
pub among_none : (start b blocks : ℕ) → blocks ≡ 0 → (nat_le start b && nat_lt b (start + blocks)) ≡ false
among_none start b blocks none = grind (arith, nat_tests)

pub block-kept : (g : GeometryFields) (d : Done) (ds : List Done) (b : ℕ) → is_reset d.deed ≡ false → blocks_of d.deed ≡ 0 → block_of g (d ∷ ds) b ≡ block_of g ds b
unfolding block_of
block-kept g d ds b keeps none = rw (keeps, among_none (start_of (pointer_of g ds) d.deed) b (blocks_of d.deed) none) refl
