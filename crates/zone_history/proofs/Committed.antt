-- A committed block stays committed and reads the same until its zone is reset or goes Offline.
use Rattle.std.proofs.Common.{◌≡◌, ℕ, ◌+◌, ◌-◌, ◌<◌, ◌≤◌, max, Bool, true, false, List, ◌∷◌, refl, ap, ◌∙◌, arith, inl, inr}
use Rattle.std.specs.Prelude.{◌==◌, ◌&&◌, ◌⊎◌, nat_lt, nat_le, is_ok}
use Rattle.std.proofs.lemmas.Bool.{cases_Bool, or_cases, or_left, and_left, and_parts, ltb-true, lt-ltb, lt-leb, not-true}
use Rattle.zns_types.specs.declared.fields.GeometryFields.{GeometryFields}
use Rattle.zns_types.specs.declared.state.State.{State}
use Rattle.zns_types.specs.declared.state.State.TheVariants.{Empty, ImplicitlyOpened, ExplicitlyOpened, Closed, ReadOnly, Full, Offline}
use Rattle.zns_types.specs.States.{is_read_only, is_offline}
use Rattle.zns_types.specs.Geometry.{IsGeometry, block_len}
use Rattle.zone_state.specs.Transitions.{go, after, excursion, controller_finishes}
use Rattle.zrwa_commit.proofs.LeastLemmas.{least_multiple-covers}
use Rattle.drive_rules.specs.declared.deed.Deed.{Deed}
use Rattle.drive_rules.specs.declared.deed.Deed.TheVariants as deed
use Rattle.drive_rules.specs.Blocks.{seen_block}
use Rattle.drive_rules.specs.Deeds.{action_of, is_reset, is_finish, blocks_of}
use Rattle.drive_rules.proofs.Passing.{CommitPasses, OpenPasses}
use Rattle.zone_history.specs.Histories.{Done, state_of, window_of, pointer_of, block_of, is_committed, sight_of}
use Rattle.zone_history.specs.Moves.{IsKeptBlock}
use Rattle.zone_history.proofs.Steps.{block-kept, block-step, pointer-quiet}
use Rattle.zone_history.proofs.Transitions.{is_live, is_still, led_to, by_kind, open_live, write_live, active_live}
use Rattle.zone_history.proofs.Ways.{Way, stays, fills, empties, writes, commits, gets_window, IsWrite, still_quiet, finish_end}
use Rattle.zone_history.proofs.Stands.{Stands, window-facts}
use Rattle.zone_history.proofs.PointerSteps.{finish-pointer, write-adds, write-moves, commit-moves, window_open-stays}

-- ---- Read Only zones

live_not_read_only : (s : State) → is_live s ≡ true → is_read_only s ≡ false
live_not_read_only Empty live = refl
live_not_read_only ImplicitlyOpened live = refl
live_not_read_only ExplicitlyOpened live = refl
live_not_read_only Closed live = refl
live_not_read_only _ live = absurd (cc live)

finish_not_read_only : (e : Deed) (s : State) → is_finish e ≡ true → is_ok (go (action_of e) s) ≡ true → is_read_only s ≡ false
finish_not_read_only deed.Finish ReadOnly finish ok = absurd cc
finish_not_read_only (deed.Excursion kind) ReadOnly finish ok = let none : is_ok (controller_finishes ReadOnly) ≡ true = rw finish at ok in absurd cc
finish_not_read_only _ Empty finish ok = refl
finish_not_read_only _ ImplicitlyOpened finish ok = refl
finish_not_read_only _ ExplicitlyOpened finish ok = refl
finish_not_read_only _ Closed finish ok = refl
finish_not_read_only _ Full finish ok = refl
finish_not_read_only _ Offline finish ok = refl
finish_not_read_only _ ReadOnly finish ok = absurd (cc finish)

excursion_offline : (kind : ℕ) → (kind == 1) ≡ false → is_ok (excursion kind ReadOnly) ≡ true → is_offline (led_to (excursion kind ReadOnly) ReadOnly) ≡ true
excursion_offline kind other =
    by_kind (λ r. is_ok r ≡ true → is_offline (led_to r ReadOnly) ≡ true) kind ReadOnly (λ one ok. absurd (cc (one, other))) (λ ok. absurd (cc ok)) (λ ok. absurd (cc ok)) (λ ok. absurd (cc ok)) (λ ok. refl) (λ ok. absurd (cc ok))

-- a Read Only zone can only go Offline
read_only_offline : (e : Deed) (s : State) → is_still e ≡ true → is_ok (go (action_of e) s) ≡ true → is_read_only s ≡ true → is_offline (after (action_of e) s) ≡ true
read_only_offline deed.Offline ReadOnly still ok is = refl
read_only_offline (deed.Excursion kind) ReadOnly still ok is = excursion_offline kind (not-true _ still) ok
read_only_offline (deed.Open window) ReadOnly still ok is = absurd (cc ok)
read_only_offline deed.Close ReadOnly still ok is = absurd (cc ok)
read_only_offline _ ReadOnly still ok is = absurd (cc still)
read_only_offline _ Empty still ok is = absurd (cc is)
read_only_offline _ ImplicitlyOpened still ok is = absurd (cc is)
read_only_offline _ ExplicitlyOpened still ok is = absurd (cc is)
read_only_offline _ Closed still ok is = absurd (cc is)
read_only_offline _ Full still ok is = absurd (cc is)
read_only_offline _ Offline still ok is = absurd (cc is)

-- ---- blocks

-- a committed block of a zone that isn't Read Only is below the pointer
committed_below : (g : GeometryFields) (ds : List Done) (b : ℕ) → is_read_only (state_of g ds) ≡ false → is_committed g ds b ≡ true → b < pointer_of g ds
committed_below g ds b other e = below (or_cases (nat_lt b (pointer_of g ds)) (nat_lt b g.capacity && is_read_only (state_of g ds)) e)
  where
    below : (nat_lt b (pointer_of g ds) ≡ true) ⊎ ((nat_lt b g.capacity && is_read_only (state_of g ds)) ≡ true) → b < pointer_of g ds
    below (inl lt) = ltb-true b (pointer_of g ds) lt
    below (inr is) = let both = and_parts (nat_lt b g.capacity) (is_read_only (state_of g ds)) is in absurd (cc (both.1, other))

-- if the pointer has not moved back and the block is unchanged, the block is still committed
still_committed : (g : GeometryFields) (old new : List Done) (b : ℕ) → b < pointer_of g new → block_of g new b ≡ block_of g old b → IsKeptBlock g old new b
still_committed g old new b below same = record { committed = or_left _ _ (lt-ltb b (pointer_of g new) below); seen = ap (seen_block (block_len g)) same }

block-before : (g : GeometryFields) (ds : List Done) (d : Done) (b from blocks : ℕ) → IsWrite g ds d.deed from blocks → b < from → block_of g (d ∷ ds) b ≡ block_of g ds b
block-before g ds d b from blocks w lt =
    let out : (nat_le from b && nat_lt b (from + blocks_of d.deed)) ≡ false = and_left _ _ (lt-leb from b lt) in
    block-step g d ds b from w.no_reset w.begins ∙ rw out refl

-- ---- deeds

kept-stays : (g : GeometryFields) (ds : List Done) (d : Done) (b : ℕ) → is_still d.deed ≡ true → is_ok (go (action_of d.deed) (state_of g ds)) ≡ true
    → is_offline (after (action_of d.deed) (state_of g ds)) ≡ false → is_committed g ds b ≡ true → IsKeptBlock g ds (d ∷ ds) b
kept-stays g ds d b still leads on was =
    let quiet = still_quiet g d.deed still in
    let same = block-kept g d ds b quiet.no_reset quiet.no_write in
    let there = pointer-quiet g d ds quiet in
    elim (cases_Bool (is_read_only (state_of g ds))) [
      | inl is ↦ absurd (cc (on, read_only_offline d.deed (state_of g ds) still leads is))
      | inr other ↦ still_committed g ds (d ∷ ds) b (let below = committed_below g ds b other was in omega (arith, there)) same
    ]

kept-fills : (g : GeometryFields) (ds : List Done) (d : Done) (b : ℕ) → is_finish d.deed ≡ true → is_ok (go (action_of d.deed) (state_of g ds)) ≡ true → Stands g ds → is_committed g ds b ≡ true → IsKeptBlock g ds (d ∷ ds) b
kept-fills g ds d b finish leads s was =
    let end = finish_end d.deed finish in
    let below = committed_below g ds b (finish_not_read_only d.deed (state_of g ds) finish leads) was in
    let there = finish-pointer g ds d finish in
    let within = s.within in
    still_committed g ds (d ∷ ds) b (omega (arith, there)) (block-kept g d ds b end.no_reset end.no_write)

-- a write begins at or after the pointer, and doesn't move it back
record IsForward (g : GeometryFields) (ds : List Done) (d : Done) (from : ℕ) : Type 0 where
  begins : pointer_of g ds ≤ from
  grows : pointer_of g ds ≤ pointer_of g (d ∷ ds)

write_forward : (g : GeometryFields) (ds : List Done) (d : Done) (from blocks : ℕ) → IsGeometry g → IsWrite g ds d.deed from blocks → Stands g ds → (w : Bool) → window_of g ds ≡ w → IsForward g ds d from
write_forward g ds d from blocks is w s true there =
    let has = window-facts g ds is s there in
    let moved = write-moves g ds d from blocks is s w there in
    let covers = least_multiple-covers g.granule (max (pointer_of g ds) (from + blocks - g.window)) has.granules.granule in
    record { begins = w.from_pointer there; grows = omega (arith, moved, covers) }
write_forward g ds d from blocks is w s false none =
    let moved = write-adds g ds d from blocks s w none in
    let at = w.at_pointer none in
    record { begins = omega arith; grows = omega (arith, moved) }

kept-writes : (g : GeometryFields) (ds : List Done) (d : Done) (b from blocks : ℕ) → IsGeometry g → IsWrite g ds d.deed from blocks → Stands g ds → is_committed g ds b ≡ true → IsKeptBlock g ds (d ∷ ds) b
kept-writes g ds d b from blocks is w s was =
    let below = committed_below g ds b (live_not_read_only (state_of g ds) (write_live (state_of g ds) w.leads)) was in
    let forward = write_forward g ds d from blocks is w s (window_of g ds) refl in
    still_committed g ds (d ∷ ds) b (omega (arith, forward.grows)) (block-before g ds d b from blocks w (omega (arith, forward.begins)))

kept-commits : (g : GeometryFields) (ds : List Done) (d : Done) (b last : ℕ) → IsGeometry g → d.deed ≡ deed.Commit last → CommitPasses g (sight_of g ds) last → Stands g ds → is_committed g ds b ≡ true → IsKeptBlock g ds (d ∷ ds) b
kept-commits g ds d b last is e passes s was =
    let live = active_live (state_of g ds) (window-facts g ds is s passes.window).active in
    let below = committed_below g ds b (live_not_read_only (state_of g ds) live) was in
    let there = commit-moves g ds d last is s e passes in
    let from : pointer_of g ds ≤ last = passes.from_pointer in
    still_committed g ds (d ∷ ds) b (omega (arith, there)) (block-kept g d ds b (ap is_reset e) (ap blocks_of e))

kept-gets_window : (g : GeometryFields) (ds : List Done) (d : Done) (b : ℕ) → IsGeometry g → d.deed ≡ deed.Open true → OpenPasses g (sight_of g ds) true → Stands g ds → is_committed g ds b ≡ true → IsKeptBlock g ds (d ∷ ds) b
kept-gets_window g ds d b is e passes s was =
    let below = committed_below g ds b (live_not_read_only (state_of g ds) (open_live (state_of g ds) passes.leads)) was in
    let there = window_open-stays g ds d is s e passes in
    still_committed g ds (d ∷ ds) b (omega (arith, there)) (block-kept g d ds b (ap is_reset e) (ap blocks_of e))

pub keeps_committed : (g : GeometryFields) (ds : List Done) (d : Done) (b : ℕ) → IsGeometry g → Stands g ds → is_committed g ds b ≡ true → is_reset d.deed ≡ false
    → is_offline (after (action_of d.deed) (state_of g ds)) ≡ false → Way g ds d.deed → IsKeptBlock g ds (d ∷ ds) b
keeps_committed g ds d b is s was keeps on (stays still leads) = kept-stays g ds d b still leads on was
keeps_committed g ds d b is s was keeps on (fills finish leads) = kept-fills g ds d b finish leads s was
keeps_committed g ds d b is s was keeps on (empties e leads) = absurd (cc (keeps, ap is_reset e))
keeps_committed g ds d b is s was keeps on (writes from blocks w) = kept-writes g ds d b from blocks is w s was
keeps_committed g ds d b is s was keeps on (commits last e passes) = kept-commits g ds d b last is e passes s was
keeps_committed g ds d b is s was keeps on (gets_window e passes) = kept-gets_window g ds d b is e passes s was
