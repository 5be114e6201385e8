-- The cases of a deed that its zone admitted.
use Rattle.std.proofs.Common.{◌≡◌, ℕ, ◌+◌, ◌*◌, ◌-◌, ◌≤◌, true, false, List, refl, inl, inr}
use Rattle.std.specs.Prelude.{◌==◌, is_ok}
use Rattle.std.proofs.lemmas.Bool.{cases_Bool, and_parts, not-true, not_from_false}
use Rattle.zns_types.specs.declared.fields.GeometryFields.{GeometryFields}
use Rattle.zns_types.specs.States.{is_active}
use Rattle.zone_state.specs.declared.action.Action.TheVariants as action
use Rattle.zone_state.specs.Transitions.{go}
use Rattle.drive_rules.specs.declared.deed.Deed.{Deed}
use Rattle.drive_rules.specs.declared.deed.Deed.TheVariants as deed
use Rattle.drive_rules.specs.Deeds.{action_of, is_reset, is_finish, asks_window, blocks_of, start_of, bound_of}
use Rattle.drive_rules.proofs.Passing.{CommitPasses, OpenPasses, write_passes, append_passes, open_passes, commit_passes, place_of, leads}
use Rattle.zone_history.specs.Histories.{Done, state_of, window_of, pointer_of, was_windowed, sight_of}
use Rattle.zone_history.specs.Admitted.{IsAdmitted}
use Rattle.zone_history.proofs.Steps.{IsQuiet}
use Rattle.zone_history.proofs.Transitions.{is_still}

-- a Write or an Append of `blocks` blocks at offset `from`
pub record IsWrite (g : GeometryFields) (ds : List Done) (e : Deed) (from blocks : ℕ) : Type 0 where
  pub acts : action_of e ≡ action.Write
  pub leads : is_ok (go action.Write (state_of g ds)) ≡ true
  pub no_reset : is_reset e ≡ false
  pub no_finish : is_finish e ≡ false
  pub no_window : asks_window e ≡ false
  pub begins : start_of (pointer_of g ds) e ≡ from
  pub count : blocks_of e ≡ blocks
  pub some : 1 ≤ blocks
  pub within : from + blocks ≤ g.capacity
  pub at_pointer : window_of g ds ≡ false → from ≡ pointer_of g ds
  pub from_pointer : window_of g ds ≡ true → pointer_of g ds ≤ from
  pub two_windows : window_of g ds ≡ true → from + blocks ≤ pointer_of g ds + 2 * g.window
  pub bound : window_of g ds ≡ true → bound_of g e ≡ from + blocks - g.window
  pub is : window_of g ds ≡ true → e ≡ deed.Write from blocks

pub data Way (g : GeometryFields) (ds : List Done) (e : Deed) : Type 0 where
  stays : is_still e ≡ true → is_ok (go (action_of e) (state_of g ds)) ≡ true → Way g ds e
  fills : is_finish e ≡ true → is_ok (go (action_of e) (state_of g ds)) ≡ true → Way g ds e
  empties : e ≡ deed.Reset → is_ok (go action.Reset (state_of g ds)) ≡ true → Way g ds e
  writes : (from blocks : ℕ) → IsWrite g ds e from blocks → Way g ds e
  commits : (last : ℕ) → e ≡ deed.Commit last → CommitPasses g (sight_of g ds) last → Way g ds e
  gets_window : e ≡ deed.Open true → OpenPasses g (sight_of g ds) true → Way g ds e

-- ---- zones with a random write area

pub window-parts : (g : GeometryFields) (ds : List Done) → window_of g ds ≡ true → (is_active (state_of g ds) ≡ true) × (was_windowed ds ≡ true)
unfolding window_of
window-parts g ds e = and_parts _ _ e

pub no_window-parts : (g : GeometryFields) (ds : List Done) → is_active (state_of g ds) ≡ true → window_of g ds ≡ false → was_windowed ds ≡ false
unfolding window_of
no_window-parts g ds active e = rw active at e

pub window_active : (g : GeometryFields) (ds : List Done) → window_of g ds ≡ true → is_active (state_of g ds) ≡ true
window_active g ds e = (window-parts g ds e).0

-- ---- the cases

-- The table of transitions allows an admitted deed.
pub deed_leads : (g : GeometryFields) (ds : List Done) (e : Deed) → IsAdmitted g ds e → is_ok (go (action_of e) (state_of g ds)) ≡ true
deed_leads g ds e a = leads g (sight_of g ds) e (window_active g ds) a.rows

pub write-way : (g : GeometryFields) (ds : List Done) (from blocks : ℕ) → IsAdmitted g ds (deed.Write from blocks) → IsWrite g ds (deed.Write from blocks) from blocks
write-way g ds from blocks a =
    let passes = write_passes g (sight_of g ds) from blocks a.rows in
    let place = place_of g (sight_of g ds) from (from + blocks) passes.placed in
    record {
      acts = refl;
      leads = deed_leads g ds (deed.Write from blocks) a;
      no_reset = refl;
      no_finish = refl;
      no_window = refl;
      begins = refl;
      count = refl;
      some = a.some refl;
      within = passes.within;
      at_pointer = place.at_pointer;
      from_pointer = place.from_pointer;
      two_windows = place.two_windows;
      bound = λ there. refl;
      is = λ there. refl;
    }

pub append-way : (g : GeometryFields) (ds : List Done) (blocks : ℕ) → IsAdmitted g ds (deed.Append blocks) → IsWrite g ds (deed.Append blocks) (pointer_of g ds) blocks
append-way g ds blocks a =
    let passes = append_passes g (sight_of g ds) blocks a.rows in
    let none : window_of g ds ≡ false = passes.no_window in
    record {
      acts = refl;
      leads = deed_leads g ds (deed.Append blocks) a;
      no_reset = refl;
      no_finish = refl;
      no_window = refl;
      begins = refl;
      count = refl;
      some = a.some refl;
      within = passes.within;
      at_pointer = λ absent. refl;
      from_pointer = λ there. absurd (cc (there, none));
      two_windows = λ there. absurd (cc (there, none));
      bound = λ there. absurd (cc (there, none));
      is = λ there. absurd (cc (there, none));
    }

pub way_of : (g : GeometryFields) (ds : List Done) (e : Deed) → IsAdmitted g ds e → Way g ds e
way_of g ds (deed.Write from blocks) a = writes from blocks (write-way g ds from blocks a)
way_of g ds (deed.Append blocks) a = writes (pointer_of g ds) blocks (append-way g ds blocks a)
way_of g ds (deed.Open true) a = gets_window refl (open_passes g (sight_of g ds) true a.rows)
way_of g ds (deed.Open false) a = stays refl (deed_leads g ds (deed.Open false) a)
way_of g ds (deed.Commit last) a = commits last refl (commit_passes g (sight_of g ds) last a.rows)
way_of g ds deed.Close a = stays refl (deed_leads g ds deed.Close a)
way_of g ds deed.Finish a = fills refl (deed_leads g ds deed.Finish a)
way_of g ds deed.Reset a = empties refl (deed_leads g ds deed.Reset a)
way_of g ds deed.Offline a = stays refl (deed_leads g ds deed.Offline a)
way_of g ds (deed.Excursion kind) a = elim (cases_Bool (kind == 1)) [
  | inl first ↦ fills first (deed_leads g ds (deed.Excursion kind) a)
  | inr other ↦ stays (not_from_false _ other) (deed_leads g ds (deed.Excursion kind) a)
]

-- ---- deeds that write nothing

pub still_quiet : (g : GeometryFields) (e : Deed) → is_still e ≡ true → IsQuiet g e
still_quiet g (deed.Open window) still = record { no_reset = refl; no_finish = refl; no_write = refl; no_window = not-true _ still; no_bound = refl }
still_quiet g deed.Close still = record { no_reset = refl; no_finish = refl; no_write = refl; no_window = refl; no_bound = refl }
still_quiet g deed.Offline still = record { no_reset = refl; no_finish = refl; no_write = refl; no_window = refl; no_bound = refl }
still_quiet g (deed.Excursion kind) still = record { no_reset = refl; no_finish = not-true _ still; no_write = refl; no_window = refl; no_bound = refl }
still_quiet g _ still = absurd (cc still)

-- what holds of a finish
pub record IsEnd (e : Deed) : Type 0 where
  pub no_reset : is_reset e ≡ false
  pub no_write : blocks_of e ≡ 0
  pub no_window : asks_window e ≡ false

pub finish_end : (e : Deed) → is_finish e ≡ true → IsEnd e
finish_end deed.Finish finish = record { no_reset = refl; no_write = refl; no_window = refl }
finish_end (deed.Excursion kind) finish = record { no_reset = refl; no_write = refl; no_window = refl }
finish_end _ finish = absurd (cc finish)
