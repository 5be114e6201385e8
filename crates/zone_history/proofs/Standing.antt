-- The deeds of each zone fit its state, if each of them was admitted.
use Rattle.std.proofs.Common.{◌≡◌, ℕ, ◌%◌, ◌<◌, ◌≤◌, Bool, true, false, cond, List, [], ◌∷◌, None, refl, sym, ap, ◌∙◌, arith, inl, inr}
use Rattle.std.specs.Prelude.{◌+◌, ◌==◌, ◌&&◌, nat_lt, nat_le, is_ok}
use Rattle.std.proofs.lemmas.Bool.{cases_Bool, eqb-true, eqb-false, and_right, le-ltb}
use Rattle.zns_types.specs.declared.fields.GeometryFields.{GeometryFields}
use Rattle.zns_types.specs.declared.state.State.TheVariants.{Empty, Full, ExplicitlyOpened}
use Rattle.zns_types.specs.States.{is_empty, is_active, is_full}
use Rattle.zns_types.specs.Geometry.{IsGeometry}
use Rattle.zone_state.specs.declared.action.Action.{Action}
use Rattle.zone_state.specs.declared.action.Action.TheVariants as action
use Rattle.zone_state.specs.Transitions.{go, after, adds_blocks, state_after}
use Rattle.drive_rules.specs.declared.deed.Deed.{Deed}
use Rattle.drive_rules.specs.declared.deed.Deed.TheVariants as deed
use Rattle.drive_rules.specs.Deeds.{action_of, is_reset, is_finish, asks_window, blocks_of, start_of}
use Rattle.drive_rules.proofs.Passing.{CommitPasses, OpenPasses, write_passes, append_passes}
use Rattle.drive_rules.proofs.Leads.{commit_leads}
use Rattle.zone_history.specs.Histories.{Done, pointer_since, pointer_of, state_of, window_of, was_windowed, was_finished, block_of, sight_of}
use Rattle.zone_history.specs.Admitted.{IsAdmitted, AreAdmitted}
use Rattle.zone_history.proofs.Steps.{state-step, state-led, finished-kept, windowed-kept, windowed-reset, pointer-reset, pointer-quiet, block-reset, block-step, among_none}
use Rattle.zone_history.proofs.Transitions.{is_live, is_still, still_keeps, still_adds, finish_adds, finish_full, reset_empty, open_explicit, open_live, write_live, write_active, commit_active, active_live, active_only}
use Rattle.zone_history.proofs.Ways.{Way, stays, fills, empties, writes, commits, gets_window, IsWrite, way_of, still_quiet, finish_end}
use Rattle.zone_history.proofs.PointerSteps.{finish-pointer, write-adds, write-below, commit-moves, window_open-stays}
use Rattle.zone_history.proofs.Stands.{live_below, window-facts}
pub use Rattle.zone_history.proofs.Stands.{Stands}
pub use Rattle.zone_history.proofs.Ways.{window_active}

less : (m n : ℕ) → m ≤ n → (m ≡ n → ⊥) → m < n
less m n le other = omega arith

-- ---- deeds by which the pointer stays

stands-stays : (g : GeometryFields) (ds : List Done) (d : Done) → IsGeometry g → is_still d.deed ≡ true → is_ok (go (action_of d.deed) (state_of g ds)) ≡ true → Stands g ds → Stands g (d ∷ ds)
stands-stays g ds d is still leads s =
    let quiet = still_quiet g d.deed still in
    let there = pointer-quiet g d ds quiet in
    let finished = finished-kept d ds quiet.no_reset quiet.no_finish in
    let windowed = windowed-kept d ds quiet.no_reset quiet.no_window in
    let led = state-led g d ds (still_adds d.deed still) in
    let kept = still_keeps d.deed (state_of g ds) still leads in
    let was_live = λ (live : is_live (state_of g (d ∷ ds)) ≡ true). kept.live (ap is_live (sym led) ∙ live) in
    record {
      unfinished = λ live. finished ∙ s.unfinished (was_live live);
      bare = λ empty. absurd (cc (empty, ap is_empty led, kept.not_empty));
      below = λ active. rw there (live_below g ds is s (was_live (active_live _ active)));
      full = λ full. there ∙ s.full (kept.full (ap is_full (sym led) ∙ full));
      within = rw there s.within;
      windows = λ opened. s.windows (sym windowed ∙ opened);
    }

-- ---- ends

stands-fills : (g : GeometryFields) (ds : List Done) (d : Done) → is_finish d.deed ≡ true → is_ok (go (action_of d.deed) (state_of g ds)) ≡ true → Stands g ds → Stands g (d ∷ ds)
stands-fills g ds d finish leads s =
    let end = finish_end d.deed finish in
    let led : state_of g (d ∷ ds) ≡ Full = state-led g d ds (finish_adds d.deed finish) ∙ finish_full d.deed (state_of g ds) finish leads in
    let there = finish-pointer g ds d finish in
    let windowed = windowed-kept d ds end.no_reset end.no_window in
    record {
      unfinished = λ live. absurd (cc (live, ap is_live led));
      bare = λ empty. absurd (cc (empty, ap is_empty led));
      below = λ active. absurd (cc (active, ap is_active led));
      full = λ full. there;
      within = omega (arith, there);
      windows = λ opened. s.windows (sym windowed ∙ opened);
    }

stands-empties : (g : GeometryFields) (ds : List Done) (d : Done) → d.deed ≡ deed.Reset → is_ok (go action.Reset (state_of g ds)) ≡ true → Stands g (d ∷ ds)
stands-empties g ds d e leads =
    let resets : is_reset d.deed ≡ true = ap is_reset e in
    let led : state_of g (d ∷ ds) ≡ Empty = state-led g d ds (ap (λ (x : Deed). adds_blocks (action_of x)) e) ∙ ap (λ (x : Deed). after (action_of x) (state_of g ds)) e ∙ reset_empty (state_of g ds) leads in
    let start = pointer-reset g d ds resets in
    let none = windowed-reset d ds resets in
    record {
      unfinished = λ live. rw resets refl;
      bare = λ empty. record { pointer = start; unopened = none; blocks = λ b. block-reset g d ds b resets; excursions = λ kind. rw resets refl };
      below = λ active. absurd (cc (active, ap is_active led));
      full = λ full. absurd (cc (full, ap is_full led));
      within = omega (arith, start);
      windows = λ opened. absurd (cc (opened, none));
    }

-- ---- writes and commits

-- a zone that blocks are added to is Full if its pointer is at the capacity, and active otherwise
stands-adds : (g : GeometryFields) (ds : List Done) (d : Done) (a : Action) → action_of d.deed ≡ a → adds_blocks a ≡ true → is_active (after a (state_of g ds)) ≡ true
    → was_finished (d ∷ ds) ≡ false → pointer_of g (d ∷ ds) ≤ g.capacity → (was_windowed (d ∷ ds) ≡ true → 1 ≤ g.windows) → Stands g (d ∷ ds)
stands-adds g ds d a acts adds active unfinished within windows = by_pointer (pointer_of g (d ∷ ds) == g.capacity) refl
  where
    led : (b : Bool) → (pointer_of g (d ∷ ds) == g.capacity) ≡ b → state_of g (d ∷ ds) ≡ cond b Full (after a (state_of g ds))
    led b e = state-step g d ds ∙ ap (λ (x : Action). state_after g.capacity x (pointer_of g (d ∷ ds)) (state_of g ds)) acts ∙ rw (adds, e) refl

    by_pointer : (b : Bool) → (pointer_of g (d ∷ ds) == g.capacity) ≡ b → Stands g (d ∷ ds)
    by_pointer true e =
        let full = led true e in
        record {
          unfinished = λ live. unfinished;
          bare = λ empty. absurd (cc (empty, ap is_empty full));
          below = λ is. absurd (cc (is, ap is_active full));
          full = λ is. eqb-true _ _ e;
          within = within;
          windows = windows;
        }
    by_pointer false e =
        let on = led false e in
        let only = active_only (after a (state_of g ds)) active in
        record {
          unfinished = λ live. unfinished;
          bare = λ empty. absurd (cc (empty, ap is_empty on, only.not_empty));
          below = λ is. less (pointer_of g (d ∷ ds)) g.capacity within (eqb-false _ _ e);
          full = λ is. absurd (cc (is, ap is_full on, only.not_full));
          within = within;
          windows = windows;
        }

stands-writes : (g : GeometryFields) (ds : List Done) (d : Done) (from blocks : ℕ) → IsGeometry g → IsWrite g ds d.deed from blocks → Stands g ds → Stands g (d ∷ ds)
stands-writes g ds d from blocks is w s =
    let windowed = windowed-kept d ds w.no_reset w.no_window in
    stands-adds g ds d action.Write w.acts refl (write_active (state_of g ds) w.leads) (finished-kept d ds w.no_reset w.no_finish ∙ s.unfinished (write_live (state_of g ds) w.leads))
    (within (window_of g ds) refl) (λ opened. s.windows (sym windowed ∙ opened))
  where
    within : (b : Bool) → window_of g ds ≡ b → pointer_of g (d ∷ ds) ≤ g.capacity
    within true there = let below = write-below g ds d from blocks is s w there in omega arith
    within false none = omega (arith, write-adds g ds d from blocks s w none, w.within)

stands-commits : (g : GeometryFields) (ds : List Done) (d : Done) (last : ℕ) → IsGeometry g → d.deed ≡ deed.Commit last → CommitPasses g (sight_of g ds) last → is_ok (go action.Commit (state_of g ds)) ≡ true → Stands g ds → Stands g (d ∷ ds)
stands-commits g ds d last is e passes leads s =
    let windowed = windowed-kept d ds (ap is_reset e) (ap asks_window e) in
    let has = window-facts g ds is s passes.window in
    stands-adds g ds d action.Commit (ap action_of e) refl (commit_active (state_of g ds) leads) (finished-kept d ds (ap is_reset e) (ap is_finish e) ∙ has.unfinished)
    (omega (arith, commit-moves g ds d last is s e passes, passes.within)) (λ opened. s.windows (sym windowed ∙ opened))

stands-gets_window : (g : GeometryFields) (ds : List Done) (d : Done) → IsGeometry g → d.deed ≡ deed.Open true → OpenPasses g (sight_of g ds) true → Stands g ds → Stands g (d ∷ ds)
stands-gets_window g ds d is e passes s =
    let led : state_of g (d ∷ ds) ≡ ExplicitlyOpened =
    state-led g d ds (ap (λ (x : Deed). adds_blocks (action_of x)) e) ∙ ap (λ (x : Deed). after (action_of x) (state_of g ds)) e ∙ open_explicit (state_of g ds) passes.leads in
    let live = open_live (state_of g ds) passes.leads in
    let there = window_open-stays g ds d is s e passes in
    let below = live_below g ds is s live in
    record {
      unfinished = λ _. finished-kept d ds (ap is_reset e) (ap is_finish e) ∙ s.unfinished live;
      bare = λ empty. absurd (cc (empty, ap is_empty led));
      below = λ active. omega (arith, there, below);
      full = λ full. absurd (cc (full, ap is_full led));
      within = omega (arith, there, below);
      windows = λ opened. passes.some_windows refl;
    }

-- ---- histories

stands-none : (g : GeometryFields) → IsGeometry g → Stands g []
unfolding pointer_since state_of block_of
stands-none g is = record {
  unfinished = λ live. refl;
  bare = λ empty. record { pointer = refl; unopened = refl; blocks = λ b. refl; excursions = λ kind. refl };
  below = λ active. absurd (cc active);
  full = λ full. absurd (cc full);
  within = omega arith;
  windows = λ opened. absurd (cc opened);
}

stands-step : (g : GeometryFields) (ds : List Done) (d : Done) → IsGeometry g → Way g ds d.deed → Stands g ds → Stands g (d ∷ ds)
stands-step g ds d is (stays still leads) s = stands-stays g ds d is still leads s
stands-step g ds d is (fills finish leads) s = stands-fills g ds d finish leads s
stands-step g ds d is (empties e leads) s = stands-empties g ds d e leads
stands-step g ds d is (writes from blocks w) s = stands-writes g ds d from blocks is w s
stands-step g ds d is (commits last e passes) s = stands-commits g ds d last is e passes (commit_leads (state_of g ds) (window_active g ds passes.window)) s
stands-step g ds d is (gets_window e passes) s = stands-gets_window g ds d is e passes s

pub stands : (g : GeometryFields) → IsGeometry g → (ds : List Done) → AreAdmitted g ds → Stands g ds
stands g is [] a = stands-none g is
stands g is (d ∷ ds) a = stands-step g ds d is (way_of g ds d.deed a.0) (stands g is ds a.1)

-- ---- what follows

-- the pointer of an active zone is below the capacity
pub active_below : (g : GeometryFields) (ds : List Done) → IsGeometry g → AreAdmitted g ds → is_active (state_of g ds) ≡ true → pointer_of g ds < g.capacity
active_below g ds is a active = (stands g is ds a).below active

-- the pointer of a Full zone is at the capacity
pub full_pointer : (g : GeometryFields) (ds : List Done) → IsGeometry g → AreAdmitted g ds → is_full (state_of g ds) ≡ true → pointer_of g ds ≡ g.capacity
full_pointer g ds is a full = (stands g is ds a).full full

-- the pointer of a zone with a random write area is on a granule
pub window_granular : (g : GeometryFields) (ds : List Done) → IsGeometry g → AreAdmitted g ds → window_of g ds ≡ true → pointer_of g ds % g.granule ≡ 0
window_granular g ds is a there = (window-facts g ds is (stands g is ds a) there).granular

-- ---- blocks

-- an admitted deed writes no block past the capacity
none_past : (g : GeometryFields) (ds : List Done) (e : Deed) (b : ℕ) → IsAdmitted g ds e → g.capacity ≤ b → (nat_le (start_of (pointer_of g ds) e) b && nat_lt b (start_of (pointer_of g ds) e + blocks_of e)) ≡ false
none_past g ds (deed.Write from blocks) b a past = let ends = (write_passes g (sight_of g ds) from blocks a.rows).within in and_right _ _ (le-ltb b (from + blocks) (omega arith))
none_past g ds (deed.Append blocks) b a past =
    let ends : pointer_of g ds + blocks ≤ g.capacity = (append_passes g (sight_of g ds) blocks a.rows).within in and_right _ _ (le-ltb b (pointer_of g ds + blocks) (omega arith))
none_past g ds e b a past = among_none (pointer_of g ds) b 0 refl

-- no block past the capacity is ever written
pub blocks_within : (g : GeometryFields) (ds : List Done) (b : ℕ) → AreAdmitted g ds → g.capacity ≤ b → block_of g ds b ≡ None
unfolding block_of
blocks_within g [] b a past = refl
blocks_within g (d ∷ ds) b a past = elim (cases_Bool (is_reset d.deed)) [
  | inl resets ↦ block-reset g d ds b resets
  | inr keeps ↦ block-step g d ds b (start_of (pointer_of g ds) d.deed) keeps refl ∙ rw (none_past g ds d.deed b a.0 past) (blocks_within g ds b a.1 past)
]
