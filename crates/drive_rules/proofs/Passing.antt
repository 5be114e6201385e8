-- What holds of a zone if none of its rows refuses a deed.
use Rattle.std.proofs.Common.{◌≡◌, ℕ, ◌+◌, ◌*◌, ◌-◌, ◌%◌, ◌<◌, ◌≤◌, Bool, true, false, cond, [], ◌∷◌, refl, sym, ap, ◌∙◌, arith}
use Rattle.std.specs.Prelude.{◌==◌, ◌&&◌, ◌||◌, not, is_ok, nat_lt, nat_le}
use Rattle.std.proofs.lemmas.Bool.{and_parts, or_parts, not-false, not_from_true, eqb-true, ltb-false, leb-true, leb-false}
use Rattle.std.proofs.lemmas.Bool.Decides.{nat_tests}
use Rattle.zns_types.specs.declared.fields.GeometryFields.{GeometryFields}
use Rattle.zns_types.specs.States.{is_active, is_full, is_read_only, is_offline, is_implicitly_opened}
use Rattle.zns_types.specs.Rows.{first_holding}
use Rattle.zns_types.proofs.RowLemmas.{none_holds, none_answers}
use Rattle.zone_state.specs.declared.action.Action.{Action}
use Rattle.zone_state.specs.declared.action.Action.TheVariants as action
use Rattle.zone_state.specs.Transitions.{go}
use Rattle.zrwa_commit.specs.Windows.{is_admitted}
use Rattle.drive_rules.specs.declared.deed.Deed.{Deed}
use Rattle.drive_rules.specs.declared.deed.Deed.TheVariants as deed
use Rattle.drive_rules.specs.ZoneRows.{Zone, is_misplaced, write_rows, append_rows, open_rows, commit_rows, no_transition}
use Rattle.drive_rules.specs.Deeds.{action_of, rows_for, Admits}
use Rattle.drive_rules.proofs.Leads.{write_leads, commit_leads, close_leads}

-- ---- what passes

pub record WritePasses (g : GeometryFields) (zone : Zone) (from blocks : ℕ) : Type 0 where
  pub not_full : is_full zone.state ≡ false
  pub not_read_only : is_read_only zone.state ≡ false
  pub not_offline : is_offline zone.state ≡ false
  pub placed : is_misplaced g zone from (from + blocks) ≡ false
  pub within : from + blocks ≤ g.capacity

pub record AppendPasses (g : GeometryFields) (zone : Zone) (blocks : ℕ) : Type 0 where
  pub not_full : is_full zone.state ≡ false
  pub not_read_only : is_read_only zone.state ≡ false
  pub not_offline : is_offline zone.state ≡ false
  pub no_window : zone.window ≡ false
  pub within : zone.pointer + blocks ≤ g.capacity

pub record OpenPasses (g : GeometryFields) (zone : Zone) (asks_window : Bool) : Type 0 where
  pub leads : is_ok (go action.Open zone.state) ≡ true
  pub some_windows : asks_window ≡ true → 1 ≤ g.windows
  pub granular : asks_window ≡ true → zone.pointer % g.granule ≡ 0

pub record CommitPasses (g : GeometryFields) (zone : Zone) (last : ℕ) : Type 0 where
  pub window : zone.window ≡ true
  pub from_pointer : zone.pointer ≤ last
  pub in_window : last ≤ zone.pointer + g.window - 1
  pub within : last < g.capacity
  pub granular : (last - zone.pointer + 1) % g.granule ≡ 0

-- ---- each deed

pub write_passes : (g : GeometryFields) (zone : Zone) (from blocks : ℕ) → Admits g zone (deed.Write from blocks) → WritePasses g zone from blocks
write_passes g zone from blocks e =
    let (full, (read_only, (offline, (misplaced, (beyond, _))))) = none_holds (write_rows g zone from blocks) e in
    record { not_full = full; not_read_only = read_only; not_offline = offline; placed = misplaced; within = ltb-false g.capacity (from + blocks) beyond }

pub append_passes : (g : GeometryFields) (zone : Zone) (blocks : ℕ) → Admits g zone (deed.Append blocks) → AppendPasses g zone blocks
append_passes g zone blocks e =
    let (full, (read_only, (offline, (windowed, (beyond, _))))) = none_holds (append_rows g zone blocks) e in
    record { not_full = full; not_read_only = read_only; not_offline = offline; no_window = windowed; within = ltb-false g.capacity (zone.pointer + blocks) beyond }

not_none : (n : ℕ) → (n == 0) ≡ false → 1 ≤ n
not_none n e = grind (arith, nat_tests)

-- what an Open asks for isn't lacking
not_lacking : (asks lacking : Bool) → (asks && lacking) ≡ false → asks ≡ true → lacking ≡ false
not_lacking true lacking e is = e
not_lacking false lacking e is = absurd cc

pub open_passes : (g : GeometryFields) (zone : Zone) (asks_window : Bool) → Admits g zone (deed.Open asks_window) → OpenPasses g zone asks_window
open_passes g zone asks_window e =
    let (misled, (windowless, (uneven, _))) = none_holds (open_rows g zone asks_window) e in
    record {
      leads = not-false _ misled;
      some_windows = λ asks. not_none g.windows (not_lacking asks_window (g.windows == 0) windowless asks);
      granular = λ asks. eqb-true (zone.pointer % g.granule) 0 (not-false _ (not_lacking asks_window (not (zone.pointer % g.granule == 0)) uneven asks));
    }

pub commit_passes : (g : GeometryFields) (zone : Zone) (last : ℕ) → Admits g zone (deed.Commit last) → CommitPasses g zone last
commit_passes g zone last e =
    let (windowless, (outside, (uneven, _))) = none_holds (commit_rows g zone last) e in
    let bounds = or_parts (nat_lt last zone.pointer || nat_lt (zone.pointer + g.window - 1) last) (nat_le g.capacity last) outside in
    let low = or_parts (nat_lt last zone.pointer) (nat_lt (zone.pointer + g.window - 1) last) bounds.0 in
    record {
      window = not-false _ windowless;
      from_pointer = ltb-false last zone.pointer low.0;
      in_window = ltb-false (zone.pointer + g.window - 1) last low.1;
      within = leb-false g.capacity last bounds.1;
      granular = eqb-true _ 0 (not-false _ uneven);
    }

-- if the state alone decides
state_leads : (g : GeometryFields) (zone : Zone) (a : Action) (d : Deed) → rows_for g d zone ≡ no_transition a zone.state ∷ [] → Admits g zone d → is_ok (go a zone.state) ≡ true
state_leads g zone a d is e = not-false _ (none_holds (no_transition a zone.state ∷ []) (ap first_holding (sym is) ∙ e)).0

-- The table of transitions allows what no row refuses, if a zone with a random write area is active.
pub leads : (g : GeometryFields) (zone : Zone) (d : Deed) → (zone.window ≡ true → is_active zone.state ≡ true) → Admits g zone d → is_ok (go (action_of d) zone.state) ≡ true
leads g zone (deed.Write from blocks) active e = let p = write_passes g zone from blocks e in write_leads zone.state p.not_full p.not_read_only p.not_offline
leads g zone (deed.Append blocks) active e = let p = append_passes g zone blocks e in write_leads zone.state p.not_full p.not_read_only p.not_offline
leads g zone (deed.Open window) active e = (open_passes g zone window e).leads
leads g zone (deed.Commit last) active e = commit_leads zone.state (active (commit_passes g zone last e).window)
leads g zone deed.Close active e = state_leads g zone action.Close deed.Close refl e
leads g zone deed.Finish active e = state_leads g zone action.Finish deed.Finish refl e
leads g zone deed.Reset active e = state_leads g zone action.Reset deed.Reset refl e
leads g zone deed.Offline active e = state_leads g zone action.Offline deed.Offline refl e
leads g zone (deed.Excursion kind) active e = state_leads g zone (action.Excursion kind) (deed.Excursion kind) refl e

-- an Implicitly Opened zone can be closed for another
pub close_admits : (g : GeometryFields) (zone : Zone) → is_implicitly_opened zone.state ≡ true → Admits g zone deed.Close
close_admits g zone e = none_answers (no_transition action.Close zone.state ∷ []) (not_from_true _ (close_leads zone.state e), tt)

-- ---- where a Write begins

pub record IsPlaced (g : GeometryFields) (zone : Zone) (from end : ℕ) : Type 0 where
  pub at_pointer : zone.window ≡ false → from ≡ zone.pointer
  pub from_pointer : zone.window ≡ true → zone.pointer ≤ from
  pub two_windows : zone.window ≡ true → end ≤ zone.pointer + 2 * g.window

pub place_of : (g : GeometryFields) (zone : Zone) (from end : ℕ) → is_misplaced g zone from end ≡ false → IsPlaced g zone from end
place_of g zone from end e = by_window zone.window refl e
  where
    by_window : (w : Bool) → zone.window ≡ w → cond w (not (is_admitted g zone.pointer from end)) (not (from == zone.pointer)) ≡ false → IsPlaced g zone from end
    by_window true is e =
        let parts = and_parts (nat_le zone.pointer from) (nat_le end (zone.pointer + 2 * g.window)) (not-false _ e) in
        record {
          at_pointer = λ absent. absurd (cc (absent, is));
          from_pointer = λ there. leb-true zone.pointer from parts.0;
          two_windows = λ there. leb-true end (zone.pointer + 2 * g.window) parts.1;
        }
    by_window false is e = record {
      at_pointer = λ absent. eqb-true from zone.pointer (not-false _ e);
      from_pointer = λ there. absurd (cc (there, is));
      two_windows = λ there. absurd (cc (there, is));
    }
