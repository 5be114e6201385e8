-- What a deed to all zones leads to, and what a zone uses after it: no more than before, except for the open resource of a Closed zone that
-- it opens.
use Rattle.std.proofs.Common.{◌≡◌, ℕ, ◌+◌, ◌≤◌, Bool, true, false, IsTrue, List, [], refl, arith}
use Rattle.std.specs.Prelude.{◌&&◌, ◌||◌, if◌then◌else◌}
use Rattle.zns_types.specs.declared.fields.GeometryFields.{GeometryFields}
use Rattle.zns_types.specs.declared.state.State.{State}
use Rattle.zns_types.specs.declared.state.State.TheVariants.{Empty, Closed}
use Rattle.zns_types.specs.States.{is_active, is_opened, is_closed}
use Rattle.zone_state.specs.declared.action.Action.TheVariants as action
use Rattle.zone_state.specs.Transitions.{after}
use Rattle.drive_rules.specs.declared.deed.Deed.{Deed}
use Rattle.drive_rules.specs.declared.deed.Deed.TheVariants as deed
use Rattle.drive_rules.specs.ZoneRows.{Zone}
use Rattle.drive_rules.specs.Deeds.{Admits, takes_all}
use Rattle.drive_rules.proofs.Leads.{takes_all_leads}
use Rattle.zone_cell.specs.Cells.{Cell}
use Rattle.zone_cell.specs.Deeds.{after_deed, IsBlocksFor}
use Rattle.zone_room.specs.Rooms.{cell_use}
use Rattle.mgmt_send.specs.Sweeping.{goes_to_all, opens_closed, swept_cell}
use Rattle.mgmt_send.proofs.Counting.{one_in}

-- the zone admits it
pub admits : (g : GeometryFields) (d : Deed) (zone : Zone) → IsTrue (goes_to_all d) → takes_all d zone.state ≡ true → Admits g zone d
admits g deed.Close zone sent takes = rw (takes_all_leads deed.Close zone.state takes) refl
admits g deed.Finish zone sent takes = rw (takes_all_leads deed.Finish zone.state takes) refl
admits g (deed.Open true) zone sent takes = absurd (cc sent)
admits g (deed.Open false) zone sent takes = rw (takes_all_leads (deed.Open false) zone.state takes) refl
admits g deed.Reset zone sent takes = rw (takes_all_leads deed.Reset zone.state takes) refl
admits g deed.Offline zone sent takes = rw (takes_all_leads deed.Offline zone.state takes) refl
admits g _ zone sent takes = absurd (cc sent)

pub record UsesLess (d : Deed) (c new : Cell) : Type 0 where
  pub active : one_in (cell_use new).active ≤ one_in (cell_use c).active
  pub opened : one_in (cell_use new).opened + one_in (opens_closed d new) ≤ one_in (cell_use c).opened + one_in (opens_closed d c)
  pub windows : one_in (cell_use new).window ≤ one_in (cell_use c).window

-- a random write area is at most kept
kept_at_most : (was on : Bool) → one_in (was && on) ≤ one_in was
kept_at_most true true = omega arith
kept_at_most true false = omega arith
kept_at_most false on = omega arith

kept_or_not_asked : (was on : Bool) → one_in ((was || false) && on) ≤ one_in was
kept_or_not_asked true true = omega arith
kept_or_not_asked true false = omega arith
kept_or_not_asked false on = omega arith

-- a state uses no more than another
record StateUsesLess (s t : State) : Type 0 where
  active : one_in (is_active t) ≤ one_in (is_active s)
  opened : one_in (is_opened t) ≤ one_in (is_opened s)

close_less : (s : State) → StateUsesLess s (after action.Close s)
close_less Empty = record { active = omega arith; opened = omega arith }
close_less _ = record { active = omega arith; opened = omega arith }

finish_less : (s : State) → StateUsesLess s (after action.Finish s)
finish_less Empty = record { active = omega arith; opened = omega arith }
finish_less _ = record { active = omega arith; opened = omega arith }

offline_less : (s : State) → StateUsesLess s (after action.Offline s)
offline_less Empty = record { active = omega arith; opened = omega arith }
offline_less _ = record { active = omega arith; opened = omega arith }

-- a Closed zone that is opened
record OpensOne (s t : State) : Type 0 where
  active : one_in (is_active t) ≤ one_in (is_active s)
  opened : one_in (is_opened t) + one_in (is_closed t) ≤ one_in (is_opened s) + one_in (is_closed s)

open_less : (s : State) → is_closed s ≡ true → OpensOne s (after action.Open s)
open_less Closed e = record { active = omega arith; opened = omega arith }
open_less _ e = absurd (cc e)

after_less : (g : GeometryFields) (d : Deed) (c : Cell) → IsTrue (goes_to_all d) → takes_all d c.state ≡ true → UsesLess d c (after_deed g d [] c)
after_less g deed.Close c sent takes = let less = close_less c.state in record { active = less.active; opened = omega (arith, less.opened); windows = kept_at_most c.window _ }
after_less g deed.Finish c sent takes = let less = finish_less c.state in record { active = less.active; opened = omega (arith, less.opened); windows = kept_at_most c.window _ }
after_less g (deed.Open true) c sent takes = absurd (cc sent)
after_less g (deed.Open false) c sent takes = let less = open_less c.state takes in record { active = less.active; opened = less.opened; windows = kept_or_not_asked c.window _ }
after_less g deed.Reset c sent takes = record { active = omega arith; opened = omega arith; windows = omega arith }
after_less g deed.Offline c sent takes = let less = offline_less c.state in record { active = less.active; opened = omega (arith, less.opened); windows = kept_at_most c.window _ }
after_less g _ c sent takes = absurd (cc sent)

less_where : (g : GeometryFields) (d : Deed) (c : Cell) (b : Bool) → IsTrue (goes_to_all d) → takes_all d c.state ≡ b → UsesLess d c (if b then after_deed g d [] c else c)
less_where g d c true sent takes = after_less g d c sent takes
less_where g d c false sent takes = record { active = omega arith; opened = omega arith; windows = omega arith }

pub uses_less : (g : GeometryFields) (d : Deed) (c : Cell) → IsTrue (goes_to_all d) → UsesLess d c (swept_cell g d c)
uses_less g d c sent = less_where g d c (takes_all d c.state) sent refl

-- a deed to all zones comes with no host data
pub no_blocks : (g : GeometryFields) (d : Deed) (payload : List ℕ) → IsTrue (goes_to_all d) → IsBlocksFor g d payload
no_blocks g deed.Close payload sent = tt
no_blocks g deed.Finish payload sent = tt
no_blocks g (deed.Open window) payload sent = tt
no_blocks g deed.Reset payload sent = tt
no_blocks g deed.Offline payload sent = tt
no_blocks g _ payload sent = absurd (cc sent)
