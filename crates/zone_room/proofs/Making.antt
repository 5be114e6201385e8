-- After one zone, or none, gave way, the resources that are needed are left, and the target's use is still counted.
use Rattle.std.proofs.Common.{◌≡◌, ℕ, ◌-◌, ◌<◌, ◌≤◌, ◌⊎◌, Bool, IsTrue, true, false, None, refl, ap, arith, inl, inr}
use Rattle.std.specs.Prelude.{◌&&◌, ◌==◌, not, nat_le}
use Rattle.std.proofs.lemmas.Bool.{and_cases, not-false, eqb-true, leb-false}
use Rattle.zns_types.specs.declared.fields.GeometryFields.{GeometryFields}
use Rattle.zns_types.specs.declared.state.State.{State}
use Rattle.zns_types.specs.declared.state.State.TheVariants.{ImplicitlyOpened}
use Rattle.zns_types.specs.States.{is_active, is_opened, is_implicitly_opened}
use Rattle.zns_types.specs.Rows.{first_holding}
use Rattle.zns_types.proofs.RowLemmas.{none_holds}
use Rattle.zone_limits.specs.declared.limits.Limits.{Limits}
use Rattle.zone_limits.specs.declared.limits.Need.{Need}
use Rattle.zone_limits.specs.Resources.{at_limit, windows_used_up, need_rows, more, fewer, recounted, HasRoom, AreWithin}
use Rattle.drive_rules.specs.Deeds.{closed_use}
use Rattle.zone_cell.specs.Cells.{Cell}
use Rattle.zone_room.specs.Using.{AreCounted, HasNeeded}
use Rattle.zone_room.specs.Rooms.{cell_use}

-- below a limit that isn't reached
room_left : (limit n : ℕ) → at_limit limit n ≡ false → HasRoom limit n
room_left limit n left some = by_case (and_cases (not (limit == 0)) (nat_le limit n) left)
  where
    by_case : (not (limit == 0) ≡ false) ⊎ (nat_le limit n ≡ false) → n < limit
    by_case (inl none) = let zero_limit = eqb-true limit 0 (not-false _ none) in absurd (omega arith)
    by_case (inr low) = leb-false limit n low

on_left : (a b : Bool) → (a && b) ≡ false → IsTrue a → b ≡ false
on_left true b e on = e
on_left false b e on = absurd (cc on)

-- what it means that the rows find no resource missing
record NoWant (g : GeometryFields) (n : Limits) (need : Need) (evictable : Bool) : Type 0 where
  active : (need.active && at_limit g.active_limit n.active) ≡ false
  opened : (need.opened && at_limit g.open_limit n.opened && not evictable) ≡ false
  window : (need.window && windows_used_up g n.windows) ≡ false

no_want : (g : GeometryFields) (n : Limits) (need : Need) (evictable : Bool) → first_holding (need_rows g n need evictable) ≡ None → NoWant g n need evictable
no_want g n need evictable none = let fails = none_holds (need_rows g n need evictable) none in record { active = fails.0; opened = fails.1.0; window = fails.1.1.0 }

unreached : (a b : Bool) → (a && b && not false) ≡ false → IsTrue a → b ≡ false
unreached true false e on = refl
unreached true true e on = absurd (cc e)
unreached false b e on = absurd (cc on)

-- the case where no zone is closed
pub needed_left : (g : GeometryFields) (n : Limits) (need : Need) → first_holding (need_rows g n need false) ≡ None → HasNeeded g n need
needed_left g n need none =
    let wants = no_want g n need false none in
    record {
      active = λ on. room_left g.active_limit n.active (on_left need.active _ wants.active on);
      opened = λ on. room_left g.open_limit n.opened (unreached need.opened _ wants.opened on);
      windows = λ on. leb-false g.windows n.windows (on_left need.window _ wants.window on);
    }

-- ---- where an Implicitly Opened zone is closed

implicit : (s : State) → is_implicitly_opened s ≡ true → s ≡ ImplicitlyOpened
implicit ImplicitlyOpened e = refl
implicit _ e = absurd (cc e)

-- one opened zone fewer, and everything else the same
pub record OneFewer (g : GeometryFields) (n m : Limits) : Type 0 where
  active : m.active ≡ n.active
  opened : m.opened ≡ n.opened - 1
  windows : m.windows ≡ n.windows
  some : 1 ≤ n.opened
  within : AreWithin g n

again : (on : Bool) (n : ℕ) → (IsTrue on → 1 ≤ n) → more on (fewer on n) ≡ n
again true n some = let have = some refl in omega arith
again false n some = refl

pub one_fewer : (g : GeometryFields) (c : Cell) (n : Limits) → is_implicitly_opened c.state ≡ true → AreCounted g n (cell_use c) → OneFewer g n (recounted (cell_use c) (closed_use (cell_use c)) n)
one_fewer g c n e counted =
    let used : is_opened c.state ≡ true = ap is_opened (implicit c.state e) in
    record {
      active = again (is_active c.state) n.active counted.active.used;
      opened = rw used refl;
      windows = again c.window n.windows counted.windows.used;
      some = counted.opened.used used;
      within = counted.within;
    }

fewer_within : (g : GeometryFields) (n m : Limits) → OneFewer g n m → AreWithin g m
fewer_within g n m l = record {
  active = rw l.active l.within.active;
  opened = λ limit. let was = l.within.opened limit in omega (arith, l.opened);
  windows = rw l.windows l.within.windows;
  active_zones = rw l.active l.within.active_zones;
  opened_zones = let was = l.within.opened_zones in omega (arith, l.opened);
  window_zones = rw l.windows l.within.window_zones;
}

-- a zone that isn't opened is still counted
pub fewer_counted : (g : GeometryFields) (n m : Limits) (u : Need) → OneFewer g n m → u.opened ≡ false → AreCounted g n u → AreCounted g m u
fewer_counted g n m u l off c = record {
  within = fewer_within g n m l;
  active = rw l.active c.active;
  opened = record { used = λ on. absurd (cc (on, off)); unused = λ none. let was = c.opened.unused none in omega (arith, l.opened) };
  windows = rw l.windows c.windows;
}

pub fewer_needed : (g : GeometryFields) (n m : Limits) (need : Need) → OneFewer g n m → first_holding (need_rows g n need true) ≡ None → HasNeeded g m need
fewer_needed g n m need l none =
    let wants = no_want g n need true none in
    record {
      active = λ on. rw l.active (room_left g.active_limit n.active (on_left need.active _ wants.active on));
      opened = λ on limit. let was = l.within.opened limit in let some = l.some in omega (arith, l.opened);
      windows = λ on. rw l.windows (leb-false g.windows n.windows (on_left need.window _ wants.window on));
    }
