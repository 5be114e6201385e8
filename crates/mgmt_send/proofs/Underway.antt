-- A sweep from zone to zone.
use Rattle.std.proofs.Common.{◌≡◌, ℕ, ◌+◌, ◌<◌, ◌≤◌, Bool, true, false, None, List, [], ◌∷◌, ◌++◌, length, set, take, drop, map, get_or, sym, ◌∙◌, ap, subst, refl, arith, inl, inr, length-set}
use Rattle.std.specs.Prelude.{IsTrue, ◌==◌, ◌&&◌, not, nat_lt}
use Rattle.std.specs.List.{count_by}
use Rattle.std.proofs.lemmas.Bool.{cases_lt, ne_eqb, lt-ltb}
use Rattle.std.proofs.lemmas.List.Sums.{count_by-le-length}
use Rattle.std.proofs.lemmas.List.Edits.{map_over_more}
use Rattle.std.proofs.lemmas.List.Elements.{All-set}
use Rattle.zns_types.specs.declared.fields.GeometryFields.{GeometryFields}
use Rattle.zns_types.specs.Rows.{when, first_holding}
use Rattle.zns_types.specs.Statuses.{too_many_open_zones}
use Rattle.zns_types.proofs.RowLemmas.{none_holds}
use Rattle.zone_limits.specs.declared.limits.Limits.{Limits}
use Rattle.zone_limits.specs.Resources.{AreWithin, IsWithin, recounted}
use Rattle.drive_rules.specs.declared.deed.Deed.{Deed}
use Rattle.drive_rules.specs.declared.deed.Deed.TheVariants as deed
use Rattle.zone_cell.specs.Cells.{Cell, IsOf}
use Rattle.zone_room.specs.Using.{AreCounted, HasRoomFor}
use Rattle.zone_room.specs.Rooms.{cell_use}
use Rattle.mgmt_send.specs.Sweeping.{AreAllZones, HasRoomToOpen, counts_in, goes_to_all, opens_closed, closed_in, swept_cell, sweep_refusal}
use Rattle.mgmt_send.proofs.Counting.{count-used, count-unused, count-change, recounted-set, one_in, step}
use Rattle.mgmt_send.proofs.Less.{uses_less}

-- the zones before a given one are swept, and the others are unchanged
pub record IsUnderway (g : GeometryFields) (d : Deed) (old : List Cell) (i : ℕ) (cells : List Cell) (n : Limits) : Type 0 where
  pub zones : AreAllZones g cells n
  pub room : HasRoomToOpen g d cells n
  pub swept : cells ≡ map (swept_cell g d) (take i old) ++ drop i old

-- the use of a zone among them is counted
pub counted : (g : GeometryFields) (cells : List Cell) (n : Limits) (i : ℕ) (d : Cell) → AreAllZones g cells n → i < length cells → AreCounted g n (cell_use (get_or cells i d))
counted g cells n i d zones lt = rw zones.counts (record {
  within = rw zones.counts at zones.within;
  active = record { used = count-used (λ c. (cell_use c).active) cells i d lt; unused = λ off. rw (← zones.zones) (count-unused (λ c. (cell_use c).active) cells i d lt off) };
  opened = record { used = count-used (λ c. (cell_use c).opened) cells i d lt; unused = λ off. rw (← zones.zones) (count-unused (λ c. (cell_use c).opened) cells i d lt off) };
  windows = record { used = count-used (λ c. (cell_use c).window) cells i d lt; unused = λ off. rw (← zones.zones) (count-unused (λ c. (cell_use c).window) cells i d lt off) };
})

-- there is room for what it then uses
pub has_room : (g : GeometryFields) (d : Deed) (cells : List Cell) (n : Limits) (i : ℕ) (e : Cell) → i < length cells → IsTrue (goes_to_all d) → HasRoomToOpen g d cells n
    → HasRoomFor g n (cell_use (get_or cells i e)) (cell_use (swept_cell g d (get_or cells i e)))
has_room g d cells n i e lt sent room =
    let c = get_or cells i e in
    let less = uses_less g d c sent in
    record {
      active = λ on off. absurd (omega (arith, less.active, ap one_in on, ap one_in off));
      opened = λ on off some.
          let opening : 1 ≤ one_in (opens_closed d c) = omega (arith, less.opened, ap one_in on, ap one_in off) in
          omega (arith, room some, count-used (opens_closed d) cells i e lt (is_one _ opening));
      windows = λ on off. absurd (omega (arith, less.windows, ap one_in on, ap one_in off));
    }
  where
    is_one : (b : Bool) → 1 ≤ one_in b → b ≡ true
    is_one true le = cc
    is_one false le = absurd (omega arith)

-- after one more zone
swept_on : (g : GeometryFields) (d : Deed) (old : List Cell) (i : ℕ) (cells : List Cell) (n : Limits) (c : Cell) → i < length cells → length old ≡ length cells → IsTrue (goes_to_all d) → c ≡ get_or cells i c
    → IsOf g (swept_cell g d c) → IsUnderway g d old i cells n → IsUnderway g d old (i + 1) (set cells i (swept_cell g d c)) (recounted (cell_use c) (cell_use (swept_cell g d c)) n)
swept_on g d old i cells n c lt size sent at of was =
    let new = swept_cell g d c in
    let less = uses_less g d c sent in
    let zones = was.zones in
    let len : length (set cells i new) ≡ length cells = length-set cells i new in
    let counts : recounted (cell_use c) (cell_use new) n ≡ counts_in (set cells i new) = rw zones.counts (recounted-set cells i c new lt at) in
    let active = count-change (λ x. (cell_use x).active) cells i c new lt at in
    let opened = count-change (λ x. (cell_use x).opened) cells i c new lt at in
    let windows = count-change (λ x. (cell_use x).window) cells i c new lt at in
    let opening = count-change (opens_closed d) cells i c new lt at in
    let before : AreWithin g (counts_in cells) = rw zones.counts at zones.within in
    let left : HasRoomToOpen g d cells (counts_in cells) = rw zones.counts at was.room in
    let room : HasRoomToOpen g d (set cells i new) (counts_in (set cells i new)) = λ some. omega (arith, less.opened, opened, opening, left some) in
    record {
      zones = record {
        zones = len ∙ zones.zones;
        of = All-set (IsOf g) cells i new of zones.of;
        counts = counts;
        within = subst (AreWithin g) (sym counts) (record {
          active = λ some. omega (arith, less.active, active, before.active some);
          opened = λ some. omega (arith, room some);
          windows = omega (arith, less.windows, windows, before.windows);
          active_zones = omega (arith, less.active, active, before.active_zones);
          opened_zones = omega (arith, count_by-le-length (λ x. (cell_use x).opened) (set cells i new), len, zones.zones);
          window_zones = omega (arith, less.windows, windows, before.window_zones);
        });
      };
      room = subst (λ (k : Limits). HasRoomToOpen g d (set cells i new) k) (sym counts) room;
      swept = map_over_more (swept_cell g d) old cells i c (omega arith) was.swept at;
    }

pub more_swept : (g : GeometryFields) (d : Deed) (old : List Cell) (i : ℕ) (cells : List Cell) (n n' : Limits) (c new : Cell) → i < length cells → length old ≡ length cells → IsTrue (goes_to_all d) → c ≡ get_or cells i c
    → new ≡ swept_cell g d (get_or cells i c) → n' ≡ recounted (cell_use (get_or cells i c)) (cell_use (swept_cell g d (get_or cells i c))) n → IsOf g new → IsUnderway g d old i cells n → IsUnderway g d old (i + 1) (set cells i new) n'
more_swept g d old i cells n n' c new lt size sent at is counts of was =
    let is' : new ≡ swept_cell g d c = is ∙ ap (swept_cell g d) (sym at) in
    let counts' : n' ≡ recounted (cell_use c) (cell_use (swept_cell g d c)) n = counts ∙ ap (λ (x : Cell). recounted (cell_use x) (cell_use (swept_cell g d x)) n) (sym at) in
    let of' : IsOf g (swept_cell g d c) = subst (IsOf g) is' of in
    rw (is', counts') (swept_on g d old i cells n c lt size sent at of' was)

-- ---- before the first zone

none_opens : (p : Cell → Bool) (cells : List Cell) → ((c : Cell) → p c ≡ false) → count_by p cells ≡ 0
none_opens p [] none = refl
none_opens p (c ∷ cells) none = omega (arith, step p c cells, ap one_in (none c), none_opens p cells none)

-- it isn't an Open of too many zones
open_fits : (limit opened closed : ℕ) → first_holding (when (not (limit == 0) && nat_lt limit (opened + closed)) too_many_open_zones ∷ []) ≡ None → IsWithin limit (opened + closed)
open_fits limit opened closed none some =
    let fails : (not (limit == 0) && nat_lt limit (opened + closed)) ≡ false = (none_holds (when (not (limit == 0) && nat_lt limit (opened + closed)) too_many_open_zones ∷ []) none).0 in
    elim (cases_lt limit (opened + closed)) [
      | inl over ↦ let zero : (limit == 0) ≡ false = ne_eqb limit 0 (λ e. omega arith) in absurd (cc (rw (zero, lt-ltb limit (opened + closed) over) at fails))
      | inr within ↦ omega arith
    ]

-- a deed that opens no zone
opens_none : (g : GeometryFields) (d : Deed) (cells : List Cell) (n : Limits) → ((c : Cell) → opens_closed d c ≡ false) → AreWithin g n → HasRoomToOpen g d cells n
opens_none g d cells n none within = λ some. omega (arith, within.opened some, none_opens (opens_closed d) cells none)

pub room_to_open : (g : GeometryFields) (d : Deed) (cells : List Cell) (n : Limits) → sweep_refusal g cells n d ≡ None → AreWithin g n → HasRoomToOpen g d cells n
room_to_open g (deed.Open window) cells n none within = open_fits g.open_limit n.opened (closed_in cells) none
room_to_open g (deed.Write from blocks) cells n none within = opens_none g (deed.Write from blocks) cells n (λ c. refl) within
room_to_open g (deed.Append blocks) cells n none within = opens_none g (deed.Append blocks) cells n (λ c. refl) within
room_to_open g d cells n none within = opens_none g d cells n (λ c. refl) within
