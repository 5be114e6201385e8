-- What the commands of a host ask for.
use Rattle.std.proofs.Common.{◌≡◌, ℕ, ◌+◌, ◌<◌, ◌≤◌, Bool, true, false, Option, Some, None, refl, ap, arith, inl, inr}
use Rattle.std.specs.Prelude.{◌==◌, ◌&&◌, ◌||◌, not, nat_le}
use Rattle.std.proofs.lemmas.Bool.{cases_Bool, and_parts, not-true, eqb-true, ltb-false, leb-false, lt-ltb, le-leb}
use Rattle.zns_types.specs.declared.fields.GeometryFields.{GeometryFields}
use Rattle.zns_types.specs.Geometry.{all_blocks, zone_of, offset_of}
use Rattle.zns_types.specs.Rows.{first_holding}
use Rattle.zns_types.proofs.RowLemmas.{none_holds}
use Rattle.sqe_codec.specs.declared.cmd.Cmd.{Cmd}
use Rattle.sqe_codec.specs.declared.cmd.Cmd.TheVariants as cmd
use Rattle.sqe_codec.specs.Writing.{is_admin}
use Rattle.drive_rules.specs.declared.deed.Deed.{Deed}
use Rattle.drive_rules.specs.Aims.{aim_of, aimed_at, sent_deed, sweep_of}
use Rattle.drive_rules.specs.Tables.{front_rows}
use Rattle.zone_model.specs.Places.{is_event_request}
use Rattle.zone_model.proofs.Sends.{MovesSome}
use Rattle.host_library.specs.Asking.{is_asked, zone_at, zone_about, deed_sent, deed_of}
use Rattle.host_library.proofs.DeedShadows.{is_followed}

-- the zone of the block that a command names
abbrev pub named : GeometryFields → Cmd → ℕ
named g (cmd.Write nsid slba blocks) = zone_of g slba
named g (cmd.Append nsid zslba blocks) = zone_of g zslba
named g (cmd.Send nsid slba act all option) = zone_of g slba
named g (cmd.Receive nsid slba bytes act filter partial) = zone_of g slba
named g _ = 0

-- ---- what a Zone Management Send of a host asks for

-- one of three codes
abbrev is_code : ℕ → Bool
is_code act = (act == 0x03) || (act == 0x04) || (act == 0x11)

same_deed : (act : ℕ) (option : Bool) (last : ℕ) → is_code act ≡ true → sent_deed act option last ≡ deed_sent act option last
same_deed act option last code = elim (cases_Bool (act == 0x03)) [
  | inl is ↦ rw (eqb-true act 0x03 is) refl
  | inr other ↦ elim (cases_Bool (act == 0x04)) [
    | inl is ↦ rw (eqb-true act 0x04 is) refl
    | inr none ↦ let is : (act == 0x11) ≡ true = rw (other, none) at code in rw (eqb-true act 0x11 is) refl
  ]
]

abbrev pub is_followed_by : Option Deed → Bool
is_followed_by None = true
is_followed_by (Some d) = is_followed d

followed_sent : (act : ℕ) (option : Bool) (last : ℕ) → is_followed_by (deed_sent act option last) ≡ true
followed_sent act option last = elim (cases_Bool (act == 0x03)) [
  | inl is ↦ rw is refl
  | inr other ↦ elim (cases_Bool (act == 0x04)) [
    | inl is ↦ rw (other, is) refl
    | inr none ↦ elim (cases_Bool (act == 0x11)) [
      | inl is ↦ rw (other, none, is) refl
      | inr last_no ↦ rw (other, none, last_no) refl
    ]
  ]
]

-- a shadow follows what a command of a host does to its zone
pub asked-followed : (g : GeometryFields) (k : Cmd) → is_followed_by (deed_of g k) ≡ true
asked-followed g (cmd.Write nsid slba blocks) = refl
asked-followed g (cmd.Append nsid zslba blocks) = refl
asked-followed g (cmd.Send nsid slba act all option) = followed_sent act option (offset_of g slba)
asked-followed g _ = refl

record SendParts (act : ℕ) (all : Bool) : Type 0 where
  one : all ≡ false
  code : is_code act ≡ true

send_parts : (act : ℕ) (all : Bool) → (not all && is_code act) ≡ true → SendParts act all
send_parts act all e = let parts = and_parts (not all) (is_code act) e in record { one = not-true all parts.0; code = parts.1 }

-- The aim of a command of a host is its deed to the zone that it names.
pub asked-aim : (g : GeometryFields) (k : Cmd) → is_asked g k ≡ true → aim_of g k ≡ aimed_at (named g k) (deed_of g k)
asked-aim g (cmd.Write nsid slba blocks) e = refl
asked-aim g (cmd.Append nsid zslba blocks) e = refl
asked-aim g (cmd.Send nsid slba act all option) e =
    let parts = send_parts act all e in
    rw (parts.one) (ap (aimed_at (zone_of g slba)) (same_deed act option (offset_of g slba) parts.code))
asked-aim g (cmd.Receive nsid slba bytes act filter partial) e = refl
asked-aim g _ e = absurd (cc e)

-- no command of a host goes to all zones
pub asked-sweep : (g : GeometryFields) (k : Cmd) → is_asked g k ≡ true → sweep_of k ≡ None
asked-sweep g (cmd.Send nsid slba act all option) e = rw ((send_parts act all e).one) refl
asked-sweep g _ e = refl

pub asked-admin : (g : GeometryFields) (k : Cmd) → is_asked g k ≡ true → is_admin k ≡ false
asked-admin g (cmd.Write nsid slba blocks) e = refl
asked-admin g (cmd.Append nsid zslba blocks) e = refl
asked-admin g (cmd.Send nsid slba act all option) e = refl
asked-admin g (cmd.Receive nsid slba bytes act filter partial) e = refl
asked-admin g _ e = absurd (cc e)

pub asked-event : (g : GeometryFields) (k : Cmd) → is_asked g k ≡ true → is_event_request k ≡ false
asked-event g (cmd.Write nsid slba blocks) e = refl
asked-event g (cmd.Append nsid zslba blocks) e = refl
asked-event g (cmd.Send nsid slba act all option) e = refl
asked-event g (cmd.Receive nsid slba bytes act filter partial) e = refl
asked-event g _ e = absurd (cc e)

-- ---- the zone that a command is about

zone_at-some : (g : GeometryFields) (lba : ℕ) → lba < all_blocks g → zone_at g lba ≡ Some (zone_of g lba)
zone_at-some g lba lt = rw (lt-ltb lba (all_blocks g) lt) refl

-- A command that no row refuses is about the zone that it names.
pub front-about : (g : GeometryFields) (k : Cmd) → is_asked g k ≡ true → MovesSome k → first_holding (front_rows g k) ≡ None → zone_about g k ≡ Some (named g k)
front-about g (cmd.Write nsid slba blocks) e some passes =
    let (_, (_, (beyond, _))) = none_holds (front_rows g (cmd.Write nsid slba blocks)) passes in
    let ends : slba + blocks ≤ all_blocks g = ltb-false (all_blocks g) (slba + blocks) beyond in
    rw (le-leb (slba + blocks) (all_blocks g) ends) (zone_at-some g slba (omega arith))
front-about g (cmd.Append nsid zslba blocks) e some passes =
    let (_, (_, (no_block, _))) = none_holds (front_rows g (cmd.Append nsid zslba blocks)) passes in
    zone_at-some g zslba (leb-false (all_blocks g) zslba no_block)
front-about g (cmd.Send nsid slba act all option) e some passes =
    let (_, (_, (_, (no_block, _)))) = none_holds (front_rows g (cmd.Send nsid slba act all option)) passes in
    let within : nat_le (all_blocks g) slba ≡ false = rw ((send_parts act all e).one) at no_block in
    zone_at-some g slba (leb-false (all_blocks g) slba within)
front-about g (cmd.Receive nsid slba bytes act filter partial) e some passes =
    let (_, (_, (_, (_, (no_block, _))))) = none_holds (front_rows g (cmd.Receive nsid slba bytes act filter partial)) passes in
    zone_at-some g slba (leb-false (all_blocks g) slba no_block)
front-about g _ e some passes = absurd (cc e)
