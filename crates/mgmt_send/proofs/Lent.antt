-- All zones are lent for every Send.
use Rattle.std.proofs.Common.{◌≡◌, ℕ, ◌<◌, ◌≤◌, Bool, true, false, IsTrue, List, Option, Some, None, arith}
use Rattle.std.proofs.lemmas.Bool.{leb-false}
use Rattle.std.proofs.lemmas.Nat.{div_below}
use Rattle.zns_types.specs.declared.fields.GeometryFields.{GeometryFields}
use Rattle.zns_types.specs.Geometry.{zone_of, offset_of, all_blocks}
use Rattle.zns_types.specs.Rows.{first_holding}
use Rattle.zns_types.proofs.RowLemmas.{none_holds}
use Rattle.sqe_codec.specs.declared.cmd.Cmd.{Cmd}
use Rattle.sqe_codec.specs.declared.cmd.Cmd.TheVariants as cmd
use Rattle.zone_limits.specs.declared.limits.Limits.{Limits}
use Rattle.drive_rules.specs.declared.deed.Deed.{Deed}
use Rattle.drive_rules.specs.declared.aim.Aim.{Aim}
use Rattle.drive_rules.specs.Aims.{aim_of, aimed_at, sent_deed}
use Rattle.drive_rules.specs.Tables.{front_rows, send_front}
use Rattle.zone_cell.specs.Cells.{Cell}
use Rattle.mgmt_send.specs.Sweeping.{AreAllZones}
use Rattle.mgmt_send.specs.Acting.{is_send, first_zone, AreRising, AreLentFor}
use Rattle.mgmt_send.proofs.Underway.{counted}

aimed-zone : (z : ℕ) (o : Option Deed) (a : Aim) → aimed_at z o ≡ Some a → a.zone ≡ z
aimed-zone z None a e = absurd (cc e)
aimed-zone z (Some d) a e = cc

-- the block of a Send that no row of the front refuses is in the namespace
send-below : (g : GeometryFields) (nsid slba act : ℕ) (option : Bool) → 1 ≤ g.zone_size → first_holding (send_front g nsid slba act false option) ≡ None → zone_of g slba < g.zones
send-below g nsid slba act option size none =
    let (_, (_, (_, (beyond, _)))) = none_holds (send_front g nsid slba act false option) none in
    div_below slba g.zone_size g.zones size (leb-false (all_blocks g) slba beyond)

aim-below : (g : GeometryFields) (k : Cmd) (a : Aim) → IsTrue (is_send k) → 1 ≤ g.zone_size → first_holding (front_rows g k) ≡ None → aim_of g k ≡ Some a → a.zone < g.zones
aim-below g (cmd.Send nsid slba act true option) a is size none e = absurd (cc e)
aim-below g (cmd.Send nsid slba act false option) a is size none e =
    let at : a.zone ≡ zone_of g slba = aimed-zone (zone_of g slba) (sent_deed act option (offset_of g slba)) a e in
    rw at (send-below g nsid slba act option size none)
aim-below g _ a is size none e = absurd (cc is)

pub all_lent : (g : GeometryFields) (cells : List Cell) (n : Limits) (k : Cmd) → IsTrue (is_send k) → 1 ≤ g.zone_size → AreAllZones g cells n → AreRising cells → first_zone cells ≡ 0 → AreLentFor g cells n k
all_lent g cells n k is size zones rising at = record {
  rising = rising;
  of = zones.of;
  counted = λ i d lt. counted g cells n i d zones lt;
  target = λ none a e. let below = aim-below g k a is size none e in record { low = omega arith; high = omega (arith, zones.zones) };
  room = λ a e wants. zones.zones;
  all = λ none d e. zones;
}
