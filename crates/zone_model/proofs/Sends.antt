-- The commands that entries spell, and the deeds that they ask for.
use Rattle.std.proofs.Common.{◌≡◌, ℕ, ◌+◌, ◌*◌, ◌≤◌, Bool, true, false, cond, List, Option, Some, None, refl, sym, ap, subst, arith}
use Rattle.std.specs.Prelude.{◌==◌}
use Rattle.zns_types.specs.declared.fields.GeometryFields.{GeometryFields}
use Rattle.zns_types.specs.Geometry.{zone_of, offset_of}
use Rattle.zns_types.specs.Fields.{bits, bit, dword, long}
use Rattle.sqe_codec.specs.declared.cmd.Cmd.{Cmd}
use Rattle.sqe_codec.specs.declared.cmd.Cmd.TheVariants as cmd
use Rattle.sqe_codec.specs.Commands.{io_command, admin_command, opcode_of, nsid_of, blocks_of, log_bytes_of}
use Rattle.drive_rules.specs.declared.deed.Deed.{Deed}
use Rattle.drive_rules.specs.declared.deed.Deed.TheVariants as deed
use Rattle.drive_rules.specs.declared.aim.Aim.{Aim}
use Rattle.drive_rules.specs.Deeds as deeds
use Rattle.drive_rules.specs.Aims.{open_code, commit_code, sent_deed, aimed_at, aim_of}
use Rattle.zone_history.specs.Admitted.{is_write}
use Rattle.zone_model.specs.declared.act.Act.{Act}
use Rattle.zone_model.specs.Places.{command_of}

-- ---- blocks

abbrev pub MovesSome : Cmd → Type 0
MovesSome (cmd.Write nsid slba blocks) = 1 ≤ blocks
MovesSome (cmd.Read nsid slba blocks) = 1 ≤ blocks
MovesSome (cmd.Append nsid zslba blocks) = 1 ≤ blocks
MovesSome _ = Unit {0}

-- a command that moves blocks moves at least one
pub record HasBlocks (c : Cmd) : Type 0 where
  pub some : MovesSome c

of_either : (b : Bool) (c d : Cmd) → HasBlocks c → HasBlocks d → HasBlocks (cond b c d)
of_either true c d first second = first
of_either false c d first second = second

io_blocks : (e : List ℕ) → HasBlocks (io_command e)
unfolding io_command
io_blocks e =
    of_either (opcode_of e == 0x00) (cmd.Flush (nsid_of e)) _ (record { some = tt })
    (of_either (opcode_of e == 0x01) (cmd.Write (nsid_of e) (long 10 e) (blocks_of e)) _ (record { some = omega arith })
    (of_either (opcode_of e == 0x02) (cmd.Read (nsid_of e) (long 10 e) (blocks_of e)) _ (record { some = omega arith })
    (of_either (opcode_of e == 0x79) (cmd.Send (nsid_of e) (long 10 e) (bits 7 0 (dword 13 e)) (bit 8 (dword 13 e)) (bit 9 (dword 13 e))) _ (record { some = tt })
    (of_either (opcode_of e == 0x7a) (cmd.Receive (nsid_of e) (long 10 e) (4 * (dword 12 e + 1)) (bits 7 0 (dword 13 e)) (bits 15 8 (dword 13 e)) (bit 16 (dword 13 e))) _ (record { some = tt })
    (of_either (opcode_of e == 0x7d) (cmd.Append (nsid_of e) (long 10 e) (blocks_of e)) (cmd.Unknown (opcode_of e)) (record { some = omega arith }) (record { some = tt }))))))

admin_blocks : (e : List ℕ) → HasBlocks (admin_command e)
unfolding admin_command
admin_blocks e =
    of_either (opcode_of e == 0x02) (cmd.GetLog (nsid_of e) (bits 7 0 (dword 10 e)) (log_bytes_of e) (long 12 e) (bit 15 (dword 10 e))) _ (record { some = tt })
    (of_either (opcode_of e == 0x06) (cmd.Identify (nsid_of e) (bits 7 0 (dword 10 e)) (bits 31 24 (dword 11 e))) _ (record { some = tt })
    (of_either (opcode_of e == 0x09) (cmd.SetFeature (bits 7 0 (dword 10 e)) (dword 11 e)) _ (record { some = tt })
    (of_either (opcode_of e == 0x0a) (cmd.GetFeature (bits 7 0 (dword 10 e))) _ (record { some = tt })
    (of_either (opcode_of e == 0x0c) cmd.Event _ (record { some = tt })
    (of_either (opcode_of e == 0xc0) (cmd.Excursion (nsid_of e) (long 10 e) (bits 7 0 (dword 13 e))) (cmd.Unknown (opcode_of e)) (record { some = tt }) (record { some = tt }))))))

pub some_blocks : (a : Act) → HasBlocks (command_of a)
some_blocks a = of_either (a.queue == 0) (admin_command a.sqe.bytes) (io_command a.sqe.bytes) (admin_blocks a.sqe.bytes) (io_blocks a.sqe.bytes)

-- ---- the deeds of a Send

-- what holds of each deed that a Send can ask for holds of the one that this Send asks for
pub record HoldsOfSent (P : Deed → Type 0) (code : ℕ) (option : Bool) (last : ℕ) : Type 0 where
  pub close : P deed.Close
  pub finish : P deed.Finish
  pub opens : (code == open_code) ≡ true → P (deed.Open option)
  pub reset : P deed.Reset
  pub offline : P deed.Offline
  pub commit : P (deed.Commit last)

pub sent-holds : (P : Deed → Type 0) (code : ℕ) (option : Bool) (last : ℕ) (d : Deed) → HoldsOfSent P code option last → sent_deed code option last ≡ Some d → P d
sent-holds P code option last d all =
    either (code == 0x01) deed.Close _ (λ is. all.close)
    (either (code == 0x02) deed.Finish _ (λ is. all.finish)
    (either (code == open_code) (deed.Open option) _ (λ is. all.opens is)
    (either (code == 0x04) deed.Reset _ (λ is. all.reset)
    (either (code == 0x05) deed.Offline _ (λ is. all.offline)
    (either (code == commit_code) (deed.Commit last) _ (λ is. all.commit) (λ e. absurd (cc e)))))))
  where
    either : (b : Bool) (x : Deed) (rest : Option Deed) → (b ≡ true → P x) → (rest ≡ Some d → P d) → cond b (Some x) rest ≡ Some d → P d
    either true x rest first others e = let same : x ≡ d = cc in subst P same (first refl)
    either false x rest first others e = others e

pub sent-no_write : (code : ℕ) (option : Bool) (last : ℕ) (d : Deed) → sent_deed code option last ≡ Some d → is_write d ≡ false
sent-no_write code option last d = sent-holds (λ x. is_write x ≡ false) code option last d (record { close = refl; finish = refl; opens = λ is. refl; reset = refl; offline = refl; commit = refl })

-- ---- aims

-- a Send's aim has the deed that was sent
pub aimed-deed : (zone : ℕ) (o : Option Deed) (aim : Aim) → aimed_at zone o ≡ Some aim → (aim.zone ≡ zone) × (o ≡ Some aim.deed)
aimed-deed zone None aim e = absurd (cc e)
aimed-deed zone (Some d) aim e = let same : record { zone = zone; deed = d } ≡ aim = cc in (ap (λ (x : Aim). x.zone) (sym same), ap (λ (x : Aim). Some x.deed) same)

-- a write that a command aims at a zone has at least one block
pub aim-blocks : (g : GeometryFields) (k : Cmd) (aim : Aim) → HasBlocks k → aim_of g k ≡ Some aim → is_write aim.deed ≡ true → 1 ≤ deeds.blocks_of aim.deed
aim-blocks g (cmd.Write nsid slba blocks) aim has e write = let same : deed.Write (offset_of g slba) blocks ≡ aim.deed = cc in subst (λ (d : Deed). 1 ≤ deeds.blocks_of d) same has.some
aim-blocks g (cmd.Append nsid zslba blocks) aim has e write = let same : deed.Append blocks ≡ aim.deed = cc in subst (λ (d : Deed). 1 ≤ deeds.blocks_of d) same has.some
aim-blocks g (cmd.Send nsid slba act true option) aim has e write = absurd (cc e)
aim-blocks g (cmd.Send nsid slba act false option) aim has e write =
    let is = aimed-deed (zone_of g slba) (sent_deed act option (offset_of g slba)) aim e in
    absurd (cc (write, sent-no_write act option (offset_of g slba) aim.deed is.1))
aim-blocks g (cmd.Excursion nsid slba kind) aim has e write = let same : deed.Excursion kind ≡ aim.deed = cc in absurd (cc (write, ap is_write same))
aim-blocks g _ aim has e write = absurd (cc e)
