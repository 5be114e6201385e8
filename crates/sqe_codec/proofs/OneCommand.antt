-- An entry spells one command on a kind of queue.
use Rattle.std.proofs.Common.{◌≡◌, ℕ, Bool, true, false, List, refl, sym, ◌∙◌, arith}
use Rattle.std.proofs.lemmas.Bool.Decides.{nat_tests}
use Rattle.zns_types.specs.Fields.{bit, dword, long}
use Rattle.sqe_codec.specs.declared.cmd.Cmd.{Cmd}
use Rattle.sqe_codec.specs.declared.cmd.Cmd.TheVariants as cmd
use Rattle.sqe_codec.specs.Commands.{command, io_command, admin_command}
use Rattle.sqe_codec.specs.Reading.{Reads, HasLba, HasFlag}
use Rattle.sqe_codec.proofs.Halves.{halves}

-- a flag is its bit
flag_bit : (k place : ℕ) (e : List ℕ) (flag : Bool) → HasFlag k place e flag → bit place (dword k e) ≡ flag
flag_bit k place e flag h = grind (arith, nat_tests, h.0, h.1)

-- the halves of an LBA
lba_long : (e : List ℕ) (lba : ℕ) → HasLba e lba → long 10 e ≡ lba
lba_long e lba h = sym (halves 10 e) ∙ h

pub only_command : (c : Cmd) (admin : Bool) (e : List ℕ) → Reads e admin c → command admin e ≡ c
unfolding io_command admin_command
only_command (cmd.Flush nsid) admin e h = rw (h.0, h.1, h.2) refl
only_command (cmd.Write nsid slba blocks) admin e h = rw (h.0, h.1, h.2, lba_long e slba h.3, h.4) refl
only_command (cmd.Read nsid slba blocks) admin e h = rw (h.0, h.1, h.2, lba_long e slba h.3, h.4) refl
only_command (cmd.Append nsid zslba blocks) admin e h = rw (h.0, h.1, h.2, lba_long e zslba h.3, h.4) refl
only_command (cmd.Send nsid slba act all option) admin e h = rw (h.0, h.1, h.2, lba_long e slba h.3, h.4, flag_bit 13 8 e all h.5, flag_bit 13 9 e option h.6) refl
only_command (cmd.Receive nsid slba bytes act filter partial) admin e h = rw (h.0, h.1, h.2, lba_long e slba h.3, h.4, h.5, h.6, flag_bit 13 16 e partial h.7) refl
only_command (cmd.GetLog nsid page bytes offset retain) admin e h = rw (h.0, h.1, h.2, h.3, flag_bit 10 15 e retain h.4, h.5, sym (halves 12 e) ∙ h.6) refl
only_command (cmd.Identify nsid cns csi) admin e h = rw (h.0, h.1, h.2, h.3, h.4) refl
only_command (cmd.SetFeature feature value) admin e h = rw (h.0, h.1, h.2, h.3) refl
only_command (cmd.GetFeature feature) admin e h = rw (h.0, h.1, h.2) refl
only_command cmd.Event admin e h = rw (h.0, h.1) refl
only_command (cmd.Excursion nsid slba kind) admin e h = rw (h.0, h.1, h.2, lba_long e slba h.3, h.4) refl
only_command (cmd.Unknown opcode) true e h = rw h.0 (grind (arith, nat_tests, h.1))
only_command (cmd.Unknown opcode) false e h = rw h.0 (grind (arith, nat_tests, h.1))
