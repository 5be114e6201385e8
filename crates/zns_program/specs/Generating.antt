-- The session of `count` commands that `number` determines. Numbers are drawn one after another by a linear congruence modulo 2^64, of
-- which the upper 31 bits are taken. Four are drawn for each command.
use Rattle.std.specs.Prelude.{ℕ, zero, suc, ◌+◌, ◌*◌, ◌/◌, ◌%◌, ◌^◌, ◌≤◌, true, false, nat_lt, ◌==◌, if◌then◌else◌, List, [], ◌∷◌, replicate}
use Rattle.zns_types.specs.declared.fields.GeometryFields.{GeometryFields}
use Rattle.zns_types.specs.Geometry.{first}
use Rattle.sqe_codec.specs.declared.cmd.Cmd.{Cmd}
use Rattle.sqe_codec.specs.declared.cmd.Cmd.TheVariants as cmd
use Rattle.sqe_codec.specs.Commands.{transfer_len, reply_len}
use Rattle.sqe_codec.specs.Writing.{entry_of}
use Rattle.drive_rules.specs.Aims.{open_code, commit_code}
use Rattle.zone_model.specs.declared.act.Act.{Act}
use Rattle.zone_model.specs.Places.{command_of}
use Rattle.zone_model.specs.Sessions.{Recorded, IsAct}

abbrev pub made_geometry : GeometryFields
made_geometry = record {
  block_exp = 9;
  mdts = 5;
  zasl = 3;
  flags = 1;
  zones = 64;
  zone_size = 4096;
  capacity = 4032;
  active_limit = 14;
  open_limit = 8;
  windows = 4;
  granule = 16;
  window = 64;
  queues = 4;
  depth = 64;
}

-- ---- numbers that are drawn

-- The state of the generator after one more draw.
unfoldable pub next : ℕ → ℕ
next x = (x * 6364136223846793005 + 1442695040888963407) % 2 ^ 64

abbrev pub nth_next : ℕ → ℕ → ℕ
nth_next zero x = x
nth_next (suc n) x = nth_next n (next x)

-- the n-th number that is drawn from a state, counted from 1
abbrev pub drawn : ℕ → ℕ → ℕ
drawn n x = nth_next n x / 2 ^ 33

-- ---- commands

abbrev pub finish_code : ℕ
finish_code = 0x02

abbrev pub reset_code : ℕ
reset_code = 0x04

-- A command to a zone, by its kind from 0 to 15, the zone, and a number that was drawn.
unfoldable pub made_command : ℕ → ℕ → ℕ → Cmd
made_command kind z number =
    if nat_lt kind 6 then cmd.Append 1 at 1
    else if nat_lt kind 8 then cmd.Read 1 (at + number % 4096) 1
    else if kind == 8 then cmd.Send 1 at open_code false true
    else if nat_lt kind 12 then cmd.Write 1 (at + number % 128) 1
    else if kind == 12 then cmd.Send 1 (at + 15 + 16 * (number % 4)) commit_code false false
    else if kind == 13 then cmd.Send 1 at reset_code false false
    else if kind == 14 then cmd.Send 1 at finish_code false false
    else cmd.Receive 1 at 512 0 0 false
  where
    at : ℕ
    at = first made_geometry z

-- an act, by its number, its queue, its command, and the byte that its host data repeats
abbrev pub act_of : GeometryFields → ℕ → ℕ → Cmd → ℕ → Act
act_of g number queue c byte = record {
  queue = queue;
  sqe = record { bytes = entry_of c (number % 2 ^ 16) };
  payload = replicate (transfer_len g c) byte;
}

-- The act with this number, drawn from a state of the generator.
unfoldable pub made_act : ℕ → ℕ → Act
made_act number x =
    act_of made_geometry number
    (1 + drawn 1 x % 3)
    (made_command (drawn 2 x % 16) (drawn 3 x % 16) (drawn 4 x))
    (drawn 4 x % 256)

-- `count` acts, the first of which has this number, drawn from a state of the generator
abbrev pub made_acts : ℕ → ℕ → ℕ → List Act
made_acts zero number x = []
made_acts (suc count) number x = made_act number x ∷ made_acts count (number + 1) (nth_next 4 x)

unfoldable pub made : ℕ → ℕ → Recorded
made number count = record { geometry = made_geometry; acts = made_acts count 0 number }

-- ---- what a file can hold of them

-- a command sends at most a block, and asks for at most one
pub record MovesOneBlock (c : Cmd) : Type 0 where
  pub sent : transfer_len made_geometry c ≤ 512
  pub asked : reply_len made_geometry c ≤ 512

-- an act of the drive whose command moves at most a block
pub record IsOneBlock (a : Act) : Type 0 where
  pub act : IsAct made_geometry a
  pub one_block : MovesOneBlock (command_of a)
