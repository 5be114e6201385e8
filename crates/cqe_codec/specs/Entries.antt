-- The sixteen bytes of a completion queue entry: NVM Express Base Specification 2.0, 3.3.3.2.
use Rattle.std.specs.Prelude.{◌≡◌, ◌<◌, ℕ, ◌+◌, ◌*◌, ◌^◌, Bool, false, not, ◌||◌, ◌==◌, if◌then◌else◌, List, ◌++◌}
use Rattle.byteorder.specs.Endian.{little_bytes}
use Rattle.zns_types.specs.Fields.{bits, bit, dword}
use Rattle.cqe_codec.specs.declared.cqe.Cqe.{Cqe}

abbrev pub one : Bool → ℕ
one b = if b then 1 else 0

-- the last dword: the command identifier, the phase, the status code and its type, and whether not to retry
abbrev pub status_dword : Cqe → ℕ
status_dword c = c.cid + 2 ^ 16 * one c.phase + 2 ^ 17 * c.code.sc + 2 ^ 25 * c.code.sct + 2 ^ 31 * one c.dnr

-- the bytes of an entry
abbrev pub entry_bytes : Cqe → List ℕ
entry_bytes c = little_bytes 4 c.dw0 ++ little_bytes 4 c.dw1 ++ little_bytes 2 c.head ++ little_bytes 2 c.sqid ++ little_bytes 4 (status_dword c)

-- the Command Retry Delay, which no entry here uses
abbrev pub retry_delay : ℕ → ℕ
retry_delay status = bits 29 28 status

-- whether the controller has more to say about the status, which it never has here
abbrev pub more : ℕ → Bool
more status = bit 30 status

-- a bit that no entry here uses is set
abbrev pub sets_unused : List ℕ → Bool
sets_unused entry = not (retry_delay (dword 3 entry) == 0) || more (dword 3 entry)

-- the last dword has these fields, each at its bits
pub record SpellsStatus (status : ℕ) (c : Cqe) : Type 0 where
  pub fits : status < 2 ^ 32
  pub cid : bits 15 0 status ≡ c.cid
  pub phase : bit 16 status ≡ c.phase
  pub sc : bits 24 17 status ≡ c.code.sc
  pub sct : bits 27 25 status ≡ c.code.sct
  pub retry_delay : retry_delay status ≡ 0
  pub more : more status ≡ false
  pub dnr : bit 31 status ≡ c.dnr

-- the entry has these fields, each at its bits
pub record Spells (entry : List ℕ) (c : Cqe) : Type 0 where
  pub dw0 : dword 0 entry ≡ c.dw0
  pub dw1 : dword 1 entry ≡ c.dw1
  pub head : bits 15 0 (dword 2 entry) ≡ c.head
  pub sqid : bits 31 16 (dword 2 entry) ≡ c.sqid
  pub status : SpellsStatus (dword 3 entry) c

-- each number fits its field
pub record FitsEntry (c : Cqe) : Type 0 where
  pub dw0 : c.dw0 < 2 ^ 32
  pub dw1 : c.dw1 < 2 ^ 32
  pub head : c.head < 2 ^ 16
  pub sqid : c.sqid < 2 ^ 16
  pub cid : c.cid < 2 ^ 16
  pub sc : c.code.sc < 2 ^ 8
  pub sct : c.code.sct < 2 ^ 3
