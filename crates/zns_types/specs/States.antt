-- The states of a zone: Zoned Namespace Command Set Specification 1.1, 2.1.1.2 and 3.4.2.2.1 (zone descriptor).
use Rattle.std.specs.Prelude.{ℕ, Bool, true, false, not, ◌&&◌}
use Rattle.zns_types.specs.declared.state.State.{State}
use Rattle.zns_types.specs.declared.state.State.TheVariants.{Empty, ImplicitlyOpened, ExplicitlyOpened, Closed, ReadOnly, Full, Offline}

-- one value for each state: Empty, Implicitly Opened, Explicitly Opened, Closed, Full, Read Only, Offline
abbrev pub by_state : {A : Type 0} → A → A → A → A → A → A → A → State → A
by_state e i x c f r o Empty = e
by_state e i x c f r o ImplicitlyOpened = i
by_state e i x c f r o ExplicitlyOpened = x
by_state e i x c f r o Closed = c
by_state e i x c f r o Full = f
by_state e i x c f r o ReadOnly = r
by_state e i x c f r o Offline = o

-- the number by which a descriptor shows a state
abbrev pub number_of : State → ℕ
number_of = by_state 0x1 0x2 0x3 0x4 0xe 0xd 0xf

abbrev pub is_empty : State → Bool
is_empty = by_state true false false false false false false

abbrev pub is_implicitly_opened : State → Bool
is_implicitly_opened = by_state false true false false false false false

abbrev pub is_explicitly_opened : State → Bool
is_explicitly_opened = by_state false false true false false false false

-- implicitly or explicitly
abbrev pub is_opened : State → Bool
is_opened = by_state false true true false false false false

abbrev pub is_closed : State → Bool
is_closed = by_state false false false true false false false

-- opened or Closed
abbrev pub is_active : State → Bool
is_active = by_state false true true true false false false

abbrev pub is_full : State → Bool
is_full = by_state false false false false true false false

abbrev pub is_read_only : State → Bool
is_read_only = by_state false false false false false true false

abbrev pub is_offline : State → Bool
is_offline = by_state false false false false false false true

-- neither Read Only nor Offline
abbrev pub is_writable : State → Bool
is_writable s = not (is_read_only s) && not (is_offline s)
