-- What a zone descriptor shows of a zone: Zoned Namespace Command Set Specification 1.1, 3.4.2.2.1.
use Rattle.std.specs.Prelude.{ℕ, ◌+◌, ◌*◌, ◌-◌, ◌^◌, Bool, not, ◌&&◌, if◌then◌else◌}
use Rattle.zns_types.specs.declared.state.State.{State}
use Rattle.zns_types.specs.States.{is_full, is_writable}

abbrev pub one : Bool → ℕ
one b = if b then 1 else 0

-- all ones, for a pointer that means nothing
abbrev pub no_pointer : ℕ
no_pointer = 2 ^ 64 - 1

abbrev pub has_pointer : State → Bool
has_pointer s = not (is_full s) && is_writable s

-- the block at a pointer, which is an offset from a first block
abbrev pub shown_pointer : State → ℕ → ℕ → ℕ
shown_pointer s first pointer = if has_pointer s then first + pointer else no_pointer

-- Zone Finished by Controller, Finish Zone Recommended, Reset Zone Recommended, and that the zone has a random write
-- area
abbrev pub attribute_bits : Bool → Bool → Bool → Bool → ℕ
attribute_bits finished finish_recommended reset_recommended window = one finished + 2 * one finish_recommended + 4 * one reset_recommended + 8 * one window
