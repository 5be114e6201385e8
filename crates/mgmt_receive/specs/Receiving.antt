-- The report of a Zone Management Receive on the cells of all zones: Zoned Namespace Command Set Specification 1.1, 3.4.2.
use Rattle.std.specs.Prelude.{◌≡◌, ℕ, ◌-◌, ◌*◌, ◌/◌, ◌<◌, ◌≤◌, Bool, true, ◌==◌, Option, Some, None, List, ◌++◌, filter, take, drop, length, map, replicate}
use Rattle.std.specs.List.{count_by}
use Rattle.zns_types.specs.declared.fields.GeometryFields.{GeometryFields}
use Rattle.zns_types.specs.declared.state.State.{State}
use Rattle.zns_types.specs.States.{number_of}
use Rattle.zns_types.specs.Geometry.{zone_of}
use Rattle.zone_descriptor.specs.declared.descriptor.Descriptor.{Descriptor}
use Rattle.zone_cell.specs.Cells.{Cell, descriptor_of}
use Rattle.drive_rules.specs.Reports.{passes, bytes_of_all, report}
use Rattle.mgmt_receive.specs.declared.descriptors.Gave.{Gave}

-- the report of a given length in bytes, starting at the zone that holds a block
abbrev pub report_of : GeometryFields → List Cell → ℕ → ℕ → ℕ → Bool → List ℕ
report_of g cells slba bytes kind partial = report bytes kind partial (drop (zone_of g slba) (map (descriptor_of g) cells))

-- the state is the one that is wanted, or all are wanted
abbrev pub is_wanted : Option State → State → Bool
is_wanted None s = true
is_wanted (Some wanted) s = number_of s == number_of wanted

-- a filter matches the states that are wanted, and no others
abbrev pub Wants : ℕ → Option State → Type 0
Wants kind wanted = (s : State) → passes kind s ≡ is_wanted wanted s

-- the number of these zones that are wanted
abbrev pub count_wanted : Option State → List Cell → ℕ
count_wanted wanted cells = count_by (λ c. is_wanted wanted c.state) cells

-- the descriptors of the zones that are wanted
abbrev pub matching : GeometryFields → Option State → List Cell → List Descriptor
matching g wanted cells = filter (λ d. is_wanted wanted d.state) (map (descriptor_of g) cells)

-- The first `len` bytes hold the descriptors of all of these zones that are wanted, followed by zeros.
pub record Given (g : GeometryFields) (wanted : Option State) (cells : List Cell) (len number : ℕ) (out : List ℕ) : Type 0 where
  pub count : number ≡ length (matching g wanted cells)
  pub room : number ≤ len / 64
  pub bytes : out ≡ bytes_of_all (matching g wanted cells) ++ replicate (len - 64 * number) 0

-- Descriptors are given as long as there is room. None of the wanted cells seen is left out, and cells stay unseen only if no other
-- descriptor fits.
pub record Begun (g : GeometryFields) (wanted : Option State) (cells : List Cell) (len : ℕ) (gave : Gave) (out : List ℕ) : Type 0 where
  pub within : gave.seen ≤ length cells
  pub seen_cells : Given g wanted (take gave.seen cells) len gave.given out
  pub full : gave.seen < length cells → gave.given ≡ len / 64
