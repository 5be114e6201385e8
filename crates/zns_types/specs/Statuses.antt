-- The statuses of a command: NVM Express Base Specification 2.0, 3.3.3.2 (the status field), and Zoned Namespace
-- Command Set Specification 1.1, 4.1 (the codes of zones).
use Rattle.std.specs.Prelude.{ℕ, Bool, not, ◌==◌, ◌&&◌, if◌then◌else◌, false, List, [], ◌∷◌}

-- the status code type and the status code
pub record Status : Type 0 where
  pub sct : ℕ
  pub sc : ℕ

abbrev pub generic : ℕ → Status
generic sc = record { sct = 0; sc = sc }

abbrev pub specific : ℕ → Status
specific sc = record { sct = 1; sc = sc }

abbrev pub success : Status
success = generic 0x00

abbrev pub invalid_opcode : Status
invalid_opcode = generic 0x01

abbrev pub invalid_field : Status
invalid_field = generic 0x02

abbrev pub invalid_namespace : Status
invalid_namespace = generic 0x0b

abbrev pub lba_out_of_range : Status
lba_out_of_range = generic 0x80

abbrev pub event_limit_exceeded : Status
event_limit_exceeded = specific 0x05

abbrev pub invalid_log_page : Status
invalid_log_page = specific 0x09

abbrev pub invalid_zone_operation : Status
invalid_zone_operation = specific 0xb6

abbrev pub zrwa_resources_unavailable : Status
zrwa_resources_unavailable = specific 0xb7

abbrev pub zone_boundary_error : Status
zone_boundary_error = specific 0xb8

abbrev pub zone_full : Status
zone_full = specific 0xb9

abbrev pub zone_read_only : Status
zone_read_only = specific 0xba

abbrev pub zone_offline : Status
zone_offline = specific 0xbb

abbrev pub zone_invalid_write : Status
zone_invalid_write = specific 0xbc

abbrev pub too_many_active_zones : Status
too_many_active_zones = specific 0xbd

abbrev pub too_many_open_zones : Status
too_many_open_zones = specific 0xbe

abbrev pub invalid_zone_state_transition : Status
invalid_zone_state_transition = specific 0xbf

-- all of them, from success on
abbrev pub all_statuses : List Status
all_statuses =
    success
    ∷ invalid_opcode
    ∷ invalid_field
    ∷ invalid_namespace
    ∷ lba_out_of_range
    ∷ event_limit_exceeded
    ∷ invalid_log_page
    ∷ invalid_zone_operation
    ∷ zrwa_resources_unavailable
    ∷ zone_boundary_error
    ∷ zone_full
    ∷ zone_read_only
    ∷ zone_offline
    ∷ zone_invalid_write
    ∷ too_many_active_zones
    ∷ too_many_open_zones
    ∷ invalid_zone_state_transition
    ∷ []

abbrev pub same_status : Status → Status → Bool
same_status a b = if a.sct == b.sct then a.sc == b.sc else false

abbrev pub is_success : Status → Bool
is_success s = same_status s success

-- the Do Not Retry bit: set for every error other than the lack of a resource
abbrev pub do_not_retry : Status → Bool
do_not_retry s = not (is_success s) && not (same_status s zrwa_resources_unavailable) && not (same_status s too_many_active_zones) && not (same_status s too_many_open_zones)
