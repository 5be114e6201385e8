-- A session is never longer than an input may be.
use Rattle.std.proofs.Common.{◌^◌, ◌≤◌, length, arith, length-append}
use Rattle.std.specs.List.{flat_map}
use Rattle.zone_model.specs.Sessions.{Recorded, IsSession, spelling, record_bytes, header_bytes}
use Rattle.session_file.proofs.Sizes.{header_size, records_size}

-- the bytes of a session
pub spelled_size : (s : Recorded) → IsSession s → length (spelling s) ≤ 2 ^ 29
unfolding spelling
spelled_size s is =
    omega (arith, length-append (header_bytes s.geometry (length s.acts)) (flat_map record_bytes s.acts), header_size s.geometry (length s.acts), records_size s.geometry s.acts is.acts, is.count, is.sent)
