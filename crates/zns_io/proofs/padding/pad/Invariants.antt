use Rattle.std.proofs.Common.{◌≡◌, ◌≤◌, ◌++◌, ◌-◌, max, vec_len, vec_capacity}
use Rattle.std.specs.Prelude.{replicate}
use Rattle.zns_io.specs.Padding.{padded}
use Rattle.zns_io.proofs.padding.pad.Given as goal

abbrev pub invariant-loop-bytes : goal.invariant-loop-bytes
invariant-loop-bytes l = record {
  zeros : l.bytes.items ++ replicate (l.len - vec_len l.bytes) 0 ≡ padded l.len l.initial.bytes.items;
  longer : vec_len l.initial.bytes ≤ vec_len l.bytes;
  within : vec_len l.bytes ≤ max (vec_len l.initial.bytes) l.len;
  room : vec_capacity l.initial.bytes ≤ vec_capacity l.bytes;
}

abbrev pub decreases-loop-bytes : goal.decreases-loop-bytes
decreases-loop-bytes l = l.len - vec_len l.bytes
