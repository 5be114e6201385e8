use Rattle.std.proofs.Common.{rules, ◌≡◌, ◌+◌, ◌-◌, ◌++◌, List, ap, ◌∙◌, vec_len, arith}
use Rattle.std.specs.Prelude.{ℕ, replicate, take}
use Rattle.std.proofs.lemmas.List.{replicate-append-replicate, take-replicate, append_assoc}
use Rattle.zns_io.proofs.padding.pad.Goals as goal

pub loop-bytes-preserved : goal.loop-bytes-preserved
loop-bytes-preserved c =
    let zero : ℕ = 0 in
    let count = c.min-count.result in
    let old = c.loop-bytes.bytes in
    let new = c.extend_from_slice.new.self in
    let more : new.items ≡ old.items ++ take count (replicate 4096 zero) = search rules in
    let items : new.items ≡ old.items ++ replicate count zero = more ∙ ap (λ (xs : List ℕ). old.items ++ xs) (take-replicate count 4096 zero (omega arith)) in
    let size : vec_len new ≡ vec_len old + count = search rules in
    let rest : count + (c.args.len - vec_len new) ≡ c.args.len - vec_len old = omega (arith, size) in
    record {
      zeros = rw (items, append_assoc old.items (replicate count zero) (replicate (c.args.len - vec_len new) zero), replicate-append-replicate count (c.args.len - vec_len new) zero, rest) c.loop-bytes.invariant.zeros;
      longer = omega (arith, size);
      within = omega (arith, size);
      room = omega arith;
    }
