-- Eight bytes are two dwords.
use Rattle.std.proofs.Common.{◌≡◌, ℕ, ◌+◌, ◌*◌, ◌^◌, List, ap, arith, sym, ◌∙◌}
use Rattle.zns_types.specs.Fields.{field, dword, long}
use Rattle.zns_types.proofs.BitLemmas.{field-widths}

pub halves : (k : ℕ) (bytes : List ℕ) → dword k bytes + 2 ^ 32 * dword (k + 1) bytes ≡ long k bytes
halves k bytes =
    let next : 4 * (k + 1) ≡ 4 * k + 4 = omega arith in
    ap (λ (place : ℕ). dword k bytes + 2 ^ 32 * field place 4 bytes) next ∙ sym (field-widths (4 * k) 4 4 bytes)
