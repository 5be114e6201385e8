-- The lengths of headers and records.
use Rattle.std.proofs.Common.{◌≡◌, ℕ, suc, ◌+◌, ◌*◌, List, [], ◌∷◌, ◌++◌, length, refl, ◌∙◌, arith, length-append}
use Rattle.std.specs.Prelude.{All}
use Rattle.std.specs.List.{flat_map}
use Rattle.byteorder.specs.Endian.{little_bytes}
use Rattle.zns_types.specs.declared.fields.GeometryFields.{GeometryFields}
use Rattle.zone_model.specs.declared.act.Act.{Act}
use Rattle.zone_model.specs.Sessions.{IsAct, record_bytes, header_bytes, sent_bytes}

pub header_size : (g : GeometryFields) (n : ℕ) → length (header_bytes g n) ≡ 64
header_size g n = refl

record_size : (g : GeometryFields) (a : Act) → IsAct g a → length (record_bytes a) ≡ 72 + length a.payload
record_size g a is =
    let front = little_bytes 2 a.queue ++ (0 ∷ 0 ∷ []) ++ little_bytes 4 (length a.payload) in
    length-append (front ++ a.sqe.bytes) a.payload ∙ omega (arith, length-append front a.sqe.bytes, is.entry, front_size a.queue (length a.payload))
  where
    front_size : (q n : ℕ) → length (little_bytes 2 q ++ (0 ∷ 0 ∷ []) ++ little_bytes 4 n) ≡ 8
    front_size q n = refl

pub records_size : (g : GeometryFields) (acts : List Act) → All (IsAct g) acts → length (flat_map record_bytes acts) ≡ 72 * length acts + sent_bytes acts
records_size g [] all = refl
records_size g (a ∷ acts) all =
    let own : IsAct g a = all 0 a (omega arith) in
    let rest = records_size g acts (λ k d lt. all (suc k) d (omega arith)) in
    length-append (record_bytes a) (flat_map record_bytes acts) ∙ omega (arith, record_size g a own, rest)
