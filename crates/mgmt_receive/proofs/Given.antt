-- One more zone, and the descriptors that are given.
use Rattle.std.proofs.Common.{◌≡◌, ℕ, ◌+◌, ◌*◌, ◌-◌, ◌/◌, ◌<◌, ◌≤◌, Bool, true, false, cond, Option, Some, None, List, [], ◌∷◌, ◌++◌, length, take, drop, map, refl, sym, ap, ◌∙◌, arith, inl, inr}
use Rattle.std.specs.Prelude.{filter, replicate, is_some}
use borrow.Rule.Slice.PartMut.{put_mid}
use Rattle.std.proofs.lemmas.Bool.{cases_lt}
use Rattle.std.proofs.lemmas.List.{append_assoc, map-append, length-append, length_push, take-append-drop, take_rest, take_all, take_at, drop_at, drop-replicate, flat_map_more}
use Rattle.std.proofs.lemmas.List.Elements.{filter-append}
use Rattle.std.proofs.lemmas.List.Recursion.{is_count_by}
use Rattle.std.proofs.lemmas.List.Sums.{sum_by-take-drop}
use Rattle.zns_types.specs.declared.fields.GeometryFields.{GeometryFields}
use Rattle.zns_types.specs.declared.state.State.{State}
use Rattle.zone_descriptor.specs.declared.descriptor.Descriptor.{Descriptor}
use Rattle.zone_descriptor.specs.Descriptors.{descriptor_bytes}
use Rattle.zone_cell.specs.Cells.{Cell, descriptor_of}
use Rattle.drive_rules.specs.Reports.{bytes_of_all}
use Rattle.mgmt_receive.specs.declared.descriptors.Gave.{Gave}
use Rattle.mgmt_receive.specs.Receiving.{is_wanted, count_wanted, matching, Given, Begun}

pub length-bytes : (ds : List Descriptor) → length (bytes_of_all ds) ≡ 64 * length ds
length-bytes [] = refl
length-bytes (d ∷ ds) = length-append (descriptor_bytes d) (bytes_of_all ds) ∙ omega (arith, length-bytes ds)

matching_both : (g : GeometryFields) (wanted : Option State) (before after : List Cell) → matching g wanted (before ++ after) ≡ matching g wanted before ++ matching g wanted after
matching_both g wanted before after =
    ap (filter (λ (d : Descriptor). is_wanted wanted d.state)) (map-append (descriptor_of g) before after)
    ∙ filter-append (λ (d : Descriptor). is_wanted wanted d.state) (map (descriptor_of g) before) (map (descriptor_of g) after)

-- one more zone, which is wanted or left out
matching_more : (g : GeometryFields) (wanted : Option State) (before : List Cell) (c : Cell) (b : Bool) → is_wanted wanted c.state ≡ b → matching g wanted (before ++ c ∷ []) ≡ matching g wanted before ++ cond b (descriptor_of g c ∷ []) []
matching_more g wanted before c b e = matching_both g wanted before (c ∷ []) ∙ rw e refl

-- it is wanted, and given
pub gave : (g : GeometryFields) (wanted : Option State) (before : List Cell) (c : Cell) (len given k : ℕ) (out new : List ℕ) → is_wanted wanted c.state ≡ true → given < len / 64 → k ≡ 64
    → new ≡ descriptor_bytes (descriptor_of g c) → Given g wanted before len given out → Given g wanted (before ++ c ∷ []) len (given + 1) (put_mid (given * 64) k out new)
gave g wanted before c len given k out new e room k-is new-is was =
    let ds = matching g wanted before in
    let d = descriptor_of g c in
    let more : matching g wanted (before ++ c ∷ []) ≡ ds ++ d ∷ [] = matching_more g wanted before c true e in
    let rest : List ℕ = replicate (len - 64 * given) 0 in
    let front_len : length (bytes_of_all ds) ≡ given * 64 = omega (arith, was.count, length-bytes ds) in
    let last : drop k rest ≡ replicate (len - 64 * (given + 1)) 0 = drop-replicate k (len - 64 * given) 0 ∙ ap (λ (n : ℕ). replicate n 0) (omega arith) in
    record {
      count = rw more (omega (arith, was.count, length_push ds d));
      room = omega arith;
      bytes = rw (more, was.bytes, take_at (bytes_of_all ds) rest (given * 64) front_len, drop_at (bytes_of_all ds) rest (given * 64) front_len, last, new-is, sym (flat_map_more descriptor_bytes [] ds d))
          (sym (append_assoc (bytes_of_all ds) (descriptor_bytes d) (replicate (len - 64 * (given + 1)) 0)));
    }

-- the descriptors that fit in `len` bytes
abbrev pub given_in : GeometryFields → Option State → List Cell → ℕ → List Descriptor
given_in g wanted cells len = take (len / 64) (matching g wanted cells)

-- those that are given are all that fit
pub given_fit : (g : GeometryFields) (wanted : Option State) (cells : List Cell) (len : ℕ) (gave : Gave) (out : List ℕ) → Begun g wanted cells len gave out → matching g wanted (take gave.seen cells) ≡ given_in g wanted cells len
given_fit g wanted cells len gave out was =
    let first = matching g wanted (take gave.seen cells) in
    let rest = matching g wanted (drop gave.seen cells) in
    let number : gave.given ≡ length first = was.seen_cells.count in
    elim (cases_lt gave.seen (length cells)) [
      | inl less ↦
          let full : length first ≡ len / 64 = omega (arith, number, was.full less) in
          let both : matching g wanted cells ≡ first ++ rest = ap (matching g wanted) (sym (take-append-drop gave.seen cells)) ∙ matching_both g wanted (take gave.seen cells) (drop gave.seen cells) in
          sym (ap (take (len / 64)) both ∙ take_at first rest (len / 64) full)
      | inr all ↦
          let fits : length first ≤ len / 64 = omega (arith, number, was.seen_cells.room) in
          sym (ap (λ (xs : List Cell). given_in g wanted xs len) (sym (take_all gave.seen cells all)) ∙ take_all (len / 64) first fits)
    ]

-- the number of zones that match
count_more : (g : GeometryFields) (wanted : Option State) (c : Cell) (cells : List Cell) (b : Bool) → is_wanted wanted c.state ≡ b → length (matching g wanted (c ∷ cells)) ≡ cond b (1 + length (matching g wanted cells)) (length (matching g wanted cells))
count_more g wanted c cells true e = rw e (omega arith)
count_more g wanted c cells false e = rw e refl

pub matching_count : (g : GeometryFields) (wanted : Option State) (cells : List Cell) → length (matching g wanted cells) ≡ count_wanted wanted cells
matching_count g wanted =
    is_count_by (λ (cells : List Cell). length (matching g wanted cells)) (λ (c : Cell). is_wanted wanted c.state) refl
    (λ c cells. count_more g wanted c cells (is_wanted wanted c.state) refl)

-- if all are wanted
pub all_counted : (wanted : Option State) (cells : List Cell) → is_some wanted ≡ false → length cells ≡ count_wanted wanted cells
all_counted None cells all = is_count_by (λ (xs : List Cell). length xs) (λ (c : Cell). true) refl (λ c xs. omega arith) cells
all_counted (Some s) cells all = absurd cc

-- those that were seen, and the others
pub both_counted : (wanted : Option State) (cells : List Cell) (seen given rest : ℕ) → given ≡ count_wanted wanted (take seen cells) → rest ≡ count_wanted wanted (take (length cells - seen) (drop seen cells)) → given + rest ≡ count_wanted wanted cells
both_counted wanted cells seen given rest first others =
    rw (first, others ∙ ap (count_wanted wanted) (take_rest cells seen)) (sum_by-take-drop (λ (c : Cell). cond (is_wanted wanted c.state) 1 0) cells seen)
