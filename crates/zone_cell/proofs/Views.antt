-- What the fields of a cell say about what contracts see.
use Rattle.std.proofs.Common.{◌≡◌, ℕ, suc, ◌+◌, ◌*◌, ◌-◌, ◌/◌, ◌<◌, ◌≤◌, Bool, true, false, cond, inl, inr, Option, Some, None, List, ◌++◌, take, drop, length, get_or, map, refl, sym, ap, ◌∙◌, arith, vec_len, vec_capacity}
use Rattle.std.proofs.Math.Nat.{add-mul}
use Rattle.std.proofs.lemmas.Nat.{mul-le}
use Rattle.std.proofs.lemmas.Bool.{cases_lt, true≢false}
use Rattle.std.specs.Prelude.{is_some, max}
use Rattle.std.proofs.lemmas.List.{get_or_past, length-map, same_lists, get_or_default, get_or-map}
use Rattle.written_blocks.specs.Marks.{marked, holes}
use Rattle.written_blocks.proofs.MarkLists.{length-marked}
use Rattle.zns_types.specs.declared.fields.GeometryFields.{GeometryFields}
use Rattle.zns_types.specs.Geometry.{block_len}
use Rattle.zone_cell.specs.Cells.{Cell, IsOf, with_blocks, bytes_at}
use Rattle.zone_cell.specs.Kept.{IsSound, kept_blocks, laid}
use Rattle.zone_cell.specs.declared.cell.ZoneCell.TheInside.{Inside}
use Rattle.zone_cell.specs.contracts.cell.ZoneCell.{the_view}
use Rattle.zone_cell.proofs.Blocks.{length-kept, get_or-kept, kept-laid, kept-more, Lie-marked}
use Rattle.zone_cell.proofs.Pieces.{whole_run, last_marked}

is_some_kept : (m : Bool) (x : List ℕ) → m ≡ is_some (cond m (Some x) None)
is_some_kept true x = refl
is_some_kept false x = refl

-- there are as many blocks as marks
pub marks_of : (a : Inside) (c : Cell) → the_view a ≡ c → length a.written ≡ length c.blocks
marks_of a c is = sym (length-kept a.block_len a.bytes.items a.written) ∙ ap (λ (z : Cell). length z.blocks) is

-- the bytes before a block are at most those of all blocks
pub bytes_before : (a : Inside) (c : Cell) (block : ℕ) → the_view a ≡ c → block ≤ length c.blocks → block * a.block_len ≤ length a.written * a.block_len
bytes_before a c block is within =
    let n = marks_of a c is in
    omega (arith, mul-le block a.block_len (length a.written) a.block_len (omega arith) (omega arith))

-- the data of whole blocks ends within them
pub end_within : (a : Inside) (c : Cell) (from size : ℕ) → the_view a ≡ c → from + size / c.block_len ≤ length c.blocks → size / c.block_len * c.block_len ≡ size
    → from * c.block_len + size ≤ length a.written * a.block_len
end_within a c from size is within whole =
    let len : a.block_len ≡ c.block_len = ap (λ (z : Cell). z.block_len) is in
    let e = bytes_before a c (from + size / c.block_len) is within in
    let f : (from + size / c.block_len) * c.block_len ≤ length a.written * a.block_len = omega (arith, e, ap (λ (k : ℕ). (from + size / c.block_len) * k) len) in
    omega (arith, add-mul from (size / c.block_len) c.block_len)

-- what a cell shows after host data was laid down in its bytes and the blocks were marked
pub stored : (a : Inside) (c : Cell) (from place : ℕ) (payload new : List ℕ) → the_view a ≡ c → IsSound a.block_len a.pointer (vec_len a.bytes) (vec_capacity a.bytes) a.written
    → from + length payload / c.block_len ≤ length c.blocks → length payload / c.block_len * c.block_len ≡ length payload → place ≡ from * c.block_len → new ≡ laid place payload a.bytes.items
    → (let z : Cell = record (the_view a) { blocks = kept_blocks a.block_len new (marked a.written from (length payload / a.block_len)) } in z) ≡ record c { blocks = with_blocks c.block_len from payload c.blocks }
stored a c from place payload new is sound within whole at laid =
    let len : c.block_len ≡ a.block_len = ap (λ (z : Cell). z.block_len) (sym is) in
    let bytes_len : length a.bytes.items ≡ vec_len a.bytes = sym a.bytes.ok.0 in
    let place_is : place ≡ from * a.block_len = rw len at at in
    let within' : from + length payload / a.block_len ≤ length c.blocks = rw len at within in
    let whole' : length payload / a.block_len * a.block_len ≡ length payload = rw len at whole in
    let marks = marks_of a c is in
    let blocks = kept-laid a.block_len from a.bytes.items payload a.written (λ b mark. omega (arith, sound.lies b mark)) whole' (omega arith) in
    rw (laid, place_is, ← is) (ap (λ (bs : List (Option (List ℕ))). let z : Cell = record (the_view a) { blocks = bs } in z) blocks)

-- and the cell is sound
pub sound_stored : (len pointer n n' capacity capacity' from count : ℕ) (marks : List Bool) → IsSound len pointer n capacity marks → from + count ≤ length marks → n' ≡ max n ((from + count) * len) → capacity ≤ capacity'
    → IsSound len pointer n' capacity' (marked marks from count)
sound_stored len pointer n n' capacity capacity' from count marks sound within end room =
    let same = length-marked marks from count within in
    let last = mul-le (from + count) len (length marks) len within (omega arith) in
    record {
      some_len = sound.some_len;
      small_len = sound.small_len;
      fits = rw same (omega (arith, sound.fits));
      room = rw same (omega (arith, sound.room));
      few_bytes = rw same sound.few_bytes;
      few_marks = rw same sound.few_marks;
      within = rw same sound.within;
      lies = Lie-marked len from count n n' marks sound.lies (omega arith) (omega arith) within;
    }

-- where the data ends
pub end_is : (len from count place size : ℕ) → place ≡ from * len → count * len ≡ size → place + size ≡ (from + count) * len
end_is len from count place size at whole = omega (arith, add-mul from count len)

-- ---- one block

pub marked_block : (a : Inside) (c : Cell) (b : ℕ) → the_view a ≡ c → b < length a.written → get_or a.written b false ≡ is_some (get_or c.blocks b None)
marked_block a c b is lt = rw (← is, get_or-kept a.block_len a.bytes.items a.written b lt) (is_some_kept (get_or a.written b false) _)

pub past_blocks : (a : Inside) (c : Cell) (b : ℕ) → the_view a ≡ c → length a.written ≤ b → false ≡ is_some (get_or c.blocks b None)
past_blocks a c b is ge = rw (get_or_past c.blocks b None (omega (arith, marks_of a c is))) refl

-- a block that was written is one of the cell's
pub block_within : (a : Inside) (c : Cell) (b : ℕ) → the_view a ≡ c → true ≡ is_some (get_or c.blocks b None) → b < length a.written
block_within a c b is some = elim (cases_lt b (length a.written)) [
  | inl lt ↦ lt
  | inr ge ↦ absurd (true≢false (some ∙ sym (past_blocks a c b is ge)))
]

-- it ends within the bytes
pub block_ends : (a : Inside) (c : Cell) (b : ℕ) → the_view a ≡ c → IsSound a.block_len a.pointer (vec_len a.bytes) (vec_capacity a.bytes) a.written → true ≡ is_some (get_or c.blocks b None) → (b + 1) * a.block_len ≤ vec_len a.bytes
block_ends a c b is sound some = sound.lies b (marked_block a c b is (block_within a c b is some) ∙ sym some)

-- it is found in the bytes
pub block_stands : (a : Inside) (c : Cell) (b : ℕ) → the_view a ≡ c → true ≡ is_some (get_or c.blocks b None) → Some (take a.block_len (drop (b * a.block_len) a.bytes.items)) ≡ get_or c.blocks b None
block_stands a c b is some =
    let lt = block_within a c b is some in
    let mark : get_or a.written b false ≡ true = marked_block a c b is lt ∙ sym some in
    rw (← is, get_or-kept a.block_len a.bytes.items a.written b lt, mark) refl

pub none_block : {X : Type 0} (o : Option X) → is_some o ≡ false → None ≡ o
none_block None e = refl
none_block (Some x) e = absurd (true≢false e)

-- ---- all blocks

pub marks_are : (a : Inside) (c : Cell) → the_view a ≡ c → a.written ≡ map is_some c.blocks
marks_are a c is =
    let n = marks_of a c is in
    same_lists a.written (map is_some c.blocks) (n ∙ sym (length-map c.blocks is_some))
    (λ k d lt. get_or_default a.written k d false lt ∙ marked_block a c k is lt ∙ sym (get_or-map is_some c.blocks k None d (omega arith)))

pub blocks_are : (a : Inside) (c : Cell) → the_view a ≡ c → c.blocks ≡ kept_blocks c.block_len a.bytes.items (map is_some c.blocks)
blocks_are a c is =
    let len : c.block_len ≡ a.block_len = ap (λ (z : Cell). z.block_len) (sym is) in
    rw (len, ← marks_are a c is) (ap (λ (z : Cell). z.blocks) (sym is))

-- bytes that go on after those of a cell hold its blocks
pub holds_more : (a : Inside) (c : Cell) (more out : List ℕ) → the_view a ≡ c → IsSound a.block_len a.pointer (vec_len a.bytes) (vec_capacity a.bytes) a.written → out ≡ a.bytes.items ++ more
    → c.blocks ≡ kept_blocks c.block_len out (map is_some c.blocks)
holds_more a c more out is sound out-is =
    let bytes_len : length a.bytes.items ≡ vec_len a.bytes = sym a.bytes.ok.0 in
    let len : c.block_len ≡ a.block_len = ap (λ (z : Cell). z.block_len) (sym is) in
    rw (out-is, len, ← marks_are a c is) (ap (λ (z : Cell). z.blocks) (sym is) ∙ sym (kept-more a.block_len a.bytes.items more a.written (λ b mark. omega (arith, sound.lies b mark))))

-- a cell's bytes are at most what all of its blocks take
pub bytes_fit : (g : GeometryFields) (a : Inside) (c : Cell) → the_view a ≡ c → IsSound a.block_len a.pointer (vec_len a.bytes) (vec_capacity a.bytes) a.written → IsOf g c → vec_len a.bytes ≤ g.capacity * block_len g
bytes_fit g a c is sound of =
    let all : length a.written * a.block_len ≡ g.capacity * block_len g = rw (marks_of a c is, of.blocks, ap (λ (z : Cell). z.block_len) is, of.len) refl in
    omega (arith, sound.fits)

-- blocks without a gap are found in the bytes
pub run_stands : (a : Inside) (c : Cell) (from count : ℕ) → the_view a ≡ c → from + count ≤ length a.written → holes a.written from (from + count) ≡ 0
    → take (count * a.block_len) (drop (from * a.block_len) a.bytes.items) ≡ bytes_at c from count
run_stands a c from count is within none =
    let size : from + count - from ≡ count = omega arith in
    rw (← is) (sym (whole_run a.block_len a.bytes.items a.written from count within (rw size at none)))

-- and end within them
pub run_ends : (a : Inside) (c : Cell) (from count : ℕ) → the_view a ≡ c → IsSound a.block_len a.pointer (vec_len a.bytes) (vec_capacity a.bytes) a.written → 1 ≤ count → from + count ≤ length a.written
    → holes a.written from (from + count) ≡ 0 → (from + count) * a.block_len ≤ vec_len a.bytes
run_ends a c from count is sound some within none =
    let size : from + count - from ≡ suc (count - 1) = omega arith in
    let last : from + (count - 1) + 1 ≡ from + count = omega arith in
    let mark = last_marked a.written from (count - 1) (omega arith) (rw size at none) in
    let lies = sound.lies (from + (count - 1)) mark in
    rw last at lies
