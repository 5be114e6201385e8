-- The bytes of a header and the numbers in them.
use Rattle.std.proofs.Common.{◌≡◌, ℕ, ◌+◌, ◌*◌, ◌^◌, ◌<◌, ◌≤◌, List, [], ◌∷◌, ◌++◌, length, take, drop, refl, sym, ap, ◌∙◌, arith, codes}
use Rattle.std.proofs.Math.Nat.{le-mul_of_pos_right, mul_comm}
use Rattle.std.proofs.lemmas.List.{drop_more, get_or-drop}
use Rattle.std.proofs.lemmas.Nat.{pow_pos}
use Rattle.std.specs.Prelude.{slice_index, replicate}
use Rattle.byteorder.specs.Endian.{little_bytes}
use Rattle.byteorder.specs.Numbers.{little_number-reads_back, little_from-lt}
use Rattle.zns_types.specs.declared.fields.GeometryFields.{GeometryFields}
use Rattle.zns_types.specs.Fields.{field}
use Rattle.zns_types.specs.Geometry.{IsGeometry}
use Rattle.zns_types.proofs.FieldLemmas.{little_bytes-field}
use Rattle.zone_model.specs.Sessions.{header_bytes, HasWidths}
use Rattle.session_file.specs.Places.{geometry_in, count_in}
use Rattle.session_file.proofs.RecordPlaces.{joined}

-- the parts of a header, and what follows it
parts_of : GeometryFields → ℕ → List ℕ → List ℕ
parts_of g n rest =
    codes "ZNSQ0001"
    ++ ((g.block_exp ∷ g.mdts ∷ g.zasl ∷ g.flags ∷ [])
    ++ (little_bytes 4 g.zones
    ++ (little_bytes 8 g.zone_size
    ++ (little_bytes 8 g.capacity
    ++ (little_bytes 4 g.active_limit
    ++ (little_bytes 4 g.open_limit
    ++ (little_bytes 4 g.windows
    ++ (little_bytes 2 g.granule
    ++ (little_bytes 2 g.window
    ++ (little_bytes 2 g.queues
    ++ (little_bytes 2 g.depth
    ++ (little_bytes 4 n
    ++ (replicate 8 0 ++ rest)))))))))))))

header_bytes-parts : (g : GeometryFields) (n : ℕ) (rest : List ℕ) → header_bytes g n ++ rest ≡ parts_of g n rest
unfolding parts_of
header_bytes-parts g n rest = refl

four_bytes : (bytes : List ℕ) → 12 ≤ length bytes → slice_index bytes 8 ∷ slice_index bytes 9 ∷ slice_index bytes 10 ∷ slice_index bytes 11 ∷ [] ≡ take 4 (drop 8 bytes)
four_bytes bytes h =
    let first : 8 < length bytes = omega arith in
    let second : 9 < length bytes = omega arith in
    let third : 10 < length bytes = omega arith in
    let fourth : 11 < length bytes = omega arith in
    rw (drop_more bytes 8 0 first, drop_more bytes 9 0 second, drop_more bytes 10 0 third, drop_more bytes 11 0 fourth) refl

-- the header is the one for its numbers
pub header_bytes-in : (bytes : List ℕ) → 64 ≤ length bytes → take 8 bytes ≡ codes "ZNSQ0001" → field 56 8 bytes ≡ 0 → ((i : ℕ) → slice_index bytes i < 256) → header_bytes (geometry_in bytes) (count_in bytes) ++ drop 64 bytes ≡ bytes
unfolding geometry_in count_in parts_of
header_bytes-in bytes long magic zeros fits =
    header_bytes-parts (geometry_in bytes) (count_in bytes) (drop 64 bytes)
    ∙ joined 0 8 8 bytes _ _ refl (sym magic)
    (joined 8 4 12 bytes _ _ refl (four_bytes bytes (omega arith))
    (joined 12 4 16 bytes _ _ refl (little_bytes-field 12 4 bytes (omega arith) fits)
    (joined 16 8 24 bytes _ _ refl (little_bytes-field 16 8 bytes (omega arith) fits)
    (joined 24 8 32 bytes _ _ refl (little_bytes-field 24 8 bytes (omega arith) fits)
    (joined 32 4 36 bytes _ _ refl (little_bytes-field 32 4 bytes (omega arith) fits)
    (joined 36 4 40 bytes _ _ refl (little_bytes-field 36 4 bytes (omega arith) fits)
    (joined 40 4 44 bytes _ _ refl (little_bytes-field 40 4 bytes (omega arith) fits)
    (joined 44 2 46 bytes _ _ refl (little_bytes-field 44 2 bytes (omega arith) fits)
    (joined 46 2 48 bytes _ _ refl (little_bytes-field 46 2 bytes (omega arith) fits)
    (joined 48 2 50 bytes _ _ refl (little_bytes-field 48 2 bytes (omega arith) fits)
    (joined 50 2 52 bytes _ _ refl (little_bytes-field 50 2 bytes (omega arith) fits)
    (joined 52 4 56 bytes _ _ refl (little_bytes-field 52 4 bytes (omega arith) fits)
    (joined 56 8 64 bytes _ _ refl (ap (little_bytes 8) (sym zeros) ∙ little_bytes-field 56 8 bytes (omega arith) fits) refl)))))))))))))

-- the numbers in bytes that begin with a header
pub record Begins (bytes : List ℕ) (g : GeometryFields) (n : ℕ) (after : List ℕ) : Type 0 where
  pub geometry : geometry_in bytes ≡ g
  pub count : count_in bytes ≡ n
  pub magic : take 8 bytes ≡ codes "ZNSQ0001"
  pub zeros : field 56 8 bytes ≡ 0
  pub rest : drop 64 bytes ≡ after
  pub long : 64 ≤ length bytes

-- a drive's numbers are their fourteen parts
same_geometry : (block_exp mdts zasl flags zones zone_size capacity active_limit open_limit windows granule window queues depth : ℕ) (g : GeometryFields) → block_exp ≡ g.block_exp → mdts ≡ g.mdts → zasl ≡ g.zasl → flags ≡ g.flags → zones ≡ g.zones → zone_size ≡ g.zone_size → capacity ≡ g.capacity → active_limit ≡ g.active_limit → open_limit ≡ g.open_limit → windows ≡ g.windows → granule ≡ g.granule → window ≡ g.window → queues ≡ g.queues → depth ≡ g.depth → record { block_exp = block_exp; mdts = mdts; zasl = zasl; flags = flags; zones = zones; zone_size = zone_size; capacity = capacity; active_limit = active_limit; open_limit = open_limit; windows = windows; granule = granule; window = window; queues = queues; depth = depth } ≡ g
same_geometry block_exp mdts zasl flags zones zone_size capacity active_limit open_limit windows granule window queues depth g e1 e2 e3 e4 e5 e6 e7 e8 e9 e10 e11 e12 e13 e14 = rw (e1, e2, e3, e4, e5, e6, e7, e8, e9, e10, e11, e12, e13, e14) refl

small_zone : (g : GeometryFields) → IsGeometry g → g.zone_size ≤ 2 ^ 28
small_zone g h =
    let some : 0 < g.zones = omega arith in
    let whole : g.zone_size ≤ g.zone_size * g.zones = le-mul_of_pos_right g.zone_size some in
    let more : g.zones * g.zone_size ≤ g.zones * g.zone_size * 2 ^ g.block_exp = le-mul_of_pos_right (g.zones * g.zone_size) (pow_pos g.block_exp) in
    omega (arith, mul_comm g.zones g.zone_size)

pub begins : (bytes : List ℕ) (g : GeometryFields) (n : ℕ) (after : List ℕ) → IsGeometry g → HasWidths g → n < 2 ^ 32 → bytes ≡ header_bytes g n ++ after → Begins bytes g n after
unfolding geometry_in count_in parts_of
begins bytes g n after h w few e =
    let start : bytes ≡ parts_of g n after = e ∙ header_bytes-parts g n after in
    let size : g.zone_size ≤ 2 ^ 28 = small_zone g h in
    record {
      geometry = same_geometry _ _ _ _ _ _ _ _ _ _ _ _ _ _ g
          (ap (λ (b : List ℕ). slice_index b 8) start)
          (ap (λ (b : List ℕ). slice_index b 9) start)
          (ap (λ (b : List ℕ). slice_index b 10) start)
          (ap (λ (b : List ℕ). slice_index b 11) start)
          (ap (field 12 4) start ∙ little_number-reads_back 4 g.zones [] (omega arith))
          (ap (field 16 8) start ∙ little_number-reads_back 8 g.zone_size [] (omega arith))
          (ap (field 24 8) start ∙ little_number-reads_back 8 g.capacity [] (omega arith))
          (ap (field 32 4) start ∙ little_number-reads_back 4 g.active_limit [] w.active_limit)
          (ap (field 36 4) start ∙ little_number-reads_back 4 g.open_limit [] w.open_limit)
          (ap (field 40 4) start ∙ little_number-reads_back 4 g.windows [] w.windows)
          (ap (field 44 2) start ∙ little_number-reads_back 2 g.granule [] w.granule)
          (ap (field 46 2) start ∙ little_number-reads_back 2 g.window [] w.window)
          (ap (field 48 2) start ∙ little_number-reads_back 2 g.queues [] (omega arith))
          (ap (field 50 2) start ∙ little_number-reads_back 2 g.depth [] (omega arith));
      count = ap (field 52 4) start ∙ little_number-reads_back 4 n [] few;
      magic = ap (take 8) start;
      zeros = ap (field 56 8) start;
      rest = ap (drop 64) start;
      long = rw start (omega arith);
    }

-- the numbers of a header fit in their bytes
pub widths_in : (bytes : List ℕ) → ((i : ℕ) → slice_index bytes i < 256) → HasWidths (geometry_in bytes)
unfolding geometry_in
widths_in bytes fits = record {
  active_limit = little_from-lt 0 4 (drop 32 bytes) (λ k. rw get_or-drop (fits (32 + k)));
  open_limit = little_from-lt 0 4 (drop 36 bytes) (λ k. rw get_or-drop (fits (36 + k)));
  windows = little_from-lt 0 4 (drop 40 bytes) (λ k. rw get_or-drop (fits (40 + k)));
  granule = little_from-lt 0 2 (drop 44 bytes) (λ k. rw get_or-drop (fits (44 + k)));
  window = little_from-lt 0 2 (drop 46 bytes) (λ k. rw get_or-drop (fits (46 + k)));
}
