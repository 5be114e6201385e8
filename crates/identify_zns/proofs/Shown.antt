-- What is read in the zoned namespace's page is what the drive is.
use Rattle.std.proofs.Common.{◌≡◌, ℕ, ◌+◌, ◌*◌, ◌<◌, ◌^◌, Bool, true, false, List, ◌++◌, drop, refl, ap, ◌∙◌, arith}
use Rattle.std.proofs.lemmas.Bool.Decides.{nat_tests}
use Rattle.byteorder.specs.Endian.{little_number, little_bytes}
use Rattle.byteorder.specs.Numbers.{little_number-reads_back}
use Rattle.zns_types.specs.declared.fields.GeometryFields.{GeometryFields}
use Rattle.zns_types.specs.Fields.{field, bit}
use Rattle.identify_zns.specs.Layout.{page}
use Rattle.identify_zns.specs.Pages.{one, zero_based, has_windows, characteristics, zoned_namespace_fields, zoned_page, shown}
use Rattle.identify_zns.proofs.Layouts.{AreLaid, stand-page}

-- if a number stands at a place, the field there is the number
field-stands : (place width n : ℕ) (bytes rest : List ℕ) → n < 256 ^ width → drop place bytes ≡ little_bytes width n ++ rest → field place width bytes ≡ n
field-stands place width n bytes rest fits stands = ap (little_number width) stands ∙ little_number-reads_back width n rest fits

-- the lowest of two bits is the first
two_bits : (a b : Bool) → (one a + 2 * one b < 65536) × (bit 0 (one a + 2 * one b) ≡ a)
two_bits true true = (omega arith, refl)
two_bits true false = (omega arith, refl)
two_bits false true = (omega arith, refl)
two_bits false false = (omega arith, refl)

one_bit : (a : Bool) → (one a < 256) × (bit 0 (one a) ≡ a)
one_bit true = (omega arith, refl)
one_bit false = (omega arith, refl)

zero_based-fits : (limit : ℕ) → limit < 2 ^ 32 → zero_based limit < 2 ^ 32
zero_based-fits limit fits = grind (arith, nat_tests)

-- the numbers of a drive fit their fields
pub record Fit (g : GeometryFields) : Type 0 where
  pub active_limit : g.active_limit < 2 ^ 32
  pub open_limit : g.open_limit < 2 ^ 32
  pub windows : g.windows < 2 ^ 32
  pub granule : g.granule < 2 ^ 16
  pub window : g.window < 2 ^ 16
  pub zone_size : g.zone_size < 2 ^ 64

pub zoned_page-shown : (g : GeometryFields) → Fit g → zoned_page (page (zoned_namespace_fields g)) ≡ shown g
zoned_page-shown g fit =
    let bytes = page (zoned_namespace_fields g) in
    let laid : AreLaid 0 (zoned_namespace_fields g) = (omega arith, omega arith, (omega arith, omega arith, (omega arith, omega arith, (omega arith, omega arith, (omega arith, omega arith, (omega arith, omega arith, (omega arith, omega arith, (omega arith, omega arith, tt)))))))) in
    let (crossing, (most_active, (most_open, (some, (granular, (wide, (flush, (sized, _)))))))) = stand-page (zoned_namespace_fields g) laid in
    let bits = two_bits (bit 0 g.flags) (has_windows g) in
    let cross : bit 0 (field 2 2 bytes) ≡ bit 0 g.flags = ap (bit 0) (field-stands 2 2 (characteristics g) bytes crossing.rest bits.0 crossing.is) ∙ bits.1 in
    let mar = field-stands 4 4 (zero_based g.active_limit) bytes most_active.rest (zero_based-fits g.active_limit fit.active_limit) most_active.is in
    let mor = field-stands 8 4 (zero_based g.open_limit) bytes most_open.rest (zero_based-fits g.open_limit fit.open_limit) most_open.is in
    let windows = field-stands 44 4 g.windows bytes some.rest fit.windows some.is in
    let granule = field-stands 48 2 g.granule bytes granular.rest fit.granule granular.is in
    let window = field-stands 50 2 g.window bytes wide.rest fit.window wide.is in
    let byte : field 52 1 bytes ≡ one (has_windows g) = ap (little_number 1) flush.is ∙ omega arith in
    let explicit : bit 0 (field 52 1 bytes) ≡ has_windows g = ap (bit 0) byte ∙ (one_bit (has_windows g)).1 in
    let size = field-stands 2816 8 g.zone_size bytes sized.rest fit.zone_size sized.is in
    rw (cross, mar, mor, windows, granule, window, explicit, size) refl
