-- The pages that Identify gives, and how the zoned namespace's page is read: NVM Express Base Specification 2.0,
-- 5.17 (Identify), NVM Command Set Specification 1.0, 4.1.5, and Zoned Namespace Command Set Specification 1.1, 4.1.5,
-- with the fields of random write areas by Technical Proposal 4076. A field that isn't named here is zero.
use Rattle.std.specs.Prelude.{ℕ, ◌+◌, ◌*◌, ◌-◌, ◌^◌, Bool, not, ◌&&◌, ◌==◌, if◌then◌else◌, List, [], ◌∷◌, Option, Some, None}
use Rattle.zns_types.specs.declared.fields.GeometryFields.{GeometryFields}
use Rattle.zns_types.specs.Geometry.{all_blocks}
use Rattle.zns_types.specs.Fields.{field, bit}
use Rattle.identify_zns.specs.declared.zoned_page.ZonedPage.{ZonedPage}
use Rattle.identify_zns.specs.Layout.{PageField, byte_at, number_at, page}

abbrev pub one : Bool → ℕ
one b = if b then 1 else 0

abbrev pub has_windows : GeometryFields → Bool
has_windows g = not (g.windows == 0)

-- a limit as Identify shows it: less one, or all ones if there is none
abbrev pub zero_based : ℕ → ℕ
zero_based limit = if limit == 0 then 2 ^ 32 - 1 else limit - 1

-- optional characteristics of a zoned namespace: whether reads may cross zones, and whether there are random write areas
abbrev pub characteristics : GeometryFields → ℕ
characteristics g = one (bit 0 g.flags) + 2 * one (has_windows g)

-- whether a command can commit random write areas, if there are any
abbrev pub capabilities : GeometryFields → ℕ
capabilities g = one (has_windows g)

-- the namespace: CNS 00h
abbrev pub namespace_fields : GeometryFields → List PageField
namespace_fields g =
    -- NSZE, NCAP and NUSE, in blocks
    number_at 0 8 (all_blocks g)
    ∷ number_at 8 8 (g.zones * g.capacity)
    ∷ number_at 16 8 (g.zones * g.capacity)
    -- DLFEAT: a block that wasn't written reads as zeros
    ∷ byte_at 33 1
    -- LBADS of the one format, LBAF0
    ∷ byte_at 130 g.block_exp
    ∷ []

-- the controller: CNS 01h
abbrev pub controller_fields : GeometryFields → List PageField
controller_fields g =
    -- MDTS
    byte_at 77 g.mdts
    -- VER: 2.0
    ∷ number_at 80 4 0x0002_0000
    -- OAES: notices of changed zones
    ∷ number_at 92 4 0x0800_0000
    -- AERL: four requests may wait
    ∷ byte_at 259 3
    -- SQES and CQES: entries of 64 and 16 bytes
    ∷ byte_at 512 0x66
    ∷ byte_at 513 0x44
    -- NN
    ∷ number_at 516 4 1
    ∷ []

-- the zoned namespace: CNS 05h, CSI 02h
abbrev pub zoned_namespace_fields : GeometryFields → List PageField
zoned_namespace_fields g =
    -- OZCS
    number_at 2 2 (characteristics g)
    -- MAR and MOR
    ∷ number_at 4 4 (zero_based g.active_limit)
    ∷ number_at 8 4 (zero_based g.open_limit)
    -- NUMZRWA, ZRWAFG and ZRWASZ
    ∷ number_at 44 4 g.windows
    ∷ number_at 48 2 g.granule
    ∷ number_at 50 2 g.window
    -- ZRWACAP
    ∷ byte_at 52 (capabilities g)
    -- ZSZE of LBAFE0, whose ZDES is zero
    ∷ number_at 2816 8 g.zone_size
    ∷ []

-- the controller of zoned namespaces: CNS 06h, CSI 02h
abbrev pub zoned_controller_fields : GeometryFields → List PageField
zoned_controller_fields g = byte_at 0 g.zasl ∷ []

-- the page of a structure and a command set, if there is one
abbrev pub page_of : ℕ → ℕ → GeometryFields → Option (List ℕ)
page_of cns csi g =
    if cns == 0x00 then Some (page (namespace_fields g))
    else if cns == 0x01 then Some (page (controller_fields g))
    else if (cns == 0x05) && (csi == 0x02) then Some (page (zoned_namespace_fields g))
    else if (cns == 0x06) && (csi == 0x02) then Some (page (zoned_controller_fields g))
    else None

-- what a zoned namespace's page says
abbrev pub zoned_page : List ℕ → ZonedPage
zoned_page bytes = record {
  cross = bit 0 (field 2 2 bytes);
  mar = field 4 4 bytes;
  mor = field 8 4 bytes;
  windows = field 44 4 bytes;
  granule = field 48 2 bytes;
  window = field 50 2 bytes;
  explicit = bit 0 (field 52 1 bytes);
  zone_size = field 2816 8 bytes;
}

-- what the page of a drive says
abbrev pub shown : GeometryFields → ZonedPage
shown g = record {
  cross = bit 0 g.flags;
  mar = zero_based g.active_limit;
  mor = zero_based g.open_limit;
  windows = g.windows;
  granule = g.granule;
  window = g.window;
  explicit = has_windows g;
  zone_size = g.zone_size;
}
