use Rattle.std.proofs.Common.{get_or, refl}
use Rattle.zns_types.specs.Fields.{field}
use Rattle.identify_zns.proofs.Reading.{field-read, field-byte, bit-lowest}
use Rattle.identify_zns.proofs.zoned_page.read_zoned.Goals as goal

pub returns : goal.returns
returns c =
    let page = c.args.page.now in
    let cross = bit-lowest c.read_u16.result (field 2 2 page) (field-read 2 2 page _ c.read_u16.ensures) in
    let mar = field-read 4 4 page _ c.read_u32.ensures in
    let mor = field-read 4 8 page _ c.read_u32-2.ensures in
    let windows = field-read 4 44 page _ c.read_u32-3.ensures in
    let granule = field-read 2 48 page _ c.read_u16-2.ensures in
    let window = field-read 2 50 page _ c.read_u16-3.ensures in
    let explicit = bit-lowest (get_or page 52 0) (field 52 1 page) (field-byte 52 page) in
    let size = field-read 8 2816 page _ c.read_u64.ensures in
    rw (cross, mar, mor, windows, granule, window, explicit, size) refl
