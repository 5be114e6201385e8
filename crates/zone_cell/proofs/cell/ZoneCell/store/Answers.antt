use Rattle.std.proofs.Common.{◌≡◌, ◌+◌, ◌≤◌, ◌*◌, ◌/◌, length, sym, ap, arith, vec_len, vec_capacity}
use Rattle.zone_cell.specs.Cells.{Cell}
use Rattle.zone_cell.proofs.Views.{end_within, end_is, marks_of, stored, sound_stored}
use Rattle.zone_cell.proofs.cell.ZoneCell.store.Goals as goal

pub lay-requires : goal.lay-requires
lay-requires c =
    let e = end_within c.self.inside c.args.self.now c.args.from (length c.args.payload.now) c.self.view_is c.requires.within c.requires.blocks.whole in
    omega (arith, e, c.self.invariant.room)

pub mark-requires : goal.mark-requires
mark-requires c =
    let len : c.args.self.now.block_len ≡ c.self.inside.block_len = ap (λ (z : Cell). z.block_len) (sym c.self.view_is) in
    let within : c.args.from + length c.args.payload.now / c.self.inside.block_len ≤ length c.args.self.now.blocks = rw len at c.requires.within in
    omega (arith, marks_of c.self.inside c.args.self.now c.self.view_is)

pub overflow_cast-count-2 : goal.overflow_cast-count-2
overflow_cast-count-2 c =
    let len : c.args.self.now.block_len ≡ c.self.inside.block_len = ap (λ (z : Cell). z.block_len) (sym c.self.view_is) in
    let within : c.args.from + length c.args.payload.now / c.self.inside.block_len ≤ length c.args.self.now.blocks = rw len at c.requires.within in
    omega (arith, marks_of c.self.inside c.args.self.now c.self.view_is)

pub returns : goal.returns
returns c =
    rw c.mark.ensures.after
    (stored c.self.inside c.args.self.now c.args.from c.place-place.result c.args.payload.now c.lay.new.bytes.items c.self.view_is c.self.invariant c.requires.within c.requires.blocks.whole c.place-place.ensures.exact c.lay.ensures.laid)

pub invariant_of-self : goal.invariant_of-self
invariant_of-self c =
    let a = c.self.inside in
    let size = length c.args.payload.now in
    let len : c.args.self.now.block_len ≡ a.block_len = ap (λ (z : Cell). z.block_len) (sym c.self.view_is) in
    let within : c.args.from + size / a.block_len ≤ length c.args.self.now.blocks = rw len at c.requires.within in
    let at : c.place-place.result ≡ c.args.from * a.block_len = rw len at c.place-place.ensures.exact in
    let whole : size / a.block_len * a.block_len ≡ size = rw len at c.requires.blocks.whole in
    let end = end_is a.block_len c.args.from (size / a.block_len) c.place-place.result size at whole in
    rw c.mark.ensures.after
    (sound_stored a.block_len a.pointer (vec_len a.bytes) (vec_len c.lay.new.bytes) (vec_capacity a.bytes) (vec_capacity c.lay.new.bytes) c.args.from (size / a.block_len) a.written c.self.invariant (omega (arith, marks_of a c.args.self.now c.self.view_is))
    (rw (← end) c.lay.ensures.len) c.lay.ensures.room)
