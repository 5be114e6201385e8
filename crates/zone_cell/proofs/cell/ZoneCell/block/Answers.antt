use Rattle.std.proofs.Common.{◌≡◌, ◌+◌, ◌*◌, ◌-◌, ap, sym, arith}
use Rattle.std.proofs.Math.Nat.{add-mul}
use Rattle.zone_cell.specs.Cells.{Cell}
use Rattle.zone_cell.proofs.Views.{marks_of, block_within, block_stands, block_ends}
use Rattle.zone_cell.proofs.cell.ZoneCell.block.Goals as goal

pub place-requires : goal.place-requires
place-requires c =
    let lt = block_within c.self.inside c.args.self.now c.args.block c.self.view_is c.if-not-is_written.ensures in
    omega (arith, marks_of c.self.inside c.args.self.now c.self.view_is)

pub place-requires-2 : goal.place-requires-2
place-requires-2 c =
    let lt = block_within c.self.inside c.args.self.now c.args.block c.self.view_is c.if-not-is_written.ensures in
    omega (arith, marks_of c.self.inside c.args.self.now c.self.view_is)

pub slice_bounds-result-end : goal.slice_bounds-result-end
slice_bounds-result-end c =
    let len : c.self.inside.block_len ≡ c.args.self.now.block_len = ap (λ (z : Cell). z.block_len) c.self.view_is in
    let e = rw len at (block_ends c.self.inside c.args.self.now c.args.block c.self.view_is c.self.invariant c.if-not-is_written.ensures) in
    omega (arith, e)

pub returns-clause-bytes : goal.returns-clause-bytes
returns-clause-bytes c =
    let len : c.args.self.now.block_len ≡ c.self.inside.block_len = ap (λ (z : Cell). z.block_len) (sym c.self.view_is) in
    let at : c.place.result ≡ c.args.block * c.self.inside.block_len = rw len at c.place.ensures.exact in
    let end : c.place-2.result ≡ (c.args.block + 1) * c.self.inside.block_len = rw len at c.place-2.ensures.exact in
    let size : c.place-2.result - c.place.result ≡ c.self.inside.block_len = omega (arith, add-mul c.args.block 1 c.self.inside.block_len) in
    rw (size, at, c.deref.ensures.value) (block_stands c.self.inside c.args.self.now c.args.block c.self.view_is c.if-not-is_written.ensures)
