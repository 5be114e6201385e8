use Rattle.std.proofs.Common.{◌≡◌, ◌+◌, ◌*◌, ◌-◌, ap, sym, ◌∙◌, arith}
use Rattle.std.proofs.Math.Nat.{add-mul}
use Rattle.std.proofs.lemmas.List.{length-take, length-drop}
use Rattle.zone_cell.specs.Cells.{Cell}
use Rattle.written_blocks.specs.Marks.{holes}
use Rattle.zone_cell.proofs.Views.{marks_of, marks_are, run_stands, run_ends}
use Rattle.zone_cell.proofs.cell.ZoneCell.run.Goals.{then-count-eq0-via-then-count-eq0, then-count-eq0-via-else-count-eq0+then-end-from}
use Rattle.zone_cell.proofs.cell.ZoneCell.run.Goals as goal

pub place-requires : goal.place-requires
place-requires c = omega (arith, marks_of c.self.inside c.args.self.now c.self.view_is)

pub place-requires-2 : goal.place-requires-2
place-requires-2 c = omega (arith, marks_of c.self.inside c.args.self.now c.self.view_is)

pub returns-clause-bytes : goal.returns-clause-bytes
returns-clause-bytes c =
    let len : c.args.self.now.block_len ≡ c.self.inside.block_len = ap (λ (z : Cell). z.block_len) (sym c.self.view_is) in
    let at : c.place.result ≡ c.args.from * c.self.inside.block_len = rw len at c.place.ensures.exact in
    let end : c.place-2.result ≡ (c.args.from + c.from.result) * c.self.inside.block_len = rw len at c.place-2.ensures.exact in
    let size : c.place-2.result - c.place.result ≡ c.from.result * c.self.inside.block_len = omega (arith, add-mul c.args.from c.from.result c.self.inside.block_len) in
    let none : c.holes-holes.result ≡ 0 = omega arith in
    rw (size, at, c.deref.ensures.value, ← c.from.ensures) (run_stands c.self.inside c.args.self.now c.args.from c.from.result c.self.view_is (omega arith) (sym c.holes-holes.ensures ∙ none))

pub slice_bounds-result-end : goal.slice_bounds-result-end
slice_bounds-result-end c =
    let len : c.args.self.now.block_len ≡ c.self.inside.block_len = ap (λ (z : Cell). z.block_len) (sym c.self.view_is) in
    let end : c.place-2.result ≡ (c.args.from + c.from.result) * c.self.inside.block_len = rw len at c.place-2.ensures.exact in
    let none : c.holes-holes.result ≡ 0 = omega arith in
    omega (arith, run_ends c.self.inside c.args.self.now c.args.from c.from.result c.self.view_is c.self.invariant (omega arith) (omega arith) (sym c.holes-holes.ensures ∙ none))

pub returns-clause-len : goal.returns-clause-len
returns-clause-len c =
    let len : c.args.self.now.block_len ≡ c.self.inside.block_len = ap (λ (z : Cell). z.block_len) (sym c.self.view_is) in
    let at : c.place.result ≡ c.args.from * c.self.inside.block_len = rw len at c.place.ensures.exact in
    let end : c.place-2.result ≡ (c.args.from + c.from.result) * c.self.inside.block_len = rw len at c.place-2.ensures.exact in
    let none : c.holes-holes.result ≡ 0 = omega arith in
    let ends = run_ends c.self.inside c.args.self.now c.args.from c.from.result c.self.view_is c.self.invariant (omega arith) (omega arith) (sym c.holes-holes.ensures ∙ none) in
    rw (len, ← c.from.ensures) (simp (length-take, length-drop) (omega (arith, ends, add-mul c.args.from c.from.result c.self.inside.block_len)))

pub returns-then-count-eq0-clause-whole : goal.returns-then-count-eq0-clause-whole
returns-then-count-eq0-clause-whole c = λ some whole.
    elim c.then-count-eq0.branch [
      | then-count-eq0-via-then-count-eq0 w ↦ absurd (omega arith)
      | then-count-eq0-via-else-count-eq0+then-end-from w ↦ absurd (omega (arith, whole.within, marks_of c.self.inside c.args.self.now c.self.view_is))
    ]

pub returns-then-holes-gt0-clause-whole : goal.returns-then-holes-gt0-clause-whole
returns-then-holes-gt0-clause-whole c = λ some whole.
    let unmarked : holes c.self.inside.written c.args.from (c.args.from + c.args.count) ≡ 0 = rw (marks_are c.self.inside c.args.self.now c.self.view_is) whole.no_hole in
    let found : c.holes-holes.result ≡ 0 = c.holes-holes.ensures ∙ rw c.from.ensures unmarked in
    absurd (omega (arith, found))
