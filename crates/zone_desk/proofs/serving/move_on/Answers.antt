use Rattle.std.proofs.Common.{◌≡◌, List, take, drop, ◌++◌, length, arith, sym, subst}
use Rattle.std.proofs.lemmas.List.{take_at}
use Rattle.zns_types.specs.declared.fields.GeometryFields.{GeometryFields}
use Rattle.zone_cell.specs.Cells.{Cell}
use Rattle.zone_model.specs.declared.act.Act.{Act}
use Rattle.solo_drive.specs.Drives.{act_of}
use Rattle.solo_drive.specs.Parts.{zones_in, AreLent}
use Rattle.solo_drive.specs.Ahead.{HaveHistory, Readies}
use Rattle.zone_desk.proofs.serving.move_on.Goals as goal

pub ready-requires-clause-stand : goal.ready-requires-clause-stand
ready-requires-clause-stand c = subst (λ (cells : List Cell). HaveHistory c.args.g.now.fields cells) (sym c.deref_mut.ensures.value) c.requires.stand

pub ready-requires-clause-lent : goal.ready-requires-clause-lent
ready-requires-clause-lent c =
    let a : Act = act_of c.args.queue c.args.sqe c.args.payload.now in
    subst (λ (cells : List Cell). AreLent c.args.g.now.fields a (zones_in cells)) (sym c.deref_mut.ensures.value) c.requires.lent

pub returns-clause-moved : goal.returns-clause-moved
returns-clause-moved c =
    let g : GeometryFields = c.args.g.now.fields in
    let a : Act = act_of c.args.queue c.args.sqe c.args.payload.now in
    let old : List Cell = c.args.cells.now.items in
    let cells : List Cell = c.ready.new.cells in
    let len : length cells ≡ c.args.cells.now.len = omega (arith, c.ready.auto.cells, c.deref_mut.ensures.len) in
    let whole : take c.args.cells.now.len (cells ++ drop (length cells) old) ≡ cells = take_at cells (drop (length cells) old) c.args.cells.now.len len in
    subst (λ (x : List Cell). Readies g a old x c.args.out.now c.ready.new.out c.ready.result) (sym whole)
    (subst (λ (x : List Cell). Readies g a x cells c.args.out.now c.ready.new.out c.ready.result) c.deref_mut.ensures.value c.ready.ensures)
