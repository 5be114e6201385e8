use Rattle.std.proofs.Common.{rules, ◌≡◌, List, take, drop, ◌++◌, length, arith, sym, subst}
use Rattle.std.proofs.lemmas.List.{take_at}
use Rattle.zns_types.specs.declared.fields.GeometryFields.{GeometryFields}
use Rattle.zone_cell.specs.Cells.{Cell}
use Rattle.zone_model.specs.declared.act.Act.{Act}
use Rattle.drive_book.specs.declared.book.Book.{Book}
use Rattle.solo_drive.specs.Drives.{act_of}
use Rattle.solo_drive.specs.Parts.{PartsStand}
use Rattle.solo_drive.specs.Applying.{Applies}
use Rattle.zone_desk.specs.Serving.{HasServed}
use Rattle.zone_desk.proofs.Parts.{parts-stand, has-served}
use Rattle.zone_desk.proofs.serving.serve_on.Goals as goal

pub apply-requires-clause-parts : goal.apply-requires-clause-parts
apply-requires-clause-parts c =
    let g : GeometryFields = c.args.g.now.fields in
    let a : Act = act_of c.args.queue c.args.sqe c.args.payload in
    let q = c.requires in
    let same : c.deref_mut-ledger.result.now ≡ c.args.book.now = search rules in
    subst (λ (b : Book). PartsStand g a c.deref_mut.result.now b) (sym same)
    (subst (λ (cells : List Cell). PartsStand g a cells c.args.book.now) (sym c.deref_mut.ensures.value) (parts-stand g a c.args.cells.now.items c.args.book.now q.book q.cells q.lent))

pub returns-clause-served : goal.returns-clause-served
returns-clause-served c =
    let g : GeometryFields = c.args.g.now.fields in
    let a : Act = act_of c.args.queue c.args.sqe c.args.payload in
    let old : List Cell = c.args.cells.now.items in
    let cells : List Cell = c.apply.new.cells in
    let len : length cells ≡ c.args.cells.now.len = omega (arith, c.apply.auto.cells, c.deref_mut.ensures.len) in
    let whole : take c.args.cells.now.len (cells ++ drop (length cells) old) ≡ cells = take_at cells (drop (length cells) old) c.args.cells.now.len len in
    let same : c.deref_mut-ledger.result.now ≡ c.args.book.now = search rules in
    let applied = subst (λ (b : Book). Applies g a old cells b c.apply.new.book c.args.out.now c.apply.new.out c.apply.result) same
    (subst (λ (x : List Cell). Applies g a x cells c.deref_mut-ledger.result.now c.apply.new.book c.args.out.now c.apply.new.out c.apply.result) c.deref_mut.ensures.value c.apply.ensures) in
    subst (λ (x : List Cell). HasServed g a old x c.args.book.now c.apply.new.book c.args.out.now c.apply.new.out c.apply.result) (sym whole)
    (has-served g a old cells c.args.book.now c.apply.new.book c.args.out.now c.apply.new.out c.apply.result applied)
