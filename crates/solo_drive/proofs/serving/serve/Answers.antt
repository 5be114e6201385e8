use Rattle.std.proofs.Common.{sym, ap, ◌∙◌}
use Rattle.zns_types.specs.Rows.{first_holding}
use Rattle.sqe_codec.specs.declared.cmd.Cmd.{Cmd}
use Rattle.drive_rules.specs.Aims.{sweep_of}
use Rattle.drive_rules.specs.Tables.{front_rows}
use Rattle.solo_drive.proofs.Plain.{front-done}
use Rattle.solo_drive.proofs.Sweeps.{sweeps-of, sweep-done}
use Rattle.solo_drive.proofs.serving.serve.Goals as goal

pub returns-in-Some : goal.returns-in-Some
returns-in-Some c =
    let g = c.args.g.now.fields in
    let front = ap (λ (k : Cmd). first_holding (front_rows g k)) (sym c.read-command.ensures.command) ∙ sym c.check_front.ensures ∙ c.in-Some.is in
    front-done g c.args.act.now c.in-Some.code c.args.cells.now c.args.book.now c.args.out.now c.refused.result c.args.g.now.valid c.requires.parts front c.refused.ensures

pub serve_sweep-requires-clause-sent : goal.serve_sweep-requires-clause-sent
serve_sweep-requires-clause-sent c =
    let g = c.args.g.now.fields in
    let a = c.args.act.now in
    let cells = c.args.cells.now in
    let book = c.args.book.now in
    let passes = ap (λ (k : Cmd). first_holding (front_rows g k)) (sym c.read-command.ensures.command) ∙ sym c.check_front.ensures ∙ c.in_default.is in
    let asks = ap sweep_of (sym c.read-command.ensures.command) ∙ sym c.sweep_of.ensures ∙ c.in-Some-sweep_of.is in
    let k = sweeps-of g a c.in-Some-sweep_of.deed cells book c.args.g.now.valid c.requires.parts passes asks in
    k.command.goes

pub serve_sweep-requires-clause-zones : goal.serve_sweep-requires-clause-zones
serve_sweep-requires-clause-zones c =
    let g = c.args.g.now.fields in
    let a = c.args.act.now in
    let cells = c.args.cells.now in
    let book = c.args.book.now in
    let passes = ap (λ (k : Cmd). first_holding (front_rows g k)) (sym c.read-command.ensures.command) ∙ sym c.check_front.ensures ∙ c.in_default.is in
    let asks = ap sweep_of (sym c.read-command.ensures.command) ∙ sym c.sweep_of.ensures ∙ c.in-Some-sweep_of.is in
    let k = sweeps-of g a c.in-Some-sweep_of.deed cells book c.args.g.now.valid c.requires.parts passes asks in
    k.all

pub returns-in-Some-sweep_of : goal.returns-in-Some-sweep_of
returns-in-Some-sweep_of c =
    let g = c.args.g.now.fields in
    let a = c.args.act.now in
    let cells = c.args.cells.now in
    let book = c.args.book.now in
    let passes = ap (λ (k : Cmd). first_holding (front_rows g k)) (sym c.read-command.ensures.command) ∙ sym c.check_front.ensures ∙ c.in_default.is in
    let asks = ap sweep_of (sym c.read-command.ensures.command) ∙ sym c.sweep_of.ensures ∙ c.in-Some-sweep_of.is in
    let k = sweeps-of g a c.in-Some-sweep_of.deed cells book c.args.g.now.valid c.requires.parts passes asks in
    sweep-done g a c.in-Some-sweep_of.deed cells c.serve_sweep.new.cells book c.serve_sweep.new.book c.args.out.now c.serve_sweep.result k c.requires.lengths.payload c.serve_sweep.ensures
