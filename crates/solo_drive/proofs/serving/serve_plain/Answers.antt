use Rattle.std.proofs.Common.{ℕ, length, sym, ap, ◌∙◌}
use Rattle.zone_cell.specs.Cells.{Cell}
use Rattle.zone_model.specs.Places.{command_of}
use Rattle.zns_types.specs.Geometry.{zone_of}
use Rattle.zns_types.specs.Rows.{first_holding}
use Rattle.sqe_codec.specs.declared.cmd.Cmd.{Cmd}
use Rattle.drive_rules.specs.Aims.{aim_of, sweep_of}
use Rattle.drive_rules.specs.Tables.{front_rows}
use Rattle.solo_drive.proofs.Asking as asking
use Rattle.solo_drive.specs.Noticing.{after_ask}
use Rattle.solo_drive.proofs.Plain.{IsOther, other-quiet, quiet-done}
use Rattle.solo_drive.proofs.PlainReports.{can-report, receive-done}
use Rattle.solo_drive.proofs.PlainPages.{has-page, page-room, identify-done}
use Rattle.solo_drive.proofs.Noted.{log-zones, log-few, log-room, log-done, set-feature-done, get-feature-done, ask-done}
use Rattle.solo_drive.proofs.PlainReads.{lent-read, cells-reach, read-room, lent-read-done}
use Rattle.solo_drive.proofs.serving.serve_plain.Goals as goal

pub bounds-cells-0 : goal.bounds-cells-0
bounds-cells-0 c =
    let g = c.args.g.now.fields in
    let a = c.args.act.now in
    let cells = c.args.cells.now in
    let book = c.args.book.now in
    let valid = c.args.g.now.valid in
    let passes = ap (λ (k : Cmd). first_holding (front_rows g k)) (sym c.requires.command) ∙ c.requires.passes in
    let aim = ap (aim_of g) (sym c.requires.command) ∙ c.requires.aim in
    let command = sym c.requires.command ∙ c.in-Read.is in
    let l = lent-read g a cells book c.in-Read.nsid c.in-Read.slba c.in-Read.blocks valid c.requires.parts command passes in
    asking.some-cell g _ cells (zone_of g c.in-Read.slba) l.among

pub read_blocks-requires-clause-of : goal.read_blocks-requires-clause-of
read_blocks-requires-clause-of c =
    let g = c.args.g.now.fields in
    let a = c.args.act.now in
    let cells = c.args.cells.now in
    let book = c.args.book.now in
    let valid = c.args.g.now.valid in
    let passes = ap (λ (k : Cmd). first_holding (front_rows g k)) (sym c.requires.command) ∙ c.requires.passes in
    let aim = ap (aim_of g) (sym c.requires.command) ∙ c.requires.aim in
    let command = sym c.requires.command ∙ c.in-Read.is in
    let l = lent-read g a cells book c.in-Read.nsid c.in-Read.slba c.in-Read.blocks valid c.requires.parts command passes in
    asking.each-is_of g book cells (zone_of g c.in-Read.slba) valid l.among

pub read_blocks-requires-clause-reach : goal.read_blocks-requires-clause-reach
read_blocks-requires-clause-reach c =
    let g = c.args.g.now.fields in
    let a = c.args.act.now in
    let cells = c.args.cells.now in
    let book = c.args.book.now in
    let valid = c.args.g.now.valid in
    let passes = ap (λ (k : Cmd). first_holding (front_rows g k)) (sym c.requires.command) ∙ c.requires.passes in
    let aim = ap (aim_of g) (sym c.requires.command) ∙ c.requires.aim in
    let command = sym c.requires.command ∙ c.in-Read.is in
    let l = lent-read g a cells book c.in-Read.nsid c.in-Read.slba c.in-Read.blocks valid c.requires.parts command passes in
    let first = asking.first-zone g _ cells (zone_of g c.in-Read.slba) c.zone-first.result c.index-cells-0.result l.among (c.zone-first.ensures ∙ ap (λ (x : Cell). x.zone) c.index-cells-0.is) in
    cells-reach g _ cells c.in-Read.slba c.in-Read.blocks c.zone-first.result l first

pub returns-in-Read : goal.returns-in-Read
returns-in-Read c =
    let g = c.args.g.now.fields in
    let a = c.args.act.now in
    let cells = c.args.cells.now in
    let book = c.args.book.now in
    let valid = c.args.g.now.valid in
    let passes = ap (λ (k : Cmd). first_holding (front_rows g k)) (sym c.requires.command) ∙ c.requires.passes in
    let aim = ap (aim_of g) (sym c.requires.command) ∙ c.requires.aim in
    let command = sym c.requires.command ∙ c.in-Read.is in
    let l = lent-read g a cells book c.in-Read.nsid c.in-Read.slba c.in-Read.blocks valid c.requires.parts command passes in
    let first = asking.first-zone g _ cells (zone_of g c.in-Read.slba) c.zone-first.result c.index-cells-0.result l.among (c.zone-first.ensures ∙ ap (λ (x : Cell). x.zone) c.index-cells-0.is) in
    lent-read-done g a cells book c.in-Read.nsid c.in-Read.slba c.in-Read.blocks c.zone-first.result c.args.out.now c.read_blocks.new.out c.read_blocks.result valid c.requires.parts command passes aim l first
    c.read_blocks.auto.out (read-room g a c.in-Read.nsid c.in-Read.slba c.in-Read.blocks (length c.args.out.now) command passes c.requires.lengths.reply) c.read_blocks.ensures

pub serve_receive-requires-clause-all : goal.serve_receive-requires-clause-all
serve_receive-requires-clause-all c =
    let g = c.args.g.now.fields in
    let a = c.args.act.now in
    let cells = c.args.cells.now in
    let book = c.args.book.now in
    let valid = c.args.g.now.valid in
    let passes = ap (λ (k : Cmd). first_holding (front_rows g k)) (sym c.requires.command) ∙ c.requires.passes in
    let aim = ap (aim_of g) (sym c.requires.command) ∙ c.requires.aim in
    let command = sym c.requires.command ∙ c.in-Receive.is in
    let can = can-report g a cells book c.in-Receive.nsid c.in-Receive.slba c.in-Receive.bytes c.in-Receive.action c.in-Receive.filter c.in-Receive.partial (length c.args.out.now) valid c.requires.parts command passes c.requires.lengths.reply in
    can.all

pub serve_receive-requires-clause-of : goal.serve_receive-requires-clause-of
serve_receive-requires-clause-of c =
    let g = c.args.g.now.fields in
    let a = c.args.act.now in
    let cells = c.args.cells.now in
    let book = c.args.book.now in
    let valid = c.args.g.now.valid in
    let passes = ap (λ (k : Cmd). first_holding (front_rows g k)) (sym c.requires.command) ∙ c.requires.passes in
    let aim = ap (aim_of g) (sym c.requires.command) ∙ c.requires.aim in
    let command = sym c.requires.command ∙ c.in-Receive.is in
    let can = can-report g a cells book c.in-Receive.nsid c.in-Receive.slba c.in-Receive.bytes c.in-Receive.action c.in-Receive.filter c.in-Receive.partial (length c.args.out.now) valid c.requires.parts command passes c.requires.lengths.reply in
    can.of

pub serve_receive-requires-clause-within : goal.serve_receive-requires-clause-within
serve_receive-requires-clause-within c =
    let g = c.args.g.now.fields in
    let a = c.args.act.now in
    let cells = c.args.cells.now in
    let book = c.args.book.now in
    let valid = c.args.g.now.valid in
    let passes = ap (λ (k : Cmd). first_holding (front_rows g k)) (sym c.requires.command) ∙ c.requires.passes in
    let aim = ap (aim_of g) (sym c.requires.command) ∙ c.requires.aim in
    let command = sym c.requires.command ∙ c.in-Receive.is in
    let can = can-report g a cells book c.in-Receive.nsid c.in-Receive.slba c.in-Receive.bytes c.in-Receive.action c.in-Receive.filter c.in-Receive.partial (length c.args.out.now) valid c.requires.parts command passes c.requires.lengths.reply in
    can.within

pub serve_receive-requires-clause-few : goal.serve_receive-requires-clause-few
serve_receive-requires-clause-few c =
    let g = c.args.g.now.fields in
    let a = c.args.act.now in
    let cells = c.args.cells.now in
    let book = c.args.book.now in
    let valid = c.args.g.now.valid in
    let passes = ap (λ (k : Cmd). first_holding (front_rows g k)) (sym c.requires.command) ∙ c.requires.passes in
    let aim = ap (aim_of g) (sym c.requires.command) ∙ c.requires.aim in
    let command = sym c.requires.command ∙ c.in-Receive.is in
    let can = can-report g a cells book c.in-Receive.nsid c.in-Receive.slba c.in-Receive.bytes c.in-Receive.action c.in-Receive.filter c.in-Receive.partial (length c.args.out.now) valid c.requires.parts command passes c.requires.lengths.reply in
    can.few

pub serve_receive-requires-clause-room : goal.serve_receive-requires-clause-room
serve_receive-requires-clause-room c =
    let g = c.args.g.now.fields in
    let a = c.args.act.now in
    let cells = c.args.cells.now in
    let book = c.args.book.now in
    let valid = c.args.g.now.valid in
    let passes = ap (λ (k : Cmd). first_holding (front_rows g k)) (sym c.requires.command) ∙ c.requires.passes in
    let aim = ap (aim_of g) (sym c.requires.command) ∙ c.requires.aim in
    let command = sym c.requires.command ∙ c.in-Receive.is in
    let can = can-report g a cells book c.in-Receive.nsid c.in-Receive.slba c.in-Receive.bytes c.in-Receive.action c.in-Receive.filter c.in-Receive.partial (length c.args.out.now) valid c.requires.parts command passes c.requires.lengths.reply in
    can.room

pub returns-in-Receive : goal.returns-in-Receive
returns-in-Receive c =
    let g = c.args.g.now.fields in
    let a = c.args.act.now in
    let cells = c.args.cells.now in
    let book = c.args.book.now in
    let valid = c.args.g.now.valid in
    let passes = ap (λ (k : Cmd). first_holding (front_rows g k)) (sym c.requires.command) ∙ c.requires.passes in
    let aim = ap (aim_of g) (sym c.requires.command) ∙ c.requires.aim in
    let command = sym c.requires.command ∙ c.in-Receive.is in
    let can = can-report g a cells book c.in-Receive.nsid c.in-Receive.slba c.in-Receive.bytes c.in-Receive.action c.in-Receive.filter c.in-Receive.partial (length c.args.out.now) valid c.requires.parts command passes c.requires.lengths.reply in
    receive-done g a cells book c.in-Receive.nsid c.in-Receive.slba c.in-Receive.bytes c.in-Receive.action c.in-Receive.filter c.in-Receive.partial c.args.out.now c.serve_receive.new.out c.serve_receive.result valid c.requires.parts command passes
    c.serve_receive.auto.out can.room c.serve_receive.ensures.outcome c.serve_receive.ensures.read

pub serve_identify-requires-clause-page : goal.serve_identify-requires-clause-page
serve_identify-requires-clause-page c =
    let g = c.args.g.now.fields in
    let a = c.args.act.now in
    let cells = c.args.cells.now in
    let book = c.args.book.now in
    let valid = c.args.g.now.valid in
    let passes = ap (λ (k : Cmd). first_holding (front_rows g k)) (sym c.requires.command) ∙ c.requires.passes in
    let aim = ap (aim_of g) (sym c.requires.command) ∙ c.requires.aim in
    let command = sym c.requires.command ∙ c.in-Identify.is in
    has-page g a c.in-Identify.nsid c.in-Identify.cns c.in-Identify.csi command passes

pub serve_identify-requires-clause-room : goal.serve_identify-requires-clause-room
serve_identify-requires-clause-room c =
    let g = c.args.g.now.fields in
    let a = c.args.act.now in
    let cells = c.args.cells.now in
    let book = c.args.book.now in
    let valid = c.args.g.now.valid in
    let passes = ap (λ (k : Cmd). first_holding (front_rows g k)) (sym c.requires.command) ∙ c.requires.passes in
    let aim = ap (aim_of g) (sym c.requires.command) ∙ c.requires.aim in
    let command = sym c.requires.command ∙ c.in-Identify.is in
    page-room g a c.in-Identify.nsid c.in-Identify.cns c.in-Identify.csi (length c.args.out.now) command c.requires.lengths.reply

pub returns-in-Identify : goal.returns-in-Identify
returns-in-Identify c =
    let g = c.args.g.now.fields in
    let a = c.args.act.now in
    let cells = c.args.cells.now in
    let book = c.args.book.now in
    let valid = c.args.g.now.valid in
    let passes = ap (λ (k : Cmd). first_holding (front_rows g k)) (sym c.requires.command) ∙ c.requires.passes in
    let aim = ap (aim_of g) (sym c.requires.command) ∙ c.requires.aim in
    let command = sym c.requires.command ∙ c.in-Identify.is in
    identify-done g a cells book c.in-Identify.nsid c.in-Identify.cns c.in-Identify.csi c.args.out.now c.serve_identify.new.out c.serve_identify.result valid c.requires.parts command passes
    c.serve_identify.auto.out (page-room g a c.in-Identify.nsid c.in-Identify.cns c.in-Identify.csi (length c.args.out.now) command c.requires.lengths.reply) c.serve_identify.ensures.outcome c.serve_identify.ensures.read

pub read_log-requires-clause-zones : goal.read_log-requires-clause-zones
read_log-requires-clause-zones c =
    let g = c.args.g.now.fields in
    let a = c.args.act.now in
    let cells = c.args.cells.now in
    let book = c.args.book.now in
    let valid = c.args.g.now.valid in
    let passes = ap (λ (k : Cmd). first_holding (front_rows g k)) (sym c.requires.command) ∙ c.requires.passes in
    let aim = ap (aim_of g) (sym c.requires.command) ∙ c.requires.aim in
    let command = sym c.requires.command ∙ c.in-GetLog.is in
    log-zones g a cells book c.requires.parts

pub read_log-requires-clause-few : goal.read_log-requires-clause-few
read_log-requires-clause-few c =
    let g = c.args.g.now.fields in
    let a = c.args.act.now in
    let cells = c.args.cells.now in
    let book = c.args.book.now in
    let valid = c.args.g.now.valid in
    let passes = ap (λ (k : Cmd). first_holding (front_rows g k)) (sym c.requires.command) ∙ c.requires.passes in
    let aim = ap (aim_of g) (sym c.requires.command) ∙ c.requires.aim in
    let command = sym c.requires.command ∙ c.in-GetLog.is in
    log-few g a c.in-GetLog.nsid c.in-GetLog.page c.in-GetLog.bytes c.in-GetLog.offset c.in-GetLog.retain valid command passes

pub read_log-requires-clause-room : goal.read_log-requires-clause-room
read_log-requires-clause-room c =
    let g = c.args.g.now.fields in
    let a = c.args.act.now in
    let cells = c.args.cells.now in
    let book = c.args.book.now in
    let valid = c.args.g.now.valid in
    let passes = ap (λ (k : Cmd). first_holding (front_rows g k)) (sym c.requires.command) ∙ c.requires.passes in
    let aim = ap (aim_of g) (sym c.requires.command) ∙ c.requires.aim in
    let command = sym c.requires.command ∙ c.in-GetLog.is in
    log-room g a c.in-GetLog.nsid c.in-GetLog.page c.in-GetLog.bytes c.in-GetLog.offset (length c.args.out.now) c.in-GetLog.retain command passes c.requires.lengths.reply

pub returns-in-GetLog : goal.returns-in-GetLog
returns-in-GetLog c =
    let g = c.args.g.now.fields in
    let a = c.args.act.now in
    let cells = c.args.cells.now in
    let book = c.args.book.now in
    let valid = c.args.g.now.valid in
    let passes = ap (λ (k : Cmd). first_holding (front_rows g k)) (sym c.requires.command) ∙ c.requires.passes in
    let aim = ap (aim_of g) (sym c.requires.command) ∙ c.requires.aim in
    let command = sym c.requires.command ∙ c.in-GetLog.is in
    log-done g a cells book c.read_log.new.book c.in-GetLog.nsid c.in-GetLog.page c.in-GetLog.bytes c.in-GetLog.offset c.in-GetLog.retain c.args.out.now c.read_log.new.out c.read_log.result valid c.requires.parts command passes
    c.read_log.ensures.outcome c.read_log.ensures.book c.read_log.ensures.read

pub returns-in-SetFeature : goal.returns-in-SetFeature
returns-in-SetFeature c =
    let g = c.args.g.now.fields in
    let a = c.args.act.now in
    let cells = c.args.cells.now in
    let book = c.args.book.now in
    let valid = c.args.g.now.valid in
    let passes = ap (λ (k : Cmd). first_holding (front_rows g k)) (sym c.requires.command) ∙ c.requires.passes in
    let aim = ap (aim_of g) (sym c.requires.command) ∙ c.requires.aim in
    set-feature-done g a cells book c.set_feature.new.book c.in-SetFeature.feature c.in-SetFeature.value c.args.out.now c.set_feature.result valid c.requires.parts (sym c.requires.command ∙ c.in-SetFeature.is) passes c.set_feature.ensures.outcome c.set_feature.ensures.book

pub returns-in-GetFeature : goal.returns-in-GetFeature
returns-in-GetFeature c =
    let g = c.args.g.now.fields in
    let a = c.args.act.now in
    let cells = c.args.cells.now in
    let book = c.args.book.now in
    let valid = c.args.g.now.valid in
    let passes = ap (λ (k : Cmd). first_holding (front_rows g k)) (sym c.requires.command) ∙ c.requires.passes in
    let aim = ap (aim_of g) (sym c.requires.command) ∙ c.requires.aim in
    get-feature-done g a cells book c.in-GetFeature.feature c.args.out.now c.get_feature.result valid c.requires.parts (sym c.requires.command ∙ c.in-GetFeature.is) passes c.get_feature.ensures

pub returns-in-Event : goal.returns-in-Event
returns-in-Event c =
    let g = c.args.g.now.fields in
    let a = c.args.act.now in
    let cells = c.args.cells.now in
    let book = c.args.book.now in
    let valid = c.args.g.now.valid in
    let passes = ap (λ (k : Cmd). first_holding (front_rows g k)) (sym c.requires.command) ∙ c.requires.passes in
    let aim = ap (aim_of g) (sym c.requires.command) ∙ c.requires.aim in
    ask-done g a cells book c.ask.new.book c.args.out.now c.ask.result c.requires.parts (sym c.requires.command ∙ c.in-Event.is) c.ask.ensures.outcome (c.ask.ensures.book ∙ ap (λ (n : ℕ). after_ask n book) c.cid.ensures)

pub returns-in_default : goal.returns-in_default
returns-in_default c =
    let g = c.args.g.now.fields in
    let a = c.args.act.now in
    let cells = c.args.cells.now in
    let book = c.args.book.now in
    let valid = c.args.g.now.valid in
    let passes = ap (λ (k : Cmd). first_holding (front_rows g k)) (sym c.requires.command) ∙ c.requires.passes in
    let aim = ap (aim_of g) (sym c.requires.command) ∙ c.requires.aim in
    let other : IsOther (command_of a) = record {
      read = λ nsid slba blocks e. c.in_default.not-Read nsid slba blocks (c.requires.command ∙ e);
      receive = λ nsid slba bytes act filter partial e. c.in_default.not-Receive nsid slba bytes act filter partial (c.requires.command ∙ e);
      identify = λ nsid cns csi e. c.in_default.not-Identify nsid cns csi (c.requires.command ∙ e);
      log = λ nsid page bytes offset retain e. c.in_default.not-GetLog nsid page bytes offset retain (c.requires.command ∙ e);
      set = λ feature value e. c.in_default.not-SetFeature feature value (c.requires.command ∙ e);
      get = λ feature e. c.in_default.not-GetFeature feature (c.requires.command ∙ e);
      ask = λ e. c.in_default.not-Event (c.requires.command ∙ e);
    } in
    let sweep = ap sweep_of (sym c.requires.command) ∙ c.requires.sweep in
    quiet-done g a cells book c.args.out.now c.done.result valid c.requires.parts passes aim sweep (other-quiet (command_of a) other) c.done.ensures
