use Rattle.std.proofs.Common.{◌-◌, Some, None, length, sym, ap, ◌∙◌, subst, arith}
use Rattle.zns_types.specs.Geometry.{zone_of}
use Rattle.zone_limits.specs.Resources.{no_need}
use Rattle.zone_model.specs.Answers.{answered}
use Rattle.drive_book.specs.declared.outcome.Outcome.{Outcome}
use Rattle.drive_book.specs.Books.{book_at}
use Rattle.solo_drive.specs.Drives.{act_of}
use Rattle.solo_drive.specs.Ahead.{Moves}
use Rattle.solo_drive.specs.Written.{ready_with}
use Rattle.solo_drive.proofs.Asking as asking
use Rattle.solo_drive.proofs.Moved.{parts-of}
use Rattle.solo_drive.proofs.PlainReads.{lent-read, cells-reach, read-room}
use Rattle.solo_drive.proofs.ReadyCases.{gone, passes-front, aims-at, aim-lent, front-moved, write-of, write-told, read-moved}
use Rattle.solo_drive.proofs.readying.ready.Goals as goal

pub returns-in-Some : goal.returns-in-Some
returns-in-Some c =
    let g = c.args.g.now.fields in
    let a = act_of c.args.queue c.args.sqe.now c.args.payload.now in
    let cells = c.args.cells.now in
    let valid = c.args.g.now.valid in
    let command = c.read-command.ensures.command in
    let ahead = gone g a cells c.read-command.result c.goes_ahead.result command c.goes_ahead.ensures c.if-not-goes_ahead.false in
    let holds = passes-front g a c.read-command.result c.check_front.result (Some c.in-Some.code) command c.check_front.ensures c.in-Some.is in
    let is = c.of.ensures ∙ ap (λ (o : Outcome). ready_with o no_need) c.refused.ensures in
    record {
      ahead = ahead;
      moves = subst (Moves g a cells cells c.args.out.now c.args.out.now) (sym is) (λ acts stand. front-moved g acts a c.in-Some.code cells c.args.out.now valid stand c.requires.lent ahead holds);
    }

pub bounds-cells-0 : goal.bounds-cells-0
bounds-cells-0 c =
    let g = c.args.g.now.fields in
    let a = act_of c.args.queue c.args.sqe.now c.args.payload.now in
    let cells = c.args.cells.now in
    let valid = c.args.g.now.valid in
    let command = c.read-command.ensures.command in
    let ahead = gone g a cells c.read-command.result c.goes_ahead.result command c.goes_ahead.ensures c.if-not-goes_ahead.false in
    let passes = passes-front g a c.read-command.result c.check_front.result None command c.check_front.ensures c.in_default.is in
    let aim = c.in-Some-aim_of.aim in
    let aims = aims-at g a c.read-command.result c.aim_of.result (Some aim) command c.aim_of.ensures.aim c.in-Some-aim_of.is in
    let below = c.in-Some-aim_of.ensures.within in
    let acts = c.requires.stand.acts in
    let m = aim-lent g acts a aim cells valid c.requires.stand.stand c.requires.lent aims below passes in
    asking.some-cell g (answered g acts) cells aim.zone m

pub overflow_sub-place : goal.overflow_sub-place
overflow_sub-place c =
    let g = c.args.g.now.fields in
    let a = act_of c.args.queue c.args.sqe.now c.args.payload.now in
    let cells = c.args.cells.now in
    let valid = c.args.g.now.valid in
    let command = c.read-command.ensures.command in
    let ahead = gone g a cells c.read-command.result c.goes_ahead.result command c.goes_ahead.ensures c.if-not-goes_ahead.false in
    let passes = passes-front g a c.read-command.result c.check_front.result None command c.check_front.ensures c.in_default.is in
    let aim = c.in-Some-aim_of.aim in
    let aims = aims-at g a c.read-command.result c.aim_of.result (Some aim) command c.aim_of.ensures.aim c.in-Some-aim_of.is in
    let below = c.in-Some-aim_of.ensures.within in
    let acts = c.requires.stand.acts in
    let m = aim-lent g acts a aim cells valid c.requires.stand.stand c.requires.lent aims below passes in
    let first = asking.first-zone g (answered g acts) cells aim.zone c.zone.result c.index-cells-0.result m c.zone.ensures in
    omega (arith, first, m.low)

pub bounds-cells-place : goal.bounds-cells-place
bounds-cells-place c =
    let g = c.args.g.now.fields in
    let a = act_of c.args.queue c.args.sqe.now c.args.payload.now in
    let cells = c.args.cells.now in
    let valid = c.args.g.now.valid in
    let command = c.read-command.ensures.command in
    let ahead = gone g a cells c.read-command.result c.goes_ahead.result command c.goes_ahead.ensures c.if-not-goes_ahead.false in
    let passes = passes-front g a c.read-command.result c.check_front.result None command c.check_front.ensures c.in_default.is in
    let aim = c.in-Some-aim_of.aim in
    let aims = aims-at g a c.read-command.result c.aim_of.result (Some aim) command c.aim_of.ensures.aim c.in-Some-aim_of.is in
    let below = c.in-Some-aim_of.ensures.within in
    let acts = c.requires.stand.acts in
    let m = aim-lent g acts a aim cells valid c.requires.stand.stand c.requires.lent aims below passes in
    let first = asking.first-zone g (answered g acts) cells aim.zone c.zone.result c.index-cells-0.result m c.zone.ensures in
    asking.place-within g (answered g acts) cells aim.zone c.zone.result m first

pub act_ahead-requires-clause-of : goal.act_ahead-requires-clause-of
act_ahead-requires-clause-of c =
    let g = c.args.g.now.fields in
    let a = act_of c.args.queue c.args.sqe.now c.args.payload.now in
    let cells = c.args.cells.now in
    let valid = c.args.g.now.valid in
    let command = c.read-command.ensures.command in
    let ahead = gone g a cells c.read-command.result c.goes_ahead.result command c.goes_ahead.ensures c.if-not-goes_ahead.false in
    let passes = passes-front g a c.read-command.result c.check_front.result None command c.check_front.ensures c.in_default.is in
    let aim = c.in-Some-aim_of.aim in
    let aims = aims-at g a c.read-command.result c.aim_of.result (Some aim) command c.aim_of.ensures.aim c.in-Some-aim_of.is in
    let below = c.in-Some-aim_of.ensures.within in
    let acts = c.requires.stand.acts in
    let m = aim-lent g acts a aim cells valid c.requires.stand.stand c.requires.lent aims below passes in
    let first = asking.first-zone g (answered g acts) cells aim.zone c.zone.result c.index-cells-0.result m c.zone.ensures in
    let within = asking.place-within g (answered g acts) cells aim.zone c.zone.result m first in
    asking.each-is_of g (book_at g acts 0) cells aim.zone valid m (aim.zone - c.zone.result) c.index-cells-place.result within

pub returns-in-Some-aim_of : goal.returns-in-Some-aim_of
returns-in-Some-aim_of c =
    let g = c.args.g.now.fields in
    let a = act_of c.args.queue c.args.sqe.now c.args.payload.now in
    let cells = c.args.cells.now in
    let valid = c.args.g.now.valid in
    let command = c.read-command.ensures.command in
    let ahead = gone g a cells c.read-command.result c.goes_ahead.result command c.goes_ahead.ensures c.if-not-goes_ahead.false in
    let passes = passes-front g a c.read-command.result c.check_front.result None command c.check_front.ensures c.in_default.is in
    let aim = c.in-Some-aim_of.aim in
    let aims = aims-at g a c.read-command.result c.aim_of.result (Some aim) command c.aim_of.ensures.aim c.in-Some-aim_of.is in
    let place = aim.zone - c.zone.result in
    record {
      ahead = ahead;
      moves = λ acts stand.
          let w = write-of g acts a aim cells c.zone.result c.index-cells-0.result valid stand c.requires.lent ahead c.requires.lengths.payload aims c.in-Some-aim_of.ensures.within passes c.zone.ensures in
          write-told g acts a aim cells place c.index-cells-place.result c.act_ahead.new.cell c.as_slice.result.now c.args.out.now c.act_ahead.result w c.as_slice.ensures c.act_ahead.ensures.cell c.act_ahead.ensures.ready;
    }

pub bounds-cells-0-in-Read : goal.bounds-cells-0-in-Read
bounds-cells-0-in-Read c =
    let g = c.args.g.now.fields in
    let a = act_of c.args.queue c.args.sqe.now c.args.payload.now in
    let cells = c.args.cells.now in
    let valid = c.args.g.now.valid in
    let command = c.read-command.ensures.command in
    let ahead = gone g a cells c.read-command.result c.goes_ahead.result command c.goes_ahead.ensures c.if-not-goes_ahead.false in
    let passes = passes-front g a c.read-command.result c.check_front.result None command c.check_front.ensures c.in_default.is in
    let plain = aims-at g a c.read-command.result c.aim_of.result None command c.aim_of.ensures.aim c.in_default-aim_of.is in
    let e = sym command ∙ c.in-Read.is in
    let acts = c.requires.stand.acts in
    let book = book_at g acts 0 in
    let l = lent-read g a cells book c.in-Read.nsid c.in-Read.slba c.in-Read.blocks valid (parts-of g acts a cells c.requires.stand.stand c.requires.lent) e passes in
    asking.some-cell g (answered g acts) cells (zone_of g c.in-Read.slba) l.among

pub read_blocks-outcome-requires-clause-of : goal.read_blocks-outcome-requires-clause-of
read_blocks-outcome-requires-clause-of c =
    let g = c.args.g.now.fields in
    let a = act_of c.args.queue c.args.sqe.now c.args.payload.now in
    let cells = c.args.cells.now in
    let valid = c.args.g.now.valid in
    let command = c.read-command.ensures.command in
    let ahead = gone g a cells c.read-command.result c.goes_ahead.result command c.goes_ahead.ensures c.if-not-goes_ahead.false in
    let passes = passes-front g a c.read-command.result c.check_front.result None command c.check_front.ensures c.in_default.is in
    let plain = aims-at g a c.read-command.result c.aim_of.result None command c.aim_of.ensures.aim c.in_default-aim_of.is in
    let e = sym command ∙ c.in-Read.is in
    let acts = c.requires.stand.acts in
    let book = book_at g acts 0 in
    let l = lent-read g a cells book c.in-Read.nsid c.in-Read.slba c.in-Read.blocks valid (parts-of g acts a cells c.requires.stand.stand c.requires.lent) e passes in
    asking.each-is_of g book cells (zone_of g c.in-Read.slba) valid l.among

pub read_blocks-outcome-requires-clause-reach : goal.read_blocks-outcome-requires-clause-reach
read_blocks-outcome-requires-clause-reach c =
    let g = c.args.g.now.fields in
    let a = act_of c.args.queue c.args.sqe.now c.args.payload.now in
    let cells = c.args.cells.now in
    let valid = c.args.g.now.valid in
    let command = c.read-command.ensures.command in
    let ahead = gone g a cells c.read-command.result c.goes_ahead.result command c.goes_ahead.ensures c.if-not-goes_ahead.false in
    let passes = passes-front g a c.read-command.result c.check_front.result None command c.check_front.ensures c.in_default.is in
    let plain = aims-at g a c.read-command.result c.aim_of.result None command c.aim_of.ensures.aim c.in_default-aim_of.is in
    let e = sym command ∙ c.in-Read.is in
    let acts = c.requires.stand.acts in
    let book = book_at g acts 0 in
    let l = lent-read g a cells book c.in-Read.nsid c.in-Read.slba c.in-Read.blocks valid (parts-of g acts a cells c.requires.stand.stand c.requires.lent) e passes in
    let first = asking.first-zone g (answered g acts) cells (zone_of g c.in-Read.slba) c.zone-first.result c.index-cells-0-in-Read.result l.among c.zone-first.ensures in
    cells-reach g (answered g acts) cells c.in-Read.slba c.in-Read.blocks c.zone-first.result l first

pub read_blocks-outcome-requires-clause-room : goal.read_blocks-outcome-requires-clause-room
read_blocks-outcome-requires-clause-room c =
    let g = c.args.g.now.fields in
    let a = act_of c.args.queue c.args.sqe.now c.args.payload.now in
    let cells = c.args.cells.now in
    let valid = c.args.g.now.valid in
    let command = c.read-command.ensures.command in
    let ahead = gone g a cells c.read-command.result c.goes_ahead.result command c.goes_ahead.ensures c.if-not-goes_ahead.false in
    let passes = passes-front g a c.read-command.result c.check_front.result None command c.check_front.ensures c.in_default.is in
    let plain = aims-at g a c.read-command.result c.aim_of.result None command c.aim_of.ensures.aim c.in_default-aim_of.is in
    let e = sym command ∙ c.in-Read.is in
    let acts = c.requires.stand.acts in
    let book = book_at g acts 0 in
    let l = lent-read g a cells book c.in-Read.nsid c.in-Read.slba c.in-Read.blocks valid (parts-of g acts a cells c.requires.stand.stand c.requires.lent) e passes in
    read-room g a c.in-Read.nsid c.in-Read.slba c.in-Read.blocks (length c.args.out.now) e passes c.requires.lengths.reply

pub returns : goal.returns
returns c =
    let g = c.args.g.now.fields in
    let a = act_of c.args.queue c.args.sqe.now c.args.payload.now in
    let cells = c.args.cells.now in
    let valid = c.args.g.now.valid in
    let command = c.read-command.ensures.command in
    let ahead = gone g a cells c.read-command.result c.goes_ahead.result command c.goes_ahead.ensures c.if-not-goes_ahead.false in
    let passes = passes-front g a c.read-command.result c.check_front.result None command c.check_front.ensures c.in_default.is in
    let plain = aims-at g a c.read-command.result c.aim_of.result None command c.aim_of.ensures.aim c.in_default-aim_of.is in
    let e = sym command ∙ c.in-Read.is in
    let acts = c.requires.stand.acts in
    let book = book_at g acts 0 in
    let l = lent-read g a cells book c.in-Read.nsid c.in-Read.slba c.in-Read.blocks valid (parts-of g acts a cells c.requires.stand.stand c.requires.lent) e passes in
    let room = read-room g a c.in-Read.nsid c.in-Read.slba c.in-Read.blocks (length c.args.out.now) e passes c.requires.lengths.reply in
    record {
      ahead = ahead;
      moves = subst (Moves g a cells cells c.args.out.now c.read_blocks-outcome.new.out) (sym c.of-in-Read.ensures) (λ others stand.
          read-moved g others a cells c.in-Read.nsid c.in-Read.slba c.in-Read.blocks c.zone-first.result c.index-cells-0-in-Read.result c.args.out.now c.read_blocks-outcome.new.out c.read_blocks-outcome.result valid stand c.requires.lent ahead e passes plain
          c.zone-first.ensures c.read_blocks-outcome.auto.out room c.read_blocks-outcome.ensures);
    }
