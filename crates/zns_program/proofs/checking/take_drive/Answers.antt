use Rattle.std.proofs.Common.{◌≡◌, List, ℕ, ◌++◌, ap, ◌∙◌}
use Rattle.std.proofs.lemmas.Result.{err_from_is_err_and}
use Rattle.drive_rules.specs.Reports.{changed_page}
use Rattle.solo_drive.specs.Drives.{changed_zones}
use Rattle.zns_program.specs.Checking.{drive_bytes}
use Rattle.zns_program.proofs.Checked.{stops_sooner, both_come, both_stop}
use Rattle.zns_program.proofs.checking.take_drive.Goals as goal

pub returns-in_err-take_bytes-clause-stops : goal.returns-in_err-take_bytes-clause-stops
returns-in_err-take_bytes-clause-stops g c =
    let p = err_from_is_err_and c.from_residual-in_err-take_bytes.result c.from_residual-in_err-take_bytes.ensures.1 in
    let drive = c.args.drive.now in
    let page = changed_page drive.geometry (changed_zones drive) in
    let whole : c.deref.result.now ++ page ≡ drive_bytes drive.geometry drive.acts = ap (λ (bytes : List ℕ). bytes ++ page) (c.deref.ensures.value ∙ c.in_ok-descriptors.ensures) in
    rw (p.1, p.2) (stops_sooner (g.S.Source.left c.args.source.now) c.args.tail.now c.take_bytes.new.tail (g.S.Source.faults c.args.source.now) (g.S.Source.faults c.take_bytes.new.source) c.deref.result.now page (drive_bytes drive.geometry drive.acts) c.in_err-take_bytes.field-0.0 whole c.in_err-take_bytes.ensures.stops)

pub returns-clause-same : goal.returns-clause-same
returns-clause-same g c =
    let drive = c.args.drive.now in
    let whole : c.deref.result.now ++ c.deref-2.result.now ≡ drive_bytes drive.geometry drive.acts = cc (c.deref.ensures.value, c.in_ok-descriptors.ensures, c.deref-2.ensures.value, c.in_ok-page.ensures) in
    both_come c.take_bytes-2.result (g.S.Source.left c.args.source.now) (g.S.Source.left c.take_bytes.new.source) c.args.tail.now c.take_bytes.new.tail c.take_bytes-2.new.tail c.deref.result.now c.deref-2.result.now (drive_bytes drive.geometry drive.acts) whole c.in_ok-take_bytes.ensures.stays c.in_ok-take_bytes.ensures.same c.take_bytes-2.ensures.same

pub returns-clause-stops : goal.returns-clause-stops
returns-clause-stops g c =
    let drive = c.args.drive.now in
    let whole : c.deref.result.now ++ c.deref-2.result.now ≡ drive_bytes drive.geometry drive.acts = cc (c.deref.ensures.value, c.in_ok-descriptors.ensures, c.deref-2.ensures.value, c.in_ok-page.ensures) in
    both_stop c.take_bytes-2.result (g.S.Source.left c.args.source.now) (g.S.Source.left c.take_bytes.new.source) c.args.tail.now c.take_bytes.new.tail c.take_bytes-2.new.tail (g.S.Source.faults c.args.source.now) (g.S.Source.faults c.take_bytes.new.source) (g.S.Source.faults c.take_bytes-2.new.source) c.deref.result.now c.deref-2.result.now (drive_bytes drive.geometry drive.acts) whole c.in_ok-take_bytes.ensures.never_falls c.in_ok-take_bytes.ensures.stays c.in_ok-take_bytes.ensures.same c.take_bytes-2.ensures.stops
