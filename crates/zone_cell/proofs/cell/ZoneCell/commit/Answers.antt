use Rattle.std.proofs.Common.{◌≡◌, rules}
use Rattle.zone_cell.specs.Cells.{after_commit}
use Rattle.zone_cell.proofs.Cells.{IsOf-after_commit}
use Rattle.zone_cell.proofs.cell.ZoneCell.commit.Goals as goal

pub returns-clause-kept : goal.returns-clause-kept
returns-clause-kept c =
    let g = c.args.g.now.fields in
    let same : c.lead.new.self ≡ after_commit g c.args.last c.args.self.now = search rules in
    rw same (IsOf-after_commit g c.args.last c.args.self.now c.requires.kept c.requires.admitted)
