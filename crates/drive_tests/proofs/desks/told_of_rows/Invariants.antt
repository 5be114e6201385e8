use Rattle.std.proofs.Common.{◌≡◌, None}
use Rattle.zone_desk.specs.Passes.{IsIdle}
use Rattle.drive_tests.proofs.desks.told_of_rows.Given as goal

abbrev pub invariant-loop-row : goal.invariant-loop-row
invariant-loop-row g l = record {
  desk : l.pass.desk ≡ l.initial.pass.desk;
  idle : IsIdle l.pass.sight;
  none_open : l.pass.opened ≡ None;
}
