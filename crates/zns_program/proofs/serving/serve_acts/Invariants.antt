use Rattle.std.proofs.Common.{◌≡◌, ◌+◌, ◌++◌, [], length}
use Rattle.zone_model.specs.Sessions.{replies_bytes}
use Rattle.zns_program.proofs.serving.serve_acts.Given as goal

abbrev pub invariant-loop-act : goal.invariant-loop-act
invariant-loop-act l = record {
  acts : l.drive.acts ≡ l.yielded;
  spare : l.drive.spare + length l.yielded ≡ length l.fn.acts.items;
  geometry : l.drive.geometry ≡ l.fn.drive.geometry;
  file : l.file ≡ l.fn.file ++ replies_bytes l.fn.drive.geometry [] l.yielded;
}
