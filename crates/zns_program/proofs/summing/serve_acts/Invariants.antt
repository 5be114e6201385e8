use Rattle.std.proofs.Common.{◌≡◌, ◌+◌, length}
use Rattle.std.specs.Prelude.{not, count_by}
use Rattle.zone_model.specs.Places.{took}
use Rattle.zone_model.specs.Answers.{answered}
use Rattle.zns_program.proofs.summing.serve_acts.Given as goal

abbrev pub invariant-loop-act : goal.invariant-loop-act
invariant-loop-act l = record {
  acts : l.drive.acts ≡ l.yielded;
  room : l.drive.spare + length l.yielded ≡ length l.fn.acts.items;
  geometry : l.drive.geometry ≡ l.fn.drive.geometry;
  success : l.success ≡ count_by took (answered l.fn.drive.geometry l.yielded);
  refused : l.refused ≡ count_by (λ p. not (took p)) (answered l.fn.drive.geometry l.yielded);
  both : l.success + l.refused ≡ length l.yielded;
}
