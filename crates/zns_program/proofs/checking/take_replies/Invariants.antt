use Rattle.std.proofs.Common.{◌≡◌, ◌+◌, ◌≤◌, [], length}
use Rattle.zone_model.specs.Sessions.{replies_bytes}
use Rattle.zns_program.specs.Tails.{StaysIn, ComeNext}
use Rattle.zns_program.proofs.checking.take_replies.Given as goal

abbrev pub invariant-loop-act : goal.invariant-loop-act
invariant-loop-act g l = record {
  acts : l.drive.acts ≡ l.yielded;
  room : l.drive.spare + length l.yielded ≡ length l.fn.acts.items;
  geometry : l.drive.geometry ≡ l.fn.drive.geometry;
  stays : StaysIn (g.S.Source.left l.fn.source) (g.S.Source.left l.source) l.fn.tail l.tail;
  next : ComeNext (g.S.Source.left l.fn.source) l.fn.tail l.tail (replies_bytes l.fn.drive.geometry [] l.yielded);
  faults : g.S.Source.faults l.fn.source ≤ g.S.Source.faults l.source;
}
