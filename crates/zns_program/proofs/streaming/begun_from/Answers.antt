use Rattle.std.proofs.Common.{length-append, arith}
use Rattle.zone_model.specs.Sessions.{spelling}
use Rattle.session_file.specs.Streams.{BeginsWith}
use Rattle.session_file.proofs.Streams.{began_few}
use Rattle.zns_program.proofs.streaming.begun_from.Goals as goal

pub new-requires : goal.new-requires
new-requires g c =
    let b = c.in-Ok-Session.begun in
    let began : BeginsWith (g.S.Source.left c.args.source.now) (g.S.Source.left c.begin_from.new.source) b = rw c.in-Ok-Session.field-0-is at c.in-Ok-Session.ensures.begins in
    omega (arith, began.long, length-append (spelling b.session) b.rest, began_few b b.rest began.session (omega (arith, began.few)))
