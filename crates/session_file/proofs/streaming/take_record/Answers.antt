use Rattle.std.proofs.Common.{rules, ◌≡◌, ℕ, ◌<◌, ◌++◌, drop}
use Rattle.std.specs.Prelude.{slice_index}
use Rattle.zone_model.specs.Sessions.{record_bytes}
use Rattle.session_file.specs.Places.{act_at, next_at}
use Rattle.session_file.proofs.Streams.{goes_on-same, goes_on-then, taken_record, next_record}
use Rattle.session_file.proofs.streaming.take_record.Goals as goal

pub returns-in-Ok-clause-goes_on : goal.returns-in-Ok-clause-goes_on
returns-in-Ok-clause-goes_on g c =
    let bytes = c.loop-alloc.feed in
    let left = g.S.Source.left c.loop-alloc.source in
    let act_is : c.in_ok-act.act ≡ act_at 0 bytes = search rules in
    let rest_is : c.skip.new.self ≡ drop (next_at 0 bytes) bytes = search rules in
    let fits : (i : ℕ) → slice_index bytes i < 256 = rw (← c.rest-in-loop-alloc.ensures.rest) c.rest-in-loop-alloc.ensures.bytes in
    let split = taken_record c.args.g.now.fields bytes c.args.before.sent c.args.before.asked fits (search rules) in
    let whole : bytes ≡ record_bytes c.in_ok-act.act ++ c.skip.new.self = rw (act_is, rest_is) split in
    goes_on-then (g.S.Source.left c.args.source.now) left left c.args.feed.now bytes (record_bytes c.in_ok-act.act ++ c.skip.new.self) c.loop-alloc.invariant.goes_on (goes_on-same left bytes _ whole)

pub returns-in-Ok-clause-next : goal.returns-in-Ok-clause-next
returns-in-Ok-clause-next g c =
    let bytes = c.loop-alloc.feed in
    next_record c.args.g.now.fields bytes c.args.before c.in-Ok.after c.in_ok-act.act (search rules) (search rules) (search rules) (search rules) c.in-Ok.ensures.few_sent c.in-Ok.ensures.few_asked
