use Rattle.std.proofs.Common.{arith}
use Rattle.zns_program.specs.Differences.{StandAt, DiffersFrom}
use Rattle.session_file.specs.Results.{part_of}
use Rattle.zns_program.proofs.Comparisons.{differs-within}
use Rattle.zns_program.proofs.Tails.{stays_then, stays_taken, held_next, held_others}
use Rattle.zns_program.proofs.checking.take_reply.Goals as goal

pub differs-requires : goal.differs-requires
differs-requires g c =
    let differs : DiffersFrom c.fill.new.self.held 0 (part_of c.args.reply.now) c.in-Err.difference.offset = rw c.held.ensures at c.in-Err.ensures.differs in
    differs-within c.fill.new.self.held (part_of c.args.reply.now) c.in-Err.difference.offset differs

pub returns-in-Ok-clause-stays : goal.returns-in-Ok-clause-stays
returns-in-Ok-clause-stays g c =
    let left = g.S.Source.left c.args.source.now in
    let mid = g.S.Source.left c.fill.new.source in
    let stand : StandAt c.fill.new.self.held 0 (part_of c.args.reply.now) c.in-Ok.end = rw c.held.ensures at c.in-Ok.ensures.same in
    stays_then left mid mid c.args.tail.now c.fill.new.self c.skip.new.self c.fill.ensures.stays (stays_taken mid c.fill.new.self c.skip.new.self c.in-Ok.end stand.within c.skip.ensures.held c.skip.ensures.at)

pub returns-in-Ok-clause-same : goal.returns-in-Ok-clause-same
returns-in-Ok-clause-same g c =
    let left = g.S.Source.left c.args.source.now in
    let mid = g.S.Source.left c.fill.new.source in
    let stand : StandAt c.fill.new.self.held 0 (part_of c.args.reply.now) c.in-Ok.end = rw c.held.ensures at c.in-Ok.ensures.same in
    held_next left mid c.args.tail.now c.fill.new.self c.skip.new.self (part_of c.args.reply.now) c.in-Ok.end c.fill.ensures.stays c.fill.ensures.at stand c.skip.ensures.held c.skip.ensures.at

pub returns-in-Err-clause-stops : goal.returns-in-Err-clause-stops
returns-in-Err-clause-stops g c =
    let left = g.S.Source.left c.args.source.now in
    let mid = g.S.Source.left c.fill.new.source in
    let differs : DiffersFrom c.fill.new.self.held 0 (part_of c.args.reply.now) c.in-Err.difference.offset = rw c.held.ensures at c.in-Err.ensures.differs in
    rw c.differs.ensures (held_others left mid c.args.tail.now c.fill.new.self (part_of c.args.reply.now) c.in-Err.difference.offset c.fill.ensures.stays c.fill.ensures.at differs (λ few. c.in_ok-fill.ensures.end (omega (arith, few, c.reply_len.ensures))))
