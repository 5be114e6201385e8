use Rattle.std.proofs.Common.{◌+◌, ◌-◌, ◌^◌, ◌≤◌, length, Err, ap}
use Rattle.std.proofs.lemmas.Result.{err_from_is_err_and}
use Rattle.zns_io.specs.Reading.{IsByLimit, ReadsFrontUpTo}
use Rattle.zns_program.proofs.Made.{reading_ends, input_read}
use Rattle.zns_program.proofs.streaming.input_after.Goals as goal

pub returns-in_err-rest-clause-input : goal.returns-in_err-rest-clause-input
returns-in_err-rest-clause-input g c = λ t first reading came.
    let p = err_from_is_err_and c.from_residual.result c.from_residual.ensures.1 in
    let left = g.S.Source.left c.args.source.now in
    let now = g.S.Source.left c.read_all.new.source in
    let e = c.in_err-rest.field-0.0 in
    let limit : IsByLimit left (2 ^ 29 - length c.args.front) (Err e) = rw c.as_slice.ensures at c.in_err-rest.ensures.by_limit in
    let read : ReadsFrontUpTo left now (2 ^ 29 - length c.args.front + 1) = rw c.as_slice.ensures at c.in_err-rest.ensures.at_most in
    rw (p.1, p.2) (reading_ends t first left now c.args.front (g.S.Source.faults c.args.source.now) (g.S.Source.faults c.read_all.new.source) e reading came c.requires limit read (λ is. c.in_err-rest.ensures.fault (ap Err is)))

pub returns-in_err-joined-clause-input : goal.returns-in_err-joined-clause-input
returns-in_err-joined-clause-input g c = λ t first reading came.
    let p = err_from_is_err_and c.from_residual-in_err-joined.result c.from_residual-in_err-joined.ensures.1 in
    let left = g.S.Source.left c.args.source.now in
    let now = g.S.Source.left c.read_all.new.source in
    let few : length c.in_ok-rest.rest ≤ 2 ^ 29 - length c.args.front = rw c.as_slice.ensures at c.in_ok-rest.ensures.limit in
    rw (p.1, p.2) (input_read t first left now c.args.front c.in_ok-rest.rest reading came c.requires few c.in_ok-rest.ensures.all).front

pub returns-clause-input : goal.returns-clause-input
returns-clause-input g c = λ t first reading came.
    let left = g.S.Source.left c.args.source.now in
    let now = g.S.Source.left c.read_all.new.source in
    let few : length c.in_ok-rest.rest ≤ 2 ^ 29 - length c.args.front = rw c.as_slice.ensures at c.in_ok-rest.ensures.limit in
    rw (c.in_ok-joined.ensures, c.as_slice-2.ensures) (input_read t first left now c.args.front c.in_ok-rest.rest reading came c.requires few c.in_ok-rest.ensures.all)
