use Rattle.std.proofs.Common.{rules, ◌≡◌, ◌++◌, length, ap, subst, ◌∙◌, arith}
use Rattle.std.proofs.lemmas.List.{length-drop}
use Rattle.std.proofs.lemmas.Result.{err_from_is_err_and}
use Rattle.std.specs.Io.KnownBytes.{Consumes}
use Rattle.zone_model.specs.Sessions.{header_bytes}
use Rattle.session_file.proofs.Sizes.{header_size}
use Rattle.session_file.proofs.Streams.{came_first, read_front, header_taken, begins_all, stops_all}
use Rattle.session_file.proofs.streaming.begin_from.Goals as goal

pub returns-in_err-fill-clause-stops : goal.returns-in_err-fill-clause-stops
returns-in_err-fill-clause-stops g c =
    let p = err_from_is_err_and c.from_residual.result c.from_residual.ensures.1 in
    let left = g.S.Source.left c.args.source.now in
    let now = g.S.Source.left c.fill.new.source in
    let came = came_first left now c.new-feed.result c.fill.new.self c.new-feed.ensures c.in_err-fill.ensures.goes_on in
    rw p.1 (read_front left now c.fill.new.self came (omega (arith, c.in_err-fill.ensures.most)))

pub begin_after-requires-clause-held : goal.begin_after-requires-clause-held
begin_after-requires-clause-held g c = omega (arith, ap length c.skip.ensures, length-drop 64 c.fill.new.self, c.in_ok-fill.ensures.most)

pub returns-in_err-of-in-Err-clause-stops : goal.returns-in_err-of-in-Err-clause-stops
returns-in_err-of-in-Err-clause-stops g c =
    let p = err_from_is_err_and c.from_residual-in_err-of-in-Err.result c.from_residual-in_err-of-in-Err.ensures.1 in
    let left = g.S.Source.left c.args.source.now in
    let now = g.S.Source.left c.fill.new.source in
    let came = came_first left now c.new-feed.result c.fill.new.self c.new-feed.ensures c.in_ok-fill.ensures.goes_on in
    rw p.1 (read_front left now c.fill.new.self came (omega (arith, c.in_ok-fill.ensures.most)))

pub returns-in-Ok : goal.returns-in-Ok
returns-in-Ok g c =
    let left = g.S.Source.left c.args.source.now in
    let mid = g.S.Source.left c.fill.new.source in
    let now = g.S.Source.left c.begin_after.new.source in
    let fields = c.in-Ok.header.geometry.fields in
    let header = header_bytes fields c.in-Ok.header.commands in
    let split : c.fill.new.self ≡ header ++ c.skip.new.self =
    header_taken c.rest.result.now c.fill.new.self c.skip.new.self fields c.in-Ok.header.commands c.rest.ensures.rest c.rest.ensures.bytes c.in-Ok.ensures.passed c.in-Ok.ensures.geometry c.in-Ok.ensures.commands c.skip.ensures in
    let came : Consumes left mid (header ++ c.skip.new.self) = subst (Consumes left mid) split (came_first left mid c.new-feed.result c.fill.new.self c.new-feed.ensures c.in_ok-fill.ensures.goes_on) in
    record {
      begins = begins_all left mid now header c.skip.new.self c.begin_after.result came c.begin_after.ensures.begins;
      stops = stops_all left mid now header c.skip.new.self c.begin_after.result came (header_size fields c.in-Ok.header.commands) c.begin_after.ensures.stops;
      fault = search rules;
      never_falls = search rules;
    }

pub returns-in_ok-of-in-Err-clause-begins : goal.returns-in_ok-of-in-Err-clause-begins
returns-in_ok-of-in-Err-clause-begins g c =
    let left = g.S.Source.left c.args.source.now in
    let now = g.S.Source.left c.fill.new.source in
    let came = came_first left now c.new-feed.result c.fill.new.self c.new-feed.ensures c.in_ok-fill.ensures.goes_on in
    let same : c.in_ok-of-in-Err.field-0 ≡ c.fill.new.self = c.in_ok-of-in-Err.ensures ∙ c.rest-in-Err.ensures.rest in
    rw same (came, omega (arith, c.in_ok-fill.ensures.most))
