use Rattle.std.proofs.Common.{◌≡◌, ◌++◌, length, refl, arith}
use Rattle.std.specs.List.{flat_map}
use Rattle.std.proofs.lemmas.Result.{err_from_is_err_and}
use Rattle.zone_model.specs.Sessions.{Recorded, IsSession, header_bytes, record_bytes}
use Rattle.session_file.proofs.Streams.{goes_on-same, stops_after, session_so_far, session_size, bytes_so_far, few_so_far}
use Rattle.session_file.proofs.streaming.begin_after.Goals as goal

pub returns-in_err-bytes-clause-stops : goal.returns-in_err-bytes-clause-stops
returns-in_err-bytes-clause-stops g c =
    let p = err_from_is_err_and c.from_residual-in_err-bytes.result c.from_residual-in_err-bytes.ensures.1 in
    let all = c.in_ok-records.ensures in
    let now = g.S.Source.left c.take_records.new.source in
    let held = c.take_records.new.feed in
    rw p.1 (stops_after (g.S.Source.left c.args.source.now) now now c.args.feed held held c.args.header.geometry.fields c.in_ok-records.records.acts.acts all.goes_on (goes_on-same now held held refl) all.acts (omega (arith, all.most, c.requires.few)) all.few_sent (omega (arith, all.held)))

pub returns-then-records-clause-begins : goal.returns-then-records-clause-begins
returns-then-records-clause-begins g c =
    let all = c.in_ok-records.ensures in
    let acts = c.in_ok-records.records.acts.acts in
    let s : Recorded = record { geometry = c.args.header.geometry.fields; acts = acts } in
    let count : length acts ≡ c.args.header.commands = all.all c.if-records.true in
    let session : IsSession s = record { geometry = c.args.header.geometry.valid; widths = c.requires.widths; count = omega (arith, all.most, c.requires.few); acts = all.acts; sent = all.few_sent; asked = all.asked } in
    rw c.new-session.ensures (record {
      session = session;
      long = omega (arith, session_size s all.acts, all.sent, count);
      few = all.held;
      read = session_so_far (g.S.Source.left c.args.source.now) (g.S.Source.left c.take_records.new.source) c.args.feed c.take_records.new.feed s c.args.header.commands all.goes_on count;
    })

pub returns-clause-begins : goal.returns-clause-begins
returns-clause-begins g c =
    let all = c.in_ok-records.ensures in
    let acts = c.in_ok-records.records.acts.acts in
    let fields = c.args.header.geometry.fields in
    let held = c.take_records.new.feed in
    let bytes = c.in_ok-bytes.bytes in
    let is : bytes ≡ header_bytes fields c.args.header.commands ++ (flat_map record_bytes acts ++ held) = rw c.rest-2.ensures.rest at c.in_ok-bytes.ensures in
    record {
      few = few_so_far held bytes fields c.args.header.commands acts is all.acts (omega (arith, all.most, c.requires.few)) all.few_sent all.held;
      read = bytes_so_far (g.S.Source.left c.args.source.now) (g.S.Source.left c.take_records.new.source) c.args.feed held bytes fields c.args.header.commands acts all.goes_on is;
    }
