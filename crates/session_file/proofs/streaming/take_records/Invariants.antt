use Rattle.std.proofs.Common.{◌≡◌, ◌+◌, ◌^◌, ◌≤◌, ◌++◌, length}
use Rattle.std.specs.Prelude.{All}
use Rattle.std.specs.List.{flat_map}
use Rattle.zone_model.specs.Sessions.{IsAct, record_bytes, sent_bytes, asked_bytes}
use Rattle.session_file.specs.Streams.{GoesOn}
use Rattle.session_file.proofs.streaming.take_records.Given as goal

abbrev pub invariant-loop-number : goal.invariant-loop-number
invariant-loop-number g l = record {
  goes_on : GoesOn (g.S.Source.left l.fn.source) (g.S.Source.left l.source) l.fn.feed (flat_map record_bytes l.acts.acts ++ l.feed);
  acts : All (IsAct l.g.fields) l.acts.acts;
  sent : sent_bytes l.acts.acts ≡ l.before.sent;
  asked : asked_bytes l.g.fields l.acts.acts ≡ l.before.asked;
  few_sent : l.before.sent ≤ 2 ^ 27;
  few_asked : l.before.asked ≤ 2 ^ 27;
  count : length l.acts.acts ≡ l._number;
  room : l.acts.spare + l._number ≡ l.commands;
  held : length l.feed ≤ 2 ^ 28 + 65536;
  faults : g.S.Source.faults l.fn.source ≤ g.S.Source.faults l.source;
}
