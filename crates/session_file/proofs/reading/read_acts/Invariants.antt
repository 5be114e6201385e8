use Rattle.std.proofs.Common.{◌≡◌, ◌+◌, ◌*◌, ◌-◌, ◌/◌, ◌^◌, ◌≤◌, ◌++◌, min, length}
use Rattle.zns_types.specs.Rows.{first_holding}
use Rattle.session_file.specs.Places.{acts_from, end_from}
use Rattle.session_file.specs.FileRules.{records_rows}
use Rattle.session_file.proofs.reading.read_acts.Given as goal

-- the records read so far, and those that are left
abbrev pub invariant-loop-number : goal.invariant-loop-number
invariant-loop-number l = record {
  acts : l.acts.acts ++ acts_from (l.commands - l._number) l.progress.at l.bytes ≡ acts_from l.commands 64 l.bytes;
  end : end_from (l.commands - l._number) l.progress.at l.bytes ≡ end_from l.commands 64 l.bytes;
  rows : first_holding (records_rows (l.commands - l._number) l.g.fields l.bytes l.progress.at l.progress.sent l.progress.asked) ≡ first_holding (records_rows l.commands l.g.fields l.bytes 64 0 0);
  far : 64 + 72 * l._number ≤ l.progress.at;
  within : l.progress.at ≤ length l.bytes;
  few_sent : l.progress.sent ≤ 2 ^ 27;
  few_asked : l.progress.asked ≤ 2 ^ 27;
  room : l.acts.spare + l._number ≡ min ((length l.bytes - 64) / 72) l.commands;
}
