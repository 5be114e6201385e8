use Rattle.std.proofs.Common.{◌≡◌, ◌-◌, ◌^◌, ◌≤◌, ◌++◌, length, drop}
use Rattle.std.specs.List.{filter_map}
use Rattle.zns_types.specs.Rows.{first_holding}
use Rattle.text_lines.specs.Cuts.{lines_in}
use Rattle.host_script.specs.Lines.{line_in}
use Rattle.host_script.specs.ScriptRules.{lines_rows}
use Rattle.host_script.proofs.reading.read_lines.Given as goal

-- the lines so far and those that are left
abbrev pub invariant-loop-progress : goal.invariant-loop-progress
invariant-loop-progress l = record {
  lines : l.lines.items ++ filter_map (line_in l.g.fields) (lines_in (drop l.progress.at l.bytes)) ≡ filter_map (line_in l.g.fields) (lines_in (drop 64 l.bytes));
  rows : first_holding (lines_rows l.g.fields l.progress.number l.progress.at l.progress.sent (lines_in (drop l.progress.at l.bytes))) ≡ first_holding (lines_rows l.g.fields 0 64 0 (lines_in (drop 64 l.bytes)));
  number : l.progress.number ≤ 262144;
  within : l.progress.at ≤ length l.bytes;
  sent : l.progress.sent ≤ 2 ^ 27;
}

abbrev pub decreases-loop-progress : goal.decreases-loop-progress
decreases-loop-progress l = length l.bytes - l.progress.at
