use Rattle.std.proofs.Common.{◌≡◌, ◌+◌, ◌≤◌, List, [], ◌++◌, length}
use Rattle.std.specs.String.{string_bytes}
use Rattle.zone_model.specs.Answers.{answered}
use Rattle.host_script.specs.declared.line.Line.{Line}
use Rattle.host_script.specs.Scripts.{scripted_after, scripted}
use Rattle.host_script.specs.Serving.{acts_of_host, IsIdle}
use Rattle.host_script.proofs.serving.serve_lines.Given as goal

-- what is written for the lines so far, whatever lines follow
abbrev pub invariant-loop-line : goal.invariant-loop-line
invariant-loop-line l = record {
  geometry : l.host.geometry ≡ l.g.fields;
  idle : IsIdle l.host;
  count : length (acts_of_host l.host) ≡ length l.yielded;
  spare : length l.fn.lines.items ≤ l.host.link.drive.spare + length l.yielded;
  text : string_bytes l.text ≡ scripted l.g.fields l.yielded;
  more : (rest : List Line) → string_bytes l.text ++ scripted_after l.g.fields (answered l.g.fields (acts_of_host l.host)) (length l.yielded) rest ≡ scripted_after l.g.fields [] 0 (l.yielded ++ rest);
}
