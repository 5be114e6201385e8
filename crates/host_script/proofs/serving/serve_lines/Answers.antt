use Rattle.std.proofs.Common.{◌+◌, List, [], ◌∷◌, ◌++◌, length, sym, ap, ◌∙◌, arith, length-append}
use Rattle.zone_model.specs.declared.act.Act.{Act}
use Rattle.host_script.specs.Scripts.{act_of_line}
use Rattle.host_script.specs.Serving.{acts_of_host}
use Rattle.host_script.proofs.Served.{none_written, more_written, all_written}
use Rattle.host_script.proofs.serving.serve_lines.Goals as goal

pub loop-line-init : goal.loop-line-init
loop-line-init c =
    let g = c.args.g.now.fields in
    record {
      geometry = c.requires.geometry;
      idle = c.requires.idle;
      count = ap (λ (acts : List Act). length acts) c.requires.fresh;
      spare = omega (arith, c.requires.spare);
      text = rw c.new-text.ensures.bytes (none_written g (acts_of_host c.args.host.now) c.requires.fresh).whole;
      more = λ rest. rw c.new-text.ensures.bytes ((none_written g (acts_of_host c.args.host.now) c.requires.fresh).more rest);
    }

pub loop-line-preserved : goal.loop-line-preserved
loop-line-preserved c =
    let g = c.args.g.now.fields in
    let all = c.loop-line.invariant in
    let acts = acts_of_host c.loop-line.host in
    let given = c.loop-line.yielded in
    let line = c.in-Some.line in
    let e = c.in_ok-serve_line.ensures in
    let more = more_written g acts (acts_of_host c.serve_line.new.host) given line _ _ all.count e.acts e.text all.more in
    record {
      geometry = e.geometry ∙ all.geometry;
      idle = e.idle;
      count = ap (λ (h : List Act). length h) e.acts ∙ length-append acts (act_of_line g (length acts) line ∷ []) ∙ ap (λ n. n + 1) all.count ∙ sym (length-append given (line ∷ []));
      spare = omega (arith, e.spare, all.spare, length-append given (line ∷ []));
      text = all_written g (acts_of_host c.serve_line.new.host) (given ++ line ∷ []) _ more;
      more = more;
    }
