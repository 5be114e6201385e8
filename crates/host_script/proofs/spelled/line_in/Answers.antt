use Rattle.std.proofs.Common.{◌≡◌, ap, ◌∙◌}
use Rattle.text_lines.specs.Cuts.{words_in}
use Rattle.host_script.specs.Lines.{line_of, line_of_text, line_in}
use Rattle.host_script.proofs.SpelledLines.{exactly, first_words}
use Rattle.host_script.proofs.spelled.line_in.Goals as goal

pub returns-in_default-clause-same : goal.returns-in_default-clause-same
unfolding line_in
returns-in_default-clause-same c = ap (line_of_text c.args.g.now.fields) c.in_default.ensures

pub returns-clause-same : goal.returns-clause-same
unfolding line_in
returns-clause-same c =
    let g = c.args.g.now.fields in
    c.line_of.ensures
    ∙ rw c.deref.ensures.value (ap (line_of g) c.in_ok-words.ensures)
    ∙ first_words g (words_in c.in-Some.text.now)
    ∙ ap (line_of_text g) c.in-Some.ensures

pub returns-clause-exactly : goal.returns-clause-exactly
returns-clause-exactly c = exactly c.args.g.now.fields c.args.text.now c.line_of.result c.args.g.now.valid (returns-clause-same c)
