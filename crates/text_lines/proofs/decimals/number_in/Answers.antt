use Rattle.std.proofs.Common.{◌≡◌, ℕ, List, true, sym, subst, ◌∙◌}
use Rattle.std.specs.Str.Parse.{ParsesUnsigned}
use Rattle.text_lines.specs.Decimals.{BeginsOtherwise}
use Rattle.text_lines.proofs.SpelledNumbers.{begins_otherwise, no_text_spells_none, parsed}
use Rattle.text_lines.proofs.decimals.number_in.Goals as goal

pub returns-then-begins_otherwise : goal.returns-then-begins_otherwise
returns-then-begins_otherwise c = sym (begins_otherwise c.args.word.now (c.begins_otherwise.ensures.0 c.if-begins_otherwise.true))

pub returns-in-Ok : goal.returns-in-Ok
returns-in-Ok c =
    let P : List ℕ → Type 0 = λ text. ParsesUnsigned 64 10 text c.parse.result in
    let parses : ParsesUnsigned 64 10 c.args.word.now c.parse.result = subst P c.in-Ok.ensures.cases.0 c.parse.ensures.value.0 in
    let plain : BeginsOtherwise c.args.word.now → ⊥ = λ begins. let so : c.begins_otherwise.result ≡ true = c.begins_otherwise.ensures.1 begins in cc in
    c.ok.ensures.value ∙ parsed c.args.word.now c.parse.result parses plain

pub returns-in-Err : goal.returns-in-Err
returns-in-Err c = sym (no_text_spells_none c.args.word.now c.in-Err.ensures.cases.0)
