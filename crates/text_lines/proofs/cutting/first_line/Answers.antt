use Rattle.std.proofs.Common.{◌≡◌, rules, tests, add-one, arith}
use Rattle.std.proofs.lemmas.Iterator.{YieldsList-from_slice, IsFirst-from_position}
use Rattle.text_lines.proofs.Lines.{first_line-at, first_line-all}
use Rattle.text_lines.proofs.cutting.first_line.Goals as goal

pub returns-in-Some : goal.returns-in-Some
returns-in-Some c =
    let found = IsFirst-from_position _ _ _ (λ byte. byte ≡ 10) (λ byte. byte ≡ 10 → ⊥) c.in-Some.ensures.ran (YieldsList-from_slice c.args.text.now cc) (λ x q k. search (rules, tests)) (λ x q k. search (rules, tests)) in
    rw add-one (first_line-at c.args.text.now c.in-Some.at found.0 (found.1 0) (λ k lt. found.2 k 0 (omega arith) lt))

pub returns-in-None : goal.returns-in-None
returns-in-None c =
    let none = IsFirst-from_position _ _ _ (λ byte. byte ≡ 10) (λ byte. byte ≡ 10 → ⊥) c.in-None.ensures.ran (YieldsList-from_slice c.args.text.now cc) (λ x q k. search (rules, tests)) (λ x q k. search (rules, tests)) in
    first_line-all c.args.text.now (λ k lt. none k 0 (omega arith) lt)
