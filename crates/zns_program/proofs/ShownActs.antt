-- The lines of acts, with one more.
use Rattle.std.proofs.Common.{◌≡◌, ℕ, ◌+◌, ◌<◌, List, [], ◌∷◌, ◌++◌, length, take, get_or, sym, ap, ◌∙◌, arith}
use Rattle.std.proofs.lemmas.List.{append_assoc, append-nil, take_more, length-take-le}
use Rattle.zone_model.specs.declared.act.Act.{Act}
use Rattle.zns_program.specs.Showing.{act_line, act_lines}

act_lines-push : (number : ℕ) (acts : List Act) (a : Act) → act_lines number (acts ++ a ∷ []) ≡ act_lines number acts ++ act_line (number + length acts) a
act_lines-push number [] a = append-nil (act_line number a) ∙ ap (λ (k : ℕ). act_line k a) (omega arith)
act_lines-push number (b ∷ acts) a =
    ap (λ (tail : List ℕ). act_line number b ++ tail) (act_lines-push (number + 1) acts a ∙ ap (λ (k : ℕ). act_lines (number + 1) acts ++ act_line k a) (omega arith))
    ∙ sym (append_assoc (act_line number b) (act_lines (number + 1) acts) (act_line (number + length (b ∷ acts)) a))

pub lines-more : (acts : List Act) (i : ℕ) (d : Act) (start text : List ℕ) → i < length acts → text ≡ start ++ act_lines 0 (take i acts) → text ++ act_line i (get_or acts i d) ≡ start ++ act_lines 0 (take (i + 1) acts)
lines-more acts i d start text h e =
    let a = get_or acts i d in
    let before = act_lines 0 (take i acts) in
    let number : i ≡ 0 + length (take i acts) = omega (arith, length-take-le i acts (omega arith)) in
    ap (λ (b : List ℕ). b ++ act_line i a) e
    ∙ append_assoc start before (act_line i a)
    ∙ ap (λ (k : ℕ). start ++ (before ++ act_line k a)) number
    ∙ ap (λ (tail : List ℕ). start ++ tail) (sym (act_lines-push 0 (take i acts) a))
    ∙ ap (λ (xs : List Act). start ++ act_lines 0 xs) (sym (take_more acts i d h))
