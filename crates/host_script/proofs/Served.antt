-- One more of the lines that are served one after another.
use Rattle.std.proofs.Common.{◌≡◌, ℕ, ◌+◌, List, [], ◌∷◌, ◌++◌, length, refl, sym, ap, ◌∙◌, length-append}
use Rattle.std.proofs.lemmas.List.{append_assoc, append-nil}
use Rattle.zns_types.specs.declared.fields.GeometryFields.{GeometryFields}
use Rattle.zone_model.specs.declared.act.Act.{Act}
use Rattle.zone_model.specs.Places.{Place}
use Rattle.zone_model.specs.Answers.{and_then, answered}
use Rattle.zone_model.proofs.Histories.{answered-none, answered-push}
use Rattle.host_script.specs.declared.line.Line.{Line}
use Rattle.host_script.specs.Scripts.{act_of_line, answer_line, scripted_after, scripted}

-- before the first line
pub record NoneWritten (g : GeometryFields) (acts : List Act) : Type 0 where
  pub whole : [] ≡ scripted g []
  pub more : (rest : List Line) → scripted_after g (answered g acts) 0 rest ≡ scripted_after g [] 0 rest

pub none_written : (g : GeometryFields) (acts : List Act) → acts ≡ [] → NoneWritten g acts
unfolding scripted
none_written g acts none = record {
  whole = refl;
  more = λ rest. ap (λ (h : List Place). scripted_after g h 0 rest) (ap (answered g) none ∙ answered-none g);
}

-- one more line was answered, and its answer was written
pub more_written : (g : GeometryFields) (acts after : List Act) (given : List Line) (l : Line) (text now : List ℕ) → length acts ≡ length given
    → after ≡ acts ++ act_of_line g (length acts) l ∷ [] → now ≡ text ++ answer_line g (answered g acts) (length acts) l
    → ((rest : List Line) → text ++ scripted_after g (answered g acts) (length given) rest ≡ scripted_after g [] 0 (given ++ rest))
    → (rest : List Line) → now ++ scripted_after g (answered g after) (length (given ++ l ∷ [])) rest ≡ scripted_after g [] 0 ((given ++ l ∷ []) ++ rest)
more_written g acts after given l text now count acts_are text_is before rest =
    let n : ℕ = length given in
    let h : List Place = answered g acts in
    let a : Act = act_of_line g n l in
    let long : length (given ++ l ∷ []) ≡ n + 1 = length-append given (l ∷ []) in
    let later : answered g after ≡ and_then g h a =
    ap (answered g) (acts_are ∙ ap (λ k. acts ++ act_of_line g k l ∷ []) count) ∙ answered-push g acts a in
    let written : now ≡ text ++ answer_line g h n l = text_is ∙ ap (λ k. text ++ answer_line g h k l) count in
    ap (λ k. now ++ scripted_after g (answered g after) k rest) long
    ∙ ap (λ (of : List Place). now ++ scripted_after g of (n + 1) rest) later
    ∙ ap (λ (front : List ℕ). front ++ scripted_after g (and_then g h a) (n + 1) rest) written
    ∙ append_assoc text (answer_line g h n l) (scripted_after g (and_then g h a) (n + 1) rest)
    ∙ before (l ∷ rest)
    ∙ ap (λ (lines : List Line). scripted_after g [] 0 lines) (sym (append_assoc given (l ∷ []) rest))

-- if no line follows, all is written
pub all_written : (g : GeometryFields) (acts : List Act) (given : List Line) (text : List ℕ)
    → ((rest : List Line) → text ++ scripted_after g (answered g acts) (length given) rest ≡ scripted_after g [] 0 (given ++ rest)) → text ≡ scripted g given
unfolding scripted
all_written g acts given text more = sym (append-nil text) ∙ more [] ∙ ap (λ (lines : List Line). scripted_after g [] 0 lines) (append-nil given)
