-- The words of a task name it, and no other words do.
use Rattle.std.proofs.Common.{◌≡◌, ℕ, Bool, true, false, List, [], ◌∷◌, Option, Some, None, refl, sym, ap, subst, ◌∙◌, codes}
use Rattle.std.proofs.lemmas.Slice.Eq.{bytes_eq-Decides}
use Rattle.std.specs.Prelude.{if◌then◌else◌, IfSome}
use Rattle.std.specs.Fmt.{decimal}
use Rattle.std.specs.Str.{bytes_eq}
use Rattle.zns_program.specs.declared.task.Task.{Task}
use Rattle.zns_program.specs.declared.task.Task.TheVariants as the_task
use Rattle.text_lines.specs.Decimals.{number_in}
use Rattle.zns_program.specs.Tasks.{words_for, HasNumbers, AskFor, gen_of, task_named}
use Rattle.text_lines.proofs.SpelledNumbers.{number_in-spelled, number_in-decimal}

pub words_name : (t : Task) → HasNumbers t → task_named (words_for t) ≡ Some t
words_name the_task.One has = refl
words_name the_task.Run has = refl
words_name the_task.Check has = refl
words_name the_task.Show has = refl
words_name the_task.Host has = refl
words_name (the_task.Gen number count) has = rw (number_in-decimal (decimal number) number refl has.0, number_in-decimal (decimal count) count refl has.1) refl

-- words that ask for a task ask for any task equal to it
ask_for : (words : List (List ℕ)) (found t : Task) → AskFor words found → Some found ≡ Some t → AskFor words t
ask_for words found t asked named = let is : found ≡ t = cc in subst (AskFor words) is asked

-- ---- one word

its_word : (word text : List ℕ) (found : Task) → bytes_eq word text ≡ true → text ∷ [] ≡ words_for found → HasNumbers found → AskFor (word ∷ []) found
its_word word text found same is has = record { same = cc ((bytes_eq-Decides word text).0 same); numbers = has }

by_word : (word : List ℕ) (t : Task) (one run check show host : Bool) → bytes_eq word (codes "one") ≡ one → bytes_eq word (codes "run") ≡ run → bytes_eq word (codes "check") ≡ check → bytes_eq word (codes "show") ≡ show → bytes_eq word (codes "host") ≡ host
    → (if one then Some the_task.One else if run then Some the_task.Run else if check then Some the_task.Check else if show then Some the_task.Show else if host then Some the_task.Host else None) ≡ Some t → AskFor (word ∷ []) t
by_word word t true run check show host is_one is_run is_check is_show is_host named = ask_for (word ∷ []) the_task.One t (its_word word (codes "one") the_task.One is_one refl tt) named
by_word word t false true check show host is_one is_run is_check is_show is_host named = ask_for (word ∷ []) the_task.Run t (its_word word (codes "run") the_task.Run is_run refl tt) named
by_word word t false false true show host is_one is_run is_check is_show is_host named = ask_for (word ∷ []) the_task.Check t (its_word word (codes "check") the_task.Check is_check refl tt) named
by_word word t false false false true host is_one is_run is_check is_show is_host named = ask_for (word ∷ []) the_task.Show t (its_word word (codes "show") the_task.Show is_show refl tt) named
by_word word t false false false false true is_one is_run is_check is_show is_host named = ask_for (word ∷ []) the_task.Host t (its_word word (codes "host") the_task.Host is_host refl tt) named
by_word word t false false false false false is_one is_run is_check is_show is_host named = absurd cc

-- ---- a word and two numbers

three_words : (word number count gen n c : List ℕ) → word ≡ gen → number ≡ n → count ≡ c → word ∷ number ∷ count ∷ [] ≡ gen ∷ n ∷ c ∷ []
three_words word number count gen n c is_word is_number is_count = cc

by_numbers : (word number count : List ℕ) (t : Task) (gen : Bool) (n c : Option ℕ) → bytes_eq word (codes "gen") ≡ gen → number_in number ≡ n → number_in count ≡ c
    → (if gen then gen_of n c else None) ≡ Some t → AskFor (word ∷ number ∷ count ∷ []) t
by_numbers word number count t true (Some n) (Some c) is_gen is_n is_c named =
    let of_n = number_in-spelled number n is_n in
    let of_c = number_in-spelled count c is_c in
    ask_for (word ∷ number ∷ count ∷ []) (the_task.Gen n c) t (record {
      same = three_words word number count (codes "gen") (decimal n) (decimal c) ((bytes_eq-Decides word (codes "gen")).0 is_gen) of_n.0 of_c.0;
      numbers = (of_n.1, of_c.1);
    }) named
by_numbers word number count t true (Some n) None is_gen is_n is_c named = absurd cc
by_numbers word number count t true None c is_gen is_n is_c named = absurd cc
by_numbers word number count t false n c is_gen is_n is_c named = absurd cc

-- ---- all words

pub names_its_words : (words : List (List ℕ)) (t : Task) → task_named words ≡ Some t → AskFor words t
names_its_words [] t named = absurd cc
names_its_words (word ∷ []) t named = by_word word t _ _ _ _ _ refl refl refl refl refl named
names_its_words (word ∷ other ∷ []) t named = absurd cc
names_its_words (word ∷ number ∷ count ∷ []) t named = by_numbers word number count t _ _ _ refl refl refl named
names_its_words (word ∷ number ∷ count ∷ other ∷ words) t named = absurd cc

-- words that ask for a task name it
pub named_by : (words : List (List ℕ)) (t : Task) → AskFor words t → task_named words ≡ Some t
named_by words t asked = ap task_named asked.same ∙ words_name t asked.numbers

-- a task that is found is asked for
pub some_named : (words : List (List ℕ)) (found : Option Task) → found ≡ task_named words → IfSome found (AskFor words)
some_named words None is = tt
some_named words (Some t) is = names_its_words words t (sym is)

pub complete_named : (words : List (List ℕ)) (found : Option Task) (t : Task) → found ≡ task_named words → AskFor words t → found ≡ Some t
complete_named words found t is asked = is ∙ named_by words t asked

-- words that name no task ask for none
pub unnamed : (words : List (List ℕ)) (t : Task) → task_named words ≡ None → AskFor words t → ⊥
unnamed words t none asked = let named : task_named words ≡ Some t = named_by words t asked in absurd cc
