-- One more record, as records are read one after another.
use Rattle.std.proofs.Common.{◌≡◌, ℕ, suc, ◌+◌, ◌-◌, ◌<◌, ◌≤◌, List, [], ◌∷◌, ◌++◌, None, Some, refl, sym, ap, ◌∙◌, arith}
use Rattle.std.proofs.lemmas.List.{append_assoc}
use Rattle.zns_types.specs.declared.fields.GeometryFields.{GeometryFields}
use Rattle.zns_types.specs.Rows.{first_holding}
use Rattle.zns_types.proofs.RowLemmas.{first_holding-append_some, first_holding-append_none}
use Rattle.sqe_codec.specs.Commands.{reply_len}
use Rattle.zone_model.specs.declared.act.Act.{Act}
use Rattle.zone_model.specs.Places.{command_of}
use Rattle.session_file.specs.declared.file_err.FileErr.{FileErr}
use Rattle.session_file.specs.Places.{length_at, act_at, next_at, acts_from, end_from}
use Rattle.session_file.specs.FileRules.{record_rows, records_rows}

left : (i n : ℕ) → i < n → n - i ≡ suc (n - (i + 1))
left i n h = omega arith

pub acts_from-more : (i n at : ℕ) (bytes : List ℕ) (acts whole : List Act) → i < n → acts ++ acts_from (n - i) at bytes ≡ whole → (acts ++ act_at at bytes ∷ []) ++ acts_from (n - (i + 1)) (next_at at bytes) bytes ≡ whole
acts_from-more i n at bytes acts whole h e =
    append_assoc acts (act_at at bytes ∷ []) (acts_from (n - (i + 1)) (next_at at bytes) bytes)
    ∙ ap (λ k. acts ++ acts_from k at bytes) (sym (left i n h)) ∙ e

pub end_from-more : (i n at : ℕ) (bytes : List ℕ) (whole : ℕ) → i < n → end_from (n - i) at bytes ≡ whole → end_from (n - (i + 1)) (next_at at bytes) bytes ≡ whole
end_from-more i n at bytes whole h e = ap (λ k. end_from k at bytes) (sym (left i n h)) ∙ e

-- the rules of a record, and those of the records after it
opened : (i n : ℕ) (g : GeometryFields) (bytes : List ℕ) (at sent asked : ℕ) → i < n → records_rows (n - i) g bytes at sent asked ≡ record_rows g bytes at sent asked ++ records_rows (n - (i + 1)) g bytes (next_at at bytes) (sent + length_at at bytes) (asked + reply_len g (command_of (act_at at bytes)))
unfolding records_rows
opened i n g bytes at sent asked h = ap (λ k. records_rows k g bytes at sent asked) (left i n h)

pub records_rows-more : (i n : ℕ) (g : GeometryFields) (bytes : List ℕ) (at sent asked : ℕ) → i < n → first_holding (record_rows g bytes at sent asked) ≡ None → first_holding (records_rows (n - (i + 1)) g bytes (next_at at bytes) (sent + length_at at bytes) (asked + reply_len g (command_of (act_at at bytes)))) ≡ first_holding (records_rows (n - i) g bytes at sent asked)
records_rows-more i n g bytes at sent asked h e =
    sym (first_holding-append_none (record_rows g bytes at sent asked) _ e) ∙ ap first_holding (sym (opened i n g bytes at sent asked h))

pub records_rows-broken : (i n : ℕ) (g : GeometryFields) (bytes : List ℕ) (at sent asked : ℕ) (e : FileErr) → i < n → first_holding (record_rows g bytes at sent asked) ≡ Some e → first_holding (records_rows (n - i) g bytes at sent asked) ≡ Some e
records_rows-broken i n g bytes at sent asked e h b =
    ap first_holding (opened i n g bytes at sent asked h)
    ∙ first_holding-append_some (record_rows g bytes at sent asked) (records_rows (n - (i + 1)) g bytes (next_at at bytes) (sent + length_at at bytes) (asked + reply_len g (command_of (act_at at bytes)))) e b

-- there are no rules when no record is left
pub records_rows-all : (i n : ℕ) (g : GeometryFields) (bytes : List ℕ) (at sent asked : ℕ) → n ≤ i → records_rows (n - i) g bytes at sent asked ≡ []
unfolding records_rows
records_rows-all i n g bytes at sent asked h =
    let none : n - i ≡ 0 = omega arith in
    rw none refl
