-- All records of a session: what their bytes are, and when they break no rule.
use Rattle.std.proofs.Common.{◌≡◌, ℕ, zero, suc, ◌+◌, ◌^◌, ◌<◌, ◌≤◌, List, [], ◌∷◌, ◌++◌, length, drop, None, refl, sym, ap, ◌∙◌, arith}
use Rattle.std.proofs.lemmas.List.{append_assoc, length-drop, length-take-le}
use Rattle.std.specs.Prelude.{slice_index}
use Rattle.std.specs.List.{flat_map, AllByRecursion}
use Rattle.zns_types.specs.declared.fields.GeometryFields.{GeometryFields}
use Rattle.zns_types.specs.Rows.{first_holding}
use Rattle.zns_types.proofs.RowLemmas.{first_holding-append_none}
use Rattle.sqe_codec.specs.Commands.{reply_len}
use Rattle.zone_model.specs.declared.act.Act.{Act}
use Rattle.zone_model.specs.Places.{command_of}
use Rattle.zone_model.specs.Sessions.{IsAct, sent_bytes, asked_bytes, record_bytes}
use Rattle.session_file.specs.Places.{length_at, act_at, next_at, acts_from, end_from}
use Rattle.session_file.specs.FileRules.{record_rows, records_rows}
use Rattle.session_file.proofs.RowSplits.{first_holding-parts}
use Rattle.session_file.proofs.RecordPlaces.{Stands, record_bytes-act_at, act_at-record_bytes}
use Rattle.session_file.proofs.RecordRows.{Passes, passes-record, record-passes}

-- the records from an offset on are those of a drive's acts
pub record AreRecords (g : GeometryFields) (bytes : List ℕ) (n at before_sent before_asked : ℕ) : Type 0 where
  pub spelled : flat_map record_bytes (acts_from n at bytes) ++ drop (end_from n at bytes) bytes ≡ drop at bytes
  pub acts : AllByRecursion (IsAct g) (acts_from n at bytes)
  pub count : length (acts_from n at bytes) ≡ n
  pub sent : before_sent + sent_bytes (acts_from n at bytes) ≤ 2 ^ 27
  pub asked : before_asked + asked_bytes g (acts_from n at bytes) ≤ 2 ^ 27
  pub within : end_from n at bytes ≤ length bytes

pub is_act : (g : GeometryFields) (bytes : List ℕ) (at sent asked : ℕ) → Passes g bytes at sent asked → IsAct g (act_at at bytes)
unfolding act_at length_at
is_act g bytes at sent asked p =
    record {
      queue = p.queue;
      entry = length-take-le 64 (drop (at + 8) bytes) (omega (arith, p.within, length-drop (at + 8) bytes));
      payload = length-take-le (length_at at bytes) (drop (at + 72) bytes) (omega (arith, p.within, length-drop (at + 72) bytes)) ∙ p.len;
    }

pub payload_len : (g : GeometryFields) (bytes : List ℕ) (at sent asked : ℕ) → Passes g bytes at sent asked → length (act_at at bytes).payload ≡ length_at at bytes
payload_len g bytes at sent asked p = (is_act g bytes at sent asked p).payload ∙ sym p.len

-- if they break no rule, they are
pub are_records : (n : ℕ) (g : GeometryFields) (bytes : List ℕ) (at sent asked : ℕ) → ((i : ℕ) → slice_index bytes i < 256) → at ≤ length bytes → sent ≤ 2 ^ 27 → asked ≤ 2 ^ 27 → first_holding (records_rows n g bytes at sent asked) ≡ None → AreRecords g bytes n at sent asked
unfolding records_rows
are_records zero g bytes at sent asked fits within few_sent few_asked e = record {
  spelled = refl;
  acts = tt;
  count = refl;
  sent = omega arith;
  asked = omega arith;
  within = within;
}
are_records (suc n) g bytes at sent asked fits within few_sent few_asked e =
    let next : ℕ = next_at at bytes in
    let split = first_holding-parts (record_rows g bytes at sent asked) (records_rows n g bytes next (sent + length_at at bytes) (asked + reply_len g (command_of (act_at at bytes)))) e in
    let p : Passes g bytes at sent asked = passes-record g bytes at sent asked split.0 in
    let rest : AreRecords g bytes n next (sent + length_at at bytes) (asked + reply_len g (command_of (act_at at bytes))) =
    are_records n g bytes next (sent + length_at at bytes) (asked + reply_len g (command_of (act_at at bytes))) fits p.within p.few_sent p.few_asked split.1 in
    let long = payload_len g bytes at sent asked p in
    record {
      spelled = append_assoc (record_bytes (act_at at bytes)) (flat_map record_bytes (acts_from n next bytes)) (drop (end_from n next bytes) bytes)
          ∙ ap (λ (b : List ℕ). record_bytes (act_at at bytes) ++ b) rest.spelled
          ∙ record_bytes-act_at at bytes p.within p.zeros fits;
      acts = (is_act g bytes at sent asked p, rest.acts);
      count = ap suc rest.count;
      sent = omega (arith, rest.sent, long);
      asked = omega (arith, rest.asked);
      within = rest.within;
    }

-- the records of these acts follow from an offset on, and break no rule
pub record Follow (g : GeometryFields) (bytes : List ℕ) (acts : List Act) (at before_sent before_asked : ℕ) (after : List ℕ) : Type 0 where
  pub same : acts_from (length acts) at bytes ≡ acts
  pub rest : drop (end_from (length acts) at bytes) bytes ≡ after
  pub within : end_from (length acts) at bytes ≤ length bytes
  pub passed : first_holding (records_rows (length acts) g bytes at before_sent before_asked) ≡ None

act_passes : (g : GeometryFields) (bytes : List ℕ) (a : Act) (at sent asked : ℕ) (after : List ℕ) → IsAct g a → Stands at bytes a after → sent + length a.payload ≤ 2 ^ 27 → asked + reply_len g (command_of a) ≤ 2 ^ 27 → Passes g bytes at sent asked
act_passes g bytes a at sent asked after is s few_sent few_asked =
    record {
      queue = rw s.act is.queue;
      zeros = s.zeros;
      len = rw s.act (s.len ∙ is.payload);
      few_sent = rw s.len few_sent;
      few_asked = rw s.act few_asked;
      within = s.within;
    }

pub follow : (acts : List Act) (g : GeometryFields) (bytes : List ℕ) (at sent asked : ℕ) (after : List ℕ) → g.queues ≤ 17 → AllByRecursion (IsAct g) acts → at ≤ length bytes → sent + sent_bytes acts ≤ 2 ^ 27 → asked + asked_bytes g acts ≤ 2 ^ 27 → drop at bytes ≡ flat_map record_bytes acts ++ after → Follow g bytes acts at sent asked after
unfolding records_rows
follow [] g bytes at sent asked after few all within few_sent few_asked e = record {
  same = refl;
  rest = e;
  within = within;
  passed = refl;
}
follow (a ∷ acts) g bytes at sent asked after few all within few_sent few_asked e =
    let s : Stands at bytes a (flat_map record_bytes acts ++ after) =
    act_at-record_bytes at bytes a (flat_map record_bytes acts ++ after) (omega (arith, all.0.queue)) (omega (arith, few_sent)) all.0.entry
    (e ∙ append_assoc (record_bytes a) (flat_map record_bytes acts) after) in
    let p : Passes g bytes at sent asked = act_passes g bytes a at sent asked (flat_map record_bytes acts ++ after) all.0 s (omega (arith, few_sent)) (omega (arith, few_asked)) in
    let next : ℕ = next_at at bytes in
    let rest : Follow g bytes acts next (sent + length_at at bytes) (asked + reply_len g (command_of (act_at at bytes))) after =
    follow acts g bytes next (sent + length_at at bytes) (asked + reply_len g (command_of (act_at at bytes))) after few all.1 s.within
    (rw s.len (omega (arith, few_sent))) (rw s.act (omega (arith, few_asked))) s.rest in
    record {
      same = rw (s.act, rest.same) refl;
      rest = rest.rest;
      within = rest.within;
      passed = first_holding-append_none (record_rows g bytes at sent asked) (records_rows (length acts) g bytes next (sent + length_at at bytes) (asked + reply_len g (command_of (act_at at bytes)))) (record-passes g bytes at sent asked p) ∙ rest.passed;
    }
