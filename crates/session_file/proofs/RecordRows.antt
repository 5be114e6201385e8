-- The rules of one record and the facts that they state.
use Rattle.std.proofs.Common.{◌≡◌, ℕ, ◌+◌, ◌^◌, ◌<◌, ◌≤◌, List, length, None, arith}
use Rattle.std.proofs.lemmas.Bool.Decides.{nat_tests}
use Rattle.zns_types.specs.declared.fields.GeometryFields.{GeometryFields}
use Rattle.zns_types.specs.Fields.{field}
use Rattle.zns_types.specs.Rows.{first_holding}
use Rattle.zns_types.proofs.RowLemmas.{none_holds, none_answers}
use Rattle.sqe_codec.specs.Commands.{transfer_len, reply_len}
use Rattle.zone_model.specs.Places.{command_of}
use Rattle.session_file.specs.Places.{length_at, act_at, next_at}
use Rattle.session_file.specs.FileRules.{record_rows}

pub record Passes (g : GeometryFields) (bytes : List ℕ) (at sent asked : ℕ) : Type 0 where
  pub queue : (act_at at bytes).queue < g.queues
  pub zeros : field (at + 2) 2 bytes ≡ 0
  pub len : length_at at bytes ≡ transfer_len g (command_of (act_at at bytes))
  pub few_sent : sent + length_at at bytes ≤ 2 ^ 27
  pub few_asked : asked + reply_len g (command_of (act_at at bytes)) ≤ 2 ^ 27
  pub within : next_at at bytes ≤ length bytes

-- if no rule is broken, the facts hold
pub passes-record : (g : GeometryFields) (bytes : List ℕ) (at sent asked : ℕ) → first_holding (record_rows g bytes at sent asked) ≡ None → Passes g bytes at sent asked
unfolding record_rows
passes-record g bytes at sent asked e =
    let (_, (no_queue, (nonzero, (other_len, (much_sent, (much_asked, (beyond, _))))))) = none_holds (record_rows g bytes at sent asked) e in
    record {
      queue = grind (arith, nat_tests, no_queue);
      zeros = grind (arith, nat_tests, nonzero);
      len = grind (arith, nat_tests, other_len);
      few_sent = grind (arith, nat_tests, much_sent);
      few_asked = grind (arith, nat_tests, much_asked);
      within = grind (arith, nat_tests, beyond);
    }

-- and conversely
pub record-passes : (g : GeometryFields) (bytes : List ℕ) (at sent asked : ℕ) → Passes g bytes at sent asked → first_holding (record_rows g bytes at sent asked) ≡ None
unfolding record_rows
record-passes g bytes at sent asked p =
    none_answers (record_rows g bytes at sent asked) (grind (arith, nat_tests), (grind (arith, nat_tests), (grind (arith, nat_tests), (grind (arith, nat_tests), (grind (arith, nat_tests), (grind (arith, nat_tests), (grind (arith, nat_tests), tt)))))))
