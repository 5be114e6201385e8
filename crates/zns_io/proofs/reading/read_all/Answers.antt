use Rattle.std.proofs.Common.{rules, ℕ, List, Err, ap, refl, ◌∙◌, ◌+◌, ◌-◌, ◌≡◌, ◌≤◌, ◌++◌, length, take, vec_len, arith, length-append}
use Rattle.std.proofs.lemmas.List.{take-append-le}
use Rattle.std.proofs.lemmas.Result.{err_from_is_err_and}
use Rattle.zns_io.proofs.ReadLemmas.{Consumes-then, ReadsFront-consumed, gave_nothing, gave_more}
use Rattle.zns_io.specs.declared.read_err.ReadErr.TheVariants as errors
use Rattle.zns_io.proofs.reading.read_all.Goals as goal

pub returns-in_err-extend_from_slice-clause-at_most :
    goal.returns-in_err-extend_from_slice-clause-at_most
returns-in_err-extend_from_slice-clause-at_most g c =
    let all = c.loop-piece.all in
    let count = c.in_ok-count.count in
    let more = take count c.read.new.out in
    let size : length more ≡ count = search rules in
    let room : c.min-room.result ≤ c.args.limit - vec_len all + 1 = search (rules, arith) in
    let some : count ≤ c.min-room.result = search (rules, arith) in
    let within : vec_len all ≤ c.args.limit = search (rules, arith) in (
      vec_len all + count,
      omega (arith, room, some, within),
      ReadsFront-consumed _ _ (all.items ++ more) _ (Consumes-then _ _ _ all.items more c.loop-piece.invariant.told c.in_ok-count.ensures.bytes)
          (omega (arith, size, length-append all.items more, all.ok.0)),
    )

pub loop-piece-init : goal.loop-piece-init
loop-piece-init g c = record {
  told = search rules;
  turns = gave_nothing _ _ _ c.new-all.ensures.items;
  within = search rules;
  faults = search rules;
}

pub loop-piece-preserved : goal.loop-piece-preserved
loop-piece-preserved g c =
    let all = c.loop-piece.all in
    let more = take c.in_ok-count.count c.read.new.out in
    let within : c.in_ok-count.count ≤ length c.read.new.out = search rules in
    let grown : c.extend_from_slice.new.self.items ≡ all.items ++ more =
    c.in_ok-extend_from_slice.ensures.items ∙ ap (λ (r : List ℕ). all.items ++ r) (take-append-le c.in_ok-count.count c.read.new.out _ within) in
    record {
      told = rw grown (Consumes-then _ _ _ all.items more c.loop-piece.invariant.told c.in_ok-count.ensures.bytes);
      turns = gave_more _ _ _ _ all.items _ _ _ _ c.loop-piece.invariant.turns (search rules) c.in_ok-count.ensures.step grown;
      within = search rules;
      faults = search rules;
    }

pub returns-in_err-count-clause-turns : goal.returns-in_err-count-clause-turns
returns-in_err-count-clause-turns g c =
    let p = err_from_is_err_and c.from_residual.result c.from_residual.ensures.1 in
    let same : c.from_residual.result ≡ Err errors.Failed = rw p.1 (ap Err p.2) in
    let within : vec_len c.loop-piece.all ≤ c.args.limit = search (rules, arith) in
    rw same (
      c.loop-piece.all.items,
      c.loop-piece.source,
      _,
      _,
      c.in_err-count.field-0.0,
      omega (arith, within, c.loop-piece.all.ok.0),
      c.loop-piece.invariant.turns,
      c.in_err-count.ensures.step,
    )

pub returns-in_err-extend_from_slice-clause-turns :
    goal.returns-in_err-extend_from_slice-clause-turns
returns-in_err-extend_from_slice-clause-turns g c =
    let all = c.loop-piece.all in
    let count = c.in_ok-count.count in
    let more = take count c.read.new.out in
    let size : length more ≡ count = search rules in
    let room : c.min-room.result ≤ c.args.limit - vec_len all + 1 = search (rules, arith) in
    let some : count ≤ c.min-room.result = search (rules, arith) in
    let within : vec_len all ≤ c.args.limit = search (rules, arith) in
    let p = err_from_is_err_and c.from_residual-in_err-extend_from_slice.result c.from_residual-in_err-extend_from_slice.ensures.1 in
    let same : c.from_residual-in_err-extend_from_slice.result ≡ Err errors.NoMemory = rw p.1 (ap Err p.2) in
    rw same (
      all.items ++ more,
      omega (arith, room, some, within, size, length-append all.items more, all.ok.0),
      gave_more _ _ _ _ all.items _ _ _ _ c.loop-piece.invariant.turns (search rules) c.in_ok-count.ensures.step refl,
    )
