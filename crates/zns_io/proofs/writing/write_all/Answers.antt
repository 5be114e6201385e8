use Rattle.std.proofs.Common.{rules}
use Rattle.std.proofs.lemmas.Result.{err_from_is_err_and}
use Rattle.zns_io.proofs.WriteLemmas.{written_prefix, written_then, offered_all, offered_failed, offered_then}
use Rattle.zns_io.proofs.writing.write_all.Goals as goal

pub returns-clause-offers : goal.returns-clause-offers
returns-clause-offers g c = offered_all _ _ _ _ _ c.loop-rest.invariant.offers (search rules)

pub returns-in_err-count-clause-prefix : goal.returns-in_err-count-clause-prefix
returns-in_err-count-clause-prefix g c =
    let p = err_from_is_err_and c.from_residual.result c.from_residual.ensures.1 in
    rw p.1 (written_prefix _ _ _ _ _ c.loop-rest.invariant.written c.in_err-count.ensures.kept (search rules))

pub returns-in_err-count-clause-offers : goal.returns-in_err-count-clause-offers
returns-in_err-count-clause-offers g c =
    let p = err_from_is_err_and c.from_residual.result c.from_residual.ensures.1 in
    offered_failed _ _ _ _ _ _ _ _ c.loop-rest.invariant.offers (search rules) c.in_err-count.ensures.step p.1

pub loop-rest-preserved : goal.loop-rest-preserved
loop-rest-preserved g c = record {
  written = written_then _ _ _ _ _ _ c.loop-rest.invariant.written c.in_ok-count.ensures.bytes;
  offers = offered_then _ _ _ _ _ _ _ c.loop-rest.invariant.offers (search rules) c.in_ok-count.ensures.step;
  faults = search rules;
}
