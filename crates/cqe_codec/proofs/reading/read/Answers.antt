use Rattle.std.proofs.Common.{rules, Ok, subst, ap}
use Rattle.cqe_codec.specs.Entries.{Spells}
use Rattle.cqe_codec.proofs.EntryLemmas.{entry_bytes-spelled, spells-entry_bytes}
use Rattle.cqe_codec.proofs.reading.read.Goals as goal

pub returns-clause-same_bytes : goal.returns-clause-same_bytes
returns-clause-same_bytes c = entry_bytes-spelled c.args.bytes.now _ (search rules) (search rules) c.fields_of.ensures.spells

pub returns-clause-written : goal.returns-clause-written
returns-clause-written c = λ entry f e.
    let s : Spells c.args.bytes.now entry = subst (λ bytes. Spells bytes entry) e (spells-entry_bytes entry f) in
    ap Ok (c.fields_of.ensures.only entry s)
