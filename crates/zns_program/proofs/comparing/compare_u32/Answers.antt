use Rattle.std.proofs.Common.{rules, ◌≡◌, ℕ, List, subst}
use Rattle.std.specs.Prelude.{IfErr}
use Rattle.byteorder.specs.Endian.{little_bytes}
use Rattle.zns_program.specs.Differences.{DiffersFrom}
use Rattle.zns_program.proofs.comparing.compare_u32.Goals as goal

pub returns-clause-differs : goal.returns-clause-differs
returns-clause-differs c =
    let made : c.write_u32.new.buf ≡ little_bytes 4 c.args.number = search rules in
    let P : List ℕ → Type 0 = λ bytes. IfErr c.compare.result (λ d. DiffersFrom c.args.input.now c.args.at bytes d.offset) in
    subst P made c.compare.ensures.differs
