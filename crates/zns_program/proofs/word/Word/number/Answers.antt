use Rattle.std.proofs.Common.{◌≡◌, arith, rules}
use Rattle.std.proofs.lemmas.Grind.{common_steps}
use Rattle.text_lines.specs.Decimals.{number_in}
use Rattle.text_lines.proofs.SpelledNumbers.{exactly}
use Rattle.zns_program.proofs.word.Word.number.Goals as goal

pub returns-clause-exactly : goal.returns-clause-exactly
returns-clause-exactly c =
    let same : c.number_in.result ≡ number_in c.args.self.now = first_of (search rules, grind (arith, common_steps)) in
    exactly c.args.self.now c.number_in.result same
