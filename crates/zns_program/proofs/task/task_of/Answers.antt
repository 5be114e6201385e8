use Rattle.std.proofs.Common.{◌≡◌, arith, rules}
use Rattle.std.proofs.lemmas.Grind.{common_steps}
use Rattle.zns_program.specs.Tasks.{task_named}
use Rattle.zns_program.proofs.Naming.{some_named, complete_named}
use Rattle.zns_program.proofs.task.task_of.Goals as goal

pub returns-in-len3-clause-some : goal.returns-in-len3-clause-some
returns-in-len3-clause-some c =
    let named : c.gen_of.result ≡ task_named c.args.words.now = first_of (search rules, grind (arith, common_steps)) in
    some_named c.args.words.now c.gen_of.result named

pub returns-in-len3-clause-complete : goal.returns-in-len3-clause-complete
returns-in-len3-clause-complete c = λ t asked.
    let named : c.gen_of.result ≡ task_named c.args.words.now = first_of (search rules, grind (arith, common_steps)) in
    complete_named c.args.words.now c.gen_of.result t named asked
