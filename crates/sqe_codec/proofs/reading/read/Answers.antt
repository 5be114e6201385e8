-- An entry is on the admin queue or on an I/O queue, and spells no other command.
use Rattle.std.proofs.Common.{◌≡◌, Bool, subst, sym, ◌∙◌, arith}
use Rattle.std.proofs.lemmas.Grind.{common_steps}
use Rattle.sqe_codec.specs.Commands.{command}
use Rattle.sqe_codec.specs.Reading.{Reads}
use Rattle.sqe_codec.proofs.OneCommand.{only_command}
use Rattle.sqe_codec.proofs.reading.read.Goals as goal

pub returns-then-admin-clause-only : goal.returns-then-admin-clause-only
returns-then-admin-clause-only c = λ cmd h.
    let found : c.read_admin.result ≡ command c.args.admin c.args.sqe.now.bytes = grind (arith, common_steps) in
    sym (only_command cmd c.args.admin c.args.sqe.now.bytes h) ∙ sym found

pub returns-else-admin-clause-only : goal.returns-else-admin-clause-only
returns-else-admin-clause-only c = λ cmd h.
    let found : c.read_io.result ≡ command c.args.admin c.args.sqe.now.bytes = grind (arith, common_steps) in
    sym (only_command cmd c.args.admin c.args.sqe.now.bytes h) ∙ sym found

pub returns-else-admin-clause-reads : goal.returns-else-admin-clause-reads
returns-else-admin-clause-reads c =
    subst (λ (admin : Bool). Reads c.args.sqe.now.bytes admin c.read_io.result) (sym c.if-admin.false) c.read_io.ensures.reads
