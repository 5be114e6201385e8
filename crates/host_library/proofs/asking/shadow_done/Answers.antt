use Rattle.std.proofs.Common.{◌∙◌}
use Rattle.host_library.proofs.Received.{received}
use Rattle.host_library.proofs.asking.shadow_done.Goals as goal

pub returns-in-Receive-clause-exact : goal.returns-in-Receive-clause-exact
returns-in-Receive-clause-exact c =
    let is = c.in-Receive in
    c.shadow_shown.ensures.exact
    ∙ received c.args.g.now.fields c.args.command is.nsid is.slba is.bytes is.action is.filter is.partial c.args.zone c.args.out.now _ c.args.shadow is.is c.requires.zone c.copy_from_slice.ensures.after
