use Rattle.std.proofs.Common.{◌<◌, length, refl}
use Rattle.zone_model.specs.declared.act.Act.{Act}
use Rattle.host_library.specs.Asking.{IsCommand, IsAsked}
use Rattle.host_library.proofs.Rings.{asked-act, stands-put}
use Rattle.host_library.proofs.host.Host.put.Goals as goal

pub invariant_of-self : goal.invariant_of-self
invariant_of-self g c =
    let s = c.self.inside in
    let act : Act = record { queue = 1; sqe = c.write.result; payload = c.args.payload } in
    let asks : IsCommand s.geometry.fields c.args.command.now c.args.payload = rw (← c.self.view_is) at c.requires in
    let asked : IsAsked s.geometry.fields act = asked-act s.geometry.fields c.args.command.now act asks refl c.write.ensures.command in
    let room : length s.ring.items < s.ring.capacity = c.in-Ok.ensures.variant.0 refl in
    rw (c.in-Ok.ensures.ok) (stands-put _ _ _ _ _ _ act c.self.invariant room asked)
