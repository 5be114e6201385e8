use Rattle.std.proofs.Common.{sym, subst}
use Rattle.zns_types.specs.declared.fields.GeometryFields.{GeometryFields}
use Rattle.zone_model.specs.Sessions.{IsSession}
use Rattle.zns_program.proofs.MadeActs.{made-is_session}
use Rattle.zns_program.proofs.generating.generate.Goals as goal

pub new-requires : goal.new-requires
new-requires c =
    let acts = c.in_ok-acts.acts.acts in
    subst (λ (g : GeometryFields). IsSession (record { geometry = g; acts = acts })) (sym c.made_geometry.ensures) (made-is_session c.args.count c.args.number acts c.requires c.in_ok-acts.ensures.acts c.in_ok-acts.ensures.one_block)
