use Rattle.std.proofs.Common.{ℕ, ◌+◌, ◌%◌, ◌^◌, ap, sym, subst, ◌∙◌}
use mathlib.Core.Option.{none}
use Rattle.atomic_table.specs.Table.{step, Allows}
use Rattle.zns_types.specs.declared.fields.GeometryFields.{GeometryFields}
use Rattle.zone_model.specs.declared.act.Act.{Act}
use Rattle.zone_desk.specs.Parts.{Covers}
use Rattle.zone_desk.specs.Rules.{Rule}
use Rattle.zone_desk.specs.Sights.{log_of}
use Rattle.zone_desk.specs.Plays.{Mine, Commits}
use Rattle.zone_desk.proofs.Commits.{committing}
use Rattle.zone_desk.proofs.steps.commit.Goals as goal

pub fetch_add-requires : goal.fetch_add-requires
fetch_add-requires g c =
    let q = c.requires in
    let me : Mine = c.args.seat.now.me in
    let slots : ℕ = c.args.board.now.table_id.slots in
    let id : ℕ = c.args.seat.now.id in
    let room : ℕ = c.args.board.now.key.room in
    let act : Act = g.D.Adding.act in
    let covers = subst (λ (a : Act). Covers me.0.geometry (log_of me.0) a me.0.cells) (sym q.picks) q.zones in (
      q.table,
      q.words,
      subst (λ (f : GeometryFields). Allows (Rule record { fields = f; room = room }) slots id me 0 (λ n. (n + 1) % 2 ^ 64) (Commits act (step slots 0 1 0 none) me)) q.geometry
          (committing slots id room me act q.slots q.kind (ap (λ (a : Act). a.queue) q.picks ∙ q.queue) q.spare q.journal covers),
    )
