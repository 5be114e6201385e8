use Rattle.std.proofs.Common.{◌≡◌, ◌<◌, ◌∙◌, arith, subst}
use Rattle.zone_model.specs.Zones.{pointer}
use Rattle.solo_drive.specs.Drives.{Drive, history}
use Rattle.solo_drive.proofs.Drives.{drive-length, drive-pointer}
use Rattle.solo_drive.proofs.solo.Solo.pointer.Goals as goal

pub index-requires : goal.index-requires
index-requires c =
    let s = c.self.inside in
    let lt : c.args.zone < s.geometry.fields.zones = rw (← c.self.view_is) at c.requires in
    omega (arith, lt, drive-length s.geometry.fields s.cells.items s.book c.self.invariant, s.cells.ok.0)

pub returns : goal.returns
returns c =
    let s = c.self.inside in
    let g = s.geometry.fields in
    let z = c.args.zone in
    let lt : z < g.zones = rw (← c.self.view_is) at c.requires in
    let P : Drive → Type 0 = λ d. c.pointer.result ≡ pointer d.geometry (history d) z in
    subst P c.self.view_is (c.pointer.ensures.exact ∙ drive-pointer g s.cells.items s.book z c.index.result.now c.self.invariant lt c.index.ensures)
