-- The shadow of a zone, from its report.
use Rattle.std.proofs.Common.{◌≡◌, ℕ, Bool, List, Some, refl, ap, ◌∙◌, sym}
use Rattle.std.specs.Prelude.{nat_lt, slice_range}
use Rattle.zns_types.specs.declared.fields.GeometryFields.{GeometryFields}
use Rattle.zns_types.specs.Geometry.{all_blocks, zone_of}
use Rattle.sqe_codec.specs.declared.cmd.Cmd.{Cmd}
use Rattle.sqe_codec.specs.declared.cmd.Cmd.TheVariants as cmd
use Rattle.zone_model.proofs.Found.{some_if}
use Rattle.host_library.specs.declared.shadow.Shadow.{Shadow}
use Rattle.host_library.specs.Shadows.{shadow_shown}
use Rattle.host_library.specs.Asking.{zone_about, shadow_done}

pub received : (g : GeometryFields) (k : Cmd) (nsid slba bytes act filter : ℕ) (partial : Bool) (zone : ℕ) (out descriptor : List ℕ) (s : Shadow) → k ≡ cmd.Receive nsid slba bytes act filter partial → zone_about g k ≡ Some zone
    → descriptor ≡ slice_range out 64 128 → shadow_shown g zone descriptor ≡ shadow_done g k out s
received g k nsid slba bytes act filter partial zone out descriptor s is about read =
    let here : zone_about g (cmd.Receive nsid slba bytes act filter partial) ≡ Some zone = ap (zone_about g) (sym is) ∙ about in
    let same : zone_of g slba ≡ zone = (some_if (nat_lt slba (all_blocks g)) (zone_of g slba) zone here).1 in
    rw (is, same, read) refl
