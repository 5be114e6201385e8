use Rattle.std.proofs.Common.{◌≡◌, ◌%◌, ◌^◌, List, [], length, ap, ◌∙◌, sym, arith}
use Rattle.std.proofs.lemmas.Grind.{common_steps}
use Rattle.zone_model.specs.declared.act.Act.{Act}
use Rattle.solo_drive.specs.Drives.{Drive}
use Rattle.host_library.specs.declared.loop_link.LoopLink.{LoopLink}
use Rattle.host_library.specs.Hosts.{Hosted}
use Rattle.host_script.specs.Serving.{acts_of_host}
use Rattle.host_script.proofs.serving.serve.Goals as goal

pub serve_lines-requires-clause-geometry : goal.serve_lines-requires-clause-geometry
serve_lines-requires-clause-geometry c = ap (λ (h : Hosted LoopLink). h.geometry) c.in_ok-host.ensures

pub serve_lines-requires-clause-idle : goal.serve_lines-requires-clause-idle
serve_lines-requires-clause-idle c =
    let host = c.in_ok-host.ensures in
    let drive : c.in_ok-host.host.link.drive ≡ c.in_ok-drive.drive = ap (λ (h : Hosted LoopLink). h.link.drive) host ∙ ap (λ (k : LoopLink). k.drive) c.new-2.ensures in
    let acts : acts_of_host c.in_ok-host.host ≡ [] = ap (λ (d : Drive). d.acts) (drive ∙ c.in_ok-drive.ensures) in
    record {
      ring = ap (λ (h : Hosted LoopLink). h.ring) host;
      next = ap (λ (h : Hosted LoopLink). h.next) host ∙ sym (ap (λ (a : List Act). length a % 2 ^ 16) acts);
    }

pub serve_lines-requires-clause-fresh : goal.serve_lines-requires-clause-fresh
serve_lines-requires-clause-fresh c =
    let drive : c.in_ok-host.host.link.drive ≡ c.in_ok-drive.drive = ap (λ (h : Hosted LoopLink). h.link.drive) c.in_ok-host.ensures ∙ ap (λ (k : LoopLink). k.drive) c.new-2.ensures in
    ap (λ (d : Drive). d.acts) (drive ∙ c.in_ok-drive.ensures)

pub serve_lines-requires-clause-spare : goal.serve_lines-requires-clause-spare
serve_lines-requires-clause-spare c =
    let drive : c.in_ok-host.host.link.drive ≡ c.in_ok-drive.drive = ap (λ (h : Hosted LoopLink). h.link.drive) c.in_ok-host.ensures ∙ ap (λ (k : LoopLink). k.drive) c.new-2.ensures in
    let spare : c.in_ok-host.host.link.drive.spare ≡ c.len.result = ap (λ (d : Drive). d.spare) (drive ∙ c.in_ok-drive.ensures) in
    first_of (omega (arith, spare, c.len.ensures), grind (arith, common_steps, spare, c.len.ensures))
