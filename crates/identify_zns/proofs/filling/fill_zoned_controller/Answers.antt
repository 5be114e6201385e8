use Rattle.std.proofs.Common.{◌≡◌, ap, ◌∙◌, arith}
use Rattle.std.specs.Prelude.{replicate}
use Rattle.identify_zns.specs.Pages.{zoned_controller_fields}
use Rattle.identify_zns.proofs.Layouts.{written-page}
use Rattle.identify_zns.proofs.filling.fill_zoned_controller.Goals as goal

pub returns : goal.returns
returns c =
    let zeros : c.clear.new.out ≡ replicate 4096 0 = c.clear.ensures ∙ ap (λ n. replicate n 0) c.requires in
    let made = written-page (zoned_controller_fields c.args.g.now.fields) (omega arith, omega arith, tt) in
    cc
