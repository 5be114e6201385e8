use Rattle.std.proofs.Common.{◌≡◌, ◌++◌, ◌-◌, List, ℕ, length, refl, subst}
use Rattle.std.specs.Prelude.{OnOk}
use Rattle.std.specs.String.{string_bytes}
use Rattle.host_script.specs.Scripts.{descriptor_line}
use Rattle.host_script.proofs.LineSteps.{rest_whole}
use Rattle.host_script.proofs.answering.put_report.Goals as goal

pub returns : goal.returns
returns c =
    let report = c.args.report.now in
    let P : List ℕ → Type 0 = λ descriptor. OnOk c.put_descriptor.result (string_bytes c.put_descriptor.new.text ≡ string_bytes c.args.text.now ++ descriptor_line c.args.g.now.fields c.args.zone descriptor) in
    subst P (rest_whole (length report - 64) 64 report refl) c.put_descriptor.ensures
