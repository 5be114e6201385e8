use Rattle.std.proofs.Common.{◌≡◌, ℕ, List, ◌++◌, length, take, drop, ap, ◌∙◌}
use Rattle.std.specs.Prelude.{replicate}
use Rattle.drive_rules.specs.Reports.{first_bytes}
use Rattle.solo_drive.proofs.FirstBytes.{page-front}
use Rattle.solo_drive.proofs.notices.fill_page.Goals as goal

pub returns : goal.returns
returns c =
    let len = length c.args.out.now in
    let given = c.min-given.result in
    let zeros : c.fill.new.self ≡ replicate len 0 = c.fill.ensures.after (λ y same. same) in
    let front : c.copy_from_slice.new.self ≡ take given c.page.new.out = c.copy_from_slice.ensures.after in
    ap (λ (xs : List ℕ). xs ++ drop given c.fill.new.self) front
    ∙ ap (λ (xs : List ℕ). take given c.page.new.out ++ drop given xs) zeros
    ∙ page-front c.page.new.out 4096 len given c.page.auto.out c.min-given.ensures
    ∙ ap (first_bytes len) c.page.ensures
