use Rattle.std.proofs.Common.{◌≡◌, ap, ◌∙◌, arith}
use Rattle.std.specs.Prelude.{replicate}
use Rattle.identify_zns.specs.Pages.{zoned_namespace_fields}
use Rattle.identify_zns.specs.Layout.{page}
use Rattle.identify_zns.proofs.Layouts.{written-page}
use Rattle.identify_zns.proofs.Shown.{Fit, zoned_page-shown}
use Rattle.identify_zns.proofs.filling.fill_zoned_namespace.Goals as goal

pub returns-clause-page : goal.returns-clause-page
returns-clause-page c =
    let zeros : c.clear.new.out ≡ replicate 4096 0 = c.clear.ensures ∙ ap (λ n. replicate n 0) c.requires in
    let made = written-page (zoned_namespace_fields c.args.fields) (omega arith, omega arith, (omega arith, omega arith, (omega arith, omega arith, (omega arith, omega arith, (omega arith, omega arith, (omega arith, omega arith, (omega arith, omega arith, (omega arith, omega arith, tt)))))))) in
    rw (c.put-8.ensures, c.put-7.ensures, c.put-6.ensures, c.put-5.ensures, c.put-4.ensures, c.put-3.ensures, c.put-2.ensures, c.put.ensures, zeros) (
    rw (c.to_le_bytes.ensures, c.to_le_bytes-2.ensures, c.to_le_bytes-3.ensures, c.to_le_bytes-4.ensures, c.to_le_bytes-5.ensures, c.to_le_bytes-6.ensures, c.to_le_bytes-7.ensures) (
    rw (c.capabilities.ensures, c.characteristics.ensures, c.zero_based.ensures, c.zero_based-2.ensures) made))

pub returns-clause-shown : goal.returns-clause-shown
returns-clause-shown c =
    let fit : Fit c.args.fields = record {
      active_limit = omega arith;
      open_limit = omega arith;
      windows = omega arith;
      granule = omega arith;
      window = omega arith;
      zone_size = omega arith;
    } in
    let filled : c.put-8.new.out ≡ page (zoned_namespace_fields c.args.fields) = returns-clause-page c in
    rw filled (zoned_page-shown c.args.fields fit)
