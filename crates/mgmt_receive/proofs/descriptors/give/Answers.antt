use Rattle.std.proofs.Common.{◌≡◌, ◌∙◌, ap, arith, sym, true}
use Rattle.zone_descriptor.specs.Descriptors.{descriptor_bytes}
use Rattle.mgmt_receive.specs.Receiving.{is_wanted}
use Rattle.mgmt_receive.proofs.Given.{gave}
use Rattle.mgmt_receive.proofs.descriptors.give.Goals as goal

pub returns : goal.returns
returns c before was =
    let g = c.args.g.now.fields in
    let takes : is_wanted c.args.wanted c.args.cell.now.state ≡ true = sym (c.is_wanted.ensures ∙ ap (is_wanted c.args.wanted) c.state.ensures) ∙ c.if-not-is_wanted.false in
    gave g c.args.wanted before c.args.cell.now _ c.args.given _ c.args.out.now c.copy_from_slice.new.self takes c.requires.room (omega arith)
    (c.copy_from_slice.ensures.after ∙ c.write.ensures.bytes ∙ ap descriptor_bytes c.descriptor.ensures) was
