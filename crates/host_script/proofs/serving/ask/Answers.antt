use Rattle.std.proofs.Common.{◌≡◌, refl, ap, ◌∙◌, sym, subst}
use Rattle.host_library.specs.Hosts.{after_put}
use Rattle.host_script.specs.declared.line.Line.{Line}
use Rattle.host_script.specs.Lines.{data_of}
use Rattle.host_script.specs.Scripts.{command_of_line}
use Rattle.host_script.proofs.Asked.{asked-write, asked-append, asked-put, asked-open, asked-flush, asked-reset, asked-report}
use Rattle.host_script.proofs.serving.ask.Goals as goal
use Rattle.host_script.proofs.serving.ask.Goals.{in-Write, in-Append, in-Put, in-Open, in-Flush, in-Reset, in-Report}

pub returns : goal.returns
returns c =
    let h = c.args.host.now in
    let g = c.args.g.now.fields in
    let same : h.geometry ≡ g = c.requires.geometry in
    let payload : c.in_ok-data.data ≡ data_of g c.args.line = c.in_ok-data.ensures ∙ rw (c.data_len.ensures.exact, c.byte.ensures) refl in
    let P : Line → Type 0 = λ of. c.match-line.host ≡ after_put h (command_of_line g of) (data_of g of) in
    elim c.match-line.branch [
      | in-Write w ↦ subst P (sym w.in-Write.is) (w.host-is ∙ w.write.ensures.host ∙ asked-write h g w.in-Write.lba w.in-Write.blocks w.in-Write.byte c.in_ok-data.data same (payload ∙ ap (data_of g) w.in-Write.is))
      | in-Append w ↦ subst P (sym w.in-Append.is) (w.host-is ∙ w.append.ensures.host ∙ asked-append h g w.in-Append.zone w.in-Append.blocks w.in-Append.byte c.in_ok-data.data same (payload ∙ ap (data_of g) w.in-Append.is))
      | in-Put w ↦ subst P (sym w.in-Put.is) (w.host-is ∙ w.window_put.ensures.host ∙ asked-put h g w.in-Put.zone w.in-Put.offset w.in-Put.blocks w.in-Put.byte c.in_ok-data.data same (payload ∙ ap (data_of g) w.in-Put.is))
      | in-Open w ↦ subst P (sym w.in-Open.is) (w.host-is ∙ w.open_window.ensures.host ∙ asked-open h g w.in-Open.zone same)
      | in-Flush w ↦ subst P (sym w.in-Flush.is) (w.host-is ∙ w.flush_to.ensures.host ∙ asked-flush h g w.in-Flush.zone w.in-Flush.last same)
      | in-Reset w ↦ subst P (sym w.in-Reset.is) (w.host-is ∙ w.reset.ensures.host ∙ asked-reset h g w.in-Reset.zone same)
      | in-Report w ↦ subst P (sym w.in-Report.is) (w.host-is ∙ w.report.ensures.host ∙ asked-report h g w.in-Report.zone same)
    ]
