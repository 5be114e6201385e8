use Rattle.std.proofs.Common.{◌≡◌, ◌++◌, List, ℕ, Result, Ok, Err, subst}
use Rattle.std.specs.Prelude.{OnOk}
use Rattle.std.specs.String.{string_bytes}
use Rattle.host_script.proofs.Sent.{is_answered}
use Rattle.host_script.proofs.serving.serve_line.Goals as goal

on_ok : {A E : Type 0} (r : Result A E) (P : Type 0) → P → OnOk r P
on_ok (Ok v) P p = p
on_ok (Err e) P p = tt

pub returns-clause-idle : goal.returns-clause-idle
returns-clause-idle c =
    let done = is_answered c.args.host.now c.ask.new.host c.send-outcome.new.host c.args.g.now.fields c.args.line c.send-outcome.result c.send-outcome.new.out c.args.g.now.valid c.requires.line c.requires.geometry c.requires.idle c.in_ok-ask.ensures c.send-outcome.ensures c.send-outcome.array_long in
    on_ok c.put_outcome.result _ done.idle

pub returns-clause-text : goal.returns-clause-text
returns-clause-text c =
    let done = is_answered c.args.host.now c.ask.new.host c.send-outcome.new.host c.args.g.now.fields c.args.line c.send-outcome.result c.send-outcome.new.out c.args.g.now.valid c.requires.line c.requires.geometry c.requires.idle c.in_ok-ask.ensures c.send-outcome.ensures c.send-outcome.array_long in
    let P : List ℕ → Type 0 = λ line. OnOk c.put_outcome.result (string_bytes c.put_outcome.new.text ≡ string_bytes c.args.text.now ++ line) in
    subst P done.text c.put_outcome.ensures
