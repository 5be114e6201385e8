use Rattle.std.proofs.Common.{◌≤◌, ◌^◌, arith, refl}
use Rattle.zone_model.specs.Sessions.{IsSession, spelling, sent_bytes}
use Rattle.session_file.proofs.Appending.{one_of_sent}
use Rattle.session_file.proofs.writing.write.Goals as goal

pub put_acts-requires : goal.put_acts-requires
put_acts-requires c = λ k d h.
    let session : IsSession c.args.session.now = c.acts-acts.ensures.session in
    let sent : sent_bytes c.acts-acts.result.now.acts ≤ 2 ^ 27 = rw c.acts-acts.ensures.acts session.sent in
    omega (arith, one_of_sent c.acts-acts.result.now.acts k d h)

pub returns : goal.returns
unfolding spelling
returns c = rw (c.from_vec.ensures, c.in_ok-put_acts.ensures, c.in_ok-put_header.ensures, c.new-file.ensures.items, c.len.ensures, c.acts-acts.ensures.acts, c.fields.ensures, c.geometry.ensures.fields) refl
