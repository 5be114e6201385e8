use Rattle.std.proofs.Common.{◌≡◌, List, [], length, refl, ap, sym, subst, ◌∙◌}
use Rattle.std.proofs.lemmas.Result.{err_from_is_err_and}
use Rattle.std.specs.Prelude.{All}
use Rattle.solo_drive.specs.Drives.{Drive}
use Rattle.zns_types.specs.declared.fields.GeometryFields.{GeometryFields}
use Rattle.zone_model.specs.declared.act.Act.{Act}
use Rattle.zone_model.specs.Sessions.{IsAct, IsOrder, merged, merge, replies_bytes}
use Rattle.zone_model.proofs.Merging.{merge_keeps_order}
use Rattle.zns_program.specs.Checking.{drive_bytes, bytes_after_order}
use Rattle.zns_program.proofs.Mixing.{merged-all}
use Rattle.zns_program.proofs.Tails.{stays_then}
use Rattle.zns_program.proofs.Checked.{HasServed, after_replies, stops_sooner, both_come, both_stop}
use Rattle.zns_program.proofs.checking.take_session.Goals as goal

pub in_order-requires-clause-order : goal.in_order-requires-clause-order
in_order-requires-clause-order g c =
    let acts_is : c.into_vec.result.items ≡ c.args.session.acts = c.into_vec.ensures ∙ c.into_parts-acts.ensures.acts in
    let P : List Act → Type 0 = λ acts. IsOrder acts c.args.order.now in
    subst P (sym acts_is) c.requires

pub take_replies-requires-clause-room : goal.take_replies-requires-clause-room
take_replies-requires-clause-room g c =
    let acts_is : c.into_vec.result.items ≡ c.args.session.acts = c.into_vec.ensures ∙ c.into_parts-acts.ensures.acts in
    let mixed_is : c.in_ok-acts.acts.items ≡ merge c.args.session c.args.order.now = c.in_ok-acts.ensures ∙ ap (λ (acts : List Act). merged acts c.args.order.now) acts_is in
    ap (λ (d : Drive). d.spare) c.in_ok-drive.ensures ∙ c.len-room.ensures ∙ ap length c.into_parts-acts.ensures.acts
    ∙ sym (merge_keeps_order c.args.session.acts c.args.order.now c.requires).count ∙ ap length (sym mixed_is)

pub take_replies-requires-clause-acts : goal.take_replies-requires-clause-acts
take_replies-requires-clause-acts g c =
    let acts_is : c.into_vec.result.items ≡ c.args.session.acts = c.into_vec.ensures ∙ c.into_parts-acts.ensures.acts in
    let mixed_is : c.in_ok-acts.acts.items ≡ merge c.args.session c.args.order.now = c.in_ok-acts.ensures ∙ ap (λ (acts : List Act). merged acts c.args.order.now) acts_is in
    let geometry_is : c.in_ok-drive.drive.geometry ≡ c.args.session.geometry = ap (λ (d : Drive). d.geometry) c.in_ok-drive.ensures ∙ c.into_parts-acts.ensures.geometry in
    let all : All (IsAct c.args.session.geometry) (merge c.args.session c.args.order.now) = merged-all (IsAct c.args.session.geometry) c.args.session.acts c.args.order.now c.into_parts-acts.ensures.session.acts in
    let P : List Act → Type 0 = λ acts. All (IsAct c.args.session.geometry) acts in
    let Q : GeometryFields → Type 0 = λ geometry. All (IsAct geometry) c.in_ok-acts.acts.items in
    subst Q (sym geometry_is) (subst P (sym mixed_is) all)

pub returns-in_err-take_replies-clause-stops : goal.returns-in_err-take_replies-clause-stops
returns-in_err-take_replies-clause-stops g c =
    let p = err_from_is_err_and c.from_residual-in_err-take_replies.result c.from_residual-in_err-take_replies.ensures.1 in
    let acts_is : c.into_vec.result.items ≡ c.args.session.acts = c.into_vec.ensures ∙ c.into_parts-acts.ensures.acts in
    let geometry = c.in_ok-drive.drive.geometry in
    let mixed = c.in_ok-acts.acts.items in
    let has : HasServed c.args.session c.args.order.now geometry geometry mixed mixed = record {
      geometry = ap (λ (d : Drive). d.geometry) c.in_ok-drive.ensures ∙ c.into_parts-acts.ensures.geometry;
      mixed_is = c.in_ok-acts.ensures ∙ ap (λ (acts : List Act). merged acts c.args.order.now) acts_is;
      stays = refl;
      served = refl;
    } in
    rw (p.1, p.2) (stops_sooner (g.S.Source.left c.args.source.now) c.args.tail.now c.take_replies.new.tail (g.S.Source.faults c.args.source.now) (g.S.Source.faults c.take_replies.new.source) (replies_bytes geometry [] mixed) (drive_bytes geometry mixed) (bytes_after_order c.args.session c.args.order.now) c.in_err-take_replies.field-0.0 (after_replies c.args.session c.args.order.now geometry geometry mixed mixed has) c.in_err-take_replies.ensures.stops)

pub returns-clause-stays : goal.returns-clause-stays
returns-clause-stays g c =
    stays_then (g.S.Source.left c.args.source.now) (g.S.Source.left c.take_replies.new.source) (g.S.Source.left c.take_drive-same.new.source) c.args.tail.now c.take_replies.new.tail c.take_drive-same.new.tail c.in_ok-take_replies.ensures.stays c.take_drive-same.ensures.stays

pub returns-clause-same : goal.returns-clause-same
returns-clause-same g c =
    let acts_is : c.into_vec.result.items ≡ c.args.session.acts = c.into_vec.ensures ∙ c.into_parts-acts.ensures.acts in
    let drive = c.take_replies.new.drive in
    let has : HasServed c.args.session c.args.order.now c.in_ok-drive.drive.geometry drive.geometry c.in_ok-acts.acts.items drive.acts = record {
      geometry = ap (λ (d : Drive). d.geometry) c.in_ok-drive.ensures ∙ c.into_parts-acts.ensures.geometry;
      mixed_is = c.in_ok-acts.ensures ∙ ap (λ (acts : List Act). merged acts c.args.order.now) acts_is;
      stays = c.in_ok-take_replies.ensures.geometry;
      served = c.in_ok-take_replies.ensures.acts;
    } in
    both_come c.take_drive-same.result (g.S.Source.left c.args.source.now) (g.S.Source.left c.take_replies.new.source) c.args.tail.now c.take_replies.new.tail c.take_drive-same.new.tail (replies_bytes c.in_ok-drive.drive.geometry [] c.in_ok-acts.acts.items) (drive_bytes drive.geometry drive.acts) (bytes_after_order c.args.session c.args.order.now) (after_replies c.args.session c.args.order.now c.in_ok-drive.drive.geometry drive.geometry c.in_ok-acts.acts.items drive.acts has) c.in_ok-take_replies.ensures.stays c.in_ok-take_replies.ensures.same c.take_drive-same.ensures.same

pub returns-clause-stops : goal.returns-clause-stops
returns-clause-stops g c =
    let acts_is : c.into_vec.result.items ≡ c.args.session.acts = c.into_vec.ensures ∙ c.into_parts-acts.ensures.acts in
    let drive = c.take_replies.new.drive in
    let has : HasServed c.args.session c.args.order.now c.in_ok-drive.drive.geometry drive.geometry c.in_ok-acts.acts.items drive.acts = record {
      geometry = ap (λ (d : Drive). d.geometry) c.in_ok-drive.ensures ∙ c.into_parts-acts.ensures.geometry;
      mixed_is = c.in_ok-acts.ensures ∙ ap (λ (acts : List Act). merged acts c.args.order.now) acts_is;
      stays = c.in_ok-take_replies.ensures.geometry;
      served = c.in_ok-take_replies.ensures.acts;
    } in
    both_stop c.take_drive-same.result (g.S.Source.left c.args.source.now) (g.S.Source.left c.take_replies.new.source) c.args.tail.now c.take_replies.new.tail c.take_drive-same.new.tail (g.S.Source.faults c.args.source.now) (g.S.Source.faults c.take_replies.new.source) (g.S.Source.faults c.take_drive-same.new.source) (replies_bytes c.in_ok-drive.drive.geometry [] c.in_ok-acts.acts.items) (drive_bytes drive.geometry drive.acts) (bytes_after_order c.args.session c.args.order.now) (after_replies c.args.session c.args.order.now c.in_ok-drive.drive.geometry drive.geometry c.in_ok-acts.acts.items drive.acts has) c.in_ok-take_replies.ensures.never_falls c.in_ok-take_replies.ensures.stays c.in_ok-take_replies.ensures.same c.take_drive-same.ensures.stops
