-- Commands whose bytes moved before the book was taken.
use Rattle.std.proofs.Common.{◌≡◌, List, ℕ, length, Option, Some, None, sym, ap, ◌∙◌, subst}
use Rattle.zns_types.specs.declared.fields.GeometryFields.{GeometryFields}
use Rattle.sqe_codec.specs.declared.sqe.Sqe.{Sqe}
use Rattle.sqe_codec.specs.Commands.{transfer_len}
use Rattle.zone_cell.specs.Cells.{Cell}
use Rattle.zone_model.specs.declared.act.Act.{Act}
use Rattle.zone_model.specs.Places.{Place, command_of}
use Rattle.zone_model.proofs.Histories.{answered-push}
use Rattle.solo_drive.specs.declared.ahead.Ready.{Ready}
use Rattle.solo_drive.specs.Parts.{cells_at, zones_in, AreLent}
use Rattle.solo_drive.specs.Drives.{act_of}
use Rattle.solo_drive.specs.Ahead.{Moves, HaveHistory, Readies}
use Rattle.zone_desk.specs.Parts.{AreAt, HasBeen}
use Rattle.zone_desk.specs.Sights.{in_order}
use Rattle.zone_desk.specs.Ahead.{Open, HasMoved, Bears, IsTold, opened_by}
use Rattle.zone_desk.specs.Passes.{Pass, with_open, HasReadied}
use Rattle.zone_desk.proofs.Carried.{at-in_order}

-- cells that stood for some acts still do in their order
pub been-in_order : (g : GeometryFields) (view : List Cell) → HasBeen g view → HaveHistory g (in_order view)
been-in_order g view h = record { acts = h.acts; stand = at-in_order g h.acts view h.stand }

pub has-moved : (g : GeometryFields) (a : Act) (cells cells' : List Cell) (out out' : List ℕ) (r : Ready) → length a.payload ≡ transfer_len g (command_of a) → AreLent g a (zones_in cells) → Moves g a cells cells' out out' r
    → HasMoved g a cells cells' r
has-moved g a cells cells' out out' r payload lent moves = record {
  payload = payload;
  lent = lent;
  moved = λ log at.
      let m = moves log at in
      record { zones = m.zones ∙ ap (λ (h : List Place). cells_at g h (zones_in cells)) (sym (answered-push g log a)); due = m.due };
}

pub is-told : (g : GeometryFields) (a : Act) (view cells' : List Cell) (out out' : List ℕ) (r : Ready) → Moves g a (in_order view) cells' out out' r → (log : List Act) → AreAt g log view → IsTold g a log r out out'
is-told g a view cells' out out' r moves log at =
    let m = moves log (at-in_order g log view at) in
    record { len = m.due.stands.outcome.len; read = m.read }

-- the cells in a pass after a command's bytes moved, or after a command that doesn't go ahead
pub bears-after : (g : GeometryFields) (queue : ℕ) (sqe : Sqe) (payload : List ℕ) (view cells cells' : List Cell) (out out' : List ℕ) (r : Option Ready) (opened : Option Open) → length payload ≡ transfer_len g (command_of (act_of queue sqe payload)) → AreLent g (act_of queue sqe payload) (zones_in (in_order view)) → cells ≡ in_order view
    → Readies g (act_of queue sqe payload) cells cells' out out' r → opened ≡ opened_by sqe payload r → Bears g queue opened view cells'
bears-after g queue sqe payload view cells cells' out out' None opened len lent plain waits is = subst (λ (o : Option Open). Bears g queue o view cells') (sym is) (waits.same_cells ∙ plain)
bears-after g queue sqe payload view cells cells' out out' (Some r) opened len lent plain ready is =
    let a : Act = act_of queue sqe payload in
    subst (λ (o : Option Open). Bears g queue o view cells') (sym is) (has-moved g a (in_order view) cells' out out' r len lent (subst (λ (l : List Cell). Moves g a l cells' out out' r) plain ready.moves))

-- a pass after a command's bytes moved, or after a command that doesn't go ahead
pub readied : (p q : Pass) (sqe : Sqe) (payload : List ℕ) (cells' : List Cell) (out out' : List ℕ) (r : Option Ready) (opened : Option Open) → p.opened ≡ None → q ≡ with_open p opened → opened ≡ opened_by sqe payload r
    → Readies p.desk.geometry (act_of p.sight.queue sqe payload) (in_order p.sight.cells) cells' out out' r → HasReadied p q sqe payload out out' r
readied p q sqe payload cells' out out' None opened none view is waits = record { other = waits.other; pass = view ∙ ap (λ (o : Option Open). with_open p o) (is ∙ sym none); unread = waits.same_out }
readied p q sqe payload cells' out out' (Some r) opened none view is ready = record {
  pass = view ∙ ap (λ (o : Option Open). with_open p o) is;
  ahead = λ log at. (ready.moves log (at-in_order p.desk.geometry log p.sight.cells at)).due.ahead;
  told = is-told p.desk.geometry (act_of p.sight.queue sqe payload) p.sight.cells cells' out out' r ready.moves;
}
