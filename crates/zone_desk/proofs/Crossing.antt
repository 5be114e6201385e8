-- A pass with an open command may go to another thread.
use denote.Struct.Declared.{shape}
use denote.Param.Send.{IsSend, view_send, recorded_send, struct_send, plain_send}
use Rattle.std.proofs.Crossing.{Vec-send}
use Rattle.std.proofs.option.Option.TheSendSync as option
use Rattle.std.specs.contracts.snapshot.Snapshot as Snapshot
use Rattle.atomic_table.proofs.shared.Seat.TheSendSync as seat
use Rattle.sqe_codec.proofs.sqe.Sqe.TheSendSync as sqe
use Rattle.zns_io.specs.contracts.bytes.Bytes as Bytes
use Rattle.zone_cell.specs.contracts.cell.ZoneCell as ZoneCell
use Rattle.zone_cell.proofs.cell.ZoneCell.TheSendSync as cell
use Rattle.solo_drive.proofs.ahead.Ready.TheSendSync as ready
use Rattle.zone_desk.specs.contracts.kept_book.KeptBook as KeptBook
use Rattle.zone_desk.specs.contracts.opened.Opened as Opened
use Rattle.zone_desk.specs.contracts.opened.Opened.TheInside as opened
use Rattle.zone_desk.specs.contracts.passes.QueuePass as QueuePass
use Rattle.zone_desk.specs.contracts.passes.QueuePass.TheInside as inside
use Rattle.zone_desk.specs.contracts.sight.Sight as Sight
use Rattle.zone_desk.specs.contracts.slot.Slot as Slot
use Rattle.zone_desk.proofs.kept_book.KeptBook.TheSendSync as book
use Rattle.zone_desk.proofs.slot.Slot.TheSendSync as slot

-- a snapshot owns nothing
snapshot_send : IsSend (Snapshot.the_row Bytes.the_row)
snapshot_send = record { owned = λ d vs. ((λ vss. (tt, ((λ uss. (tt, tt)), tt))), tt); leaving = λ k f vs. tt }

recorded_fields : IsSend (opened.the_row)
recorded_fields = recorded_send (opened.the_field).row _ _ (opened.the_type).to_one (struct_send (shape opened.the_type) (sqe.the_field_send, (snapshot_send, (ready.the_field_send, tt))))

opened_send : IsSend Opened.the_row
opened_send = view_send opened.the_row _ _ _ _ recorded_fields

pub pass_send : IsSend QueuePass.the_row
pass_send =
    view_send inside.the_row _ _ _ _
    (recorded_send (inside.the_field).row _ _ (inside.the_type).to_one
    (struct_send (shape inside.the_type) (
      plain_send _ _ _ _ _,
      (
        plain_send _ _ _ _ _,
        (
          plain_send _ _ _ _ _,
          (
            option.the_field_send KeptBook.the_row book.the_send,
            (
              Vec-send ZoneCell.the_row cell.the_send,
              (
                option.the_field_send Opened.the_row opened_send,
                (seat.the_send Slot.the_row Sight.the_row slot.the_send, tt),
              ),
            ),
          ),
        ),
      ),
    )))
