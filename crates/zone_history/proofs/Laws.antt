-- The laws of every deed that was admitted after other admitted deeds.
use Rattle.zone_history.specs.Moves.{DeedMovesPointer, PointerIsLeast, DeedKeepsCommitted, DeedIsAllowed}
use Rattle.zone_history.proofs.Ways.{way_of, deed_leads}
use Rattle.zone_history.proofs.Standing.{stands}
use Rattle.zone_history.proofs.PointersMove.{moves_pointer}
use Rattle.zone_history.proofs.PointersLeast.{least_pointer}
use Rattle.zone_history.proofs.Committed.{keeps_committed}

pub deed_moves : DeedMovesPointer
deed_moves g ds d is a there moved = moves_pointer g ds d is (stands g is ds a.1) there moved (way_of g ds d.deed a.0)

pub pointer_least : PointerIsLeast
pointer_least g ds is a there = least_pointer g ds is (stands g is ds a) there

pub deed_keeps : DeedKeepsCommitted
deed_keeps g ds d b is a was keeps on = keeps_committed g ds d b is (stands g is ds a.1) was keeps on (way_of g ds d.deed a.0)

pub deed_allowed : DeedIsAllowed
deed_allowed g ds d is a = deed_leads g ds d.deed a.0
