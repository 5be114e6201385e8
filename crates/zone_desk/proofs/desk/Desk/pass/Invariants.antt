use Rattle.zone_desk.proofs.desk.Desk.pass.Given as goal

-- the pass that is made
abbrev pub ghosts-seat_for : goal.ghosts-seat_for
ghosts-seat_for a = record { queue = a.queue; room = a.room }
