-- Worked examples, computed: a zone of 48 blocks, with a random write area of 8 blocks in granules of 4.
use Rattle.std.proofs.Common.{◌≡◌, ℕ, true, false, List, [], ◌∷◌, Some, None, refl}
use Rattle.std.specs.Prelude.{replicate}
use Rattle.zns_types.specs.declared.fields.GeometryFields.{GeometryFields}
use Rattle.zns_types.specs.declared.state.State.TheVariants.{Full}
use Rattle.zns_types.specs.Statuses.{zone_invalid_write}
use Rattle.zns_types.specs.Rows.{first_holding}
use Rattle.drive_rules.specs.declared.deed.Deed.{Deed}
use Rattle.drive_rules.specs.declared.deed.Deed.TheVariants as deed
use Rattle.drive_rules.specs.Deeds.{rows_for}
use Rattle.zone_history.specs.Histories.{Done, pointer_since, pointer_of, state_of, window_of, sight_of, block_of, is_committed, attributes_of}

abbrev drive : GeometryFields
drive = record { block_exp = 9; mdts = 0; zasl = 0; flags = 0; zones = 4; zone_size = 64; capacity = 48; active_limit = 3; open_limit = 2; windows = 1; granule = 4; window = 8; queues = 2; depth = 64 }

-- a deed whose data doesn't matter
abbrev plain : Deed → Done
plain d = record { deed = d; payload = [] }

-- a Write of one block, filled with one byte
abbrev write_byte : ℕ → ℕ → Done
write_byte from byte = record { deed = deed.Write from 1; payload = replicate 512 byte }

-- a zone that was opened with a random write area
abbrev with_window : List Done
with_window = plain (deed.Open true) ∷ []

-- such a zone, of which 40 blocks were written before
abbrev near_end : List Done
near_end = plain (deed.Open true) ∷ plain (deed.Write 0 40) ∷ []

-- a Write that ends inside the area leaves the pointer, and one that ends a block past it moves the pointer by one granule
inside : pointer_of drive (plain (deed.Write 4 4) ∷ with_window) ≡ 0
unfolding pointer_since
inside = refl

overrun : pointer_of drive (plain (deed.Write 6 3) ∷ with_window) ≡ 4
unfolding pointer_since
overrun = refl

-- after that, a Write before the pointer is refused
before_pointer : first_holding (rows_for drive (deed.Write 3 1) (sight_of drive (plain (deed.Write 6 3) ∷ with_window))) ≡ Some zone_invalid_write
unfolding pointer_since state_of window_of
before_pointer = refl

-- an Open with a random write area keeps the pointer
open_keeps : pointer_of drive near_end ≡ 40
unfolding pointer_since
open_keeps = refl

-- a commit up to the capacity makes the zone Full and takes its random write area away
commit_full : state_of drive (plain (deed.Commit 47) ∷ near_end) ≡ Full
unfolding pointer_since state_of
commit_full = refl

commit_window : window_of drive (plain (deed.Commit 47) ∷ near_end) ≡ false
unfolding pointer_since state_of window_of
commit_window = refl

-- a Close keeps the random write area
close_window : window_of drive (plain deed.Close ∷ near_end) ≡ true
unfolding pointer_since state_of window_of
close_window = refl

-- a finish moves the pointer to the capacity
finish_pointer : pointer_of drive (plain deed.Finish ∷ write_byte 0 7 ∷ []) ≡ 48
unfolding pointer_since
finish_pointer = refl

-- a Read returns what was written to a block last, and a reset forgets it
written_twice : block_of drive (write_byte 5 2 ∷ write_byte 5 1 ∷ with_window) 5 ≡ Some (replicate 512 2)
unfolding pointer_since block_of
written_twice = refl

reset_forgets : block_of drive (plain deed.Reset ∷ write_byte 5 2 ∷ with_window) 5 ≡ None
unfolding pointer_since block_of
reset_forgets = refl

-- every block of a Read Only zone is committed
read_only : is_committed drive (plain (deed.Excursion 4) ∷ write_byte 0 7 ∷ []) 47 ≡ true
unfolding pointer_since state_of
read_only = refl

-- a reset is recommended for a zone with a random write area
recommended : attributes_of drive (plain (deed.Excursion 3) ∷ with_window) ≡ 12
unfolding pointer_since state_of window_of attributes_of
recommended = refl
