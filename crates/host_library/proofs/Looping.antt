-- A link's own drive posts an entry for each command that is no event request.
use Rattle.std.proofs.Common.{◌≡◌, ◌<◌, Bool, true, false, ◌||◌, List, [], ◌∷◌, length, Some, arith}
use Rattle.std.specs.Prelude.{slice_get}
use Rattle.zone_model.specs.declared.act.Act.{Act}
use Rattle.zone_model.specs.Places.{command_of, is_event_request}
use Rattle.solo_drive.specs.Drives.{Drive, history, entries_for}
use Rattle.host_library.proofs.ToldAnswers.{posted-first}

some_first : {X : Type 0} (xs : List X) (x : X) → slice_get xs 0 ≡ Some x → 0 < length xs
some_first [] x e = absurd (cc e)
some_first (y ∷ ys) x e = omega arith

pub posts : (d : Drive) (a : Act) → is_event_request (command_of a) ≡ false → 0 < length (entries_for d a)
posts d a other = some_first (entries_for d a) _ (posted-first d.geometry (history d) a other)

-- where neither holds, the second doesn't
pub neither : (a b : Bool) → (a || b) ≡ false → b ≡ false
neither false b e = e
neither true b e = absurd (cc e)
