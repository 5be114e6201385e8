-- A pass that keeps the words of its zones from one command to the next.
use Rattle.std.specs.Prelude.{◌≡◌, ◌⊎◌, ℕ, ◌<◌, true, None, List, []}
use Rattle.zns_types.specs.declared.fields.GeometryFields.{GeometryFields}
use Rattle.sqe_codec.specs.declared.sqe.Sqe.{Sqe}
use Rattle.zone_model.specs.declared.act.Act.{Act}
use Rattle.zone_model.specs.Zones.{zones}
use Rattle.drive_book.specs.declared.posted.Posted.{Posted}
use Rattle.solo_drive.specs.Drives.{HasLengths, act_of}
use Rattle.solo_drive.specs.Reaching.{zones_of}
use Rattle.solo_drive.specs.declared.reach.Reach.{Reach}
use Rattle.solo_drive.specs.declared.applied.Applied.{Applied}
use Rattle.solo_drive.specs.declared.applied.Applied.TheVariants as applied
use Rattle.zone_desk.specs.Parts.{wants_room}
use Rattle.zone_desk.specs.Sights.{zones_held, with_cells}
use Rattle.zone_desk.specs.Passes.{DeskId, Pass}
use Rattle.zone_desk.specs.declared.sight.Sight.{Sight}
use Rattle.queue_controller.specs.Serving.{words_for, HeldOnly, HeldFew, ServedOver, GaveUp}
use Rattle.queue_controller.specs.declared.keeping.KeptWords.{KeptWords}
use Rattle.queue_controller.specs.declared.keeping.KeptWords.TheVariants as kept

-- the zones whose words are kept
abbrev pub kept_zones : GeometryFields → KeptWords → List ℕ
kept_zones g kept.Nothing = []
kept_zones g (kept.Zones reach) = zones_of g reach
kept_zones g kept.All = zones g

-- these words serve a command of a reach: they are those of its zones, or of all
abbrev pub Serve : KeptWords → Reach → Type 0
Serve words reach = (words ≡ kept.Zones reach) ⊎ (words ≡ kept.All)

-- At its last commit the pass held few words, or those of all zones, which it had kept.
abbrev pub HeldFewOrKept : GeometryFields → KeptWords → Act → Sight → Sight → Type 0
HeldFewOrKept g words a v w = HeldFew g a v w ⊎ ((words ≡ kept.All) × HeldOnly (words_for (zones g)) v w)

-- The words of all zones are kept: they had been kept before, or another zone had to give way to the act, or it was
-- refused.
abbrev pub HaveCause : GeometryFields → KeptWords → Act → Sight → Type 0
HaveCause g words a w = (words ≡ kept.All) ⊎ (wants_room g w.given_back_log a ≡ true)

-- a pass of the desk that holds the words of exactly these zones, and has no open command
pub record Holds (desk : DeskId) (zs : List ℕ) (p : Pass) : Type 0 where
  pub desk_is : p.desk ≡ desk
  pub no_book : p.sight.journal ≡ None
  pub zones : zones_held p.sight ≡ zs
  pub none_open : p.opened ≡ None

-- The pass holds exactly the zones that it kept, and may serve one more command. The host data, and the room for what the command reads,
-- have the lengths that it asks for.
pub record MayGoOn (desk : DeskId) (words : KeptWords) (p : Pass) (sqe : Sqe) (payload : List ℕ) (room : ℕ) : Type 0 where
  pub holds : Holds desk (kept_zones desk.geometry words) p
  pub spare : 0 < p.sight.spare
  pub lengths : HasLengths desk.geometry (act_of p.sight.queue sqe payload) room

-- what the pass knows once it gave its zones back
abbrev pub rested : Sight → Sight
rested v = with_cells v []

-- The act was served on the zones that the pass has, and only the book was given back.
pub record ServedKeeping (desk : DeskId) (a : Act) (posted : Posted) (out out' : List ℕ) (v : Sight) (p : Pass) : Type 0 where
  pub served : ServedOver desk.geometry a (zones_held v) posted out out' (rested v) (rested p.sight)
  pub holds : Holds desk (zones_held v) p

-- it was served on the zones that the pass has, or everything was given back
abbrev pub AttemptsKeeping : DeskId → Act → List ℕ → List ℕ → Sight → Applied → Pass → Type 0
AttemptsKeeping desk a out out' v (applied.Done posted) p = ServedKeeping desk a posted out out' v p
AttemptsKeeping desk a out out' v (applied.Widen payload) p = Holds desk [] p × GaveUp desk.geometry a (zones_held v) payload out out' (rested v) p.sight
