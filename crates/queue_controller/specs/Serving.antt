-- What serving a command does.
use Rattle.std.specs.Prelude.{◌≡◌, ◌≢◌, ◌⊎◌, ℕ, ◌+◌, ◌<◌, true, false, None, List, [], ◌∷◌, ◌++◌, length, drop}
use Rattle.zns_types.specs.declared.fields.GeometryFields.{GeometryFields}
use Rattle.zone_model.specs.declared.act.Act.{Act}
use Rattle.zone_model.specs.Zones.{zones}
use Rattle.zone_model.specs.Kept.{KeptActs}
use Rattle.zone_model.specs.Reach.{reach}
use Rattle.zone_model.specs.Answers.{answered}
use Rattle.zone_model.specs.Entries.{posted}
use Rattle.zone_model.specs.Replies.{reply_bytes}
use Rattle.zone_model.specs.Sessions.{acts_of}
use Rattle.drive_book.specs.declared.posted.Posted.{Posted}
use Rattle.sqe_codec.specs.declared.sqe.Sqe.{Sqe}
use Rattle.solo_drive.specs.Drives.{HasLengths, act_of}
use Rattle.solo_drive.specs.Parts.{AreLent}
use Rattle.solo_drive.specs.declared.applied.Applied.{Applied}
use Rattle.solo_drive.specs.declared.applied.Applied.TheVariants as applied
use Rattle.zone_desk.specs.Parts.{wants_room}
use Rattle.zone_desk.specs.Sights.{zones_held, zone_words, with_journal}
use Rattle.zone_desk.specs.Plays.{IsFresh}
use Rattle.zone_desk.specs.Passes.{DeskId, Pass, knowing, HasApplied, IsIdle}
use Rattle.zone_desk.specs.declared.sight.Sight.{Sight}
use Rattle.queue_controller.specs.Words.{HoldsNothing}

-- The pass holds nothing, and may serve one more command. The host data, and the room for what the command reads, have the lengths that it
-- asks for.
pub record MayServe (desk : DeskId) (p : Pass) (sqe : Sqe) (payload : List ℕ) (room : ℕ) : Type 0 where
  pub free : HoldsNothing desk p
  pub spare : 0 < p.sight.spare
  pub lengths : HasLengths desk.geometry (act_of p.sight.queue sqe payload) room

-- The pass has the zones that the command may read or change, or all zones, and may serve it there. It has no book and no open command. The
-- host data, and the room for what the command reads, have the lengths that it asks for.
pub record MayServeHere (desk : DeskId) (p : Pass) (sqe : Sqe) (payload : List ℕ) (room : ℕ) : Type 0 where
  pub desk_is : p.desk ≡ desk
  pub no_book : p.sight.journal ≡ None
  pub none_open : p.opened ≡ None
  pub lent : AreLent desk.geometry (act_of p.sight.queue sqe payload) (zones_held p.sight)
  pub spare : 0 < p.sight.spare
  pub lengths : HasLengths desk.geometry (act_of p.sight.queue sqe payload) room

-- The pass has seen an extension of what it had seen, which ends with this act, and the act was answered there. Its
-- own acts gained this one, and had been those of its queue.
pub record Serves (v : Sight) (a : Act) (IsAnswered : List Act → Type 0) (w : Sight) : Type 0 where
  pub between : List Act
  pub seen : w.seen ≡ (v.seen ++ between) ++ a ∷ []
  pub answered : IsAnswered (v.seen ++ between)
  pub before : acts_of v.queue (v.seen ++ between) ≡ v.own
  pub own : w.own ≡ v.own ++ a ∷ []
  pub spare : w.spare + 1 ≡ v.spare
  pub queue : w.queue ≡ v.queue
  pub idle : IsIdle w

-- The entries and the bytes are those of an act that comes after these. The rest of the room is unchanged.
pub record IsPosted (g : GeometryFields) (a : Act) (p : Posted) (out out' : List ℕ) (acts : List Act) : Type 0 where
  pub entries : p.entries.items ≡ posted g (answered g acts) a
  pub len : p.len ≡ length (reply_bytes g (answered g acts) a)
  pub read : out' ≡ reply_bytes g (answered g acts) a ++ drop p.len out

-- ---- the words that a command takes

-- the words of these zones, and then the book's
abbrev pub words_for : List ℕ → List ℕ
words_for zs = zone_words zs ++ 1 ∷ []

-- At its last commit the pass held exactly these words. It gave no book back without a commit since it knew v.
pub record HeldOnly (words : List ℕ) (v w : Sight) : Type 0 where
  pub held : w.held_at_commit ≡ words
  pub given_back : w.given_back ≡ v.given_back
  pub given_back_log : w.given_back_log ≡ v.given_back_log

-- At its last commit the pass held exactly the words of the zones that the act may read or change. Or it held those of all zones, and had
-- given the book back once, since another zone had to give way to the act, or it was refused.
abbrev pub HeldFew : GeometryFields → Act → Sight → Sight → Type 0
HeldFew g a v w =
    ((w.held_at_commit ≡ words_for (reach g a)) × (w.given_back ≡ v.given_back))
    ⊎ ((w.held_at_commit ≡ words_for (zones g)) × (w.given_back ≡ v.given_back + 1) × (wants_room g w.given_back_log a ≡ true))

-- ---- one attempt

-- The pass took the book, with a journal that it was told is fresh, and the act was served there on the zones that it has.
pub record ServedOn (p p' : Pass) (a : Act) (out out' : List ℕ) (r : Applied) : Type 0 where
  pub journal : KeptActs
  pub fresh : IsFresh p.desk.geometry p.sight journal
  pub applied : HasApplied (knowing p (with_journal p.sight journal)) p' a out out' r

-- everything was given back without a commit, at a journal of these acts
abbrev pub gave_up : Sight → List Act → Sight
gave_up v log = record v { journal = None; cells = []; uncommitted = false; given_back = v.given_back + 1; given_back_log = log }

-- Another zone has to give way, or the act is refused, and these aren't all zones: nothing changed except that the book was given back.
pub record GaveUp (g : GeometryFields) (a : Act) (zs payload out out' : List ℕ) (v w : Sight) : Type 0 where
  pub log : List Act
  pub gave : w ≡ gave_up v log
  pub wants : wants_room g log a ≡ true
  pub bytes : payload ≡ a.payload
  pub unread : out' ≡ out
  pub narrow : zs ≢ zones g

-- it was served over these zones
pub record ServedOver (g : GeometryFields) (a : Act) (zs : List ℕ) (p : Posted) (out out' : List ℕ) (v w : Sight) : Type 0 where
  pub served : Serves v a (IsPosted g a p out out') w
  pub held : HeldOnly (words_for zs) v w

abbrev pub Attempts : GeometryFields → Act → List ℕ → List ℕ → List ℕ → Sight → Applied → Sight → Type 0
Attempts g a zs out out' v (applied.Done p) w = ServedOver g a zs p out out' v w
Attempts g a zs out out' v (applied.Widen payload) w = GaveUp g a zs payload out out' v w
