-- What a command does that never waits.
use Rattle.std.specs.Prelude.{◌≡◌, ◌⊎◌, ℕ, ◌+◌, true, List}
use Rattle.zns_types.specs.declared.fields.GeometryFields.{GeometryFields}
use Rattle.zone_model.specs.declared.act.Act.{Act}
use Rattle.zone_model.specs.Zones.{zones}
use Rattle.zone_model.specs.Reach.{reach}
use Rattle.drive_book.specs.declared.posted.Posted.{Posted}
use Rattle.zone_desk.specs.Parts.{wants_room}
use Rattle.zone_desk.specs.Passes.{IsIdle}
use Rattle.zone_desk.specs.declared.sight.Sight.{Sight}
use Rattle.queue_controller.specs.Words.{Before}
use Rattle.queue_controller.specs.Serving.{Serves, IsPosted, words_for, HeldFew, ServedOver, Attempts}
use Rattle.queue_controller.specs.declared.trying.Tried.{Tried}
use Rattle.queue_controller.specs.declared.trying.Tried.TheVariants as tried
use Rattle.queue_controller.specs.declared.trying.Attempt.{Attempt}
use Rattle.queue_controller.specs.declared.trying.Attempt.TheVariants as attempt

-- The acts that the pass has seen, its own acts and its room are unchanged, and it holds no word.
pub record Unserved (v w : Sight) : Type 0 where
  pub seen : w.seen ≡ v.seen
  pub own : w.own ≡ v.own
  pub spare : w.spare ≡ v.spare
  pub queue : w.queue ≡ v.queue
  pub idle : IsIdle w

-- one word was found held: this one
pub record FoundHeld (word : ℕ) (v w : Sight) : Type 0 where
  pub found : w.found ≡ v.found + 1
  pub last : w.found_last ≡ word

-- One of these words was found held, while the pass held exactly those before it. No book was given back.
pub record StoppedAt (words : List ℕ) (word : ℕ) (v w : Sight) : Type 0 where
  pub found : FoundHeld word v w
  pub held : Before w.held_when_found word words
  pub unserved : Unserved v w
  pub given_back : w.given_back ≡ v.given_back
  pub given_back_log : w.given_back_log ≡ v.given_back_log

-- The word is of a zone that the act may read or change, or the book's. Or the book was given back once, since another zone had to give way
-- to the act, or it was refused, and the word is any zone's or the book's. The pass then held exactly the words before it.
abbrev pub WasNeeded : GeometryFields → Act → ℕ → Sight → Sight → Type 0
WasNeeded g a word v w =
    (Before w.held_when_found word (words_for (reach g a)) × (w.given_back ≡ v.given_back))
    ⊎ (Before w.held_when_found word (words_for (zones g)) × (w.given_back ≡ v.given_back + 1) × (wants_room g w.given_back_log a ≡ true))

-- A word that the act needs was found held. Everything else is unchanged.
pub record IsBusy (g : GeometryFields) (a : Act) (word : ℕ) (payload out out' : List ℕ) (v w : Sight) : Type 0 where
  pub found : FoundHeld word v w
  pub needed : WasNeeded g a word v w
  pub unserved : Unserved v w
  pub bytes : payload ≡ a.payload
  pub unread : out' ≡ out

-- it was served, over few words
pub record IsServed (g : GeometryFields) (a : Act) (p : Posted) (out out' : List ℕ) (v w : Sight) : Type 0 where
  pub served : Serves v a (IsPosted g a p out out') w
  pub few : HeldFew g a v w

abbrev pub Tries : GeometryFields → Act → List ℕ → List ℕ → Sight → Tried → Sight → Type 0
Tries g a out out' v (tried.Served p) w = IsServed g a p out out' v w
Tries g a out out' v (tried.Busy word payload) w = IsBusy g a word payload out out' v w

-- one of these words was found held, and nothing changed
pub record StopsAt (words : List ℕ) (a : Act) (word : ℕ) (payload out out' : List ℕ) (v w : Sight) : Type 0 where
  pub stopped : StoppedAt words word v w
  pub bytes : payload ≡ a.payload
  pub unread : out' ≡ out

abbrev pub AttemptsOnce : GeometryFields → Act → List ℕ → List ℕ → List ℕ → Sight → Attempt → Sight → Type 0
AttemptsOnce g a zs out out' v (attempt.Ended r) w = Attempts g a zs out out' v r w
AttemptsOnce g a zs out out' v (attempt.Stopped word payload) w = StopsAt (words_for zs) a word payload out out' v w

abbrev pub TriesAll : GeometryFields → Act → List ℕ → List ℕ → Sight → Tried → Sight → Type 0
TriesAll g a out out' v (tried.Served p) w = ServedOver g a (zones g) p out out' v w
TriesAll g a out out' v (tried.Busy word payload) w = StopsAt (words_for (zones g)) a word payload out out' v w
