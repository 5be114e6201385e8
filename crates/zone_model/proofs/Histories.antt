-- A history with one more act.
use Rattle.std.proofs.Common.{◌≡◌, ℕ, ◌+◌, List, [], ◌∷◌, ◌++◌, refl, ap}
use Rattle.std.specs.Prelude.{◌==◌}
use Rattle.std.proofs.lemmas.List.{reverse-append}
use Rattle.zns_types.specs.declared.fields.GeometryFields.{GeometryFields}
use Rattle.drive_rules.specs.Shown.{one}
use Rattle.zone_model.specs.declared.act.Act.{Act}
use Rattle.zone_model.specs.Places.{Place}
use Rattle.zone_model.specs.Answers.{and_then, answered_back, answered}
use Rattle.zone_model.specs.Entries.{acts_on, posted_on, entries_on}

pub answered-none : (g : GeometryFields) → answered g [] ≡ []
unfolding answered answered_back
answered-none g = refl

-- the act that comes last is answered last
pub answered-push : (g : GeometryFields) (acts : List Act) (a : Act) → answered g (acts ++ a ∷ []) ≡ and_then g (answered g acts) a
unfolding answered answered_back
answered-push g acts a = ap (answered_back g) (reverse-append acts (a ∷ []))

pub acts_on-step : (queue : ℕ) (p : Place) (h : List Place) → acts_on queue (p ∷ h) ≡ one (p.act.queue == queue) + acts_on queue h
unfolding acts_on
acts_on-step queue p h = refl

pub entries_on-step : (queue : ℕ) (p : Place) (h : List Place) → entries_on queue (p ∷ h) ≡ posted_on queue p + entries_on queue h
unfolding entries_on
entries_on-step queue p h = refl

pub acts_on-none : (queue : ℕ) → acts_on queue [] ≡ 0
unfolding acts_on
acts_on-none queue = refl

pub entries_on-none : (queue : ℕ) → entries_on queue [] ≡ 0
unfolding entries_on
entries_on-none queue = refl
