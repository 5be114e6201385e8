-- The laws of one zone, over every history.
use Rattle.std.proofs.Common.{◌≡◌, ℕ, true, false, List, ◌∷◌, Option, Some, None, refl, sym, ap, ◌∙◌, subst}
use Rattle.std.specs.Prelude.{is_ok}
use Rattle.zns_types.specs.declared.fields.GeometryFields.{GeometryFields}
use Rattle.zns_types.specs.Geometry.{IsGeometry}
use Rattle.zone_state.specs.declared.action.Action.{Action}
use Rattle.zone_state.specs.Transitions.{go}
use Rattle.zrwa_commit.specs.Least.{IsLeast}
use Rattle.drive_rules.specs.declared.deed.Deed.{Deed}
use Rattle.drive_rules.specs.declared.deed.Deed.TheVariants as deed
use Rattle.drive_rules.specs.Deeds as deed_of
use Rattle.zone_history.specs.Histories.{Done, since, pointer_of, seen_of, is_committed}
use Rattle.zone_history.specs.Admitted.{AreAdmitted}
use Rattle.zone_history.specs.Moves.{HowMoved, IsBoundary}
use Rattle.zone_history.specs.Moves as moves
use Rattle.zone_history.proofs.Ways.{deed_leads}
use Rattle.zone_history.proofs.Laws.{deed_moves, pointer_least, deed_keeps}
use Rattle.zone_model.specs.declared.act.Act.{Act}
use Rattle.zone_model.specs.Places.{Place, deeds}
use Rattle.zone_model.specs.Zones.{state, pointer, window}
use Rattle.zone_model.specs.Answers.{move_of, zone_deed, zone_move, and_then, answered}
use Rattle.zone_model.specs.Laws.{is_reset, IsKeptBlock, KeepsCommitted, HasMoved, MovesPointers}
use Rattle.zone_model.proofs.Deeds.{done_by, deeds-idle, deeds-done, admitted, all_admitted}

-- an act's deed was admitted after the earlier ones, which were admitted too
pub admitted_after : (g : GeometryFields) (acts : List Act) (a : Act) (z : ℕ) (d : Deed) → zone_deed g (answered g acts) a z ≡ Some d → AreAdmitted g (done_by a d ∷ deeds (answered g acts) z)
admitted_after g acts a z d e = (admitted g (answered g acts) a z d e, all_admitted g acts z)

-- ---- committed blocks

reset-action : (d : Deed) → is_reset (Some (deed_of.action_of d)) ≡ deed_of.is_reset d
reset-action deed.Reset = refl
reset-action _ = refl

-- a block that is kept by the deeds of a zone is kept by the places
kept_block : (g : GeometryFields) (old new : List Place) (z b : ℕ) (ds : List Done) → deeds new z ≡ ds → moves.IsKeptBlock g (deeds old z) ds b → IsKeptBlock g old new z b
kept_block g old new z b ds same kept = record {
  committed = ap (λ (xs : List Done). is_committed g xs b) same ∙ kept.committed;
  seen = ap (λ (xs : List Done). seen_of g xs b) same ∙ kept.seen;
}

pub committed_stays : (g : GeometryFields) → IsGeometry g → (acts : List Act) (a : Act) → KeepsCommitted g (answered g acts) a
committed_stays g is acts a z b was keeps on = by_deed (zone_deed g h a z) refl
  where
    h : List Place
    h = answered g acts

    by_deed : (o : Option Deed) → zone_deed g h a z ≡ o → IsKeptBlock g h (and_then g h a) z b
    by_deed None e = kept_block g h (and_then g h a) z b (deeds h z) (deeds-idle g h a z e) (record { committed = was; seen = refl })
    by_deed (Some d) e =
        let stays : deed_of.is_reset d ≡ false = sym (reset-action d) ∙ rw e at keeps in
        kept_block g h (and_then g h a) z b (done_by a d ∷ deeds h z) (deeds-done g h a z d e) (deed_keeps g (deeds h z) (done_by a d) b is (admitted_after g acts a z d e) was stays (rw e at on))

-- ---- pointers

pub pointer_moves : (g : GeometryFields) → IsGeometry g → (acts : List Act) (a : Act) → MovesPointers g (answered g acts) a
pointer_moves g is acts a z there moved = by_deed (zone_deed g h a z) refl
  where
    h : List Place
    h = answered g acts

    by_deed : (o : Option Deed) → zone_deed g h a z ≡ o → HasMoved g h a z
    by_deed None e = absurd (moved (ap (pointer_of g) (deeds-idle g h a z e)))
    by_deed (Some d) e =
        let after = ap (pointer_of g) (deeds-done g h a z d e) in
        let how = deed_moves g (deeds h z) (done_by a d) is (admitted_after g acts a z d e) there (λ same. moved (after ∙ same)) in
        record { deed = d; done = e; how = subst (HowMoved g d (pointer g h z)) (sym after) how }

pub pointer_is_least : (g : GeometryFields) → IsGeometry g → (acts : List Act) (z : ℕ) → window g (answered g acts) z ≡ true
    → IsLeast (IsBoundary g (since (deeds (answered g acts) z))) (pointer g (answered g acts) z)
pointer_is_least g is acts z there = pointer_least g (deeds (answered g acts) z) is (all_admitted g acts z) there

-- ---- transitions

pub moves_are_allowed : (g : GeometryFields) (h : List Place) (a : Act) (z : ℕ) (m : Action) → zone_move g h a z ≡ Some m → is_ok (go m (state g h z)) ≡ true
moves_are_allowed g h a z m e = by_deed (zone_deed g h a z) refl e
  where
    by_deed : (o : Option Deed) → zone_deed g h a z ≡ o → move_of o ≡ Some m → is_ok (go m (state g h z)) ≡ true
    by_deed None none e = absurd (cc e)
    by_deed (Some d) done e =
        let same : deed_of.action_of d ≡ m = cc in
        subst (λ (x : Action). is_ok (go x (state g h z)) ≡ true) same (deed_leads g (deeds h z) d (admitted g h a z d done))
