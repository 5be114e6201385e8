-- An act that goes ahead needs no resource, so no zone has to give way to it.
use Rattle.std.proofs.Common.{◌≡◌, ℕ, ◌<◌, Bool, true, false, List, ◌++◌, Option, Some, None, refl, ap, ◌∙◌, subst}
use Rattle.std.specs.Prelude.{◌&&◌, nat_lt, is_none}
use Rattle.std.proofs.Math.Bool.{and-false}
use Rattle.std.proofs.lemmas.Bool.{and_parts, ltb-true}
use Rattle.std.proofs.lemmas.Nat.{div_below}
use Rattle.zns_types.specs.declared.fields.GeometryFields.{GeometryFields}
use Rattle.zns_types.specs.declared.state.State.{State}
use Rattle.zns_types.specs.declared.state.State.TheVariants as state_as
use Rattle.zns_types.specs.States.{is_empty, is_active, is_opened, is_closed}
use Rattle.zns_types.specs.Geometry.{IsGeometry, all_blocks, zone_of, offset_of}
use Rattle.zns_types.specs.Statuses.{is_success}
use Rattle.sqe_codec.specs.declared.cmd.Cmd.{Cmd}
use Rattle.sqe_codec.specs.declared.cmd.Cmd.TheVariants as cmd
use Rattle.zone_limits.specs.Resources.{no_need}
use Rattle.drive_rules.specs.declared.deed.Deed.{Deed}
use Rattle.drive_rules.specs.declared.deed.Deed.TheVariants as deed
use Rattle.drive_rules.specs.declared.aim.Aim.{Aim}
use Rattle.drive_rules.specs.Deeds.{need_for}
use Rattle.drive_rules.specs.Aims.{aim_of}
use Rattle.drive_rules.specs.Tables.{front_rows, wants_room}
use Rattle.zone_history.specs.Admitted.{is_write}
use Rattle.zone_model.specs.declared.act.Act.{Act}
use Rattle.zone_model.specs.Places.{Place, command_of, is_event_request}
use Rattle.zone_model.specs.Zones.{state, counts}
use Rattle.zone_model.specs.Answers.{status, fires}
use Rattle.zone_model.specs.Entries.{waits}
use Rattle.zone_model.specs.Local.{act_wants_room}
use Rattle.drive_book.specs.Outcomes.{event_by}
use Rattle.solo_drive.specs.Ahead.{goes_ahead, opened_at, given_up_by, freed_by}
use Rattle.solo_drive.proofs.Judging.{aim_rows, aim_need}
use Rattle.solo_drive.proofs.Plain.{plain-wants}

-- ---- an opened zone

-- an opened zone is active, and needs no resource for a write
pub record IsUsed (s : State) : Type 0 where
  pub active : is_active s ≡ true
  pub empty : is_empty s ≡ false
  pub closed : is_closed s ≡ false

pub opened-used : (s : State) → is_opened s ≡ true → IsUsed s
opened-used state_as.ImplicitlyOpened is = record { active = refl; empty = refl; closed = refl }
opened-used state_as.ExplicitlyOpened is = record { active = refl; empty = refl; closed = refl }
opened-used _ is = absurd (cc is)

-- ---- what goes ahead

-- a write to an opened zone
pub record IsAhead (g : GeometryFields) (opened : ℕ → Bool) (aim : Aim) : Type 0 where
  pub writes : is_write aim.deed ≡ true
  pub there : opened aim.zone ≡ true
  pub within : IsGeometry g → aim.zone < g.zones

below : (g : GeometryFields) (lba : ℕ) → nat_lt lba (all_blocks g) ≡ true → IsGeometry g → zone_of g lba < g.zones
below g lba is valid = div_below lba g.zone_size g.zones valid.zones.zone_size (ltb-true lba (all_blocks g) is)

pub aim-ahead : (g : GeometryFields) (opened : ℕ → Bool) (k : Cmd) (aim : Aim) → aim_of g k ≡ Some aim → goes_ahead g opened k ≡ true → IsAhead g opened aim
aim-ahead g opened (cmd.Write nsid slba blocks) aim e ahead =
    let is : record { zone = zone_of g slba; deed = deed.Write (offset_of g slba) blocks } ≡ aim = cc in
    let parts = and_parts (nat_lt slba (all_blocks g)) (opened (zone_of g slba)) ahead in
    subst (IsAhead g opened) is (record { writes = refl; there = parts.1; within = below g slba parts.0 })
aim-ahead g opened (cmd.Append nsid zslba blocks) aim e ahead =
    let is : record { zone = zone_of g zslba; deed = deed.Append blocks } ≡ aim = cc in
    let parts = and_parts (nat_lt zslba (all_blocks g)) (opened (zone_of g zslba)) ahead in
    subst (IsAhead g opened) is (record { writes = refl; there = parts.1; within = below g zslba parts.0 })
aim-ahead g opened (cmd.Read nsid slba blocks) aim e ahead = absurd (cc e)
aim-ahead g opened _ aim e ahead = absurd (cc ahead)

-- the act gives back what its zone does
pub freed-aim : (g : GeometryFields) (h : List Place) (a : Act) (opened : ℕ → Bool) (k : Cmd) (aim : Aim) → aim_of g k ≡ Some aim → goes_ahead g opened k ≡ true → freed_by g h a k ≡ given_up_by g h a aim.zone
freed-aim g h a opened (cmd.Write nsid slba blocks) aim e ahead =
    let is : record { zone = zone_of g slba; deed = deed.Write (offset_of g slba) blocks } ≡ aim = cc in
    ap (λ (x : Aim). given_up_by g h a x.zone) is
freed-aim g h a opened (cmd.Append nsid zslba blocks) aim e ahead =
    let is : record { zone = zone_of g zslba; deed = deed.Append blocks } ≡ aim = cc in
    ap (λ (x : Aim). given_up_by g h a x.zone) is
freed-aim g h a opened (cmd.Read nsid slba blocks) aim e ahead = absurd (cc e)
freed-aim g h a opened _ aim e ahead = absurd (cc ahead)

-- a command that goes ahead and isn't a write is a Read
pub record IsRead (g : GeometryFields) (k : Cmd) : Type 0 where
  pub nsid : ℕ
  pub slba : ℕ
  pub blocks : ℕ
  pub is : k ≡ cmd.Read nsid slba blocks

pub plain-ahead : (g : GeometryFields) (opened : ℕ → Bool) (k : Cmd) → aim_of g k ≡ None → goes_ahead g opened k ≡ true → IsRead g k
plain-ahead g opened (cmd.Read nsid slba blocks) e ahead = record { nsid = nsid; slba = slba; blocks = blocks; is = refl }
plain-ahead g opened (cmd.Write nsid slba blocks) e ahead = absurd (cc e)
plain-ahead g opened (cmd.Append nsid zslba blocks) e ahead = absurd (cc e)
plain-ahead g opened _ e ahead = absurd (cc ahead)

-- it requests no event and answers no request
pub ahead-event : (g : GeometryFields) (opened : ℕ → Bool) (k : Cmd) (fired : Option ℕ) → goes_ahead g opened k ≡ true → event_by k fired ≡ None
ahead-event g opened (cmd.Excursion nsid slba kind) fired ahead = absurd (cc ahead)
ahead-event g opened _ fired ahead = refl

ahead-request : (g : GeometryFields) (opened : ℕ → Bool) (k : Cmd) → goes_ahead g opened k ≡ true → is_event_request k ≡ false
ahead-request g opened cmd.Event ahead = absurd (cc ahead)
ahead-request g opened _ ahead = refl

pub ahead-waits : (g : GeometryFields) (h : List Place) (a : Act) (opened : ℕ → Bool) → goes_ahead g opened (command_of a) ≡ true → waits g h a ≡ false
ahead-waits g h a opened ahead =
    ap (λ (b : Bool). is_success (status g h a) && b && is_none (fires g h a)) (ahead-request g opened (command_of a) ahead) ∙ ap (λ (b : Bool). b && is_none (fires g h a)) (and-false (is_success (status g h a)))

-- ---- it needs nothing

needs_nothing : (d : Deed) (s : State) (w : Bool) (p : ℕ) → is_write d ≡ true → is_opened s ≡ true → need_for d (record { state = s; window = w; pointer = p }) ≡ no_need
needs_nothing (deed.Write from blocks) s w p writes is = rw ((opened-used s is).empty, (opened-used s is).closed) refl
needs_nothing (deed.Append blocks) s w p writes is = rw ((opened-used s is).empty, (opened-used s is).closed) refl
needs_nothing _ s w p writes is = absurd (cc writes)

pub ahead-need : (g : GeometryFields) (h : List Place) (a : Act) (aim : Aim) → aim_of g (command_of a) ≡ Some aim → goes_ahead g (opened_at g h) (command_of a) ≡ true → aim_need g h aim ≡ no_need
ahead-need g h a aim e ahead =
    let is = aim-ahead g (opened_at g h) (command_of a) aim e ahead in
    needs_nothing aim.deed (state g h aim.zone) _ _ is.writes is.there

pub ahead-wants_nothing : (g : GeometryFields) (h : List Place) (a : Act) → goes_ahead g (opened_at g h) (command_of a) ≡ true → act_wants_room g h a ≡ false
ahead-wants_nothing g h a ahead = by_aim (aim_of g (command_of a)) refl
  where
    by_aim : (o : Option Aim) → aim_of g (command_of a) ≡ o → act_wants_room g h a ≡ false
    by_aim None e = plain-wants g h a e
    by_aim (Some aim) e = rw e (ap (wants_room g (counts g h) (front_rows g (command_of a) ++ aim_rows g h aim)) (ahead-need g h a aim e ahead) ∙ and-false _)
