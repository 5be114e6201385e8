-- The cell after a deed other than a reset, by its parts.
use Rattle.std.proofs.Common.{◌≡◌, ℕ, Bool, true, false, List, ◌∷◌, map, sym, ap, ◌∙◌, inl, inr}
use Rattle.std.specs.Prelude.{◌&&◌, ◌||◌}
use Rattle.std.specs.List.{range_with_len}
use Rattle.std.proofs.lemmas.Bool.{cases_Bool}
use Rattle.zns_types.specs.declared.fields.GeometryFields.{GeometryFields}
use Rattle.zns_types.specs.declared.state.State.{State}
use Rattle.zns_types.specs.States.{is_empty, is_active, is_writable}
use Rattle.zns_types.specs.Geometry.{block_len}
use Rattle.drive_rules.specs.Deeds.{is_reset, is_excursion, asks_window}
use Rattle.zone_history.specs.Histories.{Done, state_of, pointer_of, window_of, was_windowed, block_of, had}
use Rattle.zone_history.proofs.Stands.{Stands}
use Rattle.zone_history.proofs.Transitions.{is_live, live_empty}
use Rattle.zone_cell.specs.Cells.{Cell}
use Rattle.cell_history.specs.Cells.{cell_of}
use Rattle.cell_history.proofs.Marks.{and-swap, marked, had-step, windowed-step}

-- what each part of the cell is, by the parts before and by the deed
pub record Shaped (g : GeometryFields) (z : ℕ) (ds : List Done) (d : Done) (c : Cell) : Type 0 where
  pub keeps : is_reset d.deed ≡ false
  pub live : is_active (state_of g (d ∷ ds)) ≡ true → is_live (state_of g ds) ≡ true
  pub writable : is_writable (state_of g (d ∷ ds)) ≡ true → is_writable (state_of g ds) ≡ true
  pub zone : c.zone ≡ z
  pub len : c.block_len ≡ block_len g
  pub state : c.state ≡ state_of g (d ∷ ds)
  pub pointer : c.pointer ≡ pointer_of g (d ∷ ds)
  pub window : c.window ≡ ((window_of g ds || asks_window d.deed) && is_active c.state)
  pub finished : c.finished ≡ (((had ds 1 && is_writable (state_of g ds)) || is_excursion 1 d.deed) && is_writable c.state)
  pub finish_recommended : c.finish_recommended ≡ (((had ds 2 && is_active (state_of g ds)) || is_excursion 2 d.deed) && is_active c.state)
  pub reset_recommended : c.reset_recommended ≡ (((had ds 3 && is_writable (state_of g ds)) || is_excursion 3 d.deed) && is_writable c.state)
  pub blocks : c.blocks ≡ map (block_of g (d ∷ ds)) (range_with_len 0 g.capacity)

-- an active zone was active before, if it had something since its last reset
was_active : (s : State) (something : Bool) → (is_empty s ≡ true → something ≡ false) → is_live s ≡ true → something ≡ true → is_active s ≡ true
was_active s something bare live e = elim (cases_Bool (is_active s)) [
  | inl active ↦ active
  | inr other ↦ absurd (cc (bare (live_empty s live other), e))
]

window-is : (g : GeometryFields) (ds : List Done) → window_of g ds ≡ (was_windowed ds && is_active (state_of g ds))
unfolding window_of
window-is g ds = and-swap (is_active (state_of g ds)) (was_windowed ds)

-- a mark is what it is to be
mark-is : (was now has old new : Bool) (mark : Bool) → mark ≡ (((was && old) || now) && new) → has ≡ (now || was) → (new ≡ true → was ≡ true → old ≡ true) → mark ≡ (has && new)
mark-is was now has old new mark is step k = is ∙ marked was now old new k ∙ ap (λ (b : Bool). b && new) (sym step)

pub same_cell : (c e : Cell) → c.zone ≡ e.zone → c.block_len ≡ e.block_len → c.state ≡ e.state → c.pointer ≡ e.pointer → c.window ≡ e.window → c.finished ≡ e.finished → c.finish_recommended ≡ e.finish_recommended
    → c.reset_recommended ≡ e.reset_recommended → c.blocks ≡ e.blocks → c ≡ e
same_cell c e zone len state pointer window finished finish reset blocks = λ i. record {
  zone = zone i;
  block_len = len i;
  state = state i;
  pointer = pointer i;
  window = window i;
  finished = finished i;
  finish_recommended = finish i;
  reset_recommended = reset i;
  blocks = blocks i;
}

-- Such a cell is that of the deeds followed by this one.
pub shaped : (g : GeometryFields) (z : ℕ) (ds : List Done) (d : Done) (c : Cell) → Stands g ds → Shaped g z ds d c → c ≡ cell_of g z (d ∷ ds)
unfolding cell_of
shaped g z ds d c st s =
    let old = state_of g ds in
    let new = state_of g (d ∷ ds) in
    let use_of : (test : State → Bool) → test c.state ≡ test new = λ test. ap test s.state in
    let live : is_active c.state ≡ true → is_live old ≡ true = λ on. s.live (sym (use_of is_active) ∙ on) in
    let writable : is_writable c.state ≡ true → is_writable old ≡ true = λ on. s.writable (sym (use_of is_writable) ∙ on) in
    let window_was : c.window ≡ (((was_windowed ds && is_active old) || asks_window d.deed) && is_active c.state) =
    s.window ∙ ap (λ (w : Bool). (w || asks_window d.deed) && is_active c.state) (window-is g ds) in
    let window : c.window ≡ (was_windowed (d ∷ ds) && is_active c.state) =
    mark-is (was_windowed ds) (asks_window d.deed) (was_windowed (d ∷ ds)) (is_active old) (is_active c.state) c.window window_was (windowed-step d ds s.keeps)
    (λ on had_it. was_active old (was_windowed ds) (λ empty. (st.bare empty).unopened) (live on) had_it) in
    same_cell c (cell_of g z (d ∷ ds)) s.zone s.len s.state s.pointer
    (window ∙ ap (λ (b : Bool). was_windowed (d ∷ ds) && b) (use_of is_active) ∙ sym (window-is g (d ∷ ds)))
    (mark-is (had ds 1) (is_excursion 1 d.deed) (had (d ∷ ds) 1) (is_writable old) (is_writable c.state) c.finished s.finished (had-step d ds 1 s.keeps) (λ on had_it. writable on)
    ∙ ap (λ (b : Bool). had (d ∷ ds) 1 && b) (use_of is_writable))
    (mark-is (had ds 2) (is_excursion 2 d.deed) (had (d ∷ ds) 2) (is_active old) (is_active c.state) c.finish_recommended s.finish_recommended (had-step d ds 2 s.keeps)
    (λ on had_it. was_active old (had ds 2) (λ empty. (st.bare empty).excursions 2) (live on) had_it)
    ∙ ap (λ (b : Bool). had (d ∷ ds) 2 && b) (use_of is_active))
    (mark-is (had ds 3) (is_excursion 3 d.deed) (had (d ∷ ds) 3) (is_writable old) (is_writable c.state) c.reset_recommended s.reset_recommended (had-step d ds 3 s.keeps) (λ on had_it. writable on)
    ∙ ap (λ (b : Bool). had (d ∷ ds) 3 && b) (use_of is_writable))
    s.blocks
