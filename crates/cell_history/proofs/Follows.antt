-- Each deed turns a zone's cell into the cell of its deeds followed by this one.
use Rattle.std.proofs.Common.{◌≡◌, ℕ, zero, suc, ◌+◌, ◌*◌, ◌-◌, ◌/◌, ◌<◌, ◌≤◌, max, Bool, true, false, cond, List, ◌∷◌, Option, None, length, map, get_or, refl, sym, ap, ◌∙◌, arith}
use Rattle.std.specs.Prelude.{◌==◌, ◌&&◌, ◌||◌, replicate}
use Rattle.std.specs.List.{range_with_len}
use Rattle.std.proofs.lemmas.Nat.{pow_pos}
use Rattle.std.proofs.lemmas.List.FromFn.{length-map-range_with_len, get_or-map-range_with_len}
use Rattle.std.proofs.Math.Nat.{mul-div_cancel}
use Rattle.zns_types.specs.declared.fields.GeometryFields.{GeometryFields}
use Rattle.zns_types.specs.declared.state.State.{State}
use Rattle.zns_types.specs.declared.state.State.TheVariants.{Empty}
use Rattle.zns_types.specs.States.{is_active, is_writable}
use Rattle.zns_types.specs.Geometry.{IsGeometry, block_len}
use Rattle.zone_state.specs.declared.action.Action.{Action}
use Rattle.zone_state.specs.declared.action.Action.TheVariants as action
use Rattle.zone_state.specs.Transitions.{after, state_after, adds_blocks}
use Rattle.zrwa_commit.specs.Least.{least_multiple}
use Rattle.drive_rules.specs.declared.deed.Deed.{Deed}
use Rattle.drive_rules.specs.declared.deed.Deed.TheVariants as deed
use Rattle.drive_rules.specs.Deeds.{action_of, is_reset, is_excursion, asks_window, blocks_of}
use Rattle.drive_rules.proofs.Passing.{commit_passes}
use Rattle.zone_history.specs.Histories.{Done, state_of, pointer_of, window_of, block_of, sight_of, had}
use Rattle.zone_history.specs.Admitted.{IsAdmitted, AreAdmitted}
use Rattle.zone_history.proofs.Steps.{state-step, state-led, block-reset, block-kept, block-step}
use Rattle.zone_history.proofs.Transitions.{is_live, is_still, still_keeps, finish_full, reset_empty, open_live, write_live, active_live}
use Rattle.zone_history.proofs.Ways.{Way, stays, fills, empties, writes, commits, gets_window, IsWrite, way_of, write-way, append-way, deed_leads, window_active}
use Rattle.zone_history.proofs.PointerSteps.{write-adds, write-moves}
use Rattle.zone_history.proofs.Stands.{Stands}
use Rattle.zone_history.proofs.Standing.{stands}
use Rattle.zone_history.proofs.Pointers.{commit-pointer, open-pointer, still-pointer, finish-pointer, reset-pointer}
use Rattle.zone_cell.specs.Cells.{Cell, in_state, with_blocks, after_write}
use Rattle.zone_cell.specs.Deeds.{after_deed}
use Rattle.cell_history.specs.Cells.{cell_of, IsWhole, CellFollows}
use Rattle.cell_history.proofs.Marks.{or-none, live_writable, writable-before}
use Rattle.cell_history.proofs.Lists.{map-range_same}
use Rattle.cell_history.proofs.Shapes.{shaped, same_cell}

abbrev done : Deed → List ℕ → Done
done e payload = record { deed = e; payload = payload }

-- ---- deeds by which blocks stay

-- a mark that nothing adds to
same_mark : (mark now new : Bool) → now ≡ false → (mark && new) ≡ ((mark || now) && new)
same_mark mark now new none = rw (none, or-none mark) refl

-- a zone that is active after such a deed takes writes before it
live_before : (g : GeometryFields) (ds : List Done) (e : Deed) → IsAdmitted g ds e → is_active (after (action_of e) (state_of g ds)) ≡ true → is_reset e ≡ false → is_live (state_of g ds) ≡ true
live_before g ds e a on keeps = by_way (way_of g ds e a)
  where
    by_way : Way g ds e → is_live (state_of g ds) ≡ true
    by_way (stays still leads) = (still_keeps e (state_of g ds) still leads).live (active_live _ on)
    by_way (fills finish leads) = absurd (cc (on, ap is_active (finish_full e (state_of g ds) finish leads)))
    by_way (empties is leads) = absurd (cc (keeps, ap is_reset is))
    by_way (writes from blocks w) = write_live (state_of g ds) w.leads
    by_way (commits last is passes) = active_live _ (window_active g ds passes.window)
    by_way (gets_window is passes) = open_live (state_of g ds) passes.leads

-- the blocks of a zone to which nothing is written
same_blocks : (g : GeometryFields) (ds : List Done) (d : Done) → is_reset d.deed ≡ false → blocks_of d.deed ≡ 0 → map (block_of g ds) (range_with_len 0 g.capacity) ≡ map (block_of g (d ∷ ds)) (range_with_len 0 g.capacity)
same_blocks g ds d keeps none = map-range_same (block_of g ds) (block_of g (d ∷ ds)) 0 g.capacity (λ b low high. sym (block-kept g d ds b keeps none))

-- an Open, which may ask for a random write area
open-follows : (g : GeometryFields) (z : ℕ) (ds : List Done) (window : Bool) (payload : List ℕ) → IsGeometry g → AreAdmitted g (done (deed.Open window) payload ∷ ds)
    → after_deed g (deed.Open window) payload (cell_of g z ds) ≡ cell_of g z (done (deed.Open window) payload ∷ ds)
unfolding cell_of
open-follows g z ds window payload is a =
    let e = deed.Open window in
    let d : Done = done e payload in
    let led = state-led g d ds refl in
    let new : State = after action.Open (state_of g ds) in
    let c : Cell = after_deed g e payload (cell_of g z ds) in
    shaped g z ds d c (stands g is ds a.1)
    (record {
      keeps = refl;
      live = λ on. live_before g ds e a.0 (ap is_active (sym led) ∙ on) refl;
      writable = λ on. writable-before action.Open (state_of g ds) (ap is_writable (sym led) ∙ on);
      zone = refl;
      len = refl;
      state = sym led;
      pointer = sym (open-pointer g ds d window is a refl);
      window = refl;
      finished = same_mark (had ds 1 && is_writable (state_of g ds)) false (is_writable new) refl;
      finish_recommended = same_mark (had ds 2 && is_active (state_of g ds)) false (is_active new) refl;
      reset_recommended = same_mark (had ds 3 && is_writable (state_of g ds)) false (is_writable new) refl;
      blocks = same_blocks g ds d refl refl;
    })

-- a deed that changes state and pointer alone
record IsPlain (e : Deed) : Type 0 where
  pub no_reset : is_reset e ≡ false
  pub no_blocks : blocks_of e ≡ 0
  pub adds : adds_blocks (action_of e) ≡ false
  pub no_window : asks_window e ≡ false
  pub no_excursion : (kind : ℕ) → is_excursion kind e ≡ false

plain-follows : (g : GeometryFields) (z p : ℕ) (ds : List Done) (e : Deed) (payload : List ℕ) → IsGeometry g → AreAdmitted g (done e payload ∷ ds) → IsPlain e → p ≡ pointer_of g (done e payload ∷ ds)
    → in_state (after (action_of e) (state_of g ds)) p (cell_of g z ds) ≡ cell_of g z (done e payload ∷ ds)
unfolding cell_of
plain-follows g z p ds e payload is a plain there =
    let d : Done = done e payload in
    let led = state-led g d ds plain.adds in
    let new : State = after (action_of e) (state_of g ds) in
    let c : Cell = in_state new p (cell_of g z ds) in
    shaped g z ds d c (stands g is ds a.1)
    (record {
      keeps = plain.no_reset;
      live = λ on. live_before g ds e a.0 (ap is_active (sym led) ∙ on) plain.no_reset;
      writable = λ on. writable-before (action_of e) (state_of g ds) (ap is_writable (sym led) ∙ on);
      zone = refl;
      len = refl;
      state = sym led;
      pointer = there;
      window = same_mark (window_of g ds) (asks_window e) (is_active new) plain.no_window;
      finished = same_mark (had ds 1 && is_writable (state_of g ds)) (is_excursion 1 e) (is_writable new) (plain.no_excursion 1);
      finish_recommended = same_mark (had ds 2 && is_active (state_of g ds)) (is_excursion 2 e) (is_active new) (plain.no_excursion 2);
      reset_recommended = same_mark (had ds 3 && is_writable (state_of g ds)) (is_excursion 3 e) (is_writable new) (plain.no_excursion 3);
      blocks = same_blocks g ds d plain.no_reset plain.no_blocks;
    })

close-follows : (g : GeometryFields) (z : ℕ) (ds : List Done) (payload : List ℕ) → IsGeometry g → AreAdmitted g (done deed.Close payload ∷ ds)
    → after_deed g deed.Close payload (cell_of g z ds) ≡ cell_of g z (done deed.Close payload ∷ ds)
unfolding cell_of
close-follows g z ds payload is a =
    plain-follows g z (pointer_of g ds) ds deed.Close payload is a (record { no_reset = refl; no_blocks = refl; adds = refl; no_window = refl; no_excursion = λ kind. refl }) (sym (still-pointer g ds (done deed.Close payload) refl))

offline-follows : (g : GeometryFields) (z : ℕ) (ds : List Done) (payload : List ℕ) → IsGeometry g → AreAdmitted g (done deed.Offline payload ∷ ds)
    → after_deed g deed.Offline payload (cell_of g z ds) ≡ cell_of g z (done deed.Offline payload ∷ ds)
unfolding cell_of
offline-follows g z ds payload is a =
    plain-follows g z (pointer_of g ds) ds deed.Offline payload is a (record { no_reset = refl; no_blocks = refl; adds = refl; no_window = refl; no_excursion = λ kind. refl }) (sym (still-pointer g ds (done deed.Offline payload) refl))

finish-follows : (g : GeometryFields) (z : ℕ) (ds : List Done) (payload : List ℕ) → IsGeometry g → AreAdmitted g (done deed.Finish payload ∷ ds)
    → after_deed g deed.Finish payload (cell_of g z ds) ≡ cell_of g z (done deed.Finish payload ∷ ds)
unfolding cell_of
finish-follows g z ds payload is a =
    plain-follows g z g.capacity ds deed.Finish payload is a (record { no_reset = refl; no_blocks = refl; adds = refl; no_window = refl; no_excursion = λ kind. refl }) (sym (finish-pointer g ds (done deed.Finish payload) refl))

excursion-moves : (g : GeometryFields) (ds : List Done) (kind : ℕ) (payload : List ℕ) → pointer_of g (done (deed.Excursion kind) payload ∷ ds) ≡ cond (kind == 1) g.capacity (pointer_of g ds)
excursion-moves g ds kind payload = by_kind (kind == 1) refl
  where
    by_kind : (b : Bool) → (kind == 1) ≡ b → pointer_of g (done (deed.Excursion kind) payload ∷ ds) ≡ cond b g.capacity (pointer_of g ds)
    by_kind true e = finish-pointer g ds (done (deed.Excursion kind) payload) e
    by_kind false e = let still : is_still (deed.Excursion kind) ≡ true = rw e refl in still-pointer g ds (done (deed.Excursion kind) payload) still

excursion-follows : (g : GeometryFields) (z : ℕ) (ds : List Done) (kind : ℕ) (payload : List ℕ) → IsGeometry g → AreAdmitted g (done (deed.Excursion kind) payload ∷ ds)
    → after_deed g (deed.Excursion kind) payload (cell_of g z ds) ≡ cell_of g z (done (deed.Excursion kind) payload ∷ ds)
unfolding cell_of
excursion-follows g z ds kind payload is a =
    let e = deed.Excursion kind in
    let d : Done = done e payload in
    let led = state-led g d ds refl in
    let c : Cell = after_deed g e payload (cell_of g z ds) in
    shaped g z ds d c (stands g is ds a.1)
    (record {
      keeps = refl;
      live = λ on. live_before g ds e a.0 (ap is_active (sym led) ∙ on) refl;
      writable = λ on. writable-before (action.Excursion kind) (state_of g ds) (ap is_writable (sym led) ∙ on);
      zone = refl;
      len = refl;
      state = sym led;
      pointer = sym (excursion-moves g ds kind payload);
      window = same_mark (window_of g ds) false (is_active (after (action.Excursion kind) (state_of g ds))) refl;
      finished = refl;
      finish_recommended = refl;
      reset_recommended = refl;
      blocks = same_blocks g ds d refl refl;
    })

-- ---- a reset

none_blocks : (n from : ℕ) (f : ℕ → Option (List ℕ)) → ((b : ℕ) → f b ≡ None) → replicate n None ≡ map f (range_with_len from n)
none_blocks zero from f none = refl
none_blocks (suc n) from f none = rw (none from) (ap (λ (bs : List (Option (List ℕ))). None ∷ bs) (none_blocks n (from + 1) f none))

reset-follows : (g : GeometryFields) (z : ℕ) (ds : List Done) (payload : List ℕ) → IsGeometry g → AreAdmitted g (done deed.Reset payload ∷ ds)
    → after_deed g deed.Reset payload (cell_of g z ds) ≡ cell_of g z (done deed.Reset payload ∷ ds)
unfolding cell_of window_of
reset-follows g z ds payload is a =
    let d : Done = done deed.Reset payload in
    let empty : state_of g (d ∷ ds) ≡ Empty = state-led g d ds refl ∙ reset_empty (state_of g ds) (deed_leads g ds deed.Reset a.0) in
    let blocks : replicate (length (cell_of g z ds).blocks) None ≡ map (block_of g (d ∷ ds)) (range_with_len 0 g.capacity) =
    ap (λ (n : ℕ). replicate n None) (length-map-range_with_len (block_of g ds) 0 g.capacity) ∙ none_blocks g.capacity 0 (block_of g (d ∷ ds)) (λ b. block-reset g d ds b refl) in
    same_cell (after_deed g deed.Reset payload (cell_of g z ds)) (cell_of g z (d ∷ ds)) refl refl (sym empty) (sym (reset-pointer g ds d refl)) (rw empty refl) refl refl refl blocks

-- ---- writes and commits

-- the number of blocks that some bytes fill
whole_blocks : (len blocks n : ℕ) → 1 ≤ len → n ≡ blocks * len → n / len ≡ blocks
whole_blocks len blocks n some e = let positive : 0 < len = omega arith in rw e (mul-div_cancel blocks positive)

written_blocks : (g : GeometryFields) (ds : List Done) (d : Done) (from blocks : ℕ) → IsWrite g ds d.deed from blocks → length d.payload / block_len g ≡ blocks
    → with_blocks (block_len g) from d.payload (map (block_of g ds) (range_with_len 0 g.capacity)) ≡ map (block_of g (d ∷ ds)) (range_with_len 0 g.capacity)
written_blocks g ds d from blocks w count =
    let old = map (block_of g ds) (range_with_len 0 g.capacity) in
    let same : length old ≡ g.capacity = length-map-range_with_len (block_of g ds) 0 g.capacity in
    rw (same, count)
    (map-range_same _ (block_of g (d ∷ ds)) 0 g.capacity (λ b low high.
    let was : get_or old b None ≡ block_of g ds b = get_or-map-range_with_len (block_of g ds) 0 g.capacity b b None (omega arith) (omega arith) in
    rw (was, block-step g d ds b from w.no_reset w.begins, w.count) refl))

write-follows : (g : GeometryFields) (z : ℕ) (ds : List Done) (d : Done) (from blocks : ℕ) → IsGeometry g → Stands g ds → IsWrite g ds d.deed from blocks → length d.payload ≡ blocks * block_len g
    → ((kind : ℕ) → is_excursion kind d.deed ≡ false) → after_write g from d.payload (cell_of g z ds) ≡ cell_of g z (d ∷ ds)
unfolding cell_of
write-follows g z ds d from blocks is st w len no_excursion =
    let count : length d.payload / block_len g ≡ blocks = whole_blocks (block_len g) blocks (length d.payload) (pow_pos g.block_exp) len in
    let c : Cell = after_write g from d.payload (cell_of g z ds) in
    let live = write_live (state_of g ds) w.leads in
    let led : state_of g (d ∷ ds) ≡ state_after g.capacity action.Write (pointer_of g (d ∷ ds)) (state_of g ds) =
    state-step g d ds ∙ ap (λ (x : Action). state_after g.capacity x (pointer_of g (d ∷ ds)) (state_of g ds)) w.acts in
    let there : c.pointer ≡ pointer_of g (d ∷ ds) = rw count (by_window (window_of g ds) refl) in
    shaped g z ds d c st
    (record {
      keeps = w.no_reset;
      live = λ on. live;
      writable = λ on. live_writable (state_of g ds) live;
      zone = refl;
      len = refl;
      state = ap (λ (q : ℕ). state_after g.capacity action.Write q (state_of g ds)) there ∙ sym led;
      pointer = there;
      window = same_mark (window_of g ds) (asks_window d.deed) (is_active c.state) w.no_window;
      finished = same_mark (had ds 1 && is_writable (state_of g ds)) (is_excursion 1 d.deed) (is_writable c.state) (no_excursion 1);
      finish_recommended = same_mark (had ds 2 && is_active (state_of g ds)) (is_excursion 2 d.deed) (is_active c.state) (no_excursion 2);
      reset_recommended = same_mark (had ds 3 && is_writable (state_of g ds)) (is_excursion 3 d.deed) (is_writable c.state) (no_excursion 3);
      blocks = written_blocks g ds d from blocks w count;
    })
  where
    by_window : (b : Bool) → window_of g ds ≡ b → cond b (least_multiple g.granule (max (pointer_of g ds) (from + blocks - g.window))) (pointer_of g ds + blocks) ≡ pointer_of g (d ∷ ds)
    by_window true there = sym (write-moves g ds d from blocks is st w there)
    by_window false none = let begins = w.at_pointer none in ap (λ (q : ℕ). q + blocks) (sym begins) ∙ sym (write-adds g ds d from blocks st w none)

commit-follows : (g : GeometryFields) (z : ℕ) (ds : List Done) (last : ℕ) (payload : List ℕ) → IsGeometry g → AreAdmitted g (done (deed.Commit last) payload ∷ ds)
    → after_deed g (deed.Commit last) payload (cell_of g z ds) ≡ cell_of g z (done (deed.Commit last) payload ∷ ds)
unfolding cell_of
commit-follows g z ds last payload is a =
    let d : Done = done (deed.Commit last) payload in
    let passes = commit_passes g (sight_of g ds) last a.0.rows in
    let live = active_live (state_of g ds) (window_active g ds passes.window) in
    let there = commit-pointer g ds d last is a refl in
    let new : State = state_after g.capacity action.Commit (last + 1) (state_of g ds) in
    let led : state_of g (d ∷ ds) ≡ new = state-step g d ds ∙ ap (λ (q : ℕ). state_after g.capacity action.Commit q (state_of g ds)) there in
    let c : Cell = after_deed g (deed.Commit last) payload (cell_of g z ds) in
    shaped g z ds d c (stands g is ds a.1)
    (record {
      keeps = refl;
      live = λ on. live;
      writable = λ on. live_writable (state_of g ds) live;
      zone = refl;
      len = refl;
      state = sym led;
      pointer = sym there;
      window = same_mark (window_of g ds) false (is_active new) refl;
      finished = same_mark (had ds 1 && is_writable (state_of g ds)) false (is_writable new) refl;
      finish_recommended = same_mark (had ds 2 && is_active (state_of g ds)) false (is_active new) refl;
      reset_recommended = same_mark (had ds 3 && is_writable (state_of g ds)) false (is_writable new) refl;
      blocks = same_blocks g ds d refl refl;
    })

append-follows : (g : GeometryFields) (z : ℕ) (ds : List Done) (blocks : ℕ) (payload : List ℕ) → IsGeometry g → AreAdmitted g (done (deed.Append blocks) payload ∷ ds) → length payload ≡ blocks * block_len g
    → after_deed g (deed.Append blocks) payload (cell_of g z ds) ≡ cell_of g z (done (deed.Append blocks) payload ∷ ds)
unfolding cell_of
append-follows g z ds blocks payload is a len =
    write-follows g z ds (done (deed.Append blocks) payload) (pointer_of g ds) blocks is (stands g is ds a.1) (append-way g ds blocks a.0) len (λ kind. refl)

-- ---- any deed

-- A deed that its zone admitted turns the zone's cell into the cell of its deeds followed by this one.
follows : (g : GeometryFields) (z : ℕ) (ds : List Done) (e : Deed) (payload : List ℕ) → IsGeometry g → AreAdmitted g (done e payload ∷ ds) → IsWhole g (done e payload)
    → after_deed g e payload (cell_of g z ds) ≡ cell_of g z (done e payload ∷ ds)
follows g z ds (deed.Write from blocks) payload is a whole =
    write-follows g z ds (done (deed.Write from blocks) payload) from blocks is (stands g is ds a.1) (write-way g ds from blocks a.0) (whole refl) (λ kind. refl)
follows g z ds (deed.Append blocks) payload is a whole = append-follows g z ds blocks payload is a (whole refl)
follows g z ds (deed.Open window) payload is a whole = open-follows g z ds window payload is a
follows g z ds (deed.Commit last) payload is a whole = commit-follows g z ds last payload is a
follows g z ds deed.Close payload is a whole = close-follows g z ds payload is a
follows g z ds deed.Finish payload is a whole = finish-follows g z ds payload is a
follows g z ds deed.Reset payload is a whole = reset-follows g z ds payload is a
follows g z ds deed.Offline payload is a whole = offline-follows g z ds payload is a
follows g z ds (deed.Excursion kind) payload is a whole = excursion-follows g z ds kind payload is a

pub cell-follows : CellFollows
cell-follows g z ds d is a whole = follows g z ds d.deed d.payload is a whole
