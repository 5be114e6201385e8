-- What an act's own zones alone decide.
use Rattle.std.proofs.Common.{◌≡◌, ℕ, zero, suc, ◌+◌, ◌-◌, ◌<◌, ◌≤◌, Bool, true, false, cond, List, [], ◌∷◌, ◌++◌, Option, Some, None, refl, ap, ◌∙◌, arith}
use Rattle.std.specs.Prelude.{◌&&◌, ◌||◌, not, is_none, is_some, unwrap_or, nat_le, nat_lt}
use Rattle.std.specs.List.{list_any, range_with_len}
use Rattle.std.proofs.Math.Nat.{div-mul-le_self}
use Rattle.std.proofs.lemmas.Nat.{le-div, div_below}
use Rattle.std.proofs.lemmas.Bool.{ltb-true, leb-true}
use Rattle.zns_types.specs.declared.fields.GeometryFields.{GeometryFields}
use Rattle.zns_types.specs.Geometry.{IsGeometry, all_blocks, zone_of}
use Rattle.zns_types.specs.declared.state.State.{State}
use Rattle.zns_types.specs.States.{is_offline}
use Rattle.zns_types.specs.Statuses.{Status, success, zone_offline, too_many_open_zones}
use Rattle.zns_types.specs.Rows.{Row, when, first_holding}
use Rattle.sqe_codec.specs.declared.cmd.Cmd.{Cmd}
use Rattle.sqe_codec.specs.declared.cmd.Cmd.TheVariants as cmd
use Rattle.zone_limits.specs.Resources.{no_active_left, no_window_left, evicts}
use Rattle.drive_rules.specs.Tables.{judging_rows, read_rows, last_zone}
use Rattle.zone_model.specs.declared.act.Act.{Act}
use Rattle.zone_model.specs.Places.{Place, command_of}
use Rattle.zone_model.specs.Zones.{counts}
use Rattle.zone_model.specs.Answers.{status, evicted, evictable}
use Rattle.zone_model.specs.Reach.{zone_with, zones_with, reach_of, reach}
use Rattle.zone_model.specs.Local.{act_table, act_wants_room, IsDecidedAlone, SameStates, IsRange}
use Rattle.zone_model.proofs.Sends.{HasBlocks, some_blocks}

-- ---- where no zone gives way

-- The row of too many open zones makes no difference if a row before it holds or the limit isn't reached.
same_first : (rows : List (Row Status)) (r : Row Status) (rest : List (Row Status)) (b e f : Bool) (c : Status) → (is_none (first_holding (rows ++ r ∷ [])) && b) ≡ false
    → first_holding (rows ++ r ∷ when (b && not e) c ∷ rest) ≡ first_holding (rows ++ r ∷ when (b && not f) c ∷ rest)
same_first [] r rest b e f c none = by_row r.holds b none
  where
    by_row : (holds b : Bool) → (is_none (cond holds (Some r.answer) None) && b) ≡ false
        → cond holds (Some r.answer) (cond (b && not e) (Some c) (first_holding rest)) ≡ cond holds (Some r.answer) (cond (b && not f) (Some c) (first_holding rest))
    by_row true b none = refl
    by_row false true none = absurd (cc none)
    by_row false false none = refl
same_first (x ∷ rows) r rest b e f c none = by_row x.holds none (same_first rows r rest b e f c)
  where
    by_row : (holds : Bool) → (is_none (cond holds (Some x.answer) (first_holding (rows ++ r ∷ []))) && b) ≡ false
        → ((is_none (first_holding (rows ++ r ∷ [])) && b) ≡ false → first_holding (rows ++ r ∷ when (b && not e) c ∷ rest) ≡ first_holding (rows ++ r ∷ when (b && not f) c ∷ rest))
        → cond holds (Some x.answer) (first_holding (rows ++ r ∷ when (b && not e) c ∷ rest)) ≡ cond holds (Some x.answer) (first_holding (rows ++ r ∷ when (b && not f) c ∷ rest))
    by_row true none k = refl
    by_row false none k = k none

pub none_gives_way : (g : GeometryFields) (h : List Place) (a : Act) → act_wants_room g h a ≡ false → IsDecidedAlone g h a
unfolding status evicted
none_gives_way g h a none =
    let t = act_table g h a in
    let n = counts g h in
    record {
      evicted = rw none refl;
      status = λ free. ap (λ (o : Option Status). unwrap_or o success)
          (same_first (judging_rows t) (no_active_left g n t.need) (no_window_left g n t.need ∷ []) (evicts g n t.need) (is_some (evictable g h t.target)) free too_many_open_zones none);
    }

-- ---- the zones of a Read

any-range : (p q : ℕ → Bool) (from n : ℕ) → ((z : ℕ) → from ≤ z → z < from + n → p z ≡ q z) → list_any p (range_with_len from n) ≡ list_any q (range_with_len from n)
any-range p q from zero same = refl
any-range p q from (suc n) same =
    let here : p from ≡ q from = same from (omega arith) (omega arith) in
    let rest = any-range p q (from + 1) n (λ z low high. same z (omega arith) (omega arith)) in
    ap (λ (b : Bool). b || list_any p (range_with_len (from + 1) n)) here ∙ ap (λ (b : Bool). q from || b) rest

pub read_is_local : (g : GeometryFields) (s t : ℕ → State) (slba blocks : ℕ) → SameStates g s t slba blocks → read_rows g s slba blocks ≡ read_rows g t slba blocks
read_is_local g s t slba blocks same =
    let any = any-range (λ z. is_offline (s z)) (λ z. is_offline (t z)) (zone_of g slba) (last_zone g slba blocks + 1 - zone_of g slba) (λ z low high. ap is_offline (same z low (omega arith))) in
    ap (λ (b : Bool). when b zone_offline ∷ []) any

-- ---- the zones of an act

no_range : (g : GeometryFields) → IsRange g []
no_range g = record { first = 0; count = 0; all = refl; within = omega arith }

-- the zone of a block of the namespace is a zone of the drive
zone_of-below : (g : GeometryFields) (lba : ℕ) → IsGeometry g → lba < all_blocks g → zone_of g lba < g.zones
zone_of-below g lba is within = div_below lba g.zone_size g.zones is.zones.zone_size within

zone_with-range : (g : GeometryFields) (lba : ℕ) → IsGeometry g → IsRange g (zone_with g lba)
zone_with-range g lba is = by_case (nat_lt lba (all_blocks g)) refl
  where
    by_case : (b : Bool) → nat_lt lba (all_blocks g) ≡ b → IsRange g (cond b (zone_of g lba ∷ []) [])
    by_case true e = let below = zone_of-below g lba is (ltb-true _ _ e) in record { first = zone_of g lba; count = 1; all = refl; within = omega arith }
    by_case false e = no_range g

zones_with-range : (g : GeometryFields) (slba blocks : ℕ) → IsGeometry g → 1 ≤ blocks → IsRange g (zones_with g slba blocks)
zones_with-range g slba blocks is some = by_case (nat_le (slba + blocks) (all_blocks g)) refl
  where
    from : ℕ
    from = zone_of g slba

    to : ℕ
    to = last_zone g slba blocks

    by_case : (b : Bool) → nat_le (slba + blocks) (all_blocks g) ≡ b → IsRange g (cond b (range_with_len from (to + 1 - from)) [])
    by_case true e =
        let all = leb-true (slba + blocks) (all_blocks g) e in
        let below : to < g.zones = zone_of-below g (slba + blocks - 1) is (omega arith) in
        let le : from ≤ to = le-div from (slba + blocks - 1) g.zone_size is.zones.zone_size (omega (arith, div-mul-le_self slba g.zone_size)) in
        record { first = from; count = to + 1 - from; all = refl; within = omega arith }
    by_case false e = no_range g

reach_of-range : (g : GeometryFields) (k : Cmd) → IsGeometry g → HasBlocks k → IsRange g (reach_of g k)
reach_of-range g (cmd.Write nsid slba blocks) is has = zones_with-range g slba blocks is has.some
reach_of-range g (cmd.Read nsid slba blocks) is has = zones_with-range g slba blocks is has.some
reach_of-range g (cmd.Append nsid zslba blocks) is has = zone_with-range g zslba is
reach_of-range g (cmd.Send nsid slba act true option) is has = record { first = 0; count = g.zones; all = refl; within = omega arith }
reach_of-range g (cmd.Send nsid slba act false option) is has = zone_with-range g slba is
reach_of-range g (cmd.Receive nsid slba bytes act filter partial) is has = record { first = 0; count = g.zones; all = refl; within = omega arith }
reach_of-range g (cmd.Excursion nsid slba kind) is has = zone_with-range g slba is
reach_of-range g _ is has = no_range g

pub reach_is_range : (g : GeometryFields) → IsGeometry g → (a : Act) → IsRange g (reach g a)
reach_is_range g is a = reach_of-range g (command_of a) is (some_blocks a)
