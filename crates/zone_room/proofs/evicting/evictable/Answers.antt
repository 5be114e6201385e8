use Rattle.std.proofs.Common.{◌≡◌, ◌+◌, ℕ, suc, Bool, true, false, length, sym, ◌∙◌, arith}
use Rattle.std.specs.Prelude.{◌==◌, ◌&&◌, not}
use Rattle.std.proofs.lemmas.Bool.{and_parts}
use Rattle.zns_types.specs.States.{is_implicitly_opened}
use Rattle.zone_room.specs.Rooms.{cell_in}
use Rattle.zone_room.proofs.Finding.{first_at, none_more, shown}
use Rattle.zone_room.proofs.evicting.evictable.Goals as goal

pub returns-then-is_evictable-clause-first : goal.returns-then-is_evictable-clause-first
returns-then-is_evictable-clause-first c =
    let cells = c.args.cells.now in
    let at = c.loop-at.at in
    let test : ℕ → Bool = λ i. is_implicitly_opened (cell_in cells i).state && not (i == c.args.but) in
    let is : test at ≡ true = shown cells at c.index-cells-at.result c.args.but c.loop-at-test.true c.index-cells-at.is ∙ sym c.is_evictable.ensures ∙ c.if-is_evictable.true in
    sym (first_at test 0 at (length cells) at (omega arith) c.loop-at-test.true c.loop-at.invariant is)

pub returns-then-is_evictable-clause-opened : goal.returns-then-is_evictable-clause-opened
returns-then-is_evictable-clause-opened c =
    let cells = c.args.cells.now in
    let at = c.loop-at.at in
    let is : (is_implicitly_opened (cell_in cells at).state && not (at == c.args.but)) ≡ true =
    shown cells at c.index-cells-at.result c.args.but c.loop-at-test.true c.index-cells-at.is ∙ sym c.is_evictable.ensures ∙ c.if-is_evictable.true in
    record { below = c.loop-at-test.true; opened = (and_parts _ _ is).0 }

pub loop-at-preserved : goal.loop-at-preserved
loop-at-preserved c =
    let cells = c.args.cells.now in
    let at = c.loop-at.at in
    let test : ℕ → Bool = λ i. is_implicitly_opened (cell_in cells i).state && not (i == c.args.but) in
    let is : test at ≡ false = shown cells at c.index-cells-at.result c.args.but c.loop-at-test.true c.index-cells-at.is ∙ sym c.is_evictable.ensures ∙ c.if-is_evictable.false in
    let next : at + 1 ≡ suc at = omega arith in
    rw next (none_more test 0 at at (omega arith) c.loop-at.invariant is)
