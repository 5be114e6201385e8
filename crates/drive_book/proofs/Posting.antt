-- The entries that an act posts, from the tallies of the history before it.
use Rattle.std.proofs.Common.{◌≡◌, ℕ, ◌+◌, ◌*◌, ◌<◌, Bool, true, false, cond, List, length, Option, Some, None, refl, ap, ◌∙◌, subst, arith, inl, inr}
use Rattle.std.specs.Prelude.{◌==◌}
use Rattle.std.proofs.lemmas.Bool.{cases_eq, ne_eqb}
use Rattle.zns_types.specs.declared.fields.GeometryFields.{GeometryFields}
use Rattle.zns_types.specs.Fields.{bits, bit, dword, long}
use Rattle.sqe_codec.specs.declared.cmd.Cmd.{Cmd}
use Rattle.sqe_codec.specs.declared.cmd.Cmd.TheVariants as cmd
use Rattle.sqe_codec.specs.Commands.{opcode_of, nsid_of, blocks_of, cid_of, io_command, command}
use Rattle.zone_model.specs.declared.act.Act.{Act}
use Rattle.zone_model.specs.Places.{Place, command_of, is_excursion}
use Rattle.zone_model.specs.Answers.{fires}
use Rattle.zone_model.specs.Entries.{acts_on, entries_on, posted, event_entries}
use Rattle.drive_book.specs.declared.outcome.Outcome.{Outcome}
use Rattle.drive_book.specs.declared.tally.Tally.{Tally}
use Rattle.drive_book.specs.Outcomes.{event_by, OutcomeStands}
use Rattle.drive_book.specs.Tallies.{tally_at, with_act, with_entry, event_entry_by, entries_by}
use Rattle.drive_book.specs.Books.{tally_of, tallies_of}
use Rattle.drive_book.proofs.TallyCounts.{tallies-len, tallies-at, with_act-here, with_act-len, with_entry-here}

-- ---- an excursion is a command of queue 0

by_opcode : (flushes writes reads sends receives appends : Bool) (nsid slba blocks bytes act filter opcode : ℕ) (all option partial : Bool)
    → is_excursion (cond flushes (cmd.Flush nsid) (cond writes (cmd.Write nsid slba blocks) (cond reads (cmd.Read nsid slba blocks) (cond sends (cmd.Send nsid slba act all option) (cond receives (cmd.Receive nsid slba bytes act filter partial) (cond appends (cmd.Append nsid slba blocks) (cmd.Unknown opcode)))))))
    ≡ false
by_opcode true b c d e f nsid slba blocks bytes act filter opcode all option partial = refl
by_opcode false true c d e f nsid slba blocks bytes act filter opcode all option partial = refl
by_opcode false false true d e f nsid slba blocks bytes act filter opcode all option partial = refl
by_opcode false false false true e f nsid slba blocks bytes act filter opcode all option partial = refl
by_opcode false false false false true f nsid slba blocks bytes act filter opcode all option partial = refl
by_opcode false false false false false true nsid slba blocks bytes act filter opcode all option partial = refl
by_opcode false false false false false false nsid slba blocks bytes act filter opcode all option partial = refl

-- no command of an I/O queue
io_command-none : (e : List ℕ) → is_excursion (io_command e) ≡ false
unfolding io_command
io_command-none e =
    by_opcode (opcode_of e == 0x00) (opcode_of e == 0x01) (opcode_of e == 0x02) (opcode_of e == 0x79) (opcode_of e == 0x7a) (opcode_of e == 0x7d) (nsid_of e) (long 10 e) (blocks_of e) (4 * (dword 12 e + 1)) (bits 7 0 (dword 13 e)) (bits 15 8 (dword 13 e)) (opcode_of e)
    (bit 8 (dword 13 e)) (bit 9 (dword 13 e)) (bit 16 (dword 13 e))

by_queue : (admin : Bool) (e : List ℕ) → is_excursion (command admin e) ≡ true → admin ≡ true
by_queue true e is = refl
by_queue false e is = let isnt = io_command-none e in absurd (cc (is, isnt))

pub excursion-queue : (a : Act) → is_excursion (command_of a) ≡ true → a.queue ≡ 0
excursion-queue a is = elim (cases_eq a.queue 0) [
  | inl zero ↦ zero
  | inr other ↦ let isnt = ne_eqb a.queue 0 other in let admin = by_queue (a.queue == 0) a.sqe.bytes is in absurd (cc (isnt, admin))
]

-- ---- entries

-- the entry of the event request that an excursion answers
event-posts : (g : GeometryFields) (h : List Place) (c : Cmd) (fired : Option ℕ) (ts : List Tally) → (is_excursion c ≡ true → tally_at 0 ts ≡ record { acts = acts_on 0 h + 1; entries = entries_on 0 h + 1 })
    → event_entry_by g (event_by c fired) ts ≡ event_entries g h c fired
event-posts g h (cmd.Excursion nsid slba kind) (Some cid) ts counts = rw (counts refl) refl
event-posts g h (cmd.Excursion nsid slba kind) None ts counts = refl
event-posts g h _ fired ts counts = refl

-- The entries of an act, from the tallies of a history, are those that it posts after the history.
pub posts-entries : (g : GeometryFields) (h : List Place) (a : Act) (o : Outcome) (ts : List Tally) → a.queue < g.queues → ts ≡ tallies_of g h → OutcomeStands g h a o
    → entries_by g a.queue (cid_of a.sqe.bytes) o ts ≡ posted g h a
unfolding posted
posts-entries g h a o ts lt is stands =
    let len : length ts ≡ g.queues = rw is (tallies-len g h) in
    let counted : tally_at a.queue ts ≡ tally_of h a.queue = ap (λ (xs : List Tally). tally_at a.queue xs) is ∙ tallies-at g h a.queue lt in
    let mid = with_act a.queue ts in
    let own : tally_at a.queue mid ≡ record { acts = acts_on a.queue h + 1; entries = entries_on a.queue h } =
    with_act-here a.queue ts (omega (arith, len)) ∙ ap (λ (t : Tally). record { acts = t.acts + 1; entries = t.entries }) counted in
    let both : tally_at a.queue (with_entry a.queue mid) ≡ record { acts = acts_on a.queue h + 1; entries = entries_on a.queue h + 1 } =
    with_entry-here a.queue mid (omega (arith, len, with_act-len a.queue ts)) ∙ ap (λ (t : Tally). record { acts = t.acts; entries = t.entries + 1 }) own in
    let event = event-posts g h (command_of a) (fires g h a) (with_entry a.queue mid) (λ excursion. subst (λ (q : ℕ). tally_at q (with_entry a.queue mid) ≡ record { acts = acts_on q h + 1; entries = entries_on q h + 1 }) (excursion-queue a excursion) both) in
    rw (stands.waits, stands.code, stands.dw0, stands.dw1, stands.event, event, own) refl
