-- The tallies of a history with one more act.
use Rattle.std.proofs.Common.{◌≡◌, ℕ, suc, ◌+◌, ◌*◌, ◌^◌, ◌<◌, ◌≤◌, Bool, true, false, cond, List, [], ◌∷◌, length, Option, Some, None, is_some, refl, sym, ap, ◌∙◌, arith, inl, inr, get_or-set_same, get_or-set_other, length-set}
use Rattle.std.specs.Prelude.{◌&&◌, ◌==◌, not, is_none, reverse, replicate}
use Rattle.std.proofs.lemmas.Bool.{cases_eq, ne_eqb, eq-eqb, and_right}
use Rattle.std.proofs.lemmas.List.{length-reverse, length-replicate, get_or-replicate}
use Rattle.std.proofs.lemmas.List.FromFn.{fill_by_all, get_or-map-range_with_len, length-map-range_with_len}
use Rattle.zns_types.specs.declared.fields.GeometryFields.{GeometryFields}
use Rattle.zns_types.specs.Statuses.{is_success}
use Rattle.drive_rules.specs.Shown.{one}
use Rattle.zone_model.specs.declared.act.Act.{Act}
use Rattle.sqe_codec.specs.declared.cmd.Cmd.{Cmd}
use Rattle.sqe_codec.specs.declared.cmd.Cmd.TheVariants as cmd
use Rattle.sqe_codec.specs.Commands.{cid_of}
use Rattle.zone_model.specs.Places.{Place, command_of, is_excursion, is_event_request, had_excursion, waited}
use Rattle.zone_model.specs.Notices.{fires_by}
use Rattle.zone_model.specs.Answers.{status, fires, answer, and_then, answered, answered_back}
use Rattle.zone_model.specs.Entries.{acts_on, entries_on, posted_on, waits}
use Rattle.zone_model.proofs.Histories.{acts_on-step, entries_on-step, acts_on-none, entries_on-none}
use Rattle.drive_book.specs.declared.outcome.Outcome.{Outcome}
use Rattle.drive_book.specs.declared.tally.Tally.{Tally}
use Rattle.drive_book.specs.Outcomes.{event_by, event_of, OutcomeStands}
use Rattle.drive_book.specs.Tallies.{no_tally, tally_at, with_act, with_entry, with_event, after_post, HasRoomAt}
use Rattle.drive_book.specs.Books.{tally_of, tallies_of}

-- ---- the tallies of a history, by their queues

pub tallies-len : (g : GeometryFields) (h : List Place) → length (tallies_of g h) ≡ g.queues
tallies-len g h = length-map-range_with_len (tally_of h) 0 g.queues

pub tallies-at : (g : GeometryFields) (h : List Place) (queue : ℕ) → queue < g.queues → tally_at queue (tallies_of g h) ≡ tally_of h queue
tallies-at g h queue lt = get_or-map-range_with_len (tally_of h) 0 g.queues queue queue no_tally lt (omega arith)

-- tallies that agree with a history at each queue are its tallies
tallies-by : (g : GeometryFields) (h : List Place) (ts : List Tally) → length ts ≡ g.queues → ((queue : ℕ) → queue < g.queues → tally_at queue ts ≡ tally_of h queue) → ts ≡ tallies_of g h
tallies-by g h ts len each = fill_by_all (tally_of h) ts g.queues no_tally len each

-- no queue has had anything
tally-none : (queue : ℕ) → no_tally ≡ tally_of [] queue
tally-none queue = rw (acts_on-none queue, entries_on-none queue) refl

pub tallies-none : (g : GeometryFields) → replicate g.queues no_tally ≡ tallies_of g []
tallies-none g = tallies-by g [] (replicate g.queues no_tally) (length-replicate g.queues no_tally) (λ queue lt. get_or-replicate g.queues queue no_tally no_tally lt ∙ tally-none queue)

-- ---- room

one_most : (b : Bool) → one b ≤ 1
one_most true = omega arith
one_most false = omega arith

acts_on-most : (queue : ℕ) (h : List Place) → acts_on queue h ≤ length h
acts_on-most queue [] = omega (arith, acts_on-none queue)
acts_on-most queue (p ∷ h) = omega (arith, acts_on-step queue p h, one_most (p.act.queue == queue), acts_on-most queue h)

posted_on-most : (queue : ℕ) (p : Place) → posted_on queue p ≤ 2
posted_on-most queue p = omega (arith, one_most ((p.act.queue == queue) && not (waited p)), one_most ((queue == 0) && had_excursion p && is_some p.fired))

entries_on-most : (queue : ℕ) (h : List Place) → entries_on queue h ≤ 2 * length h
entries_on-most queue [] = omega (arith, entries_on-none queue)
entries_on-most queue (p ∷ h) = omega (arith, entries_on-step queue p h, posted_on-most queue p, entries_on-most queue h)

length-answered_back : (g : GeometryFields) (acts : List Act) → length (answered_back g acts) ≡ length acts
unfolding answered_back
length-answered_back g [] = refl
length-answered_back g (a ∷ acts) = ap suc (length-answered_back g acts)

pub length-answered : (g : GeometryFields) (acts : List Act) → length (answered g acts) ≡ length acts
unfolding answered
length-answered g acts = length-answered_back g (reverse acts) ∙ length-reverse acts

-- after fewer than 2^32 acts, one more can be counted
pub tallies-room : (g : GeometryFields) (acts : List Act) (queue : ℕ) → length acts < 2 ^ 32 → queue < g.queues → HasRoomAt queue (tallies_of g (answered g acts))
tallies-room g acts queue few lt =
    let h = answered g acts in
    let len = length-answered g acts in
    let is = tallies-at g h queue lt in
    record { acts = omega (arith, acts_on-most queue h, len, ap (λ (t : Tally). t.acts) is); entries = omega (arith, entries_on-most queue h, len, ap (λ (t : Tally). t.entries) is) }

-- ---- what an act posts, by whether it waits and the event request that it answers

one-and : (b : Bool) → one (b && true) ≡ one b
one-and true = refl
one-and false = refl

zero-eq : (q : ℕ) → (0 == q) ≡ (q == 0)
zero-eq q = elim (cases_eq q 0) [
  | inl here ↦ rw here refl
  | inr other ↦ rw (ne_eqb q 0 other, ne_eqb 0 q (λ e. other (sym e))) refl
]

and-regroup : (x y z : Bool) → (x && y && z) ≡ (x && (y && z))
and-regroup true y z = refl
and-regroup false y z = refl

not-some : (o : Option ℕ) → not (is_some o) ≡ is_none o
not-some None = refl
not-some (Some cid) = refl

pub waited-answer : (g : GeometryFields) (h : List Place) (a : Act) → waited (answer g h a) ≡ waits g h a
unfolding waited answer
waited-answer g h a = ap (λ (b : Bool). is_success (status g h a) && is_event_request (command_of a) && b) (not-some (fires g h a))

event_by-some : (c : Cmd) (success : Bool) (o : Option ℕ) → ((success && is_excursion c) && is_some (cond success o None)) ≡ is_some (event_by c (cond success o None))
event_by-some (cmd.Excursion nsid slba kind) true o = refl
event_by-some (cmd.Excursion nsid slba kind) false o = refl
event_by-some _ true o = refl
event_by-some _ false o = refl

pub event_of-some : (g : GeometryFields) (h : List Place) (a : Act) → (had_excursion (answer g h a) && is_some (fires g h a)) ≡ is_some (event_of g h a)
unfolding had_excursion answer fires
event_of-some g h a = event_by-some (command_of a) (is_success (status g h a)) (fires_by h (cid_of a.sqe.bytes) (command_of a))

event_by-waits : (c : Cmd) (success none : Bool) (fired : Option ℕ) → (success && is_event_request c && none) ≡ true → event_by c fired ≡ None
event_by-waits cmd.Event success none fired e = refl
event_by-waits (cmd.Excursion nsid slba kind) success none fired e = absurd (cc (e, and_right success false refl))
event_by-waits _ success none fired e = refl

-- an event request that waits answers none
pub event_of-waits : (g : GeometryFields) (h : List Place) (a : Act) → waits g h a ≡ true → event_of g h a ≡ None
event_of-waits g h a waiting = event_by-waits (command_of a) (is_success (status g h a)) (is_none (fires g h a)) (fires g h a) waiting

-- the entries of an act on a queue q, by its own queue, whether it waits, and the event request that it answered
abbrev pub new_entries : ℕ → ℕ → Bool → Option ℕ → ℕ
new_entries queue q waits event = one ((queue == q) && not waits) + one ((q == 0) && is_some event)

own_act : (g : GeometryFields) (h : List Place) (a : Act) (queue : ℕ) → acts_on queue (and_then g h a) ≡ one (a.queue == queue) + acts_on queue h
unfolding answer
own_act g h a queue = acts_on-step queue (answer g h a) h

posted_on-is : (g : GeometryFields) (h : List Place) (a : Act) (queue : ℕ) → posted_on queue (answer g h a) ≡ new_entries a.queue queue (waits g h a) (event_of g h a)
unfolding answer
posted_on-is g h a queue =
    ap (λ (b : Bool). one ((a.queue == queue) && not b) + one ((queue == 0) && had_excursion (answer g h a) && is_some (fires g h a))) (waited-answer g h a)
    ∙ ap (λ (b : Bool). one ((a.queue == queue) && not (waits g h a)) + one b) (and-regroup (queue == 0) (had_excursion (answer g h a)) (is_some (fires g h a)))
    ∙ ap (λ (b : Bool). one ((a.queue == queue) && not (waits g h a)) + one ((queue == 0) && b)) (event_of-some g h a)

-- ---- one more act or entry of a queue, as each queue sees it

same_tally : (s t : Tally) → s.acts ≡ t.acts → s.entries ≡ t.entries → s ≡ t
same_tally s t acts entries = ap (λ (n : ℕ). record { acts = n; entries = s.entries }) acts ∙ ap (λ (n : ℕ). record { acts = t.acts; entries = n }) entries

pub with_act-here : (queue : ℕ) (ts : List Tally) → queue < length ts → tally_at queue (with_act queue ts) ≡ record { acts = (tally_at queue ts).acts + 1; entries = (tally_at queue ts).entries }
with_act-here queue ts lt = get_or-set_same ts queue _ no_tally lt

pub with_entry-here : (queue : ℕ) (ts : List Tally) → queue < length ts → tally_at queue (with_entry queue ts) ≡ record { acts = (tally_at queue ts).acts; entries = (tally_at queue ts).entries + 1 }
with_entry-here queue ts lt = get_or-set_same ts queue _ no_tally lt

-- a tally with this many more acts and entries
abbrev pub more : ℕ → ℕ → Tally → Tally
more acts entries t = record { acts = acts + t.acts; entries = entries + t.entries }

with_act-at : (queue q : ℕ) (ts : List Tally) → queue < length ts → tally_at q (with_act queue ts) ≡ more (one (queue == q)) 0 (tally_at q ts)
with_act-at queue q ts lt = elim (cases_eq q queue) [
  | inl here ↦ rw (here, with_act-here queue ts lt, eq-eqb queue queue refl) (same_tally _ _ (omega arith) (omega arith))
  | inr other ↦ rw (get_or-set_other ts queue q _ no_tally other, ne_eqb queue q (λ e. other (sym e))) (same_tally _ _ (omega arith) (omega arith))
]

with_entry-at : (queue q : ℕ) (ts : List Tally) → queue < length ts → tally_at q (with_entry queue ts) ≡ more 0 (one (queue == q)) (tally_at q ts)
with_entry-at queue q ts lt = elim (cases_eq q queue) [
  | inl here ↦ rw (here, with_entry-here queue ts lt, eq-eqb queue queue refl) (same_tally _ _ (omega arith) (omega arith))
  | inr other ↦ rw (get_or-set_other ts queue q _ no_tally other, ne_eqb queue q (λ e. other (sym e))) (same_tally _ _ (omega arith) (omega arith))
]

pub with_act-len : (queue : ℕ) (ts : List Tally) → length (with_act queue ts) ≡ length ts
with_act-len queue ts = length-set ts queue _

with_entry-len : (queue : ℕ) (ts : List Tally) → length (with_entry queue ts) ≡ length ts
with_entry-len queue ts = length-set ts queue _

-- the tallies after an act, as a queue q sees them; one that waits answers no event request
after-at : (queue q : ℕ) (waits : Bool) (event : Option ℕ) (ts : List Tally) → queue < length ts → (waits ≡ true → event ≡ None)
    → tally_at q (cond waits (with_act queue ts) (with_event event (with_entry queue (with_act queue ts)))) ≡ more (one (queue == q)) (new_entries queue q waits event) (tally_at q ts)
after-at queue q true event ts lt silent =
    rw (silent refl, with_act-at queue q ts lt) (same_tally _ _ refl (omega (arith, ap one (and_right (queue == q) false refl), ap one (and_right (q == 0) false refl))))
after-at queue q false None ts lt silent =
    rw (with_entry-at queue q (with_act queue ts) (omega (arith, with_act-len queue ts)), with_act-at queue q ts lt)
    (same_tally _ _ (omega arith) (omega (arith, one-and (queue == q), ap one (and_right (q == 0) false refl))))
after-at queue q false (Some cid) ts lt silent =
    let mid = with_entry queue (with_act queue ts) in
    rw (with_entry-at 0 q mid (omega (arith, with_entry-len queue (with_act queue ts), with_act-len queue ts)), with_entry-at queue q (with_act queue ts) (omega (arith, with_act-len queue ts)), with_act-at queue q ts lt)
    (same_tally _ _ (omega arith) (omega (arith, one-and (queue == q), one-and (q == 0), ap one (zero-eq q))))

after-len : (queue : ℕ) (waits : Bool) (event : Option ℕ) (ts : List Tally) → length (cond waits (with_act queue ts) (with_event event (with_entry queue (with_act queue ts)))) ≡ length ts
after-len queue true event ts = with_act-len queue ts
after-len queue false None ts = with_entry-len queue (with_act queue ts) ∙ with_act-len queue ts
after-len queue false (Some cid) ts = with_entry-len 0 (with_entry queue (with_act queue ts)) ∙ with_entry-len queue (with_act queue ts) ∙ with_act-len queue ts

-- ---- one more act of a history

tally-step : (g : GeometryFields) (h : List Place) (a : Act) (queue : ℕ) → tally_of (and_then g h a) queue ≡ more (one (a.queue == queue)) (new_entries a.queue queue (waits g h a) (event_of g h a)) (tally_of h queue)
tally-step g h a queue =
    same_tally _ _ (own_act g h a queue) (entries_on-step queue (answer g h a) h ∙ ap (λ (n : ℕ). n + entries_on queue h) (posted_on-is g h a queue))

-- The tallies of a history, after an act is posted, are those of the history with the act.
pub tallies-step : (g : GeometryFields) (h : List Place) (a : Act) (o : Outcome) (ts : List Tally) → a.queue < g.queues → ts ≡ tallies_of g h → OutcomeStands g h a o → after_post a.queue o ts ≡ tallies_of g (and_then g h a)
tallies-step g h a o ts lt is stands =
    let len : length ts ≡ g.queues = rw is (tallies-len g h) in
    let silent : waits g h a ≡ true → event_of g h a ≡ None = event_of-waits g h a in
    rw (stands.waits, stands.event)
    (tallies-by g (and_then g h a) _ (after-len a.queue (waits g h a) (event_of g h a) ts ∙ len)
    (λ q q-lt.
    after-at a.queue q (waits g h a) (event_of g h a) ts (omega (arith, len)) silent
    ∙ ap (λ (t : Tally). more (one (a.queue == q)) (new_entries a.queue q (waits g h a) (event_of g h a)) t) (ap (λ (xs : List Tally). tally_at q xs) is ∙ tallies-at g h q q-lt)
    ∙ sym (tally-step g h a q)))
