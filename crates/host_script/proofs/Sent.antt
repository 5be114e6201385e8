-- One line of a script, from its command to the line that is written for it.
use Rattle.std.proofs.Common.{◌≡◌, ℕ, ◌+◌, ◌*◌, ◌%◌, ◌^◌, ◌<◌, ◌≤◌, Bool, true, false, cond, List, [], ◌∷◌, ◌++◌, length, take, drop, Option, Some, Result, Ok, Err, refl, sym, ap, ◌∙◌, subst, arith, length-append}
use Rattle.std.specs.Prelude.{◌==◌, slice_get}
use Rattle.std.proofs.lemmas.Bool.Decides.{nat_tests}
use Rattle.std.proofs.Math.Seq.{take-length}
use Rattle.zns_types.specs.declared.fields.GeometryFields.{GeometryFields}
use Rattle.zns_types.specs.Geometry.{IsGeometry, first, zone_of}
use Rattle.zns_types.specs.Statuses.{Status, is_success}
use Rattle.sqe_codec.specs.declared.cmd.Cmd.{Cmd}
use Rattle.sqe_codec.specs.Commands.{cid_of}
use Rattle.cqe_codec.specs.declared.cqe.Cqe.{Cqe}
use Rattle.drive_rules.specs.Reports.{report}
use Rattle.zone_model.specs.declared.act.Act.{Act}
use Rattle.zone_model.specs.Places.{Place}
use Rattle.zone_model.specs.Answers.{status, answered}
use Rattle.zone_model.specs.Entries.{dwords_of, own_entry, posted}
use Rattle.zone_model.specs.Replies.{read_by, reply_bytes, descriptors}
use Rattle.host_library.specs.declared.done.Done.{Done}
use Rattle.host_library.specs.declared.loop_link.LoopLink.{LoopLink}
use Rattle.host_library.specs.declared.host_err.HostErr.{HostErr}
use Rattle.host_library.specs.declared.host_err.HostErr.TheVariants as error
use Rattle.host_library.specs.Links.{Answer}
use Rattle.host_library.specs.Asking.{act_for}
use Rattle.host_library.specs.Hosts.{Hosted, after_put, next_number}
use Rattle.host_library.specs.Pumping.{verdict_by, verdict_told, pumped, ring_after, Sends, IsTold}
use Rattle.host_library.proofs.Replies.{reply-success, length-report}
use Rattle.host_library.proofs.ToldAnswers.{posted-first}
use Rattle.host_script.specs.declared.line.Line.{Line}
use Rattle.host_script.specs.declared.line.Line.TheVariants as the_line
use Rattle.host_script.specs.Lines.{IsLine, data_of}
use Rattle.host_script.specs.Scripts.{command_of_line, act_of_line, lba_of, done_line, refused_line, answer_line}
use Rattle.host_script.specs.Serving.{Outcome, verdict_of_outcome, answer_of, IsOutcome, outcome_line, acts_of_host, IsIdle, IsSent}
use Rattle.host_script.proofs.Commands.{command_of-line, no_event}

-- ---- the ring

-- a command that is put into an empty ring is the one that waits
pub put-ring : (h : Hosted LoopLink) (k : Cmd) (payload : List ℕ) → h.ring ≡ [] → 1 ≤ h.geometry.depth → (after_put h k payload).ring ≡ act_for k h.next payload ∷ []
put-ring h k payload none some =
    let empty : length h.ring ≡ 0 = ap (λ (ring : List Act). length ring) none in
    let room : (length h.ring == h.geometry.depth) ≡ false = grind (arith, nat_tests) in
    rw (room, none) refl

pub put-next : (h : Hosted LoopLink) (k : Cmd) (payload : List ℕ) → h.ring ≡ [] → 1 ≤ h.geometry.depth → (after_put h k payload).next ≡ next_number h.next
put-next h k payload none some =
    let empty : length h.ring ≡ 0 = ap (λ (ring : List Act). length ring) none in
    let room : (length h.ring == h.geometry.depth) ≡ false = grind (arith, nat_tests) in
    rw room refl

-- ---- the answer

by_success : (ok : Bool) (done : Done) (s : Status) → (outcome : Outcome) × (cond ok (Ok done) (Err (error.Refused s)) ≡ verdict_of_outcome outcome)
by_success true done s = (Ok done, refl)
by_success false done s = (Err s, refl)

-- what a told history says of a command is its outcome
pub told-outcome : (g : GeometryFields) (h : List Place) (a : Act) (given : Result (Option Done) HostErr) → given ≡ pumped (verdict_told g h a) → IsOutcome given
told-outcome g h a given is =
    let found = by_success (is_success (status g h a)) _ (status g h a) in
    record { outcome = found.0; same = is ∙ ap pumped found.1 }

-- an answer has one outcome
verdict_back : (v w : Result Done HostErr) → pumped v ≡ pumped w → v ≡ w
verdict_back (Ok d) (Ok e) is = let same : d ≡ e = cc in ap (λ (x : Done). Ok x) same
verdict_back (Ok d) (Err e) is = absurd cc
verdict_back (Err d) (Ok e) is = absurd cc
verdict_back (Err d) (Err e) is = let same : d ≡ e = cc in ap (λ (x : HostErr). Err x) same

left_ring : (a : Act) (rest : List Act) (v : Result Done HostErr) → (pumped v ≡ Err error.LinkFault → ⊥) → ring_after a rest v ≡ rest
left_ring a rest (Ok done) sure = refl
left_ring a rest (Err error.LinkFault) sure = absurd (sure refl)
left_ring a rest (Err (error.Refused s)) sure = refl
left_ring a rest (Err (error.RingFull bytes)) sure = refl
left_ring a rest (Err (error.Torn byte)) sure = refl

record IsLeft (before after : Hosted LoopLink) : Type 0 where
  ring : after.ring ≡ []
  next : after.next ≡ before.next

sends-left : (step : Act → Answer → LoopLink → Type 0) (before after : Hosted LoopLink) (given : Result (Option Done) HostErr) (out : List ℕ) (a : Act) → Sends step before after given out → before.ring ≡ a ∷ [] → (given ≡ Err error.LinkFault → ⊥) → IsLeft before after
sends-left step before after given out a sends one sure =
    let none : sends.rest ≡ [] = let both : sends.act ∷ sends.rest ≡ a ∷ [] = sym sends.oldest ∙ one in cc in
    let good : pumped (verdict_by sends.act sends.answer) ≡ Err error.LinkFault → ⊥ = λ is. sure (sends.result ∙ is) in
    record {
      ring = ap (λ (h : Hosted LoopLink). h.ring) sends.host ∙ left_ring sends.act sends.rest (verdict_by sends.act sends.answer) good ∙ none;
      next = ap (λ (h : Hosted LoopLink). h.next) sends.host;
    }

pub was_sent : {step : Act → Answer → LoopLink → Type 0} (before after : Hosted LoopLink) (given : Result (Option Done) HostErr) (out : List ℕ) (a : Act) (outcome : Outcome) → before.ring ≡ a ∷ [] → (given ≡ Err error.LinkFault → ⊥)
    → Sends step before after given out → IsTold before.geometry (acts_of_host before) a (Some (acts_of_host after)) given out → after.geometry ≡ before.geometry → before.link.drive.spare ≤ after.link.drive.spare + 1
    → given ≡ answer_of outcome → IsSent before after a outcome out
was_sent {step} before after given out a outcome one sure sends told geometry spare is =
    let left = sends-left step before after given out a sends one sure in
    record {
      ring = left.ring;
      next = left.next;
      geometry = geometry;
      acts = let both : Some (acts_of_host after) ≡ Some (acts_of_host before ++ a ∷ []) = told.history in cc;
      spare = spare;
      same = verdict_back _ _ (sym is ∙ told.result);
      read = told.read;
    }

-- one command waits
pub record Waits (ring : List Act) : Type 0 where
  pub act : Act
  pub one : ring ≡ act ∷ []

pub waits : (ring : List Act) → length ring ≡ 1 → Waits ring
waits [] e = absurd (omega arith)
waits (a ∷ []) e = record { act = a; one = refl }
waits (a ∷ b ∷ ring) e = absurd (omega arith)

pub some_waits : (ring : List Act) (a : Act) → ring ≡ a ∷ [] → ring ≡ [] → ⊥
some_waits ring a one none = absurd cc

-- ---- what is written

-- the block that the result names is in the act's own entry
lba-first : (entries : List Cqe) (own : Cqe) → slice_get entries 0 ≡ Some own → lba_of entries ≡ own.dw0 + 2 ^ 32 * own.dw1
lba-first [] own e = absurd (cc e)
lba-first (c ∷ entries) own e = let same : c ≡ own = cc in ap (λ (x : Cqe). x.dw0 + 2 ^ 32 * x.dw1) same

-- the report that was read fills the room
report-read : (g : GeometryFields) (h : List Place) (number zone : ℕ) (out : List ℕ) → IsGeometry g → zone < g.zones → length out ≡ 128 → is_success (status g h (act_of_line g number (the_line.Report zone))) ≡ true
    → take (length (reply_bytes g h (act_of_line g number (the_line.Report zone)))) out ≡ reply_bytes g h (act_of_line g number (the_line.Report zone)) → out ≡ reply_bytes g h (act_of_line g number (the_line.Report zone))
report-read g h number zone out valid lt room ok read =
    let a = act_of_line g number (the_line.Report zone) in
    let reply : reply_bytes g h a ≡ report 128 0 true (drop (zone_of g (first g zone)) (descriptors g h)) = reply-success g h a ok ∙ ap (read_by g h) (command_of-line g number (the_line.Report zone) valid lt) in
    let long : length (reply_bytes g h a) ≡ 128 = ap (λ (bytes : List ℕ). length bytes) reply ∙ length-report 128 0 true (drop (zone_of g (first g zone)) (descriptors g h)) in
    sym (take-length out) ∙ ap (λ (n : ℕ). take n out) (room ∙ sym long) ∙ read

-- what is written for a command that was done
done-answers : (g : GeometryFields) (h : List Place) (number : ℕ) (l : Line) (out : List ℕ) → IsGeometry g → IsLine g l → length out ≡ 128 → is_success (status g h (act_of_line g number l)) ≡ true
    → take (length (reply_bytes g h (act_of_line g number l))) out ≡ reply_bytes g h (act_of_line g number l) → (lba : ℕ) → done_line g l lba out ≡ done_line g l lba (reply_bytes g h (act_of_line g number l))
done-answers g h number (the_line.Report zone) out valid is room ok read lba = ap (done_line g (the_line.Report zone) lba) (report-read g h number zone out valid is room ok read)
done-answers g h number (the_line.Write block blocks byte) out valid is room ok read lba = refl
done-answers g h number (the_line.Append zone blocks byte) out valid is room ok read lba = refl
done-answers g h number (the_line.Put zone offset blocks byte) out valid is room ok read lba = refl
done-answers g h number (the_line.Open zone) out valid is room ok read lba = refl
done-answers g h number (the_line.Flush zone last) out valid is room ok read lba = refl
done-answers g h number (the_line.Reset zone) out valid is room ok read lba = refl

-- the line that is written is the one that the definitions name
pub outcome-answers : (g : GeometryFields) (h : List Place) (number : ℕ) (l : Line) (outcome : Outcome) (out : List ℕ) → IsGeometry g → IsLine g l → length out ≡ 128
    → verdict_of_outcome outcome ≡ verdict_told g h (act_of_line g number l)
    → take (length (reply_bytes g h (act_of_line g number l))) out ≡ reply_bytes g h (act_of_line g number l)
    → outcome_line g l outcome out ≡ answer_line g h number l
outcome-answers g h number l outcome out valid is room same read = by_success_of (is_success (status g h a)) refl outcome same
  where
    a : Act
    a = act_of_line g number l

    own : Cqe
    own = own_entry g h a

    told : Done
    told = record { cid = cid_of a.sqe.bytes; dw0 = (dwords_of g h a).dw0; dw1 = (dwords_of g h a).dw1; len = length (reply_bytes g h a) }

    by_success_of : (ok : Bool) → is_success (status g h a) ≡ ok → (found : Outcome) → verdict_of_outcome found ≡ verdict_told g h a → outcome_line g l found out ≡ answer_line g h number l
    by_success_of true good (Ok done) e =
        let same : done ≡ told = let both : Ok done ≡ Ok told = e ∙ rw good refl in cc in
        let lba : done.dw0 + 2 ^ 32 * done.dw1 ≡ lba_of (posted g h a) = ap (λ (d : Done). d.dw0 + 2 ^ 32 * d.dw1) same ∙ sym (lba-first (posted g h a) own (posted-first g h a (no_event g number l valid is))) in
        rw good (ap (λ n. done_line g l n out) lba ∙ done-answers g h number l out valid is room good read (lba_of (posted g h a)))
    by_success_of true good (Err s) e = absurd (let both : Err (error.Refused s) ≡ Ok told = e ∙ rw good refl in cc)
    by_success_of false bad (Ok done) e = absurd (let both : Ok done ≡ Err (error.Refused (status g h a)) = e ∙ rw bad refl in cc)
    by_success_of false bad (Err s) e =
        let code : s ≡ status g h a = let both : Err (error.Refused s) ≡ Err (error.Refused (status g h a)) = e ∙ rw bad refl in cc in
        rw bad (ap refused_line code)

-- ---- a line, from its command on

-- after a line no command waits, and what is written for it is what the definitions name
pub record IsAnswered (before after : Hosted LoopLink) (g : GeometryFields) (l : Line) (outcome : Outcome) (out : List ℕ) : Type 0 where
  pub idle : IsIdle after
  pub text : outcome_line g l outcome out ≡ answer_line g (answered g (acts_of_host before)) (length (acts_of_host before)) l

next_of-count : (n : ℕ) → next_number (n % 2 ^ 16) ≡ (n + 1) % 2 ^ 16
next_of-count n = omega arith

pub is_answered : (before asked after : Hosted LoopLink) (g : GeometryFields) (l : Line) (outcome : Outcome) (out : List ℕ) → IsGeometry g → IsLine g l → before.geometry ≡ g → IsIdle before → asked ≡ after_put before (command_of_line g l) (data_of g l)
    → ((a : Act) → asked.ring ≡ a ∷ [] → IsSent asked after a outcome out) → length out ≡ 128 → IsAnswered before after g l outcome out
is_answered before asked after g l outcome out valid is same idle put sent room =
    let count : ℕ = length (acts_of_host before) in
    let a : Act = act_of_line g count l in
    let deep : 1 ≤ before.geometry.depth = let R : GeometryFields → Type 0 = λ of. 1 ≤ of.depth in subst R (sym same) (let depth = valid.queues.some_depth in omega arith) in
    let ring : asked.ring ≡ a ∷ [] = ap (λ (h : Hosted LoopLink). h.ring) put ∙ put-ring before (command_of_line g l) (data_of g l) idle.ring deep ∙ ap (λ n. act_for (command_of_line g l) n (data_of g l) ∷ []) idle.next in
    let s = sent a ring in
    let link : asked.link ≡ before.link = ap (λ (h : Hosted LoopLink). h.link) put in
    let acts : acts_of_host asked ≡ acts_of_host before = ap (λ (k : LoopLink). k.drive.acts) link in
    let geometry : asked.geometry ≡ g = ap (λ (h : Hosted LoopLink). h.geometry) put ∙ same in
    let P : GeometryFields → List Act → Type 0 = λ of h. verdict_of_outcome outcome ≡ verdict_told of (answered of h) a in
    let Q : GeometryFields → List Act → Type 0 = λ of h. take (length (reply_bytes of (answered of h) a)) out ≡ reply_bytes of (answered of h) a in
    record {
      idle = record {
        ring = s.ring;
        next = s.next ∙ ap (λ (h : Hosted LoopLink). h.next) put ∙ put-next before (command_of_line g l) (data_of g l) idle.ring deep ∙ ap next_number idle.next ∙ next_of-count count
            ∙ ap (λ n. n % 2 ^ 16) (sym (ap (λ (h : List Act). length h) (s.acts ∙ ap (λ (h : List Act). h ++ a ∷ []) acts) ∙ length-append (acts_of_host before) (a ∷ [])));
      };
      text = outcome-answers g (answered g (acts_of_host before)) count l outcome out valid is room
          (subst (λ (h : List Act). P g h) acts (subst (λ (of : GeometryFields). P of (acts_of_host asked)) geometry s.same))
          (subst (λ (h : List Act). Q g h) acts (subst (λ (of : GeometryFields). Q of (acts_of_host asked)) geometry s.read));
    }
