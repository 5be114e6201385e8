-- A host after its oldest command was sent.
use Rattle.std.proofs.Common.{◌≡◌, ℕ, false, List, [], ◌∷◌, ◌++◌, length, take, drop, Option, Some, Result, Ok, Err, refl, sym, ap, ◌∙◌, subst, inl, inr}
use Rattle.std.specs.Prelude.{All, slice_get}
use Rattle.std.proofs.lemmas.Bool.{cases_Bool}
use Rattle.std.proofs.lemmas.List.{take_at}
use Rattle.circular_buffer.specs.Buffer.{Buffer, buffer}
use Rattle.zns_types.specs.declared.fields.GeometryFields.{GeometryFields}
use Rattle.zns_types.specs.Geometry.{IsGeometry}
use Rattle.zns_types.specs.Statuses.{is_success}
use Rattle.sqe_codec.specs.declared.cmd.Cmd.{Cmd}
use Rattle.sqe_codec.specs.Commands.{command, cid_of}
use Rattle.cqe_codec.specs.Entries.{sets_unused}
use Rattle.zone_model.specs.declared.act.Act.{Act}
use Rattle.zone_model.specs.Places.{command_of}
use Rattle.zone_model.specs.Answers.{answered}
use Rattle.zone_model.specs.Replies.{reply_bytes}
use Rattle.host_library.specs.declared.done.Done.{Done}
use Rattle.host_library.specs.declared.shadow.Shadow.{Shadow}
use Rattle.host_library.specs.declared.host_err.HostErr.{HostErr}
use Rattle.host_library.specs.declared.host_err.HostErr.TheVariants as error
use Rattle.host_library.specs.Links.{Answer, IsAnswered, Gains, MayGain}
use Rattle.host_library.specs.Asking.{IsAsked}
use Rattle.host_library.specs.Hosts.{Hosted, HasShadows, AreTrue, HostStands}
use Rattle.host_library.specs.Pumping.{status_in, verdict_of, verdict_by, shadows_after, ring_after, pumped, Sends, IsTold}
use Rattle.host_library.proofs.Asked.{asked-event}
use Rattle.host_library.proofs.Rings.{stands-taken, stands-used, oldest, oldest-asked}
use Rattle.host_library.proofs.ToldAnswers.{verdict-told}
use Rattle.host_library.proofs.Standing.{answered-true, failed-true}

-- the command of an act of a host is one of an I/O queue
io_command : (g : GeometryFields) (a : Act) → IsAsked g a → command false a.sqe.bytes ≡ command_of a
io_command g a asked = let q = asked.queue in rw q refl

-- no entry says that the link failed
answered_ring : (a : Act) (rest : List Act) (cid : ℕ) (bytes : List ℕ) (len : ℕ) → ring_after a rest (verdict_of cid bytes len) ≡ rest
answered_ring a rest cid bytes len = elim (cases_Bool (sets_unused bytes)) [
  | inl torn ↦ rw torn refl
  | inr whole ↦ elim (cases_Bool (is_success (status_in bytes))) [
    | inl ok ↦ rw (whole, ok) refl
    | inr refused ↦ rw (whole, refused) refl
  ]
]

-- the shadows that come back of a list that was lent whole
made_back : (g : GeometryFields) (a : Act) (verdict : Result Done HostErr) (n : ℕ) (shadows lent new : List Shadow) (out : List ℕ)
    → IsAsked g a → lent ≡ shadows → length new ≡ n → new ≡ shadows_after g (command false a.sqe.bytes) verdict out lent
    → take n (new ++ drop (length new) shadows) ≡ shadows_after g (command_of a) verdict out shadows
made_back g a verdict n shadows lent new out asked whole long made =
    take_at new (drop (length new) shadows) n long
    ∙ made
    ∙ ap (λ (k : Cmd). shadows_after g k verdict out lent) (io_command g a asked)
    ∙ ap (λ (xs : List Shadow). shadows_after g (command_of a) verdict out xs) whole

-- ---- what is true of every host

-- A host after its oldest command was sent, if the shadows are then the drive's.
pumped-stands : (linked now : GeometryFields) (told after : Option (List Act)) (g : GeometryFields) (ring back : List Act) (room : ℕ) (a : Act) (verdict : Result Done HostErr) (n : ℕ) (shadows lent new : List Shadow) (out : List ℕ)
    → HostStands linked told g ring room shadows → HostStands linked told g back room shadows → Some a ≡ slice_get ring 0 → now ≡ linked → lent ≡ shadows → length new ≡ n
    → new ≡ shadows_after g (command false a.sqe.bytes) verdict out lent → HasShadows g new → AreTrue g after (shadows_after g (command_of a) verdict out shadows)
    → HostStands now after g back room (take n (new ++ drop (length new) shadows))
pumped-stands linked now told after g ring back room a verdict n shadows lent new out s left first same whole long made has true_then =
    let exact = made_back g a verdict n shadows lent new out (oldest-asked g ring a first s.asked) whole long made in
    let kept = take_at new (drop (length new) shadows) n long in
    stands-used linked now told after g back room shadows (take n (new ++ drop (length new) shadows)) left same (subst (HasShadows g) (sym kept) has) (subst (AreTrue g after) (sym exact) true_then)

-- A host whose oldest command was answered.
pub answered-stands : (linked now : GeometryFields) (told after : Option (List Act)) (g : GeometryFields) (ring : List Act) (room : ℕ) (popped : Buffer Act) (a : Act) (n : ℕ) (shadows lent new : List Shadow) (bytes : List ℕ) (len : ℕ) (out : List ℕ)
    → HostStands linked told g ring room shadows → IsGeometry g → Some a ≡ slice_get ring 0 → popped ≡ buffer (drop 1 ring) room → now ≡ linked → Gains told after a
    → ((acts : List Act) → told ≡ Some acts → IsAnswered linked acts a bytes len out) → lent ≡ shadows → length new ≡ n
    → new ≡ shadows_after g (command false a.sqe.bytes) (verdict_of (cid_of a.sqe.bytes) bytes len) out lent → HasShadows g new
    → HostStands now after g popped.items popped.capacity (take n (new ++ drop (length new) shadows))
answered-stands linked now told after g ring room popped a n shadows lent new bytes len out s is first pops same gains answers whole long made has =
    let follows : (acts : List Act) → told ≡ Some acts → IsAnswered g acts a bytes len out = λ acts e. subst (λ (h : GeometryFields). IsAnswered h acts a bytes len out) s.geometry (answers acts e) in
    let true_then = answered-true g told after a bytes len out shadows is (oldest-asked g ring a first s.asked) s.whole.len s.known gains follows in
    rw pops (pumped-stands linked now told after g ring (drop 1 ring) room a _ n shadows lent new out s (stands-taken linked told g ring room shadows s) first same whole long made has true_then)

-- A host whose link failed.
pub failed-stands : (linked now : GeometryFields) (told after : Option (List Act)) (g : GeometryFields) (ring back : List Act) (room places : ℕ) (a : Act) (n : ℕ) (shadows lent new : List Shadow)
    → HostStands linked told g ring room shadows → IsGeometry g → Some a ≡ slice_get ring 0 → back ≡ a ∷ drop 1 ring → places ≡ room → now ≡ linked → MayGain told after a → lent ≡ shadows → length new ≡ n
    → new ≡ shadows_after g (command false a.sqe.bytes) (Err error.LinkFault) [] lent → HasShadows g new → HostStands now after g back places (take n (new ++ drop (length new) shadows))
failed-stands linked now told after g ring back room places a n shadows lent new s is first backs fits same gains whole long made has =
    let again : back ≡ ring = backs ∙ sym (oldest ring a first) in
    let true_then = failed-true g told after a shadows is (oldest-asked g ring a first s.asked) s.whole.len s.known gains in
    rw (again, fits) (pumped-stands linked now told after g ring ring room a (Err error.LinkFault) n shadows lent new [] s s first same whole long made has true_then)

-- ---- what the call did

module _ {L : Type 0} where
  same_host : (l : L) (g : GeometryFields) (n : ℕ) (r r' : List Act) (s s' : List Shadow) → r ≡ r' → s ≡ s'
      → ◌≡◌ {A = Hosted L} (record { link = l; geometry = g; ring = r; next = n; shadows = s }) (record { link = l; geometry = g; ring = r'; next = n; shadows = s' })
  same_host l g n r r' s s' e f = rw (e, f) refl

  -- `seen` is what the call read to make the shadows, and `out` what it left.
  pumped-sends : (step : Act → Answer → L → Type 0) (before inside : Hosted L) (now : L) (ring : List Act) (a : Act) (n : ℕ) (lent new : List Shadow) (answer : Answer) (seen out : List ℕ)
      → inside ≡ before → IsAsked inside.geometry a → Some a ≡ slice_get inside.ring 0 → ring ≡ ring_after a (drop 1 inside.ring) (verdict_by a answer) → step a answer now → lent ≡ inside.shadows → length new ≡ n
      → new ≡ shadows_after inside.geometry (command false a.sqe.bytes) (verdict_by a answer) seen lent
      → shadows_after inside.geometry (command_of a) (verdict_by a answer) seen inside.shadows ≡ shadows_after inside.geometry (command_of a) (verdict_by a answer) out inside.shadows
      → Sends step before (record { link = now; geometry = inside.geometry; ring = ring; next = inside.next; shadows = take n (new ++ drop (length new) inside.shadows) }) (pumped (verdict_by a answer)) out
  pumped-sends step before inside now ring a n lent new answer seen out same asked first rings stepped whole long made left =
      let shadows = made_back inside.geometry a (verdict_by a answer) n inside.shadows lent new seen asked whole long made ∙ left in
      let after : Hosted L = record { link = now; geometry = inside.geometry; ring = ring; next = inside.next; shadows = take n (new ++ drop (length new) inside.shadows) } in
      let sends : Sends step inside after (pumped (verdict_by a answer)) out = record {
        act = a;
        rest = drop 1 inside.ring;
        oldest = oldest inside.ring a first;
        answer = answer;
        sent = stepped;
        result = refl;
        host = same_host now inside.geometry inside.next ring _ _ _ rings shadows;
      } in
      subst (λ (h : Hosted L). Sends step h after (pumped (verdict_by a answer)) out) same sends

  pub answered-sends : (step : Act → Answer → L → Type 0) (before inside : Hosted L) (now : L) (popped : List Act) (a : Act) (n : ℕ) (lent new : List Shadow) (answer : List ℕ × ℕ) (given : Result (Option Done) HostErr) (out : List ℕ)
      → inside ≡ before → IsAsked inside.geometry a → Some a ≡ slice_get inside.ring 0 → popped ≡ drop 1 inside.ring → step a (Ok answer) now → given ≡ pumped (verdict_of (cid_of a.sqe.bytes) answer.0 answer.1)
      → lent ≡ inside.shadows → length new ≡ n → new ≡ shadows_after inside.geometry (command false a.sqe.bytes) (verdict_of (cid_of a.sqe.bytes) answer.0 answer.1) out lent
      → Sends step before (record { link = now; geometry = inside.geometry; ring = popped; next = inside.next; shadows = take n (new ++ drop (length new) inside.shadows) }) given out
  answered-sends step before inside now popped a n lent new answer given out same asked first pops stepped gives whole long made =
      rw gives (pumped-sends step before inside now popped a n lent new (Ok answer) out out same asked first (pops ∙ sym (answered_ring a (drop 1 inside.ring) (cid_of a.sqe.bytes) answer.0 answer.1)) stepped whole long made refl)

  pub failed-sends : (step : Act → Answer → L → Type 0) (before inside : Hosted L) (now : L) (back : List Act) (a : Act) (n : ℕ) (lent new : List Shadow) (payload out : List ℕ)
      → inside ≡ before → IsAsked inside.geometry a → Some a ≡ slice_get inside.ring 0 → back ≡ a ∷ drop 1 inside.ring → step a (Err payload) now → lent ≡ inside.shadows → length new ≡ n
      → new ≡ shadows_after inside.geometry (command false a.sqe.bytes) (Err error.LinkFault) [] lent
      → Sends step before (record { link = now; geometry = inside.geometry; ring = back; next = inside.next; shadows = take n (new ++ drop (length new) inside.shadows) }) (Err error.LinkFault) out
  failed-sends step before inside now back a n lent new payload out same asked first backs stepped whole long made =
      pumped-sends step before inside now back a n lent new (Err payload) [] out same asked first backs stepped whole long made refl

-- ---- from a told history

pub answered-told : (linked g : GeometryFields) (told after : Option (List Act)) (acts ring : List Act) (a act : Act) (rest : List Act) (answer : List ℕ × ℕ) (given : Result (Option Done) HostErr) (out : List ℕ)
    → linked ≡ g → All (IsAsked g) ring → Some a ≡ slice_get ring 0 → told ≡ Some acts → ring ≡ act ∷ rest → Gains told after a → ((h : List Act) → told ≡ Some h → IsAnswered linked h a answer.0 answer.1 out)
    → given ≡ pumped (verdict_of (cid_of a.sqe.bytes) answer.0 answer.1) → IsTold g acts act after given out
answered-told linked g told after acts ring a act rest answer given out same all first e begins gains answers gives =
    let asked : IsAsked g a = oldest-asked g ring a first all in
    let is : a ≡ act = let front : Some a ≡ Some act = first ∙ ap (λ (xs : List Act). slice_get xs 0) begins in cc in
    let found : IsAnswered g acts a answer.0 answer.1 out = subst (λ (h : GeometryFields). IsAnswered h acts a answer.0 answer.1 out) same (answers acts e) in
    let verdict = verdict-told g (answered g acts) a answer.0 answer.1 (asked-event g (command_of a) asked.kind) found.entry found.len in
    let of_a : IsTold g acts a after given out = record {
      result = gives ∙ ap pumped verdict;
      history = gains.told acts e;
      read = subst (λ (n : ℕ). take n out ≡ reply_bytes g (answered g acts) a) found.len found.read;
    } in
    subst (λ (x : Act). IsTold g acts x after given out) is of_a
