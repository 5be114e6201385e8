-- A report is its head followed by the descriptors.
use Rattle.std.proofs.Common.{◌≡◌, ℕ, ◌+◌, ◌*◌, ◌-◌, ◌/◌, ◌≤◌, Bool, cond, Option, List, [], ◌∷◌, ◌++◌, length, take, drop, map, min, refl, sym, ap, ◌∙◌, arith, inl, inr}
use Rattle.std.specs.Prelude.{filter, replicate}
use Rattle.byteorder.specs.Endian.{little_bytes}
use borrow.Rule.Slice.PartMut.{put_mid}
use Rattle.std.proofs.lemmas.Bool.{cases_lt}
use Rattle.std.proofs.lemmas.List.{append_assoc, append-nil, length-append, length-take-le, length-drop, length-replicate, replicate-append-replicate, take-append-le, take_at, drop_at, drop_all}
use Rattle.std.proofs.lemmas.List.Elements.{filter_agree}
use Rattle.zns_types.specs.declared.fields.GeometryFields.{GeometryFields}
use Rattle.zns_types.specs.declared.state.State.{State}
use Rattle.zone_descriptor.specs.declared.descriptor.Descriptor.{Descriptor}
use Rattle.zone_cell.specs.Cells.{Cell, descriptor_of}
use Rattle.drive_rules.specs.Reports.{passes, bytes_of_all, first_bytes, fitting, report}
use Rattle.mgmt_receive.specs.declared.descriptors.Gave.{Gave}
use Rattle.mgmt_receive.specs.Receiving.{is_wanted, Wants, count_wanted, matching, Begun}
use Rattle.mgmt_receive.proofs.Given.{length-bytes, given_in, given_fit, matching_count}

abbrev pub head_of : ℕ → List ℕ
head_of number = little_bytes 8 number ++ replicate 56 0

-- a report that is cut inside its head
short : (len number : ℕ) (ds : List Descriptor) (back : List ℕ) → len ≤ 64 → length ds ≡ 0 → back ≡ bytes_of_all ds ++ replicate 0 0
    → take len (head_of number) ++ back ≡ first_bytes len (head_of number ++ bytes_of_all ds)
short len number [] back low none is = rw is (append-nil _ ∙ sym (ap (λ (xs : List ℕ). take len (xs ++ replicate len 0)) (append-nil (head_of number)) ∙ take-append-le len (head_of number) (replicate len 0) low))
short len number (d ∷ ds) back low none is = absurd (omega (arith, none))

-- after a text come as many zeros as there is room for
padded : (len : ℕ) (xs : List ℕ) → length xs ≤ len → first_bytes len xs ≡ xs ++ replicate (len - length xs) 0
padded len xs fits =
    let n = len - length xs in
    ap (take len) (ap (λ (zs : List ℕ). xs ++ zs) (sym (replicate-append-replicate n (length xs) 0 ∙ ap (λ (k : ℕ). replicate k 0) (omega arith))) ∙ sym (append_assoc xs (replicate n 0) (replicate (length xs) 0)))
    ∙ take_at (xs ++ replicate n 0) (replicate (length xs) 0) len (omega (arith, length-append xs (replicate n 0), length-replicate {A = ℕ} n 0))

long : (len number given : ℕ) (ds : List Descriptor) (back : List ℕ) → 64 ≤ len → given ≡ length ds → given ≤ (len - 64) / 64 → back ≡ bytes_of_all ds ++ replicate (len - 64 - 64 * given) 0
    → head_of number ++ back ≡ first_bytes len (head_of number ++ bytes_of_all ds)
long len number given ds back high n fits is =
    let text = head_of number ++ bytes_of_all ds in
    let size : length text ≡ 64 + 64 * given = length-append (head_of number) (bytes_of_all ds) ∙ omega (arith, length-bytes ds) in
    rw is (sym (append_assoc (head_of number) (bytes_of_all ds) _) ∙ sym (padded len text (omega (arith, size)) ∙ ap (λ (k : ℕ). text ++ replicate k 0) (omega (arith, size))))

-- after the head comes what was written there
put_after : (len h : ℕ) (out back : List ℕ) → length out ≡ len → h ≤ len → drop h (put_mid h (len - h) out back) ≡ back
put_after len h out back size low =
    drop_at (take h out) (back ++ drop (len - h) (drop h out)) h (length-take-le h out (omega (arith, size)))
    ∙ ap (λ (xs : List ℕ). back ++ xs) (drop_all (len - h) (drop h out) (omega (arith, size, length-drop h out)))
    ∙ append-nil back

-- the head and the descriptors
joined : (len h number given : ℕ) (ds : List Descriptor) (back : List ℕ) → h ≡ min len 64 → given ≡ length ds → given ≤ (len - 64) / 64 → back ≡ bytes_of_all ds ++ replicate (len - 64 - 64 * given) 0
    → take h (head_of number) ++ back ≡ first_bytes len (head_of number ++ bytes_of_all ds)
joined len h number given ds back h-is n fits is = elim (cases_lt len 64) [
  | inl low ↦
      let none : len - 64 ≡ 0 = omega arith in
      let no_rows : (len - 64) / 64 ≡ 0 = rw none refl in
      let empty : length ds ≡ 0 = omega (arith, no_rows, n, fits) in
      let at : h ≡ len = omega (arith, h-is) in
      let no_rest : len - 64 - 64 * given ≡ 0 = omega arith in
      let none_left : back ≡ bytes_of_all ds ++ replicate 0 0 = is ∙ ap (λ (k : ℕ). bytes_of_all ds ++ replicate k 0) no_rest in
      rw at (short len number ds back (omega arith) empty none_left)
  | inr high ↦
      let at : h ≡ 64 = omega (arith, h-is) in
      rw at (long len number given ds back high n fits is)
]

-- a report lists the zones that a filter matches
report_is : (len kind : ℕ) (wanted : Option State) (partial : Bool) (ds : List Descriptor) → Wants kind wanted
    → report len kind partial ds ≡ first_bytes len (head_of (cond partial (length (fitting len (filter (λ d. is_wanted wanted d.state) ds))) (length (filter (λ d. is_wanted wanted d.state) ds))) ++ bytes_of_all (fitting len (filter (λ d. is_wanted wanted d.state) ds)))
report_is len kind wanted partial ds wants =
    ap (λ (xs : List Descriptor). first_bytes len (head_of (cond partial (length (fitting len xs)) (length xs)) ++ bytes_of_all (fitting len xs)))
    (filter_agree (λ (d : Descriptor). passes kind d.state) (λ (d : Descriptor). is_wanted wanted d.state) (λ d. wants d.state) ds)

number_of : (partial : Bool) (number given count few all : ℕ) → number ≡ cond partial given count → given ≡ few → count ≡ all → number ≡ cond partial few all
number_of partial number given count few all e e1 e2 = e ∙ rw (e1, e2) refl

pub built : (g : GeometryFields) (kind : ℕ) (wanted : Option State) (partial : Bool) (cells : List Cell) (len h number : ℕ) (gave : Gave) (out front back : List ℕ) → Wants kind wanted → length out ≡ len
    → h ≡ min len 64 → front ≡ take h (head_of number) → Begun g wanted cells (len - h) gave back → number ≡ cond partial gave.given (count_wanted wanted cells)
    → front ++ drop h (put_mid h (len - h) out back) ≡ report len kind partial (map (descriptor_of g) cells)
built g kind wanted partial cells len h number gave out front back wants size h-is front-is was number-is =
    let same : len - h ≡ len - 64 = omega (arith, h-is) in
    let now : Begun g wanted cells (len - 64) gave back = rw same at was in
    let fit = given_fit g wanted cells (len - 64) gave back now in
    let n = number_of partial number gave.given _ _ _ number-is (now.seen_cells.count ∙ ap length fit) (sym (matching_count g wanted cells)) in
    rw (put_after len h out back size (omega (arith, h-is)), front-is)
    (joined len h number gave.given (matching g wanted (take gave.seen cells)) back h-is now.seen_cells.count now.seen_cells.room now.seen_cells.bytes
    ∙ ap (λ (ds : List Descriptor). first_bytes len (head_of number ++ bytes_of_all ds)) fit
    ∙ ap (λ (k : ℕ). first_bytes len (head_of k ++ bytes_of_all (given_in g wanted cells (len - 64)))) n
    ∙ sym (report_is len kind wanted partial (map (descriptor_of g) cells) wants))

-- what comes before a place keeps its length
pub kept_len : (h k : ℕ) (out back : List ℕ) → h ≤ length out → length (take h (put_mid h k out back)) ≡ h
kept_len h k out back low =
    let front = length-take-le h out low in
    length-take-le h (put_mid h k out back) (omega (arith, front, length-append (take h out) (back ++ drop k (drop h out))))
