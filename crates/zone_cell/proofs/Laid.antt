-- Bytes that are laid down over others and after them.
use Rattle.std.proofs.Common.{◌≡◌, ℕ, ◌+◌, ◌-◌, ◌≤◌, List, [], ◌++◌, length, take, drop, sym, ap, ◌∙◌, inl, inr, arith, length-drop}
use Rattle.std.specs.Prelude.{replicate, min}
use borrow.Rule.Slice.PartMut.{put_mid}
use Rattle.std.proofs.lemmas.List.{append-nil, append_assoc, length-append, length-replicate, replicate-append-replicate, take-append-drop, take-append-le, take_at, take_rest, length-take, drop_all, drop-drop}
use Rattle.std.proofs.lemmas.Bool.{cases_lt}
use Rattle.zns_io.specs.Padding.{padded}
use Rattle.zone_cell.specs.Kept.{laid}

pub length-padded : (n : ℕ) (xs : List ℕ) → length (padded n xs) ≡ length xs + (n - length xs)
length-padded n xs = length-append xs (replicate (n - length xs) 0) ∙ ap (λ (k : ℕ). length xs + k) (length-replicate (n - length xs) 0)

-- bytes that were laid down replace those that were there
pub laid-put : (place : ℕ) (payload bytes : List ℕ) → laid place payload bytes ≡ put_mid place (length payload) (padded (place + length payload) bytes) payload
laid-put place payload bytes =
    let all = padded (place + length payload) bytes in
    append_assoc (take place all) payload (drop (place + length payload) all)
    ∙ ap (λ (rest : List ℕ). take place all ++ (payload ++ rest)) (sym (drop-drop (length payload) place all))

-- nothing comes after bytes that are long enough
pub padded_long : (n : ℕ) (xs : List ℕ) → n ≤ length xs → padded n xs ≡ xs
padded_long n xs long =
    let none : n - length xs ≡ 0 = omega arith in
    rw none (append-nil xs)

-- some zeros followed by more
zeros_more : (xs : List ℕ) (a b n : ℕ) → a + b ≡ n → xs ++ replicate n 0 ≡ (xs ++ replicate a 0) ++ replicate b 0
zeros_more xs a b n sum = rw (← sum, ← replicate-append-replicate {A = ℕ} a b 0) (sym (append_assoc xs (replicate a 0) (replicate b 0)))

padded_more : (m n : ℕ) (xs : List ℕ) → m ≤ n → padded n xs ≡ padded m xs ++ replicate (n - length xs - (m - length xs)) 0
padded_more m n xs le = zeros_more xs (m - length xs) (n - length xs - (m - length xs)) (n - length xs) (omega arith)

-- what lies after the data
after_data : (place k : ℕ) (bytes : List ℕ) → drop (place + k) (padded (place + k) bytes) ≡ drop (place + k) (padded place bytes)
after_data place k bytes =
    elim (cases_lt (length bytes) (place + k)) [
      | inl lt ↦
          drop_all (place + k) (padded (place + k) bytes) (omega (arith, length-padded (place + k) bytes))
          ∙ sym (drop_all (place + k) (padded place bytes) (omega (arith, length-padded place bytes)))
      | inr ge ↦ ap (drop (place + k)) (padded_long (place + k) bytes ge ∙ sym (padded_long place bytes (omega arith)))
    ]

-- either no data is left to come after the bytes, or none of the bytes are left
turned : (place over : ℕ) (payload xs : List ℕ) → place ≤ length xs → over ≡ min (length payload) (length xs - place)
    → drop over (drop place xs) ++ drop over payload ≡ drop over payload ++ drop (place + length payload) xs
turned place over payload xs within over-is =
    elim (cases_lt over (length payload)) [
      | inl lt ↦
          let rest : drop over (drop place xs) ≡ [] = drop_all over (drop place xs) (omega (arith, length-drop place xs)) in
          let none : drop (place + length payload) xs ≡ [] = drop_all (place + length payload) xs (omega arith) in
          rw (rest, none) (sym (append-nil (drop over payload)))
      | inr ge ↦
          let none : drop over payload ≡ [] = drop_all over payload ge in
          let all : over ≡ length payload = omega arith in
          rw none (append-nil (drop over (drop place xs)) ∙ drop-drop over place xs ∙ ap (λ (n : ℕ). drop (place + n) xs) all)
    ]

joined : (front first rest last back : List ℕ) → rest ++ last ≡ last ++ back → (front ++ (first ++ rest)) ++ last ≡ (front ++ (first ++ last)) ++ back
joined front first rest last back same =
    append_assoc front (first ++ rest) last
    ∙ ap (λ (z : List ℕ). front ++ z) (append_assoc first rest last ∙ ap (λ (z : List ℕ). first ++ z) same ∙ sym (append_assoc first last back))
    ∙ sym (append_assoc front (first ++ last) back)

-- data that overwrites the bytes up to their end, and then extends them
laid_over : (place over : ℕ) (bytes payload xs : List ℕ) → xs ≡ padded place bytes → over ≡ min (length payload) (length xs - place)
    → put_mid place over xs (take over payload) ++ drop over payload ≡ laid place payload bytes
laid_over place over bytes payload xs xs-is over-is =
    let k = length payload in
    let all = padded (place + k) bytes in
    let size : length xs ≡ length bytes + (place - length bytes) = rw xs-is (length-padded place bytes) in
    let within : place ≤ length xs = omega arith in
    let zeros : List ℕ = replicate (place + k - length bytes - (place - length bytes)) 0 in
    let front : take place all ≡ take place xs = ap (take place) (padded_more place (place + k) bytes (omega arith)) ∙ rw (← xs-is) (take-append-le place xs zeros within) in
    let back : drop (place + k) all ≡ drop (place + k) xs = rw xs-is (after_data place k bytes) in
    let parts = joined (take place xs) (take over payload) (drop over (drop place xs)) (drop over payload) (drop (place + k) xs) (turned place over payload xs within over-is) in
    parts
    ∙ ap (λ (z : List ℕ). take place xs ++ z ++ drop (place + k) xs) (take-append-drop over payload)
    ∙ sym (ap (λ (f : List ℕ). f ++ payload ++ drop (place + k) all) front ∙ ap (λ (b : List ℕ). take place xs ++ payload ++ b) back)

length-put_mid : (at k : ℕ) (xs ys : List ℕ) → length ys ≡ k → at + k ≤ length xs → length (put_mid at k xs ys) ≡ length xs
length-put_mid at k xs ys size within = simp (length-append, length-take, length-drop) (omega arith)

-- the same in the form that the code has: a write within a Vec of `n` bytes, and then the rest of the data
pub laid_by : (place over n e : ℕ) (bytes payload xs old mid : List ℕ) → xs ≡ padded place bytes → over ≡ min (length payload) (length xs - place) → n ≡ length xs → e ≡ over → old ≡ xs → mid ≡ take over payload
    → take n (put_mid place e old mid ++ drop (length (put_mid place e old mid)) xs) ++ take (length payload - over) (drop over payload) ≡ laid place payload bytes
laid_by place over n e bytes payload xs old mid xs-is over-is n-is e-is old-is mid-is =
    let put = put_mid place over xs (take over payload) in
    let room : length xs ≡ length bytes + (place - length bytes) = rw xs-is (length-padded place bytes) in
    let size : length put ≡ n = length-put_mid place over xs (take over payload) (omega (arith, length-take over payload)) (omega arith) ∙ sym n-is in
    rw (e-is, old-is, mid-is)
    (ap (λ (z : List ℕ). z ++ take (length payload - over) (drop over payload)) (take_at put (drop (length put) xs) n size)
    ∙ ap (λ (z : List ℕ). put ++ z) (take_rest payload over)
    ∙ laid_over place over bytes payload xs xs-is over-is)
