-- What is read from a source, piece by piece.
use Rattle.std.proofs.Common.{◌≡◌, ℕ, ◌+◌, ◌*◌, ◌^◌, ◌<◌, ◌≤◌, List, [], ◌∷◌, ◌++◌, length, drop, Option, Some, None, refl, sym, ap, subst, ◌∙◌, arith}
use Rattle.std.proofs.lemmas.List.{append_assoc, append-nil, flat_map_more, length-append}
use Rattle.std.specs.Prelude.{All, slice_index, Result, Ok, Err, IfOk, OnErr}
use Rattle.std.specs.List.{flat_map}
use Rattle.std.specs.Io.KnownBytes.{Consumes, IsAtEnd}
use Rattle.zns_types.specs.declared.fields.GeometryFields.{GeometryFields}
use Rattle.zns_types.specs.Rows.{first_holding}
use Rattle.sqe_codec.specs.Commands.{reply_len}
use Rattle.zns_io.specs.Reading.{ReadsAll, ReadsFrontUpTo}
use Rattle.zns_io.proofs.ReadLemmas.{Consumes-then, ReadsFront-consumed}
use Rattle.zone_model.specs.declared.act.Act.{Act}
use Rattle.zone_model.specs.Places.{command_of}
use Rattle.zone_model.specs.Sessions.{Recorded, IsSession, IsAct, sum_of, header_bytes, record_bytes, sent_bytes, spelling}
use Rattle.session_file.specs.declared.records.Progress.{Progress}
use Rattle.session_file.specs.declared.feed_err.FeedErr.{FeedErr}
use Rattle.session_file.specs.declared.given.Begun.{Begun}
use Rattle.session_file.specs.declared.given.First.{First}
use Rattle.session_file.specs.declared.given.First.TheVariants.{Session, Other}
use Rattle.session_file.specs.Places.{geometry_in, count_in, length_at, act_at, next_at}
use Rattle.session_file.specs.FileRules.{record_rows, header_rows}
use Rattle.session_file.specs.Streams.{GoesOn, StopsWithin, IsNext, BeginsWith, Begins, BeginsAfter}
use Rattle.session_file.proofs.Fronts.{header_front}
use Rattle.session_file.proofs.RecordPlaces.{record_bytes-act_at}
use Rattle.session_file.proofs.RecordRows.{Passes, passes-record}
use Rattle.session_file.proofs.RecordLists.{is_act, payload_len}
use Rattle.session_file.proofs.Sizes.{header_size, records_size}

-- nothing was read, and the held bytes stay the same
pub goes_on-same : (left : Option (List ℕ)) (held after : List ℕ) → held ≡ after → GoesOn left left held after
goes_on-same left held after same = λ first front came. subst (λ (b : List ℕ). Consumes first left (front ++ b)) same came

-- other bytes came before the held ones
pub goes_on-behind : (left now : Option (List ℕ)) (before held after : List ℕ) → GoesOn left now held after → GoesOn left now (before ++ held) (before ++ after)
goes_on-behind left now before held after more = λ first front came.
    subst (Consumes first now) (append_assoc front before after) (more first (front ++ before) (subst (Consumes first left) (sym (append_assoc front before held)) came))

-- the source gave some bytes, which follow the held ones
pub goes_on-more : (left now : Option (List ℕ)) (held more after : List ℕ) → Consumes left now more → after ≡ held ++ more → GoesOn left now held after
goes_on-more left now held more after read is = λ first front came.
    subst (Consumes first now) (append_assoc front held more ∙ ap (λ (b : List ℕ). front ++ b) (sym is)) (Consumes-then first left now (front ++ held) more came read)

-- two steps of reading, one after another
pub goes_on-then : (left mid now : Option (List ℕ)) (held between after : List ℕ) → GoesOn left mid held between → GoesOn mid now between after → GoesOn left now held after
goes_on-then left mid now held between after one two = λ first front came. two first front (one first front came)

-- at first nothing was read from a source
nothing_read : (left : Option (List ℕ)) → Consumes left left []
nothing_read None = tt
nothing_read (Some bytes) = refl

-- the source ended after these bytes
pub read_all_of : (left now : Option (List ℕ)) (bytes : List ℕ) → Consumes left now bytes → IsAtEnd now → ReadsAll left now bytes
read_all_of None now bytes read end = tt
read_all_of (Some told) None bytes read end = absurd read
read_all_of (Some told) (Some rest) bytes read end = (sym (read ∙ ap (λ (b : List ℕ). bytes ++ b) end ∙ append-nil bytes), ap Some end)

-- the first bytes that came
pub came_first : (left now : Option (List ℕ)) (held after : List ℕ) → held ≡ [] → GoesOn left now held after → Consumes left now after
came_first left now held after none more = more left [] (subst (Consumes left left) (sym none) (nothing_read left))

-- ---- records

-- a record that breaks no rule, and what comes after it
pub taken_record : (g : GeometryFields) (bytes : List ℕ) (sent asked : ℕ) → ((i : ℕ) → slice_index bytes i < 256) → first_holding (record_rows g bytes 0 sent asked) ≡ None → bytes ≡ record_bytes (act_at 0 bytes) ++ drop (next_at 0 bytes) bytes
taken_record g bytes sent asked fits passed =
    let p : Passes g bytes 0 sent asked = passes-record g bytes 0 sent asked passed in
    sym (record_bytes-act_at 0 bytes p.within p.zeros fits)

pub next_record : (g : GeometryFields) (bytes : List ℕ) (before after : Progress) (a : Act) → first_holding (record_rows g bytes 0 before.sent before.asked) ≡ None → a ≡ act_at 0 bytes
    → after.sent ≡ before.sent + length_at 0 bytes → after.asked ≡ before.asked + reply_len g (command_of (act_at 0 bytes)) → after.sent ≤ 2 ^ 27 → after.asked ≤ 2 ^ 27
    → IsNext g before (record { act = a; after = after })
next_record g bytes before after a passed is sent asked few_sent few_asked =
    let p : Passes g bytes 0 before.sent before.asked = passes-record g bytes 0 before.sent before.asked passed in
    record {
      act = rw is (is_act g bytes 0 before.sent before.asked p);
      sent = sent ∙ sym (ap (λ (n : ℕ). before.sent + n) (ap (λ (x : Act). length x.payload) is ∙ payload_len g bytes 0 before.sent before.asked p));
      asked = asked ∙ sym (ap (λ (x : Act). before.asked + reply_len g (command_of x)) is);
      few_sent = few_sent;
      few_asked = few_asked;
    }

-- a sum over one more act
pub sum_of-push : (f : Act → ℕ) (acts : List Act) (a : Act) → sum_of f (acts ++ a ∷ []) ≡ sum_of f acts + f a
sum_of-push f [] a = omega arith
sum_of-push f (b ∷ acts) a = omega (arith, sum_of-push f acts a)

-- one more record
pub one_record_more : (left mid now : Option (List ℕ)) (first held after : List ℕ) (acts : List Act) (a : Act) → GoesOn left mid first (flat_map record_bytes acts ++ held) → GoesOn mid now held (record_bytes a ++ after) → GoesOn left now first (flat_map record_bytes (acts ++ a ∷ []) ++ after)
one_record_more left mid now first held after acts a so_far more =
    let all : flat_map record_bytes acts ++ (record_bytes a ++ after) ≡ flat_map record_bytes (acts ++ a ∷ []) ++ after =
    sym (append_assoc (flat_map record_bytes acts) (record_bytes a) after) ∙ ap (λ (b : List ℕ). b ++ after) (flat_map_more record_bytes [] acts a) in
    goes_on-then left now now first (flat_map record_bytes acts ++ (record_bytes a ++ after)) _
    (goes_on-then left mid now first (flat_map record_bytes acts ++ held) _ so_far (goes_on-behind mid now (flat_map record_bytes acts) held (record_bytes a ++ after) more))
    (goes_on-same now _ _ all)

-- reading ends after some records
pub stops_after : (left mid now : Option (List ℕ)) (first held after : List ℕ) (g : GeometryFields) (acts : List Act) → GoesOn left mid first (flat_map record_bytes acts ++ held) → GoesOn mid now held after
    → All (IsAct g) acts → length acts ≤ 262144 → sent_bytes acts ≤ 2 ^ 27 → length after ≤ 2 ^ 28 + 131072 → StopsWithin left now first
stops_after left mid now first held after g acts so_far more all few sent short =
    record {
      after = flat_map record_bytes acts ++ after;
      goes_on = goes_on-then left mid now first (flat_map record_bytes acts ++ held) _ so_far (goes_on-behind mid now (flat_map record_bytes acts) held after more);
      few = omega (arith, length-append (flat_map record_bytes acts) after, records_size g acts all);
    }

-- reading ends at once
pub stops_here : (left : Option (List ℕ)) (held : List ℕ) → length held ≤ 2 ^ 28 + 65536 → StopsWithin left left held
stops_here left held short = record { after = held; goes_on = goes_on-same left held held refl; few = omega arith }

-- ---- what a source gave

-- all records were read, and then these bytes
pub session_so_far : (left now : Option (List ℕ)) (first after : List ℕ) (s : Recorded) (n : ℕ) → GoesOn left now first (flat_map record_bytes s.acts ++ after) → length s.acts ≡ n
    → (source : Option (List ℕ)) → Consumes source left (header_bytes s.geometry n ++ first) → Consumes source now (spelling s ++ after)
unfolding spelling
session_so_far left now first after s n one count = λ source came.
    let all : List ℕ = flat_map record_bytes s.acts in
    let is : header_bytes s.geometry n ++ (all ++ after) ≡ (header_bytes s.geometry (length s.acts) ++ all) ++ after =
    sym (append_assoc (header_bytes s.geometry n) all after) ∙ ap (λ (k : ℕ). (header_bytes s.geometry k ++ all) ++ after) (sym count) in
    subst (Consumes source now) is (goes_on-behind left now (header_bytes s.geometry n) first (all ++ after) one source [] came)

-- how long a session is
pub session_size : (s : Recorded) → All (IsAct s.geometry) s.acts → length (spelling s) ≡ 64 + 72 * length s.acts + sent_bytes s.acts
unfolding spelling
session_size s all =
    length-append (header_bytes s.geometry (length s.acts)) (flat_map record_bytes s.acts) ∙ omega (arith, header_size s.geometry (length s.acts), records_size s.geometry s.acts all)

-- the records before one that breaks a rule, and then these bytes
pub bytes_so_far : (left now : Option (List ℕ)) (first after bytes : List ℕ) (g : GeometryFields) (n : ℕ) (acts : List Act) → GoesOn left now first (flat_map record_bytes acts ++ after) → bytes ≡ header_bytes g n ++ (flat_map record_bytes acts ++ after)
    → (source : Option (List ℕ)) → Consumes source left (header_bytes g n ++ first) → Consumes source now bytes
bytes_so_far left now first after bytes g n acts one is = λ source came.
    subst (Consumes source now) (sym is) (goes_on-behind left now (header_bytes g n) first (flat_map record_bytes acts ++ after) one source [] came)

pub few_so_far : (after bytes : List ℕ) (g : GeometryFields) (n : ℕ) (acts : List Act) → bytes ≡ header_bytes g n ++ (flat_map record_bytes acts ++ after) → All (IsAct g) acts → length acts ≤ 262144 → sent_bytes acts ≤ 2 ^ 27 → length after ≤ 2 ^ 28 + 65536 → length bytes ≤ 2 ^ 29
few_so_far after bytes g n acts is all few sent short =
    omega (arith, ap length is, length-append (header_bytes g n) (flat_map record_bytes acts ++ after), header_size g n, length-append (flat_map record_bytes acts) after, records_size g acts all)

-- a header was taken, and then these bytes came
pub header_taken : (rest held after : List ℕ) (g : GeometryFields) (n : ℕ) → rest ≡ held → ((i : ℕ) → slice_index rest i < 256) → first_holding (header_rows rest) ≡ None → g ≡ geometry_in rest → n ≡ count_in rest → after ≡ drop 64 held → held ≡ header_bytes g n ++ after
header_taken rest held after g n same fits passed fields count skipped =
    sym same ∙ header_front rest fits passed
    ∙ ap (λ (b : List ℕ). header_bytes (geometry_in rest) (count_in rest) ++ b) (ap (drop 64) same ∙ sym skipped)
    ∙ ap (λ (x : GeometryFields). header_bytes x (count_in rest) ++ after) (sym fields)
    ∙ ap (λ (k : ℕ). header_bytes g k ++ after) (sym count)

-- how far a source was read, by the bytes that came
pub read_front : (left now : Option (List ℕ)) (bytes : List ℕ) → Consumes left now bytes → length bytes ≤ 2 ^ 29 → ReadsFrontUpTo left now (2 ^ 29)
read_front left now bytes read few = (length bytes, few, ReadsFront-consumed left now bytes (length bytes) read refl)

-- what the source began with, including the header
pub begins_all : (left mid now : Option (List ℕ)) (header held : List ℕ) (r : Result First FeedErr) → Consumes left mid (header ++ held) → IfOk r (BeginsAfter mid now header held) → IfOk r (Begins left now)
begins_all left mid now header held (Ok (Session b)) came gave = record { session = gave.session; long = gave.long; few = gave.few; read = gave.read left came }
begins_all left mid now header held (Ok (Other bytes)) came gave = (gave.read left came, gave.few)
begins_all left mid now header held (Err e) came gave = gave

pub stops_all : (left mid now : Option (List ℕ)) (header held : List ℕ) (r : Result First FeedErr) → Consumes left mid (header ++ held) → length header ≡ 64 → OnErr r (StopsWithin mid now held) → OnErr r (ReadsFrontUpTo left now (2 ^ 29))
stops_all left mid now header held (Ok given) came size stops = stops
stops_all left mid now header held (Err e) came size stops =
    read_front left now (header ++ stops.after) (stops.goes_on left header came) (omega (arith, stops.few, size, length-append header stops.after))

-- ---- what comes after a session

-- one more piece came after it
pub began_more : (left mid now : Option (List ℕ)) (b : Begun) (after : List ℕ) → BeginsWith left mid b → GoesOn mid now b.rest after → Consumes left now (spelling b.session ++ after)
began_more left mid now b after began more = more left (spelling b.session) began.read

-- nothing came after it
pub ended_there : (left mid now : Option (List ℕ)) (b : Begun) (after : List ℕ) → BeginsWith left mid b → GoesOn mid now b.rest after → after ≡ [] → IsAtEnd now → ReadsAll left now (spelling b.session)
ended_there left mid now b after began more none end =
    let bytes : spelling b.session ++ after ≡ spelling b.session = ap (λ (rest : List ℕ). spelling b.session ++ rest) none ∙ append-nil (spelling b.session) in
    read_all_of left now (spelling b.session) (subst (Consumes left now) bytes (began_more left mid now b after began more)) end

-- the number of bytes is within the limit
pub began_few : (b : Begun) (after : List ℕ) → IsSession b.session → length after ≤ 2 ^ 28 + 131072 → length (spelling b.session ++ after) ≤ 2 ^ 29
began_few b after is short =
    omega (arith, length-append (spelling b.session) after, session_size b.session is.acts, is.count, is.sent)

-- how far the source was read then
pub began_front : (left mid now : Option (List ℕ)) (b : Begun) (after : List ℕ) → BeginsWith left mid b → GoesOn mid now b.rest after → length after ≤ 2 ^ 28 + 131072 → ReadsFrontUpTo left now (2 ^ 29)
began_front left mid now b after began more short =
    read_front left now (spelling b.session ++ after) (began_more left mid now b after began more) (began_few b after began.session short)
