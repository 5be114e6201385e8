-- A drive's replies to acts, compared with an input.
use Rattle.std.proofs.Common.{◌≡◌, ℕ, ◌+◌, ◌*◌, ◌<◌, ◌≤◌, List, [], ◌∷◌, ◌++◌, length, drop, Option, Some, Result, Ok, Err, refl, sym, ap, ◌∙◌, arith}
use Rattle.std.proofs.lemmas.List.{append_assoc, take-append-drop, drop-drop}
use Rattle.std.specs.Prelude.{IfErr, OnOk}
use Rattle.zns_types.specs.declared.fields.GeometryFields.{GeometryFields}
use Rattle.zone_model.specs.declared.act.Act.{Act}
use Rattle.zone_model.specs.declared.reply.Reply.{Reply}
use Rattle.zone_model.specs.Places.{Place}
use Rattle.zone_model.specs.Answers.{answered, and_then}
use Rattle.zone_model.specs.Sessions.{Recorded, replies_bytes, merge, order_bytes, result_of, spelling}
use Rattle.session_file.specs.Results.{part_of}
use Rattle.session_file.proofs.Fronts.{BeginsWith, begins_with}
use Rattle.zns_program.specs.declared.compare_err.CompareErr.{CompareErr}
use Rattle.zns_program.specs.Serving.{IsReply}
use Rattle.zns_program.specs.Differences.{first_difference, IsDifference}
use Rattle.zns_program.specs.Tails.{TailBytes, StaysIn, ComeNext, ComeOthers, ComeOtherwise, StopsBy}
use Rattle.zns_program.specs.Checking.{IsUnlike, drive_bytes, bytes_after_order}
use Rattle.zns_program.proofs.Orders.{act_bytes, replies_bytes-push}
use Rattle.zns_program.proofs.Comparisons.{first_difference-append, differs_alone, goes_on}
use Rattle.zns_program.proofs.Tails.{HasLeft, has_left, next_same, next_then, others_same, others_later, others_sooner, stops_so}
use Rattle.zns_program.proofs.Inputs.{WasOrder, result_read, result_of-parts, front_spelled, length-order_bytes}

-- ---- replies

part_of-reply : (g : GeometryFields) (acts : List Act) (a : Act) (r : Reply) → IsReply g (answered g acts) a r → part_of r ≡ act_bytes g (answered g acts) a
part_of-reply g acts a r is = rw (is.entries, is.read) refl

-- the reply to one more act came
pub reply_next : (g : GeometryFields) (left mid : Option (List ℕ)) (old between new : TailBytes) (acts : List Act) (a : Act) (r : Reply) → IsReply g (answered g acts) a r → StaysIn left mid old between
    → ComeNext left old between (replies_bytes g [] acts) → ComeNext mid between new (part_of r) → ComeNext left old new (replies_bytes g [] (acts ++ a ∷ []))
reply_next g left mid old between new acts a r is stays before here =
    next_same left old new (replies_bytes g [] acts ++ act_bytes g (answered g acts) a) (replies_bytes g [] (acts ++ a ∷ [])) (sym (replies_bytes-push g acts a))
    (next_then left mid old between new (replies_bytes g [] acts) (act_bytes g (answered g acts) a) stays before (next_same mid between new (part_of r) (act_bytes g (answered g acts) a) (part_of-reply g acts a r is) here))

-- what is written of acts begins with what is written of the first of them
pub record BeginsAs (g : GeometryFields) (h : List Place) (all acts : List Act) : Type 0 where
  pub more : List ℕ
  pub same : replies_bytes g h all ≡ replies_bytes g h acts ++ more

begins_as : (g : GeometryFields) (h : List Place) (acts rest : List Act) → BeginsAs g h (acts ++ rest) acts
begins_as g h [] rest = record { more = replies_bytes g h rest; same = refl }
begins_as g h (a ∷ acts) rest =
    let later : BeginsAs g (and_then g h a) (acts ++ rest) acts = begins_as g (and_then g h a) acts rest in
    record {
      more = later.more;
      same = ap (λ (tail : List ℕ). act_bytes g h a ++ tail) later.same ∙ sym (append_assoc (act_bytes g h a) (replies_bytes g (and_then g h a) acts) later.more);
    }

-- something else came than the reply
pub reply_others : (g : GeometryFields) (left mid : Option (List ℕ)) (old between : TailBytes) (all acts : List Act) (a : Act) (rest : List Act) (r : Reply) (offset : ℕ) → all ≡ acts ++ a ∷ rest → IsReply g (answered g acts) a r → StaysIn left mid old between
    → ComeNext left old between (replies_bytes g [] acts) → ComeOthers mid between (part_of r) offset → ComeOthers left old (replies_bytes g [] all) offset
reply_others g left mid old between all acts a rest r offset whole is stays before here =
    let front : BeginsAs g [] ((acts ++ a ∷ []) ++ rest) (acts ++ a ∷ []) = begins_as g [] (acts ++ a ∷ []) rest in
    let one : ComeOthers left old (replies_bytes g [] acts ++ act_bytes g (answered g acts) a) offset =
    others_later left mid old between (replies_bytes g [] acts) (act_bytes g (answered g acts) a) offset stays before (others_same mid between (part_of r) (act_bytes g (answered g acts) a) offset (part_of-reply g acts a r is) here) in
    let first : ComeOthers left old (replies_bytes g [] (acts ++ a ∷ [])) offset = others_same left old (replies_bytes g [] acts ++ act_bytes g (answered g acts) a) (replies_bytes g [] (acts ++ a ∷ [])) offset (sym (replies_bytes-push g acts a)) one in
    let joined : replies_bytes g [] (acts ++ a ∷ []) ++ front.more ≡ replies_bytes g [] all =
    sym front.same ∙ ap (replies_bytes g []) (append_assoc acts (a ∷ []) rest ∙ sym whole) in
    others_same left old (replies_bytes g [] (acts ++ a ∷ []) ++ front.more) (replies_bytes g [] all) offset joined (others_sooner left old (replies_bytes g [] (acts ++ a ∷ [])) front.more offset first)

-- ---- two parts, one after the other

-- an error in the first part
pub stops_sooner : (left : Option (List ℕ)) (old new : TailBytes) (faults faults_now : ℕ) (xs ys whole : List ℕ) (e : CompareErr) → xs ++ ys ≡ whole → StopsBy faults faults_now new (ComeOthers left old xs) e → StopsBy faults faults_now new (ComeOthers left old whole) e
stops_sooner left old new faults faults_now xs ys whole e same stops =
    stops_so faults faults faults_now new (ComeOthers left old xs) (ComeOthers left old whole) e (omega arith) (λ offset others. others_same left old (xs ++ ys) whole offset same (others_sooner left old xs ys offset others)) stops

-- an error in the second part
stops_later : (left mid : Option (List ℕ)) (old between new : TailBytes) (faults faults_mid faults_now : ℕ) (xs ys whole : List ℕ) (e : CompareErr) → xs ++ ys ≡ whole → faults ≤ faults_mid → StaysIn left mid old between → ComeNext left old between xs
    → StopsBy faults_mid faults_now new (ComeOthers mid between ys) e → StopsBy faults faults_now new (ComeOthers left old whole) e
stops_later left mid old between new faults faults_mid faults_now xs ys whole e same few stays before stops =
    stops_so faults faults_mid faults_now new (ComeOthers mid between ys) (ComeOthers left old whole) e few (λ offset others. others_same left old (xs ++ ys) whole offset same (others_later left mid old between xs ys offset stays before others)) stops

-- the second part came, so both did
pub both_come : {T : Type 0} (r : Result T CompareErr) (left mid : Option (List ℕ)) (old between new : TailBytes) (xs ys whole : List ℕ) → xs ++ ys ≡ whole → StaysIn left mid old between → ComeNext left old between xs
    → OnOk r (ComeNext mid between new ys) → OnOk r (ComeNext left old new whole)
both_come (Ok done) left mid old between new xs ys whole same stays before here = next_same left old new (xs ++ ys) whole same (next_then left mid old between new xs ys stays before here)
both_come (Err e) left mid old between new xs ys whole same stays before here = here

pub both_stop : {T : Type 0} (r : Result T CompareErr) (left mid : Option (List ℕ)) (old between new : TailBytes) (faults faults_mid faults_now : ℕ) (xs ys whole : List ℕ) → xs ++ ys ≡ whole → faults ≤ faults_mid → StaysIn left mid old between → ComeNext left old between xs
    → IfErr r (StopsBy faults_mid faults_now new (ComeOthers mid between ys)) → IfErr r (StopsBy faults faults_now new (ComeOthers left old whole))
both_stop (Ok done) left mid old between new faults faults_mid faults_now xs ys whole same few stays before stops = stops
both_stop (Err e) left mid old between new faults faults_mid faults_now xs ys whole same few stays before stops = stops_later left mid old between new faults faults_mid faults_now xs ys whole e same few stays before stops

-- ---- the end

-- an error, with nothing after these bytes
pub stops_alone : (left : Option (List ℕ)) (old new : TailBytes) (faults faults_now : ℕ) (bytes : List ℕ) (e : CompareErr) → StopsBy faults faults_now new (ComeOthers left old bytes) e → StopsBy faults faults_now new (ComeOtherwise left old bytes) e
stops_alone left old new faults faults_now bytes e stops =
    stops_so faults faults faults_now new (ComeOthers left old bytes) (ComeOtherwise left old bytes) e (omega arith) (λ offset others. λ input is. differs_alone input old.at bytes offset (others input is)) stops

-- the input goes on after these bytes
pub more_comes : (left mid now : Option (List ℕ)) (old between filled : TailBytes) (bytes : List ℕ) → StaysIn left mid old between → ComeNext left old between bytes → StaysIn mid now between filled → filled.at ≡ between.at → 0 < length filled.held
    → ComeOtherwise left old bytes filled.at
more_comes left mid now old between filled bytes stays next read same some = λ input is.
    let rest : HasLeft input now filled = has_left input now filled (read input (stays input is)) in
    goes_on input old.at between.at bytes (next.stand input is) (omega (arith, same, rest.long, some)) ∙ ap (λ (n : ℕ). Some n) (sym same)

-- ---- a drive after all replies

-- a drive has served the acts of a session in an order
pub record HasServed (s : Recorded) (order : List ℕ) (g now : GeometryFields) (mixed acts : List Act) : Type 0 where
  pub geometry : g ≡ s.geometry
  pub mixed_is : mixed ≡ merge s order
  pub stays : now ≡ g
  pub served : acts ≡ mixed

pub after_replies : (s : Recorded) (order : List ℕ) (g now : GeometryFields) (mixed acts : List Act) → HasServed s order g now mixed acts → replies_bytes g [] mixed ++ drive_bytes now acts ≡ bytes_after_order s order
after_replies s order g now mixed acts has =
    ap (λ (x : GeometryFields). replies_bytes g [] mixed ++ drive_bytes x acts) (has.stays ∙ has.geometry)
    ∙ ap (λ (x : List Act). replies_bytes g [] mixed ++ drive_bytes s.geometry x) (has.served ∙ has.mixed_is)
    ∙ ap (λ (x : List Act). replies_bytes g [] x ++ drive_bytes s.geometry (merge s order)) has.mixed_is
    ∙ ap (λ (x : GeometryFields). replies_bytes x [] (merge s order) ++ drive_bytes s.geometry (merge s order)) has.geometry

-- ---- a result

-- the input after the session: the order, and what comes after it
after_order : (input : List ℕ) (s : Recorded) (from at : ℕ) (order : List ℕ) → WasOrder input s from order → at ≡ from + (12 + 2 * length order) → drop from input ≡ order_bytes order ++ drop at input
after_order input s from at order was there =
    sym (take-append-drop (12 + 2 * length order) (drop from input))
    ∙ ap (λ (front : List ℕ). front ++ drop (12 + 2 * length order) (drop from input)) was.named
    ∙ ap (λ (rest : List ℕ). order_bytes order ++ rest) (drop-drop (12 + 2 * length order) from input ∙ ap (λ n. drop n input) (sym there))

-- a difference after the order is one of the result
pub is_unlike : (input : List ℕ) (s : Recorded) (from at : ℕ) (order : List ℕ) (offset : ℕ) → WasOrder input s from order → at ≡ from + (12 + 2 * length order) → IsDifference input at (bytes_after_order s order) offset → IsUnlike input offset
is_unlike input s from at order offset was there differs =
    let begins : BeginsWith input s (drop from input) = begins_with input s (drop from input) was.front.valid (front_spelled input s from was.front) in
    let place : length (spelling s) + length (order_bytes order) ≡ at = omega (arith, length-order_bytes order, begins.end, was.front.end) in
    record {
      session = s;
      order = order;
      result = drop from input;
      has = result_read input s from order was;
      first =
          ap (λ (result : List ℕ). first_difference (length (spelling s)) result (result_of s order)) (after_order input s from at order was there)
          ∙ ap (λ (result : List ℕ). first_difference (length (spelling s)) (order_bytes order ++ drop at input) result) (result_of-parts s order)
          ∙ first_difference-append (length (spelling s)) (order_bytes order) (drop at input) (bytes_after_order s order)
          ∙ ap (λ n. first_difference n (drop at input) (bytes_after_order s order)) place
          ∙ differs;
    }
