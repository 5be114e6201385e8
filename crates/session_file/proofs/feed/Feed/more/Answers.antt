use Rattle.std.proofs.Common.{◌≡◌, ℕ, ◌+◌, ◌≤◌, List, ◌++◌, length, take, drop, sym, ap, ◌∙◌, arith}
use Rattle.std.proofs.Math.Seq.{take-append-add}
use Rattle.std.proofs.lemmas.List.{append_assoc, drop-append-le, take-append-le, take-take, take_all, take_at}
use Rattle.session_file.proofs.Streams.{goes_on-more}
use Rattle.session_file.proofs.feed.Feed.more.Goals as goal

-- the held bytes stay when room is made after them
kept_front : (bytes room zeros : List ℕ) (held size : ℕ) → room ≡ take size bytes ++ zeros → held ≡ length bytes → held ≤ size → take held room ≡ bytes
kept_front bytes room zeros held size is long few =
    ap (take held) (is ∙ ap (λ (front : List ℕ). front ++ zeros) (take_all size bytes (omega (arith, long, few)))) ∙ take_at bytes zeros held (sym long)

-- what was read follows the held bytes
stands_after : (bytes room out rest more : List ℕ) (held count len at : ℕ) → held ≡ length bytes → take held room ≡ bytes → count ≤ length out → held + count ≤ len → at ≤ held
    → drop at (take (held + count) (take len ((take held room ++ (out ++ rest)) ++ more))) ≡ drop at bytes ++ take count out
stands_after bytes room out rest more held count len at long kept few within low =
    let whole : take (held + count) ((bytes ++ (out ++ rest)) ++ more) ≡ bytes ++ take count out =
    ap (take (held + count)) (append_assoc bytes (out ++ rest) more)
    ∙ ap (λ (n : ℕ). take (n + count) (bytes ++ ((out ++ rest) ++ more))) long
    ∙ take-append-add bytes ((out ++ rest) ++ more) count
    ∙ ap (λ (b : List ℕ). bytes ++ b) (ap (take count) (append_assoc out rest more) ∙ take-append-le count out (rest ++ more) few) in
    ap (drop at) (take-take (held + count) len ((take held room ++ (out ++ rest)) ++ more) within ∙ ap (λ (front : List ℕ). take (held + count) ((front ++ (out ++ rest)) ++ more)) kept ∙ whole)
    ∙ drop-append-le at bytes (take count out) (omega (arith, low, long))

pub returns-in-Ok-clause-goes_on : goal.returns-in-Ok-clause-goes_on
returns-in-Ok-clause-goes_on g c =
    let bytes = c.self.inside.bytes.items in
    let held = c.len-held.result in
    let long : held ≡ length bytes = omega (arith, c.len-held.ensures) in
    let kept : take held c.deref_mut.result.now ≡ bytes = kept_front bytes c.deref_mut.result.now _ held (held + c.min.result) (c.deref_mut.ensures.value ∙ c.in_ok-resize.ensures.items) long (omega arith) in
    let few : c.in-Ok.count ≤ length c.read.new.out = c.in-Ok.ensures.bound.0 in
    let within : held + c.in-Ok.count ≤ c.resize.new.self.len = omega (arith, few, c.in_ok-resize.ensures.len, c.deref_mut.ensures.len, c.read.auto.out) in
    goes_on-more (g.S.Source.left c.args.source.now) (g.S.Source.left c.read.new.self) c.args.self.now (take c.in-Ok.count c.read.new.out) _ c.in-Ok.ensures.bytes
    (ap (drop c.self.inside.at) c.truncate.ensures.items ∙ stands_after bytes c.deref_mut.result.now c.read.new.out _ _ held c.in-Ok.count c.resize.new.self.len c.self.inside.at long kept few within (omega (arith, long, c.self.invariant)) ∙ ap (λ (front : List ℕ). front ++ take c.in-Ok.count c.read.new.out) (c.self.view_is ∙ c.in_ok-settle.ensures))
