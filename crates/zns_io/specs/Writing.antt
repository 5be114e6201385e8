-- What writing all bytes to a sink leaves if it fails, and the writes that it makes.
use Rattle.std.specs.Prelude.{ℕ, ◌<◌, List, [], length, take, drop, Option, Result, Ok, Err}
use Rattle.zns_io.specs.declared.failed.Failed.{Failed}
use Rattle.zns_io.specs.Told.{Gains}

-- A sink gained some of these bytes from the front, but not all.
abbrev pub GainsPrefix : Option (List ℕ) → Option (List ℕ) → List ℕ → Type 0
GainsPrefix before now bytes = (count : ℕ) × (count < length bytes) × Gains before now (take count bytes)

-- Writes one after another, each offered all the bytes that are left, until nothing is left or one fails. `step` relates a sink and what it
-- is offered to an answer and the sink after.
pub data OffersAll {K : Type 0} (step : K → List ℕ → Result ℕ Failed → K → Type 0) : K → List ℕ → Result (Unit {0}) Failed → K → Type 0 where
  all_written : {now : K} → OffersAll step now [] (Ok tt) now
  failed : {now last : K} {rest : List ℕ} {e : Failed} → 0 < length rest → step now rest (Err e) last → OffersAll step now rest (Err e) last
  written : {now next last : K} {rest : List ℕ} {count : ℕ} {answer : Result (Unit {0}) Failed} →
      0 < length rest → step now rest (Ok count) next → OffersAll step next (drop count rest) answer last → OffersAll step now rest answer last
