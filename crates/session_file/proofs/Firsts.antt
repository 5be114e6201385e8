-- Which of all rules is the first broken one, by the part that it is in.
use Rattle.std.proofs.Common.{◌≡◌, ℕ, ◌<◌, ◌≤◌, true, List, [], ◌∷◌, ◌++◌, length, None, Some, refl, ◌∙◌, arith}
use Rattle.std.proofs.lemmas.Bool.Decides.{nat_tests}
use Rattle.std.specs.Prelude.{slice_index, nat_lt}
use Rattle.zns_types.specs.declared.fields.GeometryFields.{GeometryFields}
use Rattle.zns_types.specs.Geometry.{IsGeometry}
use Rattle.zns_types.specs.Rows.{Row, first_holding}
use Rattle.zns_types.proofs.RowLemmas.{first_holding-append_some, first_holding-append_none, none_answers}
use Rattle.zone_model.specs.declared.act.Act.{Act}
use Rattle.zone_model.specs.Sessions.{Recorded}
use Rattle.session_file.specs.declared.file_err.Reason.TheVariants as reason
use Rattle.session_file.specs.declared.file_err.FileErr.{FileErr}
use Rattle.session_file.specs.declared.file_err.FileErr.TheVariants.{NoMemory, Bad, Large}
use Rattle.session_file.specs.Places.{geometry_in, count_in, acts_from, end_from, session_in, session_end}
use Rattle.session_file.specs.FileRules.{bad, header_rows, records_rows, front_rows, file_rows}
use Rattle.session_file.specs.Faults.{IsFirstOf}
use Rattle.session_file.proofs.Fronts.{IsFront, is_front}

pub first_of : (rows : List (Row FileErr)) (e : FileErr) → first_holding rows ≡ Some e → IsFirstOf rows e
first_of rows NoMemory h = tt
first_of rows (Bad reason offset) h = h
first_of rows (Large which number) h = h

-- the rules after it don't count
pub first_of-front : (rows more : List (Row FileErr)) (e : FileErr) → IsFirstOf rows e → IsFirstOf (rows ++ more) e
first_of-front rows more NoMemory f = tt
first_of-front rows more (Bad reason offset) f = first_holding-append_some rows more (Bad reason offset) f
first_of-front rows more (Large which number) f = first_holding-append_some rows more (Large which number) f

-- the rules before it hold
pub first_of-back : (rows more : List (Row FileErr)) (e : FileErr) → first_holding rows ≡ None → IsFirstOf more e → IsFirstOf (rows ++ more) e
first_of-back rows more NoMemory h f = tt
first_of-back rows more (Bad reason offset) h f = first_holding-append_none rows more h ∙ f
first_of-back rows more (Large which number) h f = first_holding-append_none rows more h ∙ f

-- if no rule is broken, the program is out of memory
pub no_memory : (rows : List (Row FileErr)) (e : FileErr) → first_holding rows ≡ None → IsFirstOf rows e → e ≡ NoMemory
no_memory rows NoMemory h f = refl
no_memory rows (Bad reason offset) h f = absurd cc
no_memory rows (Large which number) h f = absurd cc

-- ---- the front

pub front-header : (bytes : List ℕ) (e : FileErr) → first_holding (header_rows bytes) ≡ Some e → IsFirstOf (front_rows bytes) e
unfolding front_rows
front-header bytes e h = first_of-front (header_rows bytes) (records_rows (count_in bytes) (geometry_in bytes) bytes 64 0 0) e (first_of (header_rows bytes) e h)

pub front-records : (bytes : List ℕ) (g : GeometryFields) (n : ℕ) (e : FileErr) → g ≡ geometry_in bytes → n ≡ count_in bytes → first_holding (header_rows bytes) ≡ None → IsFirstOf (records_rows n g bytes 64 0 0) e → IsFirstOf (front_rows bytes) e
unfolding front_rows
front-records bytes g n e same count h f =
    let there : IsFirstOf (records_rows (count_in bytes) (geometry_in bytes) bytes 64 0 0) e = rw (← same, ← count) f in
    first_of-back (header_rows bytes) (records_rows (count_in bytes) (geometry_in bytes) bytes 64 0 0) e h there

-- what was read from bytes that break no rule
pub record WasRead (bytes : List ℕ) (read : Recorded) (end : ℕ) : Type 0 where
  pub session : read ≡ session_in bytes
  pub last : end ≡ session_end bytes
  pub passed : first_holding (front_rows bytes) ≡ None
  pub front : IsFront bytes

-- a header, and as many acts as it states
pub was_read : (bytes : List ℕ) (g : GeometryFields) (commands : ℕ) (acts : List Act) (end : ℕ) → ((i : ℕ) → slice_index bytes i < 256) → g ≡ geometry_in bytes → IsGeometry g → commands ≡ count_in bytes
    → first_holding (header_rows bytes) ≡ None → acts ≡ acts_from commands 64 bytes → end ≡ end_from commands 64 bytes → first_holding (records_rows commands g bytes 64 0 0) ≡ None
    → WasRead bytes (record { geometry = g; acts = acts }) end
unfolding front_rows
was_read bytes g commands acts end fits geometry valid count header all last records =
    let rest : first_holding (records_rows (count_in bytes) (geometry_in bytes) bytes 64 0 0) ≡ None = rw (← count, ← geometry) records in
    let passed : first_holding (front_rows bytes) ≡ None = first_holding-append_none (header_rows bytes) (records_rows (count_in bytes) (geometry_in bytes) bytes 64 0 0) header ∙ rest in
    record {
      session = rw (all, count, geometry) refl;
      last = rw (last, count) refl;
      passed = passed;
      front = is_front bytes fits (rw (← geometry) valid) passed;
    }

-- ---- all of it

pub file-front : (bytes : List ℕ) (e : FileErr) → IsFirstOf (front_rows bytes) e → IsFirstOf (file_rows bytes) e
unfolding file_rows
file-front bytes e f = first_of-front (front_rows bytes) (bad reason.Trailing (session_end bytes) (nat_lt (session_end bytes) (length bytes)) ∷ []) e f

pub file-trailing : (bytes : List ℕ) (end : ℕ) → end ≡ session_end bytes → end < length bytes → first_holding (front_rows bytes) ≡ None → first_holding (file_rows bytes) ≡ Some (Bad reason.Trailing end)
unfolding file_rows
file-trailing bytes end same h e =
    let holds : nat_lt (session_end bytes) (length bytes) ≡ true = grind (arith, nat_tests) in
    first_holding-append_none (front_rows bytes) (bad reason.Trailing (session_end bytes) (nat_lt (session_end bytes) (length bytes)) ∷ []) e
    ∙ rw (holds, same) refl

pub file-passed : (bytes : List ℕ) (end : ℕ) → end ≡ session_end bytes → length bytes ≤ end → first_holding (front_rows bytes) ≡ None → first_holding (file_rows bytes) ≡ None
unfolding file_rows
file-passed bytes end same h e =
    first_holding-append_none (front_rows bytes) (bad reason.Trailing (session_end bytes) (nat_lt (session_end bytes) (length bytes)) ∷ []) e
    ∙ none_answers (bad reason.Trailing (session_end bytes) (nat_lt (session_end bytes) (length bytes)) ∷ []) (grind (arith, nat_tests), tt)
