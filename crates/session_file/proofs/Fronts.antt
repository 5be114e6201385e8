-- A session at the front of bytes: what the bytes are, and when no rule is broken.
use Rattle.std.proofs.Common.{Bool, true, false, not, ◌≡◌, ℕ, ◌<◌, ◌≤◌, List, ◌++◌, map, length, take, drop, None, refl, sym, ap, ◌∙◌, arith, codes}
use Rattle.std.proofs.lemmas.Bool.Decides.{nat_tests}
use Rattle.std.proofs.lemmas.List.{append_assoc, length-append, length-drop, take_at}
use Rattle.std.proofs.lemmas.List.Elements.{recursion_from_All, All-from_recursion}
use Rattle.std.proofs.lemmas.Slice.Eq.{bytes_eq-Decides}
use Rattle.std.specs.Prelude.{slice_index}
use Rattle.std.specs.List.{flat_map}
use Rattle.zns_types.specs.Fields.{field}
use Rattle.zns_types.specs.Geometry.{IsGeometry}
use Rattle.zns_types.specs.Rows.{first_holding}
use Rattle.zns_types.specs.Rules.{rules}
use Rattle.zns_types.proofs.RowLemmas.{none_holds, none_answers, first_holding-append_none}
use Rattle.zone_model.specs.Sessions.{Recorded, IsSession, IsAct, spelling, header_bytes, record_bytes}
use Rattle.session_file.specs.Places.{geometry_in, count_in, acts_from, end_from, session_in, session_end}
use Rattle.session_file.specs.FileRules.{on_header, start_rows, end_rows, header_rows, records_rows, front_rows}
use Rattle.session_file.proofs.RowSplits.{first_holding-parts}
use Rattle.session_file.proofs.HeaderRows.{end_decides}
use Rattle.session_file.proofs.HeaderPlaces.{Begins, begins, header_bytes-in, widths_in}
use Rattle.session_file.proofs.Geometries.{unbroken}
use Rattle.session_file.proofs.RecordLists.{AreRecords, are_records, Follow, follow}

pub not_false : (b : Bool) → not b ≡ false → b ≡ true
not_false true e = refl
not_false false e = absurd cc

pub not_true : (b : Bool) → b ≡ true → not b ≡ false
not_true true e = refl
not_true false e = absurd cc

-- the facts that the rules of the header state
record Heads (bytes : List ℕ) : Type 0 where
  pub long : 64 ≤ length bytes
  pub magic : take 8 bytes ≡ codes "ZNSQ0001"
  pub few : count_in bytes ≤ 262144
  pub zeros : field 56 8 bytes ≡ 0

heads-passed : (bytes : List ℕ) → first_holding (header_rows bytes) ≡ None → Heads bytes
unfolding header_rows start_rows end_rows
heads-passed bytes e =
    let split = first_holding-parts (start_rows bytes) (map on_header (rules (geometry_in bytes)) ++ end_rows bytes) e in
    let (short, (unlike, _)) = none_holds (start_rows bytes) split.0 in
    let (many, (nonzero, _)) = none_holds (end_rows bytes) (first_holding-parts (map on_header (rules (geometry_in bytes))) (end_rows bytes) split.1).1 in
    record {
      long = grind (arith, nat_tests, short);
      magic = (bytes_eq-Decides (take 8 bytes) (codes "ZNSQ0001")).0 (not_false _ unlike);
      few = grind (arith, nat_tests, many);
      zeros = grind (arith, nat_tests, nonzero);
    }

-- if no rule of the header is broken, the bytes begin with a header
pub header_front : (bytes : List ℕ) → ((i : ℕ) → slice_index bytes i < 256) → first_holding (header_rows bytes) ≡ None → bytes ≡ header_bytes (geometry_in bytes) (count_in bytes) ++ drop 64 bytes
header_front bytes fits e =
    let h : Heads bytes = heads-passed bytes e in
    sym (header_bytes-in bytes h.long h.magic h.zeros fits)

passed-heads : (bytes : List ℕ) → IsGeometry (geometry_in bytes) → Heads bytes → first_holding (header_rows bytes) ≡ None
unfolding start_rows end_rows
passed-heads bytes g h =
    end_decides bytes
    (none_answers (start_rows bytes) (grind (arith, nat_tests), (not_true _ ((bytes_eq-Decides (take 8 bytes) (codes "ZNSQ0001")).1 h.magic), tt)))
    (unbroken (geometry_in bytes) g)
    ∙ none_answers (end_rows bytes) (grind (arith, nat_tests), (grind (arith, nat_tests), tt))

-- the bytes begin with a session
pub record IsFront (bytes : List ℕ) : Type 0 where
  pub session : IsSession (session_in bytes)
  pub spelled : spelling (session_in bytes) ++ drop (session_end bytes) bytes ≡ bytes
  pub within : session_end bytes ≤ length bytes

-- if no rule is broken, they do
pub is_front : (bytes : List ℕ) → ((i : ℕ) → slice_index bytes i < 256) → IsGeometry (geometry_in bytes) → first_holding (front_rows bytes) ≡ None → IsFront bytes
unfolding front_rows spelling
is_front bytes fits valid e =
    let split = first_holding-parts (header_rows bytes) (records_rows (count_in bytes) (geometry_in bytes) bytes 64 0 0) e in
    let h : Heads bytes = heads-passed bytes split.0 in
    let r : AreRecords (geometry_in bytes) bytes (count_in bytes) 64 0 0 =
    are_records (count_in bytes) (geometry_in bytes) bytes 64 0 0 fits h.long (omega arith) (omega arith) split.1 in
    record {
      session = record {
        geometry = valid;
        widths = widths_in bytes fits;
        count = omega (arith, r.count, h.few);
        acts = All-from_recursion (IsAct (geometry_in bytes)) (acts_from (count_in bytes) 64 bytes) r.acts;
        sent = omega (arith, r.sent);
        asked = omega (arith, r.asked);
      };
      spelled = rw r.count (append_assoc (header_bytes (geometry_in bytes) (count_in bytes)) (flat_map record_bytes (acts_from (count_in bytes) 64 bytes)) (drop (session_end bytes) bytes)
          ∙ ap (λ (b : List ℕ). header_bytes (geometry_in bytes) (count_in bytes) ++ b) r.spelled
          ∙ header_bytes-in bytes h.long h.magic h.zeros fits);
      within = r.within;
    }

-- the front of the bytes, by what comes after it
pub taken : (front : List ℕ) (end : ℕ) (bytes : List ℕ) → end ≤ length bytes → front ++ drop end bytes ≡ bytes → take end bytes ≡ front
taken front end bytes h e =
    let long : length front ≡ end = omega (arith, ap length e, length-append front (drop end bytes), length-drop end bytes) in
    ap (take end) (sym e) ∙ take_at front (drop end bytes) end long

-- the bytes begin with this session, and then others follow
pub record BeginsWith (bytes : List ℕ) (s : Recorded) (after : List ℕ) : Type 0 where
  pub session : session_in bytes ≡ s
  pub end : session_end bytes ≡ length (spelling s)
  pub rest : drop (session_end bytes) bytes ≡ after
  pub passed : first_holding (front_rows bytes) ≡ None

pub begins_with : (bytes : List ℕ) (s : Recorded) (after : List ℕ) → IsSession s → bytes ≡ spelling s ++ after → BeginsWith bytes s after
unfolding front_rows spelling
begins_with bytes s after is e =
    let acts : List ℕ = flat_map record_bytes s.acts in
    let b : Begins bytes s.geometry (length s.acts) (acts ++ after) =
    begins bytes s.geometry (length s.acts) (acts ++ after) is.geometry is.widths (omega (arith, is.count)) (e ∙ append_assoc (header_bytes s.geometry (length s.acts)) acts after) in
    let f : Follow s.geometry bytes s.acts 64 0 0 after =
    follow s.acts s.geometry bytes 64 0 0 after is.geometry.queues.few_queues (recursion_from_All (IsAct s.geometry) s.acts is.acts) b.long (omega (arith, is.sent)) (omega (arith, is.asked)) b.rest in
    let h : first_holding (header_rows bytes) ≡ None =
    passed-heads bytes (rw b.geometry is.geometry) record { long = b.long; magic = b.magic; few = rw b.count is.count; zeros = b.zeros } in
    record {
      session = rw (b.geometry, b.count, f.same) refl;
      end = rw b.count (omega (arith, f.within, ap length f.rest, length-drop (end_from (length s.acts) 64 bytes) bytes, ap length e, length-append (spelling s) after));
      rest = rw b.count f.rest;
      passed = first_holding-append_none (header_rows bytes) (records_rows (count_in bytes) (geometry_in bytes) bytes 64 0 0) h ∙ rw (b.geometry, b.count) f.passed;
    }
