-- Facts about bytes that spell a session.
use Rattle.std.proofs.Common.{◌≡◌, ℕ, List, [], ◌++◌, length, None, refl, sym, ap, ◌∙◌, arith}
use Rattle.std.proofs.lemmas.List.{append-nil}
use Rattle.zns_types.specs.Rows.{first_holding}
use Rattle.zone_model.specs.Sessions.{Recorded, IsSession, IsOrder, spelling, spells, order_bytes}
use Rattle.session_file.specs.FileRules.{file_rows}
use Rattle.session_file.specs.Laws.{AreSame}
use Rattle.session_file.proofs.Firsts.{file-passed}
use Rattle.session_file.proofs.Fronts.{BeginsWith, begins_with}
use Rattle.session_file.proofs.OrderFronts.{is_order_of}

only_session : (s : Recorded) (bytes : List ℕ) → IsSession s → spells s bytes → BeginsWith bytes s []
only_session s bytes is e = begins_with bytes s [] is (e ∙ sym (append-nil (spelling s)))

-- they break no rule
pub spelled_unbroken : (s : Recorded) (bytes : List ℕ) → IsSession s → spells s bytes → first_holding (file_rows bytes) ≡ None
spelled_unbroken s bytes is e =
    let whole = only_session s bytes is e in
    file-passed bytes (length (spelling s)) (sym whole.end) (omega (arith, ap length e)) whole.passed

-- and they spell no other session
pub spelled_once : (s other : Recorded) (bytes : List ℕ) → IsSession s → IsSession other → spells s bytes → spells other bytes → s ≡ other
spelled_once s other bytes is is_other e f = sym (only_session s bytes is e).session ∙ (only_session other bytes is_other f).session

-- bytes begin with at most one session
pub begins_once : (s other : Recorded) (after rest : List ℕ) → IsSession s → IsSession other → spelling s ++ after ≡ spelling other ++ rest → AreSame s other after rest
begins_once s other after rest is is_other e =
    let one : BeginsWith (spelling s ++ after) s after = begins_with (spelling s ++ after) s after is refl in
    let two : BeginsWith (spelling s ++ after) other rest = begins_with (spelling s ++ after) other rest is_other e in
    record { same_session = sym one.session ∙ two.session; same_after = sym one.rest ∙ two.rest }

-- and at most one order of its acts
pub ordered_once : (s : Recorded) (order other after rest : List ℕ) → IsSession s → IsOrder s.acts order → IsOrder s.acts other → order_bytes order ++ after ≡ order_bytes other ++ rest → order ≡ other
ordered_once s order other after rest is o is_other e =
    sym (is_order_of (order_bytes order ++ after) 0 s order after is o refl).same ∙ (is_order_of (order_bytes order ++ after) 0 s other rest is is_other e).same
