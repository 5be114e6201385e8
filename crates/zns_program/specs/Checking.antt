-- When an input is a session followed by a result of it.
use Rattle.std.specs.Prelude.{◌≡◌, ℕ, ◌^◌, ◌≤◌, List, [], ◌++◌, length, Some}
use Rattle.zns_types.specs.declared.fields.GeometryFields.{GeometryFields}
use Rattle.drive_rules.specs.Reports.{bytes_of_all, changed_page}
use Rattle.zone_model.specs.declared.act.Act.{Act}
use Rattle.zone_model.specs.Notices.{changed}
use Rattle.zone_model.specs.Answers.{answered}
use Rattle.zone_model.specs.Replies.{descriptors}
use Rattle.zone_model.specs.Sessions.{Recorded, IsSession, IsOrder, merge, spelling, order_bytes, replies_bytes, result_of}
use Rattle.zns_program.specs.Differences.{first_difference}

-- the state of a drive after its acts, as a result has it: the descriptors of all zones, and the page of changed zones
abbrev pub drive_bytes : GeometryFields → List Act → List ℕ
drive_bytes g acts = bytes_of_all (descriptors g (answered g acts)) ++ changed_page g (changed g (answered g acts))

-- what a session gives in an order, without the order itself
abbrev pub bytes_after_order : Recorded → List ℕ → List ℕ
bytes_after_order s order = replies_bytes s.geometry [] (merge s order) ++ drive_bytes s.geometry (merge s order)

-- The input is a session followed by a result that names an order of its acts, and is no longer than an input may be.
pub record HasResult (input : List ℕ) (s : Recorded) (order result : List ℕ) : Type 0 where
  pub valid : IsSession s
  pub spelled : input ≡ spelling s ++ result
  pub each_once : IsOrder s.acts order
  pub after : List ℕ
  pub named : result ≡ order_bytes order ++ after
  pub short : length input ≤ 2 ^ 29

-- the result is that of the session in the order that it names
pub record IsSame (input : List ℕ) : Type 0 where
  pub session : Recorded
  pub order : List ℕ
  pub has : HasResult input session order (result_of session order)

-- the result is not that of the session: the two first differ, or one of them ends, at this offset of the input
pub record IsUnlike (input : List ℕ) (offset : ℕ) : Type 0 where
  pub session : Recorded
  pub order : List ℕ
  pub result : List ℕ
  pub has : HasResult input session order result
  pub first : first_difference (length (spelling session)) result (result_of session order) ≡ Some offset
