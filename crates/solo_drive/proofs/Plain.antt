-- Acts that don't go to a single zone: refused at the front, a Flush, and a Read.
use Rattle.std.proofs.Common.{◌≡◌, ℕ, Bool, true, false, cond, List, [], ◌∷◌, ◌++◌, Option, Some, None, drop, refl, sym, ap, ◌∙◌, subst, inl, inr}
use Rattle.std.specs.Prelude.{◌==◌, is_none, unwrap_or}
use Rattle.std.proofs.Math.Bool.{and-false}
use Rattle.std.proofs.lemmas.Bool.{cases_Bool, eqb-true}
use Rattle.zns_types.specs.declared.fields.GeometryFields.{GeometryFields}
use Rattle.zns_types.specs.Geometry.{IsGeometry}
use Rattle.zns_types.specs.Statuses.{Status, success, is_success}
use Rattle.zns_types.specs.Rows.{Row, first_holding}
use Rattle.zns_types.proofs.RowLemmas.{first_holding-append_some, first_holding-append_none, first_holding-append_idle}
use Rattle.sqe_codec.specs.declared.cmd.Cmd.{Cmd}
use Rattle.sqe_codec.specs.declared.cmd.Cmd.TheVariants as cmd
use Rattle.sqe_codec.specs.Commands.{cid_of}
use Rattle.zone_limits.specs.declared.limits.Limits.{Limits}
use Rattle.zone_limits.specs.declared.limits.Need.{Need}
use Rattle.zone_limits.specs.Resources.{no_need, no_active_left, need_rows}
use Rattle.drive_rules.specs.declared.deed.Deed.{Deed}
use Rattle.drive_rules.specs.Aims.{open_code, sent_deed, aim_of, sweep_of}
use Rattle.drive_rules.specs.Tables.{Table, front_rows, table_rows, wants_room}
use Rattle.zone_model.specs.declared.act.Act.{Act}
use Rattle.zone_model.specs.Places.{Place, command_of}
use Rattle.zone_model.specs.Zones.{counts}
use Rattle.zone_model.specs.Notices.{changed}
use Rattle.zone_model.specs.Answers.{status, zone_deed, own_rows, table_of}
use Rattle.zone_model.specs.Local.{act_wants_room}
use Rattle.zone_model.specs.Replies.{read_by, reply_bytes}
use Rattle.zone_model.proofs.Passing.{success-front, table_by-front}
use Rattle.zone_model.proofs.LocalFacts.{none_gives_way}
use Rattle.drive_book.specs.declared.book.Book.{Book}
use Rattle.drive_book.specs.declared.outcome.Outcome.{Outcome}
use Rattle.drive_book.specs.Books.{marks_of}
use Rattle.drive_book.specs.Outcomes.{OutcomeStands, refusal_with, plain_success}
use Rattle.drive_book.proofs.Done as done
use Rattle.drive_book.proofs.Logs.{log_by, changed-step}
use Rattle.drive_book.proofs.Marks.{marks_by, has_asked, marks-step}
use Rattle.drive_book.proofs.Outcomes.{outcome_by, done-stands}
use Rattle.zone_cell.specs.Cells.{Cell}
use Rattle.solo_drive.specs.Parts.{PartsStand}
use Rattle.solo_drive.specs.Applying.{history_of, IsDone}
use Rattle.solo_drive.proofs.Told.{IsSilent, silent-done, refused-done}

-- ---- refused by a row that no zone decides

wants-front : (g : GeometryFields) (n : Limits) (front own : List (Row Status)) (need : Need) (code : Status) → first_holding front ≡ Some code → wants_room g n (front ++ own) need ≡ false
wants-front g n front own need code e = rw (first_holding-append_some (front ++ own) (no_active_left g n need ∷ []) code (first_holding-append_some front own code e)) refl

holding-front : (g : GeometryFields) (h : List Place) (t : Table) (free : Bool) (code : Status) → first_holding t.front ≡ Some code → first_holding (table_rows g (counts g h) free t) ≡ Some code
holding-front g h t free code e = first_holding-append_some (t.front ++ t.own) (need_rows g (counts g h) t.need free) code (first_holding-append_some t.front t.own code e)

pub record IsRefusedAtFront (g : GeometryFields) (h : List Place) (a : Act) (code : Status) : Type 0 where
  pub wants : act_wants_room g h a ≡ false
  pub code_is : status g h a ≡ code
  pub fails : is_success code ≡ false

pub front-refuses : (g : GeometryFields) (h : List Place) (a : Act) (code : Status) → first_holding (front_rows g (command_of a)) ≡ Some code → IsRefusedAtFront g h a code
unfolding status
front-refuses g h a code e =
    let t = table_of g h (command_of a) in
    let front : first_holding t.front ≡ Some code = ap first_holding (table_by-front g h (command_of a) (aim_of g (command_of a))) ∙ e in
    let is : status g h a ≡ code = ap (λ (o : Option Status). unwrap_or o success) (holding-front g h t _ code front) in
    record {
      wants = wants-front g (counts g h) t.front t.own t.need code front;
      code_is = is;
      fails = elim (cases_Bool (is_success code)) [
        | inl ok ↦ absurd (cc (e, success-front g h a (ap is_success is ∙ ok)))
        | inr fails ↦ fails
      ];
    }

pub front-done : (g : GeometryFields) (a : Act) (code : Status) (cells : List Cell) (book : Book) (out : List ℕ) (o : Outcome) → IsGeometry g → PartsStand g a cells book → first_holding (front_rows g (command_of a)) ≡ Some code → o ≡ refusal_with code
    → IsDone g a o cells cells book book out out
front-done g a code cells book out o valid p e is =
    let r = front-refuses g (history_of g book) a code e in
    subst (λ (x : Outcome). IsDone g a x cells cells book book out out) (sym is) (refused-done g a code cells book out valid p r.code_is r.fails (inr r.wants))

-- ---- acts that go to no one zone

pub plain-wants : (g : GeometryFields) (h : List Place) (a : Act) → aim_of g (command_of a) ≡ None → act_wants_room g h a ≡ false
plain-wants g h a e = rw e (and-false (is_none (first_holding ((front_rows g (command_of a) ++ own_rows g h (command_of a)) ++ no_active_left g (counts g h) no_need ∷ []))))

nothing : (b : Bool) → cond {A = Option Deed} b None None ≡ None
nothing true = refl
nothing false = refl

pub plain-idle : (g : GeometryFields) (h : List Place) (a : Act) (z : ℕ) → aim_of g (command_of a) ≡ None → sweep_of (command_of a) ≡ None → zone_deed g h a z ≡ None
unfolding zone_deed
plain-idle g h a z e none =
    let alone = none_gives_way g h a (plain-wants g h a e) in
    rw (e, none, alone.evicted) (nothing (is_success (status g h a)))

pub plain-status : (g : GeometryFields) (h : List Place) (a : Act) → aim_of g (command_of a) ≡ None → first_holding (front_rows g (command_of a)) ≡ None → status g h a ≡ unwrap_or (first_holding (own_rows g h (command_of a))) success
unfolding status
plain-status g h a e none =
    let front = front_rows g (command_of a) in
    let own = own_rows g h (command_of a) in
    let rows : first_holding ((front ++ own) ++ need_rows g (counts g h) no_need false) ≡ first_holding own = first_holding-append_idle (front ++ own) (need_rows g (counts g h) no_need false) refl ∙ first_holding-append_none front own none in
    rw e (ap (λ (o : Option Status). unwrap_or o success) rows)

-- ---- commands that do nothing and read nothing

pub record IsQuiet (g : GeometryFields) (h : List Place) (cid : ℕ) (k : Cmd) : Type 0 where
  pub own : own_rows g h k ≡ []
  pub outcome : outcome_by g h cid k ≡ plain_success
  pub reads : read_by g h k ≡ []
  pub log : log_by g k (changed g h) ≡ changed g h
  pub marks : marks_by cid k (marks_of h) ≡ marks_of h

-- a command that goes to no zone, and returns or changes something
abbrev pub is_lively : Cmd → Bool
is_lively (cmd.Read nsid slba blocks) = true
is_lively (cmd.Receive nsid slba bytes act filter partial) = true
is_lively (cmd.Identify nsid cns csi) = true
is_lively (cmd.GetLog nsid page bytes offset retain) = true
is_lively (cmd.SetFeature feature value) = true
is_lively (cmd.GetFeature feature) = true
is_lively cmd.Event = true
is_lively _ = false

unsent : (act : ℕ) (option : Bool) → sent_deed act option 0 ≡ None → (act == open_code) ≡ false
unsent act option none = elim (cases_Bool (act == open_code)) [
  | inl opens ↦ (let e : act ≡ open_code = eqb-true act open_code opens in absurd (cc (none, ap (λ (n : ℕ). sent_deed n option 0) e)))
  | inr other ↦ other
]

quiet : (g : GeometryFields) (h : List Place) (cid : ℕ) (k : Cmd) → first_holding (front_rows g k) ≡ None → aim_of g k ≡ None → sweep_of k ≡ None → is_lively k ≡ false → IsQuiet g h cid k
quiet g h cid (cmd.Flush nsid) passes e none other = record { own = refl; outcome = refl; reads = refl; log = refl; marks = refl }
quiet g h cid (cmd.Send nsid slba act true option) passes e none other = record { own = rw (unsent act option none) refl; outcome = refl; reads = refl; log = refl; marks = refl }
quiet g h cid (cmd.Send nsid slba act false option) passes e none other = record { own = refl; outcome = refl; reads = refl; log = refl; marks = refl }
quiet g h cid (cmd.Unknown opcode) passes e none other = absurd (cc passes)
quiet g h cid (cmd.Write nsid slba blocks) passes e none other = absurd (cc e)
quiet g h cid (cmd.Append nsid slba blocks) passes e none other = absurd (cc e)
quiet g h cid (cmd.Excursion nsid slba kind) passes e none other = absurd (cc e)
quiet g h cid _ passes e none other = absurd (cc other)

-- it is none of the commands that return or change something
pub record IsOther (k : Cmd) : Type 0 where
  pub read : (nsid slba blocks : ℕ) → k ≡ cmd.Read nsid slba blocks → ⊥
  pub receive : (nsid slba bytes act filter : ℕ) (partial : Bool) → k ≡ cmd.Receive nsid slba bytes act filter partial → ⊥
  pub identify : (nsid cns csi : ℕ) → k ≡ cmd.Identify nsid cns csi → ⊥
  pub log : (nsid page bytes offset : ℕ) (retain : Bool) → k ≡ cmd.GetLog nsid page bytes offset retain → ⊥
  pub set : (feature value : ℕ) → k ≡ cmd.SetFeature feature value → ⊥
  pub get : (feature : ℕ) → k ≡ cmd.GetFeature feature → ⊥
  pub ask : k ≡ cmd.Event → ⊥

pub other-quiet : (k : Cmd) → IsOther k → is_lively k ≡ false
other-quiet (cmd.Read nsid slba blocks) n = absurd (n.read nsid slba blocks refl)
other-quiet (cmd.Receive nsid slba bytes act filter partial) n = absurd (n.receive nsid slba bytes act filter partial refl)
other-quiet (cmd.Identify nsid cns csi) n = absurd (n.identify nsid cns csi refl)
other-quiet (cmd.GetLog nsid page bytes offset retain) n = absurd (n.log nsid page bytes offset retain refl)
other-quiet (cmd.SetFeature feature value) n = absurd (n.set feature value refl)
other-quiet (cmd.GetFeature feature) n = absurd (n.get feature refl)
other-quiet cmd.Event n = absurd (n.ask refl)
other-quiet _ n = refl

pub quiet-done : (g : GeometryFields) (a : Act) (cells : List Cell) (book : Book) (out : List ℕ) (o : Outcome) → IsGeometry g → PartsStand g a cells book → first_holding (front_rows g (command_of a)) ≡ None → aim_of g (command_of a) ≡ None
    → sweep_of (command_of a) ≡ None → is_lively (command_of a) ≡ false → o ≡ plain_success → IsDone g a o cells cells book book out out
unfolding reply_bytes
quiet-done g a cells book out o valid p passes e none other is =
    let h = history_of g book in
    let k = quiet g h (cid_of a.sqe.bytes) (command_of a) passes e none other in
    let ok : is_success (status g h a) ≡ true = ap is_success (plain-status g h a e passes ∙ ap (λ (rows : List (Row Status)). unwrap_or (first_holding rows) success) k.own) in
    let d : done.IsDone g h a (command_of a) = record { success = ok; command = refl } in
    let silent : IsSilent g h a = record {
      idle = λ z. plain-idle g h a z e none;
      changed = changed-step g h a valid ∙ rw ok k.log;
      marks = marks-step g h a (has_asked g book.journal.acts) ∙ rw ok k.marks;
    } in
    let stands : OutcomeStands g h a o = subst (OutcomeStands g h a) (k.outcome ∙ sym is) (done-stands g h a (command_of a) d) in
    let read : out ≡ reply_bytes g h a ++ drop o.len out = rw (ok, k.reads, is) refl in
    silent-done g a o cells book out out p silent stands read (inr (plain-wants g h a e))
