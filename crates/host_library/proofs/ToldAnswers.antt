-- What an answer says if the link tells its history.
use Rattle.std.proofs.Common.{◌≡◌, ℕ, ◌<◌, Bool, true, false, List, [], ◌∷◌, ◌++◌, length, take, drop, Option, Some, None, refl, sym, ap, ◌∙◌, subst}
use Rattle.std.specs.Prelude.{◌==◌, ◌&&◌, filter, slice_get}
use Rattle.std.proofs.lemmas.Bool.{and_parts, eqb-true}
use Rattle.zns_types.specs.declared.fields.GeometryFields.{GeometryFields}
use Rattle.zns_types.specs.Geometry.{IsGeometry, zone_of}
use Rattle.zns_types.specs.Statuses.{is_success}
use Rattle.sqe_codec.specs.declared.cmd.Cmd.{Cmd}
use Rattle.sqe_codec.specs.declared.cmd.Cmd.TheVariants as cmd
use Rattle.sqe_codec.specs.Commands.{cid_of}
use Rattle.cqe_codec.specs.Entries.{sets_unused, Spells}
use Rattle.drive_rules.specs.declared.deed.Deed.{Deed}
use Rattle.drive_rules.specs.Reports.{report}
use Rattle.zone_descriptor.specs.declared.descriptor.Descriptor.{Descriptor}
use Rattle.zone_model.specs.declared.act.Act.{Act}
use Rattle.zone_model.specs.Places.{Place, command_of, is_event_request}
use Rattle.zone_model.specs.Answers.{status, answered}
use Rattle.zone_model.specs.Entries.{own_entry, posted}
use Rattle.zone_model.specs.Replies.{descriptors, read_by, reply_bytes}
use Rattle.host_library.specs.declared.shadow.Shadow.{Shadow}
use Rattle.host_library.specs.Links.{SpellsFirst}
use Rattle.host_library.specs.Shadows.{is_known, shadow_after, drive_shadow}
use Rattle.host_library.specs.Asking.{is_asked, deed_of, shadow_led, shadow_done}
use Rattle.host_library.specs.Hosts.{IsTrueShadow}
use Rattle.host_library.specs.Pumping.{verdict_of, verdict_told}
use Rattle.host_library.proofs.Asked.{named}
use Rattle.host_library.proofs.ActShadows.{own-shadow}
use Rattle.host_library.proofs.ReportShadows.{reported, descriptor-shown}
use Rattle.host_library.proofs.Replies.{reply-success, length-report}

-- ---- entries

no_event : (ok : Bool) (none : Bool) → (ok && false && none) ≡ false
no_event true none = refl
no_event false none = refl

pub posted-first : (g : GeometryFields) (h : List Place) (a : Act) → is_event_request (command_of a) ≡ false → slice_get (posted g h a) 0 ≡ Some (own_entry g h a)
unfolding posted
posted-first g h a other = rw (other, no_event) refl

record Reads (g : GeometryFields) (h : List Place) (a : Act) (bytes : List ℕ) : Type 0 where
  spells : Spells bytes (own_entry g h a)
  whole : sets_unused bytes ≡ false

reads : (g : GeometryFields) (h : List Place) (a : Act) (bytes : List ℕ) → is_event_request (command_of a) ≡ false → SpellsFirst (posted g h a) bytes → Reads g h a bytes
reads g h a bytes other first =
    let own : first.entry ≡ own_entry g h a = let e = posted-first g h a other in cc (e, first.first) in
    let spells : Spells bytes (own_entry g h a) = subst (Spells bytes) own first.spells in
    record {
      spells = spells;
      whole = rw (spells.status.retry_delay, spells.status.more) refl;
    }

-- What an entry says is what the definitions say of the act.
pub verdict-told : (g : GeometryFields) (h : List Place) (a : Act) (bytes : List ℕ) (len : ℕ) → is_event_request (command_of a) ≡ false → SpellsFirst (posted g h a) bytes → len ≡ length (reply_bytes g h a)
    → verdict_of (cid_of a.sqe.bytes) bytes len ≡ verdict_told g h a
verdict-told g h a bytes len other first e =
    let r = reads g h a bytes other first in
    let low = r.spells.dw0 in
    let high = r.spells.dw1 in
    let kind = r.spells.status.sct in
    let code = r.spells.status.sc in
    rw (r.whole, kind, code, low, high, e) refl

-- ---- bytes

same_report : (m n i j : ℕ) (p q : Bool) (ds : List Descriptor) → m ≡ n → i ≡ j → p ≡ q → report m i p ds ≡ report n j q ds
same_report m n i j p q ds e f k = ap (λ (x : ℕ). report x i p ds) e ∙ ap (λ (x : ℕ). report n x p ds) f ∙ ap (λ (x : Bool). report n j x ds) k

record ReportParts (bytes filter : ℕ) (partial : Bool) : Type 0 where
  len : bytes ≡ 128
  all : filter ≡ 0
  few : partial ≡ true

report_parts : (bytes act filter : ℕ) (partial : Bool) → ((bytes == 128) && (act == 0) && (filter == 0) && partial) ≡ true → ReportParts bytes filter partial
report_parts bytes act filter partial e =
    let p = and_parts ((bytes == 128) && (act == 0) && (filter == 0)) partial e in
    let q = and_parts ((bytes == 128) && (act == 0)) (filter == 0) p.0 in
    let r = and_parts (bytes == 128) (act == 0) q.0 in
    record { len = eqb-true bytes 128 r.0; all = eqb-true filter 0 q.1; few = p.1 }

-- ---- the shadow of a command that succeeded

led-true : (g : GeometryFields) (acts : List Act) (a : Act) (s : Shadow) → IsGeometry g → is_asked g (command_of a) ≡ true → is_success (status g (answered g acts) a) ≡ true
    → IsTrueShadow g acts (named g (command_of a)) s → (o : Option Deed) → deed_of g (command_of a) ≡ o → IsTrueShadow g (acts ++ a ∷ []) (named g (command_of a)) (shadow_led g o s)
led-true g acts a s is asked ok was None e known = was known ∙ sym (own-shadow g acts a None is asked ok e)
led-true g acts a s is asked ok was (Some d) e known = by_known (is_known s.stage) refl known
  where
    by_known : (b : Bool) → is_known s.stage ≡ b → is_known (shadow_led g (Some d) s).stage ≡ true → shadow_led g (Some d) s ≡ drive_shadow g (answered g (acts ++ a ∷ [])) (named g (command_of a))
    by_known true is_so on = rw is_so (ap (shadow_after g d) (was is_so) ∙ sym (own-shadow g acts a (Some d) is asked ok e))
    by_known false is_so on = let off : is_known (shadow_led g (Some d) s).stage ≡ false = rw is_so refl in absurd (cc (on, off))

-- The shadow that a command of a host leaves is the drive's.
pub done-true : (g : GeometryFields) (acts : List Act) (a : Act) (out : List ℕ) (s : Shadow) → IsGeometry g → is_asked g (command_of a) ≡ true → is_success (status g (answered g acts) a) ≡ true
    → take (length (reply_bytes g (answered g acts) a)) out ≡ reply_bytes g (answered g acts) a → named g (command_of a) < g.zones
    → IsTrueShadow g acts (named g (command_of a)) s → IsTrueShadow g (acts ++ a ∷ []) (named g (command_of a)) (shadow_done g (command_of a) out s)
done-true g acts a out s is asked ok read lt was = by_command (command_of a) refl
  where
    by_command : (k : Cmd) → command_of a ≡ k → IsTrueShadow g (acts ++ a ∷ []) (named g (command_of a)) (shadow_done g k out s)
    by_command (cmd.Receive nsid slba bytes act filter partial) e =
        let parts = report_parts bytes act filter partial (rw e at asked) in
        let reply : reply_bytes g (answered g acts) a ≡ report 128 0 true (drop (zone_of g slba) (descriptors g (answered g acts))) =
        reply-success g (answered g acts) a ok ∙ ap (read_by g (answered g acts)) e ∙ same_report bytes 128 filter 0 partial true (drop (zone_of g slba) (descriptors g (answered g acts))) parts.len parts.all parts.few in
        let long : length (reply_bytes g (answered g acts) a) ≡ 128 = ap length reply ∙ length-report 128 0 true _ in
        let here : zone_of g slba < g.zones = rw e at lt in
        let front : take 128 out ≡ report 128 0 true (drop (zone_of g slba) (descriptors g (answered g acts))) = subst (λ (n : ℕ). take n out ≡ report 128 0 true (drop (zone_of g slba) (descriptors g (answered g acts)))) long (read ∙ reply) in
        let shown = reported g (answered g acts) (zone_of g slba) out here front in
        let none : deed_of g (command_of a) ≡ None = ap (deed_of g) e in
        let stays = own-shadow g acts a None is asked ok none in
        let same_zone : zone_of g slba ≡ named g (command_of a) = sym (ap (named g) e) in
        λ known. rw shown (descriptor-shown g acts (zone_of g slba) is here ∙ ap (λ (z : ℕ). drive_shadow g (answered g acts) z) same_zone ∙ sym stays)
    by_command k e = led-true g acts a s is asked ok was (deed_of g k) (ap (deed_of g) e)
