-- The reply to one act, from what was posted.
use Rattle.std.proofs.Common.{◌≡◌, ℕ, ◌^◌, ◌<◌, List, ◌++◌, length, take, drop, ap, sym, ◌∙◌, subst}
use Rattle.std.proofs.Math.Seq.{take-append_seam}
use Rattle.zns_types.specs.declared.fields.GeometryFields.{GeometryFields}
use Rattle.zone_model.specs.declared.act.Act.{Act}
use Rattle.zone_model.specs.declared.reply.Reply.{Reply}
use Rattle.zone_model.specs.Answers.{answered}
use Rattle.zone_model.specs.Replies.{reply_bytes}
use Rattle.drive_book.specs.declared.posted.Posted.{Posted}
use Rattle.zone_desk.specs.declared.sight.Sight.{Sight}
use Rattle.queue_controller.specs.Serving.{Serves, IsPosted}
use Rattle.queue_controller.specs.Jobs.{IsReplyTo}

-- what the act reads is at the front of the room
read-in-front : (g : GeometryFields) (a : Act) (p : Posted) (out out' : List ℕ) (acts : List Act) → IsPosted g a p out out' acts → take p.len out' ≡ reply_bytes g (answered g acts) a
read-in-front g a p out out' acts is =
    let bytes : List ℕ = reply_bytes g (answered g acts) a in
    (λ i. take (is.len i) (is.read i)) ∙ take-append_seam bytes (drop p.len out)

pub replied : (g : GeometryFields) (v w : Sight) (a : Act) (p : Posted) (out out' : List ℕ) (r : Reply) → Serves v a (IsPosted g a p out out') w → p.len < 2 ^ 32 → r.entries ≡ p.entries → r.read ≡ take p.len out' → Serves v a (IsReplyTo g a r) w
replied g v w a p out out' r s short entries read =
    let is = s.answered in
    let front : r.read ≡ reply_bytes g (answered g (v.seen ++ s.between)) a = read ∙ read-in-front g a p out out' (v.seen ++ s.between) is in
    let list : r.entries.items ≡ p.entries.items = ap (λ e. e.items) entries in
    let same = list ∙ is.entries in
    record {
      between = s.between;
      seen = s.seen;
      answered = record { is = λ i. record { entries = same i; read = front i }; short = subst (λ (n : ℕ). n < 2 ^ 32) (is.len ∙ ap (λ (l : List ℕ). length l) (sym front)) short };
      before = s.before;
      own = s.own;
      spare = s.spare;
      queue = s.queue;
      idle = s.idle;
    }
