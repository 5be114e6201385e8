-- The replies to acts that come one after another.
use Rattle.std.specs.Prelude.{◌≡◌, ℕ, List, [], ◌∷◌, ◌++◌, map, cond, All}
use Rattle.zns_types.specs.declared.fields.GeometryFields.{GeometryFields}
use Rattle.cqe_codec.specs.declared.cqe.Cqe.{Cqe}
use Rattle.zone_model.specs.declared.act.Act.{Act}
use Rattle.zone_model.specs.declared.reply.Reply.{Reply}
use Rattle.zone_model.specs.Answers.{answered}
use Rattle.zone_model.specs.Entries.{posted}
use Rattle.zone_model.specs.Replies.{reply_bytes}
use Rattle.zone_model.specs.Sessions.{is_of}
use Rattle.session_file.specs.Results.{IsShort}

-- the answer to an act: the entries that it posts, and the bytes that it reads
pub record Response : Type 0 where
  pub entries : List Cqe
  pub read : List ℕ

abbrev pub response_of : Reply → Response
response_of r = record { entries = r.entries.items; read = r.read }

-- the response to an act that comes after others
abbrev pub response_at : GeometryFields → List Act → Act → Response
response_at g before a = record { entries = posted g (answered g before) a; read = reply_bytes g (answered g before) a }

-- one more response, if the act is counted
abbrev pub with_response : Response → List Response → Act → ℕ → List Response
with_response r rs a queue = cond (is_of queue a) (r ∷ rs) rs

-- the responses to the acts of a queue, each at its place among acts that come after others
abbrev pub queue_responses : GeometryFields → ℕ → List Act → List Act → List Response
queue_responses g queue before [] = []
queue_responses g queue before (a ∷ acts) = with_response (response_at g before a) (queue_responses g queue (before ++ a ∷ []) acts) a queue

-- the responses to all of them
abbrev pub all_responses : GeometryFields → List Act → List Act → List Response
all_responses g before [] = []
all_responses g before (a ∷ acts) = response_at g before a ∷ all_responses g (before ++ a ∷ []) acts

-- The replies are these responses, and each fits a result file.
pub record Respond (replies : List Reply) (responses : List Response) : Type 0 where
  pub are : map response_of replies ≡ responses
  pub short : All IsShort replies
