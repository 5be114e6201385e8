-- The view of a list with room for more.
use Rattle.std.specs.Prelude.{ℕ, List}
use Rattle.zone_model.specs.declared.act.Act.{Act}
use Rattle.zone_model.specs.declared.reply.Reply.{Reply}

pub record KeptActs : Type 0 where
  pub acts : List Act
  pub spare : ℕ

pub record KeptReplies : Type 0 where
  pub replies : List Reply
  pub spare : ℕ
