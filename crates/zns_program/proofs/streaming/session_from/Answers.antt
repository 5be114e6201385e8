use Rattle.std.proofs.Common.{◌^◌, ◌+◌, arith}
use Rattle.zone_model.specs.Sessions.{spelling}
use Rattle.session_file.specs.declared.given.Given.TheVariants.{Whole}
use Rattle.session_file.specs.Streams.{Gives}
use Rattle.zns_program.proofs.Sizes.{spelled_size}
use Rattle.zns_program.proofs.Joined.{all_front}
use Rattle.zns_program.proofs.streaming.session_from.Goals as goal

pub returns-in-Ok-Whole : goal.returns-in-Ok-Whole
returns-in-Ok-Whole g c =
    let left = g.S.Source.left c.args.source.now in
    let now = g.S.Source.left c.read_from.new.source in
    let s = c.in-Ok-Whole.session in
    let gives : Gives left now (Whole s) = rw c.in-Ok-Whole.field-0-is at c.in-Ok-Whole.ensures.gives in
    record {
      valid = gives.0;
      read = gives.1;
      front = all_front left now (spelling s) (2 ^ 29 + 1) gives.1 (omega (arith, spelled_size s gives.0));
    }
