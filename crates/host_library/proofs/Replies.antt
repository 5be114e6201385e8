-- What a command that succeeded reads, and the length of a report.
use Rattle.std.proofs.Common.{◌≡◌, ℕ, ◌++◌, Bool, true, cond, List, length, refl}
use Rattle.std.specs.Prelude.{filter, replicate}
use Rattle.byteorder.specs.Endian.{little_bytes}
use Rattle.zns_types.specs.declared.fields.GeometryFields.{GeometryFields}
use Rattle.zns_types.specs.Statuses.{is_success}
use Rattle.drive_rules.specs.Reports.{passes, bytes_of_all, fitting, report}
use Rattle.zone_descriptor.specs.declared.descriptor.Descriptor.{Descriptor}
use Rattle.zone_model.specs.declared.act.Act.{Act}
use Rattle.zone_model.specs.Places.{Place, command_of}
use Rattle.zone_model.specs.Answers.{status}
use Rattle.zone_model.specs.Replies.{read_by, reply_bytes}
use Rattle.solo_drive.proofs.FirstBytes.{length-first_bytes}

pub reply-success : (g : GeometryFields) (h : List Place) (a : Act) → is_success (status g h a) ≡ true → reply_bytes g h a ≡ read_by g h (command_of a)
unfolding reply_bytes
reply-success g h a ok = rw ok refl

pub length-report : (len kind : ℕ) (partial : Bool) (ds : List Descriptor) → length (report len kind partial ds) ≡ len
length-report len kind partial ds =
    let matching = filter (λ (d : Descriptor). passes kind d.state) ds in
    let number = cond partial (length (fitting len matching)) (length matching) in
    length-first_bytes len (little_bytes 8 number ++ replicate 56 0 ++ bytes_of_all (fitting len matching))
