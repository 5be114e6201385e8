-- The bytes that an act reads.
use Rattle.std.specs.Prelude.{ℕ, if◌then◌else◌, List, [], map, unwrap_or, drop}
use Rattle.std.specs.List.{flat_map, range_with_len}
use Rattle.zns_types.specs.declared.fields.GeometryFields.{GeometryFields}
use Rattle.zns_types.specs.Geometry.{zone_of, offset_of}
use Rattle.zns_types.specs.Statuses.{is_success}
use Rattle.sqe_codec.specs.declared.cmd.Cmd.{Cmd}
use Rattle.sqe_codec.specs.declared.cmd.Cmd.TheVariants as cmd
use Rattle.identify_zns.specs.Pages.{page_of}
use Rattle.zone_descriptor.specs.declared.descriptor.Descriptor.{Descriptor}
use Rattle.zone_model.specs.declared.act.Act.{Act}
use Rattle.zone_model.specs.Places.{Place, command_of}
use Rattle.zone_model.specs.Zones.{seen, zones, descriptor}
use Rattle.zone_model.specs.Notices.{changed}
use Rattle.drive_rules.specs.Reports.{report, changed_page, first_bytes}
use Rattle.zone_model.specs.Answers.{status}

abbrev pub descriptors : GeometryFields → List Place → List Descriptor
descriptors g h = map (descriptor g h) (zones g)

-- the bytes of the blocks, in order
abbrev pub blocks_read : GeometryFields → List Place → ℕ → ℕ → List ℕ
blocks_read g h slba blocks = flat_map (λ lba. seen g h (zone_of g lba) (offset_of g lba)) (range_with_len slba blocks)

-- what a command reads when it succeeds
abbrev pub read_by : GeometryFields → List Place → Cmd → List ℕ
read_by g h (cmd.Read nsid slba blocks) = blocks_read g h slba blocks
read_by g h (cmd.Receive nsid slba bytes act filter partial) = report bytes filter partial (drop (zone_of g slba) (descriptors g h))
read_by g h (cmd.Identify nsid cns csi) = unwrap_or (page_of cns csi g) []
read_by g h (cmd.GetLog nsid page bytes offset retain) = first_bytes bytes (changed_page g (changed g h))
read_by g h _ = []

-- The bytes that an act reads. A refused act reads nothing.
unfoldable pub reply_bytes : GeometryFields → List Place → Act → List ℕ
reply_bytes g h a = if is_success (status g h a) then read_by g h (command_of a) else []
