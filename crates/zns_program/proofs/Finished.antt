-- What the end of a run means, by what was made and how it was written.
use Rattle.std.proofs.Common.{◌≡◌, ℕ, List, Some, Result, Ok, Err, sym, subst, ◌∙◌, inl}
use Rattle.std.specs.Prelude.{◌⊎◌}
use Rattle.zns_io.specs.declared.bytes.Bytes.{Bytes}
use Rattle.session_file.specs.declared.file_err.Which.TheVariants as which
use Rattle.zns_program.specs.declared.status.Status.{Status}
use Rattle.zns_program.specs.declared.status.Status.TheVariants as status
use Rattle.zns_program.specs.declared.task.Task.{Task}
use Rattle.zns_program.specs.Tasks.{AskFor}
use Rattle.zns_program.specs.Outcomes.{Streams, Means, IsAnswered, GoesByCount}
use Rattle.zns_program.specs.Making.{MakesByCount, GivesOutput, EndsBy}
use Rattle.zns_program.proofs.Ends.{ended, not_usage, same_end, same_output, output_called, end_called}
use Rattle.zns_program.proofs.ByCount.{AskForOne, ended_by_count, made_by_count}

-- how a run ends between these moments
abbrev pub Ending : Result Bytes Status → Streams → Streams → Status → Type 0
Ending r before now s = EndsBy r before.taken now.taken before.sink_faults now.sink_faults s

-- what is made between these moments
abbrev pub Making : Task → Result Bytes Status → Streams → Streams → Type 0
Making t r before now = GivesOutput t before.left now.left before.source_faults now.source_faults r

pub finished : (words : List (List ℕ)) (t : Task) (before now : Streams) (r : Result Bytes Status) (s : Status) → AskFor words t → Making t r before now → Ending r before now s → Means words before now s
finished words t before now (Ok output) status.Ok asked made ends = record { task = t; asked = asked; input = made.input; read = made.read; output = output; made = made.made; written = ends }
finished words t before now (Ok output) status.NoMemory asked made ends = absurd ends
finished words t before now (Ok output) status.Usage asked made ends = absurd ends
finished words t before now (Ok output) status.ReadFault asked made ends = absurd ends
finished words t before now (Ok output) status.WriteFault asked made ends = record { task = t; asked = asked; input = made.input; read = made.read; output = output; made = made.made; written = ends.0; fault = ends.1 }
finished words t before now (Ok output) (status.BadFile reason offset) asked made ends = absurd ends
finished words t before now (Ok output) (status.TooLarge which number) asked made ends = absurd ends
finished words t before now (Ok output) (status.Differs offset) asked made ends = absurd ends
finished words t before now (Err e) s asked made ends = subst (λ x. Means words before now x) (sym ends.0) (ended words t before now e asked ends.1 ends.2 made)

-- the status of a run that was asked for something is not Usage
pub not_usage_end : (t : Task) (before now : Streams) (r : Result Bytes Status) (s : Status) → Making t r before now → Ending r before now s → s ≡ status.Usage → ⊥
not_usage_end t before now (Ok output) status.Ok made ends is = absurd cc
not_usage_end t before now (Ok output) status.NoMemory made ends is = ends
not_usage_end t before now (Ok output) status.Usage made ends is = ends
not_usage_end t before now (Ok output) status.ReadFault made ends is = ends
not_usage_end t before now (Ok output) status.WriteFault made ends is = absurd cc
not_usage_end t before now (Ok output) (status.BadFile reason offset) made ends is = ends
not_usage_end t before now (Ok output) (status.TooLarge which number) made ends is = ends
not_usage_end t before now (Ok output) (status.Differs offset) made ends is = ends
not_usage_end t before now (Err e) s made ends is = not_usage t before now e made (sym ends.0 ∙ is)

pub answered : (words : List (List ℕ)) (t u : Task) (before now : Streams) (r : Result Bytes Status) (s : Status) → (AskFor words u → Some t ≡ Some u) → Making t r before now → Ending r before now s → IsAnswered u words before now s
answered words t u before now (Ok output) status.Ok one made ends = λ bytes answer asked told calls calm_source calm_sink.
    inl (output_called u before.left now.left output bytes answer (same_output t u before.left now.left output (one asked) made) told calls)
answered words t u before now (Ok output) status.NoMemory one made ends = absurd ends
answered words t u before now (Ok output) status.Usage one made ends = absurd ends
answered words t u before now (Ok output) status.ReadFault one made ends = absurd ends
answered words t u before now (Ok output) status.WriteFault one made ends = λ bytes answer asked told calls calm_source calm_sink. absurd (calm_sink ends.1)
answered words t u before now (Ok output) (status.BadFile reason offset) one made ends = absurd ends
answered words t u before now (Ok output) (status.TooLarge which number) one made ends = absurd ends
answered words t u before now (Ok output) (status.Differs offset) one made ends = absurd ends
answered words t u before now (Err e) s one made ends = λ bytes answer asked told calls calm_source calm_sink.
    subst (λ x. (x ≡ answer) ⊎ (x ≡ status.NoMemory)) (sym ends.0)
    (end_called u before.left now.left before.source_faults now.source_faults e bytes answer (same_end t u before.left now.left before.source_faults now.source_faults e (one asked) made) told calls calm_source)

-- a run with an output isn't refused for its number of commands
no_refusal : (before now : Streams) (output : Bytes) (s : Status) (count : ℕ) → Ending (Ok output) before now s → s ≡ status.TooLarge which.Commands count → ⊥
no_refusal before now output status.Ok count ends is = absurd cc
no_refusal before now output status.NoMemory count ends is = ends
no_refusal before now output status.Usage count ends is = ends
no_refusal before now output status.ReadFault count ends is = ends
no_refusal before now output status.WriteFault count ends is = absurd cc
no_refusal before now output (status.BadFile reason offset) count ends is = ends
no_refusal before now output (status.TooLarge which number) count ends is = ends
no_refusal before now output (status.Differs offset) count ends is = ends

pub counted : (words : List (List ℕ)) (t : Task) (before now : Streams) (r : Result Bytes Status) (s : Status) → AskForOne words t → MakesByCount t r → Ending r before now s → GoesByCount words s
counted words t before now (Ok output) s one makes ends = made_by_count words t output s one makes (λ count is. no_refusal before now output s count ends is)
counted words t before now (Err e) s one makes ends = subst (λ x. GoesByCount words x) (sym ends.0) (ended_by_count words t e one makes)
