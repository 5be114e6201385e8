-- What the call of a line puts into a host's ring.
use Rattle.std.proofs.Common.{◌≡◌, ℕ, ◌*◌, ◌+◌, ◌/◌, ◌^◌, ◌<◌, List, [], refl, sym, ap, ◌∙◌, arith}
use Rattle.std.specs.Prelude.{replicate}
use Rattle.std.proofs.lemmas.List.{length-replicate}
use Rattle.std.proofs.lemmas.Nat.{pow_pos}
use Rattle.std.proofs.Math.Nat.{mul-div_cancel}
use Rattle.zns_types.specs.declared.fields.GeometryFields.{GeometryFields}
use Rattle.zns_types.specs.Geometry.{block_len, first}
use Rattle.sqe_codec.specs.declared.cmd.Cmd.{Cmd}
use Rattle.sqe_codec.specs.declared.cmd.Cmd.TheVariants as cmd
use Rattle.host_library.specs.declared.loop_link.LoopLink.{LoopLink}
use Rattle.host_library.specs.Asking.{blocks_in, write_at, append_to, put_at, open_with_window, commit_to, reset_of, report_of}
use Rattle.host_library.specs.Hosts.{Hosted, after_put}
use Rattle.host_script.specs.declared.line.Line.{Line}
use Rattle.host_script.specs.declared.line.Line.TheVariants as the_line
use Rattle.host_script.specs.Lines.{data_of}
use Rattle.host_script.specs.Scripts.{command_of_line}

-- `blocks` blocks of data have that many blocks
blocks_back : (g : GeometryFields) (blocks byte : ℕ) → blocks_in g (replicate (blocks * block_len g) byte) ≡ blocks
blocks_back g blocks byte =
    let some : 0 < 2 ^ g.block_exp = pow_pos g.block_exp in
    ap (λ n. n / block_len g) (length-replicate (blocks * block_len g) byte) ∙ mul-div_cancel blocks some

no_blocks : (g : GeometryFields) (byte : ℕ) → replicate (0 * block_len g) byte ≡ []
no_blocks g byte = let none : 0 * block_len g ≡ 0 = omega arith in ap (λ n. replicate n byte) none

-- the same command with the same host data
asked : (h : Hosted LoopLink) (g : GeometryFields) (l : Line) (k : GeometryFields → List ℕ → Cmd) (payload : List ℕ) → h.geometry ≡ g → payload ≡ data_of g l → k g (data_of g l) ≡ command_of_line g l
    → after_put h (k h.geometry payload) payload ≡ after_put h (command_of_line g l) (data_of g l)
asked h g l k payload geometry same command =
    ap (λ (of : GeometryFields). after_put h (k of payload) payload) geometry
    ∙ ap (λ (bytes : List ℕ). after_put h (k g bytes) bytes) same
    ∙ ap (λ (c : Cmd). after_put h c (data_of g l)) command

pub asked-write : (h : Hosted LoopLink) (g : GeometryFields) (lba blocks byte : ℕ) (payload : List ℕ) → h.geometry ≡ g → payload ≡ data_of g (the_line.Write lba blocks byte)
    → after_put h (write_at h.geometry lba payload) payload ≡ after_put h (command_of_line g (the_line.Write lba blocks byte)) (data_of g (the_line.Write lba blocks byte))
asked-write h g lba blocks byte payload geometry same =
    asked h g (the_line.Write lba blocks byte) (λ of bytes. write_at of lba bytes) payload geometry same (ap (cmd.Write 1 lba) (blocks_back g blocks byte))

pub asked-append : (h : Hosted LoopLink) (g : GeometryFields) (zone blocks byte : ℕ) (payload : List ℕ) → h.geometry ≡ g → payload ≡ data_of g (the_line.Append zone blocks byte)
    → after_put h (append_to h.geometry zone payload) payload ≡ after_put h (command_of_line g (the_line.Append zone blocks byte)) (data_of g (the_line.Append zone blocks byte))
asked-append h g zone blocks byte payload geometry same =
    asked h g (the_line.Append zone blocks byte) (λ of bytes. append_to of zone bytes) payload geometry same (ap (cmd.Append 1 (first g zone)) (blocks_back g blocks byte))

pub asked-put : (h : Hosted LoopLink) (g : GeometryFields) (zone offset blocks byte : ℕ) (payload : List ℕ) → h.geometry ≡ g → payload ≡ data_of g (the_line.Put zone offset blocks byte)
    → after_put h (put_at h.geometry zone offset payload) payload ≡ after_put h (command_of_line g (the_line.Put zone offset blocks byte)) (data_of g (the_line.Put zone offset blocks byte))
asked-put h g zone offset blocks byte payload geometry same =
    asked h g (the_line.Put zone offset blocks byte) (λ of bytes. put_at of zone offset bytes) payload geometry same (ap (cmd.Write 1 (first g zone + offset)) (blocks_back g blocks byte))

-- commands without host data
plain : (h : Hosted LoopLink) (g : GeometryFields) (l : Line) (k : GeometryFields → Cmd) (byte : ℕ) → h.geometry ≡ g → data_of g l ≡ [] → k g ≡ command_of_line g l → after_put h (k h.geometry) [] ≡ after_put h (command_of_line g l) (data_of g l)
plain h g l k byte geometry none command =
    ap (λ (of : GeometryFields). after_put h (k of) []) geometry
    ∙ ap (λ (c : Cmd). after_put h c []) command
    ∙ ap (λ (bytes : List ℕ). after_put h (command_of_line g l) bytes) (sym none)

pub asked-open : (h : Hosted LoopLink) (g : GeometryFields) (zone : ℕ) → h.geometry ≡ g → after_put h (open_with_window h.geometry zone) [] ≡ after_put h (command_of_line g (the_line.Open zone)) (data_of g (the_line.Open zone))
asked-open h g zone geometry = plain h g (the_line.Open zone) (λ of. open_with_window of zone) 0 geometry (no_blocks g 0) refl

pub asked-flush : (h : Hosted LoopLink) (g : GeometryFields) (zone last : ℕ) → h.geometry ≡ g → after_put h (commit_to h.geometry zone last) [] ≡ after_put h (command_of_line g (the_line.Flush zone last)) (data_of g (the_line.Flush zone last))
asked-flush h g zone last geometry = plain h g (the_line.Flush zone last) (λ of. commit_to of zone last) 0 geometry (no_blocks g 0) refl

pub asked-reset : (h : Hosted LoopLink) (g : GeometryFields) (zone : ℕ) → h.geometry ≡ g → after_put h (reset_of h.geometry zone) [] ≡ after_put h (command_of_line g (the_line.Reset zone)) (data_of g (the_line.Reset zone))
asked-reset h g zone geometry = plain h g (the_line.Reset zone) (λ of. reset_of of zone) 0 geometry (no_blocks g 0) refl

pub asked-report : (h : Hosted LoopLink) (g : GeometryFields) (zone : ℕ) → h.geometry ≡ g → after_put h (report_of h.geometry zone) [] ≡ after_put h (command_of_line g (the_line.Report zone)) (data_of g (the_line.Report zone))
asked-report h g zone geometry = plain h g (the_line.Report zone) (λ of. report_of of zone) 0 geometry (no_blocks g 0) refl
