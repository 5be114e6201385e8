-- Which rule of a header is the first broken one, by its three parts.
use Rattle.std.proofs.Common.{◌≡◌, ℕ, List, ◌++◌, map, Some, None, ◌∙◌}
use Rattle.zns_types.specs.declared.field.GeomErr.{GeomErr}
use Rattle.zns_types.specs.Rows.{first_holding}
use Rattle.zns_types.specs.Rules.{rules}
use Rattle.zns_types.proofs.RowLemmas.{first_holding-append_some, first_holding-append_none}
use Rattle.session_file.specs.declared.file_err.FileErr.{FileErr}
use Rattle.session_file.specs.Places.{geometry_in}
use Rattle.session_file.specs.FileRules.{start_rows, end_rows, header_rows, on_header, in_header}
use Rattle.session_file.proofs.RowSplits.{on_header-some, on_header-none}

pub start_broken : (bytes : List ℕ) (e : FileErr) → first_holding (start_rows bytes) ≡ Some e → first_holding (header_rows bytes) ≡ Some e
unfolding header_rows
start_broken bytes e h = first_holding-append_some (start_rows bytes) (map on_header (rules (geometry_in bytes)) ++ end_rows bytes) e h

-- the start passes, and a number is wrong
pub number_broken : (bytes : List ℕ) (e : GeomErr) → first_holding (start_rows bytes) ≡ None → first_holding (rules (geometry_in bytes)) ≡ Some e → first_holding (header_rows bytes) ≡ Some (in_header e)
unfolding header_rows
number_broken bytes e h k =
    first_holding-append_none (start_rows bytes) (map on_header (rules (geometry_in bytes)) ++ end_rows bytes) h
    ∙ first_holding-append_some (map on_header (rules (geometry_in bytes))) (end_rows bytes) (in_header e) (on_header-some (rules (geometry_in bytes)) e k)

-- the start and the numbers pass, so the end decides
pub end_decides : (bytes : List ℕ) → first_holding (start_rows bytes) ≡ None → first_holding (rules (geometry_in bytes)) ≡ None → first_holding (header_rows bytes) ≡ first_holding (end_rows bytes)
unfolding header_rows
end_decides bytes h k =
    first_holding-append_none (start_rows bytes) (map on_header (rules (geometry_in bytes)) ++ end_rows bytes) h
    ∙ first_holding-append_none (map on_header (rules (geometry_in bytes))) (end_rows bytes) (on_header-none (rules (geometry_in bytes)) k)
