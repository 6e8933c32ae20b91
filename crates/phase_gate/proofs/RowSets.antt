-- The sets of the plain phases by their rows.
use Rattle.std.proofs.Common.{◌≡◌, ℕ, ◌<◌, List, length, map, slice_set, get_or, sym, ap, ◌∙◌}
use Rattle.std.proofs.Math.Seq.{map-set_same}
use Rattle.std.proofs.lemmas.List.{get_or-map}
use Rattle.paris_code.specs.Shapes.{no_shape, bits_at}
use Rattle.phase_gate.specs.declared.rows.Rows.{Rows}
use Rattle.phase_gate.specs.Rows.{shape_of_rows}

-- a set whose rows keep their shape
pub same_sets : (sets : List Rows) (set : ℕ) (rows old : Rows) → shape_of_rows rows ≡ shape_of_rows (get_or sets set old) → map shape_of_rows (slice_set sets set rows) ≡ map shape_of_rows sets
same_sets sets set rows old same = map-set_same shape_of_rows sets set rows old same

-- the bits of a set are those of its rows
pub bits_of_rows : (sets : List Rows) (set : ℕ) (rows : Rows) → set < length sets → rows ≡ get_or sets set rows → rows.bits ≡ bits_at (map shape_of_rows sets) set
bits_of_rows sets set rows within is = ap (λ r. r.bits) is ∙ ap (λ s. s.bits) (sym (get_or-map shape_of_rows sets set rows no_shape within))
