-- The memory of the plain phases when the rows of one set change.
use Rattle.std.proofs.Common.{◌≡◌, ℕ, ◌+◌, ◌<◌, cond, eqb, List, [], ◌∷◌, ◌++◌, map, length, get_or, sym, ◌∙◌, inl, inr, refl, subst, arith}
use Rattle.vp_sets.specs.Positions.{position_count}
use Rattle.std.proofs.lemmas.List.{length-map, length_push}
use Rattle.std.proofs.lemmas.Bool.{cases_eq}
use Rattle.paris_code.specs.Memory.{SameBits, fresh_memory}
use Rattle.phase_meaning.proofs.Entries.{pushed_before, pushed_last}
use Rattle.phase_gate.specs.declared.rows.Rows.{Rows}
use Rattle.phase_gate.specs.Rows.{rows_memory, row_bit, IsFresh, shape_of_rows, no_bits}
use Rattle.paris_code.specs.Shapes.{SetShape, no_shape}

-- new sets, one after another
pub fresh_none : SameBits [] (rows_memory []) (fresh_memory [])
unfolding rows_memory fresh_memory
fresh_none = record { bits = λ s p i h. absurd (omega arith); winner = refl }

pub fresh_push : (sets : List Rows) (rows : Rows) → SameBits (map shape_of_rows sets) (rows_memory sets) (fresh_memory (map shape_of_rows sets)) → IsFresh rows
    → SameBits (map shape_of_rows (sets ++ rows ∷ [])) (rows_memory (sets ++ rows ∷ [])) (fresh_memory (map shape_of_rows (sets ++ rows ∷ [])))
unfolding rows_memory fresh_memory
fresh_push sets rows before fresh = record {
  bits = λ s p i in_sets in_set bound.
      let Fresh : (ℕ → ℕ → ℕ) → SetShape → Type 0 = λ bits shape. p < position_count shape.extents → i < shape.bits + 2 → bits p i ≡ cond (eqb i shape.bits) 1 0 in
      let last : Fresh (row_bit rows) (shape_of_rows rows) = fresh p i in
      let count : length (map shape_of_rows (sets ++ rows ∷ [])) ≡ length sets + 1 = length-map (sets ++ rows ∷ []) shape_of_rows ∙ length_push sets rows in
      let all : Fresh (get_or (map row_bit (sets ++ rows ∷ [])) s no_bits) (get_or (map shape_of_rows (sets ++ rows ∷ [])) s no_shape) =
      elim (cases_eq s (length sets)) [
        | inl e ↦
            subst (λ k. Fresh (get_or (map row_bit (sets ++ rows ∷ [])) k no_bits) (get_or (map shape_of_rows (sets ++ rows ∷ [])) k no_shape)) (sym e)
            (subst (λ b. Fresh b (get_or (map shape_of_rows (sets ++ rows ∷ [])) (length sets) no_shape)) (sym (pushed_last row_bit sets rows no_bits))
            (subst (λ t. Fresh (row_bit rows) t) (sym (pushed_last shape_of_rows sets rows no_shape)) last))
        | inr n ↦
            let b : s < length sets = omega arith in
            subst (λ b. Fresh b (get_or (map shape_of_rows (sets ++ rows ∷ [])) s no_shape)) (sym (pushed_before row_bit sets rows no_bits s b))
            (subst (λ t. Fresh (get_or (map row_bit sets) s no_bits) t) (sym (pushed_before shape_of_rows sets rows no_shape s b)) (before.bits s p i (omega (arith, length-map sets shape_of_rows))))
      ] in
      all in_set bound;
  winner = refl;
}
