-- The heights of stacks of entries.
use Rattle.std.proofs.Common.{◌≡◌, ℕ, zero, suc, ◌<◌, ◌≤◌, inl, inr, List, [], ◌∷◌, ap, arith}
use Rattle.std.specs.Prelude.{sum_by}
use Rattle.std.proofs.lemmas.List.Sums.{sum_by-cons}
use Rattle.paris_code.specs.declared.program.Program.{Program}
use Rattle.paris_code.specs.declared.program.Unit.{Unit as CodeUnit}
use Rattle.paris_code.specs.Ends.{AreEnds, EndsAreStacks, HeightsHoldEntries}
use Rattle.paris_code.specs.Proper.{IsOwn, IsStack, length_of, length_or_none}

own_length : (unit : CodeUnit) (entry set len : ℕ) → IsOwn unit entry set len → length_of unit entry ≡ len
own_length unit entry set len own = ap length_or_none own

-- no stack is higher than the end of its highest entry
stack_below : (program : Program) (number set entry len : ℕ) (unit : CodeUnit) (ends : ℕ → ℕ) → AreEnds program number unit ends → IsOwn unit entry set len → (entries : List ℕ) → IsStack program number unit set (entry ∷ entries) → sum_by (length_of unit) (entry ∷ entries) ≤ ends entry
stack_below program number set entry len unit ends are own [] stack =
    let same = own_length unit entry set len own in
    elim (are.exact entry set len own) [ inl e ↦ omega (arith, e, same) | inr w ↦ omega (arith, w.2, same) ]
stack_below program number set entry len unit ends are own (other ∷ entries) stack =
    let same = own_length unit entry set len own in
    let up = are.above entry set len other own stack.0 in
    let below = stack_below program number set other stack.0.1.0 unit ends are stack.0.1.1 entries stack.1 in
    omega (arith, up, below, same, sum_by-cons (length_of unit) entry (other ∷ entries))

-- some stack is as high
highest : (program : Program) (number set len : ℕ) (unit : CodeUnit) (ends : ℕ → ℕ) → AreEnds program number unit ends → (most entry : ℕ) → entry < most → IsOwn unit entry set len → (entries : List ℕ) × IsStack program number unit set (entry ∷ entries) × (sum_by (length_of unit) (entry ∷ entries) ≡ ends entry)
highest program number set len unit ends are zero entry lt own = absurd (omega arith)
highest program number set len unit ends are (suc most) entry lt own =
    let same = own_length unit entry set len own in
    elim (are.exact entry set len own) [
      | inl e ↦ ([], tt, omega (arith, e, same))
      | inr w ↦
          let r = highest program number set w.1.1.0 unit ends are most w.0 (omega (arith, w.1.0)) w.1.1.1 in
          (w.0 ∷ r.0, (w.1, r.1), omega (arith, r.2, w.2, same, sum_by-cons (length_of unit) entry (w.0 ∷ r.0)))
    ]

pub ends_are_stacks : (program : Program) → EndsAreStacks program
ends_are_stacks program number set entry len unit ends are own =
    (λ entries stack. stack_below program number set entry len unit ends are own entries stack, highest program number set len unit ends are (suc entry) entry (omega arith) own)

pub heights_hold : (program : Program) → HeightsHoldEntries program
heights_hold program set most number entry len unit height is_unit own =
    let same = own_length unit entry set len own in
    let stack = height.1 number unit entry len [] is_unit own tt in
    let chain = height.2 (number ∷ []) tt in
    omega (arith, stack, chain, same)
