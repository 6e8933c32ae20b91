-- Rules on each operand of a row.
use Rattle.std.proofs.Common.{◌≡◌, ◌<◌, refl, sym, subst, ℕ, zero, suc, Bool, true, false, List, [], ◌∷◌, map, filter, cond, arith}
use Rattle.std.specs.Prelude.{◌↔◌, All, IsTrue}
use Rattle.std.proofs.lemmas.Bool.{false≢true}
use Rattle.paris_code.specs.declared.rows.Operand.{Operand as Shown}
use Rattle.paris_code.specs.Rows.{Each, Operand, shown}
use Rattle.paris_code.specs.Rows as O
use Rattle.paris_code.specs.RuleField.{OperandFits, is_measured}
use Rattle.paris_code.specs.RuleSet.{OperandExists, is_of_set}
use Rattle.paris_code.specs.Shapes.{SetShape}

-- the first of a row, and those behind it
each_first : (P : Operand → Type 0) (a : Operand) (rest : List Operand) → Each P (a ∷ rest) ↔ (P a × Each P rest)
each_first P a [] = ((λ h. (h, tt)), (λ h. h.0))
each_first P a (b ∷ []) = ((λ h. h), (λ h. h))
each_first P a (b ∷ (c ∷ [])) = ((λ h. (h.0, (h.1, h.2))), (λ h. (h.0, h.1.0, h.1.1)))
each_first P a (b ∷ (c ∷ (d ∷ []))) = ((λ h. (h.0, (h.1, h.2, h.3))), (λ h. (h.0, h.1.0, h.1.1, h.1.2)))
each_first P a (b ∷ (c ∷ (d ∷ (e ∷ rest)))) =
    let behind = each_first P d (e ∷ rest) in (
      (λ h. let more = behind.0 h.3 in (h.0, (h.1, h.2, more.0, more.1))),
      (λ h. (h.0, h.1.0, h.1.1, behind.1 (h.1.2, h.1.3))),
    )

-- what a rule says of the operands that it is about, it says of all
of_chosen : (P : Operand → Type 0) (about : Operand → Bool) (a : Operand) (rest : List Operand) (told : Bool) → about a ≡ told
    → ((o : Operand) → about o ≡ false → P o) → Each P (cond told (a ∷ filter about rest) (filter about rest)) ↔ (P a × Each P (filter about rest))
of_chosen P about a rest true is others = each_first P a (filter about rest)
of_chosen P about a rest false is others = ((λ h. (others a is, h)), (λ h. h.1))

-- the first and those behind it are all
at_each : (Q : Shown → Type 0) (o : Shown) (rest : List Shown) → Q o → All Q rest → All Q (o ∷ rest)
at_each Q o rest first all zero d below = first
at_each Q o rest first all (suc k) d below = all k d (omega (arith, below))

-- a rule is kept where each operand that the code shows is as it says
pub keeps_each : (P : Operand → Type 0) (about : Operand → Bool) (others : (o : Operand) → about o ≡ false → P o) (row : List Shown)
    → All (λ o. P (shown o)) row ↔ Each P (filter about (map shown row))
keeps_each P about others [] = ((λ all. tt), (λ each k d below. absurd (omega (arith, below))))
keeps_each P about others (o ∷ rest) =
    let chosen = of_chosen P about (shown o) (map shown rest) (about (shown o)) refl others in
    let behind = keeps_each P about others rest in (
      (λ all. chosen.1 (all zero o (omega arith), behind.0 (λ k d below. all (suc k) d (omega (arith, below))))),
      (λ each. let both = chosen.0 each in at_each (λ x. P (shown x)) o rest both.0 (behind.1 both.1)),
    )

-- rule 2 says nothing of operands that are no field and no register
pub not_measured : (shapes : List SetShape) (slots : ℕ) (o : Operand) → is_measured o ≡ false → OperandFits shapes slots o
not_measured shapes slots (O.Bits f len) is = absurd (false≢true (sym is))
not_measured shapes slots (O.Bit mode bit) is = absurd (false≢true (sym is))
not_measured shapes slots (O.Register r) is = absurd (false≢true (sym is))
not_measured shapes slots (O.Result r) is = absurd (false≢true (sym is))
not_measured shapes slots (O.Constant k) is = absurd (false≢true (sym is))
not_measured shapes slots (O.Coordinates set list) is = absurd (false≢true (sym is))
not_measured shapes slots (O.Checked set list) is = absurd (false≢true (sym is))
not_measured shapes slots (O.Steps set list) is = absurd (false≢true (sym is))
not_measured shapes slots (O.Registers set list) is = absurd (false≢true (sym is))
not_measured shapes slots (O.CheckedRegisters set list) is = absurd (false≢true (sym is))
not_measured shapes slots _ is = tt

-- rule 5 says nothing of operands that name no set
pub not_of_set : (shapes : List SetShape) (o : Operand) → is_of_set o ≡ false → OperandExists shapes o
not_of_set shapes (O.Bits f len) is = absurd (false≢true (sym is))
not_of_set shapes (O.Bit mode bit) is = absurd (false≢true (sym is))
not_of_set shapes (O.Set set) is = absurd (false≢true (sym is))
not_of_set shapes (O.Axis set axis) is = absurd (false≢true (sym is))
not_of_set shapes (O.Coordinates set list) is = absurd (false≢true (sym is))
not_of_set shapes (O.Checked set list) is = absurd (false≢true (sym is))
not_of_set shapes (O.Steps set list) is = absurd (false≢true (sym is))
not_of_set shapes (O.Registers set list) is = absurd (false≢true (sym is))
not_of_set shapes (O.CheckedRegisters set list) is = absurd (false≢true (sym is))
not_of_set shapes _ is = tt

-- a test of each operand that the code shows tells whether the instruction keeps the rule
pub told_by_each : (P : Operand → Type 0) (about : Operand → Bool) (others : (o : Operand) → about o ≡ false → P o) (shows list : List Shown) (row : List Operand) (told : Bool)
    → list ≡ shows → map shown shows ≡ row → (IsTrue told ↔ All (λ o. P (shown o)) list) → IsTrue told ↔ Each P (filter about row)
told_by_each P about others shows list row told same is tells =
    let each = keeps_each P about others shows in
    let all = subst (λ (l : List Shown). IsTrue told ↔ All (λ o. P (shown o)) l) same tells in
    subst (λ (r : List Operand). IsTrue told ↔ Each P (filter about r)) is ((λ t. each.0 (all.0 t)), (λ h. all.1 (each.1 h)))
