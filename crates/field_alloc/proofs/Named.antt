-- The fields that the operands of a row name, as the code shows them.
use Rattle.std.proofs.Common.{◌≡◌, refl, ap, ◌∙◌, List, [], ◌∷◌, ◌++◌, map, flat_map}
use Rattle.paris_code.specs.declared.instr.Instr.{Instr}
use Rattle.paris_code.specs.declared.operands.Field.{Field}
use Rattle.paris_code.specs.declared.rows.Operand.{Operand as Shown}
use Rattle.paris_code.specs.Rows.{row_of, shown}
use Rattle.paris_code.specs.Spans.{fields_of, fields_of_operand}

named_by : (row : List Shown) → flat_map (λ o. fields_of_operand (shown o)) row ≡ flat_map fields_of_operand (map shown row)
named_by [] = refl
named_by (o ∷ row) = ap (λ (l : List Field). fields_of_operand (shown o) ++ l) (named_by row)

pub row_names : (instr : Instr) (row list : List Shown) → list ≡ row → map shown row ≡ row_of instr → flat_map (λ o. fields_of_operand (shown o)) list ≡ fields_of instr
row_names instr row list same is = ap (flat_map (λ o. fields_of_operand (shown o))) same ∙ named_by row ∙ ap (flat_map fields_of_operand) is
