-- The fields of a moved instruction.
use Rattle.std.proofs.Common.{◌≡◌, refl, sym, ap, ◌∙◌, ℕ, List, [], ◌∷◌, ◌++◌, map, flat_map, option_to_list, Option, Some, None}
use Rattle.std.proofs.lemmas.List.{map-append, append-nil}
use Rattle.paris_code.specs.declared.operands.Coordinate.{Coordinate}
use Rattle.paris_code.specs.declared.operands.Coordinate.TheVariants as C
use Rattle.paris_code.specs.declared.operands.Field.{Field}
use Rattle.paris_code.specs.declared.operands.SignedCoordinate.{SignedCoordinate}
use Rattle.paris_code.specs.declared.instr.Instr.{Instr}
use Rattle.paris_code.specs.declared.instr.Instr.TheVariants as I
use Rattle.paris_code.specs.Moving.{IsMoved, moved, moved_bit, moved_coordinate, moved_signed}
use Rattle.paris_code.specs.Operands.{coordinate_of}
use Rattle.paris_code.specs.Spans.{fields_of, fields_of_coordinate}

one_moved : (p : List ℕ) (c : Coordinate) → fields_of_coordinate (moved_coordinate p c) ≡ map (moved p) (fields_of_coordinate c)
one_moved p (C.Field f) = refl
one_moved p (C.Reg r) = refl

all_moved : (p : List ℕ) (cs : List Coordinate) → flat_map fields_of_coordinate (map (moved_coordinate p) cs) ≡ map (moved p) (flat_map fields_of_coordinate cs)
all_moved p [] = refl
all_moved p (c ∷ cs) =
    ap (λ l. l ++ flat_map fields_of_coordinate (map (moved_coordinate p) cs)) (one_moved p c)
    ∙ ap (λ l. map (moved p) (fields_of_coordinate c) ++ l) (all_moved p cs)
    ∙ sym (map-append (moved p) (fields_of_coordinate c) (flat_map fields_of_coordinate cs))

checked_moved : (p : List ℕ) (cs : List SignedCoordinate) → flat_map (λ c. fields_of_coordinate (coordinate_of c)) (map (moved_signed p) cs) ≡ map (moved p) (flat_map (λ c. fields_of_coordinate (coordinate_of c)) cs)
checked_moved p [] = refl
checked_moved p (c ∷ cs) =
    ap (λ l. l ++ flat_map (λ e. fields_of_coordinate (coordinate_of e)) (map (moved_signed p) cs)) (one_moved p c.coordinate)
    ∙ ap (λ l. map (moved p) (fields_of_coordinate c.coordinate) ++ l) (checked_moved p cs)
    ∙ sym (map-append (moved p) (fields_of_coordinate c.coordinate) (flat_map (λ e. fields_of_coordinate (coordinate_of e)) cs))

bit_moved : (p : List ℕ) (bit : Option Field) → option_to_list (moved_bit p bit) ++ [] ≡ map (moved p) (option_to_list bit ++ [])
bit_moved p None = refl
bit_moved p (Some f) = refl

pub fields_moved : (p : List ℕ) (instr over : Instr) → IsMoved p instr over → fields_of over ≡ map (moved p) (fields_of instr)
fields_moved p (I.MakeAddress d set cs) (I.MakeAddress e t over) is =
    ap (λ f. f ∷ (flat_map fields_of_coordinate over.items ++ [])) is.0
    ∙ ap (λ l. moved p d ∷ l) (append-nil _ ∙ ap (flat_map fields_of_coordinate) is.2 ∙ all_moved p cs.items ∙ ap (map (moved p)) (sym (append-nil _)))
fields_moved p (I.MakeAddress d set cs) over is = absurd is
fields_moved p (I.CheckTarget set place cs) (I.CheckTarget t at over) is =
    append-nil _ ∙ ap (flat_map (λ c. fields_of_coordinate (coordinate_of c))) is.2 ∙ checked_moved p cs.items ∙ ap (map (moved p)) (sym (append-nil _))
fields_moved p (I.CheckTarget set place cs) over is = absurd is
fields_moved p (I.Scan c d a axis direction mode bit within) over is =
    ap fields_of is ∙ ap (λ l. moved p d ∷ (moved p a ∷ l)) (bit_moved p bit)
fields_moved p instr over is = ap fields_of is
