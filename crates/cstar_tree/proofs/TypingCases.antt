-- Small computed cases of the typing rules and of the room.
use Rattle.std.proofs.Common.{refl}
use Rattle.std.specs.Prelude.{◌≡◌, [], ◌∷◌, true, false, pos, negsuc, Some, None}
use Rattle.cstar_base.specs.declared.elem.Elem.{Elem}
use Rattle.cstar_base.specs.declared.operators.Op.TheVariants as O
use Rattle.cstar_base.specs.Numbers.{number_of, residue}
use Rattle.cstar_base.specs.Numbers.{converted as converted_word}
use Rattle.cstar_base.specs.Operators.{operate, divides}
use Rattle.cstar_tree.specs.declared.syntax.AssignOp.TheVariants as A
use Rattle.cstar_tree.specs.declared.syntax.BinaryOp.TheVariants as B
use Rattle.cstar_base.specs.declared.formats.NumberFormat.TheVariants as F
use Rattle.cstar_tree.specs.declared.typed.Piece.TheVariants as C
use Rattle.cstar_tree.specs.Constants.{Constant, an_int, axis_among, cast_to, chosen, combined, operated, product, selected, with_both}
use Rattle.cstar_tree.specs.Conversions.{common, int, promoted, unsigned}
use Rattle.cstar_tree.specs.FileScopes.{extent_of, kept_extent}
use Rattle.cstar_tree.specs.Formats.{form_behind, format_of, pieces_behind, pieces_of}
use Rattle.cstar_tree.specs.Instances.{first_met, is_met}
use Rattle.cstar_tree.specs.Operations.{assigned_elem, left_elem, result_elem, right_elem}
use Rattle.cstar_tree.specs.Room.{beside, blocks}

abbrev unsigned_short : Elem
unsigned_short = record { bits = 16; signed = false; kind = refl }

abbrev char : Elem
char = record { bits = 8; signed = true; kind = refl }

-- `unsigned short` promotes to `int`, and with an `unsigned` operand the operation is unsigned
narrow : common unsigned_short char ≡ int
unfolding common promoted
narrow = refl

wide : common char unsigned ≡ unsigned
unfolding common promoted
wide = refl

-- a shift by an `unsigned` has the type of its left operand, and a comparison is an `int`
shift : result_elem O.Shl char unsigned ≡ int
unfolding result_elem left_elem promoted
shift = refl

comparison : result_elem O.Lt unsigned unsigned ≡ int
unfolding result_elem
comparison = refl

-- `c += u` is combined unsigned, `c <<= u` shifts by an `unsigned`, `c = u` stores at `char`
combined_type : assigned_elem A.Add char unsigned ≡ unsigned
unfolding assigned_elem common promoted
combined_type = refl

stored_type : assigned_elem A.Set char unsigned ≡ char
unfolding assigned_elem
stored_type = refl

-- `1 ? 2 : 1 / 0` is 2, `0 && 1 / 0` is 0, and `1 / 0` is a fault
fault : Constant
fault = record { elem = int; word = None }

no_quotient : (operated O.Div (an_int 1) (an_int 0)).word ≡ None
unfolding operated left_elem right_elem result_elem common promoted cast_to with_both operate divides converted_word number_of residue
no_quotient = refl

chosen_only : (selected (an_int 1) (an_int 2) fault).word ≡ Some 2
unfolding selected chosen cast_to common promoted converted_word number_of residue fault
chosen_only = refl

left_only : (combined B.LogicalAnd (an_int 0) fault).word ≡ Some 0
unfolding combined chosen fault
left_only = refl

-- an axis is from 0 to rank - 1, an extent at least 1
last_axis : axis_among (2 ∷ 3 ∷ []) (Some (pos 1)) ≡ Some 1
last_axis = refl

no_axis : axis_among (2 ∷ 3 ∷ []) (Some (pos 2)) ≡ None
no_axis = refl

no_extent : extent_of (Some (pos 0)) ≡ None
no_extent = refl

-- a shape keeps 1 for an extent that is no constant, and 0 for a negative one
kept_faulty : kept_extent None ≡ 1
kept_faulty = refl

kept_negative : kept_extent (Some (negsuc 0)) ≡ 0
kept_negative = refl

-- "%d%%\n" is a conversion and two bytes, and "%" is no form
format : pieces_of (37 ∷ 100 ∷ 37 ∷ 37 ∷ 10 ∷ []) ≡ Some (C.Argument F.Signed ∷ C.Bytes (37 ∷ 10 ∷ []) ∷ [])
unfolding pieces_behind form_behind format_of
format = refl

no_form : pieces_of (37 ∷ []) ≡ None
unfolding pieces_behind form_behind
no_form = refl

-- the third part of an expression stands beside two values, a shape of 513 positions has two blocks
third_part : beside 2 33 ≡ 99
unfolding beside
third_part = refl

two_blocks : blocks (513 ∷ []) ≡ 2
unfolding blocks product
two_blocks = refl

-- instances are numbered where they are first met
numbered : first_met [] (record { function = 1; current = None } ∷ record { function = 0; current = Some 0 } ∷ record { function = 1; current = None } ∷ []) ≡ record { function = 1; current = None } ∷ record { function = 0; current = Some 0 } ∷ []
unfolding first_met is_met
numbered = refl
