-- What the operands of an instruction put.
use Rattle.std.specs.Prelude.{ℕ, List, [], ◌∷◌, ◌++◌, map}
use Rattle.paris_code.specs.Listing.{register_text, immediate_text, konst_text, target_text, unit_text, set_text, axis_text, field_text, place_text, kind_text, direction_text, mode_text, bit_text, inclusion_text, coordinate_text, checked_text, checked_register_text, step_text, bytes_text}
use Rattle.paris_text.specs.declared.operands.Operand.{Operand}
use Rattle.paris_text.specs.declared.operands.Operand.TheVariants as O
use Rattle.paris_text.specs.declared.operands.Fixed.{Fixed}
use Rattle.paris_text.specs.declared.operands.Fixed.TheVariants as F
use Rattle.paris_text.specs.declared.operands.Rest.{Rest}
use Rattle.paris_text.specs.declared.operands.Rest.TheVariants as R
use Rattle.paris_text.specs.declared.operands.Operands.{Operands}

abbrev pub operand_text : Operand → List ℕ
operand_text (O.Field f) = field_text f
operand_text (O.Register r) = register_text r
operand_text (O.Immediate n) = immediate_text n
operand_text (O.Konst k) = konst_text k
operand_text (O.Target n) = target_text n
operand_text (O.Unit n) = unit_text n
operand_text (O.Set n) = set_text n
operand_text (O.Axis n) = axis_text n
operand_text (O.Place p) = place_text p
operand_text (O.Kind e) = kind_text e
operand_text (O.Direction d) = direction_text d
operand_text (O.Mode m) = mode_text m
operand_text (O.Bit b) = bit_text b
operand_text (O.Inclusion i) = inclusion_text i

abbrev pub fixed_list : Fixed → List Operand
fixed_list F.Zero = []
fixed_list (F.One a) = a ∷ []
fixed_list (F.Two a b) = a ∷ b ∷ []
fixed_list (F.Three a b c) = a ∷ b ∷ c ∷ []
fixed_list (F.Four a b c d) = a ∷ b ∷ c ∷ d ∷ []
fixed_list (F.Seven a b c d e f g) = a ∷ b ∷ c ∷ d ∷ e ∷ f ∷ g ∷ []

abbrev pub rest_words : Rest → List (List ℕ)
rest_words R.Nothing = []
rest_words (R.Coordinates list) = map coordinate_text list.now
rest_words (R.Checked list) = map checked_text list.now
rest_words (R.Steps list) = map step_text list.now
rest_words (R.Registers list) = map register_text list.now
rest_words (R.CheckedRegisters list) = map checked_register_text list.now
rest_words (R.Bytes list) = bytes_text list.now ∷ []

-- the words of all operands
abbrev pub words_of : Operands → List (List ℕ)
words_of o = map operand_text (fixed_list o.fixed) ++ rest_words o.rest
