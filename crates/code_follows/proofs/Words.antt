-- Numbers and the words of 32 bits that hold them, and constants.
use Rattle.std.proofs.Common.{◌≡◌, ◌∙◌, ◌⊎◌, ℕ, inl, inr, ◌<◌, ◌^◌, ◌==◌, true, not, Bool, false, Option, Some, None, refl, sym, ap, subst, if◌then◌else◌, arith, List, [], ◌∷◌}
use Rattle.std.specs.Prelude.{IfSome, is_none}
use Rattle.std.specs.Int.{from_bool}
use Rattle.cstar_base.specs.declared.elem.Elem.{Elem}
use Rattle.cstar_base.specs.Numbers.{converted, number_of, residue, truth_of}
use Rattle.cstar_base.proofs.NumberLaws.{modulus_in_word, residue_of_number}
use Rattle.cstar_tree.specs.declared.typed.TExpr.{TExpr, Row_of-TExpr, end_of-TExpr, more_of-TExpr}
use Rattle.cstar_tree.specs.declared.typed.TExpr as T
use Rattle.cstar_tree.specs.declared.typed.ValueType.{ValueType}
use Rattle.cstar_tree.specs.Typed.{type_of}
use Rattle.constant_trees.proofs.Words.{converted_below, from_bool_below, operate_below, unary_below}
use Rattle.lower_expr.specs.Steps.{is_kept}
use Rattle.source_meaning.specs.Constants.{then_value, value_of}
use Rattle.source_meaning.specs.Reductions.{int_type}
use Rattle.source_meaning.specs.Values.{nonzero, cast_through, cast_type}
use Rattle.code_follows.specs.Fragment.{AllAmong, AreIn, IsIn, IsPosition, IsScalarType, IsVariable, May, NamesAmong, naming}
use Rattle.cstar_tree.specs.declared.typed.Variable.{Variable}
use mathlib.Core.Former.{Count}
use Rattle.code_follows.proofs.Following.{held}

-- a conversion to 32 bits takes the residue of the number
pub wide_converted : (to from : Elem) (w : ℕ) → to.bits ≡ 32 → converted to from w ≡ residue 32 (number_of from.bits from.signed w)
unfolding converted
wide_converted to from w wide = ap (λ (n : ℕ). if n == 1 then truth_of (number_of from.bits from.signed w) else residue n (number_of from.bits from.signed w)) wide

pub held_wide : (elem : Elem) (w : ℕ) → elem.bits ≡ 32 → w < 2 ^ 32 → held elem w ≡ w
held_wide elem w wide few =
    wide_converted int_type elem w refl ∙ ap (λ (n : ℕ). residue 32 (number_of n elem.signed w)) wide ∙ residue_of_number 32 elem.signed w few

pub held_converted : (to from : Elem) (w : ℕ) → to.bits ≡ 32 → converted to from w ≡ held from w
held_converted to from w wide = wide_converted to from w wide ∙ sym (wide_converted int_type from w refl)

pub below_bits : (bits w : ℕ) → bits ≡ 32 → w < 2 ^ 32 → w < 2 ^ bits
below_bits bits w wide few = subst (λ (n : ℕ). w < 2 ^ n) (sym wide) few

-- a number of any type is a word
pub within_word : (elem : Elem) (w : ℕ) → w < 2 ^ elem.bits → w < 2 ^ 32
within_word elem w few = omega (arith, few, modulus_in_word elem.bits elem.signed elem.kind)

pub below_word : (bits w : ℕ) → bits ≡ 32 → w < 2 ^ bits → w < 2 ^ 32
below_word bits w wide few = subst (λ (n : ℕ). w < 2 ^ n) wide few

-- the expressions are of scalar types
pub scalar_of : (may : May) (e : TExpr) → IsIn may e → IsScalarType (type_of e)
unfolding IsIn
scalar_of may (T.Number ty value) h = h.0.0
scalar_of may (T.PositionsOf ty shape value) h = h.0.0
scalar_of may (T.RankOf ty shape value) h = h.0.0
scalar_of may (T.DimOf ty shape axis value) h = h.0.0
scalar_of may (T.Variable ty x) h = h.0
scalar_of may (T.GetChar ty) h = h.0
scalar_of may (T.Brackets' ty p inner) h = subst (λ (y : ValueType). IsScalarType y) (sym h.0) (scalar_of may inner h.1)
scalar_of may (T.Convert' ty p operand) h = h.0
scalar_of may (T.Casts' ty elems p operand) h = h.0
scalar_of may (T.Unary' ty op p operand) h = h.0.0
scalar_of may (T.Binary' ty place op p left q right) h = h.0.0
scalar_of may (T.LogicalOr' ty p left q right) h = h.0.0
scalar_of may (T.LogicalAnd' ty p left q right) h = h.0.0
scalar_of may (T.Choice' ty p test q first r second) h = h.0.0
scalar_of may (T.Assign' ty place op p target q value) h = h.0
scalar_of may (T.Step' ty op order p target) h = h.0
scalar_of may (T.Call' ty index p arguments) h = h.0
scalar_of may (T.Reduce' ty op p operand) h = h.0.0
scalar_of may (T.LeftIndex' ty place p indexes x of) h = h.0
scalar_of may _ h = absurd h

none_is : (o : Option ℕ) → o ≡ None → is_none o ≡ true
none_is o e = ap is_none e

pub kept : (may : May) (e : TExpr) → IsIn may e → is_kept e ≡ true
unfolding IsIn is_kept
kept may (T.Number ty value) h = none_is ty.shape h.0.0
kept may (T.PositionsOf ty shape value) h = none_is ty.shape h.0.0
kept may (T.RankOf ty shape value) h = none_is ty.shape h.0.0
kept may (T.DimOf ty shape axis value) h = none_is ty.shape h.0.0
kept may (T.Variable ty x) h = none_is ty.shape h.0
kept may (T.GetChar ty) h = none_is ty.shape h.0
kept may (T.Brackets' ty p inner) h = kept may inner h.1
kept may (T.Convert' ty p operand) h = kept may operand h.1
kept may (T.Casts' ty elems p operand) h = none_is ty.shape h.0
kept may (T.Unary' ty op p operand) h = none_is ty.shape h.0.0
kept may (T.Binary' ty place op p left q right) h = none_is ty.shape h.0.0
kept may (T.LogicalOr' ty p left q right) h = none_is ty.shape h.0.0
kept may (T.LogicalAnd' ty p left q right) h = none_is ty.shape h.0.0
kept may (T.Choice' ty p test q first r second) h = none_is ty.shape h.0.0
kept may (T.Assign' ty place op p target q value) h = none_is ty.shape h.0
kept may (T.Step' ty op order p target) h = none_is ty.shape h.0
kept may (T.Call' ty index p arguments) h = none_is ty.shape h.0
kept may (T.Reduce' ty op p operand) h = none_is ty.shape h.0.0
kept may (T.LeftIndex' ty place p indexes x of) h = none_is ty.shape h.0
kept may _ h = absurd h

-- what a chain of casts gives is a number of its type
pub through_below : (kinds : List Elem) (from : Elem) (w : ℕ) → w < 2 ^ from.bits → cast_through kinds from w < 2 ^ (cast_type kinds from).bits
unfolding cast_through cast_type
through_below [] from w few = few
through_below (kind ∷ inner) from w few = converted_below kind (cast_type inner from) (cast_through inner from w)

-- the value of a constant is a number of its type
abbrev Below : ℕ → Option ℕ → Type 0
Below bits o = IfSome o (λ v. v < 2 ^ bits)

then_below : (m k : ℕ) (o : Option ℕ) (next : ℕ → Option ℕ) → Below m o → ((v : ℕ) → v < 2 ^ m → Below k (next v)) → Below k (then_value o next)
then_below m k None next h f = tt
then_below m k (Some v) next h f = f v h

bool_below : (k : ℕ) (b : Bool) → k ≡ 32 → from_bool b < 2 ^ k
bool_below k b wide = below_bits k (from_bool b) wide (from_bool_below b)

or_below : (m k : ℕ) (b : Bool) (o : Option ℕ) → k ≡ 32 → Below m o → Below k (if b then Some 1 else then_value o (λ w. Some (from_bool (nonzero w))))
or_below m k true o wide h = below_bits k 1 wide (omega arith)
or_below m k false o wide h = then_below m k o _ h (λ w few. bool_below k (nonzero w) wide)

and_below : (m k : ℕ) (b : Bool) (o : Option ℕ) → k ≡ 32 → Below m o → Below k (if b then then_value o (λ w. Some (from_bool (nonzero w))) else Some 0)
and_below m k true o wide h = then_below m k o _ h (λ w few. bool_below k (nonzero w) wide)
and_below m k false o wide h = below_bits k 0 wide (omega arith)

either_below : (k : ℕ) (b : Bool) (o p : Option ℕ) → Below k o → Below k p → Below k (if b then o else p)
either_below k true o p h also = h
either_below k false o p h also = also

of_same_bits : (m k : ℕ) (o : Option ℕ) → m ≡ 32 → k ≡ 32 → Below m o → Below k o
of_same_bits m k o one two h = subst (λ (n : ℕ). Below n o) (one ∙ sym two) h

pub constant_below : (may : May) (e : TExpr) → IsIn may e → IfSome (value_of e) (λ v. v < 2 ^ (type_of e).elem.bits)
unfolding IsIn value_of
constant_below may (T.Number ty value) h = below_bits ty.elem.bits value h.0.1 h.1
constant_below may (T.PositionsOf ty shape value) h = below_bits ty.elem.bits value h.0.1 h.1
constant_below may (T.RankOf ty shape value) h = below_bits ty.elem.bits value h.0.1 h.1
constant_below may (T.DimOf ty shape axis value) h = below_bits ty.elem.bits value h.0.1 h.1
constant_below may (T.Variable ty x) h = tt
constant_below may (T.GetChar ty) h = tt
constant_below may (T.Brackets' ty p inner) h = subst (λ (y : ValueType). Below y.elem.bits (value_of inner)) (sym h.0) (constant_below may inner h.1)
constant_below may (T.Convert' ty p operand) h =
    then_below (type_of operand).elem.bits ty.elem.bits (value_of operand) _ (constant_below may operand h.1) (λ v few. converted_below ty.elem (type_of operand).elem v)
constant_below may (T.Casts' ty elems p operand) h =
    let from : Elem = (type_of operand).elem in
    then_below from.bits ty.elem.bits (value_of operand) _ (constant_below may operand h.2) (λ v few. subst (λ (e : Elem). cast_through elems.items from v < 2 ^ e.bits) (sym h.1) (through_below elems.items from v few))
constant_below may (T.Unary' ty op p operand) h =
    then_below (type_of operand).elem.bits ty.elem.bits (value_of operand) _ (constant_below may operand h.1) (λ v few. below_bits ty.elem.bits _ h.0.1 (unary_below op v (within_word (type_of operand).elem v few)))
constant_below may (T.Binary' ty place op p left q right) h =
    then_below (type_of left).elem.bits ty.elem.bits (value_of left) _ (constant_below may left h.1) (λ v few. then_below (type_of right).elem.bits ty.elem.bits (value_of right) _ (constant_below may right h.2) (λ w small.
    of_same_bits 32 ty.elem.bits _ refl h.0.1 (operate_below op (not (type_of left).elem.signed) v w (below_word (type_of left).elem.bits v h.3.1 few) (below_word (type_of right).elem.bits w h.4.1 small))))
constant_below may (T.LogicalOr' ty p left q right) h =
    then_below (type_of left).elem.bits ty.elem.bits (value_of left) _ (constant_below may left h.1) (λ v few. or_below (type_of right).elem.bits ty.elem.bits (nonzero v) (value_of right) h.0.1 (constant_below may right h.2))
constant_below may (T.LogicalAnd' ty p left q right) h =
    then_below (type_of left).elem.bits ty.elem.bits (value_of left) _ (constant_below may left h.1) (λ v few. and_below (type_of right).elem.bits ty.elem.bits (nonzero v) (value_of right) h.0.1 (constant_below may right h.2))
constant_below may (T.Choice' ty p test q first r second) h =
    then_below (type_of test).elem.bits ty.elem.bits (value_of test) _ (constant_below may test h.1) (λ v few. either_below ty.elem.bits (nonzero v) (value_of first) (value_of second)
    (of_same_bits (type_of first).elem.bits ty.elem.bits (value_of first) h.4.1 h.0.1 (constant_below may first h.2)) (of_same_bits (type_of second).elem.bits ty.elem.bits (value_of second) h.5.1 h.0.1 (constant_below may second h.3)))
constant_below may (T.Assign' ty place op p target q value) h = tt
constant_below may (T.Step' ty op order p target) h = tt
constant_below may (T.Call' ty index p arguments) h = tt
constant_below may (T.Reduce' ty op p operand) h = tt
constant_below may (T.LeftIndex' ty place p indexes x of) h = tt
constant_below may _ h = absurd h

-- what names variables of some names variables of more
target_widened : (may : May) (more : Variable → Type 0) → ((x : Variable) → may.names x → more x) → (target : TExpr) → IsVariable may target → IsVariable (naming may more) target
unfolding IsVariable
target_widened may more fits (T.Variable ty x) h = (h.0, fits x h.1)
target_widened may more fits (T.Brackets' ty p inner) h = (h.0, target_widened may more fits inner h.1)
target_widened may more fits _ h = absurd h

bit_widened : (names more : Variable → Type 0) → ((x : Variable) → names x → more x) → (bit : Option Variable) → IfSome bit names → IfSome bit more
bit_widened names more fits None h = tt
bit_widened names more fits (Some x) h = fits x h

mutual
  unfolding NamesAmong

  pub among_widened : (names more : Variable → Type 0) → ((x : Variable) → names x → more x) → (e : TExpr) → NamesAmong names e → NamesAmong more e
  among_widened names more fits (T.Variable ty x) h = fits x h
  among_widened names more fits (T.Brackets' ty p inner) h = among_widened names more fits inner h
  among_widened names more fits (T.Convert' ty p operand) h = among_widened names more fits operand h
  among_widened names more fits (T.ParallelCast' ty p operand) h = among_widened names more fits operand h
  among_widened names more fits (T.Promote' ty p operand) h = among_widened names more fits operand h
  among_widened names more fits (T.Casts' ty elems p operand) h = among_widened names more fits operand h
  among_widened names more fits (T.Unary' ty op p operand) h = among_widened names more fits operand h
  among_widened names more fits (T.Binary' ty place op p left q right) h = (among_widened names more fits left h.0, among_widened names more fits right h.1)
  among_widened names more fits (T.Choice' ty p test q first r second) h = (among_widened names more fits test h.0, among_widened names more fits first h.1, among_widened names more fits second h.2)
  among_widened names more fits (T.LogicalOr' ty p left q right) h = (among_widened names more fits left h.0, among_widened names more fits right h.1)
  among_widened names more fits (T.LogicalAnd' ty p left q right) h = (among_widened names more fits left h.0, among_widened names more fits right h.1)
  among_widened names more fits (T.Assign' ty place op p target q value) h = (among_widened names more fits target h.0, among_widened names more fits value h.1)
  among_widened names more fits (T.Step' ty op order p target) h = among_widened names more fits target h
  among_widened names more fits (T.Reduce' ty op p operand) h = among_widened names more fits operand h
  among_widened names more fits (T.LeftIndex' ty place p indexes x of) h = (fits x h.0, all_among_widened names more fits indexes h.1)
  among_widened names more fits (T.Scan' ty p source axis combiner direction mode bit within) h = (bit_widened names more fits bit h.0, among_widened names more fits source h.1)
  among_widened names more fits (T.Enumerate ty axis direction within mode bit) h = bit_widened names more fits bit h
  among_widened names more fits _ h = tt

  all_among_widened : {n : Count} (names more : Variable → Type 0) → ((x : Variable) → names x → more x) → (row : Row_of-TExpr n) → AllAmong names row → AllAmong more row
  all_among_widened names more fits end_of-TExpr h = tt
  all_among_widened names more fits (more_of-TExpr e rest) h = (among_widened names more fits e h.0, all_among_widened names more fits rest h.1)

mutual
  unfolding IsIn IsPosition AreIn

  pub widened : (may : May) (more : Variable → Type 0) → ((x : Variable) → may.names x → more x) → (e : TExpr) → IsIn may e → IsIn (naming may more) e
  widened may more fits (T.Number ty value) h = h
  widened may more fits (T.PositionsOf ty shape value) h = h
  widened may more fits (T.RankOf ty shape value) h = h
  widened may more fits (T.DimOf ty shape axis value) h = h
  widened may more fits (T.Variable ty x) h = (h.0, fits x h.1)
  widened may more fits (T.GetChar ty) h = h
  widened may more fits (T.Brackets' ty p inner) h = (h.0, widened may more fits inner h.1)
  widened may more fits (T.Convert' ty p operand) h = (h.0, widened may more fits operand h.1)
  widened may more fits (T.Casts' ty elems p operand) h = (h.0, h.1, widened may more fits operand h.2)
  widened may more fits (T.Unary' ty op p operand) h = (h.0, widened may more fits operand h.1, h.2)
  widened may more fits (T.Binary' ty place op p left q right) h = (h.0, widened may more fits left h.1, widened may more fits right h.2, h.3, h.4)
  widened may more fits (T.LogicalOr' ty p left q right) h = (h.0, widened may more fits left h.1, widened may more fits right h.2)
  widened may more fits (T.LogicalAnd' ty p left q right) h = (h.0, widened may more fits left h.1, widened may more fits right h.2)
  widened may more fits (T.Choice' ty p test q first r second) h = (h.0, widened may more fits test h.1, widened may more fits first h.2, widened may more fits second h.3, h.4, h.5)
  widened may more fits (T.Assign' ty place op p target q value) h = (h.0, h.1, place_widened may more fits target h.2, widened may more fits value h.3, h.4)
  widened may more fits (T.Step' ty op order p target) h = (h.0, h.1, place_widened may more fits target h.2)
  widened may more fits (T.Call' ty index p arguments) h = (h.0, h.1, all_widened may more fits arguments h.2)
  widened may more fits (T.Reduce' ty op p operand) h = (h.0, h.1, among_widened may.names more fits (T.Reduce' ty op p operand) h.2)
  widened may more fits (T.LeftIndex' ty place p indexes x of) h = (h.0, h.1, fits x h.2, all_widened may more fits indexes h.3)
  widened may more fits _ h = absurd h

  place_widened : (may : May) (more : Variable → Type 0) → ((x : Variable) → may.names x → more x) → (target : TExpr) → IsVariable may target ⊎ IsPosition may target → IsVariable (naming may more) target ⊎ IsPosition (naming may more) target
  place_widened may more fits target (inl h) = inl (target_widened may more fits target h)
  place_widened may more fits (T.LeftIndex' ty place p indexes x of) (inr h) = inr (h.0, h.1, fits x h.2, all_widened may more fits indexes h.3)
  place_widened may more fits _ (inr h) = absurd h

  all_widened : {n : Count} (may : May) (more : Variable → Type 0) → ((x : Variable) → may.names x → more x) → (row : Row_of-TExpr n) → AreIn may row → AreIn (naming may more) row
  all_widened may more fits end_of-TExpr h = tt
  all_widened may more fits (more_of-TExpr e rest) h = (widened may more fits e h.0, all_widened may more fits rest h.1)
