-- Operands where they stand have no code, and those that are copied have that of their value.
use Rattle.std.specs.Prelude.{nat_le}
use Rattle.std.proofs.Common.{◌≡◌, ℕ, Bool, true, false, ◌&&◌, ◌||◌, Option, Some, None, is_none, is_some, refl, sym, subst, if◌then◌else◌}
use Rattle.cstar_base.specs.Numbers.{converted}
use Rattle.cstar_base.specs.declared.elem.Elem.{Elem}
use Rattle.cstar_tree.specs.declared.typed.Instance.{Instance}
use Rattle.cstar_tree.specs.declared.typed.TExpr.{TExpr}
use Rattle.cstar_tree.specs.declared.typed.TExpr as T
use Rattle.cstar_tree.specs.declared.typed.Typed.{Typed}
use Rattle.cstar_tree.specs.declared.typed.ValueType.{ValueType}
use Rattle.cstar_tree.specs.declared.typed.Variable.{Variable}
use Rattle.cstar_tree.specs.Typed.{type_of}
use Rattle.lower_base.specs.declared.emit.Out.{Out}
use Rattle.lower_base.specs.declared.emit.Out.TheVariants as O
use Rattle.lower_base.specs.Drafts.{Draft, Made, Makes, then_make, first_bits}
use Rattle.lower_base.specs.Layouts.{Layout, register_of, field_of}
use Rattle.lower_expr.specs.declared.operands.Own.{Own}
use Rattle.lower_base.specs.Constants.{constant_register}
use Rattle.lower_expr.specs.Kinds.{is_unchanged}
use Rattle.lower_expr.specs.Operands.{held, own_of, standing, in_place, operand_by, operand_length}
use Rattle.lower_expr.specs.Steps.{is_kept, register_word}
use Rattle.source_meaning.specs.Constants as C
use Rattle.source_meaning.specs.Reductions.{int_type}
use Rattle.lower_expr.specs.Values.{Code}
use Rattle.code_lengths.specs.Growth.{GrowsOr, Anything}
use Rattle.code_lengths.specs.Naming.{HasVariable, NamesVariables, plain}
use Rattle.code_lengths.specs.Ready.{Arrives, HasCode, IsReadyOr}
use Rattle.code_lengths.specs.Shaped.{IsShaped, IsTarget}
use Rattle.code_lengths.proofs.Drafting.{IsAt, at_stands, as_it_was, makes, bind, weaker}
use Rattle.code_lengths.proofs.Readiness.{arrives, variable_field_grows}

-- the variable in whose own place a value stands is scalar or parallel as the value is kept or not
abbrev pub OwnFits : Option Own → Bool → Type 0
OwnFits None k = Unit {0}
OwnFits (Some own) k = is_none own.shape ≡ k

own_or_none : (b : Bool) (o : Option Own) (k : Bool) → OwnFits o k → OwnFits (if b then o else None) k
own_or_none true o k h = h
own_or_none false o k h = tt

pub own_fits : (bits : ℕ) (e : TExpr) → IsShaped e → OwnFits (own_of bits e) (is_kept e)
unfolding own_of is_kept IsShaped
own_fits bits (T.Variable ty x) h = own_or_none (is_none ty.shape || nat_le bits ty.elem.bits) (Some (record { shape = ty.shape; variable = x })) (is_none ty.shape) refl
own_fits bits (T.Brackets' ty p inner) h = own_fits bits inner h.1
own_fits bits (T.Promote' ty p operand) h = subst (λ (k : Bool). OwnFits (own_of bits operand) k) h.0 (own_fits bits operand h.1)
own_fits bits (T.Convert' ty p operand) h = own_or_none (is_unchanged bits ty.elem (is_kept operand)) (own_of bits operand) (is_kept operand) (own_fits bits operand h.1)
own_fits bits _ h = tt

-- that of a target is as its type says
pub own_target_fits : (bits : ℕ) (e : TExpr) → IsTarget e → OwnFits (own_of bits e) (is_none (type_of e).shape)
unfolding own_of IsTarget
own_target_fits bits (T.Variable ty x) h = own_or_none (is_none ty.shape || nat_le bits ty.elem.bits) (Some (record { shape = ty.shape; variable = x })) (is_none ty.shape) refl
own_target_fits bits (T.Brackets' ty p inner) h = subst (λ (y : ValueType). OwnFits (own_of bits inner) (is_none y.shape)) (sym h.0) (own_target_fits bits inner h.1)
own_target_fits bits (T.Element' ty place array p index) h = tt
own_target_fits bits (T.LeftIndex' ty place p indexes x of) h = tt
own_target_fits bits _ h = absurd h

-- the variable in whose own place a value stands is one that the value names
abbrev pub OwnNamed : Typed → Instance → ℕ → Option Own → Type 0
OwnNamed t i n None = Unit {0}
OwnNamed t i n (Some own) = (elem : Elem) × HasVariable t i n own.variable (plain (record { elem = elem; shape = own.shape }))

named_or_none : (t : Typed) (i : Instance) (n : ℕ) (b : Bool) (o : Option Own) → OwnNamed t i n o → OwnNamed t i n (if b then o else None)
named_or_none t i n true o h = h
named_or_none t i n false o h = tt

pub own_named : (t : Typed) (i : Instance) (n : ℕ) (bits : ℕ) (e : TExpr) → NamesVariables t i n e → OwnNamed t i n (own_of bits e)
unfolding own_of NamesVariables
own_named t i n bits (T.Variable ty x) h = named_or_none t i n (is_none ty.shape || nat_le bits ty.elem.bits) (Some (record { shape = ty.shape; variable = x })) (ty.elem, h)
own_named t i n bits (T.Brackets' ty p inner) h = own_named t i n bits inner h
own_named t i n bits (T.Promote' ty p operand) h = own_named t i n bits operand h
own_named t i n bits (T.Convert' ty p operand) h = named_or_none t i n (is_unchanged bits ty.elem (is_kept operand)) (own_of bits operand) (own_named t i n bits operand h)
own_named t i n bits _ h = tt

-- a place of its own has no code, and as many bits as are wanted
standing_by : (lacks : Type 0) (shape : Option ℕ) (t : Typed) (l : Layout) (bits : ℕ) (x : Variable) (d : Draft) → (is_none shape ≡ false → GrowsOr lacks d 0 Anything (field_of t l x 0 d)) → GrowsOr lacks d 0 (IsAt (is_none shape) bits) (elim shape as (λ _. Made Out) [
  | None ↦ Makes (O.Scalar (register_of l x)) d
  | Some _ ↦ then_make (field_of t l x 0 d) (λ f after. Makes (O.Field (first_bits bits f)) after)
])
unfolding first_bits
standing_by lacks None t l bits x d g = makes lacks _ _ d d 0 refl (as_it_was d)
standing_by lacks (Some s) t l bits x d g = bind lacks Anything _ d 0 0 _ _ (g refl) (λ f after _. makes lacks _ (O.Field (first_bits bits f)) after after 0 (refl, refl) (as_it_was after))

pub standing_grows : (lacks : Type 0) (k : Bool) (t : Typed) (i : Instance) (l : Layout) (n : ℕ) (bits : ℕ) (own : Own) (d : Draft) → IsReadyOr lacks t i l n d → OwnNamed t i n (Some own) → is_none own.shape ≡ k → GrowsOr lacks d 0 (IsAt k bits) (standing t l bits own d)
unfolding standing
standing_grows lacks k t i l n bits own d r x h =
    weaker lacks (IsAt (is_none own.shape) bits) (IsAt k bits) d 0 _ (λ v s. subst (λ (b : Bool). IsAt b bits v) h s)
    (standing_by lacks own.shape t l bits own.variable d (λ s. variable_field_grows lacks t i l n own.variable (record { elem = x.0; shape = own.shape }) d r x.1 s))

operand_in : (lacks : Type 0) (o : Option Own) (t : Typed) (i : Instance) (l : Layout) (n : ℕ) (e : TExpr) (bits : ℕ) (code : Code) (m : ℕ) (d : Draft) → IsReadyOr lacks t i l n d → OwnNamed t i n o → OwnFits o (is_kept e) → GrowsOr lacks d m (Arrives t e) (code d) →
    GrowsOr lacks d (elim o as (λ _. ℕ) [ Some _ ↦ 0 | None ↦ m ]) (Arrives t e) (elim o as (λ _. Made Out) [ Some own ↦ standing t l bits own d | None ↦ code d ])
operand_in lacks None t i l n e bits code m d r x h c = c
operand_in lacks (Some own) t i l n e bits code m d r x h c =
    weaker lacks (IsAt (is_kept e) bits) (Arrives t e) d 0 _ (λ v s. arrives t e v (at_stands (is_kept e) bits v s)) (standing_grows lacks (is_kept e) t i l n bits own d r x h)

-- a constant stands in a register
first : (a b : Bool) → (a && b) ≡ true → a ≡ true
first true b h = refl
first false b h = cc

second : (a b : Bool) → (a && b) ≡ true → b ≡ true
second true b h = h
second false b h = cc

constant_kept : (e : TExpr) → C.is_constant e ≡ true → is_kept e ≡ true
unfolding C.is_constant is_kept
constant_kept (T.Number ty value) h = first _ _ h
constant_kept (T.PositionsOf ty shape value) h = first _ _ h
constant_kept (T.RankOf ty shape value) h = first _ _ h
constant_kept (T.DimOf ty shape axis value) h = first _ _ h
constant_kept (T.Brackets' ty p inner) h = constant_kept inner (second _ _ h)
constant_kept (T.Casts' ty elems p operand) h = first _ _ (first _ _ h)
constant_kept (T.Convert' ty p operand) h = constant_kept operand (second _ _ h)
constant_kept (T.Unary' ty op p operand) h = first _ _ (first _ _ h)
constant_kept (T.Binary' ty place op p left q right) h = first _ _ (first _ _ (first _ _ h))
constant_kept (T.LogicalOr' ty p left q right) h = first _ _ (first _ _ (first _ _ h))
constant_kept (T.LogicalAnd' ty p left q right) h = first _ _ (first _ _ (first _ _ h))
constant_kept (T.Choice' ty p test q one r other) h = first _ _ (first _ _ (first _ _ (first _ _ (first _ _ h))))
constant_kept _ h = cc

held_kept : (l : Layout) (e : TExpr) → is_some (held l e) ≡ true → is_kept e ≡ true
unfolding held register_word C.constant_of
held_kept l e h = by (C.is_constant e) refl h
  where
    by : (b : Bool) → C.is_constant e ≡ b → is_some (C.then_value (C.then_value (if b then C.value_of e else None) (λ v. Some (converted int_type (type_of e).elem v))) (constant_register l)) ≡ true → is_kept e ≡ true
    by true c h = constant_kept e c
    by false c h = cc

pub not_held : (l : Layout) (e : TExpr) → (C.is_constant e ≡ true → ⊥) → held l e ≡ None
unfolding held register_word C.constant_of
not_held l e h = by (C.is_constant e) refl
  where
    by : (b : Bool) → C.is_constant e ≡ b → C.then_value (C.then_value (if b then C.value_of e else None) (λ v. Some (converted int_type (type_of e).elem v))) (constant_register l) ≡ None
    by true c = absurd (h c)
    by false c = refl

-- the condition of a constant `?:` is constant
pub choice_kept : (ty : ValueType) (p : _) (test : TExpr) (q : _) (one : TExpr) (r : _) (other : TExpr) → C.is_constant (T.Choice' ty p test q one r other) ≡ true → is_kept test ≡ true
unfolding C.is_constant
choice_kept ty p test q one r other h = constant_kept test (second _ _ (first _ _ (first _ _ h)))

held_in : (lacks : Type 0) (o : Option ℕ) (t : Typed) (e : TExpr) (m : ℕ) (made : Made Out) (d : Draft) → (is_some o ≡ true → is_kept e ≡ true) → GrowsOr lacks d m (Arrives t e) made →
    GrowsOr lacks d (elim o as (λ _. ℕ) [ Some _ ↦ 0 | None ↦ m ]) (Arrives t e) (elim o as (λ _. Made Out) [ Some r ↦ Makes (O.Scalar r) d | None ↦ made ])
held_in lacks (Some r) t e m made d h g = makes lacks (Arrives t e) (O.Scalar r) d d 0 (arrives t e (O.Scalar r) (h refl)) (as_it_was d)
held_in lacks None t e m made d h g = g

place_fits : (bits : ℕ) (quiet : Bool) (e : TExpr) → IsShaped e → OwnFits (in_place bits quiet e) (is_kept e)
unfolding in_place
place_fits bits quiet e h = own_or_none quiet (own_of bits e) (is_kept e) (own_fits bits e h)

place_named : (t : Typed) (i : Instance) (n : ℕ) (bits : ℕ) (quiet : Bool) (e : TExpr) → NamesVariables t i n e → OwnNamed t i n (in_place bits quiet e)
unfolding in_place
place_named t i n bits quiet e h = named_or_none t i n quiet (own_of bits e) (own_named t i n bits e h)

-- so many bits of an operand whose code is so long
pub operand_grows : (lacks : Type 0) (t : Typed) (i : Instance) (l : Layout) (n bits : ℕ) (quiet : Bool) (e : TExpr) (code : Code) (m : ℕ) (d : Draft) → HasCode t i n e → IsReadyOr lacks t i l n d → GrowsOr lacks d m (Arrives t e) (code d) →
    GrowsOr lacks d (operand_length l bits m quiet e) (Arrives t e) (operand_by t l bits code quiet e d)
unfolding operand_by operand_length
operand_grows lacks t i l n bits quiet e code m d h r c =
    held_in lacks (held l e) t e _ _ d (held_kept l e)
    (operand_in lacks (in_place bits quiet e) t i l n e bits code m d r (place_named t i n bits quiet e h.names) (place_fits bits quiet e h.shaped) c)
