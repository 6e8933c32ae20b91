-- A value that goes to a variable, a test, and an expression whose value is not used have code, and it is
-- as long as described.
use Rattle.std.proofs.Common.{◌≡◌, ℕ, ◌+◌, Bool, true, false, not, ◌&&◌, ◌||◌, ◌==◌, [], Option, Some, None, is_none, refl, sym, ap, ◌∙◌, arith, if◌then◌else◌}
use Rattle.cstar_base.specs.declared.elem.Elem.{Elem}
use Rattle.cstar_base.specs.declared.operators.Op.{Op}
use Rattle.cstar_base.specs.declared.operators.Place.{Place}
use Rattle.cstar_tree.specs.declared.syntax.AssignOp.{AssignOp}
use Rattle.cstar_tree.specs.declared.syntax.StepOp.{StepOp}
use Rattle.cstar_tree.specs.declared.typed.TExpr.{TExpr}
use Rattle.cstar_tree.specs.declared.typed.TExpr as T
use Rattle.cstar_tree.specs.declared.typed.Instance.{Instance}
use Rattle.cstar_tree.specs.declared.typed.Typed.{Typed}
use Rattle.cstar_tree.specs.declared.typed.UnaryOp.{UnaryOp}
use Rattle.cstar_tree.specs.declared.typed.ValueType.{ValueType}
use Rattle.cstar_tree.specs.Typed.{type_of}
use Rattle.paris_code.specs.declared.instr.Instr.TheVariants as I
use Rattle.paris_code.specs.declared.operands.Field.{Field}
use Rattle.lower_base.specs.declared.emit.Out.{Out}
use Rattle.lower_base.specs.declared.emit.Out.TheVariants as O
use Rattle.lower_base.specs.Drafts.{Draft, Made, Makes, then_make, with_instr, a_register}
use Rattle.lower_base.specs.Constants.{word_length}
use Rattle.lower_base.specs.Layouts.{Layout}
use Rattle.lower_base.specs.Operators.{assign_op_of}
use Rattle.lower_base.specs.Kinds.{bits_of, kind_of}
use Rattle.lower_expr.specs.declared.operands.Own.{Own}
use Rattle.lower_expr.specs.Effects.{bits_for, moved, register_converted, goes_unchanged, cast_to, converted_to, fits_field, field_binary_to, binary_to, logical_to, gone_to, computed_to, put_to, written_register, with_settled, register_operated, field_operated, variable_operated, variable_stepped, folds, writes_itself, assigned_own, whole_of, variable_assigned, assignment_effect, stepped_own, step_effect, effect_of, length_unchanged, converted_to_length, logical_to_length, computed_length, put_length, settled_length, operated_length, own_bits, assigned_length, stepped_length, assignment_length, step_effect_length, effect_length_of}
use Rattle.lower_expr.specs.Kinds.{done_as, operand_bits, unary_bits}
use Rattle.lower_expr.specs.Joined.{joins}
use Rattle.lower_expr.specs.Lengths.{joined_length_of, length_of, used_length_of, test_put_length, spot_length_of, load_length, load_length_of, bare, arm_length_of, choice_length, tested_length, tested_by_length, operate_length, reduce_length, unary_length, right_length, binary_length}
use Rattle.lower_expr.specs.Operands.{is_plus, is_quiet, own_of, in_place, operand_length}
use Rattle.lower_expr.specs.Steps.{is_kept, has_truth, has_word, register_word, word_of, word_for, word_put, negated}
use Rattle.lower_expr.specs.Values.{Code, value_of, next_of, tested, register_binary_of, field_binary_of, condition_by, condition_of, joined_of, arm_of, scalar_choice_of}
use Rattle.lower_expr.proofs.Unary.{is_plus_done}
use Rattle.code_lengths.specs.Growth.{Extended, Stands, Anything}
use Rattle.code_lengths.specs.Lowerable.{GivesValue, IsLowerable, IsValueFor}
use Rattle.code_lengths.specs.Lowerable as L
use Rattle.code_lengths.specs.Naming.{NamesVariables}
use Rattle.code_lengths.specs.Ready.{Arrives, HasCode}
use Rattle.code_lengths.specs.Shaped.{HasShape, IsShaped}
use Rattle.code_lengths.proofs.Drafting.{nothing_more, IsAt, at_stands, as_it_was, resized, and_instr, register_grows, entry_grows}
use Rattle.code_lengths.proofs.Basis.{Basis, GrowsOn, standing_as, ready, if_ready, plainly, makes, sized, bind, weaker, in_register_grows, in_field_grows, either_grows}
use Rattle.code_lengths.proofs.Pieces.{InRegister, InField, word_in_grows, put_value_grows, operated_more, negated_grows}
use Rattle.code_lengths.proofs.ValuePieces.{IsCode, IsCondition, IsRight, IsTest, of_code, joined_fields, truth_put_grows, extended_grows, right_by_grows, right_operated_grows, right_together, registers_grow, fields_grow, word_put_grows, arm_grows, scalar_choice_grows, tested_by_grows, joined_by_grows}
use Rattle.code_lengths.proofs.OperandPieces.{OwnFits, OwnNamed, choice_kept, not_held, own_named, own_target_fits, standing_grows}
use Rattle.code_lengths.proofs.AssignPieces.{reads, read_to_grows}
use Rattle.code_lengths.proofs.ExpressionLengths.{Comes, given_code, operand_comes, all_codes, condition_grows, value_grows, truth_grows, values_grow, spot_grows, message_to_grows, reduce_grows, scan_grows, call_to_grows, index_read_to_grows}

-- the operand of an instruction that is next: its value arrives, and stands where the expression says
pub next_comes : (lacks : Type 0) (t : Typed) (i : Instance) (l : Layout) (n bits : ℕ) (quiet : Bool) (e : TExpr) → HasCode t i n e → Comes lacks t i l n e (used_length_of t l bits quiet e) (next_of t l bits quiet e)
next_comes lacks t i l n bits quiet e c = operand_comes _ t i l n bits quiet e _ _ c.shaped c.lowerable c.names (value_grows _ t i l n bits e c.shaped c.lowerable c.names)

next_code : (lacks : Type 0) (t : Typed) (i : Instance) (l : Layout) (n bits : ℕ) (quiet : Bool) (e : TExpr) → HasCode t i n e → GivesValue t e → IsCode (ready lacks t i l n) (used_length_of t l bits quiet e) (is_kept e) (next_of t l bits quiet e)
next_code lacks t i l n bits quiet e c g = given_code _ t i l n e _ _ g (next_comes _ t i l n bits quiet e c)

next_at : (lacks : Type 0) (k : Bool) (t : Typed) (i : Instance) (l : Layout) (n bits : ℕ) (quiet : Bool) (e : TExpr) → HasCode t i n e → GivesValue t e → is_kept e ≡ k → IsCode (ready lacks t i l n) (used_length_of t l bits quiet e) k (next_of t l bits quiet e)
next_at lacks k t i l n bits quiet e c g h = of_code (is_kept e) k _ _ h (next_code _ t i l n bits quiet e c g)

-- a test
pub tested_grows : (lacks : Type 0) (t : Typed) (i : Instance) (l : Layout) (n : ℕ) (e : TExpr) → HasCode t i n e → L.InField t e → IsTest (ready lacks t i l n) (tested_length t l e) (tested t l e)
unfolding tested_length tested_by_length
tested_grows lacks t i l n e c f d =
    tested_by_grows (has_truth e) _ _ _ _ (λ r. truth_grows _ t i l n e c.shaped c.lowerable c.names r f.1) (next_at _ false t i l n (bits_of (kind_of e)) true e c f.0 f.1) d

-- a value goes to a register if it stands in one, and to a field if it has a shape
abbrev pub Suits : Bool → TExpr → Type 0
Suits true e = is_kept e ≡ true
Suits false e = HasShape (type_of e)

pub suits_by : (k : Bool) (e : TExpr) → (k ≡ true → is_kept e ≡ true) → (k ≡ false → HasShape (type_of e)) → Suits k e
suits_by true e f g = f refl
suits_by false e f g = g refl

kept_if : (k : Bool) (e : TExpr) → Suits k e → k ≡ true → is_kept e ≡ true
kept_if true e u h = u
kept_if false e u h = cc

pub through : (k : Bool) (e inner : TExpr) → is_kept e ≡ is_kept inner → is_none (type_of e).shape ≡ is_none (type_of inner).shape → Suits k e → Suits k inner
through true e inner a b u = sym a ∙ u
through false e inner a b u = sym b ∙ u

-- what stands in no register has a shape
shape_of_field : (e : TExpr) → IsShaped e → is_kept e ≡ false → HasShape (type_of e)
unfolding is_kept IsShaped
shape_of_field (T.Promote' ty p operand) h k = cc
shape_of_field (T.Convert' ty p operand) h k = h.0 ∙ shape_of_field operand h.1 k
shape_of_field (T.Brackets' ty p inner) h k = h.0 ∙ shape_of_field inner h.1 k
shape_of_field _ h k = k

-- a register or a field has the bits that go there
own_bits_at : (k : Bool) (dest : Out) → Stands k dest → IsAt k (bits_for dest) dest
unfolding bits_for
own_bits_at k (O.Scalar r) h = h
own_bits_at k (O.Field f) h = (h, refl)
own_bits_at k O.Nothing h = h

-- a value moved there
moved_grows : (lacks : Type 0) (k : Bool) (t : Typed) (i : Instance) (l : Layout) (n : ℕ) (dest : Out) (e : TExpr) (d : Draft) → Stands k dest → HasCode t i n e → GivesValue t e → (k ≡ true → is_kept e ≡ true) →
    GrowsOn (ready lacks t i l n) d (used_length_of t l (bits_for dest) true e + 1) (Stands k) (moved t l dest e d)
unfolding moved
moved_grows lacks k t i l n dest e d s c g f =
    bind (Stands (is_kept e)) (Stands k) d _ 1 _ _ (next_code _ t i l n (bits_for dest) true e c g d) (λ v after at. plainly (put_value_grows _ k (is_kept e) dest v after s at f))

-- conversions
register_converted_grows : (lacks : Type 0) (t : Typed) (i : Instance) (l : Layout) (n : ℕ) (r : ℕ) (elem : Elem) (e : TExpr) (d : Draft) → HasCode t i n e → GivesValue t e → is_kept e ≡ true →
    GrowsOn (ready lacks t i l n) d (used_length_of t l 32 true e + 1) InRegister (register_converted t l r elem e d)
unfolding register_converted
register_converted_grows lacks t i l n r elem e d c g k =
    bind InRegister InRegister d _ 1 _ _ (next_at _ true t i l n 32 true e c g k d) (λ v after s. in_register_grows _ after 1 v _ s (λ q. makes InRegister (O.Scalar r) after _ 1 refl (and_instr _ after after 0 (as_it_was after))))

cast_to_grows : (lacks : Type 0) (t : Typed) (i : Instance) (l : Layout) (n : ℕ) (f : Field) (e : TExpr) (elem : Elem) (operand : TExpr) (d : Draft) → HasCode t i n e → GivesValue t e → HasCode t i n operand → GivesValue t operand →
    GrowsOn (ready lacks t i l n) d (if is_kept operand then used_length_of t l f.len true e + 1 else (if elem.bits == 1 then tested_length t l operand + test_put_length f.len else used_length_of t l elem.bits true operand + 1)) InField
    (cast_to t l f e elem operand d)
unfolding cast_to bits_for
cast_to_grows lacks t i l n f e elem operand d c g co go =
    either_grows InField (is_kept operand) d _ _ _ _ (λ k. moved_grows _ false t i l n (O.Field f) e d refl c g (λ h. absurd (no h)))
    (λ k. either_grows InField (elem.bits == 1) d _ _ _ _ (λ one. truth_put_grows f (tested t l operand) (tested_length t l operand) d (tested_grows _ t i l n operand co (go, k)))
    (λ more. extended_grows elem.signed f _ _ d (next_at _ false t i l n elem.bits true operand co go k)))
  where
    no : false ≡ true → ⊥
    no e = cc

converted_to_grows : (lacks : Type 0) (k : Bool) (t : Typed) (i : Instance) (l : Layout) (n : ℕ) (dest : Out) (e : TExpr) (elem : Elem) (operand : TExpr) (d : Draft) → Stands k dest → HasCode t i n e → GivesValue t e → HasCode t i n operand → GivesValue t operand → (k ≡ true → is_kept operand ≡ true) →
    GrowsOn (ready lacks t i l n) d (converted_to_length t l k (bits_for dest) e elem operand) (Stands k) (converted_to t l dest e elem operand d)
unfolding converted_to converted_to_length bits_for
converted_to_grows lacks true t i l n (O.Scalar r) e elem operand d s c g co go f = register_converted_grows _ t i l n r elem operand d co go (f refl)
converted_to_grows lacks false t i l n (O.Field x) e elem operand d s c g co go f = cast_to_grows _ t i l n x e elem operand d c g co go
converted_to_grows lacks true t i l n (O.Field x) e elem operand d s c g co go f = cc
converted_to_grows lacks false t i l n (O.Scalar r) e elem operand d s c g co go f = cc
converted_to_grows lacks k t i l n O.Nothing e elem operand d s c g co go f = absurd s

unchanged_so : (k : Bool) (dest : Out) (elem : Elem) (operand : TExpr) → Stands k dest → goes_unchanged dest elem operand ≡ length_unchanged k (bits_for dest) elem operand
unfolding goes_unchanged length_unchanged bits_for
unchanged_so true (O.Scalar r) elem operand s = refl
unchanged_so false (O.Field f) elem operand s = refl
unchanged_so true (O.Field f) elem operand s = cc
unchanged_so false (O.Scalar r) elem operand s = cc
unchanged_so k O.Nothing elem operand s = absurd s

-- `&&` and `||`
condition_of_grows : (lacks : Type 0) (t : Typed) (i : Instance) (l : Layout) (n : ℕ) (e : TExpr) → HasCode t i n e → GivesValue t e → IsCondition (ready lacks t i l n) (condition_of t l e)
condition_of_grows lacks t i l n e c g = condition_grows t l e _ _ (next_code _ t i l n (bits_of (kind_of e)) true e c g) (λ k r. truth_grows _ t i l n e c.shaped c.lowerable c.names r k)

joined_of_grows : (lacks : Type 0) (t : Typed) (i : Instance) (l : Layout) (n : ℕ) (is_or : Bool) (f : Field) (left right : TExpr) (d : Draft) → HasCode t i n left → GivesValue t left → HasCode t i n right → GivesValue t right → joins left right ≡ true →
    GrowsOn (ready lacks t i l n) d (joined_length_of t l f.len left right) InField (joined_of t l is_or f left right d)
unfolding joined_of joined_length_of condition_by
joined_of_grows lacks t i l n is_or f left right d a ga b gb j =
    let k = joined_fields left right j in
    joined_by_grows is_or f _ _ d (condition_of_grows _ t i l n left a ga) (condition_of_grows _ t i l n right b gb) k.0 k.1

logical_to_grows : (lacks : Type 0) (k : Bool) (t : Typed) (i : Instance) (l : Layout) (n : ℕ) (dest : Out) (e : TExpr) (is_or : Bool) (left right : TExpr) (d : Draft) → Stands k dest → HasCode t i n e → GivesValue t e → (k ≡ true → is_kept e ≡ true) → HasCode t i n left → GivesValue t left → HasCode t i n right → GivesValue t right →
    GrowsOn (ready lacks t i l n) d (logical_to_length t l k (bits_for dest) e left right) (Stands k) (logical_to t l dest e is_or left right d)
unfolding logical_to logical_to_length bits_for
logical_to_grows lacks true t i l n (O.Scalar r) e is_or left right d s c g f a ga b gb = moved_grows _ true t i l n (O.Scalar r) e d refl c g f
logical_to_grows lacks false t i l n (O.Field x) e is_or left right d s c g f a ga b gb =
    either_grows InField (joins left right) d _ _ _ _ (λ j. joined_of_grows _ t i l n is_or x left right d a ga b gb j) (λ _. moved_grows _ false t i l n (O.Field x) e d refl c g f)
logical_to_grows lacks true t i l n (O.Field x) e is_or left right d s c g f a ga b gb = cc
logical_to_grows lacks false t i l n (O.Scalar r) e is_or left right d s c g f a ga b gb = cc
logical_to_grows lacks k t i l n O.Nothing e is_or left right d s c g f a ga b gb = absurd s

-- a binary operator
operands_length : Typed → Layout → Bool → ℕ → Op → TExpr → TExpr → ℕ
operands_length t l k bits op left right =
    binary_length k bits op (used_length_of t l (operand_bits bits op left right) (is_quiet right) left) left (used_length_of t l (operand_bits bits op left right) true right) right

field_binary_grows : (lacks : Type 0) (t : Typed) (i : Instance) (l : Layout) (n : ℕ) (f : Field) (e : TExpr) (op : Op) (place : Place) (left right : TExpr) (d : Draft) → HasCode t i n e → GivesValue t e → HasCode t i n left → GivesValue t left → HasCode t i n right → GivesValue t right →
    GrowsOn (ready lacks t i l n) d (if fits_field f.len op right then operands_length t l false f.len op left right else used_length_of t l f.len true e + 1) InField (field_binary_to t l f e op place left right d)
unfolding field_binary_to field_binary_of operands_length binary_length bits_for
field_binary_grows lacks t i l n f e op place left right d c g a ga b gb =
    either_grows InField (fits_field f.len op right) d _ _ _ _
    (λ _. sized InField d _ _ _ (nothing_more _) (bind Anything InField d 0 _ _ _ (plainly (entry_grows _ _ _ _ d)) (λ spare after _.
    fields_grow op _ place f spare _ left _ _ right _ after (next_code _ t i l n _ _ left a ga) (next_code _ t i l n _ true right b gb))))
    (λ _. moved_grows _ false t i l n (O.Field f) e d refl c g (λ h. absurd (no h)))
  where
    no : false ≡ true → ⊥
    no e = cc

binary_to_grows : (lacks : Type 0) (k : Bool) (t : Typed) (i : Instance) (l : Layout) (n : ℕ) (dest : Out) (e : TExpr) (op : Op) (place : Place) (left right : TExpr) (d : Draft) → Stands k dest → HasCode t i n e → GivesValue t e → HasCode t i n left → GivesValue t left → HasCode t i n right → GivesValue t right →
    (k ≡ true → is_kept left ≡ true) → (k ≡ true → is_kept right ≡ true) →
    GrowsOn (ready lacks t i l n) d (if k || fits_field (bits_for dest) op right then operands_length t l k (bits_for dest) op left right else used_length_of t l (bits_for dest) true e + 1) (Stands k) (binary_to t l dest e op place left right d)
unfolding binary_to register_binary_of operands_length binary_length bits_for
binary_to_grows lacks true t i l n (O.Scalar r) e op place left right d s c g a ga b gb lk rk =
    registers_grow 32 op _ place r _ _ _ _ d (next_at _ true t i l n _ _ left a ga (lk refl)) (next_at _ true t i l n _ true right b gb (rk refl))
binary_to_grows lacks false t i l n (O.Field f) e op place left right d s c g a ga b gb lk rk = field_binary_grows _ t i l n f e op place left right d c g a ga b gb
binary_to_grows lacks true t i l n (O.Field f) e op place left right d s c g a ga b gb lk rk = cc
binary_to_grows lacks false t i l n (O.Scalar r) e op place left right d s c g a ga b gb lk rk = cc
binary_to_grows lacks k t i l n O.Nothing e op place left right d s c g a ga b gb lk rk = absurd s

-- a unary operator that is no `+`
negated_to_grows : (lacks : Type 0) (k : Bool) (t : Typed) (i : Instance) (l : Layout) (n : ℕ) (dest : Out) (op : UnaryOp) (operand : TExpr) (d : Draft) → Stands k dest → HasCode t i n operand → GivesValue t operand → is_kept operand ≡ k → is_plus op ≡ false →
    GrowsOn (ready lacks t i l n) d (used_length_of t l (unary_bits (bits_for dest) op operand) true operand + unary_length l (bits_for dest) (done_as (bits_for dest) op operand) (is_kept operand)) (Stands k)
    (then_make (next_of t l (unary_bits (bits_for dest) op operand) true operand d) (λ v after. negated l (done_as (bits_for dest) op operand) dest v after))
negated_to_grows lacks k t i l n dest op operand d s c g h p =
    sized (Stands k) d _ _ _ (ap (λ (b : Bool). used_length_of t l (unary_bits (bits_for dest) op operand) true operand + unary_length l (bits_for dest) (done_as (bits_for dest) op operand) b) (sym h))
    (bind (Stands k) (Stands k) d _ _ _ _ (next_at _ k t i l n _ true operand c g h d) (λ v after at. plainly (negated_grows _ l (bits_for dest) (done_as (bits_for dest) op operand) k dest v after (is_plus_done (bits_for dest) op operand ∙ p) (own_bits_at k dest s) at)))

pub plus_suits : (k shaped : Bool) (operand : TExpr) → IsShaped operand → shaped ≡ is_kept operand → k ≡ shaped → Suits k operand
plus_suits true shaped operand h a f = sym a ∙ sym f
plus_suits false shaped operand h a f = shape_of_field operand h (sym a ∙ sym f)

-- what is put there is there
gone_grows : {on : Basis} (k : Bool) (P : Out → Type 0) (dest : Out) (n : ℕ) (made : Made Out) (d : Draft) → Stands k dest → GrowsOn on d n P made → GrowsOn on d n (Stands k) (gone_to dest made)
unfolding gone_to
gone_grows k P dest n made d s g =
    sized (Stands k) d _ _ _ (and_nothing n) (bind P (Stands k) d n 0 _ _ g (λ _ after _. makes (Stands k) dest after after 0 s (as_it_was after)))
  where
    and_nothing : (n : ℕ) → n + 0 ≡ n
    and_nothing n = omega arith

-- the value of a form stands as its type says
pub sides : (k : Bool) (e : TExpr) → Suits k e → is_kept e ≡ is_none (type_of e).shape → k ≡ is_none (type_of e).shape
sides true e u h = sym u ∙ h
sides false e u h = sym u

one_more_unless : (b : Bool) (n : ℕ) → (if b then n else n + 1) ≡ n + (if b then 0 else 1)
one_more_unless true n = omega arith
one_more_unless false n = refl

decided_by_one : (b q : Bool) (n : Bool → ℕ) (arms : ℕ) → b ≡ true → (n true + arms) + 2 ≡ (n (b || q) + arms) + choice_length b
unfolding choice_length
decided_by_one true true n arms e = refl
decided_by_one true false n arms e = refl
decided_by_one false q n arms e = cc

-- `?:` with a scalar condition, into a register or a field
choice_to_grows : (lacks : Type 0) (k : Bool) (t : Typed) (i : Instance) (l : Layout) (n : ℕ) (ty : ValueType) (bits : ℕ) (test first second : TExpr) (dest : Out) (d : Draft) → k ≡ is_none ty.shape → Stands k dest → HasCode t i n test → GivesValue t test → is_kept test ≡ true →
    HasCode t i n first → IsValueFor t ty.shape first → HasCode t i n second → IsValueFor t ty.shape second →
    GrowsOn (ready lacks t i l n) d ((used_length_of t l (bits_of (kind_of test)) true test + (arm_length_of t l ty bits first + arm_length_of t l ty bits second)) + 2) (Stands k) (scalar_choice_of t l ty bits test first second dest d)
unfolding scalar_choice_of arm_of arm_length_of
choice_to_grows lacks k t i l n ty bits test first second dest d a s c g kept cf wf cs ws =
    weaker (Stands (is_none ty.shape)) (Stands k) d _ _ (λ v q. standing_as _ k v (sym a) q) (scalar_choice_grows (is_none ty.shape) dest _ _ _ _ _ _ d (standing_as k _ dest a s)
    (next_at _ true t i l n (bits_of (kind_of test)) true test c g kept) (arm_grows (is_none ty.shape) (is_kept first) first _ _ wf.in_register (next_code _ t i l n bits true first cf wf.gives))
    (arm_grows (is_none ty.shape) (is_kept second) second _ _ ws.in_register (next_code _ t i l n bits true second cs ws.gives)))

-- a `?:` with a parallel condition is no constant
choice_next : (t : Typed) (l : Layout) (bits : ℕ) (ty : ValueType) (p : _) (test : TExpr) (q : _) (first : TExpr) (r : _) (second : TExpr) → is_kept test ≡ false →
    used_length_of t l bits true (T.Choice' ty p test q first r second) ≡ length_of t l bits (T.Choice' ty p test q first r second)
unfolding operand_length in_place own_of
choice_next t l bits ty p test q first r second k =
    ap (λ (o : Option ℕ). elim o as (λ _. ℕ) [ Some _ ↦ 0 | None ↦ length_of t l bits (T.Choice' ty p test q first r second) ])
    (not_held l (T.Choice' ty p test q first r second) (λ c. no (sym (choice_kept ty p test q first r second c) ∙ k)))
  where
    no : true ≡ false → ⊥
    no e = cc

-- a value that is no constant
pub has_code : {t : Typed} {i : Instance} {n : ℕ} {e : TExpr} → IsShaped e → IsLowerable t e → NamesVariables t i n e → HasCode t i n e
has_code h w v = record { shaped = h; lowerable = w; names = v }

computed_grows : (lacks : Type 0) (k : Bool) (t : Typed) (i : Instance) (l : Layout) (n : ℕ) (dest : Out) (e : TExpr) (d : Draft) → Stands k dest → IsShaped e → IsLowerable t e → NamesVariables t i n e → Suits k e → GivesValue t e →
    GrowsOn (ready lacks t i l n) d (computed_length t l k (bits_for dest) e) (Stands k) (computed_to t l dest e d)
unfolding computed_to computed_length length_of operands_length arm_length_of operand_length in_place own_of spot_length_of load_length load_length_of bare IsShaped is_kept IsLowerable NamesVariables GivesValue
computed_grows lacks k t i l n dest (T.Brackets' ty p inner) d s h w v u g =
    computed_grows _ k t i l n dest inner d s h.1 w v (through k (T.Brackets' ty p inner) inner refl h.0 u) g
computed_grows lacks k t i l n dest (T.Convert' ty p operand) d s h w v u g =
    sized (Stands k) d _ _ _ (ap (λ (b : Bool). if b then computed_length t l k (bits_for dest) operand else converted_to_length t l k (bits_for dest) (T.Convert' ty p operand) ty.elem operand) (unchanged_so k dest ty.elem operand s))
    (either_grows (Stands k) (goes_unchanged dest ty.elem operand) d _ _ _ _ (λ _. computed_grows _ k t i l n dest operand d s h.1 w.1 v (through k (T.Convert' ty p operand) operand refl h.0 u) w.0)
    (λ _. converted_to_grows _ k t i l n dest (T.Convert' ty p operand) ty.elem operand d s (has_code h w v) g (has_code h.1 w.1 v) w.0 (kept_if k (T.Convert' ty p operand) u)))
computed_grows lacks k t i l n dest (T.Unary' ty op p operand) d s h w v u g =
    let a = sides k (T.Unary' ty op p operand) u refl in
    either_grows (Stands k) (is_plus op) d _ _ _ _ (λ _. computed_grows _ k t i l n dest operand d s h.1 w.1 v (plus_suits k (is_none ty.shape) operand h.1 h.0 a) w.0)
    (λ e. sized (Stands k) d _ _ _ (ap (λ (b : Bool). (if b then length_of t l (bits_for dest) operand else used_length_of t l (unary_bits (bits_for dest) op operand) true operand) + unary_length l (bits_for dest) (done_as (bits_for dest) op operand) (is_kept operand)) (sym e))
    (negated_to_grows _ k t i l n dest op operand d s (has_code h.1 w.1 v) w.0 (sym h.0 ∙ sym a) e))
computed_grows lacks k t i l n dest (T.Binary' ty place op p left q right) d s h w v u g =
    let a = sides k (T.Binary' ty place op p left q right) u refl in
    sized (Stands k) d _ _ _
    (ap (λ (b : Bool). if k || fits_field (bits_for dest) op right then operands_length t l b (bits_for dest) op left right else used_length_of t l (bits_for dest) true (T.Binary' ty place op p left q right) + 1) a)
    (binary_to_grows _ k t i l n dest (T.Binary' ty place op p left q right) op place left right d s (has_code h w v) g (has_code h.0 w.2 v.0) w.0.gives (has_code h.1 w.3 v.1) w.1.gives (λ e. w.0.in_register (sym a ∙ e)) (λ e. w.1.in_register (sym a ∙ e)))
computed_grows lacks k t i l n dest (T.LogicalOr' ty p left q right) d s h w v u g =
    logical_to_grows _ k t i l n dest (T.LogicalOr' ty p left q right) true left right d s (has_code h w v) g (kept_if k (T.LogicalOr' ty p left q right) u) (has_code h.0 w.1 v.0) w.0.left_gives (has_code h.1 w.2 v.1) w.0.right_gives
computed_grows lacks k t i l n dest (T.LogicalAnd' ty p left q right) d s h w v u g =
    logical_to_grows _ k t i l n dest (T.LogicalAnd' ty p left q right) false left right d s (has_code h w v) g (kept_if k (T.LogicalAnd' ty p left q right) u) (has_code h.0 w.1 v.0) w.0.left_gives (has_code h.1 w.2 v.1) w.0.right_gives
computed_grows lacks k t i l n dest (T.Pcoord ty axis) d s h w v u g =
    in_field_grows _ d 1 dest _ (standing_as k false dest (sides k (T.Pcoord ty axis) u refl ∙ h) s) (λ f. makes (Stands k) dest d _ 1 s (and_instr _ d d 0 (as_it_was d)))
computed_grows lacks k t i l n dest (T.Variable ty x) d s h w v u g =
    read_to_grows k (bits_for dest) t l (T.Variable ty x) _ dest 0 d (sym (sides k (T.Variable ty x) u refl)) (reads _ t i l n (T.Variable ty x) v) (spot_grows _ t i l n (T.Variable ty x) tt w v) (own_bits_at k dest s)
computed_grows lacks k t i l n dest (T.GetChar ty) d s h w v u g =
    in_register_grows _ d 1 dest _ (standing_as k true dest (sides k (T.GetChar ty) u refl ∙ h) s) (λ r. makes (Stands k) dest d _ 1 s (and_instr _ d d 0 (as_it_was d)))
computed_grows lacks k t i l n dest (T.Choice' ty p test q first r second) d s h w v u g =
    sized (Stands k) d _ _ _ (one_more_unless (is_kept test) _) (either_grows (Stands k) (is_kept test) d _ _ _ _
    (λ e. sized (Stands k) d _ _ _ (decided_by_one (is_kept test) (is_quiet first) (λ (b : Bool). used_length_of t l (bits_of (kind_of test)) b test) (arm_length_of t l ty (bits_for dest) first + arm_length_of t l ty (bits_for dest) second) e)
    (choice_to_grows _ k t i l n ty (bits_for dest) test first second dest d (sides k (T.Choice' ty p test q first r second) u refl) s (has_code h.0 w.4 v.0) w.0 e (has_code h.1 w.5 v.1) w.2 (has_code h.2 w.6 v.2) w.3))
    (λ e. sized (Stands k) d _ _ _ (ap (λ (n : ℕ). n + 1) (choice_next t l (bits_for dest) ty p test q first r second e)) (moved_grows _ k t i l n dest (T.Choice' ty p test q first r second) d s (has_code h w v) g (kept_if k (T.Choice' ty p test q first r second) u))))
computed_grows lacks k t i l n dest (T.Element' ty place array p index) d s h w v u g =
    read_to_grows k (bits_for dest) t l (T.Element' ty place array p index) _ dest _ d (sym (sides k (T.Element' ty place array p index) u refl)) (reads _ t i l n (T.Element' ty place array p index) v) (spot_grows _ t i l n (T.Element' ty place array p index) h w v) (own_bits_at k dest s)
computed_grows lacks k t i l n dest (T.LeftIndex' ty place p indexes x of) d s h w v u g =
    gone_grows k (Stands k) dest _ _ d s (index_read_to_grows _ k t i l n (bits_for dest) ty place p indexes x of _ _ dest d (sym (sides k (T.LeftIndex' ty place p indexes x of) u refl)) v (spot_grows _ t i l n (T.LeftIndex' ty place p indexes x of) h w v) (own_bits_at k dest s))
computed_grows lacks k t i l n dest (T.Reduce' ty op p operand) d s h w v u g =
    gone_grows k InRegister dest _ _ d s (message_to_grows true t l (T.Reduce' ty op p operand) _ _ (reduce_length op operand) dest d
    (next_at _ false t i l n _ true operand (has_code h w.2 v) w.1.0 w.1.1) (standing_as k true dest (sides k (T.Reduce' ty op p operand) u refl ∙ w.0) s) (reduce_grows t l ty op p operand))
computed_grows lacks k t i l n dest (T.Scan' ty p source axis combiner direction mode bit within) d s h w v u g =
    either_grows (Stands k) (bits_for dest == 32) d _ _ _ _
    (λ _. gone_grows k InField dest _ _ d s (message_to_grows false t l (T.Scan' ty p source axis combiner direction mode bit within) _ _ 1 dest d
    (next_at _ false t i l n 32 true source (has_code h w.2 v.1) w.1.0 w.1.1) (standing_as k false dest (sides k (T.Scan' ty p source axis combiner direction mode bit within) u refl ∙ w.0) s) (scan_grows _ t i l n ty p source axis combiner direction mode bit within v.0)))
    (λ _. moved_grows _ k t i l n dest (T.Scan' ty p source axis combiner direction mode bit within) d s (has_code h w v) g (kept_if k (T.Scan' ty p source axis combiner direction mode bit within) u))
computed_grows lacks k t i l n dest (T.Call' ty instance p arguments) d s h w v u g =
    gone_grows k (Arrives t (T.Call' ty instance p arguments)) dest _ _ d s (call_to_grows _ t i l n ty instance p arguments _ _ dest d w.0 (all_codes t l true _ arguments (λ b. values_grow _ t i l n true _ arguments h w.1 v [] b)) (standing_as k _ dest (sides k (T.Call' ty instance p arguments) u refl) s))
computed_grows lacks k t i l n dest e d s h w v u g = moved_grows _ k t i l n dest e d s (has_code h w v) g (kept_if k e u)

-- a value becomes that of a register or a field
word_or_code : {on : Basis} (o : Option ℕ) (k : Bool) (dest : Out) (n : ℕ) (made : Made Out) (d : Draft) → Stands k dest → GrowsOn on d n (Stands k) made →
    GrowsOn on d (if not (is_none o) then 1 else n) (Stands k) (elim o as (λ _. Made Out) [ Some word ↦ word_put dest word d | None ↦ made ])
word_or_code (Some w) k dest n made d s g = word_put_grows k dest w d s
word_or_code None k dest n made d s g = g

pub put_grows : (lacks : Type 0) (k : Bool) (t : Typed) (i : Instance) (l : Layout) (n : ℕ) (dest : Out) (e : TExpr) (d : Draft) → Stands k dest → HasCode t i n e → Suits k e → GivesValue t e →
    GrowsOn (ready lacks t i l n) d (put_length t l k (bits_for dest) e) (Stands k) (put_to t l dest e d)
unfolding put_to put_length has_word word_for
put_grows lacks true t i l n (O.Scalar r) e d s c u g = word_or_code (register_word e) true (O.Scalar r) _ _ d refl (computed_grows _ true t i l n (O.Scalar r) e d refl c.shaped c.lowerable c.names u g)
put_grows lacks false t i l n (O.Field f) e d s c u g = word_or_code (word_of e) false (O.Field f) _ _ d refl (computed_grows _ false t i l n (O.Field f) e d refl c.shaped c.lowerable c.names u g)
put_grows lacks true t i l n (O.Field f) e d s c u g = cc
put_grows lacks false t i l n (O.Scalar r) e d s c u g = cc
put_grows lacks k t i l n O.Nothing e d s c u g = absurd s

-- operators on a variable and a value
written_register_grows : {on : Basis} (elem : Elem) (r : ℕ) (d : Draft) → GrowsOn on d 0 Anything (written_register elem r d)
unfolding written_register
written_register_grows {on} elem r d = by (elem.bits == 32)
  where
    by : (b : Bool) → GrowsOn on d 0 Anything (if b then Makes r d else a_register d)
    by true = makes Anything r d d 0 tt (as_it_was d)
    by false = plainly (register_grows _ d)

settled_more : (elem : Elem) (written r n : ℕ) (d e : Draft) → Extended d n e → Extended d (n + settled_length elem) (with_settled elem written r e)
unfolding settled_length with_settled
settled_more elem written r n d e x = by (elem.bits == 32)
  where
    same : (n : ℕ) → n ≡ n + 0
    same n = omega arith

    by : (b : Bool) → Extended d (n + (if b then 0 else 1)) (if b then e else with_instr (I.FrontConvert r written elem) e)
    by true = resized d e _ _ (same n) x
    by false = and_instr _ d e n x

register_operated_grows : (lacks : Type 0) (t : Typed) (i : Instance) (l : Layout) (n : ℕ) (op : Op) (signed : Bool) (place : Place) (elem : Elem) (r : ℕ) (value : TExpr) (d : Draft) → HasCode t i n value → GivesValue t value → is_kept value ≡ true →
    GrowsOn (ready lacks t i l n) d ((used_length_of t l 32 true value + operate_length 32 op true) + settled_length elem) InRegister (register_operated t l op signed place elem r value d)
unfolding register_operated
register_operated_grows lacks t i l n op signed place elem r value d c g k =
    sized InRegister d _ _ _ (sum (used_length_of t l 32 true value) (operate_length 32 op true) (settled_length elem)) (bind InRegister InRegister d _ _ _ _ (next_at _ true t i l n 32 true value c g k d) (λ v between s.
    in_register_grows _ between _ v _ s (λ b. bind Anything InRegister between 0 _ _ _ (written_register_grows elem r between) (λ written after _.
    makes InRegister (O.Scalar r) after _ _ refl (settled_more elem written r _ after _ (operated_more 32 op signed place written r b after))))))
  where
    sum : (n o s : ℕ) → n + (0 + (o + s)) ≡ (n + o) + s
    sum n o s = omega arith

field_operated_grows : (lacks : Type 0) (t : Typed) (i : Instance) (l : Layout) (n : ℕ) (op : Op) (signed : Bool) (place : Place) (f : Field) (value : TExpr) (d : Draft) → HasCode t i n value → GivesValue t value →
    GrowsOn (ready lacks t i l n) d (right_length f.len (used_length_of t l f.len true value) op value) InField (field_operated t l op signed place f value d)
unfolding field_operated
field_operated_grows lacks t i l n op signed place f value d c g =
    sized InField d _ _ _ (nothing_more _ ∙ right_together f.len (used_length_of t l f.len true value) op value) (bind Anything InField d 0 _ _ _ (plainly (entry_grows _ _ _ _ d)) (λ spare begun _.
    bind (IsRight op value) InField begun _ _ _ _ (right_by_grows _ (used_length_of t l f.len true value) op value begun (next_code _ t i l n f.len true value c g)) (λ v after r.
    right_operated_grows op signed place value f f v spare after r)))

variable_operated_grows : (lacks : Type 0) (k : Bool) (t : Typed) (i : Instance) (l : Layout) (n : ℕ) (op : Op) (place : Place) (target value : TExpr) (dest : Out) (d : Draft) → IsAt k (type_of target).elem.bits dest → HasCode t i n value → GivesValue t value → (k ≡ true → is_kept value ≡ true) →
    GrowsOn (ready lacks t i l n) d (operated_length t l k (type_of target).elem op value) (Stands k) (variable_operated t l op place target value dest d)
unfolding variable_operated operated_length
variable_operated_grows lacks true t i l n op place target value (O.Scalar r) d s c g f = register_operated_grows _ t i l n op _ place (type_of target).elem r value d c g (f refl)
variable_operated_grows lacks false t i l n op place target value (O.Field x) d s c g f =
    sized InField d _ _ _ (ap (λ (n : ℕ). right_length n (used_length_of t l n true value) op value) s.1) (field_operated_grows _ t i l n op _ place x value d c g)
variable_operated_grows lacks true t i l n op place target value (O.Field x) d s c g f = let e = s.0 in cc
variable_operated_grows lacks false t i l n op place target value (O.Scalar r) d s c g f = cc
variable_operated_grows lacks k t i l n op place target value O.Nothing d s c g f = absurd s

variable_stepped_grows : {on : Basis} (k : Bool) (l : Layout) (elem : Elem) (op : StepOp) (dest : Out) (d : Draft) → Stands k dest → GrowsOn on d (if k then (word_length l 1 + 1) + settled_length elem else 1) (Stands k) (variable_stepped l elem op dest d)
unfolding variable_stepped
variable_stepped_grows true l elem op (O.Scalar r) d s =
    sized InRegister d _ _ _ (sum (word_length l 1) (settled_length elem)) (bind Anything InRegister d _ _ _ _ (plainly (word_in_grows _ l 1 d)) (λ one between _.
    bind Anything InRegister between 0 _ _ _ (written_register_grows elem r between) (λ written after _.
    makes InRegister (O.Scalar r) after _ _ refl (settled_more elem written r 1 after _ (and_instr _ after after 0 (as_it_was after))))))
  where
    sum : (w s : ℕ) → w + (0 + (1 + s)) ≡ (w + 1) + s
    sum w s = omega arith
variable_stepped_grows false l elem op (O.Field f) d s = makes InField (O.Field f) d _ 1 refl (and_instr _ d d 0 (as_it_was d))
variable_stepped_grows true l elem op (O.Field f) d s = cc
variable_stepped_grows false l elem op (O.Scalar r) d s = cc
variable_stepped_grows k l elem op O.Nothing d s = absurd s

-- assignments that write their variable themselves
WritesOwn : Type 0 → Typed → Instance → Layout → ℕ → AssignOp → Place → TExpr → TExpr → Option Own → Type 0
WritesOwn lacks t i l n op place target value None = Unit {0}
WritesOwn lacks t i l n op place target value (Some own) =
    OwnNamed t i n (Some own) × ((dest : Out) (d : Draft) → IsAt (is_none own.shape) (type_of target).elem.bits dest →
    GrowsOn (ready lacks t i l n) d (assigned_length t l (is_none own.shape) op (type_of target).elem value) (Stands (is_none own.shape)) (variable_assigned t l op place target value dest d))

pub kept_unless_folded : (a b c : Bool) → (not (a && not b) && c) ≡ true → a ≡ true → b ≡ true
kept_unless_folded true true c h e = refl
kept_unless_folded true false c h e = cc
kept_unless_folded false b c h e = cc

bits_of_own : (k : Bool) (elem : Elem) (dest : Out) → IsAt k elem.bits dest → bits_for dest ≡ own_bits k elem
unfolding bits_for own_bits
bits_of_own true elem (O.Scalar r) s = refl
bits_of_own false elem (O.Field f) s = s.1
bits_of_own true elem (O.Field f) s = let g = s.0 in cc
bits_of_own false elem (O.Scalar r) s = cc
bits_of_own k elem O.Nothing s = absurd s

assign_writes_own : (lacks : Type 0) (t : Typed) (i : Instance) (l : Layout) (n : ℕ) (op : AssignOp) (place : Place) (target value : TExpr) (own : Own) → OwnNamed t i n (Some own) → is_none own.shape ≡ is_none (type_of target).shape →
    (is_none own.shape ≡ true → is_kept value ≡ true) → (HasShape (type_of target) → HasShape (type_of value)) → HasCode t i n value → GivesValue t value → WritesOwn lacks t i l n op place target value (Some own)
unfolding WritesOwn
assign_writes_own lacks t i l n op place target value own x a b c h g = (x, λ dest d s. by dest d s (assign_op_of op))
  where
    by : (dest : Out) (d : Draft) → IsAt (is_none own.shape) (type_of target).elem.bits dest → (o : Option Op) → GrowsOn (ready lacks t i l n) d (elim o as (λ _. ℕ) [
      | None ↦ put_length t l (is_none own.shape) (own_bits (is_none own.shape) (type_of target).elem) value
      | Some o ↦ operated_length t l (is_none own.shape) (type_of target).elem o value
    ]) (Stands (is_none own.shape)) (elim o as (λ _. Made Out) [
      | None ↦ put_to t l dest value d
      | Some o ↦ variable_operated t l o place target value dest d
    ])
    by dest d s None =
        sized (Stands (is_none own.shape)) d _ _ _ (ap (λ (n : ℕ). put_length t l (is_none own.shape) n value) (bits_of_own (is_none own.shape) (type_of target).elem dest s))
        (put_grows _ (is_none own.shape) t i l n dest value d (at_stands _ _ dest s) h (suits_by (is_none own.shape) value b (λ e. c (sym a ∙ e))) g)
    by dest d s (Some o) = variable_operated_grows _ (is_none own.shape) t i l n o place target value dest d s h g b

assign_written : (lacks : Type 0) (t : Typed) (i : Instance) (l : Layout) (n : ℕ) (op : AssignOp) (place : Place) (target value : TExpr) → (HasShape (type_of target) → HasShape (type_of value)) → HasCode t i n value → GivesValue t value → (o : Option Own) → OwnFits o (is_none (type_of target).shape) → OwnNamed t i n o →
    WritesOwn lacks t i l n op place target value (elim o as (λ _. Option Own) [ Some own ↦ if writes_itself own op (type_of target).elem value then Some own else None | None ↦ None ])
unfolding WritesOwn writes_itself folds
assign_written lacks t i l n op place target value c h g None f x = tt
assign_written lacks t i l n op place target value c h g (Some own) f x = by (writes_itself own op (type_of target).elem value) refl
  where
    by : (b : Bool) → writes_itself own op (type_of target).elem value ≡ b → WritesOwn lacks t i l n op place target value (if b then Some own else None)
    by false e = tt
    by true e = assign_writes_own _ t i l n op place target value own x f (kept_unless_folded (is_none own.shape) (is_kept value) _ e) c h g

whole_grows : (lacks : Type 0) (t : Typed) (i : Instance) (l : Layout) (n : ℕ) (target : TExpr) (own : Own) (d : Draft) → OwnNamed t i n (Some own) → GrowsOn (ready lacks t i l n) d 0 (IsAt (is_none own.shape) (type_of target).elem.bits) (whole_of t l target own d)
whole_grows lacks t i l n target own d x = if_ready (λ r. standing_grows _ (is_none own.shape) t i l n _ own d r x refl)

assignment_in : (lacks : Type 0) (o : Option Own) (t : Typed) (i : Instance) (l : Layout) (n : ℕ) (op : AssignOp) (place : Place) (target value : TExpr) (whole : Code) (m : ℕ) (d : Draft) → WritesOwn lacks t i l n op place target value o →
    GrowsOn (ready lacks t i l n) d m Anything (whole d) →
    GrowsOn (ready lacks t i l n) d (elim o as (λ _. ℕ) [ Some own ↦ assigned_length t l (is_none own.shape) op (type_of target).elem value | None ↦ m ]) Anything
    (elim o as (λ _. Made Out) [ Some own ↦ then_make (whole_of t l target own d) (λ dest after. variable_assigned t l op place target value dest after) | None ↦ whole d ])
unfolding WritesOwn
assignment_in lacks (Some own) t i l n op place target value whole m d w g =
    sized _ d _ _ _ (nothing_more _) (bind (IsAt (is_none own.shape) (type_of target).elem.bits) Anything d 0 _ _ _ (whole_grows _ t i l n target own d w.0) (λ dest after s.
    weaker (Stands (is_none own.shape)) Anything after _ _ (λ v _. tt) (w.1 dest after s)))
assignment_in lacks None t i l n op place target value whole m d w g = g

step_in : (lacks : Type 0) (o : Option Own) (t : Typed) (i : Instance) (l : Layout) (n : ℕ) (op : StepOp) (target : TExpr) (whole : Code) (m : ℕ) (d : Draft) → OwnNamed t i n o → GrowsOn (ready lacks t i l n) d m Anything (whole d) →
    GrowsOn (ready lacks t i l n) d (elim o as (λ _. ℕ) [ Some own ↦ stepped_length l (is_none own.shape) (type_of target).elem | None ↦ m ]) Anything
    (elim o as (λ _. Made Out) [ Some own ↦ then_make (whole_of t l target own d) (λ dest after. variable_stepped l (type_of target).elem op dest after) | None ↦ whole d ])
step_in lacks (Some own) t i l n op target whole m d x g =
    sized _ d _ _ _ (nothing_more _) (bind (IsAt (is_none own.shape) (type_of target).elem.bits) Anything d 0 _ _ _ (whole_grows _ t i l n target own d x) (λ dest after s.
    weaker (Stands (is_none own.shape)) Anything after _ _ (λ v _. tt) (variable_stepped_grows (is_none own.shape) l (type_of target).elem op dest after (at_stands _ _ dest s))))
step_in lacks None t i l n op target whole m d x g = g

-- the variable that is stepped is one that is named
stepped_named : (t : Typed) (i : Instance) (n : ℕ) (target : TExpr) (o : Option Own) → OwnNamed t i n o → OwnNamed t i n (elim o as (λ _. Option Own) [ Some own ↦ if is_none own.shape || not ((type_of target).elem.bits == 1) then Some own else None | None ↦ None ])
stepped_named t i n target None x = tt
stepped_named t i n target (Some own) x = by (is_none own.shape || not ((type_of target).elem.bits == 1))
  where
    by : (b : Bool) → OwnNamed t i n (if b then Some own else None)
    by true = x
    by false = tt

-- an expression whose value is not used
value_unused : (lacks : Type 0) (t : Typed) (i : Instance) (l : Layout) (n bits : ℕ) (e : TExpr) (d : Draft) → IsShaped e → IsLowerable t e → NamesVariables t i n e → GrowsOn (ready lacks t i l n) d (length_of t l bits e) Anything (value_of t l bits e d)
value_unused lacks t i l n bits e d h w v = weaker (Arrives t e) Anything d _ _ (λ x _. tt) (value_grows _ t i l n bits e h w v d)

pub effect_grows : (lacks : Type 0) (t : Typed) (i : Instance) (l : Layout) (n : ℕ) (e : TExpr) (d : Draft) → IsShaped e → IsLowerable t e → NamesVariables t i n e → GrowsOn (ready lacks t i l n) d (effect_length_of t l e) Anything (effect_of t l e d)
unfolding effect_of effect_length_of assignment_effect assignment_length step_effect step_effect_length IsShaped IsLowerable NamesVariables
effect_grows lacks t i l n (T.Brackets' ty p inner) d h w v = effect_grows _ t i l n inner d h.1 w v
effect_grows lacks t i l n (T.Assign' ty place op p target q value) d h w v =
    assignment_in _ (assigned_own op target value) t i l n op place target value (value_of t l ty.elem.bits (T.Assign' ty place op p target q value)) _ d
    (assign_written _ t i l n op place target value h.1 (has_code h.3 w.3 v.1) w.0 (own_of 1 target) (own_target_fits 1 target h.2) (own_named t i n 1 target v.0))
    (value_unused _ t i l n ty.elem.bits (T.Assign' ty place op p target q value) d h w v)
effect_grows lacks t i l n (T.Step' ty op order p target) d h w v =
    step_in _ (stepped_own target) t i l n op target (value_of t l ty.elem.bits (T.Step' ty op order p target)) _ d (stepped_named t i n target (own_of 1 target) (own_named t i n 1 target v)) (value_unused _ t i l n ty.elem.bits (T.Step' ty op order p target) d h w v)
effect_grows lacks t i l n e d h w v = value_unused _ t i l n (type_of e).elem.bits e d h w v
