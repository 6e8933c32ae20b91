-- The code of an expression whose value goes to a variable, or is not used, stays within itself.
use Rattle.std.proofs.Common.{◌≡◌, ℕ, Bool, true, false, ◌==◌, [], Option, Some, None, is_none, refl, sym, ◌∙◌, subst, ap, if◌then◌else◌}
use Rattle.cstar_base.specs.declared.elem.Elem.{Elem}
use Rattle.cstar_base.specs.declared.operators.Op.{Op}
use Rattle.cstar_base.specs.declared.operators.Place.{Place}
use Rattle.cstar_tree.specs.declared.syntax.AssignOp.{AssignOp}
use Rattle.cstar_tree.specs.declared.syntax.StepOp.{StepOp}
use Rattle.cstar_tree.specs.declared.typed.Instance.{Instance}
use Rattle.cstar_tree.specs.declared.typed.TExpr.{TExpr}
use Rattle.cstar_tree.specs.declared.typed.TExpr as T
use Rattle.cstar_tree.specs.declared.typed.Typed.{Typed}
use Rattle.cstar_tree.specs.declared.typed.ValueType.{ValueType}
use Rattle.cstar_tree.specs.Typed.{type_of}
use Rattle.paris_code.specs.declared.operands.Field.{Field}
use Rattle.lower_base.specs.declared.emit.Out.{Out}
use Rattle.lower_base.specs.declared.emit.Out.TheVariants as O
use Rattle.lower_base.specs.Drafts.{Draft, Made, Makes, first_bits, step, then_make}
use Rattle.lower_base.specs.Kinds.{bits_of, kind_of}
use Rattle.lower_base.specs.Layouts.{Layout, field_of, register_of}
use Rattle.lower_base.specs.Operators.{assign_op_of}
use Rattle.lower_expr.specs.declared.operands.Own.{Own}
use Rattle.lower_expr.specs.Effects.{assigned_own, assignment_effect, binary_to, bits_for, cast_to, computed_to, converted_to, effect_of, field_binary_to, field_operated, fits_field, folds, gone_to, goes_unchanged, logical_to, moved, put_to, register_converted, register_operated, step_effect, stepped_own, variable_assigned, variable_operated, variable_stepped, whole_of, with_settled, writes_itself, written_register}
use Rattle.lower_expr.specs.Joined.{joins}
use Rattle.lower_expr.specs.Operands.{is_plus, own_of, standing}
use Rattle.lower_expr.specs.Steps.{has_truth, is_kept, word_for}
use Rattle.lower_expr.specs.Values.{arm_of, field_binary_of, joined_of, next_of, register_binary_of, scalar_choice_of, tested}
use Rattle.code_lengths.specs.Growth.{Stands}
use Rattle.code_lengths.specs.Lowerable.{GivesValue, IsLowerable, IsValueFor}
use Rattle.code_lengths.specs.Naming.{NamesVariables}
use Rattle.code_lengths.specs.Ready.{HasCode}
use Rattle.code_lengths.specs.Shaped.{HasShape, IsShaped}
use Rattle.code_lengths.proofs.Basis.{standing_as}
use Rattle.code_lengths.proofs.EffectLengths.{Suits, has_code, kept_unless_folded, plus_suits, sides, suits_by, through}
use Rattle.code_lengths.proofs.OperandPieces.{OwnFits, own_target_fits}
use Rattle.proper_code.proofs.Stretches.{Ways, is_inward}
use Rattle.proper_code.proofs.Building.{Builds, Built, Grew, IsInward, Setting, as_before, behind, bind, either, fails, fresh_entry, inner, makes, more, on_register, option}
use Rattle.proper_code.proofs.DecisionPieces.{joined_by_builds, scalar_choice_builds}
use Rattle.proper_code.proofs.ExpressionControl.{arm_inward, call_to_builds, condition_inward, spot_inward, truth_inward, value_inward, values_inward, within}
use Rattle.proper_code.proofs.Jumping.{regrouped}
use Rattle.proper_code.proofs.ShortPieces.{field_of_builds, negated_builds, operand_builds, operated_more, put_value_builds, right_operated_builds, word_in_builds, word_put_builds}
use Rattle.proper_code.proofs.ValuePieces.{extended_builds, fields_builds, index_read_to_builds, message_to_builds, read_to_builds, registers_builds, right_by_builds, tested_by_builds, truth_put_builds}

-- an expression that has code, as an operand and as a test
pub next_inward : (t : Typed) (i : Instance) (l : Layout) (n bits : ℕ) (quiet : Bool) (x : TExpr) → HasCode t i n x → IsInward (within t i l n) (next_of t l bits quiet x)
next_inward t i l n bits quiet x c = operand_builds t l bits _ quiet x (value_inward t i l n bits x c.shaped c.lowerable c.names)

pub test_inward : (t : Typed) (i : Instance) (l : Layout) (n : ℕ) (x : TExpr) → HasCode t i n x → IsInward (within t i l n) (tested t l x)
test_inward t i l n x c = tested_by_builds (has_truth x) _ _ (truth_inward t i l n x c.shaped c.lowerable c.names) (next_inward t i l n (bits_of (kind_of x)) true x c)

moved_inward : (t : Typed) (i : Instance) (l : Layout) (n : ℕ) (dest : Out) (x : TExpr) → HasCode t i n x → IsInward (within t i l n) (moved t l dest x)
unfolding moved
moved_inward t i l n dest x c d e b = bind d _ _ (next_inward t i l n _ true x c d e b) (λ v after. put_value_builds dest v after after (as_before after))

-- conversions
register_converted_inward : (t : Typed) (i : Instance) (l : Layout) (n r : ℕ) (elem : Elem) (x : TExpr) → HasCode t i n x → IsInward (within t i l n) (register_converted t l r elem x)
unfolding register_converted is_inward step
register_converted_inward t i l n r elem x c d e b = bind d _ _ (next_inward t i l n 32 true x c d e b) (λ v after. search inner depth 12)

cast_inward : (t : Typed) (i : Instance) (l : Layout) (n : ℕ) (f : Field) (x : TExpr) (elem : Elem) (operand : TExpr) → HasCode t i n x → HasCode t i n operand → IsInward (within t i l n) (cast_to t l f x elem operand)
unfolding cast_to
cast_inward t i l n f x elem operand c o d e b =
    either (is_kept operand) d _ _ (moved_inward t i l n (O.Field f) x c d e b)
    (either (elem.bits == 1) d _ _ (truth_put_builds f _ (test_inward t i l n operand o) d e b) (extended_builds elem.signed f _ (next_inward t i l n elem.bits true operand o) d e b))

converted_inward : (t : Typed) (i : Instance) (l : Layout) (n : ℕ) (dest : Out) (x : TExpr) (elem : Elem) (operand : TExpr) → HasCode t i n x → HasCode t i n operand → IsInward (within t i l n) (converted_to t l dest x elem operand)
unfolding converted_to
converted_inward t i l n (O.Scalar r) x elem operand c o d e b = register_converted_inward t i l n r elem operand o d e b
converted_inward t i l n (O.Field f) x elem operand c o d e b = cast_inward t i l n f x elem operand c o d e b
converted_inward t i l n O.Nothing x elem operand c o d e b = fails d

-- binary operators
field_binary_inward : (t : Typed) (i : Instance) (l : Layout) (n : ℕ) (f : Field) (x : TExpr) (op : Op) (place : Place) (left right : TExpr) → HasCode t i n x → HasCode t i n left → HasCode t i n right → IsInward (within t i l n) (field_binary_to t l f x op place left right)
unfolding field_binary_to field_binary_of
field_binary_inward t i l n f x op place left right c a z d e b =
    either (fits_field f.len op right) d _ _ (bind d _ _ (fresh_entry f.set _ _ d e b) (λ spare after. fields_builds op _ place f spare _ left _ right (next_inward t i l n _ _ left a) (next_inward t i l n _ true right z) after after (as_before after)))
    (moved_inward t i l n (O.Field f) x c d e b)

binary_inward : (t : Typed) (i : Instance) (l : Layout) (n : ℕ) (dest : Out) (x : TExpr) (op : Op) (place : Place) (left right : TExpr) → HasCode t i n x → HasCode t i n left → HasCode t i n right → IsInward (within t i l n) (binary_to t l dest x op place left right)
unfolding binary_to register_binary_of
binary_inward t i l n (O.Scalar r) x op place left right c a z d e b = registers_builds op _ place r _ _ (next_inward t i l n _ _ left a) (next_inward t i l n _ true right z) d e b
binary_inward t i l n (O.Field f) x op place left right c a z d e b = field_binary_inward t i l n f x op place left right c a z d e b
binary_inward t i l n O.Nothing x op place left right c a z d e b = fails d

-- `&&` and `||`
logical_inward : (t : Typed) (i : Instance) (l : Layout) (n : ℕ) (dest : Out) (x : TExpr) (is_or : Bool) (left right : TExpr) → HasCode t i n x → HasCode t i n left → GivesValue t left → HasCode t i n right → GivesValue t right →
    IsInward (within t i l n) (logical_to t l dest x is_or left right)
unfolding logical_to joined_of
logical_inward t i l n (O.Scalar r) x is_or left right c a ga z gz d e b = moved_inward t i l n (O.Scalar r) x c d e b
logical_inward t i l n (O.Field f) x is_or left right c a ga z gz d e b =
    either (joins left right) d _ _
    (joined_by_builds is_or f _ _ (condition_inward t i l n left a ga (value_inward t i l n _ left a.shaped a.lowerable a.names) (truth_inward t i l n left a.shaped a.lowerable a.names))
    (condition_inward t i l n right z gz (value_inward t i l n _ right z.shaped z.lowerable z.names) (truth_inward t i l n right z.shaped z.lowerable z.names)) d e b)
    (moved_inward t i l n (O.Field f) x c d e b)
logical_inward t i l n O.Nothing x is_or left right c a ga z gz d e b = moved_inward t i l n O.Nothing x c d e b

gone_builds : {on : Setting} (dest : Out) (made : Made Out) (d : Draft) → Builds on d made → Builds on d (gone_to dest made)
unfolding gone_to
gone_builds dest made d b = bind d made _ b (λ _ after. makes dest after after (as_before after))

-- `?:` with a scalar condition
choice_inward : (t : Typed) (i : Instance) (l : Layout) (n : ℕ) (ty : ValueType) (bits : ℕ) (test first second : TExpr) (dest : Out) → Stands (is_none ty.shape) dest → HasCode t i n test → HasCode t i n first → IsValueFor t ty.shape first →
    HasCode t i n second → IsValueFor t ty.shape second → IsInward (within t i l n) (scalar_choice_of t l ty bits test first second dest)
unfolding scalar_choice_of arm_of
choice_inward t i l n ty bits test first second dest s c a ga z gz d e b =
    let one = arm_inward t i l n ty bits first a ga (value_inward t i l n bits first a.shaped a.lowerable a.names) in
    let other = arm_inward t i l n ty bits second z gz (value_inward t i l n bits second z.shaped z.lowerable z.names) in
    scalar_choice_builds dest _ _ _ _ _ (next_inward t i l n _ true test c) (one.long dest s) (other.long dest s) d e b

-- a value that goes to a register or a field
computed_inward : (k : Bool) (t : Typed) (i : Instance) (l : Layout) (n : ℕ) (dest : Out) (x : TExpr) → Stands k dest → IsShaped x → IsLowerable t x → NamesVariables t i n x → Suits k x → IsInward (within t i l n) (computed_to t l dest x)
unfolding computed_to is_kept IsShaped IsLowerable NamesVariables is_inward step
computed_inward k t i l n dest (T.Brackets' ty p held) s h w v u d e b = computed_inward k t i l n dest held s h.1 w v (through k (T.Brackets' ty p held) held refl h.0 u) d e b
computed_inward k t i l n dest (T.Convert' ty p operand) s h w v u d e b =
    either (goes_unchanged dest ty.elem operand) d _ _ (computed_inward k t i l n dest operand s h.1 w.1 v (through k (T.Convert' ty p operand) operand refl h.0 u) d e b)
    (converted_inward t i l n dest (T.Convert' ty p operand) ty.elem operand (has_code h w v) (has_code h.1 w.1 v) d e b)
computed_inward k t i l n dest (T.Unary' ty op p operand) s h w v u d e b =
    either (is_plus op) d _ _ (computed_inward k t i l n dest operand s h.1 w.1 v (plus_suits k (is_none ty.shape) operand h.1 h.0 (sides k (T.Unary' ty op p operand) u refl)) d e b)
    (bind d _ _ (next_inward t i l n _ true operand (has_code h.1 w.1 v) d e b) (λ x after. negated_builds l _ dest x after after (as_before after)))
computed_inward k t i l n dest (T.Binary' ty place op p left q right) s h w v u d e b =
    binary_inward t i l n dest _ op place left right (has_code h w v) (has_code h.0 w.2 v.0) (has_code h.1 w.3 v.1) d e b
computed_inward k t i l n dest (T.LogicalOr' ty p left q right) s h w v u d e b =
    logical_inward t i l n dest _ true left right (has_code h w v) (has_code h.0 w.1 v.0) w.0.left_gives (has_code h.1 w.2 v.1) w.0.right_gives d e b
computed_inward k t i l n dest (T.LogicalAnd' ty p left q right) s h w v u d e b =
    logical_inward t i l n dest _ false left right (has_code h w v) (has_code h.0 w.1 v.0) w.0.left_gives (has_code h.1 w.2 v.1) w.0.right_gives d e b
computed_inward k t i l n dest (T.Pcoord ty axis) s h w v u d e b = search inner depth 12
computed_inward k t i l n dest (T.Variable ty x) s h w v u d e b = read_to_builds t l _ _ dest (spot_inward t i l n (T.Variable ty x) tt w v) d e b
computed_inward k t i l n dest (T.GetChar ty) s h w v u d e b = search inner depth 12
computed_inward k t i l n dest (T.Choice' ty p test q first r second) s h w v u d e b =
    either (is_kept test) d _ _
    (choice_inward t i l n ty _ test first second dest (standing_as k _ dest (sides k (T.Choice' ty p test q first r second) u refl) s) (has_code h.0 w.4 v.0) (has_code h.1 w.5 v.1) w.2 (has_code h.2 w.6 v.2) w.3 d e b)
    (moved_inward t i l n dest _ (has_code h w v) d e b)
computed_inward k t i l n dest (T.Element' ty place array p index) s h w v u d e b = read_to_builds t l _ _ dest (spot_inward t i l n (T.Element' ty place array p index) h w v) d e b
computed_inward k t i l n dest (T.LeftIndex' ty place p indexes x of) s h w v u d e b = gone_builds dest _ d (index_read_to_builds t l _ _ dest (spot_inward t i l n (T.LeftIndex' ty place p indexes x of) h w v) d e b)
computed_inward k t i l n dest (T.Reduce' ty op p operand) s h w v u d e b = gone_builds dest _ d (message_to_builds t l _ _ dest (next_inward t i l n _ true operand (has_code h w.2 v)) d e b)
computed_inward k t i l n dest (T.Scan' ty p source axis combiner direction mode bit bound) s h w v u d e b =
    either (bits_for dest == 32) d _ _ (gone_builds dest _ d (message_to_builds t l _ _ dest (next_inward t i l n 32 true source (has_code h w.2 v.1)) d e b)) (moved_inward t i l n dest _ (has_code h w v) d e b)
computed_inward k t i l n dest (T.Call' ty instance p arguments) s h w v u d e b = gone_builds dest _ d (call_to_builds t l instance _ dest (λ number below. below) (values_inward t i l n true _ arguments h w.1 v []) d e b)
computed_inward k t i l n dest x s h w v u d e b = moved_inward t i l n dest x (has_code h w v) d e b

pub put_inward : (k : Bool) (t : Typed) (i : Instance) (l : Layout) (n : ℕ) (dest : Out) (x : TExpr) → Stands k dest → HasCode t i n x → Suits k x → IsInward (within t i l n) (put_to t l dest x)
unfolding put_to
put_inward k t i l n dest x s c u d e b = option (word_for dest x) d _ _ (λ word. word_put_builds dest word d e b) (computed_inward k t i l n dest x s c.shaped c.lowerable c.names u d e b)

-- a variable, where it stands
pub standing_then : {A : Type 0} {on : Setting} (t : Typed) (l : Layout) (bits : ℕ) (own : Own) (d e : Draft) (next : Out → Draft → Made A) → Built on d e → ((dest : Out) (after : Draft) → Stands (is_none own.shape) dest → Builds on after (next dest after)) →
    Builds on d (then_make (standing t l bits own e) next)
unfolding standing then_make
standing_then {A} {on} t l bits own d e next b f = by own.shape f
  where
    by : (shape : Option ℕ) → ((dest : Out) (after : Draft) → Stands (is_none shape) dest → Builds on after (next dest after)) → Builds on d (then_make (elim shape as (λ _. Made Out) [
      | None ↦ Makes (O.Scalar (register_of l own.variable)) e
      | Some _ ↦ then_make (field_of t l own.variable 0 e) (λ g after. Makes (O.Field (first_bits bits g)) after)
    ]) next)
    by None f = behind d e _ b (f (O.Scalar (register_of l own.variable)) e refl)
    by (Some set) f = regrouped d (field_of t l own.variable 0 e) _ _ (bind d _ _ (field_of_builds t l own.variable 0 d e b) (λ g after. f (O.Field (first_bits bits g)) after refl))

-- operators on a variable and a value
settled_more : {w : Ways} (elem : Elem) (written r : ℕ) (d e : Draft) → Grew w d e → Grew w d (with_settled elem written r e)
unfolding with_settled is_inward step
settled_more elem written r d e b = search inner depth 12

written_builds : {on : Setting} (elem : Elem) (r : ℕ) → IsInward on (written_register elem r)
unfolding written_register
written_builds elem r d e b = search inner depth 12

variable_operated_inward : (t : Typed) (i : Instance) (l : Layout) (n : ℕ) (op : Op) (place : Place) (target value : TExpr) (dest : Out) → HasCode t i n value → IsInward (within t i l n) (variable_operated t l op place target value dest)
unfolding variable_operated register_operated field_operated
variable_operated_inward t i l n op place target value (O.Scalar r) c d e b =
    bind d _ _ (next_inward t i l n 32 true value c d e b) (λ v between. on_register between v _ (λ q. bind between _ _ (written_builds (type_of target).elem r between between (as_before between)) (λ written after.
    makes _ after _ (settled_more (type_of target).elem written r after _ (operated_more op _ place written r q after after (as_before after))))))
variable_operated_inward t i l n op place target value (O.Field f) c d e b =
    bind d _ _ (fresh_entry f.set f.len _ d e b) (λ spare begun. bind begun _ _ (right_by_builds _ op value (next_inward t i l n f.len true value c) begun begun (as_before begun)) (λ v after.
    right_operated_builds op _ place f f v spare after after (as_before after)))
variable_operated_inward t i l n op place target value O.Nothing c d e b = fails d

stepped_builds : {on : Setting} (l : Layout) (elem : Elem) (op : StepOp) (dest : Out) → IsInward on (variable_stepped l elem op dest)
unfolding variable_stepped is_inward step
stepped_builds l elem op (O.Scalar r) d e b =
    bind d _ _ (word_in_builds l 1 d e b) (λ one between. bind between _ _ (written_builds elem r between between (as_before between)) (λ written after. makes _ after _ (settled_more elem written r after _ (more _ after after refl (as_before after)))))
stepped_builds l elem op (O.Field f) d e b = search inner depth 12
stepped_builds l elem op O.Nothing d e b = fails d

-- assignments that write their variable themselves
chosen_own : (o : Option Own) (b : Own → Bool) (own : Own) → (elim o as (λ _. Option Own) [ Some own ↦ if b own then Some own else None | None ↦ None ]) ≡ Some own → (o ≡ Some own) × (b own ≡ true)
chosen_own None b own e = let no : ⊥ = cc in absurd no
chosen_own (Some other) b own e = by (b other) refl e
  where
    by : (c : Bool) → b other ≡ c → (if c then Some other else None) ≡ Some own → (Some other ≡ Some own) × (b own ≡ true)
    by true is e = (e, let same : other ≡ own = cc in ap b (sym same) ∙ is)
    by false is e = let no : ⊥ = cc in absurd no

assigned_inward : (t : Typed) (i : Instance) (l : Layout) (n : ℕ) (op : AssignOp) (place : Place) (target value : TExpr) (own : Own) (dest : Out) → Stands (is_none own.shape) dest → HasCode t i n value → Suits (is_none own.shape) value →
    IsInward (within t i l n) (variable_assigned t l op place target value dest)
assigned_inward t i l n op place target value own dest s c u d e b =
    option (assign_op_of op) d _ _ (λ o. variable_operated_inward t i l n o place target value dest c d e b) (put_inward (is_none own.shape) t i l n dest value s c u d e b)

option_where : {A B : Type 0} {on : Setting} (o : Option A) (d : Draft) (m : A → Made B) (n : Made B) → ((x : A) → o ≡ Some x → Builds on d (m x)) → Builds on d n → Builds on d (elim o as (λ _. Made B) [ Some x ↦ m x | None ↦ n ])
option_where (Some x) d m n f g = f x refl
option_where None d m n f g = g

assignment_inward : (t : Typed) (i : Instance) (l : Layout) (n : ℕ) (op : AssignOp) (place : Place) (target value : TExpr) (whole : Draft → Made Out) → OwnFits (own_of 1 target) (is_none (type_of target).shape) → (HasShape (type_of target) → HasShape (type_of value)) → HasCode t i n value →
    IsInward (within t i l n) whole → IsInward (within t i l n) (assignment_effect t l op place target value whole)
unfolding assignment_effect writes_itself folds
assignment_inward t i l n op place target value whole fits shape c w d e b =
    option_where (assigned_own op target value) d _ _ (λ own is. written own (chosen_own (own_of 1 target) (λ own. writes_itself own op (type_of target).elem value) own is)) (w d e b)
  where
    written : (own : Own) → (own_of 1 target ≡ Some own) × (writes_itself own op (type_of target).elem value ≡ true) → Builds (within t i l n) d (then_make (whole_of t l target own e) (λ dest after. variable_assigned t l op place target value dest after))
    written own is =
        let a : is_none own.shape ≡ is_none (type_of target).shape = subst (λ (o : Option Own). OwnFits o (is_none (type_of target).shape)) is.0 fits in
        standing_then t l _ own d e _ b (λ dest after s. assigned_inward t i l n op place target value own dest s c
        (suits_by (is_none own.shape) value (kept_unless_folded (is_none own.shape) (is_kept value) _ is.1) (λ parallel. shape (sym a ∙ parallel))) after after (as_before after))

step_inward : (t : Typed) (l : Layout) (op : StepOp) (target : TExpr) (whole : Draft → Made Out) {on : Setting} → IsInward on whole → IsInward on (step_effect t l op target whole)
unfolding step_effect
step_inward t l op target whole w d e b =
    option (stepped_own target) d _ _ (λ own. standing_then t l _ own d e _ b (λ dest after s. stepped_builds l (type_of target).elem op dest after after (as_before after))) (w d e b)

-- an expression whose value is not used
pub effect_inward : (t : Typed) (i : Instance) (l : Layout) (n : ℕ) (x : TExpr) → IsShaped x → IsLowerable t x → NamesVariables t i n x → IsInward (within t i l n) (effect_of t l x)
unfolding effect_of IsShaped IsLowerable NamesVariables
effect_inward t i l n (T.Brackets' ty p held) h w v d e b = effect_inward t i l n held h.1 w v d e b
effect_inward t i l n (T.Assign' ty place op p target q value) h w v d e b =
    assignment_inward t i l n op place target value _ (own_target_fits 1 target h.2) h.1 (has_code h.3 w.3 v.1) (value_inward t i l n _ (T.Assign' ty place op p target q value) h w v) d e b
effect_inward t i l n (T.Step' ty op order p target) h w v d e b = step_inward t l op target _ (value_inward t i l n _ (T.Step' ty op order p target) h w v) d e b
effect_inward t i l n x h w v d e b = value_inward t i l n _ x h w v d e b
