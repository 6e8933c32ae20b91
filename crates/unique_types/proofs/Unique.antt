-- The rules give an expression one type.
use Rattle.std.proofs.Common.{◌≡◌, ℕ, ◌+◌, Bool, List, [], ◌∷◌, Option, Some, slice_get, refl, sym, ap, subst, ◌∙◌}
use Rattle.std.specs.List.{AllZip}
use mathlib.Core.Former.{Count}
use Rattle.cstar_base.specs.declared.elem.Elem.{Elem}
use Rattle.cstar_tree.specs.declared.syntax.BinaryOp.{BinaryOp}
use Rattle.cstar_tree.specs.declared.syntax.Expr.{Expr, Row_of-Expr, end_of-Expr, more_of-Expr, items-the_row-Expr}
use Rattle.cstar_tree.specs.declared.syntax.Expr as E
use Rattle.cstar_tree.specs.declared.syntax.Name.{Name}
use Rattle.cstar_tree.specs.declared.typed.TExpr.{TExpr}
use Rattle.cstar_tree.specs.declared.typed.ValueType.{ValueType}
use Rattle.cstar_tree.specs.declared.typed.Variable.{Variable}
use Rattle.cstar_tree.specs.Conversions.{either, promoted, scalar, shape_among}
use Rattle.cstar_tree.specs.ExpressionFaults.{HoldsBits}
use Rattle.cstar_tree.specs.ExpressionFaults as F
use Rattle.cstar_tree.specs.ExpressionTypes.{GivesOutside, IsVariable, Types, TypesEach, TypesIndexes, callee, cast_elem}
use Rattle.cstar_tree.specs.ExpressionTypes as X
use Rattle.cstar_tree.specs.Headers.{Placed, Program, Returns, returns_of}
use Rattle.cstar_tree.specs.Operations.{Target, left_target}
use Rattle.cstar_tree.specs.Scopes.{Here, Meaning, VariableType, a_function, a_variable}
use Rattle.cstar_tree.specs.Typed.{type_of}
use Rattle.unique_types.specs.Alike.{IsAlike}
use Rattle.unique_types.proofs.Judged.{IsLike, binary_type, choice_type, judged, of_parts, prefix_type}

alike : {t u : TExpr} {b c d e : Bool} {v w : ValueType} {r s : Option Target} → IsLike t b v r d → IsLike u c w s e → v ≡ w → r ≡ s → d ≡ e → IsAlike t u × (b ≡ c)
alike x y v_is r_is d_is = (record { type_is = x.type_is ∙ (v_is ∙ sym y.type_is); target_is = x.target_is ∙ (r_is ∙ sym y.target_is) }, x.value_is ∙ (d_is ∙ sym y.value_is))

-- ---- what is named

pub one_variable : {m : Option Meaning} {v w : Variable} {a b : VariableType} → m ≡ Some (a_variable v (Some a)) → m ≡ Some (a_variable w (Some b)) → a ≡ b
one_variable is known = let both = sym is ∙ known in cc

pub one_function : {m : Option Meaning} {f g : ℕ} → m ≡ Some (a_function f) → m ≡ Some (a_function g) → f ≡ g
one_function is known = let both = sym is ∙ known in cc

pub one_placed : (functions : List Placed) {f g : ℕ} {p q : Placed} → f ≡ g → slice_get functions f ≡ Some p → slice_get functions g ≡ Some q → p ≡ q
one_placed functions {p = p} same is known = let both = sym (subst (λ (k : ℕ). slice_get functions k ≡ Some p) same is) ∙ known in cc

pub bits_shape : {ty : VariableType} {s : ℕ} → HoldsBits ty s → ty.value.shape ≡ Some s
bits_shape (F.holds_bits bits) = refl

abbrev pub returned : Here → Placed → ℕ → Returns
returned here placed f = returns_of (callee here placed f) placed.function.result

gives_one : {r : Returns} {t u : ValueType} {b c : Bool} → GivesOutside r t b → GivesOutside r u c → (t ≡ u) × (b ≡ c)
gives_one (X.known X.no_value) (X.known X.no_value) = (refl, refl)
gives_one (X.known X.value) (X.known X.value) = (refl, refl)
gives_one X.not_known X.not_known = (refl, refl)
gives_one X.not_known (X.known g) = elim g [ ]

one_result : (here : Here) {f g : ℕ} {p q : Placed} {t u : ValueType} {b c : Bool} → f ≡ g → p ≡ q → GivesOutside (returned here p f) t b → GivesOutside (returned here q g) u c → (t ≡ u) × (b ≡ c)
one_result here {g = g} {p = p} {t = t} {b = b} same_f same_p x y =
    gives_one (subst (λ (r : Returns). GivesOutside r t b) (ap (λ (k : ℕ). returned here p k) same_f ∙ ap (λ (q : Placed). returned here q g) same_p) x) y

-- ---- shapes and targets

pub same_shape : (ts us : List TExpr) → AllZip IsAlike ts us → shape_among ts ≡ shape_among us
same_shape [] [] h = refl
same_shape [] (u ∷ us) h = absurd h
same_shape (t ∷ ts) [] h = absurd h
same_shape (t ∷ ts) (u ∷ us) h =
    ap (λ (ty : ValueType). either ty.shape (shape_among ts)) h.0.type_is ∙ ap (either (type_of u).shape) (same_shape ts us h.1)

same_parts : {a b : Elem} {s r : Option ℕ} → a ≡ b → s ≡ r → of_parts a s ≡ of_parts b r
same_parts {b = b} {s = s} e h = ap (λ (k : Elem). of_parts k s) e ∙ ap (of_parts b) h

same_choice : {c d a b v w : ValueType} → c ≡ d → a ≡ b → v ≡ w → choice_type c a v ≡ choice_type d b w
same_choice {d = d} {a = a} {b = b} {v = v} x y z = ap (λ (k : ValueType). choice_type k a v) x ∙ (ap (λ (k : ValueType). choice_type d k v) y ∙ ap (choice_type d b) z)

same_binary : (op : BinaryOp) {a b v w : ValueType} → a ≡ b → v ≡ w → binary_type op a v ≡ binary_type op b w
same_binary op {b = b} {v = v} x y = ap (λ (k : ValueType). binary_type op k v) x ∙ ap (binary_type op b) y

-- ---- expressions

mutual
  pub same : (e : Expr) {program : Program} {here : Here} {t u : TExpr} {b c : Bool} → Types program here e t b → Types program here e u c → IsAlike t u × (b ≡ c)
  same (E.Assign' p op _ target _ value) x y =
      let j = judged x in let k = judged y in let a = same target j.stored.types k.stored.types in alike j.like k.like a.0.type_is refl refl
  same (E.Choice' p _ test _ second _ third) x y =
      let j = judged x in let k = judged y in
      let a = same test j.condition.types k.condition.types in let b = same second j.left.types k.left.types in let c = same third j.right.types k.right.types in
      alike j.like k.like (same_choice a.0.type_is b.0.type_is c.0.type_is) refl refl
  same (E.Binary' p op _ left _ right) x y =
      let j = judged x in let k = judged y in
      let a = same left j.first.types k.first.types in let b = same right j.second.types k.second.types in
      alike j.like k.like (same_binary op a.0.type_is b.0.type_is) refl refl
  same (E.Prefix' p op _ operand) x y =
      let j = judged x in let k = judged y in let a = same operand j.typed.types k.typed.types in alike j.like k.like (ap (prefix_type op) a.0.type_is) refl refl
  same (E.Casts' chain _ operand) x y =
      let j = judged x in let k = judged y in let a = same operand j.typed.types k.typed.types in
      alike j.like k.like (ap (λ (ty : ValueType). scalar (cast_elem chain.items ty.elem)) a.0.type_is) refl refl
  same (E.ParallelCast' p written _ operand) x y = let j = judged x in let k = judged y in let is = sym j.is_written ∙ k.is_written in alike j.like k.like (cc) refl refl
  same (E.Postfix' p op _ operand) x y = let j = judged x in let k = judged y in let a = same operand j.typed.types k.typed.types in alike j.like k.like a.0.type_is refl refl
  same (E.Name n) x y = let j = judged x in let k = judged y in alike j.like k.like (ap (λ (v : VariableType). v.value) (one_variable j.is_variable k.is_variable)) refl refl
  same (E.Element' n bracket _ index) x y = let j = judged x in let k = judged y in alike j.like k.like (ap (λ (v : VariableType). v.value) (one_variable j.is_variable k.is_variable)) refl refl
  same (E.Number p value u) x y = alike (judged x) (judged y) refl refl refl
  same (E.Dot p) x y = let j = judged x in let k = judged y in alike j.like k.like refl refl refl
  same (E.Brackets' p _ inner) x y = let j = judged x in let k = judged y in let a = same inner j.types k.types in alike j.like k.like a.0.type_is a.0.target_is a.1
  same (E.Call' n _ row) {program = program} {here = here} x y =
      let j = judged x in let k = judged y in
      let f = one_function j.is_function k.is_function in
      let r = one_result here f (one_placed program.functions f j.is_placed k.is_placed) j.gives k.gives in
      alike j.like k.like r.0 refl r.1
  same (E.LeftIndex' p _ row n) x y =
      let j = judged x in let k = judged y in
      let s = same_shape j.given k.given (same_row row j.typed k.typed) in
      alike j.like k.like (same_parts (ap (λ (v : VariableType). v.value.elem) (one_variable j.is_variable k.is_variable)) s) (ap (λ (shape : Option ℕ). Some (left_target p shape)) s) refl
  same (E.Pcoord' p _ axis) x y = let j = judged x in let k = judged y in alike j.like k.like refl refl refl
  same (E.PositionsOf p written) x y = let j = judged x in let k = judged y in alike j.like k.like refl refl refl
  same (E.RankOf p written) x y = let j = judged x in let k = judged y in alike j.like k.like refl refl refl
  same (E.DimOf' p written _ axis) x y = let j = judged x in let k = judged y in alike j.of_shape.like k.of_shape.like refl refl refl
  same (E.Scan' p _ source _ axis _ _ mode bit _) {here = here} x y =
      let j = judged x in let k = judged y in let a = same source j.typed.types k.typed.types in
      alike j.like k.like (ap (λ (ty : ValueType). of_parts (promoted ty.elem) here.current) a.0.type_is) refl refl
  same (E.Enumerate' p _ axis _ _ mode bit) x y = let j = judged x in let k = judged y in alike j.like k.like refl refl refl
  same (E.Printf' p text _ row) x y = let j = judged x in let k = judged y in alike j.like k.like refl refl refl
  same (E.GetChar p) x y = alike (judged x) (judged y) refl refl refl

  same_row : {k : Count} (row : Row_of-Expr k) {program : Program} {here : Here} {n : Name} {axis : ℕ} {ts us : List TExpr} → TypesIndexes program here n axis (items-the_row-Expr k row) ts → TypesIndexes program here n axis (items-the_row-Expr k row) us → AllZip IsAlike ts us
  same_row end_of-Expr X.no_index X.no_index = tt
  same_row (more_of-Expr e rest) (X.next_index a more) (X.next_index b others) = ((same e a b).0, same_row rest more others)

-- ---- lists

pub same_each : {program : Program} {here : Here} (es : List Expr) {ts us : List TExpr} → TypesEach program here es ts → TypesEach program here es us → AllZip IsAlike ts us
same_each [] X.no_expression X.no_expression = tt
same_each (e ∷ es) (X.next_expression a more) (X.next_expression b others) = ((same e a b).0, same_each es more others)

pub same_indexes : {program : Program} {here : Here} {n : Name} (axis : ℕ) (es : List Expr) {ts us : List TExpr} → TypesIndexes program here n axis es ts → TypesIndexes program here n axis es us → AllZip IsAlike ts us
same_indexes axis [] X.no_index X.no_index = tt
same_indexes axis (e ∷ es) (X.next_index a more) (X.next_index b others) = ((same e a b).0, same_indexes (axis + 1) es more others)
