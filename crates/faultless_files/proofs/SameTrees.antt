-- The typed trees that an expression becomes differ only in where their parts lie in memory.
use Rattle.std.proofs.Common.{◌≡◌, ℕ, Bool, List, [], ◌∷◌, map, slice_get, Some, refl, sym, ap, ap₂, ◌∙◌, subst}
use Rattle.std.proofs.lemmas.Option.{none-some, same_Some}
use Rattle.std.specs.List.{AllZip}
use mathlib.Core.Former.{Count}
use Rattle.cstar_tree.specs.declared.syntax.BinaryOp.{BinaryOp}
use Rattle.cstar_tree.specs.declared.syntax.BinaryOp.TheVariants as B
use Rattle.cstar_tree.specs.declared.syntax.Expr.{Expr, Row_of-Expr, end_of-Expr, more_of-Expr, items-the_row-Expr}
use Rattle.cstar_tree.specs.declared.syntax.Expr as E
use Rattle.cstar_tree.specs.declared.syntax.Name.{Name}
use Rattle.cstar_tree.specs.declared.syntax.PrefixOp.{PrefixOp}
use Rattle.cstar_tree.specs.declared.syntax.PrefixOp.TheVariants as P
use Rattle.cstar_tree.specs.declared.typed.TExpr.{TExpr}
use Rattle.cstar_tree.specs.declared.typed.ValueType.{ValueType}
use Rattle.cstar_tree.specs.Conversions.{either, promoted, shape_among}
use Rattle.cstar_tree.specs.ExpressionFaults.{parameters_of}
use Rattle.cstar_tree.specs.ExpressionTypes.{Types, TypesEach, TypesIndexes}
use Rattle.cstar_tree.specs.ExpressionTypes as X
use Rattle.cstar_tree.specs.Headers.{Program, Reached}
use Rattle.cstar_tree.specs.Scopes.{Here}
use Rattle.cstar_tree.specs.Typed.{type_of}
use Rattle.faultless_files.proofs.ExpressionLaws.{laws}
use Rattle.unique_types.proofs.Unique.{one_function, one_placed}
use Rattle.faultless_files.proofs.AlikeTrees.{AreAlike, IsNode, converted_alike, each_fitted, each_promoted, each_spread, fitted_alike, node_alike, plain_room, spread_alike}
use Rattle.faultless_files.proofs.ValueTypes.{elem_is, shape_is}
use Rattle.faultless_files.proofs.Forms.{AreOperands, IsCallNode, IsCalled, IsOperand, assigned_type, calling, chosen_type, form, inside, left_type, outside, right_type}

-- each instance of a program has one number
abbrev pub AreNumbered : Program → Type 0
AreNumbered program = (i j : ℕ) (r : Reached) → slice_get program.instances i ≡ Some r → slice_get program.instances j ≡ Some r → i ≡ j

-- ---- operands

same_operands : (op : BinaryOp) {a b c d x y z w : TExpr} → AreAlike a c → AreAlike b d → AreOperands op a b x y → AreOperands op c d z w → AreAlike x z × AreAlike y w
same_operands (B.Number op) p q h k = (fitted_alike (ap₂ (left_type op) p.type_is q.type_is) p h.0 k.0, fitted_alike (ap₂ (right_type op) p.type_is q.type_is) q h.1 k.1)
same_operands B.LogicalOr {c = c} {x = x} p q h k = (subst (λ (t : TExpr). AreAlike x t) k.0 (subst (λ (t : TExpr). AreAlike t c) h.0 p), spread_alike (shape_is p.type_is) q h.1 k.1)
same_operands B.LogicalAnd {c = c} {x = x} p q h k = (subst (λ (t : TExpr). AreAlike x t) k.0 (subst (λ (t : TExpr). AreAlike t c) h.0 p), spread_alike (shape_is p.type_is) q h.1 k.1)

same_operand : (op : PrefixOp) {a b x y : TExpr} → AreAlike a b → IsOperand op a x → IsOperand op b y → AreAlike x y
same_operand P.Plus p h k = converted_alike (ap promoted (elem_is p.type_is)) p h k
same_operand P.Minus p h k = converted_alike (ap promoted (elem_is p.type_is)) p h k
same_operand P.Complement p h k = converted_alike (ap promoted (elem_is p.type_is)) p h k
same_operand P.Not {b = b} {x = x} p h k = subst (λ (t : TExpr). AreAlike x t) k (subst (λ (t : TExpr). AreAlike t b) h p)
same_operand (P.Step op) {b = b} {x = x} p h k = subst (λ (t : TExpr). AreAlike x t) k (subst (λ (t : TExpr). AreAlike t b) h p)
same_operand (P.Reduce op) p h k = converted_alike (ap promoted (elem_is p.type_is)) p h k

same_shape : (ts us : List TExpr) → AllZip AreAlike ts us → shape_among ts ≡ shape_among us
same_shape [] [] all = refl
same_shape [] (u ∷ us) all = absurd all
same_shape (t ∷ ts) [] all = absurd all
same_shape (t ∷ ts) (u ∷ us) all = ap₂ either (shape_is all.0.type_is) (same_shape ts us all.1)

-- ---- calls

same_types : (ts us : List ValueType) → map Some ts ≡ map Some us → ts ≡ us
same_types [] [] is = refl
same_types [] (u ∷ us) is = absurd (cc)
same_types (t ∷ ts) [] is = absurd (cc)
same_types (t ∷ ts) (u ∷ us) is =
    let first : Some t ≡ Some u = cc in
    let rest : map Some ts ≡ map Some us = cc in
    ap₂ (λ (x : ValueType) (xs : List ValueType). x ∷ xs) (same_Some t u first) (same_types ts us rest)

record IsSameCall (given other : List TExpr) (i j : ℕ) : Type 0 where
  arguments : AllZip AreAlike given other
  number : i ≡ j

module _ (program : Program) (numbered : AreNumbered program) where
  same_call : {here : Here} {f : ℕ} {types : List ValueType} {given other xs ys : List TExpr} {i j : ℕ} → AllZip AreAlike given other → IsCalled program here f types given xs i → IsCalled program here f types other ys j → IsSameCall xs ys i j
  same_call {here = here} {f = f} {i = i} {j = j} all (inside around reached fits) (inside around_too reached_too fits_too) =
      record { arguments = each_fitted all fits fits_too; number = numbered i j (record { function = f; current = here.current }) reached reached_too }
  same_call all (inside {around = around} is reached fits) (outside none) = absurd (none-some around (sym none ∙ is))
  same_call all (outside none) (inside {around = around} is reached fits) = absurd (none-some around (sym none ∙ is))
  same_call all (outside none) (outside none_too) = record { arguments = all; number = refl }

  same_call_node : {here : Here} {word : List ℕ} {es : List Expr} {t u : TExpr} → type_of t ≡ type_of u → (j : IsCallNode program here word es t) (k : IsCallNode program here word es u) → AllZip AreAlike j.given k.given → AreAlike t u
  same_call_node {here = here} {t = t} same j k all =
      let f : j.f ≡ k.f = one_function j.means k.means in
      let placed = one_placed program.functions f j.is_placed k.is_placed in
      let types : j.types ≡ k.types = same_types j.types k.types (sym j.types_are ∙ (ap₂ (parameters_of here) placed f ∙ k.types_are)) in
      let called = subst (λ (ts : List ValueType). IsCalled program here k.f ts j.given j.arguments j.instance) types (subst (λ (n : ℕ). IsCalled program here n j.types j.given j.arguments j.instance) f j.called) in
      let it = same_call all called k.called in
      node_alike same (subst (λ (n : ℕ). IsNode t plain_room (calling n) j.arguments) it.number j.node) k.node it.arguments

module _ (program : Program) (numbered : AreNumbered program) where
  one_type : {here : Here} {e : Expr} {t u : TExpr} {b c : Bool} → Types program here e t b → Types program here e u c → type_of t ≡ type_of u
  one_type {here = here} {e = e} {t = t} {u = u} {b = b} {c = c} x y = let one = laws.unique program here e t u b c x y in one.0.type_is

  mutual
    pub same : (e : Expr) {here : Here} {t u : TExpr} {b c : Bool} → Types program here e t b → Types program here e u c → AreAlike t u
    same (E.Assign' p op _ target _ value) x y =
        let j = form x in let k = form y in let a = same target j.3 k.3 in let b = same value j.4 k.4 in
        node_alike (one_type x y) j.6 k.6 (a, (fitted_alike (ap₂ (assigned_type op) a.type_is b.type_is) b j.5 k.5, tt))
    same (E.Choice' p _ test _ second _ third) x y =
        let j = form x in let k = form y in let c = same test j.5 k.5 in let a = same second j.6 k.6 in let b = same third j.7 k.7 in
        let ty = ap (λ (v : ValueType). chosen_type v (type_of j.1) (type_of j.2)) c.type_is ∙ ap₂ (chosen_type (type_of k.0)) a.type_is b.type_is in
        node_alike (one_type x y) j.10 k.10 (c, (fitted_alike ty a j.8 k.8, (fitted_alike ty b j.9 k.9, tt)))
    same (E.Binary' p op _ left _ right) x y =
        let j = form x in let k = form y in
        let both = same_operands op (same left j.4 k.4) (same right j.5 k.5) j.6 k.6 in
        node_alike (one_type x y) j.7 k.7 (both.0, (both.1, tt))
    same (E.Prefix' p op _ operand) x y = let j = form x in let k = form y in node_alike (one_type x y) j.4 k.4 (same_operand op (same operand j.2 k.2) j.3 k.3, tt)
    same (E.Casts' chain _ operand) x y = let j = form x in let k = form y in node_alike (one_type x y) j.2 k.2 (same operand j.1 k.1, tt)
    same (E.ParallelCast' p written _ operand) x y =
        let j = form x in let k = form y in
        node_alike (one_type x y) j.6 k.6 (spread_alike (shape_is (same_Some j.0 k.0 (sym j.3 ∙ k.3))) (same operand j.4 k.4) j.5 k.5, tt)
    same (E.Postfix' p op _ operand) x y = let j = form x in let k = form y in node_alike (one_type x y) j.2 k.2 (same operand j.1 k.1, tt)
    same (E.Name n) x y = node_alike (one_type x y) (form x) (form y) tt
    same (E.Element' n bracket _ index) x y = let j = form x in let k = form y in node_alike (one_type x y) j.2 k.2 (same index j.1 k.1, tt)
    same (E.Number p value u) x y = node_alike (one_type x y) (form x) (form y) tt
    same (E.Dot p) x y = node_alike (one_type x y) (form x) (form y) tt
    same (E.Brackets' p _ inner) x y = let j = form x in let k = form y in node_alike (one_type x y) j.3 k.3 (same inner j.2 k.2, tt)
    same (E.Call' n _ row) x y = let j = form x in let k = form y in same_call_node program numbered (one_type x y) j k (same_row row j.typed k.typed)
    same (E.LeftIndex' p _ row n) x y =
        let j = form x in let k = form y in let all = same_indexes row j.2 k.2 in
        node_alike (one_type x y) j.4 k.4 (each_spread (same_shape j.0 k.0 all) all j.3 k.3)
    same (E.Pcoord' p _ axis) x y = node_alike (one_type x y) (form x) (form y) tt
    same (E.PositionsOf p written) x y = node_alike (one_type x y) (form x) (form y) tt
    same (E.RankOf p written) x y = node_alike (one_type x y) (form x) (form y) tt
    same (E.DimOf' p written _ axis) x y = node_alike (one_type x y) (form x) (form y) tt
    same (E.Scan' p _ source _ axis _ _ mode bit _) x y =
        let j = form x in let k = form y in let a = same source j.2 k.2 in
        node_alike (one_type x y) j.4 k.4 (converted_alike (ap promoted (elem_is a.type_is)) a j.3 k.3, tt)
    same (E.Enumerate' p _ axis _ _ mode bit) x y = node_alike (one_type x y) (form x) (form y) tt
    same (E.Printf' p text _ row) x y = let j = form x in let k = form y in node_alike (one_type x y) j.4 k.4 (each_promoted (same_row row j.2 k.2) j.3 k.3)
    same (E.GetChar p) x y = node_alike (one_type x y) (form x) (form y) tt

    same_row : {n : Count} (row : Row_of-Expr n) {here : Here} {ts us : List TExpr} → TypesEach program here (items-the_row-Expr n row) ts → TypesEach program here (items-the_row-Expr n row) us → AllZip AreAlike ts us
    same_row end_of-Expr X.no_expression X.no_expression = tt
    same_row (more_of-Expr e rest) (X.next_expression a more) (X.next_expression b others) = (same e a b, same_row rest more others)

    same_indexes : {k : Count} (row : Row_of-Expr k) {here : Here} {n : Name} {axis : ℕ} {ts us : List TExpr} → TypesIndexes program here n axis (items-the_row-Expr k row) ts → TypesIndexes program here n axis (items-the_row-Expr k row) us → AllZip AreAlike ts us
    same_indexes end_of-Expr X.no_index X.no_index = tt
    same_indexes (more_of-Expr e rest) (X.next_index a more) (X.next_index b others) = (same e a b, same_indexes rest more others)
