-- Left indexes with typed indexes: the trees that they become, and the faults at them.
use Rattle.std.proofs.Common.{◌≡◌, ◌<◌, ◌^◌, ℕ, Bool, true, false, List, [], ◌∷◌, ◌++◌, length, arith, Option, Some, None, Box, Vec, refl, sym, subst, ◌∙◌}
use Rattle.std.specs.List.{slice_get}
use Rattle.std.specs.declared.alloc.Global.{Global}
use Rattle.std.proofs.Math.Dec.{eqb}
use Rattle.std.proofs.lemmas.Bool.{eq-eqb, eqb-true}
use Rattle.std.proofs.lemmas.List.{length-map, map-append}
use Rattle.cstar_base.specs.declared.elem.Elem.{Elem}
use Rattle.cstar_base.specs.declared.faults.Fault.TheVariants as Faults
use Rattle.cstar_base.specs.declared.operators.Place.{Place}
use Rattle.cstar_tree.specs.declared.syntax.Expr.{Expr}
use Rattle.cstar_tree.specs.declared.syntax.Expr as E
use Rattle.cstar_tree.specs.declared.syntax.Name.{Name}
use Rattle.cstar_tree.specs.declared.typed.ShapeInfo.{ShapeInfo}
use Rattle.cstar_tree.specs.declared.typed.TExpr.{TExpr}
use Rattle.cstar_tree.specs.declared.typed.TExpr as T
use Rattle.cstar_tree.specs.declared.typed.Variable.{Variable}
use Rattle.cstar_tree.specs.Conversions.{AreSpread, IsSpread, either, shape_among}
use Rattle.cstar_tree.specs.Conversions as C
use Rattle.cstar_tree.specs.ExpressionFaults.{FaultAt}
use Rattle.cstar_tree.specs.ExpressionFaults as F
use Rattle.cstar_tree.specs.ExpressionTypes.{IsVariable, Types, TypesIndexes}
use Rattle.cstar_tree.specs.ExpressionTypes as X
use Rattle.cstar_tree.specs.Headers.{Program}
use Rattle.cstar_tree.specs.Scopes.{Here, extents_of}
use Rattle.type_scopes.specs.Shapes.{rank_of}
use Rattle.type_scopes.specs.declared.names.VariableType as Names
use Rattle.type_expressions.specs.Along.{HasExtents, is_rank}
use Rattle.type_expressions.specs.Answers.{HasShapes, trees}
use Rattle.type_scopes.specs.Bindings.{variable_type}
use Rattle.type_expressions.proofs.OfShapes.{rank_is}

spread_behind : {shape : Option ℕ} {es ps : List TExpr} {e p : TExpr} → AreSpread shape es ps → IsSpread e shape p → AreSpread shape (es ++ e ∷ []) (ps ++ p ∷ [])
spread_behind C.none h = C.next h C.none
spread_behind (C.next k rest) h = C.next k (spread_behind rest h)

pub push_spread : (values : List (Box TExpr Global)) (shape : Option ℕ) {ps new : List TExpr} (e : Box TExpr Global) {p q : TExpr} → AreSpread shape (trees values) ps → IsSpread e.value shape p → q ≡ p → new ≡ ps ++ q ∷ [] → AreSpread shape (trees (values ++ e ∷ [])) new
push_spread values shape {ps = ps} e {p = p} before spread same is =
    let value : Box TExpr Global → TExpr = λ (b : Box TExpr Global). b.value in
    rw (is, same) (subst (λ (es : List TExpr). AreSpread shape es (ps ++ p ∷ [])) (sym (map-append value values (e ∷ []))) (spread_behind before spread))

indexes_as_many : {program : Program} {here : Here} {n : Name} {axis : ℕ} {es : List Expr} {ts : List TExpr} → TypesIndexes program here n axis es ts → length ts ≡ length es
indexes_as_many X.no_index = refl
indexes_as_many (X.next_index {es = es} {ts = ts} h rest) = let k = indexes_as_many rest in omega arith

as_many : {program : Program} {here : Here} {n : Name} {axis : ℕ} {es : List Expr} (values : List (Box TExpr Global)) → TypesIndexes program here n axis es (trees values) → length values ≡ length es
as_many values h = sym (length-map values (λ (b : Box TExpr Global). b.value)) ∙ indexes_as_many h

abbrev IsPlain : Here → Name → Variable → Elem → Option ℕ → Option ℕ → Type 0
IsPlain here n v elem shape array = IsVariable here n v (record { value = record { elem = elem; shape = shape }; array = array })

-- the variable that is named has this shape, or none, and is no array
plain : (here : Here) (n : Name) (v : Variable) (ty : Names.VariableType) {shape : Option ℕ} → IsVariable here n v (variable_type ty) → ty.array ≡ None → ty.shape ≡ shape → IsPlain here n v ty.elem shape None
plain here n v ty is array of = subst (λ (k : Option ℕ). IsPlain here n v ty.elem k None) of (subst (IsPlain here n v ty.elem ty.shape) array is)

-- whether as many indexes are written as the shape has axes, by what the code counts
counted : (shapes : List ShapeInfo) (here : Here) (of : ℕ) {program : Program} {n : Name} {axis : ℕ} {extents : List ℕ} {b : Bool} {es : List Expr} (values : List (Box TExpr Global)) (rank : Option ℕ) (count : ℕ) → HasShapes shapes here → extents_of here of ≡ Some extents → length extents < 2 ^ 32 → TypesIndexes program here n axis es (trees values) → rank ≡ rank_of (slice_get shapes of) → count ≡ length values → is_rank rank count ≡ b → eqb (length extents) (length es) ≡ b
counted shapes here of {extents = extents} {b = b} values rank count has is few h rank_of_shape count_is fits =
    subst (λ (k : ℕ). eqb (length extents) k ≡ b) (count_is ∙ as_many values h) (subst (λ (r : Option ℕ). is_rank r count ≡ b) (rank_of_shape ∙ rank_is shapes here of has is few) fits)

pub left_index_types : (ty : Names.VariableType) (shapes : List ShapeInfo) {program : Program} {here : Here} {p : Place} {n : Name} {v : Variable} (of : ℕ) (given : Vec Expr Global) (values : List (Box TExpr Global)) (spread : Vec TExpr Global) (shape : Option ℕ) (rank : Option ℕ) (count : ℕ) → HasShapes shapes here → IsVariable here n v (variable_type ty) → ty.array ≡ None → ty.shape ≡ Some of → HasExtents here (Some of) → TypesIndexes program here n 0 given.items (trees values) → rank ≡ rank_of (slice_get shapes of) → count ≡ length values → is_rank rank count ≡ true → shape ≡ shape_among (trees values) → AreSpread shape (trees values) spread.items → Types program here (E.LeftIndex p given n) (T.LeftIndex (record { elem = ty.elem; shape = shape }) p spread v of) true
left_index_types ty shapes {here = here} {n = n} {v = v} of given values spread shape rank count has is array of_is extents h rank_of_shape count_is fits shape_is spreads =
    let same = eqb-true (length extents.0) (length given.items) (counted shapes here of values rank count has extents.1 extents.2 h rank_of_shape count_is fits) in
    rw shape_is (X.left_index given spread (plain here n v ty is array of_is) extents.1 (sym same) h (subst (λ (k : Option ℕ). AreSpread k (trees values) spread.items) shape_is spreads))

pub wrong_count : (ty : Names.VariableType) (shapes : List ShapeInfo) {program : Program} {here : Here} {p : Place} {n : Name} {v : Variable} (of : ℕ) (given : Vec Expr Global) (values : List (Box TExpr Global)) (rank : Option ℕ) (count : ℕ) → HasShapes shapes here → IsVariable here n v (variable_type ty) → ty.array ≡ None → ty.shape ≡ Some of → HasExtents here (Some of) → TypesIndexes program here n 0 given.items (trees values) → rank ≡ rank_of (slice_get shapes of) → count ≡ length values → is_rank rank count ≡ false → FaultAt program here (E.LeftIndex p given n) Faults.IndexCount p
wrong_count ty shapes {here = here} {n = n} {v = v} of given values rank count has is array of_is extents h rank_of_shape count_is fits =
    let other = counted shapes here of values rank count has extents.1 extents.2 h rank_of_shape count_is fits in
    F.index_count given (plain here n v ty is array of_is) extents.1 h (λ same. let e = eq-eqb (length extents.0) (length given.items) (sym same) in cc)

pub scalar_indexed : (ty : Names.VariableType) {program : Program} {here : Here} {p : Place} {n : Name} {v : Variable} {ts : List TExpr} (given : Vec Expr Global) → IsVariable here n v (variable_type ty) → ty.array ≡ None → ty.shape ≡ None → TypesIndexes program here n 0 given.items ts → FaultAt program here (E.LeftIndex p given n) Faults.IndexCount p
scalar_indexed ty {here = here} {n = n} {v = v} given is array of_is h = F.index_of_scalar given (plain here n v ty is array of_is) h
