-- The values of `printf`: whether one is parallel, and their promotion.
use Rattle.std.proofs.Common.{◌≡◌, ℕ, Bool, true, false, ◌||◌, List, [], ◌∷◌, ◌++◌, length, Option, Some, None, Box, Vec, arith, refl, sym, ap, subst, ◌∙◌}
use Rattle.std.specs.List.{list_any, slice_get}
use Rattle.std.specs.Option.{is_some, option_map}
use Rattle.std.specs.declared.alloc.Global.{Global}
use Rattle.std.proofs.lemmas.List.{length-map, map-append}
use Rattle.std.proofs.lemmas.List.Folds.{Any-from_list_any}
use Rattle.std.proofs.lemmas.Option.{slice_get-map, slice_get_read}
use Rattle.cstar_base.specs.declared.elem.Elem.{Elem}
use Rattle.cstar_base.specs.declared.operators.Place.{Place}
use Rattle.cstar_tree.specs.declared.syntax.Expr.{Expr}
use Rattle.cstar_tree.specs.declared.syntax.Expr as E
use Rattle.cstar_tree.specs.declared.typed.Piece.{Piece}
use Rattle.cstar_tree.specs.declared.typed.TExpr.{TExpr}
use Rattle.cstar_tree.specs.declared.typed.TExpr as T
use Rattle.cstar_tree.specs.Conversions.{ArePromoted, IsConverted, either, int, promoted, shape_among}
use Rattle.cstar_tree.specs.Conversions as C
use Rattle.cstar_tree.specs.ExpressionTypes.{Types, TypesEach}
use Rattle.cstar_tree.specs.ExpressionTypes as X
use Rattle.cstar_tree.specs.Formats.{conversions, pieces_of}
use Rattle.cstar_tree.specs.Headers.{Program}
use Rattle.cstar_tree.specs.Scopes.{Here, part}
use Rattle.cstar_tree.specs.Typed.{type_of}
use Rattle.type_expressions.specs.Answers.{is_parallel, trees}
use Rattle.type_expressions.proofs.AtSites.{some_in}

-- a parallel value among values, with its number
pub parallel_among : (values : List (Box TExpr Global)) → list_any is_parallel values ≡ true → (which : ℕ) × (a : TExpr) × (s : ℕ) × (slice_get (trees values) which ≡ Some a) × ((type_of a).shape ≡ Some s)
parallel_among values is =
    let any = Any-from_list_any is_parallel values is in
    let value : Box TExpr Global → TExpr = λ (b : Box TExpr Global). b.value in
    let found = slice_get_read values (length values) any.0 any.1 refl any.2 (sym any.3) in
    let s = some_in (type_of any.1.value).shape any.4 in
    (any.0, any.1.value, s.0, slice_get-map value values any.0 ∙ ap (option_map value) found, s.1)

scalar_first : (shape : Option ℕ) {rest : Bool} {others : Option ℕ} → (rest ≡ false → others ≡ None) → (is_some shape || rest) ≡ false → either shape others ≡ None
scalar_first None f is = f is
scalar_first (Some s) f is = absurd (cc)

pub none_among : (values : List (Box TExpr Global)) → list_any is_parallel values ≡ false → shape_among (trees values) ≡ None
none_among [] is = refl
none_among (x ∷ xs) is = scalar_first (type_of x.value).shape (λ rest. none_among xs rest) is

promoted_behind : {es ps : List TExpr} {e p : TExpr} → ArePromoted es ps → IsConverted e (promoted (type_of e).elem) p → ArePromoted (es ++ e ∷ []) (ps ++ p ∷ [])
promoted_behind C.none h = C.next h C.none
promoted_behind (C.next k rest) h = C.next k (promoted_behind rest h)

pub push_promoted : (values : List (Box TExpr Global)) {ps new : List TExpr} (e : Box TExpr Global) {p q : TExpr} {elem : Elem} → ArePromoted (trees values) ps → elem ≡ promoted (type_of e.value).elem → IsConverted e.value elem p → q ≡ p → new ≡ ps ++ q ∷ [] → ArePromoted (trees (values ++ e ∷ [])) new
push_promoted values {ps = ps} e {p = p} before elem_is conversion same is =
    let value : Box TExpr Global → TExpr = λ (b : Box TExpr Global). b.value in
    let pushed = promoted_behind before (subst (λ (k : Elem). IsConverted e.value k p) elem_is conversion) in
    rw (is, same) (subst (λ (es : List TExpr). ArePromoted es (ps ++ p ∷ [])) (sym (map-append value values (e ∷ []))) pushed)

types_as_many : {program : Program} {here : Here} {es : List Expr} {ts : List TExpr} → TypesEach program here es ts → length ts ≡ length es
types_as_many X.no_expression = refl
types_as_many (X.next_expression {es = es} {ts = ts} h rest) = let k = types_as_many rest in omega arith

-- as many values as expressions
pub as_many : {program : Program} {here : Here} {es : List Expr} (values : List (Box TExpr Global)) → TypesEach program here es (trees values) → length values ≡ length es
as_many values h = sym (length-map values (λ (b : Box TExpr Global). b.value)) ∙ types_as_many h

pub printf_types : (elem : Elem) {program : Program} {here : Here} {p : Place} {text : List ℕ} (given : Vec Expr Global) (values : List (Box TExpr Global)) (pieces : Vec Piece Global) (promoted_values : Vec TExpr Global) {n : ℕ} → elem ≡ int → TypesEach program (part here) given.items (trees values) → list_any is_parallel values ≡ false → (pieces_of text ≡ Some pieces.items) × (n ≡ conversions pieces.items) → n ≡ length values → ArePromoted (trees values) promoted_values.items → Types program here (E.Printf p text given) (T.Printf (record { elem = elem; shape = None }) pieces promoted_values) false
printf_types elem given values pieces promoted_values elem_is h none cut count are =
    rw elem_is (X.printf given pieces promoted_values h (none_among values none) cut.0 (sym cut.1 ∙ count ∙ as_many values h) are)
