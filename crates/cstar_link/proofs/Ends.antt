-- The ends of sets, raised by the fields of lists.
use Rattle.std.proofs.Common.{◌≡◌, ℕ, ◌+◌, ◌<◌, max, List, [], ◌∷◌, ◌++◌, map, length, take, get_or, ap, sym, ◌∙◌, subst, refl, arith}
use Rattle.std.proofs.lemmas.List.{flat_map_more, take_more}
use Rattle.std.specs.List.{flat_map}
use Rattle.paris_code.specs.declared.instr.Instr.{Instr}
use Rattle.paris_code.specs.declared.operands.Field.{Field}
use Rattle.paris_code.specs.declared.program.ShapeBits.{ShapeBits}
use Rattle.paris_code.specs.declared.rows.Operand.{Operand as Shown}
use Rattle.paris_code.specs.Rows.{row_of, shown}
use Rattle.paris_code.specs.Spans.{fields_of, fields_of_operand}
use Rattle.cstar_link.specs.Sets.{AreRaised, fitted_from, fitted_shape, furthest}

furthest_append : (set : ℕ) (fs gs : List Field) → furthest set (fs ++ gs) ≡ max (furthest set fs) (furthest set gs)
furthest_append set [] gs = omega arith
furthest_append set (f ∷ fs) gs = omega (arith, furthest_append set fs gs)

pub raised_none : (ends : List ℕ) → AreRaised [] ends ends
raised_none ends = λ set within. omega arith

pub raised_more : (fs gs : List Field) (a b c : List ℕ) → length b ≡ length a → AreRaised fs a b → AreRaised gs b c → AreRaised (fs ++ gs) a c
raised_more fs gs a b c long f g = λ set within.
    let there : set < length b = omega arith in
    omega (arith, f set within, g set there, furthest_append set fs gs)

-- the fields of one more item of a list
pub raised_step : {X : Type 0} (names : X → List Field) (xs : List X) (i : ℕ) (x : X) (a b c : List ℕ) → x ≡ get_or xs i x → i < length xs → length b ≡ length a → AreRaised (flat_map names (take i xs)) a b → AreRaised (names x) b c → AreRaised (flat_map names (take (i + 1) xs)) a c
raised_step {X} names xs i x a b c is lt long f g =
    subst (λ (fs : List Field). AreRaised fs a c)
    (flat_map_more names [] (take i xs) x ∙ ap (flat_map names) (ap (λ (y : X). take i xs ++ y ∷ []) is ∙ sym (take_more xs i x lt)))
    (raised_more (flat_map names (take i xs)) (names x) a b c long f g)

named_by : (row : List Shown) → flat_map (λ o. fields_of_operand (shown o)) row ≡ flat_map fields_of_operand (map shown row)
named_by [] = refl
named_by (o ∷ row) = ap (λ (l : List Field). fields_of_operand (shown o) ++ l) (named_by row)

-- the fields of a row, as the code shows it, are those of its instruction
pub row_names : (instr : Instr) (row list : List Shown) → list ≡ row → map shown row ≡ row_of instr → flat_map (λ o. fields_of_operand (shown o)) list ≡ fields_of instr
row_names instr row list same is = ap (flat_map (λ o. fields_of_operand (shown o))) same ∙ named_by row ∙ ap (flat_map fields_of_operand) is

-- one more shape
pub fitted_more : (fields : List Field) (set : ℕ) (ss : List ShapeBits) (s : ShapeBits) → fitted_from fields set (ss ++ s ∷ []) ≡ fitted_from fields set ss ++ fitted_shape fields (set + length ss) s ∷ []
unfolding fitted_from
fitted_more fields set [] s = ap (λ n. fitted_shape fields n s ∷ []) (let e : set ≡ set + 0 = omega arith in e)
fitted_more fields set (t ∷ ss) s =
    ap (λ rest. fitted_shape fields set t ∷ rest)
    (fitted_more fields (set + 1) ss s
    ∙ ap (λ n. fitted_from fields (set + 1) ss ++ fitted_shape fields n s ∷ []) (let e : set + 1 + length ss ≡ set + length (t ∷ ss) = omega arith in e))
