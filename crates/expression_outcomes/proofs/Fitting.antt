-- A value can be brought to any type, and lists of values as the rules ask.
use Rattle.std.proofs.Common.{◌≡◌, ◌≤◌, ◌+◌, ◌⊎◌, ◌==◌, if◌then◌else◌, inl, inr, ℕ, suc, Bool, true, false, List, [], ◌∷◌, ◌++◌, length, Option, Some, None, Box, refl, ap, subst, arith}
use Rattle.std.specs.declared.alloc.Global.{Global}
use Rattle.std.proofs.lemmas.List.{length-append}
use Rattle.std.proofs.lemmas.Option.{same_Some}
use Rattle.cstar_base.specs.declared.formats.NumberFormat.{NumberFormat}
use Rattle.cstar_tree.specs.declared.syntax.Expr.{Expr}
use Rattle.cstar_tree.specs.declared.syntax.Name.{Name}
use Rattle.cstar_tree.specs.declared.typed.Piece.{Piece}
use Rattle.cstar_tree.specs.declared.typed.Piece.TheVariants as P
use Rattle.cstar_tree.specs.declared.typed.TExpr.{TExpr}
use Rattle.cstar_tree.specs.declared.typed.TExpr as T
use Rattle.cstar_tree.specs.declared.typed.ValueType.{ValueType}
use Rattle.cstar_tree.specs.Conversions.{AreFitted, ArePromoted, AreSpread, IsConverted, IsFitted, IsSpread, promoted, scalar}
use Rattle.cstar_tree.specs.Conversions as C
use Rattle.cstar_tree.specs.ExpressionTypes.{AreTaken, TypesEach, TypesIndexes}
use Rattle.cstar_tree.specs.ExpressionTypes as X
use Rattle.cstar_tree.specs.Formats.{behind, form_behind, format_of, pieces_behind, pieces_of, run}
use Rattle.cstar_tree.specs.Headers.{Program}
use Rattle.cstar_tree.specs.Scopes.{Here}
use Rattle.cstar_tree.specs.Typed.{type_of}
use Rattle.unique_types.proofs.Bringing.{boxed, converted}

-- ---- a value brought to a type

pub record Spread (e : TExpr) (wanted : Option ℕ) : Type 0 where
  pub box : Box TExpr Global
  pub spread : IsSpread e wanted box.value

pub spread : Global → (e : TExpr) (wanted : Option ℕ) → Spread e wanted
spread heap e None = record { box = boxed heap e; spread = C.none_wanted }
spread heap e (Some s) = by_shape (type_of e).shape refl
  where
    by_shape : (o : Option ℕ) → (type_of e).shape ≡ o → Spread e (Some s)
    by_shape None is = record { box = boxed heap (T.Promote (record { elem = (type_of e).elem; shape = Some s }) (boxed heap e)); spread = C.at_each_position (boxed heap e) refl is }
    by_shape (Some of) is = record { box = boxed heap e; spread = C.is_parallel is }

pub record Fitted (e : TExpr) (wanted : ValueType) : Type 0 where
  pub box : Box TExpr Global
  pub fit : IsFitted e wanted box.value

pub fitted : Global → (e : TExpr) (wanted : ValueType) → Fitted e wanted
fitted heap e wanted =
    let c = converted heap e wanted.elem in
    let s = spread heap c.box.value wanted.shape in
    record { box = s.box; fit = record { converted = c.box.value; conversion = c.conversion; spread = s.spread } }

-- ---- lists of values

pub all_spread : Global → (wanted : Option ℕ) (es : List TExpr) → (ps : List TExpr) × (length ps ≡ length es) × AreSpread wanted es ps
all_spread heap wanted [] = ([], refl, C.none)
all_spread heap wanted (e ∷ es) = let p = spread heap e wanted in let rest = all_spread heap wanted es in (p.box.value ∷ rest.0, ap suc rest.1, C.next p.spread rest.2)

pub all_promoted : Global → (es : List TExpr) → (ps : List TExpr) × (length ps ≡ length es) × ArePromoted es ps
all_promoted heap [] = ([], refl, C.none)
all_promoted heap (e ∷ es) = let p = converted heap e (promoted (type_of e).elem) in let rest = all_promoted heap es in (p.box.value ∷ rest.0, ap suc rest.1, C.next p.conversion rest.2)

pub all_fitted : Global → {types : List ValueType} {es : List TExpr} → AreTaken types es → (fs : List TExpr) × (length fs ≡ length es) × AreFitted types es fs
all_fitted heap X.none = ([], refl, C.none)
all_fitted heap (X.next {ty = ty} {e = e} none more) = let f = fitted heap e ty in let rest = all_fitted heap more in (f.box.value ∷ rest.0, ap suc rest.1, C.next none f.fit rest.2)

-- as many typed trees as expressions
pub each_length : {program : Program} {here : Here} {es : List Expr} {ts : List TExpr} → TypesEach program here es ts → length ts ≡ length es
each_length X.no_expression = refl
each_length (X.next_expression h rest) = ap suc (each_length rest)

pub indexes_length : {program : Program} {here : Here} {n : Name} {axis : ℕ} {es : List Expr} {ts : List TExpr} → TypesIndexes program here n axis es ts → length ts ≡ length es
indexes_length X.no_index = refl
indexes_length (X.next_index h rest) = ap suc (indexes_length rest)

-- ---- the text of `printf` has no more pieces than bytes

run_length : (bytes : List ℕ) → length (run bytes) ≤ length bytes
run_length [] = omega arith
run_length (b ∷ bs) = omega arith

if_cases : {A : Type 0} (t : Bool) {x y : Option A} {a : A} → (if t then x else y) ≡ Some a → (x ≡ Some a) ⊎ (y ≡ Some a)
if_cases true is = inl is
if_cases false is = inr is

behind_length : (bytes : List ℕ) (format : Option NumberFormat) (o : Option (List Piece)) {pieces : List Piece} → behind bytes format o ≡ Some pieces → (rest : List Piece) × (o ≡ Some rest) × (length pieces ≤ length bytes + 1 + length rest)
behind_length bytes None o is = absurd (cc)
behind_length bytes (Some format) None is = absurd (cc)
behind_length bytes (Some format) (Some rest) is =
    let few = run_length bytes in
    (rest, refl, subst (λ (l : List Piece). length l ≤ length bytes + 1 + length rest) (same_Some _ _ is) (omega (arith, length-append (run bytes) (P.Argument format ∷ rest))))

mutual
  unfolding pieces_behind form_behind

  pieces_length : (bytes text : List ℕ) {pieces : List Piece} → pieces_behind bytes text ≡ Some pieces → length pieces ≤ length bytes + length text
  pieces_length bytes [] is = let few = run_length bytes in subst (λ (l : List Piece). length l ≤ length bytes + 0) (same_Some _ _ is) (omega arith)
  pieces_length bytes (b ∷ rest) is = elim (if_cases (b == 37) is) [
    | inl form ↦ let few = form_length bytes rest form in omega arith
    | inr more ↦ let few = pieces_length (bytes ++ b ∷ []) rest more in omega (arith, length-append bytes (b ∷ []))
  ]

  form_length : (bytes text : List ℕ) {pieces : List Piece} → form_behind bytes text ≡ Some pieces → length pieces ≤ length bytes + length text
  form_length bytes [] is = absurd (cc)
  form_length bytes (b ∷ rest) is = elim (if_cases (b == 37) is) [
    | inl more ↦ let few = pieces_length (bytes ++ b ∷ []) rest more in omega (arith, length-append bytes (b ∷ []))
    | inr form ↦ let m = behind_length bytes (format_of b) (pieces_behind [] rest) form in let fewer = m.2 in let few = pieces_length [] rest m.1 in omega arith
  ]

pub few_pieces : (text : List ℕ) {pieces : List Piece} → pieces_of text ≡ Some pieces → length pieces ≤ length text
few_pieces text is = let few = pieces_length [] text is in omega arith
