-- What a typed expression's parts call, before they are brought to other types, the expression calls.
use Rattle.std.proofs.Common.{◌≡◌, ℕ, List, ◌++◌, inl, inr, map, Option, refl, sym, subst}
use Rattle.std.specs.List.{All, Contains}
use Rattle.std.proofs.lemmas.List.Elements.{All-nil, All-cons, Contains-append_left, Contains-append_right}
use Rattle.cstar_base.specs.declared.elem.Elem.{Elem}
use Rattle.cstar_tree.specs.declared.typed.TExpr.{TExpr}
use Rattle.cstar_tree.specs.declared.typed.ValueType.{ValueType}
use Rattle.cstar_tree.specs.Conversions.{AreFitted, ArePromoted, IsConverted, IsFitted, IsSpread}
use Rattle.cstar_tree.specs.Conversions as C
use Rattle.cstar_tree.specs.TypedParts.{calls_in, concat}
use Rattle.shape_room.proofs.CallsInParts.{operand_calls}

module _ (Called : ℕ → Type 0) where
  abbrev pub AreCalled : List ℕ → Type 0
  AreCalled numbers = (k : ℕ) → Contains numbers k → Called k

  pub same_called : {all own : List ℕ} → all ≡ own → AreCalled all → AreCalled own
  same_called is called k among = called k (subst (λ (numbers : List ℕ). Contains numbers k) (sym is) among)

  pub both_called : {all : List ℕ} (own rest : List ℕ) → all ≡ own ++ rest → AreCalled all → AreCalled own × AreCalled rest
  both_called own rest is called = (λ k among. same_called is called k (Contains-append_left own rest k among), λ k among. same_called is called k (Contains-append_right own rest k among))

  -- ---- what brings a value to another type calls nothing itself

  pub converted_called : {e f : TExpr} {elem : Elem} → IsConverted e elem f → AreCalled (calls_in f) → AreCalled (calls_in e)
  converted_called (C.as_it_is same) called = called
  converted_called (C.by_node operand is other) called =
      subst (λ (t : TExpr). AreCalled (calls_in t)) is (same_called (operand_calls _ operand (inr (inr (inr (inr (inl (_, refl))))))) called)

  pub spread_called : {e f : TExpr} {wanted : Option ℕ} → IsSpread e wanted f → AreCalled (calls_in f) → AreCalled (calls_in e)
  spread_called C.none_wanted called = called
  spread_called (C.is_parallel has) called = called
  spread_called (C.at_each_position operand is alone) called =
      subst (λ (t : TExpr). AreCalled (calls_in t)) is (same_called (operand_calls _ operand (inr (inr (inr (inr (inr (inl (_, refl)))))))) called)

  pub fitted_called : {e f : TExpr} {ty : ValueType} → IsFitted e ty f → AreCalled (calls_in f) → AreCalled (calls_in e)
  fitted_called fit called = converted_called fit.conversion (spread_called fit.spread called)

  abbrev pub EachCalled : List TExpr → Type 0
  EachCalled ts = All (λ (t : TExpr). AreCalled (calls_in t)) ts

  pub each_fitted_called : {types : List ValueType} {es fs : List TExpr} → AreFitted types es fs → AreCalled (concat (map calls_in fs)) → EachCalled es
  unfolding concat
  each_fitted_called C.none called = All-nil (λ (t : TExpr). AreCalled (calls_in t))
  each_fitted_called (C.next {e = e} {f = f} {es = es} {fs = fs} takes fit more) called =
      let both = both_called (calls_in f) (concat (map calls_in fs)) refl called in
      All-cons (λ (t : TExpr). AreCalled (calls_in t)) e es (fitted_called fit both.0) (each_fitted_called more both.1)

  pub each_promoted_called : {es fs : List TExpr} → ArePromoted es fs → AreCalled (concat (map calls_in fs)) → EachCalled es
  unfolding concat
  each_promoted_called C.none called = All-nil (λ (t : TExpr). AreCalled (calls_in t))
  each_promoted_called (C.next {e = e} {p = p} {es = es} {ps = ps} conversion more) called =
      let both = both_called (calls_in p) (concat (map calls_in ps)) refl called in
      All-cons (λ (t : TExpr). AreCalled (calls_in t)) e es (converted_called conversion both.0) (each_promoted_called more both.1)
