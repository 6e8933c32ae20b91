-- An order of a graph without cycles is an order of its calls.
use Rattle.std.proofs.Common.{◌≡◌, ℕ, zero, suc, ◌<◌, ◌≤◌, false, List, [], ◌∷◌, length, get_or, Option, Some, None, ◌⊎◌, inl, inr, refl, sym, ap, subst, ◌∙◌, Vec, arith}
use Rattle.std.proofs.lemmas.Bool.{false_from_ne_true}
use Rattle.std.proofs.lemmas.List.{length-map}
use Rattle.std.proofs.lemmas.List.Folds.{Any-from_list_any}
use Rattle.std.proofs.lemmas.Map.Steps.{length-le_from_distinct_below}
use Rattle.std.proofs.lemmas.Map.Views.{exact_unsigned_eq}
use Rattle.std.proofs.lemmas.Option.{get_or_from_slice_get, slice_get-get_or, slice_get-map, slice_get_cases, slice_get_within}
use Rattle.std.specs.List.{AllByRecursion, IsDistinct}
use Rattle.std.specs.Prelude.{Contains, eqb, slice_get, slice_index}
use Rattle.std.specs.Option.{option_map}
use Rattle.std.specs.declared.alloc.Global.{Global}
use Rattle.call_graph.specs.Graph.{AreCalleesFirst, Successors}
use Rattle.cstar_tree.specs.Headers.{Leads}
use Rattle.shape_room.specs.CallOrders.{HasNoCycle, IsCallOrder, numbers_in}

-- ---- numbers below a bound, each once, are no more than the bound

not_again : (x : ℕ) (xs : List ℕ) → ((n : ℕ) → slice_get xs n ≡ Some x → ⊥) → AllByRecursion (λ y. eqb x y ≡ false) xs
not_again x [] none = tt
not_again x (y ∷ ys) none = (false_from_ne_true (eqb x y) (λ same. none zero (ap Some (sym (exact_unsigned_eq x y same)))), not_again x ys (λ n. none (suc n)))

distinct : (xs : List ℕ) → ((m n x : ℕ) → slice_get xs m ≡ Some x → slice_get xs n ≡ Some x → m ≡ n) → IsDistinct eqb xs
unfolding IsDistinct
distinct [] once = tt
distinct (x ∷ xs) once = (not_again x xs (λ n at. absurd (omega (arith, once zero (suc n) x refl at))), distinct xs (λ m n y at_m at_n. omega (arith, once (suc m) (suc n) y at_m at_n)))

few : (xs : List ℕ) (bound : ℕ) → ((place x : ℕ) → slice_get xs place ≡ Some x → x < bound) → ((m n x : ℕ) → slice_get xs m ≡ Some x → slice_get xs n ≡ Some x → m ≡ n) → length xs ≤ bound
few xs bound below once = length-le_from_distinct_below xs bound (distinct xs once) (λ q among.
    let at = Any-from_list_any (eqb q) xs among in
    below at.0 q (slice_get-get_or xs at.0 at.1 at.2 ∙ ap Some (at.3 ∙ sym (exact_unsigned_eq q at.1 at.4))))

-- ---- the calls of a node

module _ (called : List (Vec ℕ Global)) (order : List ℕ) (is : AreCalleesFirst (Successors called) order) (none : HasNoCycle (Successors called)) where
  as_many : length (Successors called) ≡ length called
  as_many = length-map called (λ (v : Vec ℕ Global). v.items)

  stands : (k : ℕ) → k < length order → slice_get order k ≡ Some (slice_index order k)
  stands k within = slice_get-get_or order k 0 within

  earlier : (k callee : ℕ) → ((j : ℕ) × (j < k) × (slice_get order j ≡ Some callee)) ⊎ Leads (Successors called) callee (slice_index order k) → (Leads (Successors called) callee (slice_index order k) → ⊥) → (j : ℕ) × (j < k) × (slice_index order j ≡ callee)
  earlier k callee (inl (j, before, at)) no_way = (j, before, get_or_from_slice_get order j callee 0 at)
  earlier k callee (inr leads) no_way = absurd (no_way leads)

  of_node : (k callee : ℕ) → k < length order → callee < length called → (v : Vec ℕ Global) → slice_get called (slice_index order k) ≡ Some v → Contains v.items callee → (j : ℕ) × (j < k) × (slice_index order j ≡ callee)
  of_node k callee within small v v_is among =
      let calls : slice_get (Successors called) (slice_index order k) ≡ Some v.items = slice_get-map (λ (v : Vec ℕ Global). v.items) called (slice_index order k) ∙ ap (option_map (λ (v : Vec ℕ Global). v.items)) v_is in
      let at : slice_get v.items among.0 ≡ Some callee = slice_get-get_or v.items among.0 callee among.1 ∙ ap Some among.2 in
      earlier k callee (is.behind k (slice_index order k) among.0 callee v.items (stands k within) calls at (omega (arith, as_many, small))) (none (slice_index order k) callee among.0 v.items calls at)

  earlier_of : (k callee : ℕ) → k < length order → Contains (numbers_in (slice_get called (slice_index order k))) callee → callee < length called → (j : ℕ) × (j < k) × (slice_index order j ≡ callee)
  earlier_of k callee within among small = step (slice_get_cases called (slice_index order k)).1
    where
      step : ((v : Vec ℕ Global) × (slice_index order k < length called) × (slice_get called (slice_index order k) ≡ Some v) × (get_or called (slice_index order k) v ≡ v)) ⊎ ((length called ≤ slice_index order k) × (slice_get called (slice_index order k) ≡ None)) → (j : ℕ) × (j < k) × (slice_index order j ≡ callee)
      step (inl (v, lt, v_is, it)) = of_node k callee within small v v_is (subst (λ (o : Option (Vec ℕ Global)). Contains (numbers_in o) callee) v_is among)
      step (inr past) = absurd (omega (arith, past.0, as_many, is.within k (slice_index order k) (stands k within)))

  pub call_order : IsCallOrder called order
  call_order = record {
    behind = earlier_of;
    first = λ some. let at = is.all 0 (omega (arith, as_many, some)) in (at.0, slice_get_within order at.0 0 at.1, get_or_from_slice_get order at.0 0 0 at.1);
    few = omega (arith, as_many, few order (length (Successors called)) is.within is.once);
  }
