-- The rooms of instances, those that are called first.
use Rattle.std.proofs.Common.{◌≡◌, ◌≢◌, ℕ, zero, suc, ◌+◌, ◌-◌, ◌<◌, ◌≤◌, List, [], ◌∷◌, length, get_or, set, map, Some, None, ◌⊎◌, inl, inr, refl, sym, ap, subst, ◌∙◌, Vec, arith, length-set}
use Rattle.std.proofs.lemmas.Bool.{cases_lt}
use Rattle.std.proofs.lemmas.Bool.Decides.{eqb_tells}
use Rattle.std.proofs.lemmas.Grind.{get_or-set_at}
use Rattle.std.proofs.lemmas.List.{get_or-set_other, get_or_past}
use Rattle.std.proofs.lemmas.Option.{slice_get_cases, slice_get_past}
use Rattle.std.specs.Prelude.{Contains, slice_get, slice_index}
use Rattle.std.specs.declared.alloc.Global.{Global}
use Rattle.cstar_tree.specs.declared.typed.Instance.{Instance}
use Rattle.cstar_tree.specs.Room.{greatest, instance_room, own_room, with_called}
use Rattle.cstar_tree.specs.TypedParts.{calls_within}
use Rattle.shape_room.specs.CallOrders.{HasCalls, IsCallOrder, numbers_in}
use Rattle.shape_room.specs.Counted.{counted}

-- ---- orders of instances

pub record IsOrder (instances : List Instance) (order : List ℕ) : Type 0 where
  pub behind : (k callee : ℕ) (i : Instance) → k < length order → slice_get instances (slice_index order k) ≡ Some i → Contains (calls_within i.body) callee → callee < length instances → (j : ℕ) × (j < k) × (slice_index order j ≡ callee)
  pub main : 0 < length instances → Contains order 0
  pub few : length order ≤ length instances

pub order_of : (instances : List Instance) (called : List (Vec ℕ Global)) (order : List ℕ) → HasCalls instances called → IsCallOrder called order → IsOrder instances order
order_of instances called order has is = record {
  behind = λ k callee i within i_is among small. is.behind k callee within ((has.just (slice_index order k) callee i i_is).0 among) (omega (arith, small, has.as_many));
  main = λ some. is.first (omega (arith, some, has.as_many));
  few = omega (arith, is.few, has.as_many);
}

-- ---- the greatest of what numbers give

element_below : (g : ℕ → ℕ) (ys : List ℕ) (n : ℕ) → Contains ys n → g n ≤ greatest (map g ys)
unfolding greatest
element_below g [] n among = absurd (omega (arith, among.1))
element_below g (y ∷ ys) n (zero, lt, is) = omega (arith, ap g is)
element_below g (y ∷ ys) n (suc k, lt, is) = omega (arith, element_below g ys n (k, omega (arith, lt), is))

at_most : (f g : ℕ → ℕ) (xs ys : List ℕ) → ((n : ℕ) → Contains xs n → Contains ys n × (f n ≤ g n)) → greatest (map f xs) ≤ greatest (map g ys)
unfolding greatest
at_most f g [] ys each = omega arith
at_most f g (x ∷ xs) ys each =
    let first = each x (zero, omega arith, refl) in
    let rest = at_most f g xs ys (λ n among. each n (suc among.0, omega (arith, among.1), among.2)) in
    omega (arith, first.1, element_below g ys x first.0, rest)

same_greatest : (f g : ℕ → ℕ) (xs ys : List ℕ) → ((n : ℕ) → Contains xs n → Contains ys n) → ((n : ℕ) → Contains ys n → Contains xs n × (f n ≡ g n)) → greatest (map f xs) ≡ greatest (map g ys)
same_greatest f g xs ys to from =
    let below = at_most f g xs ys (λ n among. (to n among, omega (arith, (from n (to n among)).1))) in
    let above = at_most g f ys xs (λ n among. ((from n among).0, omega (arith, (from n among).1))) in
    omega (arith, below, above)

counted_greatest : (f : ℕ → ℕ) (ns : List ℕ) → greatest (map (λ n. counted (f n)) ns) ≡ counted (greatest (map f ns))
unfolding greatest
counted_greatest f [] = refl
counted_greatest f (n ∷ ns) = omega (arith, counted_greatest f ns)

-- ---- the room of an instance, through enough calls

module _ (shape : ℕ) (instances : List Instance) where
  past : (calls number : ℕ) → length instances ≤ number → instance_room calls shape instances number ≡ 0
  unfolding instance_room with_called
  past zero number none = refl
  past (suc calls) number none = ap (with_called shape (instance_room calls shape instances)) (slice_get_past instances number none)

  at_instance : (calls number : ℕ) (i : Instance) → slice_get instances number ≡ Some i → instance_room (suc calls) shape instances number ≡ own_room shape i + greatest (map (instance_room calls shape instances) (calls_within i.body))
  unfolding instance_room with_called
  at_instance calls number i is = ap (with_called shape (instance_room calls shape instances)) is

  one_more : (k l number : ℕ) → ((i : Instance) → slice_get instances number ≡ Some i → (n : ℕ) → Contains (calls_within i.body) n → n < length instances → instance_room k shape instances n ≡ instance_room l shape instances n) →
      instance_room (suc k) shape instances number ≡ instance_room (suc l) shape instances number
  one_more k l number same = step (slice_get_cases instances number).1
    where
      called : (i : Instance) → slice_get instances number ≡ Some i → (n : ℕ) → Contains (calls_within i.body) n → (n < length instances) ⊎ (length instances ≤ n) → instance_room k shape instances n ≡ instance_room l shape instances n
      called i is n among (inl within) = same i is n among within
      called i is n among (inr none) = past k n none ∙ sym (past l n none)

      step : ((i : Instance) × (number < length instances) × (slice_get instances number ≡ Some i) × (get_or instances number i ≡ i)) ⊎ ((length instances ≤ number) × (slice_get instances number ≡ None)) →
          instance_room (suc k) shape instances number ≡ instance_room (suc l) shape instances number
      step (inr none) = past (suc k) number none.0 ∙ sym (past (suc l) number none.0)
      step (inl (i, within, is, it)) =
          at_instance k number i is
          ∙ ap (λ (n : ℕ). own_room shape i + n) (same_greatest (instance_room k shape instances) (instance_room l shape instances) (calls_within i.body) (calls_within i.body) (λ n among. among) (λ n among. (among, called i is n among (cases_lt n (length instances)))))
          ∙ sym (at_instance l number i is)

  -- those of an order are through with as many calls as stand before them, and one
  enough : (order : List ℕ) → IsOrder instances order → (most k l j : ℕ) → j < most → most ≤ k → most ≤ l → most ≤ length order → instance_room k shape instances (slice_index order j) ≡ instance_room l shape instances (slice_index order j)
  enough order is zero k l j lt le lf lo = absurd (omega arith)
  enough order is (suc most) zero l j lt le lf lo = absurd (omega arith)
  enough order is (suc most) (suc k) zero j lt le lf lo = absurd (omega arith)
  enough order is (suc most) (suc k) (suc l) j lt le lf lo = one_more k l (slice_index order j) (λ i i_is n among within.
      let before = is.behind j n i (omega arith) i_is among within in
      subst (λ (m : ℕ). instance_room k shape instances m ≡ instance_room l shape instances m) before.2 (enough order is most k l before.0 (omega (arith, before.1)) (omega arith) (omega arith) (omega arith)))

  -- the instances so far of an order have their rooms
  pub record AreGiven (order rooms : List ℕ) (done : ℕ) : Type 0 where
    pub all : length rooms ≡ length instances
    pub each : (j : ℕ) → j < done → slice_index order j < length instances → slice_index rooms (slice_index order j) ≡ counted (instance_room (length instances) shape instances (slice_index order j))

  module _ (order : List ℕ) (is : IsOrder instances order) (called : List (Vec ℕ Global)) (has : HasCalls instances called) (rooms : List ℕ) (k : ℕ) (within : k < length order) (before : AreGiven order rooms k) where
    -- the room that one that is called has, as far as it matters
    callee_room : (most : ℕ) → length instances ≡ suc most → (i : Instance) → slice_get instances (slice_index order k) ≡ Some i → (n : ℕ) → Contains (calls_within i.body) n → (n < length instances) ⊎ (length instances ≤ n) → slice_index rooms n ≡ counted (instance_room most shape instances n)
    callee_room most all i i_is n among (inr none) = omega (arith, get_or_past rooms n 0 (omega (arith, before.all)), past most n none)
    callee_room most all i i_is n among (inl small) =
        let earlier = is.behind k n i within i_is among small in
        let same = enough order is k (length instances) most earlier.0 earlier.1 (omega (arith, is.few)) (omega (arith, is.few)) (omega arith) in
        subst (λ (m : ℕ). slice_index rooms m ≡ counted (instance_room most shape instances m)) earlier.2 (before.each earlier.0 earlier.1 (omega (arith, earlier.2)) ∙ ap counted same)

    sum_counted : (own greatest_is all : ℕ) → greatest_is ≡ counted all → counted (own + greatest_is) ≡ counted (own + all)
    sum_counted own greatest_is all is = omega arith

    room_given : (most : ℕ) → length instances ≡ suc most → (i : Instance) → slice_get instances (slice_index order k) ≡ Some i →
        counted (own_room shape i + greatest (map (slice_index rooms) (numbers_in (slice_get called (slice_index order k))))) ≡ counted (instance_room (length instances) shape instances (slice_index order k))
    room_given most all i i_is =
        let calls = calls_within i.body in
        let same = same_greatest (slice_index rooms) (λ (n : ℕ). counted (instance_room most shape instances n)) (numbers_in (slice_get called (slice_index order k))) calls
        (λ n. (has.just (slice_index order k) n i i_is).1) (λ n among. ((has.just (slice_index order k) n i i_is).0 among, callee_room most all i i_is n among (cases_lt n (length instances)))) in
        let whole = ap (λ (c : ℕ). instance_room c shape instances (slice_index order k)) all ∙ at_instance most (slice_index order k) i i_is in
        sum_counted (own_room shape i) _ (greatest (map (instance_room most shape instances) calls)) (same ∙ counted_greatest (instance_room most shape instances) calls) ∙ ap counted (sym whole)

    only : (j : ℕ) → j < k + 1 → k ≤ j → j ≡ k
    only j lt late = omega arith

    differs : (a b : ℕ) → (a ≡ b) ⊎ (a ≢ b)
    differs a b = elim (eqb_tells a b) [
      | inl same ↦ inl same.1
      | inr other ↦ inr other.1
    ]

    at_each : (i : Instance) → slice_get instances (slice_index order k) ≡ Some i → slice_index order k < length instances → (j : ℕ) → j < k + 1 → slice_index order j < length instances → (slice_index order j ≡ slice_index order k) ⊎ (slice_index order j ≢ slice_index order k) →
        slice_index (set rooms (slice_index order k) (counted (own_room shape i + greatest (map (slice_index rooms) (numbers_in (slice_get called (slice_index order k))))))) (slice_index order j) ≡ counted (instance_room (length instances) shape instances (slice_index order j))
    at_each i i_is small j lt fits (inl same) =
        let value = counted (own_room shape i + greatest (map (slice_index rooms) (numbers_in (slice_get called (slice_index order k))))) in
        get_or-set_at rooms (slice_index order k) (slice_index order j) value 0 same (omega (arith, before.all)) ∙ room_given (length instances - 1) (omega arith) i i_is
        ∙ ap (λ (n : ℕ). counted (instance_room (length instances) shape instances n)) (sym same)
    at_each i i_is small j lt fits (inr other) =
        let value = counted (own_room shape i + greatest (map (slice_index rooms) (numbers_in (slice_get called (slice_index order k))))) in
        get_or-set_other rooms (slice_index order k) (slice_index order j) value 0 other ∙ earlier (cases_lt j k)
      where
        earlier : (j < k) ⊎ (k ≤ j) → slice_index rooms (slice_index order j) ≡ counted (instance_room (length instances) shape instances (slice_index order j))
        earlier (inl before_it) = before.each j before_it fits
        earlier (inr late) = absurd (other (ap (slice_index order) (only j lt late)))

    pub given_more : (new : List ℕ) →
        ((i : Instance) → slice_get instances (slice_index order k) ≡ Some i → new ≡ set rooms (slice_index order k) (counted (own_room shape i + greatest (map (slice_index rooms) (numbers_in (slice_get called (slice_index order k))))))) →
        (slice_get instances (slice_index order k) ≡ None → new ≡ rooms) → AreGiven order new (k + 1)
    given_more new given kept = step (slice_get_cases instances (slice_index order k)).1
      where
        step : ((i : Instance) × (slice_index order k < length instances) × (slice_get instances (slice_index order k) ≡ Some i) × (get_or instances (slice_index order k) i ≡ i)) ⊎ ((length instances ≤ slice_index order k) × (slice_get instances (slice_index order k) ≡ None)) → AreGiven order new (k + 1)
        step (inr none) =
            let same = kept none.1 in
            record {
              all = ap length same ∙ before.all;
              each = λ j lt fits. subst (λ (rs : List ℕ). slice_index rs (slice_index order j) ≡ counted (instance_room (length instances) shape instances (slice_index order j))) (sym same)
                  (elim (cases_lt j k) [
                    | inl earlier ↦ before.each j earlier fits
                    | inr late ↦ absurd (omega (arith, none.0, fits, ap (slice_index order) (only j lt late)))
                  ]);
            }
        step (inl (i, small, i_is, it)) =
            let number = slice_index order k in
            let value = counted (own_room shape i + greatest (map (slice_index rooms) (numbers_in (slice_get called number)))) in
            let same = given i i_is in
            record {
              all = ap length same ∙ length-set rooms number value ∙ before.all;
              each = λ j lt fits. subst (λ (rs : List ℕ). slice_index rs (slice_index order j) ≡ counted (instance_room (length instances) shape instances (slice_index order j))) (sym same)
                  (at_each i i_is small j lt fits (differs (slice_index order j) number));
            }

  pub given_main : (order rooms : List ℕ) → IsOrder instances order → AreGiven order rooms (length order) → slice_index rooms 0 ≡ counted (instance_room (length instances) shape instances 0)
  given_main order rooms is given = step (cases_lt 0 (length instances))
    where
      step : (0 < length instances) ⊎ (length instances ≤ 0) → slice_index rooms 0 ≡ counted (instance_room (length instances) shape instances 0)
      step (inr none) = omega (arith, get_or_past rooms 0 0 (omega (arith, given.all)), past (length instances) 0 none)
      step (inl some) =
          let stands = is.main some in
          let number : slice_index order stands.0 ≡ 0 = stands.2 in
          subst (λ (n : ℕ). slice_index rooms n ≡ counted (instance_room (length instances) shape instances n)) number (given.each stands.0 stands.1 (omega (arith, number)))
