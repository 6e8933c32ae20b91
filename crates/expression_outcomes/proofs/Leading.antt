-- Of any two functions it can be told whether the one leads to the other.
use Rattle.std.proofs.Common.{◌≡◌, ◌<◌, ◌⊎◌, inl, inr, ℕ, zero, suc, List, [], ◌∷◌, length, Option, Some, None, refl, sym, ap, subst, ◌∙◌, arith}
use Rattle.std.specs.List.{slice_get}
use Rattle.std.proofs.lemmas.Bool.Decides.{eqb_tells, leb_tells}
use Rattle.std.proofs.lemmas.Option.{same_Some, slice_get_past}
use Rattle.cstar_tree.specs.Headers.{Leads, calls_it, is_it}

abbrev Told : Type 0 → Type 0
Told A = A ⊎ (A → ⊥)

both : {A B : Type 0} → Told A → Told B → Told (A × B)
both (inl a) (inl b) = inl (a, b)
both (inl a) (inr no_b) = inr (λ p. no_b p.1)
both (inr no_a) b = inr (λ p. no_a p.0)

one_of : {A B : Type 0} → Told A → Told B → Told (A ⊎ B)
one_of (inl a) b = inl (inl a)
one_of (inr no_a) (inl b) = inl (inr b)
one_of {A} {B} (inr no_a) (inr no_b) = inr neither
  where
    neither : A ⊎ B → ⊥
    neither (inl a) = no_a a
    neither (inr b) = no_b b

same : (f g : ℕ) → Told (f ≡ g)
same f g = elim (eqb_tells f g) [ inl is ↦ inl is.1 | inr other ↦ inr other.1 ]

among : (called : List ℕ) (g : ℕ) → Told ((number : ℕ) × (slice_get called number ≡ Some g))
among [] g = inr (λ is. let none = is.1 in cc)
among (f ∷ called) g = elim (same f g) [
  | inl is ↦ inl (zero, ap Some is)
  | inr other ↦ elim (among called g) [
    | inl later ↦ inl (suc later.0, later.1)
    | inr never ↦ inr (λ is. nowhere other never is.0 is.1)
  ]
]
  where
    nowhere : (f ≡ g → ⊥) → ((number : ℕ) × (slice_get called number ≡ Some g) → ⊥) → (number : ℕ) → slice_get (f ∷ called) number ≡ Some g → ⊥
    nowhere other never zero is = other (same_Some _ _ is)
    nowhere other never (suc number) is = never (number, is)

module _ (calls : List (List ℕ)) where
  -- the one function calls the other
  record Calls (f g : ℕ) : Type 0 where
    pub called : List ℕ
    pub number : ℕ
    pub is_called : slice_get calls f ≡ Some called
    pub is_among : slice_get called number ≡ Some g

  calls_told : (f g : ℕ) → Told (Calls f g)
  calls_told f g = by_list (slice_get calls f) refl
    where
      by_list : (o : Option (List ℕ)) → slice_get calls f ≡ o → Told (Calls f g)
      by_list None none = inr (λ c. let some = c.is_called in cc)
      by_list (Some called) some = elim (among called g) [
        | inl is ↦ inl (record { called = called; number = is.0; is_called = some; is_among = is.1 })
        | inr never ↦ inr (λ c. let one_list : c.called ≡ called = same_Some _ _ (sym c.is_called ∙ some) in never (c.number, ap (λ (l : List ℕ). slice_get l c.number) (sym one_list) ∙ c.is_among))
      ]

  -- the one function leads to the other through functions with numbers below this
  Through : ℕ → ℕ → ℕ → Type 0
  Through zero f g = (f ≡ g) ⊎ Calls f g
  Through (suc n) f g = Through n f g ⊎ (Through n f n × Through n n g)

  through_told : (n f g : ℕ) → Told (Through n f g)
  unfolding Through
  through_told zero f g = one_of (same f g) (calls_told f g)
  through_told (suc n) f g = one_of (through_told n f g) (both (through_told n f n) (through_told n n g))

  leads_on : {f g h : ℕ} → Leads calls f g → Leads calls g h → Leads calls f h
  leads_on is_it rest = rest
  leads_on (calls_it number is among more) rest = calls_it number is among (leads_on more rest)

  leads : (n : ℕ) {f g : ℕ} → Through n f g → Leads calls f g
  unfolding Through
  leads zero {f = f} (inl is) = subst (λ (h : ℕ). Leads calls f h) is is_it
  leads zero (inr c) = calls_it c.number c.is_called c.is_among is_it
  leads (suc n) (inl way) = leads n way
  leads (suc n) (inr (to, from)) = leads_on (leads n to) (leads n from)

  from_calls : (n : ℕ) {f g : ℕ} → (f ≡ g) ⊎ Calls f g → Through n f g
  unfolding Through
  from_calls zero way = way
  from_calls (suc n) way = inl (from_calls n way)

  to_last : (n f : ℕ) → Through (suc n) f n → Through n f n
  unfolding Through
  to_last n f (inl way) = way
  to_last n f (inr ways) = ways.0

  from_last : (n g : ℕ) → Through (suc n) n g → Through n n g
  unfolding Through
  from_last n g (inl way) = way
  from_last n g (inr ways) = ways.1

  joined : (n f g h : ℕ) → g < n → Through n f g → Through n g h → Through n f h
  unfolding Through
  joined zero f g h below to from = absurd (omega arith)
  joined (suc n) f g h below to from = elim (eqb_tells g n) [
    | inl is ↦ inr (to_last n f (subst (λ (k : ℕ). Through (suc n) f k) is.1 to), from_last n h (subst (λ (k : ℕ). Through (suc n) k h) is.1 from))
    | inr other ↦ (let less : g < n = omega (arith, below, other.1) in four (λ x y. joined n x g y less) to from)
  ]
    where
      four : ((x y : ℕ) → Through n x g → Through n g y → Through n x y) → Through (suc n) f g → Through (suc n) g h → Through (suc n) f h
      four join (inl a) (inl b) = inl (join f h a b)
      four join (inl a) (inr b) = inr (join f n a b.0, b.1)
      four join (inr a) (inl b) = inr (a.0, join n h a.1 b)
      four join (inr a) (inr b) = inr (a.0, b.1)

  stops : {f g : ℕ} → Leads calls f g → slice_get calls f ≡ None → f ≡ g
  stops is_it none = refl
  stops (calls_it number is among rest) none = absurd (cc)

  through : {f g : ℕ} → Leads calls f g → Through (length calls) f g
  through is_it = from_calls (length calls) (inl refl)
  through {f = f} {g = h} (calls_it {g = g} {called = called} number is among rest) =
      let call : Calls f g = record { called = called; number = number; is_called = is; is_among = among } in
      elim (leb_tells (length calls) g) [
        | inl past ↦ from_calls (length calls) (inr (subst (λ (k : ℕ). Calls f k) (stops rest (slice_get_past calls g past.1)) call))
        | inr within ↦ joined (length calls) f g h within.1 (from_calls (length calls) (inr call)) (through rest)
      ]

  pub decided : (f g : ℕ) → Leads calls f g ⊎ (Leads calls f g → ⊥)
  decided f g = elim (through_told (length calls) f g) [
    | inl way ↦ inl (leads (length calls) way)
    | inr none ↦ inr (λ way. none (through way))
  ]
