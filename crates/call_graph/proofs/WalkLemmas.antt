-- What holds of a walk between its steps.
use Rattle.std.proofs.Common.{◌≡◌, ℕ, ◌+◌, ◌<◌, ◌≤◌, List, [], ◌∷◌, length, min, get_or, below_more, slice_get, Option, Some, None, ◌⊎◌, inl, inr, refl, sym, ap, ◌∙◌, subst, arith}
use Rattle.std.proofs.lemmas.Bool.{cases_lt, cases_order}
use Rattle.std.proofs.lemmas.Option.{same_Some, slice_get-get_or}
use Rattle.cstar_tree.specs.Headers.{Leads, is_it, calls_it}
use Rattle.call_graph.specs.declared.walk.Place.{Place}
use Rattle.call_graph.specs.declared.walk.Place.TheVariants.{New, Open, Grouped}
use Rattle.call_graph.specs.declared.walk.Visit.{Visit}
use Rattle.call_graph.specs.Walk.{IsPast, IsVisit, IsWay, Moves, list_at, step_at}

pub leads_on : {calls : List (List ℕ)} {f g h : ℕ} → Leads calls f g → Leads calls g h → Leads calls f h
leads_on is_it next = next
leads_on (calls_it number is at_number more) next = calls_it number is at_number (leads_on more next)

from_list : (calls : List (List ℕ)) (f i g : ℕ) (list : Option (List ℕ)) → slice_get calls f ≡ list → list_at list i ≡ Some g → Leads calls f g
from_list calls f i g None is h = cc
from_list calls f i g (Some called) is h = calls_it i is h is_it

pub leads_by : (calls : List (List ℕ)) (f i g : ℕ) → step_at calls f i ≡ Some g → Leads calls f g
leads_by calls f i g h = from_list calls f i g (slice_get calls f) refl h

pub past_less : (least lower : ℕ) (place : Option Place) → lower ≤ least → IsPast least place → IsPast lower place
past_less least lower None low is = tt
past_less least lower (Some New) low is = is
past_less least lower (Some (Open number)) low is = omega arith
past_less least lower (Some (Grouped root)) low is = tt

pub kept_visit : (calls : List (List ℕ)) (old new : List Place) (open_nodes others : List ℕ) (end : ℕ) (v : Visit) → Moves old new → ((k : ℕ) → k < end → slice_get others k ≡ slice_get open_nodes k) → IsVisit calls old open_nodes end v → IsVisit calls new others end v
kept_visit calls old new open_nodes others end v moves same is = record {
  stands = same v.number is.within ∙ is.stands;
  within = is.within;
  falls = is.falls;
  low = λ node h. is.low node (sym (same v.lowest (omega (arith, is.within, is.falls))) ∙ h);
  back = λ number node above before h. is.back number node above before (sym (same number before) ∙ h);
  done = λ number node i called above before h s. moves v.lowest called (is.done number node i called above before (sym (same number before) ∙ h) s);
  begun = λ i called before s. moves v.lowest called (is.begun i called before s);
}

pub kept_way : (calls : List (List ℕ)) (old new : List Place) (open_nodes others : List ℕ) (end : ℕ) (way : List Visit) → Moves old new → ((k : ℕ) → k < end → slice_get others k ≡ slice_get open_nodes k) → IsWay calls old open_nodes end way → IsWay calls new others end way
kept_way calls old new open_nodes others end [] moves same is = is
kept_way calls old new open_nodes others end (v ∷ rest) moves same is = (
  kept_visit calls old new open_nodes others end v moves same is.0,
  kept_way calls old new open_nodes others v.number rest moves (λ k h. same k (omega (arith, is.0.within, h))) is.1,
)

-- one more call of the present node is past
pub further : (calls : List (List ℕ)) (places : List Place) (open_nodes : List ℕ) (end : ℕ) (v : Visit) (called : ℕ) → IsVisit calls places open_nodes end v → step_at calls v.node v.next ≡ Some called → IsPast v.lowest (slice_get places called) → IsVisit calls places open_nodes end (record v { next = v.next + 1 })
further calls places open_nodes end v called is at past = record {
  stands = is.stands;
  within = is.within;
  falls = is.falls;
  low = is.low;
  back = is.back;
  done = is.done;
  begun = λ i other before h. below_more
      (λ k. (g : ℕ) → step_at calls v.node k ≡ Some g → IsPast v.lowest (slice_get places g))
      v.next
      (λ k less g s. is.begun k g less s)
      (λ g s. subst (λ x. IsPast v.lowest (slice_get places x)) (same_Some called g (sym at ∙ s)) past)
      i
      before
      other
      h;
}

min_is : (a b : ℕ) → (min a b ≡ a) ⊎ (min a b ≡ b)
min_is a b = elim (cases_lt a b) [ inl less ↦ inl (omega arith) | inr more ↦ inr (omega arith) ]

-- the present node is known to lead back to a lower number
pub lowered : (calls : List (List ℕ)) (places : List Place) (open_nodes : List ℕ) (end : ℕ) (v : Visit) (number : ℕ) → IsVisit calls places open_nodes end v → ((node : ℕ) → slice_get open_nodes number ≡ Some node → Leads calls v.node node) → IsVisit calls places open_nodes end (record v { lowest = min v.lowest number })
lowered calls places open_nodes end v number is leads =
    let low_is = λ (n : ℕ). (node : ℕ) → slice_get open_nodes n ≡ Some node → Leads calls v.node node in
    let lower : min v.lowest number ≤ v.lowest = omega arith in
    record {
      stands = is.stands;
      within = is.within;
      falls = omega (arith, is.falls);
      low = elim (min_is v.lowest number) [ inl first ↦ subst low_is (sym first) is.low | inr second ↦ subst low_is (sym second) leads ];
      back = is.back;
      done = λ n node i called above before h s. past_less v.lowest (min v.lowest number) (slice_get places called) lower (is.done n node i called above before h s);
      begun = λ i called before s. past_less v.lowest (min v.lowest number) (slice_get places called) lower (is.begun i called before s);
    }

-- A visit that is over leads back below its node: its nodes are now the caller's.
pub handed : (calls : List (List ℕ)) (places : List Place) (open_nodes : List ℕ) (v caller : Visit)
    → ((m n f g : ℕ) → m ≤ n → slice_get open_nodes m ≡ Some f → slice_get open_nodes n ≡ Some g → Leads calls f g)
    → IsVisit calls places open_nodes (length open_nodes) v
    → IsVisit calls places open_nodes v.number caller
    → ((i called : ℕ) → step_at calls v.node i ≡ Some called → i < v.next)
    → v.lowest < v.number
    → IsVisit calls places open_nodes (length open_nodes) (record caller { lowest = min caller.lowest v.lowest })
handed calls places open_nodes v caller rises is outer over less =
    let lowest = min caller.lowest v.lowest in
    let lower : lowest ≤ caller.lowest = omega arith in
    let low : lowest ≤ v.lowest = omega arith in
    let end = length open_nodes in
    let turn = get_or open_nodes v.lowest 0 in
    let turn_is : slice_get open_nodes v.lowest ≡ Some turn = slice_get-get_or open_nodes v.lowest 0 (omega (arith, is.falls, is.within)) in
    let turned : Leads calls turn caller.node =
    elim (cases_lt caller.number v.lowest) [ inl above ↦ outer.back v.lowest turn above less turn_is | inr below ↦ rises v.lowest caller.number turn caller.node below turn_is outer.stands ] in
    let home : Leads calls v.node caller.node = leads_on (is.low turn turn_is) turned in
    let there : Leads calls caller.node v.node = rises caller.number v.number caller.node v.node (omega (arith, outer.within)) outer.stands is.stands in
    let low_is = λ (n : ℕ). (node : ℕ) → slice_get open_nodes n ≡ Some node → Leads calls caller.node node in
    let same = λ (n node : ℕ) (e : v.number ≡ n) (h : slice_get open_nodes n ≡ Some node). same_Some v.node node (sym is.stands ∙ ap (slice_get open_nodes) e ∙ h) in
    record {
      stands = outer.stands;
      within = omega (arith, outer.within, is.within);
      falls = omega (arith, outer.falls);
      low = elim (min_is caller.lowest v.lowest) [ inl first ↦ subst low_is (sym first) outer.low | inr second ↦ subst low_is (sym second) (λ node h. leads_on there (is.low node h)) ];
      back = λ n node above before h.
          elim (cases_order v.number n) [
            | inl e ↦ subst (λ x. Leads calls x caller.node) (same n node e h) home
            | inr apart ↦ elim apart [
              | inl up ↦ leads_on (is.back n node up before h) home
              | inr down ↦ outer.back n node above down h
            ]
          ];
      done = λ n node i called above before h s.
          elim (cases_order v.number n) [
            | inl e ↦
                (let s' = subst (λ x. step_at calls x i ≡ Some called) (sym (same n node e h)) s in
                past_less v.lowest lowest (slice_get places called) low (is.begun i called (over i called s') s'))
            | inr apart ↦ elim apart [
              | inl up ↦ past_less v.lowest lowest (slice_get places called) low (is.done n node i called up before h s)
              | inr down ↦ past_less caller.lowest lowest (slice_get places called) lower (outer.done n node i called above down h s)
            ]
          ];
      begun = λ i called before s. past_less caller.lowest lowest (slice_get places called) lower (outer.begun i called before s);
    }
