-- Each step of the walk keeps what holds of it.
use Rattle.std.proofs.Common.{◌≡◌, ℕ, ◌+◌, ◌-◌, ◌<◌, ◌≤◌, List, [], ◌∷◌, ◌++◌, length, min, get_or, take, slice_get, Option, Some, None, inl, inr, sym, ap, ◌∙◌, subst, arith, Result, Ok, Err, IfOk}
use Rattle.std.proofs.Math.ListN.{set}
use Rattle.std.proofs.lemmas.Bool.{cases_lt}
use Rattle.std.proofs.lemmas.Option.{same_Some, slice_get_within, slice_get-get_or}
use Rattle.cstar_tree.specs.Headers.{Leads}
use Rattle.call_graph.specs.declared.walk.Place.{Place}
use Rattle.call_graph.specs.declared.walk.Place.TheVariants.{New, Open, Grouped}
use Rattle.call_graph.specs.declared.walk.Visit.{Visit}
use Rattle.call_graph.specs.Walk.{Advances, Closes, IsPast, IsWalk, IsWay, Moves, first_visit, left_in, list_at, lowered_by, place_of, step_at, way_left}
use Rattle.call_graph.proofs.Elements.{set_here}
use Rattle.call_graph.proofs.WalkLemmas.{further, handed, leads_by, leads_on, lowered}
use Rattle.call_graph.proofs.Entered.{enter_moves, entered}
use Rattle.call_graph.proofs.Closed.{closed}
use Rattle.call_graph.proofs.Left.{fewer_left, one_entered}

same_walk : (calls : List (List ℕ)) (places : List Place) (open_nodes : List ℕ) (way on : List Visit) → IsWalk calls places open_nodes way → IsWay calls places open_nodes (length open_nodes) on → IsWalk calls places open_nodes on
same_walk calls places open_nodes way on walk is = record {
  sized = walk.sized;
  rises = walk.rises;
  number = walk.number;
  node = walk.node;
  closed = walk.closed;
  rooted = walk.rooted;
  grouped = walk.grouped;
  way_on = is;
}

same_places : (places : List Place) → Moves places places
same_places places = λ least node h. h

-- a call that is done is one step less
one_less : (list : Option (List ℕ)) (next called : ℕ) → list_at list next ≡ Some called → left_in list (next + 1) + 1 ≡ left_in list next
one_less None next called h = cc
one_less (Some list) next called h = let short = slice_get_within list next called h in omega arith

pub over_at : (list : Option (List ℕ)) (next i called : ℕ) → list_at list next ≡ None → list_at list i ≡ Some called → i < next
over_at None next i called none h = cc
over_at (Some list) next i called none h =
    let short = slice_get_within list i called h in
    elim (cases_lt next (length list)) [
      | inl less ↦ (let there = slice_get-get_or list next 0 less in cc)
      | inr more ↦ omega arith
    ]

some_left : (list : Option (List ℕ)) (next : ℕ) → 0 < left_in list next
some_left None next = omega arith
some_left (Some list) next = omega arith

pub on_past : (calls : List (List ℕ)) (places : List Place) (open_nodes : List ℕ) (v : Visit) (rest : List Visit) (called : ℕ) → IsWalk calls places open_nodes (v ∷ rest) → step_at calls v.node v.next ≡ Some called → IsPast v.lowest (slice_get places called)
    → Advances calls places (v ∷ rest) places open_nodes (record v { next = v.next + 1 } ∷ rest)
unfolding way_left
on_past calls places open_nodes v rest called walk is past = record {
  walk = same_walk calls places open_nodes (v ∷ rest) (record v { next = v.next + 1 } ∷ rest) walk (further calls places open_nodes (length open_nodes) v called walk.way_on.0 is past, walk.way_on.1);
  moves = same_places places;
  falls = omega (arith, one_less (slice_get calls v.node) v.next called is);
}

pub on_open : (calls : List (List ℕ)) (places : List Place) (open_nodes : List ℕ) (v : Visit) (rest : List Visit) (called number : ℕ) → IsWalk calls places open_nodes (v ∷ rest) → step_at calls v.node v.next ≡ Some called → slice_get places called ≡ Some (Open number)
    → Advances calls places (v ∷ rest) places open_nodes (record v { lowest = min v.lowest number; next = v.next + 1 } ∷ rest)
unfolding way_left
on_open calls places open_nodes v rest called number walk is at_called =
    let low : min v.lowest number ≤ number = omega arith in
    let leads = λ (node : ℕ) (h : slice_get open_nodes number ≡ Some node). subst (λ x. Leads calls v.node x) (same_Some called node (sym (walk.number called number at_called) ∙ h)) (leads_by calls v.node v.next called is) in
    let lower = record v { lowest = min v.lowest number } in
    record {
      walk =
          same_walk calls places open_nodes (v ∷ rest) (record v { lowest = min v.lowest number; next = v.next + 1 } ∷ rest) walk
          (further calls places open_nodes (length open_nodes) lower called (lowered calls places open_nodes (length open_nodes) v number walk.way_on.0 leads) is (subst (λ o. IsPast (min v.lowest number) o) (sym at_called) low), walk.way_on.1);
      moves = same_places places;
      falls = omega (arith, one_less (slice_get calls v.node) v.next called is);
    }

pub on_new : (calls : List (List ℕ)) (places : List Place) (open_nodes : List ℕ) (v : Visit) (rest : List Visit) (called : ℕ) → IsWalk calls places open_nodes (v ∷ rest) → step_at calls v.node v.next ≡ Some called → slice_get places called ≡ Some New
    → Advances calls places (v ∷ rest) (set places called (Open (length open_nodes))) (open_nodes ++ called ∷ []) (first_visit called (length open_nodes) ∷ record v { next = v.next + 1 } ∷ rest)
unfolding way_left
on_new calls places open_nodes v rest called walk is at_called =
    let end = length open_nodes in
    let new = set places called (Open end) in
    let nodes = open_nodes ++ called ∷ [] in
    let visit = walk.way_on.0 in
    let reach = λ (n f : ℕ) (h : slice_get open_nodes n ≡ Some f). leads_on
    (elim (cases_lt v.number n) as (λ _. Leads calls f v.node) [ inl above ↦ visit.back n f above (slice_get_within open_nodes n f h) h | inr below ↦ walk.rises n v.number f v.node below h visit.stands ])
    (leads_by calls v.node v.next called is) in
    let after = entered calls places open_nodes (v ∷ rest) called at_called reach walk in
    let within = slice_get_within places called New at_called in
    let here = set_here places called (Open end) within in
    let list = get_or calls called [] in
    let list_is : slice_get calls called ≡ Some list = slice_get-get_or calls called [] (omega (arith, walk.sized)) in
    let high : v.lowest ≤ end = omega (arith, visit.within, visit.falls) in
    let entry : left_in (slice_get calls called) 0 ≡ length list + 1 = ap (λ o. left_in o 0) list_is ∙ (let e : length list - 0 + 1 ≡ length list + 1 = omega arith in e) in
    record {
      walk =
          same_walk calls new nodes (first_visit called end ∷ v ∷ rest) (first_visit called end ∷ record v { next = v.next + 1 } ∷ rest) after
          (after.way_on.0, (further calls new nodes end v called after.way_on.1.0 is (subst (λ o. IsPast v.lowest o) (sym here) high), after.way_on.1.1));
      moves = enter_moves places called end at_called;
      falls = omega (arith, one_less (slice_get calls v.node) v.next called is, entry, one_entered calls places called end list at_called list_is);
    }

pub same_advance : (calls : List (List ℕ)) (old : List Place) (way : List Visit) (new new' : List Place) (nodes nodes' : List ℕ) (on on' : List Visit) → new' ≡ new → nodes' ≡ nodes → on' ≡ on → Advances calls old way new nodes on → Advances calls old way new' nodes' on'
same_advance calls old way new new' nodes nodes' on on' e f g h =
    subst (λ places. Advances calls old way places nodes' on') (sym e)
    (subst (λ ns. Advances calls old way new ns on') (sym f) (subst (λ vs. Advances calls old way new nodes vs) (sym g) h))

-- the same where the number of open nodes is known otherwise
pub comes_to : (calls : List (List ℕ)) (places : List Place) (open_nodes : List ℕ) (v : Visit) (rest : List Visit) (called : ℕ) (end : ℕ) (new : List Place) (nodes : List ℕ) (on : List Visit)
    → IsWalk calls places open_nodes (v ∷ rest) → step_at calls v.node v.next ≡ Some called → slice_get places called ≡ Some New
    → end ≡ length open_nodes
    → new ≡ set places called (Open end)
    → nodes ≡ open_nodes ++ called ∷ []
    → on ≡ first_visit called end ∷ record v { next = v.next + 1 } ∷ rest
    → Advances calls places (v ∷ rest) new nodes on
comes_to calls places open_nodes v rest called end new nodes on walk is at_called e p o w =
    same_advance calls places (v ∷ rest) (set places called (Open (length open_nodes))) new (open_nodes ++ called ∷ []) nodes (first_visit called (length open_nodes) ∷ record v { next = v.next + 1 } ∷ rest) on
    (p ∙ ap (λ n. set places called (Open n)) e)
    o
    (w ∙ ap (λ n. first_visit called n ∷ record v { next = v.next + 1 } ∷ rest) e)
    (on_new calls places open_nodes v rest called walk is at_called)

pub three_if_ok : {X E P Q R S : Type 0} (r : Result X E) → IfOk r (λ _. P) → IfOk r (λ _. Q) → IfOk r (λ _. R) → (P → Q → R → S) → IfOk r (λ _. S)
three_if_ok (Ok x) p q r f = f p q r
three_if_ok (Err e) p q r f = tt

pub on_lower : (calls : List (List ℕ)) (places : List Place) (open_nodes : List ℕ) (v : Visit) (rest : List Visit) → IsWalk calls places open_nodes (v ∷ rest) → step_at calls v.node v.next ≡ None → v.lowest < v.number
    → Advances calls places (v ∷ rest) places open_nodes (lowered_by v.lowest rest)
unfolding way_left
on_lower calls places open_nodes v [] walk none less = let last = walk.way_on.1 in absurd (omega arith)
on_lower calls places open_nodes v (caller ∷ rest) walk none less = record {
  walk =
      same_walk calls places open_nodes (v ∷ caller ∷ rest) (record caller { lowest = min caller.lowest v.lowest } ∷ rest) walk
      (handed calls places open_nodes v caller walk.rises walk.way_on.0 walk.way_on.1.0 (λ i called h. over_at (slice_get calls v.node) v.next i called none h) less, walk.way_on.1.1);
  moves = same_places places;
  falls = omega (arith, some_left (slice_get calls v.node) v.next);
}

pub on_close : (calls : List (List ℕ)) (places new : List Place) (open_nodes : List ℕ) (v : Visit) (rest : List Visit) → IsWalk calls places open_nodes (v ∷ rest) → step_at calls v.node v.next ≡ None → v.number ≤ v.lowest → Closes open_nodes v.number v.node places new
    → Advances calls places (v ∷ rest) new (take v.number open_nodes) rest
unfolding way_left
on_close calls places new open_nodes v rest walk none own closes =
    let after = closed calls places new open_nodes v rest walk closes (λ i called h. over_at (slice_get calls v.node) v.next i called none h) (let low = walk.way_on.0.falls in omega arith) in
    record {
      walk = after.0;
      moves = after.1;
      falls = omega (arith, some_left (slice_get calls v.node) v.next, fewer_left calls places new closes.same_length after.1);
    }

pub known_new : (node : ℕ) (place : Option Place) → New ≡ place_of node place → place ≡ Some New
known_new node None is = cc
known_new node (Some place) is = ap Some (sym is)

pub known_open : (node number : ℕ) (place : Option Place) → Open number ≡ place_of node place → place ≡ Some (Open number)
known_open node number None is = cc
known_open node number (Some place) is = ap Some (sym is)

pub known_past : (node root least : ℕ) (place : Option Place) → Grouped root ≡ place_of node place → IsPast least place
known_past node root least None is = tt
known_past node root least (Some New) is = cc
known_past node root least (Some (Open number)) is = cc
known_past node root least (Some (Grouped r)) is = tt
