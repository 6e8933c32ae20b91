-- The walk comes to a new node.
use Rattle.std.proofs.Common.{◌≡◌, ◌≢◌, ℕ, zero, suc, ◌+◌, List, [], ◌∷◌, ◌++◌, length, slice_get, Some, inl, inr, sym, ap, ◌∙◌, subst, arith}
use Rattle.std.proofs.Math.ListN.{set}
use Rattle.std.proofs.lemmas.List.{length-append, length-set}
use Rattle.std.proofs.lemmas.Option.{same_Some, slice_get_within}
use Rattle.cstar_tree.specs.Headers.{Leads, is_it}
use Rattle.call_graph.specs.declared.walk.Place.{Place}
use Rattle.call_graph.specs.declared.walk.Place.TheVariants.{New, Open, Grouped}
use Rattle.call_graph.specs.declared.walk.Visit.{Visit}
use Rattle.call_graph.specs.Walk.{IsPast, IsVisit, IsWalk, Moves, first_visit}
use Rattle.call_graph.proofs.Elements.{kept_below, at_end, pushed, set_here, set_else, changed}
use Rattle.call_graph.proofs.WalkLemmas.{kept_way}

none_new : (least : ℕ) (place : Place) → Some place ≡ Some New → IsPast least (Some place) → ⊥
none_new least place is past = subst (λ o. IsPast least o) is past

pub enter_moves : (places : List Place) (v n : ℕ) → slice_get places v ≡ Some New → Moves places (set places v (Open n))
enter_moves [] v n is least node h = h
enter_moves (p ∷ places) zero n is least zero h = absurd (none_new least p is h)
enter_moves (p ∷ places) zero n is least (suc node) h = h
enter_moves (p ∷ places) (suc v) n is least zero h = h
enter_moves (p ∷ places) (suc v) n is least (suc node) h = enter_moves places v n is least node h

visited : (calls : List (List ℕ)) (places : List Place) (open_nodes : List ℕ) (v : ℕ) → IsVisit calls places (open_nodes ++ v ∷ []) (length (open_nodes ++ v ∷ [])) (first_visit v (length open_nodes))
visited calls places open_nodes v =
    let longer : length (open_nodes ++ v ∷ []) ≡ length open_nodes + 1 = length-append open_nodes (v ∷ []) in
    record {
      stands = at_end open_nodes v;
      within = omega arith;
      falls = omega arith;
      low = λ node h. subst (λ x. Leads calls v x) (same_Some v node (sym (at_end open_nodes v) ∙ h)) is_it;
      back = λ number node above before h. absurd (omega arith);
      done = λ number node i called above before h s. absurd (omega arith);
      begun = λ i called before s. absurd (omega arith);
    }

pub entered : (calls : List (List ℕ)) (places : List Place) (open_nodes : List ℕ) (way : List Visit) (v : ℕ) → slice_get places v ≡ Some New → ((n f : ℕ) → slice_get open_nodes n ≡ Some f → Leads calls f v) → IsWalk calls places open_nodes way → IsWalk calls (set places v (Open (length open_nodes))) (open_nodes ++ v ∷ []) (first_visit v (length open_nodes) ∷ way)
entered calls places open_nodes way v is reach walk =
    let end = length open_nodes in
    let new = set places v (Open end) in
    let nodes = open_nodes ++ v ∷ [] in
    let moves : Moves places new = enter_moves places v end is in
    let still = λ (node : ℕ) (place : Place) (e : slice_get places node ≡ Some place) (other : Some place ≢ Some New). set_else places v (Open end) node (λ k. other (sym e ∙ ap (slice_get places) k ∙ is)) ∙ e in
    let old = λ (node : ℕ) (place : Place) (h : slice_get new node ≡ Some place) (other : Open end ≢ place). elim (changed places v (Open end) node place h) as (λ _. slice_get places node ≡ Some place) [ inl e ↦ e | inr e ↦ absurd (other e.1) ] in
    record {
      sized = length-set places v (Open end) ∙ walk.sized;
      rises = λ m n f g less at_m at_n.
          elim (pushed open_nodes v m f at_m) [
            | inl old_m ↦ elim (pushed open_nodes v n g at_n) [
              | inl old_n ↦ walk.rises m n f g less old_m old_n
              | inr new_n ↦ subst (λ x. Leads calls f x) new_n.1 (reach m f old_m)
            ]
            | inr new_m ↦ elim (pushed open_nodes v n g at_n) [
              | inl old_n ↦ (let short = slice_get_within open_nodes n g old_n in absurd (omega (arith, new_m.0, short, less)))
              | inr new_n ↦ subst (λ x. Leads calls x g) new_m.1 (subst (λ x. Leads calls v x) new_n.1 is_it)
            ]
          ];
      number = λ node n h.
          elim (changed places v (Open end) node (Open n) h) [
            | inl e ↦
                (let there = walk.number node n e in
                kept_below open_nodes (v ∷ []) n (slice_get_within open_nodes n node there) ∙ there)
            | inr e ↦ (let last = at_end open_nodes v in cc)
          ];
      node = λ node n h.
          elim (pushed open_nodes v n node h) [
            | inl e ↦ still node (Open n) (walk.node node n e) (λ k. cc)
            | inr e ↦ (let here = set_here places v (Open end) (slice_get_within places v New is) in cc)
          ];
      closed = λ node root i called h s least. moves least called (walk.closed node root i called (old node (Grouped root) h (λ k. cc)) s least);
      rooted = λ node root h. still root (Grouped root) (walk.rooted node root (old node (Grouped root) h (λ k. cc))) (λ k. cc);
      grouped = λ f g m n at_f at_g. walk.grouped f g m n (old f (Grouped m) at_f (λ k. cc)) (old g (Grouped n) at_g (λ k. cc));
      way_on = (visited calls new open_nodes v, kept_way calls places new open_nodes nodes end way moves (λ k h. kept_below open_nodes (v ∷ []) k h) walk.way_on);
    }
