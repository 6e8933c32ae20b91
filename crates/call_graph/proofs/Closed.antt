-- The nodes from one number on get their group.
use Rattle.std.proofs.Common.{◌≡◌, ℕ, ◌+◌, ◌<◌, ◌≤◌, List, ◌∷◌, ◌++◌, ◌-◌, length, take, drop, slice_get, Option, Some, None, ◌⊎◌, inl, inr, refl, sym, ap, ◌∙◌, subst, arith}
use Rattle.std.proofs.lemmas.Bool.{cases_lt, cases_order}
use Rattle.std.proofs.lemmas.List.{length-take-le}
use Rattle.std.proofs.lemmas.Option.{same_Some, slice_get_within, slice_get-get_or}
use Rattle.cstar_tree.specs.Headers.{Leads, is_it, calls_it}
use Rattle.call_graph.specs.declared.walk.Place.{Place}
use Rattle.call_graph.specs.declared.walk.Place.TheVariants.{New, Open, Grouped}
use Rattle.call_graph.specs.declared.walk.Visit.{Visit}
use Rattle.call_graph.specs.Walk.{Closes, IsPast, IsWalk, IsWay, Moves, list_at, step_at}
use Rattle.call_graph.proofs.Elements.{cut, cut_keeps, in_rest, of_rest, replaced}
use Rattle.call_graph.proofs.WalkLemmas.{kept_way, leads_on}

none_open : (old : List Place) (node : ℕ) (place : Option Place) (number : ℕ) → slice_get old node ≡ place → ((n : ℕ) → place ≡ Some (Open n) → ⊥) → (n : ℕ) → slice_get old node ≡ Some (Open n) → n < number
none_open old node place number is none n e = absurd (none n (sym is ∙ e))

moves_at : (open_nodes : List ℕ) (number root : ℕ) (old new : List Place) → Closes open_nodes number root old new → ((node n : ℕ) → slice_get old node ≡ Some (Open n) → slice_get open_nodes n ≡ Some node)
    → (least node : ℕ) (place : Option Place) → slice_get old node ≡ place → IsPast least place → IsPast least (slice_get new node)
moves_at open_nodes number root old new closes stands least node None is h =
    subst (λ o. IsPast least o) (sym (closes.kept node (none_open old node None number is (λ n e. cc)) ∙ is)) h
moves_at open_nodes number root old new closes stands least node (Some New) is h = absurd h
moves_at open_nodes number root old new closes stands least node (Some (Grouped r)) is h =
    subst (λ o. IsPast least o) (sym (closes.kept node (none_open old node (Some (Grouped r)) number is (λ n e. cc)) ∙ is)) h
moves_at open_nodes number root old new closes stands least node (Some (Open n)) is h =
    elim (cases_lt n number) [
      | inl less ↦ subst (λ o. IsPast least o) (sym (closes.kept node (λ k e. let same : k ≡ n = cc in omega arith) ∙ is)) h
      | inr more ↦ subst (λ o. IsPast least o) (sym (closes.shut n node more (stands node n is))) tt
    ]

-- what was past the number is now past every number
gone_at : (open_nodes : List ℕ) (number root : ℕ) (old new : List Place) → Closes open_nodes number root old new → ((node n : ℕ) → slice_get old node ≡ Some (Open n) → slice_get open_nodes n ≡ Some node)
    → (least node : ℕ) (place : Option Place) → slice_get old node ≡ place → IsPast number place → IsPast least (slice_get new node)
gone_at open_nodes number root old new closes stands least node None is h =
    subst (λ o. IsPast least o) (sym (closes.kept node (none_open old node None number is (λ n e. cc)) ∙ is)) tt
gone_at open_nodes number root old new closes stands least node (Some New) is h = absurd h
gone_at open_nodes number root old new closes stands least node (Some (Grouped r)) is h =
    subst (λ o. IsPast least o) (sym (closes.kept node (none_open old node (Some (Grouped r)) number is (λ n e. cc)) ∙ is)) tt
gone_at open_nodes number root old new closes stands least node (Some (Open n)) is h =
    subst (λ o. IsPast least o) (sym (closes.shut n node h (stands node n is))) tt

-- A place behind the change was the same before, or it is one of those that got the group.
abbrev pub WasIn : List ℕ → ℕ → ℕ → ℕ → Place → Type 0
WasIn open_nodes number root node place = (place ≡ Grouped root) × ((n : ℕ) × (number ≤ n) × (slice_get open_nodes n ≡ Some node))

pub was : (open_nodes : List ℕ) (number root : ℕ) (old new : List Place) → Closes open_nodes number root old new → ((node n : ℕ) → slice_get old node ≡ Some (Open n) → slice_get open_nodes n ≡ Some node)
    → (node : ℕ) (before : Option Place) (place : Place) → slice_get old node ≡ before → slice_get new node ≡ Some place
    → ((slice_get old node ≡ Some place) × ((n : ℕ) → place ≡ Open n → n < number)) ⊎ WasIn open_nodes number root node place
was open_nodes number root old new closes stands node None place is h =
    let same = closes.kept node (none_open old node None number is (λ n e. cc)) in cc
was open_nodes number root old new closes stands node (Some New) place is h =
    let same = closes.kept node (none_open old node (Some New) number is (λ n e. cc)) in inl (cc, λ n e. cc)
was open_nodes number root old new closes stands node (Some (Grouped r)) place is h =
    let same = closes.kept node (none_open old node (Some (Grouped r)) number is (λ n e. cc)) in inl (cc, λ n e. cc)
was open_nodes number root old new closes stands node (Some (Open k)) place is h =
    elim (cases_lt k number) [
      | inl less ↦
          (let same = closes.kept node (λ n e. let this : n ≡ k = cc in omega arith) in
          inl (sym same ∙ h, λ n e. let this : n ≡ k = cc in omega arith))
      | inr more ↦
          (let here = stands node k is in
          inr (same_Some place (Grouped root) (sym h ∙ closes.shut k node more here), (k, more, here)))
    ]

-- what a node with a group leads to has a group
past_all : (calls : List (List ℕ)) (places : List Place) → length places ≡ length calls
    → ((node root i called : ℕ) → slice_get places node ≡ Some (Grouped root) → step_at calls node i ≡ Some called → (least : ℕ) → IsPast least (slice_get places called))
    → (f called : ℕ) (list : List ℕ) (i : ℕ) → slice_get calls f ≡ Some list → slice_get list i ≡ Some called
    → (place : Option Place) → slice_get places f ≡ place → ((least : ℕ) → IsPast least place) → (least : ℕ) → IsPast least (slice_get places called)
past_all calls places sized closed f called list i at_f at_i None is h =
    let short = slice_get_within calls f list at_f in
    elim (cases_lt f (length places)) [ inl less ↦ (let there = slice_get-get_or places f New less in cc) | inr more ↦ absurd (omega arith) ]
past_all calls places sized closed f called list i at_f at_i (Some New) is h = absurd (h 0)
past_all calls places sized closed f called list i at_f at_i (Some (Open n)) is h = let big = h (n + 1) in absurd (omega arith)
past_all calls places sized closed f called list i at_f at_i (Some (Grouped root)) is h =
    closed f root i called is (ap (λ o. list_at o i) at_f ∙ at_i)

leads_past : (calls : List (List ℕ)) (places : List Place) → length places ≡ length calls
    → ((node root i called : ℕ) → slice_get places node ≡ Some (Grouped root) → step_at calls node i ≡ Some called → (least : ℕ) → IsPast least (slice_get places called))
    → (f g : ℕ) → Leads calls f g → ((least : ℕ) → IsPast least (slice_get places f)) → (least : ℕ) → IsPast least (slice_get places g)
leads_past calls places sized closed f g is_it h = h
leads_past calls places sized closed f g (calls_it {g = next} {called = list} i at_f at_i more) h =
    leads_past calls places sized closed next g more (past_all calls places sized closed f next list i at_f at_i (slice_get places f) refl h)

-- no node with a group leads to an open one
never_open : (calls : List (List ℕ)) (places : List Place) → length places ≡ length calls
    → ((node root i called : ℕ) → slice_get places node ≡ Some (Grouped root) → step_at calls node i ≡ Some called → (least : ℕ) → IsPast least (slice_get places called))
    → (f g root n : ℕ) → slice_get places f ≡ Some (Grouped root) → slice_get places g ≡ Some (Open n) → Leads calls f g → ⊥
never_open calls places sized closed f g root n at_f at_g leads =
    let past = leads_past calls places sized closed f g leads (λ least. subst (λ o. IsPast least o) (sym at_f) tt) (n + 1) in
    let high = subst (λ o. IsPast (n + 1) o) at_g past in
    absurd (omega arith)

-- what the nodes from the number of a visit on call is past that number, where the visit is over and
-- leads back no lower
pub past_number : (calls : List (List ℕ)) (old : List Place) (open_nodes : List ℕ) (v : Visit) (rest : List Visit)
    → IsWalk calls old open_nodes (v ∷ rest)
    → ((i called : ℕ) → step_at calls v.node i ≡ Some called → i < v.next)
    → v.lowest ≡ v.number
    → (n node i called : ℕ) → v.number ≤ n → slice_get open_nodes n ≡ Some node → step_at calls node i ≡ Some called → IsPast v.number (slice_get old called)
past_number calls old open_nodes v rest walk over own n node i called above h s =
    let is = walk.way_on.0 in
    let past = λ (o : Option Place) (p : IsPast v.lowest o). subst (λ k. IsPast k o) own p in
    elim (cases_order v.number n) [
      | inl e ↦
          (let same = same_Some v.node node (sym is.stands ∙ ap (slice_get open_nodes) e ∙ h) in
          let s' = subst (λ x. step_at calls x i ≡ Some called) (sym same) s in
          past (slice_get old called) (is.begun i called (over i called s') s'))
      | inr apart ↦ elim apart [
        | inl up ↦ past (slice_get old called) (is.done n node i called up (slice_get_within open_nodes n node h) h s)
        | inr down ↦ absurd (omega arith)
      ]
    ]

-- those nodes lead back to the node of the visit
pub back_home : (calls : List (List ℕ)) (old : List Place) (open_nodes : List ℕ) (v : Visit) (rest : List Visit)
    → IsWalk calls old open_nodes (v ∷ rest) → (n node : ℕ) → v.number ≤ n → slice_get open_nodes n ≡ Some node → Leads calls node v.node
back_home calls old open_nodes v rest walk n node above h =
    let is = walk.way_on.0 in
    elim (cases_order v.number n) [
      | inl e ↦ subst (λ x. Leads calls x v.node) (same_Some v.node node (sym is.stands ∙ ap (slice_get open_nodes) e ∙ h)) is_it
      | inr apart ↦ elim apart [
        | inl up ↦ is.back n node up (slice_get_within open_nodes n node h) h
        | inr down ↦ absurd (omega arith)
      ]
    ]

pub closed : (calls : List (List ℕ)) (old new : List Place) (open_nodes : List ℕ) (v : Visit) (rest : List Visit)
    → IsWalk calls old open_nodes (v ∷ rest)
    → Closes open_nodes v.number v.node old new
    → ((i called : ℕ) → step_at calls v.node i ≡ Some called → i < v.next)
    → v.lowest ≡ v.number
    → IsWalk calls new (take v.number open_nodes) rest × Moves old new
closed calls old new open_nodes v rest walk closes over own =
    let is = walk.way_on.0 in
    let number = v.number in
    let root = v.node in
    let stands = walk.number in
    let moves : Moves old new = λ least node. moves_at open_nodes number root old new closes stands least node (slice_get old node) refl in
    let before = λ (node : ℕ) (place : Place) (h : slice_get new node ≡ Some place). was open_nodes number root old new closes stands node (slice_get old node) place refl h in
    let gone = past_number calls old open_nodes v rest walk over own in
    let home = back_home calls old open_nodes v rest walk in
    let away = λ (n node : ℕ) (above : number ≤ n) (h : slice_get open_nodes n ≡ Some node). walk.rises number n root node above is.stands h in
    let out = λ (f m : ℕ) (at_f : slice_get old f ≡ Some (Grouped m)) (n g : ℕ) (h : slice_get open_nodes n ≡ Some g) (leads : Leads calls f g). never_open calls old walk.sized walk.closed f g m n at_f (walk.node g n h) leads in
    let apart = λ (m : ℕ) (f : ℕ) (at_f : slice_get old f ≡ Some (Grouped m)) (e : m ≡ root). let this = walk.rooted f m at_f in let that = walk.node root number is.stands in let same = ap (slice_get old) e in let none : ⊥ = cc in none in
    let kept_root = λ (m : ℕ) (e : slice_get old m ≡ Some (Grouped m)). closes.kept m (none_open old m (Some (Grouped m)) number e (λ n k. cc)) ∙ e in (
      record {
        sized = closes.same_length ∙ walk.sized;
        rises = λ m n f g less at_m at_n. walk.rises m n f g less (cut number open_nodes m f at_m).1 (cut number open_nodes n g at_n).1;
        number = λ node n h.
            elim (before node (Open n) h) [
              | inl e ↦ cut_keeps number open_nodes n (e.1 n refl) ∙ walk.number node n e.0
              | inr e ↦ absurd (let k = e.0 in cc)
            ];
        node = λ node n h.
            (let p = cut number open_nodes n node h in
            let there = walk.node node n p.1 in
            closes.kept node (λ k e. let this : k ≡ n = cc in omega (arith, p.0)) ∙ there);
        closed = λ node r i called h s.
            elim (before node (Grouped r) h) as (λ _. (least : ℕ) → IsPast least (slice_get new called)) [
              | inl e ↦ (λ least. moves least called (walk.closed node r i called e.0 s least))
              | inr e ↦
                  (λ least. gone_at open_nodes number root old new closes stands least called (slice_get old called) refl (gone e.1.0 node i called e.1.1 e.1.2 s))
            ];
        rooted = λ node r h.
            elim (before node (Grouped r) h) [
              | inl e ↦
                  (let there = walk.rooted node r e.0 in
                  closes.kept r (none_open old r (Some (Grouped r)) number there (λ n k. cc)) ∙ there)
              | inr e ↦ (let here = closes.shut number root (omega arith) is.stands in let same = e.0 in cc)
            ];
        grouped = λ f g m n at_f at_g.
            elim (before f (Grouped m) at_f) [
              | inl old_f ↦ elim (before g (Grouped n) at_g) [
                | inl old_g ↦ walk.grouped f g m n old_f.0 old_g.0
                | inr new_g ↦ (
                  (λ e. absurd (apart m f old_f.0 (let k = new_g.0 in cc))),
                  (λ p. absurd (out f m old_f.0 new_g.1.0 g new_g.1.2 p.0)),
                )
              ]
              | inr new_f ↦ elim (before g (Grouped n) at_g) [
                | inl old_g ↦ (
                  (λ e. absurd (apart n g old_g.0 (let k = new_f.0 in cc))),
                  (λ p. absurd (out g n old_g.0 new_f.1.0 f new_f.1.2 p.1)),
                )
                | inr new_g ↦ (
                  (λ e. (
                    leads_on (home new_f.1.0 f new_f.1.1 new_f.1.2) (away new_g.1.0 g new_g.1.1 new_g.1.2),
                    leads_on (home new_g.1.0 g new_g.1.1 new_g.1.2) (away new_f.1.0 f new_f.1.1 new_f.1.2),
                  )),
                  (λ p. let k = new_f.0 in let l = new_g.0 in cc),
                )
              ]
            ];
        way_on =
            (let short : length (take number open_nodes) ≡ number = length-take-le number open_nodes (omega (arith, is.within)) in
            subst (λ n. IsWay calls new (take number open_nodes) n rest) (sym short)
            (kept_way calls old new open_nodes (take number open_nodes) number rest moves (λ k h. cut_keeps number open_nodes k h) walk.way_on.1));
      },
      moves,
    )

-- the nodes of which a walk knows the places have places
pub known_within : (nodes : List ℕ) (places : List Place) (number : ℕ) → ((node n : ℕ) → slice_get nodes n ≡ Some node → slice_get places node ≡ Some (Open n))
    → (n node : ℕ) → slice_get (take (length nodes - number) (drop number nodes)) n ≡ Some node → node < length places
known_within nodes places number known n node h = slice_get_within places node (Open (number + n)) (known node (number + n) (in_rest nodes number n node h))

pub closes : (nodes : List ℕ) (number root : ℕ) (old new : List Place)
    → ((node n : ℕ) → slice_get nodes n ≡ Some node → slice_get old node ≡ Some (Open n))
    → ((n node : ℕ) → slice_get (take (length nodes - number) (drop number nodes)) n ≡ Some node → slice_get new node ≡ Some (Grouped root))
    → ((node : ℕ) → ((n : ℕ) → slice_get (take (length nodes - number) (drop number nodes)) n ≡ Some node → ⊥) → slice_get new node ≡ slice_get old node)
    → length new ≡ length old
    → Closes nodes number root old (take (length old) (new ++ drop (length new) old))
closes nodes number root old new known shut kept same =
    subst (λ places. Closes nodes number root old places) (sym (replaced new old same))
    (record {
      same_length = same;
      shut = λ n node above h.
          (let e : number + (n - number) ≡ n = omega arith in
          let there = ap (slice_get nodes) e ∙ h in
          shut (n - number) node (of_rest nodes number (n - number) node (slice_get_within nodes (number + (n - number)) node there) there));
      kept = λ node less. kept node
          (λ n h.
          let there = less (number + n) (known node (number + n) (in_rest nodes number n node h)) in absurd (omega arith));
    })
