use Rattle.std.proofs.Common.{◌≡◌, ℕ, ◌++◌, length, slice_get, take, drop, ◌-◌, List, Some, sym, ap, ◌∙◌, subst, arith}
use Rattle.call_graph.specs.declared.walk.Place.TheVariants.{Grouped}
use Rattle.call_graph.specs.Walk.{Closes}
use Rattle.call_graph.proofs.Closed.{closes, known_within}
use Rattle.call_graph.proofs.walk.Walk.close.Goals as goal

pub set_group-requires : goal.set_group-requires
set_group-requires c = λ n node h.
    let old = c.args.self.now in
    let nodes = c.deref.ensures.value in
    let h' = subst (λ xs. slice_get (take (length xs - c.args.number) (drop c.args.number xs)) n ≡ Some node) nodes h in
    let within = known_within old.ungrouped.items old.places.items c.args.number c.requires.node n node h' in
    omega (arith, within, ap length c.deref_mut.ensures.value)

pub returns-clause-places : goal.returns-clause-places
returns-clause-places c =
    let old = c.args.self.now in
    let number = c.args.number in
    let new = c.set_group.new.places in
    let nodes = c.deref.ensures.value in
    let places = c.deref_mut.ensures.value in
    let shut = subst (λ (xs : List ℕ). (n node : ℕ) → slice_get (take (length xs - number) (drop number xs)) n ≡ Some node → slice_get new node ≡ Some (Grouped c.args.root)) nodes c.set_group.ensures.shut in
    let kept = subst (λ (xs : List ℕ). (node : ℕ) → ((n : ℕ) → slice_get (take (length xs - number) (drop number xs)) n ≡ Some node → ⊥) → slice_get new node ≡ slice_get c.deref_mut.result.now node) nodes c.set_group.ensures.kept in
    let same : length new ≡ length old.places.items = c.set_group.auto.places ∙ ap length places in
    let size : old.places.len ≡ length old.places.items = omega (arith, old.places.ok.0) in
    subst (λ n. Closes old.ungrouped.items number c.args.root old.places.items (take n (new ++ drop (length new) old.places.items))) (sym size)
    (closes old.ungrouped.items number c.args.root old.places.items new c.requires.node shut (λ node none. kept node none ∙ ap (λ ps. slice_get ps node) places) same)
