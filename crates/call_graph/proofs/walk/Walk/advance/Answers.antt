use Rattle.std.proofs.Common.{subst, ◌≡◌, ◌∷◌, length, min, reverse, slice_get, take, ◌+◌, refl, sym, ap, ◌∙◌, arith}
use Rattle.std.proofs.lemmas.Result.{IfOk-weaker}
use Rattle.call_graph.specs.declared.walk.Place.TheVariants.{New}
use Rattle.call_graph.specs.Graph.{Successors}
use Rattle.call_graph.specs.Walk.{first_visit, lowered_by}
use Rattle.call_graph.proofs.Elements.{reverse_push}
use Rattle.call_graph.proofs.Advance.{same_advance, comes_to, three_if_ok, known_new, known_open, known_past, on_past, on_open, on_lower, on_close}
use Rattle.std.proofs.lemmas.Option.{slice_get_within}
use Rattle.call_graph.specs.Walk.{IsOrder}
use Rattle.call_graph.proofs.Ordered.{closed_order, comes_in_order}
use Rattle.call_graph.proofs.walk.Walk.advance.Goals as goal

pub returns-then-visit-clause-walk : goal.returns-then-visit-clause-walk
returns-then-visit-clause-walk c =
    let old = c.args.self.now in
    let calls = Successors c.args.graph.now in
    let rest = reverse old.path.items in
    IfOk-weaker c.lower.result _ _ (λ _ way. same_advance calls old.places.items (c.args.visit ∷ rest) old.places.items _ old.ungrouped.items _ (lowered_by c.args.visit.lowest rest) _ c.lower.ensures.places c.lower.ensures.ungrouped way (on_lower calls old.places.items old.ungrouped.items c.args.visit rest c.requires.walk (sym c.in_default.ensures.node) c.if-visit.true)) c.lower.ensures.path

pub returns-in_default-clause-walk : goal.returns-in_default-clause-walk
returns-in_default-clause-walk c =
    let old = c.args.self.now in
    let calls = Successors c.args.graph.now in
    let visit = c.args.visit in
    let rest = reverse old.path.items in
    let new = c.close.new.self in
    three_if_ok c.close.result c.close.ensures.places c.close.ensures.ungrouped c.close.ensures.ungrouped
    (λ p u _. same_advance calls old.places.items (visit ∷ rest) new.places.items new.places.items (take visit.number old.ungrouped.items) new.ungrouped.items rest (reverse new.path.items) refl u (ap reverse c.close.ensures.path) (on_close calls old.places.items new.places.items old.ungrouped.items visit rest c.requires.walk (sym c.in_default.ensures.node) c.if-visit.false p))

pub returns-in_default-clause-order : goal.returns-in_default-clause-order
returns-in_default-clause-order c =
    let old = c.args.self.now in
    let calls = Successors c.args.graph.now in
    let visit = c.args.visit in
    let new = c.close.new.self in
    three_if_ok c.close.result c.close.ensures.places c.close.ensures.order c.close.ensures.order
    (λ p o _. subst (λ ns. IsOrder calls new.places.items ns) (sym o) (closed_order calls old.places.items new.places.items old.ungrouped.items old.order.items visit (reverse old.path.items) c.requires.walk p (sym c.in_default.ensures.node) c.if-visit.false c.requires.order))

pub enter-requires : goal.enter-requires
enter-requires c =
    let old = c.args.self.now in
    let within = slice_get_within old.places.items c.in-Some.node New (known_new c.in-Some.node (slice_get old.places.items c.in-Some.node) c.in-New.ensures) in
    omega (arith, within, old.places.ok.0)

pub returns-in_ok-push-in-New-clause-order : goal.returns-in_ok-push-in-New-clause-order
returns-in_ok-push-in-New-clause-order c =
    let old = c.args.self.now in
    let new = c.enter.new.self in
    let here = known_new c.in-Some.node (slice_get old.places.items c.in-Some.node) c.in-New.ensures in
    three_if_ok c.enter.result c.enter.ensures.places c.enter.ensures.places c.enter.ensures.places
    (λ p _ _. comes_in_order (Successors c.args.graph.now) old.places.items c.in-Some.node old.ungrouped.len old.order.items new.places.items new.order.items here p c.enter.ensures.order c.requires.order)

pub returns-in_ok-push-in-New-clause-walk : goal.returns-in_ok-push-in-New-clause-walk
returns-in_ok-push-in-New-clause-walk c =
    let old = c.args.self.now in
    let calls = Successors c.args.graph.now in
    let visit = c.args.visit in
    let rest = reverse old.path.items in
    let here = known_new c.in-Some.node (slice_get old.places.items c.in-Some.node) c.in-New.ensures in
    let end : old.ungrouped.len ≡ length old.ungrouped.items = omega (arith, old.ungrouped.ok.0) in
    let on = ap reverse c.in_ok-push-in-New.ensures.items ∙ reverse_push old.path.items (record visit { next = visit.next + 1 }) in
    three_if_ok c.enter.result c.enter.ensures.places c.enter.ensures.ungrouped c.enter.ensures.path
    (λ p o w. comes_to calls old.places.items old.ungrouped.items visit rest c.in-Some.node old.ungrouped.len c.enter.new.self.places.items c.enter.new.self.ungrouped.items (reverse c.enter.new.self.path.items) c.requires.walk (sym c.in-Some.ensures.node) here end p o
    (w ∙ ap (λ vs. first_visit c.in-Some.node old.ungrouped.len ∷ vs) on))

pub returns-in_ok-push-in-Open-clause-walk : goal.returns-in_ok-push-in-Open-clause-walk
returns-in_ok-push-in-Open-clause-walk c =
    let old = c.args.self.now in
    let calls = Successors c.args.graph.now in
    let visit = c.args.visit in
    let rest = reverse old.path.items in
    let number = c.in-Open.number in
    let here = known_open c.in-Some.node number (slice_get old.places.items c.in-Some.node) c.in-Open.ensures in
    let back = ap reverse c.in_ok-push-in-Open.ensures.items ∙ reverse_push old.path.items (record visit { lowest = c.min-lowest.result; next = visit.next + 1 }) in
    let on = back ∙ ap (λ n. record visit { lowest = n; next = visit.next + 1 } ∷ rest) c.min-lowest.ensures in
    same_advance calls old.places.items (visit ∷ rest) old.places.items old.places.items old.ungrouped.items old.ungrouped.items (record visit { lowest = min visit.lowest number; next = visit.next + 1 } ∷ rest) (reverse c.push-in-Open.new.self.items) refl refl on
    (on_open calls old.places.items old.ungrouped.items visit rest c.in-Some.node number c.requires.walk (sym c.in-Some.ensures.node) here)

pub returns-in_ok-push-in-Grouped-clause-walk : goal.returns-in_ok-push-in-Grouped-clause-walk
returns-in_ok-push-in-Grouped-clause-walk c =
    let old = c.args.self.now in
    let calls = Successors c.args.graph.now in
    let visit = c.args.visit in
    let rest = reverse old.path.items in
    let past = known_past c.in-Some.node c.in-Grouped.field-0 visit.lowest (slice_get old.places.items c.in-Some.node) c.in-Grouped.ensures in
    let on = ap reverse c.in_ok-push-in-Grouped.ensures.items ∙ reverse_push old.path.items (record visit { next = visit.next + 1 }) in
    same_advance calls old.places.items (visit ∷ rest) old.places.items old.places.items old.ungrouped.items old.ungrouped.items (record visit { next = visit.next + 1 } ∷ rest) (reverse c.push-in-Grouped.new.self.items) refl refl on
    (on_past calls old.places.items old.ungrouped.items visit rest c.in-Some.node c.requires.walk (sym c.in-Some.ensures.node) past)
