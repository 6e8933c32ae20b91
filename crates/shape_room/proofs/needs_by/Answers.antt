use Rattle.std.proofs.Common.{◌≡◌, ◌∙◌, ◌+◌, ◌++◌, ◌∷◌, ℕ, List, [], ap, append-nil, append_assoc, drop, map, sym, arith}
use Rattle.cstar_tree.specs.Room.{need, needs_from}
use Rattle.shape_room.proofs.MachineRoom.{next_need, no_need}
use Rattle.shape_room.specs.Counted.{counted, kept}
use Rattle.shape_room.proofs.needs_by.Goals as goal

pub returns-clause-needs : goal.returns-clause-needs
returns-clause-needs c = λ has is.
    let none = ap (map kept) (no_need c.args.vars.now c.args.instances.now c.args.shapes.now c.loop-number.number c.loop-number-test.false) in
    sym (append-nil c.loop-number.needs.items) ∙ ap (λ (ns : List ℕ). c.loop-number.needs.items ++ ns) (sym none) ∙ c.loop-number.invariant.1 has is

-- a need that is counted in 64 bits is kept as what it is
kept_counted : (n : ℕ) → kept (counted n) ≡ kept n
kept_counted n = omega arith

pub loop-number-preserved : goal.loop-number-preserved
loop-number-preserved c =
    let number = c.loop-number.number in (
      omega (arith, c.in_ok-push.ensures.len, c.loop-number.invariant.0),
      λ has is.
          let value = c.kept.ensures ∙ ap kept (c.in_ok-need.ensures has is) ∙ kept_counted (need c.args.vars.now c.args.instances.now c.in_ok-shape.shape)
          ∙ ap (λ (n : ℕ). kept (need c.args.vars.now c.args.instances.now n)) c.in_ok-shape.ensures in
          let rest = map kept (needs_from c.args.vars.now c.args.instances.now (number + 1) (drop (number + 1) c.args.shapes.now)) in
          let next = ap (map kept) (next_need c.args.vars.now c.args.instances.now c.args.shapes.now number c.index-shapes-number.result c.loop-number-test.true c.index-shapes-number.is) in
          ap (λ (ns : List ℕ). ns ++ rest) c.in_ok-push.ensures.items ∙ append_assoc c.loop-number.needs.items (c.kept.result ∷ []) rest
          ∙ ap (λ (n : ℕ). c.loop-number.needs.items ++ (n ∷ rest)) value ∙ ap (λ (ns : List ℕ). c.loop-number.needs.items ++ ns) (sym next) ∙ c.loop-number.invariant.1 has is,
    )
