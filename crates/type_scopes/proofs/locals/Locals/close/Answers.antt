use Rattle.std.proofs.Common.{◌≡◌, ◌∙◌, arith, drop, length, map, reverse, subst, sym, List}
use Rattle.indexmap.specs.Layout.{length-set_value_at}
use Rattle.type_scopes.specs.declared.locals.Local.{Local}
use Rattle.type_scopes.specs.Bindings.{bound}
use Rattle.type_scopes.specs.Links.{words_of, AreLinked, HaveNewest}
use Rattle.type_scopes.proofs.LinkLemmas.{all_dropped, bound_less, last_slot, linked_less, newest_less, next_dropped, none_less}
use Rattle.type_scopes.proofs.locals.Locals.close.Goals as goal
use Rattle.type_scopes.proofs.locals.Locals.close.Goals.{in-Some, in_default}

pub index_mut-requires : goal.index_mut-requires
index_mut-requires c = last_slot (length c.loop.self.innermost.entries) c.loop.self.declared.items c.pop.new.self.items c.in-Some.local c.in-Some.ensures.items c.loop.self.linked

pub invariant_of-self : goal.invariant_of-self
invariant_of-self c =
    let self = c.loop.self in
    let rest = c.pop.new.self.items in
    let local = c.in-Some.local in
    let linked = subst (λ (xs : List Local). AreLinked (length self.innermost.entries) (reverse xs)) c.in-Some.ensures.items self.linked in
    let newest = subst (λ (xs : List Local). HaveNewest self.innermost.entries (reverse xs)) c.in-Some.ensures.items self.newest in
    record {
      linked = rw (length-set_value_at self.innermost.entries local.slot local.hidden) (linked_less (length self.innermost.entries) rest local linked);
      newest = newest_less self.innermost.entries rest local linked newest;
    }

pub loop-preserved : goal.loop-preserved
loop-preserved c =
    let count : c.len-end.result ≡ length c.args.self.now.declared.items = c.len-end.ensures ∙ c.args.self.now.declared.ok.0 in
    let old = map (bound (words_of c.args.self.now.innermost.entries)) (reverse c.args.self.now.declared.items) in
    let before = map (bound (words_of c.loop.self.innermost.entries)) (reverse c.loop.self.declared.items) in
    let after = map (bound (words_of c.match-pop.self.innermost.entries)) (reverse c.match-pop.self.declared.items) in
    let next : after ≡ drop 1 before = elim c.match-pop.branch [
      | in-Some w ↦ rw w.self-is (bound_less c.loop.self.innermost.entries w.in-Some.local.slot w.in-Some.local.hidden c.loop.self.declared.items c.pop.new.self.items w.in-Some.local w.in-Some.ensures.items)
      | in_default w ↦ rw w.self-is (none_less (words_of c.loop.self.innermost.entries) c.loop.self.declared.items c.pop.new.self.items w.in_default.ensures.items (sym c.loop.self.declared.ok.0 ∙ w.in_default.ensures.cases.0))
    ] in (
      next_dropped old before after c.args.scope c.loop.counter c.loop.auto.counter c.loop.invariant.0 next,
      λ few. omega (arith, few, count, c.loop-test.true, c.loop.auto.counter),
    )

pub returns : goal.returns
returns c =
    let count : c.len-end.result ≡ length c.args.self.now.declared.items = c.len-end.ensures ∙ c.args.self.now.declared.ok.0 in
    all_dropped (words_of c.args.self.now.innermost.entries) c.args.self.now.declared.items (map (bound (words_of c.loop.self.innermost.entries)) (reverse c.loop.self.declared.items)) c.args.scope c.loop.counter
    c.loop.auto.counter (omega (arith, count, c.loop-test.false)) (λ few. omega (arith, count, c.loop.auto.counter-end (omega (arith, count, few)))) c.loop.invariant.1 c.loop.invariant.0
