use Rattle.std.proofs.Common.{◌≡◌, ◌∙◌, is_none, not, sym, ap, Some, List, reverse, map, length, ◌∷◌}
use Rattle.indexmap.specs.Layout.{length-set_value_at}
use Rattle.indexmap.specs.IndexMap.{set_value_at}
use Rattle.cstar_tree.specs.Scopes.{Binding, find}
use Rattle.type_scopes.specs.Bindings.{bound, named, within}
use Rattle.type_scopes.specs.declared.locals.Local.{Local}
use Rattle.type_scopes.specs.Links.{newest, words_of}
use Rattle.type_scopes.proofs.LinkLemmas.{declared_in, declared_more, linked_more, newest_is, newest_more}
use Rattle.type_scopes.proofs.locals.Locals.declare.Goals as goal

pub invariant_of-self : goal.invariant_of-self
invariant_of-self c =
    let self = c.slot.new.self in
    let same : c.push.new.self.items ≡ self.declared.items = c.in_err-push.ensures.items in
    record { linked = rw same self.linked; newest = rw same self.newest }

pub invariant_of-self-2 : goal.invariant_of-self-2
invariant_of-self-2 c =
    let self = c.slot.new.self in
    let local : Local = record { slot = c.in_ok-slot.slot; hidden = c.index-hidden.result.now; variable = c.args.variable; ty = c.args.ty } in
    let hides : local.hidden ≡ newest (reverse self.declared.items) local.slot = sym (newest_is self.innermost.entries (reverse self.declared.items) c.in_ok-slot.slot c.index-hidden.result.now self.newest c.in_ok-slot.ensures.slot.0 c.index-hidden.ensures) in
    let count : c.len-at.result ≡ length self.declared.items = c.len-at.ensures ∙ self.declared.ok.0 in
    record {
      linked = rw (c.in_ok-push.ensures.items, length-set_value_at self.innermost.entries local.slot (Some c.len-at.result)) (linked_more (length self.innermost.entries) self.declared.items local self.linked c.in_ok-slot.ensures.slot.0 hides);
      newest = rw (c.in_ok-push.ensures.items, count) (newest_more self.innermost.entries self.declared.items local self.newest c.in_ok-slot.ensures.slot.0);
    }

pub returns-clause-ok : goal.returns-clause-ok
returns-clause-ok c =
    let self = c.slot.new.self in
    let local : Local = record { slot = c.in_ok-slot.slot; hidden = c.index-hidden.result.now; variable = c.args.variable; ty = c.args.ty } in
    let own = declared_more self.innermost.entries (Some c.len-at.result) self.declared.items local c.args.word.now c.in_ok-slot.ensures.slot in
    ap (λ (items : List Local). map (bound (words_of (set_value_at self.innermost.entries local.slot (Some c.len-at.result)))) (reverse items)) c.in_ok-push.ensures.items ∙ (own ∙ ap (λ (bs : List Binding). named c.args.word.now c.args.variable c.args.ty ∷ bs) c.in_ok-slot.ensures.bindings)

pub returns-then-is_in-clause-is_new : goal.returns-then-is_in-clause-is_new
returns-then-is_in-clause-is_new c =
    let self = c.slot.new.self in
    let there = declared_in self.innermost.entries c.args.word.now self.declared.items c.in_ok-slot.slot c.args.scope c.index-hidden.result.now c.in_ok-slot.ensures.distinct self.linked self.newest c.in_ok-slot.ensures.slot c.index-hidden.ensures in
    sym (ap (λ (bs : List Binding). is_none (find (within c.args.scope bs) c.args.word.now)) (sym c.in_ok-slot.ensures.bindings) ∙ ap not (there ∙ (sym c.is_in.ensures ∙ c.if-is_in.true)))

pub returns-clause-is_new : goal.returns-clause-is_new
returns-clause-is_new c =
    let self = c.slot.new.self in
    let there = declared_in self.innermost.entries c.args.word.now self.declared.items c.in_ok-slot.slot c.args.scope c.index-hidden.result.now c.in_ok-slot.ensures.distinct self.linked self.newest c.in_ok-slot.ensures.slot c.index-hidden.ensures in
    sym (ap (λ (bs : List Binding). is_none (find (within c.args.scope bs) c.args.word.now)) (sym c.in_ok-slot.ensures.bindings) ∙ ap not (there ∙ (sym c.is_in.ensures ∙ c.if-is_in.false)))
