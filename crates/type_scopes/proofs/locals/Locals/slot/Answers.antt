use Rattle.std.proofs.Common.{◌∙◌, sym, ap, None, reverse, map}
use Rattle.type_scopes.specs.Bindings.{bound}
use Rattle.type_scopes.specs.Links.{words_of, Slots}
use Rattle.type_scopes.proofs.LinkLemmas.{inserted, is_slot, new_index, new_slot, same_bindings, still_linked}
use Rattle.type_scopes.proofs.locals.Locals.slot.Goals as goal

pub invariant_of-self : goal.invariant_of-self
invariant_of-self c =
    let self = c.args.self.now in
    let is = c.in_ok-name.ensures.items ∙ c.bytes.ensures in
    let kept = still_linked c.insert_full.result self.innermost.entries c.insert_full.new.self.entries c.in_ok-name.name c.args.word.now (reverse self.declared.items) is (sym c.in_default.ensures.slot) c.insert_full.ensures.entries c.insert_full.ensures.err self.linked self.newest in
    record { linked = kept.0; newest = kept.1 }

pub returns-clause-slot : goal.returns-clause-slot
returns-clause-slot c =
    let self = c.args.self.now in
    let is = c.in_ok-name.ensures.items ∙ c.bytes.ensures in
    let none = sym c.in_default.ensures.slot in
    let new = inserted self.innermost.entries c.insert_full.new.self.entries c.in_ok-name.name c.args.word.now is none c.in_ok-slot.ensures.entries in
    let index = c.in_ok-slot.ensures.index ∙ new_index self.innermost.entries c.in_ok-name.name c.args.word.now is none in
    rw (new, index) (new_slot self.innermost.entries c.in_ok-name.name c.args.word.now is)

pub returns-clause-bindings : goal.returns-clause-bindings
returns-clause-bindings c =
    let self = c.args.self.now in
    let is = c.in_ok-name.ensures.items ∙ c.bytes.ensures in
    let new = inserted self.innermost.entries c.insert_full.new.self.entries c.in_ok-name.name c.args.word.now is (sym c.in_default.ensures.slot) c.in_ok-slot.ensures.entries in
    ap (λ (slots : Slots). map (bound (words_of slots)) (reverse self.declared.items)) new ∙ same_bindings self.innermost.entries (c.in_ok-name.name, None) (reverse self.declared.items) (λ k l at. (self.linked k l at).0)

pub returns-in-Some-clause-slot : goal.returns-in-Some-clause-slot
returns-in-Some-clause-slot c = is_slot c.args.self.now.innermost.entries c.args.word.now c.in-Some.slot (sym c.in-Some.ensures.slot)
