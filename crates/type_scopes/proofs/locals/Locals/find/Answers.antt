use Rattle.std.proofs.Common.{◌≡◌, ◌∙◌, sym, ap, None, reverse, length, refl, arith}
use Rattle.std.proofs.lemmas.Option.{slice_get_read}
use Rattle.std.specs.Option.{option_map}
use Rattle.type_scopes.specs.Bindings.{meant}
use Rattle.type_scopes.specs.Links.{newest}
use Rattle.type_scopes.proofs.LinkLemmas.{declared_within, found_at, found_none, is_slot, named_by_none, newest_is}
use Rattle.type_scopes.proofs.locals.Locals.find.Goals as goal

pub returns-in_err-slot_of : goal.returns-in_err-slot_of
returns-in_err-slot_of c =
    let self = c.args.self.now in
    ap (option_map meant) c.from_residual.ensures ∙ sym (named_by_none self.innermost.entries c.args.word.now (reverse self.declared.items) self.linked (sym c.in_err-slot_of.ensures.slot))

pub returns-in_err-at : goal.returns-in_err-at
returns-in_err-at c =
    let self = c.args.self.now in
    let slot = is_slot self.innermost.entries c.args.word.now c.in_ok-slot_of.field-0 (sym c.in_ok-slot_of.ensures.slot) in
    let none : newest (reverse self.declared.items) c.in_ok-slot_of.field-0 ≡ None = newest_is self.innermost.entries (reverse self.declared.items) _ _ self.newest slot.0 c.index.ensures ∙ c.in_err-at.was in
    ap (option_map meant) c.from_residual-in_err-at.ensures ∙ sym (found_none self.innermost.entries c.args.word.now (reverse self.declared.items) _ c.in_ok-slot_of.ensures.distinct self.linked slot none)

pub index-local-requires : goal.index-local-requires
index-local-requires c =
    let self = c.args.self.now in
    let slot = is_slot self.innermost.entries c.args.word.now c.in_ok-slot_of.field-0 (sym c.in_ok-slot_of.ensures.slot) in
    let within = declared_within self.declared.items c.in_ok-slot_of.field-0 c.in_ok-at.at (newest_is self.innermost.entries (reverse self.declared.items) _ _ self.newest slot.0 c.index.ensures ∙ c.in_ok-at.was) in
    omega (arith, within, self.declared.ok.0)

pub returns : goal.returns
returns c =
    let self = c.args.self.now in
    let slot = is_slot self.innermost.entries c.args.word.now c.in_ok-slot_of.field-0 (sym c.in_ok-slot_of.ensures.slot) in
    let newest_at = newest_is self.innermost.entries (reverse self.declared.items) _ _ self.newest slot.0 c.index.ensures ∙ c.in_ok-at.was in
    let there = slice_get_read self.declared.items (length self.declared.items) c.in_ok-at.at c.index-local.result.now refl (declared_within self.declared.items c.in_ok-slot_of.field-0 c.in_ok-at.at newest_at) c.index-local.ensures in
    sym (found_at self.innermost.entries c.args.word.now self.declared.items c.in_ok-slot_of.field-0 c.in_ok-at.at c.index-local.result.now c.in_ok-slot_of.ensures.distinct self.linked slot newest_at there)
