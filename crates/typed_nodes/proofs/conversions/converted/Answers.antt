use Rattle.std.proofs.Common.{sym, ap, ◌∙◌, ◌≡◌, refl}
use Rattle.cstar_tree.specs.declared.typed.ValueType.{ValueType}
use Rattle.cstar_tree.specs.Typed.{type_of}
use Rattle.cstar_tree.specs.Conversions as C
use Rattle.typed_nodes.proofs.Elems.{other_elem, same_elem}
use Rattle.typed_nodes.proofs.conversions.converted.Goals as goal

pub returns-then-eq : goal.returns-then-eq
returns-then-eq c =
    let from : c.ty-from.result ≡ type_of c.args.e.value = c.ty-from.ensures ∙ ap type_of c.deref.ensures in
    C.as_it_is (ap (λ (t : ValueType). t.elem) (sym from) ∙ same_elem c.ty-from.result.elem c.args.elem (sym c.eq.ensures ∙ c.if-eq.true))

pub returns : goal.returns
returns c =
    let from : c.ty-from.result ≡ type_of c.args.e.value = c.ty-from.ensures ∙ ap type_of c.deref.ensures in
    rw (c.in_ok-new.ensures.ok, from) (C.by_node c.args.e refl (λ is. other_elem c.ty-from.result.elem c.args.elem (sym c.eq.ensures ∙ c.if-eq.false) (ap (λ (t : ValueType). t.elem) from ∙ is)))
