use Rattle.std.proofs.Common.{List, sym, subst}
use Rattle.std.specs.Prelude.{Bool}
use Rattle.std.proofs.lemmas.Bool.{false≢true}
use Rattle.image_check.specs.Marks.{IsMarked}
use Rattle.image_check.proofs.CallLaws.{keeps_told}
use Rattle.image_check.proofs.rule_stack.keeps_call.Goals as goal

pub returns : goal.returns
returns c =
    keeps_told c.args.chains.now.calls.items c.args.image.now.depth c.args.call c.in_ok-is_cyclic.is_cyclic
    (λ deep.
    false≢true (c.if-is_marked.ensures.1 (subst (λ (ms : List Bool). IsMarked ms c.args.call.from) (sym c.as_slice.ensures.value)
    ((c.requires.chains.deep.1 c.args.call.from (c.requires.chains.made c.args.call c.requires.among)).1 deep))))
    c.in_ok-is_cyclic.ensures
