use Rattle.std.proofs.Common.{◌<◌, List, length, sym, subst, arith}
use Rattle.std.specs.Prelude.{Bool, Contains}
use Rattle.std.proofs.lemmas.Bool.{false≢true}
use Rattle.image_check.specs.declared.chains.Call.{Call}
use Rattle.image_check.specs.Marks.{IsMarked}
use Rattle.image_check.proofs.CallLaws.{not_long, cycle_told}
use Rattle.image_check.proofs.rule_stack.is_on_cycle.Goals as goal

pub returns-then-not-is_marked : goal.returns-then-not-is_marked
returns-then-not-is_marked c = (
  (λ t. absurd (false≢true t)),
  (λ cycle.
      absurd (not_long (length c.args.image.now.units.items) c.args.chains.now.calls.items c.args.chains.now.long.items c.args.call
      c.requires.chains.made c.requires.chains.long c.requires.among
      (λ marked. false≢true (c.if-not-is_marked.ensures.1 (subst (λ (ms : List Bool). IsMarked ms c.args.call.to) (sym c.as_slice.ensures.value) marked)))
      cycle)),
)

pub reached_from-requires : goal.reached_from-requires
reached_from-requires c =
    λ call among.
    let inside : call.from < length c.args.image.now.units.items =
    c.requires.chains.made call (subst (λ (cs : List Call). Contains cs call) c.as_slice-2.ensures.value among) in
    omega (arith, inside, c.len.ensures, c.args.image.now.units.ok.0)

pub returns : goal.returns
returns c =
    let inside : c.args.call.from < length c.args.image.now.units.items = c.requires.chains.made c.args.call c.requires.among in
    cycle_told c.len.result c.args.chains.now.calls.items c.as_slice-2.result.now c.in_ok-below.below.items c.as_slice-3.result.now c.args.call
    c.is_marked-2.result c.as_slice-2.ensures.value c.as_slice-3.ensures.value (omega (arith, inside, c.len.ensures, c.args.image.now.units.ok.0))
    c.in_ok-below.ensures c.is_marked-2.ensures
