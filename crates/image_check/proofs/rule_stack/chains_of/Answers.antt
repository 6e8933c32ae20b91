use Rattle.std.proofs.Common.{◌≡◌, ℕ, ◌<◌, List, length, subst, arith}
use Rattle.std.specs.Prelude.{Contains}
use Rattle.image_check.specs.declared.chains.Call.{Call}
use Rattle.image_check.specs.Calls.{AreMarks, AreLong, IsDeep}
use Rattle.image_check.proofs.StackLaws.{made_by}
use Rattle.image_check.proofs.rule_stack.chains_of.Goals as goal

pub deep_units-requires : goal.deep_units-requires
deep_units-requires c =
    λ call among.
    let inside : call.from < length c.args.image.now.units.items =
    made_by c.args.image.now (length c.args.image.now.code.items) c.in_ok-calls.calls.items c.requires.units c.in_ok-calls.ensures call
    (subst (λ (cs : List Call). Contains cs call) c.as_slice.ensures.value among) in
    omega (arith, inside, c.len-units.ensures, c.args.image.now.units.ok.0)

pub long_units-requires : goal.long_units-requires
long_units-requires c =
    λ call among.
    let inside : call.from < length c.args.image.now.units.items =
    made_by c.args.image.now (length c.args.image.now.code.items) c.in_ok-calls.calls.items c.requires.units c.in_ok-calls.ensures call
    (subst (λ (cs : List Call). Contains cs call) c.as_slice-2.ensures.value among) in
    omega (arith, inside, c.len-units.ensures, c.args.image.now.units.ok.0)

pub returns : goal.returns
returns c =
    let size : c.len-units.result ≡ length c.args.image.now.units.items = omega (arith, c.len-units.ensures, c.args.image.now.units.ok.0) in
    record {
      calls = c.in_ok-calls.ensures;
      made = made_by c.args.image.now (length c.args.image.now.code.items) c.in_ok-calls.calls.items c.requires.units c.in_ok-calls.ensures;
      deep =
          subst (λ (n : ℕ). AreMarks n c.in_ok-deep.deep.items (IsDeep c.in_ok-calls.calls.items c.args.image.now.depth)) size
          (subst (λ (cs : List Call). AreMarks c.len-units.result c.in_ok-deep.deep.items (IsDeep cs c.args.image.now.depth))
          c.as_slice.ensures.value c.in_ok-deep.ensures);
      long =
          subst (λ (n : ℕ). AreLong n c.in_ok-calls.calls.items c.in_ok-long.long.items) size
          (subst (λ (cs : List Call). AreLong c.len-units.result cs c.in_ok-long.long.items) c.as_slice-2.ensures.value c.in_ok-long.ensures);
    }
