-- Each turn of the loop reads a byte or an escape.
use Rattle.std.proofs.Common.{ℕ, ◌+◌, List, Option, arith, subst, sym}
use Rattle.std.proofs.lemmas.Grind.{common_steps}
use Rattle.cstar_lexer.specs.declared.flaw.Flaw.{Flaw}
use Rattle.cstar_lexer.specs.Quoted.{IsBad, IsCut, IsEscape, IsQuoted}
use Rattle.cstar_lexer.specs.Quoted as Q
use Rattle.cstar_lexer.proofs.NumberLemmas.{told}
use Rattle.cstar_lexer.proofs.TextLemmas.{SoFar, bad_step, escape_step, first_flaw, first_open, plain_step, whole_text, wide_step}
use Rattle.cstar_lexer.proofs.quoted.read_text.Goals as goal

pub returns-in-Some-clause-refused : goal.returns-in-Some-clause-refused
returns-in-Some-clause-refused c =
    let so = subst (λ (o : Option Flaw). SoFar c.args.rest.now c.text.at c.text.bytes.items o) c.in-Some.is c.text.invariant.so_far in
    first_flaw c.in-Some.flaw c.requires c.if-byte-eq34.true so

pub returns-in-None-clause-taken : goal.returns-in-None-clause-taken
returns-in-None-clause-taken c =
    let so = subst (λ (o : Option Flaw). SoFar c.args.rest.now c.text.at c.text.bytes.items o) c.in-None.is c.text.invariant.so_far in
    subst (λ (w : List ℕ). IsQuoted c.args.rest.now (c.text.at + 1) w) (sym c.of.ensures) (whole_text c.args.rest.now c.text.at c.text.bytes.items c.requires c.if-byte-eq34.true so)

pub text-preserved-then-byte-ne92 : goal.text-preserved-then-byte-ne92
text-preserved-then-byte-ne92 c =
    let plain : Q.IsPlain c.args.rest.now c.text.at 34 = record { on_line = c.ends_line.ensures.goes_on c.text-test.true; no_quote = c.if-byte-eq34.false; no_escape = c.if-byte-ne92.true } in record {
      within = omega (arith, c.ends_line.ensures.within c.text-test.true);
      some = omega (arith, c.text.invariant.some);
      so_far = subst (λ (w : List ℕ). SoFar c.args.rest.now (c.text.at + 1) w c.text.first_flaw) (sym c.in_ok-push.ensures.items) (plain_step c.args.rest.now c.text.at c.text.bytes.items c.text.first_flaw plain c.text.invariant.so_far);
      back = λ fault offset h. c.text.invariant.back fault offset (Q.behind_plain plain h);
    }

pub text-preserved-in-Byte : goal.text-preserved-in-Byte
text-preserved-in-Byte c =
    let escape = subst (λ (xs : List ℕ). IsEscape xs c.in-Byte.length c.in-Byte.value) c.tail.ensures c.in-Byte.ensures.is.0 in record {
      within = grind (arith, common_steps, c.in-Byte.ensures.within, c.tail.ensures);
      some = omega (arith, c.text.invariant.some);
      so_far = subst (λ (w : List ℕ). SoFar c.args.rest.now (c.text.at + c.in-Byte.length) w c.text.first_flaw) (sym c.in_ok-push-in-Byte.ensures.items) (escape_step c.args.rest.now c.text.at c.in-Byte.length c.in-Byte.value c.text.bytes.items c.text.first_flaw escape c.in-Byte.ensures.is.1 c.text.invariant.so_far);
      back = λ fault offset h. c.text.invariant.back fault offset (Q.behind_escape escape h);
    }

pub text-preserved-in-Wide : goal.text-preserved-in-Wide
text-preserved-in-Wide c =
    let wide = c.in-Wide.ensures.is in
    let escape = subst (λ (xs : List ℕ). IsEscape xs c.in-Wide.length wide.0) c.tail.ensures wide.1 in record {
      within = grind (arith, common_steps, c.in-Wide.ensures.within, c.tail.ensures);
      some = omega (arith, c.text.invariant.some);
      so_far = subst (λ (o : Option Flaw). SoFar c.args.rest.now (c.text.at + c.in-Wide.length) c.text.bytes.items o) (sym c.earlier-first_flaw.ensures) (wide_step c.args.rest.now c.text.at c.in-Wide.length wide.0 c.text.bytes.items c.text.first_flaw c.flaw.result escape wide.2 c.flaw.ensures.same c.flaw.ensures.at c.text.invariant.back c.text.invariant.so_far);
      back = λ fault offset h. c.text.invariant.back fault offset (Q.behind_escape escape h);
    }

pub text-preserved : goal.text-preserved
text-preserved c =
    let bad = subst (λ (xs : List ℕ). IsBad xs) c.tail.ensures c.in-Bad.ensures.is in record {
      within = grind (arith, common_steps, c.in-Bad.ensures.within, c.tail.ensures);
      some = omega (arith, c.text.invariant.some);
      so_far = subst (λ (o : Option Flaw). SoFar c.args.rest.now (c.text.at + 2) c.text.bytes.items o) (sym c.earlier-first_flaw-in-Bad.ensures) (bad_step c.args.rest.now c.text.at c.text.bytes.items c.text.first_flaw c.flaw-in-Bad.result bad c.flaw-in-Bad.ensures.same c.flaw-in-Bad.ensures.at c.text.invariant.back c.text.invariant.so_far);
      back = λ fault offset h. c.text.invariant.back fault offset (Q.behind_bad bad h);
    }

pub returns-in-Ends-clause-refused : goal.returns-in-Ends-clause-refused
returns-in-Ends-clause-refused c =
    let cut = subst (λ (xs : List ℕ). IsCut xs) c.tail.ensures c.in-Ends.ensures.is in
    told c.flaw-in-Ends.ensures.same c.flaw-in-Ends.ensures.at (first_open c.requires (c.text.invariant.back _ _ (Q.cut cut)))

pub returns-clause-refused : goal.returns-clause-refused
returns-clause-refused c =
    told c.flaw-2.ensures.same c.flaw-2.ensures.at (first_open c.requires (c.text.invariant.back _ _ (Q.ended (c.ends_line.ensures.ends c.text-test.false))))
