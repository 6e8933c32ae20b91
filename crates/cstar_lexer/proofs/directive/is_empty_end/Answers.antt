use Rattle.std.proofs.Common.{◌≡◌, ◌∙◌, ℕ, false, true, List, [], eqb, length, ap, sym, subst}
use Rattle.std.specs.Prelude.{slice_index}
use Rattle.std.proofs.lemmas.Bool.{eqb-true}
use Rattle.std.proofs.lemmas.List.{nil_from_length}
use Rattle.cstar_lexer.specs.Bytes.{is_inner_blank}
use Rattle.cstar_lexer.specs.Directives.{IsEmptyEnd}
use Rattle.cstar_lexer.specs.Directives as D
use Rattle.cstar_lexer.proofs.DirectiveLemmas.{empty_behind}
use Rattle.cstar_lexer.proofs.EndLemmas.{behind_empty, first_behind, full_end, open_end, uncomment}
use Rattle.cstar_lexer.proofs.directive.is_empty_end.Goals as goal

pub loop-length-init : goal.loop-length-init
loop-length-init c =
    let is = c.behind_blanks-rest.ensures.is in record {
      whole = λ h. empty_behind c.args.rest.now (subst (λ (xs : List ℕ). IsEmptyEnd xs) is h);
      rest_too = λ h. subst (λ (xs : List ℕ). IsEmptyEnd xs) (sym is) (behind_empty c.args.rest.now h);
      first = subst (λ (xs : List ℕ). is_inner_blank (slice_index xs 0) ≡ false) (sym is) (first_behind c.args.rest.now);
    }

pub loop-length-preserved : goal.loop-length-preserved
loop-length-preserved c =
    let is = c.behind_blanks-rest-in-Some.ensures.is in
    let comment = c.in-Some.ensures.found in record {
      whole = λ h. c.loop-length.invariant.whole (D.comment comment (subst (λ (xs : List ℕ). IsEmptyEnd xs) c.tail.ensures (empty_behind c.tail.result.now (subst (λ (xs : List ℕ). IsEmptyEnd xs) is h))));
      rest_too = λ h. subst (λ (xs : List ℕ). IsEmptyEnd xs) (sym is) (behind_empty c.tail.result.now (subst (λ (xs : List ℕ). IsEmptyEnd xs) (sym c.tail.ensures) (uncomment comment (c.loop-length.invariant.rest_too h))));
      first = subst (λ (xs : List ℕ). is_inner_blank (slice_index xs 0) ≡ false) (sym is) (first_behind c.tail.result.now);
    }

pub returns-in-None-clause-other : goal.returns-in-None-clause-other
returns-in-None-clause-other c = λ e h. open_end (c.opens_comment.ensures.opens c.loop-length-test.true) c.in-None.ensures.none (c.loop-length.invariant.rest_too h)

pub returns-clause-empty : goal.returns-clause-empty
returns-clause-empty c = λ h. c.loop-length.invariant.whole (D.nothing (nil_from_length c.loop-length.rest.now (eqb-true _ _ (sym c.is_empty.ensures ∙ h))))

pub returns-clause-other : goal.returns-clause-other
returns-clause-other c = λ e h.
    let some : c.loop-length.rest.now ≡ [] → ⊥ = λ nil. let zero : eqb (length c.loop-length.rest.now) 0 ≡ true = ap (λ (xs : List ℕ). eqb (length xs) 0) nil in cc (c.is_empty.ensures, e) in
    full_end some (c.opens_comment.ensures.none c.loop-length-test.false) c.loop-length.invariant.first (c.loop-length.invariant.rest_too h)
