-- The example is a parallel program.
use Rattle.std.proofs.Common.{◌≡◌, ◌∙◌, ℕ, zero, suc, List, [], ◌∷◌, ◌++◌, map, slice_get, slice_index, Some, inl, inr, Global, refl, sym, ap, subst, arith}
use Rattle.std.proofs.lemmas.List.Elements.{All-cons, All-nil}
use Rattle.std.proofs.lemmas.Option.{none-some}
use Rattle.std.specs.List.{Contains}
use denote.Hole.Carrier
use Rattle.cstar_base.specs.Numbers.{residue}
use Rattle.cstar_base.specs.Operators.{divides}
use Rattle.cstar_base.specs.declared.elem.Elem.{Elem}
use Rattle.cstar_tree.specs.declared.typed.Instance.{Instance}
use Rattle.cstar_tree.specs.declared.typed.LocalVar.{LocalVar}
use Rattle.cstar_tree.specs.declared.typed.TExpr as T
use Rattle.cstar_tree.specs.declared.typed.TExpr.TheFolds.{fold-roll-TExpr, fold_out-TExpr}
use Rattle.cstar_tree.specs.declared.typed.TExpr.TheVariants.{rolls-Call, rolls-Printf}
use Rattle.cstar_tree.specs.declared.typed.TStmt as S
use Rattle.cstar_tree.specs.declared.typed.TStmt.TheFolds.{fold-roll-TStmt, fold_out-TStmt}
use Rattle.cstar_tree.specs.declared.typed.TStmt.TheVariants.{rolls-Block}
use Rattle.cstar_tree.specs.Headers.{Leads, calls_it, is_it}
use Rattle.cstar_tree.specs.Instances.{main_word}
use Rattle.cstar_tree.specs.ProgramTypes.{plain_info}
use Rattle.cstar_tree.specs.TypedParts.{call_step, calls_in, calls_within, concat, optional, statement_call_step}
use Rattle.code_lengths.proofs.Declaring.{else_variables, row_variables}
use Rattle.lower_base.specs.Operators.{assign_op_of, relates}
use Rattle.source_meaning.specs.Constants.{constant_of, is_constant, value_of}
use Rattle.source_meaning.specs.Examples.{number, numbers}
use Rattle.code_follows.specs.Fragment.{AreClosed, AreIn, AreInitials, AreInStatements, IsBody, IsClosed, IsClosedElse, IsEffect, IsFileVariable, IsGiven, IsIn, IsInElse, IsInStatement, IsBlockLocal, IsScalarFunction, IsScalarVariable, IsVariable, OfFileOrParam, NamesAmong, called_in, may_of}
use Rattle.code_follows.proofs.Standing.{some_same}
use Rattle.lower_base.specs.Kinds.{folded_kind, kind_of, narrow}
use Rattle.lower_base.specs.Operators.{fold_of, is_signed, reduce_op_of}
use Rattle.lower_expr.specs.Kinds.{is_modular, kind_with, operation_bits, relation_kind}
use Rattle.lower_expr.specs.Steps.{register_word, word_of}
use Rattle.fields_follow.specs.Example.{ExampleIsParallel, example, lift, lift_word, main}
use Rattle.fields_follow.specs.Fragment.{IsDivisor, IsFold, IsNarrowed, IsPromoted, IsPure, IsTarget, IsUpdate, fields_beside}

-- the calls of what has a list in a row
abbrev PrintsInRow : T.TExpr → Type 0
PrintsInRow (T.Printf' ty pieces p row) = calls_in (T.Printf' ty pieces p row) ≡ concat (map calls_in (T.items-the_row-TExpr _ row))
PrintsInRow _ = Unit {0}

prints_in_row : (ty : _) (pieces : _) (p : _) (row : _) → PrintsInRow (T.Printf' ty pieces p row)
unfolding T.out-TExpr Carrier.out
prints_in_row ty pieces p row =
    subst PrintsInRow (sym (rolls-Printf ty pieces _) ∙ T.roll-out-TExpr (T.Printf' ty pieces p row))
    (ap calls_in (sym (rolls-Printf ty pieces _)) ∙ fold-roll-TExpr (List ℕ) call_step _ ∙ ap (λ (es : List T.TExpr). concat (map calls_in es)) (sym (T.items_hidden-the_row-TExpr-0 _)))

abbrev BlockInRow : S.TStmt → Type 0
BlockInRow (S.Block' locals p row) = calls_within (S.Block' locals p row) ≡ concat (map calls_in (concat (map (λ (l : LocalVar). optional l.initial) locals.items))) ++ concat (map calls_within (S.items-the_row-TStmt _ row))
BlockInRow _ = Unit {0}

block_in_row : (locals : _) (p : _) (row : _) → BlockInRow (S.Block' locals p row)
unfolding S.out-TStmt Carrier.out
block_in_row locals p row =
    subst BlockInRow (sym (rolls-Block locals _) ∙ S.roll-out-TStmt (S.Block' locals p row))
    (ap calls_within (sym (rolls-Block locals _)) ∙ fold-roll-TStmt (List ℕ) statement_call_step _ ∙ ap (λ (ss : List S.TStmt). concat (map calls_in (concat (map (λ (l : LocalVar). optional l.initial) locals.items))) ++ concat (map calls_within ss)) (sym (S.items_hidden-the_row-TStmt-0 _)))

abbrev CallInRow : T.TExpr → Type 0
CallInRow (T.Call' ty index p row) = calls_in (T.Call' ty index p row) ≡ concat (map calls_in (T.items-the_row-TExpr _ row)) ++ index ∷ []
CallInRow _ = Unit {0}

call_in_row : (ty : _) (index : _) (p : _) (row : _) → CallInRow (T.Call' ty index p row)
unfolding T.out-TExpr Carrier.out
call_in_row ty index p row =
    subst CallInRow (sym (rolls-Call ty index _) ∙ T.roll-out-TExpr (T.Call' ty index p row))
    (ap calls_in (sym (rolls-Call ty index _)) ∙ fold-roll-TExpr (List ℕ) call_step _ ∙ ap (λ (es : List T.TExpr). concat (map calls_in es) ++ index ∷ []) (sym (T.items_hidden-the_row-TExpr-0 _)))

module _ (heap : Global) where
  -- what `main` calls, and that the other function calls nothing
  main_calls : calls_within (main heap).body ≡ 1 ∷ []
  unfolding concat S.out-TStmt T.out-TExpr Carrier.out
  main_calls = simp (block_in_row, prints_in_row, call_in_row, fold_out-TExpr (List ℕ) call_step, fold_out-TStmt (List ℕ) statement_call_step)

  lift_calls : calls_within (lift heap).body ≡ []
  unfolding concat S.out-TStmt T.out-TExpr Carrier.out
  lift_calls = simp (block_in_row, fold_out-TExpr (List ℕ) call_step, fold_out-TStmt (List ℕ) statement_call_step)

lift_is : (heap : Global) → IsScalarFunction (may_of fields_beside (example heap) (lift heap)) (lift heap)
unfolding kind_of narrow relation_kind word_of register_word kind_with operation_bits is_modular IsBody IsInStatement IsInElse IsClosedElse IsNarrowed else_variables IsEffect IsGiven IsIn IsVariable AreIn AreInitials AreInStatements AreClosed IsClosed OfFileOrParam NamesAmong IsFold IsPromoted IsPure IsTarget IsUpdate assign_op_of constant_of relates divides is_constant residue value_of row_variables
lift_is heap =
    record {
      params = All-nil IsScalarVariable;
      result = λ info is. subst IsScalarVariable (some_same _ info is) refl;
      body = (
        (
          All-nil (IsBlockLocal fields_beside),
          tt,
          (
            (
              inl (((refl, refl), inr (refl, inl (inl refl), inr (refl, refl, (refl, inl (2, refl, omega arith))), tt), inl (refl, inr (refl, refl, (refl, inl (2, refl, omega arith)))), (refl, refl), (refl, refl)), inr (inl refl)),
              (inl tt, tt),
              (
                All-nil (IsBlockLocal fields_beside),
                tt,
                (inr (inl (0, (refl, refl, ((refl, inl refl), refl, refl, refl), inr (refl, refl, (refl, inl (10, refl, omega arith))))), (inl (inl tt), tt)), (tt, tt)),
              ),
              tt,
            ),
            tt,
          ),
        ),
        (((tt, (tt, tt)), tt), tt),
      );
    }

main_is : (heap : Global) → IsScalarFunction (may_of fields_beside (example heap) (main heap)) (main heap)
unfolding folded_kind fold_of reduce_op_of is_signed kind_of narrow relation_kind word_of register_word kind_with operation_bits is_modular IsBody IsInStatement IsInElse IsClosedElse IsNarrowed else_variables IsDivisor IsEffect IsGiven IsIn IsVariable AreIn AreInitials AreInStatements AreClosed IsClosed OfFileOrParam NamesAmong IsFold IsPromoted IsPure IsTarget IsUpdate assign_op_of constant_of relates divides is_constant residue value_of row_variables
main_is heap =
    let called : Contains (calls_within (main heap).body) 1 = subst (λ (calls : List ℕ). Contains calls 1) (sym (main_calls heap)) (0, omega arith, refl) in
    record {
      params = All-nil IsScalarVariable;
      result = λ info is. subst IsScalarVariable (some_same _ info is) refl;
      body = (
        (
          All-nil (IsBlockLocal fields_beside),
          tt,
          (
            (
              All-nil (IsBlockLocal fields_beside),
              tt,
              (
                inr (inl (0, (refl, refl, refl, inl (refl, refl))), (inl (inl tt), tt)),
                (
                  inr (inl (0, (refl, refl, ((refl, inl refl), refl, refl, refl), inr (refl, refl, (refl, inl (1, refl, omega arith))))), (inl (inl tt), tt)),
                  (
                    (
                      inl (((refl, refl), inr (refl, inl (inl refl), inr (refl, refl, (refl, inl (3, refl, omega arith))), tt), inl (refl, inr (refl, refl, (refl, inl (3, refl, omega arith)))), (refl, refl), (refl, refl)), inr (inl refl)),
                      (inl (inl tt), tt),
                      ((lift heap, (refl, omega arith, called, tt, tt)), tt),
                      inr (inl (0, (refl, refl, refl, inl ((refl, refl), inl (refl, inr tt), inr ((refl, refl, (refl, inl (12, refl, omega arith))), refl), (refl, refl), (refl, refl)))), (inl (inl tt), (tt, inl (inl tt)))),
                    ),
                    (inl (refl, refl, inl (refl, inl (inl tt)), ((refl, refl), ((refl, refl), (0, inl ((refl, inl refl), (refl, refl)))), inl (inl tt)), inl refl), tt),
                  ),
                ),
              ),
            ),
            ((((refl, inl tt), tt), All-cons (λ (elem : Elem). elem.bits ≡ 32) number.elem [] refl (All-nil _)), tt),
          ),
        ),
        ((tt, (tt, ((tt, tt), (tt, tt)))), (tt, tt)),
      );
    }

differ : main_word ≡ lift_word → ⊥
differ same = let first = ap (λ (word : List ℕ). slice_index word 0) same in omega (arith, first)

module _ (heap : Global) where
  -- each instance is one of the two
  either : (A : ℕ → Instance → Type 0) → A 0 (main heap) → A 1 (lift heap) → (k : ℕ) (i : Instance) → slice_get (main heap ∷ lift heap ∷ []) k ≡ Some i → A k i
  either A one two zero i is = subst (λ (x : Instance). A 0 x) (some_same (main heap) i is) one
  either A one two (suc zero) i is = subst (λ (x : Instance). A 1 x) (some_same (lift heap) i is) two
  either A one two (suc (suc k)) i is = cc

  -- nothing leads from what calls nothing
  stays : (f g : ℕ) → Leads (called_in (example heap)) f g → f ≡ 1 → g ≡ 1
  stays f g is_it one = one
  stays f g (calls_it {called = called} number at is more) one =
      let here : slice_get (called_in (example heap)) 1 ≡ Some called = subst (λ (n : ℕ). slice_get (called_in (example heap)) n ≡ Some called) one at in
      absurd (none-some _ (ap (λ (numbers : List ℕ). slice_get numbers number) (sym (lift_calls heap) ∙ some_same _ called here) ∙ is))

  no_cycle : (f g i : ℕ) (called : List ℕ) → slice_get (called_in (example heap)) f ≡ Some called → slice_get called i ≡ Some g → Leads (called_in (example heap)) g f → ⊥
  no_cycle zero g zero called at is back =
      let one : g ≡ 1 = sym (some_same 1 g (ap (λ (numbers : List ℕ). slice_get numbers 0) (sym (main_calls heap) ∙ some_same _ called at) ∙ is)) in
      let never = stays g 0 back one in omega (arith, never)
  no_cycle zero g (suc i) called at is back = none-some g (ap (λ (numbers : List ℕ). slice_get numbers (suc i)) (sym (main_calls heap) ∙ some_same _ called at) ∙ is)
  no_cycle (suc zero) g i called at is back = none-some g (ap (λ (numbers : List ℕ). slice_get numbers i) (sym (lift_calls heap) ∙ some_same _ called at) ∙ is)
  no_cycle (suc (suc f)) g i called at is back = cc

pub is_parallel : ExampleIsParallel
is_parallel heap = record {
  main = main heap;
  is_main = refl;
  no_cycle = no_cycle heap;
  each = either heap (λ k x. IsScalarFunction (may_of fields_beside (example heap) x) x) (main_is heap) (lift_is heap);
  names = λ j k a b is also.
      either heap (λ j a. a.name ≡ b.name → j ≡ k) (either heap (λ k b. main_word ≡ b.name → 0 ≡ k) (λ same. refl) (λ same. absurd (differ same)) k b also)
      (either heap (λ k b. lift_word ≡ b.name → 1 ≡ k) (λ same. absurd (differ (sym same))) (λ same. refl) k b also) j a is;
  variables =
      let P = IsFileVariable fields_beside in
      All-cons P (plain_info (112 ∷ []) numbers) (plain_info (115 ∷ []) number ∷ []) (inr ((0, (refl, refl)), refl), omega arith) (All-cons P (plain_info (115 ∷ []) number) [] (inl refl, omega arith) (All-nil P));
}
