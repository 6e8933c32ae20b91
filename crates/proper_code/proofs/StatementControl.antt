-- The code of every statement stays within itself, but for the jumps to where the loop around it goes on or
-- ends; a jump back leads to the turn of a loop.
use Rattle.std.proofs.Common.{◌≡◌, ℕ, ◌+◌, ◌≤◌, ◌⊎◌, inl, inr, Bool, true, false, List, [], ◌∷◌, ◌++◌, length, Option, Some, None, IfSome, refl, subst, arith}
use Rattle.paris_code.specs.declared.instr.Instr.{Instr}
use Rattle.cstar_tree.specs.declared.typed.Instance.{Instance}
use Rattle.cstar_tree.specs.declared.typed.TExpr.{TExpr}
use Rattle.cstar_tree.specs.declared.typed.TStmt.{TStmt, Row_of-TStmt, end_of-TStmt, more_of-TStmt, Held-TStmt-If-2, None', Some'}
use Rattle.cstar_tree.specs.declared.typed.TStmt as S
use Rattle.cstar_tree.specs.declared.typed.Typed.{Typed}
use Rattle.cstar_tree.specs.Variables.{variables_of}
use Rattle.paris_code.specs.declared.instr.Instr.TheVariants as I
use Rattle.paris_code.specs.declared.operands.Field.{Field}
use Rattle.paris_code.specs.declared.program.Owner.TheVariants as W
use Rattle.lower_base.specs.Drafts.{Draft, Plain, Made, Makes, an_entry, here, step, then_make, with_instr}
use Rattle.lower_base.specs.Layouts.{Layout}
use Rattle.lower_expr.specs.Lengths.{tested_length, used_length_of}
use Rattle.lower_stmt.specs.declared.statement.Frame.{Frame}
use Rattle.lower_stmt.specs.Frames.{has_result, in_context, in_loop}
use Rattle.lower_stmt.specs.Lengths.{at_loop, condition_length_of, else_length_of, locals_length_of, one_more, part_length_of, statement_length_of, statements_length_of}
use Rattle.lower_stmt.specs.Programs.{outcome_of}
use Rattle.lower_stmt.specs.Statements as L
use Rattle.lower_stmt.specs.Statements.{closing, condition_of, else_of, jump_back_of, otherwise_of, part_of, returned, statement_of, statements_of}
use Rattle.code_lengths.specs.Agreement.{StandsAmong}
use Rattle.code_lengths.specs.Growth.{Anything, Grows, Leads}
use Rattle.code_lengths.specs.LowerableStatements.{AreLowerableStatements, IsGivenBack, IsLowerableElse, IsLowerableStatement}
use Rattle.code_lengths.specs.Naming.{NamesVariables}
use Rattle.code_lengths.specs.NamingStatements.{ElseNamesVariables, StandFrom, StatementNamesVariables, StatementsNameVariables, behind}
use Rattle.code_lengths.specs.Ready.{Declares, HasCode, HasDeclared, NumbersVariables}
use Rattle.code_lengths.specs.ShapedStatements.{AreShapedStatements, IsShapedElse, IsShapedPart, IsShapedStatement}
use Rattle.code_lengths.proofs.Agreeing.{expressions, places}
use Rattle.code_lengths.proofs.Declaring.{else_variables, first_part, of_block, of_do, of_everywhere, of_for, of_if, of_where, of_while, of_with, row_variables, second_part}
use Rattle.code_lengths.proofs.Drafting.{as_it_was, entry_grows}
use Rattle.code_lengths.proofs.Homes.{still_declared}
use Rattle.code_lengths.proofs.StatementLengths.{block_rest, condition_code, declared_lead, deeper, kept_and_other, kept_length, loop_ready, looped, narrowed_more, part_code, part_grows, restored_more, statements}
use Rattle.proper_code.specs.Loops.{AllLeaveLoops, ElseLeavesLoops, LeavesLoops}
use Rattle.proper_code.proofs.Stretches.{Ways, always, is_inward}
use Rattle.proper_code.proofs.Writing.{Wrote, nothing_written, one_further, written_on}
use Rattle.proper_code.proofs.Building.{Builds, as_before, fresh_entry}
use Rattle.proper_code.proofs.ExpressionControl.{within}
use Rattle.proper_code.proofs.EffectControl.{test_inward}
use Rattle.proper_code.proofs.Passing.{IsWritten, expression_then, instr_written, jump_ahead, made_so, measured_then, passing, rebased, regrouped_written, stands_last, statement_then}
use Rattle.proper_code.proofs.LoopPieces.{ended_written, jumped_far, jumped_in, loop_written, turn_there, one_instr, one_way, two_ways}
use Rattle.proper_code.proofs.StatementPieces.{declared_written, part_inward, restored_written, returned_inward}

-- where a loop around goes on and ends, and that this lies behind some place
abbrev Exits : (ℕ → Type 0) → Bool → Frame → Type 0
Exits P in_a_loop f = in_a_loop ≡ true → P f.next × P f.after

abbrev EndsBefore : Bool → Frame → ℕ → Type 0
EndsBefore in_a_loop f end = in_a_loop ≡ true → (end ≤ f.next) × (end ≤ f.after)

sooner : (in_a_loop : Bool) (f : Frame) (a b : ℕ) → a ≤ b → EndsBefore in_a_loop f b → EndsBefore in_a_loop f a
sooner in_a_loop f a b h room looped = let r = room looped in let x = r.0 in let y = r.1 in (omega (arith, h, x), omega (arith, h, y))

wider : (P Q : ℕ → Type 0) (in_a_loop : Bool) (f : Frame) → Exits P in_a_loop f → Exits (λ target. P target ⊎ Q target) in_a_loop f
wider P Q in_a_loop f exits looped = let r = exits looped in (inl r.0, inl r.1)

-- a jump out of the contexts that are saved in a loop
left_written : (t : Typed) (is_main : Bool) (P back : ℕ → Type 0) (contexts : List Field) (newest target : ℕ) (d : Draft) → newest ≤ length contexts → here d + (newest + 1) ≤ target → P target →
    Wrote (passing t is_main P back) d (with_instr (I.FrontJump target) (L.restored contexts newest d))
unfolding with_instr step
left_written t is_main P back contexts newest target d many far p =
    let at = places d (L.restored contexts newest d) (0 + newest) (restored_more contexts newest 0 d d many (as_it_was d)) in
    jump_ahead t is_main P back (Plain (I.FrontJump target)) target d (L.restored contexts newest d) (always target) (omega (arith, at, far)) p (restored_written _ contexts newest d d (nothing_written _ d d refl))

narrowed_written : (w : Ways) (second : Held-TStmt-If-2) (shape : ℕ) (saved holds : Field) (d : Draft) → Wrote w d (L.narrowed shape saved (L.kept_for second holds) d)
unfolding L.narrowed L.kept_for L.with_kept is_inward step
narrowed_written w None' shape saved holds d = instr_written w _ d _ refl (instr_written w _ d d refl (nothing_written w d d refl))
narrowed_written w (Some' p s) shape saved holds d = instr_written w _ d _ refl (instr_written w _ d _ refl (instr_written w _ d d refl (nothing_written w d d refl)))

-- what is given back has code
pub given_code : (t : Typed) (i : Instance) (n : ℕ) (given : Option TExpr) → IsShapedPart given → IfSome given (IsGivenBack t i.result) → IfSome given (NamesVariables t i n) → IfSome given (HasCode t i n)
unfolding IsShapedPart
given_code t i n None h w v = tt
given_code t i n (Some x) h w v = record { shaped = h; lowerable = w.1; names = v }

module _ (t : Typed) (i : Instance) (l : Layout) (numbers : NumbersVariables i l) where
  lead : (s : TStmt) (f : Frame) (contexts : List Field) (n : ℕ) (d : Draft) → IsShapedStatement s → IsLowerableStatement t i.result s → StatementNamesVariables t i n s → StandFrom (variables_of i.body) n (variables_of s) →
      f.outcome ≡ outcome_of i.result → StandsAmong f contexts → HasDeclared t i l n d → Leads d (statement_length_of t l (has_result f) f.saved s) (Declares t i l (behind n s)) (statement_of t l s f contexts n d)
  lead s f contexts n d h w v z o k y = statements t i l s f contexts n d numbers o k (record { shaped = h; lowerable = w; names = v; stands = z }) y

  after_one : (n : ℕ) (instr : Instr) (d : Draft) → HasDeclared t i l n d → HasDeclared t i l n (with_instr instr d)
  after_one n instr d y = still_declared t i l n d _ 1 (one_instr instr d) y

  -- code that declares nothing, and then the rest, from there
  declaring_then : {A B : Type 0} (n : ℕ) (is_main : Bool) (P back : ℕ → Type 0) (long : ℕ) (d : Draft) (made : Made A) (next : A → Draft → Made B) (y : HasDeclared t i l n d) → Grows d long Anything made → Builds (within t i l n) d made →
      ((x : A) (e : Draft) → HasDeclared t i l n e → here e ≡ here d + long → IsWritten (passing t is_main P back) e (next x e)) → IsWritten (passing t is_main P back) d (then_make made next)
  declaring_then n is_main P back long d made next y g x f =
      measured_then t i l n long is_main P back (passing t is_main P back) Anything d d d made next y.ready g x (nothing_written _ d d refl) (λ a e longer at wrote. rebased _ d e _ wrote (f a e (still_declared t i l n d e long longer y) at))

  entry_then : {B : Type 0} (n shape : ℕ) (is_main : Bool) (P back : ℕ → Type 0) (d : Draft) (next : Field → Draft → Made B) → HasDeclared t i l n d →
      ((f : Field) (e : Draft) → HasDeclared t i l n e → here e ≡ here d + 0 → IsWritten (passing t is_main P back) e (next f e)) → IsWritten (passing t is_main P back) d (then_make (an_entry shape 1 W.Own d) next)
  entry_then n shape is_main P back d next y f = declaring_then n is_main P back 0 d _ next y (entry_grows _ shape 1 W.Own d) (fresh_entry shape 1 W.Own d d (as_before d)) f

  mutual
    unfolding statement_of statements_of else_of otherwise_of L.past L.widened L.turned part_of then_make statement_length_of statements_length_of else_length_of part_length_of condition_length_of IsShapedStatement AreShapedStatements IsShapedElse IsShapedPart IsLowerableStatement AreLowerableStatements IsLowerableElse StatementNamesVariables StatementsNameVariables ElseNamesVariables row_variables else_variables closing has_result in_loop in_context LeavesLoops AllLeaveLoops ElseLeavesLoops with_instr step is_inward

    pub statement_written : (s : TStmt) (f : Frame) (contexts : List Field) (n : ℕ) (in_a_loop : Bool) (P back : ℕ → Type 0) (d : Draft) → IsShapedStatement s → IsLowerableStatement t i.result s → StatementNamesVariables t i n s → StandFrom (variables_of i.body) n (variables_of s) →
        f.outcome ≡ outcome_of i.result → StandsAmong f contexts → HasDeclared t i l n d → LeavesLoops in_a_loop s → Exits P in_a_loop f → EndsBefore in_a_loop f (here d + statement_length_of t l (has_result f) f.saved s) →
        IsWritten (passing t f.is_main P back) d (statement_of t l s f contexts n d)
    statement_written (S.Block' locals p rows) f contexts n g P back d h w v z o k y leaves exits room =
        let z' = subst (StandFrom (variables_of i.body) n) (of_block locals p rows) z in
        statement_then t i l (n + length locals.items) (locals_length_of t l false locals.items) _ (passing t f.is_main P back) d d d _ _ (declared_lead t i l numbers (expressions t i l) false locals.items n d h.0 w.0 v.0 (first_part _ _ z') y)
        (declared_written t i l numbers f.is_main P back false locals.items n d h.0 w.0 v.0 (first_part _ _ z') y)
        (λ e known at x. rebased _ d e _ x (statements_written rows f contexts (n + length locals.items) g P back e h.1 w.1 v.1 (block_rest _ n locals.items _ z') o k known leaves exits (sooner g f _ _ (omega (arith, at)) room)))
    statement_written (S.Expression e) f contexts n g P back d h w v z o k y leaves exits room =
        expression_then t i l n f.is_main P back (passing t f.is_main P back) d d d _ _ y.ready (part_inward t i l n (Some e) (record { shaped = h; lowerable = w; names = v }) d d (as_before d)) (nothing_written _ d d refl) (λ _ after x. made_so _ n d after x)
    statement_written S.Empty f contexts n g P back d h w v z o k y leaves exits room = made_so _ n d d (nothing_written _ d d refl)
    statement_written (S.If' test p first None') f contexts n g P back d h w v z o k y leaves exits room =
        let z' = subst (StandFrom (variables_of i.body) n) (of_if test p first None') z in
        one_way t i l numbers n (behind n first) (statement_length_of t l (has_result f) f.saved first) f.is_main P back d test (λ c. statement_of t l first f contexts n c) (record { shaped = h.0; lowerable = w.0.1; names = v.0 }, w.0.0) y
        (λ c known. lead first f contexts n c h.1 w.1 v.1 (first_part _ _ z') o k known)
        (λ c known at Q turns. statement_written first f contexts n g _ _ c h.1 w.1 v.1 (first_part _ _ z') o k known leaves.0 (wider P Q g f exits) (sooner g f _ _ (omega (arith, at)) room))
    statement_written (S.If' test p first (Some' q second)) f contexts n g P back d h w v z o k y leaves exits room =
        let z' = subst (StandFrom (variables_of i.body) n) (of_if test p first (Some' q second)) z in
        two_ways t i l numbers n (behind n first) (behind (behind n first) second) (statement_length_of t l (has_result f) f.saved first) (statement_length_of t l (has_result f) f.saved second) f.is_main P back d test
        (λ c. statement_of t l first f contexts n c) (λ c. statement_of t l second f contexts (behind n first) c) (record { shaped = h.0; lowerable = w.0.1; names = v.0 }, w.0.0) y
        (λ c known. lead first f contexts n c h.1 w.1 v.1 (first_part _ _ z') o k known)
        (λ c known at Q turns. statement_written first f contexts n g _ _ c h.1 w.1 v.1 (first_part _ _ z') o k known leaves.0 (wider P Q g f exits) (sooner g f _ _ (omega (arith, at)) room))
        (λ c known. lead second f contexts (behind n first) c h.2 w.2 v.2 (second_part _ _ z') o k known)
        (λ c known at Q turns. statement_written second f contexts (behind n first) g _ _ c h.2 w.2 v.2 (second_part _ _ z') o k known leaves.1 (wider P Q g f exits) (sooner g f _ _ (omega (arith, at)) room))
        (λ m c. statement_of t l second f contexts m c) (λ c. refl)
    statement_written (S.While' test p body) f contexts n g P back d h w v z o k y leaves exits room =
        let z' = subst (StandFrom (variables_of i.body) n) (of_while test p body) z in
        let next : ℕ = here d + 1 + statement_length_of t l (has_result f) (at_loop f.saved) body + 1 in
        let after : ℕ = next + used_length_of t l 32 true test + 1 in
        let begun : Draft = with_instr I.FrontTurn (with_instr (I.FrontJump next) d) in
        let known : HasDeclared t i l n begun = after_one n I.FrontTurn _ (after_one n (I.FrontJump next) d y) in
        let far = jumped_far next d in
        loop_written t i l numbers n (behind n body) (statement_length_of t l (has_result f) (at_loop f.saved) body) f.is_main P back d begun _ None (Some test) (here d + 1) next next after
        (jumped_in t f.is_main P back next next after (here d + 1) next d (omega arith) (inl refl)) (omega arith) (turn_there next d)
        (lead body (in_loop next after f) contexts n begun h.1 w.1 v.1 z' o (looped f contexts _ _ k) known)
        (statement_written body (in_loop next after f) contexts n true _ _ begun h.1 w.1 v.1 z' o (looped f contexts _ _ k) known leaves (λ _. (inr (inl refl), inr (inr (inr refl)))) (λ _. (omega (arith, far), omega (arith, far))))
        (omega (arith, far)) (omega arith) (omega arith) tt (record { shaped = h.0; lowerable = w.0.1; names = v.0 }, w.0.0) (λ e declared. loop_ready t i l numbers (expressions t i l) n body e declared)
    statement_written (S.Do' p body test) f contexts n g P back d h w v z o k y leaves exits room =
        let z' = subst (StandFrom (variables_of i.body) n) (of_do p body test) z in
        let next : ℕ = here d + statement_length_of t l (has_result f) (at_loop f.saved) body + 1 in
        let after : ℕ = next + used_length_of t l 32 true test + 1 in
        let begun : Draft = with_instr I.FrontTurn d in
        let known : HasDeclared t i l n begun = after_one n I.FrontTurn d y in
        let far = one_further (Plain I.FrontTurn) d in
        loop_written t i l numbers n (behind n body) (statement_length_of t l (has_result f) (at_loop f.saved) body) f.is_main P back d begun _ None (Some test) (here d) next next after
        (instr_written _ I.FrontTurn d d refl (nothing_written _ d d refl)) (omega arith) (stands_last (Plain I.FrontTurn) d)
        (lead body (in_loop next after f) contexts n begun h.0 w.0 v.0 z' o (looped f contexts _ _ k) known)
        (statement_written body (in_loop next after f) contexts n true _ _ begun h.0 w.0 v.0 z' o (looped f contexts _ _ k) known leaves (λ _. (inr (inl refl), inr (inr (inr refl)))) (λ _. (omega (arith, far), omega (arith, far))))
        (omega (arith, far)) (omega arith) (omega arith) tt (record { shaped = h.1; lowerable = w.1.1; names = v.1 }, w.1.0) (λ e declared. loop_ready t i l numbers (expressions t i l) n body e declared)
    statement_written (S.For' first test more p body) f contexts n g P back d h w v z o k y leaves exits room =
        declaring_then n f.is_main P back (part_length_of t l first) d _ _ y (part_grows t i l numbers (expressions t i l) n first d (part_code t i n first h.0 w.0 v.0) y.ready)
        (part_inward t i l n first (part_code t i n first h.0 w.0 v.0) d d (as_before d)) (λ _ b y _.
        let z' = subst (StandFrom (variables_of i.body) n) (of_for first test more p body) z in
        let next : ℕ = here b + 1 + statement_length_of t l (has_result f) (at_loop f.saved) body + 1 in
        let place : ℕ = next + part_length_of t l more in
        let after : ℕ = place + condition_length_of t l test + 1 in
        let begun : Draft = with_instr I.FrontTurn (with_instr (I.FrontJump place) b) in
        let known : HasDeclared t i l n begun = after_one n I.FrontTurn _ (after_one n (I.FrontJump place) b y) in
        let far = jumped_far place b in
        loop_written t i l numbers n (behind n body) (statement_length_of t l (has_result f) (at_loop f.saved) body) f.is_main P back b begun _ more test (here b + 1) next place after
        (jumped_in t f.is_main P back next place after (here b + 1) place b (omega arith) (inr (inl refl))) (omega arith) (turn_there place b)
        (lead body (in_loop next after f) contexts n begun h.3 w.3 v.3 z' o (looped f contexts _ _ k) known)
        (statement_written body (in_loop next after f) contexts n true _ _ begun h.3 w.3 v.3 z' o (looped f contexts _ _ k) known leaves (λ _. (inr (inl refl), inr (inr (inr refl)))) (λ _. (omega (arith, far), omega (arith, far))))
        (omega (arith, far)) refl (omega arith) (part_code t i n more h.2 w.2 v.2) (condition_code t i n test h.1 w.1 v.1) (λ e declared. loop_ready t i l numbers (expressions t i l) n body e declared))
    statement_written S.Break f contexts n g P back d h w v z o k y leaves exits room =
        made_so _ n d _ (left_written t f.is_main P back contexts f.saved.in_loop f.after d k.loop (room leaves).1 (exits leaves).1)
    statement_written S.Continue f contexts n g P back d h w v z o k y leaves exits room =
        made_so _ n d _ (left_written t f.is_main P back contexts f.saved.in_loop f.next d k.loop (room leaves).0 (exits leaves).0)
    statement_written (S.Return e) f contexts n g P back d h w v z o k y leaves exits room =
        expression_then t i l n f.is_main P back (passing t f.is_main P back) d d d _ _ y.ready (returned_inward t i l n e f.outcome (given_code t i n e h w v) d d (as_before d)) (nothing_written _ d d refl)
        (λ _ after x. made_so _ n d _ (ended_written t f.is_main P back d _ (restored_written _ contexts f.saved.in_all d after x)))
    statement_written (S.With' shape p body) f contexts n g P back d h w v z o k y leaves exits room =
        statement_written body f contexts n g P back d h w v (subst (StandFrom (variables_of i.body) n) (of_with shape p body) z) o k y leaves exits room
    statement_written (S.Everywhere' shape p body) f contexts n g P back d h w v z o k y leaves exits room =
        let z' = subst (StandFrom (variables_of i.body) n) (of_everywhere shape p body) z in
        entry_then n shape f.is_main P back d _ y (λ saved b y at.
        let c : Draft = with_instr (I.SetContext shape) (with_instr (I.StoreContext saved) b) in
        let known : HasDeclared t i l n c = after_one n (I.SetContext shape) _ (after_one n (I.StoreContext saved) b y) in
        let one = one_further (Plain (I.StoreContext saved)) b in
        let two = one_further (Plain (I.SetContext shape)) (with_instr (I.StoreContext saved) b) in
        let start = instr_written (passing t f.is_main P back) (I.SetContext shape) b _ refl (instr_written _ (I.StoreContext saved) b b refl (nothing_written _ b b refl)) in
        statement_then t i l (behind n body) (statement_length_of t l (has_result f) (one_more f.saved) body) _ (passing t f.is_main P back) c c b _ _ (lead body (in_context f) (contexts ++ saved ∷ []) n c h w v z' o (deeper f contexts saved k) known)
        (statement_written body (in_context f) (contexts ++ saved ∷ []) n g P back c h w v z' o (deeper f contexts saved k) known leaves exits (sooner g f _ _ (omega (arith, one, two, at)) room))
        (λ last declared is x. made_so _ _ b _ (instr_written _ (I.LoadContext saved) b last refl (written_on _ b c last start x))))
    statement_written (S.Where' shape test p first second) f contexts n g P back d h w v z o k y leaves exits room =
        let z' = subst (StandFrom (variables_of i.body) n) (of_where shape test p first second) z in
        let code : HasCode t i n test = record { shaped = h.0; lowerable = w.1; names = v.0 } in
        let both = kept_and_other t l (has_result f) (one_more f.saved) second in
        entry_then n shape f.is_main P back d _ y (λ saved one y at. entry_then n shape f.is_main P back one _ y (λ holds two y at'.
        declaring_then n f.is_main P back (tested_length t l test) two _ _ y ((expressions t i l).test n test two code w.0 y.ready) (test_inward t i l n test code two two (as_before two)) (λ _ b y tested_at.
        let c : Draft = L.narrowed shape saved (L.kept_for second holds) b in
        let longer = narrowed_more second shape saved holds b in
        let known : HasDeclared t i l n c = still_declared t i l n b c _ longer y in
        let far = places b c ((1 + kept_length second) + 1) longer in
        regrouped_written (passing t f.is_main P back) b (statement_of t l first (in_context f) (contexts ++ saved ∷ []) n c) (λ m behind. Makes m (with_instr (I.LoadContext saved) behind)) (λ m behind. otherwise_of t l second f contexts shape saved holds m behind)
        (statement_then t i l (behind n first) (statement_length_of t l (has_result f) (one_more f.saved) first) _ (passing t f.is_main P back) c c b _ (λ m behind. otherwise_of t l second f contexts shape saved holds m (with_instr (I.LoadContext saved) behind)) (lead first (in_context f) (contexts ++ saved ∷ []) n c h.1 w.2 v.1 (first_part _ _ z') o (deeper f contexts saved k) known)
        (statement_written first (in_context f) (contexts ++ saved ∷ []) n g P back c h.1 w.2 v.1 (first_part _ _ z') o (deeper f contexts saved k) known leaves.0 exits (sooner g f _ _ (omega (arith, far, at, at', tested_at, both)) room))
        (λ last declared is x. let loaded = one_further (Plain (I.LoadContext saved)) last in
        rebased _ b (with_instr (I.LoadContext saved) last) _ (instr_written _ (I.LoadContext saved) b last refl (written_on _ b c last (narrowed_written _ second shape saved holds b) x))
        (otherwise_written second f contexts shape saved holds (behind n first) g P back _ h.2 w.3 v.2 (second_part _ _ z') o k (after_one (behind n first) (I.LoadContext saved) last declared) leaves.1 exits
        (sooner g f _ _ (omega (arith, far, at, at', tested_at, both, is, loaded)) room)))))))

    pub statements_written : {j : _} (row : Row_of-TStmt j) (f : Frame) (contexts : List Field) (n : ℕ) (in_a_loop : Bool) (P back : ℕ → Type 0) (d : Draft) → AreShapedStatements row → AreLowerableStatements t i.result row → StatementsNameVariables t i n row →
        StandFrom (variables_of i.body) n (row_variables row) → f.outcome ≡ outcome_of i.result → StandsAmong f contexts → HasDeclared t i l n d → AllLeaveLoops in_a_loop row → Exits P in_a_loop f →
        EndsBefore in_a_loop f (here d + statements_length_of t l (has_result f) f.saved row) → IsWritten (passing t f.is_main P back) d (statements_of t l row f contexts n d)
    statements_written end_of-TStmt f contexts n g P back d h w v z o k y leaves exits room = made_so _ n d d (nothing_written _ d d refl)
    statements_written (more_of-TStmt s rest) f contexts n g P back d h w v z o k y leaves exits room =
        statement_then t i l (behind n s) (statement_length_of t l (has_result f) f.saved s) _ (passing t f.is_main P back) d d d _ _ (lead s f contexts n d h.0 w.0 v.0 (first_part _ _ z) o k y)
        (statement_written s f contexts n g P back d h.0 w.0 v.0 (first_part _ _ z) o k y leaves.0 exits (sooner g f _ _ (omega arith) room))
        (λ e known at x. rebased _ d e _ x (statements_written rest f contexts (behind n s) g P back e h.1 w.1 v.1 (second_part _ _ z) o k known leaves.1 exits (sooner g f _ _ (omega (arith, at)) room)))

    otherwise_written : (e : Held-TStmt-If-2) (f : Frame) (contexts : List Field) (shape : ℕ) (saved holds : Field) (n : ℕ) (in_a_loop : Bool) (P back : ℕ → Type 0) (d : Draft) → IsShapedElse e → IsLowerableElse t i.result e → ElseNamesVariables t i n e →
        StandFrom (variables_of i.body) n (else_variables e) → f.outcome ≡ outcome_of i.result → StandsAmong f contexts → HasDeclared t i l n d → ElseLeavesLoops in_a_loop e → Exits P in_a_loop f →
        EndsBefore in_a_loop f (here d + else_length_of t l (has_result f) (one_more f.saved) 3 e) → IsWritten (passing t f.is_main P back) d (otherwise_of t l e f contexts shape saved holds n d)
    otherwise_written None' f contexts shape saved holds n g P back d h w v z o k y leaves exits room = made_so _ n d d (nothing_written _ d d refl)
    otherwise_written (Some' p s) f contexts shape saved holds n g P back d h w v z o k y leaves exits room =
        let c : Draft = with_instr (I.LogandcContextWithTest shape) (with_instr (I.LoadTest holds) d) in
        let known : HasDeclared t i l n c = after_one n (I.LogandcContextWithTest shape) _ (after_one n (I.LoadTest holds) d y) in
        let one = one_further (Plain (I.LoadTest holds)) d in
        let two = one_further (Plain (I.LogandcContextWithTest shape)) (with_instr (I.LoadTest holds) d) in
        let start = instr_written (passing t f.is_main P back) (I.LogandcContextWithTest shape) d _ refl (instr_written _ (I.LoadTest holds) d d refl (nothing_written _ d d refl)) in
        statement_then t i l (behind n s) (statement_length_of t l (has_result f) (one_more f.saved) s) _ (passing t f.is_main P back) c c d _ _ (lead s (in_context f) (contexts ++ saved ∷ []) n c h w v z o (deeper f contexts saved k) known)
        (statement_written s (in_context f) (contexts ++ saved ∷ []) n g P back c h w v z o (deeper f contexts saved k) known leaves exits (sooner g f _ _ (omega (arith, one, two)) room))
        (λ last declared is x. made_so _ _ d _ (instr_written _ (I.LoadContext saved) d last refl (written_on _ d c last start x)))
