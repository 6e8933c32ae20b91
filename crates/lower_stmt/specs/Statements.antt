-- The code of a statement, as what it makes of the draft before it. It answers how many variables
-- of blocks are declared behind it. The contexts that are saved where it stands are in a list, the
-- outermost first.
use Rattle.std.specs.Prelude.{ℕ, ◌+◌, Bool, true, false, if◌then◌else◌, List, [], ◌∷◌, ◌++◌, reverse, take, Option, Some, None}
use Rattle.cstar_tree.specs.declared.typed.LocalVar.{LocalVar}
use Rattle.cstar_tree.specs.declared.typed.TExpr.{TExpr}
use Rattle.cstar_tree.specs.declared.typed.TStmt.{TStmt, out-TStmt, Row_of-TStmt, end_of-TStmt, more_of-TStmt, Held-TStmt-If-2, None', Some'}
use Rattle.cstar_tree.specs.declared.typed.TStmt as S
use Rattle.cstar_tree.specs.declared.typed.TStmt.TheOpen.{TStmt-F}
use Rattle.cstar_tree.specs.declared.typed.Typed.{Typed}
use Rattle.cstar_tree.specs.Typed.{type_of}
use Rattle.paris_code.specs.declared.instr.Instr.TheVariants as I
use Rattle.paris_code.specs.declared.operands.Field.{Field}
use Rattle.lower_base.specs.declared.emit.Out.{Out}
use Rattle.lower_base.specs.declared.emit.Out.TheVariants as O
use Rattle.lower_base.specs.Drafts.{Draft, Made, Makes, then_make, here, with_instr, an_entry, in_register}
use Rattle.paris_code.specs.declared.program.Owner.TheVariants as W
use Rattle.lower_base.specs.Layouts.{Layout, result_register, own_field}
use Rattle.lower_expr.specs.Effects.{effect_of}
use Rattle.lower_expr.specs.Lengths.{used_length_of}
use Rattle.lower_expr.specs.Values.{next_of, tested}
use Rattle.lower_expr.specs.Steps.{put_value}
use Rattle.lower_stmt.specs.declared.statement.Frame.{Frame}
use Rattle.lower_stmt.specs.declared.statement.Outcome.{Outcome}
use Rattle.lower_stmt.specs.declared.statement.Outcome.TheVariants as R
use Rattle.lower_stmt.specs.Frames.{has_result, in_loop, in_context, with_end}
use Rattle.lower_stmt.specs.Lengths.{at_loop, condition_length_of, part_length_of, statement_length_of}
use Rattle.lower_stmt.specs.Variables.{declared}

-- loads contexts, the first of the list first
unfoldable pub loaded : List Field → Draft → Draft
loaded [] d = d
loaded (source ∷ older) d = loaded older (with_instr (I.LoadContext source) d)

-- a jump out of so many of the saved contexts, the newest of which is loaded first
unfoldable pub restored : List Field → ℕ → Draft → Draft
restored contexts newest d = loaded (take newest (reverse contexts)) d

-- an expression whose value is not used, or nothing
unfoldable pub part_of : Typed → Layout → Option TExpr → Draft → Made (Unit {0})
part_of t l None d = Makes tt d
part_of t l (Some e) d = then_make (effect_of t l e d) (λ _ after. Makes tt after)

-- the value of a condition, in a register
unfoldable pub condition_of : Typed → Layout → TExpr → Draft → Made ℕ
condition_of t l e d = then_make (next_of t l 32 true e d) (λ v after. in_register v (λ r. Makes r after))

-- back to the turn of a loop, if its condition holds; one that is left out does
unfoldable pub jump_back_of : Typed → Layout → Option TExpr → ℕ → Draft → Made (Unit {0})
jump_back_of t l None turn d = Makes tt (with_instr (I.FrontJump turn) d)
jump_back_of t l (Some test) turn d = then_make (condition_of t l test d) (λ r after. Makes tt (with_instr (I.FrontJumpNonzero r turn) after))

-- the value that is given back becomes the function's result
unfoldable pub stored_result : Layout → Outcome → Out → Draft → Made (Unit {0})
stored_result l R.Nothing v d = Makes tt d
stored_result l R.Scalar v d = then_make (put_value (O.Scalar (result_register l)) v d) (λ _ after. Makes tt after)
stored_result l R.Parallel v d =
    then_make (own_field l.outcome d) (λ dest between. then_make (put_value (O.Field dest) v between) (λ _ after. Makes tt after))

unfoldable pub given_back : Typed → Layout → TExpr → Outcome → Draft → Made (Unit {0})
given_back t l e outcome d = then_make (next_of t l (type_of e).elem.bits true e d) (λ v after. stored_result l outcome v after)

-- the value of `return`, if it has one
unfoldable pub returned : Typed → Layout → Option TExpr → Outcome → Draft → Made (Unit {0})
returned t l None outcome d = Makes tt d
returned t l (Some e) outcome d = given_back t l e outcome d

-- saves the context of a shape, and makes all its positions active
unfoldable pub widened : ℕ → Field → Draft → Draft
widened set saved d = with_instr (I.SetContext set) (with_instr (I.StoreContext saved) d)

-- the flag that keeps where a condition holds, for what is behind `else`
unfoldable pub kept_for : Held-TStmt-If-2 → Field → Option Field
kept_for None' holds = None
kept_for (Some' p s) holds = Some holds

unfoldable pub with_kept : Option Field → Draft → Draft
with_kept None d = d
with_kept (Some holds) d = with_instr (I.StoreTest holds) d

-- saves the context of a shape, keeps the test flags, and makes inactive where they are 0
unfoldable pub narrowed : ℕ → Field → Option Field → Draft → Draft
narrowed set saved kept d =
    with_instr (I.LogandContextWithTest set) (with_kept kept (with_instr (I.StoreContext saved) d))

-- makes those inactive where the value was not zero
unfoldable pub turned : ℕ → Field → Draft → Draft
turned set holds d = with_instr (I.LogandcContextWithTest set) (with_instr (I.LoadTest holds) d)

-- the saved context is loaded behind what was made
unfoldable pub closing : Field → Made ℕ → Made ℕ
closing saved made = then_make made (λ m behind. Makes m (with_instr (I.LoadContext saved) behind))

-- so far behind a place there is one more instruction, a jump over what is behind `else`
unfoldable pub past : Held-TStmt-If-2 → ℕ → ℕ
past None' place = place
past (Some' p s) place = place + 1

unfoldable mutual
  pub statement_of : Typed → Layout → TStmt → Frame → List Field → ℕ → Draft → Made ℕ
  statement_of t l (S.Block' locals p statements) f contexts n d =
      then_make (declared t l false locals.items n d) (λ m after. statements_of t l statements f contexts m after)
  statement_of t l (S.Expression e) f contexts n d = then_make (part_of t l (Some e) d) (λ _ after. Makes n after)
  statement_of t l S.Empty f contexts n d = Makes n d
  statement_of t l (S.If' test p first second) f contexts n d =
      then_make (condition_of t l test d) (λ r after.
      let end = here after + statement_length_of t l (has_result f) f.saved first + 1 in
      then_make (statement_of t l first f contexts n (with_instr (I.FrontJumpZero r (past second end)) after))
      (λ m behind. else_of t l second f contexts (past second end) m behind))
  statement_of t l (S.While' test p body) f contexts n d =
      let turn = here d + 1 in
      let next = turn + statement_length_of t l (has_result f) (at_loop f.saved) body + 1 in
      let after = next + used_length_of t l 32 true test + 1 in
      then_make
      (statement_of t l body (in_loop next after f) contexts n (with_instr I.FrontTurn (with_instr (I.FrontJump next) d)))
      (λ m behind. then_make (jump_back_of t l (Some test) turn behind) (λ _ end. Makes m end))
  statement_of t l (S.Do' p body test) f contexts n d =
      let turn = here d in
      let next = turn + statement_length_of t l (has_result f) (at_loop f.saved) body + 1 in
      let after = next + used_length_of t l 32 true test + 1 in
      then_make (statement_of t l body (in_loop next after f) contexts n (with_instr I.FrontTurn d))
      (λ m behind. then_make (jump_back_of t l (Some test) turn behind) (λ _ end. Makes m end))
  statement_of t l (S.For' first test step p body) f contexts n d =
      then_make (part_of t l first d) (λ _ begun.
      let turn = here begun + 1 in
      let next = turn + statement_length_of t l (has_result f) (at_loop f.saved) body + 1 in
      let place = next + part_length_of t l step in
      let after = place + condition_length_of t l test + 1 in
      then_make
      (statement_of t l body (in_loop next after f) contexts n (with_instr I.FrontTurn (with_instr (I.FrontJump place) begun)))
      (λ m behind. then_make (part_of t l step behind) (λ _ stepped. then_make (jump_back_of t l test turn stepped) (λ _ end. Makes m end))))
  statement_of t l S.Break f contexts n d = Makes n (with_instr (I.FrontJump f.after) (restored contexts f.saved.in_loop d))
  statement_of t l S.Continue f contexts n d = Makes n (with_instr (I.FrontJump f.next) (restored contexts f.saved.in_loop d))
  statement_of t l (S.Return e) f contexts n d =
      then_make (returned t l e f.outcome d) (λ _ after. Makes n (with_end f.is_main (restored contexts f.saved.in_all after)))
  statement_of t l (S.With' shape p body) f contexts n d = statement_of t l body f contexts n d
  statement_of t l (S.Everywhere' shape p body) f contexts n d =
      then_make (an_entry shape 1 W.Own d) (λ saved begun.
      closing saved (statement_of t l body (in_context f) (contexts ++ saved ∷ []) n (widened shape saved begun)))
  statement_of t l (S.Where' shape test p first second) f contexts n d =
      then_make (an_entry shape 1 W.Own d) (λ saved begun. then_make (an_entry shape 1 W.Own begun) (λ holds ready.
      then_make (tested t l test ready) (λ _ known.
      then_make (closing saved (statement_of t l first (in_context f) (contexts ++ saved ∷ []) n (narrowed shape saved (kept_for second holds) known)))
      (λ m behind. otherwise_of t l second f contexts shape saved holds m behind))))

  -- statements, one behind the other
  pub statements_of : {k : _} → Typed → Layout → Row_of-TStmt k → Frame → List Field → ℕ → Draft → Made ℕ
  statements_of t l end_of-TStmt f contexts n d = Makes n d
  statements_of t l (more_of-TStmt s rest) f contexts n d =
      then_make (statement_of t l s f contexts n d) (λ m after. statements_of t l rest f contexts m after)

  -- the part behind `else` of an `if`, which begins at a place, with the jump over it
  pub else_of : Typed → Layout → Held-TStmt-If-2 → Frame → List Field → ℕ → ℕ → Draft → Made ℕ
  else_of t l None' f contexts place n d = Makes n d
  else_of t l (Some' p s) f contexts place n d =
      statement_of t l s f contexts n (with_instr (I.FrontJump (place + statement_length_of t l (has_result f) f.saved s)) d)

  -- the part behind `else` of a `where`, at the positions where the condition does not hold
  pub otherwise_of : Typed → Layout → Held-TStmt-If-2 → Frame → List Field → ℕ → Field → Field → ℕ → Draft → Made ℕ
  otherwise_of t l None' f contexts shape saved holds n d = Makes n d
  otherwise_of t l (Some' p s) f contexts shape saved holds n d =
      closing saved (statement_of t l s (in_context f) (contexts ++ saved ∷ []) n (turned shape holds d))

-- the turns of a loop that begins here, whose body is followed by its condition, at a place
unfoldable pub turns_of : Typed → Layout → TStmt → TExpr → ℕ → Frame → List Field → ℕ → Draft → Made ℕ
turns_of t l body test next f contexts n d =
    let after = next + used_length_of t l 32 true test + 1 in
    then_make (statement_of t l body (in_loop next after f) contexts n (with_instr I.FrontTurn d))
    (λ m behind. then_make (jump_back_of t l (Some test) (here d) behind) (λ _ end. Makes m end))

-- statements in a list, one behind the other
unfoldable pub listed : Typed → Layout → List TStmt → Frame → List Field → ℕ → Draft → Made ℕ
listed t l [] f contexts n d = Makes n d
listed t l (s ∷ rest) f contexts n d = then_make (statement_of t l s f contexts n d) (λ m after. listed t l rest f contexts m after)

-- the body of an instance; the scalar variables of the outermost block of `main` are zero already
-- the declarations of a block, at the start of `main` or elsewhere, and its statements behind them
unfoldable pub block_of : Typed → Layout → Bool → List LocalVar → List TStmt → Frame → List Field → ℕ → Draft → Made ℕ
block_of t l at_start locals statements f contexts n d =
    then_make (declared t l at_start locals n d) (λ m after. listed t l statements f contexts m after)

unfoldable pub body_of : Typed → Layout → Frame → TStmt → Draft → Made ℕ
body_of t l f (S.Block' locals p statements) d =
    then_make (declared t l f.is_main locals.items 0 d) (λ m after. statements_of t l statements f [] m after)
body_of t l f s d = statement_of t l s f [] 0 d

-- is the statement a `return`, and the last one of a list, behind one that is or is none
unfoldable pub is_return : TStmt → Bool
is_return (S.Return e) = true
is_return _ = false

unfoldable pub returns_last : Bool → List TStmt → Bool
returns_last before [] = before
returns_last before (s ∷ rest) = returns_last (is_return s) rest

-- does a body end with a `return`
unfoldable pub ends_in_return : TStmt → Bool
ends_in_return s = elim (out-TStmt s) [ TStmt-F.Block locals statements ↦ returns_last false statements.items | _ ↦ false ]

-- the end of a body that has none of its own
unfoldable pub ended : Bool → TStmt → Draft → Draft
ended is_main body d = if ends_in_return body then d else with_end is_main d
