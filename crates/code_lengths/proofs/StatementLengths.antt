-- The code of every statement is made, and as long as described, and behind it the variables of its
-- blocks are declared.
use Rattle.std.proofs.Common.{◌≡◌, ℕ, suc, zero, ◌+◌, ◌≤◌, Bool, true, false, List, [], ◌∷◌, ◌++◌, length, map, reverse, take, Option, Some, None, IfSome, is_none, refl, sym, ap, ◌∙◌, subst, arith, if◌then◌else◌, length-append, add_comm}
use Rattle.std.specs.List.{All}
use Rattle.std.proofs.lemmas.List.{length-map, length-reverse}
use Rattle.std.proofs.lemmas.List.Elements.{All-head, All-tail}
use Rattle.cstar_tree.specs.declared.typed.Instance.{Instance}
use Rattle.cstar_tree.specs.declared.typed.LocalVar.{LocalVar}
use Rattle.cstar_tree.specs.declared.typed.TExpr.{TExpr}
use Rattle.cstar_tree.specs.declared.typed.TStmt.{TStmt, Row_of-TStmt, end_of-TStmt, more_of-TStmt, Held-TStmt-If-2, None', Some'}
use Rattle.cstar_tree.specs.declared.typed.TStmt as S
use Rattle.cstar_tree.specs.declared.typed.Typed.{Typed}
use Rattle.cstar_tree.specs.declared.typed.VarInfo.{VarInfo}
use Rattle.cstar_tree.specs.declared.typed.Variable.TheVariants as V
use Rattle.cstar_tree.specs.Typed.{type_of}
use Rattle.cstar_tree.specs.Variables.{variables_of}
use Rattle.paris_code.specs.declared.operands.Field.{Field}
use Rattle.lower_base.specs.declared.emit.Out.{Out}
use Rattle.lower_base.specs.declared.emit.Out.TheVariants as O
use Rattle.lower_base.specs.Drafts.{Draft, Made, Makes, first_bits, then_make}
use Rattle.lower_base.specs.Layouts.{Layout, entries_of, field_of, register_of, result_register}
use Rattle.lower_expr.specs.Effects.{put_to, put_length, own_bits, effect_length_of}
use Rattle.lower_expr.specs.Lengths.{tested_length, used_length_of}
use Rattle.lower_expr.specs.Operands.{standing}
use Rattle.lower_expr.specs.Steps.{is_kept}
use Rattle.lower_stmt.specs.declared.length.Saved.{Saved}
use Rattle.lower_stmt.specs.declared.statement.Frame.{Frame}
use Rattle.lower_stmt.specs.declared.statement.Outcome.{Outcome}
use Rattle.lower_stmt.specs.declared.statement.Outcome.TheVariants as R
use Rattle.lower_stmt.specs.Frames.{has_result, in_loop, in_context, with_end}
use Rattle.lower_stmt.specs.Lengths.{one_more, at_loop, part_length_of, condition_length_of, clear_length_of, initial_length_of, locals_length_of, storing_length, statement_length_of, statements_length_of, else_length_of, body_length_of}
use Rattle.lower_stmt.specs.Programs.{outcome_of}
use Rattle.lower_stmt.specs.Statements as L
use Rattle.lower_stmt.specs.Statements.{body_of, statement_of, statements_of, else_of, otherwise_of, part_of, condition_of, jump_back_of, stored_result, given_back, returned, closing}
use Rattle.lower_stmt.specs.Variables.{all_initialised, declared, initialised, variable_of}
use Rattle.code_lengths.specs.Agreement.{ExpressionLengths, StandsAmong, StatementsAreAsLongAsDescribed}
use Rattle.code_lengths.specs.Growth.{Anything, Extended, Grows, Leads, Stands}
use Rattle.code_lengths.specs.Lowerable.{InRegister, IsLowerable, IsValueFor}
use Rattle.code_lengths.specs.LowerableStatements.{AreLowerableStatements, IsLowerableElse, IsGivenBack, IsLowerableLocal, IsLowerableStatement, IsTest}
use Rattle.code_lengths.specs.Naming.{IsDeclared, NamesVariables, variable_named}
use Rattle.code_lengths.proofs.NamedLater.{initial_later}
use Rattle.code_lengths.specs.NamingStatements.{ElseNamesVariables, InitialsNameVariables, StandFrom, StatementNamesVariables, StatementsNameVariables, behind}
use Rattle.code_lengths.specs.Ready.{IsMadeOr, Arrives, Declares, HasCode, HasDeclared, IsReady, NumbersVariables}
use Rattle.code_lengths.specs.ShapedStatements.{IsShapedPart, IsShapedInitial, AreShapedLocals, IsShapedStatement, AreShapedStatements, IsShapedElse}
use Rattle.code_lengths.proofs.Agreeing.{expressions}
use Rattle.code_lengths.proofs.Advancing.{advanced, leads, leads_behind, leads_from, leads_sized, leads_then}
use Rattle.code_lengths.proofs.Declaring.{at_number, else_variables, first_part, info_of, of_block, of_break, of_continue, of_do, of_empty, of_everywhere, of_expression, of_for, of_if, of_return, of_where, of_while, of_with, row_variables, second_part}
use Rattle.code_lengths.proofs.Drafting.{IsAt, as_it_was, resized, and_instr, makes, sized, bind, bind_behind, weaker, in_register_grows, entry_grows, nothing_more}
use Rattle.code_lengths.proofs.Homes.{all_cleared_lead, clears, still_declared}
use Rattle.code_lengths.proofs.Pieces.{put_value_grows}
use Rattle.code_lengths.proofs.Readiness.{arrived, made_field_grows, one_entry, own_field_grows, ready_before, ready_behind}

-- contexts that are loaded
loaded_more : (fields : List Field) (n : ℕ) (d e : Draft) → Extended d n e → Extended d (n + length fields) (L.loaded fields e)
unfolding L.loaded
loaded_more [] n d e x = resized d e n (n + 0) (omega arith) x
loaded_more (f ∷ fields) n d e x = resized d _ _ _ (next n (length fields)) (loaded_more fields (n + 1) d _ (and_instr _ d e n x))
  where
    next : (n k : ℕ) → (n + 1) + k ≡ n + suc k
    next n k = omega arith

take_long : (xs : List Field) (n : ℕ) → n ≤ length xs → length (take n xs) ≡ n
take_long xs zero h = refl
take_long [] (suc n) h = absurd (no n h)
  where
    no : (n : ℕ) → suc n ≤ 0 → ⊥
    no n h = omega (arith, h)
take_long (x ∷ xs) (suc n) h = ap suc (take_long xs n (omega (arith, h)))

pub restored_more : (contexts : List Field) (newest n : ℕ) (d e : Draft) → newest ≤ length contexts → Extended d n e → Extended d (n + newest) (L.restored contexts newest e)
unfolding L.restored
restored_more contexts newest n d e h x =
    resized d _ _ _ (ap (λ (k : ℕ). n + k) (take_long (reverse contexts) newest (subst (λ (k : ℕ). newest ≤ k) (sym (length-reverse contexts)) h))) (loaded_more (take newest (reverse contexts)) n d e x)

and_nothing : (n : ℕ) → n + 0 ≡ n
and_nothing n = omega arith

-- how long what is given back is stored
result_by : (o : Outcome) → ℕ
result_by R.Nothing = 0
result_by R.Scalar = 1
result_by R.Parallel = 1

result_length : (f : Frame) → result_by f.outcome ≡ storing_length (has_result f)
unfolding result_by storing_length has_result
result_length f = by f.outcome
  where
    by : (o : Outcome) → result_by o ≡ (if (elim o as (λ _. Bool) [ R.Nothing ↦ false | R.Scalar ↦ true | R.Parallel ↦ true ]) then 1 else 0)
    by R.Nothing = refl
    by R.Scalar = refl
    by R.Parallel = refl

returned_length : Typed → Layout → Option TExpr → Outcome → ℕ
returned_length t l None o = 0
returned_length t l (Some e) o = used_length_of t l (type_of e).elem.bits true e + result_by o

-- variables of blocks
initials : Typed → Layout → List LocalVar → ℕ
initials t l [] = 0
initials t l (local ∷ locals) = initial_length_of t l local.info local.initial + initials t l locals

locals_sum : (t : Typed) (l : Layout) (at_start : Bool) (locals : List LocalVar) → clears at_start locals + (initials t l locals + 0) ≡ locals_length_of t l at_start locals
unfolding clears initials locals_length_of
locals_sum t l at_start [] = refl
locals_sum t l at_start (local ∷ locals) = swap (clear_length_of at_start local) (clears at_start locals) (initial_length_of t l local.info local.initial) (initials t l locals) ∙ ap (λ (n : ℕ). clear_length_of at_start local + initial_length_of t l local.info local.initial + n) (locals_sum t l at_start locals)
  where
    swap : (a b c d : ℕ) → (a + b) + ((c + d) + 0) ≡ (a + c) + (b + (d + 0))
    swap a b c d = omega arith

-- how many contexts a jump loads is how many are saved
pub deeper : (f : Frame) (contexts : List Field) (saved : Field) → StandsAmong f contexts → StandsAmong (in_context f) (contexts ++ saved ∷ [])
unfolding in_context one_more
deeper f contexts saved h =
    let l : length (contexts ++ saved ∷ []) ≡ length contexts + 1 = length-append contexts (saved ∷ []) in
    let a = h.loop in
    let b = h.all in
    record { loop = omega (arith, l, a); all = omega (arith, l, b) }

pub looped : (f : Frame) (contexts : List Field) (next after : ℕ) → StandsAmong f contexts → StandsAmong (in_loop next after f) contexts
unfolding in_loop at_loop
looped f contexts next after h = record { loop = omega arith; all = h.all }

all_of : (f : Frame) (contexts : List Field) → StandsAmong f contexts → f.saved.in_all ≤ length contexts
all_of f contexts k = let a = k.all in omega (arith, a)

pub end_more : (is_main : Bool) (n : ℕ) (d e : Draft) → Extended d n e → Extended d (n + 1) (with_end is_main e)
unfolding with_end
end_more is_main n d e x = and_instr _ d e n x

assoc3 : (a b c : ℕ) → a + ((1 + b) + c) ≡ ((a + 1) + b) + c
assoc3 a b c = omega arith

while_sum : (a b : ℕ) → (2 + b) + ((a + 1) + 0) ≡ (a + 3) + b
while_sum a b = omega arith

do_sum : (a b : ℕ) → (1 + b) + ((a + 1) + 0) ≡ (a + 2) + b
do_sum a b = omega arith

for_sum : (a b c e : ℕ) → a + ((2 + e) + (c + ((b + 1) + 0))) ≡ (((a + b) + c) + 3) + e
for_sum a b c e = omega arith

add_assoc : (a b c : ℕ) → a + (b + c) ≡ (a + b) + c
add_assoc a b c = omega arith

everywhere_sum : (a : ℕ) → 0 + ((2 + a) + 1) ≡ a + 3
everywhere_sum a = omega arith

where_sum : (a k b c e : ℕ) → k + c ≡ e → 0 + (0 + (a + ((((1 + k) + 1) + b) + 1) + c)) ≡ ((a + 3) + b) + e
where_sum a k b c e h = omega (arith, h)

-- where a condition holds is kept for what is behind `else`, by one instruction
pub kept_length : Held-TStmt-If-2 → ℕ
kept_length None' = 0
kept_length (Some' p s) = 1

pub narrowed_more : (second : Held-TStmt-If-2) (shape : ℕ) (saved holds : Field) (d : Draft) → Extended d ((1 + kept_length second) + 1) (L.narrowed shape saved (L.kept_for second holds) d)
unfolding kept_length L.narrowed L.kept_for L.with_kept
narrowed_more None' shape saved holds d = and_instr _ d _ 1 (and_instr _ d d 0 (as_it_was d))
narrowed_more (Some' p s) shape saved holds d = and_instr _ d _ 2 (and_instr _ d _ 1 (and_instr _ d d 0 (as_it_was d)))

pub kept_and_other : (t : Typed) (l : Layout) (r : Bool) (saved : Saved) (second : Held-TStmt-If-2) → kept_length second + else_length_of t l r saved 3 second ≡ else_length_of t l r saved 4 second
unfolding kept_length else_length_of
kept_and_other t l r saved None' = refl
kept_and_other t l r saved (Some' p s) = one_more_around (statement_length_of t l r saved s)
  where
    one_more_around : (n : ℕ) → 1 + (n + 3) ≡ n + 4
    one_more_around n = omega arith

else_sum : (a : ℕ) → (2 + a) + 1 ≡ a + 3
else_sum a = omega arith

-- the parts of a `for` that are there
pub part_code : (t : Typed) (i : Instance) (n : ℕ) (e : Option TExpr) → IsShapedPart e → IfSome e (IsLowerable t) → IfSome e (NamesVariables t i n) → IfSome e (HasCode t i n)
unfolding IsShapedPart
part_code t i n None h w v = tt
part_code t i n (Some e) h w v = record { shaped = h; lowerable = w; names = v }

-- a condition has code, and its value stands in a register
abbrev pub IsCondition : Typed → Instance → ℕ → TExpr → Type 0
IsCondition t i n e = HasCode t i n e × InRegister t e

pub condition_code : (t : Typed) (i : Instance) (n : ℕ) (e : Option TExpr) → IsShapedPart e → IfSome e (IsTest t) → IfSome e (NamesVariables t i n) → IfSome e (IsCondition t i n)
unfolding IsShapedPart
condition_code t i n None h w v = tt
condition_code t i n (Some e) h w v = (record { shaped = h; lowerable = w.1; names = v }, w.0)

-- what is given back has code, and is a value for the result
abbrev IsResult : Typed → Instance → ℕ → TExpr → Type 0
IsResult t i n e = HasCode t i n e × IfSome i.result (λ (info : VarInfo). IsValueFor t info.shape e)

never : (b : Bool) → false ≡ true → b ≡ true
never b h = cc

-- a parallel variable that is no array has one field
pub one_entry_of : (info : VarInfo) → info.array ≡ None → is_none info.shape ≡ false → entries_of info ≡ 1
unfolding entries_of
one_entry_of info plain parallel =
    ap (λ (o : Option ℕ). elim info.shape as (λ _. ℕ) [ None ↦ 0 | Some s ↦ elim o as (λ _. ℕ) [ None ↦ 1 | Some n ↦ n ] ]) plain ∙ one_entry info.shape parallel

-- how many are declared behind a statement
no_more : (n : ℕ) (s : TStmt) → variables_of s ≡ [] → n ≡ behind n s
no_more n s is = let none = ap length is in omega (arith, none)

same_more : (n : ℕ) (s : TStmt) (own : List VarInfo) → variables_of s ≡ own → n + length own ≡ behind n s
same_more n s own is = ap (λ (k : ℕ). n + k) (sym (ap length is))

both_more : (n : ℕ) (s : TStmt) (first second : List VarInfo) → variables_of s ≡ first ++ second → (n + length first) + length second ≡ behind n s
both_more n s first second is = let all = ap length is ∙ length-append first second in omega (arith, all)

block_more : (n : ℕ) (s : TStmt) (locals : List LocalVar) (rest : List VarInfo) → variables_of s ≡ map info_of locals ++ rest → (n + length locals) + length rest ≡ behind n s
block_more n s locals rest is = ap (λ (k : ℕ). (n + k) + length rest) (sym (length-map locals info_of)) ∙ both_more n s (map info_of locals) rest is

row_more : (n : ℕ) (first second : List VarInfo) → (n + length first) + length second ≡ n + length (first ++ second)
row_more n first second = let all = length-append first second in omega (arith, all)

pub block_rest : (all : List VarInfo) (n : ℕ) (locals : List LocalVar) (rest : List VarInfo) → StandFrom all n (map info_of locals ++ rest) → StandFrom all (n + length locals) rest
block_rest all n locals rest z = subst (λ (k : ℕ). StandFrom all (n + k) rest) (length-map locals info_of) (second_part (map info_of locals) rest z)

module _ (t : Typed) (i : Instance) (l : Layout) (numbers : NumbersVariables i l) (codes : ExpressionLengths ⊥ t i l) where
  -- ---- code that declares nothing

  -- parts
  pub part_grows : (n : ℕ) (e : Option TExpr) (d : Draft) → IfSome e (HasCode t i n) → IsReady t i l n d → Grows d (part_length_of t l e) Anything (part_of t l e d)
  unfolding part_length_of part_of
  part_grows n None d code ready = makes _ Anything tt d d 0 tt (as_it_was d)
  part_grows n (Some e) d code ready =
      sized _ Anything d _ _ _ (and_nothing _) (bind _ Anything Anything d (effect_length_of t l e) 0 _ _ (codes.effect n e d code ready) (λ v after _. makes _ Anything tt after after 0 tt (as_it_was after)))

  pub condition_grows : (n : ℕ) (e : TExpr) (d : Draft) → IsCondition t i n e → IsReady t i l n d → Grows d (used_length_of t l 32 true e) Anything (condition_of t l e d)
  unfolding condition_of
  condition_grows n e d code ready =
      sized _ Anything d _ _ _ (and_nothing _) (bind _ (Arrives t e) Anything d (used_length_of t l 32 true e) 0 _ _ (codes.operand 32 n true e d code.0 ready)
      (λ v after a. in_register_grows _ Anything after 0 v _ (subst (λ (kept : Bool). Stands kept v) code.1.1 (arrived t e v code.1.0 a)) (λ r. makes _ Anything r after after 0 tt (as_it_was after))))

  back_grows : (n : ℕ) (e : Option TExpr) (turn : ℕ) (d : Draft) → IfSome e (IsCondition t i n) → IsReady t i l n d → Grows d (condition_length_of t l e + 1) Anything (jump_back_of t l e turn d)
  unfolding condition_length_of jump_back_of
  back_grows n None turn d code ready = makes _ Anything tt d _ 1 tt (and_instr _ d d 0 (as_it_was d))
  back_grows n (Some e) turn d code ready =
      bind _ Anything Anything d (used_length_of t l 32 true e) 1 _ _ (condition_grows n e d code ready) (λ r after _. makes _ Anything tt after _ 1 tt (and_instr _ after after 0 (as_it_was after)))

  -- what is given back
  stored_by : (shape : Option ℕ) (info : VarInfo) (n : ℕ) (e : TExpr) (v : Out) (d : Draft) → info.shape ≡ shape → i.result ≡ Some info → IsValueFor t info.shape e → Arrives t e v → IsReady t i l n d →
      let o = elim shape as (λ _. Outcome) [ None ↦ R.Scalar | Some s ↦ R.Parallel ] in Grows d (result_by o) Anything (stored_result l o v d)
  unfolding stored_result result_by
  stored_by None info n e v d is result value a ready =
      bind _ (Stands true) Anything d 1 0 _ _
      (put_value_grows _ true true (O.Scalar (result_register l)) v d refl (subst (λ (kept : Bool). Stands kept v) (value.in_register (ap is_none is)) (arrived t e v value.gives a)) (λ _. refl))
      (λ _ after _. makes _ Anything tt after after 0 tt (as_it_was after))
  stored_by (Some s) info n e v d is result value a ready =
      bind _ Anything Anything d 0 1 _ _ (own_field_grows _ l.outcome d (ready.result info result (ap is_none is)))
      (λ dest between _. bind _ (Stands false) Anything between 1 0 _ _ (put_value_grows _ false (is_kept e) (O.Field dest) v between refl (arrived t e v value.gives a) (never (is_kept e)))
      (λ _ after _. makes _ Anything tt after after 0 tt (as_it_was after)))

  result_grows : (result : Option VarInfo) (n : ℕ) (e : TExpr) (v : Out) (d : Draft) → i.result ≡ result → IfSome result (λ (info : VarInfo). IsValueFor t info.shape e) → Arrives t e v → IsReady t i l n d →
      Grows d (result_by (outcome_of result)) Anything (stored_result l (outcome_of result) v d)
  unfolding stored_result result_by outcome_of
  result_grows None n e v d is value a ready = makes _ Anything tt d d 0 tt (as_it_was d)
  result_grows (Some info) n e v d is value a ready = stored_by info.shape info n e v d refl is value a ready

  returned_grows : (n : ℕ) (e : Option TExpr) (d : Draft) → IfSome e (IsResult t i n) → IsReady t i l n d →
      Grows d (returned_length t l e (outcome_of i.result)) Anything (returned t l e (outcome_of i.result) d)
  unfolding returned given_back returned_length
  returned_grows n None d code ready = makes _ Anything tt d d 0 tt (as_it_was d)
  returned_grows n (Some e) d code ready =
      bind_behind _ (Arrives t e) Anything d (used_length_of t l (type_of e).elem.bits true e) _ _ _ (codes.operand (type_of e).elem.bits n true e d code.0 ready)
      (λ v after a x. result_grows i.result n e v after refl code.1 a (ready_behind _ t i l n _ d after x ready))

  -- initialisers
  place_by : (shape : Option ℕ) (bits n : ℕ) (d : Draft) → (is_none shape ≡ false → IsMadeOr ⊥ (field_of t l (V.Local n) 0 d)) → Grows d 0 (IsAt (is_none shape) bits) (elim shape as (λ _. Made Out) [
    | None ↦ Makes (O.Scalar (register_of l (V.Local n))) d
    | Some _ ↦ then_make (field_of t l (V.Local n) 0 d) (λ f after. Makes (O.Field (first_bits bits f)) after)
  ])
  unfolding first_bits
  place_by None bits n d made = makes _ (IsAt true bits) (O.Scalar (register_of l (V.Local n))) d d 0 refl (as_it_was d)
  place_by (Some s) bits n d made =
      bind _ Anything (IsAt false bits) d 0 0 _ _ (made_field_grows _ t l (V.Local n) 0 d (made refl)) (λ f after _. makes _ (IsAt false bits) (O.Field (first_bits bits f)) after after 0 (refl, refl) (as_it_was after))

  place_grows : (info : VarInfo) (n : ℕ) (d : Draft) → (is_none info.shape ≡ false → IsMadeOr ⊥ (field_of t l (V.Local n) 0 d)) → Grows d 0 (IsAt (is_none info.shape) info.elem.bits) (variable_of t l info n d)
  unfolding variable_of standing
  place_grows info n d made = place_by info.shape info.elem.bits n d made

  -- a value is written to the variable
  initial_put_grows : (n : ℕ) (info : VarInfo) (dest : Out) (e : TExpr) (d : Draft) → IsAt (is_none info.shape) info.elem.bits dest → HasCode t i n e → IsValueFor t info.shape e → IsReady t i l n d →
      Grows d (put_length t l (is_none info.shape) (own_bits (is_none info.shape) info.elem) e) Anything (put_to t l dest e d)
  unfolding own_bits
  initial_put_grows n info (O.Scalar r) e d at code value ready =
      subst (λ (kept : Bool). Grows d (put_length t l kept (if kept then 32 else info.elem.bits) e) Anything (put_to t l (O.Scalar r) e d)) (sym at)
      (weaker _ (Stands true) Anything d _ _ (λ _ _. tt) (codes.put_register r n e d code (value.gives, value.in_register at) ready))
  initial_put_grows n info (O.Field f) e d at code value ready =
      subst (λ (kept : Bool). Grows d (put_length t l kept (if kept then 32 else info.elem.bits) e) Anything (put_to t l (O.Field f) e d)) (sym at.0)
      (sized _ Anything d _ _ _ (ap (λ (bits : ℕ). put_length t l false bits e) at.1)
      (weaker _ (Stands false) Anything d _ _ (λ _ _. tt) (codes.put_field f n e d code value.gives (value.parallel at.0) ready)))
  initial_put_grows n info O.Nothing e d at code value ready = absurd at

  initial_by : (e : Option TExpr) (all : ℕ) (info : VarInfo) (n : ℕ) (d : Draft) → IsShapedInitial info e → IfSome e (λ (e : TExpr). (info.array ≡ None) × IsValueFor t info.shape e × IsLowerable t e) →
      IfSome e (NamesVariables t i all) → (info.array ≡ None → is_none info.shape ≡ false → IsMadeOr ⊥ (field_of t l (V.Local n) 0 d)) → IsReady t i l all d →
      Grows d (initial_length_of t l info e) Anything (elim e as (λ _. Made (Unit {0})) [
        | None ↦ Makes tt d
        | Some e ↦ then_make (variable_of t l info n d) (λ dest between. then_make (put_to t l dest e between) (λ _ after. Makes tt after))
      ])
  unfolding initial_length_of IsShapedInitial
  initial_by None all info n d h w v made ready = makes _ Anything tt d d 0 tt (as_it_was d)
  initial_by (Some e) all info n d h w v made ready =
      sized _ Anything d _ _ _ (nothing_more _ ∙ and_nothing _) (bind_behind _ (IsAt (is_none info.shape) info.elem.bits) Anything d 0 _ _ _ (place_grows info n d (made w.0)) (λ dest between at x.
      bind _ Anything Anything between _ 0 _ _ (initial_put_grows all info dest e between at (record { shaped = h.1; lowerable = w.2; names = v }) w.1 (ready_behind _ t i l all _ d between x ready))
      (λ _ after _. makes _ Anything tt after after 0 tt (as_it_was after))))

  all_initialised_grow : (all : ℕ) (locals : List LocalVar) (n : ℕ) (d : Draft) → AreShapedLocals locals → All (IsLowerableLocal t) locals → InitialsNameVariables t i n locals →
      StandFrom (variables_of i.body) n (map info_of locals) → n + length locals ≤ all → IsReady t i l all d → Grows d (initials t l locals) Anything (all_initialised t l locals n d)
  unfolding all_initialised initialised initials AreShapedLocals InitialsNameVariables variable_named IsDeclared
  all_initialised_grow all [] n d h w v z less ready = makes _ Anything tt d d 0 tt (as_it_was d)
  all_initialised_grow all (local ∷ locals) n d h w v z less ready =
      bind_behind _ Anything Anything d _ _ _ _
      (initial_by local.initial all local.info n d h.0 (All-head (IsLowerableLocal t) local locals w) (initial_later t i (n + 1) all local.initial (omega (arith, less)) v.0)
      (λ plain parallel. let one = one_entry_of local.info plain parallel in
      ready.fields (V.Local n) local.info 0 (at_number local.info (map info_of locals) z) (omega (arith, less)) parallel (omega (arith, one))) ready)
      (λ _ after _ x. all_initialised_grow all locals (n + 1) after h.1 (All-tail (IsLowerableLocal t) local locals w) v.1
      (second_part (local.info ∷ []) (map info_of locals) z) (omega (arith, less)) (ready_behind _ t i l all _ d after x ready))

  -- ---- what stays declared

  -- a piece of code that declares nothing, instructions, and a statement, and then the rest
  code_then : {A B : Type 0} (P : A → Type 0) (Q : B → Draft → Type 0) (n : ℕ) (d : Draft) (a b : ℕ) (made : Made A) (next : A → Draft → Made B) → HasDeclared t i l n d → Grows d a P made →
      ((x : A) (e : Draft) → HasDeclared t i l n e → Leads e b Q (next x e)) → Leads d (a + b) Q (then_make made next)
  code_then P Q n d a b made next known g f =
      leads_then (λ x e. HasDeclared t i l n e) Q d a b made next (leads_from P _ d a made (λ x e p longer. still_declared t i l n d e a longer known) g) f

  instr_then : {B : Type 0} (Q : B → Draft → Type 0) (n : ℕ) (d e : Draft) (a b : ℕ) (made : Made B) → HasDeclared t i l n d → Extended d a e → (HasDeclared t i l n e → Leads e b Q made) → Leads d (a + b) Q made
  instr_then Q n d e a b made known x f = leads_behind Q d e a b made x (f (still_declared t i l n d e a x known))

  declares_then : {B : Type 0} (Q : B → Draft → Type 0) (n : ℕ) (d : Draft) (a b : ℕ) (made : Made ℕ) (next : ℕ → Draft → Made B) → Leads d a (Declares t i l n) made →
      ((e : Draft) → HasDeclared t i l n e → Leads e b Q (next n e)) → Leads d (a + b) Q (then_make made next)
  declares_then Q n d a b made next g f = leads_then (Declares t i l n) Q d a b made next g (λ m e k. subst (λ (m : ℕ). Leads e b Q (next m e)) (sym k.0) (f e k.1))

  ends : (n : ℕ) (d e : Draft) (a : ℕ) → HasDeclared t i l n d → Extended d a e → Leads d a (Declares t i l n) (Makes n e)
  ends n d e a known x = leads (Declares t i l n) n d e a (refl, still_declared t i l n d e a x known) (advanced d e a x)

  recounted : (n m : ℕ) (d : Draft) (a : ℕ) (made : Made ℕ) → n ≡ m → Leads d a (Declares t i l n) made → Leads d a (Declares t i l m) made
  recounted n m d a made is g = subst (λ (k : ℕ). Leads d a (Declares t i l k) made) is g

  pub declared_lead : (at_start : Bool) (locals : List LocalVar) (n : ℕ) (d : Draft) → AreShapedLocals locals → All (IsLowerableLocal t) locals → InitialsNameVariables t i n locals →
      StandFrom (variables_of i.body) n (map info_of locals) → HasDeclared t i l n d → Leads d (locals_length_of t l at_start locals) (Declares t i l (n + length locals)) (declared t l at_start locals n d)
  unfolding declared
  declared_lead at_start locals n d h w v z y =
      leads_sized _ d _ _ _ (locals_sum t l at_start locals) (leads_then (λ x e. HasDeclared t i l (n + length locals) e) _ d _ _ _ _ (all_cleared_lead t i l at_start locals n d z numbers y) (λ _ between y.
      code_then Anything _ (n + length locals) between _ 0 _ _ y (all_initialised_grow (n + length locals) locals n between h w v z (omega arith) y.ready) (λ _ after y. ends (n + length locals) after after 0 y (as_it_was after))))

  return_lead : (e : Option TExpr) (f : Frame) (contexts : List Field) (n : ℕ) (d : Draft) → IfSome e (IsResult t i n) → f.outcome ≡ outcome_of i.result → StandsAmong f contexts → HasDeclared t i l n d →
      Leads d (statement_length_of t l (has_result f) f.saved (S.Return e)) (Declares t i l n) (statement_of t l (S.Return e) f contexts n d)
  unfolding statement_length_of statement_of returned_length
  return_lead None f contexts n d code o k y =
      leads_sized _ d _ _ _ (nothing_more _) (code_then Anything _ n d 0 _ _ _ y (subst (λ (o : Outcome). Grows d 0 Anything (returned t l None o d)) (sym o) (returned_grows n None d code y.ready)) (λ _ after y.
      ends n after _ _ y (end_more f.is_main _ after _ (resized after _ _ _ (nothing_more _) (restored_more contexts f.saved.in_all 0 after after (all_of f contexts k) (as_it_was after))))))
  return_lead (Some e) f contexts n d code o k y =
      leads_sized _ d _ _ _ (ap (λ (m : ℕ). (used_length_of t l (type_of e).elem.bits true e + m) + (f.saved.in_all + 1)) (result_length f) ∙ sum (used_length_of t l (type_of e).elem.bits true e + storing_length (has_result f)) f.saved.in_all)
      (code_then Anything _ n d (used_length_of t l (type_of e).elem.bits true e + result_by f.outcome) _ _ _ y
      (subst (λ (o : Outcome). Grows d (used_length_of t l (type_of e).elem.bits true e + result_by o) Anything (returned t l (Some e) o d)) (sym o) (returned_grows n (Some e) d code y.ready)) (λ _ after y.
      ends n after _ _ y (end_more f.is_main _ after _ (resized after _ _ _ (nothing_more _) (restored_more contexts f.saved.in_all 0 after after (all_of f contexts k) (as_it_was after))))))
    where
      sum : (a b : ℕ) → a + (b + 1) ≡ (a + b) + 1
      sum a b = omega arith

  result_code : (e : Option TExpr) (n : ℕ) → IsShapedPart e → IfSome e (IsGivenBack t i.result) → IfSome e (NamesVariables t i n) → IfSome e (IsResult t i n)
  unfolding IsShapedPart
  result_code None n h w v = tt
  result_code (Some e) n h w v = (record { shaped = h; lowerable = w.1; names = v }, w.0)

  -- what is behind a loop's body is ready for what is before it
  pub loop_ready : (n : ℕ) (s : TStmt) (d : Draft) → HasDeclared t i l (behind n s) d → IsReady t i l n d
  loop_ready n s d y = ready_before _ t i l n (behind n s) d (omega arith) y.ready

  -- ---- statements

  mutual
    unfolding statement_of statements_of else_of otherwise_of statement_length_of statements_length_of else_length_of IsShapedStatement AreShapedStatements IsShapedElse IsShapedPart IsLowerableStatement AreLowerableStatements IsLowerableElse StatementNamesVariables StatementsNameVariables ElseNamesVariables row_variables else_variables closing has_result in_loop in_context L.widened L.turned part_length_of condition_length_of

    statement_lead : (s : TStmt) (f : Frame) (contexts : List Field) (n : ℕ) (d : Draft) → IsShapedStatement s → IsLowerableStatement t i.result s → StatementNamesVariables t i n s → StandFrom (variables_of i.body) n (variables_of s) →
        f.outcome ≡ outcome_of i.result → StandsAmong f contexts → HasDeclared t i l n d → Leads d (statement_length_of t l (has_result f) f.saved s) (Declares t i l (behind n s)) (statement_of t l s f contexts n d)
    statement_lead (S.Block' locals p statements) f contexts n d h w v z o k y =
        let z' = subst (StandFrom (variables_of i.body) n) (of_block locals p statements) z in
        recounted _ _ d _ _ (block_more n (S.Block' locals p statements) locals.items (row_variables statements) (of_block locals p statements))
        (declares_then _ (n + length locals.items) d _ _ _ _ (declared_lead false locals.items n d h.0 w.0 v.0 (first_part _ _ z') y)
        (λ after y. statements_lead statements f contexts (n + length locals.items) after h.1 w.1 v.1 (block_rest _ n locals.items _ z') o k y))
    statement_lead (S.Expression e) f contexts n d h w v z o k y =
        recounted _ _ d _ _ (no_more n (S.Expression e) (of_expression e))
        (leads_sized _ d _ _ _ (and_nothing _) (code_then Anything _ n d _ 0 _ _ y (part_grows n (Some e) d (record { shaped = h; lowerable = w; names = v }) y.ready) (λ _ after y. ends n after after 0 y (as_it_was after))))
    statement_lead S.Empty f contexts n d h w v z o k y = recounted _ _ d _ _ (no_more n S.Empty of_empty) (ends n d d 0 y (as_it_was d))
    statement_lead (S.If' test p first second) f contexts n d h w v z o k y =
        let z' = subst (StandFrom (variables_of i.body) n) (of_if test p first second) z in
        recounted _ _ d _ _ (both_more n (S.If' test p first second) (variables_of first) (else_variables second) (of_if test p first second))
        (leads_sized _ d _ _ _ (assoc3 (used_length_of t l 32 true test) (statement_length_of t l (has_result f) f.saved first) (else_length_of t l (has_result f) f.saved 1 second))
        (code_then Anything _ n d _ _ _ _ y (condition_grows n test d (record { shaped = h.0; lowerable = w.0.1; names = v.0 }, w.0.0) y.ready) (λ r after y.
        declares_then _ (behind n first) after _ _ _ _
        (instr_then _ n after _ 1 _ _ y (and_instr _ after after 0 (as_it_was after)) (λ y. statement_lead first f contexts n _ h.1 w.1 v.1 (first_part _ _ z') o k y))
        (λ last y. else_lead second f contexts _ (behind n first) last h.2 w.2 v.2 (second_part _ _ z') o k y))))
    statement_lead (S.While' test p body) f contexts n d h w v z o k y =
        recounted _ _ d _ _ (same_more n (S.While' test p body) (variables_of body) (of_while test p body))
        (leads_sized _ d _ _ _ (while_sum (used_length_of t l 32 true test) (statement_length_of t l (has_result f) (at_loop f.saved) body))
        (declares_then _ (behind n body) d _ _ _ _
        (instr_then _ n d _ 2 _ _ y (and_instr _ d _ 1 (and_instr _ d d 0 (as_it_was d)))
        (λ y. statement_lead body (in_loop _ _ f) contexts n _ h.1 w.1 v.1 (subst (StandFrom (variables_of i.body) n) (of_while test p body) z) o (looped f contexts _ _ k) y))
        (λ last y. code_then Anything _ (behind n body) last _ 0 _ _ y (back_grows n (Some test) _ last (record { shaped = h.0; lowerable = w.0.1; names = v.0 }, w.0.0) (loop_ready n body last y))
        (λ _ end y. ends (behind n body) end end 0 y (as_it_was end)))))
    statement_lead (S.Do' p body test) f contexts n d h w v z o k y =
        recounted _ _ d _ _ (same_more n (S.Do' p body test) (variables_of body) (of_do p body test))
        (leads_sized _ d _ _ _ (do_sum (used_length_of t l 32 true test) (statement_length_of t l (has_result f) (at_loop f.saved) body))
        (declares_then _ (behind n body) d _ _ _ _
        (instr_then _ n d _ 1 _ _ y (and_instr _ d d 0 (as_it_was d))
        (λ y. statement_lead body (in_loop _ _ f) contexts n _ h.0 w.0 v.0 (subst (StandFrom (variables_of i.body) n) (of_do p body test) z) o (looped f contexts _ _ k) y))
        (λ last y. code_then Anything _ (behind n body) last _ 0 _ _ y (back_grows n (Some test) _ last (record { shaped = h.1; lowerable = w.1.1; names = v.1 }, w.1.0) (loop_ready n body last y))
        (λ _ end y. ends (behind n body) end end 0 y (as_it_was end)))))
    statement_lead (S.For' first test step p body) f contexts n d h w v z o k y =
        recounted _ _ d _ _ (same_more n (S.For' first test step p body) (variables_of body) (of_for first test step p body))
        (leads_sized _ d _ _ _ (for_sum (part_length_of t l first) (condition_length_of t l test) (part_length_of t l step) (statement_length_of t l (has_result f) (at_loop f.saved) body))
        (code_then Anything _ n d _ _ _ _ y (part_grows n first d (part_code t i n first h.0 w.0 v.0) y.ready) (λ _ begun y.
        declares_then _ (behind n body) begun _ _ _ _
        (instr_then _ n begun _ 2 _ _ y (and_instr _ begun _ 1 (and_instr _ begun begun 0 (as_it_was begun)))
        (λ y. statement_lead body (in_loop _ _ f) contexts n _ h.3 w.3 v.3 (subst (StandFrom (variables_of i.body) n) (of_for first test step p body) z) o (looped f contexts _ _ k) y))
        (λ last y. code_then Anything _ (behind n body) last _ _ _ _ y (part_grows n step last (part_code t i n step h.2 w.2 v.2) (loop_ready n body last y))
        (λ _ stepped y. code_then Anything _ (behind n body) stepped _ 0 _ _ y (back_grows n test _ stepped (condition_code t i n test h.1 w.1 v.1) (loop_ready n body stepped y))
        (λ _ end y. ends (behind n body) end end 0 y (as_it_was end)))))))
    statement_lead S.Break f contexts n d h w v z o k y =
        recounted _ _ d _ _ (no_more n S.Break of_break) (ends n d _ _ y (and_instr _ d _ _ (resized d _ _ _ (nothing_more _) (restored_more contexts f.saved.in_loop 0 d d k.loop (as_it_was d)))))
    statement_lead S.Continue f contexts n d h w v z o k y =
        recounted _ _ d _ _ (no_more n S.Continue of_continue) (ends n d _ _ y (and_instr _ d _ _ (resized d _ _ _ (nothing_more _) (restored_more contexts f.saved.in_loop 0 d d k.loop (as_it_was d)))))
    statement_lead (S.Return e) f contexts n d h w v z o k y = recounted _ _ d _ _ (no_more n (S.Return e) (of_return e)) (return_lead e f contexts n d (result_code e n h w v) o k y)
    statement_lead (S.With' shape p body) f contexts n d h w v z o k y =
        recounted _ _ d _ _ (same_more n (S.With' shape p body) (variables_of body) (of_with shape p body))
        (statement_lead body f contexts n d h w v (subst (StandFrom (variables_of i.body) n) (of_with shape p body) z) o k y)
    statement_lead (S.Everywhere' shape p body) f contexts n d h w v z o k y =
        recounted _ _ d _ _ (same_more n (S.Everywhere' shape p body) (variables_of body) (of_everywhere shape p body))
        (leads_sized _ d _ _ _ (everywhere_sum (statement_length_of t l (has_result f) (one_more f.saved) body)) (code_then Anything _ n d 0 _ _ _ y (entry_grows _ shape 1 _ d) (λ saved begun y.
        declares_then _ (behind n body) begun _ 1 _ _
        (instr_then _ n begun _ 2 _ _ y (and_instr _ begun _ 1 (and_instr _ begun begun 0 (as_it_was begun)))
        (λ y. statement_lead body (in_context f) (contexts ++ saved ∷ []) n _ h w v (subst (StandFrom (variables_of i.body) n) (of_everywhere shape p body) z) o (deeper f contexts saved k) y))
        (λ last y. ends (behind n body) last _ 1 y (and_instr _ last last 0 (as_it_was last))))))
    statement_lead (S.Where' shape test p first second) f contexts n d h w v z o k y =
        let z' = subst (StandFrom (variables_of i.body) n) (of_where shape test p first second) z in
        recounted _ _ d _ _ (both_more n (S.Where' shape test p first second) (variables_of first) (else_variables second) (of_where shape test p first second))
        (leads_sized _ d _ _ _ (where_sum (tested_length t l test) (kept_length second) (statement_length_of t l (has_result f) (one_more f.saved) first) (else_length_of t l (has_result f) (one_more f.saved) 3 second) (else_length_of t l (has_result f) (one_more f.saved) 4 second) (kept_and_other t l (has_result f) (one_more f.saved) second))
        (code_then Anything _ n d 0 _ _ _ y (entry_grows _ shape 1 _ d) (λ saved begun y. code_then Anything _ n begun 0 _ _ _ y (entry_grows _ shape 1 _ begun) (λ holds ready y.
        leads_sized _ ready _ _ _ (add_assoc (tested_length t l test) _ _) (code_then Anything _ n ready _ _ _ _ y (codes.test n test ready (record { shaped = h.0; lowerable = w.1; names = v.0 }) w.0 y.ready) (λ _ known y.
        declares_then _ (behind n first) known _ _ _ _ (declares_then _ (behind n first) known _ 1 _ _
        (instr_then _ n known _ _ _ _ y (narrowed_more second shape saved holds known)
        (λ y. statement_lead first (in_context f) (contexts ++ saved ∷ []) n _ h.1 w.2 v.1 (first_part _ _ z') o (deeper f contexts saved k) y))
        (λ last y. ends (behind n first) last _ 1 y (and_instr _ last last 0 (as_it_was last))))
        (λ last y. otherwise_lead second f contexts shape saved holds (behind n first) last h.2 w.3 v.2 (second_part _ _ z') o k y)))))))

    statements_lead : {j : _} (row : Row_of-TStmt j) (f : Frame) (contexts : List Field) (n : ℕ) (d : Draft) → AreShapedStatements row → AreLowerableStatements t i.result row → StatementsNameVariables t i n row →
        StandFrom (variables_of i.body) n (row_variables row) → f.outcome ≡ outcome_of i.result → StandsAmong f contexts → HasDeclared t i l n d →
        Leads d (statements_length_of t l (has_result f) f.saved row) (Declares t i l (n + length (row_variables row))) (statements_of t l row f contexts n d)
    statements_lead end_of-TStmt f contexts n d h w v z o k y = recounted _ _ d _ _ (sym (and_nothing n)) (ends n d d 0 y (as_it_was d))
    statements_lead (more_of-TStmt s rest) f contexts n d h w v z o k y =
        recounted _ _ d _ _ (row_more n (variables_of s) (row_variables rest))
        (declares_then _ (behind n s) d _ _ _ _ (statement_lead s f contexts n d h.0 w.0 v.0 (first_part _ _ z) o k y) (λ after y. statements_lead rest f contexts (behind n s) after h.1 w.1 v.1 (second_part _ _ z) o k y))

    else_lead : (e : Held-TStmt-If-2) (f : Frame) (contexts : List Field) (place n : ℕ) (d : Draft) → IsShapedElse e → IsLowerableElse t i.result e → ElseNamesVariables t i n e →
        StandFrom (variables_of i.body) n (else_variables e) → f.outcome ≡ outcome_of i.result → StandsAmong f contexts → HasDeclared t i l n d →
        Leads d (else_length_of t l (has_result f) f.saved 1 e) (Declares t i l (n + length (else_variables e))) (else_of t l e f contexts place n d)
    else_lead None' f contexts place n d h w v z o k y = recounted _ _ d _ _ (sym (and_nothing n)) (ends n d d 0 y (as_it_was d))
    else_lead (Some' p s) f contexts place n d h w v z o k y =
        leads_sized _ d _ _ _ (add_comm 1 _) (instr_then _ n d _ 1 _ _ y (and_instr _ d d 0 (as_it_was d)) (λ y. statement_lead s f contexts n _ h w v z o k y))

    otherwise_lead : (e : Held-TStmt-If-2) (f : Frame) (contexts : List Field) (shape : ℕ) (saved holds : Field) (n : ℕ) (d : Draft) → IsShapedElse e → IsLowerableElse t i.result e → ElseNamesVariables t i n e →
        StandFrom (variables_of i.body) n (else_variables e) → f.outcome ≡ outcome_of i.result → StandsAmong f contexts → HasDeclared t i l n d →
        Leads d (else_length_of t l (has_result f) (one_more f.saved) 3 e) (Declares t i l (n + length (else_variables e))) (otherwise_of t l e f contexts shape saved holds n d)
    otherwise_lead None' f contexts shape saved holds n d h w v z o k y = recounted _ _ d _ _ (sym (and_nothing n)) (ends n d d 0 y (as_it_was d))
    otherwise_lead (Some' p s) f contexts shape saved holds n d h w v z o k y =
        leads_sized _ d _ _ _ (else_sum (statement_length_of t l (has_result f) (one_more f.saved) s)) (declares_then _ (behind n s) d _ 1 _ _
        (instr_then _ n d _ 2 _ _ y (and_instr _ d _ 1 (and_instr _ d d 0 (as_it_was d))) (λ y. statement_lead s (in_context f) (contexts ++ saved ∷ []) n _ h w v z o (deeper f contexts saved k) y))
        (λ last y. ends (behind n s) last _ 1 y (and_instr _ last last 0 (as_it_was last))))

  -- the body of an instance
  pub body_lead : (s : TStmt) (f : Frame) (d : Draft) → IsShapedStatement s → IsLowerableStatement t i.result s → StatementNamesVariables t i 0 s → StandFrom (variables_of i.body) 0 (variables_of s) →
      f.outcome ≡ outcome_of i.result → StandsAmong f [] → HasDeclared t i l 0 d → Leads d (body_length_of t l f.is_main (has_result f) f.saved s) (Declares t i l (behind 0 s)) (body_of t l f s d)
  unfolding body_of body_length_of IsShapedStatement IsLowerableStatement StatementNamesVariables
  body_lead (S.Block' locals p statements) f d h w v z o k y =
      let z' = subst (StandFrom (variables_of i.body) 0) (of_block locals p statements) z in
      recounted _ _ d _ _ (block_more 0 (S.Block' locals p statements) locals.items (row_variables statements) (of_block locals p statements))
      (declares_then _ (0 + length locals.items) d _ _ _ _ (declared_lead f.is_main locals.items 0 d h.0 w.0 v.0 (first_part _ _ z') y)
      (λ after y. statements_lead statements f [] (0 + length locals.items) after h.1 w.1 v.1 (block_rest _ 0 locals.items _ z') o k y))
  body_lead s f d h w v z o k y = statement_lead s f [] 0 d h w v z o k y

pub statements : StatementsAreAsLongAsDescribed
statements t i l s f contexts n d numbers outcome among code known =
    statement_lead t i l numbers (expressions t i l) s f contexts n d code.shaped code.lowerable code.names code.stands outcome among known
