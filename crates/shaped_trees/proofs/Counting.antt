-- What the rules of typing give a statement declares as many variables as its text.
use Rattle.std.proofs.Common.{◌≡◌, ℕ, List, [], ◌∷◌, ◌++◌, length, map, suc, Some, None, Vec, arith, length-append, refl, ap, ◌∙◌, sym}
use Rattle.std.proofs.lemmas.List.{length-map}
use Rattle.std.specs.declared.alloc.Global.{Global}
use Rattle.cstar_tree.specs.declared.syntax.Block.{Block}
use Rattle.cstar_tree.specs.declared.syntax.Declaration.{Declaration}
use Rattle.cstar_tree.specs.declared.syntax.Declarator.{Declarator}
use Rattle.cstar_tree.specs.declared.syntax.Stmt.{Stmt}
use Rattle.cstar_tree.specs.declared.syntax.Stmt.TheFolds.{fold-roll-Stmt, fold_out-Block}
use Rattle.cstar_tree.specs.declared.syntax.Stmt.TheOpen.{Stmt-F}
use Rattle.cstar_tree.specs.declared.syntax.Stmt.TheVariants as text
use Rattle.cstar_tree.specs.declared.typed.LocalVar.{LocalVar}
use Rattle.cstar_tree.specs.declared.typed.TStmt.{TStmt}
use Rattle.cstar_tree.specs.declared.typed.TStmt as T
use Rattle.cstar_tree.specs.declared.typed.TStmt.TheFolds.{fold-roll-TStmt}
use Rattle.cstar_tree.specs.declared.typed.TStmt.TheOpen.{TStmt-F}
use Rattle.cstar_tree.specs.declared.typed.TStmt.TheVariants as tree
use Rattle.cstar_tree.specs.declared.typed.ValueType.{ValueType}
use Rattle.cstar_tree.specs.declared.typed.VarInfo.{VarInfo}
use Rattle.cstar_tree.specs.Headers.{Program, Returns}
use Rattle.cstar_tree.specs.Scopes.{Here}
use Rattle.cstar_tree.specs.StatementTypes.{TypesBlock, TypesDeclarations, TypesLocals, TypesStatement, TypesStatements}
use Rattle.cstar_tree.specs.StatementTypes as Y
use Rattle.cstar_tree.specs.SyntaxParts.{block_locals_step, declared_in, locals_in, locals_step}
use Rattle.cstar_tree.specs.TypedParts.{concat, total}
use Rattle.cstar_tree.specs.Variables.{declared_by, variables_of, variables_step}
use Rattle.code_lengths.proofs.Declaring.{else_variables, of_break, of_continue, of_do, of_empty, of_everywhere, of_expression, of_for, of_if, of_return, of_where, of_while, of_with}

-- ---- the variables of a statement, by its parts

pub of_block : (locals : Vec LocalVar Global) (statements : Vec TStmt Global) → variables_of (T.Block locals statements) ≡ map (λ (local : LocalVar). local.info) locals.items ++ concat (map variables_of statements.items)
unfolding variables_step declared_by
of_block locals statements = ap variables_of (sym (tree.rolls-Block locals statements)) ∙ fold-roll-TStmt (List VarInfo) variables_step (TStmt-F.Block locals statements)

-- ---- how many there are

-- by the node of the tree and that of the text
joined : (t : TStmt) (s : Stmt) {own : List VarInfo} {n : ℕ} → variables_of t ≡ own → locals_in s ≡ n → length own ≡ n → length (variables_of t) ≡ locals_in s
joined t s tree_is text_is same = ap length tree_is ∙ same ∙ sym text_is

alone : (own : List VarInfo) (n : ℕ) → length own ≡ n → length own ≡ total (n ∷ [])
unfolding total
alone own n same = omega (arith, same)

one : (own : List VarInfo) (n : ℕ) → length own ≡ n → length (own ++ []) ≡ total (n ∷ [])
unfolding total
one own n same = omega (arith, length-append own [], same)

two : (own other : List VarInfo) (n m : ℕ) → length own ≡ n → length other ≡ m → length (own ++ other) ≡ total (n ∷ m ∷ [])
unfolding total
two own other n m same same_other = omega (arith, length-append own other, same, same_other)

module _ (program : Program) where
  as_many_locals : {here : Here} {ty : ValueType} {ds : List Declarator} {ls : List LocalVar} → TypesLocals program here ty ds ls → length ls ≡ length ds
  as_many_locals Y.no_variable = refl
  as_many_locals (Y.next_variable typed more) = ap suc (as_many_locals more)

  as_many_declared : {here : Here} {ds : List Declaration} {ls : List LocalVar} → TypesDeclarations program here ds ls → length ls ≡ declared_in ds
  unfolding total
  as_many_declared Y.no_declaration = refl
  as_many_declared (Y.next_declaration {ls = ls} {rest = rest} is typed more) =
      let first = as_many_locals typed in
      let others = as_many_declared more in
      length-append ls rest ∙ omega (arith, first, others)

  module _ (returns : Returns) where
    mutual
      unfolding variables_step declared_by concat total else_variables

      pub as_many : {here : Here} {s : Stmt} {t : TStmt} → TypesStatement program returns here s t → length (variables_of t) ≡ locals_in s
      as_many (Y.block_is {block = block} locals statements typed) =
          let parts = as_many_parts typed in
          joined _ _
          (of_block locals statements)
          (ap locals_in (sym (text.rolls-Block block)) ∙ fold-roll-Stmt ℕ ℕ locals_step block_locals_step (Stmt-F.Block block) ∙ fold_out-Block ℕ ℕ locals_step block_locals_step block)
          (length-append (map (λ (local : LocalVar). local.info) locals.items) (concat (map variables_of statements.items))
          ∙ omega (arith, length-map locals.items (λ (local : LocalVar). local.info), parts.0, parts.1))
      as_many (Y.expression {p = p} {e = e} {t = t} typed) = joined _ _
          (of_expression t)
          (ap locals_in (sym (text.rolls-Expression p e)) ∙ fold-roll-Stmt ℕ ℕ locals_step block_locals_step (Stmt-F.Expression p e)) refl
      as_many (Y.empty {p = p}) = joined _ _
          of_empty
          (ap locals_in (sym (text.rolls-Empty p)) ∙ fold-roll-Stmt ℕ ℕ locals_step block_locals_step (Stmt-F.Empty p)) refl
      as_many (Y.if_alone {p = p} {e = e} {t = t} second a test typed) = joined _ _
          (of_if t _ a.value _)
          (ap locals_in (sym (text.rolls-If p e second None)) ∙ fold-roll-Stmt ℕ ℕ locals_step block_locals_step (Stmt-F.If p e second None))
          (one (variables_of a.value) (locals_in second.value) (as_many typed))
      as_many (Y.if_else {p = p} {e = e} {t = t} second third a b test typed other) = joined _ _
          (of_if t _ a.value _)
          (ap locals_in (sym (text.rolls-If p e second (Some third))) ∙ fold-roll-Stmt ℕ ℕ locals_step block_locals_step (Stmt-F.If p e second (Some third)))
          (two (variables_of a.value) (variables_of b.value) (locals_in second.value) (locals_in third.value) (as_many typed) (as_many other))
      as_many (Y.while {p = p} {e = e} {t = t} body b test typed) = joined _ _
          (of_while t _ b.value)
          (ap locals_in (sym (text.rolls-While p e body)) ∙ fold-roll-Stmt ℕ ℕ locals_step block_locals_step (Stmt-F.While p e body))
          (alone (variables_of b.value) (locals_in body.value) (as_many typed))
      as_many (Y.do_while {p = p} {e = e} {t = t} body b typed test) = joined _ _
          (of_do _ b.value t)
          (ap locals_in (sym (text.rolls-Do p body e)) ∙ fold-roll-Stmt ℕ ℕ locals_step block_locals_step (Stmt-F.Do p body e))
          (alone (variables_of b.value) (locals_in body.value) (as_many typed))
      as_many (Y.for {p = p} {first = first} {test = test} {step = step} {f = f} {t = t} {s = s} body b begins tests steps typed) = joined _ _
          (of_for f t s _ b.value)
          (ap locals_in (sym (text.rolls-For p first test step body)) ∙ fold-roll-Stmt ℕ ℕ locals_step block_locals_step (Stmt-F.For p first test step body))
          (alone (variables_of b.value) (locals_in body.value) (as_many typed))
      as_many (Y.break {p = p} loop) = joined _ _
          of_break
          (ap locals_in (sym (text.rolls-Break p)) ∙ fold-roll-Stmt ℕ ℕ locals_step block_locals_step (Stmt-F.Break p)) refl
      as_many (Y.continue {p = p} loop) = joined _ _
          of_continue
          (ap locals_in (sym (text.rolls-Continue p)) ∙ fold-roll-Stmt ℕ ℕ locals_step block_locals_step (Stmt-F.Continue p)) refl
      as_many (Y.return_alone {p = p}) = joined _ _
          (of_return None)
          (ap locals_in (sym (text.rolls-Return p None)) ∙ fold-roll-Stmt ℕ ℕ locals_step block_locals_step (Stmt-F.Return p None)) refl
      as_many (Y.return_value {p = p} {e = e} {f = f} typed is) = joined _ _
          (of_return (Some f))
          (ap locals_in (sym (text.rolls-Return p (Some e))) ∙ fold-roll-Stmt ℕ ℕ locals_step block_locals_step (Stmt-F.Return p (Some e))) refl
      as_many (Y.with {p = p} {written = written} {shape = shape} body b is typed) = joined _ _
          (of_with shape _ b.value)
          (ap locals_in (sym (text.rolls-With p written body)) ∙ fold-roll-Stmt ℕ ℕ locals_step block_locals_step (Stmt-F.With p written body))
          (alone (variables_of b.value) (locals_in body.value) (as_many typed))
      as_many (Y.everywhere {p = p} {shape = shape} body b is typed) = joined _ _
          (of_everywhere shape _ b.value)
          (ap locals_in (sym (text.rolls-Everywhere p body)) ∙ fold-roll-Stmt ℕ ℕ locals_step block_locals_step (Stmt-F.Everywhere p body))
          (alone (variables_of b.value) (locals_in body.value) (as_many typed))
      as_many (Y.where_alone {p = p} {e = e} {t = t} {shape = shape} second a is test parallel typed) = joined _ _
          (of_where shape t _ a.value _)
          (ap locals_in (sym (text.rolls-Where p e second None)) ∙ fold-roll-Stmt ℕ ℕ locals_step block_locals_step (Stmt-F.Where p e second None))
          (one (variables_of a.value) (locals_in second.value) (as_many typed))
      as_many (Y.where_else {p = p} {e = e} {t = t} {shape = shape} second third a b is test parallel typed other) = joined _ _
          (of_where shape t _ a.value _)
          (ap locals_in (sym (text.rolls-Where p e second (Some third))) ∙ fold-roll-Stmt ℕ ℕ locals_step block_locals_step (Stmt-F.Where p e second (Some third)))
          (two (variables_of a.value) (variables_of b.value) (locals_in second.value) (locals_in third.value) (as_many typed) (as_many other))

      as_many_each : {here : Here} {ss : List Stmt} {ts : List TStmt} → TypesStatements program returns here ss ts → length (concat (map variables_of ts)) ≡ total (map locals_in ss)
      as_many_each Y.no_statement = refl
      as_many_each (Y.next_statement {t = t} {ts = ts} typed more) =
          let first = as_many typed in
          let others = as_many_each more in
          length-append (variables_of t) (concat (map variables_of ts)) ∙ omega (arith, first, others)

      as_many_parts : {here : Here} {block : Block} {locals : List LocalVar} {statements : List TStmt} → TypesBlock program returns here block locals statements →
          (length locals ≡ declared_in block.declarations.items) × (length (concat (map variables_of statements)) ≡ total (map locals_in block.statements.items))
      as_many_parts (Y.block block declarations typed) = (as_many_declared declarations, as_many_each typed)
