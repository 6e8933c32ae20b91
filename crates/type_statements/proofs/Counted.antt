-- How many variables a statement declares, by its parts.
use Rattle.std.proofs.Common.{◌≡◌, ◌+◌, ℕ, map, Option, Some, None, Box, arith, ap, sym, ◌∙◌}
use Rattle.std.specs.declared.alloc.Global.{Global}
use Rattle.cstar_base.specs.declared.operators.Place.{Place}
use Rattle.cstar_tree.specs.declared.syntax.Block.{Block}
use Rattle.cstar_tree.specs.declared.syntax.Expr.{Expr}
use Rattle.cstar_tree.specs.declared.syntax.ShapeRef.{ShapeRef}
use Rattle.cstar_tree.specs.declared.syntax.Stmt.{Stmt}
use Rattle.cstar_tree.specs.declared.syntax.Stmt as S
use Rattle.cstar_tree.specs.declared.syntax.Stmt.TheFolds.{fold-roll-Stmt, fold_out-Block}
use Rattle.cstar_tree.specs.declared.syntax.Stmt.TheOpen.{Stmt-F}
use Rattle.cstar_tree.specs.declared.syntax.Stmt.TheVariants as text
use Rattle.cstar_tree.specs.SyntaxParts.{block_locals_step, declared_in, locals_in, locals_step}
use Rattle.cstar_tree.specs.TypedParts.{total}

pub in_block : (block : Block) → locals_in (S.Block block) ≡ declared_in block.declarations.items + total (map locals_in block.statements.items)
in_block block = ap locals_in (sym (text.rolls-Block block)) ∙ fold-roll-Stmt ℕ ℕ locals_step block_locals_step (Stmt-F.Block block) ∙ fold_out-Block ℕ ℕ locals_step block_locals_step block

abbrev pub else_locals : Option (Box Stmt Global) → ℕ
else_locals None = 0
else_locals (Some s) = locals_in s.value

pub in_if : (p : Place) (e : Expr) (second : Box Stmt Global) (third : Option (Box Stmt Global)) → locals_in (S.If p e second third) ≡ locals_in second.value + else_locals third
unfolding total
in_if p e second None = ap locals_in (sym (text.rolls-If p e second None)) ∙ fold-roll-Stmt ℕ ℕ locals_step block_locals_step (Stmt-F.If p e second None)
in_if p e second (Some third) = ap locals_in (sym (text.rolls-If p e second (Some third))) ∙ fold-roll-Stmt ℕ ℕ locals_step block_locals_step (Stmt-F.If p e second (Some third)) ∙ omega arith

pub in_where : (p : Place) (e : Expr) (second : Box Stmt Global) (third : Option (Box Stmt Global)) → locals_in (S.Where p e second third) ≡ locals_in second.value + else_locals third
unfolding total
in_where p e second None = ap locals_in (sym (text.rolls-Where p e second None)) ∙ fold-roll-Stmt ℕ ℕ locals_step block_locals_step (Stmt-F.Where p e second None)
in_where p e second (Some third) = ap locals_in (sym (text.rolls-Where p e second (Some third))) ∙ fold-roll-Stmt ℕ ℕ locals_step block_locals_step (Stmt-F.Where p e second (Some third)) ∙ omega arith

pub in_while : (p : Place) (e : Expr) (body : Box Stmt Global) → locals_in (S.While p e body) ≡ locals_in body.value
unfolding total
in_while p e body = ap locals_in (sym (text.rolls-While p e body)) ∙ fold-roll-Stmt ℕ ℕ locals_step block_locals_step (Stmt-F.While p e body) ∙ omega arith

pub in_do : (p : Place) (body : Box Stmt Global) (e : Expr) → locals_in (S.Do p body e) ≡ locals_in body.value
unfolding total
in_do p body e = ap locals_in (sym (text.rolls-Do p body e)) ∙ fold-roll-Stmt ℕ ℕ locals_step block_locals_step (Stmt-F.Do p body e) ∙ omega arith

pub in_for : (p : Place) (first test step : Option Expr) (body : Box Stmt Global) → locals_in (S.For p first test step body) ≡ locals_in body.value
unfolding total
in_for p first test step body = ap locals_in (sym (text.rolls-For p first test step body)) ∙ fold-roll-Stmt ℕ ℕ locals_step block_locals_step (Stmt-F.For p first test step body) ∙ omega arith

pub in_with : (p : Place) (shape : ShapeRef) (body : Box Stmt Global) → locals_in (S.With p shape body) ≡ locals_in body.value
unfolding total
in_with p shape body = ap locals_in (sym (text.rolls-With p shape body)) ∙ fold-roll-Stmt ℕ ℕ locals_step block_locals_step (Stmt-F.With p shape body) ∙ omega arith

pub in_everywhere : (p : Place) (body : Box Stmt Global) → locals_in (S.Everywhere p body) ≡ locals_in body.value
unfolding total
in_everywhere p body = ap locals_in (sym (text.rolls-Everywhere p body)) ∙ fold-roll-Stmt ℕ ℕ locals_step block_locals_step (Stmt-F.Everywhere p body) ∙ omega arith

pub in_expression : (p : Place) (e : Expr) → locals_in (S.Expression p e) ≡ 0
unfolding total
in_expression p e = ap locals_in (sym (text.rolls-Expression p e)) ∙ fold-roll-Stmt ℕ ℕ locals_step block_locals_step (Stmt-F.Expression p e)

pub in_return : (p : Place) (value : Option Expr) → locals_in (S.Return p value) ≡ 0
unfolding total
in_return p value = ap locals_in (sym (text.rolls-Return p value)) ∙ fold-roll-Stmt ℕ ℕ locals_step block_locals_step (Stmt-F.Return p value)

pub in_empty : (p : Place) → locals_in (S.Empty p) ≡ 0
unfolding total
in_empty p = ap locals_in (sym (text.rolls-Empty p)) ∙ fold-roll-Stmt ℕ ℕ locals_step block_locals_step (Stmt-F.Empty p)

pub in_break : (p : Place) → locals_in (S.Break p) ≡ 0
unfolding total
in_break p = ap locals_in (sym (text.rolls-Break p)) ∙ fold-roll-Stmt ℕ ℕ locals_step block_locals_step (Stmt-F.Break p)

pub in_continue : (p : Place) → locals_in (S.Continue p) ≡ 0
unfolding total
in_continue p = ap locals_in (sym (text.rolls-Continue p)) ∙ fold-roll-Stmt ℕ ℕ locals_step block_locals_step (Stmt-F.Continue p)
