-- The unary operators that are done.
use Rattle.std.proofs.Common.{◌≡◌, ℕ, Bool, true, false, refl, ap, ◌∙◌}
use Rattle.std.specs.Prelude.{not, ◌==◌, ◌&&◌, if◌then◌else◌}
use Rattle.cstar_tree.specs.declared.typed.TExpr.{TExpr}
use Rattle.cstar_tree.specs.declared.typed.UnaryOp.{UnaryOp}
use Rattle.cstar_tree.specs.declared.typed.UnaryOp.TheVariants as Un
use Rattle.lower_base.specs.Kinds.{bits_of, kind_of}
use Rattle.lower_base.specs.Operators.{negates}
use Rattle.lower_expr.specs.Kinds.{done_as}
use Rattle.lower_expr.specs.Operands.{is_plus}
use Rattle.lower_expr.specs.Steps.{is_kept}

-- `!` and the complement are both no `+`
no_plus : (b : Bool) → is_plus (if b then Un.Complement else Un.Not) ≡ false
unfolding is_plus
no_plus true = refl
no_plus false = refl

pub is_plus_done : (bits : ℕ) (op : UnaryOp) (operand : TExpr) → is_plus (done_as bits op operand) ≡ is_plus op
unfolding done_as negates is_plus
is_plus_done bits Un.Plus operand = refl
is_plus_done bits Un.Minus operand = refl
is_plus_done bits Un.Complement operand = refl
is_plus_done bits Un.Not operand = no_plus (bits == 1 && (not (is_kept operand) && bits_of (kind_of operand) == 1))

-- an operator on a register is done as itself
alone : (op : UnaryOp) (negation bit short : Bool) → (if negation && (bit && (false && short)) then Un.Complement else op) ≡ op
alone op false bit short = refl
alone op true false short = refl
alone op true true short = refl

pub done_in_register : (bits : ℕ) (op : UnaryOp) (operand : TExpr) → is_kept operand ≡ true → done_as bits op operand ≡ op
unfolding done_as
done_in_register bits op operand kept =
    ap (λ (k : Bool). if negates op && (bits == 1 && (not k && bits_of (kind_of operand) == 1)) then Un.Complement else op) kept
    ∙ alone op (negates op) (bits == 1) (bits_of (kind_of operand) == 1)
