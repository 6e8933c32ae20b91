-- What is named where some variables are declared is named where more are.
use Rattle.std.proofs.Common.{ℕ, ◌≤◌, IfSome, Option, Some, None, arith}
use Rattle.cstar_tree.specs.declared.typed.Instance.{Instance}
use Rattle.cstar_tree.specs.declared.typed.TExpr.{TExpr, Row_of-TExpr, end_of-TExpr, more_of-TExpr}
use Rattle.cstar_tree.specs.declared.typed.TExpr as T
use Rattle.cstar_tree.specs.declared.typed.Typed.{Typed}
use Rattle.cstar_tree.specs.declared.typed.Variable.{Variable}
use Rattle.cstar_tree.specs.declared.typed.Variable.TheVariants as V
use Rattle.cstar_tree.specs.Scopes.{VariableType}
use Rattle.code_lengths.specs.Naming.{AllNameVariables, HasBits, HasVariable, IsDeclared, NamesVariables}

module _ (t : Typed) (i : Instance) where
  still_declared : {n m : ℕ} (v : Variable) → n ≤ m → IsDeclared n v → IsDeclared m v
  unfolding IsDeclared
  still_declared (V.Local k) more h = omega (arith, more, h)
  still_declared (V.File k) more h = tt
  still_declared (V.Param k) more h = tt

  pub still_there : {n m : ℕ} {v : Variable} {ty : VariableType} → n ≤ m → HasVariable t i n v ty → HasVariable t i m v ty
  still_there {v = v} more has = record { word = has.word; start = has.start; named = has.named; declared = still_declared v more has.declared; shape = has.shape }

  bits_later : (n m : ℕ) → n ≤ m → (bit : Option Variable) → HasBits t i n bit → HasBits t i m bit
  bits_later n m more None h = tt
  bits_later n m more (Some v) h = (h.0, h.1, still_there more h.2)

  mutual
    unfolding NamesVariables AllNameVariables

    names_later : (n m : ℕ) → n ≤ m → (e : TExpr) → NamesVariables t i n e → NamesVariables t i m e
    names_later n m more (T.Assign' ty place op p target q value) h = (names_later n m more target h.0, names_later n m more value h.1)
    names_later n m more (T.Choice' ty p test q first r second) h = (names_later n m more test h.0, names_later n m more first h.1, names_later n m more second h.2)
    names_later n m more (T.LogicalOr' ty p left q right) h = (names_later n m more left h.0, names_later n m more right h.1)
    names_later n m more (T.LogicalAnd' ty p left q right) h = (names_later n m more left h.0, names_later n m more right h.1)
    names_later n m more (T.Binary' ty place op p left q right) h = (names_later n m more left h.0, names_later n m more right h.1)
    names_later n m more (T.Unary' ty op p operand) h = names_later n m more operand h
    names_later n m more (T.Step' ty op order p target) h = names_later n m more target h
    names_later n m more (T.Reduce' ty op p operand) h = names_later n m more operand h
    names_later n m more (T.Casts' ty elems p operand) h = names_later n m more operand h
    names_later n m more (T.ParallelCast' ty p operand) h = names_later n m more operand h
    names_later n m more (T.Convert' ty p operand) h = names_later n m more operand h
    names_later n m more (T.Promote' ty p operand) h = names_later n m more operand h
    names_later n m more (T.Variable ty x) h = still_there more h
    names_later n m more (T.Element' ty place array p index) h = ((h.0.0, still_there more h.0.1), names_later n m more index h.1)
    names_later n m more (T.Brackets' ty p inner) h = names_later n m more inner h
    names_later n m more (T.Call' ty instance p arguments) h = all_later n m more arguments h
    names_later n m more (T.LeftIndex' ty place p indexes x of) h = (still_there more h.0, all_later n m more indexes h.1, h.2)
    names_later n m more (T.Scan' ty p source axis combiner direction mode bit within) h = (bits_later n m more bit h.0, names_later n m more source h.1)
    names_later n m more (T.Enumerate ty axis direction within mode bit) h = bits_later n m more bit h
    names_later n m more (T.Printf' ty pieces p arguments) h = all_later n m more arguments h
    names_later n m more (T.Number ty value) h = tt
    names_later n m more (T.Dot ty axis) h = tt
    names_later n m more (T.Pcoord ty axis) h = tt
    names_later n m more (T.PositionsOf ty shape value) h = tt
    names_later n m more (T.RankOf ty shape value) h = tt
    names_later n m more (T.DimOf ty shape axis value) h = h
    names_later n m more (T.GetChar ty) h = tt

    all_later : {k : _} (n m : ℕ) → n ≤ m → (row : Row_of-TExpr k) → AllNameVariables t i n row → AllNameVariables t i m row
    all_later n m more end_of-TExpr h = tt
    all_later n m more (more_of-TExpr e rest) h = (names_later n m more e h.0, all_later n m more rest h.1)

  pub initial_later : (n m : ℕ) (initial : Option TExpr) → n ≤ m → IfSome initial (NamesVariables t i n) → IfSome initial (NamesVariables t i m)
  initial_later n m None more h = tt
  initial_later n m (Some e) more h = names_later n m more e h
