-- What is of the fragment, whatever variables it may name there, and names open variables alone is of the fragment
-- with any names that open variables are among, where no statement is under a context.
use Rattle.std.proofs.Common.{◌≡◌, ◌⊎◌, ℕ, ◌+◌, Bool, true, false, IfSome, List, [], ◌∷◌, length, Option, Some, None, inl, inr, refl, arith}
use Rattle.std.proofs.lemmas.Bool.Decides.{nat_tests}
use Rattle.cstar_tree.specs.declared.typed.LocalVar.{LocalVar}
use Rattle.cstar_tree.specs.declared.typed.TExpr.{TExpr, Row_of-TExpr, end_of-TExpr, more_of-TExpr}
use Rattle.cstar_tree.specs.declared.typed.TExpr as T
use Rattle.cstar_tree.specs.declared.typed.TStmt.{TStmt, Row_of-TStmt, end_of-TStmt, more_of-TStmt, Held-TStmt-If-2, None', Some'}
use Rattle.cstar_tree.specs.declared.typed.TStmt as S
use Rattle.cstar_tree.specs.declared.typed.Variable.{Variable}
use Rattle.cstar_tree.specs.declared.typed.Variable.TheVariants as V
use mathlib.Core.Former.{Count}
use Rattle.code_follows.specs.Fragment.{AllAmong, AreIn, AreInStatements, AreInitials, IsBody, IsEffect, IsIn, IsInElse, IsInitial, IsInStatement, IsPosition, IsTested, IsVariable, May, OrAmong, NamesAmong, naming, within}
use Rattle.code_follows.proofs.Declaring.{itself_among}
use Rattle.code_lengths.specs.NamingStatements.{behind}
use Rattle.open_names.specs.Opens.{AllNameOpen, ElseNamesOpen, InitialsNameOpen, IsAmong, IsOpen, NamesOpen, Open, StatementNamesOpen, StatementsNameOpen, opened}
use Rattle.source_meaning.specs.State.{is_among}

-- no statement may be under a context
abbrev pub HasNoContexts : May → Type 0
HasNoContexts may = ((shape : ℕ) (e : TExpr) → may.beside.conditions shape e → ⊥) × ((shape : ℕ) → may.beside.widens shape → ⊥)

-- the open variables are among these
abbrev Fits : Open → (Variable → Type 0) → Type 0
Fits blocks names = (x : Variable) → IsOpen blocks x → names x

if_both : {P Q R : TExpr → Type 0} (e : Option TExpr) → ((e : TExpr) → P e → Q e → R e) → IfSome e P → IfSome e Q → IfSome e R
if_both None each h k = tt
if_both (Some e) each h k = each e h k

-- ---- expressions

module _ (may : May) (names : Variable → Type 0) (blocks : Open) (fits : Fits blocks names) where
  variable_open : (e : TExpr) → IsVariable may e → NamesOpen blocks e → IsVariable (naming may names) e
  unfolding IsVariable NamesOpen
  variable_open (T.Variable ty x) h n = (h.0, fits x n)
  variable_open (T.Brackets' ty p inner) h n = (h.0, variable_open inner h.1 n)
  variable_open _ h n = absurd h

  bit_open : (bit : Option Variable) → IfSome bit (IsOpen blocks) → IfSome bit names
  bit_open None n = tt
  bit_open (Some x) n = fits x n

  mutual
    unfolding NamesAmong NamesOpen AllNameOpen

    among_open : (e : TExpr) → NamesOpen blocks e → NamesAmong names e
    among_open (T.Variable ty x) n = fits x n
    among_open (T.Brackets' ty p inner) n = among_open inner n
    among_open (T.Convert' ty p operand) n = among_open operand n
    among_open (T.ParallelCast' ty p operand) n = among_open operand n
    among_open (T.Promote' ty p operand) n = among_open operand n
    among_open (T.Casts' ty elems p operand) n = among_open operand n
    among_open (T.Unary' ty op p operand) n = among_open operand n
    among_open (T.Binary' ty place op p left q right) n = (among_open left n.0, among_open right n.1)
    among_open (T.Choice' ty p test q first r second) n = (among_open test n.0, among_open first n.1, among_open second n.2)
    among_open (T.LogicalOr' ty p left q right) n = (among_open left n.0, among_open right n.1)
    among_open (T.LogicalAnd' ty p left q right) n = (among_open left n.0, among_open right n.1)
    among_open (T.Assign' ty place op p target q value) n = (among_open target n.0, among_open value n.1)
    among_open (T.Step' ty op order p target) n = among_open target n
    among_open (T.Reduce' ty op p operand) n = among_open operand n
    among_open (T.LeftIndex' ty place p indexes x of) n = (fits x n.0, all_among_open indexes n.1)
    among_open (T.Scan' ty p source axis combiner direction mode bit within) n = (bit_open bit n.0, among_open source n.1)
    among_open (T.Enumerate ty axis direction within mode bit) n = bit_open bit n
    among_open _ n = tt

    all_among_open : {k : Count} (row : Row_of-TExpr k) → AllNameOpen blocks row → AllAmong names row
    all_among_open end_of-TExpr n = tt
    all_among_open (more_of-TExpr e rest) n = (among_open e n.0, all_among_open rest n.1)

  mutual
    unfolding IsIn IsPosition AreIn NamesOpen AllNameOpen

    expression_open : (e : TExpr) → IsIn may e → NamesOpen blocks e → IsIn (naming may names) e
    expression_open (T.Number ty value) h n = h
    expression_open (T.PositionsOf ty shape value) h n = h
    expression_open (T.RankOf ty shape value) h n = h
    expression_open (T.DimOf ty shape axis value) h n = h
    expression_open (T.Variable ty x) h n = (h.0, fits x n)
    expression_open (T.GetChar ty) h n = h
    expression_open (T.Brackets' ty p inner) h n = (h.0, expression_open inner h.1 n)
    expression_open (T.Convert' ty p operand) h n = (h.0, expression_open operand h.1 n)
    expression_open (T.Casts' ty elems p operand) h n = (h.0, h.1, expression_open operand h.2 n)
    expression_open (T.Unary' ty op p operand) h n = (h.0, expression_open operand h.1 n, h.2)
    expression_open (T.Binary' ty place op p left q right) h n = (h.0, expression_open left h.1 n.0, expression_open right h.2 n.1, h.3, h.4)
    expression_open (T.LogicalOr' ty p left q right) h n = (h.0, expression_open left h.1 n.0, expression_open right h.2 n.1)
    expression_open (T.LogicalAnd' ty p left q right) h n = (h.0, expression_open left h.1 n.0, expression_open right h.2 n.1)
    expression_open (T.Choice' ty p test q first r second) h n = (h.0, expression_open test h.1 n.0, expression_open first h.2 n.1, expression_open second h.3 n.2, h.4, h.5)
    expression_open (T.Assign' ty place op p target q value) h n = (h.0, h.1, place_open target h.2 n.0, expression_open value h.3 n.1, h.4)
    expression_open (T.Step' ty op order p target) h n = (h.0, h.1, place_open target h.2 n)
    expression_open (T.Call' ty index p arguments) h n = (h.0, h.1, all_open arguments h.2 n)
    expression_open (T.Reduce' ty op p operand) h n = (h.0, h.1, among_open (T.Reduce' ty op p operand) n)
    expression_open (T.LeftIndex' ty place p indexes x of) h n = (h.0, h.1, fits x n.0, all_open indexes h.3 n.1)
    expression_open _ h n = absurd h

    place_open : (target : TExpr) → IsVariable may target ⊎ IsPosition may target → NamesOpen blocks target → IsVariable (naming may names) target ⊎ IsPosition (naming may names) target
    place_open target (inl h) n = inl (variable_open target h n)
    place_open (T.LeftIndex' ty place p indexes x of) (inr h) n = inr (h.0, h.1, fits x n.0, all_open indexes h.3 n.1)
    place_open _ (inr h) n = absurd h

    all_open : {k : Count} (row : Row_of-TExpr k) → AreIn may row → AllNameOpen blocks row → AreIn (naming may names) row
    all_open end_of-TExpr h n = tt
    all_open (more_of-TExpr e rest) h n = (expression_open e h.0 n.0, all_open rest h.1 n.1)

  effect_open : (e : TExpr) → IsEffect may e → NamesOpen blocks e → IsEffect (naming may names) e
  unfolding IsEffect NamesOpen
  effect_open (T.Printf' ty pieces p arguments) h n = (all_open arguments h.0 n, h.1)
  effect_open (T.Call' ty index p arguments) h n = (h.0, all_open arguments h.1 n)
  effect_open (T.Brackets' ty p inner) h n = effect_open inner h n
  effect_open (T.Assign' ty place op p target q value) (inl h) n = inl (expression_open (T.Assign' ty place op p target q value) h n)
  effect_open (T.Assign' ty place op p target q value) (inr h) n = inr (h.0, among_open (T.Assign' ty place op p target q value) n)
  effect_open (T.Step' ty op order p target) (inl h) n = inl (expression_open (T.Step' ty op order p target) h n)
  effect_open (T.Step' ty op order p target) (inr h) n = inr (h.0, among_open (T.Step' ty op order p target) n)
  effect_open e h n = expression_open e h n

  tested_open : (e : Option TExpr) → IsTested may e → IfSome e (NamesOpen blocks) → IsTested (naming may names) e
  unfolding IsTested
  tested_open None h n = tt
  tested_open (Some e) h n = expression_open e h n

  initial_open : (n : ℕ) (local : LocalVar) → names (V.Local n) → (e : TExpr) → IsInitial may n local e → NamesOpen blocks e → IsInitial (naming may names) n local e
  unfolding NamesAmong
  initial_open n local own e (inl h) known = inl (h.0, expression_open e h.1 known, h.2)
  initial_open n local own e (inr (set, (shaped, (place, (p, (q, h)))))) known = inr (set, (shaped, (place, (p, (q, (h.0, (own, among_open e known)))))))

-- ---- blocks

-- where no variable of a block is declared yet, only those around it are open
none_yet : (blocks : Open) (n : ℕ) (x : Variable) → IsOpen (opened blocks n 0) x → IsOpen blocks x
unfolding IsOpen IsAmong
none_yet blocks n (V.Local k) (inl is) = let least = is.0 in let less = is.1 in absurd (omega (arith, least, less))
none_yet blocks n (V.Local k) (inr is) = is
none_yet blocks n (V.File k) is = tt
none_yet blocks n (V.Param k) is = tt

-- where so many variables of a block may be named, and more of them are declared, those may be named too
more_fit : (names : Variable → Type 0) (blocks : Open) (n before more many number : ℕ) → Fits (opened blocks n before) names → many ≡ before + more → number ≡ n + before → Fits (opened blocks n many) (OrAmong names number more)
unfolding IsOpen IsAmong is_among
more_fit names blocks n before more many number fits all is (V.Local k) (inl within_all) = by (is_among number more (V.Local k)) refl
  where
    by : (later : Bool) → is_among number more (V.Local k) ≡ later → OrAmong names number more (V.Local k)
    by true later = inr later
    by false earlier =
        let least = within_all.0 in
        let less = within_all.1 in
        inl (fits (V.Local k) (inl (least, grind (arith, nat_tests, least, less, all, is, earlier))))
more_fit names blocks n before more many number fits all is (V.Local k) (inr around) = inl (fits (V.Local k) (inr around))
more_fit names blocks n before more many number fits all is (V.File k) known = inl (fits (V.File k) tt)
more_fit names blocks n before more many number fits all is (V.Param k) known = inl (fits (V.Param k) tt)

-- the initialisers of a block's variables behind so many of them
initials_open : (may : May) (names : Variable → Type 0) (blocks : Open) (n before number : ℕ) → Fits (opened blocks n before) names → number ≡ n + before → (locals : List LocalVar) → AreInitials may number locals → InitialsNameOpen blocks n before locals →
    AreInitials (naming may names) number locals
unfolding AreInitials InitialsNameOpen
initials_open may names blocks n before number fits is [] h m = tt
initials_open may names blocks n before number fits is (local ∷ locals) h m =
    let now : May = within may number 1 in
    let known : Variable → Type 0 = OrAmong names number 1 in
    let fit = more_fit names blocks n before 1 (before + 1) number fits refl is in (
      if_both local.initial (initial_open now known (opened blocks n (before + 1)) fit number local (inr (itself_among number 0))) h.0 m.0,
      initials_open now known blocks n (before + 1) (number + 1) fit (omega (arith, is)) locals h.1 m.1,
    )

-- ---- statements

mutual
  unfolding IsInStatement AreInStatements IsInElse StatementNamesOpen StatementsNameOpen ElseNamesOpen

  statement_open : (may : May) → HasNoContexts may → (names : Variable → Type 0) (blocks : Open) → Fits blocks names → (n : ℕ) (s : TStmt) → IsInStatement may n s → StatementNamesOpen blocks n s → IsInStatement (naming may names) n s
  statement_open may alone names blocks fits n (S.Block' locals p statements) h m =
      let many : ℕ = length locals.items in
      let none : Fits (opened blocks n 0) names = λ x is. fits x (none_yet blocks n x is) in (
        h.0,
        initials_open may names blocks n 0 n none (omega arith) locals.items h.1 m.0,
        statements_open (within may n many) alone (OrAmong names n many) (opened blocks n many) (more_fit names blocks n 0 many many n none (omega arith) (omega arith)) (n + many) statements h.2 m.1,
      )
  statement_open may alone names blocks fits n (S.Expression e) h m = effect_open may names blocks fits e h m
  statement_open may alone names blocks fits n S.Empty h m = tt
  statement_open may alone names blocks fits n (S.If' test p first second) h m =
      (expression_open may names blocks fits test h.0 m.0, statement_open may alone names blocks fits n first h.1 m.1, else_open may alone names blocks fits (behind n first) second h.2 m.2)
  statement_open may alone names blocks fits n (S.While' test p body) h m = (expression_open may names blocks fits test h.0 m.0, statement_open may alone names blocks fits n body h.1 m.1)
  statement_open may alone names blocks fits n (S.Do' p body test) h m = (statement_open may alone names blocks fits n body h.0 m.0, expression_open may names blocks fits test h.1 m.1)
  statement_open may alone names blocks fits n (S.For' first test step p body) h m =
      let effect = effect_open may names blocks fits in
      (if_both first effect h.0 m.0, tested_open may names blocks fits test h.1 m.1, if_both step effect h.2 m.2, statement_open may alone names blocks fits n body h.3 m.3)
  statement_open may alone names blocks fits n (S.With' shape p body) h m = statement_open may alone names blocks fits n body h m
  statement_open may alone names blocks fits n S.Break h m = tt
  statement_open may alone names blocks fits n S.Continue h m = tt
  statement_open may alone names blocks fits n (S.Return e) h m = if_both e (λ e is known. (expression_open may names blocks fits e is.0 known, is.1)) h m
  statement_open may alone names blocks fits n (S.Everywhere' shape p body) h m = absurd (alone.1 shape h.0)
  statement_open may alone names blocks fits n (S.Where' shape test p first second) h m = absurd (alone.0 shape test h.0)

  statements_open : {k : Count} (may : May) → HasNoContexts may → (names : Variable → Type 0) (blocks : Open) → Fits blocks names → (n : ℕ) (row : Row_of-TStmt k) → AreInStatements may n row → StatementsNameOpen blocks n row → AreInStatements (naming may names) n row
  statements_open may alone names blocks fits n end_of-TStmt h m = tt
  statements_open may alone names blocks fits n (more_of-TStmt s rest) h m = (statement_open may alone names blocks fits n s h.0 m.0, statements_open may alone names blocks fits (behind n s) rest h.1 m.1)

  else_open : (may : May) → HasNoContexts may → (names : Variable → Type 0) (blocks : Open) → Fits blocks names → (n : ℕ) (second : Held-TStmt-If-2) → IsInElse may n second → ElseNamesOpen blocks n second → IsInElse (naming may names) n second
  else_open may alone names blocks fits n None' h m = tt
  else_open may alone names blocks fits n (Some' p s) h m = statement_open may alone names blocks fits n s h m

-- the body of a function, in whose place no block is open
pub body_open : (may : May) → HasNoContexts may → (names : Variable → Type 0) → ((x : Variable) → IsOpen [] x → names x) → (body : TStmt) → IsBody may body → StatementNamesOpen [] 0 body → IsBody (naming may names) body
unfolding IsBody
body_open may alone names fits (S.Block' locals p statements) h m = (statement_open may alone names [] fits 0 (S.Block' locals p statements) h.0 m, h.1)
body_open may alone names fits _ h m = absurd h
