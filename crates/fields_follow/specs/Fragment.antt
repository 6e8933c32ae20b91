-- The programs with parallel variables of which it is said so far that their code means them. Their parallel
-- expressions are pure ones, of variables of the file and of blocks of all types, gets of these from neighbours, round the
-- ends of the grid or not, and, of any shape, by indexes that are such expressions, also with `.`, or promoted scalars,
-- own coordinates, truth values of such expressions, and promoted scalars, which are computed by operators, conversions,
-- casts and `?:`, and change nothing; they fail where a divisor is 0 at an active position, or that of a scalar is, or
-- where an index does not lie within its extent at one, and nowhere else. The condition of `?:` is parallel or a scalar:
-- each of the other operands fails only where it is chosen, as the right one of `&&` and `||` does where the left one does
-- not decide, which may be a scalar. They are assigned to variables of the file and of blocks, and folded into numbers and
-- onto scalar variables, as scans of them and of ones with operators on these are, and they are the conditions of
-- `where`, as those scans and relations of them are. Folds and scans are of the active positions. They are sent, as those scans are, to parallel variables of any
-- shape, by such indexes, also with an operator that folds. Scalars that change variables, by assignments, steps and
-- `getchar`, or in which values are folded, are assigned as parallel expressions are, also with operators. Scalar
-- expressions read single positions of parallel variables, by any scalar indexes, and scalars are assigned to these, also with operators and by steps. The
-- initialiser of a parallel variable of a block is what may be assigned to it. Under `where` and `everywhere` stand the
-- statements of scalar programs with these, also calls, `return` and jumps that lead out of them.
use Rattle.std.specs.Prelude.{ℕ, ◌≡◌, ◌<◌, ◌≤◌, ◌+◌, ◌^◌, ◌⊎◌, ◌==◌, true, false, IfSome, Option, Some, None}
use Rattle.cstar_base.specs.declared.elem.Elem.{Elem}
use Rattle.cstar_base.specs.declared.operators.Combiner.TheVariants as C
use Rattle.cstar_base.specs.declared.operators.Op.{Op}
use Rattle.cstar_base.specs.declared.operators.Op.TheVariants as O
use Rattle.cstar_base.specs.Operators.{divides}
use Rattle.cstar_tree.specs.declared.syntax.AssignOp.{AssignOp}
use Rattle.cstar_tree.specs.declared.syntax.AssignOp.TheVariants as A
use Rattle.cstar_tree.specs.declared.syntax.ReduceOp.{ReduceOp}
use Rattle.cstar_tree.specs.declared.syntax.ReduceOp.TheVariants as R
use Rattle.cstar_tree.specs.declared.typed.TExpr.{TExpr, Row_of-TExpr, end_of-TExpr, items-the_row-TExpr, more_of-TExpr}
use Rattle.cstar_tree.specs.declared.typed.TExpr as T
use Rattle.cstar_tree.specs.declared.typed.Typed.{Typed}
use Rattle.cstar_tree.specs.declared.typed.ValueType.{ValueType}
use Rattle.cstar_tree.specs.declared.typed.VarInfo.{VarInfo}
use Rattle.cstar_tree.specs.declared.typed.Variable.{Variable}
use Rattle.cstar_tree.specs.declared.typed.Variable.TheVariants as V
use Rattle.cstar_tree.specs.Operations.{folds}
use Rattle.cstar_tree.specs.Typed.{type_of}
use Rattle.lower_base.specs.Operators.{assign_op_of, negates, relates}
use Rattle.lower_base.specs.Kinds.{is_bitwise, kind_of}
use Rattle.lower_comm.specs.declared.news.NewsStep.{NewsStep}
use Rattle.lower_comm.specs.News.{all_go_by_news, step_of}
use Rattle.lower_expr.specs.Kinds.{operation_bits, relation_kind}
use Rattle.source_meaning.specs.Constants.{constant_of}
use Rattle.source_meaning.specs.Values.{cast_type}
use Rattle.code_follows.specs.Fragment.{Beside, IsOperand as OperatesOn, IsProgramBeside, IsScalarType, IsWord, IsIn, May}

-- a type of 32 bits of a shape
abbrev pub IsWide : ℕ → ValueType → Type 0
IsWide set ty = (ty.shape ≡ Some set) × (ty.elem.bits ≡ 32)

-- a constant
abbrev pub IsConstant : TExpr → Type 0
IsConstant e = (word : ℕ) × (constant_of e ≡ Some word) × (word < 2 ^ (type_of e).elem.bits)

-- a variable of the file or of a block
unfoldable pub IsOfFileOrBlock : Variable → Type 0
IsOfFileOrBlock (V.File k) = Unit {0}
IsOfFileOrBlock (V.Local k) = Unit {0}
IsOfFileOrBlock _ = ⊥

-- anything but a promoted constant 0
unfoldable pub IsDivisor : TExpr → Type 0
IsDivisor (T.Promote' ty p operand) = constant_of operand ≡ Some 0 → ⊥
IsDivisor (T.Brackets' ty p inner) = IsDivisor inner
IsDivisor _ = Unit {0}

-- The operator is no relation, and divides by no constant 0. Where the divisor is 0 at an active position, the run ends.
abbrev pub IsOperation : Op → TExpr → Type 0
IsOperation op right = (relates op ≡ false) × ((divides op ≡ false) ⊎ IsDivisor right)

-- A scalar that changes nothing: of numbers, variables, operators, conversions and casts of any scalar types, and `?:`.
-- Where it divides by 0 the run ends.
unfoldable pub IsCalm : TExpr → Type 0
IsCalm (T.Number ty value) = IsWord ty × (value < 2 ^ 32)
IsCalm (T.PositionsOf ty shape value) = IsWord ty × (value < 2 ^ 32)
IsCalm (T.RankOf ty shape value) = IsWord ty × (value < 2 ^ 32)
IsCalm (T.DimOf ty shape axis value) = IsWord ty × (value < 2 ^ 32)
IsCalm (T.Variable ty x) = IsScalarType ty
IsCalm (T.Brackets' ty p inner) = (ty ≡ type_of inner) × IsCalm inner
IsCalm (T.Convert' ty p operand) = IsScalarType ty × IsCalm operand
IsCalm (T.Casts' ty elems p operand) = IsScalarType ty × (ty.elem ≡ cast_type elems.items (type_of operand).elem) × IsCalm operand
IsCalm (T.Unary' ty op p operand) = IsWord ty × IsCalm operand × OperatesOn op (type_of operand)
IsCalm (T.Binary' ty place op p left q right) = IsWord ty × IsCalm left × IsCalm right × IsWord (type_of left) × IsWord (type_of right)
IsCalm (T.LogicalOr' ty p left q right) = IsWord ty × IsCalm left × IsCalm right
IsCalm (T.LogicalAnd' ty p left q right) = IsWord ty × IsCalm left × IsCalm right
IsCalm (T.Choice' ty p test q first r second) = IsWord ty × IsCalm test × IsCalm first × IsCalm second × IsWord (type_of first) × IsWord (type_of second)
IsCalm _ = ⊥

-- scalar expressions that call nothing, with no parallel expression among them but such folds
abbrev pub calling_nothing : (TExpr → Type 0) → May
calling_nothing folds = record {
  calls = λ used index given. ⊥;
  returns = λ elem. ⊥;
  names = λ x. Unit {0};
  beside = record { effects = λ e. ⊥; folds = folds; positions = λ x. ⊥; conditions = λ set e. ⊥; widens = λ set. ⊥; variables = λ info. ⊥; locals = λ info. ⊥ };
}

-- with none
abbrev pub alone : May
alone = calling_nothing (λ e. ⊥)

-- a scalar: a constant, or one that is computed
abbrev pub IsEverywhere : TExpr → Type 0
IsEverywhere e = ((type_of e).shape ≡ None) × (IsConstant e ⊎ ((constant_of e ≡ None) × IsCalm e))

-- such a scalar, promoted to a shape
unfoldable pub IsPromoted : ℕ → TExpr → Type 0
IsPromoted set (T.Promote' ty p operand) = (ty.shape ≡ Some set) × (ty.elem ≡ (type_of operand).elem) × IsEverywhere operand
IsPromoted set (T.Brackets' ty p inner) = (ty ≡ type_of inner) × IsPromoted set inner
IsPromoted set _ = ⊥

-- its code leaves the scalar in a register
unfoldable pub IsRegistered : TExpr → Type 0
IsRegistered (T.Promote' ty p operand) = IsCalm operand
IsRegistered (T.Brackets' ty p inner) = IsRegistered inner
IsRegistered _ = ⊥

-- the own coordinate on an axis, maybe in brackets
unfoldable pub IsDot : ℕ → ℕ → TExpr → Type 0
IsDot set axis (T.Brackets' ty p inner) = IsDot set axis inner
IsDot set axis (T.Dot ty own) = (ty.shape ≡ Some set) × (own ≡ axis)
IsDot set axis _ = ⊥

-- an operator on it and a promoted scalar
unfoldable pub IsOffset : ℕ → ℕ → TExpr → Type 0
IsOffset set axis (T.Brackets' ty p inner) = IsOffset set axis inner
IsOffset set axis (T.Binary' ty place op p left q right) = (ty.shape ≡ Some set) × IsDot set axis left × IsPromoted set right
IsOffset set axis _ = ⊥

-- an index of this axis that is a step from the own coordinate, with the types that typing gives
unfoldable pub IsIndex : ℕ → ℕ → TExpr → Type 0
IsIndex set axis (T.Brackets' ty p inner) = (ty ≡ type_of inner) × IsIndex set axis inner
IsIndex set axis (T.Dot ty own) = IsWide set ty × (own ≡ axis)
IsIndex set axis (T.Binary' ty place O.Mod p left q right) = IsWide set ty × ((type_of left).elem.signed ≡ true) × IsOffset set axis left × IsPromoted set right
IsIndex set axis (T.Binary' ty place op p left q right) = IsWide set ty × (ty.elem.signed ≡ true) × IsOffset set axis (T.Binary' ty place op p left q right)
IsIndex set axis _ = ⊥

-- it goes by NEWS: `.`, `. + k` and `. - k`, which may lead out of the grid, and `(. + k) %% dimof(shape, axis)`
abbrev pub IsStepping : ℕ → ℕ → TExpr → Type 0
IsStepping set axis index = IsIndex set axis index × ((step : NewsStep) × (step_of set axis index ≡ Some step))

-- the indexes of a get, from this axis on
unfoldable pub AreSteps : {k : _} → ℕ → ℕ → Row_of-TExpr k → Type 0
AreSteps set axis end_of-TExpr = Unit {0}
AreSteps set axis (more_of-TExpr index rest) = IsStepping set axis index × AreSteps set (axis + 1) rest

-- a value whose narrow type is that of a variable or of a conversion, also of a promoted scalar, one of truth values, or
-- that of two such values, or promoted scalars, that are joined bit by bit or of which one is chosen
unfoldable pub IsNarrowed : TExpr → Type 0
IsNarrowed (T.Variable ty x) = Unit {0}
IsNarrowed (T.LeftIndex' ty place p indexes x of) = Unit {0}
IsNarrowed (T.Brackets' ty p inner) = IsNarrowed inner
IsNarrowed (T.Convert' ty p operand) = (kind_of operand ≡ None) ⊎ IsNarrowed operand
IsNarrowed (T.ParallelCast' ty p operand) = ((kind_of operand ≡ None) ⊎ IsNarrowed operand) ⊎ IsRegistered operand
IsNarrowed (T.Unary' ty op p operand) = negates op ≡ true
IsNarrowed (T.LogicalOr' ty p left q right) = Unit {0}
IsNarrowed (T.LogicalAnd' ty p left q right) = Unit {0}
IsNarrowed (T.Binary' ty place op p left q right) = (relates op ≡ true) ⊎ ((is_bitwise op ≡ true) × (IsNarrowed left ⊎ IsRegistered left) × (IsNarrowed right ⊎ IsRegistered right))
IsNarrowed (T.Choice' ty p test q first r second) = (IsNarrowed first ⊎ IsRegistered first) × (IsNarrowed second ⊎ IsRegistered second)
IsNarrowed _ = ⊥

-- one of which no type of fewer than 32 bits is known, or one of such a type
abbrev pub HasKnownKind : TExpr → Type 0
HasKnownKind e = (kind_of e ≡ None) ⊎ IsNarrowed e

-- a relation in a narrow type with a sign is one of numbers with a sign
abbrev pub ReadsSigns : TExpr → TExpr → Type 0
ReadsSigns left right = elim (relation_kind left right) [ None ↦ Unit {0} | Some kind ↦ kind.signed ≡ true → (type_of left).elem.signed ≡ true ]

-- a relation of two operands, of which one may be a promoted scalar
abbrev pub IsRelation : ℕ → Op → TExpr → TExpr → Type 0
IsRelation set op left right = (relates op ≡ true) × (HasKnownKind left ⊎ IsPromoted set left) × (HasKnownKind right ⊎ IsPromoted set right) × ReadsSigns left right

-- A parallel expression that is not promoted; of an operator's two operands one may be. Operators work at 32 bits, to
-- which narrower values are converted. Values and promoted scalars are cast to any type of the shape. Truth values are
-- relations, `!`, conversions to `bool`, and two values that are joined by `&&` or `||`, of which the right one is
-- computed where the left one does not decide, and may be a promoted scalar; the left one may be a scalar that changes
-- nothing.
-- A get is from neighbours, or its indexes, into any shape, are such expressions and promoted scalars, which fail where
-- they do not lie within the extents at an active position. `?:` chooses one of two values at each position, or, by
-- a scalar that changes nothing, for all of them; they may be promoted, and each is computed where it is chosen.
unfoldable mutual
  pub IsPure : ℕ → TExpr → Type 0
  IsPure set (T.Variable ty (V.File k)) = ty.shape ≡ Some set
  IsPure set (T.Variable ty (V.Local k)) = ty.shape ≡ Some set
  IsPure set (T.Brackets' ty p inner) = (ty ≡ type_of inner) × IsPure set inner
  IsPure set (T.Unary' ty op p operand) = IsWide set ty × (((negates op ≡ false) × IsWide set (type_of operand)) ⊎ ((negates op ≡ true) × HasKnownKind operand)) × IsPure set operand
  IsPure set (T.LogicalOr' ty p left q right) = IsWide set ty × ((IsPure set left × HasKnownKind left) ⊎ IsCalm left) × ((IsPure set right × HasKnownKind right) ⊎ (IsPromoted set right × IsRegistered right))
  IsPure set (T.LogicalAnd' ty p left q right) = IsWide set ty × ((IsPure set left × HasKnownKind left) ⊎ IsCalm left) × ((IsPure set right × HasKnownKind right) ⊎ (IsPromoted set right × IsRegistered right))
  IsPure set (T.Binary' ty place op p left q right) =
      IsWide set ty × (IsOperation op right ⊎ IsRelation set op left right) × ((IsPure set left × (IsPure set right ⊎ IsPromoted set right)) ⊎ (IsPromoted set left × IsPure set right)) × IsWide set (type_of left) × IsWide set (type_of right)
  IsPure set (T.Choice' ty p test q first r second) = IsWide set ty × ((IsPure set test × HasKnownKind test) ⊎ IsCalm test) × (IsPure set first ⊎ IsPromoted set first) × (IsPure set second ⊎ IsPromoted set second) × IsWide set (type_of first) × IsWide set (type_of second)
  IsPure set (T.Convert' ty p operand) = (ty.shape ≡ Some set) × (((ty.elem.bits == 1) ≡ false) ⊎ ((ty.elem.bits ≡ 1) × HasKnownKind operand)) × IsPure set operand
  IsPure set (T.ParallelCast' ty p operand) = (ty.shape ≡ Some set) × (((ty.elem.bits == 1) ≡ false) ⊎ ((ty.elem.bits ≡ 1) × (HasKnownKind operand ⊎ IsRegistered operand))) × (IsPure set operand ⊎ IsPromoted set operand)
  IsPure set (T.Pcoord ty axis) = IsWide set ty
  IsPure set (T.Dot ty axis) = IsWide set ty
  IsPure set (T.LeftIndex' ty place p indexes x of) = (ty.shape ≡ Some set) × IsOfFileOrBlock x × (((of ≡ set) × AreSteps set 0 indexes) ⊎ ((all_go_by_news of 0 (items-the_row-TExpr _ indexes) ≡ false) × AreIndexes set indexes × HasPure set indexes))
  IsPure set _ = ⊥

  -- indexes of the current shape, some of which may be promoted scalars, but not all
  pub AreIndexes : {k : _} → ℕ → Row_of-TExpr k → Type 0
  AreIndexes set end_of-TExpr = Unit {0}
  AreIndexes set (more_of-TExpr index rest) = (IsPure set index ⊎ (IsPromoted set index × IsRegistered index)) × AreIndexes set rest

  pub HasPure : {k : _} → ℕ → Row_of-TExpr k → Type 0
  HasPure set end_of-TExpr = ⊥
  HasPure set (more_of-TExpr index rest) = IsPure set index ⊎ HasPure set rest

-- an operand, promoted or not
abbrev pub IsOperand : ℕ → TExpr → Type 0
IsOperand set e = IsPure set e ⊎ IsPromoted set e

-- one of a kind that is known
abbrev pub HasItsKind : ℕ → TExpr → Type 0
HasItsKind set e = IsPure set e × HasKnownKind e

-- what is assigned to: a variable of the file or of a block
unfoldable pub IsTarget : ℕ → TExpr → Type 0
IsTarget set (T.Variable ty (V.File k)) = ty.shape ≡ Some set
IsTarget set (T.Variable ty (V.Local k)) = ty.shape ≡ Some set
IsTarget set (T.Brackets' ty p inner) = (ty ≡ type_of inner) × IsTarget set inner
IsTarget set _ = ⊥

-- The operator of an assignment to a variable of this type of this value, if it has one: it works at 32 bits, and needs no
-- more bits than the variable has, which is no `bool`. A value without an operator has as many.
abbrev pub HasOperation : AssignOp → Elem → TExpr → Type 0
HasOperation op elem value = elim (assign_op_of op) [
  | None ↦ (type_of value).elem.bits ≡ elem.bits
  | Some o ↦ IsOperation o value × ((type_of value).elem.bits ≡ 32) × ((elem.bits == 1) ≡ false) × (operation_bits elem.bits o value ≡ elem.bits)
]

-- an assignment to a parallel variable, or a step of one
unfoldable pub IsUpdate : TExpr → Type 0
IsUpdate (T.Assign' ty place op p target q value) = (set : ℕ) × ((ty ≡ type_of target) × IsTarget set target × HasOperation op ty.elem value × IsOperand set value)
IsUpdate (T.Step' ty op order p target) = (set : ℕ) × ((ty ≡ type_of target) × IsTarget set target × ((ty.elem.bits == 1) ≡ false))
IsUpdate _ = ⊥

-- the bits that begin the segments of a scan, if it has any, are a variable of the file or of a block
abbrev pub IsSegments : Option Variable → Type 0
IsSegments bit = IfSome bit IsOfFileOrBlock

-- A value of 32 bits with scans in it: a scan of such a value or of a pure one, by a combiner other than the last one, or
-- of ones, maybe converted, and operators on such values and operands.
unfoldable pub IsScan : ℕ → TExpr → Type 0
IsScan set (T.Brackets' ty p inner) = (ty ≡ type_of inner) × IsScan set inner
IsScan set (T.Scan' ty p source axis combiner direction mode bit within) = (ty ≡ type_of source) × (IsScan set source ⊎ IsPure set source) × IsWide set (type_of source) × (combiner ≡ C.Last → ⊥) × IsSegments bit
IsScan set (T.Enumerate ty axis direction within mode bit) = IsWide set ty × IsSegments bit
IsScan set (T.Convert' ty p operand) = IsWide set ty × IsScan set operand
IsScan set (T.Unary' ty op p operand) = IsWide set ty × (negates op ≡ false) × IsScan set operand
IsScan set (T.Binary' ty place op p left q right) =
    IsWide set ty × IsOperation op right × ((IsScan set left × (IsScan set right ⊎ IsOperand set right)) ⊎ (IsOperand set left × IsScan set right)) × IsWide set (type_of left) × IsWide set (type_of right)
IsScan set _ = ⊥

-- a relation of two such values, or of one and an operand
unfoldable pub IsScanRelation : ℕ → TExpr → Type 0
IsScanRelation set (T.Brackets' ty p inner) = (ty ≡ type_of inner) × IsScanRelation set inner
IsScanRelation set (T.Binary' ty place op p left q right) =
    IsWide set ty × (relates op ≡ true) × ((IsScan set left × (IsScan set right ⊎ IsOperand set right)) ⊎ (IsOperand set left × IsScan set right)) × IsWide set (type_of left) × IsWide set (type_of right)
IsScanRelation set _ = ⊥

-- a condition: it holds where the value is not zero
abbrev pub IsCondition : ℕ → TExpr → Type 0
IsCondition set e = HasItsKind set e ⊎ (IsScan set e ⊎ IsScanRelation set e)

-- such a value, or one that is converted to a type of at least so many bits, which is no `bool`
unfoldable pub IsScanned : ℕ → ℕ → TExpr → Type 0
IsScanned set bits (T.Brackets' ty p inner) = (ty ≡ type_of inner) × IsScanned set bits inner
IsScanned set bits (T.Convert' ty p operand) = (ty.shape ≡ Some set) × ((ty.elem.bits == 1) ≡ false) × (bits ≤ ty.elem.bits) × IsScan set operand
IsScanned set bits e = IsScan set e

-- such a value is assigned to a parallel variable, or an operator on both
abbrev pub IsScanFor : ℕ → ℕ → AssignOp → TExpr → Type 0
IsScanFor set bits op value = elim (assign_op_of op) [ None ↦ IsScanned set bits value | Some o ↦ IsScan set value ]

unfoldable pub IsScanAssigned : TExpr → Type 0
IsScanAssigned (T.Assign' ty place op p target q value) = (ty ≡ type_of target) × HasOperation op ty.elem value × ((set : ℕ) × (IsTarget set target × IsScanFor set ty.elem.bits op value))
IsScanAssigned _ = ⊥

-- a value of 32 bits that is folded: a pure one, or one with scans in it
abbrev pub IsFolded : ℕ → TExpr → Type 0
IsFolded set e = (HasItsKind set e × IsWide set (type_of e)) ⊎ IsScan set e

-- the numbers of a value at the active positions are folded into one
unfoldable pub IsFold : TExpr → Type 0
IsFold (T.Reduce' ty op p operand) = IsWord ty × ((set : ℕ) × IsFolded set operand)
IsFold _ = ⊥

-- a promoted scalar that may change variables, with assignments and steps of scalar variables, and `getchar`, and in which
-- values are folded
unfoldable pub IsChanging : ℕ → TExpr → Type 0
IsChanging set (T.Promote' ty p operand) = (ty.shape ≡ Some set) × (ty.elem ≡ (type_of operand).elem) × (constant_of operand ≡ None) × IsIn (calling_nothing IsFold) operand
IsChanging set (T.Brackets' ty p inner) = (ty ≡ type_of inner) × IsChanging set inner
IsChanging set _ = ⊥

-- it is assigned to a parallel variable of as many bits, or with an operator
unfoldable pub IsChangingAssigned : TExpr → Type 0
IsChangingAssigned (T.Assign' ty place op p target q value) = (ty ≡ type_of target) × HasOperation op ty.elem value × ((set : ℕ) × (IsTarget set target × IsChanging set value))
IsChangingAssigned _ = ⊥

-- the assignment with the operator of a reduction
abbrev pub assignment_of : ReduceOp → AssignOp
assignment_of R.Add = A.Add
assignment_of R.Sub = A.Sub
assignment_of R.And = A.And
assignment_of R.Xor = A.Xor
assignment_of R.Or = A.Or
assignment_of R.Min = A.Min
assignment_of R.Max = A.Max

-- a scalar variable that is assigned to, maybe in brackets
unfoldable pub IsScalarTarget : TExpr → Type 0
IsScalarTarget (T.Variable ty x) = IsScalarType ty
IsScalarTarget (T.Brackets' ty p inner) = (ty ≡ type_of inner) × IsScalarTarget inner
IsScalarTarget _ = ⊥

-- the numbers of a value at the active positions are folded onto a scalar variable
unfoldable pub IsFoldOnto : TExpr → Type 0
IsFoldOnto (T.Assign' ty place op p target q value) = (ty ≡ type_of target) × IsScalarTarget target × ((reduction : ReduceOp) × ((op ≡ assignment_of reduction) × ((set : ℕ) × IsFolded set value)))
IsFoldOnto _ = ⊥

-- what is sent to: a variable of the file or of a block, of any shape, under a left index of the current one
unfoldable pub IsSendTarget : ℕ → TExpr → Type 0
IsSendTarget set (T.LeftIndex' ty place p indexes x of) = (ty.shape ≡ Some set) × IsOfFileOrBlock x × AreIndexes set indexes × HasPure set indexes
IsSendTarget set (T.Brackets' ty p inner) = (ty ≡ type_of inner) × IsSendTarget set inner
IsSendTarget set _ = ⊥

-- without an operator a value of as many bits as the variable has, and with one that folds a value of 32 bits
abbrev pub IsSent : AssignOp → Elem → TExpr → Type 0
IsSent op elem value = ((op ≡ A.Set) × ((type_of value).elem.bits ≡ elem.bits)) ⊎ ((folds op ≡ true) × ((type_of value).elem.bits ≡ 32))

-- it is sent from each active position, or a scan of such values is
unfoldable pub IsSend : TExpr → Type 0
IsSend (T.Assign' ty place op p target q value) = (ty ≡ type_of target) × IsSent op ty.elem value × ((set : ℕ) × (IsSendTarget set target × (IsOperand set value ⊎ IsScan set value)))
IsSend _ = ⊥

-- a parallel expression whose value is not used
abbrev pub IsParallelEffect : TExpr → Type 0
IsParallelEffect e = IsUpdate e ⊎ (IsFoldOnto e ⊎ (IsScanAssigned e ⊎ (IsChangingAssigned e ⊎ IsSend e)))

-- a parallel variable, which is no array
abbrev pub IsParallelVariable : VarInfo → Type 0
IsParallelVariable info = (set : ℕ) × ((info.shape ≡ Some set) × (info.array ≡ None))

-- A program of functions on scalars, without recursion, and of parallel variables of the file and of blocks: such
-- updates are statements, also within `with` and under contexts, as such folds onto variables are, other such folds
-- and reads of single positions stand within scalar expressions, and such conditions narrow which positions are active.
abbrev pub fields_beside : Beside
fields_beside = record {
  effects = IsParallelEffect;
  folds = IsFold;
  positions = IsOfFileOrBlock;
  conditions = IsCondition;
  widens = λ set. Unit {0};
  variables = IsParallelVariable;
  locals = IsParallelVariable;
}

abbrev pub IsParallelProgram : Typed → Type 0
IsParallelProgram t = IsProgramBeside fields_beside t
