-- The code of every expression stays within itself.
use Rattle.std.proofs.Common.{ℕ, ◌<◌, Bool, true, false, List, [], ◌∷◌, ◌++◌, length, is_none}
use mathlib.Core.Former.{Count}
use Rattle.cstar_tree.specs.declared.typed.Instance.{Instance}
use Rattle.cstar_tree.specs.declared.typed.TExpr.{TExpr, Row_of-TExpr, end_of-TExpr, more_of-TExpr}
use Rattle.cstar_tree.specs.declared.typed.TExpr as T
use Rattle.cstar_tree.specs.declared.typed.Typed.{Typed}
use Rattle.cstar_tree.specs.declared.typed.ValueType.{ValueType}
use Rattle.lower_base.specs.declared.emit.Out.{Out}
use Rattle.lower_base.specs.declared.emit.Out.TheVariants as O
use Rattle.lower_base.specs.Drafts.{Draft, step}
use Rattle.lower_base.specs.Kinds.{bits_of, kind_of}
use Rattle.lower_base.specs.Layouts.{Layout}
use Rattle.lower_expr.specs.Lengths.{arm_length_of}
use Rattle.lower_expr.specs.Operands.{operand_by}
use Rattle.lower_expr.specs.Steps.{has_truth, is_kept}
use Rattle.lower_expr.specs.Values.{Code, Test, arm_by, call_to, cast_from, condition_by, next_of, spot_of, truth_of, value_of, values_of}
use Rattle.code_lengths.specs.Growth.{Stands}
use Rattle.code_lengths.specs.Lowerable.{AreLowerable, GivesValue, IsLowerable, IsValueFor}
use Rattle.code_lengths.specs.Naming.{AllNameVariables, NamesVariables}
use Rattle.code_lengths.specs.Ready.{Arrives, HasCode}
use Rattle.code_lengths.specs.Shaped.{AreShaped, IsShaped, IsTarget}
use Rattle.code_lengths.proofs.Basis.{ready}
use Rattle.code_lengths.proofs.EffectLengths.{next_comes, tested_grows}
use Rattle.code_lengths.proofs.ExpressionLengths.{given_code}
use Rattle.code_lengths.proofs.ValuePieces.{Known, arm_grows}
use Rattle.proper_code.proofs.Stretches.{is_inward}
use Rattle.proper_code.proofs.Building.{Setting, IsInward, as_before, bind, either, fails, fresh, inner, lowest_builds, makes, on_register}
use Rattle.proper_code.proofs.Jumping.{measured}
use Rattle.proper_code.proofs.MessagePieces.{called_builds, communicated_builds}
use Rattle.proper_code.proofs.ShortPieces.{constant_builds, field_of_builds, operand_builds, printed_builds}
use Rattle.proper_code.proofs.ValuePieces.{binary_builds, byte_builds, cast_by_builds, casts_more, coordinate_builds, element_spot_builds, index_read_by_builds, indexed_spot_builds, message_by_builds, read_by_builds, register_cast_builds, relation_builds, spread_by_builds, tested_by_builds, unary_builds, zero_builds}
use Rattle.proper_code.proofs.AssignPieces.{assign_builds, step_builds}
use Rattle.proper_code.proofs.DecisionPieces.{IsInwardArm, IsInwardCondition, arm_builds, choice_builds, logical_builds}

-- a unit that is ready for an expression, of a program whose instances are called
abbrev pub within : Typed → Instance → Layout → ℕ → Setting
within t i l n = record { basis = ready ⊥ t i l n; units = λ number. number < length t.instances.items }

-- a conversion
cast_builds : {on : Setting} (t : Typed) (l : Layout) (bits : ℕ) (ty : ValueType) (x : TExpr) (truth : Test) (code : ℕ → Code) → IsInward on truth → ((n : ℕ) → IsInward on (code n)) → IsInward on (cast_from t l bits ty x truth code)
unfolding cast_from
cast_builds t l bits ty x truth code r c =
    cast_by_builds _ bits ty.elem _ _ _ (tested_by_builds (has_truth x) truth _ r (spread_by_builds _ x _ _ (operand_builds t l _ _ true x (c _)))) (spread_by_builds _ x _ _ (operand_builds t l _ _ true x (c _))) (spread_by_builds _ x _ _ (c bits))

pub call_to_builds : {on : Setting} (t : Typed) (l : Layout) (instance : ℕ) (arguments : List Out → Draft → _) (dest : Out) → ((number : ℕ) → number < length t.instances.items → on.units number) → IsInward on (arguments []) → IsInward on (call_to t l instance arguments dest)
unfolding call_to
call_to_builds t l instance arguments dest known c d e b = bind d _ _ (c d e b) (λ given after. called_builds t l instance given dest after after known (as_before after))

-- an operand of `&&` or `||`, and an arm of `?:`, of an expression that has code
pub condition_inward : (t : Typed) (i : Instance) (l : Layout) (n : ℕ) (x : TExpr) → HasCode t i n x → GivesValue t x → IsInward (within t i l n) (value_of t l (bits_of (kind_of x)) x) → IsInward (within t i l n) (truth_of t l x) →
    IsInwardCondition (within t i l n) (condition_by t l (value_of t l (bits_of (kind_of x)) x) (truth_of t l x) x)
unfolding condition_by
condition_inward t i l n x code gives c r =
    let operand : IsInward (within t i l n) (operand_by t l (bits_of (kind_of x)) (value_of t l (bits_of (kind_of x)) x) true x) = operand_builds t l _ _ true x c in
    let test = tested_by_builds (has_truth x) (truth_of t l x) _ r operand in
    record {
      code = operand;
      test = test;
      long = λ d. measured (Arrives t x) _ d _ (next_comes _ t i l n _ true x code d) (operand d d (as_before d));
      tested = λ kept d. measured Known _ d _ (tested_grows _ t i l n x code (gives, kept) d) (test d d (as_before d));
    }

pub arm_inward : (t : Typed) (i : Instance) (l : Layout) (n : ℕ) (ty : ValueType) (bits : ℕ) (x : TExpr) → HasCode t i n x → IsValueFor t ty.shape x → IsInward (within t i l n) (value_of t l bits x) →
    IsInwardArm (within t i l n) (is_none ty.shape) (arm_length_of t l ty bits x) (arm_by (next_of t l bits true x) x)
unfolding arm_length_of
arm_inward t i l n ty bits x code given c =
    let operand : IsInward (within t i l n) (operand_by t l bits (value_of t l bits x) true x) = operand_builds t l bits _ true x c in
    record {
      code = λ dest. arm_builds _ x dest operand;
      long = λ dest s d. measured (Stands (is_none ty.shape)) _ d _
          (arm_grows (is_none ty.shape) (is_kept x) x _ _ given.in_register (given_code _ t i l n x _ _ given.gives (next_comes _ t i l n bits true x code)) dest d s)
          (arm_builds _ x dest operand d d (as_before d));
    }

has : {t : Typed} {i : Instance} {n : ℕ} {x : TExpr} → IsShaped x → IsLowerable t x → NamesVariables t i n x → HasCode t i n x
has h w v = record { shaped = h; lowerable = w; names = v }

mutual
  unfolding value_of truth_of spot_of values_of condition_by IsShaped IsTarget AreShaped IsLowerable AreLowerable NamesVariables AllNameVariables is_inward step

  pub value_inward : (t : Typed) (i : Instance) (l : Layout) (n bits : ℕ) (x : TExpr) → IsShaped x → IsLowerable t x → NamesVariables t i n x → IsInward (within t i l n) (value_of t l bits x)
  value_inward t i l n bits (T.Assign' ty place op p target q value) h w v d e b =
      assign_builds t l _ bits op place target value _ _ (spot_inward t i l n target h.2 w.2 v.0) (value_inward t i l n _ value h.3 w.3 v.1) d e b
  value_inward t i l n bits (T.Choice' ty p test q first r second) h w v d e b =
      choice_builds ty bits (is_kept test) _ _ _ _ _ (operand_builds t l _ _ _ test (value_inward t i l n _ test h.0 w.4 v.0))
      (arm_inward t i l n ty bits first (has h.1 w.5 v.1) w.2 (value_inward t i l n bits first h.1 w.5 v.1)) (arm_inward t i l n ty bits second (has h.2 w.6 v.2) w.3 (value_inward t i l n bits second h.2 w.6 v.2)) d e b
  value_inward t i l n bits (T.LogicalOr' ty p left q right) h w v d e b =
      logical_builds true ty.shape bits _ _ (condition_inward t i l n left (has h.0 w.1 v.0) w.0.left_gives (value_inward t i l n _ left h.0 w.1 v.0) (truth_inward t i l n left h.0 w.1 v.0))
      (condition_inward t i l n right (has h.1 w.2 v.1) w.0.right_gives (value_inward t i l n _ right h.1 w.2 v.1) (truth_inward t i l n right h.1 w.2 v.1)) w.0.right_field d e b
  value_inward t i l n bits (T.LogicalAnd' ty p left q right) h w v d e b =
      logical_builds false ty.shape bits _ _ (condition_inward t i l n left (has h.0 w.1 v.0) w.0.left_gives (value_inward t i l n _ left h.0 w.1 v.0) (truth_inward t i l n left h.0 w.1 v.0))
      (condition_inward t i l n right (has h.1 w.2 v.1) w.0.right_gives (value_inward t i l n _ right h.1 w.2 v.1) (truth_inward t i l n right h.1 w.2 v.1)) w.0.right_field d e b
  value_inward t i l n bits (T.Binary' ty place op p left q right) h w v d e b =
      binary_builds ty.shape bits op place _ left _ right (operand_builds t l _ _ _ left (value_inward t i l n _ left h.0 w.2 v.0)) (operand_builds t l _ _ true right (value_inward t i l n _ right h.1 w.3 v.1)) d e b
  value_inward t i l n bits (T.Unary' ty op p operand) h w v d e b =
      unary_builds l ty bits _ _ _ (value_inward t i l n bits operand h.1 w.1 v) (operand_builds t l _ _ true operand (value_inward t i l n _ operand h.1 w.1 v)) d e b
  value_inward t i l n bits (T.Step' ty op order p target) h w v d e b = step_builds t l _ bits op order target _ (spot_inward t i l n target h.1 w.1 v) d e b
  value_inward t i l n bits (T.Reduce' ty op p operand) h w v d e b = message_by_builds t l _ ty bits _ (operand_builds t l _ _ true operand (value_inward t i l n _ operand h w.2 v)) d e b
  value_inward t i l n bits (T.Casts' ty elems p operand) h w v d e b =
      bind d _ _ (value_inward t i l n bits operand h.1 w.1 v d e b) (λ x after. on_register after x _ (λ r. makes x after _ (casts_more elems.items r after after (as_before after))))
  value_inward t i l n bits (T.ParallelCast' ty p operand) h w v d e b = cast_builds t l bits ty operand _ _ (truth_inward t i l n operand h.1 w.2 v) (λ m. value_inward t i l n m operand h.1 w.2 v) d e b
  value_inward t i l n bits (T.Convert' ty p operand) h w v d e b =
      either (is_kept operand) d _ _ (register_cast_builds ty.elem _ (value_inward t i l n bits operand h.1 w.1 v) d e b)
      (cast_builds t l bits ty operand _ _ (truth_inward t i l n operand h.1 w.1 v) (λ m. value_inward t i l n m operand h.1 w.1 v) d e b)
  value_inward t i l n bits (T.Promote' ty p operand) h w v d e b = value_inward t i l n bits operand h.1 w.1 v d e b
  value_inward t i l n bits (T.Variable ty x) h w v d e b = read_by_builds t l _ ty bits _ (λ d e b. makes _ d e b) d e b
  value_inward t i l n bits (T.Element' ty place array p index) h w v d e b = read_by_builds t l _ ty bits _ (element_spot_builds t l ty place array _ (value_inward t i l n 32 index h.1 w.1 v.1)) d e b
  value_inward t i l n bits (T.Number ty value) h w v d e b = constant_builds value d e b
  value_inward t i l n bits (T.Dot ty axis) h w v d e b = coordinate_builds ty.shape bits axis d e b
  value_inward t i l n bits (T.Brackets' ty p held) h w v d e b = value_inward t i l n bits held h.1 w v d e b
  value_inward t i l n bits (T.Call' ty instance p arguments) h w v d e b =
      bind d _ _ (fresh ty.shape bits d e b) (λ dest begun. call_to_builds t l instance _ dest (λ number below. below) (values_inward t i l n true _ arguments h w.1 v []) begun begun (as_before begun))
  value_inward t i l n bits (T.LeftIndex' ty place p indexes x of) h w v d e b = index_read_by_builds t l _ ty bits _ (indexed_spot_builds t l _ _ (values_inward t i l n false _ indexes h w.2 v.1 [])) d e b
  value_inward t i l n bits (T.Pcoord ty axis) h w v d e b = coordinate_builds ty.shape bits axis d e b
  value_inward t i l n bits (T.PositionsOf ty shape value) h w v d e b = constant_builds value d e b
  value_inward t i l n bits (T.RankOf ty shape value) h w v d e b = constant_builds value d e b
  value_inward t i l n bits (T.DimOf ty shape axis value) h w v d e b = constant_builds value d e b
  value_inward t i l n bits (T.Scan' ty p source axis combiner direction mode bit bound) h w v d e b = message_by_builds t l _ ty bits _ (operand_builds t l 32 _ true source (value_inward t i l n 32 source h w.2 v.1)) d e b
  value_inward t i l n bits (T.Enumerate ty axis direction bound mode bit) h w v d e b =
      bind d _ _ (fresh ty.shape 32 d e b) (λ dest after. lowest_builds bits after _ (communicated_builds t l _ O.Nothing [] dest after after (as_before after)))
  value_inward t i l n bits (T.Printf' ty pieces p arguments) h w v d e b =
      bind d _ _ (values_inward t i l n false _ arguments h w.2 v [] d e b) (λ given after. printed_builds pieces.items given after after (as_before after))
  value_inward t i l n bits (T.GetChar ty) h w v d e b = byte_builds d e b

  pub truth_inward : (t : Typed) (i : Instance) (l : Layout) (n : ℕ) (x : TExpr) → IsShaped x → IsLowerable t x → NamesVariables t i n x → IsInward (within t i l n) (truth_of t l x)
  truth_inward t i l n (T.Brackets' ty p held) h w v d e b = truth_inward t i l n held h.1 w v d e b
  truth_inward t i l n (T.Variable ty x) h w v d e b = bind d _ _ (field_of_builds t l x 0 d e b) (λ source after. search inner depth 12)
  truth_inward t i l n (T.Binary' ty place op p left q right) h w v d e b =
      relation_builds _ op _ left _ right (operand_builds t l _ _ _ left (value_inward t i l n _ left h.0 w.2 v.0)) (operand_builds t l _ _ true right (value_inward t i l n _ right h.1 w.3 v.1)) d e b
  truth_inward t i l n (T.Unary' ty op p operand) h w v d e b = zero_builds _ (operand_builds t l _ _ true operand (value_inward t i l n _ operand h.1 w.1 v)) d e b
  truth_inward t i l n _ h w v d e b = fails d

  pub spot_inward : (t : Typed) (i : Instance) (l : Layout) (n : ℕ) (x : TExpr) → IsTarget x → IsLowerable t x → NamesVariables t i n x → IsInward (within t i l n) (spot_of t l x)
  spot_inward t i l n (T.Variable ty x) h w v d e b = makes _ d e b
  spot_inward t i l n (T.Element' ty place array p index) h w v d e b = element_spot_builds t l ty place array _ (value_inward t i l n 32 index h.1 w.1 v.1) d e b
  spot_inward t i l n (T.LeftIndex' ty place p indexes x of) h w v d e b = indexed_spot_builds t l _ _ (values_inward t i l n false _ indexes h w.2 v.1 []) d e b
  spot_inward t i l n (T.Brackets' ty p held) h w v d e b = spot_inward t i l n held h.1 w v d e b
  spot_inward t i l n _ h w v d e b = absurd h

  pub values_inward : (t : Typed) (i : Instance) (l : Layout) (n : ℕ) (own quiet : Bool) {k : Count} (row : Row_of-TExpr k) → AreShaped row → AreLowerable t row → AllNameVariables t i n row → (outs : List Out) → IsInward (within t i l n) (values_of t l own quiet row outs)
  values_inward t i l n own quiet end_of-TExpr h w v outs d e b = makes outs d e b
  values_inward t i l n own quiet (more_of-TExpr x rest) h w v outs d e b =
      bind d _ _ (operand_builds t l _ _ quiet x (value_inward t i l n _ x h.0 w.0 v.0) d e b) (λ y after. values_inward t i l n own quiet rest h.1 w.1 v.1 (outs ++ y ∷ []) after after (as_before after))
