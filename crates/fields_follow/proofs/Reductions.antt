-- Unary reductions of parallel values follow, where the code of these leaves their numbers in a field.
use Rattle.std.proofs.Common.{◌≡◌, ◌∙◌, ℕ, not, length, Option, Some, None, refl, sym, ap, List}
use Rattle.cstar_tree.specs.declared.syntax.ReduceOp.{ReduceOp}
use Rattle.cstar_tree.specs.declared.typed.TExpr.{TExpr}
use Rattle.cstar_tree.specs.declared.typed.TExpr as T
use Rattle.cstar_tree.specs.declared.typed.ValueType.{ValueType}
use Rattle.cstar_tree.specs.declared.typed.Variable.{Variable}
use Rattle.cstar_tree.specs.Typed.{type_of}
use Rattle.code_lengths.specs.Lowerable.{IsLowerable}
use Rattle.code_lengths.specs.Naming.{NamesVariables}
use Rattle.code_lengths.specs.Ready.{IsReadyButForFields}
use Rattle.code_lengths.specs.Shaped.{IsShaped}
use Rattle.lower_base.specs.declared.emit.Out.{Out}
use Rattle.lower_base.specs.declared.emit.Out.TheVariants as O
use Rattle.lower_base.specs.Drafts.{Draft}
use Rattle.lower_expr.specs.Effects.{computed_to}
use Rattle.lower_expr.specs.Kinds.{reduced_bits}
use Rattle.paris_code.specs.Code.{CodeState}
use Rattle.source_meaning.specs.Expressions.{evaluated, reduction_of}
use Rattle.source_meaning.specs.Reductions.{reduced}
use Rattle.source_meaning.specs.State as Source
use Rattle.source_meaning.specs.State.{Outcome, State, then_do}
use Rattle.source_meaning.specs.Values.{Parallel, Scalar, Value, at, positions}
use Rattle.source_meaning.proofs.ConstantLaws.{Boxed}
use Rattle.vp_sets.specs.Positions.{position_count}
use Rattle.code_follows.specs.Fragment.{NamesAmong}
use Rattle.code_follows.proofs.Following.{Follows, HasRegisters, Sim}
use Rattle.code_follows.proofs.Settings.{Setting, layout}
use Rattle.fields_follow.specs.Fragment.{IsFold, IsWide}
use Rattle.fields_follow.proofs.Folded.{Foldable, folds_so}
use Rattle.fields_follow.proofs.Forms.{HasItsCode}
use Rattle.fields_follow.proofs.Places.{HoldsTheFields, PlacesFields}
use Rattle.fields_follow.proofs.Outcomes.{Ended, ended_on, meant, outcome_like}
use Rattle.fields_follow.proofs.Reducing.{GivesNumber, fold_passes}
use Rattle.fields_follow.proofs.Starts.{Starts}

-- the number of a fold is a word
pub fold_type : (e : TExpr) → IsFold e → (type_of e).elem.bits ≡ 32
unfolding IsFold
fold_type (T.Reduce' ty op p operand) is = is.0.1
fold_type _ is = absurd is

module _ (g : Setting) (alive : Variable → Type 0) where
  operand_code : (n : ℕ) (ty : ValueType) (op : ReduceOp) (p : Boxed) (operand : TExpr) → HasItsCode g.typed g.instance alive n (T.Reduce' ty op p operand) → HasItsCode g.typed g.instance alive n operand
  unfolding IsShaped IsLowerable NamesVariables NamesAmong
  operand_code n ty op p operand c = record { code = record { shaped = c.code.shaped; lowerable = c.code.lowerable.2; names = c.code.names }; among = c.among }

  -- the number stands in a register, by code that passes up to its last instructions
  abbrev pub GivesRegister : ℕ → ℕ → Draft → CodeState → State → Out → Draft → Type 0
  GivesRegister r w d s st out x = (out ≡ O.Scalar r) × GivesNumber g alive d s st r w x

  module _ (places : PlacesFields g) (fields : HoldsTheFields g) where
    -- the number of a reduction of these numbers over these extents
    abbrev reduction : ReduceOp → TExpr → ℕ → (ℕ → ℕ) → List ℕ → ℕ
    reduction op operand set v xs = reduced op (not (type_of operand).elem.signed) (fields.active set) v (position_count xs)

    reduction_means : (ty : ValueType) (op : ReduceOp) (p : Boxed) (operand : TExpr) (set : ℕ) (v : ℕ → ℕ) (st : State) → IsWide set (type_of operand) → meant g fields operand st ≡ Source.Gives (Parallel v) st
        → meant g fields (T.Reduce' ty op p operand) st ≡ Source.Gives (Scalar (reduction op operand set v (fields.scope.extents set))) st
    unfolding evaluated reduction_of then_do at positions
    reduction_means ty op p operand set v st wide given =
        ap (λ (o : Outcome Value). then_do o (λ x after. Source.Gives (reduction_of fields.scope fields.active op (type_of operand) x) after)) given
        ∙ ap (λ (o : Option ℕ). Source.Gives (elim o as (λ _. Value) [ None ↦ Parallel v | Some s ↦ Scalar (reduced op (not (type_of operand).elem.signed) (fields.active s) v (positions fields.scope s)) ]) st) wide.0

    -- it ends where its operand does
    reduction_ended : (ty : ValueType) (op : ReduceOp) (p : Boxed) (operand : TExpr) (s : CodeState) (st : State) → Ended g s (meant g fields operand st) → Ended g s (meant g fields (T.Reduce' ty op p operand) st)
    unfolding evaluated
    reduction_ended ty op p operand s st early = ended_on g s (meant g fields operand st) (λ v after. Source.Gives (reduction_of fields.scope fields.active op (type_of operand) v) after) early

    -- A fold gives a number in the source and changes nothing, or ends early; its code passes, and its last instructions
    -- put that number in the register that is to have it.
    abbrev FoldGives : TExpr → Draft → CodeState → State → ℕ → Type 0
    FoldGives e d s st r = Follows g (λ x u out f. (w : ℕ) × ((x ≡ Scalar w) × ((u ≡ st) × GivesRegister r w d s st out f))) s (meant g fields e st) (computed_to g.typed (layout g) (O.Scalar r) e d)

    gives_fold : (ty : ValueType) (op : ReduceOp) (p : Boxed) (operand : TExpr) (set : ℕ) → Foldable g alive places fields op set operand → (d : Draft) (s : CodeState) (st : State) (r : ℕ) → Starts g alive s (length d.code) d.regs (length d.fields) → Sim g alive st s → FoldGives (T.Reduce' ty op p operand) d s st r
    gives_fold ty op p operand set h d s st r here sim =
        outcome_like g s (meant g fields operand st) v st (meant g fields (T.Reduce' ty op p operand) st) (Scalar w) st (GivesRegister r w d s st) (λ x u out f. (w : ℕ) × ((x ≡ Scalar w) × ((u ≡ st) × GivesRegister r w d s st out f)))
        (computed_to g.typed (layout g) (O.Scalar r) (T.Reduce' ty op p operand) d) (λ given. reduction_means ty op p operand set v st h.wide given) (λ early. reduction_ended ty op p operand s st early) (λ out f said. (w, (refl, (refl, said))))
        (fold_passes g alive places fields ty op p operand set h.wide d s st v (reduced_bits op operand) (h.folds s st sim) r w (λ exists. ap (λ (xs : List ℕ). reduction op operand set v xs) (sym (fields.same_extents set exists))) (meant g fields operand st) v (h.gives d s st here sim))
      where
        v : ℕ → ℕ
        v = h.number st

        w : ℕ
        w = reduction op operand set v (fields.scope.extents set)

    pub folds_give : (has : HasRegisters g) (n : ℕ) → ((d : Draft) → IsReadyButForFields g.typed g.instance (layout g) n d) → (e : TExpr) → IsFold e → HasItsCode g.typed g.instance alive n e → (d : Draft) (s : CodeState) (st : State) (r : ℕ) → Starts g alive s (length d.code) d.regs (length d.fields) → Sim g alive st s → FoldGives e d s st r
    unfolding IsFold
    folds_give has n ready (T.Reduce' ty op p operand) is c d s st r here sim = gives_fold ty op p operand is.1.0 (folds_so g has alive n ready places fields op is.1.0 operand (operand_code n ty op p operand c) is.1.1) d s st r here sim
    folds_give has n ready _ is c d s st r here sim = absurd is
