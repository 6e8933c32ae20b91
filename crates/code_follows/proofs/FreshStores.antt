-- Assignments to single positions, and steps of them, as values: their code, which leaves the value in a register that was
-- not taken before.
use Rattle.std.proofs.Common.{◌≡◌, ◌∙◌, ℕ, ◌+◌, ◌<◌, ◌≤◌, Bool, true, [], ◌∷◌, Option, Some, None, refl, sym, ap, subst, if◌then◌else◌, arith}
use Rattle.std.specs.Prelude.{is_none, is_some, unwrap_or}
use Rattle.cstar_base.specs.declared.operators.Op.{Op}
use Rattle.cstar_base.specs.declared.operators.Place.{Place}
use Rattle.cstar_tree.specs.declared.syntax.AssignOp.{AssignOp}
use Rattle.cstar_tree.specs.declared.syntax.StepOp.{StepOp}
use Rattle.cstar_tree.specs.declared.typed.StepOrder.{StepOrder}
use Rattle.cstar_tree.specs.declared.typed.StepOrder.TheVariants as Or
use Rattle.cstar_tree.specs.declared.typed.TExpr.{TExpr, Row_of-TExpr}
use Rattle.cstar_tree.specs.declared.typed.TExpr as T
use Rattle.cstar_tree.specs.declared.typed.ValueType.{ValueType}
use Rattle.cstar_tree.specs.declared.typed.Variable.{Variable}
use Rattle.cstar_tree.specs.Typed.{type_of}
use Rattle.code_lengths.specs.Growth.{GrowsOr}
use Rattle.code_lengths.specs.Lowerable.{IsLowerable}
use Rattle.code_lengths.specs.Naming.{NamesVariables}
use Rattle.code_lengths.specs.Ready.{HasCode, IsReadyButForFields}
use Rattle.code_lengths.specs.Shaped.{IsShaped, IsTarget}
use Rattle.code_lengths.proofs.AssignPieces.{Writes, assign_writes, is_single, reads, step_writes}
use Rattle.code_lengths.proofs.Basis.{once_ready, ready as where_ready}
use Rattle.code_lengths.proofs.ExpressionLengths.{spot_grows}
use Rattle.code_lengths.proofs.Pieces.{in_place_grows}
use Rattle.code_lengths.proofs.SpotPieces.{Fits}
use Rattle.lower_base.specs.declared.emit.Out.{Out}
use Rattle.lower_base.specs.declared.emit.Out.TheVariants as O
use Rattle.lower_base.specs.Drafts.{Draft, Fails, Made, Makes, a_register, fresh_for, in_register, then_make}
use Rattle.lower_base.specs.Operators.{assign_op_of}
use Rattle.lower_comm.specs.Messages.{communicated}
use Rattle.lower_expr.specs.declared.spots.Spot.{Spot}
use Rattle.lower_expr.specs.declared.spots.Spot.TheVariants as S
use Rattle.lower_expr.specs.Kinds.{operator_bits}
use Rattle.lower_expr.specs.Lengths.{bare, is_send, is_sent, spot_length_of}
use Rattle.lower_expr.specs.Operands.{operand_by}
use Rattle.lower_expr.specs.Spots.{loaded, stored}
use Rattle.lower_expr.specs.Steps.{assigned_signed, converted_in_place, is_kept, operated as operated_in}
use Rattle.lower_expr.specs.Values.{Code, assign_by, assigned_by, lowest, plainly_set_by, register_folded, register_updated, sent_by, set_by, spot_of, spread_by, step_by, step_operation, stepped_at, stepped_in, stepped_once, taken_bits, updated_by, value_of}
use Rattle.lower_base.specs.Constants.{word_in}
use Rattle.paris_code.specs.declared.instr.Instr.TheVariants as I
use Rattle.source_meaning.proofs.ConstantLaws.{Boxed}
use Rattle.code_follows.proofs.Following.{Extends, HasRegisters, extends_then}
use Rattle.code_follows.proofs.Fresh.{IsFresh, fresh_lowest, fresh_register, fresh_then}
use Rattle.code_follows.proofs.Settings.{Setting, and_one, layout}
use Rattle.code_follows.proofs.Values.{extends_grown, extends_operated, extends_word, with_reg}

-- the position has code
module _ (g : Setting) (n : ℕ) where
  pub assigned_left : (ty : ValueType) (place : Place) (r : _) (indexes : Row_of-TExpr _) (x : Variable) (of : ℕ) (to : ValueType) (sending : Place) (op : AssignOp) (p q : Boxed) (value : TExpr) → HasCode g.typed g.instance n (T.Assign' to sending op p (T.LeftIndex' ty place r indexes x of) q value)
      → HasCode g.typed g.instance n (T.LeftIndex' ty place r indexes x of)
  unfolding IsShaped IsTarget IsLowerable NamesVariables
  assigned_left ty place r indexes x of to sending op p q value c = record { shaped = c.shaped.2; lowerable = c.lowerable.2; names = c.names.0 }

  pub stepped_left : (ty : ValueType) (place : Place) (r : _) (indexes : Row_of-TExpr _) (x : Variable) (of : ℕ) (to : ValueType) (op : StepOp) (order : StepOrder) (p : Boxed) → HasCode g.typed g.instance n (T.Step' to op order p (T.LeftIndex' ty place r indexes x of)) → HasCode g.typed g.instance n (T.LeftIndex' ty place r indexes x of)
  unfolding IsShaped IsTarget IsLowerable NamesVariables
  stepped_left ty place r indexes x of to op order p c = record { shaped = c.shaped.1; lowerable = c.lowerable.1; names = c.names }

module _ (g : Setting) (n : ℕ) (ty : ValueType) (place : Place) (r : _) (indexes : Row_of-TExpr _) (x : Variable) (of : ℕ) (c : HasCode g.typed g.instance n (T.LeftIndex' ty place r indexes x of)) (scalar : ty.shape ≡ None) where
  abbrev left : TExpr
  left = T.LeftIndex' ty place r indexes x of

  abbrev spot : Draft → Made Spot
  spot d = spot_of g.typed (layout g) left d

  -- what it is
  pub store_code : (to : ValueType) (sending : Place) (op : AssignOp) (p q : Boxed) (value : TExpr) (bits : ℕ) (d : Draft)
      → value_of g.typed (layout g) bits (T.Assign' to sending op p left q value) d
      ≡ lowest bits (assigned_by g.typed (layout g) (T.Assign' to sending op p left q value) (taken_bits bits op left value) (assign_op_of op) sending left value None spot (λ b. value_of g.typed (layout g) (taken_bits bits op left value) value b) d)
  unfolding value_of assign_by is_send is_sent bare
  store_code to sending op p q value bits d =
      let whole : TExpr = T.Assign' to sending op p left q value in
      let took : ℕ = taken_bits bits op left value in
      let computes : Code = λ b. value_of g.typed (layout g) took value b in
      ap (λ (b : Bool). if b then sent_by g.typed (layout g) whole spot (λ z. spread_by computes value (unwrap_or ty.shape 0) took z) d else lowest bits (assigned_by g.typed (layout g) whole took (assign_op_of op) sending left value ty.shape spot computes d)) (ap is_some scalar)
      ∙ ap (λ (o : Option ℕ). lowest bits (assigned_by g.typed (layout g) whole took (assign_op_of op) sending left value o spot computes d)) scalar

  pub single_step_code : (to : ValueType) (op : StepOp) (order : StepOrder) (p : Boxed) (bits : ℕ) (d : Draft)
      → value_of g.typed (layout g) bits (T.Step' to op order p left) d
      ≡ then_make (spot (with_reg (with_reg d))) (λ there after. lowest bits (stepped_in g.typed (layout g) (T.Step' to op order p left) op order left there (O.Scalar d.regs) (O.Scalar (d.regs + 1)) after))
  unfolding value_of step_by fresh_for a_register then_make
  single_step_code to op order p bits d =
      ap (λ (o : Option ℕ). then_make (fresh_for o 32 d) (λ outcome begun. then_make (fresh_for o 32 begun) (λ second next. then_make (spot next) (λ there after. lowest bits (stepped_in g.typed (layout g) (T.Step' to op order p left) op order left there outcome second after))))) scalar

  module _ (has : HasRegisters g) (alive : Variable → Type 0) (ready : (d : Draft) → IsReadyButForFields g.typed g.instance (layout g) n d) where
    single : is_single left ≡ true
    unfolding bare
    single = ap is_none scalar

    -- behind the position
    behind : (d b : Draft) (next : Spot → Draft → Made Out) → ((there : Spot) (f : Draft) → Fits (bare left) there → b.regs ≤ f.regs → IsFresh d (next there f)) → IsFresh d (then_make (spot b) next)
    unfolding IsShaped IsTarget GrowsOr IsFresh then_make
    behind d b next each = by (spot b) (once_ready (spot_grows (Unit {0}) g.typed g.instance (layout g) n left c.shaped c.lowerable c.names b) (ready b))
      where
        by : (made : Made Spot) → GrowsOr (Unit {0}) b (spot_length_of g.typed (layout g) left) (Fits (bare left)) made → IsFresh d (then_make made next)
        by (Makes there f) h = each there f h.0 h.1.regs
        by Fails h = tt

    -- what is read there, and converted
    loads : (there : Spot) (q : ℕ) (f : Draft) → Fits (bare left) there → Extends g f (loaded g.typed (layout g) left there (O.Scalar q) f)
    loads there q f fits = extends_grown g has alive _ f _ _ (once_ready (reads (Unit {0}) g.typed g.instance (layout g) n left c.names 32 there (O.Scalar q) f fits single) (ready f))

    converts : (q : ℕ) (f : Draft) → Extends g f (converted_in_place (O.Scalar q) (type_of left).elem f)
    converts q f = extends_grown g has alive _ f _ _ (in_place_grows (Unit {0}) true (O.Scalar q) (type_of left).elem f refl)

    module _ (whole : TExpr) (writes : Writes (where_ready (Unit {0}) g.typed g.instance (layout g) n) g.typed (layout g) whole left) where
      stores : (there : Spot) (q : ℕ) (f : Draft) → Fits (bare left) there → Extends g f (stored g.typed (layout g) whole there (O.Scalar q) f)
      stores there q f fits = extends_grown g has alive _ f _ _ (once_ready (writes there (O.Scalar q) f fits single) (ready f))

      -- what is written stands where it did
      written_fresh : (there : Spot) (q : ℕ) (d f : Draft) → Fits (bare left) there → d.regs ≤ q → q < f.regs → IsFresh d (stored g.typed (layout g) whole there (O.Scalar q) f)
      unfolding GrowsOr IsFresh
      written_fresh there q d f fits low high = by _ (stored g.typed (layout g) whole there (O.Scalar q) f) (once_ready (writes there (O.Scalar q) f fits single) (ready f))
        where
          by : (k : ℕ) (made : Made Out) → GrowsOr (Unit {0}) f k (λ (w : Out). w ≡ O.Scalar q) made → IsFresh d made
          by k (Makes w e) h = let regs = h.1.regs in subst (λ (o : Out). IsFresh d (Makes o e)) (sym h.0) (low, omega (arith, high, regs))
          by k Fails h = tt

      -- a value that stands in no register does so behind it
      elsewhere : (there : Spot) (v : Out) (d f : Draft) → Fits (bare left) there → ((e : Draft) → IsFresh d (Makes v e)) → IsFresh d (stored g.typed (layout g) whole there v f)
      unfolding stored bare IsFresh then_make
      elsewhere (S.Indexed at) v d f fits here = by (communicated g.typed (layout g) whole at (v ∷ []) O.Nothing f)
        where
          by : (made : Made Out) → IsFresh d (then_make made (λ _ after. Makes v after))
          by (Makes w e) = here e
          by Fails = tt
      elsewhere (S.Register q) v d f fits here = absurd fits
      elsewhere (S.Whole y) v d f fits here = absurd fits
      elsewhere (S.Element array index) v d f fits here = absurd fits

      set_fresh : (code : Code) → ((b : Draft) → IsFresh b (code b)) → (d : Draft) → IsFresh d (set_by g.typed (layout g) whole spot code d)
      unfolding set_by IsFresh then_make
      set_fresh code fresh d = behind d d (λ there between. then_make (code between) (λ v after. stored g.typed (layout g) whole there v after)) (λ there f fits more. by there f fits more (code f) (fresh f))
        where
          by : (there : Spot) (f : Draft) → Fits (bare left) there → d.regs ≤ f.regs → (made : Made Out) → IsFresh f made → IsFresh d (then_make made (λ v after. stored g.typed (layout g) whole there v after))
          by there f fits more (Makes (O.Scalar q) e) h = let low = h.0 in written_fresh there q d e fits (omega (arith, low, more)) h.1
          by there f fits more (Makes (O.Field a) e) h = elsewhere there (O.Field a) d e fits (λ y. tt)
          by there f fits more (Makes O.Nothing e) h = elsewhere there O.Nothing d e fits (λ y. tt)
          by there f fits more Fails h = tt

      updated_fresh : (o : Op) (is_signed : Bool) (sending : Place) (there : Spot) (v : Out) (d f : Draft) → Fits (bare left) there → d.regs + 1 ≤ f.regs → IsFresh d (register_updated g.typed (layout g) whole o is_signed sending left d.regs there v f)
      unfolding register_updated Extends
      updated_fresh o is_signed sending there v d f fits more =
          fresh_then g has alive d f (loaded g.typed (layout g) left there (O.Scalar d.regs) f) _ (loads there d.regs f fits) (λ y e further. fresh_register g has alive d v _ (λ q.
          let last : Draft = operated_in o is_signed sending d.regs d.regs q e in
          let computed = (extends_operated g has alive o is_signed sending d.regs d.regs q e).1.regs in
          fresh_then g has alive d last (converted_in_place (O.Scalar d.regs) (type_of left).elem last) _ (converts d.regs last) (λ z h ahead. written_fresh there d.regs d h fits (omega arith) (omega (arith, more, further, computed, ahead)))))

      stepped_extends : (op : StepOp) (there : Spot) (old new : ℕ) (f : Draft) → Fits (bare left) there → Extends g f (stepped_at g.typed (layout g) whole op left there (O.Scalar old) (O.Scalar new) f)
      unfolding stepped_at stepped_once in_register Extends
      stepped_extends op there old new f fits =
          extends_then g f (loaded g.typed (layout g) left there (O.Scalar old) f) _ (loads there old f fits) (λ y e.
          extends_then g e (stepped_once (layout g) op (O.Scalar old) (O.Scalar new) e) _ (extends_then g e (word_in (layout g) 1 e) _ (extends_word g has alive 1 e) (λ one z. (1, and_one g (I.FrontOperate (step_operation op) new old one) z))) (λ y h.
          extends_then g h (converted_in_place (O.Scalar new) (type_of left).elem h) _ (converts new h) (λ y k. stores there new k fits)))

      stepped_fresh : (op : StepOp) (order : StepOrder) (there : Spot) (d f : Draft) → Fits (bare left) there → d.regs + 2 ≤ f.regs → IsFresh d (stepped_in g.typed (layout g) whole op order left there (O.Scalar d.regs) (O.Scalar (d.regs + 1)) f)
      unfolding stepped_in IsFresh
      stepped_fresh op Or.Prefix there d f fits more =
          fresh_then g has alive d f (stepped_at g.typed (layout g) whole op left there (O.Scalar (d.regs + 1)) (O.Scalar d.regs) f) (λ _ after. Makes (O.Scalar d.regs) after) (stepped_extends op there (d.regs + 1) d.regs f fits) (λ y e further. (omega arith, omega (arith, more, further)))
      stepped_fresh op Or.Postfix there d f fits more =
          fresh_then g has alive d f (stepped_at g.typed (layout g) whole op left there (O.Scalar d.regs) (O.Scalar (d.regs + 1)) f) (λ _ after. Makes (O.Scalar d.regs) after) (stepped_extends op there d.regs (d.regs + 1) f fits) (λ y e further. (omega arith, omega (arith, more, further)))

    pub store_fresh : (to : ValueType) (sending : Place) (op : AssignOp) (p q : Boxed) (value : TExpr) (bits : ℕ) → is_kept value ≡ true
        → ((m : ℕ) (d : Draft) → IsFresh d (value_of g.typed (layout g) m value d)) → ((m k : ℕ) (d : Draft) → Extends g d (operand_by g.typed (layout g) m (value_of g.typed (layout g) k value) true value d))
        → (d : Draft) → IsFresh d (value_of g.typed (layout g) bits (T.Assign' to sending op p left q value) d)
    unfolding is_send is_sent bare assigned_by plainly_set_by updated_by a_register then_make
    store_fresh to sending op p q value bits is fresh grows d =
        subst (λ (made : Made Out). IsFresh d made) (sym (store_code to sending op p q value bits d)) (fresh_lowest bits d _ (by (assign_op_of op)))
      where
        whole : TExpr
        whole = T.Assign' to sending op p left q value

        took : ℕ
        took = taken_bits bits op left value

        writes : Writes (where_ready (Unit {0}) g.typed g.instance (layout g) n) g.typed (layout g) whole left
        writes = assign_writes (Unit {0}) g.typed g.instance (layout g) n to sending op p left q value c.names (ap is_some scalar)

        by : (m : Option Op) → IsFresh d (assigned_by g.typed (layout g) whole took m sending left value None spot (λ b. value_of g.typed (layout g) took value b) d)
        by None = set_fresh whole writes (λ b. value_of g.typed (layout g) took value b) (fresh took) d
        by (Some o) =
            behind d (with_reg d) _ (λ there f fits more. fresh_then g has alive d f (operand_by g.typed (layout g) (operator_bits o None value) (λ b. value_of g.typed (layout g) took value b) true value f) _ (grows (operator_bits o None value) took f) (λ v h further.
            let signed : Bool = assigned_signed o ty.elem (type_of value).elem in
            subst (λ (b : Bool). IsFresh d (if b then register_updated g.typed (layout g) whole o signed sending left d.regs there v h else register_folded g.typed (layout g) whole left d.regs there v h)) (sym is)
            (updated_fresh whole writes o signed sending there v d h fits (omega (arith, more, further)))))

    pub step_fresh : (to : ValueType) (op : StepOp) (order : StepOrder) (p : Boxed) (bits : ℕ) (d : Draft) → IsFresh d (value_of g.typed (layout g) bits (T.Step' to op order p left) d)
    unfolding is_send is_sent bare
    step_fresh to op order p bits d =
        let whole : TExpr = T.Step' to op order p left in
        subst (λ (made : Made Out). IsFresh d made) (sym (single_step_code to op order p bits d))
        (behind d (with_reg (with_reg d)) _ (λ there f fits more. fresh_lowest bits d _ (stepped_fresh whole (step_writes (Unit {0}) g.typed g.instance (layout g) n to op order p left c.names (ap is_some scalar)) op order there d f fits (omega (arith, more)))))
