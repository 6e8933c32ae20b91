-- What an assignment leaves that folds a parallel value onto a scalar variable.
use Rattle.std.proofs.Common.{◌≡◌, ◌∙◌, ℕ, ◌≤◌, ◌&&◌, Bool, true, false, not, List, length, Option, Some, None, refl, sym, ap, subst, if◌then◌else◌, arith, ◌+◌}
use denote.Hole.Carrier
use Rattle.cstar_base.specs.declared.elem.Elem.{Elem}
use Rattle.cstar_base.specs.declared.faults.RunFault.TheVariants.{DivZero}
use Rattle.cstar_base.specs.declared.operators.Op.{Op}
use Rattle.cstar_base.specs.declared.operators.Place.{Place}
use Rattle.cstar_tree.specs.declared.syntax.AssignOp.{AssignOp}
use Rattle.cstar_tree.specs.declared.syntax.ReduceOp.{ReduceOp}
use Rattle.cstar_tree.specs.declared.typed.TExpr.{TExpr, out-TExpr}
use Rattle.cstar_tree.specs.declared.typed.TExpr as T
use Rattle.cstar_tree.specs.declared.typed.ValueType.{ValueType}
use Rattle.cstar_tree.specs.declared.typed.VarInfo.{VarInfo}
use Rattle.cstar_tree.specs.declared.typed.Variable.{Variable}
use Rattle.cstar_tree.specs.StatementTypes.{variable_info}
use Rattle.cstar_tree.specs.Typed.{type_of}
use Rattle.code_lengths.specs.Lowerable.{IsLowerable}
use Rattle.code_lengths.specs.Naming.{HasVariable, NamesVariables, plain}
use Rattle.code_lengths.specs.Ready.{IsReadyButForFields}
use Rattle.code_lengths.specs.Shaped.{IsShaped}
use Rattle.lower_base.specs.declared.emit.Out.{Out}
use Rattle.lower_base.specs.declared.emit.Out.TheVariants as O
use Rattle.lower_base.specs.Drafts.{Draft, Fails, Made, Makes, a_register, from, in_field, in_register, shortened, then_make, with_instr}
use Rattle.lower_base.specs.Kinds.{fold_bits, folded_kind, kind_of}
use Rattle.lower_base.specs.Layouts.{register_of}
use Rattle.lower_base.specs.Operators.{assign_op_of, fold_of, is_signed, operation_of, reduce_op_of}
use Rattle.lower_comm.specs.Messages.{assigned as assigned_in, communicated, folded_onto, part_field, part_register, with_fold, with_sign}
use Rattle.lower_expr.specs.declared.operands.Own.{Own}
use Rattle.lower_expr.specs.declared.spots.Spot.TheVariants as S
use Rattle.lower_expr.specs.Effects.{assignment_effect, effect_of, folds, variable_assigned, whole_of, writes_itself}
use Rattle.lower_expr.specs.Kinds.{assigned_bits, longer, operator_bits, reduced_bits}
use Rattle.lower_expr.specs.Lengths.{bare, is_send, is_sent}
use Rattle.lower_expr.specs.Spots.{loaded, stored as stored_at, variable_spot}
use Rattle.lower_expr.specs.Steps.{assigned_signed, is_kept, put_value}
use Rattle.lower_expr.specs.Values.{assign_by, assigned_by, lowest, next_of, register_folded, register_updated, spot_of, updated_by, value_of}
use Rattle.paris_code.specs.declared.instr.Instr.TheVariants as I
use Rattle.paris_code.specs.declared.operands.Field.{Field}
use Rattle.paris_code.specs.Code.{CodeState}
use Rattle.source_meaning.specs.Reductions.{folded_into}
use Rattle.source_meaning.specs.State as Source
use Rattle.source_meaning.specs.State.{Outcome, State, then_do, with_scalar}
use Rattle.source_meaning.specs.Targets.{OfScalar, assign_to, assigned, new_value, read, stored}
use Rattle.source_meaning.specs.Values.{Parallel, Scalar, Scope, Value, at, failing, number, positions, unless}
use Rattle.source_meaning.proofs.ConstantLaws.{Boxed}
use Rattle.vp_sets.specs.Positions.{position_count}
use Rattle.code_follows.specs.Fragment.{IsVariable, NamesAmong, naming}
use Rattle.code_follows.proofs.Changing.{scalar_type}
use Rattle.code_follows.proofs.Following.{Extends, Follows, HasRegisters, Sim, follows_same}
use Rattle.code_follows.proofs.Operators.{wide_signed}
use Rattle.code_follows.proofs.Settings.{Setting, layout}
use Rattle.code_follows.proofs.Targets.{TargetIs, assign_code, assign_means, bare_target, variable_in}
use Rattle.code_follows.proofs.Values.{and_register, with_reg}
use Rattle.fields_follow.specs.Fragment.{IsFoldOnto, IsScalarTarget, IsWide, assignment_of}
use Rattle.fields_follow.proofs.Folded.{Foldable, InField, folds_so}
use Rattle.fields_follow.proofs.Folds.{folding}
use Rattle.fields_follow.proofs.Forms.{HasItsCode}
use Rattle.fields_follow.proofs.Meaning.{as_shaped}
use Rattle.fields_follow.proofs.Outcomes.{Ended, Given, ended_on, given_through, meant, outcome_like}
use Rattle.fields_follow.proofs.Onto.{LeavesScalars, folds_onto, stored_in as stored_behind, stored_more}
use Rattle.fields_follow.proofs.Passing.{after_same, gives_from, made_after, then_after}
use Rattle.fields_follow.proofs.Places.{HoldsTheFields, PlacesFields}
use Rattle.fields_follow.proofs.Totals.{never_by_zero, operator_is}
use Rattle.fields_follow.proofs.Starts.{Starts, starts_later}

lowest_inside : (bits : ℕ) (made : Made Out) (next : Out → Draft → Made Out) → lowest bits (then_make made next) ≡ then_make made (λ v after. lowest bits (next v after))
unfolding lowest then_make
lowest_inside bits (Makes v e) next = refl
lowest_inside bits Fails next = refl

-- the target is a scalar variable that is alive
target_in : (g : Setting) (alive : Variable → Type 0) (target : TExpr) → IsScalarTarget target → NamesAmong alive target → IsVariable (naming g.may alive) target
unfolding IsScalarTarget NamesAmong IsVariable
target_in g alive (T.Variable ty x) is among = (is, among)
target_in g alive (T.Brackets' ty p inner) is among = (is.0, target_in g alive inner is.1 among)
target_in g alive _ is among = absurd is

-- what it does to the variable in the source
onto_means : (scope : Scope) (active : ℕ → ℕ → Bool) (place : Place) (reduction : ReduceOp) (elem : Elem) (from : ValueType) (set : ℕ) (x : Variable) (v : ℕ → ℕ) (st : State) → from.shape ≡ Some set
    → assigned scope active place (assignment_of reduction) (scalar_type elem) from (OfScalar x) (Parallel v) st
    ≡ Source.Gives (Scalar (folded_into (assignment_of reduction) elem from.elem (st.scalar x) (active set) v (positions scope set))) (with_scalar x (folded_into (assignment_of reduction) elem from.elem (st.scalar x) (active set) v (positions scope set)) st)
unfolding assigned failing unless assign_to new_value read stored number at
onto_means scope active place reduction elem from set x v st shaped =
    ap (λ (f : ValueType). assigned scope active place (assignment_of reduction) (scalar_type elem) f (OfScalar x) (Parallel v) st) (as_shaped from set shaped)
    ∙ ap (λ (b : Bool). unless (if b then Some None else None) DivZero place st (assign_to scope active (assignment_of reduction) (scalar_type elem) (record { elem = from.elem; shape = Some set }) (OfScalar x) (Parallel v) st)) (never_by_zero reduction (v 0))

module _ (g : Setting) (alive : Variable → Type 0) (n : ℕ) where
  module _ (target : TExpr) (v : TargetIs g alive n target) (ty : ValueType) (place : Place) (reduction : ReduceOp) (p q : Boxed) (value : TExpr) (set : ℕ) (kept : is_kept value ≡ false) (wide : IsWide set (type_of value)) where
    abbrev whole : TExpr
    whole = T.Assign' ty place (assignment_of reduction) p target q value

    abbrev own : ℕ
    own = register_of (layout g) v.variable

    abbrev operator : Op
    operator = reduce_op_of reduction

    abbrev behind : Draft → Out → Draft → Made Out
    behind d out after = lowest ty.elem.bits (register_folded g.typed (layout g) whole (bare_target g alive n target v) d.regs (S.Register own) out after)

    -- it is evaluated as a value, since the assignment does not write its variable itself
    as_value : (d : Draft) → effect_of g.typed (layout g) whole d ≡ value_of g.typed (layout g) ty.elem.bits whole d
    unfolding effect_of assignment_effect writes_itself folds
    as_value d =
        ap (λ (o : Option Own). written (elim o as (λ _. Option Own) [ Some own ↦ if writes_itself own (assignment_of reduction) (type_of target).elem value then Some own else None | None ↦ None ])) (v.own 1)
        ∙ ap (λ (k : Bool). written (if not (true && not k) && (elim (assign_op_of (assignment_of reduction)) as (λ _. Bool) [ None ↦ true | Some o ↦ true ]) then Some (record { shape = None; variable = v.variable }) else None)) kept
      where
        written : Option Own → Made Out
        written o = elim o as (λ _. Made Out) [
          | Some own ↦ then_make (whole_of g.typed (layout g) target own d) (λ dest after. variable_assigned g.typed (layout g) (assignment_of reduction) place target value dest after)
          | None ↦ value_of g.typed (layout g) ty.elem.bits whole d
        ]

    -- at so many bits the value is folded
    abbrev bits : ℕ
    bits = reduced_bits reduction value

    bits_are : operator_bits operator None value ≡ bits
    unfolding operator_bits
    bits_are = ap (λ (k : Bool). if k then 32 else fold_bits operator value) kept

    -- the code of the value, and what is behind it
    code_is : (d : Draft) → effect_of g.typed (layout g) whole d ≡ then_make (next_of g.typed (layout g) bits true value (with_reg d)) (λ out after. behind d out after)
    unfolding assign_by assigned_bits is_send bare is_sent assigned_by updated_by spot_of variable_spot then_make a_register
    code_is d =
        as_value d ∙ assign_code g alive n target v ty place (assignment_of reduction) p q value ty.elem.bits d
        ∙ ap (λ (m : Option Op). lowest ty.elem.bits (assigned_by g.typed (layout g) whole (bits_by m) m place bare_one value None (spot_of g.typed (layout g) bare_one) (λ b. value_of g.typed (layout g) (bits_by m) value b) d)) (operator_is reduction)
        ∙ ap (λ (b : ℕ). made b (is_kept value)) bits_are ∙ ap (λ (k : Bool). made bits k) kept
        ∙ lowest_inside ty.elem.bits (next_of g.typed (layout g) bits true value (with_reg d)) (λ out after. register_folded g.typed (layout g) whole bare_one d.regs (S.Register own) out after)
      where
        bare_one : TExpr
        bare_one = bare_target g alive n target v

        bits_by : Option Op → ℕ
        bits_by m = elim m as (λ _. ℕ) [ None ↦ longer ty.elem.bits (type_of target).elem.bits | Some o ↦ operator_bits o None value ]

        made : ℕ → Bool → Made Out
        made b k =
            lowest ty.elem.bits (then_make (next_of g.typed (layout g) b true value (with_reg d)) (λ out after.
            if k then register_updated g.typed (layout g) whole operator (assigned_signed operator (type_of target).elem (type_of value).elem) place bare_one d.regs (S.Register own) out after else register_folded g.typed (layout g) whole bare_one d.regs (S.Register own) out after))

    module _ (has : HasRegisters g) (names : NamesVariables g.typed g.instance n target) (d : Draft) (free : g.begins ≤ d.regs) where
      abbrev known : HasVariable g.typed g.instance n v.variable (plain (type_of target))
      known = v.named names

      abbrev info : VarInfo
      info = variable_info known.word (plain (type_of target)) known.start

      -- the type whose sign is put back
      abbrev sign : Option Elem
      sign = folded_kind (folding reduction (type_of value).elem.signed) (kind_of value)

      abbrev stored_in : Field → Draft → Draft
      stored_in f e = stored_behind g alive has d free v.variable info v.living (known.named, v.scalar) reduction (type_of value).elem wide.1 d.regs f sign e

      -- behind a value in a field it is folded and stored
      field_made : (f : Field) (e : Draft) → behind d (O.Field f) e ≡ Makes (O.Scalar d.regs) (stored_in f e)
      unfolding lowest shortened register_folded a_register then_make loaded in_register communicated assigned_in folded_onto part_field part_register from in_field out-TExpr Carrier.out with_fold stored_at put_value
      field_made f e =
          ap (λ (m : Option Op). made (elim m as (λ _. Op) [ None ↦ Op.Add | Some given ↦ given ]) (is_signed (type_of value).elem)) (operator_is reduction)
          ∙ ap (λ (signed : Bool). made operator signed) (wide_signed (type_of value).elem wide.1)
        where
          made : Op → Bool → Made Out
          made o signed =
              let between : Draft = with_instr (I.FrontMove e.regs own) (with_reg e) in
              Makes (O.Scalar d.regs) (with_instr (I.FrontMove own d.regs) (with_instr (I.FrontConvert d.regs d.regs (type_of target).elem)
              (with_instr (I.FrontOperate (operation_of o signed) d.regs e.regs between.regs) (with_sign (folded_kind (fold_of o signed) (kind_of value)) between.regs (with_instr (I.Global (fold_of o signed) between.regs f) (with_reg between))))))

      behind_grows : (out : Out) (e : Draft) → Extends g e (behind d out e)
      unfolding Extends lowest register_folded a_register then_make loaded in_register communicated assigned_in folded_onto part_field from in_field out-TExpr Carrier.out
      behind_grows (O.Field f) e = subst (λ (m : Made Out). Extends g e m) (sym (field_made f e)) (stored_more g alive has d free v.variable info v.living (known.named, v.scalar) reduction (type_of value).elem wide.1 d.regs f sign e)
      behind_grows (O.Scalar r) e = tt
      behind_grows O.Nothing e = tt

      module _ (places : PlacesFields g) (fields : HoldsTheFields g) (h : Foldable g alive places fields reduction set value) (st : State) where
        -- what the variable has then, over these extents
        abbrev stored_over : List ℕ → ℕ
        stored_over xs = folded_into (assignment_of reduction) (type_of target).elem (type_of value).elem (st.scalar v.variable) (fields.active set) (h.number st) (position_count xs)

        abbrev left : State
        left = with_scalar v.variable (stored_over (fields.scope.extents set)) st

        means_it : ty ≡ type_of target → meant g fields value st ≡ Source.Gives (Parallel (h.number st)) st → meant g fields whole st ≡ Source.Gives (Scalar (stored_over (fields.scope.extents set))) left
        unfolding then_do positions
        means_it same given =
            assign_means g alive n target v ty place (assignment_of reduction) p q value same fields.scope fields.active st
            ∙ ap (λ (o : Outcome Value). then_do o (λ w after. assigned fields.scope fields.active place (assignment_of reduction) (scalar_type (type_of target).elem) (type_of value) (OfScalar v.variable) w after)) given
            ∙ onto_means fields.scope fields.active place reduction (type_of target).elem (type_of value) set v.variable (h.number st) st wide.0

        ends_it : ty ≡ type_of target → (s : CodeState) → Ended g s (meant g fields value st) → Ended g s (meant g fields whole st)
        ends_it same s early =
            let behind_it : Ended g s (then_do (meant g fields value st) (λ w after. assigned fields.scope fields.active place (assignment_of reduction) (scalar_type (type_of target).elem) (type_of value) (OfScalar v.variable) w after)) =
            ended_on g s (meant g fields value st) (λ w after. assigned fields.scope fields.active place (assignment_of reduction) (scalar_type (type_of target).elem) (type_of value) (OfScalar v.variable) w after) early in
            record {
              early = behind_it.early;
              state = behind_it.state;
              is = assign_means g alive n target v ty place (assignment_of reduction) p q value same fields.scope fields.active st ∙ behind_it.is;
              finishes = behind_it.finishes;
            }

        leaves_it : ty ≡ type_of target → (s : CodeState) → Starts g alive s (length d.code) d.regs (length d.fields) → Sim g alive st s → Follows g (λ x u out f. LeavesScalars g alive d s st u f) s (meant g fields whole st) (effect_of g.typed (layout g) whole d)
        leaves_it same s here sim =
            outcome_like g s (meant g fields value st) (h.number st) st (meant g fields whole st) (Scalar (stored_over (fields.scope.extents set))) left R (λ x u out f. LeavesScalars g alive d s st u f) (effect_of g.typed (layout g) whole d)
            (λ given. means_it same given) (λ early. ends_it same s early) (λ out f said. said)
            (follows_same g (Given g (h.number st) st R) s refl (code_is d)
            (given_through g s (meant g fields value st) (h.number st) st (InField g alive bits set (h.number st) (with_reg d) s st) R (next_of g.typed (layout g) bits true value (with_reg d)) (λ out after. behind d out after) behind_grows
            (λ part given. then_after g (InField g alive bits set (h.number st) (with_reg d) s st) R part (λ out after. behind d out after) given behind_grows
            (λ out e (f, (is, gives)). after_same g R (ap (λ (o : Out). behind d o e) is ∙ field_made f e) (made_after g R (O.Scalar d.regs) (stored_in f e) (λ within.
            let regs = gives.passes.grown.1.regs in
            folds_onto g alive has d free v.variable info v.living (known.named, v.scalar) reduction (type_of value).elem wide.1 d.regs f sign places fields set (h.number st) bits (h.folds s st sim) e s st (stored_over (fields.scope.extents set))
            (λ exists. ap stored_over (sym (fields.same_extents set exists))) (omega arith) (omega (arith, regs)) (gives_from g alive bits (length d.fields) d (with_reg d) e s set st (h.number st) f (and_register d) gives) within))))
            (h.gives (with_reg d) s st (starts_later g alive s s (length d.code) d.regs (length d.fields) (length d.code) (d.regs + 1) (length d.fields) (omega arith) (omega arith) (omega arith) here.stands here) sim)))
          where
            R : Out → Draft → Type 0
            R out f = LeavesScalars g alive d s st left f

  module _ (has : HasRegisters g) (ready : (d : Draft) → IsReadyButForFields g.typed g.instance (layout g) n d) (places : PlacesFields g) (fields : HoldsTheFields g) where
    -- its code leaves the state that it gives in the source
    abbrev OntoLeaves : TExpr → Draft → CodeState → State → Type 0
    OntoLeaves e d s st = Follows g (λ x u out f. LeavesScalars g alive d s st u f) s (meant g fields e st) (effect_of g.typed (layout g) e d)

    pub onto_leaves : (e : TExpr) → IsFoldOnto e → HasItsCode g.typed g.instance alive n e → (d : Draft) (s : CodeState) (st : State) → g.begins ≤ d.regs → Starts g alive s (length d.code) d.regs (length d.fields) → Sim g alive st s → OntoLeaves e d s st
    unfolding IsFoldOnto NamesVariables IsShaped IsLowerable NamesAmong
    onto_leaves (T.Assign' ty place op p target q value) is c d s st free here sim =
        subst (λ (o : AssignOp). OntoLeaves (T.Assign' ty place o p target q value) d s st) (sym is.2.1.0) (leaves_it target v ty place is.2.0 p q value is.2.1.1.0 h.kept h.wide has names d free places fields h st is.0 s here sim)
      where
        names : NamesVariables g.typed g.instance n target
        names = c.code.names.0

        h : Foldable g alive places fields is.2.0 is.2.1.1.0 value
        h = folds_so g has alive n ready places fields is.2.0 is.2.1.1.0 value (record { code = record { shaped = c.code.shaped.3; lowerable = c.code.lowerable.3; names = c.code.names.1 }; among = c.among.1 }) is.2.1.1.1

        v : TargetIs g alive n target
        v = variable_in g alive n target (target_in g alive target is.1 c.among.0)
    onto_leaves _ is c d s st free here sim = absurd is
