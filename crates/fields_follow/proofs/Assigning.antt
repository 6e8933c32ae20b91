-- Assignments to parallel variables: what comes last writes the variable, and then it has what the source stores.
use Rattle.std.proofs.Common.{◌⊎◌, ◌≡◌, ◌∙◌, ℕ, ◌+◌, ◌<◌, ◌%◌, ◌^◌, ◌==◌, ◌&&◌, Bool, true, false, not, length, Option, Some, None, refl, sym, ap, subst, arith, inl, inr, if◌then◌else◌}
use Rattle.std.proofs.lemmas.Bool.{eq-eqb}
use Rattle.std.proofs.lemmas.Nat.{mod_below, pow_pos}
use Rattle.cstar_base.specs.declared.elem.Elem.{Elem}
use Rattle.cstar_base.specs.declared.operators.Op.{Op}
use Rattle.cstar_base.specs.declared.operators.Place.{Place}
use Rattle.cstar_base.specs.declared.faults.RunFault.TheVariants.{DivZero}
use Rattle.cstar_base.specs.Operators.{divides, outcome}
use Rattle.cstar_tree.specs.declared.syntax.AssignOp.{AssignOp}
use Rattle.cstar_tree.specs.declared.syntax.AssignOp.TheVariants as A
use Rattle.cstar_tree.specs.declared.typed.TExpr.{TExpr}
use Rattle.cstar_tree.specs.declared.typed.TExpr as T
use Rattle.cstar_tree.specs.declared.typed.ValueType.{ValueType}
use Rattle.cstar_tree.specs.declared.typed.VarInfo.{VarInfo}
use Rattle.cstar_tree.specs.declared.typed.Variable.{Variable}
use Rattle.cstar_tree.specs.Typed.{type_of}
use Rattle.code_lengths.specs.Lowerable.{IsLowerable}
use Rattle.code_lengths.specs.Naming.{NamesVariables}
use Rattle.code_lengths.specs.Ready.{IsReadyButForFields}
use Rattle.code_lengths.specs.Shaped.{IsShaped}
use Rattle.lower_base.specs.declared.emit.Out.{Out}
use Rattle.lower_base.specs.declared.emit.Out.TheVariants as O
use Rattle.lower_base.specs.Drafts.{Draft, Made, Makes, first_bits, then_make, with_instr}
use Rattle.lower_base.specs.Kinds.{bits_of, is_bitwise, kind_of}
use Rattle.lower_base.specs.Operators.{assign_op_of}
use Rattle.lower_expr.specs.declared.operands.Own.{Own}
use Rattle.lower_expr.specs.Effects.{assignment_effect, assigned_own, effect_of, folds, put_to, variable_assigned, variable_operated, whole_of, writes_itself}
use Rattle.lower_expr.specs.Kinds.{operation_bits, works_within}
use Rattle.lower_expr.specs.Operands.{own_of, standing}
use Rattle.lower_expr.specs.Steps.{assigned_signed}
use Rattle.lower_expr.specs.Values.{value_of}
use Rattle.paris_code.specs.declared.instr.Instr.{Instr}
use Rattle.paris_code.specs.declared.operands.Field.{Field}
use Rattle.paris_code.specs.Code.{CodeState}
use Rattle.paris_code.specs.Memory.{processors}
use Rattle.source_meaning.specs.Reductions.{updated}
use Rattle.source_meaning.specs.State as Source
use Rattle.source_meaning.specs.State.{Gives, Outcome, State, with_positions}
use Rattle.source_meaning.specs.Targets.{OfElement, assigned}
use Rattle.source_meaning.specs.Values.{Parallel, Value}
use Rattle.source_meaning.proofs.ConstantLaws.{Boxed}
use Rattle.code_follows.proofs.Following.{HasRegisters, Sim, delayed, follows_same, held, nothing_said}
use Rattle.code_follows.proofs.Growing.{extended}
use Rattle.code_follows.proofs.Settings.{Setting, Within, and_one, earlier, layout}
use Rattle.code_follows.proofs.Values.{extends_grown}
use Rattle.fields_follow.specs.Fragment.{HasOperation, IsOperation, IsTarget}
use Rattle.fields_follow.proofs.Clearing.{field_at}
use Rattle.fields_follow.proofs.Dividing.{zero_at, zero_there}
use Rattle.fields_follow.proofs.Forms.{HasItsCode}
use Rattle.fields_follow.proofs.Instructions.{Puts, operation_below, shapes}
use Rattle.fields_follow.proofs.Lengths.{Keeps}
use Rattle.fields_follow.proofs.Outcomes.{Ended, meant, outcome_follows}
use Rattle.fields_follow.proofs.Leaving.{Leaves, PassesTests, UpdateLeaves}
use Rattle.fields_follow.proofs.Passing.{After, Passes, after_same}
use Rattle.fields_follow.proofs.PassingTests.{tests_passed}
use Rattle.fields_follow.proofs.Places.{HoldsTheFields, PlacesFields}
use Rattle.fields_follow.proofs.Updates.{Targets, assign_ends, assign_means, assigned_divides, assigned_is, divides_as, divides_never, targets, updated_is}
use Rattle.fields_follow.proofs.Totals.{held_below}
use Rattle.fields_follow.proofs.Values.{Finds, FindsOrFails, finds_read, starts_found}
use Rattle.fields_follow.proofs.VariableWrites.{entry_and_below, leaves_from, takes_has, writes_leave}
use Rattle.fields_follow.proofs.Variables.{Carries}
use Rattle.fields_follow.proofs.Writing.{Lands, TakesBehind, instr_takes, lands_here, takes_landed}
use Rattle.fields_follow.proofs.Effects.{CarriesFrom, GivesOperand, in_place_last}
use Rattle.code_follows.specs.Fragment.{NamesAmong}
use Rattle.fields_follow.proofs.Starts.{Starts}
use Rattle.code_lengths.proofs.Agreeing.{lengths_if_made}

module _ (g : Setting) (has : HasRegisters g) (alive : Variable → Type 0) (n : ℕ) (ready : (d : Draft) → IsReadyButForFields g.typed g.instance (layout g) n d) (places : PlacesFields g) (fields : HoldsTheFields g) where
  -- ---- what comes last writes the variable

  -- With the entry for it before, which code finds, it leaves a state that has what the source stores.
  module _ (set : ℕ) (y : Variable) (info : VarInfo) (living : alive y) (d : Draft) (inside : Within g d) (found : Finds g has alive n ready places fields set y info d) where
    abbrev pub variable : Field
    variable = field_at set found.f.offset info.elem.bits

    pub carried : CarriesFrom g has alive n ready places fields y info set variable found.e
    carried e m more within = subst (λ (f : Field). Carries g alive y info set f) (found.whole inside) (found.carries e m more within)

    -- the variable with all its bits is that entry
    pub variable_is : (target : TExpr) (next : Out → Draft → Made Out) → (type_of target).elem ≡ info.elem → then_make (whole_of g.typed (layout g) target (record { shape = Some set; variable = y }) d) next ≡ next (O.Field variable) found.e
    unfolding standing then_make first_bits
    variable_is target next same =
        ap (λ (elem : Elem). then_make (standing g.typed (layout g) elem.bits (record { shape = Some set; variable = y }) d) next) same
        ∙ ap (λ (m : Made Field). then_make (then_make m (λ f after. Makes (O.Field (first_bits info.elem.bits f)) after)) next) found.is
        ∙ ap (λ (f : Field). next (O.Field (record f { len = info.elem.bits })) found.e) (found.whole inside)

    -- the numbers are the lowest bits of the words that are put, and beyond the positions too they are of the type
    abbrev AreStored : (ℕ → ℕ) → (ℕ → ℕ) → Type 0
    AreStored v w = ((p : ℕ) → p < processors (shapes g) set → v p < 2 ^ 32 → w p ≡ v p % 2 ^ info.elem.bits) × ((p : ℕ) → w p < 2 ^ info.elem.bits)

    pub leaves : (s : CodeState) (st : State) (v w : ℕ → ℕ) → AreStored v w → (e2 f : Draft) (used : Type 0) → Within g f → (p : PassesTests g alive found.e e2 s st used) → used → TakesBehind g set variable e2 f p.t v → Leaves g alive d f s (with_positions y 0 (fields.active set) w st)
    leaves s st v w same e2 f used within p wanted last =
        let c : Carries g alive y info set variable = carried f (p.grown.0 + last.behind.more.0) (extended found.e e2 f p.grown.0 last.behind.more.0 p.grown.1 last.behind.more.1) within in
        leaves_from g alive d found.e f s (with_positions y 0 (fields.active set) w st) found.grown
        (writes_leave g places fields alive y info set variable c living found.e e2 f s st used p wanted last.takes.write last.behind (fields.active set) w
        (takes_has g places fields alive y info set variable c living p.t st p.sim v w last.takes (length e2.code) last.behind.place p.at.stands last.behind.later last.behind.named same.0) same.1)

    -- by an instruction behind code of values alone, where it lands behind that
    pub leaves_value : (s : CodeState) (st : State) (v w : ℕ → ℕ) → AreStored v w → (e2 : Draft) (i : Instr) (end : Draft) → Within g end → (p : Passes g alive (length found.e.fields) found.e e2 s st (Unit {0})) → Puts g set i variable p.t v → Lands g (with_instr i e2) end → Leaves g alive d end s (with_positions y 0 (fields.active set) w st)
    unfolding tests_passed
    leaves_value s st v w same e2 i end within p puts lands =
        let there : Within g (with_instr i e2) = earlier g (with_instr i e2) end lands.more.0 lands.more.1 within in
        leaves s st v w same e2 end (Unit {0}) within (tests_passed g alive (length found.e.fields) found.e e2 s st (Unit {0}) (omega arith) p) tt
        (takes_landed g set variable e2 (with_instr i e2) end p.t v lands (instr_takes g set i variable e2 p.t v (entry_and_below g places fields alive y info set variable (carried (with_instr i e2) (p.grown.0 + 1) (extended found.e e2 (with_instr i e2) p.grown.0 1 p.grown.1 (and_one g i e2)) there)) there p.at.stands puts))

  -- what an assignment without an operator stores
  pub plainly : (op : AssignOp) (to from : Elem) (old w : ℕ) → assign_op_of op ≡ None → updated op to from old w ≡ w
  unfolding assign_op_of updated
  plainly A.Set to from old w e = refl
  plainly A.Add to from old w e = cc
  plainly A.Sub to from old w e = cc
  plainly A.Mul to from old w e = cc
  plainly A.Div to from old w e = cc
  plainly A.Rem to from old w e = cc
  plainly A.Mod to from old w e = cc
  plainly A.And to from old w e = cc
  plainly A.Or to from old w e = cc
  plainly A.Xor to from old w e = cc
  plainly A.Shl to from old w e = cc
  plainly A.Shr to from old w e = cc
  plainly A.Min to from old w e = cc
  plainly A.Max to from old w e = cc

  pub own_is : (set : ℕ) (y : Variable) (op : AssignOp) (target value : TExpr) → own_of 1 target ≡ Some (record { shape = Some set; variable = y }) → HasOperation op (type_of target).elem value → assigned_own op target value ≡ Some (record { shape = Some set; variable = y })
  unfolding writes_itself folds works_within
  own_is set y op target value own known =
      ap (λ (o : Option Own). elim o as (λ _. Option Own) [ Some own ↦ if writes_itself own op (type_of target).elem value then Some own else None | None ↦ None ]) own ∙ by (assign_op_of op) known
    where
      mine : Own
      mine = record { shape = Some set; variable = y }

      elem : Elem
      elem = (type_of target).elem

      works : Op → Type 0
      works o = ((elem.bits == 1) ≡ false) × (operation_bits elem.bits o value ≡ elem.bits)

      within : (o : Op) → works o → (if elem.bits == 1 then is_bitwise o && bits_of (kind_of value) == 1 else operation_bits elem.bits o value == elem.bits) ≡ true
      within o h = ap (λ (b : Bool). if b then is_bitwise o && bits_of (kind_of value) == 1 else operation_bits elem.bits o value == elem.bits) h.0 ∙ eq-eqb (operation_bits elem.bits o value) elem.bits h.1

      by : (o : Option Op) → (elim o as (λ _. Type 0) [ None ↦ (type_of value).elem.bits ≡ elem.bits | Some o ↦ IsOperation o value × ((type_of value).elem.bits ≡ 32) × ((elem.bits == 1) ≡ false) × (operation_bits elem.bits o value ≡ elem.bits) ])
          → (if elim o as (λ _. Bool) [ None ↦ true | Some x ↦ works_within elem x value ] then Some mine else None) ≡ Some mine
      by None h = refl
      by (Some x) h = ap (λ (b : Bool). if b then Some mine else None) (within x (h.2, h.3))

  -- ---- where an assignment or a step begins

  pub record Begins (set : ℕ) (target : TExpr) (d : Draft) (s : CodeState) (st : State) : Type 0 where
    pub to : Targets g.typed g.instance alive set target
    pub inside : Within g d
    pub found : Finds g has alive n ready places fields set to.x to.info d
    pub here : Starts g alive s (length found.e.code) found.e.regs (length found.e.fields)
    pub sim : Sim g alive st s

  abbrev pub entry_of : (set : ℕ) (target : TExpr) (d : Draft) (s : CodeState) (st : State) → Begins set target d s st → Field
  entry_of set target d s st b = variable set b.to.x b.to.info b.to.living d b.inside b.found

  -- its code finds the entry of the variable, or there is none
  pub where_found : (e target : TExpr) (set : ℕ) (next : Out → Draft → Made Out) (d : Draft) (s : CodeState) (st : State) → (to : Targets g.typed g.instance alive set target) → HasItsCode g.typed g.instance alive n e → effect_of g.typed (layout g) e d ≡ then_make (whole_of g.typed (layout g) target (record { shape = Some set; variable = to.x }) d) next
      → Starts g alive s (length d.code) d.regs (length d.fields) → Sim g alive st s → (Begins set target d s st → UpdateLeaves g alive fields e d s st) → UpdateLeaves g alive fields e d s st
  unfolding standing then_make
  where_found e target set next d s st to c code here sim follows =
      delayed g R d s (meant g fields e st) (effect_of g.typed (layout g) e d) (extends_grown g has alive _ d _ _ ((lengths_if_made g.typed g.instance (layout g)).effect n e d c.code (ready d)))
      (λ inside. by inside (finds_read g has alive n ready places fields set to.x to.info d to.read to.living to.known to.parallel to.one s st sim))
    where
      R : Value → State → Out → Draft → Type 0
      R v u out f = Leaves g alive d f s u

      by : Within g d → FindsOrFails g has alive n ready places fields set to.x to.info d → UpdateLeaves g alive fields e d s st
      by inside (inl fails) = follows_same g R s refl (code ∙ ap (λ (m : Made Field). then_make (then_make m (λ f after. Makes (O.Field (first_bits (type_of target).elem.bits f)) after)) next) fails) (nothing_said g R s (meant g fields e st))
      by inside (inr found) = follows (record { to = to; inside = inside; found = found; here = starts_found g has alive n ready places fields set to.x to.info d s found here; sim = sim })

  -- ---- assignments

  module _ (ty : ValueType) (place : Place) (op : AssignOp) (p q : Boxed) (target value : TExpr) (set : ℕ) (same : ty ≡ type_of target) (operates : HasOperation op ty.elem value) where
    abbrev whole : TExpr
    whole = T.Assign' ty place op p target q value

    effect_is : (d : Draft) (to : Targets g.typed g.instance alive set target) → effect_of g.typed (layout g) whole d ≡ then_make (whole_of g.typed (layout g) target (record { shape = Some set; variable = to.x }) d) (λ dest after. variable_assigned g.typed (layout g) op place target value dest after)
    unfolding effect_of assignment_effect
    effect_is d to =
        ap (λ (o : Option Own). elim o as (λ _. Made Out) [ Some own ↦ then_make (whole_of g.typed (layout g) target own d) (λ dest after. variable_assigned g.typed (layout g) op place target value dest after) | None ↦ value_of g.typed (layout g) ty.elem.bits (T.Assign' ty place op p target q value) d ])
        (own_is set to.x op target value to.own (subst (λ (y : ValueType). HasOperation op y.elem value) same operates))

    pub where_assigned : IsTarget set target → HasItsCode g.typed g.instance alive n whole → (d : Draft) (s : CodeState) (st : State) → Starts g alive s (length d.code) d.regs (length d.fields) → Sim g alive st s → (Begins set target d s st → HasItsCode g.typed g.instance alive n value → UpdateLeaves g alive fields whole d s st)
        → UpdateLeaves g alive fields whole d s st
    unfolding NamesVariables IsShaped IsLowerable NamesAmong
    where_assigned is_target c d s st here sim follows =
        let to = targets g.typed g.instance alive n set target is_target c.code.names.0 c.among.0 in
        where_found whole target set (λ dest after. variable_assigned g.typed (layout g) op place target value dest after) d s st to c (effect_is d to) here sim
        (λ b. follows b (record { code = record { shaped = c.code.shaped.3; lowerable = c.code.lowerable.3; names = c.code.names.1 }; among = c.among.1 }))

    module _ (d : Draft) (s : CodeState) (st : State) (b : Begins set target d s st) where
      pub is_elem : ty.elem ≡ b.to.info.elem
      is_elem = ap (λ (y : ValueType). y.elem) same ∙ b.to.elem

      pub shaped : ty.shape ≡ Some set
      shaped = ap (λ (y : ValueType). y.shape) same ∙ b.to.shape

      abbrev bits : ℕ
      bits = b.to.info.elem.bits

      abbrev f : Field
      f = entry_of set target d s st b

      abbrev pub code : Option Op → Made Out
      code o = elim o as (λ _. Made Out) [ None ↦ put_to g.typed (layout g) (O.Field f) value b.found.e | Some x ↦ variable_operated g.typed (layout g) x place target value (O.Field f) b.found.e ]

      pub code_is : effect_of g.typed (layout g) whole d ≡ code (assign_op_of op)
      code_is = effect_is d b.to ∙ variable_is set b.to.x b.to.info b.to.living d b.inside b.found target (λ dest after. variable_assigned g.typed (layout g) op place target value dest after) b.to.elem

      -- of a value with these numbers, if the source gives it
      module _ (number : ℕ → ℕ) where
        abbrev old : ℕ → ℕ
        old = λ y. st.parallel b.to.x 0 y

        abbrev pub stored : ℕ → ℕ
        stored = λ y. updated op ty.elem (type_of value).elem (old y) (number y)

        abbrev u : State
        u = with_positions b.to.x 0 (fields.active set) stored st

        abbrev o : Outcome Value
        o = meant g fields whole st

        abbrev pub IsGiven : Type 0
        IsGiven = meant g fields value st ≡ Gives (Parallel number) st

        abbrev pub Q : Out → Draft → Type 0
        Q out e = ((o ≡ Gives (Parallel stored) u) × Leaves g alive d e s u) ⊎ Ended g s o

        pub assigned_follows : After g Q (code (assign_op_of op)) → UpdateLeaves g alive fields whole d s st
        assigned_follows h =
            outcome_follows g s o (Parallel stored) u (λ out e. Leaves g alive d e s u) (λ v t out e. Leaves g alive d e s t) (effect_of g.typed (layout g) whole d) (λ out e said. said) (after_same g Q code_is h)

        stored_then : IsGiven → o ≡ assigned fields.scope fields.active place op ty (type_of value) (OfElement b.to.x 0 set) (Parallel number) st
        stored_then given = assign_means fields.scope fields.active set ty place op p q target value b.to.x number st (b.to.means fields.scope fields.active st) given

        pub plain_given : assign_op_of op ≡ None → IsGiven → o ≡ Gives (Parallel stored) u
        plain_given none given = stored_then given ∙ assigned_is fields.scope fields.active set b.to.x place op ty (type_of value) number st shaped (λ y. divides_never op (number y) none)

        pub value_ended : Ended g s (meant g fields value st) → Ended g s o
        value_ended early = record {
          early = early.early;
          state = early.state;
          is = assign_ends fields.scope fields.active set ty place op p q target value b.to.x early.early early.state st (b.to.means fields.scope fields.active st) early.is;
          finishes = early.finishes;
        }

        -- without an operator, where the last instruction puts words with these lowest bits
        pub plain_after : assign_op_of op ≡ None → (v : ℕ → ℕ) → ((y : ℕ) → number y < 2 ^ bits) → ((y : ℕ) → number y ≡ v y % 2 ^ bits)
            → ((IsGiven → (e2 : Draft) (i : Instr) (end : Draft) → Within g end → (passes : Passes g alive (length b.found.e.fields) b.found.e e2 s st (Unit {0})) → Puts g set i f passes.t v → Lands g (with_instr i e2) end → Q (O.Field f) end) → (Ended g s (meant g fields value st) → (x : Out) (e : Draft) → Q x e) → After g Q (put_to g.typed (layout g) (O.Field f) value b.found.e))
            → After g Q (code (assign_op_of op))
        plain_after none v few lowest last =
            let plain : (y : ℕ) → stored y ≡ number y = λ y. plainly op ty.elem (type_of value).elem (old y) (number y) none in
            after_same g Q (ap code none)
            (last (λ given e2 i end within passes puts lands. inl (plain_given none given, leaves_value set b.to.x b.to.info b.to.living d b.inside b.found s st v stored ((λ y below small. plain y ∙ lowest y), λ y. subst (λ (m : ℕ). m < 2 ^ bits) (sym (plain y)) (few y)) e2 i end within passes puts lands)) (λ early x e. inr (value_ended early)))

        -- with one: its code writes the variable in place
        abbrev by_zero : Option ℕ → Outcome Value
        by_zero z = elim z as (λ _. Outcome Value) [ None ↦ Gives (Parallel stored) u | Some y ↦ Source.Ends (Source.Fault DivZero place (Some y)) st ]

        divided_so : (x : Op) → assign_op_of op ≡ Some x → IsGiven → set < length (shapes g) → divides x ≡ true → o ≡ by_zero (zero_at g fields set number)
        divided_so x is given there divided =
            stored_then given
            ∙ assigned_divides fields.scope fields.active set b.to.x place op ty (type_of value) number st shaped (λ y. divides_as op x (number y) is ∙ ap (λ (c : Bool). c && number y == 0) divided)
            ∙ ap by_zero (zero_there g fields set number number there (λ y below. refl))

        operator_given : (x : Op) → assign_op_of op ≡ Some x → IsGiven → set < length (shapes g) → (divides x ≡ true → zero_at g fields set number ≡ None) → o ≡ Gives (Parallel stored) u
        operator_given x is given there never = by (divides x) refl
          where
            by : (c : Bool) → divides x ≡ c → o ≡ Gives (Parallel stored) u
            by true divided = divided_so x is given there divided ∙ ap by_zero (never divided)
            by false plain = stored_then given ∙ assigned_is fields.scope fields.active set b.to.x place op ty (type_of value) number st shaped (λ y. divides_as op x (number y) is ∙ ap (λ (c : Bool). c && number y == 0) plain)

        pub operator_after : (x : Op) → assign_op_of op ≡ Some x → IsOperation x value × ((type_of value).elem.bits ≡ 32) × ((ty.elem.bits == 1) ≡ false) × (operation_bits ty.elem.bits x value ≡ ty.elem.bits) → ((y : ℕ) → number y < 2 ^ 32) → ((signed : Bool) (y : ℕ) → Keeps x signed (operation_bits bits x value) (number y))
            → GivesOperand g has alive n ready places fields bits set x value st number number → HasItsCode g.typed g.instance alive n value → After g Q (code (assign_op_of op))
        unfolding variable_operated
        operator_after x is known few keeps right c =
            let signed : Bool = assigned_signed x (type_of target).elem (type_of value).elem in
            let given_by : ℕ → ℕ = λ y. outcome x 32 (not signed) (held b.to.info.elem (old y)) (number y) in
            let operated : (y : ℕ) → stored y ≡ given_by y % 2 ^ bits = λ y.
            ap (λ (e : Elem). updated op e (type_of value).elem (old y) (number y)) is_elem
            ∙ updated_is op x b.to.info.elem (type_of value).elem (old y) (number y) is (ap (λ (e : Elem). e.bits == 1) (sym is_elem) ∙ known.2) known.1
            (operation_below x (assigned_signed x b.to.info.elem (type_of value).elem) (held b.to.info.elem (old y)) (number y) known.0.0 (held_below b.to.info.elem (old y)) (few y))
            ∙ ap (λ (e : Elem). outcome x 32 (not (assigned_signed x e (type_of value).elem)) (held b.to.info.elem (old y)) (number y) % 2 ^ bits) (sym b.to.elem) in
            after_same g Q (ap code is)
            (in_place_last g has alive n ready places fields set b.found.f.offset b.to.x b.to.info x signed place value number number b.found.e s st (carried set b.to.x b.to.info b.to.living d b.inside b.found) known.0.0 (subst (λ (e : Elem). operation_bits e.bits x value ≡ e.bits) is_elem known.3) (λ y. keeps signed y) right c b.here b.sim Q
            (λ given there never e2 i within passes puts. inl (
              operator_given x is given there never,
              leaves_value set b.to.x b.to.info b.to.living d b.inside b.found s st given_by stored ((λ y below small. operated y), λ y. subst (λ (m : ℕ). m < 2 ^ bits) (sym (operated y)) (mod_below (given_by y) (2 ^ bits) (pow_pos bits))) e2 i (with_instr i e2) within passes puts (lands_here g (with_instr i e2)),
            )) (λ early z e. inr (value_ended early))
            (λ given there divided y none finishes z e. inr (record { early = Source.Fault DivZero place (Some y); state = st; is = divided_so x is given there divided ∙ ap by_zero none; finishes = finishes })))
