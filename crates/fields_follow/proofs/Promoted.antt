-- Promoted scalars: a constant, or one that is computed in a register.
use Rattle.std.proofs.Common.{◌≡◌, ◌∙◌, ℕ, ◌⊎◌, inl, inr, Bool, true, length, Option, Some, None, sym, ap, subst, ◌&&◌, ◌==◌, false, if◌then◌else◌, refl}
use Rattle.communication_laws.proofs.Indexes.{both}
use Rattle.cstar_base.specs.Numbers.{converted}
use Rattle.cstar_tree.specs.declared.typed.TExpr.{TExpr}
use Rattle.cstar_tree.specs.declared.typed.TExpr as T
use Rattle.cstar_tree.specs.declared.typed.ValueType.{ValueType}
use Rattle.cstar_tree.specs.declared.typed.Variable.{Variable}
use Rattle.cstar_tree.specs.Typed.{type_of}
use Rattle.code_lengths.specs.Lowerable.{IsLowerable}
use Rattle.code_lengths.specs.Naming.{NamesVariables}
use Rattle.code_lengths.specs.Ready.{HasCode, IsReadyButForFields}
use Rattle.code_lengths.specs.Shaped.{IsShaped}
use Rattle.lower_base.specs.declared.emit.Out.{Out}
use Rattle.lower_base.specs.declared.emit.Out.TheVariants as O
use Rattle.lower_base.specs.Drafts.{Draft, Fails, Made, Makes, then_make}
use Rattle.lower_base.specs.Kinds.{kind_of}
use Rattle.lower_expr.specs.declared.operands.Own.{Own}
use Rattle.lower_expr.specs.Effects.{bits_for, computed_to, moved}
use Rattle.lower_expr.specs.Kinds.{is_unchanged}
use Rattle.lower_expr.specs.Operands.{held as held_in, ignores_context, in_place, operand_by, own_of, standing}
use Rattle.lower_expr.specs.Steps.{is_kept, put_value, register_word, word_of}
use Rattle.lower_expr.specs.Values.{value_of}
use Rattle.paris_code.specs.declared.operands.Field.{Field}
use Rattle.paris_code.specs.declared.operands.Konst.TheVariants as K
use Rattle.paris_code.specs.Code.{CodeState}
use Rattle.quiet_operands.proofs.Contexts.{ignored}
use Rattle.source_meaning.specs.Constants as Const
use Rattle.source_meaning.specs.Constants.{constant_of, then_value, is_constant}
use Rattle.source_meaning.specs.Expressions.{evaluated, mapped}
use Rattle.source_meaning.specs.Reductions.{int_type}
use Rattle.source_meaning.specs.State as Source
use Rattle.source_meaning.specs.State.{Gives, Outcome, State, then_do}
use Rattle.source_meaning.specs.Values.{Active, Parallel, Scalar, Scope, Value, at}
use Rattle.code_follows.specs.Fragment.{NamesAmong, IsIn}
use Rattle.code_follows.proofs.Following.{Follows, HasRegisters, Sim, follows_same, held, knowing, then_gives}
use Rattle.code_follows.proofs.Settings.{Setting, layout}
use Rattle.fields_follow.specs.Fragment.{IsCalm, IsConstant, IsPromoted, IsChanging, IsFold, IsRegistered, calling_nothing}
use Rattle.fields_follow.proofs.Calm.{calm_same}
use Rattle.fields_follow.proofs.Forms.{HasItsCode, HasItsWord, constant_word, not_held, promoted_not_held}
use Rattle.fields_follow.proofs.Instructions.{extents}
use Rattle.fields_follow.proofs.Meaning.{computed_in, constant_means, given_in, mapped_is, nobody, nowhere, scalar_in, value_in, word_at}
use Rattle.fields_follow.proofs.Outcomes.{Given, given_follows, meant}
use Rattle.fields_follow.proofs.Passing.{After}
use Rattle.fields_follow.proofs.Places.{HoldsTheFields}
use Rattle.fields_follow.proofs.Scalars.{GivesScalar, scalar_follows, value_follows}
use Rattle.fields_follow.proofs.Spreading.{GivesWord}
use Rattle.fields_follow.proofs.Starts.{Starts}
use Rattle.lower_base.specs.Constants.{constant_register}
use Rattle.source_meaning.proofs.ConstantLaws.{Boxed}
use Rattle.std.specs.Prelude.{is_none}

-- what an outcome gives, whatever surrounds it
unfoldable pub ignoring : (scope : Scope) (active : Active) (e : TExpr) (st : State) → IsCalm e → ignores_context e ≡ true → evaluated scope e active st ≡ Gives (given_in (evaluated nowhere e nobody st)) st
unfolding given_in
ignoring scope active e st calm free =
    let same : evaluated scope e active st ≡ evaluated nowhere e nobody st = calm_same scope nowhere active nobody e calm st in
    let gives = ignored scope e active active st free in
    gives ∙ ap (λ (v : Value). Gives v st) (ap (λ (o : Outcome Value). given_in o) (sym gives) ∙ ap (λ (o : Outcome Value). given_in o) same)

-- one that ignores the context has its value, and never fails
pub promoted_free : (scope : Scope) (active : Active) (set : ℕ) (extents : _) (e : TExpr) (st : State) → IsPromoted set e → ignores_context e ≡ true → evaluated scope e active st ≡ Gives (Parallel (λ q. value_in extents st e q)) st
unfolding IsPromoted ignores_context evaluated value_in scalar_in then_do at
promoted_free scope active set extents (T.Promote' ty p operand) st is free = by is.2.1
  where
    by : IsConstant operand ⊎ ((constant_of operand ≡ None) × IsCalm operand) → evaluated scope (T.Promote' ty p operand) active st ≡ Gives (Parallel (λ q. scalar_in st operand q)) st
    by (inl constant) =
        ap (λ (o : Outcome Value). then_do o (λ v after. Gives (mapped ty (λ w. w) v) after)) (constant_means scope active operand constant.0 st constant.1)
        ∙ ap (λ (v : Value). Gives v st) (mapped_is scope active ty set (λ w. w) (Scalar constant.0) is.0)
        ∙ ap (λ (o : Option ℕ). Gives (Parallel (λ q. elim o [ Some word ↦ word | None ↦ computed_in st operand q ])) st) (sym constant.1)
    by (inr (none, calm)) =
        ap (λ (o : Outcome Value). then_do o (λ v after. Gives (mapped ty (λ w. w) v) after)) (ignoring scope active operand st calm free)
        ∙ ap (λ (v : Value). Gives v st) (mapped_is scope active ty set (λ w. w) (given_in (evaluated nowhere operand nobody st)) is.0)
        ∙ ap (λ (o : Option ℕ). Gives (Parallel (λ q. elim o [ Some word ↦ word | None ↦ computed_in st operand q ])) st) (sym none)
promoted_free scope active set extents (T.Brackets' ty p inner) st is free = promoted_free scope active set extents inner st is.1 free
promoted_free scope active set extents _ st is free = absurd is

-- what a scalar gives at each position
abbrev pub everywhere : Value → Value
everywhere v = Parallel (λ q. at v q)

-- a constant stands in no variable
none_of : (bits : ℕ) (e : TExpr) → is_constant e ≡ true → own_of bits e ≡ None
unfolding is_constant own_of
none_of bits (T.Variable ty x) is = cc
none_of bits (T.Promote' ty p operand) is = cc
none_of bits (T.Brackets' ty p inner) is = none_of bits inner (both (is_none ty.shape && ty.elem.bits == (type_of inner).elem.bits) (is_constant inner) is).1
none_of bits (T.Convert' ty p operand) is = by (is_unchanged bits ty.elem (is_kept operand)) (none_of bits operand (both (is_none ty.shape) (is_constant operand) is).1)
  where
    by : (b : Bool) → own_of bits operand ≡ None → (if b then own_of bits operand else None) ≡ None
    by true none = none
    by false none = refl
none_of bits _ is = refl

constant_own : (bits : ℕ) (e : TExpr) (word : ℕ) → constant_of e ≡ Some word → own_of bits e ≡ None
unfolding constant_of
constant_own bits e word is = by (is_constant e) refl is
  where
    by : (b : Bool) → is_constant e ≡ b → (if b then Const.value_of e else None) ≡ Some word → own_of bits e ≡ None
    by true constant h = none_of bits e constant
    by false constant h = cc

module _ (g : Setting) (alive : Variable → Type 0) (n : ℕ) where
  -- the scalar of one that is computed, of which this is known
  pub record Spreads (known : TExpr → Type 0) (set : ℕ) (e : TExpr) : Type 0 where
    pub operand : TExpr
    pub is : known operand
    pub shape : (type_of e).shape ≡ Some set
    pub elem : (type_of e).elem ≡ (type_of operand).elem
    pub no_constant : is_constant e ≡ false
    pub no_word : word_of e ≡ None
    pub kind : kind_of e ≡ kind_of operand
    pub code : (quiet : Bool) (bits : ℕ) (d : Draft) → operand_by g.typed (layout g) bits (λ after. value_of g.typed (layout g) bits e after) quiet e d ≡ operand_by g.typed (layout g) bits (λ after. value_of g.typed (layout g) bits operand after) quiet operand d
    pub computed : (f : Field) (d : Draft) → computed_to g.typed (layout g) (O.Field f) e d ≡ then_make (operand_by g.typed (layout g) f.len (λ after. value_of g.typed (layout g) f.len operand after) true operand d) (λ v after. put_value (O.Field f) v after)
    pub means : (scope : Scope) (active : Active) (st : State) → evaluated scope e active st ≡ then_do (evaluated scope operand active st) (λ v after. Gives (everywhere v) after)
    pub value : (extents : _) (st : State) (q : ℕ) → value_in extents st e q ≡ computed_in st operand q
    pub has : HasCode g.typed g.instance n operand
    pub among : NamesAmong alive operand

  abbrev pub IsComputed : ℕ → TExpr → Type 0
  IsComputed set e = Spreads IsCalm set e

  -- where no constant has the register of its word, the code is that of the value, wherever that stands
  operand_same : (quiet : Bool) (bits : ℕ) (e inner : TExpr) (d : Draft) → held_in (layout g) e ≡ None → held_in (layout g) inner ≡ None → own_of bits e ≡ own_of bits inner → value_of g.typed (layout g) bits e d ≡ value_of g.typed (layout g) bits inner d
      → operand_by g.typed (layout g) bits (λ after. value_of g.typed (layout g) bits e after) quiet e d ≡ operand_by g.typed (layout g) bits (λ after. value_of g.typed (layout g) bits inner after) quiet inner d
  unfolding operand_by in_place
  operand_same quiet bits e inner d none also own code =
      (λ i. elim (none i) as (λ _. Made Out) [ Some r ↦ Makes (O.Scalar r) d | None ↦ elim (if quiet then own i else None) as (λ _. Made Out) [ Some x ↦ standing g.typed (layout g) bits x d | None ↦ code i ] ])
      ∙ sym (λ i. elim (also i) as (λ _. Made Out) [ Some r ↦ Makes (O.Scalar r) d | None ↦ elim (if quiet then own_of bits inner else None) as (λ _. Made Out) [ Some x ↦ standing g.typed (layout g) bits x d | None ↦ value_of g.typed (layout g) bits inner d ] ])

  pub spread_over : (known : TExpr → Type 0) (set : ℕ) (ty : ValueType) (p : Boxed) (operand : TExpr) → ty.shape ≡ Some set → ty.elem ≡ (type_of operand).elem → constant_of operand ≡ None → known operand → HasItsCode g.typed g.instance alive n (T.Promote' ty p operand) → Spreads known set (T.Promote' ty p operand)
  unfolding word_of register_word own_of NamesVariables IsShaped IsLowerable value_in scalar_in NamesAmong evaluated value_of held_in computed_to moved bits_for is_constant kind_of
  spread_over known set ty p operand shaped same none is c =
      let no_word : register_word operand ≡ None = ap (λ (o : Option ℕ). then_value o (λ v. Some (converted int_type (type_of operand).elem v))) none in
      let code : (quiet : Bool) (bits : ℕ) (d : Draft) → operand_by g.typed (layout g) bits (λ after. value_of g.typed (layout g) bits operand after) quiet (T.Promote' ty p operand) d ≡ operand_by g.typed (layout g) bits (λ after. value_of g.typed (layout g) bits operand after) quiet operand d =
      λ quiet bits d. operand_same quiet bits (T.Promote' ty p operand) operand d (not_held (layout g) (T.Promote' ty p operand) refl) (ap (λ (o : Option ℕ). then_value o (λ w. constant_register (layout g) w)) no_word) refl refl in
      record {
        operand = operand;
        is = is;
        shape = shaped;
        elem = same;
        no_constant = refl;
        no_word = no_word;
        kind = refl;
        code = code;
        computed = λ f d. ap (λ (m : Made Out). then_make m (λ v after. put_value (O.Field f) v after)) (code true f.len d);
        means = λ scope active st i. then_do (evaluated scope operand active st) (λ v after. Gives (mapped_is scope active ty set (λ w. w) v shaped i) after);
        value = λ extents st q. ap (λ (o : Option ℕ). elim o [ Some word ↦ word | None ↦ computed_in st operand q ]) none;
        has = record { shaped = c.code.shaped.1; lowerable = c.code.lowerable.1; names = c.code.names };
        among = c.among;
      }

  pub brackets_code : (ty : ValueType) (p : Boxed) (inner : TExpr) → HasItsCode g.typed g.instance alive n (T.Brackets' ty p inner) → HasItsCode g.typed g.instance alive n inner
  unfolding NamesVariables IsShaped IsLowerable NamesAmong
  brackets_code ty p inner c = record { code = record { shaped = c.code.shaped.1; lowerable = c.code.lowerable; names = c.code.names }; among = c.among }

  pub spread_within : (known : TExpr → Type 0) (set : ℕ) (ty : ValueType) (p : Boxed) (inner : TExpr) → ty ≡ type_of inner → Spreads known set inner → Spreads known set (T.Brackets' ty p inner)
  unfolding word_of own_of value_in evaluated value_of computed_to is_constant kind_of
  spread_within known set ty p inner same h =
      let shaped : ty.shape ≡ Some set = ap (λ (y : ValueType). y.shape) same ∙ h.shape in
      let fresh : is_constant (T.Brackets' ty p inner) ≡ false = ap (λ (o : Option ℕ). is_none o && ty.elem.bits == (type_of inner).elem.bits && is_constant inner) shaped in
      record {
        operand = h.operand;
        is = h.is;
        shape = shaped;
        elem = ap (λ (y : ValueType). y.elem) same ∙ h.elem;
        no_constant = fresh;
        no_word = h.no_word;
        kind = h.kind;
        code = λ quiet bits d. operand_same quiet bits (T.Brackets' ty p inner) inner d (not_held (layout g) (T.Brackets' ty p inner) fresh) (not_held (layout g) inner h.no_constant) refl refl ∙ h.code quiet bits d;
        computed = h.computed;
        means = h.means;
        value = h.value;
        has = h.has;
        among = h.among;
      }

  pub promoted_stands : (set : ℕ) (e : TExpr) → IsPromoted set e → HasItsCode g.typed g.instance alive n e → HasItsWord e ⊎ IsComputed set e
  unfolding IsPromoted word_of value_in evaluated
  promoted_stands set (T.Promote' ty p operand) is c = by is.2.1
    where
      by : IsConstant operand ⊎ ((constant_of operand ≡ None) × IsCalm operand) → HasItsWord (T.Promote' ty p operand) ⊎ IsComputed set (T.Promote' ty p operand)
      by (inl constant) = inl (constant_word set ty p operand is.0 is.1 constant).0
      by (inr (none, calm)) = inr (spread_over IsCalm set ty p operand is.0 is.1 none calm c)
  promoted_stands set (T.Brackets' ty p inner) is c = by (promoted_stands set inner is.1 (brackets_code ty p inner c))
    where
      by : HasItsWord inner ⊎ IsComputed set inner → HasItsWord (T.Brackets' ty p inner) ⊎ IsComputed set (T.Brackets' ty p inner)
      by (inl h) = inl (record { word = h.word; is = h.is; small = h.small; value = λ extents st q. ap (λ (y : ValueType). held y.elem (value_in extents st inner q)) is.0 ∙ h.value extents st q; means = h.means })
      by (inr h) = inr (spread_within IsCalm set ty p inner is.0 h)
  promoted_stands set _ is c = absurd is

  -- so it is of one that may change variables, and fold
  pub changing_stands : (set : ℕ) (e : TExpr) → IsChanging set e → HasItsCode g.typed g.instance alive n e → Spreads (λ operand. IsIn (calling_nothing IsFold) operand) set e
  unfolding IsChanging
  changing_stands set (T.Promote' ty p operand) is c = spread_over (λ operand. IsIn (calling_nothing IsFold) operand) set ty p operand is.0 is.1 is.2 is.3 c
  changing_stands set (T.Brackets' ty p inner) is c = spread_within (λ operand. IsIn (calling_nothing IsFold) operand) set ty p inner is.0 (changing_stands set inner is.1 (brackets_code ty p inner c))
  changing_stands set _ is c = absurd is

  module _ (has : HasRegisters g) (ready : (d : Draft) → IsReadyButForFields g.typed g.instance (layout g) n d) (fields : HoldsTheFields g) where
    -- the code leaves its word in a register
    abbrev pub Registers : ℕ → ℕ → Draft → CodeState → State → TExpr → Out → Draft → Type 0
    Registers set bound d s st e out f = (r : ℕ) × ((out ≡ O.Scalar r) × GivesWord g alive bound d s st (λ q. word_at (extents g set) st e q) (K.Reg r) f)

    abbrev InRegister : ℕ → ℕ → ℕ → Bool → TExpr → Type 0
    InRegister set bits bound quiet e =
        (d : Draft) (s : CodeState) (st : State) → Starts g alive s (length d.code) d.regs (length d.fields) → Sim g alive st s
        → Follows g (Given g (λ q. value_in (extents g set) st e q) st (Registers set bound d s st e)) s (meant g fields e st) (operand_by g.typed (layout g) bits (λ after. value_of g.typed (layout g) bits e after) quiet e d)

    pub computed_after : (set bits bound : ℕ) (quiet : Bool) (e : TExpr) → IsComputed set e → InRegister set bits bound quiet e
    unfolding given_in at
    computed_after set bits bound quiet e h d s st here sim =
        follows_same g Q s (h.means fields.scope fields.active st) (h.code quiet bits d)
        (then_gives g Told Q s o everywhere made (knowing g R s o made (scalar_follows g has alive n ready fields quiet bits bound h.operand h.is h.among h.has d s st here sim)) gives)
      where
        o : Outcome Value
        o = evaluated fields.scope h.operand fields.active st

        made : Made Out
        made = operand_by g.typed (layout g) bits (λ after. value_of g.typed (layout g) bits h.operand after) quiet h.operand d

        R : Value → State → Out → Draft → Type 0
        R = GivesScalar g has alive n ready fields bound d s st h.operand

        Told : Value → State → Out → Draft → Type 0
        Told x u out f = (o ≡ Source.Gives x u) × R x u out f

        Q : Value → State → Out → Draft → Type 0
        Q = Given g (λ q. value_in (extents g set) st e q) st (Registers set bound d s st e)

        gives : (x : Value) (u : State) (out : Out) (f : Draft) → Told x u out f → Q (everywhere x) u out f
        gives x u out f (given, (w, (is, (same, (r, (place, word)))))) =
            let number : (q : ℕ) → value_in (extents g set) st e q ≡ w =
            λ q. h.value (extents g set) st q ∙ ap (λ (y : Outcome Value). at (given_in y) q) (sym (calm_same fields.scope nowhere fields.active nobody h.operand h.is st) ∙ given) ∙ ap (λ (v : Value). at v q) is in (
              ap (λ (v : Value). everywhere v) is ∙ (λ i. Parallel (λ q. sym (number q) i)),
              same,
              (r, (place, subst (λ (v : ℕ → ℕ). GivesWord g alive bound d s st v (K.Reg r) f) (λ i q. held (sym h.elem i) (sym (number q) i)) word)),
            )

    -- so it does where it is a constant whose word no instruction takes
    constant_after : (set bits bound : ℕ) (quiet : Bool) (ty : ValueType) (p : Boxed) (operand : TExpr) → IsPromoted set (T.Promote' ty p operand) → IsCalm operand → IsConstant operand → HasItsCode g.typed g.instance alive n (T.Promote' ty p operand) → InRegister set bits bound quiet (T.Promote' ty p operand)
    unfolding IsPromoted operand_by in_place own_of value_of NamesVariables IsShaped IsLowerable NamesAmong Follows After
    constant_after set bits bound quiet ty p operand is calm constant c d s st here sim =
        follows_same g (Given g (λ q. value_in (extents g set) st e q) st Q) s refl
        (ap (λ (o : Option ℕ). elim o as (λ _. Made Out) [ Some r ↦ Makes (O.Scalar r) d | None ↦ placed (if quiet then own_of bits operand else None) ]) (promoted_not_held set (layout g) e is) ∙ ap placed (never_placed quiet))
        (given_follows g s (meant g fields e st) (λ q. value_in (extents g set) st e q) st Q made (known.0.means fields.scope fields.active (extents g set) st)
        (by made
        (subst (λ (o : Outcome Value). Follows g R s o made) (constant_means fields.scope fields.active operand constant.0 st constant.1)
        (value_follows g has alive n ready fields bits bound operand calm c.among (record { shaped = c.code.shaped.1; lowerable = c.code.lowerable.1; names = c.code.names }) d s st here sim))))
      where
        e : TExpr
        e = T.Promote' ty p operand

        known : (h : HasItsWord e) × (h.word ≡ held (type_of operand).elem constant.0)
        known = constant_word set ty p operand is.0 is.1 constant

        made : Made Out
        made = value_of g.typed (layout g) bits operand d

        placed : Option Own → Made Out
        placed o = elim o as (λ _. Made Out) [ Some own ↦ standing g.typed (layout g) bits own d | None ↦ made ]

        never_placed : (b : Bool) → (if b then own_of bits operand else None) ≡ None
        never_placed true = constant_own bits operand constant.0 constant.1
        never_placed false = refl

        R : Value → State → Out → Draft → Type 0
        R = GivesScalar g has alive n ready fields bound d s st operand

        Q : Out → Draft → Type 0
        Q = Registers set bound d s st e

        number : Value → ℕ
        number (Scalar w) = w
        number v = 0

        told : (out : Out) (f : Draft) → R (Scalar constant.0) st out f → Q out f
        told out f (w, (is_w, (same, (r, (is_r, word))))) =
            (r, (is_r, subst (λ (v : ℕ → ℕ). GivesWord g alive bound d s st v (K.Reg r) f) (λ i q. (ap (λ (v : Value). held (type_of operand).elem (number v)) (sym is_w) ∙ sym known.1 ∙ sym (known.0.value (extents g set) st q)) i) word))

        by : (m : Made Out) → Follows g R s (Source.Gives (Scalar constant.0) st) m → After g Q m
        by (Makes out f) h = λ within. told out f (h within)
        by Fails h = tt

    -- so each that is computed does
    pub registered_after : (set bits bound : ℕ) (quiet : Bool) (e : TExpr) → IsPromoted set e → IsRegistered e → HasItsCode g.typed g.instance alive n e → InRegister set bits bound quiet e
    unfolding IsPromoted IsRegistered value_of own_of value_in evaluated
    registered_after set bits bound quiet (T.Promote' ty p operand) is calm c = by is.2.1
      where
        by : IsConstant operand ⊎ ((constant_of operand ≡ None) × IsCalm operand) → InRegister set bits bound quiet (T.Promote' ty p operand)
        by (inl constant) = constant_after set bits bound quiet ty p operand is calm constant c
        by (inr (none, same)) = computed_after set bits bound quiet (T.Promote' ty p operand) (spread_over IsCalm set ty p operand is.0 is.1 none same c)
    registered_after set bits bound quiet (T.Brackets' ty p inner) is calm c = within (registered_after set bits bound quiet inner is.1 calm (brackets_code ty p inner c))
      where
        within : InRegister set bits bound quiet inner → InRegister set bits bound quiet (T.Brackets' ty p inner)
        within h d s st here sim =
            follows_same g (Given g (λ q. value_in (extents g set) st inner q) st (Registers set bound d s st (T.Brackets' ty p inner))) s refl
            (operand_same quiet bits (T.Brackets' ty p inner) inner d (promoted_not_held set (layout g) (T.Brackets' ty p inner) is) (promoted_not_held set (layout g) inner is.1) refl refl)
            (subst
            (λ (y : ValueType). Follows g (Given g (λ q. value_in (extents g set) st inner q) st (λ out f. (r : ℕ) × ((out ≡ O.Scalar r) × GivesWord g alive bound d s st (λ q. held y.elem (value_in (extents g set) st inner q)) (K.Reg r) f))) s (meant g fields inner st) (operand_by g.typed (layout g) bits (λ after. value_of g.typed (layout g) bits inner after) quiet inner d))
            (sym is.0) (h d s st here sim))
    registered_after set bits bound quiet _ is calm c = absurd is
