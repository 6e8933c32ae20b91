-- The code of a pure parallel expression leaves its numbers in a field, where the source gives them.
use Rattle.std.proofs.Common.{◌≡◌, ℕ, ◌+◌, Bool, true, false, [], ◌∷◌, ◌++◌, length, Option, Some, None, refl, sym, ap, subst, arith, ◌⊎◌, inl, inr, if◌then◌else◌, length-append, ◌<◌, ◌≤◌, ◌∙◌, List}
use Rattle.cstar_tree.specs.declared.typed.TExpr.{TExpr}
use Rattle.cstar_tree.specs.declared.typed.TExpr as T
use Rattle.cstar_tree.specs.declared.typed.ValueType.{ValueType}
use Rattle.cstar_tree.specs.declared.typed.VarInfo.{VarInfo}
use Rattle.cstar_tree.specs.declared.typed.Variable.{Variable}
use Rattle.cstar_tree.specs.declared.typed.Variable.TheVariants as V
use Rattle.cstar_tree.specs.StatementTypes.{variable_info}
use Rattle.cstar_tree.specs.Typed.{type_of}
use Rattle.code_lengths.specs.Naming.{HasVariable, NamesVariables, plain, variable_named}
use Rattle.code_lengths.specs.Ready.{IsReadyButForFields}
use Rattle.code_lengths.proofs.Drafting.{append_nothing}
use Rattle.lower_base.specs.declared.emit.Out.{Out}
use Rattle.lower_base.specs.declared.emit.Out.TheVariants as O
use Rattle.lower_base.specs.Drafts.{Draft, Fails, Made, Makes, Step, an_entry, first_bits, fresh_for, in_field, shortened, step as step_of, then_make, with_instr}
use Rattle.lower_base.specs.Layouts.{field_of}
use Rattle.lower_expr.specs.declared.operands.Own.{Own}
use Rattle.lower_base.specs.Kinds.{bits_of, kind_of}
use Rattle.lower_expr.specs.Kinds.{has_number}
use Rattle.lower_expr.specs.Operands.{in_place, operand_by, own_of, standing}
use Rattle.lower_expr.specs.Spots.{field_loaded, loaded, variable_spot}
use Rattle.lower_expr.specs.Values.{Code, lowest, read_by, read_to, value_of}
use Rattle.paris_code.specs.declared.instr.Instr.{Instr}
use Rattle.paris_code.specs.declared.instr.Instr.TheVariants as I
use Rattle.paris_code.specs.declared.operands.Field.{Field}
use Rattle.paris_code.specs.declared.program.Owner.{Owner}
use Rattle.paris_code.specs.declared.program.Owner.TheVariants as W
use Rattle.paris_code.specs.Code.{CodeState}
use Rattle.paris_code.specs.Memory.{processors}
use Rattle.paris_code.specs.Proper.{IsEntry}
use Rattle.source_meaning.specs.Expressions.{evaluated}
use Rattle.source_meaning.specs.State as Source
use Rattle.source_meaning.specs.State.{State}
use Rattle.source_meaning.specs.Values.{Value}
use Rattle.code_follows.specs.Fragment.{NamesAmong}
use Rattle.code_follows.proofs.Following.{Extends, Follows, HasRegisters, Sim, follows_same, held}
use Rattle.code_follows.proofs.Growing.{Extended, and_instr, as_it_was}
use Rattle.code_follows.proofs.Settings.{Setting, Within, and_one, layout, start}
use Rattle.fields_follow.specs.Fragment.{IsOfFileOrBlock, IsPure}
use Rattle.fields_follow.specs.Fields.{IsElement, file_number}
use Rattle.fields_follow.proofs.Forms.{HasItsCode, StandsInVariable, field_is, pure_not_held, pure_own, whole_element}
use Rattle.fields_follow.proofs.Hops.{HasEverywhere, somewhere, variable_everywhere}
use Rattle.fields_follow.proofs.Instructions.{HasNumbers, extents, puts_extended, shapes}
use Rattle.fields_follow.proofs.Lengths.{held_has}
use Rattle.fields_follow.proofs.Locals.{IsLocalField, local_is}
use Rattle.fields_follow.proofs.Meaning.{as_shaped, read_is, value_in, word_at}
use Rattle.fields_follow.proofs.Outcomes.{Given, given_follows, meant}
use Rattle.fields_follow.proofs.Passing.{After, Behind, GivesField, HasOneBit, after_same, fields_longer, gives_first, gives_from, made_after, names_second, next_own, passes_all, passes_from, puts_own}
use Rattle.fields_follow.proofs.Places.{HoldsTheFields, IsFileField, IsOwnField, PlacesFields, entry_is, stands_here}
use Rattle.fields_follow.proofs.Totals.{held_below}
use Rattle.fields_follow.proofs.Starts.{no_home, starts_entry, starts_wider, Starts}
use Rattle.fields_follow.proofs.Variables.{Carries, file_carries, local_carries, local_held}
use Rattle.paris_code.specs.Spans.{IsNamedAt}

-- one entry more
abbrev pub with_entry : ℕ → ℕ → Owner → Draft → Draft
with_entry set len owner d = record d { fields = d.fields ++ record { set = set; len = len; owner = owner } ∷ [] }

abbrev pub next_field : ℕ → ℕ → Draft → Field
next_field set len d = record { set = set; offset = length d.fields; len = len }

pub and_entry : (set len : ℕ) (owner : Owner) (d : Draft) → Extended d 0 (with_entry set len owner d)
and_entry set len owner d = record { more = []; code = append_nothing d.code; long = refl; entries = record { set = set; len = len; owner = owner } ∷ []; fields = refl; regs = omega arith; homes = []; homes_are = append_nothing d.homes }

pub one_more : (set len : ℕ) (owner : Owner) (d : Draft) → length (with_entry set len owner d).fields ≡ length d.fields + 1
one_more set len owner d = length-append d.fields (record { set = set; len = len; owner = owner } ∷ [])

-- the value has one bit
abbrev pub IsFlag : TExpr → Type 0
IsFlag e = bits_of (kind_of e) ≡ 1

module _ (g : Setting) where
  -- an entry that was taken is the unit's
  pub taken : (set len : ℕ) (owner : Owner) (d e : Draft) (n : ℕ) → Within g e → Extended (with_entry set len owner d) n e → IsEntry g.unit (length d.fields) (record { set = set; len = len; owner = owner })
  taken set len owner d e n w x = entry_is g d.fields x.entries (record { set = set; len = len; owner = owner }) e w x.fields

  module _ (has : HasRegisters g) (alive : Variable → Type 0) (n : ℕ) (ready : (d : Draft) → IsReadyButForFields g.typed g.instance (layout g) n d) (places : PlacesFields g) (fields : HoldsTheFields g) where
    -- the code of so many bits of a value, and of an operand
    abbrev pub code_of : ℕ → TExpr → Code
    code_of bits e = value_of g.typed (layout g) bits e

    abbrev pub operand_of : ℕ → Bool → TExpr → Code
    operand_of bits quiet e = operand_by g.typed (layout g) bits (code_of bits e) quiet e

    -- It gives the lowest bits of its words in a field. If this is so, a variable in which they stand has one bit.
    abbrev pub Gives : Type 0 → ℕ → ℕ → Draft → CodeState → ℕ → State → (ℕ → ℕ) → Out → Draft → Type 0
    Gives flag bits bound d s set st v out e = (f : Field) × ((out ≡ O.Field f) × ((gives : GivesField g alive bits bound d s set st v f e) × (flag → HasOneBit g alive gives.stands)))

    -- as many of a parallel expression's value, where the source gives one, and it ends as the source does where that ends
    abbrev pub Valued : ℕ → ℕ → TExpr → Code → Type 0
    Valued bits set e code =
        (d : Draft) (s : CodeState) (st : State) → Starts g alive s (length d.code) d.regs (length d.fields) → Sim g alive st s
        → Follows g (Given g (λ q. value_in (extents g set) st e q) st (Gives (IsFlag e) bits (length d.fields) d s set st (λ q. word_at (extents g set) st e q))) s (meant g fields e st) (code d)

    -- The code finds the field of a variable, maybe with an entry more: it carries the variable, with all its bits.
    pub record Finds (set : ℕ) (x : Variable) (info : VarInfo) (d : Draft) : Type 0 where
      pub e : Draft
      pub f : Field
      pub is : field_of g.typed (layout g) x 0 d ≡ Makes f e
      pub grown : Extended d 0 e
      pub code : e.code ≡ d.code
      pub regs : e.regs ≡ d.regs
      pub carries : (after : Draft) (m : ℕ) → Extended e m after → Within g after → Carries g alive x info set f
      pub whole : Within g d → f ≡ record { set = set; offset = f.offset; len = info.elem.bits }

    -- or there is no code
    abbrev pub FindsOrFails : ℕ → Variable → VarInfo → Draft → Type 0
    FindsOrFails set x info d = (field_of g.typed (layout g) x 0 d ≡ Fails) ⊎ Finds set x info d

    -- that of a variable of the file is a new entry
    pub file_finds : (set k : ℕ) (info : VarInfo) (d : Draft) → IsElement g.typed k info set 0 → Finds set (V.File k) info d
    unfolding an_entry
    file_finds set k info d is = record {
      e = d1;
      f = f;
      is = field_is g k 0 set info d is;
      grown = and_entry set info.elem.bits owner d;
      code = refl;
      regs = refl;
      carries = λ after m more within. file_carries g alive places fields set k info f is (entry after m more within) refl refl;
      whole = λ within. refl;
    }
      where
        owner : Owner
        owner = W.File (file_number g.typed k 0)

        d1 : Draft
        d1 = with_entry set info.elem.bits owner d

        f : Field
        f = next_field set info.elem.bits d

        entry : (after : Draft) (m : ℕ) → Extended d1 m after → Within g after → IsFileField g k 0 f
        entry after m more within = taken set info.elem.bits owner d after m within more

    -- that of one of a block which is alive is its own entry, and no entry is added
    local_finds : (k : ℕ) (info : VarInfo) (f : Field) → alive (V.Local k) → IsLocalField g k info f → (d : Draft) (s : CodeState) (st : State) → Sim g alive st s → FindsOrFails f.set (V.Local k) info d
    local_finds k info f living is d s st sim = by (local_is g k info f d is)
      where
        by : (field_of g.typed (layout g) (V.Local k) 0 d ≡ Fails) ⊎ ((h : Field) × ((field_of g.typed (layout g) (V.Local k) 0 d ≡ Makes h d) × ((e : Draft) (m : ℕ) → Extended d m e → Within g e → h ≡ f))) → FindsOrFails f.set (V.Local k) info d
        by (inl fails) = inl fails
        by (inr (h, (found, same))) = inr (record {
          e = d;
          f = h;
          is = found;
          grown = as_it_was d;
          code = refl;
          regs = refl;
          carries = λ after m more within. subst (λ (x : Field). Carries g alive (V.Local k) info f.set x) (sym (same after m more within)) (local_carries g alive fields k info f living is st s sim);
          whole = λ within. let found_it = same d 0 (as_it_was d) within in found_it ∙ ap (λ (n : ℕ). record { set = f.set; offset = f.offset; len = n }) is.len ∙ ap (λ (n : ℕ). record { set = f.set; offset = n; len = info.elem.bits }) (ap (λ (x : Field). x.offset) (sym found_it));
        })

    -- in both cases it goes on from the draft
    pub finds_extends : (set : ℕ) (x : Variable) (info : VarInfo) (d : Draft) → FindsOrFails set x info d → Extends g d (field_of g.typed (layout g) x 0 d)
    unfolding Extends
    finds_extends set x info d (inl fails) = subst (λ (m : Made Field). Extends g d m) (sym fails) tt
    finds_extends set x info d (inr found) = subst (λ (m : Made Field). Extends g d m) (sym found.is) (0, found.grown)

    -- so those are that expressions read
    pub finds_read : (set : ℕ) (x : Variable) (info : VarInfo) (d : Draft) → IsOfFileOrBlock x → alive x → variable_named g.typed g.instance x ≡ Some info → info.shape ≡ Some set → info.array ≡ None → (s : CodeState) (st : State) → Sim g alive st s → FindsOrFails set x info d
    unfolding IsOfFileOrBlock
    finds_read set (V.File k) info d read living known shaped one s st sim = inr (file_finds set k info d (whole_element g.typed g.instance k set info known shaped one))
    finds_read set (V.Local k) info d read living known shaped one s st sim =
        let there = local_held g alive fields k info set living known shaped st s sim in
        subst (λ (m : ℕ). FindsOrFails m (V.Local k) info d) there.of_set (local_finds k info there.f living there.is d s st sim)
    finds_read set _ info d read living known shaped one s st sim = absurd read

    -- code that goes on from the entry starts where it did
    pub starts_found : (set : ℕ) (x : Variable) (info : VarInfo) (d : Draft) (s : CodeState) → (found : Finds set x info d) → Starts g alive s (length d.code) d.regs (length d.fields) → Starts g alive s (length found.e.code) found.e.regs (length found.e.fields)
    starts_found set x info d s found here =
        let longer = fields_longer d found.e 0 found.grown in
        starts_wider g alive s (length found.e.code) found.e.regs (length d.fields) (length found.e.fields) longer
        (subst (λ (c : List Step). Starts g alive s (length c) found.e.regs (length d.fields)) (sym found.code) (subst (λ (r : ℕ). Starts g alive s (length d.code) r (length d.fields)) (sym found.regs) here))

    -- a variable where it stands
    pub standing_after : (bits set : ℕ) (e : TExpr) → (h : StandsInVariable g.typed g.instance alive bits set e) → Valued bits set e (λ d. standing g.typed (layout g) bits (record { shape = Some set; variable = h.x }) d)
    unfolding standing first_bits then_make After
    standing_after bits set e h d s st here sim =
        given_follows g s (meant g fields e st) (λ q. value_in (extents g set) st e q) st Q (standing g.typed (layout g) bits (record { shape = Some set; variable = h.x }) d) (h.means fields.scope fields.active (extents g set) st)
        (by (finds_read set h.x h.info d h.read h.living h.known h.parallel h.one s st sim))
      where
        Q : Out → Draft → Type 0
        Q = Gives (IsFlag e) bits (length d.fields) d s set st (λ q. word_at (extents g set) st e q)

        code : Made Field → Made Out
        code m = then_make m (λ f after. Makes (O.Field (first_bits bits f)) after)

        by : FindsOrFails set h.x h.info d → After g Q (standing g.typed (layout g) bits (record { shape = Some set; variable = h.x }) d)
        by (inl fails) = after_same g Q (ap code fails) tt
        by (inr found) =
            after_same g Q (ap code found.is)
            (made_after g Q (O.Field (record found.f { len = bits })) found.e (λ within.
            let carries : Carries g alive h.x h.info set found.f = found.carries found.e 0 (as_it_was found.e) within in (
              record found.f { len = bits },
              (
                refl,
                (
                  record {
                    passes = passes_from g alive (length d.fields) d found.e found.e s st (Behind g (record found.f { len = bits }) found.e) found.grown (passes_all g alive (length d.fields) found.e s st (Behind g (record found.f { len = bits }) found.e) (starts_found set h.x h.info d s found here) sim);
                    stands = inr (record {
                      x = h.x;
                      info = h.info;
                      carries = subst (λ (n : ℕ). Carries g alive h.x h.info set (record found.f { len = n })) carries.len carries;
                      len = refl;
                      fits = h.fits;
                      same = λ q below. (h.value (extents g set) st q, held_below (type_of e).elem (value_in (extents g set) st e q));
                    });
                  },
                  h.flag,
                ),
              ),
            )))

    -- what needs no field of its own is used where it stands, if all is quiet
    pub operand_after : (bits set : ℕ) (e : TExpr) (quiet : Bool) → IsPure set e → HasItsCode g.typed g.instance alive n e → Valued bits set e (λ d. code_of bits e d) → Valued bits set e (λ d. operand_of bits quiet e d)
    unfolding operand_by in_place
    operand_after bits set e quiet is c whole d s st here sim =
        follows_same g R s refl
        (ap (λ (o : Option ℕ). elim o as (λ _. Made Out) [ Some r ↦ Makes (O.Scalar r) d | None ↦ elim (if quiet then own_of bits e else None) as (λ _. Made Out) [ Some own ↦ standing g.typed (layout g) bits own d | None ↦ code_of bits e d ] ]) (pure_not_held set (layout g) e is))
        (by quiet (pure_own g.typed g.instance alive n bits set e is c.code.names c.among))
      where
        R : Value → State → Out → Draft → Type 0
        R = Given g (λ q. value_in (extents g set) st e q) st (Gives (IsFlag e) bits (length d.fields) d s set st (λ q. word_at (extents g set) st e q))

        by : (quiet : Bool) → StandsInVariable g.typed g.instance alive bits set e ⊎ (own_of bits e ≡ None) → Follows g R s (meant g fields e st) (elim (if quiet then own_of bits e else None) as (λ _. Made Out) [ Some own ↦ standing g.typed (layout g) bits own d | None ↦ code_of bits e d ])
        by true (inl h) = follows_same g R s refl (ap (λ (o : Option Own). elim o as (λ _. Made Out) [ Some own ↦ standing g.typed (layout g) bits own d | None ↦ code_of bits e d ]) h.own) (standing_after bits set e h d s st here sim)
        by true (inr none) = follows_same g R s refl (ap (λ (o : Option Own). elim o as (λ _. Made Out) [ Some own ↦ standing g.typed (layout g) bits own d | None ↦ code_of bits e d ]) none) (whole d s st here sim)
        by false any = whole d s st here sim

    -- The field of a variable, all of it, has its words, which its type has, where an instruction names it at this place or
    -- behind it.
    pub variable_has : (set : ℕ) (x : Variable) (info : VarInfo) (f : Field) (s : CodeState) (st : State) → Carries g alive x info set f → (later : ℕ) → IsNamedAt g.unit f.offset later → s.at ≤ start g + later → Sim g alive st s
        → HasNumbers g info.elem.bits set f s (λ q. held info.elem (st.parallel x 0 q)) × ((q : ℕ) → q < processors (shapes g) set → has_number info.elem (held info.elem (st.parallel x 0 q)) ≡ true)
    variable_has set x info f s st carries later named behind sim = (
      somewhere g info.elem.bits set f s (λ q. held info.elem (st.parallel x 0 q))
          (subst (λ (n : ℕ). HasEverywhere g info.elem.bits set (record f { len = n }) s (λ q. held info.elem (st.parallel x 0 q))) (sym carries.len) (variable_everywhere g places fields alive info.elem.bits set x info f s st carries (omega arith) later named behind sim)),
      λ q below. held_has info.elem (st.parallel x 0 q) (carries.small st s sim q),
    )

    -- a copy of a variable's field, cut or extended
    field_copied : (bits set : ℕ) (x : Variable) (info : VarInfo) → bits ≤ 32 → (d : Draft) → FindsOrFails set x info (with_entry set bits W.Own d) → (s : CodeState) (st : State) → Starts g alive s (length d.code) d.regs (length d.fields) → Sim g alive st s
        → (flag : Type 0) → After g (Gives flag bits (length d.fields) d s set st (λ q. held info.elem (st.parallel x 0 q))) (field_loaded g.typed (layout g) info.elem.signed x 0 (next_field set bits d) (with_entry set bits W.Own d))
    unfolding field_loaded then_make step_of After puts_own next_own gives_from
    field_copied bits set x info most d (inl fails) s st here sim flag =
        after_same g (Gives flag bits (length d.fields) d s set st (λ q. held info.elem (st.parallel x 0 q))) (ap (λ (m : Made Field). then_make m (λ f after. Makes (O.Field (next_field set bits d)) (with_instr (I.Move info.elem.signed (next_field set bits d) f) after))) fails) tt
    field_copied bits set x info most d (inr found) s st here sim flag =
        let dest : Field = next_field set bits d in
        let d1 : Draft = with_entry set bits W.Own d in
        let d2 : Draft = found.e in
        let source : Field = found.f in
        let i : Instr = I.Move info.elem.signed dest source in
        let v : ℕ → ℕ = λ q. held info.elem (st.parallel x 0 q) in
        let starts : Starts g alive s (length d2.code) d2.regs (length d2.fields) = starts_found set x info d1 s found (starts_entry g alive _ _ here) in
        after_same g (Gives flag bits (length d.fields) d s set st v) (ap (λ (m : Made Field). then_make m (λ f after. Makes (O.Field dest) (with_instr (I.Move info.elem.signed dest f) after))) found.is)
        (made_after g (Gives flag bits (length d.fields) d s set st v) (O.Field dest) (with_instr i d2) (λ within.
        let own : IsOwnField g dest = taken set bits W.Own d (with_instr i d2) 1 within (and_instr i d1 d2 0 found.grown) in
        let carries : Carries g alive x info set source = found.carries (with_instr i d2) 1 (and_one g i d2) within in
        let named : IsNamedAt g.unit source.offset (length d2.code) = names_second g i dest source [] (length d2.code) (stands_here g i d2 within refl) refl in
        let behind : s.at ≤ start g + length d2.code = (let at = starts.stands in omega (arith, at)) in
        let numbers = variable_has set x info source s st carries (length d2.code) named behind sim in
        let h = puts_own g alive places fields bits (length d.fields) set i dest d2 s st v (omega arith) (let one = one_more set bits W.Own d in let two = fields_longer d1 d2 0 found.grown in omega (arith, one, two)) own (no_home g alive (length d.fields) (length d.fields) (omega arith) here) refl refl within starts sim
        (puts_extended g info.elem set dest source s v most (λ q below on. numbers.1 q below) numbers.0) in (
          dest,
          (
            refl,
            (
              gives_from g alive bits (length d.fields) d d1 (with_instr i d2) s set st v dest (and_entry set bits W.Own d)
                  (gives_from g alive bits (length d.fields) d1 d2 (with_instr i d2) s set st v dest found.grown h),
              λ flag. tt,
            ),
          ),
        )))

    pub variable_after : (bits set : ℕ) (x : Variable) (ty : ValueType) → bits ≤ 32 → IsOfFileOrBlock x → ty.shape ≡ Some set → HasItsCode g.typed g.instance alive n (T.Variable ty x) → Valued bits set (T.Variable ty x) (λ d. code_of bits (T.Variable ty x) d)
    unfolding value_of read_by read_to fresh_for an_entry then_make variable_spot loaded in_field value_in evaluated NamesVariables NamesAmong
    variable_after bits set x ty most read shaped c d s st here sim =
        let v : HasVariable g.typed g.instance n x (plain ty) = c.code.names in
        given_follows g s (meant g fields (T.Variable ty x) st) (λ q. st.parallel x 0 q) st (Gives (IsFlag (T.Variable ty x)) bits (length d.fields) d s set st (λ q. held ty.elem (st.parallel x 0 q))) (code_of bits (T.Variable ty x) d)
        (ap (λ (y : Value). Source.Gives y st) (read_is fields.scope fields.active ty set x st shaped))
        (after_same g (Gives (IsFlag (T.Variable ty x)) bits (length d.fields) d s set st (λ q. held ty.elem (st.parallel x 0 q))) (ap (λ (y : ValueType). code_of bits (T.Variable y x) d) (as_shaped ty set shaped))
        (field_copied bits set x (variable_info v.word (plain ty) v.start) most d (finds_read set x (variable_info v.word (plain ty) v.start) (with_entry set bits W.Own d) read c.among v.named shaped refl s st sim) s st here sim (IsFlag (T.Variable ty x))))

    -- the first bits of a field that has more
    pub first_given : (bits fewer bound : ℕ) (d : Draft) (s : CodeState) (set : ℕ) (st : State) (v : ℕ → ℕ) (flag P E : Type 0) (made : Made Out) → fewer ≤ bits → After g (λ out e. (P × Gives flag bits bound d s set st v out e) ⊎ E) made → After g (λ out e. (P × Gives flag fewer bound d s set st v out e) ⊎ E) (lowest fewer made)
    unfolding lowest After then_make shortened first_bits
    first_given bits fewer bound d s set st v flag P E (Makes (O.Field f) e) less h = λ w. by (h w)
      where
        same : (f x : Field) → O.Field f ≡ O.Field x → f ≡ x
        same f x is = ap (λ (o : Out). elim o as (λ _. Field) [ O.Scalar r ↦ f | O.Field y ↦ y | O.Nothing ↦ f ]) is

        by : (P × Gives flag bits bound d s set st v (O.Field f) e) ⊎ E → (P × Gives flag fewer bound d s set st v (O.Field (record f { len = fewer })) e) ⊎ E
        by (inl (p, (x, (is, (gives, narrow))))) =
            let first = gives_first g alive places fields bits fewer bound d s set st v x e less gives in
            inl (p, (record x { len = fewer }, (ap (λ (y : Field). O.Field (record y { len = fewer })) (same f x is), (first.0, λ so. first.1 (narrow so)))))
        by (inr ends) = inr ends
    first_given bits fewer bound d s set st v flag P E (Makes (O.Scalar r) e) less h = λ w. by (h w)
      where
        by : (P × Gives flag bits bound d s set st v (O.Scalar r) e) ⊎ E → (P × Gives flag fewer bound d s set st v (O.Scalar r) e) ⊎ E
        by (inl (p, (x, (is, both)))) = cc
        by (inr ends) = inr ends
    first_given bits fewer bound d s set st v flag P E (Makes O.Nothing e) less h = λ w. by (h w)
      where
        by : (P × Gives flag bits bound d s set st v O.Nothing e) ⊎ E → (P × Gives flag fewer bound d s set st v O.Nothing e) ⊎ E
        by (inl (p, (x, (is, both)))) = cc
        by (inr ends) = inr ends
    first_given bits fewer bound d s set st v flag P E Fails less h = tt
