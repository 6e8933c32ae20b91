-- A get by the router follows: behind the code of its indexes, their check and the address, its last instruction puts the
-- numbers of the positions that they name, or both end.
use Rattle.std.proofs.Common.{◌≡◌, ◌∙◌, ℕ, ◌+◌, ◌%◌, ◌<◌, ◌≤◌, ◌^◌, ◌⊎◌, Bool, true, false, List, [], ◌∷◌, length, map, Some, None, refl, sym, ap, subst, arith, inl, inr, if◌then◌else◌}
use Rattle.std.specs.Prelude.{nat_lt}
use Rattle.std.proofs.lemmas.Bool.{lt-ltb}
use Rattle.std.proofs.lemmas.Bool.Decides.{nat_tests}
use Rattle.cstar_base.specs.declared.elem.Elem.{Elem}
use Rattle.cstar_base.specs.declared.faults.RunFault.TheVariants.{Index}
use Rattle.cstar_base.specs.declared.operators.Place.{Place}
use Rattle.communication_laws.proofs.Indexes.{indexes_within_name_positions}
use Rattle.cstar_tree.specs.declared.typed.TExpr.{TExpr, Row_of-TExpr, items-the_row-TExpr}
use Rattle.cstar_tree.specs.declared.typed.TExpr as T
use Rattle.cstar_tree.specs.declared.typed.ValueType.{ValueType}
use Rattle.cstar_tree.specs.declared.typed.VarInfo.{VarInfo}
use Rattle.cstar_tree.specs.declared.typed.Variable.{Variable}
use Rattle.cstar_tree.specs.Conversions.{parallel}
use Rattle.cstar_tree.specs.StatementTypes.{variable_info}
use Rattle.code_lengths.specs.Naming.{HasAxes, HasVariable, NamesVariables, plain}
use Rattle.code_lengths.specs.Ready.{IsReadyButForFields}
use Rattle.lower_base.specs.declared.emit.Out.{Out}
use Rattle.lower_base.specs.declared.emit.Out.TheVariants as O
use Rattle.lower_base.specs.Drafts.{ChecksTarget, Draft, Fails, Made, Makes, MakesAddress, first_bits, step as step_of, then_make, with_instr, with_step}
use Rattle.lower_base.specs.Layouts.{field_of}
use Rattle.lower_comm.specs.Messages.{all_somewhere, each_located, index_coordinate, signed_coordinates}
use Rattle.lower_comm.specs.News.{all_go_by_news}
use Rattle.lower_expr.specs.declared.spots.Spot.{Spot}
use Rattle.lower_expr.specs.Operands.{are_quiet}
use Rattle.lower_expr.specs.Values.{index_read_to, indexed_spot, values_of}
use Rattle.paris_code.specs.declared.instr.Instr.{Instr}
use Rattle.paris_code.specs.declared.instr.Instr.TheVariants as I
use Rattle.paris_code.specs.declared.operands.Field.{Field}
use Rattle.paris_code.specs.declared.program.Owner.TheVariants as W
use Rattle.paris_code.specs.Code.{CodeState, applied, begun}
use Rattle.paris_code.specs.Fetching.{at_active, number_or_zero, of_named}
use Rattle.paris_code.specs.Meaning.{after}
use Rattle.paris_code.specs.Memory.{field_number, is_active, processors}
use Rattle.paris_code.specs.Spans.{IsNamedAt, StandsAt}
use Rattle.phase_meaning.proofs.Widths.{cut_cut}
use Rattle.source_meaning.specs.Expressions.{evaluated}
use Rattle.source_meaning.specs.Gets.{Operand, named_by}
use Rattle.source_meaning.specs.State as Source
use Rattle.source_meaning.specs.State.{State, then_do}
use Rattle.source_meaning.specs.Targets.{indexed_target, read as read_there}
use Rattle.source_meaning.specs.Values.{Parallel}
use Rattle.code_follows.proofs.Following.{Extends, HasRegisters, Sim, extends_made, extends_then, held}
use Rattle.code_follows.proofs.Growing.{Extended, extended}
use Rattle.code_follows.proofs.Settings.{Setting, Within, and_one, earlier, layout}
use Rattle.code_follows.specs.Fragment.{NamesAmong}
use Rattle.fields_follow.specs.Fragment.{AreIndexes, AreSteps, HasPure, IsOfFileOrBlock, IsPure}
use Rattle.fields_follow.proofs.Extents.{get_names, own_extents}
use Rattle.fields_follow.proofs.Forms.{HasItsCode}
use Rattle.fields_follow.proofs.Hops.{HasEverywhere, puts_same, variable_everywhere}
use Rattle.fields_follow.proofs.Indexing.{AllCoded, AllValued, KnowsAll, all_coded, all_meant, row_after}
use Rattle.fields_follow.proofs.Instructions.{HasNumbers, Puts, extents, has_words, place, puts_extended, shapes}
use Rattle.fields_follow.proofs.Lengths.{held_has}
use Rattle.fields_follow.proofs.Locating.{and_step, inside, located_after}
use Rattle.fields_follow.proofs.Meaning.{value_in, word_at}
use Rattle.fields_follow.proofs.News.{get_last}
use Rattle.fields_follow.proofs.Outcomes.{Ended, after_all, ended_on, meant}
use Rattle.fields_follow.proofs.Passing.{After, Behind, GivesField, Passes, after_same, code_longer, fields_longer, flags_of, gives_numbers, gives_set, made_after, names_second, names_third, nothing_after, passes_all, passes_from, passes_on, puts_own, then_after}
use Rattle.fields_follow.proofs.Places.{HoldsTheFields, PlacesFields, stands_here}
use Rattle.fields_follow.proofs.RouterCode.{behind_indexes, for_got, got, got_field, got_from, plain_get, router_code, wide_get}
use Rattle.fields_follow.proofs.Routing.{indexes_at, outside_at, routed_faults, routed_gives, routed_value, target_of}
use Rattle.fields_follow.proofs.Starts.{no_home, starts_entry, Starts}
use Rattle.fields_follow.proofs.Values.{Finds, FindsOrFails, and_entry, finds_extends, finds_read, next_field, one_more, starts_found, taken, with_entry}
use Rattle.fields_follow.proofs.Variables.{Carries, variable_fits}

module _ (g : Setting) where
  -- a get of the numbers that a field has at the positions of which another has the numbers
  puts_get : (bits set of : ℕ) (d address a : Field) (s : CodeState) (to v : ℕ → ℕ) → d.len ≡ bits → HasNumbers g 32 set address s to → ((q : ℕ) → q < processors (shapes g) set → is_active (shapes g) s.memory set q ≡ true → to q < processors (shapes g) of) → HasEverywhere g bits of a s v
      → Puts g set (I.Get d address a) d s (λ q. v (to q))
  unfolding begun applied after step_of of_named number_or_zero
  puts_get bits set of d address a s to v long names lead h = record {
    plain = refl;
    simple = tt;
    others = _;
    names = refl;
    write = at_active (shapes g) s.memory (place g d) (λ q. of_named (shapes g) s.memory (place g address) (place g a) q);
    run = refl;
    writes = λ q. refl;
    value = λ q below on.
        ap (λ (n : ℕ). (if nat_lt n (processors (shapes g) a.set) then field_number s.memory (place g a) n else 0) % 2 ^ d.len) (has_words g set address s to names q below on)
        ∙ ap (λ (t : Bool). (if t then field_number s.memory (place g a) (to q) else 0) % 2 ^ d.len) (lt-ltb (to q) (processors (shapes g) a.set) (subst (λ (n : ℕ). to q < processors (shapes g) n) (sym h.of_set) (lead q below on)))
        ∙ ap (λ (n : ℕ). n % 2 ^ d.len) (h.are (to q) (lead q below on)) ∙ cut_cut (v (to q)) d.len bits (omega (arith, long));
    small = λ q below on. h.small (to q) (lead q below on);
    goes = refl;
  }

  -- the get goes on from the draft behind the address
  got_extends : (elem : Elem) (dest at source : Field) (d : Draft) → (n : ℕ) × Extended d n (got elem dest at source d)
  unfolding got
  got_extends elem dest at source d = by (nat_lt elem.bits dest.len)
    where
      move : Instr
      move = I.Move elem.signed dest (got_field dest source d)

      by : (b : Bool) → (n : ℕ) × Extended d n (if b then with_instr move (wide_get dest at source d) else plain_get dest at source d)
      by true = (
        0 + 1 + 1,
        extended d (wide_get dest at source d) (with_instr move (wide_get dest at source d)) (0 + 1) 1
            (extended d (for_got dest source d) (wide_get dest at source d) 0 1 (and_entry dest.set source.len W.Own d) (and_one g (I.Get (got_field dest source d) at source) (for_got dest source d))) (and_one g move (wide_get dest at source d)),
      )
      by false = (1, and_one g (I.Get dest at (first_bits dest.len source)) d)

  module _ (has : HasRegisters g) (alive : Variable → Type 0) (n : ℕ) (ready : (d : Draft) → IsReadyButForFields g.typed g.instance (layout g) n d) (places : PlacesFields g) (fields : HoldsTheFields g) where
    -- so it does where its code finds the field of the variable
    behind_extends : (x : Variable) (of : ℕ) (info : VarInfo) (ty : ValueType) (place_of : Place) (items : List TExpr) (dest at : Field) (parts : List Out) (d : Draft) → ((e : Draft) → FindsOrFails g has alive n ready places fields of x info e) → Extends g d (behind_indexes g x of ty place_of items dest at parts d)
    unfolding Extends each_located
    behind_extends x of info ty place_of items dest at parts d finds = by (all_somewhere parts)
      where
        checked : Draft
        checked = with_step (ChecksTarget of place_of (signed_coordinates items (map index_coordinate parts))) d

        made : Draft
        made = with_step (MakesAddress at of (map index_coordinate parts)) checked

        by : (b : Bool) → Extends g d (if b then got_from g x ty.elem dest at (each_located place_of of items (map index_coordinate parts) at d) else Fails)
        by true =
            extends_made g d made (1 + 1) (got_from g x ty.elem dest at made) (extended d checked made 1 1 (and_step _ d) (and_step _ checked))
            (extends_then g made (field_of g.typed (layout g) x 0 made) (λ source after. Makes (O.Field dest) (got ty.elem dest at source after)) (finds_extends g has alive n ready places fields of x info made (finds made)) (λ source after. got_extends ty.elem dest at source after))
        by false = tt

    -- the get itself, from a field that has the numbers of positions
    module _ (ty : ValueType) (x : Variable) (set of bits offset bound : ℕ) (info : VarInfo) (at : Field) (to : ℕ → ℕ) (d e : Draft) (s : CodeState) (st : State) (Q : Out → Draft → Type 0) (most : bits ≤ 32) (same : info.elem ≡ ty.elem) (exists : set < length (shapes g)) (found : Finds g has alive n ready places fields of x info e) (less : bound ≤ length e.fields)
        (a : GivesField g alive 32 bound d s set st to at e) (lead : (q : ℕ) → q < processors (shapes g) set → fields.active set q ≡ true → to q < processors (shapes g) of)
        (last : (e2 : Draft) (i : Instr) → Within g (with_instr i e2) → (passes : Passes g alive bound d e2 s st (Unit {0})) → Puts g set i (record { set = set; offset = offset; len = bits }) passes.t (λ q. held ty.elem (st.parallel x 0 (to q))) → Q (O.Field (record { set = set; offset = offset; len = bits })) (with_instr i e2)) where
      abbrev f : Field
      f = record { set = set; offset = offset; len = bits }

      abbrev t : CodeState
      t = a.passes.t

      abbrev e1 : Draft
      e1 = found.e

      abbrev source : Field
      source = found.f

      abbrev words : ℕ → ℕ
      words = λ q. held info.elem (st.parallel x 0 q)

      named : Behind g at e → HasNumbers g 32 set at t to
      named behind = gives_numbers g alive places fields 32 bound d s set st to at e a behind

      leads : (q : ℕ) → q < processors (shapes g) set → is_active (shapes g) t.memory set q ≡ true → to q < processors (shapes g) of
      leads q below on = lead q below (sym (flags_of g alive places fields st t set q a.passes.sim exists below) ∙ on)

      abbrev words_there : ℕ → ℕ
      words_there = λ q. words (to q)

      elem_words : words_there ≡ (λ q. held ty.elem (st.parallel x 0 (to q)))
      elem_words = ap (λ (y : Elem). λ (q : ℕ). held y (st.parallel x 0 (to q))) same

      longer : (length e.code ≤ length e1.code) × (length e.fields ≤ length e1.fields)
      longer = (code_longer e e1 0 found.grown, fields_longer e e1 0 found.grown)

      begins : Starts g alive t (length e1.code) e1.regs (length e1.fields)
      begins = starts_found g has alive n ready places fields of x info e t found a.passes.at

      -- the variable has its words, where an instruction that stands there names it
      there : (m : ℕ) (made : Draft) → Extended e1 m made → Within g made → IsNamedAt g.unit source.offset (length e1.code) → (part : ℕ) → part ≤ info.elem.bits → HasEverywhere g part of (record source { len = part }) t words
      there m made more within names part fits = variable_everywhere g places fields alive part of x info source t st (found.carries made m more within) fits (length e1.code) names (let stands = begins.stands in omega (arith, stands)) a.passes.sim

      -- code behind the address that only takes entries
      passing : (e2 : Draft) → Extended e 0 e2 → Starts g alive t (length e2.code) e2.regs (length e2.fields) → Behind g at e → Passes g alive bound d e2 s st (Unit {0})
      passing e2 x here behind =
          passes_on g alive bound bound d e e2 s st (Behind g at e) (Unit {0}) (Unit {0}) (omega arith) a.passes (passes_from g alive bound e e2 e2 t st (Unit {0}) x (passes_all g alive bound e2 t st (Unit {0}) here a.passes.sim)) (λ u. behind) (λ u. tt)

      -- straight to the destination
      plain_last : bits ≤ info.elem.bits → Within g (plain_get f at source e1) → Q (O.Field f) (plain_get f at source e1)
      unfolding first_bits passing passes_on passes_from step_of
      plain_last fits within =
          last e1 i within (passing e1 found.grown begins behind)
          (subst (λ (w : ℕ → ℕ). Puts g set i f t w) elem_words (puts_get bits set of f at part t to words refl (named behind) leads (there 1 (with_instr i e1) (and_one g i e1) within (names_third g i f at part [] (length e1.code) stands refl) bits fits)))
        where
          part : Field
          part = record source { len = bits }

          i : Instr
          i = I.Get f at part

          stands : StandsAt g.unit (length e1.code) i
          stands = stands_here g i e1 within refl

          behind : Behind g at e
          behind = (length e1.code, (names_second g i f at (part ∷ []) (length e1.code) stands refl, longer.0))

      -- to a field as long as the variable, which is extended
      wide_last : Within g (with_instr (I.Move ty.elem.signed f (got_field f source e1)) (wide_get f at source e1)) → Q (O.Field f) (with_instr (I.Move ty.elem.signed f (got_field f source e1)) (wide_get f at source e1))
      unfolding passing passes_on passes_from step_of
      wide_last within =
          last e3 move within (passes_on g alive bound bound d e2 e3 s st (Unit {0}) (Behind g field e3) (Unit {0}) (omega arith) before gives.passes (λ u. tt) (λ u. behind))
          (puts_extended g ty.elem set f field gives.passes.t (λ q. held ty.elem (st.parallel x 0 (to q))) most
          (λ q below on. held_has ty.elem (st.parallel x 0 (to q)) (subst (λ (y : Elem). st.parallel x 0 (to q) < 2 ^ y.bits) same (carries.small st t a.passes.sim (to q))))
          (subst (λ (y : Elem). HasNumbers g y.bits set field gives.passes.t (λ q. held y (st.parallel x 0 (to q)))) same (gives_numbers g alive places fields info.elem.bits bound e2 t set st (λ q. words (to q)) field e3 gives behind)))
        where
          field : Field
          field = got_field f source e1

          e2 : Draft
          e2 = for_got f source e1

          get : Instr
          get = I.Get field at source

          e3 : Draft
          e3 = with_instr get e2

          move : Instr
          move = I.Move ty.elem.signed f field

          within3 : Within g e3
          within3 = earlier g e3 (with_instr move e3) 1 (and_one g move e3) within

          taking : Extended e 0 e2
          taking = extended e e1 e2 0 0 found.grown (and_entry set source.len W.Own e1)

          stands : StandsAt g.unit (length e2.code) get
          stands = stands_here g get e2 within3 refl

          named_later : Behind g at e
          named_later = (length e2.code, (names_second g get field at (source ∷ []) (length e2.code) stands refl, longer.0))

          before : Passes g alive bound d e2 s st (Unit {0})
          before = passing e2 taking (starts_entry g alive _ _ begins) named_later

          behind : Behind g field e3
          behind = (length e3.code, (names_second g move f field [] (length e3.code) (stands_here g move e3 within refl) refl, omega arith))

          more : Extended e1 (0 + 1) e3
          more = extended e1 e2 e3 0 1 (and_entry set source.len W.Own e1) (and_one g get e2)

          carries : Carries g alive x info of source
          carries = found.carries e3 (0 + 1) more within3

          whole : HasEverywhere g info.elem.bits of source t words
          whole =
              subst (λ (m : ℕ). HasEverywhere g info.elem.bits of (record source { len = m }) t words) (sym carries.len)
              (there (0 + 1) e3 more within3 (names_third g get field at source [] (length e2.code) stands refl) info.elem.bits (omega arith))

          gives : GivesField g alive info.elem.bits bound e2 t set st (λ q. words (to q)) field e3
          gives =
              puts_own g alive places fields info.elem.bits bound set get field e2 t st (λ q. words (to q)) (omega (arith, less, longer.1)) (let two = one_more set source.len W.Own e1 in omega (arith, two))
              (taken g set source.len W.Own e1 e3 1 within3 (and_one g get e2)) (no_home g alive (length e.fields) (length e1.fields) longer.1 a.passes.at) refl carries.len within3 (starts_entry g alive _ _ begins) a.passes.sim
              (puts_get info.elem.bits set of field at source t to words carries.len (named named_later) leads whole)

      got_last : Within g (got ty.elem f at source e1) → Q (O.Field f) (got ty.elem f at source e1)
      unfolding got
      got_last within = by (nat_lt ty.elem.bits bits) refl
        where
          made : Bool → Draft
          made b = if b then with_instr (I.Move ty.elem.signed f (got_field f source e1)) (wide_get f at source e1) else plain_get f at source e1

          by : (b : Bool) → nat_lt ty.elem.bits bits ≡ b → Q (O.Field f) (made (nat_lt ty.elem.bits bits))
          by true more = subst (λ (b : Bool). Q (O.Field f) (made b)) (sym more) (wide_last (subst (λ (b : Bool). Within g (made b)) more within))
          by false enough =
              subst (λ (b : Bool). Q (O.Field f) (made b)) (sym enough)
              (plain_last (subst (λ (y : Elem). bits ≤ y.bits) (sym same) (let low : bits ≤ ty.elem.bits = grind (arith, nat_tests, enough) in low)) (subst (λ (b : Bool). Within g (made b)) enough within))

    -- behind the code of its indexes
    routed_last : (ty : ValueType) (place_of : Place) (p : _) (indexes : Row_of-TExpr _) (x : Variable) (set of offset bits bound : ℕ) (quiet : Bool) (spot : Draft → Made Spot) (d : Draft) (s : CodeState) (st : State) → bits ≤ 32 → ty.shape ≡ Some set → IsOfFileOrBlock x → all_go_by_news of 0 (items-the_row-TExpr _ indexes) ≡ false
        → AreIndexes set indexes → HasPure set indexes → alive x → AllCoded g has alive n ready places fields indexes → AllValued g has alive n ready places fields set indexes → HasVariable g.typed g.instance n x (plain (parallel ty.elem of)) → HasAxes g.typed of (length (items-the_row-TExpr _ indexes))
        → spot d ≡ indexed_spot g.typed (layout g) (T.LeftIndex' ty place_of p indexes x of) (values_of g.typed (layout g) false quiet indexes) d → bound ≤ length d.fields → Starts g alive s (length d.code) d.regs (length d.fields) → Sim g alive st s → (Q : Out → Draft → Type 0)
        → (meant g fields (T.LeftIndex' ty place_of p indexes x of) st ≡ Source.Gives (Parallel (λ q. value_in (extents g set) st (T.LeftIndex' ty place_of p indexes x of) q)) st → (e2 : Draft) (i : Instr) → Within g (with_instr i e2) → (passes : Passes g alive bound d e2 s st (Unit {0}))
        → Puts g set i (record { set = set; offset = offset; len = bits }) passes.t (λ q. word_at (extents g set) st (T.LeftIndex' ty place_of p indexes x of) q) → Q (O.Field (record { set = set; offset = offset; len = bits })) (with_instr i e2))
        → (Ended g s (meant g fields (T.LeftIndex' ty place_of p indexes x of) st) → (y : Out) (after : Draft) → Q y after)
        → After g Q (index_read_to g.typed (layout g) (T.LeftIndex' ty place_of p indexes x of) spot (O.Field (record { set = set; offset = offset; len = bits })) d)
    unfolding evaluated each_located passes_from then_make
    routed_last ty place_of p indexes x set of offset bits bound quiet spot d s st most shaped read goes are some living coded valued v axes spot_is less here sim Q last ended =
        after_same g Q (router_code g ty place_of p indexes x set of f (values_of g.typed (layout g) false quiet indexes) spot d shaped goes spot_is)
        (then_after g (KnowsAll g has alive n ready places fields set bound d1 s st indexes []) Q (values_of g.typed (layout g) false quiet indexes [] d1) (λ parts between. behind_indexes g x of ty place_of items f at parts between)
        (row_after g has alive n ready places fields indexes quiet set bound d1 s st are some coded valued (omega (arith, less, first)) (starts_entry g alive _ _ here) sim) (λ parts between. behind_extends x of info ty place_of items f at parts between finds) (λ parts between known. by parts between known))
      where
        e : TExpr
        e = T.LeftIndex' ty place_of p indexes x of

        f : Field
        f = record { set = set; offset = offset; len = bits }

        at : Field
        at = next_field set 32 d

        items : List TExpr
        items = items-the_row-TExpr _ indexes

        info : VarInfo
        info = variable_info v.word (plain (parallel ty.elem of)) v.start

        finds : (after : Draft) → FindsOrFails g has alive n ready places fields of x info after
        finds after = finds_read g has alive n ready places fields of x info after read living v.named refl refl s st sim

        also : of < length (shapes g)
        also = (variable_fits g alive places fields of x info read living v.named refl refl st s sim).0

        many : length items ≡ length (extents g of).own
        many = axes.2 ∙ ap length (sym (own_extents g.typed of axes.0 axes.1) ∙ (places.grids of also).0)

        d1 : Draft
        d1 = with_entry set 32 W.Own d

        first : length d1.fields ≡ length d.fields + 1
        first = one_more set 32 W.Own d

        given : List Operand
        given = indexes_at (extents g set) st indexes

        to : ℕ → ℕ
        to = target_of of (extents g set) st indexes

        same : (q : ℕ) → held ty.elem (st.parallel x 0 (to q)) ≡ word_at (extents g set) st e q
        same q = ap (λ (y : ℕ). held ty.elem y) (sym (routed_value (extents g set) st ty place_of p indexes x of q))

        means : all_meant g has alive n ready places fields indexes st ≡ Source.Gives given st → outside_at fields.scope fields.active set of given ≡ None → meant g fields e st ≡ Source.Gives (Parallel (λ q. value_in (extents g set) st e q)) st
        means known clear =
            routed_gives fields.scope fields.active ty place_of p indexes x set of given st shaped known clear
            ∙ ap (λ (xs : List ℕ). Source.Gives (Parallel (λ q. st.parallel x 0 (named_by xs given q))) st) (fields.same_extents of also)
            ∙ ap (λ (w : ℕ → ℕ). Source.Gives (Parallel w) st) (λ j q. sym (routed_value (extents g set) st ty place_of p indexes x of q) j)

        by : (parts : List Out) (between : Draft) → KnowsAll g has alive n ready places fields set bound d1 s st indexes [] parts between → After g Q (behind_indexes g x of ty place_of items f at parts between)
        by parts between (inr early) =
            after_all g Q (behind_indexes g x of ty place_of items f at parts between)
            (λ y after. ended (ended_on g s (all_meant g has alive n ready places fields indexes st) (λ given between. then_do (indexed_target fields.scope fields.active ty.shape place_of x of given between) (λ there after. Source.Gives (read_there after there) after)) early) y after)
        by parts between (inl (known, stand, there)) =
            after_same g Q (ap (λ (b : Bool). if b then got_from g x ty.elem f at (each_located place_of of items (map index_coordinate parts) at between) else Fails) stand.somewhere) (found_there (finds located))
          where
            checked : Draft
            checked = with_step (ChecksTarget of place_of (signed_coordinates items (map index_coordinate parts))) between

            located : Draft
            located = with_step (MakesAddress at of (map index_coordinate parts)) checked

            behind : Extended between (1 + 1) located
            behind = extended between checked located 1 1 (and_step _ between) (and_step _ checked)

            -- behind a draft with the address, where the field is found
            Goal : Draft → Type 0
            Goal y = (found : Finds g has alive n ready places fields of x info y) → Within g (got ty.elem f at found.f found.e) → Q (O.Field f) (got ty.elem f at found.f found.e)

            found_there : FindsOrFails g has alive n ready places fields of x info located → After g Q (got_from g x ty.elem f at located)
            found_there (inl fails) = after_same g Q (ap (λ (m : Made Field). then_make m (λ source after. Makes (O.Field f) (got ty.elem f at source after))) fails) (nothing_after g Q)
            found_there (inr found) =
                after_same g Q (ap (λ (m : Made Field). then_make m (λ source after. Makes (O.Field f) (got ty.elem f at source after))) found.is) (made_after g Q (O.Field f) (got ty.elem f at found.f found.e) (λ within.
                let more = got_extends ty.elem f at found.f found.e in
                let later : Extended located (0 + more.0) (got ty.elem f at found.f found.e) = extended located found.e (got ty.elem f at found.f found.e) 0 more.0 found.grown more.1 in
                let inside_it : Within g located = earlier g located (got ty.elem f at found.f found.e) (0 + more.0) later within in
                located_after g alive places fields has n ready set of bound place_of indexes parts at d1 between s st Goal are there coded many also refl refl less (let longer = fields_longer d1 between stand.passes.grown.0 stand.passes.grown.1 in omega (arith, longer, first))
                (taken g set 32 W.Own d located (stand.passes.grown.0 + (1 + 1)) inside_it (extended d1 between located stand.passes.grown.0 (1 + 1) stand.passes.grown.1 behind)) (no_home g alive (length d.fields) (length d.fields) (omega arith) here) stand inside_it
                (λ clear y gives found_y w.
                got_last ty x set of bits offset bound info at to d1 y s st Q most refl (gives_set g alive places fields 32 bound d1 s set st to at y gives).1 found_y (let l1 = fields_longer d1 y gives.passes.grown.0 gives.passes.grown.1 in omega (arith, less, first, l1)) gives
                (λ q below on. indexes_within_name_positions (extents g of).own given q (inside g alive places fields set of given (gives_set g alive places fields 32 bound d1 s set st to at y gives).1 also clear q below on))
                (λ e2 i w2 passes puts. last (means known clear) e2 i w2 (passes_from g alive bound d d1 e2 s st (Unit {0}) (and_entry set 32 W.Own d) passes)
                (puts_same g set i f passes.t (λ q. held ty.elem (st.parallel x 0 (to q))) (λ q. word_at (extents g set) st e q) (λ q below. same q) puts)) w)
                (λ q some ends y found_y w. ended (record { early = Source.Fault Index place_of (Some q); state = st; is = routed_faults fields.scope fields.active ty place_of p indexes x set of given st q shaped known some; finishes = ends }) (O.Field f) (got ty.elem f at found_y.f found_y.e)) found within))

    -- so a get is read, from neighbours or by the router
    pub indexed_last : (ty : ValueType) (place_of : Place) (p : _) (indexes : Row_of-TExpr _) (x : Variable) (set of offset bits bound : ℕ) (spot : Draft → Made Spot) (d : Draft) (s : CodeState) (st : State) → bits ≤ 32 → IsPure set (T.LeftIndex' ty place_of p indexes x of) → HasItsCode g.typed g.instance alive n (T.LeftIndex' ty place_of p indexes x of)
        → AllValued g has alive n ready places fields set indexes → spot d ≡ indexed_spot g.typed (layout g) (T.LeftIndex' ty place_of p indexes x of) (values_of g.typed (layout g) false (are_quiet indexes) indexes) d → bound ≤ length d.fields
        → Starts g alive s (length d.code) d.regs (length d.fields) → Sim g alive st s → (Q : Out → Draft → Type 0)
        → (meant g fields (T.LeftIndex' ty place_of p indexes x of) st ≡ Source.Gives (Parallel (λ q. value_in (extents g set) st (T.LeftIndex' ty place_of p indexes x of) q)) st → (e2 : Draft) (i : Instr) → Within g (with_instr i e2) → (passes : Passes g alive bound d e2 s st (Unit {0}))
        → Puts g set i (record { set = set; offset = offset; len = bits }) passes.t (λ q. word_at (extents g set) st (T.LeftIndex' ty place_of p indexes x of) q) → Q (O.Field (record { set = set; offset = offset; len = bits })) (with_instr i e2))
        → (Ended g s (meant g fields (T.LeftIndex' ty place_of p indexes x of) st) → (y : Out) (after : Draft) → Q y after)
        → After g Q (index_read_to g.typed (layout g) (T.LeftIndex' ty place_of p indexes x of) spot (O.Field (record { set = set; offset = offset; len = bits })) d)
    unfolding IsPure NamesVariables NamesAmong
    indexed_last ty place_of p indexes x set of offset bits bound spot d s st most is c valued spot_is less here sim Q last ended = by is.2
      where
        f : Field
        f = record { set = set; offset = offset; len = bits }

        e : TExpr
        e = T.LeftIndex' ty place_of p indexes x of

        by : ((of ≡ set) × AreSteps set 0 indexes) ⊎ ((all_go_by_news of 0 (items-the_row-TExpr _ indexes) ≡ false) × AreIndexes set indexes × HasPure set indexes) → After g Q (index_read_to g.typed (layout g) e spot (O.Field f) d)
        by (inl (same, are)) =
            let names = get_names g.typed g.instance n of set indexes same are c.code.names.1 c.code.names.2 in
            get_last g has alive n ready places fields ty place_of p indexes x of set offset bits spot bound d s st most is.0 is.1 same are c.among.0 c.code.names.0 names less here sim Q last ended
        by (inr (goes, are, some)) =
            routed_last ty place_of p indexes x set of offset bits bound (are_quiet indexes) spot d s st most is.0 is.1 goes are some c.among.0 (all_coded g has alive n ready places fields ty place_of p indexes x of c) valued c.code.names.0 c.code.names.2 spot_is less here sim Q last ended
