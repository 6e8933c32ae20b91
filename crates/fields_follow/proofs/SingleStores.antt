-- Assignments to a single position of a parallel variable, which scalar indexes name, and steps of one: the position is
-- found, the number is evaluated, with an operator the old one is read, and then what is stored is written there, whether
-- the position is active or not.
use denote.Hole.Carrier
use Rattle.std.proofs.Common.{◌≡◌, ◌∙◌, ℕ, ◌+◌, ◌<◌, ◌^◌, ◌==◌, Bool, true, false, not, [], ◌∷◌, ◌≤◌, length, slice_index, Option, Some, None, refl, sym, ap, subst, arith, if◌then◌else◌}
use Rattle.std.specs.Prelude.{◌⊎◌}
use Rattle.cstar_base.specs.declared.elem.Elem.{Elem}
use Rattle.cstar_base.specs.declared.operators.Place.{Place}
use Rattle.cstar_base.specs.Numbers.{converted}
use Rattle.code_lengths.specs.Ready.{HasCode, IsReadyButForFields}
use Rattle.code_lengths.proofs.Agreeing.{lengths_if_made}
use Rattle.communication_laws.proofs.OnePosition.{writes_of_positions_store}
use Rattle.constant_trees.proofs.Words.{converted_below}
use Rattle.cstar_base.specs.declared.operators.Op.{Op}
use Rattle.cstar_tree.specs.declared.syntax.AssignOp.{AssignOp}
use Rattle.cstar_tree.specs.declared.syntax.StepOp.{StepOp}
use Rattle.cstar_tree.specs.declared.typed.StepOrder.{StepOrder}
use Rattle.cstar_tree.specs.declared.typed.StepOrder.TheVariants as Or
use Rattle.cstar_tree.specs.declared.typed.TExpr.{TExpr, Row_of-TExpr, out-TExpr}
use Rattle.cstar_tree.specs.declared.typed.TExpr as T
use Rattle.cstar_tree.specs.declared.typed.ValueType.{ValueType}
use Rattle.cstar_tree.specs.declared.typed.VarInfo.{VarInfo}
use Rattle.cstar_tree.specs.declared.typed.Variable.{Variable}
use Rattle.cstar_tree.specs.declared.typed.Variable.TheVariants as V
use Rattle.cstar_tree.specs.Typed.{type_of}
use Rattle.lower_base.specs.declared.emit.Out.{Out}
use Rattle.lower_base.specs.declared.emit.Out.TheVariants as O
use Rattle.lower_base.specs.Constants.{first_free, word_in}
use Rattle.lower_base.specs.Drafts.{Draft, Fails, Made, Makes, a_register, from, in_register, step as step_of, then_make, with_instr}
use Rattle.lower_base.specs.Layouts.{field_of}
use Rattle.lower_base.specs.Operators.{assign_op_of}
use Rattle.lower_comm.specs.Messages.{assigned as assigned_code, communicated, indexed, indexed_field, part_register, stored as stored_at}
use Rattle.lower_expr.specs.declared.spots.Spot.{Spot}
use Rattle.lower_expr.specs.declared.spots.Spot.TheVariants as S
use Rattle.lower_expr.specs.Kinds.{operator_bits}
use Rattle.lower_expr.specs.Steps.{assigned_signed, converted_in_place, is_kept, operated as operated_in}
use Rattle.lower_expr.specs.Operands.{are_quiet, operand_by}
use Rattle.lower_expr.specs.Spots.{stored as stored_code}
use Rattle.lower_expr.specs.Values.{assigned_by, lowest, plainly_set_by, register_folded, register_updated, set_by, spot_of, step_operation, stepped_at, stepped_in, stepped_once, taken_bits, updated_by, value_of}
use Rattle.paris_code.specs.declared.instr.Instr.{Instr}
use Rattle.paris_code.specs.declared.instr.Instr.TheVariants as I
use Rattle.paris_code.specs.declared.operands.Field.{Field}
use Rattle.paris_code.specs.declared.operands.Konst.TheVariants as K
use Rattle.paris_code.specs.Code.{CodeState, Goes, applied, begun}
use Rattle.paris_code.specs.Fetching.{at_one}
use Rattle.paris_code.specs.Meaning.{after}
use Rattle.paris_code.specs.Memory.{field_number, processors}
use Rattle.source_meaning.specs.Expressions.{evaluated, located, operated}
use Rattle.source_meaning.specs.Reductions.{int_type, promoted, working_type}
use Rattle.source_meaning.specs.State.{Gives, Outcome, State, with_positions}
use Rattle.source_meaning.specs.State as Source
use Rattle.source_meaning.specs.Targets.{OfPosition, Target, assign_to, assigned, new_value, read, step_value, stepped, stored}
use Rattle.source_meaning.specs.Values.{Active, Scalar, Scope, Value, at, each, number}
use Rattle.source_meaning.proofs.ConstantLaws.{Boxed}
use Rattle.code_follows.specs.Fragment.{AreIn, IsGiven, IsWord, Takes, naming}
use Rattle.code_follows.proofs.Besides.{IsValued}
use Rattle.code_follows.proofs.Effects.{promoted_wide, working_wide}
use Rattle.code_follows.proofs.Fresh.{IsClear, made_so}
use Rattle.code_follows.proofs.FreshStores.{single_step_code, store_code}
use Rattle.code_follows.proofs.Given.{given_set, given_word}
use Rattle.code_follows.proofs.Operated.{Loaded, apart_from, applied_then, given_arrives, in_place, loaded_by, lowest_follows, place_more, placed_arrives, same_operation, then_same}
use Rattle.code_follows.proofs.Arguments.{AreDone}
use Rattle.code_follows.proofs.Changing.{HoldsOne, no_place, only_set, operated_set_is, plain_type, scalar_type, set_is, stepped_is, stepping}
use Rattle.code_follows.proofs.Following.{Arrives, Extends, Follows, HasRegisters, Keeps, Ran, Sim, delayed, extends_made, extends_then, follows_same, held, keeps_all, keeps_less, keeps_on, then_follows, value_kept}
use Rattle.code_follows.proofs.Growing.{Extended, as_it_was, extended}
use Rattle.code_follows.proofs.Settings.{At, Begun, Reaches, Setting, Within, and_one, begun_later, layout, onto, placed_instr, stay}
use Rattle.code_follows.proofs.Values.{Does, HasWord, Value_of, and_register, extends_grown, extends_in_register, extends_operated, extends_word, value_stands, with_reg, word_follows}
use Rattle.code_follows.proofs.Words.{below_word, held_wide}
use Rattle.fields_follow.specs.Fragment.{IsOfFileOrBlock}
use Rattle.fields_follow.proofs.Instructions.{place as place_of, shapes, wrote}
use Rattle.fields_follow.proofs.Knowing.{KnowsFields, sim_open}
use Rattle.fields_follow.proofs.Leaving.{Leaves, fields_under, places_under, registers_under, under, within_under}
use Rattle.fields_follow.proofs.Passing.{Passes, passes_all, passes_from}
use Rattle.fields_follow.proofs.PassingTests.{tests_passed}
use Rattle.fields_follow.proofs.Places.{names_first, stands_here as stands_in}
use Rattle.fields_follow.proofs.Running.{leaves_ran, starts_there}
use Rattle.fields_follow.proofs.SinglePositions.{FindsIt, Found, found_at, found_extends, found_follows, found_in, info as info_of, load_is, reads_one, small_there, spot_is, with_field}
use Rattle.fields_follow.proofs.Starts.{Starts}
use Rattle.fields_follow.proofs.Values.{starts_found}
use Rattle.fields_follow.proofs.VariableWrites.{entry_and_below, writes_leave}
use Rattle.fields_follow.proofs.Variables.{Carries}
use Rattle.fields_follow.proofs.Writing.{instr_writes}

module _ (g : Setting) (has : HasRegisters g) (alive : Variable → Type 0) (scope : Scope) (active : Active) (known : KnowsFields g scope active) (files : (k : ℕ) → alive (V.File k)) (n : ℕ) (ready : (d : Draft) → IsReadyButForFields g.typed g.instance (layout g) n d) (ty : ValueType) (place : Place) (r : _)
    (indexes : Row_of-TExpr _) (x : Variable) (of : ℕ) (scalar : ty.shape ≡ None) (read_so : IsOfFileOrBlock x) (living : alive x) (isin : AreIn (naming g.may alive) indexes) (c : HasCode g.typed g.instance n (T.LeftIndex' ty place r indexes x of)) (done : AreDone g has alive scope active false (are_quiet indexes) indexes) where
  abbrev left : TExpr
  left = T.LeftIndex' ty place r indexes x of

  abbrev info : VarInfo
  info = info_of g has alive scope active known n ready ty place r indexes x of scalar read_so living isin c done

  -- the variable has a number at a position
  abbrev put : ℕ → ℕ → State → State
  put position w u = with_positions x 0 (λ z. z == position) (λ z. w) u

  position_holds : (position : ℕ) (u : State) → HoldsOne scope active ty.elem (OfPosition x position) u (u.parallel x 0 position) (put position)
  unfolding assign_to new_value read stored each at number
  position_holds position u = record { reads = refl; assigns = λ op from w. refl }

  -- its code finds the field
  abbrev Finds_it : Draft → Type 0
  Finds_it d = FindsIt g has alive scope active known n ready ty place r indexes x of scalar read_so living isin c done d

  abbrev writes_in : ℕ → ℕ → Field → Draft → Draft
  writes_in to w dest d = with_instr (I.WriteToProcessor dest to (K.Reg w)) d

  abbrev written_in : ℕ → Out → Field → Draft → Made Out
  written_in to v dest d = in_register v (λ w. Makes v (writes_in to w dest d))

  abbrev writes : ℕ → Out → Draft → Made Out
  writes to v d = then_make (field_of g.typed (layout g) x 0 d) (λ dest after. written_in to v dest after)

  -- what is known of the code that finds it, where it begins in any state
  module _ (s0 : CodeState) (st0 : State) (sim0 : Sim g alive st0 s0) where
    field_extends : (d : Draft) → Extends g d (field_of g.typed (layout g) x 0 d)
    field_extends d = found_extends g has alive scope active known n ready ty place r indexes x of scalar read_so living isin c done s0 st0 sim0 d

    writes_grow : (to : ℕ) (v : Out) (d : Draft) → Extends g d (writes to v d)
    unfolding Extends
    writes_grow to v d = extends_then g d (field_of g.typed (layout g) x 0 d) (λ dest after. written_in to v dest after) (field_extends d) (λ dest after. extends_in_register g has alive after v _ (λ w. (1, and_one g (I.WriteToProcessor dest to (K.Reg w)) after)))

  -- the code of an expression that stores there
  abbrev Stores : TExpr → Type 0
  Stores e = (to : ℕ) (v : Out) (d : Draft) → communicated g.typed (layout g) e (O.Scalar to) (v ∷ []) O.Nothing d ≡ stored_at g.typed (layout g) left to (v ∷ []) d

  store_is : (e : TExpr) → Stores e → (to : ℕ) (v : Out) (d : Draft) → stored_code g.typed (layout g) e (S.Indexed (O.Scalar to)) v d ≡ writes to v d
  unfolding stored_code out-TExpr Carrier.out stored_at then_make in_register from indexed_field indexed part_register
  store_is e stores to v d = ap (λ (m : Made Out). then_make m (λ _ after. Makes v after)) (stores to v d) ∙ by v (field_of g.typed (layout g) x 0 d)
    where
      by : (v : Out) (m : Made Field) → then_make (then_make m (λ dest after. in_register v (λ w. Makes O.Nothing (writes_in to w dest after)))) (λ _ after. Makes v after) ≡ then_make m (λ dest after. written_in to v dest after)
      by (O.Scalar w) (Makes dest after) = refl
      by (O.Field f) (Makes dest after) = refl
      by O.Nothing (Makes dest after) = refl
      by v Fails = refl

  abbrev finds : Draft → Made ℕ
  finds d = found_in g has alive scope active place of indexes d

  abbrev spot : Draft → Made Spot
  spot d = spot_of g.typed (layout g) left d

  -- what stands behind the position that is found
  behind_spot : {B : Type 0} (next : Spot → Draft → Made B) (alike : ℕ → Draft → Made B) (d : Draft) → ((to : ℕ) (f : Draft) → next (S.Indexed (O.Scalar to)) f ≡ alike to f) → then_make (spot d) next ≡ then_make (finds d) alike
  unfolding then_make
  behind_spot next alike d same = ap (λ (m : Made Spot). then_make m next) (spot_is g has alive scope active known n ready ty place r indexes x of scalar read_so living isin c done d) ∙ by (finds d)
    where
      by : (m : Made ℕ) → then_make (then_make m (λ to after. Makes (S.Indexed (O.Scalar to)) after)) next ≡ then_make m alike
      by (Makes to f) = same to f
      by Fails = refl

  -- behind the position and the number the instruction writes it
  module _ (f : Draft) (t : CodeState) (u : State) (free : Begun g alive f) (here : At g t (length f.code)) (sim : Sim g alive u t) (to w position number_there : ℕ) (below : position < processors (shapes g) of)
      (stands : slice_index t.registers to ≡ position) (has_it : slice_index t.registers w ≡ held ty.elem number_there) (few : number_there < 2 ^ ty.elem.bits) (found : Finds_it f) where
    abbrev left_there : State
    left_there = put position number_there u

    written_there : Within g (writes_in to w found.f found.e) → Ran g alive f t left_there (writes_in to w found.f found.e)
    unfolding passes_from tests_passed begun applied after step_of stored number
    written_there within = leaves_ran g scope active known alive f t u free here files sim (with_instr i e) left_there within leaves
      where
        e : Draft
        e = found.e

        a : Field
        a = found.f

        i : Instr
        i = I.WriteToProcessor a to (K.Reg w)

        inside : Within (under g active) (with_instr i e)
        inside = within_under g active within

        sim_there : Sim (under g active) alive u t
        sim_there = sim_open g scope active known alive u t sim

        begins : Starts (under g active) alive t (length e.code) e.regs (length e.fields)
        begins = starts_found (under g active) (registers_under g active has) alive n ready (places_under g active known.places) (fields_under g active scope known.same_extents) of x info f t found (starts_there g scope active known alive f t u free here files sim)

        passes : Passes (under g active) alive (length f.fields) f e t u (Unit {0})
        passes = passes_from (under g active) alive (length f.fields) f e e t u (Unit {0}) found.grown (passes_all (under g active) alive (length f.fields) e t u (Unit {0}) begins sim_there)

        goes : begun g.image (placed_instr g i) t ≡ Goes (wrote g (at_one (place_of g a) position (held ty.elem number_there)) t)
        goes = ap (λ (y : ℕ). Goes (wrote g (at_one (place_of g a) y (slice_index t.registers w)) t)) stands ∙ ap (λ (y : ℕ). Goes (wrote g (at_one (place_of g a) position y) t)) has_it

        carries : Carries (under g active) alive x info of a
        carries = found.carries (with_instr i e) 1 (and_one g i e) inside

        has_variable : (y : ℕ) → y < processors (shapes g) a.set → true ≡ true → field_number t.memory (place_of g a) y ≡ u.parallel x 0 y
        has_variable y below all =
            carries.numbers u t sim_there (length e.code) (names_first g i a [] (length e.code) (stands_in g i e within refl) refl) (let stands = begins.stands in omega (arith, stands)) y (subst (λ (n : ℕ). y < processors (shapes g) n) carries.of_set below)

        leaves : Leaves (under g active) alive f (with_instr i e) t left_there
        leaves =
            writes_leave (under g active) (places_under g active known.places) (fields_under g active scope known.same_extents) alive x info of a carries living f e (with_instr i e) t u (Unit {0}) (tests_passed (under g active) alive (length f.fields) f e t u (Unit {0}) (omega arith) passes) tt
            (at_one (place_of g a) position (held ty.elem number_there))
            (instr_writes (under g active) i a [] e t (at_one (place_of g a) position (held ty.elem number_there)) (entry_and_below (under g active) (places_under g active known.places) (fields_under g active scope known.same_extents) alive x info of a carries) inside begins.stands refl refl refl goes) (λ y. y == position)
            (λ y. number_there)
            (λ y inside_set. writes_of_positions_store (shapes g) t.memory [] (place_of g a) to w u active x ty.elem position number_there carries.len has_variable few y (subst (λ (n : ℕ). y < processors (shapes g) n) (sym carries.of_set) inside_set) refl) (λ y. few)

  -- a value stands while it is written
  value_stays : (quiet : Bool) (d f : Draft) (s : CodeState) (v : Value) (u : State) (out : Out) (a : Arrives g alive ty.elem false d s v u out f) (to w position number_there : ℕ) → Begun g alive d → position < processors (shapes g) of → slice_index a.t.registers to ≡ position
      → slice_index a.t.registers w ≡ held ty.elem number_there → number_there < 2 ^ ty.elem.bits → (found : Finds_it f) → Within g (writes_in to w found.f found.e) → Arrives g alive ty.elem quiet d s v (put position number_there u) out (writes_in to w found.f found.e)
  value_stays quiet d f s v u out a to w position number_there free below stands has_it few found within =
      let ran = written_there f a.t u (begun_later g alive d f a.extended.0 a.extended.1 free) a.at a.sim to w position number_there below stands has_it few found within in
      record {
        extended = (a.extended.0 + ran.grown.0, extended d f (writes_in to w found.f found.e) a.extended.0 ran.grown.0 a.extended.1 ran.grown.1);
        t = ran.t;
        go = onto g s a.t ran.t a.go ran.go;
        at = ran.at;
        sim = ran.sim;
        keeps = keeps_on g d f a.extended.0 s a.t ran.t a.extended.1 a.keeps ran.keeps;
        holds = record {
          register = a.holds.register;
          word = a.holds.word;
          is = a.holds.is;
          value = a.holds.value;
          small = a.holds.small;
          lasts = λ y t later stays same. a.holds.lasts y t later (keeps_on g f (writes_in to w found.f found.e) ran.grown.0 a.t ran.t t ran.grown.1 ran.keeps stays) (λ no. cc);
        };
      }

  -- ---- with an operator

  -- the old number goes to a register, and behind the operator and the conversion the new one is written
  abbrev load_in : ℕ → ℕ → Field → Draft → Draft
  load_in to a source d = with_instr (I.ReadFromProcessor ty.elem.signed a to source) d

  abbrev loads : ℕ → ℕ → (Draft → Made Out) → Draft → Made Out
  loads to a next d = then_make (field_of g.typed (layout g) x 0 d) (λ source after. next (load_in to a source after))

  abbrev stored_in : ℕ → ℕ → ℕ → Draft → Made Out
  stored_in to res new d = then_make (field_of g.typed (layout g) x 0 d) (λ dest after. Makes (O.Scalar res) (writes_in to new dest after))

  abbrev applied_in : ℕ → Op → Bool → Place → ℕ → ℕ → ℕ → ℕ → Draft → Made Out
  applied_in to o signed at_place res new old b d = stored_in to res new (in_place g has alive ty.elem new (operated_in o signed at_place new old b d))

  module _ (s0 : CodeState) (st0 : State) (sim0 : Sim g alive st0 s0) where
    loads_grow : (to a : ℕ) (next : Draft → Made Out) (d : Draft) → ((y : Draft) → Extends g y (next y)) → Extends g d (loads to a next d)
    loads_grow to a next d grows = extends_then g d (field_of g.typed (layout g) x 0 d) _ (field_extends s0 st0 sim0 d) (λ source after. extends_made g after (load_in to a source after) 1 (next (load_in to a source after)) (and_one g (I.ReadFromProcessor ty.elem.signed a to source) after) (grows (load_in to a source after)))

    stored_grows : (to res new : ℕ) (d : Draft) → Extends g d (stored_in to res new d)
    unfolding Extends
    stored_grows to res new d = extends_then g d (field_of g.typed (layout g) x 0 d) (λ dest after. Makes (O.Scalar res) (writes_in to new dest after)) (field_extends s0 st0 sim0 d) (λ dest after. (1, and_one g (I.WriteToProcessor dest to (K.Reg new)) after))

    applied_grows : (to : ℕ) (o : Op) (signed : Bool) (at_place : Place) (res new old b : ℕ) (d : Draft) → Extends g d (applied_in to o signed at_place res new old b d)
    unfolding Extends
    applied_grows to o signed at_place res new old b d =
        let last : Draft = operated_in o signed at_place new old b d in
        let first = extends_operated g has alive o signed at_place new old b d in
        let placed_more = place_more g has alive ty.elem new last in
        let placed : Draft = in_place g has alive ty.elem new last in
        extends_made g d placed (first.0 + placed_more.0) (stored_in to res new placed) (extended d last placed first.0 placed_more.0 first.1 placed_more.1) (stored_grows to res new placed)

  -- Registers are taken, the position is found, and a value may be evaluated behind it.
  module _ (quiet : Bool) (d e0 f e : Draft) (j m : ℕ) (s t : CodeState) (there : Target) (u0 u : State) (to : ℕ) (free : Begun g alive d) (taken : Extended d j e0) (h : Found g has alive scope active of x e0 s there u0 to f) (more : Extended f m e) (go : Reaches g h.arrives.t t) (here : At g t (length e.code)) (sim : Sim g alive u t) (keeps : Keeps g f h.arrives.t t)
      (old new res : ℕ) (old_low : d.regs ≤ old) (old_high : old < e0.regs) (new_low : d.regs ≤ new) (new_high : new < e0.regs) (res_low : d.regs ≤ res) (res_high : res < e0.regs) (found : Finds_it e) where
    abbrev old_there : ℕ
    old_there = u.parallel x 0 h.position

    abbrev e1 : Draft
    e1 = load_in to old found.f found.e

    load_more : Extended e (0 + 1) e1
    load_more = extended e found.e e1 0 1 found.grown (and_one g (I.ReadFromProcessor ty.elem.signed old to found.f) found.e)

    -- the registers that were taken for the position stay
    found_before : (b : ℕ) → e0.regs ≤ b → b < f.regs → slice_index t.registers b ≡ slice_index h.arrives.t.registers b
    found_before b low high = let first = taken.regs in keeps b (value_kept g f b (omega (arith, free, low, first)) high)

    reached : Reaches g s t
    reached = onto g s h.arrives.t t h.arrives.go go

    kept_so : Keeps g d s t
    kept_so = let first = taken.regs in keeps_less g d e0 s t first (keeps_on g e0 f h.arrives.extended.0 s h.arrives.t t h.arrives.extended.1 h.arrives.keeps keeps)

    grown_so : Extended d (j + h.arrives.extended.0 + m) e
    grown_so = extended d f e (j + h.arrives.extended.0) m (extended d e0 f j h.arrives.extended.0 taken h.arrives.extended.1) more

    pub loads_old : Within g e1 → Loaded g has alive ty.elem d e1 t u old (held ty.elem old_there)
    unfolding step_of
    loads_old within =
        let first = h.arrives.extended.1.regs in
        let second = more.regs in
        let third = found.grown.regs in
        loaded_by g has alive ty.elem d found.e (I.ReadFromProcessor ty.elem.signed old to found.f) t u old (held ty.elem old_there) free old_low (omega (arith, old_high, first, second, third)) (found_at g has alive scope active known n ready ty place r indexes x of scalar read_so living isin c done e found t here) sim refl
        (reads_one g has alive scope active known n ready ty place r indexes x of scalar read_so living isin c done e found t u old to h.position here sim h.below (h.stays u t sim found_before) within) within

    pub applied_follows : (l : Loaded g has alive ty.elem d e1 t u old (held ty.elem old_there)) (i : ℕ) (z : Draft) (t2 : CodeState) (at_type : Elem) → at_type.bits ≡ 32 → (o : Op) (at_place : Place) (signed : Bool) (b w : ℕ) (shown : Value → Value) (last : ℕ → ℕ) → Extended e1 i z → Reaches g l.t t2 → At g t2 (length z.code) → Sim g alive u t2 → Keeps g e1 l.t t2
        → slice_index t2.registers b ≡ w → w < 2 ^ 32 → ((c : ℕ) → c < 2 ^ ty.elem.bits → (shown (Scalar c) ≡ Scalar (last c)) × (last c < 2 ^ ty.elem.bits))
        → ((p : CodeState) (c : ℕ) → slice_index p.registers new ≡ held ty.elem c → ((new ≡ old → ⊥) → slice_index p.registers old ≡ held ty.elem old_there) → slice_index p.registers res ≡ held ty.elem (last c))
        → Follows g (Value_of g has alive ty.elem quiet d s) s
        (Source.then_do (operated scope active (scalar_type at_type) at_place o (not signed) (Scalar (held ty.elem old_there)) (Scalar w) u) (λ v after. Gives (shown (Scalar (converted ty.elem at_type (number v)))) (put h.position (converted ty.elem at_type (number v)) after)))
        (applied_in to o signed at_place res new old b z)
    unfolding Extends Follows number placed_arrives
    applied_follows l i z t2 at_type wide o at_place signed b w shown last longer on there2 sim2 stays is_b small shows_it shows =
        let first = h.arrives.extended.1.regs in
        let second = more.regs in
        let third = load_more.regs in
        let taken_more = taken.regs in
        let grown : Extended d (j + h.arrives.extended.0 + m + (0 + 1)) e1 = extended d e e1 (j + h.arrives.extended.0 + m) (0 + 1) grown_so load_more in
        let kept_old = value_kept g e1 old (omega (arith, free, old_low)) (omega (arith, old_high, first, second, third)) in
        applied_then g has alive ty.elem at_type wide o at_place signed scope active d e1 z (j + h.arrives.extended.0 + m + (0 + 1)) i s l.t t2 u new old b (held ty.elem old_there) w (λ v after. Gives (shown (Scalar (converted ty.elem at_type (number v)))) (put h.position (converted ty.elem at_type (number v)) after))
        (Value_of g has alive ty.elem quiet d s) (λ y. stored_in to res new y) free grown longer new_low (omega (arith, new_high, first, second, third)) (onto g s t l.t reached l.go) (keeps_on g d d 0 s t l.t (as_it_was d) kept_so l.keeps) on there2 sim2 stays (stays old kept_old ∙ l.is) is_b (converted_below int_type ty.elem old_there) small
        (λ y. stored_grows l.t u l.sim to res new y)
        (λ result v p.
        let number_there : ℕ = converted ty.elem at_type result in
        let few : number_there < 2 ^ ty.elem.bits = converted_below ty.elem at_type result in
        let its = shows_it number_there few in
        subst (λ (y : Value). Follows g (Value_of g has alive ty.elem quiet d s) s (Gives y (put h.position number_there v)) (applied_in to o signed at_place res new old b z)) (sym its.0)
        (with_field g has alive scope active known n ready ty place r indexes x of scalar read_so living isin c done (Value_of g has alive ty.elem quiet d s) s (Gives (Scalar (last number_there)) (put h.position number_there v)) (λ dest after. Makes (O.Scalar res) (writes_in to new dest after)) p.t v p.sim _ (λ there_it. λ within.
        value_stays quiet d _ s (Scalar (last number_there)) v (O.Scalar res)
        (placed_arrives g has alive ty.elem d e1 (j + h.arrives.extended.0 + m + (0 + 1)) s l.t new res number_there (last number_there) v _ free grown res_low (omega (arith, res_high, first, second, third)) its.1 p (shows p.t number_there p.there (λ differs. p.others old kept_old differs ∙ l.is)))
        to new h.position number_there free h.below
        (h.stays v p.t p.sim (λ q low high. p.others q (value_kept g e1 q (omega (arith, free, low, taken_more)) (omega (arith, high, second, third))) (λ same. omega (arith, same, low, new_high)) ∙ l.others q (λ same. omega (arith, same, low, old_high)) ∙ found_before q low high))
        p.there few there_it within)))

  -- ---- assignments

  module _ (sending : Place) (op : AssignOp) (p q : Boxed) (value : TExpr) (given : IsGiven op ty (type_of value)) (valued : IsValued g has scope active alive n value) (bits : ℕ) where
    abbrev whole : TExpr
    whole = T.Assign' ty sending op p left q value

    abbrev given_type : Elem
    given_type = (type_of value).elem

    abbrev took : ℕ
    took = taken_bits bits op left value

    abbrev computes : Draft → Made Out
    computes d = value_of g.typed (layout g) took value d

    stores : Stores whole
    unfolding communicated out-TExpr Carrier.out assigned_code
    stores to v d = refl

    abbrev gives : Target → Value → State → Outcome Value
    gives there v after = assigned scope active sending op ty (type_of value) there v after

    abbrev behind_there : Target → State → Outcome Value
    behind_there there between = Source.then_do (evaluated scope value active between) (λ v after. gives there v after)

    module _ (quiet : Bool) (d : Draft) (s : CodeState) (st : State) (free : Begun g alive d) (here : At g s (length d.code)) (sim : Sim g alive st s) where
      abbrev R : Value → State → Out → Draft → Type 0
      R v u out f = Value_of g has alive ty.elem quiet d s v u out f

      -- without an operator the number is written that is given
      sets : assign_op_of op ≡ None → Follows g R s (evaluated scope whole active st) (assigned_by g.typed (layout g) whole took None sending left value None spot computes d)
      unfolding assigned_by plainly_set_by set_by evaluated Follows in_register
      sets none =
          follows_same g R s refl (behind_spot (λ there between. then_make (computes between) (λ v after. stored_code g.typed (layout g) whole there v after)) behind d (λ to f. then_same (computes f) _ _ (λ v z. store_is whole stores to v z)))
          (then_follows g (Found g has alive scope active of x d s) R s s (located scope left active st) (λ there between. behind_there there between) (finds d) behind (stay g s)
          (found_follows g has alive scope active known n ready ty place r indexes x of scalar read_so living isin c done d s st free here sim) (λ to f. extends_then g f (computes f) (λ v after. writes to v after) (extends_grown g has alive _ f _ _ ((lengths_if_made g.typed g.instance (layout g)).value took n value f valued.code (ready f))) (λ v after. writes_grow s st sim to v after))
          (λ there u to f h. subst (λ (z : Target). Follows g R s (behind_there z u) (behind to f)) (sym h.is)
          (then_follows g (Value_of g has alive given_type false f h.arrives.t) R s h.arrives.t (evaluated scope value active u) (λ v after. gives (OfPosition x h.position) v after) (computes f) (λ v after. writes to v after) h.arrives.go
          (valued.does took f h.arrives.t u (begun_later g alive d f h.arrives.extended.0 h.arrives.extended.1 free) h.arrives.at h.arrives.sim) (λ v after. writes_grow s st sim to v after) (λ v u2 out f2 a. with_value there u to f h v u2 out f2 a))))
        where
          takes : Takes ty.elem given_type
          takes = given_set op ty (type_of value) none given

          behind : ℕ → Draft → Made Out
          behind to f = then_make (computes f) (λ v after. writes to v after)

          means : (position w : ℕ) (u : State) → gives (OfPosition x position) (Scalar w) u ≡ Gives (Scalar w) (put position w u)
          means position w u =
              ap (λ (a : AssignOp). assigned scope active sending a ty (type_of value) (OfPosition x position) (Scalar w) u) (only_set op none)
              ∙ set_is scope active sending (OfPosition x position) ty (type_of value) w u (u.parallel x 0 position) (put position) (position_holds position u) scalar valued.scalar

          with_value : (there : Target) (u : State) (to : ℕ) (f : Draft) (h : Found g has alive scope active of x d s there u to f) (v : Value) (u2 : State) (out : Out) (f2 : Draft) → Arrives g alive given_type false f h.arrives.t v u2 out f2
              → Follows g R s (gives (OfPosition x h.position) v u2) (writes to out f2)
          with_value there u to f h v u2 out f2 a =
              let w : ℕ = a.holds.word in
              let b : Arrives g alive ty.elem false f h.arrives.t (Scalar w) u2 (O.Scalar a.holds.register) f2 = given_arrives g has alive ty.elem given_type takes f h.arrives.t v u2 out f2 a in
              let all : Arrives g alive ty.elem false d s (Scalar w) u2 (O.Scalar a.holds.register) f2 = record {
                extended = (h.arrives.extended.0 + b.extended.0, extended d f f2 h.arrives.extended.0 b.extended.0 h.arrives.extended.1 b.extended.1);
                t = b.t;
                go = onto g s h.arrives.t b.t h.arrives.go b.go;
                at = b.at;
                sim = b.sim;
                keeps = keeps_on g d f h.arrives.extended.0 s h.arrives.t b.t h.arrives.extended.1 h.arrives.keeps b.keeps;
                holds = b.holds;
              } in
              subst (λ (z : Out). Follows g R s (gives (OfPosition x h.position) v u2) (writes to z f2)) (sym a.holds.is)
              (subst (λ (o : Outcome Value). Follows g R s o (writes to (O.Scalar a.holds.register) f2)) (sym (ap (λ (z : Value). gives (OfPosition x h.position) z u2) a.holds.value ∙ means h.position w u2))
              (with_field g has alive scope active known n ready ty place r indexes x of scalar read_so living isin c done R s (Gives (Scalar w) (put h.position w u2)) (λ dest after. written_in to (O.Scalar a.holds.register) dest after) b.t u2 b.sim f2 (λ there_it. λ within.
              let word = value_stands g has alive ty.elem false f2 u2 b.t w a.holds.register b.holds in
              value_stays quiet d f2 s (Scalar w) u2 (O.Scalar a.holds.register) all to a.holds.register h.position w free h.below
              (h.stays u2 b.t b.sim (λ q low high. b.keeps q (value_kept g f q (omega (arith, free, low)) high))) (word.0 u2 b.t b.sim (keeps_all g f2 b.t) (λ no. refl)) word.1 there_it within)))

      -- with one the old number is read, and the new one written
      module _ (o : Op) (some : assign_op_of op ≡ Some o) where
        word : IsWord (type_of value)
        word = given_word op o ty (type_of value) some given

        abbrev signed : Bool
        signed = assigned_signed o ty.elem given_type

        abbrev at_type : Elem
        at_type = working_type op ty.elem given_type

        abbrev operand_in : Draft → Made Out
        operand_in f = operand_by g.typed (layout g) (operator_bits o None value) computes true value f

        abbrev updates : ℕ → Out → Draft → Made Out
        updates to v z = loads to d.regs (λ y. in_register v (λ b. applied_in to o signed sending d.regs d.regs d.regs b y)) z

        abbrev behind_update : ℕ → Draft → Made Out
        behind_update to f = then_make (operand_in f) (λ v z. updates to v z)

        updated_is_so : (to : ℕ) (v : Out) (z : Draft) → register_updated g.typed (layout g) whole o signed sending left d.regs (S.Indexed (O.Scalar to)) v z ≡ updates to v z
        unfolding register_updated then_make in_register converted_in_place
        updated_is_so to v z =
            ap (λ (m : Made Out). then_make m next) (load_is g has alive scope active known n ready ty place r indexes x of scalar read_so living isin c done to d.regs z) ∙ by v (field_of g.typed (layout g) x 0 z)
          where
            next : Out → Draft → Made Out
            next y between = in_register v (λ b. then_make (converted_in_place (O.Scalar d.regs) ty.elem (operated_in o signed sending d.regs d.regs b between)) (λ _ after. stored_code g.typed (layout g) whole (S.Indexed (O.Scalar to)) (O.Scalar d.regs) after))

            by : (w : Out) (m : Made Field) → then_make (then_make m (λ source after. Makes (O.Scalar d.regs) (load_in to d.regs source after))) (λ _ between. in_register w (λ b. then_make (converted_in_place (O.Scalar d.regs) ty.elem (operated_in o signed sending d.regs d.regs b between)) (λ _ after. stored_code g.typed (layout g) whole (S.Indexed (O.Scalar to)) (O.Scalar d.regs) after)))
                ≡ then_make m (λ source after. in_register w (λ b. applied_in to o signed sending d.regs d.regs d.regs b (load_in to d.regs source after)))
            by (O.Scalar b) (Makes source after) = store_is whole stores to (O.Scalar d.regs) (in_place g has alive ty.elem d.regs (operated_in o signed sending d.regs d.regs b (load_in to d.regs source after)))
            by (O.Field f) (Makes source after) = refl
            by O.Nothing (Makes source after) = refl
            by w Fails = refl

        updates_grow : (to : ℕ) (v : Out) (z : Draft) → Extends g z (updates to v z)
        updates_grow to v z = loads_grow s st sim to d.regs _ z (λ y. extends_in_register g has alive y v _ (λ b. applied_grows s st sim to o signed sending d.regs d.regs d.regs b y))

        with_operand : (there : Target) (u : State) (to : ℕ) (f : Draft) (h : Found g has alive scope active of x (with_reg d) s there u to f) (v : Value) (u2 : State) (out : Out) (z : Draft) → IsClear (layout g) f (Makes out z) → Arrives g alive given_type true f h.arrives.t v u2 out z
            → Follows g R s (gives (OfPosition x h.position) v u2) (updates to out z)
        unfolding in_register IsClear number
        with_operand there u to f h v u2 out z clear arr =
            let b : ℕ = arr.holds.register in
            let w : ℕ = arr.holds.word in
            let position : ℕ = h.position in
            let small : w < 2 ^ 32 = below_word given_type.bits w word.1 arr.holds.small in
            let stands : slice_index arr.t.registers b ≡ w = arr.holds.lasts u2 arr.t arr.sim (keeps_all g z arr.t) (λ same. refl) ∙ held_wide given_type w word.1 small in
            let is_clear : (b < first_free (layout g)) ⊎ (f.regs ≤ b) = subst (λ (o : Out). IsClear (layout g) f (Makes o z)) arr.holds.is clear in
            let more = h.arrives.extended.1.regs in
            let low = has.free in
            let apart = apart_from (first_free (layout g)) f.regs d.regs b is_clear (omega (arith, free, low)) (omega (arith, more)) in
            let old : ℕ = u2.parallel x 0 position in
            subst (λ (o : Out). Follows g R s (gives (OfPosition x position) v u2) (updates to o z)) (sym arr.holds.is)
            (subst (λ (y : Value). Follows g R s (gives (OfPosition x position) y u2) (updates to (O.Scalar b) z)) (sym arr.holds.value)
            (with_field g has alive scope active known n ready ty place r indexes x of scalar read_so living isin c done R s (gives (OfPosition x position) (Scalar w) u2) (λ source after. applied_in to o signed sending d.regs d.regs d.regs b (load_in to d.regs source after)) arr.t u2 arr.sim z (λ found.
            let e1 : Draft = load_in to d.regs found.f found.e in
            delayed g R e1 s _ (applied_in to o signed sending d.regs d.regs d.regs b e1) (applied_grows s st sim to o signed sending d.regs d.regs d.regs b e1) (λ within.
            let l = loads_old quiet d (with_reg d) f z 0 arr.extended.0 s arr.t there u u2 to free (and_register d) h arr.extended.1 arr.go arr.at arr.sim arr.keeps d.regs d.regs d.regs (omega arith) (omega arith) (omega arith) (omega arith) (omega arith) (omega arith) found within in
            subst (λ (q : Outcome Value). Follows g R s q (applied_in to o signed sending d.regs d.regs d.regs b e1))
            (sym (ap (λ (y : ValueType). assigned scope active sending op y (type_of value) (OfPosition x position) (Scalar w) u2) (plain_type ty scalar) ∙ operated_set_is g has alive scope active ty.elem (OfPosition x position) u2 old (put position) (position_holds position u2) sending op o (type_of value) w word some))
            (applied_follows quiet d (with_reg d) f z 0 arr.extended.0 s arr.t there u u2 to free (and_register d) h arr.extended.1 arr.go arr.at arr.sim arr.keeps d.regs d.regs d.regs (omega arith) (omega arith) (omega arith) (omega arith) (omega arith) (omega arith) found
            l 0 e1 l.t at_type (working_wide op ty.elem given_type word.1) o sending signed b w (λ y. y) (λ y. y) (as_it_was e1) (stay g l.t) l.at l.sim (keeps_all g e1 l.t) (l.others b apart ∙ stands) small (λ y few. (refl, few)) (λ y number_there is_there others. is_there))))))

        updates_follow : Follows g R s (evaluated scope whole active st) (assigned_by g.typed (layout g) whole took (Some o) sending left value None spot computes d)
        unfolding assigned_by updated_by a_register evaluated then_make
        updates_follow =
            follows_same g R s refl (behind_spot (λ there between. then_make (operand_in between) (λ v after. if is_kept value then register_updated g.typed (layout g) whole o signed sending left d.regs there v after else register_folded g.typed (layout g) whole left d.regs there v after)) behind_update (with_reg d)
            (λ to f. ap (λ (b : Bool). then_make (operand_in f) (λ v after. if b then register_updated g.typed (layout g) whole o signed sending left d.regs (S.Indexed (O.Scalar to)) v after else register_folded g.typed (layout g) whole left d.regs (S.Indexed (O.Scalar to)) v after)) valued.kept ∙ then_same (operand_in f) _ _ (λ v z. updated_is_so to v z)))
            (then_follows g (Found g has alive scope active of x (with_reg d) s) R s s (located scope left active st) (λ there between. behind_there there between) (finds (with_reg d)) behind_update (stay g s)
            (found_follows g has alive scope active known n ready ty place r indexes x of scalar read_so living isin c done (with_reg d) s st (begun_later g alive d (with_reg d) 0 (and_register d) free) here sim) (λ to f. extends_then g f (operand_in f) (λ v z. updates to v z) (valued.grows took (operator_bits o None value) f) (λ v z. updates_grow to v z))
            (λ there u to f h. subst (λ (z : Target). Follows g R s (behind_there z u) (behind_update to f)) (sym h.is)
            (then_follows g (λ v u2 out z. IsClear (layout g) f (Makes out z) × Value_of g has alive given_type true f h.arrives.t v u2 out z) R s h.arrives.t (evaluated scope value active u) (λ v after. gives (OfPosition x h.position) v after) (operand_in f) (λ v z. updates to v z) h.arrives.go
            (made_so g has alive (λ made. IsClear (layout g) f made) (Value_of g has alive given_type true f h.arrives.t) h.arrives.t (evaluated scope value active u) (operand_in f) (valued.clear took (operator_bits o None value) u h.arrives.t h.arrives.sim f)
            (valued.operand took (operator_bits o None value) f h.arrives.t u (begun_later g alive d f (0 + h.arrives.extended.0) (extended d (with_reg d) f 0 h.arrives.extended.0 (and_register d) h.arrives.extended.1) free) h.arrives.at h.arrives.sim))
            (λ v z. updates_grow to v z) (λ v u2 out z both. with_operand there u to f h v u2 out z both.0 both.1))))

    pub assignment_follows : (quiet : Bool) → Does g has alive ty.elem quiet (λ st. evaluated scope whole active st) (λ d. value_of g.typed (layout g) bits whole d)
    assignment_follows quiet d s st free here sim = by (assign_op_of op) refl
      where
        by : (m : Option Op) → assign_op_of op ≡ m → Follows g (Value_of g has alive ty.elem quiet d s) s (evaluated scope whole active st) (value_of g.typed (layout g) bits whole d)
        by m is =
            follows_same g (Value_of g has alive ty.elem quiet d s) s refl (store_code g n ty place r indexes x of c scalar ty sending op p q value bits d ∙ ap (λ (m : Option Op). lowest bits (assigned_by g.typed (layout g) whole took m sending left value None spot computes d)) is)
            (lowest_follows g has alive ty.elem quiet d s bits _ _ (either m is))
          where
            either : (m : Option Op) → assign_op_of op ≡ m → Follows g (Value_of g has alive ty.elem quiet d s) s (evaluated scope whole active st) (assigned_by g.typed (layout g) whole took m sending left value None spot computes d)
            either None none = sets quiet d s st free here sim none
            either (Some o) some = updates_follow quiet d s st free here sim o some

  -- ---- steps

  module _ (op : StepOp) (order : StepOrder) (p : Boxed) (bits : ℕ) where
    abbrev stepping_whole : TExpr
    stepping_whole = T.Step' ty op order p left

    abbrev sign : Bool
    sign = assigned_signed (stepping op) ty.elem (promoted ty.elem)

    step_stores : Stores stepping_whole
    unfolding communicated out-TExpr Carrier.out in_register
    step_stores to v d = refl

    abbrev behind_load : ℕ → ℕ → ℕ → ℕ → Draft → Made Out
    behind_load old new res to z = then_make (word_in (layout g) 1 z) (λ one y. applied_in to (stepping op) sign no_place res new old one y)

    abbrev steps : ℕ → ℕ → ℕ → ℕ → Draft → Made Out
    steps old new res to f = loads to old (λ y. behind_load old new res to y) f

    steps_are : (old new res to : ℕ) (f : Draft) → then_make (stepped_at g.typed (layout g) stepping_whole op left (S.Indexed (O.Scalar to)) (O.Scalar old) (O.Scalar new) f) (λ _ after. Makes (O.Scalar res) after) ≡ steps old new res to f
    unfolding stepped_at stepped_once in_register then_make converted_in_place
    steps_are old new res to f =
        ap (λ (m : Made Out). then_make (then_make m next) (λ _ after. Makes (O.Scalar res) after)) (load_is g has alive scope active known n ready ty place r indexes x of scalar read_so living isin c done to old f) ∙ either (field_of g.typed (layout g) x 0 f)
      where
        next : Out → Draft → Made Out
        next y begun = then_make (stepped_once (layout g) op (O.Scalar old) (O.Scalar new) begun) (λ _ between. then_make (converted_in_place (O.Scalar new) ty.elem between) (λ _ after. stored_code g.typed (layout g) stepping_whole (S.Indexed (O.Scalar to)) (O.Scalar new) after))

        stored_new : (d : Draft) (m : Made Field) → then_make (then_make m (λ dest after. written_in to (O.Scalar new) dest after)) (λ _ after. Makes (O.Scalar res) after) ≡ then_make m (λ dest after. Makes (O.Scalar res) (writes_in to new dest after))
        stored_new d (Makes dest after) = refl
        stored_new d Fails = refl

        by : (m : Made ℕ)
            → then_make (then_make (then_make m (λ one after. Makes (O.Scalar new) (with_instr (I.FrontOperate (step_operation op) new old one) after))) (λ _ between. then_make (converted_in_place (O.Scalar new) ty.elem between) (λ _ after. stored_code g.typed (layout g) stepping_whole (S.Indexed (O.Scalar to)) (O.Scalar new) after))) (λ _ after. Makes (O.Scalar res) after)
            ≡ then_make m (λ one y. applied_in to (stepping op) sign no_place res new old one y)
        by (Makes one y) =
            let there : Draft = in_place g has alive ty.elem new (with_instr (I.FrontOperate (step_operation op) new old one) y) in
            ap (λ (m : Made Out). then_make m (λ _ after. Makes (O.Scalar res) after)) (store_is stepping_whole step_stores to (O.Scalar new) there)
            ∙ stored_new there (field_of g.typed (layout g) x 0 there)
            ∙ ap (λ (h : Draft). stored_in to res new (in_place g has alive ty.elem new h)) (same_operation no_place op sign new old one y)
        by Fails = refl

        either : (m : Made Field) → then_make (then_make (then_make m (λ source after. Makes (O.Scalar old) (load_in to old source after))) next) (λ _ after. Makes (O.Scalar res) after) ≡ then_make m (λ source after. behind_load old new res to (load_in to old source after))
        either (Makes source after) = by (word_in (layout g) 1 (load_in to old source after))
        either Fails = refl

    abbrev taken_both : Draft → Draft
    taken_both d = with_reg (with_reg d)

    both_taken : (d : Draft) → Extended d (0 + 0) (taken_both d)
    both_taken d = extended d (with_reg d) (taken_both d) 0 0 (and_register d) (and_register (with_reg d))

    module _ (quiet : Bool) (d : Draft) (s : CodeState) (st : State) (free : Begun g alive d) (here : At g s (length d.code)) (sim : Sim g alive st s) (old new res : ℕ) (last : ℕ → ℕ → ℕ) (old_low : d.regs ≤ old) (old_high : old < d.regs + 2) (new_low : d.regs ≤ new) (new_high : new < d.regs + 2) (res_low : d.regs ≤ res) (res_high : res < d.regs + 2)
        (shows_it : (was c : ℕ) → was < 2 ^ ty.elem.bits → c < 2 ^ ty.elem.bits → (step_value order (Scalar was) (Scalar c) ≡ Scalar (last was c)) × (last was c < 2 ^ ty.elem.bits))
        (shows : (y : CodeState) (was c : ℕ) → slice_index y.registers new ≡ held ty.elem c → ((new ≡ old → ⊥) → slice_index y.registers old ≡ held ty.elem was) → slice_index y.registers res ≡ held ty.elem (last was c)) where
      step_grows : (to : ℕ) (z : Draft) → Extends g z (behind_load old new res to z)
      step_grows to z = extends_then g z (word_in (layout g) 1 z) _ (extends_word g has alive 1 z) (λ one y. applied_grows s st sim to (stepping op) sign no_place res new old one y)

      with_old : (there : Target) (u : State) (to : ℕ) (f : Draft) (h : Found g has alive scope active of x (taken_both d) s there u to f) → Follows g (Value_of g has alive ty.elem quiet d s) s (stepped scope active op order ty there u) (steps old new res to f)
      unfolding number Source.then_do
      with_old there u to f h =
          let position : ℕ = h.position in
          let was : ℕ = u.parallel x 0 position in
          let was_small : was < 2 ^ ty.elem.bits = small_there g has alive scope active known n ready ty place r indexes x of scalar read_so living isin c done u h.arrives.t position h.arrives.sim in
          let source : Outcome Value = stepped scope active op order ty (OfPosition x position) u in
          subst (λ (y : Target). Follows g (Value_of g has alive ty.elem quiet d s) s (stepped scope active op order ty y u) (steps old new res to f)) (sym h.is)
          (with_field g has alive scope active known n ready ty place r indexes x of scalar read_so living isin c done (Value_of g has alive ty.elem quiet d s) s source (λ at_source after. behind_load old new res to (load_in to old at_source after)) h.arrives.t u h.arrives.sim f (λ found.
          let z : Draft = load_in to old found.f found.e in
          delayed g (Value_of g has alive ty.elem quiet d s) z s source (behind_load old new res to z) (step_grows to z) (λ within.
          let l = loads_old quiet d (taken_both d) f f (0 + 0) 0 s h.arrives.t there u u to free (both_taken d) h (as_it_was f) (stay g h.arrives.t) h.arrives.at h.arrives.sim (keeps_all g f h.arrives.t) old new res old_low (omega (arith, old_high)) new_low (omega (arith, new_high)) res_low (omega (arith, res_high)) found within in
          let grown : Extended d (0 + 0 + h.arrives.extended.0 + (0 + 1)) z = extended d f z (0 + 0 + h.arrives.extended.0) (0 + 1) (extended d (taken_both d) f (0 + 0) h.arrives.extended.0 (both_taken d) h.arrives.extended.1) (extended f found.e z 0 1 found.grown (and_one g (I.ReadFromProcessor ty.elem.signed old to found.f) found.e)) in
          then_follows g (λ (y : Unit {0}) after one e. (after ≡ u) × HasWord g has alive 1 z e l.t u one) (Value_of g has alive ty.elem quiet d s) s l.t (Gives tt u) (λ y after. source) (word_in (layout g) 1 z) (λ one y. applied_in to (stepping op) sign no_place res new old one y)
          (onto g s h.arrives.t l.t h.arrives.go l.go) (word_follows g has alive 1 z l.t u (begun_later g alive d z (0 + 0 + h.arrives.extended.0 + (0 + 1)) grown free) l.at l.sim) (λ one y. applied_grows s st sim to (stepping op) sign no_place res new old one y)
          (λ y after one e its.
          let word = its.1 in
          subst (λ (o : Outcome Value). Follows g (Value_of g has alive ty.elem quiet d s) s o (applied_in to (stepping op) sign no_place res new old one e))
          (sym (ap (λ (y : ValueType). stepped scope active op order y (OfPosition x position) u) (plain_type ty scalar) ∙ stepped_is g has alive scope active ty.elem (OfPosition x position) u was (put position) (position_holds position u) no_place op order))
          (applied_follows quiet d (taken_both d) f f (0 + 0) 0 s h.arrives.t there u u to free (both_taken d) h (as_it_was f) (stay g h.arrives.t) h.arrives.at h.arrives.sim (keeps_all g f h.arrives.t) old new res old_low (omega (arith, old_high)) new_low (omega (arith, new_high)) res_low (omega (arith, res_high)) found
          l word.grown.0 e word.t (promoted ty.elem) (promoted_wide ty.elem) (stepping op) no_place sign one 1 (λ v. step_value order (Scalar was) v) (λ c. last was c) word.grown.1 word.go word.at word.sim word.keeps word.is (omega arith) (λ c few. shows_it was c was_small few) (λ y c is_new is_old. shows y was c is_new is_old))))))

      steps_follow : Follows g (Value_of g has alive ty.elem quiet d s) s (evaluated scope stepping_whole active st) (then_make (finds (taken_both d)) (λ to f. steps old new res to f))
      unfolding evaluated
      steps_follow =
          then_follows g (Found g has alive scope active of x (taken_both d) s) (Value_of g has alive ty.elem quiet d s) s s (located scope left active st) (λ there after. stepped scope active op order ty there after) (finds (taken_both d)) (λ to f. steps old new res to f) (stay g s)
          (found_follows g has alive scope active known n ready ty place r indexes x of scalar read_so living isin c done (taken_both d) s st (begun_later g alive d (taken_both d) (0 + 0) (both_taken d) free) here sim) (λ to f. loads_grow s st sim to old (λ y. behind_load old new res to y) f (λ y. step_grows to y)) (λ there u to f h. with_old there u to f h)

    lowest_then : (old new res : ℕ) (d : Draft) → ((to : ℕ) (f : Draft) → stepped_in g.typed (layout g) stepping_whole op order left (S.Indexed (O.Scalar to)) (O.Scalar d.regs) (O.Scalar (d.regs + 1)) f ≡ steps old new res to f)
        → value_of g.typed (layout g) bits stepping_whole d ≡ lowest bits (then_make (finds (taken_both d)) (λ to f. steps old new res to f))
    unfolding lowest then_make
    lowest_then old new res d same = single_step_code g n ty place r indexes x of c scalar ty op order p bits d ∙ behind_spot (λ there after. lowest bits (stepped_in g.typed (layout g) stepping_whole op order left there (O.Scalar d.regs) (O.Scalar (d.regs + 1)) after)) (λ to f. lowest bits (steps old new res to f)) (taken_both d) (λ to f. ap (lowest bits) (same to f)) ∙ by (finds (taken_both d))
      where
        by : (m : Made ℕ) → then_make m (λ to f. lowest bits (steps old new res to f)) ≡ lowest bits (then_make m (λ to f. steps old new res to f))
        by (Makes to f) = refl
        by Fails = refl

  pub step_follows : (op : StepOp) (order : StepOrder) (p : Boxed) (bits : ℕ) (quiet : Bool) → Does g has alive ty.elem quiet (λ st. evaluated scope (T.Step' ty op order p left) active st) (λ d. value_of g.typed (layout g) bits (T.Step' ty op order p left) d)
  unfolding stepped_in
  step_follows op Or.Prefix p bits quiet d s st free here sim =
      follows_same g (Value_of g has alive ty.elem quiet d s) s refl (lowest_then op Or.Prefix p bits (d.regs + 1) d.regs d.regs d (λ to f. steps_are op Or.Prefix p bits (d.regs + 1) d.regs d.regs to f))
      (lowest_follows g has alive ty.elem quiet d s bits _ _ (steps_follow op Or.Prefix p bits quiet d s st free here sim (d.regs + 1) d.regs d.regs (λ was c. c) (omega arith) (omega arith) (omega arith) (omega arith) (omega arith) (omega arith) (λ was c small few. (refl, few)) (λ y was c is_new is_old. is_new)))
  step_follows op Or.Postfix p bits quiet d s st free here sim =
      follows_same g (Value_of g has alive ty.elem quiet d s) s refl (lowest_then op Or.Postfix p bits d.regs (d.regs + 1) d.regs d (λ to f. steps_are op Or.Postfix p bits d.regs (d.regs + 1) d.regs to f))
      (lowest_follows g has alive ty.elem quiet d s bits _ _ (steps_follow op Or.Postfix p bits quiet d s st free here sim d.regs (d.regs + 1) d.regs (λ was c. was) (omega arith) (omega arith) (omega arith) (omega arith) (omega arith) (omega arith) (λ was c small few. (refl, small)) (λ y was c is_new is_old. is_old (λ e. omega (arith, e)))))
