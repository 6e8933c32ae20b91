-- Assignments to scalar variables, and steps, whose values are used.
use Rattle.std.proofs.Common.{◌≡◌, ◌∙◌, ℕ, ◌+◌, ◌<◌, ◌≤◌, ◌^◌, Bool, true, false, length, slice_index, Option, Some, None, refl, sym, ap, subst, if◌then◌else◌, inl, arith}
use Rattle.std.specs.Prelude.{◌⊎◌}
use Rattle.cstar_base.specs.declared.elem.Elem.{Elem}
use Rattle.cstar_base.specs.declared.operators.Op.{Op}
use Rattle.cstar_base.specs.declared.operators.Place.{Place}
use Rattle.cstar_tree.specs.declared.syntax.AssignOp.{AssignOp}
use Rattle.cstar_tree.specs.declared.syntax.AssignOp.TheVariants as A
use Rattle.cstar_tree.specs.declared.syntax.StepOp.{StepOp}
use Rattle.cstar_tree.specs.declared.typed.StepOrder.{StepOrder}
use Rattle.cstar_tree.specs.declared.typed.StepOrder.TheVariants as Or
use Rattle.cstar_tree.specs.declared.typed.TExpr.{TExpr}
use Rattle.cstar_tree.specs.declared.typed.TExpr as T
use Rattle.cstar_tree.specs.declared.typed.ValueType.{ValueType}
use Rattle.cstar_tree.specs.declared.typed.VarInfo.{VarInfo}
use Rattle.cstar_tree.specs.declared.typed.Variable.{Variable}
use Rattle.cstar_tree.specs.Typed.{type_of}
use Rattle.lower_base.specs.declared.emit.Out.{Out}
use Rattle.lower_base.specs.declared.emit.Out.TheVariants as O
use Rattle.lower_base.specs.Constants.{first_free, word_in}
use Rattle.lower_base.specs.Drafts.{Draft, Fails, Made, Makes, a_register, fresh_for, in_register, step as step_of, then_make, with_instr}
use Rattle.lower_base.specs.Layouts.{register_of}
use Rattle.lower_base.specs.Operators.{assign_op_of}
use Rattle.lower_expr.specs.declared.spots.Spot.TheVariants as S
use Rattle.lower_expr.specs.Lengths.{bare, is_send, is_sent}
use Rattle.lower_expr.specs.Operands.{operand_by}
use Rattle.lower_expr.specs.Kinds.{operator_bits}
use Rattle.lower_expr.specs.Spots.{loaded, stored, variable_spot}
use Rattle.lower_expr.specs.Steps.{assigned_signed, converted_in_place, is_kept, operated as operated_in, put_value}
use Rattle.lower_expr.specs.Values.{Code, assign_by, assigned_by, lowest, plainly_set_by, register_folded, register_updated, set_by, spot_of, step_by, step_operation, stepped_at, stepped_in, stepped_once, taken_bits, updated_by}
use Rattle.paris_code.specs.declared.instr.Instr.{Instr}
use Rattle.paris_code.specs.declared.instr.Instr.TheVariants as I
use Rattle.paris_code.specs.Code.{CodeState, Goes, begun, with_register}
use Rattle.source_meaning.specs.Reductions.{int_type, promoted, working_type}
use Rattle.source_meaning.specs.State as Source
use Rattle.source_meaning.specs.State.{Outcome, State, then_do, with_scalar}
use Rattle.source_meaning.specs.Targets.{OfScalar, assigned, step_value, stepped}
use Rattle.source_meaning.specs.Values.{Active, Scalar, Scope, Value, at as value_at, number}
use Rattle.code_follows.specs.Fragment.{IsGiven, IsWord, Takes}
use Rattle.code_follows.proofs.Changing.{no_place, only_set, operated_set_is, scalar_type, set_is, stepped_is, stepping, variable_holds}
use Rattle.code_follows.proofs.Operated.{Loaded, Placed, apart_from, applied_then, given_arrives, in_place, loaded_by, lowest_follows, place_more, placed_arrives, same_operation, then_same}
use Rattle.code_follows.proofs.Following.{Arrives, Extends, Follows, HasRegisters, IsScalar, Keeps, Sim, delayed, extends_then, held, keeps_all, keeps_on, then_follows, keeps_less, value_kept}
use Rattle.code_follows.proofs.Fresh.{IsClear, IsFresh, fresh_lowest, fresh_register, fresh_then, made_so}
use Rattle.code_follows.proofs.Growing.{Extended, as_it_was, extended}
use Rattle.code_follows.proofs.Settings.{At, Begun, Reaches, Setting, Within, and_one, begun_later, layout, one, onto, regs_more, stay}
use Rattle.code_follows.proofs.Stores.{IsPut, variable_dest}
use Rattle.code_follows.proofs.Values.{Does, Grows_on, HasWord, Value_of, and_register, extends_in_register, extends_operated, extends_word, some_word, with_reg, word_follows, put_by, value_stands}
use Rattle.code_follows.proofs.Numbers.{number_same}
use Rattle.code_follows.proofs.Effects.{promoted_wide, working_wide}
use Rattle.code_follows.proofs.Given.{given_set, given_word}
use Rattle.cstar_base.specs.Numbers.{converted}
use Rattle.constant_trees.proofs.Words.{converted_below}
use Rattle.code_follows.proofs.Words.{below_word, held_wide}

module _ (g : Setting) (has : HasRegisters g) (alive : Variable → Type 0) (x : Variable) (info : VarInfo) (living : alive x) (scalar : IsScalar g x info) where
  abbrev own : ℕ
  own = register_of (layout g) x

  -- a value stays where it stands while the word of a register goes to the variable
  stored_behind : (elem : Elem) (quiet : Bool) (d : Draft) (s : CodeState) (v : Value) (u : State) (out : Out) (e : Draft) (arr : Arrives g alive elem false d s v u out e) (q w : ℕ) → slice_index arr.t.registers q ≡ held info.elem w → w < 2 ^ info.elem.bits → Begun g alive d
      → Within g (with_instr (I.FrontMove own q) e) → Arrives g alive elem quiet d s v (with_scalar x w u) out (with_instr (I.FrontMove own q) e)
  unfolding begun step_of
  stored_behind elem quiet d s v u out e arr q w is few free within =
      let last : Draft = with_instr (I.FrontMove own q) e in
      let p : IsPut g has alive x info living scalar info.elem e arr.t (Scalar w) u (O.Scalar own) last =
      put_by g has alive (variable_dest g has alive x info living scalar info.elem e arr.t (inl refl) (begun_later g alive d e arr.extended.0 arr.extended.1 free)) e 0 (I.FrontMove own q) arr.t u w (stay g arr.t) arr.at arr.sim (as_it_was e) (keeps_all g e arr.t) within refl
      (ap (λ (y : ℕ). Goes (with_register own y arr.t)) is) few in
      record {
        extended = (arr.extended.0 + p.grown.0, extended d e last arr.extended.0 p.grown.0 arr.extended.1 p.grown.1);
        t = p.t;
        go = onto g s arr.t p.t arr.go p.go;
        at = p.at;
        sim = subst (λ (k : ℕ). Sim g alive (with_scalar x k u) p.t) (number_same info.elem p.word p.small ∙ sym (some_word w p.word p.value)) p.sim;
        keeps = keeps_on g d e arr.extended.0 s arr.t p.t arr.extended.1 arr.keeps p.keeps;
        holds = record {
          register = arr.holds.register;
          word = arr.holds.word;
          is = arr.holds.is;
          value = arr.holds.value;
          small = arr.holds.small;
          lasts = λ y t later stays same. arr.holds.lasts y t later (keeps_on g e last p.grown.0 arr.t p.t t p.grown.1 p.keeps stays) (λ no. cc);
        };
      }

  -- ---- without an operator

  abbrev kept_store : Out → Draft → Made Out
  kept_store v after = then_make (put_value (O.Scalar own) v after) (λ _ last. Makes v last)

  grows_store : (v : Out) (e : Draft) → Extends g e (kept_store v e)
  unfolding Extends then_make put_value in_register
  grows_store (O.Scalar r) e = (1, and_one g (I.FrontMove own r) e)
  grows_store (O.Field f) e = tt
  grows_store O.Nothing e = tt

  module _ (scope : Scope) (active : Active) (place : Place) where
    stores : (quiet : Bool) (d : Draft) (s : CodeState) (w : ℕ) (u : State) (r : ℕ) (e : Draft) → Begun g alive d → Arrives g alive info.elem false d s (Scalar w) u (O.Scalar r) e
        → Follows g (Value_of g has alive info.elem quiet d s) s (Source.Gives (Scalar w) (with_scalar x w u)) (kept_store (O.Scalar r) e)
    unfolding Follows then_make put_value in_register
    stores quiet d s w u r e free arr = λ within. let h = value_stands g has alive info.elem false e u arr.t w r arr.holds in stored_behind info.elem quiet d s (Scalar w) u (O.Scalar r) e arr r w (h.0 u arr.t arr.sim (keeps_all g e arr.t) (λ same. refl)) h.1 free within

    pub set_value : (quiet : Bool) (from : ValueType) (code : Code) (part : State → Outcome Value) → from.shape ≡ None → Takes info.elem from.elem → Does g has alive from.elem false part code
        → Does g has alive info.elem quiet (λ st. then_do (part st) (λ v after. assigned scope active place A.Set (scalar_type info.elem) from (OfScalar x) v after)) (λ d. then_make (code d) (λ v after. kept_store v after))
    unfolding value_at
    set_value quiet from code part plain takes does d s st free here sim =
        then_follows g (Value_of g has alive from.elem false d s) (Value_of g has alive info.elem quiet d s) s s (part st) _ (code d) (λ v after. kept_store v after) (stay g s) (does d s st free here sim) grows_store (λ v u out e arr. with_value v u out e arr)
      where
        with_value : (v : Value) (u : State) (out : Out) (e : Draft) → Arrives g alive from.elem false d s v u out e → Follows g (Value_of g has alive info.elem quiet d s) s (assigned scope active place A.Set (scalar_type info.elem) from (OfScalar x) v u) (kept_store out e)
        with_value v u out e arr =
            let w : ℕ = arr.holds.word in
            subst (λ (r : Outcome Value). Follows g (Value_of g has alive info.elem quiet d s) s r (kept_store out e))
            (sym (ap (λ (y : Value). assigned scope active place A.Set (scalar_type info.elem) from (OfScalar x) y u) arr.holds.value ∙ set_is scope active place (OfScalar x) (scalar_type info.elem) from w u (u.scalar x) (λ n after. with_scalar x n after) (variable_holds scope active info.elem x u) refl plain))
            (subst (λ (o : Out). Follows g (Value_of g has alive info.elem quiet d s) s (Source.Gives (Scalar w) (with_scalar x w u)) (kept_store o e)) (sym arr.holds.is)
            (stores quiet d s w u arr.holds.register e free (given_arrives g has alive info.elem from.elem takes d s v u out e arr)))

  -- what an operator leaves goes to the variable, and a value stands in a register that was taken before
  placed_stored : (quiet : Bool) (d e1 : Draft) (k : ℕ) (s t1 : CodeState) (r res w shown : ℕ) (u : State) (e : Draft) → Begun g alive d → Extended d k e1 → d.regs ≤ res → res < e1.regs → w < 2 ^ info.elem.bits → shown < 2 ^ info.elem.bits
      → (p : Placed g has alive info.elem d e1 s t1 r w u e) → slice_index p.t.registers res ≡ held info.elem shown → Within g (with_instr (I.FrontMove own r) e) → Arrives g alive info.elem quiet d s (Scalar shown) (with_scalar x w u) (O.Scalar res) (with_instr (I.FrontMove own r) e)
  unfolding placed_arrives
  placed_stored quiet d e1 k s t1 r res w shown u e free ext low high few small p shows within = stored_behind info.elem quiet d s (Scalar shown) u (O.Scalar res) e (placed_arrives g has alive info.elem d e1 k s t1 r res w shown u e free ext low high small p shows) r w p.there few free within

  grows_move : (r res : ℕ) (h : Draft) → Extends g h (Makes (O.Scalar res) (with_instr (I.FrontMove own r) h))
  unfolding Extends
  grows_move r res h = (1, and_one g (I.FrontMove own r) h)

  -- the old value of the variable in a register that is taken
  loads : (d e : Draft) (s : CodeState) (u : State) (r : ℕ) → Begun g alive d → d.regs ≤ r → r < e.regs → At g s (length e.code) → Sim g alive u s → Within g (with_instr (I.FrontMove r own) e) → Loaded g has alive info.elem d (with_instr (I.FrontMove r own) e) s u r (held info.elem (u.scalar x))
  unfolding begun step_of
  loads d e s u r free low high here sim within = loaded_by g has alive info.elem d e (I.FrontMove r own) s u r (held info.elem (u.scalar x)) free low high here sim refl (ap (λ (y : ℕ). Goes (with_register r y s)) (sim.scalars x info living scalar)) within

  -- ---- with an operator

  abbrev updates : Op → Bool → Place → ℕ → Out → Draft → Made Out
  updates o signed place dest v after = in_register v (λ b. Makes (O.Scalar dest) (with_instr (I.FrontMove own dest) (in_place g has alive info.elem dest (operated_in o signed place dest dest b (with_instr (I.FrontMove dest own) after)))))

  module _ (scope : Scope) (active : Active) (place : Place) (op : AssignOp) (o : Op) (is_op : assign_op_of op ≡ Some o) (from : ValueType) (word : IsWord from) where
    abbrev signed : Bool
    signed = assigned_signed o info.elem from.elem

    abbrev at_type : Elem
    at_type = working_type op info.elem from.elem

    at_wide : at_type.bits ≡ 32
    at_wide = working_wide op info.elem from.elem word.1

    abbrev loaded_in : ℕ → Draft → Draft
    loaded_in dest after = with_instr (I.FrontMove dest own) after

    abbrev behind_operand : ℕ → Out → Draft → Made Out
    behind_operand dest v after = updates o signed place dest v after

    grows_loaded : (dest b : ℕ) (e : Draft) → Extends g (loaded_in dest e) (Makes (O.Scalar dest) (with_instr (I.FrontMove own dest) (in_place g has alive info.elem dest (operated_in o signed place dest dest b (loaded_in dest e)))))
    unfolding Extends
    grows_loaded dest b e =
        let computed : Draft = operated_in o signed place dest dest b (loaded_in dest e) in
        let middle = extends_operated g has alive o signed place dest dest b (loaded_in dest e) in
        let placed_more = place_more g has alive info.elem dest computed in
        (middle.0 + placed_more.0 + 1, extended (loaded_in dest e) (in_place g has alive info.elem dest computed) _ (middle.0 + placed_more.0) 1 (extended (loaded_in dest e) computed (in_place g has alive info.elem dest computed) middle.0 placed_more.0 middle.1 placed_more.1) (and_one g (I.FrontMove own dest) (in_place g has alive info.elem dest computed)))

    grows_operand : (dest : ℕ) (v : Out) (e : Draft) → Extends g e (behind_operand dest v e)
    unfolding Extends
    grows_operand dest v e = extends_in_register g has alive e v _ (λ b.
        let rest = grows_loaded dest b e in (1 + rest.0, extended e (loaded_in dest e) _ 1 rest.0 (and_one g (I.FrontMove dest own) e) rest.1))

    module _ (quiet : Bool) (d : Draft) (s : CodeState) (free : Begun g alive d) where
      -- from the old value in its register on
      operates_on : (u : State) (b w k : ℕ) (e : Draft) (t : CodeState) → Extended d k e → d.regs < e.regs → Reaches g s t → Keeps g d s t → Loaded g has alive info.elem d (loaded_in d.regs e) t u d.regs (held info.elem (u.scalar x)) → w < 2 ^ 32 → slice_index t.registers b ≡ w → (d.regs ≡ b → ⊥)
          → Follows g (Value_of g has alive info.elem quiet d s) s (assigned scope active place op (scalar_type info.elem) from (OfScalar x) (Scalar w) u) (Makes (O.Scalar d.regs) (with_instr (I.FrontMove own d.regs) (in_place g has alive info.elem d.regs (operated_in o signed place d.regs d.regs b (loaded_in d.regs e)))))
      unfolding Follows number
      operates_on u b w k e t ext taken go keeps l small is_b apart =
          let dest : ℕ = d.regs in
          let e1 : Draft = loaded_in dest e in
          let regs = regs_more g (I.FrontMove dest own) e in
          subst (λ (r : Outcome Value). Follows g (Value_of g has alive info.elem quiet d s) s r (Makes (O.Scalar dest) (with_instr (I.FrontMove own dest) (in_place g has alive info.elem dest (operated_in o signed place dest dest b e1)))))
          (sym (operated_set_is g has alive scope active info.elem (OfScalar x) u (u.scalar x) (λ n after. with_scalar x n after) (variable_holds scope active info.elem x u) place op o from w word is_op))
          (applied_then g has alive info.elem at_type at_wide o place signed scope active d e1 e1 (k + 1) 0 s l.t l.t u dest dest b (held info.elem (u.scalar x)) w (λ v after. Source.Gives (Scalar (converted info.elem at_type (number v))) (with_scalar x (converted info.elem at_type (number v)) after)) (Value_of g has alive info.elem quiet d s) (λ h. Makes (O.Scalar dest) (with_instr (I.FrontMove own dest) h))
          free (extended d e e1 k 1 ext (and_one g (I.FrontMove dest own) e)) (as_it_was e1) (omega arith) (omega (arith, taken, regs)) (onto g s t l.t go l.go) (keeps_on g d d 0 s t l.t (as_it_was d) keeps l.keeps) (stay g l.t) l.at l.sim (keeps_all g e1 l.t) l.is (l.others b apart ∙ is_b) (converted_below int_type info.elem (u.scalar x)) small (grows_move dest dest)
          (λ c v p. λ within. placed_stored quiet d e1 (k + 1) s l.t dest dest (converted info.elem at_type c) (converted info.elem at_type c) v _ free (extended d e e1 k 1 ext (and_one g (I.FrontMove dest own) e)) (omega arith) (omega (arith, taken, regs)) (converted_below info.elem at_type c) (converted_below info.elem at_type c) p p.there within))

      with_operand : (v : Value) (u : State) (out : Out) (e : Draft) → IsClear (layout g) (with_reg d) (Makes out e) → Arrives g alive from.elem true (with_reg d) s v u out e → Follows g (Value_of g has alive info.elem quiet d s) s (assigned scope active place op (scalar_type info.elem) from (OfScalar x) v u) (behind_operand d.regs out e)
      unfolding in_register IsClear
      with_operand v u out e clear arr =
          let b : ℕ = arr.holds.register in
          let w : ℕ = arr.holds.word in
          let small : w < 2 ^ 32 = below_word from.elem.bits w word.1 arr.holds.small in
          let there : slice_index arr.t.registers b ≡ w = arr.holds.lasts u arr.t arr.sim (keeps_all g e arr.t) (λ h. refl) ∙ held_wide from.elem w word.1 small in
          let is_clear : (b < first_free (layout g)) ⊎ (d.regs + 1 ≤ b) = subst (λ (o : Out). IsClear (layout g) (with_reg d) (Makes o e)) arr.holds.is clear in
          let more = arr.extended.1.regs in
          subst (λ (o : Out). Follows g (Value_of g has alive info.elem quiet d s) s (assigned scope active place op (scalar_type info.elem) from (OfScalar x) v u) (behind_operand d.regs o e)) (sym arr.holds.is)
          (subst (λ (y : Value). Follows g (Value_of g has alive info.elem quiet d s) s (assigned scope active place op (scalar_type info.elem) from (OfScalar x) y u) (behind_operand d.regs (O.Scalar b) e)) (sym arr.holds.value)
          (delayed g (Value_of g has alive info.elem quiet d s) (loaded_in d.regs e) s _ (behind_operand d.regs (O.Scalar b) e) (grows_loaded d.regs b e) (λ within.
          operates_on u b w (0 + arr.extended.0) e arr.t (extended d (with_reg d) e 0 arr.extended.0 (and_register d) arr.extended.1) (omega (arith, more)) arr.go (keeps_less g d (with_reg d) s arr.t (omega arith) arr.keeps)
          (loads d e arr.t u d.regs free (omega arith) (omega (arith, more)) arr.at arr.sim within) small there (apart_from (first_free (layout g)) (d.regs + 1) d.regs b is_clear (let low = has.free in omega (arith, free, low)) (omega arith)))))

    pub operated_value : (quiet : Bool) (second : Code) (part : State → Outcome Value) → ((st : State) (s : CodeState) → Sim g alive st s → (d : Draft) → IsClear (layout g) d (second d)) → Does g has alive from.elem true part second
        → Does g has alive info.elem quiet (λ st. then_do (part st) (λ v after. assigned scope active place op (scalar_type info.elem) from (OfScalar x) v after)) (λ d. then_make (second (with_reg d)) (λ v after. behind_operand d.regs v after))
    operated_value quiet second part clear does d s st free here sim =
        then_follows g (λ v u out e. IsClear (layout g) (with_reg d) (Makes out e) × Value_of g has alive from.elem true (with_reg d) s v u out e) (Value_of g has alive info.elem quiet d s) s s (part st) _ (second (with_reg d)) (λ v after. behind_operand d.regs v after) (stay g s)
        (made_so g has alive (λ made. IsClear (layout g) (with_reg d) made) (Value_of g has alive from.elem true (with_reg d) s) s (part st) (second (with_reg d)) (clear st s sim (with_reg d)) (does (with_reg d) s st (begun_later g alive d (with_reg d) 0 (and_register d) free) here sim))
        (λ v e. grows_operand d.regs v e) (λ v u out e both. with_operand quiet d s free v u out e both.0 both.1)

  -- ---- steps

  module _ (scope : Scope) (active : Active) (place : Place) (op : StepOp) (order : StepOrder) where
    abbrev sign : Bool
    sign = assigned_signed (stepping op) info.elem (promoted info.elem)

    abbrev at_one : Elem
    at_one = promoted info.elem

    -- both registers are taken, and the old value is in the first of these
    abbrev old_in : ℕ → Draft → Draft
    old_in old d = with_instr (I.FrontMove old own) (with_reg (with_reg d))

    abbrev behind_one : ℕ → ℕ → ℕ → ℕ → Draft → Made Out
    behind_one old new res q after = Makes (O.Scalar res) (with_instr (I.FrontMove own new) (in_place g has alive info.elem new (operated_in (stepping op) sign place new old q after)))

    grows_one : (old new res q : ℕ) (e : Draft) → Extends g e (behind_one old new res q e)
    unfolding Extends
    grows_one old new res q e =
        let computed : Draft = operated_in (stepping op) sign place new old q e in
        let first = extends_operated g has alive (stepping op) sign place new old q e in
        let placed_more = place_more g has alive info.elem new computed in
        (first.0 + placed_more.0 + 1, extended e (in_place g has alive info.elem new computed) _ (first.0 + placed_more.0) 1 (extended e computed (in_place g has alive info.elem new computed) first.0 placed_more.0 first.1 placed_more.1) (and_one g (I.FrontMove own new) (in_place g has alive info.elem new computed)))

    old_grown : (old : ℕ) (d : Draft) → Extended d (0 + 0 + 1) (old_in old d)
    old_grown old d = extended d (with_reg (with_reg d)) (old_in old d) (0 + 0) 1 (extended d (with_reg d) (with_reg (with_reg d)) 0 0 (and_register d) (and_register (with_reg d))) (and_one g (I.FrontMove old own) (with_reg (with_reg d)))

    module _ (quiet : Bool) (d : Draft) (s : CodeState) (st : State) (free : Begun g alive d) (old new res : ℕ) (shown : ℕ → ℕ) (old_low : d.regs ≤ old) (old_high : old < d.regs + 2) (new_low : d.regs ≤ new) (new_high : new < d.regs + 2) (res_low : d.regs ≤ res) (res_high : res < d.regs + 2)
        (gives : (w : ℕ) → step_value order (Scalar (st.scalar x)) (Scalar w) ≡ Scalar (shown w)) (small : (w : ℕ) → st.scalar x < 2 ^ info.elem.bits → w < 2 ^ info.elem.bits → shown w < 2 ^ info.elem.bits)
        (shows : (t : CodeState) (w : ℕ) → slice_index t.registers new ≡ held info.elem w → ((new ≡ old → ⊥) → slice_index t.registers old ≡ held info.elem (st.scalar x)) → slice_index t.registers res ≡ held info.elem (shown w)) where
      with_one : (l : Loaded g has alive info.elem d (old_in old d) s st old (held info.elem (st.scalar x))) (q : ℕ) (f : Draft) → st.scalar x < 2 ^ info.elem.bits → HasWord g has alive 1 (old_in old d) f l.t st q
          → Follows g (Value_of g has alive info.elem quiet d s) s (stepped scope active op order (scalar_type info.elem) (OfScalar x) st) (behind_one old new res q f)
      unfolding Follows number
      with_one l q f few h =
          let e1 : Draft = old_in old d in
          let regs = regs_more g (I.FrontMove old own) (with_reg (with_reg d)) in
          let kept = value_kept g e1 old (omega (arith, free, old_low)) (omega (arith, old_high, regs)) in
          let store : Value → State → Outcome Value = λ v after. Source.Gives (step_value order (Scalar (st.scalar x)) (Scalar (converted info.elem at_one (number v)))) (with_scalar x (converted info.elem at_one (number v)) after) in
          subst (λ (r : Outcome Value). Follows g (Value_of g has alive info.elem quiet d s) s r (behind_one old new res q f)) (sym (stepped_is g has alive scope active info.elem (OfScalar x) st (st.scalar x) (λ n after. with_scalar x n after) (variable_holds scope active info.elem x st) place op order))
          (applied_then g has alive info.elem at_one (promoted_wide info.elem) (stepping op) place sign scope active d e1 f (0 + 0 + 1) h.grown.0 s l.t h.t st new old q (held info.elem (st.scalar x)) 1 store (Value_of g has alive info.elem quiet d s) (λ h. Makes (O.Scalar res) (with_instr (I.FrontMove own new) h))
          free (old_grown old d) h.grown.1 new_low (omega (arith, new_high, regs)) l.go l.keeps h.go h.at h.sim h.keeps (h.keeps old kept ∙ l.is) h.is (converted_below int_type info.elem (st.scalar x)) (omega arith) (grows_move new res)
          (λ c v p. subst (λ (y : Value). Follows g (Value_of g has alive info.elem quiet d s) s (Source.Gives y (with_scalar x (converted info.elem at_one c) v)) (behind_one old new res q f)) (sym (gives (converted info.elem at_one c)))
          (λ within. placed_stored quiet d e1 (0 + 0 + 1) s l.t new res (converted info.elem at_one c) (shown (converted info.elem at_one c)) v _ free (old_grown old d) res_low (omega (arith, res_high, regs)) (converted_below info.elem at_one c) (small (converted info.elem at_one c) few (converted_below info.elem at_one c)) p
          (shows p.t (converted info.elem at_one c) p.there (λ differs. p.others old kept differs ∙ l.is)) within)))

      stepped_run : At g s (length d.code) → Sim g alive st s
          → Follows g (Value_of g has alive info.elem quiet d s) s (stepped scope active op order (scalar_type info.elem) (OfScalar x) st) (then_make (word_in (layout g) 1 (old_in old d)) (λ q after. behind_one old new res q after))
      unfolding then_do
      stepped_run here sim =
          let e1 : Draft = old_in old d in
          let few : st.scalar x < 2 ^ info.elem.bits = sim.small x info living scalar in
          let regs = regs_more g (I.FrontMove old own) (with_reg (with_reg d)) in
          delayed g (Value_of g has alive info.elem quiet d s) e1 s (stepped scope active op order (scalar_type info.elem) (OfScalar x) st) (then_make (word_in (layout g) 1 e1) (λ q after. behind_one old new res q after))
          (extends_then g e1 (word_in (layout g) 1 e1) _ (extends_word g has alive 1 e1) (λ q f. grows_one old new res q f)) (λ within.
          let l : Loaded g has alive info.elem d (old_in old d) s st old (held info.elem (st.scalar x)) = loads d (with_reg (with_reg d)) s st old free old_low (omega (arith, old_high)) here sim within in
          then_follows g (λ (u : Unit {0}) after q f. (after ≡ st) × HasWord g has alive 1 e1 f l.t st q) (Value_of g has alive info.elem quiet d s) s l.t (Source.Gives tt st) (λ u after. stepped scope active op order (scalar_type info.elem) (OfScalar x) st) (word_in (layout g) 1 e1)
          (λ q after. behind_one old new res q after) l.go (word_follows g has alive 1 e1 l.t st (begun_later g alive d e1 (0 + 0 + 1) (old_grown old d) free) l.at l.sim) (λ q f. grows_one old new res q f) (λ u after q f h. with_one l q f few h.1))

    step_code : (e : TExpr) (old new res : ℕ) (d : Draft)
        → then_make (stepped_at g.typed (layout g) e op (T.Variable (scalar_type info.elem) x) (S.Register own) (O.Scalar old) (O.Scalar new) (with_reg (with_reg d))) (λ _ after. Makes (O.Scalar res) after) ≡ then_make (word_in (layout g) 1 (old_in old d)) (λ q after. behind_one old new res q after)
    unfolding stepped_at stepped_once loaded in_register then_make converted_in_place stored put_value
    step_code e old new res d = by (word_in (layout g) 1 (old_in old d))
      where
        by : (m : Made ℕ)
            → then_make (then_make (then_make m (λ one after. Makes (O.Scalar new) (with_instr (I.FrontOperate (step_operation op) new old one) after))) (λ _ between. then_make (converted_in_place (O.Scalar new) info.elem between) (λ _ after. stored g.typed (layout g) e (S.Register own) (O.Scalar new) after))) (λ _ after. Makes (O.Scalar res) after)
            ≡ then_make m (λ q after. behind_one old new res q after)
        by (Makes q f) =
            ap (λ (h : Draft). Makes (O.Scalar res) (with_instr (I.FrontMove own new) (in_place g has alive info.elem new h))) (same_operation place op sign new old q f)
        by Fails = refl

  -- ---- as they stand in the tree

  abbrev target : TExpr
  target = T.Variable (scalar_type info.elem) x

  -- both steps as they are written
  pub stepped_value : (scope : Scope) (active : Active) (op : StepOp) (order : StepOrder) (quiet : Bool) (bits : ℕ) (e : TExpr)
      → Does g has alive info.elem quiet (λ st. stepped scope active op order (scalar_type info.elem) (OfScalar x) st) (λ d. step_by g.typed (layout g) e bits op order target (spot_of g.typed (layout g) target) d)
  unfolding step_by fresh_for a_register then_make spot_of variable_spot stepped_in
  stepped_value scope active op Or.Prefix quiet bits e d s st free here sim =
      lowest_follows g has alive info.elem quiet d s bits (stepped scope active op Or.Prefix (scalar_type info.elem) (OfScalar x) st) _
      (subst (λ (made : Made Out). Follows g (Value_of g has alive info.elem quiet d s) s (stepped scope active op Or.Prefix (scalar_type info.elem) (OfScalar x) st) made) (sym (step_code scope active no_place op Or.Prefix e (d.regs + 1) d.regs d.regs d))
      (stepped_run scope active no_place op Or.Prefix quiet d s st free (d.regs + 1) d.regs d.regs (λ w. w) (omega arith) (omega arith) (omega arith) (omega arith) (omega arith) (omega arith) (λ w. refl) (λ w few below. below)
      (λ t2 w is others. is) here sim))
  stepped_value scope active op Or.Postfix quiet bits e d s st free here sim =
      lowest_follows g has alive info.elem quiet d s bits (stepped scope active op Or.Postfix (scalar_type info.elem) (OfScalar x) st) _
      (subst (λ (made : Made Out). Follows g (Value_of g has alive info.elem quiet d s) s (stepped scope active op Or.Postfix (scalar_type info.elem) (OfScalar x) st) made) (sym (step_code scope active no_place op Or.Postfix e d.regs (d.regs + 1) d.regs d))
      (stepped_run scope active no_place op Or.Postfix quiet d s st free d.regs (d.regs + 1) d.regs (λ w. st.scalar x) (omega arith) (omega arith) (omega arith) (omega arith) (omega arith) (omega arith) (λ w. refl) (λ w few below. few)
      (λ t2 w is others. others (λ e. omega (arith, e))) here sim))

  -- an assignment is one of two codes
  updated_is_so : (e : TExpr) (o : Op) (is_signed : Bool) (place : Place) (dest : ℕ) (v : Out) (after : Draft) → register_updated g.typed (layout g) e o is_signed place target dest (S.Register own) v after ≡ updates o is_signed place dest v after
  unfolding register_updated loaded in_register then_make converted_in_place stored put_value
  updated_is_so e o is_signed place dest (O.Scalar r) after = refl
  updated_is_so e o is_signed place dest (O.Field f) after = refl
  updated_is_so e o is_signed place dest O.Nothing after = refl

  by_code : (place : Place) (op : AssignOp) (e value : TExpr) (bits : ℕ) (code : Code) (d : Draft) → is_kept value ≡ true → (P : Made Out → Type 0)
      → (assign_op_of op ≡ None → P (lowest bits (then_make (code d) (λ v after. kept_store v after))))
      → ((o : Op) → assign_op_of op ≡ Some o → P (lowest bits (then_make (operand_by g.typed (layout g) (operator_bits o None value) code true value (with_reg d)) (λ v after. updates o (assigned_signed o info.elem (type_of value).elem) place d.regs v after))))
      → P (assign_by g.typed (layout g) e bits op place target value (spot_of g.typed (layout g) target) code d)
  unfolding assign_by is_send bare is_sent assigned_by plainly_set_by set_by updated_by spot_of variable_spot stored then_make a_register
  by_code place op e value bits code d is P sets updated = by (assign_op_of op) refl
    where
      by : (m : Option Op) → assign_op_of op ≡ m → P (lowest bits (assigned_by g.typed (layout g) e (taken_bits bits op target value) m place target value None (spot_of g.typed (layout g) target) code d))
      by None none = sets none
      by (Some o) some =
          let signed : Bool = assigned_signed o info.elem (type_of value).elem in
          let operand : Made Out = operand_by g.typed (layout g) (operator_bits o None value) code true value (with_reg d) in
          subst (λ (made : Made Out). P (lowest bits made))
          (sym (ap (λ (b : Bool). then_make operand (λ v after. if b then register_updated g.typed (layout g) e o signed place target d.regs (S.Register own) v after else register_folded g.typed (layout g) e target d.regs (S.Register own) v after)) is
          ∙ then_same operand _ _ (λ v after. updated_is_so e o signed place d.regs v after))) (updated o some)

  pub assigned_value : (scope : Scope) (active : Active) (place : Place) (op : AssignOp) (e value : TExpr) (bits : ℕ) (quiet : Bool) (code : Code) (part : State → Outcome Value) → IsGiven op (scalar_type info.elem) (type_of value) → (type_of value).shape ≡ None → is_kept value ≡ true
      → Does g has alive (type_of value).elem false part code → ((m : ℕ) → Does g has alive (type_of value).elem true part (λ d. operand_by g.typed (layout g) m code true value d)) → ((m : ℕ) (st : State) (s : CodeState) → Sim g alive st s → (d : Draft) → IsClear (layout g) d (operand_by g.typed (layout g) m code true value d))
      → Does g has alive info.elem quiet (λ st. then_do (part st) (λ v after. assigned scope active place op (scalar_type info.elem) (type_of value) (OfScalar x) v after)) (λ d. assign_by g.typed (layout g) e bits op place target value (spot_of g.typed (layout g) target) code d)
  assigned_value scope active place op e value bits quiet code part given plain is does operand clear d s st free here sim =
      by_code place op e value bits code d is (λ made. Follows g (Value_of g has alive info.elem quiet d s) s (then_do (part st) (λ v after. assigned scope active place op (scalar_type info.elem) (type_of value) (OfScalar x) v after)) made)
      (λ none. subst (λ (q : AssignOp). Follows g (Value_of g has alive info.elem quiet d s) s (then_do (part st) (λ v after. assigned scope active place q (scalar_type info.elem) (type_of value) (OfScalar x) v after)) (lowest bits (then_make (code d) (λ v after. kept_store v after)))) (sym (only_set op none))
      (lowest_follows g has alive info.elem quiet d s bits _ _ (set_value scope active place quiet (type_of value) code part plain (given_set op (scalar_type info.elem) (type_of value) none given) does d s st free here sim)))
      (λ o some. lowest_follows g has alive info.elem quiet d s bits _ _ (operated_value scope active place op o some (type_of value) (given_word op o (scalar_type info.elem) (type_of value) some given) quiet (λ b. operand_by g.typed (layout g) (operator_bits o None value) code true value b) part (λ st s sim. clear (operator_bits o None value) st s sim) (operand (operator_bits o None value)) d s st free here sim))

  -- ---- the register of the value

  fresh_stored : (d : Draft) (made : Made Out) → IsFresh d made → IsFresh d (then_make made (λ v after. kept_store v after))
  unfolding IsFresh then_make put_value in_register
  fresh_stored d (Makes (O.Scalar r) e) h = let regs = regs_more g (I.FrontMove own r) e in (h.0, omega (arith, h.1, regs))
  fresh_stored d (Makes (O.Field f) e) h = tt
  fresh_stored d (Makes O.Nothing e) h = tt
  fresh_stored d Fails h = tt

  fresh_updated : (o : Op) (is_signed : Bool) (place : Place) (d : Draft) (v : Out) (e : Draft) → d.regs + 1 ≤ e.regs → IsFresh d (updates o is_signed place d.regs v e)
  unfolding IsFresh Extends
  fresh_updated o is_signed place d v e more = fresh_register g has alive d v _ (λ b.
      let loaded_there : Draft = with_instr (I.FrontMove d.regs own) e in
      let last : Draft = operated_in o is_signed place d.regs d.regs b loaded_there in
      let one_regs = regs_more g (I.FrontMove d.regs own) e in
      let middle = (extends_operated g has alive o is_signed place d.regs d.regs b loaded_there).1.regs in
      let placed_regs = (place_more g has alive info.elem d.regs last).1.regs in
      let two_regs = regs_more g (I.FrontMove own d.regs) (in_place g has alive info.elem d.regs last) in
      (omega arith, omega (arith, more, one_regs, middle, placed_regs, two_regs)))

  pub fresh_assigned : (place : Place) (op : AssignOp) (e value : TExpr) (bits : ℕ) (code : Code) (d : Draft) → is_kept value ≡ true → IsFresh d (code d) → ((m : ℕ) → Grows_on g has alive (λ b. operand_by g.typed (layout g) m code true value b))
      → IsFresh d (assign_by g.typed (layout g) e bits op place target value (spot_of g.typed (layout g) target) code d)
  fresh_assigned place op e value bits code d is fresh grows =
      by_code place op e value bits code d is (λ made. IsFresh d made) (λ none. fresh_lowest bits d _ (fresh_stored d (code d) fresh))
      (λ o some. fresh_lowest bits d _ (fresh_then g has alive d (with_reg d) _ _ (grows (operator_bits o None value) (with_reg d)) (λ v f more. fresh_updated o (assigned_signed o info.elem (type_of value).elem) place d v f more)))

  pub fresh_stepped : (scope : Scope) (active : Active) (op : StepOp) (order : StepOrder) (e : TExpr) (bits : ℕ) (d : Draft) → IsFresh d (step_by g.typed (layout g) e bits op order target (spot_of g.typed (layout g) target) d)
  unfolding step_by fresh_for a_register then_make spot_of variable_spot stepped_in IsFresh Extends
  fresh_stepped scope active op order e bits d = by order
    where
      either : (order : StepOrder) (old new : ℕ) → IsFresh d (lowest bits (then_make (stepped_at g.typed (layout g) e op target (S.Register own) (O.Scalar old) (O.Scalar new) (with_reg (with_reg d))) (λ _ after. Makes (O.Scalar d.regs) after)))
      either order old new =
          let load : Instr = I.FrontMove old own in
          let loaded_there : Draft = with_instr load (with_reg (with_reg d)) in
          let regs = regs_more g load (with_reg (with_reg d)) in
          fresh_lowest bits d _ (subst (λ (made : Made Out). IsFresh d made) (sym (step_code scope active no_place op order e old new d.regs d))
          (fresh_then g has alive d loaded_there (word_in (layout g) 1 loaded_there) (λ q after. behind_one scope active no_place op order old new d.regs q after) (extends_word g has alive 1 loaded_there) (λ q f more.
          let last = (grows_one scope active no_place op order old new d.regs q f).1.regs in (omega arith, omega (arith, regs, more, last)))))

      by : (order : StepOrder) → IsFresh d (lowest bits (stepped_in g.typed (layout g) e op order target (S.Register own) (O.Scalar d.regs) (O.Scalar (d.regs + 1)) (with_reg (with_reg d))))
      by Or.Prefix = either Or.Prefix (d.regs + 1) d.regs
      by Or.Postfix = either Or.Postfix d.regs (d.regs + 1)
