-- A conversion of a value that is kept in a register: one to 32 bits has no code, any other converts it there.
use Rattle.std.proofs.Common.{◌≡◌, ◌∙◌, ℕ, ◌+◌, ◌-◌, ◌<◌, ◌≤◌, ◌^◌, ◌==◌, Bool, true, false, not, [], ◌∷◌, None, refl, sym, ap, subst, if◌then◌else◌, arith}
use Rattle.std.specs.Prelude.{nat_lt}
use Rattle.std.proofs.lemmas.Bool.{eqb-true}
use Rattle.cstar_base.specs.declared.elem.Elem.{Elem}
use Rattle.cstar_base.specs.Numbers.{converted}
use Rattle.cstar_tree.specs.declared.typed.ValueType.{ValueType}
use Rattle.cstar_tree.specs.declared.typed.Variable.{Variable}
use Rattle.code_lengths.specs.Growth.{GrowsOr}
use Rattle.code_lengths.proofs.Pieces.{InField, test_grows, width}
use Rattle.constant_trees.proofs.Words.{converted_below}
use Rattle.lower_base.specs.declared.emit.Out.{Out}
use Rattle.lower_base.specs.declared.emit.Out.TheVariants as O
use Rattle.lower_base.specs.Drafts.{Draft, Fails, Made, Makes, in_register, then_make, with_instr}
use Rattle.lower_expr.specs.Steps.{converted_in_place, field_converted, put_test, shifted_back}
use Rattle.lower_expr.specs.Values.{Code, casts_put, register_cast_by}
use Rattle.paris_code.specs.declared.instr.Instr.TheVariants as I
use Rattle.paris_code.specs.Code.{CodeState}
use Rattle.paris_code.specs.declared.operands.Field.{Field}
use Rattle.paris_code.specs.declared.operands.Konst.TheVariants as K
use Rattle.paris_code.specs.declared.operands.Operation.TheVariants as Act
use Rattle.source_meaning.specs.Expressions.{mapped}
use Rattle.source_meaning.specs.State as Source
use Rattle.source_meaning.specs.State.{Outcome, State, then_do}
use Rattle.source_meaning.specs.Values.{Scalar, Value, at, cast_through, cast_type, convert_to}
use Rattle.code_follows.proofs.Casts.{with_operand}
use Rattle.code_follows.proofs.Following.{Arrives, Extends, Follows, HasRegisters, extends_made, then_follows}
use Rattle.code_follows.proofs.Fresh.{IsFresh, made_so}
use Rattle.code_follows.proofs.Growing.{Extended, as_it_was, extended}
use Rattle.code_follows.proofs.Settings.{Begun, Setting, and_one, regs_more, stay}
use Rattle.code_follows.proofs.Values.{Does, Value_of, conversion_is, extends_grown}
use Rattle.code_follows.proofs.Words.{below_word, held_converted, held_wide}

-- what stands in a register
in_place_is : (elem : Elem) (r : ℕ) (d : Draft) (wide : Bool) → (elem.bits == 32) ≡ wide → converted_in_place (O.Scalar r) elem d ≡ Makes (O.Scalar r) (if not wide then with_instr (I.FrontConvert r r elem) d else d)
unfolding converted_in_place
in_place_is elem r d wide is = ap (λ (b : Bool). Makes (O.Scalar r) (if b then with_instr (I.FrontConvert r r elem) d else d)) (width elem ∙ ap not is)

-- what stands in a field is no register
field_fresh : (d e : Draft) (n : ℕ) (made : Made Out) → GrowsOr (Unit {0}) e n InField made → IsFresh d made
unfolding GrowsOr IsFresh
field_fresh d e n (Makes (O.Scalar r) f) h = let a = h.0 in cc
field_fresh d e n (Makes (O.Field field) f) h = tt
field_fresh d e n (Makes O.Nothing f) h = tt
field_fresh d e n Fails h = tt

module _ (g : Setting) (has : HasRegisters g) (alive : Variable → Type 0) where
  extends_in_place : (elem : Elem) (v : Out) (d : Draft) → Extends g d (converted_in_place v elem d)
  unfolding converted_in_place field_converted Extends
  extends_in_place elem (O.Scalar r) d = by (nat_lt elem.bits 32)
    where
      by : (b : Bool) → (n : ℕ) × Extended d n (if b then with_instr (I.FrontConvert r r elem) d else d)
      by true = (1, and_one g (I.FrontConvert r r elem) d)
      by false = (0, as_it_was d)
  extends_in_place elem (O.Field f) d = by (elem.bits == 1) (nat_lt elem.bits 32)
    where
      by : (b c : Bool) → Extends g d (if b then put_test f (with_instr (I.NeZero f) d)
          else (if c then Makes (O.Field f) (with_instr (I.OperateConstant (shifted_back elem.signed) f f (K.Imm (32 - elem.bits))) (with_instr (I.OperateConstant Act.UShiftLeft f f (K.Imm (32 - elem.bits))) d))
          else Makes (O.Field f) d))
      by true c = extends_made g d (with_instr (I.NeZero f) d) 1 (put_test f (with_instr (I.NeZero f) d)) (and_one g (I.NeZero f) d) (extends_grown g has alive InField (with_instr (I.NeZero f) d) _ _ (test_grows (Unit {0}) f (with_instr (I.NeZero f) d)))
      by false true =
          let shifted : Draft = with_instr (I.OperateConstant Act.UShiftLeft f f (K.Imm (32 - elem.bits))) d in
          (1 + 1, extended d shifted _ 1 1 (and_one g (I.OperateConstant Act.UShiftLeft f f (K.Imm (32 - elem.bits))) d) (and_one g (I.OperateConstant (shifted_back elem.signed) f f (K.Imm (32 - elem.bits))) shifted))
      by false false = (0, as_it_was d)
  extends_in_place elem O.Nothing d = tt

  -- the register of what is converted is that of the whole
  pub fresh_conversion : (elem : Elem) (code : Code) (d : Draft) → IsFresh d (code d) → IsFresh d (register_cast_by elem code d)
  unfolding register_cast_by then_make IsFresh converted_in_place field_converted
  fresh_conversion elem code d fresh = by (code d) fresh
    where
      field : (f : Field) (e : Draft) (b c : Bool) → IsFresh d (if b then put_test f (with_instr (I.NeZero f) e)
          else (if c then Makes (O.Field f) (with_instr (I.OperateConstant (shifted_back elem.signed) f f (K.Imm (32 - elem.bits))) (with_instr (I.OperateConstant Act.UShiftLeft f f (K.Imm (32 - elem.bits))) e))
          else Makes (O.Field f) e))
      field f e true c = field_fresh d (with_instr (I.NeZero f) e) _ _ (test_grows (Unit {0}) f (with_instr (I.NeZero f) e))
      field f e false true = tt
      field f e false false = tt

      register : (r : ℕ) (e : Draft) (b : Bool) → (d.regs ≤ r) × (r < e.regs) → (d.regs ≤ r) × (r < (if b then with_instr (I.FrontConvert r r elem) e else e).regs)
      register r e true h = let regs = regs_more g (I.FrontConvert r r elem) e in (h.0, omega (arith, h.1, regs))
      register r e false h = h

      by : (made : Made Out) → IsFresh d made → IsFresh d (then_make made (λ v after. converted_in_place v elem after))
      by (Makes (O.Scalar r) e) h = register r e (nat_lt elem.bits 32) h
      by (Makes (O.Field f) e) h = field f e (elem.bits == 1) (nat_lt elem.bits 32)
      by (Makes O.Nothing e) h = tt
      by Fails h = tt

  -- a conversion in a fresh register, or none
  module _ (ty : ValueType) (quiet : Bool) (from : Elem) (plain : ty.shape ≡ None) where
    converts_to : (d : Draft) (s : CodeState) (v : Value) (u : State) (out : Out) (e : Draft) → Begun g alive d → IsFresh d (Makes out e) → Arrives g alive from false d s v u out e
        → Follows g (Value_of g has alive ty.elem quiet d s) s (Source.Gives (convert_to ty from v) u) (converted_in_place out ty.elem e)
    unfolding Follows in_register casts_put mapped convert_to cast_through cast_type at
    converts_to d s v u out e free fresh arr =
        subst (λ (o : Out). Follows g (Value_of g has alive ty.elem quiet d s) s (Source.Gives (convert_to ty from v) u) (converted_in_place o ty.elem e)) (sym arr.holds.is) (by (ty.elem.bits == 32) refl)
      where
        r : ℕ
        r = arr.holds.register

        w : ℕ
        w = arr.holds.word

        by : (wide : Bool) → (ty.elem.bits == 32) ≡ wide → Follows g (Value_of g has alive ty.elem quiet d s) s (Source.Gives (convert_to ty from v) u) (converted_in_place (O.Scalar r) ty.elem e)
        by false is =
            subst (λ (made : Made Out). Follows g (Value_of g has alive ty.elem quiet d s) s (Source.Gives (convert_to ty from v) u) made) (sym (in_place_is ty.elem r e false is))
            (subst (λ (o : Out). Follows g (Value_of g has alive ty.elem quiet d s) s (Source.Gives (convert_to ty from v) u) (in_register o (λ q. Makes o (casts_put (ty.elem ∷ []) q e)))) arr.holds.is
            (with_operand g has alive ty quiet (ty.elem ∷ []) from plain refl d s v u out e free fresh arr))
        by true is =
            let wide : ty.elem.bits ≡ 32 = eqb-true ty.elem.bits 32 is in
            let below : converted ty.elem from w < 2 ^ ty.elem.bits = converted_below ty.elem from w in
            let gives : convert_to ty from v ≡ Scalar (converted ty.elem from w) = conversion_is g has alive ty from v plain ∙ ap (λ (x : Value). Scalar (converted ty.elem from (at x 0))) arr.holds.value in
            subst (λ (made : Made Out). Follows g (Value_of g has alive ty.elem quiet d s) s (Source.Gives (convert_to ty from v) u) made) (sym (in_place_is ty.elem r e true is))
            (subst (λ (x : Value). Follows g (Value_of g has alive ty.elem quiet d s) s (Source.Gives x u) (Makes (O.Scalar r) e)) (sym gives) (λ within. record {
              extended = arr.extended;
              t = arr.t;
              go = arr.go;
              at = arr.at;
              sim = arr.sim;
              keeps = arr.keeps;
              holds = record {
                register = r;
                word = converted ty.elem from w;
                is = refl;
                value = refl;
                small = below;
                lasts = λ x t later stays same.
                    arr.holds.lasts x t later stays (λ h. cc) ∙ sym (held_wide ty.elem (converted ty.elem from w) wide (below_word ty.elem.bits (converted ty.elem from w) wide below) ∙ held_converted ty.elem from w wide);
              };
            }))

    pub conversion_follows : (code : Code) (part : State → Outcome Value) → ((d : Draft) → IsFresh d (code d)) → Does g has alive from false part code
        → Does g has alive ty.elem quiet (λ st. then_do (part st) (λ v after. Source.Gives (convert_to ty from v) after)) (λ d. register_cast_by ty.elem code d)
    unfolding register_cast_by
    conversion_follows code part fresh does d s st free here sim =
        then_follows g (λ v u out e. IsFresh d (Makes out e) × Arrives g alive from false d s v u out e) (Value_of g has alive ty.elem quiet d s) s s (part st) _ (code d) (λ v after. converted_in_place v ty.elem after) (stay g s)
        (made_so g has alive (λ made. IsFresh d made) (Value_of g has alive from false d s) s (part st) (code d) (fresh d) (does d s st free here sim)) (λ v e. extends_in_place ty.elem v e)
        (λ v u out e both. converts_to d s v u out e free both.0 both.1)
