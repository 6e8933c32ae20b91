-- An operator on a scalar variable, by which its register is written: of 32 bits at once, else from a fresh one.
use Rattle.std.proofs.Common.{◌≡◌, ◌∙◌, ◌==◌, inl, ℕ, ◌+◌, ◌<◌, ◌^◌, Bool, true, false, not, length, slice_index, refl, sym, ap, subst, if◌then◌else◌, inr}
use Rattle.cstar_base.specs.declared.elem.Elem.{Elem}
use Rattle.cstar_base.specs.declared.operators.Op.{Op}
use Rattle.cstar_base.specs.declared.operators.Place.{Place}
use Rattle.cstar_tree.specs.declared.typed.VarInfo.{VarInfo}
use Rattle.cstar_tree.specs.declared.typed.Variable.{Variable}
use Rattle.lower_base.specs.declared.emit.Out.{Out}
use Rattle.lower_base.specs.declared.emit.Out.TheVariants as O
use Rattle.lower_base.specs.Drafts.{Draft, Made, Makes, a_register, then_make, with_instr, step as step_of}
use Rattle.lower_base.specs.Layouts.{register_of}
use Rattle.lower_expr.specs.Effects.{with_settled, written_register}
use Rattle.lower_expr.specs.Steps.{operated as operated_in}
use Rattle.paris_code.specs.declared.instr.Instr.TheVariants as I
use Rattle.paris_code.specs.Code.{CodeState, Goes, begun, with_register}
use Rattle.paris_code.specs.Scalar.{rounded}
use Rattle.std.proofs.lemmas.Bool.{eqb-true}
use Rattle.constant_trees.proofs.Words.{converted_below}
use Rattle.cstar_base.specs.Numbers.{converted}
use Rattle.source_meaning.specs.Reductions.{int_type}
use Rattle.source_meaning.specs.Expressions.{operated}
use Rattle.source_meaning.specs.State as Source
use Rattle.source_meaning.specs.State.{Outcome, State, then_do, with_scalar}
use Rattle.source_meaning.specs.Values.{Active, Scalar, Scope, Value, number}
use Rattle.code_follows.proofs.Changing.{scalar_type}
use Rattle.code_follows.proofs.Branching.{then_from}
use Rattle.code_follows.proofs.Following.{Extends, Follows, HasRegisters, IsScalar, Keeps, Ran, Sim, held, keeps_on, keeps_all, then_silent}
use Rattle.code_follows.proofs.Growing.{Extended, as_it_was, extended}
use Rattle.code_follows.proofs.Settings.{At, Begun, Reaches, Setting, and_one, begun_later, layout, onto, stay}
use Rattle.code_follows.proofs.Stores.{IsPut, variable_dest}
use Rattle.code_follows.proofs.Values.{and_register, fresh_dest, register_same, some_word, with_reg, Value_of, extends_operated, operates, put_by}
use Rattle.code_follows.proofs.Numbers.{number_same, rounded_is}

module _ (g : Setting) (has : HasRegisters g) (alive : Variable → Type 0) (scope : Scope) (active : Active) (x : Variable) (info : VarInfo) (living : alive x) (scalar : IsScalar g x info) where
  abbrev own : ℕ
  own = register_of (layout g) x

  module _ (at_type : Elem) (wide : at_type.bits ≡ 32) (place : Place) (o : Op) (signed : Bool) where
    abbrev pub settled : ℕ → Draft → Made Out
    settled b between = then_make (written_register info.elem own between) (λ written after. Makes (O.Scalar own) (with_settled info.elem written own (operated_in o signed place written own b after)))

    settled_so : (b : ℕ) (between : Draft) (c : Bool) → (info.elem.bits == 32) ≡ c
        → settled b between ≡ then_make (if c then Makes own between else a_register between) (λ written after. Makes (O.Scalar own) (if c then operated_in o signed place written own b after else with_instr (I.FrontConvert own written info.elem) (operated_in o signed place written own b after)))
    unfolding written_register with_settled
    settled_so b between c is =
        ap (λ (c : Bool). then_make (if c then Makes own between else a_register between) (λ written after. Makes (O.Scalar own) (if c then operated_in o signed place written own b after else with_instr (I.FrontConvert own written info.elem) (operated_in o signed place written own b after)))) is

    pub extends_settled : (b : ℕ) (between : Draft) → Extends g between (settled b between)
    unfolding then_make a_register Extends
    extends_settled b between = by (info.elem.bits == 32) refl
      where
        by : (c : Bool) → (info.elem.bits == 32) ≡ c → Extends g between (settled b between)
        by true is = subst (λ (made : Made Out). Extends g between made) (sym (settled_so b between true is)) (extends_operated g has alive o signed place own own b between)
        by false is =
            let r : ℕ = between.regs in
            let middle : Draft = operated_in o signed place r own b (with_reg between) in
            let first = extends_operated g has alive o signed place r own b (with_reg between) in
            subst (λ (made : Made Out). Extends g between made) (sym (settled_so b between false is))
            ((0 + first.0) + 1, extended between middle (with_instr (I.FrontConvert own r info.elem) middle) (0 + first.0) 1 (extended between (with_reg between) middle 0 first.0 (and_register between) first.1) (and_one g (I.FrontConvert own r info.elem) middle))

    -- what the source does
    abbrev pub stores : (Value → Value) → ℕ → State → Outcome Value
    stores shown w u =
        then_do (operated scope active (scalar_type at_type) place o (not signed) (Scalar (held info.elem (u.scalar x))) (Scalar w) u) (λ v after. Source.Gives (shown v) (with_scalar x (converted info.elem at_type (number v)) after))

    pub settles : (shown : Value → Value) (d e : Draft) (n : ℕ) (s t : CodeState) (u : State) (b w : ℕ) → Begun g alive d → Extended d n e → Reaches g s t → Keeps g d s t → At g t (length e.code) → Sim g alive u t → slice_index t.registers b ≡ w → w < 2 ^ 32
        → Follows g (λ v u out e. Ran g alive d s u e) s (stores shown w u) (settled b e)
    unfolding then_make a_register Follows number Extends begun step_of
    settles shown d e n s t u b w free grown go keeps here sim is_b small = by (info.elem.bits == 32) refl
      where
        old : ℕ
        old = held info.elem (u.scalar x)

        few : old < 2 ^ 32
        few = converted_below int_type info.elem (u.scalar x)

        is_a : slice_index t.registers own ≡ old
        is_a = sim.scalars x info living scalar

        by : (c : Bool) → (info.elem.bits == 32) ≡ c → Follows g (λ v u out e. Ran g alive d s u e) s (stores shown w u) (settled b e)
        by true is =
            let also : info.elem.bits ≡ 32 = eqb-true info.elem.bits 32 is in
            subst (λ (made : Made Out). Follows g (λ v u out e. Ran g alive d s u e) s (stores shown w u) made) (sym (settled_so b e true is))
            (then_silent g (λ v st out e. IsPut g has alive x info living scalar at_type d s v st out e) (λ v u out e. Ran g alive d s u e) s (operated scope active (scalar_type at_type) place o (not signed) (Scalar old) (Scalar w) u) _ (Makes (O.Scalar own) (operated_in o signed place own own b e))
            (operates g has alive (scalar_type at_type) o place signed d e n s t u (λ v st out e. IsPut g has alive x info living scalar at_type d s v st out e) scope active own own b old w (refl, wide)
            (variable_dest g has alive x info living scalar at_type d s (inr also) free) go here sim grown keeps is_a is_b few small)
            (λ v u2 out2 e2 p. λ within. record { grown = p.grown; t = p.t; go = p.go; at = p.at; sim = subst (λ (q : Value). Sim g alive (with_scalar x (converted info.elem at_type (number q)) u2) p.t) (sym p.value) p.sim; keeps = p.keeps }))
        by false is =
            let r : ℕ = e.regs in
            let middle : Draft = operated_in o signed place r own b (with_reg e) in
            let convert = I.FrontConvert own r info.elem in
            subst (λ (made : Made Out). Follows g (λ v u out e. Ran g alive d s u e) s (stores shown w u) made) (sym (settled_so b e false is))
            (then_from g alive (Value_of g has alive at_type true e t) (λ v u out e. Ran g alive d s u e) s t (operated scope active (scalar_type at_type) place o (not signed) (Scalar old) (Scalar w) u) (λ v after. Source.Gives (shown v) (with_scalar x (converted info.elem at_type (number v)) after))
            (O.Scalar r) middle (Makes (O.Scalar own) (with_instr convert middle)) go
            (operates g has alive (scalar_type at_type) o place signed (with_reg e) (with_reg e) 0 t t u (Value_of g has alive at_type true e t) scope active r own b old w (refl, wide)
            (fresh_dest g has alive at_type true e t (begun_later g alive d e n grown free)) (stay g t) here sim (as_it_was (with_reg e)) (keeps_all g (with_reg e) t) is_a is_b few small)
            (1, and_one g convert middle) (λ v u2 arr. λ within.
            let word : ℕ = arr.holds.word in
            let number : ℕ = converted info.elem at_type word in
            let there : slice_index arr.t.registers r ≡ held at_type word = ap (λ (q : ℕ). slice_index arr.t.registers q) (register_same r arr.holds.register arr.holds.is) ∙ arr.holds.lasts u2 arr.t arr.sim (keeps_all g middle arr.t) (λ h. refl) in
            let p : IsPut g has alive x info living scalar info.elem d s (Scalar number) u2 (O.Scalar own) (with_instr convert middle) =
            put_by g has alive (variable_dest g has alive x info living scalar info.elem d s (inl refl) free) middle (n + arr.extended.0) convert arr.t u2 number (onto g s t arr.t go arr.go) arr.at arr.sim (extended d e middle n arr.extended.0 grown arr.extended.1)
            (keeps_on g d e n s t arr.t grown keeps arr.keeps) within refl
            (ap (λ (k : ℕ). Goes (with_register own (rounded info.elem k) arr.t)) there ∙ ap (λ (k : ℕ). Goes (with_register own k arr.t)) (rounded_is info.elem at_type word arr.holds.small)) (converted_below info.elem at_type word) in
            let same : converted info.elem info.elem p.word ≡ number = number_same info.elem p.word p.small ∙ sym (some_word number p.word p.value) in
            record {
              grown = p.grown;
              t = p.t;
              go = p.go;
              at = p.at;
              sim = subst (λ (y : Value). Sim g alive (with_scalar x (converted info.elem at_type (Rattle.source_meaning.specs.Values.number y)) u2) p.t) (sym arr.holds.value) (subst (λ (k : ℕ). Sim g alive (with_scalar x k u2) p.t) same p.sim);
              keeps = p.keeps;
            }))
