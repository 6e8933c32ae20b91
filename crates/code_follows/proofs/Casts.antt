-- A chain of casts: the word of a converted number, and the code that converts it where it stands.
use Rattle.std.proofs.Common.{◌≡◌, ◌∙◌, ℕ, ◌+◌, ◌<◌, ◌≤◌, ◌^◌, Bool, false, None, List, [], ◌∷◌, refl, sym, ap, subst, arith}
use Rattle.cstar_base.specs.declared.elem.Elem.{Elem}
use Rattle.cstar_base.specs.Numbers.{converted}
use Rattle.cstar_tree.specs.declared.typed.ValueType.{ValueType}
use Rattle.cstar_tree.specs.declared.typed.Variable.{Variable}
use Rattle.lower_base.specs.declared.emit.Out.{Out}
use Rattle.lower_base.specs.declared.emit.Out.TheVariants as O
use Rattle.lower_base.specs.Drafts.{Draft, Makes, Made, Fails, in_register, step as step_of, then_make, with_instr}
use Rattle.lower_expr.specs.Values.{Code, casts_put}
use Rattle.paris_code.specs.declared.instr.Instr.TheVariants as I
use Rattle.paris_code.specs.Code.{CodeState, Goes, begun, with_register}
use Rattle.paris_code.specs.Scalar.{rounded}
use Rattle.source_meaning.specs.Expressions.{mapped}
use Rattle.source_meaning.specs.State as Source
use Rattle.source_meaning.specs.State.{Outcome, State, then_do}
use Rattle.source_meaning.specs.Values.{Scalar, Value, at as value_at, cast_through, cast_type}
use Rattle.code_follows.proofs.Fresh.{IsFresh, made_so}
use Rattle.code_follows.proofs.Following.{Arrives, Extends, Follows, HasRegisters, arrives_fresh, held, keeps_all, then_follows}
use Rattle.code_follows.proofs.Growing.{Extended, as_it_was, extended}
use Rattle.code_follows.proofs.Numbers.{rounded_is}
use Rattle.code_follows.proofs.Settings.{Begun, Setting, Within, and_one, earlier, stay}
use Rattle.code_follows.proofs.Values.{Does, HasWord, Value_of, extends_in_register, mapped_is, takes_word}
use Rattle.code_follows.proofs.Words.{through_below}

module _ (g : Setting) (has : HasRegisters g) (alive : Variable → Type 0) where
  -- the code of a chain, which converts in one register
  casts_grow : (kinds : List Elem) (r : ℕ) (e : Draft) → (n : ℕ) × Extended e n (casts_put kinds r e)
  unfolding casts_put
  casts_grow [] r e = (0, as_it_was e)
  casts_grow (kind ∷ inner) r e =
      let rest = casts_grow inner r e in (rest.0 + 1, extended e (casts_put inner r e) _ rest.0 1 rest.1 (and_one g (I.FrontConvert r r kind) (casts_put inner r e)))

  casts_run : (kinds : List Elem) (from : Elem) (w : ℕ) (d e : Draft) (r : ℕ) (s : CodeState) (u : State) → w < 2 ^ from.bits → Begun g alive d → d.regs ≤ r → r < e.regs → HasWord g has alive (held from w) d e s u r → Within g (casts_put kinds r e)
      → HasWord g has alive (held (cast_type kinds from) (cast_through kinds from w)) d (casts_put kinds r e) s u r
  unfolding casts_put cast_type cast_through begun step_of
  casts_run [] from w d e r s u few free low high h within = h
  casts_run (kind ∷ inner) from w d e r s u few free low high h within =
      let before : Draft = casts_put inner r e in
      let longer = (casts_grow inner r e).1.regs in
      let i = casts_run inner from w d e r s u few free low high h (earlier g before (with_instr (I.FrontConvert r r kind) before) 1 (and_one g (I.FrontConvert r r kind) before) within) in
      let old : ℕ = cast_through inner from w in
      takes_word g has alive (held kind (converted kind (cast_type inner from) old)) d before i.grown.0 (I.FrontConvert r r kind) s i.t u r free i.go i.at i.sim i.grown.1 i.keeps within refl
      (ap (λ (x : ℕ). Goes (with_register r (rounded kind x) i.t)) i.is ∙ ap (λ (x : ℕ). Goes (with_register r x i.t)) (rounded_is kind (cast_type inner from) old (through_below inner from w few))) low (omega (arith, high, longer))

  -- the code of what is cast, and then that of the casts
  module _ (ty : ValueType) (quiet : Bool) (kinds : List Elem) (from : Elem) (word : ty.shape ≡ None) (same : ty.elem ≡ cast_type kinds from) where
    abbrev pub behind_operand : Out → Draft → Made Out
    behind_operand v after = in_register v (λ r. Makes v (casts_put kinds r after))

    grows_cast : (v : Out) (e : Draft) → Extends g e (behind_operand v e)
    unfolding Extends
    grows_cast v e = extends_in_register g has alive e v _ (λ r. casts_grow kinds r e)

    pub with_operand : (d : Draft) (s : CodeState) (v : Value) (u : State) (out : Out) (e : Draft) → Begun g alive d → IsFresh d (Makes out e) → Arrives g alive from false d s v u out e
        → Follows g (Value_of g has alive ty.elem quiet d s) s (Source.Gives (mapped ty (λ w. cast_through kinds from w) v) u) (behind_operand out e)
    unfolding Follows in_register value_at IsFresh
    with_operand d s v u out e free fresh arr =
        let w : ℕ = arr.holds.word in
        let r : ℕ = arr.holds.register in
        let number : ℕ = cast_through kinds from w in
        let is_fresh : (d.regs ≤ r) × (r < e.regs) = subst (λ (o : Out). IsFresh d (Makes o e)) arr.holds.is fresh in
        let gives : mapped ty (λ w. cast_through kinds from w) v ≡ Scalar number = mapped_is g has alive ty (λ w. cast_through kinds from w) v word ∙ ap (λ (x : Value). Scalar (cast_through kinds from (value_at x 0))) arr.holds.value in
        let longer = (casts_grow kinds r e).1.regs in
        subst (λ (x : Value). Follows g (Value_of g has alive ty.elem quiet d s) s (Source.Gives x u) (behind_operand out e)) (sym gives)
        (subst (λ (o : Out). Follows g (Value_of g has alive ty.elem quiet d s) s (Source.Gives (Scalar number) u) (behind_operand o e)) (sym arr.holds.is) (λ within.
        let h : HasWord g has alive (held (cast_type kinds from) number) d (casts_put kinds r e) s u r = casts_run kinds from w d e r s u arr.holds.small free is_fresh.0 is_fresh.1
        (record { grown = arr.extended; t = arr.t; go = arr.go; at = arr.at; sim = arr.sim; keeps = arr.keeps; is = arr.holds.lasts u arr.t arr.sim (keeps_all g e arr.t) (λ calm. refl) }) within in
        arrives_fresh g alive ty.elem quiet d (casts_put kinds r e) s h.t u r number h.grown h.go h.at h.sim h.keeps (omega (arith, free, is_fresh.0)) (omega (arith, is_fresh.1, longer))
        (subst (λ (elem : Elem). number < 2 ^ elem.bits) (sym same) (through_below kinds from w arr.holds.small)) (h.is ∙ ap (λ (elem : Elem). held elem number) (sym same))))

    pub casts_follow : (code : Code) (part : State → Outcome Value) → ((d : Draft) → IsFresh d (code d)) → Does g has alive from false part code
        → Does g has alive ty.elem quiet (λ st. then_do (part st) (λ v after. Source.Gives (mapped ty (λ w. cast_through kinds from w) v) after)) (λ d. then_make (code d) (λ v after. behind_operand v after))
    casts_follow code part fresh does d s st free here sim =
        then_follows g (λ v u out e. IsFresh d (Makes out e) × Arrives g alive from false d s v u out e) (Value_of g has alive ty.elem quiet d s) s s (part st) _ (code d) (λ v after. behind_operand v after) (stay g s)
        (made_so g has alive (λ made. IsFresh d made) (Value_of g has alive from false d s) s (part st) (code d) (fresh d) (does d s st free here sim)) (λ v e. grows_cast v e) (λ v u out e both. with_operand d s v u out e free both.0 both.1)

    -- the register of what is cast is that of the whole
    pub fresh_casts : (code : Code) (d : Draft) → IsFresh d (code d) → IsFresh d (then_make (code d) (λ v after. behind_operand v after))
    unfolding IsFresh then_make in_register
    fresh_casts code d fresh = by (code d) fresh
      where
        by : (made : Made Out) → IsFresh d made → IsFresh d (then_make made (λ v after. behind_operand v after))
        by (Makes (O.Scalar r) e) h = let longer = (casts_grow kinds r e).1.regs in (h.0, omega (arith, h.1, longer))
        by (Makes (O.Field f) e) h = tt
        by (Makes O.Nothing e) h = tt
        by Fails h = tt
