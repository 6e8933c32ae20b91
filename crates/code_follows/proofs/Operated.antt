-- An operator works on two registers, and what it leaves in one is converted to the type of what it is stored in.
use Rattle.std.proofs.Common.{◌≡◌, ◌∙◌, ℕ, ◌+◌, ◌<◌, ◌≤◌, ◌^◌, Bool, true, false, not, length, slice_index, refl, sym, ap, subst, if◌then◌else◌, inl, inr, arith}
use Rattle.std.specs.Prelude.{◌⊎◌, nat_lt}
use Rattle.std.proofs.lemmas.Bool.Decides.{nat_tests}
use Rattle.std.proofs.lemmas.List.{get_or-set_other}
use Rattle.cstar_base.specs.declared.elem.Elem.{Elem}
use Rattle.cstar_base.specs.declared.operators.Op.{Op}
use Rattle.cstar_base.specs.declared.operators.Place.{Place}
use Rattle.cstar_base.specs.Numbers.{converted}
use Rattle.cstar_base.specs.Operators.{divides}
use Rattle.cstar_tree.specs.declared.syntax.StepOp.{StepOp}
use Rattle.cstar_tree.specs.declared.syntax.StepOp.TheVariants as Sp
use Rattle.cstar_base.proofs.NumberLaws.{kind_bits}
use Rattle.cstar_tree.specs.declared.typed.Variable.{Variable}
use Rattle.lower_base.specs.declared.emit.Out.{Out}
use Rattle.lower_base.specs.declared.emit.Out.TheVariants as O
use Rattle.lower_base.specs.Drafts.{Draft, Fails, Made, Makes, Plain, shortened, step as step_of, then_make, with_instr}
use Rattle.lower_base.specs.Operators.{machine_of, operation_of}
use Rattle.lower_expr.specs.Steps.{on_registers, operated as operated_in, with_register_check}
use Rattle.lower_expr.specs.Values.{lowest, step_operation}
use Rattle.paris_code.specs.declared.instr.Instr.{Instr}
use Rattle.paris_code.specs.declared.instr.Instr.TheVariants as I
use Rattle.paris_code.specs.Code.{CodeState, Goes, begun, with_register}
use Rattle.paris_code.specs.Scalar.{rounded}
use Rattle.source_meaning.specs.Expressions.{operated}
use Rattle.source_meaning.specs.State as Source
use Rattle.source_meaning.specs.State.{Outcome, State, then_do}
use Rattle.source_meaning.specs.Values.{Active, Scalar, Scope, Value, at as value_at}
use Rattle.code_follows.proofs.Changing.{scalar_type, stepping}
use Rattle.code_follows.proofs.Following.{Arrives, Extends, Follows, HasRegisters, IsKept, Keeps, Sim, delayed, extends_made, follows_back, held, holds_fresh, keeps_less, keeps_on, register_at, register_is, register_kept, register_set, then_on}
use Rattle.code_follows.proofs.Growing.{Extended, as_it_was, extended}
use Rattle.code_follows.proofs.Numbers.{fits_held, rounded_is, takes_fits, takes_same}
use Rattle.constant_trees.proofs.Words.{converted_below}
use Rattle.code_follows.proofs.Settings.{At, Begun, Reaches, Setting, Within, ahead, and_one, at_next, begins_here, one, onto, placed_instr, regs_more}
use Rattle.code_follows.proofs.Values.{Dest, Value_of, operates, rewrapped, written_at}
use Rattle.code_follows.specs.Fragment.{Takes}

-- the parts behind are the same
pub then_same : {A B : Type 0} (m : Made A) (f h : A → Draft → Made B) → ((y : A) (e : Draft) → f y e ≡ h y e) → then_make m f ≡ then_make m h
unfolding then_make
then_same (Makes y e) f h same = same y e
then_same Fails f h same = refl

-- a register of a variable or a constant, or one that is taken later, is none that is taken before
pub apart_from : (free above r b : ℕ) → (b < free) ⊎ (above ≤ b) → free ≤ r → r < above → r ≡ b → ⊥
apart_from free above r b (inl low) more less e = omega (arith, low, more, e)
apart_from free above r b (inr high) more less e = omega (arith, high, less, e)

-- what the code of a step is
pub same_operation : (place : Place) (op : StepOp) (is_signed : Bool) (r a b : ℕ) (d : Draft) → with_instr (I.FrontOperate (step_operation op) r a b) d ≡ operated_in (stepping op) is_signed place r a b d
unfolding step_operation operated_in on_registers machine_of operation_of with_register_check divides
same_operation place Sp.Increment is_signed r a b d = refl
same_operation place Sp.Decrement is_signed r a b d = refl

module _ (g : Setting) (has : HasRegisters g) (alive : Variable → Type 0) (elem : Elem) where
  -- the code arrives where the register has the number, and what stood elsewhere stays
  pub record Computed (at_type : Elem) (d e1 : Draft) (s t1 : CodeState) (r : ℕ) (v : Value) (u : State) (e : Draft) : Type 0 where
    pub word : ℕ
    pub given : v ≡ Scalar word
    pub few : word < 2 ^ at_type.bits
    pub grown : (n : ℕ) × Extended e1 n e
    pub t : CodeState
    pub go : Reaches g s t
    pub at : At g t (length e.code)
    pub sim : Sim g alive u t
    pub keeps : Keeps g d s t
    pub there : slice_index t.registers r ≡ held at_type word
    pub others : (q : ℕ) → IsKept g e1 q → (r ≡ q → ⊥) → slice_index t.registers q ≡ slice_index t1.registers q

  computed_dest : (at_type : Elem) (d e1 : Draft) (k : ℕ) (s t1 : CodeState) (r : ℕ) → Begun g alive d → Extended d k e1 → Reaches g s t1 → Keeps g d s t1 → d.regs ≤ r → r < e1.regs → Dest g has alive at_type e1 t1 (λ v u out e. Computed at_type d e1 s t1 r v u e) r
  computed_dest at_type d e1 k s t1 r free ext go1 keeps1 low high = record {
    takes = λ e f n m s1 place st w go begins sim grows keeps longer within there here few.
        let t : CodeState = written_at g has alive r (held at_type w) place s1 in
        let regs = longer.regs in
        let more = grows.regs in
        let first = ext.regs in
        let inside : r < length s1.registers = omega (arith, high, more, regs, within.regs, sim.registers) in
        record {
          word = w;
          given = refl;
          few = few;
          grown = (n + m, extended e1 e f n m grows longer);
          t = t;
          go = onto g s t1 t go1 (onto g t1 s1 t go there);
          at = here;
          sim = register_at g alive st s1 r (held at_type w) place has (omega (arith, free, low)) (ahead g e f m s1 place longer begins here) sim;
          keeps = keeps_on g d d 0 s t1 t (as_it_was d) keeps1 (keeps_on g d d 0 t1 s1 t (as_it_was d) (keeps_less g d e1 t1 s1 first keeps) (register_kept g d s1 r (held at_type w) has free.regs low (omega (arith, high, more, regs, within.own))));
          there = register_is g s1 r (held at_type w) inside;
          others = λ q kept differs. get_or-set_other s1.registers r q (held at_type w) 0 (λ e. differs (sym e)) ∙ keeps q kept;
        };
  }

  -- converted to the type, where that has fewer bits
  abbrev pub in_place : ℕ → Draft → Draft
  in_place r h = if nat_lt elem.bits 32 then with_instr (I.FrontConvert r r elem) h else h

  pub place_more : (r : ℕ) (h : Draft) → (n : ℕ) × Extended h n (in_place r h)
  place_more r h = by (nat_lt elem.bits 32)
    where
      by : (b : Bool) → (n : ℕ) × Extended h n (if b then with_instr (I.FrontConvert r r elem) h else h)
      by true = (1, and_one g (I.FrontConvert r r elem) h)
      by false = (0, as_it_was h)

  pub record Placed (d e1 : Draft) (s t1 : CodeState) (r w : ℕ) (u : State) (e : Draft) : Type 0 where
    pub grown : (n : ℕ) × Extended e1 n e
    pub t : CodeState
    pub go : Reaches g s t
    pub at : At g t (length e.code)
    pub sim : Sim g alive u t
    pub keeps : Keeps g d s t
    pub there : slice_index t.registers r ≡ held elem w
    pub others : (q : ℕ) → IsKept g e1 q → (r ≡ q → ⊥) → slice_index t.registers q ≡ slice_index t1.registers q

  places : (at_type : Elem) (d e1 : Draft) (s t1 : CodeState) (r : ℕ) (v : Value) (u : State) (e : Draft) → Begun g alive d → d.regs ≤ r → r < e1.regs → (c : Computed at_type d e1 s t1 r v u e) → Within g (in_place r e) → Placed d e1 s t1 r (converted elem at_type c.word) u (in_place r e)
  unfolding begun step_of
  places at_type d e1 s t1 r v u e free low high c within = by (nat_lt elem.bits 32) refl within
    where
      number_there : ℕ
      number_there = converted elem at_type c.word

      by : (b : Bool) → nat_lt elem.bits 32 ≡ b → Within g (if b then with_instr (I.FrontConvert r r elem) e else e) → Placed d e1 s t1 r number_there u (if b then with_instr (I.FrontConvert r r elem) e else e)
      by true is inner =
          let i : Instr = I.FrontConvert r r elem in
          let t2 : CodeState = with_register r (held elem number_there) c.t in
          let regs = regs_more g i e in
          let more = c.grown.1.regs in
          let inside : r < length c.t.registers = omega (arith, high, more, regs, inner.regs, c.sim.registers) in
          record {
            grown = (c.grown.0 + 1, extended e1 e (with_instr i e) c.grown.0 1 c.grown.1 (and_one g i e));
            t = t2;
            go = onto g s c.t t2 c.go (one g c.t t2 (begins_here g i e c.t inner refl c.at ∙ ap (λ (k : ℕ). Goes (with_register r (rounded elem k) c.t)) c.there ∙ ap (λ (k : ℕ). Goes (with_register r k c.t)) (rounded_is elem at_type c.word c.few)) refl);
            at = at_next g i e c.t (c.t.at + 1) c.at refl;
            sim = register_set g alive u c.t r (held elem number_there) has (omega (arith, free, low)) c.sim;
            keeps = keeps_on g d d 0 s c.t t2 (as_it_was d) c.keeps (register_kept g d c.t r (held elem number_there) has free.regs low (omega (arith, high, more, regs, inner.own)));
            there = register_is g c.t r (held elem number_there) inside;
            others = λ q kept differs. get_or-set_other c.t.registers r q (held elem number_there) 0 (λ e. differs (sym e)) ∙ c.others q kept differs;
          }
      by false is inner =
          let few : elem.bits ≤ 32 = (kind_bits elem.bits elem.signed elem.kind).1 in
          let wide : elem.bits ≡ 32 = grind (arith, nat_tests, is, few) in
          record { grown = c.grown; t = c.t; go = c.go; at = c.at; sim = c.sim; keeps = c.keeps; there = c.there ∙ fits_held elem at_type c.word (inr wide) c.few; others = c.others }

  -- a value stands in a register that was taken before
  unfoldable pub placed_arrives : (d e1 : Draft) (k : ℕ) (s t1 : CodeState) (r res w shown : ℕ) (u : State) (e : Draft) → Begun g alive d → Extended d k e1 → d.regs ≤ res → res < e1.regs → shown < 2 ^ elem.bits → (p : Placed d e1 s t1 r w u e) → slice_index p.t.registers res ≡ held elem shown
      → Arrives g alive elem false d s (Scalar shown) u (O.Scalar res) e
  placed_arrives d e1 k s t1 r res w shown u e free ext low high small p shows =
      let more = p.grown.1.regs in
      record {
        extended = (k + p.grown.0, extended d e1 e k p.grown.0 ext p.grown.1);
        t = p.t;
        go = p.go;
        at = p.at;
        sim = p.sim;
        keeps = p.keeps;
        holds = holds_fresh g alive elem false e u p.t res shown (omega (arith, free, low)) (omega (arith, high, more)) small shows;
      }

  -- a number is loaded into a register that is taken
  pub record Loaded (d e : Draft) (s : CodeState) (u : State) (r old : ℕ) : Type 0 where
    pub t : CodeState
    pub go : Reaches g s t
    pub at : At g t (length e.code)
    pub sim : Sim g alive u t
    pub keeps : Keeps g d s t
    pub is : slice_index t.registers r ≡ old
    pub others : (b : ℕ) → (r ≡ b → ⊥) → slice_index t.registers b ≡ slice_index s.registers b

  pub loaded_by : (d e : Draft) (i : Instr) (s : CodeState) (u : State) (r old : ℕ) → Begun g alive d → d.regs ≤ r → r < e.regs → At g s (length e.code) → Sim g alive u s → step_of i ≡ Plain i → begun g.image (placed_instr g i) s ≡ Goes (with_register r old s) → Within g (with_instr i e)
      → Loaded d (with_instr i e) s u r old
  loaded_by d e i s u r old room low high here sim plain goes within =
      let regs = regs_more g i e in
      record {
        t = with_register r old s;
        go = one g s (with_register r old s) (begins_here g i e s within plain here ∙ goes) refl;
        at = at_next g i e s (s.at + 1) here refl;
        sim = register_set g alive u s r old has (omega (arith, room, low)) sim;
        keeps = register_kept g d s r old has room.regs low (omega (arith, high, regs, within.own));
        is = register_is g s r old (omega (arith, high, regs, within.regs, sim.registers));
        others = λ b differs. get_or-set_other s.registers r b old 0 (λ e. differs (sym e));
      }

  -- the operator of two registers, the conversion, and then what stores it
  pub applied_then : (at_type : Elem) → at_type.bits ≡ 32 → (o : Op) (place : Place) (signed : Bool) (scope : Scope) (active : Active) (d e1 e : Draft) (k n : ℕ) (s t1 t : CodeState) (u : State) (r a b x w : ℕ) (store : Value → State → Outcome Value) (R : Value → State → Out → Draft → Type 0) (code : Draft → Made Out)
      → Begun g alive d → Extended d k e1 → Extended e1 n e → d.regs ≤ r → r < e1.regs → Reaches g s t1 → Keeps g d s t1 → Reaches g t1 t → At g t (length e.code) → Sim g alive u t → Keeps g e1 t1 t → slice_index t.registers a ≡ x → slice_index t.registers b ≡ w → x < 2 ^ 32 → w < 2 ^ 32
      → ((h : Draft) → Extends g h (code h))
      → ((c : ℕ) (v : State) (p : Placed d e1 s t1 r (converted elem at_type c) v (in_place r (operated_in o signed place r a b e))) → Follows g R s (store (Scalar c) v) (code (in_place r (operated_in o signed place r a b e))))
      → Follows g R s (then_do (operated scope active (scalar_type at_type) place o (not signed) (Scalar x) (Scalar w) u) store) (code (in_place r (operated_in o signed place r a b e)))
  applied_then at_type wide o place signed scope active d e1 e k n s t1 t u r a b x w store R code free ext more low high go keeps on here sim stays is_a is_b few small grows next =
      let last : Draft = operated_in o signed place r a b e in
      let whole : Made Out = code (in_place r last) in
      let source : Outcome Value = operated scope active (scalar_type at_type) place o (not signed) (Scalar x) (Scalar w) u in
      let result : Value → State → Out → Draft → Type 0 = λ v u out f. Computed at_type d e1 s t1 r v u f in
      let placed_more = place_more r last in
      then_on g result R s source store (O.Scalar r) last whole
      (follows_back g result s t1 source (Makes (O.Scalar r) last) go
      (operates g has alive (scalar_type at_type) o place signed e1 e n t1 t u result scope active r a b x w (refl, wide) (computed_dest at_type d e1 k s t1 r free ext go keeps low high) on here sim more stays is_a is_b few small))
      (extends_made g last (in_place r last) placed_more.0 whole placed_more.1 (grows (in_place r last)))
      (λ v after c. subst (λ (y : Value). Follows g R s (store y after) whole) (sym c.given)
      (delayed g R (in_place r last) s (store (Scalar c.word) after) whole (grows (in_place r last)) (λ within. next c.word after (places at_type d e1 s t1 r v after last free low high c within))))

  -- a number that a variable of the type takes is one of the type
  pub given_few : (from : Elem) → Takes elem from → (w : ℕ) → w < 2 ^ from.bits → w < 2 ^ elem.bits
  given_few from takes w small = subst (λ (k : ℕ). k < 2 ^ elem.bits) (takes_same elem from w takes small) (converted_below elem from w)

  pub given_arrives : (from : Elem) → Takes elem from → (d : Draft) (s : CodeState) (v : Value) (u : State) (out : Out) (e : Draft) (arr : Arrives g alive from false d s v u out e) → Arrives g alive elem false d s (Scalar arr.holds.word) u (O.Scalar arr.holds.register) e
  unfolding value_at
  given_arrives from takes d s v u out e arr =
      let w : ℕ = arr.holds.word in
      subst (λ (o : Out). Arrives g alive elem false d s (Scalar w) u o e) arr.holds.is
      (rewrapped g has alive elem from false d e s v w u out arr (ap (held elem) (sym (takes_same elem from w takes arr.holds.small)) ∙ sym (fits_held elem from w (takes_fits elem from takes) arr.holds.small) ∙ sym (ap (λ (y : Value). held from (value_at y 0)) arr.holds.value)) (given_few from takes w arr.holds.small))

  -- a value in a register is shortened to no fewer bits
  pub lowest_follows : (quiet : Bool) (d : Draft) (s : CodeState) (bits : ℕ) (o : Outcome Value) (made : Made Out) → Follows g (Value_of g has alive elem quiet d s) s o made → Follows g (Value_of g has alive elem quiet d s) s o (lowest bits made)
  unfolding Follows lowest then_make shortened
  lowest_follows quiet d s bits (Source.Gives v u) (Makes out e) h = λ w.
      let arr = h w in
      subst (λ (o : Out). Arrives g alive elem quiet d s v u o e) (arr.holds.is ∙ sym (ap (λ (o : Out). shortened bits o) arr.holds.is)) arr
  lowest_follows quiet d s bits (Source.Ends early u) (Makes out e) h = h
  lowest_follows quiet d s bits (Source.Gives v u) Fails h = tt
  lowest_follows quiet d s bits (Source.Ends early u) Fails h = tt
