-- The code of a scalar expression gives its value.
use Rattle.std.proofs.Common.{◌≡◌, ◌∙◌, ℕ, ◌+◌, ◌-◌, ◌<◌, ◌≤◌, ◌^◌, ◌==◌, ◌&&◌, Bool, true, false, not, [], length, slice_index, slice_set, Option, Some, None, refl, sym, ap, subst, if◌then◌else◌, arith}
use Rattle.cstar_base.specs.declared.elem.Elem.{Elem}
use Rattle.cstar_base.specs.declared.faults.RunFault.TheVariants.{DivZero}
use Rattle.cstar_base.specs.declared.operators.Op.{Op}
use Rattle.cstar_base.specs.declared.operators.Place.{Place}
use Rattle.cstar_base.specs.Numbers.{converted, residue}
use Rattle.cstar_base.specs.Operators.{divides, outcome, operate}
use Rattle.cstar_tree.specs.declared.typed.TExpr.{TExpr}
use Rattle.cstar_tree.specs.declared.typed.TExpr as T
use Rattle.cstar_tree.specs.declared.typed.UnaryOp.{UnaryOp}
use Rattle.cstar_tree.specs.declared.typed.UnaryOp.TheVariants as U
use Rattle.cstar_tree.specs.declared.typed.ValueType.{ValueType}
use Rattle.cstar_tree.specs.declared.typed.VarInfo.{VarInfo}
use Rattle.cstar_tree.specs.declared.typed.Variable.{Variable}
use Rattle.cstar_tree.specs.StatementTypes.{variable_info}
use Rattle.cstar_tree.specs.Typed.{type_of}
use Rattle.code_lengths.specs.Growth.{GrowsOr}
use Rattle.code_lengths.specs.Naming.{HasVariable, plain}
use Rattle.code_lengths.proofs.Drafting.{append_nothing}
use Rattle.lower_base.specs.declared.emit.Out.{Out}
use Rattle.lower_base.specs.declared.emit.Out.TheVariants as O
use Rattle.lower_base.specs.declared.operators.Machine.{Machine}
use Rattle.lower_base.specs.declared.operators.Machine.TheVariants as M
use Rattle.lower_base.specs.Constants.{constant_register, word_in}
use Rattle.lower_base.specs.Drafts.{Draft, Fails, Made, Makes, Plain, a_register, fresh_for, in_register, step as step_of, then_make, with_instr}
use Rattle.lower_base.specs.Layouts.{register_of}
use Rattle.lower_base.specs.Operators.{is_signed, machine_of}
use Rattle.std.specs.Int.{from_bool}
use Rattle.std.specs.Prelude.{pos, neg_ℤ}
use Rattle.constant_trees.proofs.Words.{converted_below, unary_below}
use Rattle.source_meaning.specs.Reductions.{int_type}
use Rattle.paris_code.specs.declared.operands.Compare.TheVariants as C
use Rattle.lower_expr.specs.declared.spots.Spot.{Spot}
use Rattle.lower_expr.specs.declared.spots.Spot.TheVariants as S
use Rattle.lower_expr.specs.Operands.{is_plus}
use Rattle.lower_expr.specs.Spots.{loaded, variable_spot}
use Rattle.lower_expr.specs.Steps.{constant_in, negated, on_registers, register_negated, operated as operated_in, with_register_check}
use Rattle.lower_expr.specs.Values.{Code, binary_by, read_by, read_to, registers_by, unary_by}
use Rattle.paris_code.specs.declared.instr.Instr.{Instr}
use Rattle.paris_code.specs.declared.instr.Instr.TheVariants as I
use Rattle.paris_code.specs.Code as Machine
use Rattle.paris_code.specs.Code.{CodeState, Goes, begun, with_register}
use Rattle.paris_code.specs.Scalar.{compared as compared_word, operated as operated_word}
use Rattle.quiet_operands.specs.Quiet.{state_behind}
use Rattle.source_meaning.specs.Expressions.{mapped, operated}
use Rattle.source_meaning.specs.State as Source
use Rattle.source_meaning.specs.State.{Outcome, State, then_do}
use Rattle.source_meaning.specs.Targets.{read, variable_target}
use Rattle.source_meaning.specs.Values.{Active, Scalar, Scope, Value, at, convert_to, each, failing, unary_of, unless}
use Rattle.code_follows.specs.Fragment.{IsWord}
use Rattle.code_follows.proofs.Following.{Arrives, Extends, Follows, HasRegisters, Holds, IsScalar, Keeps, Sim, extends_then, finishes_later, arrives_fresh, held, keeps_all, keeps_on, knowing, register_at, register_is, register_kept, register_set, then_follows, keeps_less}
use Rattle.code_follows.proofs.Growing.{Extended, as_it_was, extended, from_growth}
use Rattle.code_follows.proofs.Operators.{by_machine, machine_below, machine_same, minus_same, wide_signed}
use Rattle.code_follows.proofs.Settings.{OpenAmong, At, Begun, Reaches, Setting, Within, ahead, and_one, at_next, begins_here, begun_later, earlier, ends_now, layout, one, onto, placed_instr, regs_more, start, stay}
use Rattle.code_follows.proofs.Words.{below_bits, below_word, held_wide}

-- one more register
abbrev pub with_reg : Draft → Draft
with_reg d = record d { regs = d.regs + 1 }

pub and_register : (d : Draft) → Extended d 0 (with_reg d)
and_register d = record { more = []; code = append_nothing d.code; long = refl; entries = []; fields = append_nothing d.fields; regs = omega arith; homes = []; homes_are = append_nothing d.homes }

pub some_word : (a b : ℕ) → Scalar a ≡ Scalar b → a ≡ b
unfolding at
some_word a b e = ap (λ (v : Value). at v 0) e

pub register_same : (a b : ℕ) → O.Scalar a ≡ O.Scalar b → a ≡ b
register_same a b e = ap (λ (o : Out). elim o as (λ _. ℕ) [ O.Scalar r ↦ r | O.Field f ↦ 0 | O.Nothing ↦ 0 ]) e

module _ (g : Setting) (has : HasRegisters g) (alive : Variable → Type 0) where
  -- the code arrives behind a draft, where a register has this word
  pub record HasWord (word : ℕ) (d e : Draft) (s0 : CodeState) (st : State) (q : ℕ) : Type 0 where
    pub grown : (n : ℕ) × Extended d n e
    pub t : CodeState
    pub go : Reaches g s0 t
    pub at : At g t (length e.code)
    pub sim : Sim g alive st t
    pub keeps : Keeps g d s0 t
    pub is : slice_index t.registers q ≡ word

  -- an instruction that puts a word in a register of a value, which is taken before it
  pub takes_word : (word : ℕ) (d e : Draft) (n : ℕ) (i : Instr) (s0 s : CodeState) (st : State) (r : ℕ) → Begun g alive d → Reaches g s0 s → At g s (length e.code) → Sim g alive st s → Extended d n e → Keeps g d s0 s
      → Within g (with_instr i e) → step_of i ≡ Plain i → begun g.image (placed_instr g i) s ≡ Goes (with_register r word s) → d.regs ≤ r → r < e.regs → HasWord word d (with_instr i e) s0 st r
  takes_word word d e n i s0 s st r free go here sim grows keeps within plain does low high =
      let t : CodeState = with_register r word s in
      let low_free : g.begins ≤ r = omega (arith, free, low) in
      let regs = regs_more g i e in
      let inside : r < length s.registers = omega (arith, high, regs, within.regs, sim.registers) in
      record {
        grown = (n + 1, extended d e (with_instr i e) n 1 grows (and_one g i e));
        t = t;
        go = onto g s0 s t go (one g s t (begins_here g i e s within plain here ∙ does) refl);
        at = at_next g i e s (s.at + 1) here refl;
        sim = register_set g alive st s r word has low_free sim;
        keeps = keeps_on g d d 0 s0 s t (as_it_was d) keeps (register_kept g d s r word has free.regs low (omega (arith, high, regs, within.own)));
        is = register_is g s r word inside;
      }

  -- the same, as the value of a type
  pub sets_register : (elem : Elem) (quiet : Bool) (d e : Draft) (n : ℕ) (i : Instr) (s0 s : CodeState) (st : State) (r w : ℕ) → Begun g alive d → Reaches g s0 s → At g s (length e.code) → Sim g alive st s
      → Extended d n e → Keeps g d s0 s → Within g (with_instr i e) → step_of i ≡ Plain i → begun g.image (placed_instr g i) s ≡ Goes (with_register r (held elem w) s) → d.regs ≤ r → r < e.regs → w < 2 ^ elem.bits
      → Arrives g alive elem quiet d s0 (Scalar w) st (O.Scalar r) (with_instr i e)
  sets_register elem quiet d e n i s0 s st r w free go here sim grows keeps within plain does low high small =
      let h : HasWord (held elem w) d (with_instr i e) s0 st r = takes_word (held elem w) d e n i s0 s st r free go here sim grows keeps within plain does low high in
      let regs = regs_more g i e in
      arrives_fresh g alive elem quiet d (with_instr i e) s0 h.t st r w h.grown h.go h.at h.sim h.keeps (omega (arith, free, low)) (omega (arith, high, regs)) small h.is

  -- the state at another place, where a register has a word
  abbrev pub written_at : ℕ → ℕ → ℕ → CodeState → CodeState
  written_at r word place s = record s { at = place; registers = slice_set s.registers r word }

  -- A register that the end of a value's code writes: behind this draft and from this state on, code that puts a
  -- number of a type there and changes nothing else has this said of it.
  pub record Dest (elem : Elem) (d : Draft) (s0 : CodeState) (R : Value → State → Out → Draft → Type 0) (r : ℕ) : Type 0 where
    pub takes : (e f : Draft) (n k : ℕ) (s : CodeState) (place : ℕ) (st : State) (w : ℕ) → Reaches g s0 s → At g s (length e.code) → Sim g alive st s → Extended d n e → Keeps g d s0 s → Extended e k f → Within g f
        → Reaches g s (written_at r (held elem w) place s) → place ≡ start g + length f.code → w < 2 ^ elem.bits → R (Scalar w) st (O.Scalar r) f

  module _ {elem : Elem} {d : Draft} {s0 : CodeState} {R : Value → State → Out → Draft → Type 0} {r : ℕ} (dest : Dest elem d s0 R r) where
    -- one instruction does it
    pub put_by : (e : Draft) (n : ℕ) (i : Instr) (s : CodeState) (st : State) (w : ℕ) → Reaches g s0 s → At g s (length e.code) → Sim g alive st s → Extended d n e → Keeps g d s0 s → Within g (with_instr i e) → step_of i ≡ Plain i
        → begun g.image (placed_instr g i) s ≡ Goes (with_register r (held elem w) s) → w < 2 ^ elem.bits → R (Scalar w) st (O.Scalar r) (with_instr i e)
    put_by e n i s st w go here sim grows keeps within plain does few =
        dest.takes e (with_instr i e) n 1 s (s.at + 1) st w go here sim grows keeps (and_one g i e) within (one g s (with_register r (held elem w) s) (begins_here g i e s within plain here ∙ does) refl) (at_next g i e s (s.at + 1) here refl) few

  -- a fresh one
  pub fresh_dest : (elem : Elem) (quiet : Bool) (d : Draft) (s0 : CodeState) → Begun g alive d → Dest elem (with_reg d) s0 (λ v st out e. Arrives g alive elem quiet d s0 v st out e) d.regs
  fresh_dest elem quiet d s0 free = record {
    takes = λ e f n k s place st w go begins sim grows keeps more within there here few.
        let t : CodeState = written_at d.regs (held elem w) place s in
        let taken = grows.regs in
        let longer = more.regs in
        let inside : d.regs < length s.registers = omega (arith, taken, longer, within.regs, sim.registers) in
        arrives_fresh g alive elem quiet d f s0 t st d.regs w (0 + (n + k), extended d (with_reg d) f 0 (n + k) (and_register d) (extended (with_reg d) e f n k grows more)) (onto g s0 s t go there) here
        (register_at g alive st s d.regs (held elem w) place has (omega (arith, free)) (ahead g e f k s place more begins here) sim)
        (keeps_on g d d 0 s0 s t (as_it_was d) (keeps_less g d (with_reg d) s0 s (omega arith) keeps) (register_kept g d s d.regs (held elem w) has free.regs (omega arith) (omega (arith, taken, longer, within.own))))
        (omega (arith, free)) (omega (arith, taken, longer)) few (register_is g s d.regs (held elem w) inside);
  }

  -- a number goes to a fresh register
  pub constant_follows : (elem : Elem) (quiet : Bool) (value : ℕ) (d : Draft) (s : CodeState) (st : State) → elem.bits ≡ 32 → value < 2 ^ 32 → Begun g alive d → At g s (length d.code) → Sim g alive st s
      → Follows g (λ v u out e. Arrives g alive elem quiet d s v u out e) s (Source.Gives (Scalar value) st) (constant_in value d)
  unfolding Follows constant_in a_register then_make begun step_of
  constant_follows elem quiet value d s st wide few free at sim = λ within.
      sets_register elem quiet d (with_reg d) 0 (I.FrontConst d.regs value) s s st d.regs value free (stay g s) at sim (and_register d) (keeps_all g d s) within refl
      (ap (λ (w : ℕ). Goes (with_register d.regs w s)) (sym (held_wide elem value wide few))) (omega arith) (omega arith) (below_bits elem.bits value wide few)

  -- a variable is copied to a fresh register
  pub copied : (ty : ValueType) (x : Variable) (bits : ℕ) (d : Draft) → ty.shape ≡ None
      → read_by g.typed (layout g) (T.Variable ty x) ty bits (λ between. Makes (variable_spot (layout g) ty x) between) d ≡ Makes (O.Scalar d.regs) (with_instr (I.FrontMove d.regs (register_of (layout g) x)) (with_reg d))
  unfolding read_by fresh_for a_register then_make read_to variable_spot loaded in_register
  copied ty x bits d scalar =
      ap (λ (o : Option ℕ). then_make (fresh_for o bits d) (λ dest begun. then_make (Makes (elim o as (λ _. Spot) [ None ↦ S.Register (register_of (layout g) x) | Some _ ↦ S.Whole x ]) begun) (λ there after. loaded g.typed (layout g) (T.Variable ty x) there dest after))) scalar

  pub read_is : (st : State) (ty : ValueType) (x : Variable) → ty.shape ≡ None → read st (variable_target ty.shape x 0) ≡ Scalar (st.scalar x)
  unfolding read variable_target
  read_is st ty x scalar = ap (λ (o : Option ℕ). read st (variable_target o x 0)) scalar

  -- what is known of a variable that is named
  named_scalar : (n : ℕ) (ty : ValueType) (x : Variable) → (v : HasVariable g.typed g.instance n x (plain ty)) → ty.shape ≡ None → IsScalar g x (variable_info v.word (plain ty) v.start)
  named_scalar n ty x v scalar = (v.named, scalar)

  pub variable_follows : (quiet : Bool) (bits n : ℕ) (ty : ValueType) (x : Variable) (d : Draft) (s : CodeState) (st : State) → ty.shape ≡ None → HasVariable g.typed g.instance n x (plain ty) → alive x → Begun g alive d → At g s (length d.code) → Sim g alive st s
      → Follows g (λ v u out e. Arrives g alive ty.elem quiet d s v u out e) s (Source.Gives (read st (variable_target ty.shape x 0)) st) (read_by g.typed (layout g) (T.Variable ty x) ty bits (λ between. Makes (variable_spot (layout g) ty x) between) d)
  unfolding Follows begun step_of
  variable_follows quiet bits n ty x d s st plain_shape v lives free at sim =
      let info : VarInfo = variable_info v.word (plain ty) v.start in
      let scalar : IsScalar g x info = named_scalar n ty x v plain_shape in
      let moves : (within : Within g (with_instr (I.FrontMove d.regs (register_of (layout g) x)) (with_reg d))) → Arrives g alive ty.elem quiet d s (Scalar (st.scalar x)) st (O.Scalar d.regs) (with_instr (I.FrontMove d.regs (register_of (layout g) x)) (with_reg d)) =
      λ within.
      sets_register ty.elem quiet d (with_reg d) 0 (I.FrontMove d.regs (register_of (layout g) x)) s s st d.regs (st.scalar x) free (stay g s) at sim (and_register d) (keeps_all g d s) within refl
      (ap (λ (w : ℕ). Goes (with_register d.regs w s)) (sim.scalars x info lives scalar)) (omega arith) (omega arith) (sim.small x info lives scalar) in
      subst (λ (made : Made Out). Follows g (λ v u out e. Arrives g alive ty.elem quiet d s v u out e) s (Source.Gives (read st (variable_target ty.shape x 0)) st) made) (sym (copied ty x bits d plain_shape))
      (subst (λ (v : Value). Follows g (λ v u out e. Arrives g alive ty.elem quiet d s v u out e) s (Source.Gives v st) (Makes (O.Scalar d.regs) (with_instr (I.FrontMove d.regs (register_of (layout g) x)) (with_reg d)))) (sym (read_is st ty x plain_shape)) moves)

  -- the relation of a value's code
  abbrev pub Value_of : Elem → Bool → Draft → CodeState → Value → State → Out → Draft → Type 0
  Value_of elem quiet d s v u out e = Arrives g alive elem quiet d s v u out e

  -- the word that stands in the register of a value, as long as it lasts
  pub value_stands : (elem : Elem) (quiet : Bool) (e : Draft) (st : State) (s : CodeState) (w r : ℕ) → Holds g alive elem quiet e st s (O.Scalar r) (Scalar w) → ((u : State) (t : CodeState) → Sim g alive u t → Keeps g e s t → (quiet ≡ true → u ≡ st) → slice_index t.registers r ≡ held elem w) × (w < 2 ^ elem.bits)
  value_stands elem quiet e st s w r h =
      let word : w ≡ h.word = some_word w h.word h.value in (
        λ u t sim keeps same. ap (λ (q : ℕ). slice_index t.registers q) (register_same r h.register h.is) ∙ h.lasts u t sim keeps same ∙ ap (held elem) (sym word),
        subst (λ (k : ℕ). k < 2 ^ elem.bits) (sym word) h.small,
      )

  -- the same word as a number of another type
  pub rewrapped : (to from : Elem) (quiet : Bool) (d e : Draft) (s : CodeState) (v : Value) (w : ℕ) (st : State) (out : Out) → (arr : Arrives g alive from quiet d s v st out e) → held to w ≡ held from (at v 0) → w < 2 ^ to.bits → Arrives g alive to quiet d s (Scalar w) st out e
  unfolding at
  rewrapped to from quiet d e s v w st out a same few = record {
    extended = a.extended;
    t = a.t;
    go = a.go;
    at = a.at;
    sim = a.sim;
    keeps = a.keeps;
    holds = record {
      register = a.holds.register;
      word = w;
      is = a.holds.is;
      value = refl;
      small = few;
      lasts = λ u t later stays still. a.holds.lasts u t later stays still ∙ ap (λ (x : Value). held from (at x 0)) (sym a.holds.value) ∙ sym same;
    };
  }

  -- what stands in the code of an operator grows
  pub extends_grown : {A : Type 0} (P : A → Type 0) (d : Draft) (n : ℕ) (made : Made A) → GrowsOr (Unit {0}) d n P made → Extends g d made
  unfolding Extends GrowsOr
  extends_grown P d n (Makes x e) h = (n, from_growth d e n h.1)
  extends_grown P d n Fails h = tt

  pub extends_in_register : {A : Type 0} (d : Draft) (v : Out) (next : ℕ → Made A) → ((r : ℕ) → Extends g d (next r)) → Extends g d (in_register v next)
  unfolding Extends in_register
  extends_in_register d (O.Scalar r) next h = h r
  extends_in_register d (O.Field f) next h = tt
  extends_in_register d O.Nothing next h = tt

  on_registers_more : (m : Machine) (r a b : ℕ) (d : Draft) → Extended d 1 (on_registers m r a b d)
  unfolding on_registers
  on_registers_more (M.Operate act) r a b d = and_one g (I.FrontOperate act r a b) d
  on_registers_more (M.Compare relation) r a b d = and_one g (I.FrontCompare relation r a b) d

  pub extends_operated : (op : Op) (signed : Bool) (place : Place) (r a b : ℕ) (d : Draft) → Extends g d (Makes (O.Scalar r) (operated_in op signed place r a b d))
  unfolding Extends operated_in with_register_check
  extends_operated op signed place r a b d = by (divides op)
    where
      by : (c : Bool) → (n : ℕ) × Extended d n (on_registers (machine_of op signed) r a b (if c then with_instr (I.FrontCheckDivisor place b) d else d))
      by true = (2, extended d (with_instr (I.FrontCheckDivisor place b) d) _ 1 1 (and_one g (I.FrontCheckDivisor place b) d) (on_registers_more (machine_of op signed) r a b (with_instr (I.FrontCheckDivisor place b) d)))
      by false = (1, on_registers_more (machine_of op signed) r a b d)

  -- the next instruction changes no register
  pub sim_onward : (st : State) (s : CodeState) → Sim g alive st s → Sim g alive st (Machine.onward s)
  sim_onward st s h = record { registers = h.registers; scalars = h.scalars; small = h.small; constants = h.constants; turns = h.turns; output = h.output; input = h.input; bytes = h.bytes; returns = h.returns; few = h.few; memory = g.held.onward (OpenAmong g alive) s.at (s.at + 1) st s.memory (omega arith) h.memory }

  -- a scalar operation on the words of two registers
  computes : (elem : Elem) (d e : Draft) (n : ℕ) (s0 s : CodeState) (st : State) (R : Value → State → Out → Draft → Type 0) (m : Machine) (r a b x y : ℕ) → elem.bits ≡ 32 → Dest elem d s0 R r → Reaches g s0 s → At g s (length e.code) → Sim g alive st s → Extended d n e
      → Keeps g d s0 s → slice_index s.registers a ≡ x → slice_index s.registers b ≡ y → x < 2 ^ 32 → y < 2 ^ 32 → Within g (on_registers m r a b e) → R (Scalar (by_machine m x y)) st (O.Scalar r) (on_registers m r a b e)
  unfolding on_registers begun step_of by_machine
  computes elem d e n s0 s st R (M.Operate act) r a b x y wide dest go here sim grows keeps is_a is_b few small within =
      let w : ℕ = operated_word act x y in
      let below : w < 2 ^ 32 = machine_below x y few small (M.Operate act) in
      put_by dest e n (I.FrontOperate act r a b) s st w go here sim grows keeps within refl
      (ap (λ (p : ℕ). Goes (with_register r (operated_word act p (slice_index s.registers b)) s)) is_a ∙ ap (λ (q : ℕ). Goes (with_register r (operated_word act x q) s)) is_b ∙ ap (λ (v : ℕ). Goes (with_register r v s)) (sym (held_wide elem w wide below)))
      (below_bits elem.bits w wide below)
  computes elem d e n s0 s st R (M.Compare relation) r a b x y wide dest go here sim grows keeps is_a is_b few small within =
      let w : ℕ = compared_word relation x y in
      let below : w < 2 ^ 32 = machine_below x y few small (M.Compare relation) in
      put_by dest e n (I.FrontCompare relation r a b) s st w go here sim grows keeps within refl
      (ap (λ (p : ℕ). Goes (with_register r (compared_word relation p (slice_index s.registers b)) s)) is_a ∙ ap (λ (q : ℕ). Goes (with_register r (compared_word relation x q) s)) is_b ∙ ap (λ (v : ℕ). Goes (with_register r v s)) (sym (held_wide elem w wide below)))
      (below_bits elem.bits w wide below)

  -- what the source's operator gives, of scalars
  pub operated_is : (scope : Scope) (active : Active) (ty : ValueType) (place : Place) (op : Op) (unsigned : Bool) (x y : ℕ) (st : State) → ty.shape ≡ None
      → operated scope active ty place op unsigned (Scalar x) (Scalar y) st ≡ (if divides op && (y == 0) then Source.Ends (Source.Fault DivZero place None) st else Source.Gives (Scalar (outcome op 32 unsigned x y)) st)
  unfolding operated failing unless each at
  operated_is scope active ty place op unsigned x y st scalar =
      ap (λ (o : Option ℕ). unless (failing scope active o (λ p. divides op && (y == 0))) DivZero place st (Source.Gives (each o (λ p. outcome op 32 unsigned x y)) st)) scalar ∙ by (divides op && (y == 0))
    where
      by : (b : Bool) → unless (if b then Some None else None) DivZero place st (Source.Gives (Scalar (outcome op 32 unsigned x y)) st) ≡ (if b then Source.Ends (Source.Fault DivZero place None) st else Source.Gives (Scalar (outcome op 32 unsigned x y)) st)
      by true = refl
      by false = refl

  -- the check of a divisor
  checked_so : (b y : ℕ) (s : CodeState) (place : Place) (z : Bool) → slice_index s.registers b ≡ y → (y == 0) ≡ z → begun g.image (placed_instr g (I.FrontCheckDivisor place b)) s ≡ Machine.checked z DivZero place s
  unfolding begun
  checked_so b y s place z is_b is_z = ap (λ (q : ℕ). Machine.checked (q == 0) DivZero place s) is_b ∙ ap (λ (c : Bool). Machine.checked c DivZero place s) is_z

  pub operates : (ty : ValueType) (op : Op) (place : Place) (signed : Bool) (d e : Draft) (n : ℕ) (s0 s : CodeState) (st : State) (R : Value → State → Out → Draft → Type 0) (scope : Scope) (active : Active) (r a b x y : ℕ) → IsWord ty → Dest ty.elem d s0 R r → Reaches g s0 s
      → At g s (length e.code) → Sim g alive st s → Extended d n e → Keeps g d s0 s → slice_index s.registers a ≡ x → slice_index s.registers b ≡ y → x < 2 ^ 32 → y < 2 ^ 32
      → Follows g R s0 (operated scope active ty place op (not signed) (Scalar x) (Scalar y) st) (Makes (O.Scalar r) (operated_in op signed place r a b e))
  unfolding operated_in with_register_check Follows step_of
  operates ty op place signed d e n s0 s st R scope active r a b x y word dest go here sim grows keeps is_a is_b few small =
      subst (λ (o : Outcome Value). Follows g R s0 o (Makes (O.Scalar r) (operated_in op signed place r a b e))) (sym (operated_is scope active ty place op (not signed) x y st word.0))
      (by (divides op) (y == 0) refl refl)
    where
      same : (divides op ≡ true → (y == 0) ≡ false) → by_machine (machine_of op signed) x y ≡ outcome op 32 (not signed) x y
      same some = machine_same x y few small op signed some

      by : (c z : Bool) → divides op ≡ c → (y == 0) ≡ z
          → Follows g R s0 (if c && z then Source.Ends (Source.Fault DivZero place None) st else Source.Gives (Scalar (outcome op 32 (not signed) x y)) st)
          (Makes (O.Scalar r) (on_registers (machine_of op signed) r a b (if c then with_instr (I.FrontCheckDivisor place b) e else e)))
      by false z is_c is_z = λ within.
          subst (λ (v : ℕ). R (Scalar v) st (O.Scalar r) (on_registers (machine_of op signed) r a b e)) (same (λ h. cc))
          (computes ty.elem d e n s0 s st R (machine_of op signed) r a b x y word.1 dest go here sim grows keeps is_a is_b few small within)
      by true true is_c is_z = λ within.
          let checks : Draft = with_instr (I.FrontCheckDivisor place b) e in
          let early : Within g checks = earlier g checks _ 1 (on_registers_more (machine_of op signed) r a b checks) within in
          finishes_later g (Source.Fault DivZero place None) st s0 s go (record {
            t = Machine.onward s;
            ends = ends_now g s (Machine.onward s) (Machine.Fault DivZero place None) (begins_here g (I.FrontCheckDivisor place b) e s early refl here ∙ checked_so b y s place true is_b is_z);
            turns = sim.turns;
            output = sim.output;
            input = sim.input;
            memory = g.held.finally (OpenAmong g alive) s.at st s.memory sim.memory;
          })
      by true false is_c is_z = λ within.
          let checks : Draft = with_instr (I.FrontCheckDivisor place b) e in
          let early : Within g checks = earlier g checks _ 1 (on_registers_more (machine_of op signed) r a b checks) within in
          let goes : Reaches g s (Machine.onward s) = one g s (Machine.onward s) (begins_here g (I.FrontCheckDivisor place b) e s early refl here ∙ checked_so b y s place false is_b is_z) refl in
          subst (λ (v : ℕ). R (Scalar v) st (O.Scalar r) (on_registers (machine_of op signed) r a b checks)) (same (λ h. is_z))
          (computes ty.elem d checks (n + 1) s0 (Machine.onward s) st R (machine_of op signed) r a b x y word.1 dest (onto g s0 s (Machine.onward s) go goes) (at_next g (I.FrontCheckDivisor place b) e s (s.at + 1) here refl) (sim_onward st s sim)
          (extended d e checks n 1 grows (and_one g (I.FrontCheckDivisor place b) e)) keeps is_a is_b few small within)

  -- a binary operator
  pub binary_is : (ty : ValueType) (bits : ℕ) (op : Op) (place : Place) (first second : Code) (left right : TExpr) (d : Draft) → ty.shape ≡ None
      → binary_by ty.shape bits op place first left second right d ≡ registers_by op (is_signed (type_of left).elem) place d.regs first second (with_reg d)
  unfolding binary_by a_register then_make
  binary_is ty bits op place first second left right d scalar = ap (λ (o : Option ℕ). binary_by o bits op place first left second right d) scalar

  -- what a value's code does, from wherever it begins
  abbrev pub Does : Elem → Bool → (State → Outcome Value) → Code → Type 0
  Does elem quiet part code =
      (d : Draft) (s : CodeState) (st : State) → Begun g alive d → At g s (length d.code) → Sim g alive st s → Follows g (Value_of elem quiet d s) s (part st) (code d)

  abbrev pub Grows_on : Code → Type 0
  Grows_on code = (d : Draft) → Extends g d (code d)

  module _ (ty : ValueType) (calm : Bool) (op : Op) (place : Place) (from to : Elem) (second : Code) (other : State → Outcome Value) (scope : Scope) (active : Active) (word : IsWord ty) (wide : from.bits ≡ 32) (also : to.bits ≡ 32)
      (still : (st : State) → calm ≡ true → state_behind (other st) ≡ st) (other_does : Does to true other second) (other_grows : Grows_on second) where
    abbrev behind_second : ℕ → ℕ → Out → Draft → Made Out
    behind_second r a w after = in_register w (λ b. Makes (O.Scalar r) (operated_in op from.signed place r a b after))

    abbrev behind_first : ℕ → Out → Draft → Made Out
    behind_first r v between = in_register v (λ a. then_make (second between) (λ w after. behind_second r a w after))

    grows_second : (r a : ℕ) (w : Out) (after : Draft) → Extends g after (behind_second r a w after)
    grows_second r a w after = extends_in_register after w _ (λ b. extends_operated op from.signed place r a b after)

    grows_first : (r : ℕ) (v : Out) (between : Draft) → Extends g between (behind_first r v between)
    grows_first r v between = extends_in_register between v _ (λ a. extends_then g between (second between) _ (other_grows between) (λ w after. grows_second r a w after))

    module _ (d : Draft) (s : CodeState) (R : Value → State → Out → Draft → Type 0) (r : ℕ) (free : Begun g alive d) (dest : Dest ty.elem d s R r) where
      abbrev source_behind : Value → State → Outcome Value
      source_behind v st1 = then_do (other st1) (λ w after. operated scope active ty place op (not from.signed) v w after)

      with_both : (st1 : State) (a x : ℕ) (e : Draft) → (arr : Arrives g alive from calm d s (Scalar x) st1 (O.Scalar a) e) → (w : Value) (st2 : State) (out : Out) (e2 : Draft) → (other st1 ≡ Source.Gives w st2) × Arrives g alive to true e arr.t w st2 out e2
          → Follows g R s (operated scope active ty place op (not from.signed) (Scalar x) w st2) (behind_second r a out e2)
      unfolding in_register state_behind
      with_both st1 a x e arr w st2 out e2 (gave, arr2) =
          let b : ℕ = arr2.holds.register in
          let y : ℕ = arr2.holds.word in
          let a_is : a ≡ arr.holds.register = register_same a arr.holds.register arr.holds.is in
          let x_is : arr.holds.word ≡ x = sym (some_word x arr.holds.word arr.holds.value) in
          let few : arr.holds.word < 2 ^ 32 = below_word from.bits arr.holds.word wide arr.holds.small in
          let small : y < 2 ^ 32 = below_word to.bits y also arr2.holds.small in
          let unchanged : calm ≡ true → st2 ≡ st1 = λ h. sym (ap state_behind gave) ∙ still st1 h in
          let is_a : slice_index arr2.t.registers a ≡ x =
          ap (λ (q : ℕ). slice_index arr2.t.registers q) a_is ∙ arr.holds.lasts st2 arr2.t arr2.sim arr2.keeps unchanged ∙ held_wide from arr.holds.word wide few ∙ x_is in
          let is_b : slice_index arr2.t.registers b ≡ y = arr2.holds.lasts st2 arr2.t arr2.sim (keeps_all g e2 arr2.t) (λ h. refl) ∙ held_wide to y also small in
          subst (λ (o : Out). Follows g R s (operated scope active ty place op (not from.signed) (Scalar x) w st2) (behind_second r a o e2)) (sym arr2.holds.is)
          (subst (λ (v : Value). Follows g R s (operated scope active ty place op (not from.signed) (Scalar x) v st2) (Makes (O.Scalar r) (operated_in op from.signed place r a b e2))) (sym arr2.holds.value)
          (operates ty op place from.signed d e2 (arr.extended.0 + arr2.extended.0) s arr2.t st2 R scope active r a b x y word dest (onto g s arr.t arr2.t arr.go arr2.go) arr2.at arr2.sim
          (extended d e e2 arr.extended.0 arr2.extended.0 arr.extended.1 arr2.extended.1)
          (keeps_on g d e arr.extended.0 s arr.t arr2.t arr.extended.1 arr.keeps arr2.keeps) is_a is_b (subst (λ (q : ℕ). q < 2 ^ 32) x_is few) small))

      with_first : (st1 : State) (e : Draft) (v : Value) (out : Out) {x a : ℕ} → v ≡ Scalar x → out ≡ O.Scalar a → Arrives g alive from calm d s v st1 out e → Follows g R s (source_behind v st1) (behind_first r out e)
      unfolding in_register
      with_first st1 e v out {x} {a} is_v is_out arr =
          subst (λ (o : Out). Follows g R s (source_behind v st1) (behind_first r o e)) (sym is_out)
          (subst (λ (u : Value). Follows g R s (source_behind u st1) (behind_first r (O.Scalar a) e)) (sym is_v)
          (let it : Arrives g alive from calm d s (Scalar x) st1 (O.Scalar a) e = subst (λ (o : Out). Arrives g alive from calm d s (Scalar x) st1 o e) is_out (subst (λ (u : Value). Arrives g alive from calm d s u st1 out e) is_v arr) in
          then_follows g (λ w st2 o e2. (other st1 ≡ Source.Gives w st2) × Arrives g alive to true e it.t w st2 o e2) R s it.t (other st1) _ (second e) (λ w after. behind_second r a w after) it.go
          (knowing g (Value_of to true e it.t) it.t (other st1) (second e) (other_does e it.t st1 (begun_later g alive d e it.extended.0 it.extended.1 free) it.at it.sim))
          (λ w after. grows_second r a w after) (λ w st2 o e2 both. with_both st1 a x e it w st2 o e2 both)))

      pub registers_follow : (st : State) (first : Code) (one_part : State → Outcome Value) → Does from calm one_part first → At g s (length d.code) → Sim g alive st s
          → Follows g R s (then_do (one_part st) (λ v between. source_behind v between)) (registers_by op from.signed place r first second d)
      unfolding registers_by
      registers_follow st first one_part one_does here sim =
          then_follows g (Value_of from calm d s) R s s (one_part st) _ (first d) (λ v between. behind_first r v between) (stay g s) (one_does d s st free here sim) (λ v between. grows_first r v between)
          (λ v st1 out e arr. with_first st1 e v out arr.holds.value arr.holds.is arr)

    pub binary_follows : (quiet : Bool) (bits : ℕ) (left right : TExpr) (first : Code) (one_part : State → Outcome Value) → from ≡ (type_of left).elem → Does from calm one_part first
        → Does ty.elem quiet (λ st. then_do (one_part st) (λ v between. then_do (other between) (λ w after. operated scope active ty place op (not from.signed) v w after))) (λ d. binary_by ty.shape bits op place first left second right d)
    binary_follows quiet bits left right first one_part same one_does d s st free here sim =
        let signed : is_signed (type_of left).elem ≡ from.signed = ap is_signed (sym same) ∙ wide_signed from wide in
        subst (λ (made : Made Out). Follows g (Value_of ty.elem quiet d s) s (then_do (one_part st) (λ v between. then_do (other between) (λ w after. operated scope active ty place op (not from.signed) v w after))) made)
        (sym (binary_is ty bits op place first second left right d word.0 ∙ ap (λ (b : Bool). registers_by op b place d.regs first second (with_reg d)) signed))
        (registers_follow (with_reg d) s (Value_of ty.elem quiet d s) d.regs (begun_later g alive d (with_reg d) 0 (and_register d) free) (fresh_dest ty.elem quiet d s free) st first one_part one_does here sim)

  -- a unary operator on the word of a register
  abbrev Negates : UnaryOp → ValueType → Type 1
  Negates op ty =
      (d e : Draft) (n : ℕ) (s0 s : CodeState) (st : State) (R : Value → State → Out → Draft → Type 0) (r a x : ℕ) → Begun g alive d → Dest ty.elem d s0 R r → Reaches g s0 s → At g s (length e.code) → Sim g alive st s → Extended d n e → Keeps g d s0 s
      → ((t : CodeState) → Sim g alive st t → Keeps g e s t → slice_index t.registers a ≡ x) → x < 2 ^ 32 → Follows g R s0 (Source.Gives (Scalar (unary_of op x)) st) (register_negated (layout g) op r a e)

  minus : (ty : ValueType) → ty.elem.bits ≡ 32 → Negates U.Minus ty
  unfolding Follows register_negated begun step_of
  minus ty wide d e n s0 s st R r a x free dest go here sim grows keeps is few = λ within.
      let below : unary_of U.Minus x < 2 ^ 32 = unary_below U.Minus x few in
      put_by dest e n (I.FrontNegate r a) s st (unary_of U.Minus x) go here sim grows keeps within refl
      (ap (λ (q : ℕ). Goes (with_register r (residue 32 (neg_ℤ (pos q))) s)) (is s sim (keeps_all g e s)) ∙ ap (λ (w : ℕ). Goes (with_register r w s)) (minus_same x ∙ sym (held_wide ty.elem (unary_of U.Minus x) wide below))) (below_bits ty.elem.bits (unary_of U.Minus x) wide below)

  complement : (ty : ValueType) → ty.elem.bits ≡ 32 → Negates U.Complement ty
  unfolding Follows register_negated begun step_of unary_of
  complement ty wide d e n s0 s st R r a x free dest go here sim grows keeps is few = λ within.
      let below : 2 ^ 32 - 1 - x < 2 ^ 32 = omega arith in
      put_by dest e n (I.FrontLognot r a) s st (2 ^ 32 - 1 - x) go here sim grows keeps within refl
      (ap (λ (q : ℕ). Goes (with_register r (2 ^ 32 - 1 - q) s)) (is s sim (keeps_all g e s)) ∙ ap (λ (w : ℕ). Goes (with_register r w s)) (sym (held_wide ty.elem (2 ^ 32 - 1 - x) wide below))) (below_bits ty.elem.bits (2 ^ 32 - 1 - x) wide below)

  -- a number in a register, where it stands or in a fresh one
  pub word_follows : (word : ℕ) (d : Draft) (s : CodeState) (st : State) → Begun g alive d → At g s (length d.code) → Sim g alive st s → Follows g (λ (u : Unit {0}) after q e. (after ≡ st) × HasWord word d e s st q) s (Source.Gives tt st) (word_in (layout g) word d)
  unfolding word_in Follows a_register then_make begun step_of
  word_follows word d s st free at sim = by (constant_register (layout g) word) refl
    where
      by : (o : Option ℕ) → constant_register (layout g) word ≡ o
          → Follows g (λ (u : Unit {0}) after q e. (after ≡ st) × HasWord word d e s st q) s (Source.Gives tt st) (elim o as (λ _. Made ℕ) [ Some r ↦ Makes r d | None ↦ then_make (a_register d) (λ r after. Makes r (with_instr (I.FrontConst r word) after)) ])
      by (Some r) is = λ within. (refl, record { grown = (0, as_it_was d); t = s; go = stay g s; at = at; sim = sim; keeps = keeps_all g d s; is = sim.constants word r is })
      by None is = λ within. (refl, takes_word word d (with_reg d) 0 (I.FrontConst d.regs word) s s st d.regs free (stay g s) at sim (and_register d) (keeps_all g d s) within refl refl (omega arith) (omega arith))

  pub extends_word : (word : ℕ) (d : Draft) → Extends g d (word_in (layout g) word d)
  unfolding word_in Extends a_register then_make
  extends_word word d = by (constant_register (layout g) word)
    where
      by : (o : Option ℕ) → Extends g d (elim o as (λ _. Made ℕ) [ Some r ↦ Makes r d | None ↦ then_make (a_register d) (λ r after. Makes r (with_instr (I.FrontConst r word) after)) ])
      by (Some r) = (0, as_it_was d)
      by None = (0 + 1, extended d (with_reg d) _ 0 1 (and_register d) (and_one g (I.FrontConst d.regs word) (with_reg d)))

  -- `!` compares with zero
  nots : (ty : ValueType) → ty.elem.bits ≡ 32 → Negates U.Not ty
  unfolding register_negated Extends Follows begun step_of unary_of then_do then_make operate divides outcome compared_word
  nots ty wide d e n s0 s st R r a x free dest go here sim grows keeps is few =
      then_follows g (λ (u : Unit {0}) after q f. (after ≡ st) × HasWord 0 e f s st q) R s0 s (Source.Gives tt st) (λ u after. Source.Gives (Scalar (unary_of U.Not x)) st) (word_in (layout g) 0 e)
      (λ q after. Makes (O.Scalar r) (with_instr (I.FrontCompare C.UEq r a q) after)) go (word_follows 0 e s st (begun_later g alive d e n grows free) here sim) (λ q after. one_more q after) (λ u after q f h. compares after q f h)
    where
      one_more : (q : ℕ) (f : Draft) → Extends g f (Makes (O.Scalar r) (with_instr (I.FrontCompare C.UEq r a q) f))
      one_more q f = (1, and_one g (I.FrontCompare C.UEq r a q) f)

      compares : (after : State) (q : ℕ) (f : Draft) → (after ≡ st) × HasWord 0 e f s st q → Follows g R s0 (Source.Gives (Scalar (unary_of U.Not x)) st) (Makes (O.Scalar r) (with_instr (I.FrontCompare C.UEq r a q) f))
      compares after q f (same, h) = λ within.
          let below : from_bool (x == 0) < 2 ^ 32 = unary_below U.Not x few in
          put_by dest f (n + h.grown.0) (I.FrontCompare C.UEq r a q) h.t st (from_bool (x == 0)) (onto g s0 s h.t go h.go) h.at h.sim (extended d e f n h.grown.0 grows h.grown.1)
          (keeps_on g d e n s0 s h.t grows keeps h.keeps) within refl
          (ap (λ (p : ℕ). Goes (with_register r (from_bool (p == slice_index h.t.registers q)) h.t)) (is h.t h.sim h.keeps) ∙ ap (λ (p : ℕ). Goes (with_register r (from_bool (x == p)) h.t)) h.is
          ∙ ap (λ (w : ℕ). Goes (with_register r w h.t)) (sym (held_wide ty.elem (from_bool (x == 0)) wide below))) (below_bits ty.elem.bits (from_bool (x == 0)) wide below)

  negates : (op : UnaryOp) (ty : ValueType) → is_plus op ≡ false → ty.elem.bits ≡ 32 → Negates op ty
  unfolding is_plus
  negates U.Plus ty h wide = cc
  negates U.Minus ty h wide = minus ty wide
  negates U.Complement ty h wide = complement ty wide
  negates U.Not ty h wide = nots ty wide

  pub extends_negated : (op : UnaryOp) (r a : ℕ) (d : Draft) → Extends g d (register_negated (layout g) op r a d)
  unfolding Extends register_negated
  extends_negated U.Plus r a d = tt
  extends_negated U.Minus r a d = (1, and_one g (I.FrontNegate r a) d)
  extends_negated U.Complement r a d = (1, and_one g (I.FrontLognot r a) d)
  extends_negated U.Not r a d = extends_then g d (word_in (layout g) 0 d) _ (extends_word 0 d) (λ q e. (1, and_one g (I.FrontCompare C.UEq r a q) e))

  pub mapped_is : (ty : ValueType) (f : ℕ → ℕ) (v : Value) → ty.shape ≡ None → mapped ty f v ≡ Scalar (f (at v 0))
  unfolding mapped each
  mapped_is ty f v scalar = ap (λ (o : Option ℕ). each o (λ p. f (at v p))) scalar

  -- the code of a unary operator but `+`
  module _ (ty : ValueType) (op : UnaryOp) (from : Elem) (same : (w : ℕ) → w < 2 ^ from.bits → unary_of op (held from w) ≡ unary_of op w) (word : IsWord ty) (other : is_plus op ≡ false) where
    abbrev behind_operand : ℕ → Out → Draft → Made Out
    behind_operand r v after = negated (layout g) op (O.Scalar r) v after

    grows_operand : (r : ℕ) (v : Out) (e : Draft) → Extends g e (behind_operand r v e)
    unfolding negated
    grows_operand r v e = extends_in_register e v _ (λ a. extends_negated op r a e)

    module _ (d : Draft) (s : CodeState) (R : Value → State → Out → Draft → Type 0) (r : ℕ) (free : Begun g alive d) (dest : Dest ty.elem d s R r) where
      with_operand : (v : Value) (st : State) (out : Out) (e : Draft) → Arrives g alive from true d s v st out e → Follows g R s (Source.Gives (mapped ty (unary_of op) v) st) (behind_operand r out e)
      unfolding negated in_register at
      with_operand v st out e arr =
          let x : ℕ = held from arr.holds.word in
          let gives : mapped ty (unary_of op) v ≡ Scalar (unary_of op x) =
          mapped_is ty (unary_of op) v word.0 ∙ ap (λ (u : Value). Scalar (unary_of op (at u 0))) arr.holds.value ∙ ap Scalar (sym (same arr.holds.word arr.holds.small)) in
          subst (λ (u : Value). Follows g R s (Source.Gives u st) (behind_operand r out e)) (sym gives)
          (subst (λ (o : Out). Follows g R s (Source.Gives (Scalar (unary_of op x)) st) (behind_operand r o e)) (sym arr.holds.is)
          (negates op ty other word.1 d e arr.extended.0 s arr.t st R r arr.holds.register x free dest arr.go arr.at arr.sim arr.extended.1 arr.keeps
          (λ t sim stays. arr.holds.lasts st t sim stays (λ h. refl)) (converted_below int_type from arr.holds.word)))

      pub negated_follows : (st : State) (second : Code) (part : State → Outcome Value) → Does from true part second → At g s (length d.code) → Sim g alive st s
          → Follows g R s (then_do (part st) (λ v after. Source.Gives (mapped ty (unary_of op) v) after)) (then_make (second d) (λ v after. behind_operand r v after))
      negated_follows st second part does here sim =
          then_follows g (Value_of from true d s) R s s (part st) _ (second d) (λ v after. behind_operand r v after) (stay g s) (does d s st free here sim) (λ v e. grows_operand r v e) (λ v u out e arr. with_operand v u out e arr)

    pub unary_follows : (quiet : Bool) (code second : Code) (part : State → Outcome Value) (bits : ℕ) → Does from true part second → Does ty.elem quiet (λ st. then_do (part st) (λ v after. Source.Gives (mapped ty (unary_of op) v) after)) (λ d. unary_by (layout g) ty bits op code second d)
    unfolding unary_by fresh_for a_register then_make
    unary_follows quiet code second part bits does d s st free here sim =
        subst (λ (made : Made Out). Follows g (Value_of ty.elem quiet d s) s (then_do (part st) (λ v after. Source.Gives (mapped ty (unary_of op) v) after)) made) (sym made_is)
        (negated_follows (with_reg d) s (Value_of ty.elem quiet d s) d.regs (begun_later g alive d (with_reg d) 0 (and_register d) free) (fresh_dest ty.elem quiet d s free) st second part does here sim)
      where
        made_is : (if is_plus op then code d else then_make (fresh_for ty.shape bits d) (λ dest between. then_make (second between) (λ v after. negated (layout g) op dest v after))) ≡ then_make (second (with_reg d)) (λ v after. behind_operand d.regs v after)
        made_is =
            ap (λ (b : Bool). if b then code d else then_make (fresh_for ty.shape bits d) (λ dest between. then_make (second between) (λ v after. negated (layout g) op dest v after))) other
            ∙ ap (λ (o : Option ℕ). then_make (fresh_for o bits d) (λ dest between. then_make (second between) (λ v after. negated (layout g) op dest v after))) word.0

  -- what a conversion gives
  pub conversion_is : (ty : ValueType) (from : Elem) (v : Value) → ty.shape ≡ None → convert_to ty from v ≡ Scalar (converted ty.elem from (at v 0))
  unfolding convert_to each
  conversion_is ty from v scalar = ap (λ (o : Option ℕ). each o (λ p. converted ty.elem from (at v p))) scalar
