-- The code of a value leaves it in a register that was not taken before.
use Rattle.std.proofs.Common.{◌≡◌, ℕ, ◌+◌, ◌<◌, ◌≤◌, Bool, true, false, not, Option, Some, None, sym, subst, if◌then◌else◌, arith, inr}
use Rattle.std.specs.Prelude.{◌⊎◌}
use Rattle.cstar_base.specs.declared.operators.Op.{Op}
use Rattle.cstar_base.specs.declared.operators.Place.{Place}
use Rattle.cstar_tree.specs.declared.typed.TExpr.{TExpr}
use Rattle.cstar_tree.specs.declared.typed.TExpr as T
use Rattle.cstar_tree.specs.declared.typed.UnaryOp.{UnaryOp}
use Rattle.cstar_tree.specs.declared.typed.UnaryOp.TheVariants as U
use Rattle.cstar_tree.specs.declared.typed.ValueType.{ValueType}
use Rattle.cstar_tree.specs.declared.typed.Variable.{Variable}
use Rattle.lower_base.specs.declared.emit.Out.{Out}
use Rattle.lower_base.specs.declared.emit.Out.TheVariants as O
use Rattle.lower_base.specs.Constants.{word_in, first_free}
use Rattle.lower_base.specs.Drafts.{Draft, Fails, Made, Makes, a_register, fresh_for, in_register, shortened, then_make, with_instr}
use Rattle.lower_base.specs.Layouts.{register_of, Layout}
use Rattle.lower_expr.specs.Operands.{is_plus}
use Rattle.lower_expr.specs.Spots.{variable_spot}
use Rattle.lower_expr.specs.Steps.{constant_in, negated, put_value, register_negated, register_word, word_for, word_put}
use Rattle.lower_expr.specs.Values.{Code, Condition, arm_by, binary_by, byte_in, choice_by, decided, jump_if_decided, logical_by, logical_ended, lowest, read_by, registers_by, scalar_choice_by, scalar_logical_by, unary_by}
use Rattle.std.specs.Int.{from_bool}
use Rattle.code_follows.proofs.Branching.{jump_more}
use Rattle.code_follows.proofs.Choosing.{choice_is}
use Rattle.paris_code.specs.declared.instr.Instr.TheVariants as I
use Rattle.paris_code.specs.declared.operands.Compare.TheVariants as C
use Rattle.paris_code.specs.Code.{CodeState}
use Rattle.source_meaning.specs.State as Source
use Rattle.source_meaning.specs.State.{Outcome, State}
use Rattle.source_meaning.specs.Values.{Value}
use Rattle.code_follows.proofs.Following.{Extends, Follows, HasRegisters, extends_then}
use Rattle.code_follows.proofs.Settings.{Setting, and_one, layout, regs_more}
use Rattle.code_follows.proofs.Values.{Grows_on, binary_is, copied, extends_in_register, extends_operated, extends_word, with_reg}

-- a register of a value that is taken behind the draft, and is there
unfoldable pub IsFresh : Draft → Made Out → Type 0
IsFresh d (Makes (O.Scalar r) e) = (d.regs ≤ r) × (r < e.regs)
IsFresh d (Makes (O.Field f) e) = Unit {0}
IsFresh d (Makes O.Nothing e) = Unit {0}
IsFresh d Fails = Unit {0}

-- a register of a variable or a constant, or one that is taken behind the draft
unfoldable pub IsClear : Layout → Draft → Made Out → Type 0
IsClear l d (Makes (O.Scalar r) e) = (r < first_free l) ⊎ (d.regs ≤ r)
IsClear l d (Makes (O.Field f) e) = Unit {0}
IsClear l d (Makes O.Nothing e) = Unit {0}
IsClear l d Fails = Unit {0}

pub clear_fresh : (l : Layout) (d : Draft) (made : Made Out) → IsFresh d made → IsClear l d made
unfolding IsFresh IsClear
clear_fresh l d (Makes (O.Scalar r) e) h = inr h.0
clear_fresh l d (Makes (O.Field f) e) h = tt
clear_fresh l d (Makes O.Nothing e) h = tt
clear_fresh l d Fails h = tt

-- shortened to no fewer bits it stands there too
pub fresh_lowest : (bits : ℕ) (d : Draft) (made : Made Out) → IsFresh d made → IsFresh d (lowest bits made)
unfolding IsFresh lowest then_make shortened
fresh_lowest bits d (Makes (O.Scalar r) e) h = h
fresh_lowest bits d (Makes (O.Field f) e) h = tt
fresh_lowest bits d (Makes O.Nothing e) h = tt
fresh_lowest bits d Fails h = tt

module _ (g : Setting) (has : HasRegisters g) (alive : Variable → Type 0) where
  -- what is known of code that is made, beside what it does
  pub made_so : (P : Made Out → Type 0) (R : Value → State → Out → Draft → Type 0) (s : CodeState) (o : Outcome Value) (made : Made Out) → P made → Follows g R s o made → Follows g (λ v u out e. P (Makes out e) × R v u out e) s o made
  unfolding Follows
  made_so P R s (Source.Gives v u) (Makes out e) fresh h = λ w. (fresh, h w)
  made_so P R s (Source.Ends early u) (Makes out e) fresh h = h
  made_so P R s (Source.Gives v u) Fails fresh h = tt
  made_so P R s (Source.Ends early u) Fails fresh h = tt

  pub fresh_then : {A : Type 0} (d e : Draft) (made : Made A) (next : A → Draft → Made Out) → Extends g e made → ((x : A) (f : Draft) → e.regs ≤ f.regs → IsFresh d (next x f)) → IsFresh d (then_make made next)
  unfolding IsFresh Extends then_make
  fresh_then d e (Makes x f) next grows h = h x f grows.1.regs
  fresh_then d e Fails next grows h = tt

  pub fresh_register : (d : Draft) (v : Out) (next : ℕ → Made Out) → ((r : ℕ) → IsFresh d (next r)) → IsFresh d (in_register v next)
  unfolding IsFresh in_register
  fresh_register d (O.Scalar r) next h = h r
  fresh_register d (O.Field f) next h = tt
  fresh_register d O.Nothing next h = tt

  pub fresh_constant : (value : ℕ) (d : Draft) → IsFresh d (constant_in value d)
  unfolding IsFresh constant_in a_register then_make
  fresh_constant value d = let regs = regs_more g (I.FrontConst d.regs value) (with_reg d) in (omega arith, omega (arith, regs))

  pub fresh_byte : (d : Draft) → IsFresh d (byte_in d)
  unfolding IsFresh byte_in a_register then_make
  fresh_byte d = let regs = regs_more g (I.FrontGetByte d.regs) (with_reg d) in (omega arith, omega (arith, regs))

  pub fresh_variable : (ty : ValueType) (x : Variable) (bits : ℕ) (d : Draft) → ty.shape ≡ None → IsFresh d (read_by g.typed (layout g) (T.Variable ty x) ty bits (λ between. Makes (variable_spot (layout g) ty x) between) d)
  unfolding IsFresh
  fresh_variable ty x bits d scalar =
      let regs = regs_more g (I.FrontMove d.regs (register_of (layout g) x)) (with_reg d) in
      subst (λ (made : Made Out). IsFresh d made) (sym (copied g has alive ty x bits d scalar)) (omega arith, omega (arith, regs))

  fresh_registers : (op : Op) (signed : Bool) (place : Place) (r : ℕ) (first second : Code) (d e : Draft) → d.regs ≤ r → r < e.regs → Grows_on g has alive first → Grows_on g has alive second → IsFresh d (registers_by op signed place r first second e)
  unfolding registers_by IsFresh Extends
  fresh_registers op signed place r first second d e low high grows also =
      fresh_then d e (first e) _ (grows e) (λ v f more. fresh_register d v _ (λ a. fresh_then d f (second f) _ (also f) (λ w h further. fresh_register d w _ (λ b.
      let last = (extends_operated g has alive op signed place r a b h).1.regs in (low, omega (arith, high, more, further, last))))))

  pub fresh_binary : (ty : ValueType) (bits : ℕ) (op : Op) (place : Place) (first second : Code) (left right : TExpr) (d : Draft) → ty.shape ≡ None → Grows_on g has alive first → Grows_on g has alive second → IsFresh d (binary_by ty.shape bits op place first left second right d)
  fresh_binary ty bits op place first second left right d scalar grows also =
      subst (λ (made : Made Out). IsFresh d made) (sym (binary_is g has alive ty bits op place first second left right d scalar)) (fresh_registers op _ place d.regs first second d (with_reg d) (omega arith) (omega arith) grows also)

  fresh_negated : (op : UnaryOp) (r a : ℕ) (d e : Draft) → d.regs ≤ r → r < e.regs → IsFresh d (register_negated (layout g) op r a e)
  unfolding IsFresh register_negated
  fresh_negated U.Plus r a d e low high = tt
  fresh_negated U.Minus r a d e low high = let regs = regs_more g (I.FrontNegate r a) e in (low, omega (arith, high, regs))
  fresh_negated U.Complement r a d e low high = let regs = regs_more g (I.FrontLognot r a) e in (low, omega (arith, high, regs))
  fresh_negated U.Not r a d e low high =
      fresh_then d e (word_in (layout g) 0 e) _ (extends_word g has alive 0 e) (λ q f more. let regs = regs_more g (I.FrontCompare C.UEq r a q) f in (low, omega (arith, high, more, regs)))

  pub fresh_unary : (ty : ValueType) (bits : ℕ) (op : UnaryOp) (code second : Code) (d : Draft) → ty.shape ≡ None → IsFresh d (code d) → Grows_on g has alive second → IsFresh d (unary_by (layout g) ty bits op code second d)
  unfolding unary_by fresh_for a_register then_make negated
  fresh_unary ty bits op code second d scalar fresh grows = by (is_plus op)
    where
      taken : (o : Option ℕ) → o ≡ None → IsFresh d (then_make (fresh_for o bits d) (λ dest between. then_make (second between) (λ v after. negated (layout g) op dest v after)))
      taken (Some set) is = cc
      taken None is = fresh_then d (with_reg d) (second (with_reg d)) (λ v after. negated (layout g) op (O.Scalar d.regs) v after) (grows (with_reg d)) (λ v e more. fresh_in_negated v e more)
        where
          fresh_in_negated : (v : Out) (e : Draft) → d.regs + 1 ≤ e.regs → IsFresh d (negated (layout g) op (O.Scalar d.regs) v e)
          fresh_in_negated v e more = fresh_register d v _ (λ a. fresh_negated op d.regs a d e (omega arith) (omega (arith, more)))

      by : (b : Bool) → IsFresh d (if b then code d else then_make (fresh_for ty.shape bits d) (λ dest between. then_make (second between) (λ v after. negated (layout g) op dest v after)))
      by true = fresh
      by false = taken ty.shape scalar

  extends_decided : (is_or : Bool) (v : Out) (n own : ℕ) (d : Draft) → Extends g d (decided is_or v n own d)
  unfolding decided Extends
  extends_decided is_or v n own d = extends_in_register g has alive d v _ (λ a. (1, jump_more g alive is_or a _ d))

  fresh_scalar_logical : (is_or : Bool) (first second : Code) (n : ℕ) (d : Draft) → Grows_on g has alive first → Grows_on g has alive second → IsFresh d (scalar_logical_by is_or first second n d)
  unfolding scalar_logical_by constant_in a_register then_make in_register logical_ended IsFresh
  fresh_scalar_logical is_or first second n d grows also =
      let opened : Draft = with_instr (I.FrontConst d.regs (from_bool is_or)) (with_reg d) in
      let begun = regs_more g (I.FrontConst d.regs (from_bool is_or)) (with_reg d) in
      fresh_then d opened (first opened) (λ v e. then_make (decided is_or v n 3 e) (λ end f. then_make (second f) (λ w h. logical_ended is_or d.regs w end h))) (grows opened)
      (λ v e more. fresh_then d e (decided is_or v n 3 e) (λ end f. then_make (second f) (λ w h. logical_ended is_or d.regs w end h)) (extends_decided is_or v n 3 e)
      (λ end f further. fresh_then d f (second f) (λ w h. logical_ended is_or d.regs w end h) (also f)
      (λ w h last. fresh_register d w _ (λ b.
      let jumped = (jump_more g alive is_or b end h).regs in
      let put = regs_more g (I.FrontConst d.regs (from_bool (not is_or))) (jump_if_decided is_or b end h) in
      (omega arith, omega (arith, begun, more, further, last, jumped, put))))))

  -- the results of `&&` and `||` and of `?:` stand in the register that is taken first
  pub fresh_logical : (is_or : Bool) (shape : Option ℕ) (bits : ℕ) (left right : Condition) (d : Draft) → shape ≡ None → Grows_on g has alive left.code → Grows_on g has alive right.code → IsFresh d (logical_by is_or shape bits left right d)
  unfolding logical_by
  fresh_logical is_or shape bits left right d scalar one other = subst (λ (o : Option ℕ). IsFresh d (logical_by is_or o bits left right d)) (sym scalar) (fresh_scalar_logical is_or left.code right.code right.long d one other)

  fresh_arm : (code : Code) (e : TExpr) (r : ℕ) (d f : Draft) → d.regs ≤ r → r < f.regs → Grows_on g has alive code → IsFresh d (arm_by code e (O.Scalar r) f)
  unfolding arm_by word_for word_put put_value IsFresh
  fresh_arm code e r d f low high grows = by (register_word e)
    where
      by : (o : Option ℕ) → IsFresh d (elim o as (λ _. Made Out) [ Some word ↦ Makes (O.Scalar r) (with_instr (I.FrontConst r word) f) | None ↦ then_make (code f) (λ v after. in_register v (λ a. Makes (O.Scalar r) (with_instr (I.FrontMove r a) after))) ])
      by (Some word) = let regs = regs_more g (I.FrontConst r word) f in (low, omega (arith, high, regs))
      by None = fresh_then d f (code f) _ (grows f) (λ v h more. fresh_register d v _ (λ a. let regs = regs_more g (I.FrontMove r a) h in (low, omega (arith, high, more, regs))))

  extends_arm : (code : Code) (e : TExpr) (r : ℕ) (f : Draft) → Grows_on g has alive code → Extends g f (arm_by code e (O.Scalar r) f)
  unfolding arm_by word_for word_put put_value Extends
  extends_arm code e r f grows = by (register_word e)
    where
      by : (o : Option ℕ) → Extends g f (elim o as (λ _. Made Out) [ Some word ↦ Makes (O.Scalar r) (with_instr (I.FrontConst r word) f) | None ↦ then_make (code f) (λ v after. in_register v (λ a. Makes (O.Scalar r) (with_instr (I.FrontMove r a) after))) ])
      by (Some word) = (1, and_one g (I.FrontConst r word) f)
      by None = extends_then g f (code f) _ (grows f) (λ v h. extends_in_register g has alive h v _ (λ a. (1, and_one g (I.FrontMove r a) h)))

  fresh_scalar_choice : (test one other : Code) (first second : TExpr) (n m r : ℕ) (d e : Draft) → d.regs ≤ r → r < e.regs → Grows_on g has alive test → Grows_on g has alive one → Grows_on g has alive other
      → IsFresh d (scalar_choice_by (O.Scalar r) test (arm_by one first) (arm_by other second) n m e)
  unfolding scalar_choice_by
  fresh_scalar_choice test one other first second n m r d e low high grows also too =
      fresh_then d e (test e) _ (grows e) (λ c begun more. fresh_then d begun (decided false c n 2 begun) _ (extends_decided false c n 2 begun)
      (λ place next further. fresh_then d next (arm_by one first (O.Scalar r) next) _ (extends_arm one first r next also)
      (λ out half last. let regs = regs_more g (I.FrontJump (place + m)) half in fresh_arm other second r d (with_instr (I.FrontJump (place + m)) half) low (omega (arith, high, more, further, last, regs)) too)))

  pub fresh_choice : (ty : ValueType) (bits : ℕ) (kept : Bool) (test one other : Code) (first second : TExpr) (n m : ℕ) (d : Draft) → ty.shape ≡ None → kept ≡ true → Grows_on g has alive test → Grows_on g has alive one → Grows_on g has alive other
      → IsFresh d (choice_by ty bits kept test (arm_by one first) (arm_by other second) n m d)
  fresh_choice ty bits kept test one other first second n m d scalar is grows also too =
      subst (λ (made : Made Out). IsFresh d made) (sym (choice_is ty bits kept test (arm_by one first) (arm_by other second) n m d scalar is))
      (fresh_scalar_choice test one other first second n m d.regs d (with_reg d) (omega arith) (omega arith) grows also too)
