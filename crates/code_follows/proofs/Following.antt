-- The code of a unit follows the source: what registers hold, and what one instruction does to that.
use Rattle.std.proofs.Common.{◌≡◌, ◌∙◌, ℕ, ◌+◌, ◌<◌, ◌≤◌, ◌^◌, Bool, true, length, slice_index, slice_set, Some, None, refl, arith, ◌⊎◌, inl, inr, subst, sym}
use Rattle.std.proofs.lemmas.List.{get_or-set_other, get_or-set_same}
use Rattle.std.proofs.Math.ListN.{length-set}
use Rattle.cstar_base.specs.declared.elem.Elem.{Elem}
use Rattle.cstar_base.specs.Numbers.{converted}
use Rattle.cstar_tree.specs.declared.typed.VarInfo.{VarInfo}
use Rattle.cstar_tree.specs.declared.typed.Variable.{Variable}
use Rattle.code_lengths.specs.Naming.{variable_named}
use Rattle.lower_base.specs.declared.emit.Out.{Out}
use Rattle.lower_base.specs.declared.emit.Out.TheVariants as O
use Rattle.lower_base.specs.Constants.{constant_register, first_free}
use Rattle.lower_base.specs.Drafts.{Draft, Fails, Made, Makes, then_make}
use Rattle.lower_base.specs.Layouts.{register_of, result_register}
use Rattle.paris_code.specs.Code as Machine
use Rattle.paris_code.specs.Code.{CodeState, with_register}
use Rattle.source_meaning.specs.Reductions.{int_type}
use Rattle.source_meaning.specs.State as Source
use Rattle.source_meaning.specs.State.{Early, Outcome, State, then_do}
use Rattle.source_meaning.specs.Values.{Scalar, Value}
use Rattle.code_follows.specs.Agreement.{AreBytes, end_of, mark_of}
use Rattle.code_follows.proofs.ConstantRegisters.{below_values}
use Rattle.code_follows.proofs.Growing.{Extended, extended}
use Rattle.code_follows.proofs.Settings.{OpenAmong, At, EndsIn, Reaches, Setting, Within, earlier, ends_later, layout}

-- the word that holds a number of a type: the number promoted to 32 bits
abbrev pub held : Elem → ℕ → ℕ
held elem w = converted int_type elem w

-- a register holds a number of a type
abbrev pub HasNumber : Elem → Value → ℕ → CodeState → Type 0
HasNumber elem v r s = (word : ℕ) × ((v ≡ Scalar word) × (word < 2 ^ elem.bits) × (slice_index s.registers r ≡ held elem word))

abbrev pub input_of : State → Machine.Rest
input_of st = record { bytes = st.input; mark = mark_of st.rest }

-- the registers of an instance's variables are below the constants, each variable has its own
pub record HasRegisters (g : Setting) : Type 0 where
  pub below : (x : Variable) (info : VarInfo) → variable_named g.typed g.instance x ≡ Some info → register_of (layout g) x < (layout g).end
  pub free : first_free (layout g) ≤ g.begins
  pub behind_files : length g.typed.vars.items ≤ (layout g).base
  pub room : (layout g).end ≤ g.image.slots
  pub result : result_register (layout g) < (layout g).end
  pub result_apart : (x : Variable) (info : VarInfo) → variable_named g.typed g.instance x ≡ Some info → register_of (layout g) x ≡ result_register (layout g) → ⊥
  pub spared_variable : (r : ℕ) → g.spared r → (x : Variable) (info : VarInfo) → variable_named g.typed g.instance x ≡ Some info → r ≡ register_of (layout g) x → ⊥
  pub spared_result : g.spared (result_register (layout g)) → ⊥
  pub spared_own : (r : ℕ) → g.spared r → g.begins ≤ r → r < g.ends → ⊥
  pub apart : (x y : Variable) (info other : VarInfo) → variable_named g.typed g.instance x ≡ Some info → variable_named g.typed g.instance y ≡ Some other → register_of (layout g) x ≡ register_of (layout g) y → x ≡ y

module _ (g : Setting) where
  -- a scalar variable of the instance
  abbrev pub IsScalar : Variable → VarInfo → Type 0
  IsScalar x info = (variable_named g.typed g.instance x ≡ Some info) × (info.shape ≡ None)

  -- The registers hold the scalar variables that are alive and the constants, the memory what is held of the
  -- parallel ones; turns, output and input are those of the source.
  pub record Sim (alive : Variable → Type 0) (st : State) (s : CodeState) : Type 0 where
    pub registers : length s.registers ≡ g.image.slots
    pub scalars : (x : Variable) (info : VarInfo) → alive x → IsScalar x info → slice_index s.registers (register_of (layout g) x) ≡ held info.elem (st.scalar x)
    pub small : (x : Variable) (info : VarInfo) → alive x → IsScalar x info → st.scalar x < 2 ^ info.elem.bits
    pub constants : (word r : ℕ) → constant_register (layout g) word ≡ Some r → slice_index s.registers r ≡ word
    pub turns : s.turns ≡ st.turns
    pub output : s.output ≡ st.output
    pub input : s.input ≡ input_of st
    pub returns : s.returns ≡ g.returns
    pub few : st.turns ≤ g.most
    pub bytes : AreBytes st.input
    pub memory : g.held.holds (OpenAmong g alive) s.at st s.memory

  -- a register of a value, one that is spared, or that of the result
  unfoldable pub IsKept : Draft → ℕ → Type 0
  IsKept d r = ((g.begins ≤ r) × (r < d.regs)) ⊎ (g.spared r ⊎ (r ≡ result_register (layout g)))

  -- what stood in these stays
  abbrev pub Keeps : Draft → CodeState → CodeState → Type 0
  Keeps d s t = (r : ℕ) → IsKept d r → slice_index t.registers r ≡ slice_index s.registers r

  pub kept_later : (d e : Draft) (r : ℕ) → d.regs ≤ e.regs → IsKept d r → IsKept e r
  unfolding IsKept
  kept_later d e r more (inl own) = inl (own.0, omega (arith, own.1, more))
  kept_later d e r more (inr other) = inr other

  pub spared_kept : (d : Draft) (r : ℕ) → g.spared r → IsKept d r
  unfolding IsKept
  spared_kept d r spared = inr (inl spared)

  pub result_kept : (d : Draft) → IsKept d (result_register (layout g))
  unfolding IsKept
  result_kept d = inr (inr refl)

  pub value_kept : (d : Draft) (r : ℕ) → g.begins ≤ r → r < d.regs → IsKept d r
  unfolding IsKept
  value_kept d r low high = inl (low, high)

  pub keeps_less : (d e : Draft) (s t : CodeState) → d.regs ≤ e.regs → Keeps e s t → Keeps d s t
  keeps_less d e s t more keeps r kept = keeps r (kept_later d e r more kept)

  pub keeps_on : (d e : Draft) (n : ℕ) (s t u : CodeState) → Extended d n e → Keeps d s t → Keeps e t u → Keeps d s u
  keeps_on d e n s t u x a b r kept = b r (kept_later d e r x.regs kept) ∙ a r kept

  -- the code goes on from a draft
  unfoldable pub Extends : {A : Type 0} → Draft → Made A → Type 0
  Extends d (Makes x e) = (n : ℕ) × Extended d n e
  Extends d Fails = Unit {0}

  -- how the code ends where the source does
  pub record Finishes (early : Early) (st : State) (s : CodeState) : Type 0 where
    pub t : CodeState
    pub ends : EndsIn g s (end_of early) t
    pub turns : t.turns ≡ st.turns
    pub output : t.output ≡ st.output
    pub input : t.input ≡ input_of st
    pub memory : g.held.ends st t.memory

  pub finishes_later : (early : Early) (st : State) (s t : CodeState) → Reaches g s t → Finishes early st t → Finishes early st s
  finishes_later early st s t go f = record { t = f.t; ends = ends_later g s t f.t (end_of early) go f.ends; turns = f.turns; output = f.output; input = f.input; memory = f.memory }

  -- what code that was made does, from a state: where the source gives something, R is said of it, the state
  -- behind it, what the code answers and the draft behind it
  unfoldable pub Follows : {A B : Type 0} → (A → State → B → Draft → Type 0) → CodeState → Outcome A → Made B → Type 0
  Follows R s (Source.Gives x st) (Makes y e) = Within g e → R x st y e
  Follows R s (Source.Ends early st) (Makes y e) = Within g e → Finishes early st s
  Follows R s _ Fails = Unit {0}

  -- what is said holds where the draft is an early state of the unit
  pub delayed : {A B : Type 0} (R : A → State → B → Draft → Type 0) (e : Draft) (s : CodeState) (o : Outcome A) (made : Made B) → Extends e made → (Within g e → Follows R s o made) → Follows R s o made
  unfolding Extends Follows
  delayed R e s (Source.Gives x st) (Makes y f) grows h = λ w. h (earlier g e f grows.0 grows.1 w) w
  delayed R e s (Source.Ends early st) (Makes y f) grows h = λ w. h (earlier g e f grows.0 grows.1 w) w
  delayed R e s (Source.Gives x st) Fails grows h = tt
  delayed R e s (Source.Ends early st) Fails grows h = tt

  pub finished : {A B : Type 0} (R : A → State → B → Draft → Type 0) (e : Draft) (s : CodeState) (early : Early) (st : State) (made : Made B) → Extends e made → (Within g e → Finishes early st s) → Follows R s (Source.Ends early st) made
  unfolding Extends Follows
  finished R e s early st (Makes y f) grows h = λ w. h (earlier g e f grows.0 grows.1 w)
  finished R e s early st Fails grows h = tt

  -- one part and then another
  pub then_follows : {A B C D : Type 0} (R : A → State → B → Draft → Type 0) (Q : C → State → D → Draft → Type 0) (s s0 : CodeState) (o : Outcome A) (k : A → State → Outcome C) (made : Made B) (next : B → Draft → Made D)
      → Reaches g s s0 → Follows R s0 o made → ((y : B) (e : Draft) → Extends e (next y e)) → ((x : A) (st : State) (y : B) (e : Draft) → R x st y e → Follows Q s (k x st) (next y e)) → Follows Q s (then_do o k) (then_make made next)
  unfolding Follows then_do then_make
  then_follows R Q s s0 (Source.Gives x st) k (Makes y e) next go h grows f = delayed Q e s (k x st) (next y e) (grows y e) (λ w. f x st y e (h w))
  then_follows R Q s s0 (Source.Ends early st) k (Makes y e) next go h grows f = finished Q e s early st (next y e) (grows y e) (λ w. finishes_later early st s s0 go (h w))
  then_follows R Q s s0 (Source.Gives x st) k Fails next go h grows f = tt
  then_follows R Q s s0 (Source.Ends early st) k Fails next go h grows f = tt

  pub extends_made : {A : Type 0} (d e : Draft) (n : ℕ) (made : Made A) → Extended d n e → Extends e made → Extends d made
  unfolding Extends
  extends_made d e n (Makes x f) a b = (n + b.0, extended d e f n b.0 a b.1)
  extends_made d e n Fails a b = tt

  pub extends_then : {A B : Type 0} (d : Draft) (made : Made A) (next : A → Draft → Made B) → Extends d made → ((x : A) (e : Draft) → Extends e (next x e)) → Extends d (then_make made next)
  unfolding Extends then_make
  extends_then d (Makes x e) next a b = extends_made d e a.0 (next x e) a.1 (b x e)
  extends_then d Fails next a b = tt

  -- the register that holds a value of a type, as long as the registers of values are kept and, where it is a
  -- variable's own, the source's state is the same
  pub record Holds (alive : Variable → Type 0) (elem : Elem) (quiet : Bool) (e : Draft) (st : State) (s : CodeState) (out : Out) (v : Value) : Type 0 where
    pub register : ℕ
    pub word : ℕ
    pub is : out ≡ O.Scalar register
    pub value : v ≡ Scalar word
    pub small : word < 2 ^ elem.bits
    pub lasts : (u : State) (t : CodeState) → Sim alive u t → Keeps e s t → (quiet ≡ true → u ≡ st) → slice_index t.registers register ≡ held elem word

  -- the code arrives behind a draft, where a value stands
  pub record Arrives (alive : Variable → Type 0) (elem : Elem) (quiet : Bool) (d : Draft) (s : CodeState) (v : Value) (st : State) (out : Out) (e : Draft) : Type 0 where
    pub extended : (n : ℕ) × Extended d n e
    pub t : CodeState
    pub go : Reaches g s t
    pub at : At g t (length e.code)
    pub sim : Sim alive st t
    pub keeps : Keeps d s t
    pub holds : Holds alive elem quiet e st t out v

  -- A register that is no variable's and no constant's takes a number, and the code goes on behind the place.
  apart_at : (alive : Variable → Type 0) (st : State) (s : CodeState) (r v place : ℕ) → s.at ≤ place → ((x : Variable) (info : VarInfo) → IsScalar x info → register_of (layout g) x ≡ r → ⊥)
      → ((word q : ℕ) → constant_register (layout g) word ≡ Some q → q ≡ r → ⊥) → Sim alive st s → Sim alive st (record s { at = place; registers = slice_set s.registers r v })
  apart_at alive st s r v place behind variables constants h = record {
    registers = length-set s.registers r v ∙ h.registers;
    scalars = λ x info known scalar. get_or-set_other s.registers r (register_of (layout g) x) v 0 (λ e. variables x info scalar e) ∙ h.scalars x info known scalar;
    small = h.small;
    constants = λ word q is. get_or-set_other s.registers r q v 0 (λ e. constants word q is e) ∙ h.constants word q is;
    turns = h.turns;
    output = h.output;
    input = h.input;
    bytes = h.bytes;
    returns = h.returns;
    few = h.few;
    memory = g.held.onward (OpenAmong g alive) s.at place st s.memory behind h.memory;
  }

  -- at the next instruction
  pub apart_set : (alive : Variable → Type 0) (st : State) (s : CodeState) (r v : ℕ) → ((x : Variable) (info : VarInfo) → IsScalar x info → register_of (layout g) x ≡ r → ⊥)
      → ((word q : ℕ) → constant_register (layout g) word ≡ Some q → q ≡ r → ⊥) → Sim alive st s → Sim alive st (with_register r v s)
  apart_set alive st s r v variables constants h = apart_at alive st s r v (s.at + 1) (omega arith) variables constants h

  -- a register of values is one
  pub register_at : (alive : Variable → Type 0) (st : State) (s : CodeState) (r v place : ℕ) → HasRegisters g → g.begins ≤ r → s.at ≤ place → Sim alive st s → Sim alive st (record s { at = place; registers = slice_set s.registers r v })
  unfolding first_free
  register_at alive st s r v place has low behind h =
      apart_at alive st s r v place behind (λ x info scalar e. let b = has.below x info scalar.0 in let free = has.free in omega (arith, e, b, free, low))
      (λ word q is e. let b = below_values (layout g) word q is in let free = has.free in omega (arith, e, b, free, low)) h

  pub register_set : (alive : Variable → Type 0) (st : State) (s : CodeState) (r v : ℕ) → HasRegisters g → g.begins ≤ r → Sim alive st s → Sim alive st (with_register r v s)
  register_set alive st s r v has low h = register_at alive st s r v (s.at + 1) has low (omega arith) h

  pub register_kept : (d : Draft) (s : CodeState) (r v : ℕ) → HasRegisters g → g.begins ≤ d.regs → d.regs ≤ r → r < g.ends → Keeps d s (with_register r v s)
  unfolding IsKept first_free
  register_kept d s r v has free low high q (inl own) = get_or-set_other s.registers r q v 0 (λ e. let below = own.1 in omega (arith, e, low, below))
  register_kept d s r v has free low high q (inr (inr is)) = get_or-set_other s.registers r q v 0 (λ e. let below = has.result in let begins = has.free in omega (arith, e, is, below, begins, free, low))
  register_kept d s r v has free low high q (inr (inl spared)) = get_or-set_other s.registers r q v 0 (λ e. has.spared_own r (subst (λ (n : ℕ). g.spared n) e spared) (omega (arith, free, low)) high)

  -- the register of a variable is none of those that are kept
  pub variable_kept : (d : Draft) (s : CodeState) (x : Variable) (info : VarInfo) (v : ℕ) → HasRegisters g → variable_named g.typed g.instance x ≡ Some info → Keeps d s (with_register (register_of (layout g) x) v s)
  unfolding IsKept first_free
  variable_kept d s x info v has named q (inl own) = get_or-set_other s.registers (register_of (layout g) x) q v 0 (λ e. let below = has.below x info named in let free = has.free in let low = own.0 in omega (arith, e, below, free, low))
  variable_kept d s x info v has named q (inr (inr is)) = get_or-set_other s.registers (register_of (layout g) x) q v 0 (λ e. has.result_apart x info named (sym e ∙ is))
  variable_kept d s x info v has named q (inr (inl spared)) = get_or-set_other s.registers (register_of (layout g) x) q v 0 (λ e. has.spared_variable q spared x info named e)

  pub register_is : (s : CodeState) (r v : ℕ) → r < length s.registers → slice_index (with_register r v s).registers r ≡ v
  register_is s r v h = get_or-set_same s.registers r v 0 h

  -- what is known of the source's part
  pub knowing : {A B : Type 0} (R : A → State → B → Draft → Type 0) (s : CodeState) (o : Outcome A) (made : Made B) → Follows R s o made → Follows (λ x st y e. (o ≡ Source.Gives x st) × R x st y e) s o made
  unfolding Follows
  knowing R s (Source.Gives x st) (Makes y e) h = λ w. (refl, h w)
  knowing R s (Source.Ends early st) (Makes y e) h = h
  knowing R s (Source.Gives x st) Fails h = tt
  knowing R s (Source.Ends early st) Fails h = tt

  pub keeps_all : (d : Draft) (s : CodeState) → Keeps d s s
  keeps_all d s r kept = refl

  -- a register of values that was taken for a number holds it as a value
  pub holds_fresh : (alive : Variable → Type 0) (elem : Elem) (quiet : Bool) (e : Draft) (st : State) (t : CodeState) (r w : ℕ) → g.begins ≤ r → r < e.regs → w < 2 ^ elem.bits → slice_index t.registers r ≡ held elem w → Holds alive elem quiet e st t (O.Scalar r) (Scalar w)
  unfolding IsKept
  holds_fresh alive elem quiet e st t r w low below small is = record { register = r; word = w; is = refl; value = refl; small = small; lasts = λ u later held_so stays same. stays r (inl (low, below)) ∙ is }

  -- so it has arrived there
  pub arrives_fresh : (alive : Variable → Type 0) (elem : Elem) (quiet : Bool) (d e : Draft) (s t : CodeState) (st : State) (r w : ℕ) → ((n : ℕ) × Extended d n e) → Reaches g s t → At g t (length e.code) → Sim alive st t → Keeps d s t
      → g.begins ≤ r → r < e.regs → w < 2 ^ elem.bits → slice_index t.registers r ≡ held elem w → Arrives alive elem quiet d s (Scalar w) st (O.Scalar r) e
  arrives_fresh alive elem quiet d e s t st r w grown go at sim keeps low below small is = record {
    extended = grown;
    t = t;
    go = go;
    at = at;
    sim = sim;
    keeps = keeps;
    holds = holds_fresh alive elem quiet e st t r w low below small is;
  }

  -- a part, and what is made of its value
  pub then_gives : {A B C : Type 0} (R : A → State → B → Draft → Type 0) (Q : C → State → B → Draft → Type 0) (s : CodeState) (o : Outcome A) (f : A → C) (made : Made B) → Follows R s o made → ((x : A) (st : State) (y : B) (e : Draft) → R x st y e → Q (f x) st y e)
      → Follows Q s (then_do o (λ x after. Source.Gives (f x) after)) made
  unfolding Follows then_do
  then_gives R Q s (Source.Gives x st) f (Makes y e) h next = λ w. next x st y e (h w)
  then_gives R Q s (Source.Ends early st) f (Makes y e) h next = h
  then_gives R Q s (Source.Gives x st) f Fails h next = tt
  then_gives R Q s (Source.Ends early st) f Fails h next = tt

  -- what is said follows from what else is said
  pub follows_other : {A B : Type 0} (R Q : A → State → B → Draft → Type 0) (s : CodeState) (o : Outcome A) (made : Made B) → Follows R s o made → ((x : A) (st : State) (y : B) (e : Draft) → R x st y e → Q x st y e) → Follows Q s o made
  unfolding Follows
  follows_other R Q s (Source.Gives x st) (Makes y e) h next = λ w. next x st y e (h w)
  follows_other R Q s (Source.Ends early st) (Makes y e) h next = h
  follows_other R Q s (Source.Gives x st) Fails h next = tt
  follows_other R Q s (Source.Ends early st) Fails h next = tt

  -- the same of a part that does the same by the same code
  pub follows_same : {A B : Type 0} (R : A → State → B → Draft → Type 0) (s : CodeState) {o other : Outcome A} {made alike : Made B} → o ≡ other → made ≡ alike → Follows R s other alike → Follows R s o made
  follows_same R s {other = other} {made = made} is code h = subst (λ (o : Outcome _). Follows R s o made) (sym is) (subst (λ (m : Made _). Follows R s other m) (sym code) h)

  -- a part whose code is made, and then another
  pub then_on : {A B C D : Type 0} (R : A → State → B → Draft → Type 0) (Q : C → State → D → Draft → Type 0) (s : CodeState) (o : Outcome A) (k : A → State → Outcome C) (y : B) (e : Draft) (made : Made D) → Follows R s o (Makes y e) → Extends e made
      → ((x : A) (st : State) → R x st y e → Follows Q s (k x st) made) → Follows Q s (then_do o k) made
  unfolding Follows then_do
  then_on R Q s (Source.Gives x st) k y e made follows grows next = delayed Q e s (k x st) made grows (λ w. next x st (follows w))
  then_on R Q s (Source.Ends early st) k y e made follows grows next = finished Q e s early st made grows follows

  -- the code arrives behind a draft, whatever it answers
  pub record Ran (alive : Variable → Type 0) (d : Draft) (s : CodeState) (st : State) (e : Draft) : Type 0 where
    pub grown : (n : ℕ) × Extended d n e
    pub t : CodeState
    pub go : Reaches g s t
    pub at : At g t (length e.code)
    pub sim : Sim alive st t
    pub keeps : Keeps d s t

  pub nothing_said : {A B : Type 0} (Q : A → State → B → Draft → Type 0) (s : CodeState) (o : Outcome A) → Follows Q s o Fails
  unfolding Follows
  nothing_said Q s (Source.Gives x st) = tt
  nothing_said Q s (Source.Ends early st) = tt

  -- where the code is made and within the unit
  pub at_once : {A B : Type 0} (Q : A → State → B → Draft → Type 0) (s : CodeState) (o : Outcome A) (y : B) (e : Draft) → (Within g e → Follows Q s o (Makes y e)) → Follows Q s o (Makes y e)
  unfolding Follows
  at_once Q s (Source.Gives x st) y e h = λ w. h w w
  at_once Q s (Source.Ends early st) y e h = λ w. h w w

  -- a part, and what the source does behind it without code of its own
  pub then_silent : {A B C : Type 0} (R : A → State → B → Draft → Type 0) (Q : C → State → B → Draft → Type 0) (s : CodeState) (o : Outcome A) (k : A → State → Outcome C) (made : Made B) → Follows R s o made
      → ((x : A) (st : State) (y : B) (e : Draft) → R x st y e → Follows Q s (k x st) (Makes y e)) → Follows Q s (then_do o k) made
  unfolding Follows then_do
  then_silent R Q s (Source.Gives x st) k (Makes y e) follows next = at_once Q s (k x st) y e (λ w. next x st y e (follows w))
  then_silent R Q s (Source.Ends early st) k (Makes y e) follows next = follows
  then_silent R Q s (Source.Gives x st) k Fails follows next = nothing_said Q s (k x st)
  then_silent R Q s (Source.Ends early st) k Fails follows next = tt

  -- what is said from a state that the code reaches
  pub follows_back : {A B : Type 0} (R : A → State → B → Draft → Type 0) (s t : CodeState) (o : Outcome A) (made : Made B) → Reaches g s t → Follows R t o made → Follows R s o made
  unfolding Follows
  follows_back R s t (Source.Gives x st) (Makes y e) go h = h
  follows_back R s t (Source.Ends early st) (Makes y e) go h = λ w. finishes_later early st s t go (h w)
  follows_back R s t (Source.Gives x st) Fails go h = tt
  follows_back R s t (Source.Ends early st) Fails go h = tt

  -- with more code behind it
  pub with_more : {A B C : Type 0} (R : A → State → B → Draft → Type 0) (Q : A → State → C → Draft → Type 0) (s : CodeState) (o : Outcome A) (y : B) (z : C) (e f : Draft) (n : ℕ) → Extended e n f → Follows R s o (Makes y e)
      → ((x : A) (st : State) → R x st y e → Within g f → Q x st z f) → Follows Q s o (Makes z f)
  unfolding Follows
  with_more R Q s (Source.Gives x st) y z e f n longer h next = λ w. next x st (h (earlier g e f n longer w)) w
  with_more R Q s (Source.Ends early st) y z e f n longer h next = λ w. h (earlier g e f n longer w)
