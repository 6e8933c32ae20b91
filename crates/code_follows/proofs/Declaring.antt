-- The variables of blocks.
use Rattle.std.proofs.Common.{◌≡◌, ◌≢◌, ◌∙◌, ℕ, suc, ◌+◌, ◌<◌, ◌≤◌, ◌^◌, ◌&&◌, ◌==◌, if◌then◌else◌, nat_lt, Bool, true, false, List, [], ◌∷◌, ◌++◌, map, length, Option, Some, None, refl, sym, ap, subst, arith, slice_get, ◌⊎◌, inl, inr, eqb-true}
use Rattle.std.specs.Prelude.{nat_le, ◌||◌}
use Rattle.std.specs.List.{All}
use Rattle.std.proofs.lemmas.Bool.Decides.{nat_tests}
use Rattle.cstar_tree.specs.declared.typed.LocalVar.{LocalVar}
use Rattle.cstar_tree.specs.declared.typed.TExpr.{TExpr}
use Rattle.cstar_tree.specs.declared.typed.VarInfo.{VarInfo}
use Rattle.cstar_tree.specs.declared.typed.Variable.{Variable}
use Rattle.cstar_tree.specs.declared.typed.Variable.TheVariants as V
use Rattle.cstar_tree.specs.Variables.{variables_of}
use Rattle.code_lengths.specs.Naming.{IsDeclared, variable_named}
use Rattle.code_lengths.specs.NamingStatements.{StandFrom}
use Rattle.code_lengths.specs.Ready.{HasDeclared, NumbersVariables}
use Rattle.code_lengths.proofs.Declaring.{at_length, first_part, info_of, second_part}
use Rattle.lower_base.specs.Drafts.{Draft, Made, Makes, step as step_of, then_make, with_instr}
use Rattle.lower_base.specs.Layouts.{entries_of, register_of}
use Rattle.lower_expr.specs.Steps.{has_word}
use Rattle.lower_stmt.specs.Variables.{all_cleared, begins_constant, cleared, cleared_fields, with_home}
use Rattle.paris_code.specs.declared.instr.Instr.TheVariants as I
use Rattle.paris_code.specs.Code as Machine
use Rattle.paris_code.specs.Code.{CodeState, begun, with_register}
use Rattle.source_meaning.specs.State.{State, is_among, is_same, with_scalar, zeroed}
use Rattle.code_follows.specs.Fragment.{IsBlockLocal, IsScalarLocal, OrAmong}
use Rattle.code_follows.specs.Agreement.{AreBytes}
use Rattle.code_follows.proofs.Besides.{ClearsOne, LocalsClear}
use Rattle.code_follows.proofs.Declared.{clears_declare}
use Rattle.code_follows.proofs.Executing.{ran_from}
use Rattle.code_follows.proofs.Following.{HasRegisters, IsScalar, Keeps, Ran, Sim, held, input_of, keeps_all, variable_kept}
use Rattle.code_follows.proofs.Growing.{Extended, as_it_was, extended}
use Rattle.code_follows.proofs.Settings.{HasHome, IsNewIn, IsOpenIn, IsParallelLocal, OpenAmong, At, Begun, begun_fewer, one_home, open_fewer, Setting, Within, and_one, at_next, begins_here, begun_later, earlier, layout, one, regs_more, stay, SameFields}
use Rattle.code_follows.proofs.Standing.{some_same}
use Rattle.code_follows.proofs.Stores.{below_free, same_is, sim_begun, same_itself}
use Rattle.std.proofs.lemmas.Nat.{pow_pos}
use Rattle.source_meaning.specs.Reductions.{int_type}
use Rattle.code_follows.proofs.Lists.{all_first, all_rest}
use Rattle.code_follows.proofs.Numbers.{zero_converted}

-- among one more: the first, or among the others
among_more : (n len k : ℕ) → (nat_le n k && nat_lt k (n + suc len)) ≡ ((nat_le (n + 1) k && nat_lt k (n + 1 + len)) || (n == k))
among_more n len k = grind (arith, nat_tests)

either_zero : (b c : Bool) (z : ℕ) → (if b || c then 0 else z) ≡ (if b then 0 else if c then 0 else z)
either_zero true true z = refl
either_zero true false z = refl
either_zero false true z = refl
either_zero false false z = refl

-- one variable becomes 0, and then the others
zeroed_more : (n len : ℕ) (st : State) (y : Variable) → (zeroed n (suc len) st).scalar y ≡ (zeroed (n + 1) len (with_scalar (V.Local n) 0 st)).scalar y
unfolding zeroed with_scalar is_among is_same
zeroed_more n len st (V.File k) = refl
zeroed_more n len st (V.Param k) = refl
zeroed_more n len st (V.Local k) = ap (λ (b : Bool). if b then 0 else st.scalar (V.Local k)) (among_more n len k) ∙ either_zero (nat_le (n + 1) k && nat_lt k (n + 1 + len)) (n == k) (st.scalar (V.Local k))

-- the same of one that is cleared as a block of one variable
alone : (n k : ℕ) → (nat_le n k && nat_lt k (n + 1)) ≡ (n == k)
alone n k = grind (arith, nat_tests)

-- one that is none of more, and one that is not the first
no_more : (n k : ℕ) → (nat_le n k && nat_lt k (n + 0)) ≡ false
no_more n k = grind (arith, nat_tests)

pub zeroed_others : (n len : ℕ) (st st1 : State) → ((k e p : ℕ) → st1.parallel (V.Local k) e p ≡ st.parallel (V.Local k) e p) → (k : ℕ) → (k ≡ n → ⊥) → (e p : ℕ) → (zeroed n (suc len) st).parallel (V.Local k) e p ≡ (zeroed (n + 1) len st1).parallel (V.Local k) e p
unfolding zeroed is_among
zeroed_others n len st st1 same k differ e p =
    ap (λ (b : Bool). if b then 0 else st.parallel (V.Local k) e p) (among_more n len k) ∙ either_zero (nat_le (n + 1) k && nat_lt k (n + 1 + len)) (n == k) (st.parallel (V.Local k) e p)
    ∙ ap (λ (b : Bool). if nat_le (n + 1) k && nat_lt k (n + 1 + len) then 0 else if b then 0 else st.parallel (V.Local k) e p) other
    ∙ ap (λ (w : ℕ). if nat_le (n + 1) k && nat_lt k (n + 1 + len) then 0 else w) (sym (same k e p))
  where
    other : (n == k) ≡ false
    other = grind (arith, nat_tests, differ)

pub zeroed_all : (n len : ℕ) (st : State) (k e p : ℕ) → (zeroed n (suc len) st).parallel (V.Local k) e p ≡ (zeroed (n + 1) len (zeroed n 1 st)).parallel (V.Local k) e p
unfolding zeroed is_among
zeroed_all n len st k e p =
    ap (λ (b : Bool). if b then 0 else st.parallel (V.Local k) e p) (among_more n len k) ∙ either_zero (nat_le (n + 1) k && nat_lt k (n + 1 + len)) (n == k) (st.parallel (V.Local k) e p)
    ∙ ap (λ (b : Bool). if nat_le (n + 1) k && nat_lt k (n + 1 + len) then 0 else if b then 0 else st.parallel (V.Local k) e p) (sym (alone n k))

pub zeroed_both : (n len : ℕ) (st : State) (y : Variable) → (zeroed n (suc len) st).scalar y ≡ (zeroed (n + 1) len (zeroed n 1 st)).scalar y
unfolding zeroed is_among
zeroed_both n len st (V.File k) = refl
zeroed_both n len st (V.Param k) = refl
zeroed_both n len st (V.Local k) =
    ap (λ (b : Bool). if b then 0 else st.scalar (V.Local k)) (among_more n len k) ∙ either_zero (nat_le (n + 1) k && nat_lt k (n + 1 + len)) (n == k) (st.scalar (V.Local k))
    ∙ ap (λ (b : Bool). if nat_le (n + 1) k && nat_lt k (n + 1 + len) then 0 else if b then 0 else st.scalar (V.Local k)) (sym (alone n k))

-- one without an initialiser begins as no constant
pub never_begins : (local : LocalVar) → local.initial ≡ None → begins_constant local ≡ false
unfolding begins_constant
never_begins local is = ap (λ (o : Option TExpr). elim o as (λ _. Bool) [ None ↦ false | Some e ↦ has_word true e ]) is

-- a scalar variable that begins as a constant takes it only when its turn comes
abbrev pub Waits : LocalVar → Type 0
Waits local = (begins_constant local ≡ true) × IsScalarLocal local

-- the variables that hold their values where so far into a block the initialiser of the first of these is
-- next: all but those that begin as constants, whose turn is still to come
unfoldable pub Started : List LocalVar → ℕ → Variable → Type 0
Started [] n x = Unit {0}
Started (local ∷ locals) n x = (Waits local → x ≡ V.Local n → ⊥) × Started locals (n + 1) x

pub local_same : (j k : ℕ) → V.Local j ≡ V.Local k → j ≡ k
local_same j k e = ap (λ (x : Variable). elim x as (λ _. ℕ) [ V.File m ↦ 0 | V.Param m ↦ 0 | V.Local m ↦ m ]) e

-- what is declared before a block's variables is alive among them
pub started_before : (locals : List LocalVar) (n m : ℕ) (x : Variable) → m ≤ n → IsDeclared m x → Started locals n x
unfolding Started IsDeclared
started_before [] n m x less h = tt
started_before (local ∷ locals) n m (V.File k) less h = ((λ b e. cc), started_before locals (n + 1) m (V.File k) (omega (arith, less)) h)
started_before (local ∷ locals) n m (V.Param k) less h = ((λ b e. cc), started_before locals (n + 1) m (V.Param k) (omega (arith, less)) h)
started_before (local ∷ locals) n m (V.Local k) less h = ((λ b e. let same = local_same k n e in omega (arith, same, h, less)), started_before locals (n + 1) m (V.Local k) (omega (arith, less)) h)

module _ (g : Setting) where
  -- what is said of the source's state is said of one with the same scalar variables
  pub sim_same : (alive : Variable → Type 0) (u v : State) (s : CodeState) → ((x : Variable) → v.scalar x ≡ u.scalar x) → SameFields (OpenAmong g alive) v u → v.winner ≡ u.winner → v.turns ≡ u.turns → v.output ≡ u.output → input_of v ≡ input_of u → Sim g alive u s → Sim g alive v s
  sim_same alive u v s same fields winner turns output input h = record {
    registers = h.registers;
    scalars = λ x info living scalar. h.scalars x info living scalar ∙ ap (λ (w : ℕ). held info.elem w) (sym (same x));
    small = λ x info living scalar. subst (λ (w : ℕ). w < 2 ^ info.elem.bits) (sym (same x)) (h.small x info living scalar);
    constants = h.constants;
    turns = h.turns ∙ sym turns;
    output = h.output ∙ sym output;
    input = h.input ∙ sym input;
    returns = h.returns;
    few = subst (λ (k : ℕ). k ≤ g.most) (sym turns) h.few;
    bytes = subst (λ (i : Machine.Rest). AreBytes i.bytes) (sym input) h.bytes;
    memory = g.held.still (OpenAmong g alive) s.at u v s.memory fields winner h.memory;
  }

  -- what holds of more variables holds of fewer
  pub sim_fewer : (more fewer : Variable → Type 0) (st : State) (s : CodeState) → ((x : Variable) (info : VarInfo) → variable_named g.typed g.instance x ≡ Some info → fewer x → more x) → Sim g more st s → Sim g fewer st s
  sim_fewer more fewer st s among h = record {
    registers = h.registers;
    scalars = λ x info living scalar. h.scalars x info (among x info scalar.0 living) scalar;
    small = λ x info living scalar. h.small x info (among x info scalar.0 living) scalar;
    constants = h.constants;
    turns = h.turns;
    output = h.output;
    input = h.input;
    bytes = h.bytes;
    returns = h.returns;
    few = h.few;
    memory = g.held.fewer (OpenAmong g more) (OpenAmong g fewer) s.at st s.memory (λ k is_open. (among (V.Local k) is_open.1.0 is_open.1.1.1.0 is_open.0, is_open.1)) h.memory;
  }

  pub ran_fewer : (more fewer : Variable → Type 0) (d : Draft) (s : CodeState) (u v : State) (e : Draft) → ((x : Variable) → fewer x → more x) → ((x : Variable) → v.scalar x ≡ u.scalar x) → SameFields (OpenAmong g fewer) v u → v.winner ≡ u.winner → v.turns ≡ u.turns → v.output ≡ u.output → input_of v ≡ input_of u
      → Ran g more d s u e → Ran g fewer d s v e
  ran_fewer more fewer d s u v e among same fields winner turns output input r = record { grown = r.grown; t = r.t; go = r.go; at = r.at; keeps = r.keeps; sim = sim_same fewer u v r.t same fields winner turns output input (sim_fewer more fewer u r.t (λ x info named. among x) r.sim) }

  -- the first of variables that stand from a number on, and the others
  pub first_is_named : (n : ℕ) (info : VarInfo) (rest : List VarInfo) → StandFrom (variables_of g.instance.body) n (info ∷ rest) → variable_named g.typed g.instance (V.Local n) ≡ Some info
  unfolding variable_named
  first_is_named n info rest stand =
      ap (λ (xs : List VarInfo). slice_get xs n) stand.all_are ∙ ap (λ (k : ℕ). slice_get (stand.before ++ (info ∷ rest ++ stand.behind)) k) (sym stand.number_is) ∙ at_length stand.before info (rest ++ stand.behind)

  pub others_stand : (n : ℕ) (info : VarInfo) (rest : List VarInfo) → StandFrom (variables_of g.instance.body) n (info ∷ rest) → StandFrom (variables_of g.instance.body) (n + 1) rest
  others_stand n info rest stand = second_part (info ∷ []) rest stand

  -- the parallel variables of the file stay
  pub zeroed_files : (n m : ℕ) (st : State) (k e p : ℕ) → (zeroed n m st).parallel (V.File k) e p ≡ st.parallel (V.File k) e p
  unfolding zeroed is_among
  zeroed_files n m st k e p = refl

  pub same_zeroed : (n m i j x w : ℕ) (st : State) (k e p : ℕ) → (zeroed n m st).parallel (V.File k) e p ≡ (zeroed i j (with_scalar (V.Local x) w st)).parallel (V.File k) e p
  unfolding zeroed is_among with_scalar
  same_zeroed n m i j x w st k e p = refl

  pub zeroed_twice : (n m i j : ℕ) (st : State) (k e p : ℕ) → (zeroed n m st).parallel (V.File k) e p ≡ (zeroed i j (zeroed n 1 st)).parallel (V.File k) e p
  unfolding zeroed is_among
  zeroed_twice n m i j st k e p = refl

  pub same_zeroed_at : (n m i j : ℕ) (st : State) (k e p : ℕ) → (zeroed n m st).parallel (V.File k) e p ≡ (zeroed i j st).parallel (V.File k) e p
  unfolding zeroed is_among
  same_zeroed_at n m i j st k e p = refl

  pub nothing_zeroed : (n : ℕ) (st : State) (y : Variable) → (zeroed n 0 st).scalar y ≡ st.scalar y
  unfolding zeroed is_among
  nothing_zeroed n st (V.File k) = refl
  nothing_zeroed n st (V.Param k) = refl
  nothing_zeroed n st (V.Local k) = ap (λ (b : Bool). if b then 0 else st.scalar (V.Local k)) (no_more n k)

  pub none_zeroed : (n : ℕ) (st : State) (k e p : ℕ) → (zeroed n 0 st).parallel (V.Local k) e p ≡ st.parallel (V.Local k) e p
  unfolding zeroed is_among
  none_zeroed n st k e p = ap (λ (b : Bool). if b then 0 else st.parallel (V.Local k) e p) (no_more n k)

  -- a parallel variable of a block is no scalar one
  pub other_one : (n : ℕ) (info : VarInfo) → IsScalar g (V.Local n) info → (alive : Variable → Type 0) (k : ℕ) → OpenAmong g alive k → k ≡ n → ⊥
  other_one n info scalar alive k is_open same =
      let is : info ≡ is_open.1.0 = some_same info is_open.1.0 (sym scalar.0 ∙ ap (λ (j : ℕ). variable_named g.typed g.instance (V.Local j)) (sym same) ∙ is_open.1.1.1.0) in
      let wrong : None ≡ Some is_open.1.1.0 = sym scalar.1 ∙ ap (λ (i : VarInfo). i.shape) is ∙ is_open.1.1.1.1 in cc

-- what is alive where a block has cleared its variables
abbrev pub Alive : (Variable → Type 0) → List LocalVar → ℕ → Variable → Type 0
Alive before locals n x = (before x ⊎ (is_among n (length locals) x ≡ true)) × Started locals n x

-- the first is among one more, or another one is
pub first_or_later : (before : Variable → Type 0) (n len : ℕ) (x : Variable) → before x ⊎ (is_among n (suc len) x ≡ true) → (before x ⊎ (is_among (n + 1) len x ≡ true)) ⊎ (x ≡ V.Local n)
unfolding is_among
first_or_later before n len x (inl h) = inl (inl h)
first_or_later before n len (V.File k) (inr h) = cc
first_or_later before n len (V.Param k) (inr h) = cc
first_or_later before n len (V.Local k) (inr h) = by (nat_le (n + 1) k && nat_lt k (n + 1 + len)) (n == k) refl refl (sym (among_more n len k) ∙ h)
  where
    by : (b c : Bool) → (nat_le (n + 1) k && nat_lt k (n + 1 + len)) ≡ b → (n == k) ≡ c → ((nat_le (n + 1) k && nat_lt k (n + 1 + len)) || (n == k)) ≡ true → (before (V.Local k) ⊎ ((nat_le (n + 1) k && nat_lt k (n + 1 + len)) ≡ true)) ⊎ (V.Local k ≡ V.Local n)
    by true c is also h = inl (inr is)
    by false true is also h = inr (ap V.Local (sym (eqb-true n k also)))
    by false false is also h = cc

-- the first is alive, or is among the others
pub is_now : (before : Variable → Type 0) (n len : ℕ) (x : Variable) → (before x ⊎ (is_among (n + 1) len x ≡ true)) ⊎ (x ≡ V.Local n) → (before x ⊎ (x ≡ V.Local n)) ⊎ (is_among (n + 1) len x ≡ true)
is_now before n len x (inl (inl h)) = inl (inl h)
is_now before n len x (inl (inr h)) = inr h
is_now before n len x (inr e) = inl (inr e)

-- variables of a block are declared behind it, as what was declared before
pub declared_later : (n many : ℕ) (x : Variable) → IsDeclared n x → IsDeclared (n + many) x
unfolding IsDeclared
declared_later n many (V.File k) h = tt
declared_later n many (V.Param k) h = tt
declared_later n many (V.Local k) h = omega (arith, h)

declared_among : (n many : ℕ) (x : Variable) → is_among n many x ≡ true → IsDeclared (n + many) x
unfolding IsDeclared is_among
declared_among n many (V.File k) h = tt
declared_among n many (V.Param k) h = tt
declared_among n many (V.Local k) h = grind (arith, nat_tests, h)

-- what is alive is declared before
abbrev pub AreBefore : (Variable → Type 0) → ℕ → Type 0
AreBefore alive n = (x : Variable) → alive x → IsDeclared n x

pub among_before : (alive : Variable → Type 0) (n many : ℕ) → AreBefore alive n → (x : Variable) → OrAmong alive n many x → IsDeclared (n + many) x
among_before alive n many before x (inl h) = declared_later n many x (before x h)
among_before alive n many before x (inr h) = declared_among n many x h

-- the first of a block's variables, and the others, are among all
pub itself_among : (n len : ℕ) → is_among n (suc len) (V.Local n) ≡ true
unfolding is_among
itself_among n len = grind (arith, nat_tests)

pub one_among : (n len : ℕ) (x : Variable) → is_among n 1 x ≡ true → is_among n (suc len) x ≡ true
unfolding is_among
one_among n len (V.File k) h = cc
one_among n len (V.Param k) h = cc
one_among n len (V.Local k) h = grind (arith, nat_tests, h)

pub later_among : (n len : ℕ) (x : Variable) → is_among (n + 1) len x ≡ true → is_among n (suc len) x ≡ true
unfolding is_among
later_among n len (V.File k) h = cc
later_among n len (V.Param k) h = cc
later_among n len (V.Local k) h = grind (arith, nat_tests, h)

pub none_among : (n : ℕ) (x : Variable) → is_among n 0 x ≡ true → ⊥
unfolding is_among
none_among n (V.File k) h = cc
none_among n (V.Param k) h = cc
none_among n (V.Local k) h = let none : (nat_le n k && nat_lt k (n + 0)) ≡ false = grind (arith, nat_tests) in cc

module _ (g : Setting) where
  -- one variable more is alive
  begun_more : (before : Variable → Type 0) (n : ℕ) (d e : Draft) (m : ℕ) → Extended d m e → (OpenAmong g (λ x. x ≡ V.Local n) n → IsNewIn g n d e) → Begun g before d → Begun g (λ x. before x ⊎ (x ≡ V.Local n)) e
  begun_more before n d e m x new b = record { regs = later.regs; code = later.code; fields = later.fields; opened = (λ k is_open. by k is_open.0 is_open.1, λ j k one other first second differ. apart j k one other first.0 second.0 first.1 second.1 differ) }
    where
      later : Begun g before e
      later = begun_later g before d e m x b

      new_one : (k : ℕ) → V.Local k ≡ V.Local n → IsParallelLocal g k → IsNewIn g k d e
      new_one k same is = subst (λ (j : ℕ). IsNewIn g j d e) (sym (local_same k n same)) (new (refl, subst (λ (j : ℕ). IsParallelLocal g j) (local_same k n same) is))

      by : (k : ℕ) → before (V.Local k) ⊎ (V.Local k ≡ V.Local n) → IsParallelLocal g k → IsOpenIn g k e
      by k (inl h) is = later.opened.0 k (h, is)
      by k (inr same) is = (new_one k same is).0

      -- the entry of one that was alive is among those that there were, and the new one's is not
      old_and_new : (j k one other : ℕ) → OpenAmong g before j → IsNewIn g k d e → HasHome g j one → HasHome g k other → one ≢ other
      old_and_new j k one other living is_new first second same =
          let (entry, (home, (named, inside))) = b.opened.0 j living in
          let high = is_new.1 other second in
          let equal = one_home g j entry one home first in
          omega (arith, inside, high, same, equal)

      apart : (j k one other : ℕ) → before (V.Local j) ⊎ (V.Local j ≡ V.Local n) → before (V.Local k) ⊎ (V.Local k ≡ V.Local n) → IsParallelLocal g j → IsParallelLocal g k → j ≢ k → HasHome g j one → HasHome g k other → one ≢ other
      apart j k one other (inl h) (inl i) is also differ first second = b.opened.1 j k one other (h, is) (i, also) differ first second
      apart j k one other (inl h) (inr same) is also differ first second = old_and_new j k one other (h, is) (new_one k same also) first second
      apart j k one other (inr same) (inl i) is also differ first second = λ equal. old_and_new k j other one (i, also) (new_one j same is) second first (sym equal)
      apart j k one other (inr same) (inr likewise) is also differ first second = absurd (differ (local_same j n same ∙ sym (local_same k n likewise)))

  -- a scalar one has no entry, and a parallel one has its own
  pub begun_scalar : (before : Variable → Type 0) (n : ℕ) (info : VarInfo) → IsScalar g (V.Local n) info → (d e : Draft) (m : ℕ) → Extended d m e → Begun g before d → Begun g (λ x. before x ⊎ (x ≡ V.Local n)) e
  begun_scalar before n info scalar d e m x b = begun_more before n d e m x (λ is_open. absurd (other_one g n info scalar (λ y. y ≡ V.Local n) n is_open refl)) b

  pub begun_parallel : (before : Variable → Type 0) (n : ℕ) (d e : Draft) (m : ℕ) → Extended d m e → IsNewIn g n d e → Begun g before d → Begun g (λ x. before x ⊎ (x ≡ V.Local n)) e
  begun_parallel before n d e m x opened b = begun_more before n d e m x (λ is_open. opened) b

  -- where the first of a block's variables is a scalar one, the others are open
  pub begun_others : (before now : Variable → Type 0) (n len : ℕ) (info : VarInfo) → IsScalar g (V.Local n) info → (e : Draft) → ((x : Variable) → (x ≡ V.Local n → ⊥) → (before x ⊎ (is_among (n + 1) len x ≡ true)) ⊎ (x ≡ V.Local n) → now x) → Begun g now e → Begun g (λ x. OrAmong before n (suc len) x) e
  begun_others before now n len info scalar e among b = record {
    regs = b.regs;
    code = b.code;
    fields = b.fields;
    opened = open_fewer g (OpenAmong g now) (OpenAmong g (λ x. OrAmong before n (suc len) x)) (length e.code) (length e.fields)
        (λ k is_open. (among (V.Local k) (λ same. other_one g n info scalar (λ x. OrAmong before n (suc len) x) k is_open (local_same k n same)) (first_or_later before n len (V.Local k) is_open.0), is_open.1)) b.opened;
  }

module _ (g : Setting) (has : HasRegisters g) where
  -- The variables of a block become 0, but for the registers of those that begin as constants. Those that are
  -- cleared are alive from then on, beside those that were.
  pub record Clears (before : Variable → Type 0) (locals : List LocalVar) (n : ℕ) (d : Draft) : Type 0 where
    pub e : Draft
    pub is : all_cleared (layout g) false locals n d ≡ Makes tt e
    pub count : ℕ
    pub grown : Extended d count e
    pub opened : Within g e → Begun g before d → Begun g (λ x. OrAmong before n (length locals) x) e
    pub runs : (s : CodeState) (st : State) → Begun g before d → At g s (length d.code) → Sim g before st s → Within g e
        → Ran g (λ x. Alive before locals n x) d s (zeroed n (length locals) st) e

  cleared_so : (local : LocalVar) → local.info.shape ≡ None → (n : ℕ) (d : Draft) (b : Bool) → begins_constant local ≡ b → (next : Draft → Made (Unit {0}))
      → then_make (cleared (layout g) false local n d) (λ u after. next after) ≡ next (if b then d else with_instr (I.FrontConst (register_of (layout g) (V.Local n)) 0) d)
  unfolding cleared then_make
  cleared_so local plain n d b is next =
      ap (λ (o : Option ℕ). then_make (elim o as (λ _. Made (Unit {0})) [
        | None ↦ if false || begins_constant local then Makes (tt {0}) d else Makes (tt {0}) (with_instr (I.FrontConst (register_of (layout g) (V.Local n)) 0) d)
        | Some s ↦ cleared_fields (entries_of local.info) s local.info.elem.bits (with_home d)
      ]) (λ u after. next after)) plain
      ∙ ap (λ (c : Bool). then_make (if false || c then Makes (tt {0}) d else Makes (tt {0}) (with_instr (I.FrontConst (register_of (layout g) (V.Local n)) 0) d)) (λ u after. next after)) is ∙ by b
    where
      by : (b : Bool) → then_make (if false || b then Makes (tt {0}) d else Makes (tt {0}) (with_instr (I.FrontConst (register_of (layout g) (V.Local n)) 0) d)) (λ u after. next after) ≡ next (if b then d else with_instr (I.FrontConst (register_of (layout g) (V.Local n)) 0) d)
      by true = refl
      by false = refl

  -- one that begins as a constant waits
  waits : (before : Variable → Type 0) (local : LocalVar) (locals : List LocalVar) (n : ℕ) (d : Draft) → IsScalar g (V.Local n) local.info → begins_constant local ≡ true → Clears (λ x. before x × (x ≡ V.Local n → ⊥)) locals (n + 1) d → Clears before (local ∷ locals) n d
  unfolding all_cleared zeroed with_scalar Started
  waits before local locals n d scalar begins rest = record {
    e = rest.e;
    is = cleared_so local scalar.1 n d true begins (λ after. all_cleared (layout g) false locals (n + 1) after) ∙ rest.is;
    count = rest.count;
    grown = rest.grown;
    opened = λ within free. begun_others g before (λ x. OrAmong (λ y. before y × (y ≡ V.Local n → ⊥)) (n + 1) (length locals) x) n (length locals) local.info scalar rest.e waiting_still (rest.opened within (begun_fewer g before (λ x. before x × (x ≡ V.Local n → ⊥)) d (λ x h. h.0) free));
    runs = λ s st free at sim within.
        let others : Variable → Type 0 = λ x. before x × (x ≡ V.Local n → ⊥) in
        let st1 : State = with_scalar (V.Local n) 0 st in
        let sim1 : Sim g others st1 s = waiting before st s sim in
        let ran = rest.runs s st1 (begun_fewer g before others d (λ x h. h.0) free) at sim1 within in
        ran_fewer g (λ x. Alive others locals (n + 1) x) (λ x. Alive before (local ∷ locals) n x) d s (zeroed (n + 1) (length locals) st1) (zeroed n (suc (length locals)) st) rest.e
        (λ x h. (waiting_still x (h.1.0 (begins, scalar.1)) (first_or_later before n (length locals) x h.0), h.1.1)) (zeroed_more n (length locals) st) ((λ k e p. same_zeroed g n (suc (length locals)) (n + 1) (length locals) n 0 st k e p), (λ k is_open e p. zeroed_others n (length locals) st st1 (λ j f q. refl) k (other_one g n local.info scalar (λ x. Alive before (local ∷ locals) n x) k is_open) e p)) refl refl refl refl ran;
  }
    where
      waiting_still : (x : Variable) → (x ≡ V.Local n → ⊥) → (before x ⊎ (is_among (n + 1) (length locals) x ≡ true)) ⊎ (x ≡ V.Local n) → (before x × (x ≡ V.Local n → ⊥)) ⊎ (is_among (n + 1) (length locals) x ≡ true)
      waiting_still x other (inl (inl h)) = inl (h, other)
      waiting_still x other (inl (inr h)) = inr h
      waiting_still x other (inr e) = absurd (other e)

      waiting : (before : Variable → Type 0) (st : State) (s : CodeState) → Sim g before st s → Sim g (λ x. before x × (x ≡ V.Local n → ⊥)) (with_scalar (V.Local n) 0 st) s
      waiting before st s sim = record {
        registers = sim.registers;
        scalars = λ x info living scalar. sim.scalars x info living.0 scalar ∙ ap (λ (w : ℕ). held info.elem w) (sym (not_it x living.1));
        small = λ x info living scalar. subst (λ (w : ℕ). w < 2 ^ info.elem.bits) (sym (not_it x living.1)) (sim.small x info living.0 scalar);
        constants = sim.constants;
        turns = sim.turns;
        output = sim.output;
        input = sim.input;
        bytes = sim.bytes;
        returns = sim.returns;
        few = sim.few;
        memory = g.held.still (OpenAmong g (λ x. before x × (x ≡ V.Local n → ⊥))) s.at st (with_scalar (V.Local n) 0 st) s.memory ((λ k e p. refl), (λ k is_open e p. refl)) refl (g.held.fewer (OpenAmong g before) (OpenAmong g (λ x. before x × (x ≡ V.Local n → ⊥))) s.at st s.memory (λ k is_open. (is_open.0.0, is_open.1)) sim.memory);
      }
        where
          not_it : (x : Variable) → (x ≡ V.Local n → ⊥) → (with_scalar (V.Local n) 0 st).scalar x ≡ st.scalar x
          not_it x other = by (is_same (V.Local n) x) refl
            where
              by : (b : Bool) → is_same (V.Local n) x ≡ b → (if is_same (V.Local n) x then 0 else st.scalar x) ≡ st.scalar x
              by true is = absurd (other (sym (same_is (V.Local n) x is)))
              by false is = ap (λ (b : Bool). if b then 0 else st.scalar x) is

  -- any other one becomes 0 at once
  clears_one : (before : Variable → Type 0) (local : LocalVar) (locals : List LocalVar) (n : ℕ) (d : Draft) → IsScalarLocal local → begins_constant local ≡ false → StandFrom (variables_of g.instance.body) n (info_of local ∷ map info_of locals) → Clears (λ x. before x ⊎ (x ≡ V.Local n)) locals (n + 1) (with_instr (I.FrontConst (register_of (layout g) (V.Local n)) 0) d) → Clears before (local ∷ locals) n d
  unfolding all_cleared begun step_of zeroed with_scalar Started
  clears_one before local locals n d isin begins stand rest =
      let scalar : IsScalar g (V.Local n) local.info = (first_is_named g n local.info (map info_of locals) stand, isin) in
      let r : ℕ = register_of (layout g) (V.Local n) in
      let between : Draft = with_instr (I.FrontConst r 0) d in
      let zero_held : held local.info.elem 0 ≡ 0 = zero_converted int_type local.info.elem in
      record {
        e = rest.e;
        is = cleared_so local isin n d false begins (λ after. all_cleared (layout g) false locals (n + 1) after) ∙ rest.is;
        count = 1 + rest.count;
        grown = extended d between rest.e 1 rest.count (and_one g (I.FrontConst r 0) d) rest.grown;
        opened = λ within free. begun_fewer g (λ x. OrAmong (λ y. before y ⊎ (y ≡ V.Local n)) (n + 1) (length locals) x) (λ x. OrAmong before n (suc (length locals)) x) rest.e (λ x h. is_now before n (length locals) x (first_or_later before n (length locals) x h))
            (rest.opened within (begun_scalar g before n local.info scalar d between 1 (and_one g (I.FrontConst r 0) d) free));
        runs = λ s st free at sim within.
            let now : Variable → Type 0 = λ x. before x ⊎ (x ≡ V.Local n) in
            let s1 : CodeState = with_register r 0 s in
            let st1 : State = with_scalar (V.Local n) 0 st in
            let more = regs_more g (I.FrontConst r 0) d in
            let low = below_free g has (V.Local n) local.info scalar in
            let first_within : Within g between = earlier g between rest.e rest.count rest.grown within in
            let inside : r < length s.registers = omega (arith, low, free.regs, first_within.regs, more, sim.registers) in
            let sim1 : Sim g now st1 s1 = subst (λ (w : ℕ). Sim g now st1 (with_register r w s)) zero_held (sim_begun g has (V.Local n) local.info scalar before now (λ y living other. was_alive y living other) st s 0 (pow_pos local.info.elem.bits) inside sim) in
            let kept : Keeps g d s s1 = variable_kept g d s (V.Local n) local.info 0 has scalar.0 in
            let ran = rest.runs s1 st1 (begun_scalar g before n local.info scalar d between 1 (and_one g (I.FrontConst r 0) d) free) (at_next g (I.FrontConst r 0) d s (s.at + 1) at refl) sim1 within in
            let all = ran_from g (λ x. Alive now locals (n + 1) x) d between 1 s s1 (zeroed (n + 1) (length locals) st1) rest.e (and_one g (I.FrontConst r 0) d) (one g s s1 (begins_here g (I.FrontConst r 0) d s first_within refl at) refl) kept ran in
            ran_fewer g (λ x. Alive now locals (n + 1) x) (λ x. Alive before (local ∷ locals) n x) d s (zeroed (n + 1) (length locals) st1) (zeroed n (suc (length locals)) st) rest.e
            (λ x h. (is_now before n (length locals) x (first_or_later before n (length locals) x h.0), h.1.1)) (zeroed_more n (length locals) st) ((λ k e p. same_zeroed g n (suc (length locals)) (n + 1) (length locals) n 0 st k e p), (λ k is_open e p. zeroed_others n (length locals) st st1 (λ j f q. refl) k (other_one g n local.info scalar (λ x. Alive before (local ∷ locals) n x) k is_open) e p)) refl refl refl refl all;
      }
    where
      was_alive : (y : Variable) → before y ⊎ (y ≡ V.Local n) → is_same (V.Local n) y ≡ false → before y
      was_alive y (inl h) other = h
      was_alive y (inr e) other = let same : is_same (V.Local n) y ≡ true = ap (λ (z : Variable). is_same (V.Local n) z) e ∙ same_itself (V.Local n) in cc

  -- a parallel one becomes 0 at once
  clears_parallel : (before : Variable → Type 0) (local : LocalVar) (locals : List LocalVar) (n : ℕ) (d : Draft) (one : ClearsOne g false local n d) → Clears (λ x. before x ⊎ (x ≡ V.Local n)) locals (n + 1) one.e → Clears before (local ∷ locals) n d
  unfolding all_cleared then_make Started zeroed
  clears_parallel before local locals n d one rest = record {
    e = rest.e;
    is = ap (λ (m : Made (Unit {0})). then_make m (λ u after. all_cleared (layout g) false locals (n + 1) after)) one.is ∙ rest.is;
    count = one.count + rest.count;
    grown = extended d one.e rest.e one.count rest.count one.grown rest.grown;
    opened = λ within free. begun_fewer g (λ x. OrAmong (λ y. before y ⊎ (y ≡ V.Local n)) (n + 1) (length locals) x) (λ x. OrAmong before n (suc (length locals)) x) rest.e (λ x h. is_now before n (length locals) x (first_or_later before n (length locals) x h))
        (rest.opened within (begun_parallel g before n d one.e one.count one.grown (one.opened (earlier g one.e rest.e rest.count rest.grown within)) free));
    runs = λ s st free at sim within.
        let now : Variable → Type 0 = λ x. before x ⊎ (x ≡ V.Local n) in
        let st1 : State = zeroed n 1 st in
        let first_within : Within g one.e = earlier g one.e rest.e rest.count rest.grown within in
        let first = one.runs before s st free at sim first_within in
        let ran = rest.runs first.t st1 (begun_parallel g before n d one.e one.count one.grown (one.opened first_within) free) first.at first.sim within in
        let all = ran_from g (λ x. Alive now locals (n + 1) x) d one.e one.count s first.t (zeroed (n + 1) (length locals) st1) rest.e one.grown first.go first.keeps ran in
        ran_fewer g (λ x. Alive now locals (n + 1) x) (λ x. Alive before (local ∷ locals) n x) d s (zeroed (n + 1) (length locals) st1) (zeroed n (suc (length locals)) st) rest.e
        (λ x h. (is_now before n (length locals) x (first_or_later before n (length locals) x h.0), h.1.1)) (zeroed_both n (length locals) st) ((λ k e p. zeroed_twice g n (suc (length locals)) (n + 1) (length locals) st k e p), (λ k is_open e p. zeroed_all n (length locals) st k e p)) refl refl refl refl all;
  }

  pub clears : LocalsClear g → NumbersVariables g.instance (layout g) → (before : Variable → Type 0) (locals : List LocalVar) (n : ℕ) (d : Draft) → All (IsBlockLocal g.may.beside) locals → StandFrom (variables_of g.instance.body) n (map info_of locals) → HasDeclared g.typed g.instance (layout g) n d → Clears before locals n d
  unfolding all_cleared then_make zeroed Started
  clears parallels numbers before [] n d isin stand known = record {
    e = d;
    is = refl;
    count = 0;
    grown = as_it_was d;
    opened = λ within free. begun_fewer g before (λ x. OrAmong before n 0 x) d nothing_more free;
    runs = λ s st free at sim within. record {
      grown = (0, as_it_was d);
      t = s;
      go = stay g s;
      at = at;
      keeps = keeps_all g d s;
      sim = sim_fewer g before (λ x. Alive before [] n x) (zeroed n 0 st) s (λ x info named h. nothing_more x h.0) (sim_same g before st (zeroed n 0 st) s (nothing_zeroed g n st) ((λ k e p. zeroed_files g n 0 st k e p), (λ k is_open e p. none_zeroed g n st k e p)) refl refl refl refl sim);
    };
  }
    where
      nothing_more : (x : Variable) → before x ⊎ (is_among n 0 x ≡ true) → before x
      nothing_more x (inl h) = h
      nothing_more x (inr h) = absurd (none_among n x h)
  clears parallels numbers before (local ∷ locals) n d isin stand known =
      either (all_first (IsBlockLocal g.may.beside) local locals isin) (λ more e known_e. clears parallels numbers more locals (n + 1) e (all_rest (IsBlockLocal g.may.beside) local locals isin) (others_stand g n local.info (map info_of locals) stand) known_e)
    where
      -- it is declared behind its code
      declared : (e : Draft) → all_cleared (layout g) false (local ∷ []) n d ≡ Makes tt e → HasDeclared g.typed g.instance (layout g) (n + 1) e
      declared e is = clears_declare g false (local ∷ []) n d e is (first_part (local.info ∷ []) (map info_of locals) stand) numbers known

      scalar_cleared : IsScalarLocal local → (b : Bool) → begins_constant local ≡ b → ((more : Variable → Type 0) (e : Draft) → HasDeclared g.typed g.instance (layout g) (n + 1) e → Clears more locals (n + 1) e) → Clears before (local ∷ locals) n d
      scalar_cleared scalar true is rest =
          waits before local locals n d (first_is_named g n local.info (map info_of locals) stand, scalar) is (rest (λ x. before x × (x ≡ V.Local n → ⊥)) d (declared d (cleared_so local scalar n d true is (λ after. Makes tt after))))
      scalar_cleared scalar false is rest =
          let between : Draft = with_instr (I.FrontConst (register_of (layout g) (V.Local n)) 0) d in
          clears_one before local locals n d scalar is stand (rest (λ x. before x ⊎ (x ≡ V.Local n)) between (declared between (cleared_so local scalar n d false is (λ after. Makes tt after))))

      either : IsBlockLocal g.may.beside local → ((more : Variable → Type 0) (e : Draft) → HasDeclared g.typed g.instance (layout g) (n + 1) e → Clears more locals (n + 1) e) → Clears before (local ∷ locals) n d
      either (inl scalar) rest = scalar_cleared scalar (begins_constant local) refl rest
      either (inr parallel) rest =
          let one = parallels false local n d parallel (first_is_named g n local.info (map info_of locals) stand) numbers known in
          clears_parallel before local locals n d one (rest (λ x. before x ⊎ (x ≡ V.Local n)) one.e (declared one.e (ap (λ (m : Made (Unit {0})). then_make m (λ u after. Makes (tt {0}) after)) one.is)))
