-- `?:` of scalars, whose value goes to a register.
use Rattle.std.proofs.Common.{◌≡◌, ◌∙◌, ℕ, ◌+◌, ◌<◌, ◌^◌, Bool, true, false, not, length, slice_index, Option, Some, None, refl, sym, ap, subst, if◌then◌else◌, arith, ◌⊎◌, inl, inr}
use Rattle.std.specs.Prelude.{IfSome, is_none}
use Rattle.cstar_base.specs.declared.elem.Elem.{Elem}
use Rattle.cstar_tree.specs.declared.typed.TExpr.{TExpr}
use Rattle.cstar_tree.specs.declared.typed.ValueType.{ValueType}
use Rattle.cstar_tree.specs.declared.typed.VarInfo.{VarInfo}
use Rattle.cstar_tree.specs.declared.typed.Variable.{Variable}
use Rattle.cstar_tree.specs.Typed.{type_of}
use Rattle.lower_base.specs.declared.emit.Out.{Out}
use Rattle.lower_base.specs.declared.emit.Out.TheVariants as O
use Rattle.lower_base.specs.Drafts.{Draft, Made, Makes, a_register, fresh_for, here, in_register, step as step_of, then_make, with_instr, Fails}
use Rattle.lower_expr.specs.Lengths.{arm_length}
use Rattle.lower_expr.specs.Steps.{has_word, put_value, register_word, word_for, word_put}
use Rattle.lower_expr.specs.Values.{Arm, Code, arm_by, choice_by, decided, jump_if_decided, parallel_choice_by, scalar_choice_by}
use Rattle.paris_code.specs.declared.instr.Instr.TheVariants as I
use Rattle.paris_code.specs.Code.{CodeState, Goes, begun, with_register}
use Rattle.source_meaning.specs.Constants.{constant_of, is_constant, then_value}
use Rattle.source_meaning.specs.Constants as Const
use Rattle.source_meaning.specs.Expressions.{evaluated}
use Rattle.source_meaning.specs.Narrowing.{Operand, choose}
use Rattle.source_meaning.specs.State as Source
use Rattle.source_meaning.specs.State.{Outcome, State, then_do}
use Rattle.source_meaning.specs.Values.{Active, Scalar, Scope, Value, nonzero, number}
use Rattle.source_meaning.proofs.ConstantLaws.{value_means}
use Rattle.code_follows.specs.Fragment.{IsIn, May}
use Rattle.code_follows.proofs.Branching.{IsMadeWord, decided_goes, goes_on, jump_long, jump_more, tested}
use Rattle.code_follows.proofs.Following.{Arrives, Extends, Follows, HasRegisters, IsScalar, Keeps, Sim, delayed, held, keeps_all, keeps_on, then_on, kept_later, follows_same, nothing_said}
use Rattle.code_follows.proofs.Growing.{Extended, extended, places}
use Rattle.code_follows.proofs.Jumping.{jumps, moved_to, sim_moved}
use Rattle.code_follows.proofs.Settings.{At, Begun, Reaches, Setting, Within, ahead, and_one, begun_later, earlier, onto, start, stay}
use Rattle.code_follows.proofs.Stores.{IsPut}
use Rattle.code_follows.proofs.Values.{Dest, Does, Value_of, with_reg, put_by}
use Rattle.code_follows.proofs.Words.{below_bits, below_word, constant_below, held_wide}

pub choose_is : (of : Option ℕ) (v : Value) (first second : Operand) (active : Active) (st : State) → of ≡ None → choose of v first second active st ≡ (if nonzero (number v) then first active st else second active st)
unfolding choose
choose_is of v first second active st scalar = ap (λ (o : Option ℕ). choose o v first second active st) scalar ∙ by (nonzero (number v))
  where
    by : (b : Bool) → (elim b as (λ _. Outcome Value) [ true ↦ first active st | false ↦ second active st ]) ≡ (if b then first active st else second active st)
    by true = refl
    by false = refl

-- code of so many instructions, whose value goes to this register
pub record IsMadeTo (r long : ℕ) (d : Draft) (made : Made Out) : Type 0 where
  pub behind : Draft
  pub is : made ≡ Makes (O.Scalar r) behind
  pub extended : Extended d long behind

-- where the code of an arm is a constant, it is the arm's value
pub record IsNumber (part : State → Outcome Value) (w : ℕ) : Type 0 where
  pub small : w < 2 ^ 32
  pub gives : (st : State) → part st ≡ Source.Gives (Scalar w) st

pub constant_arm : (may : May) (scope : Scope) (active : Active) (e : TExpr) (w : ℕ) → IsIn may e → (type_of e).elem.bits ≡ 32 → register_word e ≡ Some w → IsNumber (λ st. evaluated scope e active st) w
unfolding register_word constant_of
constant_arm may scope active e w isin wide is = by (is_constant e) (Const.value_of e) refl refl is
  where
    by : (c : Bool) (o : Option ℕ) → is_constant e ≡ c → Const.value_of e ≡ o → then_value (if c then o else None) (λ v. Some (held (type_of e).elem v)) ≡ Some w → IsNumber (λ st. evaluated scope e active st) w
    by true (Some v) is_c is_v h =
        let few : v < 2 ^ 32 = below_word (type_of e).elem.bits v wide (subst (λ (o : Option ℕ). IfSome o (λ u. u < 2 ^ (type_of e).elem.bits)) is_v (constant_below may e isin)) in
        let same : v ≡ w = sym (held_wide (type_of e).elem v wide few) ∙ ap (λ (o : Option ℕ). elim o as (λ _. ℕ) [ Some x ↦ x | None ↦ 0 ]) h in
        subst (λ (x : ℕ). IsNumber (λ st. evaluated scope e active st) x) same (record { small = few; gives = λ st. subst (λ (o : Option ℕ). Const.IsValueOf e o) is_v (value_means e is_c) scope active st })
    by true None is_c is_v h = cc
    by false o is_c is_v h = cc

module _ (g : Setting) where
  pub arm_made : (r long : ℕ) (code : Code) (e : TExpr) (d : Draft) → IsMadeWord long d (code d) ⊎ (code d ≡ Fails) → IsMadeTo r (arm_length true long e) d (arm_by code e (O.Scalar r) d) ⊎ (arm_by code e (O.Scalar r) d ≡ Fails)
  unfolding arm_by arm_length has_word word_for word_put put_value in_register then_make
  arm_made r long code e d made = by (register_word e) made
    where
      arm : Option ℕ → Made Out
      arm o = elim o as (λ _. Made Out) [ Some word ↦ Makes (O.Scalar r) (with_instr (I.FrontConst r word) d) | None ↦ then_make (code d) (λ v after. put_value (O.Scalar r) v after) ]

      by : (o : Option ℕ) → IsMadeWord long d (code d) ⊎ (code d ≡ Fails) → IsMadeTo r (if not (is_none o) then 1 else long + 1) d (arm o) ⊎ (arm o ≡ Fails)
      by (Some w) made = inl (record { behind = with_instr (I.FrontConst r w) d; is = refl; extended = and_one g (I.FrontConst r w) d })
      by None (inl m) = inl (record {
        behind = with_instr (I.FrontMove r m.register) m.behind;
        is = ap (λ (made : Made Out). then_make made (λ v after. put_value (O.Scalar r) v after)) m.is;
        extended = extended d m.behind _ long 1 m.extended (and_one g (I.FrontMove r m.register) m.behind);
      })
      by None (inr fails) = inr (ap (λ (made : Made Out). then_make made (λ v after. put_value (O.Scalar r) v after)) fails)

module _ (g : Setting) (has : HasRegisters g) (alive : Variable → Type 0) where
  -- what is said of code stays true of it where it jumps over more code
  pub record Lands (r : ℕ) (R : Value → State → Out → Draft → Type 0) : Type 0 where
    pub over : (e f : Draft) (k target : ℕ) (v : Value) (st : State) → Extended (with_instr (I.FrontJump target) e) k f → target ≡ length f.code → Within g f → R v st (O.Scalar r) e → R v st (O.Scalar r) f

  past_jump : (d e f : Draft) (n k target : ℕ) → Extended d n e → Extended (with_instr (I.FrontJump target) e) k f → Extended d (n + (1 + k)) f
  past_jump d e f n k target x y = extended d e f n (1 + k) x (extended e (with_instr (I.FrontJump target) e) f 1 k (and_one g (I.FrontJump target) e) y)

  jumps_past : (e f : Draft) (k target : ℕ) (s t : CodeState) → Extended (with_instr (I.FrontJump target) e) k f → Within g f → Reaches g s t → At g t (length e.code) → Reaches g s (moved_to g alive (target + start g) t)
  jumps_past e f k target s t x within go place = onto g s t (moved_to g alive (target + start g) t) go (jumps g alive target e t (earlier g (with_instr (I.FrontJump target) e) f k x within) place)

  pub fresh_lands : (elem : Elem) (quiet : Bool) (d : Draft) (s : CodeState) (r : ℕ) → Lands r (λ v st out e. Arrives g alive elem quiet d s v st out e)
  fresh_lands elem quiet d s r = record {
    over = λ e f k target v st x is within arr.
        let grown : Extended e (1 + k) f = extended e (with_instr (I.FrontJump target) e) f 1 k (and_one g (I.FrontJump target) e) x in
        let regs = grown.regs in
        let holds = arr.holds in
        record {
          extended = (_, past_jump d e f arr.extended.0 k target arr.extended.1 x);
          t = moved_to g alive (target + start g) arr.t;
          go = jumps_past e f k target s arr.t x within arr.go arr.at;
          at = omega (arith, is);
          sim = sim_moved g alive st arr.t (target + start g) (ahead g e f (1 + k) arr.t (target + start g) grown arr.at (omega (arith, is))) arr.sim;
          keeps = arr.keeps;
          holds = record {
            register = holds.register;
            word = holds.word;
            is = holds.is;
            value = holds.value;
            small = holds.small;
            lasts = λ u t later stays same. holds.lasts u t later (λ q kept. stays q (kept_later g e f q (omega (arith, regs)) kept)) same;
          };
        };
  }

  pub put_lands : (x : Variable) (info : VarInfo) (living : alive x) (scalar : IsScalar g x info) (elem : Elem) (d : Draft) (s : CodeState) (r : ℕ) → Lands r (λ v st out e. IsPut g has alive x info living scalar elem d s v st out e)
  put_lands x info living scalar elem d s r = record {
    over = λ e f k target v st grows is within p. record {
      grown = (_, past_jump d e f p.grown.0 k target p.grown.1 grows);
      t = moved_to g alive (target + start g) p.t;
      go = jumps_past e f k target s p.t grows within p.go p.at;
      at = omega (arith, is);
      word = p.word;
      value = p.value;
      small = p.small;
      sim = sim_moved g alive _ p.t (target + start g) (ahead g e f (1 + k) p.t (target + start g) (extended e (with_instr (I.FrontJump target) e) f 1 k (and_one g (I.FrontJump target) e) grows) p.at (omega (arith, is))) p.sim;
      keeps = p.keeps;
    };
  }

  -- what the code of an arm does, whatever is said of its last instruction
  abbrev pub Arm_does : Elem → (State → Outcome Value) → Arm → Type 1
  Arm_does elem part arm =
      (d e : Draft) (n : ℕ) (s0 s : CodeState) (st : State) (R : Value → State → Out → Draft → Type 0) (r : ℕ) → Begun g alive d → Dest g has alive elem d s0 R r → Reaches g s0 s → At g s (length e.code) → Sim g alive st s → Extended d n e → Keeps g d s0 s
      → Follows g R s0 (part st) (arm (O.Scalar r) e)

  pub arm_follows : (elem from : Elem) (long : ℕ) (e : TExpr) (code : Code) (part : State → Outcome Value) → elem.bits ≡ 32 → from.bits ≡ 32 → Does g has alive from true part code → ((d : Draft) → IsMadeWord long d (code d) ⊎ (code d ≡ Fails)) → ((w : ℕ) → register_word e ≡ Some w → IsNumber part w)
      → Arm_does elem part (arm_by code e)
  unfolding arm_by word_for word_put put_value in_register then_make Follows begun step_of
  arm_follows elem from long e code part wide also does made constant d before n s0 s st R r free dest go place sim grows keeps = by (register_word e) refl (made before)
    where
      moves : (computed : IsMadeWord long before (code before)) (v : Value) (u : State) → Arrives g alive from true before s v u (O.Scalar computed.register) computed.behind → Within g (with_instr (I.FrontMove r computed.register) computed.behind) → R v u (O.Scalar r) (with_instr (I.FrontMove r computed.register) computed.behind)
      moves computed v u arr within =
          let w : ℕ = arr.holds.word in
          let few : w < 2 ^ 32 = below_word from.bits w also arr.holds.small in
          let there : slice_index arr.t.registers computed.register ≡ held elem w =
          ap (λ (o : Out). slice_index arr.t.registers (elim o as (λ _. ℕ) [ O.Scalar x ↦ x | O.Field f ↦ 0 | O.Nothing ↦ 0 ])) arr.holds.is ∙ arr.holds.lasts u arr.t arr.sim (keeps_all g computed.behind arr.t) (λ h. refl) ∙ held_wide from w also few ∙ sym (held_wide elem w wide few) in
          subst (λ (x : Value). R x u (O.Scalar r) (with_instr (I.FrontMove r computed.register) computed.behind)) (sym arr.holds.value)
          (put_by g has alive dest computed.behind (n + long) (I.FrontMove r computed.register) arr.t u w (onto g s0 s arr.t go arr.go) arr.at arr.sim (extended d before computed.behind n long grows computed.extended) (keeps_on g d before n s0 s arr.t grows keeps arr.keeps) within refl
          (ap (λ (x : ℕ). Goes (with_register r x arr.t)) there) (below_bits elem.bits w wide few))

      by : (o : Option ℕ) → register_word e ≡ o → IsMadeWord long before (code before) ⊎ (code before ≡ Fails) → Follows g R s0 (part st) (elim o as (λ _. Made Out) [ Some word ↦ Makes (O.Scalar r) (with_instr (I.FrontConst r word) before) | None ↦ then_make (code before) (λ v after. put_value (O.Scalar r) v after) ])
      by (Some w) is made_so =
          let c : IsNumber part w = constant w is in
          subst (λ (o : Outcome Value). Follows g R s0 o (Makes (O.Scalar r) (with_instr (I.FrontConst r w) before))) (sym (c.gives st))
          (λ within. put_by g has alive dest before n (I.FrontConst r w) s st w go place sim grows keeps within refl (ap (λ (x : ℕ). Goes (with_register r x s)) (sym (held_wide elem w wide c.small))) (below_bits elem.bits w wide c.small))
      by None is (inr fails) = follows_same g R s0 refl (ap (λ (mk : Made Out). then_make mk (λ v after. put_value (O.Scalar r) v after)) fails) (nothing_said g R s0 (part st))
      by None is (inl computed) =
          subst (λ (mk : Made Out). Follows g R s0 (part st) (then_make mk (λ v after. put_value (O.Scalar r) v after))) (sym computed.is)
          (goes_on g alive (Value_of g has alive from true before s) R s0 s (part st) (O.Scalar computed.register) computed.behind (O.Scalar r) (with_instr (I.FrontMove r computed.register) computed.behind) 1 go
          (subst (λ (mk : Made Out). Follows g (Value_of g has alive from true before s) s (part st) mk) computed.is (does before s st (begun_later g alive d before n grows free) place sim)) (and_one g (I.FrontMove r computed.register) computed.behind) (moves computed))

  module _ (elem from : Elem) (long_test long more : ℕ) (test : Code) (first second : Arm) (condition one other : State → Outcome Value) (next : Value → State → Outcome Value) (test_does : Does g has alive from true condition test)
      (first_does : Arm_does elem one first) (second_does : Arm_does elem other second) (test_made : (d : Draft) → IsMadeWord long_test d (test d) ⊎ (test d ≡ Fails)) (first_made : (r : ℕ) (d : Draft) → IsMadeTo r long d (first (O.Scalar r) d) ⊎ (first (O.Scalar r) d ≡ Fails)) (second_made : (r : ℕ) (d : Draft) → IsMadeTo r more d (second (O.Scalar r) d) ⊎ (second (O.Scalar r) d ≡ Fails))
      (next_is : (v : Value) (st : State) → next v st ≡ (if nonzero (number v) then one st else other st)) where
    module _ (d : Draft) (s : CodeState) (st : State) (R : Value → State → Out → Draft → Type 0) (r : ℕ) (free : Begun g alive d) (there : At g s (length d.code)) (sim : Sim g alive st s) (dest : Dest g has alive elem d s R r) (lands : Lands r R) where
      -- where the code of the condition and of both arms is made
      module _ (tests : IsMadeWord long_test d (test d)) where
        -- the drafts, one behind another
        abbrev target : ℕ
        target = (here tests.behind + long) + 2

        abbrev leap : Draft
        leap = jump_if_decided false tests.register target tests.behind

        module _ (half : IsMadeTo r long leap (first (O.Scalar r) leap)) where
          abbrev skip : Draft
          skip = with_instr (I.FrontJump (target + more)) half.behind

          module _ (last : IsMadeTo r more skip (second (O.Scalar r) skip)) where
            code_is : scalar_choice_by (O.Scalar r) test first second long more d ≡ Makes (O.Scalar r) last.behind
            unfolding scalar_choice_by decided in_register then_make
            code_is =
                ap (λ (m : Made Out). then_make m (λ c begins. then_make (decided false c long 2 begins) (λ end after. then_make (first (O.Scalar r) after) (λ v between. second (O.Scalar r) (with_instr (I.FrontJump (end + more)) between))))) tests.is
                ∙ ap (λ (m : Made Out). then_make m (λ v between. second (O.Scalar r) (with_instr (I.FrontJump (target + more)) between))) half.is ∙ last.is

            tests_leap : Extended tests.behind 1 leap
            tests_leap = jump_more g alive false tests.register target tests.behind

            to_leap : Extended d (long_test + 1) leap
            to_leap = extended d tests.behind leap long_test 1 tests.extended tests_leap

            half_last : Extended half.behind (1 + more) last.behind
            half_last = extended half.behind skip last.behind 1 more (and_one g (I.FrontJump (target + more)) half.behind) last.extended

            leap_last : Extended leap (long + (1 + more)) last.behind
            leap_last = extended leap half.behind last.behind long (1 + more) half.extended half_last

            tests_last : Extended tests.behind (1 + (long + (1 + more))) last.behind
            tests_last = extended tests.behind leap last.behind 1 _ tests_leap leap_last

            tests_skip : Extended tests.behind (1 + (long + 1)) skip
            tests_skip = extended tests.behind leap skip 1 (long + 1) tests_leap (extended leap half.behind skip long 1 half.extended (and_one g (I.FrontJump (target + more)) half.behind))

            to_skip : Extended d (long_test + (1 + (long + 1))) skip
            to_skip = extended d tests.behind skip long_test _ tests.extended tests_skip

            second_there : target ≡ length skip.code
            unfolding here
            second_there = let a = places tests.behind skip (1 + (long + 1)) tests_skip in omega (arith, a)

            ends_there : target + more ≡ length last.behind.code
            unfolding here
            ends_there = let a = places tests.behind last.behind (1 + (long + (1 + more))) tests_last in omega (arith, a)

            -- where the condition is not 0 the first arm is next, and jumps over the second
            goes_first : (v : Value) (u : State) (arr : Arrives g alive from true d s v u (O.Scalar tests.register) tests.behind) → nonzero (number v) ≡ true → Within g leap → Follows g R s (one u) (Makes (O.Scalar r) last.behind)
            goes_first v u arr so within =
                let t : CodeState = moved_to g alive (arr.t.at + 1) arr.t in
                let place = arr.at in
                let long_so = jump_long g alive false tests.register target tests.behind in
                let go : Reaches g s t = onto g s arr.t t arr.go (decided_goes g alive false true tests.register target tests.behind arr.t (tested g alive from d tests.behind s v u tests.register arr ∙ so) within arr.at) in
                goes_on g alive R R s s (one u) (O.Scalar r) half.behind (O.Scalar r) last.behind (1 + more) (stay g s)
                (subst (λ (m : Made Out). Follows g R s (one u) m) half.is (first_does d leap (long_test + 1) s t u R r free dest go (omega (arith, place, long_so)) (sim_moved g alive u arr.t (arr.t.at + 1) (omega arith) arr.sim) to_leap arr.keeps)) half_last
                (λ w later is inner. lands.over half.behind last.behind more (target + more) w later last.extended ends_there inner is)

            -- where it is, the second
            goes_second : (v : Value) (u : State) (arr : Arrives g alive from true d s v u (O.Scalar tests.register) tests.behind) → nonzero (number v) ≡ false → Within g leap → Follows g R s (other u) (Makes (O.Scalar r) last.behind)
            goes_second v u arr so within =
                let t : CodeState = moved_to g alive (target + start g) arr.t in
                let go : Reaches g s t = onto g s arr.t t arr.go (decided_goes g alive false false tests.register target tests.behind arr.t (tested g alive from d tests.behind s v u tests.register arr ∙ so) within arr.at) in
                subst (λ (m : Made Out). Follows g R s (other u) m) last.is (second_does d skip (long_test + (1 + (long + 1))) s t u R r free dest go (omega (arith, second_there)) (sim_moved g alive u arr.t (target + start g) (ahead g tests.behind skip (1 + (long + 1)) arr.t (target + start g) tests_skip arr.at (omega (arith, second_there))) arr.sim) to_skip arr.keeps)

            all_follows : Follows g R s (then_do (condition st) next) (scalar_choice_by (O.Scalar r) test first second long more d)
            unfolding Extends
            all_follows =
                subst (λ (m : Made Out). Follows g R s (then_do (condition st) next) m) (sym code_is)
                (then_on g (Value_of g has alive from true d s) R s (condition st) next (O.Scalar tests.register) tests.behind (Makes (O.Scalar r) last.behind) (subst (λ (m : Made Out). Follows g (Value_of g has alive from true d s) s (condition st) m) tests.is (test_does d s st free there sim)) (_, tests_last)
                (λ v u arr. subst (λ (o : Outcome Value). Follows g R s o (Makes (O.Scalar r) last.behind)) (sym (next_is v u)) (by v u arr (nonzero (number v)) refl)))
              where
                by : (v : Value) (u : State) (arr : Arrives g alive from true d s v u (O.Scalar tests.register) tests.behind) (b : Bool) → nonzero (number v) ≡ b → Follows g R s (if b then one u else other u) (Makes (O.Scalar r) last.behind)
                by v u arr true so = delayed g R leap s (one u) (Makes (O.Scalar r) last.behind) (_, leap_last) (λ within. goes_first v u arr so within)
                by v u arr false so = delayed g R leap s (other u) (Makes (O.Scalar r) last.behind) (_, leap_last) (λ within. goes_second v u arr so within)

      abbrev ChoiceGoes : Type 0
      ChoiceGoes = Follows g R s (then_do (condition st) next) (scalar_choice_by (O.Scalar r) test first second long more d)

      by_second : (tests : IsMadeWord long_test d (test d)) (half : IsMadeTo r long (leap tests) (first (O.Scalar r) (leap tests))) → IsMadeTo r more (skip tests half) (second (O.Scalar r) (skip tests half)) ⊎ (second (O.Scalar r) (skip tests half) ≡ Fails) → ChoiceGoes
      unfolding scalar_choice_by decided in_register then_make
      by_second tests half (inl last) = all_follows tests half last
      by_second tests half (inr fails) =
          follows_same g R s refl
          (ap (λ (m : Made Out). then_make m (λ c begins. then_make (decided false c long 2 begins) (λ end after. then_make (first (O.Scalar r) after) (λ v between. second (O.Scalar r) (with_instr (I.FrontJump (end + more)) between))))) tests.is
          ∙ ap (λ (m : Made Out). then_make m (λ v between. second (O.Scalar r) (with_instr (I.FrontJump (target tests + more)) between))) half.is ∙ fails) (nothing_said g R s (then_do (condition st) next))

      by_first : (tests : IsMadeWord long_test d (test d)) → IsMadeTo r long (leap tests) (first (O.Scalar r) (leap tests)) ⊎ (first (O.Scalar r) (leap tests) ≡ Fails) → ChoiceGoes
      unfolding scalar_choice_by decided in_register then_make
      by_first tests (inl half) = by_second tests half (second_made r (skip tests half))
      by_first tests (inr fails) =
          follows_same g R s refl
          (ap (λ (m : Made Out). then_make m (λ c begins. then_make (decided false c long 2 begins) (λ end after. then_make (first (O.Scalar r) after) (λ v between. second (O.Scalar r) (with_instr (I.FrontJump (end + more)) between))))) tests.is
          ∙ ap (λ (m : Made Out). then_make m (λ v between. second (O.Scalar r) (with_instr (I.FrontJump (target tests + more)) between))) fails) (nothing_said g R s (then_do (condition st) next))

      by_test : IsMadeWord long_test d (test d) ⊎ (test d ≡ Fails) → ChoiceGoes
      unfolding scalar_choice_by then_make
      by_test (inl tests) = by_first tests (first_made r (leap tests))
      by_test (inr fails) =
          follows_same g R s refl
          (ap (λ (m : Made Out). then_make m (λ c begins. then_make (decided false c long 2 begins) (λ end after. then_make (first (O.Scalar r) after) (λ v between. second (O.Scalar r) (with_instr (I.FrontJump (end + more)) between))))) fails)
          (nothing_said g R s (then_do (condition st) next))

      pub scalar_choice_follows : Follows g R s (then_do (condition st) next) (scalar_choice_by (O.Scalar r) test first second long more d)
      scalar_choice_follows = by_test (test_made d)

-- the code of a scalar `?:` with a fresh register
pub choice_is : (ty : ValueType) (bits : ℕ) (kept : Bool) (test : Code) (first second : Arm) (n m : ℕ) (d : Draft) → ty.shape ≡ None → kept ≡ true → choice_by ty bits kept test first second n m d ≡ scalar_choice_by (O.Scalar d.regs) test first second n m (with_reg d)
unfolding choice_by fresh_for a_register then_make
choice_is ty bits kept test first second n m d scalar is =
    ap (λ (o : Option ℕ). then_make (fresh_for o bits d) (λ dest after. if kept then scalar_choice_by dest test first second n m after else parallel_choice_by dest test first second after)) scalar
    ∙ ap (λ (b : Bool). if b then scalar_choice_by (O.Scalar d.regs) test first second n m (with_reg d) else parallel_choice_by (O.Scalar d.regs) test first second (with_reg d)) is
