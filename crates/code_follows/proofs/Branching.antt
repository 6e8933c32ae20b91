-- Code that is made as described, jumps over it, and the words on which they depend.
use Rattle.std.proofs.Common.{◌≡◌, ◌∙◌, ℕ, ◌+◌, Bool, true, false, not, length, slice_index, refl, sym, ap, if◌then◌else◌, ◌⊎◌, inl, inr}
use Rattle.cstar_base.specs.declared.elem.Elem.{Elem}
use Rattle.cstar_tree.specs.declared.typed.TExpr.{TExpr}
use Rattle.cstar_tree.specs.declared.typed.Typed.{Typed}
use Rattle.cstar_tree.specs.declared.typed.Variable.{Variable}
use Rattle.code_lengths.specs.Growth.{GrowsOr}
use Rattle.code_lengths.specs.Lowerable.{GivesValue}
use Rattle.code_lengths.specs.Ready.{Arrives as IsAtEnd}
use Rattle.lower_base.specs.declared.emit.Out.{Out}
use Rattle.lower_base.specs.declared.emit.Out.TheVariants as O
use Rattle.lower_base.specs.Drafts.{Draft, Fails, Made, Makes}
use Rattle.lower_expr.specs.Steps.{is_kept}
use Rattle.lower_expr.specs.Values.{jump_if_decided}
use Rattle.paris_code.specs.declared.instr.Instr.TheVariants as I
use Rattle.paris_code.specs.Code.{CodeState}
use Rattle.source_meaning.specs.State as Source
use Rattle.source_meaning.specs.State.{Outcome, State, then_do}
use Rattle.source_meaning.specs.Values.{Value, nonzero, number}
use Rattle.code_follows.proofs.Following.{Arrives, Extends, Follows, delayed, finished, finishes_later, keeps_all}
use Rattle.code_follows.proofs.Growing.{Extended, from_growth}
use Rattle.code_follows.proofs.Jumping.{moved_to, returns_to, skips}
use Rattle.code_follows.proofs.Settings.{At, Reaches, Setting, Within, and_one, code_more, earlier, start}
use Rattle.code_follows.proofs.Numbers.{held_nonzero}

-- code of so many instructions, whose value stands in a register
pub record IsMadeWord (long : ℕ) (d : Draft) (made : Made Out) : Type 0 where
  pub register : ℕ
  pub behind : Draft
  pub is : made ≡ Makes (O.Scalar register) behind
  pub extended : Extended d long behind

pub made_word : (t : Typed) (e : TExpr) (long : ℕ) (d : Draft) (made : Made Out) → is_kept e ≡ true → GivesValue t e → GrowsOr (Unit {0}) d long (IsAtEnd t e) made → IsMadeWord long d made ⊎ (made ≡ Fails)
unfolding GrowsOr IsAtEnd
made_word t e long d (Makes (O.Scalar r) f) kept gives h = inl (record { register = r; behind = f; is = refl; extended = from_growth d f long h.1 })
made_word t e long d (Makes (O.Field f) after) kept gives h = let a = h.0 in cc
made_word t e long d (Makes O.Nothing after) kept gives h = absurd (h.0 gives)
made_word t e long d Fails kept gives h = inr refl

-- does the left operand of `&&` or `||` decide, as one that is not 0 or is
abbrev pub decides : Bool → Bool → Bool
decides is_or b = if is_or then b else not b

module _ (g : Setting) (alive : Variable → Type 0) where
  -- a part whose code is made, from a later state of the code on, and then another
  pub then_from : {A B C D : Type 0} (R : A → State → B → Draft → Type 0) (Q : C → State → D → Draft → Type 0) (s s0 : CodeState) (o : Outcome A) (k : A → State → Outcome C) (y : B) (e : Draft) (made : Made D) → Reaches g s s0 → Follows g R s0 o (Makes y e) → Extends g e made
      → ((x : A) (st : State) → R x st y e → Follows g Q s (k x st) made) → Follows g Q s (then_do o k) made
  unfolding Follows then_do
  then_from R Q s s0 (Source.Gives x st) k y e made go follows grows next = delayed g Q e s (k x st) made grows (λ w. next x st (follows w))
  then_from R Q s s0 (Source.Ends early st) k y e made go follows grows next = finished g Q e s early st made grows (λ w. finishes_later g early st s s0 go (follows w))

  -- the word of a value is 0 exactly where the value is
  pub tested : (elem : Elem) (d e : Draft) (s : CodeState) (v : Value) (st : State) (r : ℕ) → (arr : Arrives g alive elem true d s v st (O.Scalar r) e) → nonzero (slice_index arr.t.registers r) ≡ nonzero (number v)
  unfolding number
  tested elem d e s v st r arr =
      ap (λ (q : Out). nonzero (slice_index arr.t.registers (elim q as (λ _. ℕ) [ O.Scalar x ↦ x | O.Field f ↦ 0 | O.Nothing ↦ 0 ]))) arr.holds.is
      ∙ ap nonzero (arr.holds.lasts st arr.t arr.sim (keeps_all g e arr.t) (λ h. refl)) ∙ held_nonzero elem arr.holds.word arr.holds.small ∙ sym (ap (λ (w : Value). nonzero (number w)) arr.holds.value)

  -- a jump where an operand decides
  pub decided_goes : (is_or b : Bool) (x target : ℕ) (e : Draft) (s : CodeState) → nonzero (slice_index s.registers x) ≡ b → Within g (jump_if_decided is_or x target e) → At g s (length e.code) → Reaches g s (moved_to g alive (if decides is_or b then target + start g else s.at + 1) s)
  unfolding jump_if_decided
  decided_goes true b x target e s is within here = returns_to g alive b x target e s is within here
  decided_goes false true x target e s is within here = skips g alive true x target e s is within here
  decided_goes false false x target e s is within here = skips g alive false x target e s is within here

  pub jump_more : (is_or : Bool) (x target : ℕ) (e : Draft) → Extended e 1 (jump_if_decided is_or x target e)
  unfolding jump_if_decided
  jump_more true x target e = and_one g (I.FrontJumpNonzero x target) e
  jump_more false x target e = and_one g (I.FrontJumpZero x target) e

  pub jump_long : (is_or : Bool) (x target : ℕ) (e : Draft) → length (jump_if_decided is_or x target e).code ≡ length e.code + 1
  unfolding jump_if_decided
  jump_long true x target e = code_more g (I.FrontJumpNonzero x target) e
  jump_long false x target e = code_more g (I.FrontJumpZero x target) e

  -- a part whose code is made, with more code behind it
  pub goes_on : {A B C : Type 0} (R : A → State → B → Draft → Type 0) (Q : A → State → C → Draft → Type 0) (s s0 : CodeState) (o : Outcome A) (y : B) (e : Draft) (z : C) (f : Draft) (n : ℕ) → Reaches g s s0 → Follows g R s0 o (Makes y e) → Extended e n f
      → ((x : A) (st : State) → R x st y e → Within g f → Q x st z f) → Follows g Q s o (Makes z f)
  unfolding Follows
  goes_on R Q s s0 (Source.Gives x st) y e z f n go follows grows next = λ w. next x st (follows (earlier g e f n grows w)) w
  goes_on R Q s s0 (Source.Ends early st) y e z f n go follows grows next = λ w. finishes_later g early st s s0 go (follows (earlier g e f n grows w))
