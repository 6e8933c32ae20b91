-- Division by a value that may be 0 at an active position: the code checks the divisor, and where it is 0 both end at the
-- least such position.
use Rattle.std.proofs.Common.{◌≡◌, ◌∙◌, ℕ, zero, suc, [], ◌<◌, ◌==◌, ◌&&◌, Bool, true, false, not, List, length, Option, Some, None, refl, sym, ap, subst, arith, if◌then◌else◌}
use Rattle.cstar_base.specs.declared.faults.RunFault.TheVariants.{DivZero}
use Rattle.cstar_base.specs.declared.operators.Op.{Op}
use Rattle.cstar_base.specs.declared.operators.Place.{Place}
use Rattle.cstar_base.specs.Operators.{divides, outcome}
use Rattle.cstar_base.specs.Orders.{least_below, or_else}
use Rattle.cstar_tree.specs.declared.typed.TExpr.{TExpr}
use Rattle.cstar_tree.specs.declared.typed.TExpr as T
use Rattle.cstar_tree.specs.declared.typed.ValueType.{ValueType}
use Rattle.cstar_tree.specs.declared.typed.Variable.{Variable}
use Rattle.cstar_tree.specs.Typed.{type_of}
use Rattle.lower_base.specs.Drafts.{Draft, step as step_of, with_instr}
use Rattle.lower_base.specs.Operators.{operation_of, relates}
use Rattle.constant_trees.proofs.Bringing.{right_false}
use Rattle.phase_meaning.proofs.Rising.{least_none}
use Rattle.paris_code.specs.declared.instr.Instr.{Instr}
use Rattle.paris_code.specs.declared.instr.Instr.TheVariants as I
use Rattle.paris_code.specs.declared.operands.Field.{Field}
use Rattle.paris_code.specs.Checking.{least_failing}
use Rattle.paris_code.specs.Code as Machine
use Rattle.paris_code.specs.Code.{CodeState, Goes, Next, applied, begun, replied}
use Rattle.paris_code.specs.Meaning.{after, bad_or_nothing}
use Rattle.paris_code.specs.Memory.{is_active, processors}
use Rattle.source_meaning.specs.Expressions.{evaluated, operated}
use Rattle.source_meaning.specs.State as Source
use Rattle.source_meaning.specs.State.{Outcome, State, then_do}
use Rattle.source_meaning.specs.Values.{Parallel, Value, at, positions}
use Rattle.source_meaning.proofs.ConstantLaws.{Boxed}
use Rattle.vp_sets.specs.Positions.{position_count}
use Rattle.code_follows.proofs.Following.{Finishes, Sim}
use Rattle.code_follows.proofs.Settings.{Reaches, Setting, Within, and_one, begins_here, earlier, one, placed_instr}
use Rattle.fields_follow.proofs.Checks.{check_ends, check_passes, check_replies}
use Rattle.fields_follow.proofs.Instructions.{HasNumbers, Puts, has_words, number_in, puts_operate, shapes}
use Rattle.fields_follow.proofs.Lengths.{Keeps}
use Rattle.fields_follow.proofs.Meaning.{binary_means, binary_so, divided_is}
use Rattle.fields_follow.proofs.Outcomes.{Ended, ended_back, ended_on, meant}
use Rattle.fields_follow.proofs.Passing.{Passes, flags_of}
use Rattle.fields_follow.proofs.Places.{HoldsTheFields, PlacesFields}
use Rattle.fields_follow.proofs.Spreading.{HasBoth}

-- the least of the same
least_alike : (f g : ℕ → Bool) (n : ℕ) → ((k : ℕ) → k < n → f k ≡ g k) → least_below f n ≡ least_below g n
unfolding least_below
least_alike f g zero same = refl
least_alike f g (suc n) same =
    ap (λ (o : Option ℕ). or_else o (if f n then Some n else None)) (least_alike f g n (λ k below. same k (omega (arith, below)))) ∙ ap (λ (b : Bool). or_else (least_below g n) (if b then Some n else None)) (same n (omega arith))

module _ (g : Setting) (fields : HoldsTheFields g) where
  -- the least active position at which a divisor is 0
  abbrev pub zero_at : ℕ → (ℕ → ℕ) → Option ℕ
  zero_at set w = least_below (λ q. fields.active set q && w q == 0) (processors (shapes g) set)

  -- a divisor that is nowhere 0 is at none
  pub never_zero : (set : ℕ) (w : ℕ → ℕ) → ((q : ℕ) → (w q == 0) ≡ false) → zero_at set w ≡ None
  never_zero set w some = least_none (λ q. fields.active set q && w q == 0) (processors (shapes g) set) (λ q below. right_false (fields.active set q) (w q == 0) (some q))

  -- it is that of the numbers that a shape's positions have in the source
  pub zero_there : (set : ℕ) (w u : ℕ → ℕ) → set < length (shapes g) → ((q : ℕ) → q < processors (shapes g) set → u q ≡ w q) → least_below (λ q. fields.active set q && w q == 0) (positions fields.scope set) ≡ zero_at set u
  unfolding positions
  zero_there set w u exists same =
      ap (λ (xs : List ℕ). least_below (λ q. fields.active set q && w q == 0) (position_count xs)) (fields.same_extents set exists)
      ∙ least_alike (λ q. fields.active set q && w q == 0) (λ q. fields.active set q && u q == 0) (processors (shapes g) set) (λ q below. ap (λ (n : ℕ). fields.active set q && n == 0) (sym (same q below)))

  -- what a binary operator gives of two values, where it divides by no 0
  pub operator_gives : (set : ℕ) (ty : ValueType) (place : Place) (op : Op) (p q : Boxed) (left right : TExpr) (v w u : ℕ → ℕ) (st : State) → ty.shape ≡ Some set → set < length (shapes g) → ((x : ℕ) → x < processors (shapes g) set → u x ≡ w x) → (divides op ≡ true → zero_at set u ≡ None)
      → meant g fields left st ≡ Source.Gives (Parallel v) st → meant g fields right st ≡ Source.Gives (Parallel w) st
      → meant g fields (T.Binary' ty place op p left q right) st ≡ Source.Gives (Parallel (λ x. outcome op 32 (not (type_of left).elem.signed) (v x) (w x))) st
  unfolding at
  operator_gives set ty place op p q left right v w u st shaped exists same never one other = by (divides op) refl
    where
      by : (c : Bool) → divides op ≡ c → meant g fields (T.Binary' ty place op p left q right) st ≡ Source.Gives (Parallel (λ x. outcome op 32 (not (type_of left).elem.signed) (v x) (w x))) st
      by true divided =
          binary_so fields.scope fields.active ty place op p q left right v w st one other ∙ divided_is fields.scope fields.active ty set place op (not (type_of left).elem.signed) (Parallel v) (Parallel w) st shaped divided
          ∙ ap (λ (o : Option ℕ). elim o as (λ _. Outcome Value) [ None ↦ Source.Gives (Parallel (λ x. outcome op 32 (not (type_of left).elem.signed) (v x) (w x))) st | Some x ↦ Source.Ends (Source.Fault DivZero place (Some x)) st ]) (zero_there set w u exists same ∙ never divided)
      by false plain = binary_means fields.scope fields.active set ty place op p q left right v w st shaped plain one other

  -- where it does, it ends
  pub operator_ends : (set : ℕ) (ty : ValueType) (place : Place) (op : Op) (p q : Boxed) (left right : TExpr) (v w u : ℕ → ℕ) (st : State) (x : ℕ) → ty.shape ≡ Some set → set < length (shapes g) → ((x : ℕ) → x < processors (shapes g) set → u x ≡ w x) → divides op ≡ true → zero_at set u ≡ Some x
      → meant g fields left st ≡ Source.Gives (Parallel v) st → meant g fields right st ≡ Source.Gives (Parallel w) st
      → meant g fields (T.Binary' ty place op p left q right) st ≡ Source.Ends (Source.Fault DivZero place (Some x)) st
  unfolding at
  operator_ends set ty place op p q left right v w u st x shaped exists same divided none one other =
      binary_so fields.scope fields.active ty place op p q left right v w st one other ∙ divided_is fields.scope fields.active ty set place op (not (type_of left).elem.signed) (Parallel v) (Parallel w) st shaped divided
      ∙ ap (λ (o : Option ℕ). elim o as (λ _. Outcome Value) [ None ↦ Source.Gives (Parallel (λ y. outcome op 32 (not (type_of left).elem.signed) (v y) (w y))) st | Some y ↦ Source.Ends (Source.Fault DivZero place (Some y)) st ]) (zero_there set w u exists same ∙ none)

  -- it ends where an operand does
  pub left_ended : (ty : ValueType) (place : Place) (op : Op) (p q : Boxed) (left right : TExpr) (s : CodeState) (st : State) → Ended g s (meant g fields left st) → Ended g s (meant g fields (T.Binary' ty place op p left q right) st)
  unfolding evaluated
  left_ended ty place op p q left right s st early =
      ended_on g s (meant g fields left st) (λ x between. then_do (evaluated fields.scope right fields.active between) (λ y after. operated fields.scope fields.active ty place op (not (type_of left).elem.signed) x y after)) early

  pub right_ended : (ty : ValueType) (place : Place) (op : Op) (p q : Boxed) (left right : TExpr) (v : ℕ → ℕ) (s t : CodeState) (st : State) → Reaches g s t → meant g fields left st ≡ Source.Gives (Parallel v) st → Ended g t (meant g fields right st) → Ended g s (meant g fields (T.Binary' ty place op p left q right) st)
  unfolding evaluated then_do
  right_ended ty place op p q left right v s t st go is_left early =
      let there : Ended g s (meant g fields right st) = ended_back g s t (meant g fields right st) go early in
      record {
        early = there.early;
        state = there.state;
        is = ap (λ (o : Outcome Value). then_do o (λ x between. then_do (evaluated fields.scope right fields.active between) (λ y after. operated fields.scope fields.active ty place op (not (type_of left).elem.signed) x y after))) is_left
            ∙ ap (λ (o : Outcome Value). then_do o (λ y after. operated fields.scope fields.active ty place op (not (type_of left).elem.signed) (Parallel v) y after)) there.is;
        finishes = there.finishes;
      }

  module _ (alive : Variable → Type 0) (places : PlacesFields g) where
    -- the machine finds that position
    finds : (set : ℕ) (place_of : Place) (b : Field) (w : ℕ → ℕ) (t : CodeState) (st : State) → HasNumbers g 32 set b t w → Sim g alive st t → least_failing (shapes g) (placed_instr g (I.CheckDivisor place_of b)) [] t.memory ≡ zero_at set w
    finds set place_of b w t st h sim =
        ap (λ (n : ℕ). least_below (λ q. is_active (shapes g) t.memory n q && number_in g b t q == 0) (processors (shapes g) n)) h.of_set
        ∙ least_alike (λ q. is_active (shapes g) t.memory set q && number_in g b t q == 0) (λ q. fields.active set q && w q == 0) (processors (shapes g) set) (λ q below. by q below (is_active (shapes g) t.memory set q) refl)
      where
        by : (q : ℕ) → q < processors (shapes g) set → (on : Bool) → is_active (shapes g) t.memory set q ≡ on → (is_active (shapes g) t.memory set q && number_in g b t q == 0) ≡ (fields.active set q && w q == 0)
        by q below true on =
            ap (λ (n : ℕ). is_active (shapes g) t.memory set q && n == 0) (has_words g set b t w h q below on) ∙ ap (λ (c : Bool). c && w q == 0) (flags_of g alive places fields st t set q sim h.exists below)
        by q below false off =
            ap (λ (c : Bool). c && number_in g b t q == 0) off ∙ ap (λ (c : Bool). c && w q == 0) (sym off ∙ flags_of g alive places fields st t set q sim h.exists below)

    checked_so : (set : ℕ) (place_of : Place) (b : Field) (w : ℕ → ℕ) (t : CodeState) (st : State) → HasNumbers g 32 set b t w → Sim g alive st t
        → begun g.image (placed_instr g (I.CheckDivisor place_of b)) t ≡ (elim (zero_at set w) as (λ _. Next) [ None ↦ Goes (Machine.onward t) | Some q ↦ Machine.Ends (Machine.Fault DivZero place_of (Some q)) (Machine.onward t) ])
    unfolding begun applied after
    checked_so set place_of b w t st h sim = ap (λ (o : Option ℕ). replied (placed_instr g (I.CheckDivisor place_of b)) (Machine.onward t) (bad_or_nothing o)) (finds set place_of b w t st h sim) ∙ check_replies (placed_instr g (I.CheckDivisor place_of b)) DivZero place_of (Machine.onward t) (λ q. refl) (zero_at set w)

    has_onward : (bits set : ℕ) (f : Field) (t : CodeState) (v : ℕ → ℕ) → HasNumbers g bits set f t v → HasNumbers g bits set f (Machine.onward t) v
    has_onward bits set f t v h = record { of_set = h.of_set; exists = h.exists; len = h.len; are = h.are; small = h.small }

    -- The instruction that operates on both behind such a check: where the divisor is not 0, it puts the operator's
    -- numbers, and else the code ends there.
    module _ (bits set bound : ℕ) (wide : bits ≡ 32) (op : Op) (signed : Bool) (place_of : Place) (dest a b : Field) (v w : ℕ → ℕ) (d e : Draft) (s : CodeState) (st : State) where
      abbrev checks : Draft
      checks = with_instr (I.CheckDivisor place_of b) e

      abbrev operate : Instr
      operate = I.Operate (operation_of op signed) dest a b

      pub divided_after : (Q : Type 0) → relates op ≡ false → ((q : ℕ) → Keeps op signed bits (w q)) → dest.len ≡ bits → HasBoth g alive bits set bound a b d e s st v w → Within g (with_instr operate checks)
          → (zero_at set w ≡ None → (p : Passes g alive bound d checks s st (Unit {0})) → Puts g set operate dest p.t (λ q. outcome op 32 (not signed) (v q) (w q)) → Q)
          → ((q : ℕ) → zero_at set w ≡ Some q → Finishes g (Source.Fault DivZero place_of (Some q)) st s → Q) → Q
      unfolding step_of check_passes
      divided_after Q operates keeps long both within given ends = by (zero_at set w) refl
        where
          early : Within g checks
          early = earlier g checks (with_instr operate checks) 1 (and_one g operate checks) within

          begins : (o : Option ℕ) → zero_at set w ≡ o → begun g.image (placed_instr g (I.CheckDivisor place_of b)) both.passes.t ≡ (elim o as (λ _. Next) [ None ↦ Goes (Machine.onward both.passes.t) | Some q ↦ Machine.Ends (Machine.Fault DivZero place_of (Some q)) (Machine.onward both.passes.t) ])
          begins o is = checked_so set place_of b w both.passes.t st (subst (λ (n : ℕ). HasNumbers g n set b both.passes.t w) wide both.right) both.passes.sim ∙ ap (λ (x : Option ℕ). elim x as (λ _. Next) [ None ↦ Goes (Machine.onward both.passes.t) | Some q ↦ Machine.Ends (Machine.Fault DivZero place_of (Some q)) (Machine.onward both.passes.t) ]) is

          by : (o : Option ℕ) → zero_at set w ≡ o → Q
          by None none =
              given none (check_passes g alive (I.CheckDivisor place_of b) bound d e s st both.passes (begins_here g (I.CheckDivisor place_of b) e both.passes.t early refl both.passes.at.stands ∙ begins None none))
              (puts_operate g bits set op signed dest a b (Machine.onward both.passes.t) v w operates keeps long (has_onward bits set a both.passes.t v both.left) (has_onward bits set b both.passes.t w both.right))
          by (Some q) some = ends q some (check_ends g alive (I.CheckDivisor place_of b) bound d e s st both.passes DivZero place_of q (begins_here g (I.CheckDivisor place_of b) e both.passes.t early refl both.passes.at.stands ∙ begins (Some q) some))
