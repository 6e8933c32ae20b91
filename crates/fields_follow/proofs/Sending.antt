-- Behind the address and the value a send leaves what is sent: its instruction writes at the targets what they take.
use Rattle.std.proofs.Common.{◌≡◌, ◌∙◌, ℕ, ◌<◌, ◌≤◌, ◌%◌, ◌^◌, ◌⊎◌, inl, inr, true, false, List, [], ◌∷◌, length, Some, refl, sym, ap, subst, arith}
use Rattle.std.proofs.Math.Nat.{mod-eq_of_lt}
use Rattle.cstar_base.specs.declared.elem.Elem.{Elem}
use Rattle.communication_laws.specs.Sends.{HasTargets, sent_word}
use Rattle.communication_laws.proofs.StoringSends.{combining_sends_store, overwriting_sends_store}
use Rattle.communication_laws.proofs.Sends.{folded_few}
use Rattle.constant_trees.proofs.Words.{unary_below}
use Rattle.short_values.proofs.LowestBits.{negative}
use Rattle.cstar_base.specs.declared.operators.Op.{Op}
use Rattle.cstar_base.specs.declared.operators.Op.TheVariants as P
use Rattle.cstar_tree.specs.declared.typed.UnaryOp.TheVariants as U
use Rattle.cstar_tree.specs.Operations.{folds}
use Rattle.source_meaning.specs.Values.{unary_of, positions}
use Rattle.lower_base.specs.Operators.{fold_of, is_signed, assign_op_of}
use Rattle.lower_base.specs.Drafts.{Plain, Draft, Makes, step as step_of, with_instr}
use Rattle.lower_comm.specs.Messages.{sent_value}
use Rattle.paris_code.specs.Code.{Goes, CodeState, applied, begun}
use Rattle.paris_code.specs.Sending.{combining, overwriting}
use Rattle.paris_code.specs.Spans.{IsNamedAt, fields_of}
use Rattle.paris_code.specs.Writes.{Write, written}
use Rattle.source_meaning.specs.State.{with_positions, State}
use Rattle.code_follows.proofs.Settings.{OpenAmong, placed_instr, Setting, Within, and_one}
use Rattle.fields_follow.proofs.Instructions.{puts_negate, wrote, HasNumbers, has_words, place, shapes}
use Rattle.fields_follow.proofs.Passing.{Stands, gives_on, puts_own, Behind, GivesField, code_longer, Passes, fields_longer, flags_of, gives_numbers, names_second, names_third, passes_all, passes_from, passes_on, still_numbers}
use Rattle.cstar_tree.specs.declared.syntax.AssignOp.{AssignOp}
use Rattle.cstar_tree.specs.declared.syntax.AssignOp.TheVariants as A
use Rattle.cstar_tree.specs.declared.typed.VarInfo.{VarInfo}
use Rattle.cstar_tree.specs.declared.typed.Variable.{Variable}
use Rattle.paris_code.specs.declared.instr.Instr.{Instr}
use Rattle.paris_code.specs.declared.instr.Instr.TheVariants as I
use Rattle.paris_code.specs.declared.operands.Field.{Field}
use Rattle.paris_code.specs.declared.program.Owner.TheVariants as W
use Rattle.paris_code.specs.Meaning.{after}
use Rattle.paris_code.specs.Memory.{field_number, processors}
use Rattle.source_meaning.specs.Reductions.{divides_by_zero}
use Rattle.source_meaning.specs.Sends.{Send, is_sent_to, received, sent}
use Rattle.vp_sets.specs.Positions.{position_count}
use Rattle.code_follows.proofs.Following.{}
use Rattle.code_follows.proofs.Growing.{Extended}
use Rattle.fields_follow.proofs.Fields.{HoldsFields}
use Rattle.fields_follow.proofs.Leaving.{Leaves}
use Rattle.fields_follow.proofs.PassingTests.{tests_passed}
use Rattle.fields_follow.proofs.Places.{HoldsTheFields, PlacesFields, names_first, stands_here}
use Rattle.fields_follow.proofs.SendMeans.{sent_from, set_few}
use Rattle.fields_follow.proofs.Starts.{Starts, no_home, starts_entry}
use Rattle.fields_follow.proofs.Values.{and_entry, next_field, one_more, taken, with_entry}
use Rattle.fields_follow.proofs.VariableWrites.{entry_and_below, writes_leave}
use Rattle.fields_follow.proofs.Variables.{Carries}
use Rattle.fields_follow.proofs.Writing.{instr_writes}

-- what an operator that folds is in an assignment
pub operator_sent : (op : AssignOp) → folds op ≡ true → (o : Op) × (assign_op_of op ≡ Some o)
unfolding assign_op_of
operator_sent A.Add e = (P.Add, refl)
operator_sent A.Sub e = (P.Sub, refl)
operator_sent A.And e = (P.And, refl)
operator_sent A.Xor e = (P.Xor, refl)
operator_sent A.Or e = (P.Or, refl)
operator_sent A.Min e = (P.Min, refl)
operator_sent A.Max e = (P.Max, refl)
operator_sent _ e = cc

-- it divides nowhere
pub sends_never : (op : AssignOp) (w : ℕ) → folds op ≡ true → divides_by_zero op w ≡ false
unfolding divides_by_zero
sends_never A.Div w e = cc
sends_never A.Rem w e = cc
sends_never A.Mod w e = cc
sends_never _ w e = refl

-- what is subtracted is added as its negative, and all else is sent as it is
pub sent_as : (o : Op) → (o ≡ P.Sub) ⊎ (((w : ℕ) → sent_word o w ≡ w) × ((f : Field) (d : Draft) → sent_value o f d ≡ Makes f d))
unfolding sent_value
sent_as P.Sub = inl refl
sent_as _ = inr (λ w. refl, λ f d. refl)

pub negative_sent : (w : ℕ) → w < 2 ^ 32 → unary_of U.Minus w ≡ sent_word P.Sub w
negative_sent w few = sym (negative 32 w w (omega arith) few (sym (mod-eq_of_lt few)) ∙ mod-eq_of_lt (unary_below U.Minus w few))

module _ (g : Setting) (alive : Variable → Type 0) (places : PlacesFields g) (fields : HoldsTheFields g) (set : ℕ) (d : Draft) (st : State) (to v : ℕ → ℕ) where
  abbrev at : Field
  at = next_field set 32 d

  abbrev send : Send
  send = sent_from fields.scope fields.active set to v

  -- behind code of the address and code of the value both stand in fields
  pub record BothStand (bits : ℕ) (w : ℕ → ℕ) (s : CodeState) (a : Field) (e : Draft) : Type 0 where
    pub x : Draft
    pub address : GivesField g alive 32 (length d.fields) (with_entry set 32 W.Own d) s set st to at x
    pub value : GivesField g alive bits (length x.fields) x address.passes.t set st w a e

  -- where both are named later, the code passes, and the address is still there
  module _ (bits : ℕ) (w : ℕ → ℕ) (s : CodeState) (a : Field) (e : Draft) (b : BothStand bits w s a e) (at_later : Behind g at e) (a_later : Behind g a e) where
    both_pass : Passes g alive (length d.fields) d e s st (Unit {0})
    unfolding passes_from passes_on
    both_pass =
        passes_from g alive (length d.fields) d (with_entry set 32 W.Own d) e s st (Unit {0}) (and_entry set 32 W.Own d)
        (passes_on g alive (length d.fields) (length b.x.fields) (with_entry set 32 W.Own d) b.x e s st (Behind g at b.x) (Behind g a e) (Unit {0})
        (let more = fields_longer (with_entry set 32 W.Own d) b.x b.address.passes.grown.0 b.address.passes.grown.1 in let first = one_more set 32 W.Own d in omega (arith, more, first)) b.address.passes b.value.passes
        (λ u. (at_later.0, (at_later.1.0, let longer = code_longer b.x e b.value.passes.grown.0 b.value.passes.grown.1 in let behind = at_later.1.1 in omega (arith, longer, behind)))) (λ u. a_later))

    both_there : (both_pass.t ≡ b.value.passes.t) × (HasNumbers g 32 set at both_pass.t to × HasNumbers g bits set a both_pass.t w)
    unfolding both_pass passes_from passes_on
    both_there = (
      refl,
      (
        still_numbers g alive places fields 32 (length d.fields) (length b.x.fields) (with_entry set 32 W.Own d) s set st to at b.x e (Behind g a e) b.address b.value.passes a_later (omega arith) at_later,
        gives_numbers g alive places fields bits (length b.x.fields) b.x b.address.passes.t set st w a e b.value a_later,
      ),
    )

  -- entries that are taken change nothing of it
  pub both_further : (bits : ℕ) (w : ℕ → ℕ) (s : CodeState) (a : Field) (e e2 : Draft) → Extended e 0 e2 → (b : BothStand bits w s a e) → Starts g alive b.value.passes.t (length e2.code) e2.regs (length e2.fields) → BothStand bits w s a e2
  unfolding passes_from passes_on
  both_further bits w s a e e2 grown b begins = record {
    x = b.x;
    address = b.address;
    value = record {
      passes = passes_on g alive (length b.x.fields) (length b.x.fields) b.x e e2 b.address.passes.t st (Behind g a e) (Unit {0}) (Behind g a e2) (omega arith) b.value.passes
          (passes_from g alive (length b.x.fields) e e2 e2 b.value.passes.t st (Unit {0}) grown (passes_all g alive (length b.x.fields) e2 b.value.passes.t st (Unit {0}) begins b.value.passes.sim)) (λ later. (later.0, (later.1.0, let behind = later.1.1 in omega (arith, behind, longer)))) (λ later. tt);
      stands = by b.value.stands;
    };
  }
    where
      longer : length e.code ≤ length e2.code
      longer = code_longer e e2 0 grown

      by : Stands g alive bits (length b.x.fields) e set a b.value.passes.t st w → Stands g alive bits (length b.x.fields) e2 set a b.value.passes.t st w
      by (inl own) = inl (record {
        long = own.long;
        own = own.own;
        fits = own.fits;
        ends = own.ends;
        newer = own.newer;
        older = (let more = fields_longer e e2 0 grown in let less = own.older in omega (arith, more, less));
        somewhere = own.somewhere;
        named = own.named;
        before = (let early = own.before in omega (arith, early, longer));
        has = own.has;
      })
      by (inr variable) = inr variable

  -- The send is the instruction that is next, to the field of the variable.
  module _ (of : ℕ) (variable : Variable) (info : VarInfo) (living : alive variable) (dest : Field) (carries : Carries g alive variable info of dest) where
    module _ (bits : ℕ) (w : ℕ → ℕ) (s : CodeState) (a : Field) (e : Draft) (b : BothStand bits w s a e) (i : Instr) (plain : step_of i ≡ Plain i) (names : fields_of i ≡ dest ∷ at ∷ a ∷ []) (within : Within g (with_instr i e)) where
      at_behind : Behind g at e
      at_behind = (length e.code, (names_second g i dest at (a ∷ []) (length e.code) (stands_here g i e within plain) names, omega arith))

      a_behind : Behind g a e
      a_behind = (length e.code, (names_third g i dest at a [] (length e.code) (stands_here g i e within plain) names, omega arith))

      abbrev passes : Passes g alive (length d.fields) d e s st (Unit {0})
      passes = both_pass bits w s a e b at_behind a_behind

      abbrev t : CodeState
      t = passes.t

      numbers : HasNumbers g 32 set at t to × HasNumbers g bits set a t w
      numbers = (both_there bits w s a e b at_behind a_behind).1

      named : IsNamedAt g.unit dest.offset (length e.code)
      named = names_first g i dest (at ∷ a ∷ []) (length e.code) (stands_here g i e within plain) names

      was : HoldsFields g.typed g.image fields.active st t.memory
      was = fields.opens (OpenAmong g alive) t.at st t.memory passes.sim.memory

      small : (q : ℕ) → st.parallel variable 0 q < 2 ^ info.elem.bits
      small q = carries.small st t passes.sim q

      -- the machine has the targets of the source, what is sent, and the variable
      targets_there : HasTargets (shapes g) t.memory (place g at) send
      unfolding positions
      targets_there = record {
        count = ap (λ (xs : List ℕ). position_count xs) (sym (fields.same_extents set numbers.0.exists));
        active = λ p below. flags_of g alive places fields st t set p passes.sim numbers.0.exists below;
        targets = λ p below on. has_words g set at t to numbers.0 p below (flags_of g alive places fields st t set p passes.sim numbers.0.exists below ∙ on);
      }

      value_there : (x : ℕ → ℕ) → ((q : ℕ) → w q % 2 ^ bits ≡ x q) → (p : ℕ) → p < processors (shapes g) a.set → fields.active set p ≡ true → field_number t.memory (place g a) p ≡ x p
      value_there x same p below on =
          let inside = subst (λ (q : ℕ). p < processors (shapes g) q) numbers.1.of_set below in
          numbers.1.are p inside (flags_of g alive places fields st t set p passes.sim numbers.1.exists inside ∙ on) ∙ same p

      variable_there : (p : ℕ) → p < processors (shapes g) dest.set → true ≡ true → field_number t.memory (place g dest) p ≡ st.parallel variable 0 p
      variable_there p below all = carries.numbers st t passes.sim (length e.code) named (let there = passes.at.stands in omega (arith, there)) p (subst (λ (q : ℕ). p < processors (shapes g) q) carries.of_set below)

      sends_leaves : (write : Write) → write.run ≡ place g dest → begun g.image (placed_instr g i) t ≡ Goes (wrote g write t) → (value : ℕ → ℕ) → ((q : ℕ) → value q < 2 ^ info.elem.bits)
          → ((q : ℕ) → q < processors (shapes g) dest.set → field_number (written write t.memory) (place g dest) q ≡ (with_positions variable 0 (λ x. is_sent_to send x) value st).parallel variable 0 q) → Leaves g alive d (with_instr i e) s (with_positions variable 0 (λ x. is_sent_to send x) value st)
      unfolding tests_passed
      sends_leaves write run goes value few has =
          writes_leave g places fields alive variable info of dest carries living d e (with_instr i e) s st (Unit {0}) (tests_passed g alive (length d.fields) d e s st (Unit {0}) (omega arith) passes) tt write
          (instr_writes g i dest (at ∷ a ∷ []) e t write (entry_and_below g places fields alive variable info of dest carries) within passes.at.stands plain names run goes) (λ x. is_sent_to send x) value
          (λ q below. has q (subst (λ (x : ℕ). q < processors (shapes g) x) (sym carries.of_set) below)) few

    -- without an operator
    pub set_leaves : (w : ℕ → ℕ) (s : CodeState) (a : Field) (e : Draft) → BothStand info.elem.bits w s a e → (to_elem from : Elem) → ((q : ℕ) → (w q % 2 ^ info.elem.bits ≡ v q) × (v q < 2 ^ info.elem.bits)) → Within g (with_instr (I.SendWithOverwrite dest to_elem at a) e)
        → Leaves g alive d (with_instr (I.SendWithOverwrite dest to_elem at a) e) s (sent A.Set to_elem from variable send st)
    unfolding sent begun applied after step_of
    set_leaves w s a e b to_elem from same within =
        sends_leaves info.elem.bits w s a e b i refl refl within (overwriting (shapes g) t_here.memory (place g dest) (place g at) (place g a)) refl refl (λ q. received st.winner A.Set to_elem from send (st.parallel variable 0 q) q)
        (λ q. set_few st.winner to_elem from send info.elem.bits (st.parallel variable 0 q) q (λ r. (same r).1) (small info.elem.bits w s a e b i refl refl within q))
        (λ q below. overwriting_sends_store (shapes g) t_here.memory [] (place g dest) (place g at) (place g a) to_elem send st variable (targets_there info.elem.bits w s a e b i refl refl within) (numbers info.elem.bits w s a e b i refl refl within).1.of_set
        (value_there info.elem.bits w s a e b i refl refl within v (λ r. (same r).0)) (λ r below on. subst (λ (x : ℕ). v r < 2 ^ x) (sym carries.len) (same r).1) (was info.elem.bits w s a e b i refl refl within).winner (variable_there info.elem.bits w s a e b i refl refl within) to_elem from q below refl)
      where
        i : Instr
        i = I.SendWithOverwrite dest to_elem at a

        t_here : CodeState
        t_here = t info.elem.bits w s a e b i refl refl within

    -- with an operator that folds
    pub combined_leaves : (op : AssignOp) (o : Op) → assign_op_of op ≡ Some o → folds op ≡ true → (w : ℕ → ℕ) (s : CodeState) (a : Field) (e : Draft) → BothStand 32 w s a e → (to_elem from : Elem) → from.bits ≡ 32 → info.elem.bits ≡ to_elem.bits
        → ((q : ℕ) → (w q % 2 ^ 32 ≡ sent_word o (v q)) × (v q < 2 ^ 32)) → Within g (with_instr (I.SendWithCombiner (fold_of o (is_signed from)) dest to_elem at a) e)
        → Leaves g alive d (with_instr (I.SendWithCombiner (fold_of o (is_signed from)) dest to_elem at a) e) s (sent op to_elem from variable send st)
    unfolding sent begun applied after step_of
    combined_leaves op o is_op folding w s a e b to_elem from wide long same within =
        sends_leaves 32 w s a e b i refl refl within (combining (shapes g) t_here.memory (fold_of o (is_signed from)) (place g dest) to_elem (place g at) (place g a)) refl refl (λ q. received st.winner op to_elem from send (st.parallel variable 0 q) q)
        (λ q. subst (λ (x : ℕ). received st.winner op to_elem from send (st.parallel variable 0 q) q < 2 ^ x) (sym long) (folded_few st.winner op to_elem from send (st.parallel variable 0 q) q folding))
        (λ q below. combining_sends_store (shapes g) t_here.memory [] (place g dest) (place g at) (place g a) send st variable (targets_there 32 w s a e b i refl refl within) op o is_op folding (numbers 32 w s a e b i refl refl within).1.of_set
        (value_there 32 w s a e b i refl refl within (λ r. sent_word o (v r)) (λ r. (same r).0)) (λ r below on. (same r).1) (was 32 w s a e b i refl refl within).winner (variable_there 32 w s a e b i refl refl within) to_elem from wide (carries.len ∙ long) q below refl)
      where
        i : Instr
        i = I.SendWithCombiner (fold_of o (is_signed from)) dest to_elem at a

        t_here : CodeState
        t_here = t 32 w s a e b i refl refl within

  -- the negative of a value stands in a field of its own
  pub both_negated : (w : ℕ → ℕ) (s : CodeState) (a : Field) (e : Draft) → BothStand 32 w s a e → Within g (with_instr (I.Negate (next_field set 32 e) a) (with_entry set 32 W.Own e)) → BothStand 32 (λ q. unary_of U.Minus (w q)) s (next_field set 32 e) (with_instr (I.Negate (next_field set 32 e) a) (with_entry set 32 W.Own e))
  unfolding step_of passes_on passes_from
  both_negated w s a e b within = record {
    x = b.x;
    address = b.address;
    value =
        gives_on g alive 32 (length b.x.fields) (length b.x.fields) b.x e2 (with_instr i e2) b.address.passes.t set st (λ q. unary_of U.Minus (w q)) source (Unit {0}) (omega arith) before (λ later. tt)
        (puts_own g alive places fields 32 (length b.x.fields) set i source e2 before.t st (λ q. unary_of U.Minus (w q)) (fields_longer b.x e b.value.passes.grown.0 b.value.passes.grown.1) (let one = one_more set 32 W.Own e in omega (arith, one))
        (taken g set 32 W.Own e (with_instr i e2) 1 within (and_one g i e2)) (no_home g alive (length e.fields) (length e.fields) (omega arith) b.value.passes.at) refl refl within before.at before.sim (puts_negate g 32 set source a before.t w (omega arith) refl (gives_numbers g alive places fields 32 (length b.x.fields) b.x b.address.passes.t set st w a e b.value a_behind)));
  }
    where
      source : Field
      source = next_field set 32 e

      e2 : Draft
      e2 = with_entry set 32 W.Own e

      i : Instr
      i = I.Negate source a

      a_behind : Behind g a e
      a_behind = (length e2.code, (names_second g i source a [] (length e2.code) (stands_here g i e2 within refl) refl, omega arith))

      before : Passes g alive (length b.x.fields) b.x e2 b.address.passes.t st (Unit {0})
      before = passes_on g alive (length b.x.fields) (length b.x.fields) b.x e e2 b.address.passes.t st (Behind g a e) (Unit {0}) (Unit {0}) (omega arith) b.value.passes
          (passes_from g alive (length b.x.fields) e e2 e2 b.value.passes.t st (Unit {0}) (and_entry set 32 W.Own e) (passes_all g alive (length b.x.fields) e2 b.value.passes.t st (Unit {0}) (starts_entry g alive _ _ b.value.passes.at) b.value.passes.sim)) (λ u. a_behind) (λ u. tt)
