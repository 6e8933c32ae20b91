-- Behind the code of a parallel value, what folds it onto a scalar variable writes registers alone.
use Rattle.std.proofs.Common.{◌≡◌, ◌∙◌, ℕ, ◌+◌, ◌<◌, ◌≤◌, ◌^◌, Bool, false, not, true, [], Option, Some, None, length, slice_index, refl, sym, ap, subst, arith}
use Rattle.std.proofs.lemmas.List.{get_or-set_other}
use Rattle.cstar_base.specs.declared.elem.Elem.{Elem}
use Rattle.cstar_base.specs.Numbers.{converted}
use Rattle.cstar_base.specs.Operators.{divides, outcome}
use Rattle.cstar_tree.specs.declared.syntax.ReduceOp.{ReduceOp}
use Rattle.cstar_tree.specs.declared.syntax.ReduceOp.TheVariants as R
use Rattle.cstar_tree.specs.declared.typed.VarInfo.{VarInfo}
use Rattle.cstar_tree.specs.declared.typed.Variable.{Variable}
use Rattle.lower_base.specs.Drafts.{Draft, Plain, step as step_of, with_instr}
use Rattle.lower_base.specs.Layouts.{register_of}
use Rattle.lower_base.specs.Operators.{machine_of, operation_of, reduce_op_of}
use Rattle.paris_code.specs.declared.instr.Instr.{Instr}
use Rattle.paris_code.specs.declared.instr.Instr.TheVariants as I
use Rattle.paris_code.specs.declared.operands.Field.{Field}
use Rattle.paris_code.specs.Code.{CodeState, Goes, applied, begun, with_register}
use Rattle.paris_code.specs.Fetching.{global_fold}
use Rattle.paris_code.specs.Meaning.{after}
use Rattle.paris_code.specs.Memory.{BitMemory, field_number, processors}
use Rattle.paris_code.specs.Scalar.{operated, rounded}
use Rattle.paris_code.specs.Spans.{IsNamedAt}
use Rattle.lower_comm.specs.Messages.{with_sign}
use Rattle.short_values.specs.Short.{put_back}
use Rattle.source_meaning.specs.Reductions.{folded_into}
use Rattle.source_meaning.specs.State.{State, with_scalar}
use Rattle.constant_trees.proofs.Words.{converted_below}
use Rattle.code_follows.proofs.Following.{HasRegisters, IsScalar, Keeps, Sim, held, keeps_all, keeps_on, register_is, register_kept, register_set, variable_kept}
use Rattle.code_follows.proofs.Growing.{Extended, and_instr, as_it_was, extended}
use Rattle.code_follows.proofs.Numbers.{rounded_is}
use Rattle.code_follows.proofs.Operators.{by_machine, machine_below, machine_same}
use Rattle.code_follows.proofs.Settings.{At, Reaches, Setting, Within, and_one, at_next, begins_here, code_more, earlier, layout, one, onto, placed_instr, regs_more, stay}
use Rattle.code_follows.proofs.Stores.{below_free, sim_begun}
use Rattle.code_follows.proofs.Values.{and_register, with_reg}
use Rattle.code_follows.proofs.Words.{below_bits, held_wide}
use Rattle.fields_follow.specs.Fragment.{assignment_of}
use Rattle.fields_follow.proofs.Folds.{folding}
use Rattle.fields_follow.proofs.Instructions.{HasNumbers, number_in, place, shapes}
use Rattle.fields_follow.proofs.Leaving.{EndsBelow}
use Rattle.fields_follow.proofs.Passing.{Behind, GivesField, Passes, code_longer, flags_of, gives_numbers}
use Rattle.fields_follow.proofs.Places.{HoldsTheFields, IsOwnField, PlacesFields, names_first, stands_here}
use Rattle.fields_follow.proofs.Reducing.{FoldsWords, sign_more, whole}
use Rattle.fields_follow.proofs.Totals.{held_below, onto_is}

-- an operator of a reduction is an operation of the machine on words
operation_is : (r : ReduceOp) (signed : Bool) (a b : ℕ) → operated (operation_of (reduce_op_of r) signed) a b ≡ by_machine (machine_of (reduce_op_of r) signed) a b
unfolding by_machine machine_of reduce_op_of
operation_is R.Add signed a b = refl
operation_is R.Sub signed a b = refl
operation_is R.And signed a b = refl
operation_is R.Xor signed a b = refl
operation_is R.Or signed a b = refl
operation_is R.Min signed a b = refl
operation_is R.Max signed a b = refl

never_divides : (r : ReduceOp) → divides (reduce_op_of r) ≡ false
unfolding divides reduce_op_of
never_divides R.Add = refl
never_divides R.Sub = refl
never_divides R.And = refl
never_divides R.Xor = refl
never_divides R.Or = refl
never_divides R.Min = refl
never_divides R.Max = refl

module _ (r : ReduceOp) (signed : Bool) (a b : ℕ) (few : a < 2 ^ 32) (small : b < 2 ^ 32) where
  operates : operated (operation_of (reduce_op_of r) signed) a b ≡ outcome (reduce_op_of r) 32 (not signed) a b
  operates = operation_is r signed a b ∙ machine_same a b few small (reduce_op_of r) signed (λ is. let no = never_divides r in cc)

  outcome_below : outcome (reduce_op_of r) 32 (not signed) a b < 2 ^ 32
  outcome_below = subst (λ (n : ℕ). n < 2 ^ 32) (sym (operation_is r signed a b) ∙ operates) (machine_below a b few small (machine_of (reduce_op_of r) signed))

module _ (g : Setting) (alive : Variable → Type 0) where
  -- Instructions that write registers alone, none of those that a draft has taken, come to a place of the unit, and then
  -- the registers agree with a state.
  pub record WritesRegisters (d : Draft) (s : CodeState) (u : State) (place : ℕ) (t : CodeState) : Type 0 where
    pub go : Reaches g s t
    pub at : At g t place
    pub sim : Sim g alive u t
    pub keeps : Keeps g d s t
    pub memory : t.memory ≡ s.memory

  -- The code from one draft to another passes, and its last instructions write registers alone, with which it leaves a state.
  pub record LeavesScalars (d : Draft) (s : CodeState) (st u : State) (f : Draft) : Type 0 where
    pub middle : Draft
    pub passes : Passes g alive (length d.fields) d middle s st (Unit {0})
    pub more : (k : ℕ) × Extended middle k f
    pub t : CodeState
    pub writes : WritesRegisters d passes.t u (length f.code) t

  -- own entries that are named before it and behind it have at the end what they had
  pub scalars_stay : (d : Draft) (s : CodeState) (st u : State) (f : Draft) → (given : LeavesScalars d s st u f) → (h : Field) (first last p : ℕ) → h.offset < length d.fields → IsOwnField g h → EndsBelow g h → IsNamedAt g.unit h.offset first → first < length d.code → IsNamedAt g.unit h.offset last → length f.code ≤ last
      → number_in g h given.t p ≡ number_in g h s p
  scalars_stay d s st u f given h first last p below own ends before low behind high =
      ap (λ (m : BitMemory). field_number m (place g h) p) given.writes.memory
      ∙ given.passes.stays tt h first last p below own ends before low behind (let longer = code_longer given.middle f given.more.0 given.more.1 in omega (arith, longer, high))

  module _ (has : HasRegisters g) (d : Draft) (free : g.begins ≤ d.regs) where
    -- one more instruction, which puts a word in a register that is taken behind the draft
    puts_word : (e : Draft) (s t : CodeState) (st : State) (i : Instr) (r w : ℕ) → d.regs ≤ r → r < e.regs → WritesRegisters d s st (length e.code) t → Within g (with_instr i e) → step_of i ≡ Plain i → begun g.image (placed_instr g i) t ≡ Goes (with_register r w t)
        → WritesRegisters d s st (length (with_instr i e).code) (with_register r w t) × (slice_index (with_register r w t).registers r ≡ w)
    puts_word e s t st i r w low high writes within plain puts =
        let regs = regs_more g i e in (
          record {
            go = onto g s t (with_register r w t) writes.go (one g t (with_register r w t) (begins_here g i e t within plain writes.at ∙ puts) refl);
            at = at_next g i e t (t.at + 1) writes.at refl;
            sim = register_set g alive st t r w has (omega (arith, free, low)) writes.sim;
            keeps = keeps_on g d d 0 s t (with_register r w t) (as_it_was d) writes.keeps (register_kept g d t r w has free low (omega (arith, high, regs, within.own)));
            memory = writes.memory;
          },
          register_is g t r w (omega (arith, high, regs, within.regs, writes.sim.registers)),
        )

    -- the sign that is put back in such a register leaves another one
    sign_put : (k : Option Elem) (e : Draft) (s t : CodeState) (st : State) (r w total q old : ℕ) → d.regs ≤ r → r < e.regs → WritesRegisters d s st (length e.code) t → slice_index t.registers r ≡ w → put_back k w ≡ total → (q ≡ r → ⊥) → slice_index t.registers q ≡ old → Within g (with_sign k r e)
        → (last : CodeState) × WritesRegisters d s st (length (with_sign k r e).code) last × (slice_index last.registers q ≡ old) × (slice_index last.registers r ≡ total) × (e.regs ≤ (with_sign k r e).regs)
    unfolding with_sign put_back begun step_of
    sign_put None e s t st r w total q old low high writes is whole other still within = (t, writes, still, is ∙ whole, omega arith)
    sign_put (Some kind) e s t st r w total q old low high writes is whole other still within =
        let done = puts_word e s t st (I.FrontConvert r r kind) r (rounded kind w) low high writes within refl (ap (λ (n : ℕ). Goes (with_register r (rounded kind n) t)) is) in
        let regs = regs_more g (I.FrontConvert r r kind) e in
        (with_register r (rounded kind w) t, done.0, get_or-set_other t.registers r q (rounded kind w) 0 other ∙ still, done.1 ∙ whole, omega (arith, regs))

    module _ (x : Variable) (info : VarInfo) (living : alive x) (scalar : IsScalar g x info) (reduction : ReduceOp) (from : Elem) (wide : from.bits ≡ 32) (dest : ℕ) (f : Field) (k : Option Elem) where
      abbrev own : ℕ
      own = register_of (layout g) x

      abbrev load : Draft → Instr
      load e = I.FrontMove e.regs own

      abbrev loaded : Draft → Draft
      loaded e = with_instr (load e) (with_reg e)

      abbrev fold : Draft → Instr
      fold e = I.Global (folding reduction from.signed) (loaded e).regs f

      abbrev fold_alone : Draft → Draft
      fold_alone e = with_instr (fold e) (with_reg (loaded e))

      abbrev folded_in : Draft → Draft
      folded_in e = with_sign k (loaded e).regs (fold_alone e)

      abbrev operate : Draft → Instr
      operate e = I.FrontOperate (operation_of (reduce_op_of reduction) from.signed) dest e.regs (loaded e).regs

      abbrev operated_in : Draft → Draft
      operated_in e = with_instr (operate e) (folded_in e)

      abbrev convert : Instr
      convert = I.FrontConvert dest dest info.elem

      abbrev converted_in : Draft → Draft
      converted_in e = with_instr convert (operated_in e)

      -- what stands behind the value: the variable's old value, the fold and its sign, the operator, the conversion, the store
      abbrev pub stored_in : Draft → Draft
      stored_in e = with_instr (I.FrontMove own dest) (converted_in e)

      loaded_more : (e : Draft) → (k : ℕ) × Extended e k (with_reg (loaded e))
      loaded_more e = (0 + 1 + 0, extended e (loaded e) (with_reg (loaded e)) (0 + 1) 0 (and_instr (load e) e (with_reg e) 0 (and_register e)) (and_register (loaded e)))

      sign_behind : (e : Draft) → (m : ℕ) × Extended (fold_alone e) m (folded_in e)
      sign_behind e = sign_more k (loaded e).regs 0 (fold_alone e) (fold_alone e) (as_it_was (fold_alone e))

      folded_more : (e : Draft) → (k : ℕ) × Extended (folded_in e) k (stored_in e)
      folded_more e = (1 + 1 + 1, and_instr (I.FrontMove own dest) (folded_in e) (converted_in e) (1 + 1) (and_instr convert (folded_in e) (operated_in e) 1 (and_one g (operate e) (folded_in e))))

      pub stored_more : (e : Draft) → (k : ℕ) × Extended e k (stored_in e)
      stored_more e =
          let before = loaded_more e in
          let behind = folded_more e in
          let sign = sign_more k (loaded e).regs (before.0 + 1) e (fold_alone e) (and_instr (fold e) e (with_reg (loaded e)) before.0 before.1) in
          (sign.0 + behind.0, extended e (folded_in e) (stored_in e) sign.0 behind.0 sign.1 behind.1)

      -- what the variable has then, by its old value and the fold
      abbrev combined : State → ℕ → ℕ
      combined st total = outcome (reduce_op_of reduction) 32 (not from.signed) (held info.elem (st.scalar x)) total

      -- the old value and the fold with its sign stand in registers
      begins : (e : Draft) (t : CodeState) (st : State) (total : ℕ) → d.regs ≤ e.regs → At g t (length e.code) → Sim g alive st t → Within g (folded_in e) → put_back k (global_fold (shapes g) t.memory (folding reduction from.signed) (place g f)) ≡ total
          → (last : CodeState) × WritesRegisters d t st (length (folded_in e).code) last × (slice_index last.registers e.regs ≡ held info.elem (st.scalar x)) × (slice_index last.registers (loaded e).regs ≡ total) × ((loaded e).regs < (folded_in e).regs)
      unfolding begun step_of applied after
      begins e t st total low here sim within is =
          let old : ℕ = held info.elem (st.scalar x) in
          let raw : ℕ = global_fold (shapes g) t.memory (folding reduction from.signed) (place g f) in
          let loaded_regs = regs_more g (load e) (with_reg e) in
          let folded_regs = regs_more g (fold e) (with_reg (loaded e)) in
          let behind_fold = sign_behind e in
          let within_fold : Within g (fold_alone e) = earlier g (fold_alone e) (folded_in e) behind_fold.0 behind_fold.1 within in
          let within_load : Within g (loaded e) = earlier g (loaded e) (fold_alone e) (0 + 1) (and_instr (fold e) (loaded e) (with_reg (loaded e)) 0 (and_register (loaded e))) within_fold in
          let t1 : CodeState = with_register e.regs old t in
          let t2 : CodeState = with_register (loaded e).regs raw t1 in
          let at_first : WritesRegisters d t st (length e.code) t = record { go = stay g t; at = here; sim = sim; keeps = keeps_all g d t; memory = refl } in
          let one_done = puts_word (with_reg e) t t st (load e) e.regs old low (omega arith) at_first within_load refl (ap (λ (w : ℕ). Goes (with_register e.regs w t)) (sim.scalars x info living scalar)) in
          let two_done = puts_word (with_reg (loaded e)) t t1 st (fold e) (loaded e).regs raw (omega (arith, low, loaded_regs)) (omega arith) one_done.0 within_fold refl refl in
          let sign =
          sign_put k (fold_alone e) t t2 st (loaded e).regs raw total e.regs old (omega (arith, low, loaded_regs)) (omega (arith, folded_regs)) two_done.0 two_done.1 is (λ same. omega (arith, same, loaded_regs))
          (get_or-set_other t1.registers (loaded e).regs e.regs raw 0 (λ same. omega (arith, same, loaded_regs)) ∙ one_done.1) within in
          (sign.0, sign.1, sign.2, sign.3, let longer = sign.4 in omega (arith, folded_regs, longer))

      -- the operator on both, the conversion and the store behind them
      ends : (e : Draft) (t t2 : CodeState) (st : State) (total : ℕ) → d.regs ≤ dest → dest < e.regs → WritesRegisters d t st (length (folded_in e).code) t2 → slice_index t2.registers e.regs ≡ held info.elem (st.scalar x) → slice_index t2.registers (loaded e).regs ≡ total → (loaded e).regs < (folded_in e).regs
          → Within g (stored_in e) → total < 2 ^ 32 → (last : CodeState) × WritesRegisters d t (with_scalar x (converted info.elem from (combined st total)) st) (length (stored_in e).code) last
      unfolding begun step_of applied after
      ends e t t2 st total low high folded is_old is_total folded_regs within few =
          let old : ℕ = held info.elem (st.scalar x) in
          let old_few : old < 2 ^ 32 = held_below info.elem (st.scalar x) in
          let new : ℕ = combined st total in
          let number : ℕ = converted info.elem from new in
          let loaded_regs = regs_more g (load e) (with_reg e) in
          let operated_regs = regs_more g (operate e) (folded_in e) in
          let converted_regs = regs_more g convert (operated_in e) in
          let stored_regs = regs_more g (I.FrontMove own dest) (converted_in e) in
          let within4 : Within g (converted_in e) = earlier g (converted_in e) (stored_in e) 1 (and_one g (I.FrontMove own dest) (converted_in e)) within in
          let within3 : Within g (operated_in e) = earlier g (operated_in e) (converted_in e) 1 (and_one g convert (operated_in e)) within4 in
          let t3 : CodeState = with_register dest new t2 in
          let t4 : CodeState = with_register dest (held info.elem number) t3 in
          let t5 : CodeState = with_register own (held info.elem number) t4 in
          let three_done =
          puts_word (folded_in e) t t2 st (operate e) dest new low (omega (arith, high, loaded_regs, folded_regs)) folded within3 refl
          (ap (λ (w : ℕ). Goes (with_register dest (operated (operation_of (reduce_op_of reduction) from.signed) w (slice_index t2.registers (loaded e).regs)) t2)) is_old
          ∙ ap (λ (w : ℕ). Goes (with_register dest (operated (operation_of (reduce_op_of reduction) from.signed) old w) t2)) is_total
          ∙ ap (λ (w : ℕ). Goes (with_register dest w t2)) (operates reduction from.signed old total old_few few)) in
          let new_few : new < 2 ^ 32 = outcome_below reduction from.signed old total old_few few in
          let four_done =
          puts_word (operated_in e) t t3 st convert dest (held info.elem number) low (omega (arith, high, loaded_regs, folded_regs, operated_regs)) three_done.0 within4 refl
          (ap (λ (w : ℕ). Goes (with_register dest (rounded info.elem w) t3)) (three_done.1 ∙ sym (held_wide from new wide new_few))
          ∙ ap (λ (w : ℕ). Goes (with_register dest w t3)) (rounded_is info.elem from new (below_bits from.bits new wide new_few))) in
          let below = below_free g has x info scalar in (
            t5,
            record {
              go = onto g t t4 t5 four_done.0.go (one g t4 t5 (begins_here g (I.FrontMove own dest) (converted_in e) t4 within refl four_done.0.at ∙ ap (λ (w : ℕ). Goes (with_register own w t4)) four_done.1) refl);
              at = at_next g (I.FrontMove own dest) (converted_in e) t4 (t4.at + 1) four_done.0.at refl;
              sim =
                  sim_begun g has x info scalar alive alive (λ y lives other. lives) st t4 number (converted_below info.elem from new)
                  (omega (arith, below, free, low, high, loaded_regs, folded_regs, operated_regs, converted_regs, stored_regs, within.regs, four_done.0.sim.registers)) four_done.0.sim;
              keeps = keeps_on g d d 0 t t4 t5 (as_it_was d) four_done.0.keeps (variable_kept g d t4 x info (held info.elem number) has scalar.0);
              memory = four_done.0.memory;
            },
          )

      stores : (e : Draft) (t : CodeState) (st : State) (total : ℕ) → d.regs ≤ dest → dest < e.regs → At g t (length e.code) → Sim g alive st t → Within g (stored_in e) → put_back k (global_fold (shapes g) t.memory (folding reduction from.signed) (place g f)) ≡ total → total < 2 ^ 32
          → (last : CodeState) × WritesRegisters d t (with_scalar x (converted info.elem from (combined st total)) st) (length (stored_in e).code) last
      stores e t st total low high here sim within is few =
          let behind = folded_more e in
          let h = begins e t st total (omega (arith, low, high)) here sim (earlier g (folded_in e) (stored_in e) behind.0 behind.1 within) is in
          ends e t h.0 st total low high h.1 h.2 h.3 h.4 within few

      module _ (places : PlacesFields g) (fields : HoldsTheFields g) (set : ℕ) (v : ℕ → ℕ) (bits : ℕ) (folds : FoldsWords g alive reduction from.signed places fields set v bits k) where
        -- what the source stores in the variable
        abbrev stores_so : State → ℕ
        stores_so st = folded_into (assignment_of reduction) info.elem from (st.scalar x) (fields.active set) v (processors (shapes g) set)

        -- the value's numbers are words where they are active
        small_there : (t : CodeState) (st : State) → HasNumbers g bits set f t v → Sim g alive st t → (p : ℕ) → p < processors (shapes g) set → fields.active set p ≡ true → v p < 2 ^ 32
        small_there t st h sim p below on = h.small p below (flags_of g alive places fields st t set p sim h.exists below ∙ on)

        -- The fold and the store behind the code that gives the value in a field.
        pub folds_onto : (e : Draft) (s : CodeState) (st : State) (w : ℕ) → (set < length (shapes g) → stores_so st ≡ w) → d.regs ≤ dest → dest < e.regs → GivesField g alive bits (length d.fields) d s set st v f e → Within g (stored_in e) → LeavesScalars d s st (with_scalar x w st) (stored_in e)
        unfolding step_of
        folds_onto e s st w is low high h within = record {
          middle = e;
          passes = record { grown = h.passes.grown; t = h.passes.t; go = h.passes.go; at = h.passes.at; registers = h.passes.registers; sim = h.passes.sim; stays = λ used. h.passes.stays behind };
          more = stored_more e;
          t = done.0;
          writes = subst (λ (n : ℕ). WritesRegisters d h.passes.t (with_scalar x n st) (length (stored_in e).code) done.0)
              (sym (onto_is reduction info.elem from (st.scalar x) (fields.active set) v (processors (shapes g) set) wide (λ p below on. small_there h.passes.t st there h.passes.sim p below on)) ∙ is there.exists) done.1;
        }
          where
            within_fold : Within g (fold_alone e)
            within_fold =
                let x = folded_more e in
                let sign = sign_behind e in
                earlier g (fold_alone e) (folded_in e) sign.0 sign.1 (earlier g (folded_in e) (stored_in e) x.0 x.1 within)

            behind : Behind g f e
            behind = (
              length (with_reg (loaded e)).code,
              (
                names_first g (fold e) f [] (length (with_reg (loaded e)).code) (stands_here g (fold e) (with_reg (loaded e)) within_fold refl) refl,
                (let more = code_more g (load e) (with_reg e) in omega (arith, more)),
              ),
            )

            there : HasNumbers g bits set f h.passes.t v
            there = gives_numbers g alive places fields bits (length d.fields) d s set st v f e h behind

            total : (put_back k (global_fold (shapes g) h.passes.t.memory (folding reduction from.signed) (place g f)) ≡ whole g alive reduction from.signed places fields set v) × (whole g alive reduction from.signed places fields set v < 2 ^ 32)
            total = folds f h.passes.t st there h.passes.sim

            done : (last : CodeState) × WritesRegisters d h.passes.t (with_scalar x (converted info.elem from (combined st (whole g alive reduction from.signed places fields set v))) st) (length (stored_in e).code) last
            done = stores e h.passes.t st (whole g alive reduction from.signed places fields set v) low high h.passes.at.stands h.passes.sim within total.0 total.1
