-- The next byte of the input, in a register of a value and in that of a variable.
use Rattle.std.proofs.Common.{◌≡◌, ◌∙◌, ℕ, suc, ◌+◌, ◌<◌, ◌^◌, ◌-◌, Bool, List, [], ◌∷◌, length, refl, sym, ap, subst, arith}
use Rattle.cstar_base.specs.declared.elem.Elem.{Elem}
use Rattle.cstar_tree.specs.declared.typed.VarInfo.{VarInfo}
use Rattle.cstar_tree.specs.declared.typed.Variable.{Variable}
use Rattle.lower_base.specs.declared.emit.Out.{Out}
use Rattle.lower_base.specs.declared.emit.Out.TheVariants as O
use Rattle.lower_base.specs.Drafts.{Draft, Makes, a_register, step as step_of, then_make, with_instr}
use Rattle.lower_base.specs.Layouts.{register_of}
use Rattle.lower_expr.specs.Values.{byte_in}
use Rattle.paris_code.specs.declared.instr.Instr.{Instr}
use Rattle.paris_code.specs.declared.instr.Instr.TheVariants as I
use Rattle.paris_code.specs.Code as Machine
use Rattle.paris_code.specs.Code.{CodeState, begun, given, with_register}
use Rattle.source_meaning.specs.Expressions.{next_byte}
use Rattle.source_meaning.specs.State as Source
use Rattle.source_meaning.specs.State.{Outcome, State}
use Rattle.source_meaning.specs.Values.{Scalar, Value}
use Rattle.code_follows.specs.Agreement.{AreBytes, mark_of}
use Rattle.code_follows.proofs.Following.{Follows, HasRegisters, IsScalar, Sim, arrives_fresh, held, register_is, register_kept, register_set, variable_kept}
use Rattle.code_follows.proofs.Growing.{extended}
use Rattle.code_follows.proofs.Settings.{OpenAmong, At, Begun, Reaches, Setting, Within, and_one, at_next, begins_here, ends_now, layout, one, placed_instr, regs_more}
use Rattle.code_follows.proofs.Stores.{IsPut, below_free, sim_begun}
use Rattle.code_follows.proofs.Values.{Does, Value_of, and_register, with_reg}
use Rattle.constant_trees.proofs.Words.{converted_below}
use Rattle.cstar_base.specs.Numbers.{converted}
use Rattle.code_follows.proofs.Numbers.{Fits, fits_held}
use Rattle.code_follows.proofs.Words.{below_bits, held_wide}

-- the bytes behind the first one
more_bytes : (byte : ℕ) (more : List ℕ) → AreBytes (byte ∷ more) → AreBytes more
more_bytes byte more all k other within = all (suc k) other (later k (length more) within)
  where
    later : (k n : ℕ) → k < n → suc k < suc n
    later k n h = omega (arith, h)

-- a byte is a word
first_byte : (byte : ℕ) (more : List ℕ) → AreBytes (byte ∷ more) → byte < 2 ^ 32
first_byte byte more all = let few : byte < 2 ^ 8 = all 0 byte (omega arith) in omega (arith, few)

module _ (g : Setting) (has : HasRegisters g) (alive : Variable → Type 0) where
  -- the state of the code with another rest of the input
  abbrev reading : Machine.Rest → CodeState → CodeState
  reading rest s = record s { input = rest }

  sim_read : (byte : ℕ) (more : List ℕ) (st : State) (s : CodeState) → st.input ≡ byte ∷ more → Sim g alive st s → Sim g alive (record st { input = more }) (reading (record { bytes = more; mark = mark_of st.rest }) s)
  sim_read byte more st s is h = record {
    registers = h.registers;
    scalars = h.scalars;
    small = h.small;
    constants = h.constants;
    turns = h.turns;
    output = h.output;
    input = refl;
    returns = h.returns;
    few = h.few;
    memory = g.held.still (OpenAmong g alive) s.at st (record st { input = more }) s.memory ((λ k e p. refl), (λ k is_open e p. refl)) refl h.memory;
    bytes = more_bytes byte more (subst (λ (xs : List ℕ). AreBytes xs) is h.bytes);
  }

  given_so : (r : ℕ) (st : State) (s : CodeState) (bytes : List ℕ) (rest : Source.Rest) → st.input ≡ bytes → st.rest ≡ rest → Sim g alive st s → begun g.image (placed_instr g (I.FrontGetByte r)) s ≡ given r s bytes (mark_of rest)
  unfolding begun
  given_so r st s bytes rest one two h =
      ap (λ (i : Machine.Rest). given r s i.bytes i.mark) h.input ∙ ap (λ (xs : List ℕ). given r s xs (mark_of st.rest)) one ∙ ap (λ (q : Source.Rest). given r s bytes (mark_of q)) two

  -- what is said of a register behind the instruction that reads a byte into it
  reads : (r : ℕ) (e : Draft) (s : CodeState) (st : State) (R : Value → State → Out → Draft → Type 0) → At g s (length e.code) → Sim g alive st s
      → ((w : ℕ) (rest : Machine.Rest) (v : State) → w < 2 ^ 32 → Sim g alive v (reading rest s) → Within g (with_instr (I.FrontGetByte r) e) → Reaches g s (with_register r w (reading rest s)) → R (Scalar w) v (O.Scalar r) (with_instr (I.FrontGetByte r) e))
      → Follows g R s (next_byte st) (Makes (O.Scalar r) (with_instr (I.FrontGetByte r) e))
  unfolding next_byte Follows step_of
  reads r e s st R here sim next = by st.input st.rest refl refl
    where
      by : (bytes : List ℕ) (rest : Source.Rest) → st.input ≡ bytes → st.rest ≡ rest
          → Follows g R s (elim bytes as (λ _. Outcome Value) [
            | byte ∷ input ↦ Source.Gives (Scalar byte) (record st { input = input })
            | [] ↦ elim rest as (λ _. Outcome Value) [ Source.InputEnds ↦ Source.Gives (Scalar (2 ^ 32 - 1)) st | Source.InputFails ↦ Source.Ends Source.InputBroken st ]
          ]) (Makes (O.Scalar r) (with_instr (I.FrontGetByte r) e))
      by (byte ∷ more) rest one_is two_is = λ within.
          next byte (record { bytes = more; mark = mark_of st.rest }) (record st { input = more }) (first_byte byte more (subst (λ (xs : List ℕ). AreBytes xs) one_is sim.bytes)) (sim_read byte more st s one_is sim) within
          (one g s (with_register r byte (reading (record { bytes = more; mark = mark_of st.rest }) s)) (begins_here g (I.FrontGetByte r) e s within refl here ∙ given_so r st s (byte ∷ more) st.rest one_is refl sim) refl)
      by [] Source.InputEnds one_is two_is = λ within.
          next (2 ^ 32 - 1) s.input st (omega arith) sim within (one g s (with_register r (2 ^ 32 - 1) s) (begins_here g (I.FrontGetByte r) e s within refl here ∙ given_so r st s [] Source.InputEnds one_is two_is sim) refl)
      by [] Source.InputFails one_is two_is = λ within.
          record {
            t = Machine.onward s;
            ends = ends_now g s (Machine.onward s) Machine.InputBroken (begins_here g (I.FrontGetByte r) e s within refl here ∙ given_so r st s [] Source.InputFails one_is two_is sim);
            turns = sim.turns;
            output = sim.output;
            input = sim.input;
            memory = g.held.finally (OpenAmong g alive) s.at st s.memory sim.memory;
          }

  -- the byte as a value
  pub byte_follows : (elem : Elem) (quiet : Bool) → elem.bits ≡ 32 → Does g has alive elem quiet next_byte byte_in
  unfolding byte_in a_register then_make
  byte_follows elem quiet wide d s st free here sim =
      reads d.regs (with_reg d) s st (Value_of g has alive elem quiet d s) here sim (λ w rest v few later within go.
      let instr : Instr = I.FrontGetByte d.regs in
      let regs = regs_more g instr (with_reg d) in
      let inside : d.regs < length s.registers = omega (arith, regs, within.regs, sim.registers) in
      arrives_fresh g alive elem quiet d (with_instr instr (with_reg d)) s (with_register d.regs w (reading rest s)) v d.regs w
      (0 + 1, extended d (with_reg d) (with_instr instr (with_reg d)) 0 1 (and_register d) (and_one g instr (with_reg d))) go (at_next g instr (with_reg d) s (s.at + 1) here refl)
      (register_set g alive v (reading rest s) d.regs w has free.regs later) (register_kept g d s d.regs w has free.regs (omega arith) (omega (arith, regs, within.own)))
      free.regs (omega (arith, regs)) (below_bits elem.bits w wide few) (register_is g s d.regs w inside ∙ sym (held_wide elem w wide few)))

  -- the byte in a variable
  module _ (x : Variable) (info : VarInfo) (living : alive x) (scalar : IsScalar g x info) where
    abbrev own : ℕ
    own = register_of (layout g) x

    pub byte_put : (elem : Elem) → elem.bits ≡ 32 → Fits info.elem elem → (d : Draft) (s : CodeState) (st : State) → Begun g alive d → At g s (length d.code) → Sim g alive st s
        → Follows g (λ v u out e. IsPut g has alive x info living scalar elem d s v u out e) s (next_byte st) (Makes (O.Scalar own) (with_instr (I.FrontGetByte own) d))
    byte_put elem wide fits d s st free here sim =
        reads own d s st (λ v u out e. IsPut g has alive x info living scalar elem d s v u out e) here sim (λ w rest v few later within go.
        let instr : Instr = I.FrontGetByte own in
        let regs = regs_more g instr d in
        let low = below_free g has x info scalar in
        let inside : own < length s.registers = omega (arith, low, free, regs, within.regs, sim.registers) in
        let small : w < 2 ^ elem.bits = below_bits elem.bits w wide few in
        let number : ℕ = converted info.elem elem w in
        let words : held info.elem number ≡ w = sym (fits_held info.elem elem w fits small) ∙ held_wide elem w wide few in
        record {
          grown = (1, and_one g instr d);
          t = with_register own (held info.elem number) (reading rest s);
          go = subst (λ (k : ℕ). Reaches g s (with_register own k (reading rest s))) (sym words) go;
          at = at_next g instr d s (s.at + 1) here refl;
          word = w;
          value = refl;
          small = small;
          sim = sim_begun g has x info scalar alive alive (λ y later other. later) v (reading rest s) number (converted_below info.elem elem w) inside later;
          keeps = variable_kept g d s x info (held info.elem number) has scalar.0;
        })
