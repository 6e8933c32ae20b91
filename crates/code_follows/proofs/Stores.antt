-- Values that go to a scalar variable: the last instruction writes its register.
use Rattle.std.proofs.Common.{◌≡◌, ◌∙◌, ℕ, ◌+◌, ◌<◌, ◌≤◌, ◌^◌, Bool, true, false, length, slice_index, slice_set, Some, None, refl, sym, ap, subst, if◌then◌else◌, arith}
use Rattle.std.proofs.lemmas.Bool.{eqb-true, eq-eqb}
use Rattle.std.proofs.lemmas.List.{get_or-set_other, get_or-set_same}
use Rattle.std.proofs.Math.ListN.{length-set}
use Rattle.cstar_base.specs.declared.elem.Elem.{Elem}
use Rattle.cstar_tree.specs.declared.typed.VarInfo.{VarInfo}
use Rattle.cstar_tree.specs.declared.typed.Variable.{Variable}
use Rattle.cstar_tree.specs.declared.typed.Variable.TheVariants as V
use Rattle.code_lengths.specs.Naming.{variable_named}
use Rattle.lower_base.specs.declared.emit.Out.{Out}
use Rattle.lower_base.specs.Constants.{first_free}
use Rattle.lower_base.specs.Drafts.{Draft}
use Rattle.lower_base.specs.Layouts.{register_of}
use Rattle.paris_code.specs.Code.{CodeState, with_register}
use Rattle.source_meaning.specs.State.{State, is_same, with_scalar}
use Rattle.source_meaning.specs.Values.{Scalar, Value}
use Rattle.code_follows.proofs.Following.{HasRegisters, IsScalar, Keeps, Sim, held, variable_kept, keeps_on}
use Rattle.code_follows.proofs.Growing.{Extended, as_it_was, extended}
use Rattle.code_follows.proofs.Settings.{OpenAmong, At, Begun, Reaches, Setting, layout, ahead, onto}
use Rattle.code_follows.proofs.Values.{Dest, written_at}
use Rattle.code_follows.proofs.ConstantRegisters.{behind_variables}
use Rattle.code_follows.proofs.Standing.{some_same}
use Rattle.constant_trees.proofs.Words.{converted_below}
use Rattle.cstar_base.specs.Numbers.{converted}
use Rattle.code_follows.proofs.Numbers.{Fits, fits_held}

-- names are the same exactly where they are equal
pub same_is : (x y : Variable) → is_same x y ≡ true → x ≡ y
unfolding is_same
same_is (V.File m) (V.File n) e = ap V.File (eqb-true m n e)
same_is (V.Param m) (V.Param n) e = ap V.Param (eqb-true m n e)
same_is (V.Local m) (V.Local n) e = ap V.Local (eqb-true m n e)
same_is (V.File m) (V.Param n) e = cc
same_is (V.File m) (V.Local n) e = cc
same_is (V.Param m) (V.File n) e = cc
same_is (V.Param m) (V.Local n) e = cc
same_is (V.Local m) (V.File n) e = cc
same_is (V.Local m) (V.Param n) e = cc

pub same_itself : (x : Variable) → is_same x x ≡ true
unfolding is_same
same_itself (V.File m) = eq-eqb m m refl
same_itself (V.Param m) = eq-eqb m m refl
same_itself (V.Local m) = eq-eqb m m refl

module _ (g : Setting) (has : HasRegisters g) (x : Variable) (info : VarInfo) (scalar : IsScalar g x info) where
  abbrev own : ℕ
  own = register_of (layout g) x

  pub before_values : own < first_free (layout g)
  unfolding first_free
  before_values = let b = has.below x info scalar.0 in omega (arith, b)

  pub below_free : own < g.begins
  unfolding first_free
  below_free = let b = has.below x info scalar.0 in let free = has.free in omega (arith, b, free)

  -- the register of the variable takes a number, from then on the variable may be alive, and the code goes on behind the place
  sim_at : (alive later : Variable → Type 0) → ((y : Variable) → later y → is_same x y ≡ false → alive y) → (st : State) (s : CodeState) (w place : ℕ) → s.at ≤ place → w < 2 ^ info.elem.bits → own < length s.registers → Sim g alive st s
      → Sim g later (with_scalar x w st) (record s { at = place; registers = slice_set s.registers own (held info.elem w) })
  unfolding with_scalar
  sim_at alive later before st s w place behind few inside h = record {
    registers = length-set s.registers own (held info.elem w) ∙ h.registers;
    scalars = λ y other living known. by_name y other living known (is_same x y) refl;
    small = λ y other living known. small_name y other living known (is_same x y) refl;
    constants = λ word r is. get_or-set_other s.registers own r (held info.elem w) 0 (λ e. let a = behind_variables (layout g) word r is in let b = has.below x info scalar.0 in omega (arith, e, a, b)) ∙ h.constants word r is;
    turns = h.turns;
    output = h.output;
    input = h.input;
    bytes = h.bytes;
    returns = h.returns;
    few = h.few;
    memory = g.held.still (OpenAmong g later) place st (with_scalar x w st) s.memory ((λ k e p. refl), (λ k is_open e p. refl)) refl (g.held.fewer (OpenAmong g alive) (OpenAmong g later) place st s.memory (λ k is_open. (was_open k is_open.0 is_open.1.0 is_open.1.1.0 is_open.1.1.1.0 is_open.1.1.1.1 (is_same x (V.Local k)) refl, is_open.1)) (g.held.onward (OpenAmong g alive) s.at place st s.memory behind h.memory));
  }
    where
      infos : (y : Variable) (other : VarInfo) → variable_named g.typed g.instance y ≡ Some other → x ≡ y → info ≡ other
      infos y other known e = some_same info other (sym scalar.0 ∙ ap (λ (z : Variable). variable_named g.typed g.instance z) e ∙ known)

      -- a parallel one is another
      was_open : (k : ℕ) → later (V.Local k) → (other : VarInfo) (set : ℕ) → variable_named g.typed g.instance (V.Local k) ≡ Some other → other.shape ≡ Some set → (b : Bool) → is_same x (V.Local k) ≡ b → alive (V.Local k)
      was_open k living other set known parallel false is = before (V.Local k) living is
      was_open k living other set known parallel true is =
          let none : None ≡ Some set = sym scalar.1 ∙ ap (λ (i : VarInfo). i.shape) (infos (V.Local k) other known (same_is x (V.Local k) is)) ∙ parallel in cc

      by_name : (y : Variable) (other : VarInfo) → later y → IsScalar g y other → (b : Bool) → is_same x y ≡ b → slice_index (slice_set s.registers own (held info.elem w)) (register_of (layout g) y) ≡ held other.elem (if is_same x y then w else st.scalar y)
      by_name y other living known true is =
          let e : x ≡ y = same_is x y is in
          ap (λ (z : Variable). slice_index (slice_set s.registers own (held info.elem w)) (register_of (layout g) z)) (sym e) ∙ get_or-set_same s.registers own (held info.elem w) 0 inside
          ∙ ap (λ (i : VarInfo). held i.elem w) (infos y other known.0 e) ∙ ap (λ (b : Bool). held other.elem (if b then w else st.scalar y)) (sym is)
      by_name y other living known false is =
          get_or-set_other s.registers own (register_of (layout g) y) (held info.elem w) 0 (λ e. differs y other known.0 is (sym e)) ∙ h.scalars y other (before y living is) known ∙ ap (λ (b : Bool). held other.elem (if b then w else st.scalar y)) (sym is)
        where
          differs : (y : Variable) (other : VarInfo) → variable_named g.typed g.instance y ≡ Some other → is_same x y ≡ false → own ≡ register_of (layout g) y → ⊥
          differs y other known is e =
              let same : x ≡ y = has.apart x y info other scalar.0 known e in
              let there : is_same x y ≡ true = ap (λ (z : Variable). is_same x z) (sym same) ∙ same_itself x in
              cc

      small_name : (y : Variable) (other : VarInfo) → later y → IsScalar g y other → (b : Bool) → is_same x y ≡ b → (if is_same x y then w else st.scalar y) < 2 ^ other.elem.bits
      small_name y other living known true is =
          let e : x ≡ y = same_is x y is in
          subst (λ (b : Bool). (if b then w else st.scalar y) < 2 ^ other.elem.bits) (sym is) (subst (λ (i : VarInfo). w < 2 ^ i.elem.bits) (infos y other known.0 e) few)
      small_name y other living known false is = subst (λ (b : Bool). (if b then w else st.scalar y) < 2 ^ other.elem.bits) (sym is) (h.small y other (before y living is) known)

  -- at the next instruction
  pub sim_begun : (alive later : Variable → Type 0) → ((y : Variable) → later y → is_same x y ≡ false → alive y) → (st : State) (s : CodeState) (w : ℕ) → w < 2 ^ info.elem.bits → own < length s.registers → Sim g alive st s → Sim g later (with_scalar x w st) (with_register own (held info.elem w) s)
  sim_begun alive later before st s w few inside h = sim_at alive later before st s w (s.at + 1) (omega arith) few inside h

module _ (g : Setting) (has : HasRegisters g) (alive : Variable → Type 0) (x : Variable) (info : VarInfo) (lives : alive x) (scalar : IsScalar g x info) where
  abbrev register : ℕ
  register = register_of (layout g) x

  -- the code arrives behind a draft, where the variable has the value, a number of a type, converted to its own
  pub record IsPut (elem : Elem) (d : Draft) (s : CodeState) (v : Value) (st : State) (out : Out) (e : Draft) : Type 0 where
    pub grown : (n : ℕ) × Extended d n e
    pub t : CodeState
    pub go : Reaches g s t
    pub at : At g t (length e.code)
    pub word : ℕ
    pub value : v ≡ Scalar word
    pub small : word < 2 ^ elem.bits
    pub sim : Sim g alive (with_scalar x (converted info.elem elem word) st) t
    pub keeps : Keeps g d s t

  pub variable_dest : (elem : Elem) (d : Draft) (s0 : CodeState) → Fits info.elem elem → Begun g alive d → Dest g has alive elem d s0 (λ v st out e. IsPut elem d s0 v st out e) register
  variable_dest elem d s0 fits free = record {
    takes = λ e f n k s place st w go begins sim grows keeps more within there here few.
        let low = below_free g has x info scalar in
        let own : ℕ = converted info.elem elem w in
        let inside : register < length s.registers = let taken = grows.regs in let longer = more.regs in omega (arith, low, free, taken, longer, within.regs, sim.registers) in
        let words : held elem w ≡ held info.elem own = fits_held info.elem elem w fits few in
        let t : CodeState = written_at g has alive register (held info.elem own) place s in
        record {
          grown = (n + k, extended d e f n k grows more);
          t = t;
          go = onto g s0 s t go (subst (λ (word : ℕ). Reaches g s (written_at g has alive register word place s)) words there);
          at = here;
          sim = sim_at g has x info scalar alive alive (λ y living other. living) st s own place (ahead g e f k s place more begins here) (converted_below info.elem elem w) inside sim;
          keeps = keeps_on g d d 0 s0 s t (as_it_was d) keeps (variable_kept g d s x info (held info.elem own) has scalar.0);
          word = w;
          value = refl;
          small = few;
        };
  }
