-- The values that the variables of the file begin with.
use Rattle.std.proofs.Common.{◌≡◌, ◌∙◌, ℕ, zero, suc, ◌+◌, ◌<◌, ◌≤◌, ◌^◌, ◌==◌, Bool, true, false, List, [], ◌∷◌, length, slice_get, slice_index, Some, refl, sym, ap, if◌then◌else◌, arith}
use Rattle.std.specs.List.{All}
use Rattle.std.proofs.lemmas.Bool.{eqb-true}
use Rattle.std.proofs.lemmas.List.{get_or-set_other, get_or-set_same}
use Rattle.std.proofs.Math.ListN.{length-set}
use Rattle.cstar_tree.specs.declared.typed.VarInfo.{VarInfo}
use Rattle.cstar_tree.specs.declared.typed.Variable.TheVariants as V
use Rattle.lower_base.specs.Drafts.{Draft, step as step_of, with_instr}
use Rattle.lower_base.specs.Layouts.{Layout, register_of}
use Rattle.lower_stmt.specs.Programs.{scalar_begun}
use Rattle.paris_code.specs.declared.instr.Instr.TheVariants as I
use Rattle.paris_code.specs.Code.{CodeState, Goes, begun, with_register}
use Rattle.paris_code.specs.Scalar.{rounded}
use Rattle.code_follows.proofs.Growing.{Extended, as_it_was, extended}
use Rattle.code_follows.proofs.Lists.{all_first, all_rest}
use Rattle.code_follows.proofs.Settings.{At, Reaches, Setting, Within, and_one, at_next, begins_here, earlier, one, onto, stay}
use Rattle.code_follows.proofs.Standing.{some_same}
use Rattle.source_meaning.specs.Reductions.{int_type}
use Rattle.code_follows.proofs.Following.{held}
use Rattle.code_follows.proofs.Numbers.{bits_rounded, zero_converted}

-- it begins with a number of its type
abbrev pub Begins : VarInfo → Type 0
Begins info = info.start < 2 ^ info.elem.bits

module _ (l : Layout) where
  -- a variable takes its number, unless it begins with 0
  unfoldable pub start_put : VarInfo → ℕ → Draft → Draft
  start_put info n d = if info.start == 0 then d else scalar_begun l info n d

  unfoldable pub starts_put : List VarInfo → ℕ → Draft → Draft
  starts_put [] n d = d
  starts_put (info ∷ infos) n d = starts_put infos (n + 1) (start_put info n d)

  one_grows : (info : VarInfo) (n : ℕ) (g : Setting) (d : Draft) → (k : ℕ) × Extended d k (start_put info n d)
  unfolding start_put scalar_begun
  one_grows info n g d = by (info.start == 0)
    where
      dest : ℕ
      dest = register_of l (V.File n)

      between : Draft
      between = with_instr (I.FrontConst dest info.start) d

      by : (b : Bool) → (k : ℕ) × Extended d k (if b then d else with_instr (I.FrontConvert dest dest info.elem) between)
      by true = (0, as_it_was d)
      by false = (1 + 1, extended d between (with_instr (I.FrontConvert dest dest info.elem) between) 1 1 (and_one g (I.FrontConst dest info.start) d) (and_one g (I.FrontConvert dest dest info.elem) between))

  pub starts_grow : (infos : List VarInfo) (n : ℕ) (g : Setting) (d : Draft) → (k : ℕ) × Extended d k (starts_put infos n d)
  unfolding starts_put
  starts_grow [] n g d = (0, as_it_was d)
  starts_grow (info ∷ infos) n g d =
      let first = one_grows info n g d in
      let rest = starts_grow infos (n + 1) g (start_put info n d) in
      (first.0 + rest.0, extended d (start_put info n d) (starts_put infos (n + 1) (start_put info n d)) first.0 rest.0 first.1 rest.1)

  module _ (g : Setting) where
    -- a register has a number, and the others what they had
    record Written (r w : ℕ) (s : CodeState) (e : Draft) : Type 0 where
      pub t : CodeState
      pub go : Reaches g s t
      pub at : At g t (length e.code)
      pub registers : length t.registers ≡ length s.registers
      pub is : slice_index t.registers r ≡ w
      pub others : (q : ℕ) → (q ≡ r → ⊥) → slice_index t.registers q ≡ slice_index s.registers q
      pub turns : t.turns ≡ s.turns
      pub output : t.output ≡ s.output
      pub input : t.input ≡ s.input
      pub returns : t.returns ≡ s.returns
      pub memory : t.memory ≡ s.memory

    one_run : (info : VarInfo) (n : ℕ) (d : Draft) (s : CodeState) → Begins info → At g s (length d.code) → Within g (start_put info n d) → n < length s.registers → slice_index s.registers n ≡ 0 → Written n (held info.elem info.start) s (start_put info n d)
    unfolding start_put scalar_begun begun step_of register_of
    one_run info n d s few here within room zero_there = by (info.start == 0) refl within
      where
        between : Draft
        between = with_instr (I.FrontConst n info.start) d

        last : Draft
        last = with_instr (I.FrontConvert n n info.elem) between

        by : (b : Bool) → (info.start == 0) ≡ b → Within g (if b then d else last) → Written n (held info.elem info.start) s (if b then d else last)
        by true none within = record { t = s; go = stay g s; at = here; registers = refl; is = zero_there ∙ sym (ap (held info.elem) (eqb-true info.start 0 none) ∙ zero_converted int_type info.elem); others = λ q apart. refl; turns = refl; output = refl; input = refl; returns = refl; memory = refl }
        by false some within =
            let s1 : CodeState = with_register n info.start s in
            let s2 : CodeState = with_register n (held info.elem info.start) s1 in
            let long : length s1.registers ≡ length s.registers = length-set s.registers n info.start in
            let there : slice_index s1.registers n ≡ info.start = get_or-set_same s.registers n info.start 0 room in
            let word : rounded info.elem (slice_index s1.registers n) ≡ held info.elem info.start = ap (λ (x : ℕ). rounded info.elem x) there ∙ bits_rounded info.elem info.start few in
            let first : Within g between = earlier g between last 1 (and_one g (I.FrontConvert n n info.elem) between) within in
            let at1 : At g s1 (length between.code) = at_next g (I.FrontConst n info.start) d s (s.at + 1) here refl in
            record {
              t = s2;
              go = onto g s s1 s2 (one g s s1 (begins_here g (I.FrontConst n info.start) d s first refl here) refl)
                  (one g s1 s2 (begins_here g (I.FrontConvert n n info.elem) between s1 within refl at1 ∙ ap (λ (x : ℕ). Goes (with_register n x s1)) word) refl);
              at = at_next g (I.FrontConvert n n info.elem) between s1 (s1.at + 1) at1 refl;
              registers = length-set s1.registers n (held info.elem info.start) ∙ long;
              is = get_or-set_same s1.registers n (held info.elem info.start) 0 (omega (arith, room, long));
              others = λ q apart. get_or-set_other s1.registers n q (held info.elem info.start) 0 (λ e. apart e) ∙ get_or-set_other s.registers n q info.start 0 (λ e. apart e);
              turns = refl;
              output = refl;
              input = refl;
              returns = refl;
              memory = refl;
            }

    -- the variables from a number on have their numbers, and the other registers what they had
    pub record Started (infos : List VarInfo) (n : ℕ) (s : CodeState) (e : Draft) : Type 0 where
      pub t : CodeState
      pub go : Reaches g s t
      pub at : At g t (length e.code)
      pub registers : length t.registers ≡ length s.registers
      pub are : (k : ℕ) (info : VarInfo) → slice_get infos k ≡ Some info → slice_index t.registers (n + k) ≡ held info.elem info.start
      pub below : (q : ℕ) → q < n → slice_index t.registers q ≡ slice_index s.registers q
      pub above : (q : ℕ) → n + length infos ≤ q → slice_index t.registers q ≡ slice_index s.registers q
      pub turns : t.turns ≡ s.turns
      pub output : t.output ≡ s.output
      pub input : t.input ≡ s.input
      pub returns : t.returns ≡ s.returns
      pub memory : t.memory ≡ s.memory

    pub starts_run : (infos : List VarInfo) (n : ℕ) (d : Draft) (s : CodeState) → All Begins infos → At g s (length d.code) → Within g (starts_put infos n d) → n + length infos ≤ length s.registers → ((q : ℕ) → n ≤ q → q < n + length infos → slice_index s.registers q ≡ 0) → Started infos n s (starts_put infos n d)
    unfolding starts_put
    starts_run [] n d s all here within room zeros = record { t = s; go = stay g s; at = here; registers = refl; are = λ k info is. none k info is; below = λ q b. refl; above = λ q b. refl; turns = refl; output = refl; input = refl; returns = refl; memory = refl }
      where
        nothing : List VarInfo
        nothing = []

        none : (k : ℕ) (info : VarInfo) → slice_get nothing k ≡ Some info → slice_index s.registers (n + k) ≡ held info.elem info.start
        none k info is = cc
    starts_run (info ∷ infos) n d s all here within room zeros =
        let middle : Draft = start_put info n d in
        let grown = starts_grow infos (n + 1) g middle in
        let first = one_run info n d s (all_first Begins info infos all) here (earlier g middle (starts_put infos (n + 1) middle) grown.0 grown.1 within) (fits (length infos) room) (zeros n (omega arith) (first_of (length infos))) in
        let long = first.registers in
        let rest = starts_run infos (n + 1) middle first.t (all_rest Begins info infos all) first.at within (fits_on (length infos) room (length first.t.registers) long)
        (λ q lo hi. first.others q (λ e. omega (arith, e, lo)) ∙ zeros q (omega (arith, lo)) (inside (length infos) q hi)) in
        record {
          t = rest.t;
          go = onto g s first.t rest.t first.go rest.go;
          at = rest.at;
          registers = rest.registers ∙ long;
          are = λ k other is. each k other is rest.t.registers rest.are (rest.below n (omega arith) ∙ first.is);
          below = λ q b. rest.below q (omega (arith, b)) ∙ first.others q (λ e. omega (arith, e, b));
          above = λ q b. rest.above q (higher (length infos) q b) ∙ first.others q (λ e. over (length infos) q b e);
          turns = rest.turns ∙ first.turns;
          output = rest.output ∙ first.output;
          input = rest.input ∙ first.input;
          returns = rest.returns ∙ first.returns;
          memory = rest.memory ∙ first.memory;
        }
      where
        fits : (k : ℕ) → n + suc k ≤ length s.registers → n < length s.registers
        fits k h = omega (arith, h)

        first_of : (k : ℕ) → n < n + suc k
        first_of k = omega arith

        fits_on : (k : ℕ) → n + suc k ≤ length s.registers → (m : ℕ) → m ≡ length s.registers → n + 1 + k ≤ m
        fits_on k h m long = omega (arith, h, long)

        inside : (k q : ℕ) → q < n + 1 + k → q < n + suc k
        inside k q h = omega (arith, h)

        higher : (k q : ℕ) → n + suc k ≤ q → n + 1 + k ≤ q
        higher k q h = omega (arith, h)

        over : (k q : ℕ) → n + suc k ≤ q → q ≡ n → ⊥
        over k q h e = omega (arith, h, e)

        each : (k : ℕ) (other : VarInfo) → slice_get (info ∷ infos) k ≡ Some other → (registers : List ℕ) → ((k : ℕ) (other : VarInfo) → slice_get infos k ≡ Some other → slice_index registers (n + 1 + k) ≡ held other.elem other.start) → slice_index registers n ≡ held info.elem info.start → slice_index registers (n + k) ≡ held other.elem other.start
        each zero other is registers are here = ap (λ (q : ℕ). slice_index registers q) (nothing_more n) ∙ here ∙ ap (λ (i : VarInfo). held i.elem i.start) (some_same info other is)
          where
            nothing_more : (n : ℕ) → n + 0 ≡ n
            nothing_more n = omega arith
        each (suc k) other is registers are here = ap (λ (q : ℕ). slice_index registers q) (next_is n k) ∙ are k other is
          where
            next_is : (n k : ℕ) → n + suc k ≡ n + 1 + k
            next_is n k = omega arith
