-- The constants of a program are put in their registers.
use Rattle.std.proofs.Common.{◌≡◌, ◌∙◌, ℕ, zero, suc, ◌+◌, ◌<◌, ◌≤◌, List, [], ◌∷◌, length, slice_index, refl, ap, arith}
use Rattle.std.proofs.lemmas.List.{get_or-set_other, get_or-set_same}
use Rattle.std.proofs.Math.ListN.{length-set}
use Rattle.lower_base.specs.Drafts.{Draft, step as step_of, with_instr}
use Rattle.lower_stmt.specs.Programs.{constants_put}
use Rattle.paris_code.specs.declared.instr.Instr.TheVariants as I
use Rattle.paris_code.specs.Code.{CodeState, begun, with_register}
use Rattle.code_follows.proofs.Settings.{At, Reaches, Setting, Within, at_next, begins_here, earlier, one, onto, stay}
use Rattle.code_follows.proofs.Units.{constants_extend}

module _ (g : Setting) where
  -- the constants stand in their registers, and nothing else has changed
  pub record Constants (words : List ℕ) (r : ℕ) (s : CodeState) (e : Draft) : Type 0 where
    pub t : CodeState
    pub go : Reaches g s t
    pub at : At g t (length e.code)
    pub registers : length t.registers ≡ length s.registers
    pub below : (q : ℕ) → q < r → slice_index t.registers q ≡ slice_index s.registers q
    pub are : (i : ℕ) → i < length words → slice_index t.registers (r + i) ≡ slice_index words i
    pub turns : t.turns ≡ s.turns
    pub output : t.output ≡ s.output
    pub input : t.input ≡ s.input
    pub returns : t.returns ≡ s.returns
    pub memory : t.memory ≡ s.memory

  pub constants_run : (words : List ℕ) (r : ℕ) (d : Draft) (s : CodeState) → At g s (length d.code) → Within g (constants_put words r d) → r + length words ≤ length s.registers → Constants words r s (constants_put words r d)
  unfolding constants_put begun step_of
  constants_run [] r d s here within room = record { t = s; go = stay g s; at = here; registers = refl; below = λ q b. refl; are = λ i b. absurd (omega (arith, b)); turns = refl; output = refl; input = refl; returns = refl; memory = refl }
  constants_run (w ∷ words) r d s here within room =
      let e : Draft = with_instr (I.FrontConst r w) d in
      let early : Within g e = earlier g e (constants_put words (r + 1) e) (length words) (constants_extend words (r + 1) e) within in
      let s1 : CodeState = with_register r w s in
      let long : length s1.registers ≡ length s.registers = length-set s.registers r w in
      let rest = constants_run words (r + 1) e s1 (at_next g (I.FrontConst r w) d s (s.at + 1) here refl) within (fits (length words) room long) in
      record {
        t = rest.t;
        go = onto g s s1 rest.t (one g s s1 (begins_here g (I.FrontConst r w) d s early refl here) refl) rest.go;
        at = rest.at;
        registers = rest.registers ∙ long;
        below = λ q b. rest.below q (omega (arith, b)) ∙ get_or-set_other s.registers r q w 0 (λ e. omega (arith, e, b));
        are = λ i b. each i rest.t.registers b rest.below rest.are;
        turns = rest.turns;
        output = rest.output;
        input = rest.input;
        returns = rest.returns;
        memory = rest.memory;
      }
    where
      fits : (n : ℕ) → r + suc n ≤ length s.registers → length (with_register r w s).registers ≡ length s.registers → r + 1 + n ≤ length (with_register r w s).registers
      fits n room long = omega (arith, room, long)

      each : (i : ℕ) (t : List ℕ) → i < length (w ∷ words) → ((q : ℕ) → q < r + 1 → slice_index t q ≡ slice_index (with_register r w s).registers q) → ((i : ℕ) → i < length words → slice_index t (r + 1 + i) ≡ slice_index words i) → slice_index t (r + i) ≡ slice_index (w ∷ words) i
      each zero t b below are = ap (λ (q : ℕ). slice_index t q) (here_is r) ∙ below r (omega arith) ∙ get_or-set_same s.registers r w 0 (omega (arith, room_of room))
        where
          here_is : (r : ℕ) → r + 0 ≡ r
          here_is r = omega arith

          room_of : r + length (w ∷ words) ≤ length s.registers → r < length s.registers
          room_of h = roomy (length words) h
            where
              roomy : (n : ℕ) → r + suc n ≤ length s.registers → r < length s.registers
              roomy n h = omega (arith, h)
      each (suc i) t b below are = ap (λ (q : ℕ). slice_index t q) (next_is r i) ∙ are i (fewer (length words) b)
        where
          next_is : (r i : ℕ) → r + suc i ≡ r + 1 + i
          next_is r i = omega arith

          fewer : (n : ℕ) → suc i < suc n → i < n
          fewer n h = omega (arith, h)
