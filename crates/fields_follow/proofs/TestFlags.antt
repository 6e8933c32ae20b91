-- What instructions that test leave in the test flags of a set: all else is as it was.
use Rattle.std.proofs.Common.{◌≡◌, ◌∙◌, ℕ, ◌+◌, ◌%◌, ◌<◌, ◌≤◌, ◌==◌, Bool, true, false, not, [], length, refl, ap, arith, ◌^◌}
use Rattle.std.specs.Int.{from_bool}
use Rattle.cstar_base.specs.declared.operators.Op.{Op}
use Rattle.cstar_base.specs.declared.operators.Op.TheVariants as P
use Rattle.cstar_base.specs.Operators.{outcome}
use Rattle.cstar_tree.specs.declared.typed.Variable.{Variable}
use Rattle.lower_base.specs.declared.operators.Machine.TheVariants as M
use Rattle.lower_base.specs.Drafts.{Draft, Plain, step as step_of, with_instr}
use Rattle.lower_base.specs.Operators.{machine_of, relates}
use Rattle.paris_code.specs.declared.instr.Instr.{Instr}
use Rattle.paris_code.specs.declared.instr.Instr.TheVariants as I
use Rattle.paris_code.specs.declared.operands.Compare.{Compare}
use Rattle.paris_code.specs.declared.operands.Compare.TheVariants as C
use Rattle.paris_code.specs.declared.operands.Field.{Field}
use Rattle.paris_code.specs.Code.{CodeState, Goes, applied, begun}
use Rattle.paris_code.specs.Elementwise.{element}
use Rattle.paris_code.specs.Meaning.{after}
use Rattle.paris_code.specs.Memory.{field_number, is_active, is_tested, processors, test_run}
use Rattle.paris_code.specs.Operators.{comparison_of}
use Rattle.paris_code.specs.Shapes.{bits_at}
use Rattle.paris_code.specs.Writes.{Write, written}
use Rattle.source_meaning.specs.State.{State}
use Rattle.source_meaning.specs.Values.{nonzero}
use Rattle.code_follows.proofs.Besides.{sim_saying}
use Rattle.code_follows.proofs.Growing.{extended}
use Rattle.code_follows.proofs.Settings.{OpenAmong, Setting, Within, and_one, at_next, begins_here, code_more, one_writes, onto, placed_instr}
use Rattle.fields_follow.proofs.Bits.{bits_written, field_apart}
use Rattle.fields_follow.proofs.Fields.{HoldsFields}
use Rattle.fields_follow.proofs.Flags.{above_fields, bit_is, context_under_test, test_taken, written_to}
use Rattle.fields_follow.proofs.Instructions.{HasNumbers, number_in, place, shapes, wrote}
use Rattle.fields_follow.proofs.Leaving.{PassesTests}
use Rattle.fields_follow.proofs.Passing.{Passes}
use Rattle.fields_follow.proofs.PassingTests.{tests_passed}
use Rattle.fields_follow.proofs.Places.{HoldsTheFields, PlacesFields, of_file}
use Rattle.fields_follow.proofs.Starts.{starts_next}
use Rattle.fields_follow.proofs.LocalWrites.{behind_flags}

-- a relation of the machine holds where that of the language does
pub record ComparesAs (op : Op) (signed : Bool) : Type 0 where
  pub relation : Compare
  pub is : machine_of op signed ≡ M.Compare relation
  pub same : (bits a b : ℕ) → outcome (comparison_of relation).0 bits (comparison_of relation).1 a b ≡ outcome op bits (not signed) a b

pub compares : (op : Op) (signed : Bool) → relates op ≡ true → ComparesAs op signed
unfolding machine_of relates outcome
compares P.Eq signed e = record { relation = C.UEq; is = refl; same = λ bits a b. refl }
compares P.Ne signed e = record { relation = C.UNe; is = refl; same = λ bits a b. refl }
compares P.Lt true e = record { relation = C.SLt; is = refl; same = λ bits a b. refl }
compares P.Lt false e = record { relation = C.ULt; is = refl; same = λ bits a b. refl }
compares P.Le true e = record { relation = C.SLe; is = refl; same = λ bits a b. refl }
compares P.Le false e = record { relation = C.ULe; is = refl; same = λ bits a b. refl }
compares P.Gt true e = record { relation = C.SGt; is = refl; same = λ bits a b. refl }
compares P.Gt false e = record { relation = C.UGt; is = refl; same = λ bits a b. refl }
compares P.Ge true e = record { relation = C.SGe; is = refl; same = λ bits a b. refl }
compares P.Ge false e = record { relation = C.UGe; is = refl; same = λ bits a b. refl }
compares _ signed e = cc

pub truth_is : (b : Bool) → from_bool b ≡ from_bool (nonzero (from_bool b))
truth_is true = refl
truth_is false = refl

-- what a relation gives is a truth value
pub is_truth : (op : Op) (bits : ℕ) (unsigned : Bool) (a b : ℕ) → relates op ≡ true → outcome op bits unsigned a b ≡ from_bool (nonzero (outcome op bits unsigned a b))
unfolding relates outcome
is_truth P.Eq bits unsigned a b e = truth_is _
is_truth P.Ne bits unsigned a b e = truth_is _
is_truth P.Lt bits unsigned a b e = truth_is _
is_truth P.Le bits unsigned a b e = truth_is _
is_truth P.Gt bits unsigned a b e = truth_is _
is_truth P.Ge bits unsigned a b e = truth_is _
is_truth _ bits unsigned a b e = cc

module _ (g : Setting) where
  -- an instruction by which the test flag of a set tells, where it is active, whether these numbers are not zero
  pub record PutsTest (set : ℕ) (i : Instr) (s : CodeState) (v : ℕ → ℕ) : Type 0 where
    pub plain : step_of i ≡ Plain i
    pub takes : ℕ → ℕ
    pub value : (p : ℕ) → p < processors (shapes g) set → is_active (shapes g) s.memory set p ≡ true → takes p ≡ from_bool (nonzero (v p))
    pub goes : begun g.image (placed_instr g i) s ≡ Goes (wrote g (written_to (test_run (shapes g) set) (λ p. is_active (shapes g) s.memory set p) takes) s)

  pub puts_compare : (bits set : ℕ) (relation : Compare) (a b : Field) (s : CodeState) (v w u : ℕ → ℕ)
      → ((p : ℕ) → p < processors (shapes g) set → outcome (comparison_of relation).0 bits (comparison_of relation).1 (v p % 2 ^ bits) (w p % 2 ^ bits) ≡ from_bool (nonzero (u p))) → HasNumbers g bits set a s v → HasNumbers g bits set b s w
      → PutsTest set (I.Compare relation a b) s u
  unfolding begun applied after step_of
  puts_compare bits set relation a b s v w u same one other = record {
    plain = refl;
    takes = λ p. element (shapes g) (I.Compare relation (place g a) (place g b)) [] s.memory p;
    value = λ p below active.
        ap (λ (n : ℕ). outcome (comparison_of relation).0 n (comparison_of relation).1 (number_in g a s p) (number_in g b s p)) one.len
        ∙ ap (λ (n : ℕ). outcome (comparison_of relation).0 bits (comparison_of relation).1 n (number_in g b s p)) (one.are p below active)
        ∙ ap (λ (n : ℕ). outcome (comparison_of relation).0 bits (comparison_of relation).1 (v p % 2 ^ bits) n) (other.are p below active)
        ∙ same p below;
    goes = ap (λ (q : ℕ). Goes (wrote g (written_to (test_run (shapes g) q) (λ p. is_active (shapes g) s.memory q p) (λ p. element (shapes g) (I.Compare relation (place g a) (place g b)) [] s.memory p)) s)) one.of_set;
  }

  -- a field of a set is zero where these numbers are, at active positions
  abbrev pub Tells : ℕ → Field → CodeState → (ℕ → ℕ) → Type 0
  Tells set a s v = (a.set ≡ set) × ((p : ℕ) → p < processors (shapes g) set → is_active (shapes g) s.memory set p ≡ true → (number_in g a s p == 0) ≡ (v p == 0))

  pub numbers_tell : (bits set : ℕ) (a : Field) (s : CodeState) (v u : ℕ → ℕ) → ((p : ℕ) → p < processors (shapes g) set → (v p % 2 ^ bits == 0) ≡ (u p == 0)) → HasNumbers g bits set a s v → Tells set a s u
  numbers_tell bits set a s v u same has = (has.of_set, λ p below active. ap (λ (n : ℕ). n == 0) (has.are p below active) ∙ same p below)

  pub puts_nonzero : (set : ℕ) (a : Field) (s : CodeState) (v : ℕ → ℕ) → Tells set a s v → PutsTest set (I.NeZero a) s v
  unfolding begun applied after step_of
  puts_nonzero set a s v tells = record {
    plain = refl;
    takes = λ p. element (shapes g) (I.NeZero (place g a)) [] s.memory p;
    value = λ p below active. ap (λ (b : Bool). from_bool (not b)) (tells.1 p below active);
    goes = ap (λ (q : ℕ). Goes (wrote g (written_to (test_run (shapes g) q) (λ p. is_active (shapes g) s.memory q p) (λ p. element (shapes g) (I.NeZero (place g a)) [] s.memory p)) s)) tells.0;
  }

  pub puts_zero : (set : ℕ) (a : Field) (s : CodeState) (v : ℕ → ℕ) → Tells set a s v → PutsTest set (I.EqZero a) s (λ p. from_bool (v p == 0))
  unfolding begun applied after step_of
  puts_zero set a s v tells = record {
    plain = refl;
    takes = λ p. element (shapes g) (I.EqZero (place g a)) [] s.memory p;
    value = λ p below active. ap (λ (b : Bool). from_bool b) (tells.1 p below active) ∙ truth_is (v p == 0);
    goes = ap (λ (q : ℕ). Goes (wrote g (written_to (test_run (shapes g) q) (λ p. is_active (shapes g) s.memory q p) (λ p. element (shapes g) (I.EqZero (place g a)) [] s.memory p)) s)) tells.0;
  }

  module _ (alive : Variable → Type 0) (fields : HoldsTheFields g) where
    -- The code of a condition leaves what it leaves, and in the test flags where these numbers are not zero.
    pub record LeavesTests (d : Draft) (s : CodeState) (set : ℕ) (st : State) (v : ℕ → ℕ) (e : Draft) : Type 0 where
      pub leaves : PassesTests g alive d e s st (Unit {0})
      pub flags : (p : ℕ) → p < processors (shapes g) set → fields.active set p ≡ true → is_tested (shapes g) leaves.t.memory set p ≡ nonzero (v p)

    -- code of conditions that passes, and an instruction that puts the tests
    pub tested_behind : PlacesFields g → (set : ℕ) (d e : Draft) (i : Instr) (s : CodeState) (st : State) (v : ℕ → ℕ) (used : Type 0) → (p : PassesTests g alive d e s st used) → used → set < length (shapes g) → Within g (with_instr i e) → PutsTest set i p.t v → LeavesTests d s set st v (with_instr i e)
    unfolding written
    tested_behind places set d e i s st v used p wanted exists within puts = record {
      leaves = record {
        grown = (p.grown.0 + 1, extended d e (with_instr i e) p.grown.0 1 p.grown.1 (and_one g i e));
        t = wrote g flag p.t;
        go = onto g s p.t (wrote g flag p.t) p.go (one_writes g p.t (wrote g flag p.t) (begins_here g i e p.t within puts.plain p.at.stands ∙ puts.goes) (λ f q there. still f q there.ends));
        at = starts_next g alive i e p.t (wrote g flag p.t) (at_next g i e p.t (p.t.at + 1) p.at.stands refl) p.at;
        registers = p.registers;
        sim = sim_saying g alive st p.t (p.t.at + 1) (written flag p.t.memory) (fields.closes (OpenAmong g alive) (p.t.at + 1) st (written flag p.t.memory) (record {
          numbers = λ k element q x info is below. still (of_file g k element) x (places.files_end k element q info is) ∙ was.numbers k element q x info is below;
          small = was.small;
          flags = λ q x there below. context_under_test (shapes g) set writes puts.takes p.t.memory x q ∙ was.flags q x there below;
          winner = same_winner;
          bits = bits_written (shapes g) flag p.t.memory was.bits;
        })
            (behind_flags g places (OpenAmong g alive) p.t.at (p.t.at + 1) st p.t.memory (written flag p.t.memory) (omega arith) (λ h q ends. field_apart flag p.t.memory h q (above_fields g places alive fields.active set (bits_at (shapes g) set + 1) h (omega arith) ends)) (fields.locals (OpenAmong g alive) p.t.at st p.t.memory p.sim.memory))) p.sim;
        stays = λ u h first last q below own ends before low after high.
            still (place g h) q ends
            ∙ p.stays wanted h first last q below own ends before low after (let l = code_more g i e in omega (arith, high, l));
      };
      flags = λ q below on.
          let now : is_active (shapes g) p.t.memory set q ≡ true = was.flags set q exists below ∙ on in
          test_taken (shapes g) set writes puts.takes p.t.memory q now ∙ ap (λ (n : ℕ). n % 2 == 1) (puts.value q below now) ∙ bit_is (nonzero (v q));
    }
      where
        was : HoldsFields g.typed g.image fields.active st p.t.memory
        was = fields.opens (OpenAmong g alive) p.t.at st p.t.memory p.sim.memory

        writes : ℕ → Bool
        writes = λ q. is_active (shapes g) p.t.memory set q

        flag : Write
        flag = written_to (test_run (shapes g) set) writes puts.takes

        still : (h : Field) (q : ℕ) → h.offset + h.len ≤ bits_at (shapes g) h.set → field_number (written flag p.t.memory) h q ≡ field_number p.t.memory h q
        still h q ends = field_apart flag p.t.memory h q (above_fields g places alive fields.active set (bits_at (shapes g) set + 1) h (omega arith) ends)

        same_winner : (written flag p.t.memory).winner ≡ st.winner
        same_winner = was.winner

    -- code that passes, and such an instruction
    pub tested_last : PlacesFields g → (bound set : ℕ) (d e : Draft) (i : Instr) (s : CodeState) (st : State) (v : ℕ → ℕ) (used : Type 0) → length d.fields ≤ bound → (p : Passes g alive bound d e s st used) → used → set < length (shapes g) → Within g (with_instr i e) → PutsTest set i p.t v
        → LeavesTests d s set st v (with_instr i e)
    unfolding tests_passed
    tested_last places bound set d e i s st v used less p wanted exists within puts = tested_behind places set d e i s st v used (tests_passed g alive bound d e s st used less p) wanted exists within puts
