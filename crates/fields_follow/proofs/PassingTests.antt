-- Code of conditions as it grows.
use Rattle.std.proofs.Common.{◌∙◌, ℕ, ◌+◌, ◌≤◌, length, arith}
use Rattle.cstar_tree.specs.declared.typed.Variable.{Variable}
use Rattle.lower_base.specs.Drafts.{Draft}
use Rattle.paris_code.specs.declared.program.Owner.TheVariants as W
use Rattle.paris_code.specs.Code.{CodeState}
use Rattle.source_meaning.specs.State.{State}
use Rattle.code_follows.proofs.Following.{keeps_on}
use Rattle.code_follows.proofs.Growing.{extended}
use Rattle.code_follows.proofs.Settings.{Setting, onto}
use Rattle.fields_follow.proofs.Leaving.{PassesTests}
use Rattle.fields_follow.proofs.Passing.{Passes, code_longer, fields_longer}
use Rattle.fields_follow.proofs.Values.{and_entry, with_entry}
use Rattle.fields_follow.proofs.Starts.{starts_entry}

module _ (g : Setting) (alive : Variable → Type 0) where
  -- code that leaves test flags too
  unfoldable pub tests_passed : (bound : ℕ) (d e : Draft) (s : CodeState) (st : State) (used : Type 0) → length d.fields ≤ bound → Passes g alive bound d e s st used → PassesTests g alive d e s st used
  tests_passed bound d e s st used less p = record {
    grown = p.grown;
    t = p.t;
    go = p.go;
    at = p.at;
    registers = p.registers;
    sim = p.sim;
    stays = λ wanted h first last q below own ends before low after high. p.stays wanted h first last q (omega (arith, below, less)) own ends before low after high;
  }

  -- code of conditions leaves what code of values does
  abbrev pub passes_of : (bound : ℕ) (d e : Draft) (s : CodeState) (st : State) (used : Type 0) → bound ≤ length d.fields → PassesTests g alive d e s st used → used → Passes g alive bound d e s st (Unit {0})
  passes_of bound d e s st used less p wanted = record {
    grown = p.grown;
    t = p.t;
    go = p.go;
    at = p.at;
    registers = p.registers;
    sim = p.sim;
    stays = λ u h first last q below own ends before low after high. p.stays wanted h first last q (omega (arith, below, less)) own ends before low after high;
  }

  -- one piece, and another behind it
  unfoldable pub tests_on : (d e f : Draft) (s : CodeState) (st : State) (one two both : Type 0) → (a : PassesTests g alive d e s st one) → PassesTests g alive e f a.t st two → (both → one) → (both → two) → PassesTests g alive d f s st both
  tests_on d e f s st one two both a b use_one use_two = record {
    grown = (a.grown.0 + b.grown.0, extended d e f a.grown.0 b.grown.0 a.grown.1 b.grown.1);
    t = b.t;
    go = onto g s a.t b.t a.go b.go;
    at = b.at;
    registers = keeps_on g d e a.grown.0 s a.t b.t a.grown.1 a.registers b.registers;
    sim = b.sim;
    stays = λ wanted h first last p below own ends before low after high.
        b.stays (use_two wanted) h first last p (let l = fields_longer d e a.grown.0 a.grown.1 in omega (arith, below, l)) own ends before (let l = code_longer d e a.grown.0 a.grown.1 in omega (arith, low, l)) after high
        ∙ a.stays (use_one wanted) h first last p below own ends before low after (let l = code_longer e f b.grown.0 b.grown.1 in omega (arith, high, l));
  }

  -- an entry that is taken behind it is no part of the code
  unfoldable pub tests_and_entry : (set len : ℕ) (d e : Draft) (s : CodeState) (st : State) (used : Type 0) → PassesTests g alive d e s st used → PassesTests g alive d (with_entry set len W.Own e) s st used
  tests_and_entry set len d e s st used a = record {
    grown = (a.grown.0 + 0, extended d e (with_entry set len W.Own e) a.grown.0 0 a.grown.1 (and_entry set len W.Own e));
    t = a.t;
    go = a.go;
    at = (starts_entry g alive _ _ a.at);
    registers = a.registers;
    sim = a.sim;
    stays = a.stays;
  }
