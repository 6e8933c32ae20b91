-- The code of a function's body, from its first statement to where the function is left.
use Rattle.std.proofs.Common.{◌≡◌, ℕ, ◌≤◌, ◌==◌, Bool, true, false, [], List, slice_get, Option, Some, None, refl, sym, ap, subst, if◌then◌else◌, arith}
use Rattle.cstar_compile.specs.Compiled.{IsCompiled}
use Rattle.cstar_tree.specs.declared.typed.Instance.{Instance}
use Rattle.cstar_tree.specs.declared.typed.TStmt.{TStmt}
use Rattle.cstar_tree.specs.declared.typed.Typed.{Typed}
use Rattle.cstar_tree.specs.declared.typed.VarInfo.{VarInfo}
use Rattle.code_lengths.specs.Agreement.{StandsAmong}
use Rattle.code_lengths.specs.Ready.{HasDeclared, IsCodable, IsReadyButForFields, NumbersVariables}
use Rattle.lower_base.specs.Drafts.{Draft, Fails, Made, Makes, then_make}
use Rattle.lower_base.specs.Layouts.{Layout, layout_of}
use Rattle.lower_stmt.specs.declared.statement.Frame.{Frame}
use Rattle.lower_stmt.specs.declared.statement.Outcome.{Outcome as Result}
use Rattle.lower_stmt.specs.declared.statement.Outcome.TheVariants as R
use Rattle.lower_stmt.specs.Frames.{with_end}
use Rattle.lower_stmt.specs.Programs.{body_frame, outcome_of}
use Rattle.lower_stmt.specs.Statements.{ended, ends_in_return}
use Rattle.meaning_laws.proofs.Parts.{behind as state_after}
use Rattle.meaning_laws.proofs.Programs.{calls_grow}
use Rattle.meaning_laws.proofs.Statements.{statement as statement_grows}
use Rattle.paris_code.specs.declared.program.Image.{Image}
use Rattle.paris_code.specs.Code.{CodeState}
use Rattle.source_meaning.specs.Programs.{calls, scope_of}
use Rattle.source_meaning.specs.State as Source
use Rattle.source_meaning.specs.State.{Outcome, State}
use Rattle.source_meaning.specs.Statements.{Broke, Continued, Leaving, Onward, Returned, executed}
use Rattle.source_meaning.specs.Values.{Active, Scope, Value}
use Rattle.code_follows.specs.Fragment.{Beside, IsProgramBeside, OfFileOrParam}
use Rattle.code_follows.proofs.Activations.{activation, registers_there, scalars, words}
use Rattle.code_follows.proofs.Closed.{NoJump}
use Rattle.code_follows.proofs.Endings.{NeverOnward}
use Rattle.code_follows.proofs.Executing.{Exits, Left, LeftSo, Returns}
use Rattle.code_follows.proofs.Following.{Finishes, Follows, HasRegisters}
use Rattle.code_follows.proofs.Regions.{first_declared, all_numbered, all_ready}
use Rattle.code_follows.proofs.Restoring.{restores_none}
use Rattle.code_follows.proofs.Returning.{end_more, left_at_end}
use Rattle.code_follows.proofs.Settings.{OpenAmong, Held, LastsTo, Setting, Within, earlier}
use Rattle.code_follows.proofs.Statements.{StandsHere, StandsIn}
use Rattle.code_follows.proofs.Units.{unit_at, within_all}

-- a result that is scalar, or none, is not parallel
pub not_parallel : (o : Option VarInfo) → ((info : VarInfo) → o ≡ Some info → info.shape ≡ None) → outcome_of o ≡ R.Parallel → ⊥
unfolding outcome_of
not_parallel None scalar is = cc
not_parallel (Some info) scalar is = let none = scalar info refl in let same : outcome_of (Some info) ≡ R.Scalar = ap (λ (o : Option ℕ). elim o as (λ _. Result) [ None ↦ R.Scalar | Some s ↦ R.Parallel ]) none in cc

-- what a function gives back, by how its body is left
unfoldable pub given_back : Leaving → Option Value
given_back (Returned v) = v
given_back Onward = None
given_back Broke = None
given_back Continued = None

module _ (t : Typed) (image : Image) {beside : Beside} (p : IsProgramBeside beside t) (codable : IsCodable t) (compiled : IsCompiled t image) (holding : Held) (number : ℕ) (i : Instance) (is : slice_get t.instances.items number ≡ Some i) (returns : List ℕ) (most : ℕ) where
  abbrev pub g : Setting
  g = activation t image p codable compiled holding number i is returns most

  pub has : HasRegisters g
  has = registers_there t image p codable compiled holding number i is returns most

  abbrev pub own : Layout
  own = layout_of t (words t image p codable compiled) number

  abbrev pub scope : Scope
  scope = scope_of t i (calls t most)

  pub ready : (n : ℕ) (d : Draft) → IsReadyButForFields t i own n d
  ready n d = all_ready t (scalars t image p codable compiled) (words t image p codable compiled) number i is n d

  pub numbered : NumbersVariables i own
  numbered = all_numbered t (scalars t image p codable compiled) (words t image p codable compiled) number i is

  pub declares : (d : Draft) → d.homes ≡ [] → HasDeclared t i own 0 d
  declares d none = first_declared t (scalars t image p codable compiled) (words t image p codable compiled) number i is d none

  abbrev pub frame : Frame
  frame = body_frame (number == 0) i

  -- no jump leads out of it
  abbrev pub exits : Exits
  exits = record { frame = frame; loop = g.held; all = g.held; lives = OfFileOrParam; outer = OfFileOrParam }

  pub framed : StandsIn g frame
  unfolding body_frame
  framed = record { outcome = refl; main = refl; scalar = not_parallel i.result (p.each number i is).result }

  pub among : StandsAmong frame []
  unfolding body_frame
  among = record { loop = omega arith; all = refl }

  pub stands_here : LastsTo g (OpenAmong g OfFileOrParam) g.held 0 → StandsHere g OfFileOrParam exits []
  unfolding body_frame
  stands_here lasts = record { among = among; loop = restores_none g [] 0 refl; all = restores_none g [] 0 refl; after = lasts; next = lasts; lives = λ x h. h; outer = λ x h. h }

  pub falls : (active : Active) (s : TStmt) (n : ℕ) (st : State) → (state_after (executed scope s n active st)).turns ≤ st.turns
  unfolding scope_of
  falls active s n st = ((statement_grows 0 most scope (calls t most) (calls t most) (calls_grow t most) s n active).first st).0

  -- the code of the body is of the unit, and where the body is left at its end the function's last
  -- instruction stands behind it
  pub record EndsSo (o : Outcome Leaving) (e : Draft) : Type 0 where
    pub inside : Within g e
    pub last : (u : State) → o ≡ Source.Gives Onward u → Within g (with_end g.is_main e)

  pub ends_by : (o : Outcome Leaving) (e : Draft) → ended (number == 0) i.body e ≡ unit_at t image (scalars t image p codable compiled) codable compiled number i is → (ends_in_return i.body ≡ true → NeverOnward o) → EndsSo o e
  unfolding NeverOnward ended
  ends_by o e unit never = by (ends_in_return i.body) unit never
    where
      by : (b : Bool) → (if b then e else with_end (number == 0) e) ≡ unit_at t image (scalars t image p codable compiled) codable compiled number i is → (b ≡ true → NeverOnward o) → EndsSo o e
      by true unit never = record {
        inside = subst (λ (d : Draft). Within g d) (sym unit) (within_all t image (scalars t image p codable compiled) codable compiled number i is g.spared returns most g.may holding);
        last = λ u is. absurd (subst NeverOnward is (never refl));
      }
      by false unit never =
          let whole : Within g (with_end g.is_main e) = subst (λ (d : Draft). Within g d) (sym unit) (within_all t image (scalars t image p codable compiled) codable compiled number i is g.spared returns most g.may holding) in
          record { inside = earlier g e (with_end g.is_main e) 1 (end_more g e) whole; last = λ u is. whole }

  -- the code comes to where the function is left, or the run ends before
  unfoldable pub RunsFunction : CodeState → Outcome Leaving → Type 0
  RunsFunction s (Source.Gives leaving u) = Returns g OfFileOrParam g.held s u (given_back leaving)
  RunsFunction s (Source.Ends early u) = Finishes g early u s

  pub runs_function : (d e : Draft) (n : ℕ) (s : CodeState) (o : Outcome Leaving) → EndsSo o e → NoJump o → Follows g (Left g OfFileOrParam exits d s) s o (Makes n e) → RunsFunction s o
  unfolding Follows RunsFunction LeftSo NoJump given_back
  runs_function d e n s (Source.Gives Onward u) so closed follows = left_at_end g OfFileOrParam d e s u (so.last u refl) (follows so.inside)
  runs_function d e n s (Source.Gives Broke u) so closed follows = absurd closed
  runs_function d e n s (Source.Gives Continued u) so closed follows = absurd closed
  runs_function d e n s (Source.Gives (Returned v) u) so closed follows = follows so.inside
  runs_function d e n s (Source.Ends early u) so closed follows = follows so.inside

  -- what has code of the body, and a body whose code is made
  pub record BodyMade (made : Made ℕ) : Type 0 where
    pub n : ℕ
    pub e : Draft
    pub is_made : made ≡ Makes n e
    pub unit : ended (number == 0) i.body e ≡ unit_at t image (scalars t image p codable compiled) codable compiled number i is

  pub body_made : (made : Made ℕ) → then_make made (λ n e. Makes (tt {0}) (ended (number == 0) i.body e)) ≡ Makes (tt {0}) (unit_at t image (scalars t image p codable compiled) codable compiled number i is) → BodyMade made
  unfolding then_make
  body_made (Makes n e) is_unit = record { n = n; e = e; is_made = refl; unit = ap (λ (m : Made (Unit {0})). elim m as (λ _. Draft) [ Makes u x ↦ x | Fails ↦ e ]) is_unit }
  body_made Fails is_unit = cc
