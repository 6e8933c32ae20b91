-- The jump back to the turn of a loop, behind its condition or where it has none.
use Rattle.std.proofs.Common.{◌≡◌, ℕ, ◌+◌, ◌≤◌, Bool, true, false, length, Option, Some, None, refl, ap, subst, arith}
use Rattle.std.specs.Prelude.{IfSome}
use Rattle.cstar_tree.specs.declared.typed.TExpr.{TExpr}
use Rattle.cstar_tree.specs.declared.typed.Variable.TheVariants as V
use Rattle.cstar_tree.specs.declared.typed.Variable.{Variable}
use Rattle.code_lengths.specs.Ready.{HasCode, HasDeclared, IsReadyButForFields}
use Rattle.lower_base.specs.Drafts.{Draft, Made, Makes, step as step_of, then_make, with_instr}
use Rattle.lower_expr.specs.Lengths.{used_length_of}
use Rattle.lower_stmt.specs.Lengths.{condition_length_of}
use Rattle.lower_stmt.specs.Statements.{jump_back_of}
use Rattle.paris_code.specs.declared.instr.Instr.TheVariants as I
use Rattle.paris_code.specs.Code.{CodeState}
use Rattle.source_meaning.specs.State as Source
use Rattle.source_meaning.specs.State.{Outcome, State}
use Rattle.source_meaning.specs.Statements.{passes, passes_or_absent}
use Rattle.source_meaning.specs.Values.{Active, Scope}
use Rattle.code_follows.specs.Fragment.{IsTested, naming}
use Rattle.code_follows.proofs.Callees.{CallsFollow}
use Rattle.code_follows.proofs.Executing.{Jumped, TestMade, Tested, test_follows, test_made}
use Rattle.code_follows.proofs.Following.{Finishes, Follows, HasRegisters, Sim, keeps_all}
use Rattle.code_follows.proofs.Growing.{Extended, extended}
use Rattle.code_follows.proofs.Jumping.{jumps, moved_to, returns_to, sim_landed, sim_moved}
use Rattle.code_follows.proofs.Settings.{AreNamedBefore, OpenAmong, At, Begun, Setting, Within, and_one, code_more, earlier, layout, onto, stands_here, start}

module _ (g : Setting) (alive : Variable → Type 0) where
  -- where a condition passes the code is at the turn, and else behind the loop
  unfoldable pub Leads : Draft → ℕ → ℕ → CodeState → Outcome Bool → Type 0
  Leads d turn behind s (Source.Gives true u) = Jumped g alive g.held d s u turn
  Leads d turn behind s (Source.Gives false u) = Jumped g alive g.held d s u behind
  Leads d turn behind s (Source.Ends early u) = Finishes g early u s

  module _ (has : HasRegisters g) (files : (k : ℕ) → alive (V.File k)) (n : ℕ) (ready : (d : Draft) → IsReadyButForFields g.typed g.instance (layout g) n d) (scope : Scope) (active : Active) (calls_follow : CallsFollow g scope active) where
    -- the code of the jump back is made, and leads where it should
    pub record BackMade (test : Option TExpr) (turn : ℕ) (d : Draft) : Type 0 where
      pub e : Draft
      pub is : jump_back_of g.typed (layout g) test turn d ≡ Makes tt e
      pub extended : Extended d (condition_length_of g.typed (layout g) test + 1) e
      pub leads : Begun g alive d → g.from ≤ turn → AreNamedBefore g (OpenAmong g alive) turn → Within g e → (s : CodeState) (st : State) → At g s (length d.code) → Sim g alive st s → Leads d turn (length e.code) s (passes_or_absent scope active test st)

    tested_leads : (d tested : Draft) (r turn : ℕ) (s : CodeState) (o : Outcome Bool) → g.from ≤ turn → AreNamedBefore g (OpenAmong g alive) turn → Within g (with_instr (I.FrontJumpNonzero r turn) tested) → Follows g (Tested g alive d s) s o (Makes r tested)
        → Leads d turn (length (with_instr (I.FrontJumpNonzero r turn) tested).code) s o
    unfolding Leads Follows step_of
    tested_leads d tested r turn s (Source.Gives true u) low named within h =
        let t = h (earlier g tested (with_instr (I.FrontJumpNonzero r turn) tested) 1 (and_one g (I.FrontJumpNonzero r turn) tested) within) in
        record {
          t = moved_to g alive (turn + start g) t.t;
          go = onto g s t.t (moved_to g alive (turn + start g) t.t) t.go (returns_to g alive true r turn tested t.t t.is within t.at);
          at = omega arith;
          sim = sim_landed g alive u t.t (length tested.code) turn (I.FrontJumpNonzero r turn) t.at (stands_here g (I.FrontJumpNonzero r turn) tested within refl) refl (calls_follow.lasts (OpenAmong g alive) turn low named) t.sim;
          keeps = t.keeps;
        }
    tested_leads d tested r turn s (Source.Gives false u) low named within h =
        let t = h (earlier g tested (with_instr (I.FrontJumpNonzero r turn) tested) 1 (and_one g (I.FrontJumpNonzero r turn) tested) within) in
        let place = t.at in
        let more = code_more g (I.FrontJumpNonzero r turn) tested in
        record {
          t = moved_to g alive (t.t.at + 1) t.t;
          go = onto g s t.t (moved_to g alive (t.t.at + 1) t.t) t.go (returns_to g alive false r turn tested t.t t.is within t.at);
          at = omega (arith, place, more);
          sim = sim_moved g alive u t.t (t.t.at + 1) (omega arith) t.sim;
          keeps = t.keeps;
        }
    tested_leads d tested r turn s (Source.Ends early u) low named within h = h (earlier g tested (with_instr (I.FrontJumpNonzero r turn) tested) 1 (and_one g (I.FrontJumpNonzero r turn) tested) within)

    pub back_made : (test : Option TExpr) (turn : ℕ) (d : Draft) → IsTested (naming g.may alive) test → IfSome test (HasCode g.typed g.instance n) → (m : ℕ) → n ≤ m → HasDeclared g.typed g.instance (layout g) m d → BackMade test turn d
    unfolding IsTested jump_back_of condition_length_of passes_or_absent then_make Leads step_of
    back_made None turn d isin c m less known = record {
      e = with_instr (I.FrontJump turn) d;
      is = refl;
      extended = and_one g (I.FrontJump turn) d;
      leads = λ free low named within s st here sim. record {
        t = moved_to g alive (turn + start g) s;
        go = jumps g alive turn d s within here;
        at = omega arith;
        sim = sim_landed g alive st s (length d.code) turn (I.FrontJump turn) here (stands_here g (I.FrontJump turn) d within refl) refl (calls_follow.lasts (OpenAmong g alive) turn low named) sim;
        keeps = keeps_all g d s;
      };
    }
    back_made (Some test) turn d isin c m less known = by (test_made g alive has files n ready scope active calls_follow test d isin c m less known)
      where
        by : TestMade g alive has files n ready scope active calls_follow test d m → BackMade (Some test) turn d
        by made = record {
          e = with_instr (I.FrontJumpNonzero made.r turn) made.e;
          is = ap (λ (m : Made ℕ). then_make m (λ r after. Makes tt (with_instr (I.FrontJumpNonzero r turn) after))) made.is;
          extended = extended d made.e (with_instr (I.FrontJumpNonzero made.r turn) made.e) (used_length_of g.typed (layout g) 32 true test) 1 made.extended (and_one g (I.FrontJumpNonzero made.r turn) made.e);
          leads = λ free low named within s st here sim. tested_leads d made.e made.r turn s (passes scope active test st) low named within
              (subst (λ (m : Made ℕ). Follows g (Tested g alive d s) s (passes scope active test st) m) made.is (test_follows g alive has files n ready scope active calls_follow test isin c d s st free here sim));
        }
