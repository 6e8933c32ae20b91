-- What the code of `where` has done where what stands under it begins: its condition has run, and the context is saved.
use Rattle.std.proofs.Common.{◌⊎◌, inl, inr, subst, ◌≡◌, ◌∙◌, ℕ, ◌+◌, ◌<◌, ◌≤◌, length, refl, arith, [], ◌∷◌}
use Rattle.lower_expr.specs.Lengths.{tested_length}
use Rattle.paris_code.specs.declared.program.Owner.{Owner}
use Rattle.code_follows.proofs.Starting.{DeclaredBy, declared_grown}
use Rattle.cstar_tree.specs.declared.typed.TExpr.{TExpr}
use Rattle.cstar_tree.specs.declared.typed.Variable.{Variable}
use Rattle.cstar_tree.specs.declared.typed.Variable.TheVariants as V
use Rattle.code_lengths.specs.Growth.{GrowsOr}
use Rattle.code_lengths.specs.Lowerable.{InField}
use Rattle.code_lengths.specs.Ready.{IsReadyButForFields, HasDeclared}
use Rattle.code_lengths.proofs.Agreeing.{expressions}
use Rattle.code_lengths.proofs.Drafting.{append_nothing}
use Rattle.code_lengths.proofs.Homes.{still_declared}
use Rattle.lower_base.specs.Drafts.{Draft, Fails, Made, Makes, with_instr}
use Rattle.lower_expr.specs.Values.{tested}
use Rattle.paris_code.specs.declared.instr.Instr.TheVariants as I
use Rattle.paris_code.specs.declared.operands.Field.{Field}
use Rattle.paris_code.specs.declared.program.Owner.TheVariants as W
use Rattle.paris_code.specs.Code.{CodeState}
use Rattle.paris_code.specs.Memory.{BitMemory}
use Rattle.paris_code.specs.Spans.{IsNamedAt}
use Rattle.source_meaning.specs.State.{State}
use Rattle.source_meaning.specs.Values.{Parallel, Active, Scope}
use Rattle.code_follows.proofs.Following.{HasRegisters, Sim, kept_later}
use Rattle.code_follows.proofs.Growing.{Extended, extended, from_growth}
use Rattle.code_follows.proofs.Settings.{OpenAmong, At, Begun, Setting, Within, and_one, code_more, earlier, layout}
use Rattle.fields_follow.specs.Fragment.{IsCondition}
use Rattle.fields_follow.proofs.Forms.{HasItsCode}
use Rattle.fields_follow.proofs.Ending.{ended_so}
use Rattle.fields_follow.proofs.Outcomes.{Ended, Known, follows_known}
use Rattle.source_meaning.specs.Expressions.{evaluated}
use Rattle.source_meaning.specs.State as Source
use Rattle.fields_follow.proofs.Knowing.{HasKept, Keeping, KnowsFields, kept_open, sim_open}
use Rattle.fields_follow.proofs.Saving.{Kept}
use Rattle.fields_follow.proofs.Leading.{Led, TestsAre, saves_context}
use Rattle.fields_follow.proofs.Leaving.{fields_under, keeps_again, places_under, reaches_again, registers_under, under, within_under}
use Rattle.fields_follow.proofs.Passing.{After, code_longer, fields_longer}
use Rattle.fields_follow.proofs.Places.{IsOwnField}
use Rattle.fields_follow.proofs.TestFlags.{LeavesTests}
use Rattle.fields_follow.proofs.ScanConditions.{condition_after}
use Rattle.fields_follow.proofs.Scanning.{scanned_in}
use Rattle.fields_follow.proofs.Values.{and_entry, next_field, one_more, taken, with_entry}
use Rattle.fields_follow.proofs.Starts.{Starts, starts_entry}
use Rattle.fields_follow.proofs.Locals.{behind_homes}

-- code that is made where it grows
grown_made : {A : Type 0} (d : Draft) (n : ℕ) (P : A → Type 0) (made : Made A) → GrowsOr ⊥ d n P made → (x : A) × ((e : Draft) × ((made ≡ Makes x e) × ((k : ℕ) × Extended d k e)))
unfolding GrowsOr
grown_made d n P (Makes x e) grows = (x, (e, (refl, (n, from_growth d e n grows.1))))
grown_made d n P Fails grows = absurd grows

-- an entry more declares nothing
pub declared_entry : (g : Setting) (set len : ℕ) (owner : Owner) (n : ℕ) (d : Draft) → HasDeclared g.typed g.instance (layout g) n d → HasDeclared g.typed g.instance (layout g) n (with_entry set len owner d)
declared_entry g set len owner n d known =
    still_declared g.typed g.instance (layout g) n d (with_entry set len owner d) 0
    (record { name = refl; more = []; code = append_nothing d.code; long = refl; entries = record { set = set; len = len; owner = owner } ∷ []; fields = refl; regs = omega arith; homes = refl }) known

-- the numbers of a condition
abbrev pub condition_in : (g : Setting) (scope : Scope) (active : Active) → KnowsFields g scope active → (Variable → Type 0) → ℕ → State → TExpr → ℕ → ℕ
condition_in g scope active known alive set st e q = scanned_in (under g active) alive (places_under g active known.places) (fields_under g active scope known.same_extents) set st e q

-- the code of `where` takes an entry for the context, and one for the tests
module _ (shape : ℕ) (d : Draft) where
  abbrev pub entered : Draft
  entered = with_entry shape 1 W.Own d

  abbrev pub saved : Field
  saved = next_field shape 1 d

  abbrev pub holds : Field
  holds = next_field shape 1 entered

  abbrev for_test : Draft
  for_test = with_entry shape 1 W.Own entered

module _ (g : Setting) (shape : ℕ) (d : Draft) (test : TExpr) where
  -- behind them the code of a condition is made
  abbrev pub TestMade : Type 0
  TestMade = (x : Unit {0}) × ((after : Draft) × ((tested g.typed (layout g) test (for_test shape d) ≡ Makes x after) × ((k : ℕ) × Extended (for_test shape d) k after)))

  test_code : (alive : Variable → Type 0) (n : ℕ) → HasDeclared g.typed g.instance (layout g) n d → InField g.typed test → HasItsCode g.typed g.instance alive n test
      → HasDeclared g.typed g.instance (layout g) n (for_test shape d) × GrowsOr ⊥ (for_test shape d) (tested_length g.typed (layout g) test) (λ (u : Unit {0}). Unit {0}) (tested g.typed (layout g) test (for_test shape d))
  test_code alive n known field c =
      let taken_too : HasDeclared g.typed g.instance (layout g) n (for_test shape d) = declared_entry g shape 1 W.Own n (entered shape d) (declared_entry g shape 1 W.Own n d known) in
      (taken_too, (expressions g.typed g.instance (layout g)).test n test (for_test shape d) c.code field taken_too.ready)

  pub test_made : (alive : Variable → Type 0) (n : ℕ) → HasDeclared g.typed g.instance (layout g) n d → InField g.typed test → HasItsCode g.typed g.instance alive n test → TestMade
  test_made alive n known field c = grown_made (for_test shape d) _ _ _ (test_code alive n known field c).1

  -- it declares nothing
  pub test_declares : (alive : Variable → Type 0) (n : ℕ) → HasDeclared g.typed g.instance (layout g) n d → InField g.typed test → HasItsCode g.typed g.instance alive n test → (made : TestMade) → HasDeclared g.typed g.instance (layout g) n made.1.0
  unfolding DeclaredBy
  test_declares alive n known field c made =
      let grown = test_code alive n known field c in
      subst (λ (m : Made (Unit {0})). DeclaredBy g n m) made.1.1.0 (declared_grown g ⊥ n _ (for_test shape d) _ _ grown.0 grown.1)

  module _ (made : TestMade) where
    abbrev after : Draft
    after = made.1.0

    abbrev longer : Extended (for_test shape d) made.1.1.1.0 after
    longer = made.1.1.1.1

    pub saved_own : Within g after → IsOwnField g (saved shape d)
    saved_own w = taken g shape 1 W.Own d after (0 + made.1.1.1.0) w (extended (entered shape d) (for_test shape d) after 0 made.1.1.1.0 (and_entry shape 1 W.Own (entered shape d)) longer)

    pub holds_own : Within g after → IsOwnField g (holds shape d)
    holds_own w = taken g shape 1 W.Own (entered shape d) after made.1.1.1.0 w longer

    -- there are the two entries more
    pub entries_more : (length (entered shape d).fields ≡ length d.fields + 1) × (length d.fields + 1 + 1 ≤ length after.fields)
    entries_more = let one = one_more shape 1 W.Own d in let two = one_more shape 1 W.Own (entered shape d) in let more = fields_longer (for_test shape d) after made.1.1.1.0 longer in (one, omega (arith, one, two, more))

    pub code_more_by : length d.code ≤ length after.code
    code_more_by = code_longer (for_test shape d) after made.1.1.1.0 longer

    module _ (scope : Scope) (active : Active) (known : KnowsFields g scope active) (alive : Variable → Type 0) (begun : Begun g alive d) (s : CodeState) (st : State) where
      -- what is kept, and the test flags
      abbrev Tested : Keeping → BitMemory → Type 0
      Tested kept m = HasKept g alive kept m × TestsAre g shape active (λ q. condition_in g scope active known alive shape st test q) m

      -- the condition gives its numbers in the source, and its code leaves the test flags
      abbrev pub HasRun : Type 0
      HasRun =
          (evaluated scope test active st ≡ Source.Gives (Parallel (λ q. condition_in g scope active known alive shape st test q)) st)
          × LeavesTests (under g active) alive (fields_under g active scope known.same_extents) (for_test shape d) s shape st (λ q. condition_in g scope active known alive shape st test q) after

      -- so it is, or both end early
      pub condition_runs : (has : HasRegisters g) (n : ℕ) (ready : (d : Draft) → IsReadyButForFields g.typed g.instance (layout g) n d) → IsCondition shape test → HasItsCode g.typed g.instance alive n test → ((k : ℕ) → alive (V.File k)) → At g s (length d.code) → Sim g alive st s → Within g after → HasRun ⊎ Ended g s (evaluated scope test active st)
      unfolding After
      condition_runs has n ready condition c files at sim w =
          let here : Starts (under g active) alive s (length d.code) d.regs (length d.fields) = record { stands = at; free = begun.regs; low = begun.code; files = files; opened = begun.opened } in
          by
          (subst (λ (m : Made (Unit {0})). After (under g active) (Known (under g active) s (evaluated scope test active st) v st R) m) made.1.1.0
          (follows_known (under g active) s (evaluated scope test active st) v st R (tested g.typed (layout g) test (for_test shape d))
          (condition_after (under g active) (registers_under g active has) alive n ready (places_under g active known.places) (fields_under g active scope known.same_extents) shape test condition c (for_test shape d) s st (starts_entry (under g active) alive _ _ (starts_entry (under g active) alive _ _ here)) (sim_open g scope active known alive st s sim)))
          (within_under g active w))
        where
          v : ℕ → ℕ
          v = λ q. condition_in g scope active known alive shape st test q

          R : Unit {0} → Draft → Type 0
          R u f = LeavesTests (under g active) alive (fields_under g active scope known.same_extents) (for_test shape d) s shape st v f

          by : Known (under g active) s (evaluated scope test active st) v st R made.0 after → HasRun ⊎ Ended g s (evaluated scope test active st)
          by (inl given) = inl given
          by (inr ended) = inr (ended_so g scope active known s (evaluated scope test active st) ended)

      condition_leads : HasRun → Sim g alive st s → Within g after → Led g scope active known alive active (λ m. Tested known.kept m) d after s st
      condition_leads run sim w =
          let l = run.1 in
          record {
            grown = (0 + l.leaves.grown.0, extended d (for_test shape d) after 0 l.leaves.grown.0 (extended d (entered shape d) (for_test shape d) 0 0 (and_entry shape 1 W.Own d) (and_entry shape 1 W.Own (entered shape d))) l.leaves.grown.1);
            t = l.leaves.t;
            go = reaches_again g active l.leaves.go;
            at = l.leaves.at.stands;
            sim = l.leaves.sim;
            has = (
              (
                known.lasts.code s.memory l.leaves.t.memory (λ h first last q saved inside own ends before early named late.
                    l.leaves.stays tt h first last q (let b = begun.fields in let one = one_more shape 1 W.Own d in let two = one_more shape 1 W.Own (entered shape d) in omega (arith, inside, b, one, two)) own ends before (let b = begun.code in omega (arith, early, b)) named (let up = w.upto in omega (arith, late, up)))
                    l.leaves.go.below (kept_open g scope active known alive st s sim).0,
                (kept_open g scope active known alive st s sim).1,
              ),
              l.flags,
            );
            keeps = λ r kept. keeps_again g active (for_test shape d) s l.leaves.t l.leaves.registers r (kept_later g d (for_test shape d) r (omega arith) kept);
          }

      abbrev saves : Draft
      saves = with_instr (I.StoreContext (saved shape d)) after

      -- and behind it the context is saved
      pub context_led : HasRun → Sim g alive st s
          → (later : ℕ) → Within g saves → IsNamedAt g.unit (saved shape d).offset later → length after.code < later → Led g scope active known alive active (λ m. Tested (Kept g scope active known alive (saved shape d)) m) d saves s st
      context_led run sim later w named behind_it =
          let w_after : Within g after = earlier g after saves 1 (and_one g (I.StoreContext (saved shape d)) after) w in
          saves_context g scope active known alive active known.kept g.from g.entries g.upto known.lasts d after s st (λ m. TestsAre g shape active (λ q. condition_in g scope active known alive shape st test q) m) (saved shape d) later (let b = begun.code in let l = code_more_by in omega (arith, b, l)) begun.fields
          (let up = w.upto in let one = code_more g (I.StoreContext (saved shape d)) after in omega (arith, up, one)) (saved_own w_after) (behind_homes g (OpenAmong g alive) (length d.code) (length d.fields) (length d.fields) begun.opened (omega arith)) refl named behind_it (λ m other same tests p below on. same shape p ∙ tests p below on) w (condition_leads run sim w_after)
