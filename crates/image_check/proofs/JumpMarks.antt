-- Marks at the targets of jumps.
use Rattle.std.proofs.Common.{◌≡◌, ◌≢◌, ℕ, ◌+◌, ◌<◌, List, length, refl, sym, ◌∙◌, subst, inl, inr, ap, arith, below_more, is_some}
use Rattle.std.specs.Prelude.{Bool, true, false, not, IsTrue, Some, None, unwrap_or, ◌↔◌, ◌⊎◌}
use Rattle.std.specs.List.{slice_get}
use Rattle.std.proofs.lemmas.Bool.{false≢true}
use Rattle.std.proofs.lemmas.Option.{slice_get_within}
use Rattle.paris_code.specs.declared.instr.Instr.{Instr}
use Rattle.paris_code.specs.declared.program.Image.{Image}
use Rattle.paris_code.specs.Rows.{target_of}
use Rattle.paris_code.specs.RuleBackEdge.{IsNoJumpTo, IsNoTarget}
use Rattle.image_check.specs.Marks.{IsMarked}
use Rattle.image_check.specs.Tables.{MarksTargets}

-- what the target of an instruction, or its want of one, says of the places to which it leads
pub leads_to : (instr : Instr) (target place : ℕ) → target_of instr ≡ Some target → IsNoJumpTo place instr ↔ (target ≢ place)
leads_to instr target place is = (
  (λ none e. none (is ∙ ap (λ n. Some n) e)),
  (λ other e. other (ap (λ o. unwrap_or o 0) (sym is ∙ e))),
)

pub leads_nowhere : (instr : Instr) (place : ℕ) → target_of instr ≡ None → IsNoJumpTo place instr
leads_nowhere instr place is e = false≢true (ap is_some (sym is ∙ e))

-- a mark at the target of a jump
pub mark_told : (old new : List Bool) (target place : ℕ) (instr : Instr) → ((other : ℕ) → IsMarked old other → IsMarked new other) →
    (target < length old → IsMarked new target) → ((other : ℕ) → IsMarked new other → IsMarked old other ⊎ (target ≡ other)) →
    place < length old → (IsNoJumpTo place instr ↔ (target ≢ place)) →
    (¬ IsMarked new place) ↔ ((¬ IsMarked old place) × IsNoJumpTo place instr)
mark_told old new target place instr kept marked only inside none = (
  (λ clear. (
    (λ was. clear (kept place was)),
    none.1 (λ e. clear (subst (λ (p : ℕ). IsMarked new p) e (marked (omega (arith, e, inside))))),
  )),
  (λ both there. elim (only place there) [ inl h ↦ both.0 h | inr h ↦ none.0 both.1 h ]),
)

-- one more instruction whose target is marked
pub targets_more : (code : List Instr) (count : ℕ) (instr : Instr) (old new : List Bool) → slice_get code count ≡ Some instr →
    length new ≡ length old →
    ((place : ℕ) → place < length old → (¬ IsMarked new place) ↔ ((¬ IsMarked old place) × IsNoJumpTo place instr)) →
    MarksTargets code count old → MarksTargets code (count + 1) new
targets_more code count instr old new at size marked before place inside =
    let there : place < length old = omega (arith, inside, size) in (
      (λ clear from jump below here.
          let was : (¬ IsMarked old place) × IsNoJumpTo place instr = (marked place there).0 clear in
          let P : ℕ → Type 0 = λ f. (j : Instr) → slice_get code f ≡ Some j → IsNoJumpTo place j in
          below_more P count (λ f lower j at_f. (before place there).0 was.0 f j lower at_f)
          (λ j at_j. let same : instr ≡ j = cc in subst (λ (i : Instr). IsNoJumpTo place i) same was.1)
          from below jump here),
      (λ none.
          (marked place there).1 (
            (before place there).1 (λ from jump below here. none from jump (omega (arith, below)) here),
            none count instr (omega arith) at,
          )),
    )

-- whether a place has no mark tells whether no jump leads there
pub no_target : (image : Image) (marks : List Bool) (place : ℕ) (told : Bool) → MarksTargets image.code.items (length image.code.items) marks →
    place < length marks → (IsTrue told ↔ IsMarked marks place) → IsTrue (not told) ↔ IsNoTarget image place
no_target image marks place true known inside told = (
  (λ t. absurd (false≢true t)),
  (λ none. absurd ((known place inside).1 (λ from jump below here. none from jump here) (told.0 refl))),
)
no_target image marks place false known inside told = (
  (λ t from jump here.
      (known place inside).0 (λ marked. false≢true (told.1 marked)) from jump (slice_get_within image.code.items from jump here) here),
  (λ none. refl),
)
