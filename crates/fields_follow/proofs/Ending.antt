-- What ends early for the fields alone ends so in the unit.
use Rattle.lower_base.specs.Drafts.{Draft, Fails, Made, Makes}
use Rattle.paris_code.specs.Code.{CodeState}
use Rattle.source_meaning.specs.State as Source
use Rattle.source_meaning.specs.State.{Early, Outcome, State}
use Rattle.source_meaning.specs.Values.{Active, Scope}
use Rattle.code_follows.proofs.Following.{Finishes, Follows}
use Rattle.code_follows.proofs.Settings.{Setting, Within}
use Rattle.fields_follow.proofs.Knowing.{KnowsFields}
use Rattle.fields_follow.proofs.Leaving.{under, within_under}
use Rattle.fields_follow.proofs.Outcomes.{Ended}

module _ (g : Setting) (scope : Scope) (active : Active) (known : KnowsFields g scope active) where
  finishes_so : (early : Early) (st : State) (s : CodeState) → Finishes (under g active) early st s → Finishes g early st s
  finishes_so early st s f = record { t = f.t; ends = record { steps = f.ends.steps; is = f.ends.is }; turns = f.turns; output = f.output; input = f.input; memory = known.ends st f.t.memory f.memory }

  pub ended_so : {A : Type 0} (s : CodeState) (o : Outcome A) → Ended (under g active) s o → Ended g s o
  ended_so s o ended = record { early = ended.early; state = ended.state; is = ended.is; finishes = finishes_so ended.early ended.state s ended.finishes }

  -- so what code does for the fields alone it does in the unit, where what is said of it is so there
  pub follows_so : {A B : Type 0} (R Q : A → State → B → Draft → Type 0) (s : CodeState) (o : Outcome A) (made : Made B) → ((x : A) (u : State) (y : B) (e : Draft) → Within g e → R x u y e → Q x u y e) → Follows (under g active) R s o made → Follows g Q s o made
  unfolding Follows
  follows_so R Q s (Source.Gives x u) (Makes y e) said h = λ within. said x u y e within (h (within_under g active within))
  follows_so R Q s (Source.Ends early u) (Makes y e) said h = λ within. finishes_so early u s (h (within_under g active within))
  follows_so R Q s (Source.Gives x u) Fails said h = tt
  follows_so R Q s (Source.Ends early u) Fails said h = tt
