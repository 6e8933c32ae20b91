use Rattle.std.proofs.Common.{rules, ◌≡◌, List, [], ◌∷◌, ◌++◌, sym, subst}
use Rattle.paris_code.specs.Meaning.{after}
use Rattle.instruction_runs.specs.declared.deferring.Deferred.{Deferred}
use Rattle.instruction_runs.specs.Waiting.{done_all, set_of, AreReady}
use Rattle.instruction_runs.proofs.Deferrals.{done_more, ready_more}
use Rattle.instruction_runs.proofs.batches.Batch.push.Goals as goal

pub returns-clause-ready : goal.returns-clause-ready
returns-clause-ready c = λ shapes all is.
    let old = c.args.self.now in
    let d = c.args.deferred in
    let items : c.push.new.self.items ≡ old.deferred.items ++ d ∷ [] = search rules in
    subst (λ s. AreReady shapes s c.push.new.self.items) (sym c.set-self.ensures)
    (subst (λ (ds : List Deferred). AreReady shapes (set_of d) ds) (sym items) (ready_more shapes old.deferred.items d old.set c.requires all is))

pub returns-clause-memory : goal.returns-clause-memory
returns-clause-memory c = λ shapes m.
    let old = c.args.self.now.deferred.items in
    let d = c.args.deferred in
    let items : c.push.new.self.items ≡ old ++ d ∷ [] = search rules in
    subst (λ (ds : List Deferred). done_all shapes ds m ≡ after shapes d.instr [] (done_all shapes old m)) (sym items) (done_more shapes old d m)
