use Rattle.std.proofs.Common.{◌≡◌, ℕ, Bool, List, Option, sym, ◌∙◌, ap}
use Rattle.std.specs.List.{position}
use Rattle.job_board.proofs.Found.{drawn_not_found, found_posted, none_posted, reported_answers}
use Rattle.job_board.proofs.book.Book.report.Goals as goal

found_in : {X : Type 0} → (p : X → Bool) {lent xs : List X} {at found : Option ℕ} → lent ≡ xs → at ≡ position p lent → at ≡ found → position p xs ≡ found
found_in p same is was = ap (position p) (sym same) ∙ (sym is ∙ was)

pub returns-in_err-at-clause-posted : goal.returns-in_err-at-clause-posted
returns-in_err-at-clause-posted g c =
    rw (c.from_residual.ensures, ← c.self.view_is) (none_posted c.args.number c.self.inside.history.items (found_in _ c.deref.ensures.value c.place_of.ensures c.in_err-at.was))

pub returns-clause-posted : goal.returns-clause-posted
returns-clause-posted g c =
    rw (← c.self.view_is) (found_posted c.args.number c.self.inside.history.items c.in_ok-at.at c.index.result.now c.in-Posted.number c.in-Posted.report (found_in _ c.deref.ensures.value c.place_of.ensures c.in_ok-at.was) c.index.ensures c.in-Posted.is)

pub returns-clause-answers : goal.returns-clause-answers
returns-clause-answers g c =
    reported_answers g.J.Judge.jobs g.J.Judge.answers c.args.number c.self.inside.history.items c.in_ok-at.at c.index.result.now c.in-Posted.number c.in-Posted.report c.self.invariant.legal (found_in _ c.deref.ensures.value c.place_of.ensures c.in_ok-at.was) c.index.ensures c.in-Posted.is

pub unreachable-requires : goal.unreachable-requires
unreachable-requires g c = drawn_not_found c.args.number c.self.inside.history.items c.in_ok-at.at c.index.result.now c.in-Drawn.number (found_in _ c.deref.ensures.value c.place_of.ensures c.in_ok-at.was) c.index.ensures c.in-Drawn.is
