use Rattle.std.proofs.Common.{◌≡◌, [], ◌∷◌, ◌+◌, Some, None, arith, length, refl, sym, ap, ◌∙◌, ℕ}
use Rattle.std.specs.Option.{option_flatten}
use Rattle.std.specs.List.{slice_get}
use Rattle.std.proofs.lemmas.Iterator.Adapters.{YieldsList-from_vec}
use Rattle.std.proofs.lemmas.Iterator.Consumers.{YieldsList-end, YieldsList-turn}
use Rattle.std.proofs.lemmas.List.{length-append}
use Rattle.cstar_tree.specs.Conversions as C
use Rattle.type_expressions.proofs.CallArguments.{all_fitted, flattened, known_at, more_parallel, push_fitted}
use Rattle.type_expressions.proofs.calls.fit_arguments.Goals as goal

pub loop-argument-init : goal.loop-argument-init
loop-argument-init c = (rw c.new-fit.ensures.items refl, λ types are none. rw c.new-fit.ensures.items C.none)

pub returns-in_default : goal.returns-in_default
returns-in_default c types are many none =
    let g = c.into_iter-argument-iterator.ensures.into_iter_gives in
    let turn = YieldsList-turn (YieldsList-from_vec {s = c.into_iter-argument-iterator.result} c.args.arguments.items g.0 (g.1 ∙ c.args.arguments.ok.0)) c.loop-argument.yielded c.loop-argument.argument-iterator c.loop-argument.yielded_by c.next.result c.next.new.self c.in-Some.argument c.in-Some.is c.next.ensures.steps in
    let known = known_at c.args.parameters.now types (length c.loop-argument.yielded) are (omega (arith, turn.0, many)) in
    let number : c.len.result ≡ length c.loop-argument.yielded = c.len.ensures ∙ (c.loop-argument.fit.ok.0 ∙ c.loop-argument.invariant.0) in
    let typed : option_flatten (slice_get c.args.parameters.now c.len.result) ≡ Some known.0 = ap (λ (k : ℕ). option_flatten (slice_get c.args.parameters.now k)) number ∙ ap option_flatten known.1 in
    let none : c.parameter_type.result ≡ None = c.in_default.is in
    absurd (let both = sym none ∙ (c.parameter_type.ensures ∙ typed) in cc)

pub loop-argument-preserved : goal.loop-argument-preserved
loop-argument-preserved c =
    let new = c.in_ok-push.ensures.items in
    let count = length-append c.loop-argument.fit.items (c.into_inner.result ∷ []) in
    let yielded = length-append c.loop-argument.yielded (c.in-Some.argument ∷ []) in
    let number : c.len.result ≡ length c.loop-argument.yielded = c.len.ensures ∙ (c.loop-argument.fit.ok.0 ∙ c.loop-argument.invariant.0) in
    let typed = flattened (slice_get c.args.parameters.now (length c.loop-argument.yielded)) c.in-Some-parameter_type.ty (ap (λ (k : ℕ). option_flatten (slice_get c.args.parameters.now k)) (sym number) ∙ (sym c.parameter_type.ensures ∙ c.in-Some-parameter_type.is)) in (
      ap length new ∙ (count ∙ (ap (λ (n : ℕ). n + 1) c.loop-argument.invariant.0 ∙ sym yielded)),
      λ types are none. push_fitted c.args.parameters.now types c.loop-argument.yielded c.in-Some.argument c.in-Some-parameter_type.ty are typed none (c.loop-argument.invariant.1 types are (λ t. none (more_parallel c.args.parameters.now c.loop-argument.yielded c.in-Some.argument t))) c.in_ok-fitted.ensures c.into_inner.ensures new,
    )

pub returns : goal.returns
returns c types are many none =
    let g = c.into_iter-argument-iterator.ensures.into_iter_gives in
    let end = YieldsList-end (YieldsList-from_vec {s = c.into_iter-argument-iterator.result} c.args.arguments.items g.0 (g.1 ∙ c.args.arguments.ok.0)) c.loop-argument.yielded c.loop-argument.argument-iterator c.loop-argument.yielded_by c.next.result c.next.new.self c.in-None.is c.next.ensures.steps in
    all_fitted c.args.parameters.now types c.loop-argument.yielded c.args.arguments.items end.0 many none (c.loop-argument.invariant.1 types are)
