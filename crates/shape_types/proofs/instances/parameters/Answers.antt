use Rattle.std.proofs.Common.{◌≡◌, true, ◌∙◌, ◌++◌, [], ◌∷◌, ap, length, refl}
use Rattle.cstar_tree.specs.declared.typed.VarInfo.{VarInfo}
use Rattle.type_scopes.specs.Bindings.{bindings}
use Rattle.shape_types.proofs.Heads.{IsMore, all_parameters, no_parameters, parameter_more}
use Rattle.shape_types.proofs.instances.parameters.Goals as goal
use Rattle.shape_types.proofs.instances.parameters.Goals.{in-Some+in_ok-value_info-in-Some+in_ok-push-in-Some, in-None, then-complete, else-complete}

pub loop-number-init : goal.loop-number-init
loop-number-init c = record {
  count = refl;
  types = c.as_slice-types.ensures.value;
  typed = λ start inner types. rw c.new-infos.ensures.items (no_parameters start _ _ _ _ (c.as_slice-types.ensures.value ∙ types) inner);
}

pub loop-number-preserved : goal.loop-number-preserved
loop-number-preserved c =
    let more : IsMore c.type_at-ty.result c.index-parameters-number.result.name.word c.if-new.complete c.loop-number.infos.items c.match-ty.complete c.match-ty.infos.items = elim c.match-ty.branch [
      | in-Some+in_ok-value_info-in-Some+in_ok-push-in-Some w ↦ rw (w.in-Some.is, w.infos-is, w.complete-is) (refl, w.in_ok-push-in-Some.ensures.items ∙ ap (λ (i : VarInfo). c.loop-number.infos.items ++ i ∷ []) w.in_ok-value_info-in-Some.ensures)
      | in-None w ↦ rw w.in-None.is w.complete-is
    ] in
    let both : c.if-new.complete ≡ true → (c.in_ok-new.new ≡ true) × (c.loop-number.complete ≡ true) = search in record {
      count = c.loop-number.invariant.count;
      types = c.loop-number.invariant.types;
      typed = λ start inner types. parameter_more start c.as_slice-types.result.now c.args.parameters.now c.loop-number.number (bindings c.loop-number.scopes.locals) (bindings c.declare.new.self) c.loop-number.complete c.if-new.complete c.match-ty.complete c.loop-number.infos.items c.match-ty.infos.items c.index-parameters-number.result c.type_at-ty.result c.plain_if.result c.in_ok-new.new
          c.loop-number-test.true c.index-parameters-number.is c.type_at-ty.ensures c.plain_if.ensures (rw c.in_ok-parameter_number.ensures at c.in_ok-new.ensures.ok) c.in_ok-new.ensures.is_new both more (c.loop-number.invariant.typed start inner types);
    }

pub returns-clause-typed : goal.returns-clause-typed
returns-clause-typed c here inner types =
    let all = all_parameters here c.as_slice-types.result.now c.args.parameters.now c.loop-number.number _ c.loop-number.complete c.loop-number.infos.items c.loop-number-test.false (c.loop-number.invariant.typed here inner types) in
    elim c.if-complete.branch [
      | then-complete w ↦ rw w.result-is (all.1.0 w.if-complete.true)
      | else-complete w ↦ rw w.result-is tt
    ]

pub returns-clause-names : goal.returns-clause-names
returns-clause-names c here inner types =
    (all_parameters here c.as_slice-types.result.now c.args.parameters.now c.loop-number.number _ c.loop-number.complete c.loop-number.infos.items c.loop-number-test.false (c.loop-number.invariant.typed here inner types)).0

pub returns-clause-once : goal.returns-clause-once
returns-clause-once c here inner types =
    let all = all_parameters here c.as_slice-types.result.now c.args.parameters.now c.loop-number.number _ c.loop-number.complete c.loop-number.infos.items c.loop-number-test.false (c.loop-number.invariant.typed here inner types) in
    elim c.if-complete.branch [
      | then-complete w ↦ rw w.result-is (ap length all.0 ∙ all.1.1 w.if-complete.true)
      | else-complete w ↦ rw w.result-is tt
    ]
