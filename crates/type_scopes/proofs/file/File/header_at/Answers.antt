use Rattle.std.proofs.Common.{◌≡◌, ◌∙◌, ℕ, List, Option, None, inl, inr, ap, sym, refl, subst, arith, true≢false}
use Rattle.cstar_tree.specs.declared.syntax.Function.{Function}
use Rattle.cstar_tree.specs.declared.syntax.Parameter.{Parameter}
use Rattle.cstar_tree.specs.Headers.{a_value, nothing, parameter_types, returns_of, unknown}
use Rattle.type_scopes.specs.declared.headers.HeaderScope.{HeaderScope}
use Rattle.type_scopes.specs.Headers.{ResultFault, place_of_header, returned}
use Rattle.cstar_tree.specs.FileFaults.{ParametersFault}
use Rattle.type_scopes.specs.declared.standing.Standing.{Standing}
use Rattle.type_scopes.specs.Faults.{Records}
use Rattle.type_scopes.proofs.HeaderFaults.{header_records, type_records}
use Rattle.type_scopes.proofs.RecordLemmas.{no_least}
use Rattle.type_scopes.proofs.HeaderLemmas.{all_typed, callable_before, callable_first, callable_more, faulty_at_hand, kept_at_start, part_typed, typed_more}
use Rattle.type_scopes.proofs.file.File.header_at.Goals as goal
use Rattle.type_scopes.proofs.file.File.header_at.Goals.{in-Value, in-Nothing, then-other_shape, else-other_shape}

pub loop-parameter-init : goal.loop-parameter-init
loop-parameter-init c = record {
  typed = λ start kept. record { here = start; kept = kept; all = rw c.new-parameters.ensures.items refl; faults = λ last later. later };
  at_hand = elim c.match-returns.branch [
    | in-Value w ↦ rw (c.new-parameters.ensures.items, w.returns-is, w.other_shape-is) (callable_first c.args.current (a_value w.in-Value.ty) w.has_other_shape-other_shape.result w.has_other_shape-other_shape.ensures)
    | in-Nothing w ↦ elim w.in-Nothing.is [
      | inl is ↦ rw (c.new-parameters.ensures.items, w.returns-is, is) (callable_first c.args.current nothing c.match-returns.other_shape (faulty_at_hand c.args.current c.match-returns.other_shape w.other_shape-is))
      | inr is ↦ rw (c.new-parameters.ensures.items, w.returns-is, is) (callable_first c.args.current unknown c.match-returns.other_shape (faulty_at_hand c.args.current c.match-returns.other_shape w.other_shape-is))
    ]
  ];
}

pub loop-parameter-preserved : goal.loop-parameter-preserved
loop-parameter-preserved c = record {
  typed = λ start kept. typed_more c.args.self.now c.loop-parameter.scope c.name_parameter.new.scope start c.deref-parameter-items.result.now c.loop-parameter.parameter-index c.loop-parameter.parameters.items c.push.new.self.items
      c.parameter-item.result c.in_ok-ty.ty c.returns.new.faults.least c.loop-parameter.faults.least c.settle.new.self.least c.name_parameter.new.faults.least (omega arith) c.parameter-item.is c.in_ok-push.ensures.items
      (λ here kept.
      let written = c.header_type.ensures here kept in
      (c.in_ok-ty.ensures.part ∙ part_typed here c.parameter-item.result.type_name c.header_type.result written, type_records here c.parameter-item.result.type_name c.header_type.result c.loop-parameter.faults.least c.settle.new.self.least written c.in_ok-ty.ensures.least))
      (λ here kept. (c.in_ok-name_parameter.ensures.kept here c.loop-parameter.parameter-index kept, c.in_ok-name_parameter.ensures.faults here kept))
      (c.loop-parameter.invariant.typed start kept);
  at_hand = elim c.if-other_shape.branch [
    | then-other_shape w ↦ rw (c.in_ok-push.ensures.items, w.other_shape-is) (
      λ e. absurd (true≢false (sym w.if-other_shape.true ∙ e)),
      λ h. c.loop-parameter.invariant.at_hand.1 (callable_before c.args.current (returned c.match-returns.returns) c.loop-parameter.parameters.items c.in_ok-ty.ty h),
    )
    | else-other_shape w ↦ rw (c.in_ok-push.ensures.items, w.other_shape-is) (callable_more c.args.current (returned c.match-returns.returns) c.loop-parameter.parameters.items c.in_ok-ty.ty w.has_other_shape-other_shape-else-other_shape.result (c.loop-parameter.invariant.at_hand.0 w.if-other_shape.false) w.has_other_shape-other_shape-else-other_shape.ensures)
  ];
}

pub returns : goal.returns
returns c placed r function current known =
    let first : HeaderScope = record { current = c.args.current; known = c.args.known; parameters = c.new.result } in
    let kept = λ (shapes : List (List ℕ)). kept_at_start c.args.self.now first (place_of_header shapes placed r) c.new.ensures.empty refl current known in
    let same : c.match-returns.returns ≡ c.in_ok-returns.returns = elim c.match-returns.branch [
      | in-Value w ↦ w.returns-is ∙ sym w.in-Value.is
      | in-Nothing w ↦ w.returns-is
    ] in
    let items : c.deref-parameter-items.result.now ≡ placed.function.parameters.items = c.deref-parameter-items.ensures.value ∙ ap (λ (f : Function). f.parameters.items) (sym function) in
    let all = λ (shapes : List (List ℕ)). all_typed c.args.self.now c.loop-parameter.scope (place_of_header shapes placed r) c.deref-parameter-items.result.now c.loop-parameter.parameter-index c.loop-parameter.parameters.items c.returns.new.faults.least c.loop-parameter.faults.least (omega arith) (c.loop-parameter.invariant.typed (place_of_header shapes placed r) (kept shapes)) in
    record {
      parameters = λ shapes. (all shapes).0 ∙ ap (λ (ps : List Parameter). parameter_types (place_of_header shapes placed r) 0 ps) items;
      returns = λ shapes. ap returned same ∙ (c.in_ok-returns.ensures.result_type (place_of_header shapes placed r) (kept shapes) ∙ ap (λ (f : Function). returns_of (place_of_header shapes placed r) f.result) (sym function));
      at_hand = rw current c.loop-parameter.invariant.at_hand;
      faults = λ shapes.
          let none = no_least c.none-faults.result.least c.none-faults.ensures in
          let result = subst (λ (old : Option Standing). Records (ResultFault (place_of_header shapes placed r) c.args.function.now.result) old c.returns.new.faults.least) none (c.in_ok-returns.ensures.faults (place_of_header shapes placed r) (kept shapes)) in
          header_records (place_of_header shapes placed r) placed.function c.returns.new.faults.least c.loop-parameter.faults.least
          (subst (λ (f : Function). Records (ResultFault (place_of_header shapes placed r) f.result) None c.returns.new.faults.least) (sym function) result)
          (subst (λ (ps : List Parameter). Records (ParametersFault (place_of_header shapes placed r) 0 ps) c.returns.new.faults.least c.loop-parameter.faults.least) items (all shapes).1);
    }
