use Rattle.std.proofs.Common.{◌≡◌, ◌∙◌, ◌+◌, ◌-◌, ◌*◌, ◌^◌, ℕ, min, not, List, [], ◌∷◌, None, Option, Some, IfSome, ap, arith, length, length-append, slice_get, subst, sym}
use Rattle.std.proofs.lemmas.List.{length-map}
use Rattle.std.proofs.lemmas.Option.{slice_get_within}
use Rattle.std.proofs.lemmas.Slice.Zip.{AllZip-long}
use Rattle.cstar_tree.specs.FileScopes.{file_functions, file_known}
use Rattle.cstar_tree.specs.declared.typed.ShapeInfo.{ShapeInfo}
use Rattle.file_names.specs.Numbers.{StandsAt}
use Rattle.cstar_tree.specs.Headers.{Reached}
use Rattle.cstar_tree.specs.declared.typed.Instance.{Instance}
use Rattle.type_expressions.specs.Instances.{instance_of, met, with_met}
use Rattle.shape_types.proofs.Walked.{first_met, few_walked, longer, none_left, none_walked, walked_more, whole_program}
use Rattle.shape_types.specs.Reached.{IsTypedInstance}
use Rattle.shape_types.proofs.instances.reached_instances.Goals as goal
use Rattle.shape_types.proofs.instances.reached_instances.Goals.{in-Some-instance+then-found-le-NODES+in_ok-push, in_default}

pub loop-number-init : goal.loop-number-init
loop-number-init c =
    let main : Reached = record { function = c.args.main; current = None } in
    record {
      few = rw c.new-instances.ensures.items (omega arith);
      there = omega arith;
      headers = λ h. c.in_ok-reach.ensures.grows.headers.0 h;
      walked = λ tree whole plain none headers same. rw c.new-instances.ensures.items (none_walked tree main c.reach.new.self.instances (c.in_ok-reach.ensures.met ∙ (ap (with_met main) none ∙ first_met main)));
    }

pub loop-number-preserved : goal.loop-number-preserved
loop-number-preserved c =
    let before = c.loop-number.invariant in
    let main : Reached = record { function = c.args.main; current = None } in
    let old = c.loop-number.found.instances in
    let new = c.typed_instance.new.found.instances in
    let r = instance_of c.in-Some.reached in
    let is : slice_get (met old) c.loop-number.number ≡ Some r = sym c.in-Some.ensures in
    let grows = c.in_ok-instance.ensures.met in
    let within = slice_get_within (met old) c.loop-number.number r is in
    let long = longer grows.begins in
    let few = before.few in
    record {
      few = elim c.match-instance-2.branch [
        | in-Some-instance+then-found-le-NODES+in_ok-push w ↦ rw w.instances-is (let more = ap (λ (l : List Instance). length l) w.in_ok-push.ensures.items ∙ length-append c.loop-number.instances.items (w.in-Some-instance.instance ∷ []) in omega (arith, more, few))
        | in_default w ↦ rw w.instances-is (omega (arith, few))
      ];
      there = omega (arith, within, long);
      headers = λ h. grows.headers.0 (before.headers h);
      walked = λ tree whole plain none headers. elim c.match-instance-2.branch [
        | in-Some-instance+then-found-le-NODES+in_ok-push w ↦ rw w.instances-is (λ same.
            let more = ap (λ (l : List Instance). length l) w.in_ok-push.ensures.items ∙ length-append c.loop-number.instances.items (w.in-Some-instance.instance ∷ []) in
            let typed = subst (λ (o : Option Instance). IfSome o (IsTypedInstance tree old new r)) w.in-Some-instance.is (c.in_ok-instance.ensures.typed tree whole plain (before.headers headers)) in
            walked_more tree main old new c.loop-number.number r w.in-Some-instance.instance c.loop-number.instances.items _ is grows.begins typed w.in_ok-push.ensures.items (before.walked tree whole plain none headers (omega (arith, same, more))))
        | in_default w ↦ rw w.instances-is (λ same. absurd (omega (arith, same, few)))
      ];
    }

pub returns : goal.returns
returns c = record {
  typed = λ tree whole plain is_main none headers complete.
      let file = c.args.file.now in
      let before = c.loop-number.invariant in
      let end = none_left c.loop-number.found.instances c.len-3.result c.instance-2.result c.instance-2.ensures (c.is_none-is_whole.ensures ∙ ap not complete) in
      let kept : c.len-3.result ≡ length c.loop-number.instances.items = let own = c.loop-number.instances.ok.0 in let is = c.len-3.ensures in omega (arith, own, is) in
      let all_shapes : c.len.result ≡ length file.shapes.items = let own = file.shapes.ok.0 in let is = c.len.ensures in omega (arith, own, is) in
      let all_functions : c.len-2.result ≡ length file.functions.items = let own = file.functions.ok.0 in let is = c.len-2.ensures in omega (arith, own, is) in
      let few = before.few in
      let there = before.there in
      let functions = AllZip-long (StandsAt tree) file.functions.items (file_functions tree) whole.functions in
      let shapes : length (file_known tree).shapes ≡ length file.shapes.items = ap (λ (l : List (List ℕ)). length l) whole.known.shapes ∙ length-map file.shapes.items (λ (s : ShapeInfo). s.extents.items) in
      let most = few_walked c.loop-number.number (length (file_functions tree)) (length (file_known tree).shapes) c.saturating_add-shapes.result c.saturating_mul-most.result c.loop-number.auto.number-end
      (c.saturating_add-shapes.ensures ∙ ap (λ (n : ℕ). min (n + 1) (2 ^ 64 - 1)) (all_shapes ∙ sym shapes))
      (c.saturating_mul-most.ensures ∙ ap (λ (n : ℕ). min (n * c.saturating_add-shapes.result) (2 ^ 64 - 1)) (all_functions ∙ sym functions))
      in
      whole_program tree c.args.main c.loop-number.found.instances c.loop-number.number c.loop-number.instances.items (before.walked tree whole plain none headers (omega (arith, end, kept, few, there))) (omega (arith, end, kept, few, there)) most is_main;
}
