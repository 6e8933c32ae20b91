use Rattle.std.proofs.Common.{◌≡◌, ◌∙◌, ◌+◌, IfSome, Option, Box, Vec, List, ap, length, refl, subst, sym}
use Rattle.std.specs.declared.alloc.Global.{Global}
use Rattle.cstar_tree.specs.declared.syntax.Parameter.{Parameter}
use Rattle.cstar_tree.specs.declared.typed.TStmt.{TStmt}
use Rattle.cstar_tree.specs.declared.typed.VarInfo.{VarInfo}
use Rattle.cstar_tree.specs.Headers.{behind_parameters, parameter_types}
use Rattle.cstar_tree.specs.ProgramTypes.{TypesParameters, TypesResult}
use Rattle.type_expressions.proofs.CallsWithin.{begins_both, begins_same}
use Rattle.type_expressions.specs.Instances.{Grows, kept_header}
use Rattle.type_expressions.specs.declared.found.Instances.{Instances}
use Rattle.type_scopes.specs.Bindings.{bindings}
use Rattle.type_scopes.specs.Headers.{returned}
use Rattle.type_scopes.specs.declared.sites.Site.{Site}
use Rattle.type_statements.specs.Meetings.{MeetsCallsOf}
use Rattle.type_statements.specs.Walks.{IsTypedBlock}
use Rattle.shape_types.specs.Reached.{site_of}
use Rattle.shape_types.proofs.TypedInstances.{IsMade, instance_made}
use Rattle.shape_types.proofs.instances.typed_instance.Goals as goal

pub returns-in_default-header-clause-met : goal.returns-in_default-header-clause-met
returns-in_default-header-clause-met c = begins_same c.count.ensures.instances

pub returns-clause-met : goal.returns-clause-met
returns-clause-met c = begins_both (begins_same c.count.ensures.instances) (begins_both (begins_same c.count-2.ensures.instances) c.in_ok-body.ensures.met)

pub returns-clause-typed : goal.returns-clause-typed
returns-clause-typed c tree whole plain headers =
    let file = c.args.file.now in
    let old = c.args.found.now.instances in
    let new = c.block_in.new.found.instances in
    let function = c.in-Some.function.now in
    let first = c.parameters.new.scopes in
    let last = c.block_in.new.scopes in
    let site = site_of c.in-Some.info c.args.reached c.in-Some-header.header.now.returns in
    let same : c.count-2.new.self.instances ≡ old = c.count-2.ensures.instances ∙ c.count.ensures.instances in
    let later : Grows file old new = begins_both (begins_same c.count.ensures.instances) (begins_both (begins_same c.count-2.ensures.instances) c.in_ok-body.ensures.met) in
    let block = subst (λ (b : Option (Box TStmt Global)). IfSome b (λ (t : Box TStmt Global). IsTypedBlock new file first last c.body_site-site.result 0 function.body t.value)) c.in-Some-Some-Some.is-2 c.in_ok-body.ensures.typed in
    let calls = subst (λ (b : Option (Box TStmt Global)). IfSome b (λ (t : Box TStmt Global). MeetsCallsOf c.count-2.new.self.instances new file first c.body_site-site.result 0 function.body)) c.in-Some-Some-Some.is-2 c.in_ok-body.ensures.calls in
    let result = subst (λ r. IfSome r (TypesResult function.name.word (returned c.in-Some-header.header.now.returns))) c.in-Some-Some-Some.is-1 c.in_ok-result.ensures in
    let made : IsMade file old new c.args.reached c.in-Some.info function (record { name = c.in_ok-copied.field-0; current = c.args.reached.current; params = c.in-Some-Some-Some.params; result = c.in-Some-Some-Some.result; body = c.into_inner.result }) = record {
      header = c.in-Some-header.header.now;
      kept = ap (λ (i : Instances). kept_header i c.args.reached) (sym c.count.ensures.instances) ∙ sym c.in-Some-header.ensures;
      start = c.new-scopes.result;
      first = first;
      last = last;
      none = c.new-scopes.ensures.locals;
      count = c.in_ok-params.ensures.count ∙ c.new-scopes.ensures.count;
      names = λ here inner types. subst (λ (ps : List Parameter). (behind_parameters here 0 ps).names.inner ≡ bindings first.locals) c.deref.ensures.value (c.in_ok-params.ensures.names here inner (types ∙ ap (λ (ps : List Parameter). parameter_types here 0 ps) (sym c.deref.ensures.value)));
      parameters = λ here inner types.
          subst (λ (ps : List Parameter). TypesParameters here 0 ps c.in-Some-Some-Some.params.items) c.deref.ensures.value
          (subst (λ (r : Option (Vec VarInfo Global)). IfSome r (λ (infos : Vec VarInfo Global). TypesParameters here 0 c.deref.result.now infos.items)) c.in-Some-Some-Some.is-0 (c.in_ok-params.ensures.typed here inner (types ∙ ap (λ (ps : List Parameter). parameter_types here 0 ps) (sym c.deref.ensures.value))));
      once = λ here inner types.
          subst (λ (ps : List Parameter). length (behind_parameters here 0 ps).names.inner ≡ length here.names.inner + length ps) c.deref.ensures.value
          (subst (λ (r : Option (Vec VarInfo Global)). IfSome r (λ (infos : Vec VarInfo Global). length (behind_parameters here 0 c.deref.result.now).names.inner ≡ length here.names.inner + length c.deref.result.now)) c.in-Some-Some-Some.is-0 (c.in_ok-params.ensures.once here inner (types ∙ ap (λ (ps : List Parameter). parameter_types here 0 ps) (sym c.deref.ensures.value))));
      result = result;
      block = subst (λ (t : TStmt). IsTypedBlock new file first last site 0 function.body t) (sym c.into_inner.ensures) (subst (λ (s : Site). IsTypedBlock new file first last s 0 function.body c.in-Some-Some-Some.body.value) c.body_site-site.ensures block);
      calls = subst (λ (i : Instances). MeetsCallsOf i new file first site 0 function.body) same (subst (λ (s : Site). MeetsCallsOf c.count-2.new.self.instances new file first s 0 function.body) c.body_site-site.ensures calls);
      later = later;
      its_name = c.in_ok-copied.ensures;
      its_current = refl;
    } in
    instance_made tree file old new c.args.reached c.in-Some.info function _ whole plain headers c.in-Some.ensures (c.has_its_shape.ensures c.if-not-has_its_shape.false) made
