-- An instance that another calls never leads back to it.
use Rattle.std.proofs.Common.{◌≡◌, ℕ, zero, suc, List, ◌++◌, map, slice_get, Some, refl, sym, ap, subst, ◌∙◌}
use Rattle.std.proofs.lemmas.Option.{get_or_from_slice_get, none-some, same_Some, slice_get_within}
use Rattle.std.specs.List.{Contains}
use Rattle.cstar_tree.specs.declared.typed.Instance.{Instance}
use Rattle.cstar_tree.specs.declared.typed.LocalVar.{LocalVar}
use Rattle.cstar_tree.specs.declared.typed.TStmt.{TStmt}
use Rattle.cstar_tree.specs.Calls.{calls_in_block}
use Rattle.cstar_tree.specs.Headers.{Leads, Program, Reached, body_place, calls_it, is_it, header_place, returns_of}
use Rattle.cstar_tree.specs.ProgramTypes.{IsBody, TypesInstance, TypesInstances}
use Rattle.cstar_tree.specs.ProgramTypes as Y
use Rattle.cstar_tree.specs.TypedParts.{calls_within, concat}
use Rattle.call_graph.proofs.WalkLemmas.{leads_on}
use Rattle.shape_room.proofs.CallsInParts.{block_calls}
use Rattle.typed_calls.specs.Laws.{BodiesCall, TypedProgramsHaveNoCycle}
use Rattle.typed_calls.proofs.Alike.{alike_body}
use Rattle.typed_calls.proofs.Callees.{AreCallees, same_callees}
use Rattle.typed_calls.proofs.StatementCallees.{initial_calls, parts_called}

body_has : {ls : List LocalVar} {ss : List TStmt} {t : TStmt} → IsBody ls ss t → calls_within t ≡ initial_calls ls ++ concat (map calls_within ss)
body_has {ls = ls} (Y.body locals statements ls_are ss_are) =
    block_calls _ locals statements refl
    ∙ ap (λ (ls : List LocalVar). initial_calls ls ++ concat (map calls_within statements.items)) ls_are
    ∙ ap (λ (ss : List TStmt). initial_calls ls ++ concat (map calls_within ss)) ss_are

-- the list of the calls of the instance of a number
record IsListed (program : Program) (shapes : List (List ℕ)) (reached : List Reached) (number : ℕ) (called : List ℕ) : Type 0 where
  pub r : Reached
  pub i : Instance
  pub is_reached : slice_get reached number ≡ Some r
  pub typed : TypesInstance program shapes r i
  pub calls_are : calls_within i.body ≡ called

listed : {program : Program} {shapes : List (List ℕ)} {reached : List Reached} {instances : List Instance} → TypesInstances program shapes reached instances → (number : ℕ) (called : List ℕ) → slice_get (map (λ (i : Instance). calls_within i.body) instances) number ≡ Some called
    → IsListed program shapes reached number called
listed Y.no_instance number called at = elim (none-some called at) [ ]
listed (Y.next_instance {r = r} {i = i} typed more) zero called at = record { r = r; i = i; is_reached = refl; typed = typed; calls_are = same_Some (calls_within i.body) called at }
listed (Y.next_instance typed more) (suc number) called at =
    let it = listed more number called at in
    record { r = it.r; i = it.i; is_reached = it.is_reached; typed = it.typed; calls_are = it.calls_are }

module _ (program : Program) (shapes : List (List ℕ)) (instances : List Instance) (bodies : BodiesCall program shapes) (typed : TypesInstances program shapes program.instances instances) where
  abbrev calls : List (List ℕ)
  calls = map (λ (i : Instance). calls_within i.body) instances

  callees_of : {r : Reached} {i : Instance} (t : TypesInstance program shapes r i) → AreCallees program r.function (calls_in_block t.placed.function.body (body_place shapes t.placed r)) (calls_within i.body)
  callees_of {r = r} t =
      same_callees program r.function refl (body_has t.body)
      (parts_called program r.function (returns_of (header_place shapes t.placed r) t.placed.function.result) (body_place shapes t.placed r) t.block (alike_body shapes t.placed r))

  -- a call of one instance in another
  record IsEdge (from to : ℕ) : Type 0 where
    pub caller : Reached
    pub callee : Reached
    pub from_is : slice_get program.instances from ≡ Some caller
    pub to_is : slice_get program.instances to ≡ Some callee
    pub there : Leads program.calls caller.function callee.function
    pub no_way_back : Leads program.calls callee.function caller.function → ⊥

  edge : (from to i : ℕ) (called : List ℕ) → slice_get calls from ≡ Some called → slice_get called i ≡ Some to → IsEdge from to
  edge from to i called at_from at_i =
      let it = listed typed from called at_from in
      let among : Contains called to = (i, slice_get_within called i to at_i, get_or_from_slice_get called i to to at_i) in
      let is = (callees_of it.typed).each to (subst (λ ns. Contains ns to) (sym it.calls_are) among) in
      record {
        caller = it.r;
        callee = is.instance;
        from_is = it.is_reached;
        to_is = is.is_instance;
        there = subst (λ g. Leads program.calls it.r.function g) is.same_function (bodies it.r it.typed.placed is.call it.typed.is_function is.stands);
        no_way_back = is.no_way_back;
      }

  same_instance : (k : ℕ) (r s : Reached) → slice_get program.instances k ≡ Some r → slice_get program.instances k ≡ Some s → r ≡ s
  same_instance k r s is_r is_s = same_Some r s (sym is_r ∙ is_s)

  -- a way from instance to instance is a way from function to function
  way : {from to : ℕ} → Leads calls from to → (r s : Reached) → slice_get program.instances from ≡ Some r → slice_get program.instances to ≡ Some s → Leads program.calls r.function s.function
  way {from = from} is_it r s is_r is_s = subst (λ (x : Reached). Leads program.calls r.function x.function) (same_instance from r s is_r is_s) is_it
  way (calls_it {f = from} {g = next} {called = called} i at_from at_i more) r s is_r is_s =
      let e = edge from next i called at_from at_i in
      leads_on (subst (λ (x : Reached). Leads program.calls x.function e.callee.function) (same_instance from e.caller r e.from_is is_r) e.there) (way more e.callee s e.to_is is_s)

  none_back : (from to i : ℕ) (called : List ℕ) → slice_get calls from ≡ Some called → slice_get called i ≡ Some to → Leads calls to from → ⊥
  none_back from to i called at_from at_i back =
      let e = edge from to i called at_from at_i in
      e.no_way_back (way back e.callee e.caller e.to_is e.from_is)

pub no_cycle : TypedProgramsHaveNoCycle
no_cycle program shapes instances bodies typed = none_back program shapes instances bodies typed
