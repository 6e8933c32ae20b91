-- The lists of the calls of instances.
use Rattle.std.proofs.Common.{◌≡◌, ℕ, List, [], ◌∷◌, ◌++◌, length, map, Option, Some, None, sym, ap, subst, ◌∙◌, Vec, append_assoc}
use Rattle.std.proofs.lemmas.List.{length-map, map-append}
use Rattle.std.proofs.lemmas.Option.{none-some, same_Some, slice_get-map}
use Rattle.std.specs.Option.{option_map}
use Rattle.std.specs.Prelude.{Contains, slice_get}
use Rattle.std.specs.declared.alloc.Global.{Global}
use Rattle.call_graph.specs.Graph.{Successors}
use Rattle.cstar_tree.specs.declared.typed.Instance.{Instance}
use Rattle.cstar_tree.specs.TypedParts.{calls_within}
use Rattle.shape_room.specs.CallOrders.{HasCalls, numbers_in}

numbers_are : (o : Option (Vec ℕ Global)) (numbers : List ℕ) → option_map (λ (v : Vec ℕ Global). v.items) o ≡ Some numbers → numbers_in o ≡ numbers
numbers_are None numbers is = elim (none-some numbers is) [ ]
numbers_are (Some v) numbers is = same_Some v.items numbers is

abbrev pub calls_of_each : List Instance → List (List ℕ)
calls_of_each instances = map (λ (i : Instance). calls_within i.body) instances

numbers_at : (instances : List Instance) (called : List (Vec ℕ Global)) → Successors called ≡ calls_of_each instances → (number : ℕ) (i : Instance) → slice_get instances number ≡ Some i → numbers_in (slice_get called number) ≡ calls_within i.body
numbers_at instances called is number i at =
    numbers_are (slice_get called number) (calls_within i.body)
    (sym (slice_get-map (λ (v : Vec ℕ Global). v.items) called number)
    ∙ ap (λ (lists : List (List ℕ)). slice_get lists number) is
    ∙ slice_get-map (λ (i : Instance). calls_within i.body) instances number
    ∙ ap (option_map (λ (i : Instance). calls_within i.body)) at)

pub has_calls : (instances : List Instance) (called : List (Vec ℕ Global)) → Successors called ≡ calls_of_each instances → HasCalls instances called
has_calls instances called is = record {
  as_many = sym (length-map called (λ (v : Vec ℕ Global). v.items)) ∙ ap length is ∙ length-map instances (λ (i : Instance). calls_within i.body);
  just = λ number callee i at.
      let same = numbers_at instances called is number i at in
      (λ among. subst (λ numbers. Contains numbers callee) (sym same) among, λ among. subst (λ numbers. Contains numbers callee) same among);
}

next_list : (v : Vec ℕ Global) (so_far : List (Vec ℕ Global)) → Successors (so_far ++ v ∷ []) ≡ Successors so_far ++ v.items ∷ []
next_list v so_far = map-append (λ (v : Vec ℕ Global). v.items) so_far (v ∷ [])

-- one more list of calls
pub lists_more : (so_far new : List (Vec ℕ Global)) (v : Vec ℕ Global) (i : Instance) (rest left : List Instance) {all : List (List ℕ)} → new ≡ so_far ++ v ∷ [] → v.items ≡ calls_within i.body → calls_of_each left ≡ calls_within i.body ∷ calls_of_each rest
    → Successors so_far ++ calls_of_each left ≡ all → Successors new ++ calls_of_each rest ≡ all
lists_more so_far new v i rest left is_new is left_is begun =
    ap (λ (vs : List (Vec ℕ Global)). Successors vs ++ calls_of_each rest) is_new
    ∙ ap (λ (ls : List (List ℕ)). ls ++ calls_of_each rest) (next_list v so_far)
    ∙ append_assoc (Successors so_far) (v.items ∷ []) (calls_of_each rest)
    ∙ ap (λ (ns : List ℕ). Successors so_far ++ (ns ∷ calls_of_each rest)) is
    ∙ ap (λ (ls : List (List ℕ)). Successors so_far ++ ls) (sym left_is)
    ∙ begun
