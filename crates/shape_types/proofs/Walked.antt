-- The walk over the instances that are met: when none is left, they are the program's.
use Rattle.std.proofs.Common.{◌≡◌, ◌≤◌, ◌+◌, ◌-◌, ◌^◌, ◌*◌, min, is_some, false, length-append, ℕ, zero, suc, add-one, length, take, slice_get, List, [], ◌∷◌, ◌++◌, Option, Some, None, arith, refl, sym, ap, subst, ◌∙◌}
use Rattle.std.proofs.Math.Seq.{take-length}
use Rattle.std.proofs.Math.Nat.{mul-le-mul_left}
use Rattle.std.proofs.lemmas.Option.{same_Some, slice_get_past}
use Rattle.std.proofs.lemmas.List.Elements.{All-nil, All-push}
use Rattle.std.specs.List.{All}
use Rattle.std.specs.Option.{option_map}
use Rattle.cstar_tree.specs.declared.syntax.Tree.{Tree}
use Rattle.cstar_tree.specs.declared.typed.Instance.{Instance}
use Rattle.cstar_tree.specs.FileScopes.{file_functions, file_known}
use Rattle.cstar_tree.specs.Headers.{Program, Reached}
use Rattle.cstar_tree.specs.Instances.{instances_from, instances_of, is_met, main_of}
use Rattle.cstar_tree.specs.ProgramTypes.{TypesInstance, TypesInstances}
use Rattle.cstar_tree.specs.ProgramTypes as P
use Rattle.program_laws.proofs.MetInstances.{met_are_the_programs}
use Rattle.program_laws.specs.MetInstances.{met_behind, with_called}
use Rattle.shape_types.specs.Reached.{AreInstances, HasOwnParameters, IsTypedInstance, called_in, with_instances}
use Rattle.type_expressions.proofs.CallsWithin.{among_more, beginning_both, beginning_same}
use Rattle.type_expressions.specs.Instances.{IsBeginning, instance_of, met, with_met}
use Rattle.type_expressions.specs.declared.found.Instances.{Instances}
use Rattle.type_scopes.specs.declared.headers.Reached as Kept

-- The first so many instances from `main` on were walked over: what was met is what the rules say, and
-- these are typed, in each program that begins with what was met, and have parameters of their own.
pub record AreWalked (tree : Tree) (main : Reached) (found : Instances) (n : ℕ) (typed : List Instance) : Type 0 where
  pub met_so_far : met found ≡ met_behind (called_in tree) main n
  pub instances : (all : List Reached) → IsBeginning (met found) all → TypesInstances (with_instances tree all) (file_known tree).shapes (take n all) typed
  pub parameters : (all : List Reached) → IsBeginning (met found) all → All (HasOwnParameters tree) (take n all)

pub first_met : (r : Reached) → with_met r [] ≡ r ∷ []
unfolding is_met
first_met r = refl

pub none_walked : (tree : Tree) (main : Reached) (found : Instances) → met found ≡ main ∷ [] → AreWalked tree main found 0 []
unfolding met_behind
none_walked tree main found is = record { met_so_far = is; instances = λ all begins. P.no_instance; parameters = λ all begins. All-nil (HasOwnParameters tree) }

take_more : (xs : List Reached) (n : ℕ) (x : Reached) → slice_get xs n ≡ Some x → take (suc n) xs ≡ take n xs ++ x ∷ []
take_more [] n x is = absurd (cc)
take_more (y ∷ ys) zero x is = ap (λ (r : Reached). r ∷ []) (same_Some y x is)
take_more (y ∷ ys) (suc n) x is = ap (λ (rs : List Reached). y ∷ rs) (take_more ys n x is)

typed_more : {program : Program} {shapes : List (List ℕ)} {rs : List Reached} {is : List Instance} {r : Reached} {i : Instance} → TypesInstances program shapes rs is → TypesInstance program shapes r i → TypesInstances program shapes (rs ++ r ∷ []) (is ++ i ∷ [])
typed_more P.no_instance t = P.next_instance t P.no_instance
typed_more (P.next_instance first rest) t = P.next_instance first (typed_more rest t)

pub walked_more : (tree : Tree) (main : Reached) (old new : Instances) (n : ℕ) (r : Reached) (i : Instance) (typed more : List Instance) → slice_get (met old) n ≡ Some r → IsBeginning (met old) (met new) → IsTypedInstance tree old new r i → more ≡ typed ++ i ∷ []
    → AreWalked tree main old n typed → AreWalked tree main new (n + 1) more
unfolding met_behind
walked_more tree main old new n r i typed more is begins t pushed so_far = record {
  met_so_far = rw add-one (t.calls ∙ sym (ap (λ (l : List Reached). with_called (called_in tree) l (slice_get l n)) (sym so_far.met_so_far) ∙ ap (with_called (called_in tree) (met old)) is));
  instances = λ all behind.
      let before = so_far.instances all (beginning_both begins behind) in
      let next = take_more all n r (among_more n r (beginning_both begins behind) is) in
      rw (add-one, pushed) (subst (λ (l : List Reached). TypesInstances (with_instances tree all) (file_known tree).shapes l (typed ++ i ∷ [])) (sym next) (typed_more before (t.typed all behind)));
  parameters = λ all behind.
      let before = so_far.parameters all (beginning_both begins behind) in
      let next = take_more all n r (among_more n r (beginning_both begins behind) is) in
      rw add-one (subst (All (HasOwnParameters tree)) (sym next) (All-push (HasOwnParameters tree) (take n all) r before t.parameters));
}

-- ---- the end of the walk

pub longer : {first all : List Reached} → IsBeginning first all → length first ≤ length all
longer {first} b = let long = ap (λ (l : List Reached). length l) b.whole ∙ length-append first b.rest in omega (arith, long)

none_at : (xs : List Reached) (k : ℕ) → slice_get xs k ≡ None → length xs ≤ k
none_at [] k is = omega arith
none_at (x ∷ xs) zero is = absurd (cc)
none_at (x ∷ xs) (suc k) is = let rest = none_at xs k is in omega (arith, rest)

pub none_left : (instances : Instances) (k : ℕ) (r : Option Kept.Reached) → option_map instance_of r ≡ slice_get (met instances) k → is_some r ≡ false → length (met instances) ≤ k
none_left instances k None is none = none_at (met instances) k (sym is)
none_left instances k (Some r) is none = absurd (cc)

pub few_walked : (n functions shapes all most : ℕ) → n ≤ most → all ≡ min (shapes + 1) (2 ^ 64 - 1) → most ≡ min (functions * all) (2 ^ 64 - 1) → n ≤ functions * (shapes + 1)
few_walked n functions shapes all most within all_is most_is =
    let less : all ≤ shapes + 1 = omega (arith, all_is) in
    let more = mul-le-mul_left functions less in
    omega (arith, within, most_is, more)

pub whole_program : (tree : Tree) (main : ℕ) (found : Instances) (n : ℕ) (typed : List Instance) → AreWalked tree (record { function = main; current = None }) found n typed → n ≡ length (met found) → n ≤ length (file_functions tree) * (length (file_known tree).shapes + 1) → main_of tree ≡ Some main
    → AreInstances tree typed
whole_program tree main found n typed walked all few is =
    let none : slice_get (met_behind (called_in tree) (record { function = main; current = None }) n) n ≡ None = subst (λ (l : List Reached). slice_get l n ≡ None) walked.met_so_far (slice_get_past (met found) n (omega (arith, all))) in
    let same : instances_of tree ≡ met found =
    ap (instances_from (file_known tree).shapes (file_functions tree)) is
    ∙ (met_are_the_programs (file_known tree).shapes (file_functions tree) (record { function = main; current = None }) n (length (file_functions tree) * (length (file_known tree).shapes + 1)) few none ∙ sym walked.met_so_far)
    in
    let whole : take n (met found) ≡ met found = ap (λ (k : ℕ). take k (met found)) all ∙ take-length (met found) in
    record {
      typed =
          subst (λ (rs : List Reached). TypesInstances (with_instances tree rs) (file_known tree).shapes rs typed) (sym same)
          (subst (λ (rs : List Reached). TypesInstances (with_instances tree (met found)) (file_known tree).shapes rs typed) whole (walked.instances (met found) (beginning_same refl)));
      parameters = subst (All (HasOwnParameters tree)) (whole ∙ sym same) (walked.parameters (met found) (beginning_same refl));
    }
