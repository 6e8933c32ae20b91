-- The instances of a program: the first is `main`, none is met twice, and what goes on from each to those that it
-- calls is true of all. The typed ones have their numbers.
use Rattle.std.proofs.Common.{◌≡◌, ℕ, zero, suc, ◌&&◌, Bool, true, false, if◌then◌else◌, List, [], ◌∷◌, map, Option, Some, None, refl, sym, ap, ◌∙◌, subst}
use Rattle.std.specs.List.{All, slice_get}
use Rattle.std.proofs.lemmas.Bool.{eq-eqb}
use Rattle.std.proofs.lemmas.List.Elements.{All-append, All-cons, All-head, All-nil, All-tail, All-weaker}
use Rattle.std.proofs.lemmas.Option.{none-some, same_Some}
use Rattle.cstar_tree.specs.declared.typed.Instance.{Instance}
use Rattle.cstar_tree.specs.Calls.{Call}
use Rattle.cstar_tree.specs.Headers.{Placed, Program, Reached}
use Rattle.cstar_tree.specs.Instances.{after_rounds, calls_of, first_met, instances_from, is_met, next_round, reached_by, same, same_shape}
use Rattle.cstar_tree.specs.ProgramTypes.{TypesInstance, TypesInstances}
use Rattle.cstar_tree.specs.ProgramTypes as Y
use Rattle.cstar_tree.specs.TypedParts.{concat}
use Rattle.scalar_texts.proofs.Apart.{AreApart, IsOther, none_apart, one_apart}

-- ---- none is met twice

same_shape_itself : (shape : Option ℕ) → same_shape shape shape ≡ true
same_shape_itself None = refl
same_shape_itself (Some number) = eq-eqb number number refl

same_itself : (r : Reached) → same r r ≡ true
same_itself r = ap (λ (b : Bool). b && same_shape r.current r.current) (eq-eqb r.function r.function refl) ∙ same_shape_itself r.current

not_met : (x r : Reached) (before : List Reached) → is_met r (x ∷ before) ≡ false → (same x r ≡ false) × (is_met r before ≡ false)
unfolding is_met
not_met x r before = by_first (same x r)
  where
    by_first : (b : Bool) → (if b then true else is_met r before) ≡ false → (b ≡ false) × (is_met r before ≡ false)
    by_first true is = absurd (cc)
    by_first false is = (refl, is)

abbrev itself : Reached → Reached
itself r = r

abbrev IsNew : List Reached → Reached → Type 0
IsNew before r = is_met r before ≡ false

-- none of these is among those before, and each stands once
abbrev AreNew : List Reached → List Reached → Type 0
AreNew before list = All (IsNew before) list × AreApart itself list

first_met_new : (before list : List Reached) → AreNew before (first_met before list)
unfolding first_met
first_met_new before [] = (All-nil (IsNew before), none_apart itself)
first_met_new before (x ∷ rest) = by_met (is_met x before) refl (first_met_new before rest) (first_met_new (x ∷ before) rest)
  where
    other : (r : Reached) → IsNew (x ∷ before) r → IsOther itself x r
    other r new is =
        let differs = not_met x x before (subst (IsNew (x ∷ before)) (sym is) new) in
        let alike = same_itself x in
        let no = differs.0 in
        cc

    by_met : (b : Bool) → is_met x before ≡ b → AreNew before (first_met before rest) → AreNew (x ∷ before) (first_met (x ∷ before) rest) → AreNew before (if b then first_met before rest else x ∷ first_met (x ∷ before) rest)
    by_met true is old new = old
    by_met false is old new = (
      All-cons (IsNew before) x _ is (All-weaker (IsNew (x ∷ before)) (IsNew before) (λ (r : Reached) new. let parts = not_met x r before new in parts.1) _ new.0),
      one_apart itself x _ (All-weaker (IsNew (x ∷ before)) (IsOther itself x) other _ new.0) new.1,
    )

module _ (shapes : List (List ℕ)) (functions : List Placed) where
  once_from : (rounds : ℕ) (main : Reached) → AreApart itself (after_rounds rounds shapes functions main)
  unfolding after_rounds next_round
  once_from zero main = one_apart itself main [] (All-nil (IsOther itself main)) (none_apart itself)
  once_from (suc rounds) main = let new = first_met_new [] (main ∷ concat (map (λ (r : Reached). reached_by (calls_of shapes functions r)) (after_rounds rounds shapes functions main))) in new.1

  pub met_once : (main : Option ℕ) → AreApart itself (instances_from shapes functions main)
  met_once None = none_apart itself
  met_once (Some main) = once_from _ (record { function = main; current = None })

  -- ---- the first, and what goes on from it

  first_is : (rounds : ℕ) (main : Reached) → slice_get (after_rounds rounds shapes functions main) 0 ≡ Some main
  unfolding after_rounds next_round first_met is_met
  first_is zero main = refl
  first_is (suc rounds) main = refl

  module _ (P : Reached → Type 0) where
    -- a call goes on to what it reaches
    abbrev pub GoesOn : Call → Type 0
    GoesOn c = P (record { function = c.function; current = c.current })

    all_called : (cs : List Call) → All GoesOn cs → All P (reached_by cs)
    unfolding reached_by
    all_called [] all = All-nil P
    all_called (c ∷ cs) all = by_typed c.typed (all_called cs (All-tail GoesOn c cs all))
      where
        by_typed : (b : Bool) → All P (reached_by cs) → All P (if b then record { function = c.function; current = c.current } ∷ reached_by cs else reached_by cs)
        by_typed true rest = All-cons P (record { function = c.function; current = c.current }) (reached_by cs) (All-head GoesOn c cs all) rest
        by_typed false rest = rest

    all_first_met : (before list : List Reached) → All P list → All P (first_met before list)
    unfolding first_met
    all_first_met before [] all = All-nil P
    all_first_met before (r ∷ rest) all = by_met (is_met r before) (all_first_met before rest (All-tail P r rest all)) (all_first_met (r ∷ before) rest (All-tail P r rest all))
      where
        by_met : (b : Bool) → All P (first_met before rest) → All P (first_met (r ∷ before) rest) → All P (if b then first_met before rest else r ∷ first_met (r ∷ before) rest)
        by_met true old new = old
        by_met false old new = All-cons P r (first_met (r ∷ before) rest) (All-head P r rest all) new

    module _ (step : (r : Reached) → P r → All GoesOn (calls_of shapes functions r)) where
      all_steps : (list : List Reached) → All P list → All P (concat (map (λ (r : Reached). reached_by (calls_of shapes functions r)) list))
      unfolding concat
      all_steps [] all = All-nil P
      all_steps (r ∷ rest) all =
          All-append P (reached_by (calls_of shapes functions r)) (concat (map (λ (r : Reached). reached_by (calls_of shapes functions r)) rest))
          (all_called (calls_of shapes functions r) (step r (All-head P r rest all))) (all_steps rest (All-tail P r rest all))

      all_rounds : (rounds : ℕ) (main : Reached) → P main → All P (after_rounds rounds shapes functions main)
      unfolding after_rounds next_round
      all_rounds zero main is = All-cons P main [] is (All-nil P)
      all_rounds (suc rounds) main is =
          let list = after_rounds rounds shapes functions main in
          all_first_met [] (main ∷ concat (map (λ (r : Reached). reached_by (calls_of shapes functions r)) list)) (All-cons P main _ is (all_steps list (all_rounds rounds main is)))

      -- what goes on with calls, from the first, is true of each
      pub all_met : (main : Option ℕ) (first : Reached) → slice_get (instances_from shapes functions main) 0 ≡ Some first → P first → All P (instances_from shapes functions main)
      all_met None first at is = All-nil P
      all_met (Some main) first at is = all_rounds _ (record { function = main; current = None }) (subst P (same_Some first _ (sym at ∙ first_is _ (record { function = main; current = None }))) is)

-- ---- the typed instances

pub at_typed : {program : Program} {shapes : List (List ℕ)} {rs : List Reached} {is : List Instance} → TypesInstances program shapes rs is → (number : ℕ) (i : Instance) → slice_get is number ≡ Some i →
    (r : Reached) × (slice_get rs number ≡ Some r) × TypesInstance program shapes r i
at_typed Y.no_instance number i found = elim (none-some i found) [ ]
at_typed {program = program} {shapes = shapes} (Y.next_instance {r = r} {i = first} typed more) zero i found = (r, refl, subst (TypesInstance program shapes r) (same_Some first i found) typed)
at_typed (Y.next_instance typed more) (suc number) i found = at_typed more number i found

pub at_reached : {program : Program} {shapes : List (List ℕ)} {rs : List Reached} {is : List Instance} → TypesInstances program shapes rs is → (number : ℕ) (r : Reached) → slice_get rs number ≡ Some r →
    (i : Instance) × (slice_get is number ≡ Some i) × TypesInstance program shapes r i
at_reached Y.no_instance number r found = elim (none-some r found) [ ]
at_reached {program = program} {shapes = shapes} (Y.next_instance {r = first} {i = i} typed more) zero r found = (i, refl, subst (λ (r : Reached). TypesInstance program shapes r i) (same_Some first r found) typed)
at_reached (Y.next_instance typed more) (suc number) r found = at_reached more number r found
