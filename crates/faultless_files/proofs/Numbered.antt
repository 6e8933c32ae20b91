-- Each instance of a program has one number.
use Rattle.std.proofs.Common.{◌≡◌, ◌&&◌, ℕ, zero, suc, Bool, true, false, List, [], ◌∷◌, map, slice_get, Option, Some, None, refl, sym, ap, subst, ◌∙◌, if◌then◌else◌}
use Rattle.std.proofs.lemmas.Bool.{eq-eqb}
use Rattle.std.proofs.lemmas.Option.{none-some, same_Some}
use Rattle.cstar_tree.specs.declared.syntax.Tree.{Tree}
use Rattle.cstar_tree.specs.FileScopes.{file_functions, file_known}
use Rattle.cstar_tree.specs.Headers.{Placed, Reached}
use Rattle.cstar_tree.specs.Instances.{after_rounds, calls_of, first_met, instances_from, is_met, main_of, next_round, program_of, reached_by, same, same_shape}
use Rattle.cstar_tree.specs.TypedParts.{concat}
use Rattle.faultless_files.proofs.SameTrees.{AreNumbered}

same_shape_itself : (shape : Option ℕ) → same_shape shape shape ≡ true
same_shape_itself None = refl
same_shape_itself (Some number) = eq-eqb number number refl

same_itself : (r : Reached) → same r r ≡ true
same_itself r = ap (λ (b : Bool). b && same_shape r.current r.current) (eq-eqb r.function r.function refl) ∙ same_shape_itself r.current

not_met : (x r : Reached) (before : List Reached) → is_met r (x ∷ before) ≡ false → (same x r ≡ false) × (is_met r before ≡ false)
unfolding is_met
not_met x r before = by_first (same x r)
  where
    by_first : (b : Bool) → (if b then true else is_met r before) ≡ false → (b ≡ false) × (is_met r before ≡ false)
    by_first true is = absurd (cc)
    by_first false is = (refl, is)

-- none of a list was met before, and each stands in it once
record AreNew (before list : List Reached) : Type 0 where
  new : (k : ℕ) (r : Reached) → slice_get list k ≡ Some r → is_met r before ≡ false
  once : (i j : ℕ) (r : Reached) → slice_get list i ≡ Some r → slice_get list j ≡ Some r → i ≡ j

none_new : (before : List Reached) → AreNew before []
none_new before = record { new = λ k r is. absurd (none-some r is); once = λ i j r is known. absurd (none-some r is) }

module _ (before : List Reached) (x : Reached) (is_new : is_met x before ≡ false) (list : List Reached) (others : AreNew (x ∷ before) list) where
  other : (r : Reached) (k : ℕ) → slice_get list k ≡ Some r → x ≡ r → ⊥
  other r k is same_one =
      let differs = not_met x r before (others.new k r is) in
      let no_one = differs.0 in
      let itself = same_itself x in
      let alike : same x r ≡ true = ap (same x) (sym same_one) ∙ itself in
      absurd (cc)

  one_new : (k : ℕ) (r : Reached) → slice_get (x ∷ list) k ≡ Some r → is_met r before ≡ false
  one_new zero r is = subst (λ (s : Reached). is_met s before ≡ false) (same_Some x r is) is_new
  one_new (suc k) r is = let parts = not_met x r before (others.new k r is) in parts.1

  one_once : (i j : ℕ) (r : Reached) → slice_get (x ∷ list) i ≡ Some r → slice_get (x ∷ list) j ≡ Some r → i ≡ j
  one_once zero zero r is known = refl
  one_once zero (suc j) r is known = absurd (other r j known (same_Some x r is))
  one_once (suc i) zero r is known = absurd (other r i is (same_Some x r known))
  one_once (suc i) (suc j) r is known = ap suc (others.once i j r is known)

first_met_new : (before list : List Reached) → AreNew before (first_met before list)
unfolding first_met
first_met_new before [] = none_new before
first_met_new before (x ∷ rest) = by_met (is_met x before) refl (first_met_new before rest) (first_met_new (x ∷ before) rest)
  where
    by_met : (b : Bool) → is_met x before ≡ b → AreNew before (first_met before rest) → AreNew (x ∷ before) (first_met (x ∷ before) rest) → AreNew before (if b then first_met before rest else x ∷ first_met (x ∷ before) rest)
    by_met true is old new = old
    by_met false is old new = record { new = one_new before x is (first_met (x ∷ before) rest) new; once = one_once before x is (first_met (x ∷ before) rest) new }

abbrev StandOnce : List Reached → Type 0
StandOnce list = (i j : ℕ) (r : Reached) → slice_get list i ≡ Some r → slice_get list j ≡ Some r → i ≡ j

alone : (r : Reached) → StandOnce (r ∷ [])
alone r zero zero s is known = refl
alone r zero (suc j) s is known = absurd (none-some s known)
alone r (suc i) j s is known = absurd (none-some s is)

rounds_once : (shapes : List (List ℕ)) (functions : List Placed) (rounds : ℕ) (main : Reached) → StandOnce (after_rounds rounds shapes functions main)
unfolding after_rounds next_round
rounds_once shapes functions zero main = alone main
rounds_once shapes functions (suc rounds) main =
    let all = first_met_new [] (main ∷ concat (map (λ (r : Reached). reached_by (calls_of shapes functions r)) (after_rounds rounds shapes functions main))) in
    all.once

instances_once : (shapes : List (List ℕ)) (functions : List Placed) (main : Option ℕ) → StandOnce (instances_from shapes functions main)
instances_once shapes functions None = λ i j r is known. absurd (none-some r is)
instances_once shapes functions (Some main) = rounds_once shapes functions _ (record { function = main; current = None })

pub programs_numbered : (tree : Tree) → AreNumbered (program_of tree)
programs_numbered tree = instances_once (file_known tree).shapes (file_functions tree) (main_of tree)
