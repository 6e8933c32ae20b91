-- Lists of views, and the workers that they show.
use Rattle.std.proofs.Common.{◌≡◌, ◌≢◌, ℕ, zero, suc, ◌<◌, true, List, [], ◌∷◌, ◌++◌, length, map, get_or, set, drop, slice_index, refl, sym, ap, ⊎_elim, subst, arith}
use mathlib.Core.Option.{some, some-injective, some-ne-none}
use lib.ListN.{get_elem?}
use Rattle.atomic_table.proofs.Lists.{at_set, at_snoc}
use Rattle.combine_core.specs.declared.worker.Worker.{Worker}
use Rattle.combine_core.specs.Machine.{spent}
use Rattle.combine_board.specs.declared.view.View.{View}
use Rattle.combine_board.specs.Values.{Plan}
use Rattle.combine_board.specs.Rule.{plan_of, Alike}

abbrev pub worker_of : View → Worker
worker_of v = v.worker

pub map-set : (views : List View) (i : ℕ) (w : View) → map (λ v. v.worker) (set views i w) ≡ set (map (λ v. v.worker) views) i w.worker
map-set [] i w = refl
map-set (v ∷ views) zero w = refl
map-set (v ∷ views) (suc i) w = ap (λ (us : List Worker). v.worker ∷ us) (map-set views i w)

pub map-push : (views : List View) (w : View) → map (λ v. v.worker) (views ++ w ∷ []) ≡ map (λ v. v.worker) views ++ w.worker ∷ []
map-push [] w = refl
map-push (v ∷ views) w = ap (λ (us : List Worker). v.worker ∷ us) (map-push views w)

pub view_within : (views : List View) (id : ℕ) (v : View) → get_elem? views id ≡ some v → id < length views
view_within [] id v e = absurd (some-ne-none v (sym e))
view_within (x ∷ views) zero v e = omega arith
view_within (x ∷ views) (suc id) v e = let r = view_within views id v e in omega arith

pub worker_shown : (views : List View) (id : ℕ) (v : View) → get_elem? views id ≡ some v → get_or (map (λ v. v.worker) views) id spent ≡ v.worker
worker_shown [] id v e = absurd (some-ne-none v (sym e))
worker_shown (x ∷ views) zero v e = ap worker_of (some-injective x v e)
worker_shown (x ∷ views) (suc id) v e = worker_shown views id v e

pub alike_set : (a : Plan) (views : List View) (id : ℕ) (w : View) → Alike a views → (w.worker.live ≡ true → plan_of w ≡ a) → Alike a (set views id w)
alike_set a views id w all one j u at live =
    ⊎_elim
    (λ (x : (j ≡ id) × (w ≡ u)). subst (λ (y : View). y.worker.live ≡ true → plan_of y ≡ a) x.1 one live)
    (λ (x : (j ≢ id) × (get_elem? views j ≡ some u)). all j u x.1 live)
    (at_set views id j w u at)

pub alike_push : (a : Plan) (views : List View) (w : View) → Alike a views → (w.worker.live ≡ true → plan_of w ≡ a) → Alike a (views ++ w ∷ [])
alike_push a views w all one j u at live =
    ⊎_elim
    (λ (x : get_elem? views j ≡ some u). all j u x live)
    (λ (x : w ≡ u). subst (λ (y : View). y.worker.live ≡ true → plan_of y ≡ a) x one live)
    (at_snoc views w u j at)

-- the first word, and the words behind it
pub first-set : (ws : List ℕ) (x : ℕ) → 0 < length ws → slice_index (set ws 0 x) 0 ≡ x
first-set [] x h = absurd (omega arith)
first-set (w ∷ ws) x h = refl

pub rest-set : (ws : List ℕ) (x : ℕ) → drop 1 (set ws 0 x) ≡ drop 1 ws
rest-set [] x = refl
rest-set (w ∷ ws) x = refl

pub first-set_rest : (ws : List ℕ) (i t x : ℕ) → i ≡ suc t → slice_index (set ws i x) 0 ≡ slice_index ws 0
first-set_rest [] i t x e = refl
first-set_rest (w ∷ ws) zero t x e = absurd (omega arith)
first-set_rest (w ∷ ws) (suc i) t x e = refl

pub rest-set_rest : (ws : List ℕ) (i t x : ℕ) → i ≡ suc t → drop 1 (set ws i x) ≡ set (drop 1 ws) t x
rest-set_rest [] i t x e = refl
rest-set_rest (w ∷ ws) zero t x e = absurd (omega arith)
rest-set_rest (w ∷ ws) (suc i) t x e = ap (λ (n : ℕ). set ws n x) (let q : i ≡ t = omega arith in q)

pub rest-get : (ws : List ℕ) (i t : ℕ) → i ≡ suc t → slice_index (drop 1 ws) t ≡ slice_index ws i
rest-get [] i t e = refl
rest-get (w ∷ ws) zero t e = absurd (omega arith)
rest-get (w ∷ ws) (suc i) t e = ap (slice_index ws) (let q : t ≡ i = omega arith in q)
