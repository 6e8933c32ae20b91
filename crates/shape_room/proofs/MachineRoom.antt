-- The needs of shapes and the bits that they take, shape by shape.
use Rattle.std.proofs.Common.{◌≡◌, ℕ, zero, suc, ◌+◌, ◌*◌, ◌-◌, ◌^◌, ◌/◌, ◌%◌, ◌<◌, ◌≤◌, List, [], ◌∷◌, drop, get_or, length, min, ◌⊎◌, inl, inr, refl, sym, ap, ◌∙◌, arith}
use Rattle.std.proofs.lemmas.Bool.{cases_lt}
use Rattle.std.proofs.lemmas.List.{drop_all, get_or_past}
use Rattle.std.proofs.Math.Nat.{le_trans, min-eq_left, mul-le-mul_right, zero-mul}
use Rattle.std.proofs.Math.Seq.{drop-cons}
use Rattle.std.specs.Prelude.{slice_index}
use Rattle.cstar_tree.specs.declared.typed.Instance.{Instance}
use Rattle.cstar_tree.specs.declared.typed.ShapeInfo.{ShapeInfo}
use Rattle.cstar_tree.specs.declared.typed.VarInfo.{VarInfo}
use Rattle.cstar_tree.specs.Room.{blocks, machine_bits, need, needs_from}
use Rattle.shape_room.specs.Counted.{counted}

next : (n : ℕ) → suc n ≡ n + 1
next n = omega arith

first_of : (shapes : List ShapeInfo) (n : ℕ) (info : ShapeInfo) → n < length shapes → info ≡ get_or shapes n info → drop n shapes ≡ info ∷ drop (n + 1) shapes
first_of shapes n info within is =
    drop-cons shapes n info within ∙ ap (λ (s : ShapeInfo). s ∷ drop (suc n) shapes) (sym is) ∙ ap (λ (k : ℕ). info ∷ drop k shapes) (next n)

pub next_need : (vars : List VarInfo) (instances : List Instance) (shapes : List ShapeInfo) (n : ℕ) (info : ShapeInfo) → n < length shapes → info ≡ get_or shapes n info →
    needs_from vars instances n (drop n shapes) ≡ need vars instances n ∷ needs_from vars instances (n + 1) (drop (n + 1) shapes)
unfolding needs_from
next_need vars instances shapes n info within is = ap (needs_from vars instances n) (first_of shapes n info within is)

pub no_need : (vars : List VarInfo) (instances : List Instance) (shapes : List ShapeInfo) (n : ℕ) → length shapes ≤ n → needs_from vars instances n (drop n shapes) ≡ []
unfolding needs_from
no_need vars instances shapes n end = ap (needs_from vars instances n) (drop_all n shapes end)

no_bits : (shapes : List ShapeInfo) → machine_bits shapes [] ≡ 0
unfolding machine_bits
no_bits [] = refl
no_bits (s ∷ rest) = refl

pub next_bits : (shapes : List ShapeInfo) (needs : List ℕ) (n : ℕ) (info : ShapeInfo) → n < length shapes → info ≡ get_or shapes n info →
    machine_bits (drop n shapes) (drop n needs) ≡ slice_index needs n * 512 * blocks info.extents.items + machine_bits (drop (n + 1) shapes) (drop (n + 1) needs)
unfolding machine_bits
next_bits shapes needs n info within is = ap (λ (ss : List ShapeInfo). machine_bits ss (drop n needs)) (first_of shapes n info within is) ∙ step (cases_lt n (length needs))
  where
    step : (n < length needs) ⊎ (length needs ≤ n) → machine_bits (info ∷ drop (n + 1) shapes) (drop n needs) ≡ slice_index needs n * 512 * blocks info.extents.items + machine_bits (drop (n + 1) shapes) (drop (n + 1) needs)
    step (inl some) =
        ap (machine_bits (info ∷ drop (n + 1) shapes)) (drop-cons needs n 0 some) ∙ ap (λ (k : ℕ). slice_index needs n * 512 * blocks info.extents.items + machine_bits (drop (n + 1) shapes) (drop k needs)) (next n)
    step (inr none) =
        let rest = ap (machine_bits (drop (n + 1) shapes)) (drop_all (n + 1) needs (omega arith)) ∙ no_bits (drop (n + 1) shapes) in
        ap (machine_bits (info ∷ drop (n + 1) shapes)) (drop_all n needs none)
        ∙ sym (ap (λ (k : ℕ). k * 512 * blocks info.extents.items + machine_bits (drop (n + 1) shapes) (drop (n + 1) needs)) (get_or_past needs n 0 none) ∙ omega (arith, rest))

pub no_bits_left : (shapes : List ShapeInfo) (needs : List ℕ) (n : ℕ) → length shapes ≤ n → machine_bits (drop n shapes) (drop n needs) ≡ 0
unfolding machine_bits
no_bits_left shapes needs n end = ap (λ (ss : List ShapeInfo). machine_bits ss (drop n needs)) (drop_all n shapes end)

-- ---- the blocks of a shape

ceiling : (positions : ℕ) → positions / 512 + min 1 (positions % 512) ≡ (positions + 511) / 512
ceiling positions = omega arith

-- more bits than are counted are as many as any
beyond : (need a b : ℕ) → 2 ^ 55 ≤ a → 2 ^ 55 ≤ b → counted (need * 512 * a) ≡ counted (need * 512 * b)
beyond zero a b first second = omega (arith, zero-mul a, zero-mul b)
beyond (suc need) a b first second = omega (arith, many need a first, many need b second)
  where
    many : (need a : ℕ) → 2 ^ 55 ≤ a → 2 ^ 64 ≤ suc need * 512 * a
    many need a great = le_trans (omega arith) (mul-le-mul_right a (least need))
      where
        least : (need : ℕ) → 512 ≤ suc need * 512
        least need = omega arith

pub bits_of_blocks : (need product positions blocks_are : ℕ) → positions ≡ min product (2 ^ 64 - 1) → blocks_are ≡ positions / 512 + min 1 (positions % 512) → counted (need * 512 * blocks_are) ≡ counted (need * 512 * ((product + 511) / 512))
bits_of_blocks need product positions blocks_are positions_are are = step (cases_lt (2 ^ 64 - 1) product)
  where
    step : (2 ^ 64 - 1 < product) ⊎ (product ≤ 2 ^ 64 - 1) → counted (need * 512 * blocks_are) ≡ counted (need * 512 * ((product + 511) / 512))
    step (inr few) =
        let same : blocks_are ≡ (product + 511) / 512 = are ∙ ceiling positions ∙ ap (λ (n : ℕ). (n + 511) / 512) (positions_are ∙ min-eq_left few) in
        ap (λ (n : ℕ). counted (need * 512 * n)) same
    step (inl many) = beyond need blocks_are ((product + 511) / 512) (omega arith) (omega arith)
