-- How many steps are left to a walk.
use Rattle.std.proofs.Common.{◌≡◌, ℕ, zero, suc, ◌+◌, ◌≤◌, List, [], ◌∷◌, length, slice_get, Option, Some, ap, arith}
use Rattle.std.proofs.Math.ListN.{set}
use Rattle.call_graph.specs.declared.walk.Place.{Place}
use Rattle.call_graph.specs.declared.walk.Place.TheVariants.{New, Open, Grouped}
use Rattle.call_graph.specs.Walk.{Moves, left_over}

same_length : (a b : List ℕ) → ◌≡◌ {A = Option (List ℕ)} (Some a) (Some b) → length a ≡ length b
same_length a b e = ap length (let same : a ≡ b = cc in same)

-- a node that is come to leaves the new ones
pub one_entered : (calls : List (List ℕ)) (places : List Place) (v n : ℕ) (called : List ℕ) → slice_get places v ≡ Some New → slice_get calls v ≡ Some called → left_over calls (set places v (Open n)) + (length called + 2) ≡ left_over calls places
unfolding left_over
one_entered [] places v n called is at_v = cc
one_entered (c ∷ calls) [] v n called is at_v = cc
one_entered (c ∷ calls) (New ∷ places) zero n called is at_v = omega (arith, same_length c called at_v)
one_entered (c ∷ calls) (Open m ∷ places) zero n called is at_v = cc
one_entered (c ∷ calls) (Grouped m ∷ places) zero n called is at_v = cc
one_entered (c ∷ calls) (New ∷ places) (suc v) n called is at_v = omega (arith, one_entered calls places v n called is at_v)
one_entered (c ∷ calls) (Open m ∷ places) (suc v) n called is at_v = one_entered calls places v n called is at_v
one_entered (c ∷ calls) (Grouped m ∷ places) (suc v) n called is at_v = one_entered calls places v n called is at_v

rest_moves : (o p : Place) (old new : List Place) → Moves (o ∷ old) (p ∷ new) → Moves old new
rest_moves o p old new moves = λ least node. moves least (suc node)

-- no node becomes new
pub fewer_left : (calls : List (List ℕ)) (old new : List Place) → length new ≡ length old → Moves old new → left_over calls new ≤ left_over calls old
unfolding left_over
fewer_left [] old new same moves = omega arith
fewer_left (c ∷ calls) [] [] same moves = omega arith
fewer_left (c ∷ calls) [] (p ∷ new) same moves = absurd (omega arith)
fewer_left (c ∷ calls) (o ∷ old) [] same moves = absurd (omega arith)
fewer_left (c ∷ calls) (New ∷ old) (New ∷ new) same moves = omega (arith, fewer_left calls old new (omega arith) (rest_moves New New old new moves))
fewer_left (c ∷ calls) (New ∷ old) (Open n ∷ new) same moves = omega (arith, fewer_left calls old new (omega arith) (rest_moves New (Open n) old new moves))
fewer_left (c ∷ calls) (New ∷ old) (Grouped n ∷ new) same moves = omega (arith, fewer_left calls old new (omega arith) (rest_moves New (Grouped n) old new moves))
fewer_left (c ∷ calls) (Open m ∷ old) (New ∷ new) same moves = absurd (moves 0 0 (omega arith))
fewer_left (c ∷ calls) (Open m ∷ old) (Open n ∷ new) same moves = fewer_left calls old new (omega arith) (rest_moves (Open m) (Open n) old new moves)
fewer_left (c ∷ calls) (Open m ∷ old) (Grouped n ∷ new) same moves = fewer_left calls old new (omega arith) (rest_moves (Open m) (Grouped n) old new moves)
fewer_left (c ∷ calls) (Grouped m ∷ old) (New ∷ new) same moves = absurd (moves 0 0 tt)
fewer_left (c ∷ calls) (Grouped m ∷ old) (Open n ∷ new) same moves = fewer_left calls old new (omega arith) (rest_moves (Grouped m) (Open n) old new moves)
fewer_left (c ∷ calls) (Grouped m ∷ old) (Grouped n ∷ new) same moves = fewer_left calls old new (omega arith) (rest_moves (Grouped m) (Grouped n) old new moves)
