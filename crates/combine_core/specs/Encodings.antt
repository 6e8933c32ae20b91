-- The encodings: words and messages as numbers of 64 bits, which join in any order.
use Rattle.std.specs.Prelude.{ℕ, Bool, true, false, not, ◌+◌, ◌-◌, ◌*◌, ◌%◌, ◌^◌, ◌==◌, min, max, bit_and, bit_or, bit_xor, if◌then◌else◌}
use Rattle.cstar_base.specs.declared.operators.Combiner.{Combiner}
use Rattle.cstar_base.specs.declared.operators.Combiner.TheVariants as combiner
use Rattle.combine_core.specs.declared.kind.Kind.{Kind}
use Rattle.combine_core.specs.declared.kind.Kind.TheVariants.{Add, And, Or, Xor, Min, Max, Last, First}

-- the combiner of the language, and whether it reads its words as unsigned
abbrev pub combiner_of : Kind → Combiner × Bool
combiner_of Add = (combiner.Add, true)
combiner_of And = (combiner.And, true)
combiner_of Or = (combiner.Or, true)
combiner_of Xor = (combiner.Xor, true)
combiner_of (Min signed) = (combiner.Min, not signed)
combiner_of (Max signed) = (combiner.Max, not signed)
combiner_of Last = (combiner.Last, true)
combiner_of First = (combiner.Last, true)

-- whether the values are folded from the greatest sender down
abbrev pub is_descending : Kind → Bool
is_descending First = true
is_descending _ = false

-- a word in two's complement, moved so that the least number is 0; moved again, it is back
abbrev pub moved : ℕ → ℕ
moved w = (w + 2 ^ 31) % 2 ^ 32

-- the cell of a home word
abbrev pub encoded_home : Kind → ℕ → ℕ
encoded_home Add w = w
encoded_home And w = w
encoded_home Or w = w
encoded_home Xor w = w
encoded_home (Min signed) w = if signed then moved w else w
encoded_home (Max signed) w = if signed then moved w else w
encoded_home Last w = 0
encoded_home First w = 0

-- the number of a message with this sender and this word
abbrev pub encoded : Kind → ℕ → ℕ → ℕ
encoded Add sender w = w
encoded And sender w = w
encoded Or sender w = w
encoded Xor sender w = w
encoded (Min signed) sender w = if signed then moved w else w
encoded (Max signed) sender w = if signed then moved w else w
encoded Last sender w = (sender + 1) * 2 ^ 32 + w
encoded First sender w = (2 ^ 32 - 1 - sender) * 2 ^ 32 + w

abbrev pub joined : Kind → ℕ → ℕ → ℕ
joined Add a b = (a + b) % 2 ^ 64
joined And a b = bit_and a b
joined Or a b = bit_or a b
joined Xor a b = bit_xor a b
joined (Min signed) a b = min a b
joined (Max signed) a b = max a b
joined Last a b = max a b
joined First a b = max a b

-- the word that a cell stands for
abbrev pub decoded : Kind → ℕ → ℕ → ℕ
decoded Add home x = x % 2 ^ 32
decoded And home x = x
decoded Or home x = x
decoded Xor home x = x
decoded (Min signed) home x = if signed then moved x else x
decoded (Max signed) home x = if signed then moved x else x
decoded Last home x = if x == 0 then home else x % 2 ^ 32
decoded First home x = if x == 0 then home else x % 2 ^ 32
