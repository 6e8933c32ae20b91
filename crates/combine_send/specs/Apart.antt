-- A send whose workers each combine messages in cells of their own.
use Rattle.std.specs.Prelude.{ℕ, ◌-◌, ◌*◌, ◌^◌, min}
use Rattle.cstar_base.specs.declared.operators.Combiner.{Combiner}
use Rattle.cstar_base.specs.declared.operators.Combiner.TheVariants.{Add, And, Or, Xor, Min, Max, Last}
use Rattle.combine_core.specs.declared.kind.Kind.{Kind}
use Rattle.combine_core.specs.Encodings.{combiner_of}

abbrev pub blank_of : Combiner → ℕ
blank_of Add = 0
blank_of And = 2 ^ 64 - 1
blank_of Or = 0
blank_of Xor = 0
blank_of Min = 2 ^ 64 - 1
blank_of Max = 0
blank_of Last = 0

-- a cell that changes no cell that it is joined to
abbrev pub blank : Kind → ℕ
blank kind = blank_of (combiner_of kind).0

-- how many of so many senders stand in a part of so many blocks, from this one on
abbrev pub part_count : ℕ → ℕ → ℕ → ℕ
part_count count first size = min (count - 512 * first) (512 * size)
