-- The names that earlier lines of a text define.
use Rattle.std.specs.Prelude.{List, ℕ, Option, map, nat_eq}
use Rattle.std.specs.Cmp.Lexicographic.{pointwise}
use Rattle.std.specs.Map.{lookup}
use Rattle.cstar_lexer.specs.declared.macros.Macros.{Macros}
use Rattle.cstar_lexer.specs.declared.number.Number.{Number}

-- names in the order of their lines, each with its number
abbrev pub Names : Type 0
Names = List (List ℕ × Number)

-- what a name stands for
abbrev pub number_of_name : Names → List ℕ → Option Number
number_of_name names name = lookup (pointwise nat_eq name) names

-- the names that a reader has met
abbrev pub names_of : Macros → Names
names_of macros = map (λ entry. (entry.0.items, entry.1)) macros.numbers.entries
