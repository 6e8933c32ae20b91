-- The text of a drill, with its numbers drawn one after the other.
use Rattle.std.specs.Prelude.{ℕ, zero, suc, ◌+◌, List, [], ◌∷◌, ◌++◌, codes, decimal}
use Rattle.std.specs.List.{slice_index_or}
use Rattle.drill_text.specs.Draws.{after, drawn}

-- the statements of the eight kinds, whose numbers are drawn from the state
abbrev pub statements_at : ℕ → List (List ℕ)
statements_at state =
    (codes "a = a + b * " ++ (decimal (drawn state 100) ++ codes ";\n"))
    ∷ ((codes "where (a % " ++ (decimal (drawn state 9 + 1) ++ codes " == 0) b = b - "))
    ++ (decimal (drawn (after state) 100) ++ codes "; else c = c + 1;\n"))
    ∷ codes "[a & 4095]c += b;\n"
    ∷ (codes "b = [(. + " ++ (decimal (drawn state 7 + 1) ++ codes ") %% dimof(S, 0)]c;\n"))
    ∷ (codes "a = a ^ (c >> " ++ (decimal (drawn state 8) ++ codes ");\n"))
    ∷ codes "c = scan(a, 0, CMC_combiner_add, CMC_upward, CMC_none, CMC_no_field, CMC_inclusive);\n"
    ∷ (codes "for (i = 0; i < " ++ (decimal (drawn state 5 + 1) ++ codes "; i++) b = b <? a + i;\n"))
    ∷ codes "printf(\"%d\\n\", += c);\n"
    ∷ []

-- the states behind them
abbrev pub states_behind : ℕ → List ℕ
states_behind state =
    after state ∷ after (after state) ∷ state ∷ after state ∷ after state ∷ state ∷ after state ∷ state ∷ []

unfoldable pub statement : ℕ → ℕ → List ℕ
statement kind state = slice_index_or (statements_at state) kind []

unfoldable pub behind : ℕ → ℕ → ℕ
behind kind state = slice_index_or (states_behind state) kind state

-- so many statements; the kind of each is drawn, then its numbers
unfoldable pub statements : ℕ → ℕ → List ℕ
statements zero state = []
statements (suc count) state =
    statement (drawn state 8) (after state) ++ statements count (behind (drawn state 8) (after state))

unfoldable pub opening : List ℕ
opening = codes "shape [4096]S;\nint:S a, b, c;\nmain() {\nint i;\nwith (S) {\na = pcoord(0);\nb = "

unfoldable pub closing : List ℕ
closing = codes "printf(\"%d %d %d\\n\", += a, ^= b, >?= c);\n}\n}\n"

-- the whole text: a first number, 200 statements, and a statement that prints what they came to
unfoldable pub drill : ℕ → List ℕ
drill seed =
    (opening ++ (decimal (drawn seed 1000) ++ codes ";\nc = 0;\n")) ++ (statements 200 (after seed) ++ closing)
