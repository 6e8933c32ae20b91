-- The instances of a program: which functions `main` reaches, and under which current shape. A
-- function is typed once for each.
use Rattle.std.specs.Prelude.{ℕ, zero, suc, ◌+◌, ◌*◌, ◌==◌, ◌&&◌, Bool, true, false, List, [], ◌∷◌, map, length, slice_get, Option, Some, None, if◌then◌else◌}
use Rattle.cstar_tree.specs.declared.syntax.Tree.{Tree}
use Rattle.cstar_tree.specs.Calls.{Call, calls_in_block}
use Rattle.cstar_tree.specs.FileScopes.{file_functions, file_known}
use Rattle.cstar_tree.specs.Headers.{Placed, Program, Reached, body_place}
use Rattle.cstar_tree.specs.Scopes.{Meaning, a_function, a_shape, a_variable, find}
use Rattle.cstar_tree.specs.TypedParts.{concat}

abbrev pub same_shape : Option ℕ → Option ℕ → Bool
same_shape None None = true
same_shape None (Some t) = false
same_shape (Some s) None = false
same_shape (Some s) (Some t) = s == t

abbrev pub same : Reached → Reached → Bool
same a b = a.function == b.function && same_shape a.current b.current

unfoldable pub is_met : Reached → List Reached → Bool
is_met r [] = false
is_met r (x ∷ xs) = if same x r then true else is_met r xs

-- a list with each instance where it is first met, behind those that were met before
unfoldable pub first_met : List Reached → List Reached → List Reached
first_met before [] = []
first_met before (r ∷ rest) = if is_met r before then first_met before rest else r ∷ first_met (r ∷ before) rest

-- the calls of a function under a current shape, in text order
abbrev pub calls_of_placed : List (List ℕ) → Reached → Option Placed → List Call
calls_of_placed shapes r None = []
calls_of_placed shapes r (Some placed) = calls_in_block placed.function.body (body_place shapes placed r)

unfoldable pub calls_of : List (List ℕ) → List Placed → Reached → List Call
calls_of shapes functions r = calls_of_placed shapes r (slice_get functions r.function)

-- the instances that calls reach, whatever faults the calls have
unfoldable pub reached_by : List Call → List Reached
reached_by [] = []
reached_by (c ∷ cs) = if c.typed then record { function = c.function; current = c.current } ∷ reached_by cs else reached_by cs

-- one round: an instance that `main` is, then all that those of a list call, in order
unfoldable pub next_round : List (List ℕ) → List Placed → Reached → List Reached → List Reached
next_round shapes functions main list = first_met [] (main ∷ concat (map (λ r. reached_by (calls_of shapes functions r)) list))

unfoldable pub after_rounds : ℕ → List (List ℕ) → List Placed → Reached → List Reached
after_rounds zero shapes functions main = main ∷ []
after_rounds (suc rounds) shapes functions main = next_round shapes functions main (after_rounds rounds shapes functions main)

-- the function `main`, if the file has one
abbrev pub function_meant : Option Meaning → Option ℕ
function_meant None = None
function_meant (Some (a_shape s)) = None
function_meant (Some (a_function f)) = Some f
function_meant (Some (a_variable v t)) = None

abbrev pub main_word : List ℕ
main_word = 109 ∷ 97 ∷ 105 ∷ 110 ∷ []

abbrev pub main_of : Tree → Option ℕ
main_of tree = function_meant (find (file_known tree).names main_word)

-- The instances that `main` reaches. Each round that is not the last meets a new one, and there are
-- no more than functions times shapes and none, so as many rounds meet all.
abbrev pub instances_from : List (List ℕ) → List Placed → Option ℕ → List Reached
instances_from shapes functions None = []
instances_from shapes functions (Some main) = after_rounds (length functions * (length shapes + 1)) shapes functions (record { function = main; current = None })

abbrev pub instances_of : Tree → List Reached
instances_of tree = instances_from (file_known tree).shapes (file_functions tree) (main_of tree)

-- the functions that each function calls in the text, under any shape
unfoldable pub called_from : List (List ℕ) → List Placed → ℕ → List Placed → List (List ℕ)
called_from shapes functions number [] = []
called_from shapes functions number (placed ∷ rest) =
    map (λ (c : Call). c.function) (calls_of shapes functions (record { function = number; current = None })) ∷ called_from shapes functions (number + 1) rest

abbrev pub program_of : Tree → Program
program_of tree = record {
  functions = file_functions tree;
  calls = called_from (file_known tree).shapes (file_functions tree) 0 (file_functions tree);
  instances = instances_of tree;
}
