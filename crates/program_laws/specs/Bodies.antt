-- What the expressions in the body of a function name and call.
use Rattle.std.specs.List.{Contains}
use Rattle.std.specs.Prelude.{◌≡◌, ℕ, List, Some, slice_get}
use Rattle.cstar_tree.specs.declared.syntax.Expr.{Expr}
use Rattle.cstar_tree.specs.declared.syntax.Tree.{Tree}
use Rattle.cstar_tree.specs.Calls.{Call, calls_in, calls_in_block}
use Rattle.cstar_tree.specs.FileScopes.{file_functions, file_known}
use Rattle.cstar_tree.specs.Headers.{Leads, Placed, Reached, body_place}
use Rattle.cstar_tree.specs.Instances.{program_of}
use Rattle.cstar_tree.specs.Scopes.{Here, a_function, find, meaning}
use Rattle.type_statements.specs.Ready.{InBlock}

-- an expression in the body of a function: the function is around it, it names the functions that are
-- known in the function, and the function calls what it calls
pub record IsInBody (calls : List (List ℕ)) (placed : Placed) (f : ℕ) (here : Here) (e : Expr) : Type 0 where
  pub around : here.around ≡ Some f
  pub named : (word : List ℕ) (g : ℕ) → meaning here word ≡ Some (a_function g) → find placed.known word ≡ Some (a_function g)
  pub called : (c : Call) → Contains (calls_in here e) c → Leads calls f c.function

-- so is each expression in the body of a function of the file, under whatever shape
abbrev pub BodiesCallWhatIsCalled : Type 0
BodiesCallWhatIsCalled =
    (tree : Tree) (r : Reached) (placed : Placed) → slice_get (file_functions tree) r.function ≡ Some placed →
    InBlock (IsInBody (program_of tree).calls placed r.function) (body_place (file_known tree).shapes placed r) placed.function.body

-- and a function of the file calls what its body calls
abbrev pub BlocksCallWhatIsCalled : Type 0
BlocksCallWhatIsCalled =
    (tree : Tree) (r : Reached) (placed : Placed) → slice_get (file_functions tree) r.function ≡ Some placed →
    (c : Call) → Contains (calls_in_block placed.function.body (body_place (file_known tree).shapes placed r)) c → Leads (program_of tree).calls r.function c.function
