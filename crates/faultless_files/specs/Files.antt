-- What the rules of typing a file leave open: whether its names are declared once, whether it has a
-- `main` that may be one, and whether it is too large.
use Rattle.std.specs.Prelude.{◌≡◌, ℕ, ◌≤◌, ◌^◌, length, map, slice_get, Some}
use Rattle.cstar_tree.specs.declared.syntax.Tree.{Tree}
use Rattle.cstar_tree.specs.FileFaults.{IsNoMain}
use Rattle.cstar_tree.specs.FileScopes.{file_known, words_of}
use Rattle.cstar_tree.specs.Headers.{Placed, Reached, body_place}
use Rattle.cstar_tree.specs.Instances.{main_of, program_of}
use Rattle.cstar_tree.specs.Nodes.{tree_nodes}
use Rattle.cstar_tree.specs.TypedParts.{concat}

-- a function of the file that `main` reaches under a shape
pub record IsReached (tree : Tree) (r : Reached) (placed : Placed) : Type 0 where
  pub which : ℕ
  pub is_instance : slice_get (program_of tree).instances which ≡ Some r
  pub is_function : slice_get (program_of tree).functions r.function ≡ Some placed

-- A file knows as many names as its items declare, and the body of each function that is reached as
-- many as it has parameters: none is declared twice. What the file calls `main` may be one.
pub record IsWellNamed (tree : Tree) : Type 0 where
  pub names : length (file_known tree).names ≡ length (concat (map words_of tree.items.items))
  pub parameters : (r : Reached) (placed : Placed) → IsReached tree r placed → length (body_place (file_known tree).shapes placed r).names.inner ≡ length placed.function.parameters.items
  pub main : (f : ℕ) (placed : Placed) → main_of tree ≡ Some f → slice_get (program_of tree).functions f ≡ Some placed → IsNoMain placed.function → ⊥

-- such a file that has at most 2 ^ 20 nodes
pub record IsWellFormed (tree : Tree) : Type 0 where
  pub named : IsWellNamed tree
  pub few_nodes : tree_nodes tree ≤ 2 ^ 20
