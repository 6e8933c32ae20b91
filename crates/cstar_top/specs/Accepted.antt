-- The typed program of a text, and the image that the compiler makes of it.
use Rattle.std.specs.Prelude.{ℕ, ◌≤◌, ◌^◌, List}
use Rattle.cstar_compile.specs.Compiled.{IsCompiled}
use Rattle.cstar_lexer.specs.Reading.{IsText}
use Rattle.cstar_tree.specs.declared.syntax.Tree.{Tree}
use Rattle.cstar_tree.specs.declared.token.Tokens.{Tokens}
use Rattle.cstar_tree.specs.declared.typed.Typed.{Typed}
use Rattle.cstar_tree.specs.FileFaults.{IsAccepted}
use Rattle.cstar_tree.specs.IsTyped.{IsTyped}
use Rattle.cstar_tree.specs.Items.{IsTree}
use Rattle.cstar_tree.specs.Nodes.{tree_nodes}
use Rattle.cstar_tree.specs.ProgramTypes.{TypesFile}
use Rattle.cstar_tree.specs.Room.{HasRoom}
use Rattle.paris_code.specs.declared.program.Image.{Image}
use Rattle.shape_types.specs.TypedFiles.{HaveOwnNames}

-- The text is read as these tokens, which spell the tree; the rules of typing give it this program, whose
-- shapes and variables all have names of their own, and which begins with `main`; the machine has the room that it
-- needs. No fault stands in the text but, for all that is said here, a tree of too many nodes.
pub record IsProgramOf (text : List ℕ) (typed : Typed) : Type 0 where
  pub tokens : Tokens
  pub tree : Tree
  pub read : IsText text tokens.list.items
  pub spelled : IsTree tokens tree
  pub types : TypesFile tree typed
  pub is_typed : IsTyped typed
  pub new : HaveOwnNames tree typed.shapes.items typed.vars.items
  pub room : HasRoom typed.shapes.items typed.need.items
  pub accepted : tree_nodes tree ≤ 2 ^ 20 → IsAccepted tree typed

-- the image is what the compiler makes of the text's program
abbrev pub IsImageOf : List ℕ → Image → Type 0
IsImageOf text image = (typed : Typed) × IsProgramOf text typed × IsCompiled typed image
