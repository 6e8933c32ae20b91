-- What the compilation of an accepted text is.
use Rattle.std.proofs.Common.{ℕ, ◌<◌, ◌≤◌, ◌^◌, List, length, Result, Ok, Err, IfOk, arith}
use Rattle.cstar_tree.specs.declared.typed.Typed.{Typed}
use Rattle.paris_code.specs.declared.program.Image.{Image}
use Rattle.cstar_compile.specs.Compiled.{IsCompiled}
use Rattle.cstar_lexer.specs.Reading.{IsText}
use Rattle.cstar_tree.specs.declared.syntax.Tree.{Tree}
use Rattle.cstar_tree.specs.declared.token.Tokens.{Tokens}
use Rattle.cstar_tree.specs.FileFaults.{IsAccepted}
use Rattle.cstar_tree.specs.FileScopes.{file_known}
use Rattle.cstar_tree.specs.IsTyped.{IsTyped}
use Rattle.cstar_tree.specs.Items.{IsTree}
use Rattle.cstar_tree.specs.Nodes.{tree_nodes}
use Rattle.cstar_tree.specs.ProgramTypes.{TypesFile}
use Rattle.cstar_tree.specs.Room.{HasRoom}
use Rattle.plain_texts.proofs.FewNames.{few_names}
use Rattle.plain_texts.proofs.PlainTrees.{tree_is_plain}
use Rattle.plain_texts.proofs.Words.{text_has_words}
use Rattle.shape_types.specs.Plain.{IsPlainTree}
use Rattle.shape_types.specs.TypedFiles.{HaveOwnNames}
use Rattle.cstar_top.specs.Accepted.{IsImageOf, IsProgramOf}

-- a program that the rules give the tree of a text is the text's
pub program_of_text : (text : List ℕ) (tokens : Tokens) (tree : Tree) (typed : Typed) → length text ≤ 1048576 → IsText text tokens.list.items → IsTree tokens tree
    → (length (file_known tree).names < 2 ^ 32 → IsPlainTree tree → TypesFile tree typed) → (length (file_known tree).names < 2 ^ 32 → IsPlainTree tree → HaveOwnNames tree typed.shapes.items typed.vars.items)
    → HasRoom typed.shapes.items typed.need.items → (length (file_known tree).names < 2 ^ 32 → IsPlainTree tree → tree_nodes tree ≤ 2 ^ 20 → IsAccepted tree typed) → IsTyped typed → IsProgramOf text typed
program_of_text text tokens tree typed short read spelled types new room accepted typed_so =
    let words = text_has_words text tokens.list.items (omega (arith, short)) read in
    record {
      tokens = tokens;
      tree = tree;
      read = read;
      spelled = spelled;
      types = types (few_names tokens tree words spelled) (tree_is_plain tokens tree words spelled);
      is_typed = typed_so;
      new = new (few_names tokens tree words spelled) (tree_is_plain tokens tree words spelled);
      room = room;
      accepted = accepted (few_names tokens tree words spelled) (tree_is_plain tokens tree words spelled);
    }

-- an image that is compiled from the text's program is the text's
pub image_of_text : {E : Type 0} (text : List ℕ) (typed : Typed) (r : Result Image E) → IsProgramOf text typed → IfOk r (λ image. IsCompiled typed image) → IfOk r (λ image. IsImageOf text image)
image_of_text text typed (Ok image) of is = (typed, of, is)
image_of_text text typed (Err e) of is = tt
