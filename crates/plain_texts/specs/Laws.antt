-- What a text of fewer than 2 ^ 32 bytes can name and count: its numbers have 32 bits.
use Rattle.std.specs.Prelude.{◌≡◌, ◌<◌, ◌^◌, ℕ, Bool, List, Some, length}
use Rattle.cstar_lexer.specs.Reading.{IsText}
use Rattle.cstar_tree.specs.declared.syntax.Tree.{Tree}
use Rattle.cstar_tree.specs.declared.token.Kind.TheVariants as K
use Rattle.cstar_tree.specs.declared.token.Token.{Token}
use Rattle.cstar_tree.specs.declared.token.Tokens.{Tokens}
use Rattle.cstar_tree.specs.FileScopes.{file_known}
use Rattle.cstar_tree.specs.Items.{IsTree}
use Rattle.cstar_tree.specs.Positions.{token_kind}
use Rattle.shape_types.specs.Plain.{IsPlainTree}

-- the numbers of tokens have 32 bits, and so has how many there are
pub record HasWords (tokens : List Token) : Type 0 where
  pub few : length tokens < 2 ^ 32
  pub numbers : (at value : ℕ) (unsigned : Bool) → token_kind tokens at ≡ Some (K.Num value unsigned) → value < 2 ^ 32

abbrev pub TextsHaveWords : Type 0
TextsHaveWords = (bytes : List ℕ) (tokens : List Token) → length bytes < 2 ^ 32 → IsText bytes tokens → HasWords tokens

abbrev pub TreesOfWordsArePlain : Type 0
TreesOfWordsArePlain = (tokens : Tokens) (tree : Tree) → HasWords tokens.list.items → IsTree tokens tree → IsPlainTree tree

abbrev pub TreesOfWordsHaveFewNames : Type 0
TreesOfWordsHaveFewNames = (tokens : Tokens) (tree : Tree) → HasWords tokens.list.items → IsTree tokens tree → length (file_known tree).names < 2 ^ 32
