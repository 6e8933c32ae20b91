-- The laws: what the rules of typing type has no fault.
use Rattle.std.specs.Prelude.{◌≡◌, List}
use Rattle.cstar_base.specs.declared.faults.Fault.{Fault}
use Rattle.cstar_base.specs.declared.faults.Fault.TheVariants as F
use Rattle.cstar_base.specs.declared.operators.Place.{Place}
use Rattle.cstar_tree.specs.declared.syntax.Block.{Block}
use Rattle.cstar_tree.specs.declared.syntax.Declaration.{Declaration}
use Rattle.cstar_tree.specs.declared.syntax.Stmt.{Stmt}
use Rattle.cstar_tree.specs.declared.syntax.Tree.{Tree}
use Rattle.cstar_tree.specs.declared.typed.LocalVar.{LocalVar}
use Rattle.cstar_tree.specs.declared.typed.TStmt.{TStmt}
use Rattle.cstar_tree.specs.declared.typed.Typed.{Typed}
use Rattle.cstar_tree.specs.FileFaults.{FaultOf, IsAccepted, IsFirst}
use Rattle.cstar_tree.specs.Headers.{Program, Returns}
use Rattle.cstar_tree.specs.IsTyped.{IsTyped}
use Rattle.cstar_tree.specs.ProgramTypes.{TypesFile}
use Rattle.cstar_tree.specs.Room.{HasRoom, machine_bits}
use Rattle.cstar_tree.specs.Scopes.{Here}
use Rattle.cstar_tree.specs.StatementFaults.{BlockFaultIn, DeclarationsFault, StatementFaultIn, StatementsFaultIn}
use Rattle.cstar_tree.specs.StatementTypes.{TypesBlock, TypesDeclarations, TypesStatement, TypesStatements}
use Rattle.faultless_files.specs.Files.{IsWellFormed}

-- ---- statements

abbrev pub TypedDeclarationsHaveNoFault : Type 0
TypedDeclarationsHaveNoFault =
    (program : Program) (here : Here) (ds : List Declaration) (locals : List LocalVar) → TypesDeclarations program here ds locals → (fault : Fault) (p : Place) → DeclarationsFault program here ds fault p → ⊥

abbrev pub TypedStatementsHaveNoFault : Type 0
TypedStatementsHaveNoFault =
    (program : Program) (returns : Returns) (here : Here) (s : Stmt) (t : TStmt) → TypesStatement program returns here s t → (fault : Fault) (p : Place) → StatementFaultIn program returns here s fault p → ⊥

abbrev pub TypedStatementListsHaveNoFault : Type 0
TypedStatementListsHaveNoFault =
    (program : Program) (returns : Returns) (here : Here) (ss : List Stmt) (ts : List TStmt) → TypesStatements program returns here ss ts → (fault : Fault) (p : Place) → StatementsFaultIn program returns here ss fault p → ⊥

abbrev pub TypedBlocksHaveNoFault : Type 0
TypedBlocksHaveNoFault =
    (program : Program) (returns : Returns) (here : Here) (block : Block) (locals : List LocalVar) (statements : List TStmt) → TypesBlock program returns here block locals statements →
    (fault : Fault) (p : Place) → BlockFaultIn program returns here block fault p → ⊥

-- ---- files

abbrev pub TypedFilesHaveNoFault : Type 0
TypedFilesHaveNoFault = (tree : Tree) (typed : Typed) → TypesFile tree typed → IsTyped typed → IsWellFormed tree → (fault : Fault) (p : Place) → FaultOf tree fault p → ⊥

-- Whichever typed program a file becomes, it needs as many bits.
abbrev pub TypedProgramsNeedTheSameRoom : Type 0
TypedProgramsNeedTheSameRoom =
    (tree : Tree) (typed other : Typed) → TypesFile tree typed → TypesFile tree other → machine_bits typed.shapes.items typed.need.items ≡ machine_bits other.shapes.items other.need.items

abbrev pub TypedFilesAreAccepted : Type 0
TypedFilesAreAccepted = (tree : Tree) (typed : Typed) → TypesFile tree typed → IsTyped typed → IsWellFormed tree → HasRoom typed.shapes.items typed.need.items → IsAccepted tree typed

-- Without room, the want of it is the first fault of the file, and the only one.
abbrev pub FilesWithoutRoomAreRefused : Type 0
FilesWithoutRoomAreRefused =
    (tree : Tree) (typed : Typed) → TypesFile tree typed → IsTyped typed → IsWellFormed tree → (HasRoom typed.shapes.items typed.need.items → ⊥) → IsFirst tree F.Space tree.end

-- What is asked of a file above is no more than an accepted one has.
abbrev pub AcceptedFilesAreWellFormed : Type 0
AcceptedFilesAreWellFormed = (tree : Tree) (typed : Typed) → IsAccepted tree typed → IsTyped typed × IsWellFormed tree × HasRoom typed.shapes.items typed.need.items
