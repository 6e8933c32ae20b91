use Rattle.std.proofs.Common.{◌≡◌, true, take}
use Rattle.std.specs.List.{All}
use Rattle.cstar_tree.specs.FileScopes.{Known}
use Rattle.type_expressions.specs.Walks.{IsPlain}
use Rattle.type_scopes.specs.declared.file.File.{File}
use Rattle.shape_types.specs.FileWalk.{Knows, place_in}
use Rattle.shape_types.proofs.FileSteps.{AreExtents}
use Rattle.shape_types.proofs.declarations.shape_definition.Given as goal

abbrev pub invariant-loop-extent : goal.invariant-loop-extent
invariant-loop-extent l =
    ((start : File) (k : Known) → Knows start k l.fn.file l.fn.declared.known → All IsPlain l.extent-items → l.declared.is_whole ≡ true → l.fits ≡ true → AreExtents (place_in start k) (take l.extent-index l.extent-items) l.extents.items)
    × (l.declared.is_whole ≡ true → l.fn.declared.is_whole ≡ true)
    × (l.declared.known ≡ l.fn.declared.known)
    × (l.declared.vars ≡ l.fn.declared.vars)
