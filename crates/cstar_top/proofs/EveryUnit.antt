-- Each instance of the program of a text has code.
use Rattle.std.proofs.Common.{◌≡◌, ℕ, ◌==◌, List, sym, subst}
use Rattle.cstar_tree.specs.declared.typed.Typed.{Typed}
use Rattle.code_lengths.proofs.UnitLengths.{units}
use Rattle.lower_base.specs.Drafts.{IsMade}
use Rattle.lower_stmt.specs.Programs.{HasEveryUnit}
use Rattle.shaped_trees.proofs.NamedFiles.{file_code}
use Rattle.shaped_trees.proofs.SpelledCasts.{spelled}
use Rattle.cstar_top.specs.Accepted.{IsProgramOf}

pub every_unit : (text : List ℕ) (typed : Typed) → IsProgramOf text typed → HasEveryUnit typed
unfolding IsMade
every_unit text typed is words number regs instance found =
    let code = file_code is.tree typed (spelled is.tokens is.tree is.spelled) is.new.variables is.new.shapes is.types number instance found in
    let own = units typed words number (number == 0) regs instance found code.0 code.1 in
    subst (λ made. IsMade made) (sym own.made) tt
