-- Behind the code that clears the variables of a block these are declared.
use Rattle.std.proofs.Common.{◌≡◌, ℕ, ◌+◌, Bool, List, length, map, subst}
use Rattle.cstar_tree.specs.declared.typed.LocalVar.{LocalVar}
use Rattle.cstar_tree.specs.Variables.{variables_of}
use Rattle.code_lengths.specs.Growth.{Leads}
use Rattle.code_lengths.specs.NamingStatements.{StandFrom}
use Rattle.code_lengths.specs.Ready.{HasDeclared, NumbersVariables}
use Rattle.code_lengths.proofs.Declaring.{info_of}
use Rattle.code_lengths.proofs.Homes.{all_cleared_lead, clears}
use Rattle.lower_base.specs.Drafts.{Draft, Made, Makes}
use Rattle.lower_stmt.specs.Variables.{all_cleared}
use Rattle.code_follows.proofs.Settings.{Setting, layout}

module _ (g : Setting) where
  pub clears_declare : (at_start : Bool) (locals : List LocalVar) (n : ℕ) (d e : Draft) → all_cleared (layout g) at_start locals n d ≡ Makes tt e → StandFrom (variables_of g.instance.body) n (map info_of locals) → NumbersVariables g.instance (layout g)
      → HasDeclared g.typed g.instance (layout g) n d → HasDeclared g.typed g.instance (layout g) (n + length locals) e
  unfolding Leads
  clears_declare at_start locals n d e is stand numbers known =
      (subst (λ (m : Made (Unit {0})). Leads d (clears at_start locals) (λ (x : Unit {0}) (f : Draft). HasDeclared g.typed g.instance (layout g) (n + length locals) f) m) is (all_cleared_lead g.typed g.instance (layout g) at_start locals n d stand numbers known)).0
