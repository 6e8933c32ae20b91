-- The instances that the calls of a part of a function meet, in the order in which the calls stand.
use Rattle.std.specs.Prelude.{◌≡◌, ℕ, List, [], ◌∷◌, ◌++◌, Option, Some, None}
use Rattle.cstar_tree.specs.declared.syntax.Expr.{Expr, map-Expr, out-Expr}
use Rattle.cstar_tree.specs.declared.syntax.Expr.TheOpen.{Expr-F}
use Rattle.cstar_tree.specs.Calls.{Call, call_of, calls_in}
use Rattle.cstar_tree.specs.Headers as H
use Rattle.cstar_tree.specs.Instances.{reached_by}
use Rattle.cstar_tree.specs.Scopes.{Here, meaning}
use Rattle.cstar_tree.specs.TypedParts.{concat}
use Rattle.type_scopes.specs.declared.file.File.{File}
use Rattle.type_scopes.specs.declared.locals.Locals.{Locals}
use Rattle.type_scopes.specs.declared.sites.Site.{Site}
use Rattle.type_expressions.specs.Instances.{met, with_met}
use Rattle.type_expressions.specs.Walks.{IsAround}
use Rattle.type_expressions.specs.declared.found.Instances.{Instances}

-- further instances behind those that were met before, each where it is met for the first time
unfoldable pub meeting : List H.Reached → List H.Reached → List H.Reached
meeting before [] = before
meeting before (r ∷ rest) = meeting (with_met r before) rest

-- In a function the calls of a part meet the instances that the rules say, and outside all functions
-- none.
pub record Meets (old new : Instances) (file : File) (locals : Locals) (site : Site) (calls : Here → List Call) : Type 0 where
  pub outside : site.function ≡ None → met new ≡ met old
  pub inside : (here : Here) (f : ℕ) → IsAround file locals site here → here.around ≡ Some f → met new ≡ meeting (met old) (reached_by (calls here))

-- what is met behind a call of an instance: outside all functions a call meets nothing
abbrev pub behind_call : Option ℕ → H.Reached → List H.Reached → List H.Reached
behind_call None r before = before
behind_call (Some around) r before = with_met r before

-- the node of an expression, with the calls of each part in its place
abbrev pub node_at : Here → Expr → Expr-F (List Call)
node_at here e = map-Expr Expr (List Call) (calls_in here) (out-Expr e)

-- the calls of two or three operands
abbrev pub of_operands : Expr-F (List Call) → List Call
of_operands (Expr-F.Assign p op target value) = target.value ++ value.value
of_operands (Expr-F.Choice p test second third) = test.value ++ (second.value ++ third.value)
of_operands (Expr-F.Binary p op left right) = left.value ++ right.value
of_operands _ = []

abbrev pub operand_calls : Here → Expr → List Call
operand_calls here e = of_operands (node_at here e)

-- the calls of the source of a scan, which no other expression has
abbrev pub of_source : Expr-F (List Call) → List Call
of_source (Expr-F.Scan p source axis _ _ _ _ _) = source.value
of_source _ = []

abbrev pub source_calls : Here → Expr → List Call
source_calls here e = of_source (node_at here e)

-- the calls of the arguments of a call or of `printf`, or of the indexes of a left index
abbrev pub of_list : Expr-F (List Call) → List Call
of_list (Expr-F.Call n arguments) = concat arguments.items
of_list (Expr-F.LeftIndex p indexes n) = concat indexes.items
of_list (Expr-F.Printf p text arguments) = concat arguments.items
of_list _ = []

abbrev pub list_calls : Here → Expr → List Call
list_calls here e = of_list (node_at here e)

-- the call that an expression is itself, if it is one
abbrev pub of_name : Here → Expr-F (List Call) → List Call
of_name here (Expr-F.Call n arguments) = call_of here (meaning here n.word)
of_name here _ = []

abbrev pub own_calls : Here → Expr → List Call
own_calls here e = of_name here (node_at here e)
