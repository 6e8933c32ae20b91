-- The instances that a file has, as they are typed, need the same room and call the same instances.
use Rattle.std.proofs.Common.{◌≡◌, ℕ, ◌+◌, List, ◌∷◌, Option, refl, sym, ap, ap₂, ◌∙◌, subst}
use Rattle.std.proofs.lemmas.Option.{same_Some}
use Rattle.std.specs.List.{AllZip}
use Rattle.cstar_tree.specs.declared.syntax.Parameter.{Parameter}
use Rattle.cstar_tree.specs.declared.typed.Instance.{Instance}
use Rattle.cstar_tree.specs.declared.typed.LocalVar.{LocalVar}
use Rattle.cstar_tree.specs.declared.typed.TStmt.{TStmt}
use Rattle.cstar_tree.specs.declared.typed.TStmt as T
use Rattle.cstar_tree.specs.declared.syntax.Block.{Block}
use Rattle.cstar_tree.specs.declared.typed.TStmt.TheOpen.{TStmt-F}
use Rattle.cstar_tree.specs.declared.typed.TStmt.TheVariants as rolled
use Rattle.cstar_tree.specs.declared.typed.VarInfo.{VarInfo}
use Rattle.cstar_tree.specs.Headers.{Placed, Program, Reached, Returns, body_place, header_place, returns_of}
use Rattle.cstar_tree.specs.ProgramTypes.{IsBody, Starts, TypesFile, TypesInstance, TypesInstances, TypesItems, TypesParameters, TypesResult, TypesShapes, TypesVariables, plain_info}
use Rattle.cstar_tree.specs.ProgramTypes as Y
use Rattle.cstar_tree.specs.Room.{own_bits, own_room, passed_bits, statement_step}
use Rattle.cstar_tree.specs.Scopes.{Here}
use Rattle.cstar_tree.specs.StatementTypes.{TypesBlock}
use Rattle.cstar_tree.specs.TypedParts.{calls_within, optional}
use Rattle.faultless_files.proofs.AlikeStatements.{IsStatement, StatementsAlike, block_bits, by_node, calls_by, initials, initials_alike, same_bits, statement_alike}
use Rattle.faultless_files.proofs.SameStatements.{same_declarations, same_statements}
use Rattle.faultless_files.proofs.SameTrees.{AreNumbered}
use Rattle.faultless_files.proofs.StatementForms.{row_of}

-- ---- instances

pub record InstancesAlike (i j : Instance) : Type 0 where
  pub rooms : (shape : ℕ) → own_room shape i ≡ own_room shape j
  pub calls : calls_within i.body ≡ calls_within j.body

same_parameters : {here : Here} {number : ℕ} {ps : List Parameter} {a b : List VarInfo} → TypesParameters here number ps a → TypesParameters here number ps b → a ≡ b
same_parameters Y.no_parameter Y.no_parameter = refl
same_parameters (Y.next_parameter {p = p} {ty = ty} is more) (Y.next_parameter {ty = of} is_too others) =
    ap₂ (λ (i : VarInfo) (is : List VarInfo). i ∷ is) (ap (plain_info p.name.word) (same_Some ty of (sym is ∙ is_too))) (same_parameters more others)

same_result : {word : List ℕ} {returns : Returns} {a b : Option VarInfo} → TypesResult word returns a → TypesResult word returns b → a ≡ b
same_result Y.no_result Y.no_result = refl
same_result Y.TypesResult.result Y.TypesResult.result = refl

body_node : {locals : List LocalVar} {statements : List TStmt} {t : TStmt} → IsBody locals statements t → IsStatement t (block_bits locals) (initials locals) statements
unfolding statement_step own_bits
body_node {statements = statements} (Y.IsBody.body ls ss locals_are statements_are) =
    subst (λ (locals : List LocalVar). IsStatement (T.Block ls ss) (block_bits locals) (initials locals) statements) locals_are
    (subst (λ (list : List TStmt). IsStatement (T.Block ls ss) (block_bits ls.items) (initials ls.items) list) statements_are
    (record { rooms_are = λ shape. by_node shape (TStmt-F.Block ls ss) (rolled.rolls-Block ls ss); calls_are = calls_by (TStmt-F.Block ls ss) (rolled.rolls-Block ls ss) }))

module _ (program : Program) (numbered : AreNumbered program) where
  same_bodies : {returns : Returns} {here : Here} {block : Block} {ls ks : List LocalVar} {ss rs : List TStmt} {t u : TStmt} → TypesBlock program returns here block ls ss → TypesBlock program returns here block ks rs → IsBody ls ss t → IsBody ks rs u → StatementsAlike t u
  same_bodies {returns = returns} {block = block} {ls = ls} {ks = ks} a b x y =
      let j = row_of a in
      let k = row_of b in
      let all = same_declarations program numbered j.declarations k.declarations in
      statement_alike (same_bits ls ks all) (body_node x) (body_node y) (initials_alike ls ks all) (same_statements program numbered returns block.statements.items j.typed k.typed)

  same_instance : {shapes : List (List ℕ)} {r : Reached} {i j : Instance} → TypesInstance program shapes r i → TypesInstance program shapes r j → InstancesAlike i j
  same_instance {shapes = shapes} {r = r} {i = i} {j = j} a b =
      by_placed b.placed (same_Some b.placed a.placed (sym b.is_function ∙ a.is_function)) b.parameters b.result b.block b.body
    where
      -- as it is typed the other time, of whatever function
      by_placed : (placed : Placed) → placed ≡ a.placed → TypesParameters (header_place shapes placed r) 0 placed.function.parameters.items j.params.items → TypesResult placed.function.name.word (returns_of (header_place shapes placed r) placed.function.result) j.result
          → {ks : List LocalVar} {rs : List TStmt} → TypesBlock program (returns_of (header_place shapes placed r) placed.function.result) (body_place shapes placed r) placed.function.body ks rs → IsBody ks rs j.body → InstancesAlike i j
      by_placed placed is infos info {ks = ks} {rs = rs} inner whole =
          let params = same_parameters a.parameters (subst (λ (x : Placed). TypesParameters (header_place shapes x r) 0 x.function.parameters.items j.params.items) is infos) in
          let answer = same_result a.result (subst (λ (x : Placed). TypesResult x.function.name.word (returns_of (header_place shapes x r) x.function.result) j.result) is info) in
          let bodies = same_bodies a.block (subst (λ (x : Placed). TypesBlock program (returns_of (header_place shapes x r) x.function.result) (body_place shapes x r) x.function.body ks rs) is inner) a.body whole in
          record {
            rooms = λ shape. ap₂ (λ (n m : ℕ). n + m) (ap₂ (λ (ps : List VarInfo) (v : Option VarInfo). passed_bits shape ps + passed_bits shape (optional v)) params answer) (bodies.rooms shape);
            calls = bodies.calls;
          }

  pub same_instances : {shapes : List (List ℕ)} {rs : List Reached} {is js : List Instance} → TypesInstances program shapes rs is → TypesInstances program shapes rs js → AllZip InstancesAlike is js
  same_instances Y.no_instance Y.no_instance = tt
  same_instances (Y.next_instance a more) (Y.next_instance b others) = (same_instance a b, same_instances more others)
