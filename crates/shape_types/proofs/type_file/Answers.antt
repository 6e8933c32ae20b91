use Rattle.std.proofs.Common.{◌≡◌, ◌∙◌, List, Bor, ap, subst, sym, true, true≢false}
use Rattle.std.proofs.lemmas.Bool.{and_parts}
use Rattle.std.proofs.lemmas.List.Elements.{All-nil}
use Rattle.std.specs.List.{All}
use Rattle.cstar_tree.specs.declared.syntax.Tree.{Tree}
use Rattle.cstar_tree.specs.FileScopes.{file_known}
use Rattle.cstar_tree.specs.Instances.{main_of, program_of}
use Rattle.cstar_tree.specs.ProgramTypes.{TypesInstances}
use Rattle.faultless_files.specs.Files.{IsWellNamed}
use Rattle.file_names.specs.Numbers.{HasFewNames, in_text_order}
use Rattle.type_expressions.specs.Instances.{IsHeaderOf}
use Rattle.type_scopes.specs.declared.headers.Header.{Header}
use Rattle.type_scopes.specs.declared.headers.Reached.{Reached}
use Rattle.shape_types.proofs.Numbered.{well_named, whole_file}
use Rattle.shape_types.specs.FileKnowledge.{IsDeclaredFile}
use Rattle.shape_types.specs.Plain.{IsPlainTree}
use Rattle.shape_types.specs.Reached.{IsWholeFile}
use Rattle.shape_types.proofs.type_file.Goals as goal
use Rattle.shape_types.proofs.type_file.Goals.{in-Some+in_ok-program-in-Some, in-None}

pub returns : goal.returns
returns c = record {
  typed = λ few plain whole.
      let tree = c.args.file.now.tree.now in
      let mid = c.number_names.new.file in
      let last = c.file_scope.new.file in
      let same : mid.tree.now ≡ tree = ap (λ (b : Bor Tree). b.now) c.in_ok-number_names.ensures.tree in
      let last_tree : last.tree.now ≡ tree = ap (λ (b : Bor Tree). b.now) c.in_ok-declared.ensures.tree ∙ same in
      let numbered = c.in_ok-number_names.ensures.numbered few in
      let declared : IsDeclaredFile tree last c.in_ok-declared.declared.vars.items = subst (λ (t : Tree). IsDeclaredFile t last c.in_ok-declared.declared.vars.items) same (c.in_ok-declared.ensures.typed (subst (λ (t : Tree). HasFewNames (file_known t)) (sym same) few) numbered (subst IsPlainTree (sym same) plain) whole) in
      let all : IsWholeFile tree last = whole_file tree mid last same numbered declared.known c.in_ok-declared.ensures.names c.in_ok-declared.ensures.functions in
      let main : c.main_function.result ≡ main_of tree = c.main_function.ensures (all.names ∙ ap (λ (t : Tree). in_text_order (file_known t)) (sym last_tree)) ∙ ap main_of last_tree in
      let headers = subst (λ (kept : List (Reached × Header)). All (λ (k : Reached × Header). IsHeaderOf last k.0 k.1) kept) (sym c.in_ok-declared.ensures.headers) (All-nil (λ (k : Reached × Header). IsHeaderOf last k.0 k.1)) in
      let program : c.match-main_function.program.is_whole ≡ true → TypesInstances (program_of tree) (file_known tree).shapes (program_of tree).instances c.match-main_function.program.instances.items × IsWellNamed tree = elim c.match-main_function.branch [
        | in-Some+in_ok-program-in-Some w ↦ rw w.program-is (λ complete.
            let parts = and_parts w.in_ok-program-in-Some.program.is_whole w.may_be_main-is_main.result (sym w.require.ensures.whole ∙ complete) in
            let is = sym main ∙ w.in-Some.is in
            let are = w.in_ok-program-in-Some.ensures.typed tree all plain is c.in_ok-declared.ensures.met headers parts.0 in (
              rw w.require.ensures.instances are.typed,
              well_named tree last c.in_ok-declared.declared.vars.items w.in-Some.main declared all is (w.may_be_main-is_main.ensures parts.1) are.parameters,
            ))
        | in-None w ↦ rw w.program-is (λ complete. absurd (true≢false (sym complete ∙ w.none-program.ensures.whole)))
      ] in
      (declared.items, record { variables = declared.new; shapes = declared.known.shapes }, program);
}
