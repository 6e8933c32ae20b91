use Rattle.std.proofs.Common.{◌≡◌, ◌∙◌, ℕ, List, Bor, ap, arith, length, refl, subst, sym}
use Rattle.std.specs.List.{AllZip}
use Rattle.cstar_tree.specs.declared.syntax.Tree.{Tree}
use Rattle.cstar_tree.specs.FileScopes.{file_functions, file_known}
use Rattle.file_names.specs.Numbers.{StandsAt, in_text_order}
use Rattle.type_scopes.specs.declared.file.FunctionInfo.{FunctionInfo}
use Rattle.shape_types.proofs.Numbered.{numbered_file}
use Rattle.shape_types.specs.Groups.{in_groups}
use Rattle.shape_types.proofs.number_names.Goals as goal

pub returns-clause-numbered : goal.returns-clause-numbered
returns-clause-numbered c few =
    let file = c.collect.new.file in
    let tree : file.tree.now ≡ c.args.file.now.tree.now = ap (λ (b : Bor Tree). b.now) c.in_ok-collect.ensures.tree in
    let named = c.in_ok-collect.ensures.names few ∙ ap (λ (t : Tree). in_text_order (file_known t)) (sym tree) in
    let stand = subst (λ (t : Tree). AllZip (StandsAt t) file.functions.items (file_functions t)) (sym tree) (c.in_ok-collect.ensures.functions few) in
    let many : length c.in_ok-groups.groups.items ≡ length file.functions.items = let own = c.in_ok-groups.groups.ok.0 in let all = file.functions.ok.0 in let same = c.in_ok-groups.ensures.length in omega (arith, own, all, same) in
    let are = c.in_ok-file.ensures ∙ (ap (λ (fs : List FunctionInfo). in_groups fs c.as_slice-2.result.now) c.as_slice.ensures.value ∙ ap (λ (gs : List ℕ). in_groups file.functions.items gs) c.as_slice-2.ensures.value) in
    numbered_file file _ c.in_ok-groups.groups.items named stand many c.in_ok-groups.ensures.exact are refl refl refl refl (ap (λ v. v.items) c.in_ok-collect.ensures.shapes ∙ c.requires.shapes) (ap (λ v. v.items) c.in_ok-collect.ensures.types ∙ c.requires.types)
