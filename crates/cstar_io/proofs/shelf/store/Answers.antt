use Rattle.std.proofs.Common.{rules, ◌≡◌, refl, Some, None, nat_eq, ◌++◌, ◌∷◌, []}
use Rattle.std.specs.List.{position}
use Rattle.std.specs.Cmp.Lexicographic.{pointwise}
use Rattle.cstar_io.proofs.Entries.{changed_there, changed_elsewhere, added_there, added_elsewhere, name_there}
use Rattle.cstar_io.proofs.shelf.store.Goals as goal

pub returns-in-Some-clause-kept : goal.returns-in-Some-clause-kept
returns-in-Some-clause-kept c =
    let at : position (λ x. pointwise nat_eq x.0 c.args.name) c.args.files.now.items ≡ Some c.in-Some.place = search rules in
    changed_there (λ file. file.0) (λ file. file.1.items) c.args.name c.args.files.now.items c.in-Some.place (c.index_mut.result.now.0, c.args.bytes) at
    (name_there (λ file. file.0) (λ file. file.1.items) c.args.name c.args.files.now.items c.in-Some.place c.index_mut.result.now at c.index_mut.ensures.value)

pub returns-in-Some-clause-others : goal.returns-in-Some-clause-others
returns-in-Some-clause-others c =
    let at : position (λ x. pointwise nat_eq x.0 c.args.name) c.args.files.now.items ≡ Some c.in-Some.place = search rules in
    changed_elsewhere (λ file. file.0) (λ file. file.1.items) c.args.name c.args.files.now.items c.in-Some.place (c.index_mut.result.now.0, c.args.bytes) at
    (name_there (λ file. file.0) (λ file. file.1.items) c.args.name c.args.files.now.items c.in-Some.place c.index_mut.result.now at c.index_mut.ensures.value)

pub returns-in_ok-push-in-None-clause-kept : goal.returns-in_ok-push-in-None-clause-kept
returns-in_ok-push-in-None-clause-kept c =
    let none : position (λ x. pointwise nat_eq x.0 c.args.name) c.args.files.now.items ≡ None = search rules in
    let items : c.push.new.self.items ≡ c.args.files.now.items ++ (c.args.name, c.args.bytes) ∷ [] = search rules in
    rw items (added_there (λ file. file.0) (λ file. file.1.items) c.args.name c.args.files.now.items (c.args.name, c.args.bytes) none refl)

pub returns-in_ok-push-in-None-clause-others : goal.returns-in_ok-push-in-None-clause-others
returns-in_ok-push-in-None-clause-others c other differ =
    let items : c.push.new.self.items ≡ c.args.files.now.items ++ (c.args.name, c.args.bytes) ∷ [] = search rules in
    rw items (added_elsewhere (λ file. file.0) (λ file. file.1.items) c.args.name c.args.files.now.items (c.args.name, c.args.bytes) refl other differ)
