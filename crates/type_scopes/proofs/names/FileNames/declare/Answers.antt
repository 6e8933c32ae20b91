use Rattle.std.proofs.Common.{◌∙◌, sym, ap, is_some, not, List, ℕ}
use Rattle.std.specs.Map.{lookup}
use Rattle.std.specs.Prelude.{bytes_eq}
use Rattle.type_scopes.proofs.FileLemmas.{has_name, named_more, no_name}
use Rattle.type_scopes.proofs.names.FileNames.declare.Goals as goal

pub returns-then-contains_key-clause-is_new : goal.returns-then-contains_key-clause-is_new
returns-then-contains_key-clause-is_new c =
    let told = ap (λ (w : List ℕ). is_some (lookup (λ key. bytes_eq w key.items) c.args.self.now.names.entries)) (sym c.bytes.ensures) ∙ sym c.contains_key.ensures in
    sym (ap not (has_name 0 c.args.self.now.names.entries c.args.word.now ∙ (told ∙ c.if-contains_key.true)))

pub returns-clause-ok : goal.returns-clause-ok
returns-clause-ok c =
    let told = ap (λ (w : List ℕ). is_some (lookup (λ key. bytes_eq w key.items) c.args.self.now.names.entries)) (sym c.bytes.ensures) ∙ sym c.contains_key.ensures in
    named_more c.args.self.now.names.entries c.insert.new.self.entries c.in_ok-bytes.bytes c.args.word.now c.args.name (c.in_ok-bytes.ensures.items ∙ c.bytes-2.ensures)
    (no_name c.args.self.now.names.entries c.args.word.now (told ∙ c.if-contains_key.false)) c.in_ok-insert.ensures.entries

pub returns-clause-is_new : goal.returns-clause-is_new
returns-clause-is_new c =
    let told = ap (λ (w : List ℕ). is_some (lookup (λ key. bytes_eq w key.items) c.args.self.now.names.entries)) (sym c.bytes.ensures) ∙ sym c.contains_key.ensures in
    sym (ap not (has_name 0 c.args.self.now.names.entries c.args.word.now ∙ (told ∙ c.if-contains_key.false)))
