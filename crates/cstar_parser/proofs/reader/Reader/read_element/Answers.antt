use Rattle.std.proofs.Common.{[], ◌∷◌, ◌≡◌, ◌∙◌, ap, sym, arith, refl, rules}
use Rattle.cstar_tree.specs.declared.token.Mark.TheVariants as M
use Rattle.grammar_parts.specs.Actions.{act, type_words}
use Rattle.grammar_parts.specs.Parts as P
use Rattle.grammar_parts.specs.Parts.{refuse}
use Rattle.cstar_tree.specs.Positions.{token_kind}
use Rattle.cstar_parser.proofs.Following.{begin, behind, hopeless, no_mark, no_type_word, opened, seen, skipped}
use Rattle.cstar_parser.proofs.reader.Reader.read_element.Goals.{in_default-via-in-Some+in_default, in_default-via-in_default}
use Rattle.cstar_parser.proofs.reader.Reader.read_element.Goals as goal

pub returns-in-Some-Bool-clause-follows : goal.returns-in-Some-Bool-clause-follows
returns-in-Some-Bool-clause-follows c = λ around few. seen M.Bool P.type [] (cc c.in-Some-Bool.ensures.found) c.take.ensures refl (omega arith) begin

pub returns-in-Some-clause-follows : goal.returns-in-Some-clause-follows
returns-in-Some-clause-follows c = λ around few. behind (P.shape_or_none ∷ []) (c.in-Some.ensures.follows around few) (seen M.Signed P.type [] (cc c.in-Some-Signed.ensures.found) c.take-in-Some-Signed.ensures refl (omega arith) begin) (omega arith)

pub returns-in-None-clause-follows : goal.returns-in-None-clause-follows
returns-in-None-clause-follows c = rw c.in-None.ensures.unread (λ around few. skipped P.width_or_none (P.shape_or_none ∷ []) c.in-None.ensures.other.skipped (seen M.Signed P.type [] (cc c.in-Some-Signed.ensures.found) c.take-in-Some-Signed.ensures refl (omega arith) begin))

pub returns-in-Some-read_size-clause-follows : goal.returns-in-Some-read_size-clause-follows
returns-in-Some-read_size-clause-follows c = λ around few. behind (P.shape_or_none ∷ []) (c.in-Some-read_size.ensures.follows around few) (seen M.Unsigned P.type [] (cc c.in-Some-Unsigned.ensures.found) c.take-in-Some-Unsigned.ensures refl (omega arith) begin) (omega arith)

pub returns-in-None-read_size-clause-follows : goal.returns-in-None-read_size-clause-follows
returns-in-None-read_size-clause-follows c = rw c.in-None-read_size.ensures.unread (λ around few. skipped P.width_or_none (P.shape_or_none ∷ []) c.in-None-read_size.ensures.other.skipped (seen M.Unsigned P.type [] (cc c.in-Some-Unsigned.ensures.found) c.take-in-Some-Unsigned.ensures refl (omega arith) begin))

pub returns-in-Some-read_size-2-clause-follows : goal.returns-in-Some-read_size-2-clause-follows
returns-in-Some-read_size-2-clause-follows c = λ around few. behind (P.shape_or_none ∷ []) (c.in-Some-read_size-2.ensures.follows around few) (opened P.type P.width_or_none (P.shape_or_none ∷ []) [] c.in-Some-read_size-2.ensures.size.begins c.in-Some-read_size-2.ensures.size.real begin) (omega arith)

pub returns-in-None-read_size-2-clause-follows : goal.returns-in-None-read_size-2-clause-follows
returns-in-None-read_size-2-clause-follows c =
    let is : act P.type (token_kind c.args.self.now.tokens.now c.args.spot.now.at) ≡ refuse = elim c.in_default.branch [
      | in_default-via-in-Some+in_default w ↦ (
          let a : w.in_default.field-0 ≡ M.Bool → ⊥ = search rules in
          let b : w.in_default.field-0 ≡ M.Signed → ⊥ = search rules in
          let d : w.in_default.field-0 ≡ M.Unsigned → ⊥ = search rules in
          let found = rw w.in_default.is at c.mark_at.ensures.found in
          ap (act P.type) found ∙ no_type_word w.in_default.field-0 a b d (sym (ap (act P.width_or_none) found) ∙ c.in-None-read_size-2.ensures.other.skipped)
          )
      | in_default-via-in_default w ↦ no_mark type_words refuse _ (rw w.in_default.is at c.mark_at.ensures.missing)
    ] in
    rw (c.hopeless.ensures, c.in-None-read_size-2.ensures.unread) (λ around few. hopeless P.type [] is begin)
