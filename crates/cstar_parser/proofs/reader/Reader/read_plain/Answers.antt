use Rattle.std.proofs.Common.{[], ◌∷◌, ◌∙◌, arith, refl, rules}
use Rattle.std.proofs.lemmas.Result.{err_from_is_err_and}
use Rattle.cstar_tree.specs.declared.token.Kind.TheVariants as K
use Rattle.cstar_tree.specs.declared.token.Mark.TheVariants as M
use Rattle.cstar_tree.specs.Positions.{token_kind}
use Rattle.grammar_parts.specs.Parts as P
use Rattle.cstar_parser.proofs.Following.{begin, behind, bracketed, marked, opened, operated, refused, stop, turned, unopened, unwritten}
use Rattle.cstar_parser.proofs.FollowingExpressions.{mark_real, operands_opened, plain_end, plain_last, seen_kind}
use Rattle.cstar_parser.proofs.ExpressionNodes as node
use Rattle.cstar_parser.proofs.reader.Reader.read_plain.Goals.{in_default-via-in-Some+in-Mark+in_default, in_default-via-in-Some+in_default, in_default-via-in_default}
use Rattle.cstar_parser.proofs.reader.Reader.read_plain.Goals as goal

pub returns-in_ok-new-in-Some-Num-clause-read : goal.returns-in_ok-new-in-Some-Num-clause-read
returns-in_ok-new-in-Some-Num-clause-read c =
    node.number c.in_ok-new-in-Some-Num.ensures.ok c.requires.depth (cc c.in-Some-Num.ensures.found) c.take-place.ensures

pub returns-in_ok-new-in-Some-Mark-Dot-clause-read : goal.returns-in_ok-new-in-Some-Mark-Dot-clause-read
returns-in_ok-new-in-Some-Mark-Dot-clause-read c = node.dot c.in_ok-new-in-Some-Mark-Dot.ensures.ok c.requires.depth c.in_ok-place-in-Some-Mark-Dot.ensures.read

pub returns-in_ok-new-in-Some-Mark-PositionsOf-clause-read : goal.returns-in_ok-new-in-Some-Mark-PositionsOf-clause-read
returns-in_ok-new-in-Some-Mark-PositionsOf-clause-read c =
    node.positions_of c.in_ok-new-in-Some-Mark-PositionsOf.ensures.ok c.in_ok-place-in-Some-Mark-PositionsOf.ensures.read c.in_ok-shape-in-Some-Mark-PositionsOf.ensures.read

pub returns-in_ok-new-in-Some-Mark-RankOf-clause-read : goal.returns-in_ok-new-in-Some-Mark-RankOf-clause-read
returns-in_ok-new-in-Some-Mark-RankOf-clause-read c =
    node.rank_of c.in_ok-new-in-Some-Mark-RankOf.ensures.ok c.in_ok-place-in-Some-Mark-RankOf.ensures.read c.in_ok-shape-in-Some-Mark-RankOf.ensures.read

pub returns-in_ok-new-in_default-clause-read : goal.returns-in_ok-new-in_default-clause-read
returns-in_ok-new-in_default-clause-read c =
    node.getchar c.in_ok-new-in_default.ensures.ok c.in_ok-place-in_default.ensures.read c.in_ok-open-in_default.ensures.read c.in_ok-expect-in_default.ensures.read

pub returns-in_ok-new-in-Some-Num-clause-follows : goal.returns-in_ok-new-in-Some-Num-clause-follows
returns-in_ok-new-in-Some-Num-clause-follows c =
    λ plain. seen_kind {kind = K.Num c.in-Some-Num.value c.in-Some-Num.unsigned} P.unary [] (cc c.in-Some-Num.ensures.found) c.take-place.ensures refl (omega arith) begin

pub returns-in_err-place-in-Some-Mark-Dot-clause-follows : goal.returns-in_err-place-in-Some-Mark-Dot-clause-follows
returns-in_err-place-in-Some-Mark-Dot-clause-follows c =
    let p = err_from_is_err_and c.from_residual-in_err-place-in-Some-Mark-Dot.result c.from_residual-in_err-place-in-Some-Mark-Dot.ensures.1 in rw (p.1, p.2) (λ plain. unwritten _ M.Dot (P.steps ∷ []) c.in_err-place-in-Some-Mark-Dot.ensures.stops (turned {kind = K.Mark M.Dot} P.unary (P.operator M.Dot) (P.steps ∷ []) [] (cc c.in-Some-Mark-Dot.ensures.found) refl tt begin))

pub returns-in_ok-new-in-Some-Mark-Dot-clause-follows : goal.returns-in_ok-new-in-Some-Mark-Dot-clause-follows
returns-in_ok-new-in-Some-Mark-Dot-clause-follows c =
    λ plain. operated (P.operator M.Dot) (P.steps ∷ []) c.in_ok-place-in-Some-Mark-Dot.ensures.read refl (omega arith) (turned {kind = K.Mark M.Dot} P.unary (P.operator M.Dot) (P.steps ∷ []) [] (cc c.in-Some-Mark-Dot.ensures.found) refl tt begin)

pub returns-in_err-place-in-Some-Mark-PositionsOf-clause-follows : goal.returns-in_err-place-in-Some-Mark-PositionsOf-clause-follows
returns-in_err-place-in-Some-Mark-PositionsOf-clause-follows c =
    let p = err_from_is_err_and c.from_residual-in_err-place-in-Some-Mark-PositionsOf.result c.from_residual-in_err-place-in-Some-Mark-PositionsOf.ensures.1 in rw (p.1, p.2) (λ plain. refused _ (P.mark M.PositionsOf) (P.operands_of M.PositionsOf ∷ P.steps ∷ []) c.in_err-place-in-Some-Mark-PositionsOf.ensures.stops (turned {kind = K.Mark M.PositionsOf} P.unary (P.mark M.PositionsOf) (P.operands_of M.PositionsOf ∷ P.steps ∷ []) [] (cc c.in-Some-Mark-PositionsOf.ensures.found) refl tt begin))

pub returns-in_err-shape-in-Some-Mark-PositionsOf-clause-follows : goal.returns-in_err-shape-in-Some-Mark-PositionsOf-clause-follows
returns-in_err-shape-in-Some-Mark-PositionsOf-clause-follows c =
    let p = err_from_is_err_and c.from_residual-in_err-shape-in-Some-Mark-PositionsOf.result c.from_residual-in_err-shape-in-Some-Mark-PositionsOf.ensures.1 in rw (p.1, p.2) (λ plain. stop _ (P.mark M.LeftParen ∷ P.shape ∷ P.close M.RightParen ∷ []) (P.steps ∷ []) c.in_err-shape-in-Some-Mark-PositionsOf.ensures.follows (operands_opened M.PositionsOf (P.steps ∷ []) (marked (P.mark M.PositionsOf) (P.operands_of M.PositionsOf ∷ P.steps ∷ []) c.in_ok-place-in-Some-Mark-PositionsOf.ensures.read refl (omega arith) (turned {kind = K.Mark M.PositionsOf} P.unary (P.mark M.PositionsOf) (P.operands_of M.PositionsOf ∷ P.steps ∷ []) [] (cc c.in-Some-Mark-PositionsOf.ensures.found) refl tt begin))) (omega arith))

pub returns-in_ok-new-in-Some-Mark-PositionsOf-clause-follows : goal.returns-in_ok-new-in-Some-Mark-PositionsOf-clause-follows
returns-in_ok-new-in-Some-Mark-PositionsOf-clause-follows c =
    λ plain. behind (P.steps ∷ []) c.in_ok-shape-in-Some-Mark-PositionsOf.ensures.follows (operands_opened M.PositionsOf (P.steps ∷ []) (marked (P.mark M.PositionsOf) (P.operands_of M.PositionsOf ∷ P.steps ∷ []) c.in_ok-place-in-Some-Mark-PositionsOf.ensures.read refl (omega arith) (turned {kind = K.Mark M.PositionsOf} P.unary (P.mark M.PositionsOf) (P.operands_of M.PositionsOf ∷ P.steps ∷ []) [] (cc c.in-Some-Mark-PositionsOf.ensures.found) refl tt begin))) (omega arith)

pub returns-in_err-place-in-Some-Mark-RankOf-clause-follows : goal.returns-in_err-place-in-Some-Mark-RankOf-clause-follows
returns-in_err-place-in-Some-Mark-RankOf-clause-follows c =
    let p = err_from_is_err_and c.from_residual-in_err-place-in-Some-Mark-RankOf.result c.from_residual-in_err-place-in-Some-Mark-RankOf.ensures.1 in rw (p.1, p.2) (λ plain. refused _ (P.mark M.RankOf) (P.operands_of M.RankOf ∷ P.steps ∷ []) c.in_err-place-in-Some-Mark-RankOf.ensures.stops (turned {kind = K.Mark M.RankOf} P.unary (P.mark M.RankOf) (P.operands_of M.RankOf ∷ P.steps ∷ []) [] (cc c.in-Some-Mark-RankOf.ensures.found) refl tt begin))

pub returns-in_err-shape-in-Some-Mark-RankOf-clause-follows : goal.returns-in_err-shape-in-Some-Mark-RankOf-clause-follows
returns-in_err-shape-in-Some-Mark-RankOf-clause-follows c =
    let p = err_from_is_err_and c.from_residual-in_err-shape-in-Some-Mark-RankOf.result c.from_residual-in_err-shape-in-Some-Mark-RankOf.ensures.1 in rw (p.1, p.2) (λ plain. stop _ (P.mark M.LeftParen ∷ P.shape ∷ P.close M.RightParen ∷ []) (P.steps ∷ []) c.in_err-shape-in-Some-Mark-RankOf.ensures.follows (operands_opened M.RankOf (P.steps ∷ []) (marked (P.mark M.RankOf) (P.operands_of M.RankOf ∷ P.steps ∷ []) c.in_ok-place-in-Some-Mark-RankOf.ensures.read refl (omega arith) (turned {kind = K.Mark M.RankOf} P.unary (P.mark M.RankOf) (P.operands_of M.RankOf ∷ P.steps ∷ []) [] (cc c.in-Some-Mark-RankOf.ensures.found) refl tt begin))) (omega arith))

pub returns-in_ok-new-in-Some-Mark-RankOf-clause-follows : goal.returns-in_ok-new-in-Some-Mark-RankOf-clause-follows
returns-in_ok-new-in-Some-Mark-RankOf-clause-follows c =
    λ plain. behind (P.steps ∷ []) c.in_ok-shape-in-Some-Mark-RankOf.ensures.follows (operands_opened M.RankOf (P.steps ∷ []) (marked (P.mark M.RankOf) (P.operands_of M.RankOf ∷ P.steps ∷ []) c.in_ok-place-in-Some-Mark-RankOf.ensures.read refl (omega arith) (turned {kind = K.Mark M.RankOf} P.unary (P.mark M.RankOf) (P.operands_of M.RankOf ∷ P.steps ∷ []) [] (cc c.in-Some-Mark-RankOf.ensures.found) refl tt begin))) (omega arith)

pub returns-in_err-place-in_default-clause-follows : goal.returns-in_err-place-in_default-clause-follows
returns-in_err-place-in_default-clause-follows c =
    let p = err_from_is_err_and c.from_residual-in_err-place-in_default.result c.from_residual-in_err-place-in_default.ensures.1 in rw (p.1, p.2) (λ plain. refused _ (P.mark M.GetChar) (P.operands_of M.GetChar ∷ P.steps ∷ []) c.in_err-place-in_default.ensures.stops (opened P.unary (P.mark M.GetChar) (P.operands_of M.GetChar ∷ P.steps ∷ []) [] (plain ∙ elim c.in_default.branch [
      | in_default-via-in-Some+in-Mark+in_default w ↦ plain_last _ w.in_default.field-0.now (rw w.in_default.is at c.kind_at.ensures.found) (λ value unsigned. search rules) (search rules) (search rules) (search rules)
      | in_default-via-in-Some+in_default w ↦ plain_last _ w.in_default.field-0.now (rw w.in_default.is at c.kind_at.ensures.found) (λ value unsigned. search rules) (search rules) (search rules) (search rules)
      | in_default-via-in_default w ↦ plain_end _ (rw w.in_default.is at c.kind_at.ensures.missing)
    ]) (mark_real (token_kind c.args.self.now.tokens.now c.args.spot.now.at) M.GetChar) begin))

pub returns-in_err-open-in_default-clause-follows : goal.returns-in_err-open-in_default-clause-follows
returns-in_err-open-in_default-clause-follows c =
    let p = err_from_is_err_and c.from_residual-in_err-open-in_default.result c.from_residual-in_err-open-in_default.ensures.1 in rw (p.1, p.2) (λ plain. unopened _ M.LeftParen (P.close M.RightParen ∷ P.steps ∷ []) c.in_err-open-in_default.ensures.stops (omega arith) (operands_opened M.GetChar (P.steps ∷ []) (marked (P.mark M.GetChar) (P.operands_of M.GetChar ∷ P.steps ∷ []) c.in_ok-place-in_default.ensures.read refl (omega arith) (opened P.unary (P.mark M.GetChar) (P.operands_of M.GetChar ∷ P.steps ∷ []) [] (plain ∙ elim c.in_default.branch [
      | in_default-via-in-Some+in-Mark+in_default w ↦ plain_last _ w.in_default.field-0.now (rw w.in_default.is at c.kind_at.ensures.found) (λ value unsigned. search rules) (search rules) (search rules) (search rules)
      | in_default-via-in-Some+in_default w ↦ plain_last _ w.in_default.field-0.now (rw w.in_default.is at c.kind_at.ensures.found) (λ value unsigned. search rules) (search rules) (search rules) (search rules)
      | in_default-via-in_default w ↦ plain_end _ (rw w.in_default.is at c.kind_at.ensures.missing)
    ]) (mark_real (token_kind c.args.self.now.tokens.now c.args.spot.now.at) M.GetChar) begin))))

pub returns-in_err-expect-in_default-clause-follows : goal.returns-in_err-expect-in_default-clause-follows
returns-in_err-expect-in_default-clause-follows c =
    let p = err_from_is_err_and c.from_residual-in_err-expect-in_default.result c.from_residual-in_err-expect-in_default.ensures.1 in rw (p.1, p.2) (λ plain. refused _ (P.close M.RightParen) (P.steps ∷ []) c.in_err-expect-in_default.ensures.stops (bracketed (P.close M.RightParen ∷ P.steps ∷ []) c.in_ok-open-in_default.ensures.read (omega (arith, c.in_ok-open-in_default.ensures.read.fits.0)) (operands_opened M.GetChar (P.steps ∷ []) (marked (P.mark M.GetChar) (P.operands_of M.GetChar ∷ P.steps ∷ []) c.in_ok-place-in_default.ensures.read refl (omega arith) (opened P.unary (P.mark M.GetChar) (P.operands_of M.GetChar ∷ P.steps ∷ []) [] (plain ∙ elim c.in_default.branch [
      | in_default-via-in-Some+in-Mark+in_default w ↦ plain_last _ w.in_default.field-0.now (rw w.in_default.is at c.kind_at.ensures.found) (λ value unsigned. search rules) (search rules) (search rules) (search rules)
      | in_default-via-in-Some+in_default w ↦ plain_last _ w.in_default.field-0.now (rw w.in_default.is at c.kind_at.ensures.found) (λ value unsigned. search rules) (search rules) (search rules) (search rules)
      | in_default-via-in_default w ↦ plain_end _ (rw w.in_default.is at c.kind_at.ensures.missing)
    ]) (mark_real (token_kind c.args.self.now.tokens.now c.args.spot.now.at) M.GetChar) begin)))))

pub returns-in_ok-new-in_default-clause-follows : goal.returns-in_ok-new-in_default-clause-follows
returns-in_ok-new-in_default-clause-follows c =
    λ plain. marked (P.close M.RightParen) (P.steps ∷ []) c.in_ok-expect-in_default.ensures.read refl (omega (arith, c.in_ok-open-in_default.ensures.read.fits.0)) (bracketed (P.close M.RightParen ∷ P.steps ∷ []) c.in_ok-open-in_default.ensures.read (omega (arith, c.in_ok-open-in_default.ensures.read.fits.0)) (operands_opened M.GetChar (P.steps ∷ []) (marked (P.mark M.GetChar) (P.operands_of M.GetChar ∷ P.steps ∷ []) c.in_ok-place-in_default.ensures.read refl (omega arith) (opened P.unary (P.mark M.GetChar) (P.operands_of M.GetChar ∷ P.steps ∷ []) [] (plain ∙ elim c.in_default.branch [
      | in_default-via-in-Some+in-Mark+in_default w ↦ plain_last _ w.in_default.field-0.now (rw w.in_default.is at c.kind_at.ensures.found) (λ value unsigned. search rules) (search rules) (search rules) (search rules)
      | in_default-via-in-Some+in_default w ↦ plain_last _ w.in_default.field-0.now (rw w.in_default.is at c.kind_at.ensures.found) (λ value unsigned. search rules) (search rules) (search rules) (search rules)
      | in_default-via-in_default w ↦ plain_end _ (rw w.in_default.is at c.kind_at.ensures.missing)
    ]) (mark_real (token_kind c.args.self.now.tokens.now c.args.spot.now.at) M.GetChar) begin))))
