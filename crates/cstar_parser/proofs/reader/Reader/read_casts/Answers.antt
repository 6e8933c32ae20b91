use Rattle.std.proofs.Common.{[], ◌∷◌, ◌+◌, sym, refl, ◌∙◌, arith, rules}
use Rattle.std.proofs.lemmas.Result.{err_from_is_err_and}
use Rattle.cstar_tree.specs.declared.token.Mark.TheVariants as M
use Rattle.grammar_parts.specs.Parts as P
use Rattle.cstar_tree.specs.Expressions as X
use Rattle.cstar_parser.proofs.Casting.{element_of}
use Rattle.cstar_parser.proofs.Fitting.{of_parallel, of_scalar}
use Rattle.cstar_parser.proofs.Following.{begin, behind, marked, opened, refused, stop}
use Rattle.cstar_parser.proofs.FollowingExpressions.{cast_behind, entered, type_real, unentered}
use Rattle.cstar_parser.proofs.reader.Reader.read_casts.Goals as goal

pub casts-init : goal.casts-init
casts-init c = (omega arith, c.requires.within, rw c.new-casts.ensures.items X.no_cast, refl, λ cast. (cast, begin))

pub casts-preserved : goal.casts-preserved
casts-preserved c =
    let begin = c.in_ok-place.ensures.read in
    let name = c.in_ok-type_name.ensures.read in
    let end = c.in_ok-expect.ensures.read in
    let scalar = of_scalar _ (sym c.is_some.ensures ∙ c.if-is_some.false) in
    (omega arith, end.inside, rw c.in_ok-push.ensures.items (X.one_more _ c.casts.invariant.2 begin.spelled (element_of name.spelled (sym c.is_some.ensures ∙ c.if-is_some.false)) end.spelled), omega arith, λ cast. (c.begins_cast.ensures.yes c.if-not-begins_cast.false, marked (P.close M.RightParen) (P.unary ∷ []) c.in_ok-expect.ensures.read refl (omega (arith, c.in_ok-place.ensures.read.fits.0)) (behind (P.close M.RightParen ∷ P.unary ∷ []) (c.in_ok-type_name.ensures.follows (c.args.levels + 1) (omega (arith, c.in_ok-place.ensures.read.fits.0))) (opened P.behind_paren P.type (P.close M.RightParen ∷ P.unary ∷ []) [] (cast_behind _ (rw c.in_ok-place.ensures.read.spelled.next_is (c.casts.invariant.4 cast).0.1)) (type_real _ (rw c.in_ok-place.ensures.read.spelled.next_is (c.casts.invariant.4 cast).0.1)) (entered P.unary [] c.in_ok-place.ensures.read refl (omega (arith, c.in_ok-place.ensures.read.fits.0)) ((c.casts.invariant.4 cast).1))) (omega arith))))

pub returns-then-not-begins_cast-clause-read : goal.returns-then-not-begins_cast-clause-read
returns-then-not-begins_cast-clause-read c =
    let begin = c.in_ok-place.ensures.read in
    let name = c.in_ok-type_name.ensures.read in
    let end = c.in_ok-expect.ensures.read in
    let scalar = of_scalar _ (sym c.is_some.ensures ∙ c.if-is_some.false) in
    record {
      spelled = record {
        mid = c.expect.new.spot.at;
        scalars = rw c.in_ok-push.ensures.items (X.one_more _ c.casts.invariant.2 begin.spelled (element_of name.spelled (sym c.is_some.ensures ∙ c.if-is_some.false)) end.spelled);
        last = refl;
      };
      fits = (begin.fits.0, omega arith);
      forward = omega arith;
      inside = end.inside;
    }

pub returns-then-is_some-clause-read : goal.returns-then-is_some-clause-read
returns-then-is_some-clause-read c =
    let begin = c.in_ok-place.ensures.read in
    let name = c.in_ok-type_name.ensures.read in
    let end = c.in_ok-expect.ensures.read in
    let parallel = of_parallel _ (sym c.is_some.ensures ∙ c.if-is_some.true) in
    record {
      spelled = record {
        mid = c.casts.spot.at;
        scalars = c.casts.invariant.2;
        last = record { opened = c.«open».new.spot.at; typed = c.read_type.new.spot.at; end = _; begins = begin.spelled; type_is = name.spelled; shaped = search rules; ends = end.spelled };
      };
      fits = (begin.fits.0, omega arith);
      forward = omega arith;
      inside = end.inside;
    }

pub returns-in_err-place-clause-follows : goal.returns-in_err-place-clause-follows
returns-in_err-place-clause-follows c =
    let p = err_from_is_err_and c.from_residual.result c.from_residual.ensures.1 in rw (p.1, p.2) (λ cast. unentered _ P.unary M.LeftParen [] (c.casts.invariant.4 cast).0.0 refl c.in_err-place.ensures.stops (omega arith) ((c.casts.invariant.4 cast).1))

pub returns-in_err-type_name-clause-follows : goal.returns-in_err-type_name-clause-follows
returns-in_err-type_name-clause-follows c =
    let p = err_from_is_err_and c.from_residual-in_err-type_name.result c.from_residual-in_err-type_name.ensures.1 in rw (p.1, p.2) (λ cast. stop _ (P.type ∷ []) (P.close M.RightParen ∷ P.unary ∷ []) (c.in_err-type_name.ensures.follows (c.args.levels + 1) (omega (arith, c.in_ok-place.ensures.read.fits.0))) (opened P.behind_paren P.type (P.close M.RightParen ∷ P.unary ∷ []) [] (cast_behind _ (rw c.in_ok-place.ensures.read.spelled.next_is (c.casts.invariant.4 cast).0.1)) (type_real _ (rw c.in_ok-place.ensures.read.spelled.next_is (c.casts.invariant.4 cast).0.1)) (entered P.unary [] c.in_ok-place.ensures.read refl (omega (arith, c.in_ok-place.ensures.read.fits.0)) ((c.casts.invariant.4 cast).1))) (omega arith))

pub returns-in_err-expect-clause-follows : goal.returns-in_err-expect-clause-follows
returns-in_err-expect-clause-follows c =
    let p = err_from_is_err_and c.from_residual-in_err-expect.result c.from_residual-in_err-expect.ensures.1 in rw (p.1, p.2) (λ cast. refused _ (P.close M.RightParen) (P.unary ∷ []) c.in_err-expect.ensures.stops (behind (P.close M.RightParen ∷ P.unary ∷ []) (c.in_ok-type_name.ensures.follows (c.args.levels + 1) (omega (arith, c.in_ok-place.ensures.read.fits.0))) (opened P.behind_paren P.type (P.close M.RightParen ∷ P.unary ∷ []) [] (cast_behind _ (rw c.in_ok-place.ensures.read.spelled.next_is (c.casts.invariant.4 cast).0.1)) (type_real _ (rw c.in_ok-place.ensures.read.spelled.next_is (c.casts.invariant.4 cast).0.1)) (entered P.unary [] c.in_ok-place.ensures.read refl (omega (arith, c.in_ok-place.ensures.read.fits.0)) ((c.casts.invariant.4 cast).1))) (omega arith)))

pub returns-then-is_some-clause-follows : goal.returns-then-is_some-clause-follows
returns-then-is_some-clause-follows c =
    λ cast. marked (P.close M.RightParen) (P.unary ∷ []) c.in_ok-expect.ensures.read refl (omega (arith, c.in_ok-place.ensures.read.fits.0)) (behind (P.close M.RightParen ∷ P.unary ∷ []) (c.in_ok-type_name.ensures.follows (c.args.levels + 1) (omega (arith, c.in_ok-place.ensures.read.fits.0))) (opened P.behind_paren P.type (P.close M.RightParen ∷ P.unary ∷ []) [] (cast_behind _ (rw c.in_ok-place.ensures.read.spelled.next_is (c.casts.invariant.4 cast).0.1)) (type_real _ (rw c.in_ok-place.ensures.read.spelled.next_is (c.casts.invariant.4 cast).0.1)) (entered P.unary [] c.in_ok-place.ensures.read refl (omega (arith, c.in_ok-place.ensures.read.fits.0)) ((c.casts.invariant.4 cast).1))) (omega arith))

pub returns-then-not-begins_cast-clause-follows : goal.returns-then-not-begins_cast-clause-follows
returns-then-not-begins_cast-clause-follows c =
    λ cast. marked (P.close M.RightParen) (P.unary ∷ []) c.in_ok-expect.ensures.read refl (omega (arith, c.in_ok-place.ensures.read.fits.0)) (behind (P.close M.RightParen ∷ P.unary ∷ []) (c.in_ok-type_name.ensures.follows (c.args.levels + 1) (omega (arith, c.in_ok-place.ensures.read.fits.0))) (opened P.behind_paren P.type (P.close M.RightParen ∷ P.unary ∷ []) [] (cast_behind _ (rw c.in_ok-place.ensures.read.spelled.next_is (c.casts.invariant.4 cast).0.1)) (type_real _ (rw c.in_ok-place.ensures.read.spelled.next_is (c.casts.invariant.4 cast).0.1)) (entered P.unary [] c.in_ok-place.ensures.read refl (omega (arith, c.in_ok-place.ensures.read.fits.0)) ((c.casts.invariant.4 cast).1))) (omega arith))

pub returns-then-is_some-clause-last : goal.returns-then-is_some-clause-last
returns-then-is_some-clause-last c = λ none. absurd (cc (none, c.is_some.ensures, c.if-is_some.true))

pub returns-then-not-begins_cast-clause-last : goal.returns-then-not-begins_cast-clause-last
returns-then-not-begins_cast-clause-last c = λ none. c.begins_cast.ensures.no c.if-not-begins_cast.true
