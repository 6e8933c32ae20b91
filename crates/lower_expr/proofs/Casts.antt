-- A chain of casts, from its innermost one on.
use Rattle.std.proofs.Common.{◌≡◌, ℕ, List, [], ◌∷◌, ◌++◌, length, refl, sym, ap, ◌∙◌}
use Rattle.cstar_base.specs.declared.elem.Elem.{Elem}
use Rattle.paris_code.specs.declared.instr.Instr.TheVariants as I
use Rattle.lower_base.specs.Drafts.{Draft, with_instr}
use Rattle.lower_expr.specs.Values.{casts_put}

innermost_first : (xs : List Elem) (kind : Elem) (r : ℕ) (d : Draft) →
    casts_put (xs ++ kind ∷ []) r d ≡ casts_put xs r (with_instr (I.FrontConvert r r kind) d)
unfolding casts_put
innermost_first [] kind r d = refl
innermost_first (x ∷ xs) kind r d = ap (λ (e : Draft). with_instr (I.FrontConvert r r x) e) (innermost_first xs kind r d)

pub cast_more : (ys xs : List Elem) (kind : Elem) (r : ℕ) (d after whole : Draft) → ys ≡ xs ++ kind ∷ [] →
    with_instr (I.FrontConvert r r kind) d ≡ after → casts_put ys r d ≡ whole → casts_put xs r after ≡ whole
cast_more ys xs kind r d after whole ends put left =
    ap (λ (e : Draft). casts_put xs r e) (sym put) ∙ (sym (innermost_first xs kind r d) ∙ (ap (λ (zs : List Elem). casts_put zs r d) (sym ends) ∙ left))

pub casts_done : (xs : List Elem) (r : ℕ) (d whole : Draft) → length xs ≡ 0 → casts_put xs r d ≡ whole → whole ≡ d
unfolding casts_put
casts_done [] r d whole none left = sym left
casts_done (x ∷ xs) r d whole none left = cc
