-- How a geometry holds its extents: padded with 1 to the greatest rank, which leaves their product.
use Rattle.std.specs.Prelude.{ℕ, ◌≡◌, ◌≤◌, ◌-◌, List, ◌++◌, length, take, drop, replicate}
use Rattle.std.proofs.Common.{sym, ap, ◌∙◌, arith, take-append-drop, length-take-le}

unfoldable pub padded : List ℕ → List ℕ
padded extents = extents ++ replicate (4 - length extents) 1

-- the padding is found again from the extents in use
pub padded_again : (rank : ℕ) (held : List ℕ) → rank ≤ 4 → length held ≡ 4 → drop rank held ≡ replicate (4 - rank) 1 → padded (take rank held) ≡ held
unfolding padded
padded_again rank held r l d =
    ap (λ n. take rank held ++ replicate (4 - n) 1) (length-take-le rank held (omega arith))
    ∙ ap (λ t. take rank held ++ t) (sym d)
    ∙ take-append-drop rank held
