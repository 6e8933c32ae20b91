-- The statements of a drill, one after the other.
use Rattle.std.proofs.Common.{◌≡◌, ℕ, suc, ◌+◌, ◌-◌, ◌<◌, ◌≤◌, List, [], ◌++◌, ap, sym, ◌∙◌, refl, append_assoc, append-nil, arith}
use Rattle.drill_text.specs.Draws.{after, drawn}
use Rattle.drill_text.specs.Text.{behind, statement, statements}

-- the next statement of those that are left
pub next : (count i state : ℕ) → i < count → statements (count - i) state ≡ statement (drawn state 8) (after state) ++ statements (count - (i + 1)) (behind (drawn state 8) (after state))
unfolding statements
next count i state h =
    let e : count - i ≡ suc (count - (i + 1)) = omega arith in
    ap (λ n. statements n state) e

-- a text with one statement more, whose kind was drawn
pub one_more : (count i state kind drawn_state new_state : ℕ) (text new whole : List ℕ) → i < count → text ++ statements (count - i) state ≡ whole → kind ≡ drawn state 8 → drawn_state ≡ after state → new ≡ text ++ statement kind drawn_state → new_state ≡ behind kind drawn_state → new ++ statements (count - (i + 1)) new_state ≡ whole
one_more count i state kind drawn_state new_state text new whole h is kind_is state_is new_is behind_is =
    let assoc = append_assoc text (statement (drawn state 8) (after state)) (statements (count - (i + 1)) (behind (drawn state 8) (after state))) in
    let following = next count i state h in
    cc (assoc, following)

-- where none is left
pub no_more : (count i state : ℕ) (text whole : List ℕ) → count ≤ i → text ++ statements (count - i) state ≡ whole → text ≡ whole
unfolding statements
no_more count i state text whole h is =
    let e : count - i ≡ 0 = omega arith in
    sym (append-nil text) ∙ sym (ap (λ n. text ++ statements n state) e) ∙ is
