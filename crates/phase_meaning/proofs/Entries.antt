-- The entries of a list that are read by a function.
use Rattle.std.proofs.Common.{◌≡◌, ◌≢◌, ℕ, ◌<◌, List, [], ◌∷◌, ◌++◌, map, length, get_or, sym, ◌∙◌, ap, arith}
use Rattle.std.proofs.Math.ListN.{set, get_or-append}
use Rattle.std.proofs.Math.Seq.{get_or-append_seam}
use Rattle.std.proofs.lemmas.List.{get_or-map, get_or-set_same, get_or-set_other, length-map, map-set, map-append}

-- one entry of a list of entries read by f
pub entry : {X Y : Type 0} (f : X → Y) (xs : List X) (k : ℕ) (x : X) (d : Y) → k < length xs → x ≡ get_or xs k x → f x ≡ get_or (map f xs) k d
entry f xs k x d b is = ap f is ∙ sym (get_or-map f xs k x d b)

pub entry_new : {X Y : Type 0} (f : X → Y) (xs : List X) (k : ℕ) (x : X) (d : Y) → k < length xs → get_or (map f (set xs k x)) k d ≡ f x
entry_new f xs k x d b = ap (λ ys. get_or ys k d) (map-set f xs k x) ∙ get_or-set_same (map f xs) k (f x) d (omega (arith, length-map xs f))

pub entry_other : {X Y : Type 0} (f : X → Y) (xs : List X) (k : ℕ) (x : X) (d : Y) (j : ℕ) → j ≢ k → get_or (map f (set xs k x)) j d ≡ get_or (map f xs) j d
entry_other f xs k x d j n = ap (λ ys. get_or ys j d) (map-set f xs k x) ∙ get_or-set_other (map f xs) k j (f x) d n

-- the entries of a list that one more was put behind
pub pushed_before : {X Y : Type 0} (f : X → Y) (xs : List X) (x : X) (d : Y) (s : ℕ) → s < length xs → get_or (map f (xs ++ x ∷ [])) s d ≡ get_or (map f xs) s d
pushed_before f xs x d s b = ap (λ ys. get_or ys s d) (map-append f xs (x ∷ [])) ∙ get_or-append (map f xs) (f x ∷ []) d s (omega (arith, length-map xs f))

pub pushed_last : {X Y : Type 0} (f : X → Y) (xs : List X) (x : X) (d : Y) → get_or (map f (xs ++ x ∷ [])) (length xs) d ≡ f x
pushed_last f xs x d =
    ap (λ ys. get_or ys (length xs) d) (map-append f xs (x ∷ [])) ∙ ap (λ k. get_or (map f xs ++ f x ∷ []) k d) (sym (length-map xs f)) ∙ get_or-append_seam (map f xs) (f x) [] d
