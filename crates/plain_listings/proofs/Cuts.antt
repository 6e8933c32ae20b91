-- A text that is cut at each place where a byte stands.
use Rattle.std.proofs.Common.{◌≡◌, ℕ, Bool, true, false, cond, not, ◌&&◌, ◌==◌, List, [], ◌∷◌, ◌++◌, eq-eqb, refl, sym, ap, ◌∙◌}

-- two tests that both pass
pub and_left : (a b : Bool) → (a && b) ≡ true → a ≡ true
and_left true b h = refl
and_left false b h = h

pub and_right : (a b : Bool) → (a && b) ≡ true → b ≡ true
and_right true b h = h
and_right false b h = cc

pub both : (a b : Bool) → a ≡ true → b ≡ true → (a && b) ≡ true
both true b p q = q
both false b p q = p

pub off : (a : Bool) → not a ≡ true → a ≡ false
off true h = sym h
off false h = refl

-- every byte of a text passes a test
abbrev pub only : (ℕ → Bool) → List ℕ → Bool
only p [] = true
only p (b ∷ bs) = p b && only p bs

pub only_append : (p : ℕ → Bool) (xs ys : List ℕ) → only p xs ≡ true → only p ys ≡ true → only p (xs ++ ys) ≡ true
only_append p [] ys g h = h
only_append p (x ∷ xs) ys g h = both (p x) (only p (xs ++ ys)) (and_left (p x) (only p xs) g) (only_append p xs ys (and_right (p x) (only p xs) g) h)

pub only_weaker : (p q : ℕ → Bool) → ((b : ℕ) → p b ≡ true → q b ≡ true) → (xs : List ℕ) → only p xs ≡ true → only q xs ≡ true
only_weaker p q w [] h = refl
only_weaker p q w (x ∷ xs) h = both (q x) (only q xs) (w x (and_left (p x) (only p xs) h)) (only_weaker p q w xs (and_right (p x) (only p xs) h))

-- a byte is not this one
abbrev pub lacks : ℕ → ℕ → Bool
lacks c b = not (b == c)

-- the pieces of a text between the places where a byte stands
abbrev pub onto : ℕ → List (List ℕ) → List (List ℕ)
onto b [] = (b ∷ []) ∷ []
onto b (w ∷ ws) = (b ∷ w) ∷ ws

abbrev pub cut : ℕ → List ℕ → List (List ℕ)
cut c [] = [] ∷ []
cut c (b ∷ bs) = cond (b == c) ([] ∷ cut c bs) (onto b (cut c bs))

pub cut_alone : (c : ℕ) (xs : List ℕ) → only (lacks c) xs ≡ true → cut c xs ≡ xs ∷ []
cut_alone c [] h = refl
cut_alone c (b ∷ bs) h =
    let e : (b == c) ≡ false = off (b == c) (and_left (lacks c b) (only (lacks c) bs) h) in
    let r : cut c bs ≡ bs ∷ [] = cut_alone c bs (and_right (lacks c b) (only (lacks c) bs) h) in
    ap (λ t. cond t ([] ∷ cut c bs) (onto b (cut c bs))) e ∙ ap (onto b) r

pub cut_first : (c : ℕ) (xs ys : List ℕ) → only (lacks c) xs ≡ true → cut c (xs ++ c ∷ ys) ≡ xs ∷ cut c ys
cut_first c [] ys h = ap (λ t. cond t ([] ∷ cut c ys) (onto c (cut c ys))) (eq-eqb c c refl)
cut_first c (b ∷ bs) ys h =
    let e : (b == c) ≡ false = off (b == c) (and_left (lacks c b) (only (lacks c) bs) h) in
    let r : cut c (bs ++ c ∷ ys) ≡ bs ∷ cut c ys = cut_first c bs ys (and_right (lacks c b) (only (lacks c) bs) h) in
    ap (λ t. cond t ([] ∷ cut c (bs ++ c ∷ ys)) (onto b (cut c (bs ++ c ∷ ys)))) e ∙ ap (onto b) r
