-- Lists of calls that grow at their end, part by part.
use Rattle.std.proofs.Common.{◌≡◌, ℕ, List, [], ◌++◌, refl, sym, ap, ◌∙◌, append_assoc, append-nil}

pub none_added : (old : List ℕ) {more : List ℕ} → more ≡ [] → old ≡ old ++ more
none_added old none = sym (ap (λ (ns : List ℕ). old ++ ns) none ∙ append-nil old)

pub one_added : (old : List ℕ) {new first all : List ℕ} → new ≡ old ++ first → all ≡ first → new ≡ old ++ all
one_added old is all_is = is ∙ ap (λ (ns : List ℕ). old ++ ns) (sym all_is)

pub both_added : (old first second : List ℕ) {mid new all : List ℕ} → mid ≡ old ++ first → new ≡ mid ++ second → all ≡ first ++ second → new ≡ old ++ all
both_added old first second is next all_is =
    next ∙ ap (λ (ns : List ℕ). ns ++ second) is ∙ append_assoc old first second ∙ ap (λ (ns : List ℕ). old ++ ns) (sym all_is)

pub three_added : (old first second third : List ℕ) {mid last new all : List ℕ} → mid ≡ old ++ first → last ≡ mid ++ second → new ≡ last ++ third → all ≡ first ++ (second ++ third) → new ≡ old ++ all
three_added old first second third {mid = mid} is next more all_is = both_added old first (second ++ third) is (both_added mid second third next more refl) all_is

-- the calls of a part, which the walk has under another name
pub part_added : {T : Type 0} (calls : T → List ℕ) (old : List ℕ) {new : List ℕ} {v part : T} → v ≡ part → new ≡ old ++ calls v → new ≡ old ++ calls part
part_added calls old same is = is ∙ ap (λ v. old ++ calls v) same

-- with the rest of a list behind it the list so far is the whole one
abbrev pub IsBegun : List ℕ → List ℕ → List ℕ → List ℕ → Type 0
IsBegun old so_far rest all = so_far ++ rest ≡ old ++ all

pub begun_more : (mid first rest : List ℕ) {new left whole : List ℕ} → mid ++ left ≡ whole → left ≡ first ++ rest → new ≡ mid ++ first → new ++ rest ≡ whole
begun_more mid first rest begun left_is is =
    ap (λ (ns : List ℕ). ns ++ rest) is ∙ append_assoc mid first rest ∙ ap (λ (ns : List ℕ). mid ++ ns) (sym left_is) ∙ begun

pub all_added : (new left : List ℕ) {whole : List ℕ} → new ++ left ≡ whole → left ≡ [] → new ≡ whole
all_added new left begun none = sym (append-nil new) ∙ ap (λ (ns : List ℕ). new ++ ns) (sym none) ∙ begun
