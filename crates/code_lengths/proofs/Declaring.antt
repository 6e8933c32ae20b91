-- What statements declare, part by part, and where that stands among all variables of the blocks.
use Rattle.std.proofs.Common.{◌≡◌, ℕ, suc, zero, ◌+◌, ◌<◌, List, [], ◌∷◌, ◌++◌, length, map, take, slice_get, Option, Some, Vec, Global, refl, sym, ap, ◌∙◌, subst, arith, append_assoc, length-append}
use Rattle.std.specs.List.{All}
use Rattle.std.proofs.Math.Seq.{take-append_seam}
use Rattle.std.proofs.lemmas.List.Elements.{All-get_or}
use Rattle.std.proofs.lemmas.Option.{get_or_from_slice_get, slice_get_within}
use mathlib.Core.Former.{Count}
use denote.Hole.Carrier
use Rattle.cstar_tree.specs.declared.typed.LocalVar.{LocalVar}
use Rattle.cstar_tree.specs.declared.typed.TExpr.{TExpr}
use Rattle.cstar_tree.specs.declared.typed.TStmt.{TStmt, out-TStmt, roll-TStmt, roll-out-TStmt, Row_of-TStmt, end_of-TStmt, more_of-TStmt, items-the_row-TStmt, items_hidden-the_row-TStmt-0, Held-TStmt-If-2, None', Some'}
use Rattle.cstar_tree.specs.declared.typed.TStmt as S
use Rattle.cstar_tree.specs.declared.typed.TStmt.TheFolds.{fold_out-TStmt}
use Rattle.cstar_tree.specs.declared.typed.TStmt.TheOpen.{TStmt-F}
use Rattle.cstar_tree.specs.declared.typed.TStmt.TheVariants as tree
use Rattle.cstar_tree.specs.declared.typed.VarInfo.{VarInfo}
use Rattle.cstar_tree.specs.TypedParts.{concat}
use Rattle.cstar_tree.specs.Variables.{declared_by, variables_of, variables_step}
use Rattle.lower_base.proofs.Numbering.{variables_block}
use Rattle.code_lengths.specs.NamingStatements.{StandFrom}
use Rattle.code_lengths.proofs.Drafting.{append_nothing}

abbrev pub info_of : LocalVar → VarInfo
info_of local = local.info

-- ---- the variables of a statement, by its parts

-- those of statements in a row, and of what is behind `else`
unfoldable pub row_variables : {k : _} → Row_of-TStmt k → List VarInfo
row_variables end_of-TStmt = []
row_variables (more_of-TStmt s rest) = variables_of s ++ row_variables rest

unfoldable pub else_variables : Held-TStmt-If-2 → List VarInfo
else_variables None' = []
else_variables (Some' p s) = variables_of s

row_concat : (k : Count) (row : Row_of-TStmt k) → concat (map variables_of (items-the_row-TStmt k row)) ≡ row_variables row
unfolding concat row_variables
row_concat k end_of-TStmt = refl
row_concat k (more_of-TStmt s rest) = ap (λ (xs : List VarInfo). variables_of s ++ xs) (row_concat _ rest)

one_part : (s : TStmt) (xs : List VarInfo) → variables_of s ≡ xs ++ [] → variables_of s ≡ xs
one_part s xs is = is ∙ sym (append_nothing xs)

pub of_if : (test : TExpr) (p : _) (first : TStmt) (second : Held-TStmt-If-2) → variables_of (S.If' test p first second) ≡ variables_of first ++ else_variables second
unfolding variables_step declared_by concat else_variables out-TStmt Carrier.out
of_if test p first None' = fold_out-TStmt (List VarInfo) variables_step (S.If' test p first None')
of_if test p first (Some' q s) = fold_out-TStmt (List VarInfo) variables_step (S.If' test p first (Some' q s)) ∙ ap (λ (xs : List VarInfo). variables_of first ++ xs) (sym (append_nothing (variables_of s)))

pub of_where : (shape : ℕ) (test : TExpr) (p : _) (first : TStmt) (second : Held-TStmt-If-2) → variables_of (S.Where' shape test p first second) ≡ variables_of first ++ else_variables second
unfolding variables_step declared_by concat else_variables out-TStmt Carrier.out
of_where shape test p first None' = fold_out-TStmt (List VarInfo) variables_step (S.Where' shape test p first None')
of_where shape test p first (Some' q s) = fold_out-TStmt (List VarInfo) variables_step (S.Where' shape test p first (Some' q s)) ∙ ap (λ (xs : List VarInfo). variables_of first ++ xs) (sym (append_nothing (variables_of s)))

pub of_while : (test : TExpr) (p : _) (body : TStmt) → variables_of (S.While' test p body) ≡ variables_of body
unfolding variables_step declared_by concat out-TStmt Carrier.out
of_while test p body = one_part _ _ (fold_out-TStmt (List VarInfo) variables_step (S.While' test p body))

pub of_do : (p : _) (body : TStmt) (test : TExpr) → variables_of (S.Do' p body test) ≡ variables_of body
unfolding variables_step declared_by concat out-TStmt Carrier.out
of_do p body test = one_part _ _ (fold_out-TStmt (List VarInfo) variables_step (S.Do' p body test))

pub of_for : (first test step : Option TExpr) (p : _) (body : TStmt) → variables_of (S.For' first test step p body) ≡ variables_of body
unfolding variables_step declared_by concat out-TStmt Carrier.out
of_for first test step p body = one_part _ _ (fold_out-TStmt (List VarInfo) variables_step (S.For' first test step p body))

pub of_with : (shape : ℕ) (p : _) (body : TStmt) → variables_of (S.With' shape p body) ≡ variables_of body
unfolding variables_step declared_by concat out-TStmt Carrier.out
of_with shape p body = one_part _ _ (fold_out-TStmt (List VarInfo) variables_step (S.With' shape p body))

pub of_everywhere : (shape : ℕ) (p : _) (body : TStmt) → variables_of (S.Everywhere' shape p body) ≡ variables_of body
unfolding variables_step declared_by concat out-TStmt Carrier.out
of_everywhere shape p body = one_part _ _ (fold_out-TStmt (List VarInfo) variables_step (S.Everywhere' shape p body))

pub of_expression : (e : TExpr) → variables_of (S.Expression e) ≡ []
unfolding variables_step declared_by concat out-TStmt Carrier.out
of_expression e = fold_out-TStmt (List VarInfo) variables_step (S.Expression e)

pub of_empty : variables_of S.Empty ≡ []
unfolding variables_step declared_by concat out-TStmt Carrier.out
of_empty = fold_out-TStmt (List VarInfo) variables_step S.Empty

pub of_break : variables_of S.Break ≡ []
unfolding variables_step declared_by concat out-TStmt Carrier.out
of_break = fold_out-TStmt (List VarInfo) variables_step S.Break

pub of_continue : variables_of S.Continue ≡ []
unfolding variables_step declared_by concat out-TStmt Carrier.out
of_continue = fold_out-TStmt (List VarInfo) variables_step S.Continue

pub of_return : (e : Option TExpr) → variables_of (S.Return e) ≡ []
unfolding variables_step declared_by concat out-TStmt Carrier.out
of_return e = fold_out-TStmt (List VarInfo) variables_step (S.Return e)

-- a block, by its statements in a list and in a row
abbrev block_parts : TStmt → List VarInfo
block_parts (S.Block' locals p row) = map info_of locals.items ++ row_variables row
block_parts _ = []

abbrev IsAsItsParts : TStmt → Type 0
IsAsItsParts s = variables_of s ≡ block_parts s

abbrev IfBlock : TStmt-F TStmt → Type 0
IfBlock (TStmt-F.Block locals statements) = IsAsItsParts (roll-TStmt (TStmt-F.Block locals statements))
IfBlock _ = Unit {0}

abbrev row_of : TStmt → (k : Count) × Row_of-TStmt k
row_of (S.Block' locals p row) = (_, row)
row_of _ = (_, end_of-TStmt)

listed_block : (locals : Vec LocalVar Global) (statements : Vec TStmt Global) → IsAsItsParts (S.Block locals statements)
listed_block locals statements =
    let row = row_of (S.Block locals statements) in
    variables_block locals statements
    ∙ ap (λ (ss : List TStmt). map info_of locals.items ++ concat (map variables_of ss)) (sym (items_hidden-the_row-TStmt-0 statements))
    ∙ ap (λ (xs : List VarInfo). map info_of locals.items ++ xs) (row_concat row.0 row.1)

if_block : (x : TStmt-F TStmt) → IfBlock x
if_block (TStmt-F.Block locals statements) = subst IsAsItsParts (sym (tree.rolls-Block locals statements)) (listed_block locals statements)
if_block _ = tt

pub of_block : (locals : Vec LocalVar Global) (p : Vec (Unit {0}) Global) (row : _) → variables_of (S.Block' locals p row) ≡ map info_of locals.items ++ row_variables row
unfolding out-TStmt Carrier.out
of_block locals p row = subst IsAsItsParts (roll-out-TStmt (S.Block' locals p row)) (if_block (out-TStmt (S.Block' locals p row)))

-- ---- where they stand among all

pub first_part : {all : List VarInfo} {n : ℕ} (own rest : List VarInfo) → StandFrom all n (own ++ rest) → StandFrom all n own
first_part own rest s = record {
  before = s.before;
  behind = rest ++ s.behind;
  all_are = s.all_are ∙ ap (λ (xs : List VarInfo). s.before ++ xs) (append_assoc own rest s.behind);
  number_is = s.number_is;
}

unfoldable pub second_part : {all : List VarInfo} {n : ℕ} (own rest : List VarInfo) → StandFrom all n (own ++ rest) → StandFrom all (n + length own) rest
second_part own rest s = record {
  before = s.before ++ own;
  behind = s.behind;
  all_are = s.all_are ∙ ap (λ (xs : List VarInfo). s.before ++ xs) (append_assoc own rest s.behind) ∙ sym (append_assoc s.before own (rest ++ s.behind));
  number_is = length-append s.before own ∙ ap (λ (k : ℕ). k + length own) s.number_is;
}

pub taken : {all : List VarInfo} {n : ℕ} (own : List VarInfo) (s : StandFrom all n own) → take n all ≡ s.before
taken {all} {n} own s =
    ap (λ (xs : List VarInfo). take n xs) s.all_are
    ∙ ap (λ (k : ℕ). take k (s.before ++ (own ++ s.behind))) (sym s.number_is)
    ∙ take-append_seam s.before (own ++ s.behind)

-- ---- items of lists

pub at_length : {A : Type 0} (before : List A) (x : A) (rest : List A) → slice_get (before ++ x ∷ rest) (length before) ≡ Some x
at_length [] x rest = refl
at_length (b ∷ before) x rest = at_length before x rest

pub found : {A : Type 0} (xs : List A) (k : ℕ) → k < length xs → (x : A) × (slice_get xs k ≡ Some x)
found [] k less = absurd (none k less)
  where
    none : (k : ℕ) → k < 0 → ⊥
    none k less = omega (arith, less)
found (x ∷ xs) zero less = (x, refl)
found (x ∷ xs) (suc k) less = found xs k (omega (arith, less))

pub at_number : {all : List VarInfo} {n : ℕ} (info : VarInfo) (rest : List VarInfo) → StandFrom all n (info ∷ rest) → slice_get all n ≡ Some info
at_number {n = n} info rest s =
    ap (λ (xs : List VarInfo). slice_get xs n) s.all_are
    ∙ ap (λ (k : ℕ). slice_get (s.before ++ info ∷ (rest ++ s.behind)) k) (sym s.number_is)
    ∙ at_length s.before info (rest ++ s.behind)

pub all_at : {A : Type 0} (P : A → Type 0) (xs : List A) (n : ℕ) (x : A) → All P xs → slice_get xs n ≡ Some x → P x
all_at P xs n x all is = subst P (get_or_from_slice_get xs n x x is) (All-get_or P xs n x (slice_get_within xs n x is) all)
