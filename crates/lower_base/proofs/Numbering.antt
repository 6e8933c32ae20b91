-- The numbering of variables, one list of them behind another.
use Rattle.std.proofs.Common.{◌≡◌, ℕ, ◌+◌, ◌<◌, ◌≤◌, List, [], ◌∷◌, ◌++◌, length, get_or, drop, map, refl, sym, ap, ◌∙◌}
use Rattle.std.proofs.lemmas.List.{at_drop_more, at_drop_all}
use Rattle.std.proofs.lemmas.List.Sums.{fold-append}
use Rattle.std.proofs.Common.{Vec}
use Rattle.std.specs.declared.alloc.Global.{Global}
use Rattle.cstar_tree.specs.declared.typed.LocalVar.{LocalVar}
use Rattle.cstar_tree.specs.declared.typed.TStmt.{TStmt}
use Rattle.cstar_tree.specs.declared.typed.TStmt as S
use Rattle.cstar_tree.specs.declared.typed.TStmt.TheFolds.{fold-roll-TStmt}
use Rattle.cstar_tree.specs.declared.typed.TStmt.TheOpen.{TStmt-F}
use Rattle.cstar_tree.specs.declared.typed.TStmt.TheVariants.{rolls-Block}
use Rattle.cstar_tree.specs.declared.typed.Typed.{Typed}
use Rattle.cstar_tree.specs.declared.typed.VarInfo.{VarInfo}
use Rattle.cstar_tree.specs.TypedParts.{concat}
use Rattle.cstar_tree.specs.Variables.{declared_by, variables_step, variables_of}
use Rattle.lower_base.specs.Layouts.{Layout, Numbering, numbered, with_local, entered, layout_of}

pub numbered_append : (xs ys : List VarInfo) (n : Numbering) → numbered (xs ++ ys) n ≡ numbered ys (numbered xs n)
unfolding numbered
numbered_append xs ys n = fold-append with_local n xs ys

pub numbered_each : (s : TStmt) (rest : List TStmt) (n : Numbering) → numbered (concat (map variables_of (s ∷ rest))) n ≡ numbered (concat (map variables_of rest)) (numbered (variables_of s) n)
unfolding concat
numbered_each s rest n = numbered_append (variables_of s) (concat (map variables_of rest)) n

-- the statements from one on, and then those behind it
pub each_step : (xs : List TStmt) (i : ℕ) (x : TStmt) (n m r : Numbering) → i < length xs → x ≡ get_or xs i x → numbered (variables_of x) n ≡ m → numbered (concat (map variables_of (drop i xs))) n ≡ r → numbered (concat (map variables_of (drop (i + 1) xs))) m ≡ r
each_step xs i x n m r lt is h e =
    ap (λ k. numbered (concat (map variables_of (drop (i + 1) xs))) k) (sym h)
    ∙ sym (numbered_each x (drop (i + 1) xs) n)
    ∙ ap (λ y. numbered (concat (map variables_of (y ∷ drop (i + 1) xs))) n) is
    ∙ sym (at_drop_more (λ ys. numbered (concat (map variables_of ys)) n) xs i x lt)
    ∙ e

-- no statement is left
pub each_done : (xs : List TStmt) (i : ℕ) (n r : Numbering) → length xs ≤ i → numbered (concat (map variables_of (drop i xs))) n ≡ r → r ≡ n
unfolding numbered concat
each_done xs i n r le e = sym e ∙ at_drop_all (λ ys. numbered (concat (map variables_of ys)) n) xs i le

pub numbered_none : (n : Numbering) → numbered [] n ≡ n
unfolding numbered
numbered_none n = refl

-- the variables of a block, and of a statement with two parts
pub variables_block : (declared : Vec LocalVar Global) (statements : Vec TStmt Global) → variables_of (S.Block declared statements) ≡ map (λ (local : LocalVar). local.info) declared.items ++ concat (map variables_of statements.items)
unfolding variables_step declared_by
variables_block declared statements = ap variables_of (sym (rolls-Block declared statements)) ∙ fold-roll-TStmt (List VarInfo) variables_step (TStmt-F.Block declared statements)

-- whichever instance saw the numbering before, another one sees it as from the start
pub entered_of : (t : Typed) (words : List ℕ) (n m : ℕ) → entered t n (layout_of t words m) ≡ layout_of t words n
unfolding entered layout_of
entered_of t words n m = refl

pub entered_from : (t : Typed) (words : List ℕ) (n m : ℕ) (before after : Layout) → before ≡ layout_of t words m → after ≡ entered t n before → after ≡ layout_of t words n
entered_from t words n m before after h e = e ∙ ap (entered t n) h ∙ entered_of t words n m
