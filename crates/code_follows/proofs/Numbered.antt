-- How the variables of blocks are numbered.
use Rattle.std.proofs.Common.{◌≡◌, ◌∙◌, ℕ, zero, suc, ◌+◌, List, [], ◌∷◌, ◌++◌, length, length-append, append_assoc, slice_get, take, Some, ap, arith}
use Rattle.cstar_tree.specs.declared.typed.VarInfo.{VarInfo}
use Rattle.code_lengths.proofs.Declaring.{at_length}
use Rattle.code_lengths.proofs.Drafting.{append_nothing}
use Rattle.lower_base.specs.declared.names.LocalName.{LocalName}
use Rattle.lower_base.specs.Layouts.{Numbering, entries_of, numbered, with_local}
use Rattle.code_follows.proofs.Standing.{some_same}

abbrev pub named : ℕ → VarInfo → LocalName
named home info = record { home = home; entries = entries_of info }

-- those that were numbered before stay
numbered_on : (infos : List VarInfo) (n : Numbering) → (more : List LocalName) × ((numbered infos n).locals ≡ n.locals ++ more)
unfolding numbered with_local
numbered_on [] n = ([], append_nothing n.locals)
numbered_on (info ∷ infos) n = let on = numbered_on infos (with_local n info) in (named n.homes info ∷ on.0, on.1 ∙ append_assoc n.locals (named n.homes info ∷ []) on.0)

-- each variable is numbered behind them, behind the homes of those before it, with as many entries as it has
pub numbered_at : (infos : List VarInfo) (n : Numbering) (k : ℕ) (info : VarInfo) → slice_get infos k ≡ Some info → slice_get (numbered infos n).locals (length n.locals + k) ≡ Some (named (numbered (take k infos) n).homes info)
unfolding numbered with_local
numbered_at [] n k info is = cc
numbered_at (one ∷ infos) n zero info is =
    let on = numbered_on infos (with_local n one) in
    ap (λ (names : List LocalName). slice_get names (length n.locals + 0)) (on.1 ∙ append_assoc n.locals (named n.homes one ∷ []) on.0)
    ∙ ap (λ (j : ℕ). slice_get (n.locals ++ (named n.homes one ∷ on.0)) j) (none (length n.locals)) ∙ at_length n.locals (named n.homes one) on.0
    ∙ ap (λ (i : VarInfo). Some (named n.homes i)) (some_same one info is)
  where
    none : (a : ℕ) → a + 0 ≡ a
    none a = omega arith
numbered_at (one ∷ infos) n (suc k) info is =
    ap (λ (j : ℕ). slice_get (numbered infos (with_local n one)).locals j) (next (length n.locals) (length (with_local n one).locals) (length-append n.locals (named n.homes one ∷ []))) ∙ numbered_at infos (with_local n one) k info is
  where
    next : (a b : ℕ) → b ≡ a + 1 → a + suc k ≡ b + k
    next a b h = omega (arith, h)
