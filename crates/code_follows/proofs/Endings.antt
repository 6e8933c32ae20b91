-- A body that ends in `return` is never left at its end.
use mathlib.Core.Former.{Count}
use Rattle.std.proofs.Common.{◌≡◌, ◌∙◌, ℕ, ◌+◌, true, false, List, Vec, Global, Some, None, refl, sym, ap}
use Rattle.cstar_tree.specs.declared.typed.LocalVar.{LocalVar}
use Rattle.cstar_tree.specs.declared.typed.TStmt.{TStmt, Row_of-TStmt, end_of-TStmt, more_of-TStmt, items-the_row-TStmt, items_shown-the_row-TStmt-0, out-TStmt}
use Rattle.cstar_tree.specs.declared.typed.TStmt as S
use Rattle.lower_stmt.specs.Statements.{ends_in_return, is_return, returns_last}
use Rattle.source_meaning.specs.State as Source
use Rattle.source_meaning.specs.State.{Outcome, State, then_do}
use Rattle.source_meaning.specs.Statements.{Broke, Continued, Leaving, Onward, Returned, all_executed, declared, executed, then_go}
use Rattle.source_meaning.specs.Values.{Active, Scope, Value}
use denote.Hole.Carrier

-- a statement is not left at its end
unfoldable pub NeverOnward : Outcome Leaving → Type 0
NeverOnward (Source.Gives Onward st) = ⊥
NeverOnward _ = Unit {0}

never_first : (o : Outcome Leaving) (next : State → Outcome Leaving) → NeverOnward o → NeverOnward (then_go o next)
unfolding NeverOnward then_go
never_first (Source.Gives Onward st) next h = absurd h
never_first (Source.Gives Broke st) next h = tt
never_first (Source.Gives Continued st) next h = tt
never_first (Source.Gives (Returned v) st) next h = tt
never_first (Source.Ends early st) next h = tt

pub never_second : (o : Outcome Leaving) (next : State → Outcome Leaving) → ((st : State) → NeverOnward (next st)) → NeverOnward (then_go o next)
unfolding NeverOnward then_go
never_second (Source.Gives Onward st) next h = h st
never_second (Source.Gives Broke st) next h = tt
never_second (Source.Gives Continued st) next h = tt
never_second (Source.Gives (Returned v) st) next h = tt
never_second (Source.Ends early st) next h = tt

module _ (scope : Scope) (active : Active) where
  returned_so : (o : Outcome Value) (f : Value → Leaving) → ((v : Value) → f v ≡ Onward → ⊥) → NeverOnward (then_do o (λ v after. Source.Gives (f v) after))
  unfolding NeverOnward then_do
  returned_so (Source.Gives v st) f h = by (f v) (h v)
    where
      by : (leaving : Leaving) → (leaving ≡ Onward → ⊥) → NeverOnward (Source.Gives leaving st)
      by Onward none = absurd (none refl)
      by Broke none = tt
      by Continued none = tt
      by (Returned w) none = tt
  returned_so (Source.Ends early st) f h = tt

  return_never : (s : TStmt) → is_return s ≡ true → (n : ℕ) (st : State) → NeverOnward (executed scope s n active st)
  unfolding is_return executed NeverOnward
  return_never (S.Return None) h n st = tt
  return_never (S.Return (Some e)) h n st = returned_so _ _ (λ v is. cc)
  return_never _ h n st = cc

  -- the last of statements in a row is a `return`
  rest_never : {k : Count} (s : TStmt) (rest : Row_of-TStmt k) → returns_last (is_return s) (items-the_row-TStmt k rest) ≡ true → (n : ℕ) (st : State) → NeverOnward (then_go (executed scope s n active st) (all_executed scope rest (n + declared s) active))
  unfolding returns_last all_executed
  rest_never s end_of-TStmt h n st = never_first (executed scope s n active st) _ (return_never s h n st)
  rest_never s (more_of-TStmt next rest) h n st = never_second (executed scope s n active st) _ (λ u. rest_never next rest h (n + declared s) u)

  row_never : {k : Count} (row : Row_of-TStmt k) → returns_last false (items-the_row-TStmt k row) ≡ true → (n : ℕ) (st : State) → NeverOnward (all_executed scope row n active st)
  unfolding returns_last all_executed
  row_never end_of-TStmt h n st = cc
  row_never (more_of-TStmt s rest) h n st = rest_never s rest h n st

  -- the statements of a body that ends so
  pub body_never : (locals : Vec LocalVar Global) (p : Vec (Unit {0}) Global) (row : _) → ends_in_return (S.Block' locals p row) ≡ true → (n : ℕ) (st : State) → NeverOnward (all_executed scope row n active st)
  unfolding ends_in_return out-TStmt Carrier.out
  body_never locals p row h n st = row_never row (sym (ap (λ (xs : List TStmt). returns_last false xs) (items_shown-the_row-TStmt-0 p row)) ∙ h) n st
