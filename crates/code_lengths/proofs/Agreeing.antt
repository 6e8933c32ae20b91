-- Lengths, as the laws say them.
use Rattle.std.proofs.Common.{ℕ, ◌+◌, true, false, [], length, length-append, refl, ap, ◌∙◌}
use mathlib.Core.Former.{Count}
use Rattle.cstar_tree.specs.declared.typed.Instance.{Instance}
use Rattle.cstar_tree.specs.declared.typed.TExpr.{Row_of-TExpr, end_of-TExpr, more_of-TExpr}
use Rattle.cstar_tree.specs.declared.typed.Typed.{Typed}
use Rattle.lower_base.specs.declared.emit.Out.TheVariants as O
use Rattle.lower_base.specs.Drafts.{here}
use Rattle.lower_base.specs.Layouts.{Layout}
use Rattle.lower_expr.specs.Effects.{bits_for}
use Rattle.code_lengths.specs.Agreement.{CodeEndsWhereItsLengthSays, ExpressionLengths, ExpressionsAreAsLongAsDescribed}
use Rattle.code_lengths.specs.Lowerable.{AreLowerable}
use Rattle.code_lengths.specs.Naming.{AllNameVariables}
use Rattle.code_lengths.specs.Ready.{HaveCode}
use Rattle.code_lengths.specs.Shaped.{AreShaped}
use Rattle.code_lengths.proofs.Drafting.{weaker}
use Rattle.code_lengths.proofs.Basis.{once_ready}
use Rattle.code_lengths.proofs.ExpressionLengths.{all_codes, value_grows, values_grow, spot_grows}
use Rattle.code_lengths.proofs.EffectLengths.{next_comes, put_grows, effect_grows, tested_grows}

-- what is true of each expression of a row
row_code : (t : Typed) (i : Instance) (n : ℕ) {k : Count} (row : Row_of-TExpr k) → HaveCode t i n row → AreShaped row × AreLowerable t row × AllNameVariables t i n row
unfolding HaveCode AreShaped AreLowerable AllNameVariables
row_code t i n end_of-TExpr c = (tt, tt, tt)
row_code t i n (more_of-TExpr e rest) c = let r = row_code t i n rest c.1 in ((c.0.shaped, r.0), (c.0.lowerable, r.1), (c.0.names, r.2))

-- where the unit is ready, or lacks fields and this is so
pub lengths_or : (lacks : Type 0) (t : Typed) (i : Instance) (l : Layout) → ExpressionLengths lacks t i l
unfolding bits_for
lengths_or lacks t i l = record {
  value = λ bits n e d c r. once_ready (value_grows _ t i l n bits e c.shaped c.lowerable c.names d) r;
  operand = λ bits n quiet e d c r. once_ready (next_comes _ t i l n bits quiet e c d) r;
  list = λ own quiet n k row d c r. let h = row_code t i n row c in once_ready (all_codes t l own quiet row (λ b. values_grow _ t i l n own quiet row h.0 h.1 h.2 [] b) d) r;
  spot = λ n e d p r. weaker _ _ _ d _ _ (λ s _. tt) (once_ready (spot_grows _ t i l n e p.target p.lowerable p.names d) r);
  effect = λ n e d c r. once_ready (effect_grows _ t i l n e d c.shaped c.lowerable c.names) r;
  test = λ n e d c f r. once_ready (tested_grows _ t i l n e c f d) r;
  put_register = λ q n e d c f r. once_ready (put_grows _ true t i l n (O.Scalar q) e d refl c f.1 f.0) r;
  put_field = λ f n e d c g s r. once_ready (put_grows _ false t i l n (O.Field f) e d refl c s g) r;
}

pub expressions : ExpressionsAreAsLongAsDescribed
expressions t i l = lengths_or ⊥ t i l

-- so the code has these lengths wherever it is made
pub lengths_if_made : (t : Typed) (i : Instance) (l : Layout) → ExpressionLengths (Unit {0}) t i l
lengths_if_made t i l = lengths_or (Unit {0}) t i l

pub places : CodeEndsWhereItsLengthSays
unfolding here
places before after n x = ap length x.code ∙ length-append before.code x.more ∙ ap (λ (k : ℕ). length before.code + k) x.long
