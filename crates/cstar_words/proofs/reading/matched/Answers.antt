use Rattle.std.proofs.Common.{ap, ◌∙◌, List, ℕ, map}
use Rattle.std.specs.String.{string_bytes}
use Rattle.clap.specs.Words.{App, is_simple, matches_of}
use Rattle.cstar_words.specs.Reading.{rows_in}
use Rattle.cstar_words.proofs.Fitting.{simple, fits, misfits}
use Rattle.cstar_words.proofs.reading.matched.Goals as goal

pub returns-in-Ok-try_get_matches_from-clause-fits : goal.returns-in-Ok-try_get_matches_from-clause-fits
returns-in-Ok-try_get_matches_from-clause-fits c =
    fits _ _ c.in-Ok.ensures c.in-Ok-try_get_matches_from.ensures.kinds

pub returns-in-Ok-try_get_matches_from-clause-rows : goal.returns-in-Ok-try_get_matches_from-clause-rows
unfolding rows_in
returns-in-Ok-try_get_matches_from-clause-rows c =
    (c.in-Ok-try_get_matches_from.ensures.matches (ap is_simple c.in-Ok.ensures ∙ simple)).0
    ∙ ap (λ (app : App). matches_of app (map (λ word. string_bytes word) c.args.words.now)) c.in-Ok.ensures

pub returns-in-Err-clause-refused : goal.returns-in-Err-clause-refused
returns-in-Err-clause-refused c is =
    misfits c.in-Err.error _ _ c.in-Ok.ensures c.in-Err.ensures.kinds (λ memory. let same = c.refusal.ensures memory in cc)
