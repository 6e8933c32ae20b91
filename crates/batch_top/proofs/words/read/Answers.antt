use Rattle.std.proofs.Common.{◌≡◌, ◌∙◌, ◌∷◌, Some, None, ap, map, sym}
use Rattle.std.specs.String.{string_bytes}
use Rattle.batch_top.specs.Words.{callers_in}
use Rattle.batch_top.proofs.Naming.{batch, no_callers, no_names, no_words, none_of, none_then, some_then}
use Rattle.batch_top.proofs.words.read.Goals as goal

pub returns-in_default-clause-none : goal.returns-in_default-clause-none
returns-in_default-clause-none c = no_words (map string_bytes c.args.words.now) (none_of string_bytes c.args.words.now c.in_default.ensures.cases)

pub returns-in-None-clause-none : goal.returns-in-None-clause-none
returns-in-None-clause-none c =
    no_callers (map string_bytes c.args.words.now) (string_bytes c.in-Some.callers.now) (map string_bytes c.in-Some.names.now) (ap (map string_bytes) c.in-Some.ensures.cases.0)
    (ap callers_in (sym c.as_bytes.ensures.value) ∙ sym c.callers_in.ensures.own ∙ c.in-None.is)

pub returns-in-Some-callers_in-clause-none : goal.returns-in-Some-callers_in-clause-none
returns-in-Some-callers_in-clause-none c =
    none_then c.with_names.result
    (no_names (map string_bytes c.args.words.now) (string_bytes c.in-Some.callers.now) (map string_bytes c.in-Some.names.now) (ap (map string_bytes) c.in-Some.ensures.cases.0))
    c.with_names.ensures.none

pub returns-in-Some-callers_in-clause-batch : goal.returns-in-Some-callers_in-clause-batch
returns-in-Some-callers_in-clause-batch c =
    let counted : callers_in (string_bytes c.in-Some.callers.now) ≡ Some c.in-Some-callers_in.callers =
    ap callers_in (sym c.as_bytes.ensures.value) ∙ sym c.callers_in.ensures.own ∙ c.in-Some-callers_in.is in
    some_then c.with_names.result
    (batch (map string_bytes c.args.words.now) (string_bytes c.in-Some.callers.now) (map string_bytes c.in-Some.names.now) c.in-Some-callers_in.callers (ap (map string_bytes) c.in-Some.ensures.cases.0) counted)
    c.with_names.ensures.names
