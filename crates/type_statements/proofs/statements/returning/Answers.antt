use Rattle.std.proofs.Common.{◌∙◌, ap, sym}
use Rattle.type_statements.specs.Answers.{value_of}
use Rattle.type_statements.proofs.TypedForms.{only_some, returns_alone}
use Rattle.type_statements.proofs.statements.returning.Goals as goal

pub returns-in-None-clause-typed : goal.returns-in-None-clause-typed
returns-in-None-clause-typed c program here e x is current h = returns_alone h (ap value_of (only_some (sym is ∙ c.in-Some.is) ∙ c.in-None.is))
