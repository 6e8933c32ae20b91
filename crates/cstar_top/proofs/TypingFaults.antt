-- The faults of typing are faults of a text.
use Rattle.std.proofs.Common.{◌≡◌, ℕ, true, lit≤, subst, sym}
use Rattle.cstar_base.specs.declared.faults.Fault.{Fault}
use Rattle.cstar_base.specs.declared.faults.Fault.TheVariants as F
use Rattle.cstar_base.specs.declared.operators.Place.{Place}
use Rattle.cstar_base.specs.Faults.{number_of}
use Rattle.shape_types.specs.declared.TypeFault.TheVariants as T
use Rattle.shape_types.specs.TypeFaults.{IsListedFault}
use Rattle.type_scopes.specs.TypingFaults.{is_of_typing}
use Rattle.cstar_top.specs.Refusals.{IsOfText}

of_text : (fault : Fault) → is_of_typing fault ≡ true → IsOfText fault
of_text F.Redeclared is = (lit≤ tt, lit≤ tt)
of_text F.Unknown is = (lit≤ tt, lit≤ tt)
of_text F.WrongKind is = (lit≤ tt, lit≤ tt)
of_text F.Extent is = (lit≤ tt, lit≤ tt)
of_text F.NoShape is = (lit≤ tt, lit≤ tt)
of_text F.OtherShape is = (lit≤ tt, lit≤ tt)
of_text F.ScalarWanted is = (lit≤ tt, lit≤ tt)
of_text F.ParallelWanted is = (lit≤ tt, lit≤ tt)
of_text F.IndexCount is = (lit≤ tt, lit≤ tt)
of_text F.Dot is = (lit≤ tt, lit≤ tt)
of_text F.NotAPlace is = (lit≤ tt, lit≤ tt)
of_text F.SendValue is = (lit≤ tt, lit≤ tt)
of_text F.SendOperator is = (lit≤ tt, lit≤ tt)
of_text F.Arguments is = (lit≤ tt, lit≤ tt)
of_text F.Return is = (lit≤ tt, lit≤ tt)
of_text F.Axis is = (lit≤ tt, lit≤ tt)
of_text F.LoopWord is = (lit≤ tt, lit≤ tt)
of_text F.Recursion is = (lit≤ tt, lit≤ tt)
of_text F.NoMain is = (lit≤ tt, lit≤ tt)
of_text F.Format is = (lit≤ tt, lit≤ tt)
of_text F.Constant is = (lit≤ tt, lit≤ tt)
of_text F.Space is = (lit≤ tt, lit≤ tt)
of_text F.Size is = (lit≤ tt, lit≤ tt)
of_text F.ArrayDecl is = (lit≤ tt, lit≤ tt)
of_text F.ArrayUse is = (lit≤ tt, lit≤ tt)
of_text _ is = cc

-- the fault that has the number of one that typing answers
pub listed_is_of_text : (number : ℕ) (place : Place) (numbered : Fault) → IsListedFault (T.Fault number place) → ((fault : Fault) → number_of fault ≡ number → numbered ≡ fault) → IsOfText numbered
listed_is_of_text number place numbered listed only = subst IsOfText (sym (only listed.0 listed.2)) (of_text listed.0 listed.1)
