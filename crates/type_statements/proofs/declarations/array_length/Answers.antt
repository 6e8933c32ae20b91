use Rattle.std.proofs.Common.{refl, w64}
use Rattle.std.proofs.lemmas.Int.{to_z-of_z}
use Rattle.type_statements.proofs.Declared.{fits_settled, length_settled}
use Rattle.type_statements.proofs.Meetings.{no_calls, one_meets}
use Rattle.type_statements.proofs.declarations.array_length.Goals as goal

pub returns-in-Some-2-clause-typed : goal.returns-in-Some-2-clause-typed
returns-in-Some-2-clause-typed c =
    let fits = fits_settled c.constant_number-number.result c.in_ok-length.field-0 c.in-Some-2.length c.constant_number-number.ensures.fits c.in_ok-length.ensures.part c.in-Some-2.is in
    rw (to_z-of_z w64 c.in-Some-2.length fits, c.in-Some.is) (length_settled _ c.args.file.now c.args.locals.now c.args.site c.in-Some.length c.place.result c.in_ok-typed.typed c.constant_number-number.result c.in-Some-2.length c.in_ok-length.field-0 c.in_ok-typed.ensures.typed c.constant_number-number.ensures.number c.in_ok-length.ensures.part c.in-Some-2.is)

pub returns-in_default-clause-calls : goal.returns-in_default-clause-calls
returns-in_default-clause-calls c = rw c.in_default.is (no_calls c.args.file.now c.args.locals.now c.args.site refl)

pub returns-in-Some-2-clause-calls : goal.returns-in-Some-2-clause-calls
returns-in-Some-2-clause-calls c = rw c.in-Some.is (one_meets c.args.file.now c.args.locals.now c.args.site c.in-Some.length c.in_ok-typed.ensures.calls)

pub returns-in-None-clause-calls : goal.returns-in-None-clause-calls
returns-in-None-clause-calls c = rw c.in-Some.is (one_meets c.args.file.now c.args.locals.now c.args.site c.in-Some.length c.in_ok-typed.ensures.calls)
