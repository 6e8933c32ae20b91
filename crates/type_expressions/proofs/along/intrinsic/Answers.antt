use Rattle.type_expressions.proofs.AlongRecording.{dim_refused}
use Rattle.type_expressions.proofs.Walking.{dim_ok}
use Rattle.type_expressions.proofs.along.intrinsic.Goals as goal

pub returns-in-Some-clause-typed : goal.returns-in-Some-clause-typed
returns-in-Some-clause-typed c locals =
    rw c.in-DimOf.is (dim_ok c.args.file.now locals c.args.site c.in-DimOf.place c.in-DimOf.shape c.in-DimOf.axis c.args.along c.args.source c.in-Some.shape c.dim_of.result c.in-Some.is c.dim_of.ensures)

pub returns-in-Some-clause-refused : goal.returns-in-Some-clause-refused
returns-in-Some-clause-refused c locals program here a found sourced =
    rw c.in-DimOf.is (dim_refused c.args.file.now locals c.args.site c.in-DimOf.place c.in-DimOf.shape c.in-DimOf.axis c.args.along c.in-Some.shape c.dim_of.result c.in-Some.is c.dim_of.ensures program here a (rw c.in-DimOf.is at found))
