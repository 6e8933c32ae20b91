-- What `get` finds is what the definition reads.
use Rattle.std.proofs.Common.{refl, length}
use Rattle.std.proofs.lemmas.Option.{slice_get_read, slice_get_past}
use Rattle.cstar_tree.specs.Positions.{token_kind}
use Rattle.cstar_parser.proofs.reader.Reader.kind_at.Goals as goal

pub returns-in-Some-clause-found : goal.returns-in-Some-clause-found
unfolding token_kind
returns-in-Some-clause-found c =
    let h = c.in-Some.ensures.lookup in
    rw (slice_get_read c.args.self.now.tokens.now (length c.args.self.now.tokens.now) c.args.at c.in-Some.token.now refl h.3.0 h.1)

pub returns-in-None-clause-missing : goal.returns-in-None-clause-missing
unfolding token_kind
returns-in-None-clause-missing c = rw (slice_get_past c.args.self.now.tokens.now c.args.at c.in-None.ensures.lookup.3)
