use Rattle.std.proofs.lemmas.Option.{slice_get-get_or}
use Rattle.cstar_tree.specs.Positions.{token_place}
use Rattle.cstar_parser.proofs.reader.Reader.place_at.Goals as goal

pub returns : goal.returns
unfolding token_place
returns c = rw (slice_get-get_or c.args.self.now.tokens.now c.args.at c.index-self-at.result c.requires)
