use Rattle.cstar_compile.proofs.image_of.Goals as goal

pub returns : goal.returns
returns c = record {
  before = c.in_ok-program.program;
  after = c.in_ok-placed.placed;
  lowered = c.in_ok-program.ensures.lowered;
  placed = c.in_ok-placed.ensures;
  linked = c.in_ok-link.ensures;
}
