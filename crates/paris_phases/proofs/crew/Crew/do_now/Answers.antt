use Rattle.paris_phases.proofs.crew.Crew.do_now.Goals as goal

pub returns-in-Elementwise : goal.returns-in-Elementwise
returns-in-Elementwise g c = record {
  whole = c.run.ensures.whole;
  room = c.run.ensures.room;
  shapes = c.run.ensures.shapes;
  fits = c.run.ensures.fits;
  meaning = c.run.ensures.meaning c.args.winner;
}

pub returns-in-Fetching : goal.returns-in-Fetching
returns-in-Fetching g c = record {
  whole = c.run-in-Fetching.ensures.whole;
  room = c.run-in-Fetching.ensures.room;
  shapes = c.run-in-Fetching.ensures.shapes;
  fits = c.run-in-Fetching.ensures.fits;
  meaning = c.run-in-Fetching.ensures.meaning c.args.winner;
}

pub returns-in-Folding : goal.returns-in-Folding
returns-in-Folding g c = record {
  whole = c.run-in-Folding.ensures.whole;
  room = c.run-in-Folding.ensures.room;
  shapes = c.run-in-Folding.ensures.shapes;
  fits = c.run-in-Folding.ensures.fits;
  meaning = c.run-in-Folding.ensures.meaning c.args.winner;
}

pub returns-in-Sending : goal.returns-in-Sending
returns-in-Sending g c = record {
  whole = c.run-in-Sending.ensures.whole;
  room = c.run-in-Sending.ensures.room;
  shapes = c.run-in-Sending.ensures.shapes;
  fits = c.run-in-Sending.ensures.fits;
  meaning = c.run-in-Sending.ensures.meaning c.args.args.now;
}
