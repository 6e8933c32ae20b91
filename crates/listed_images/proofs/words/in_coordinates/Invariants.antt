use Rattle.plain_listings.specs.Contents.{CoordinateHasWords}
use Rattle.listed_images.proofs.Each.{FirstHave}
use Rattle.listed_images.proofs.words.in_coordinates.Given as goal

abbrev pub invariant-loop-coordinate : goal.invariant-loop-coordinate
invariant-loop-coordinate l = FirstHave CoordinateHasWords l.coordinates l.coordinate-index
