use Rattle.front_end.proofs.numerals.+in_base.Given as goal

abbrev pub decreases-in_base : goal.decreases-in_base
decreases-in_base l = l.places
