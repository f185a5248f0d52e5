-- The loop of `feed` ends: each step takes at least one byte of what is left.
use lib.ListN.{length}
use Rattle.run_listing.proofs.feed.Given as goal

abbrev pub decreases-loop-rest : goal.decreases-loop-rest
decreases-loop-rest g l = length l.rest
