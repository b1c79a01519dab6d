use Rattle.nodes.proofs.+release.Given as goal

abbrev pub decreases-release : goal.decreases-release
decreases-release l = l.h
