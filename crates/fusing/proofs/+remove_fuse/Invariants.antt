use Rattle.fusing.proofs.+remove_fuse.Given as goal

abbrev pub decreases-remove_fuse : goal.decreases-remove_fuse
decreases-remove_fuse l = l.h
