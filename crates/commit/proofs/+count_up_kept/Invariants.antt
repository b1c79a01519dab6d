use Rattle.commit.proofs.+count_up_kept.Given as goal

abbrev pub decreases-count_up_kept : goal.decreases-count_up_kept
decreases-count_up_kept l = l.h
