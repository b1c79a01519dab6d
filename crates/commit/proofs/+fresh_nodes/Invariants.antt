use Rattle.commit.proofs.+fresh_nodes.Given as goal

abbrev pub decreases-fresh_nodes : goal.decreases-fresh_nodes
decreases-fresh_nodes l = l.h
