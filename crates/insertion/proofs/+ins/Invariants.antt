use Rattle.insertion.proofs.+ins.Given as goal

abbrev pub decreases-ins : goal.decreases-ins
decreases-ins l = l.h
