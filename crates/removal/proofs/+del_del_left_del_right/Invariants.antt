use Prim.Native.Nat.{◌+◌}
use Rattle.removal.proofs.+del_del_left_del_right.Given as goal

abbrev pub decreases-del : goal.decreases-del
decreases-del l = l.h + l.h

abbrev pub decreases-del_left : goal.decreases-del_left
decreases-del_left l = l.h + l.h + 1

abbrev pub decreases-del_right : goal.decreases-del_right
decreases-del_right l = l.h + l.h + 1
