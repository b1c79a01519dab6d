use Rattle.differing.proofs.Nexts.{descends_root, differs}
use Rattle.differing.proofs.next_difference.Goals as goal

pub fill-requires-clause-descends : goal.fill-requires-clause-descends
fill-requires-clause-descends c = search descends_root

pub fill-requires-2-clause-descends : goal.fill-requires-2-clause-descends
fill-requires-2-clause-descends c = search descends_root

pub returns : goal.returns
returns c = search differs
