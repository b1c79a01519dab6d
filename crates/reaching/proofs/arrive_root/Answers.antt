use Rattle.soundness_laws.proofs.Rooting.{root_free, root_arrived}
use Rattle.reaching.proofs.arrive_root.Goals as goal

pub returns-then-root : goal.returns-then-root
returns-then-root c = search root_free

pub returns : goal.returns
returns c = search root_arrived
