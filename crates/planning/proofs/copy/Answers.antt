use mathlib.Core.Path.{refl}
use Rattle.trees.specs.Tree.{copy}
use Rattle.planning.proofs.Remade.{remade_none, remade}
use Rattle.planning.proofs.copy.Goals as goal

pub returns-in-Some : goal.returns-in-Some
returns-in-Some c = remade copy (λ _ _ _ _. refl) c.in-Some.ensures c.push.ensures

pub returns-in-None : goal.returns-in-None
returns-in-None c = remade_none copy refl c.in-None.ensures
