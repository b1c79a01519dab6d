use mathlib.Core.Path.{refl}
use Rattle.trees.specs.Tree.{paint}
use Rattle.plan.specs.Colors.{color_of}
use Rattle.planning.proofs.Remade.{remade_none, remade}
use Rattle.planning.proofs.paint.Goals as goal

pub returns-in-Some : goal.returns-in-Some
returns-in-Some c = remade (paint (color_of c.args.color)) (λ _ _ _ _. refl) c.in-Some.ensures c.push.ensures

pub returns-in-None : goal.returns-in-None
returns-in-None c = remade_none (paint (color_of c.args.color)) refl c.in-None.ensures
