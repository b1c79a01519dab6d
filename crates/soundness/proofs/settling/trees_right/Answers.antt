use Rattle.soundness_laws.proofs.Owning.{all_right}
use Rattle.soundness.proofs.settling.trees_right.Goals as goal

pub returns-then-settle_all : goal.returns-then-settle_all
returns-then-settle_all c = all_right _ _ _ c.requires.0 _ (c.settle_all.ensures.yes c.if-settle_all.true) _ c.slots_right.ensures
