use Rattle.soundness.proofs.Verdicts.{fresh_scratch}
use Rattle.soundness.proofs.test_with.Goals as goal

pub test_on-requires : goal.test_on-requires
test_on-requires g c = rw c.requires.two_a_link (fresh_scratch _ _ (c.requires.within, c.requires.few))
