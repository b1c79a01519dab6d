use Rattle.std.proofs.lemmas.List.{length-replicate}
use Rattle.commands.proofs.Finding.{taking_none, taking_more}
use Rattle.commands.proofs.fields.Goals as goal

pub loop-number-init : goal.loop-number-init
loop-number-init g c = taking_none _ _ (length-replicate g.row.N 0)

pub loop-number-preserved : goal.loop-number-preserved
loop-number-preserved g c = taking_more c.loop-number.invariant c.field.ensures c.loop-number-test.true c.in_ok-n.was
