use Rattle.commands.proofs.Finding.{Taking}
use Rattle.commands.proofs.fields.Given as goal

abbrev pub invariant-loop-number : goal.invariant-loop-number
invariant-loop-number g l = Taking g.row.N l.line l.number-items l.number-index l.at
