use Rattle.std.proofs.Common.{rules}
use Rattle.abreast.proofs.alike.Goals as goal

pub returns-in-Some-Some : goal.returns-in-Some-Some
returns-in-Some-Some c = search rules
