use Rattle.ranges.proofs.Limits.{start_included, start_excluded}
use Rattle.ranges.proofs.from_start.Goals as goal

pub returns-in-Included : goal.returns-in-Included
returns-in-Included c = search start_included

pub returns-in-Excluded : goal.returns-in-Excluded
returns-in-Excluded c = search start_excluded
