use Rattle.ranges.proofs.Limits.{end_included, end_excluded}
use Rattle.ranges.proofs.to_end.Goals as goal

pub returns-in-Included : goal.returns-in-Included
returns-in-Included c = search end_included

pub returns-in-Excluded : goal.returns-in-Excluded
returns-in-Excluded c = search end_excluded
