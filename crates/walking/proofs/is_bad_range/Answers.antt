use Rattle.walking.proofs.BadRanges.{from_above, from_excluded, after_above, after_excluded}
use Rattle.walking.proofs.is_bad_range.Goals as goal

pub returns-in-Included-end : goal.returns-in-Included-end
returns-in-Included-end c = search from_above

pub returns-in-Excluded-end : goal.returns-in-Excluded-end
returns-in-Excluded-end c = search from_excluded

pub returns-in-Included-end-2 : goal.returns-in-Included-end-2
returns-in-Included-end-2 c = search after_above

pub returns-in-Excluded-end-2 : goal.returns-in-Excluded-end-2
returns-in-Excluded-end-2 c = search after_excluded
