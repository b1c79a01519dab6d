use Rattle.writing.proofs.Editing.{size-new, size_old}
use Rattle.writing.proofs.size_with.Goals as goal

pub returns-then-new : goal.returns-then-new
returns-then-new c = search size-new

pub returns-else-new : goal.returns-else-new
returns-else-new c = search size_old
