use Rattle.writing.proofs.Editing.{insert_fits}
use Rattle.writing.proofs.insert_reserve.Goals as goal

pub overflow_add-result : goal.overflow_add-result
overflow_add-result c = search insert_fits
