use Rattle.writing.proofs.Editing.{remove_fits, remove_fits_more}
use Rattle.writing.proofs.remove_reserve.Goals as goal

pub overflow_mul-result : goal.overflow_mul-result
overflow_mul-result c = search remove_fits

pub overflow_add-result : goal.overflow_add-result
overflow_add-result c = search remove_fits_more
