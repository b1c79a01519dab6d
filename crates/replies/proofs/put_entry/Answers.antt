use Rattle.decimal.proofs.Writing.{written_both}
use Rattle.replies.proofs.put_entry.Goals as goal

pub returns : goal.returns
returns c = written_both c.put_number-space.ensures (written_both c.put_text-next.ensures c.put_last.ensures)
