use Rattle.decimal.proofs.Writing.{written_both}
use Rattle.replies.proofs.put_last.Goals as goal

pub returns : goal.returns
returns c = written_both c.put_number-next.ensures c.put_text.ensures
