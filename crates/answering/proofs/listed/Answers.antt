use Rattle.answering.proofs.Answered.{line_replied}
use Rattle.answering.proofs.listed.Goals as goal

pub returns : goal.returns
returns c = search line_replied
