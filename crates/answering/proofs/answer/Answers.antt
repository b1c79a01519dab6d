use Rattle.answering.proofs.Answered.{new_replied, hold_replied, set_replied, cut_replied, drop_replied, get_replied, list_replied}
use Rattle.answering.proofs.answer.Goals as goal

pub returns-in-New : goal.returns-in-New
returns-in-New c = search new_replied

pub returns-in-Hold : goal.returns-in-Hold
returns-in-Hold c = search hold_replied

pub returns-in-Set : goal.returns-in-Set
returns-in-Set c = search set_replied

pub returns-in-Cut : goal.returns-in-Cut
returns-in-Cut c = search cut_replied

pub returns-in-Drop : goal.returns-in-Drop
returns-in-Drop c = search drop_replied

pub returns-in-Get : goal.returns-in-Get
returns-in-Get c = search get_replied

pub returns-in-List : goal.returns-in-List
returns-in-List c = search list_replied
