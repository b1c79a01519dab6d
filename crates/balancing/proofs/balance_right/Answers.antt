use Rattle.balancing.proofs.Balancing.{none_calm, red_calm, right_left, right_right, balanced_so}
use Rattle.balancing.proofs.balance_right.Goals.{in-Some+in_default-colored+in_default-colored-2, in_default}
use Rattle.balancing.proofs.balance_right.Goals as goal

pub returns-in-Some-colored : goal.returns-in-Some-colored
returns-in-Some-colored c = right_left c.requires.color_value c.requires.calm c.in-Some.ensures c.in-Some-colored.ensures c.rise.ensures

pub returns-in-Some-colored-2 : goal.returns-in-Some-colored-2
returns-in-Some-colored-2 c = right_right c.requires.color_value c.requires.calm c.in-Some.ensures c.in_default-colored.ensures c.in-Some-colored-2.ensures c.rise-in-Some-colored-2.ensures

pub returns : goal.returns
returns c =
    balanced_so
    c.requires.color_value
    c.requires.calm
    (elim c.match-colored.branch [
      | in-Some+in_default-colored+in_default-colored-2 w ↦ red_calm w.in-Some.ensures w.in_default-colored.ensures w.in_default-colored-2.ensures
      | in_default w ↦ none_calm w.in_default.ensures
    ])
    c.push.ensures
