use Rattle.balancing.proofs.Balancing.{asked_red, left_left, left_right}
use native.Mathlib.Omega.{arith}
use Rattle.balancing.proofs.balance_black.Goals as goal

pub returns-in-Some-colored : goal.returns-in-Some-colored
returns-in-Some-colored c = left_left c.requires.color_value c.in-Some.ensures (asked_red c.in-Some-colored.ensures (grind arith)) c.rise.ensures

pub returns-in-Some-colored-2 : goal.returns-in-Some-colored-2
returns-in-Some-colored-2 c =
    left_right c.requires.color_value c.in-Some.ensures (asked_red c.in_default-colored.ensures (grind arith)) c.in-Some-colored-2.ensures
    c.rise-in-Some-colored-2.ensures
