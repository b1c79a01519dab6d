-- What the C function of a call leaves and gives: RULES 9.18 to 9.22.
use Rattle.std.specs.Prelude.{List, ℕ}
use Rattle.calls.specs.Call.{Call, Answer}
use Rattle.calls.specs.Outcome.{Outcome}
use Rattle.passing.specs.Results.{PassedOn}

-- The C function of the call c, on the words ws: it leaves the words ws' by the same `Outcome` as the call, and passes the answer on.
-- Format and release, which give no value, are lent no words for one: out and out' are then empty.
pub record Gives (c : Call) (ws out : List ℕ) (r : ℕ) (ws' out' : List ℕ) : Type 0 where
  pub answer : Answer
  pub outcome : Outcome c ws answer ws'
  pub passed : PassedOn answer out r out'
