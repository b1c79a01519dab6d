-- RULES 8.9, again and again: an audit of two versions, difference by difference to END.
use Rattle.std.specs.Prelude.{List, [], ◌∷◌, ℕ}
use Rattle.std.proofs.Math.Option.{some}
use Rattle.trees.specs.Tree.{Entry}
use Rattle.trees.specs.Difference.{Difference, tag_of}
use Rattle.words.specs.Sound.{Sound}
use Rattle.calls.specs.Refusal.{Refusal}
use Rattle.calls.specs.Call.{Differences, Call, Answer}
use Rattle.calls.specs.Outcome.{Outcome}
use Rattle.calls.specs.History.{Lists}

-- RULES 8.9: "the caller then keeps its tag as the last key", after a step that gave d.
abbrev pub keeping : Differences → Difference → Differences
keeping x d = record { first = x.first; second = x.second; given = some (tag_of d) }

-- RULES 8.10: "the versions that the two slots hold when the step is made": the first lists xs, the
-- second ys.
pub record BothList (ws : List ℕ) (x : Differences) (xs ys : List Entry) : Type 0 where
  pub sound : Sound ws
  pub one : Lists ws x.first xs
  pub other : Lists ws x.second ys

-- Steps from x on gave the differences ds, in this order, and then END. What was called between two
-- steps may be anything, as long as the first slot lists xs and the second ys at each step.
pub data Audited (xs ys : List Entry) : Differences → List Difference → Type 0 where
  ended : {x : Differences} {ws ws' : List ℕ} → BothList ws x xs ys → Outcome (Call.difference x) ws (Answer.refused Refusal.ended) ws' → Audited xs ys x []
  given : {x : Differences} {ws ws' : List ℕ} {d : Difference} {ds : List Difference} → BothList ws x xs ys →
      Outcome (Call.difference x) ws (Answer.difference d) ws' → Audited xs ys (keeping x d) ds → Audited xs ys x (d ∷ ds)
