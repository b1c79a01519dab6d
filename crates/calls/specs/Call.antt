-- RULES 4.1 to 4.17 and 4.41: the calls, and what they answer.
use Rattle.std.specs.Prelude.{Bool, ℕ}
use Rattle.std.proofs.Math.Option.{Option}
use Rattle.trees.specs.Tree.{Entry}
use Rattle.trees.specs.Range.{End, Range}
use Rattle.trees.specs.Order.{Sign}
use Rattle.trees.specs.Difference.{Difference}
use Rattle.calls.specs.Refusal.{Refusal}

-- RULES 7.1: "A walk is kept by the caller, by value: a slot; a start and an end ..".
pub record Walk : Type 0 where
  pub slot : ℕ
  pub range : Range

-- RULES 8.9: "What the caller keeps, by value, is the two slots and the last key given, if any."
pub record Differences : Type 0 where
  pub first : ℕ
  pub second : ℕ
  pub given : Option ℕ

-- RULES 4.1 to 4.16 and 4.41, a case for each row with what it "is given": s and t are slots, k is
-- a key; format takes N and V.
pub data Call : Type 0 where
  format : (n v : ℕ) → Call
  new : Call
  hold release size : (s : ℕ) → Call
  free_nodes : Call
  get : (s k : ℕ) → Call
  first last : (s : ℕ) → Call
  insert : (s : ℕ) → Entry → Call
  remove : (s k : ℕ) → Call
  compare equal : (s t : ℕ) → Call
  step : End → Walk → Call
  rescale_mark : (s : ℕ) → Call
  soundness_test : Call
  difference : Differences → Call

-- RULES 4.17: "A call answers what its row says, or it is refused and answers the number of the
-- refusal. Format and release, where accepted, say no more than that they are done."
pub data Answer : Type 0 where
  refused : Refusal → Answer
  done : Answer
  slot number value : ℕ → Answer
  entry : Entry → Answer
  sign : Sign → Answer
  truth : Bool → Answer
  difference : Difference → Answer
