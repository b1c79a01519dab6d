-- What a C function gives for the call's answer, RULES 9.18, 9.19 and 9.21: a number as its result,
-- and the values in the words lent for them.
use Rattle.std.specs.Prelude.{◌≡◌, Bool, true, false, List, ℕ, set}
use Rattle.trees.specs.Order.{Sign, less, same, more}
use Rattle.trees.specs.Difference.{tag_of}
use Rattle.calls.specs.Refusal.{number}
use Rattle.calls.specs.Call.{Answer}
use Rattle.passing.specs.Differences.{kind_word, first_value, second_value}

-- RULES 9.18: "0 when its call is accepted, and else the refusal's number".
abbrev pub status : Answer → ℕ
status (Answer.refused r) = number r
status Answer.done = 0
status (Answer.slot q) = 0
status (Answer.number n) = 0
status (Answer.value x) = 0
status (Answer.entry e) = 0
status (Answer.sign d) = 0
status (Answer.truth b) = 0
status (Answer.difference d) = 0

-- RULES 9.19: "Compare's −1 is 4,294,967,295", as two's complement has it, so that C reads the word
-- as an int32_t.
abbrev pub sign_word : Sign → ℕ
sign_word less = 4294967295
sign_word same = 0
sign_word more = 1

-- RULES 9.19: "Yes is 1 and no is 0."
abbrev pub truth_word : Bool → ℕ
truth_word true = 1
truth_word false = 0

-- RULES 9.19, 9.21: the words lent for the values, afterwards. RULES 9.18: a refusal leaves them,
-- and so does an answer that is only done.
abbrev pub written : Answer → List ℕ → List ℕ
written (Answer.refused r) out = out
written Answer.done out = out
written (Answer.slot q) out = set out 0 q
written (Answer.number n) out = set out 0 n
written (Answer.value x) out = set out 0 x
written (Answer.entry e) out = set (set out 0 e.key) 1 e.value
written (Answer.sign d) out = set out 0 (sign_word d)
written (Answer.truth b) out = set out 0 (truth_word b)
written (Answer.difference d) out = set (set (set (set out 0 (kind_word d)) 1 (tag_of d)) 2 (first_value d)) 3 (second_value d)

-- The answer a is passed on as the result r; the words lent for the values were out and are out'.
pub record PassedOn (a : Answer) (out : List ℕ) (r : ℕ) (out' : List ℕ) : Type 0 where
  pub result : r ≡ status a
  pub values : out' ≡ written a out
