-- The answers of RULES 4.17, from the answers that the functions give. RULES 13.15: "For each case
-- a definition gives the number or value of this page, and the promises use that definition."
use Rattle.std.specs.Prelude.{ℕ, Bool, Result, Ok, Err}
use Rattle.std.specs.declared.cmp.Ordering.{Ordering}
use Rattle.std.specs.declared.cmp.Ordering.TheVariants.{Less, Equal, Greater}
use Rattle.trees.specs.Order as order
use Rattle.trees.specs.Difference as trees
use Rattle.arena.specs.declared.Entry.{Entry}
use Rattle.arena.specs.Nodes.{entry_of}
use Rattle.calls.specs.Refusal as calls
use Rattle.calls.specs.Call as call
use Rattle.answers.specs.declared.Refusal.{Refusal}
use Rattle.answers.specs.declared.Refusal.TheVariants.{BadShape, Unsound, NoVersion, BadRange, Absent, NoSlot, NoRoom, End}
use Rattle.answers.specs.declared.Difference.{Difference}
use Rattle.answers.specs.declared.Difference.TheVariants.{OnlyFirst, OnlySecond, InBoth}

-- RULES 4.22 to 4.29.
abbrev pub refusal_of : Refusal → calls.Refusal
refusal_of BadShape = calls.Refusal.bad_shape
refusal_of Unsound = calls.Refusal.unsound
refusal_of NoVersion = calls.Refusal.no_version
refusal_of BadRange = calls.Refusal.bad_range
refusal_of Absent = calls.Refusal.absent
refusal_of NoSlot = calls.Refusal.no_slot
refusal_of NoRoom = calls.Refusal.no_room
refusal_of End = calls.Refusal.ended

abbrev pub refusal_number : Refusal → ℕ
refusal_number r = calls.number (refusal_of r)

-- A call answers by what it gives, or it refuses.
abbrev pub answer_by : {A : Type 0} → (A → call.Answer) → Result A Refusal → call.Answer
answer_by f (Ok x) = f x
answer_by f (Err r) = call.Answer.refused (refusal_of r)

abbrev pub number_answer : Result ℕ Refusal → call.Answer
number_answer a = answer_by call.Answer.number a

abbrev pub value_answer : Result ℕ Refusal → call.Answer
value_answer a = answer_by call.Answer.value a

abbrev pub entry_answer : Result Entry Refusal → call.Answer
entry_answer a = answer_by (λ e. call.Answer.entry (entry_of e)) a

abbrev pub truth_answer : Result Bool Refusal → call.Answer
truth_answer a = answer_by call.Answer.truth a

-- RULES 8.1.
abbrev pub sign_of : Ordering → order.Sign
sign_of Less = order.less
sign_of Equal = order.same
sign_of Greater = order.more

abbrev pub sign_answer : Result Ordering Refusal → call.Answer
sign_answer a = answer_by (λ d. call.Answer.sign (sign_of d)) a

-- RULES 8.7.
abbrev pub difference_of : Difference → trees.Difference
difference_of (OnlyFirst e) = trees.only_first (entry_of e)
difference_of (OnlySecond f) = trees.only_second (entry_of f)
difference_of (InBoth e f) = trees.in_both (entry_of e) (entry_of f)

abbrev pub difference_answer : Result Difference Refusal → call.Answer
difference_answer a = answer_by (λ d. call.Answer.difference (difference_of d)) a
