-- What the program makes of a command, RULES 9.6 to 9.13: the call, and the reply to what the call
-- answers.
use Rattle.std.specs.Prelude.{◌≡◌, List, ℕ, ◌≤◌, eqb, if◌then◌else◌}
use Rattle.std.proofs.Math.Option.{none}
use Rattle.trees.specs.Range.{front}
use Rattle.calls.specs.Refusal.{Refusal, number}
use Rattle.calls.specs.Call.{Call, Answer}
use Rattle.calls.specs.Outcome.{Outcome}
use Rattle.walking.specs.Walks.{walk_from}
use Rattle.decimal.specs.Decimal.{largest}
use Rattle.commands.specs.declared.Command.{Command}
use Rattle.replies.specs.declared.Reply.{Reply}

-- RULES 9.6 to 9.12, the column "call". A listing is a walk; this is its first step.
abbrev pub call_of : Command → Call
call_of Command.New = Call.new
call_of (Command.Hold s) = Call.hold s
call_of (Command.Set s k v) = Call.insert s (record { key = k; value = v })
call_of (Command.Cut s k) = Call.remove s k
call_of (Command.Drop s) = Call.release s
call_of (Command.Get s k) = Call.get s k
call_of (Command.List s) = Call.step front (walk_from s none)

-- RULES 9.13: "The END of a listing is its `end`"; any other refusal is written by its number.
abbrev pub refusal_reply : Refusal → Reply
refusal_reply r = if eqb (number r) 8 then Reply.End else Reply.Refused (number r)

-- RULES 9.6 to 9.12, the last column. No command makes a call that answers a sign, a truth or a
-- difference.
abbrev pub reply_of : Answer → Reply
reply_of (Answer.refused r) = refusal_reply r
reply_of Answer.done = Reply.Done
reply_of (Answer.slot s) = Reply.Number s
reply_of (Answer.number n) = Reply.Number n
reply_of (Answer.value v) = Reply.Number v
reply_of (Answer.entry e) = Reply.Entry e.key e.value
reply_of (Answer.sign d) = Reply.Unknown
reply_of (Answer.truth b) = Reply.Unknown
reply_of (Answer.difference d) = Reply.Unknown

abbrev pub Small : Reply → Type 0
Small (Reply.Number n) = Unit {0}
Small Reply.Done = Unit {0}
Small (Reply.Refused n) = Unit {0}
Small (Reply.Entry k v) = k ≤ largest
Small Reply.End = Unit {0}
Small Reply.Unknown = Unit {0}

-- The reply to an answer. That an entry's key is small serves the end of the loop over a listing.
pub record RepliesTo (a : Answer) (r : Reply) : Type 0 where
  pub reply : r ≡ reply_of a
  pub small : Small r

-- The call was made on the words, and this is the reply to its answer.
pub record Replies (c : Call) (ws : List ℕ) (r : Reply) (ws' : List ℕ) : Type 0 where
  pub answer : Answer
  pub outcome : Outcome c ws answer ws'
  pub replies : RepliesTo answer r
