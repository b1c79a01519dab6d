-- The replies, by each way in which the functions return.
use mathlib.Core.Path.{◌≡◌, ap, ◌∙◌, sym, subst}
use mathlib.Core.List.{List}
use mathlib.Core.Option.{none}
use Prim.Native.Nat.{ℕ}
use Rattle.trees.specs.Range.{front}
use Rattle.calls.specs.Call.{Walk, Call, Answer}
use Rattle.calls.specs.Outcome.{Outcome}
use Rattle.commands.specs.declared.Command.{Command}
use Rattle.replies.specs.declared.Reply.{Reply}
use Rattle.walking.specs.Walks.{walk_from}
use Rattle.answering.specs.Answering.{call_of, RepliesTo, Replies}

-- The commands.
module _ {ws ws' : List ℕ} {r : Reply} where
  replied : {a : Answer} {d d' : Call} → Outcome d ws a ws' → RepliesTo a r → d ≡ d' → Replies d' ws r ws'
  replied {a} o w e = record { answer = a; outcome = subst (λ (d : Call). Outcome d ws a ws') e o; replies = w }

  pub new_replied : {c : Command} {a : Answer} → c ≡ Command.New → Outcome Call.new ws a ws' → RepliesTo a r → Replies (call_of c) ws r ws'
  new_replied e o w = replied o w (ap call_of (sym e))

  pub hold_replied : {c : Command} {a : Answer} {s : ℕ} → c ≡ Command.Hold s → Outcome (Call.hold s) ws a ws' → RepliesTo a r → Replies (call_of c) ws r ws'
  hold_replied e o w = replied o w (ap call_of (sym e))

  pub set_replied : {c : Command} {a : Answer} {s k v : ℕ} → c ≡ Command.Set s k v → Outcome (Call.insert s (record { key = k; value = v })) ws a ws' →
      RepliesTo a r → Replies (call_of c) ws r ws'
  set_replied e o w = replied o w (ap call_of (sym e))

  pub cut_replied : {c : Command} {a : Answer} {s k : ℕ} → c ≡ Command.Cut s k → Outcome (Call.remove s k) ws a ws' → RepliesTo a r →
      Replies (call_of c) ws r ws'
  cut_replied e o w = replied o w (ap call_of (sym e))

  pub drop_replied : {c : Command} {a : Answer} {s : ℕ} → c ≡ Command.Drop s → Outcome (Call.release s) ws a ws' → RepliesTo a r → Replies (call_of c) ws r ws'
  drop_replied e o w = replied o w (ap call_of (sym e))

  pub get_replied : {c : Command} {a : Answer} {s k : ℕ} → c ≡ Command.Get s k → Outcome (Call.get s k) ws a ws' → RepliesTo a r → Replies (call_of c) ws r ws'
  get_replied e o w = replied o w (ap call_of (sym e))

  -- A line of a listing, and the first, which is the reply to the command.
  pub line_replied : {w x : Walk} {a : Answer} → w ≡ x → Outcome (Call.step front w) ws a ws' → RepliesTo a r → Replies (Call.step front x) ws r ws'
  line_replied z o q = replied o q (ap (Call.step front) z)

  pub list_replied : {c : Command} {w : Walk} {a : Answer} {s : ℕ} → c ≡ Command.List s → w ≡ walk_from s none → Outcome (Call.step front w) ws a ws' →
      RepliesTo a r → Replies (call_of c) ws r ws'
  list_replied e z o q = replied o q (ap (Call.step front) z ∙ ap call_of (sym e))
