-- The lines of a listing. Where one is an entry the arena is sound, so that the next needs no test;
-- and the next entry's key is above its own, and none above the largest, so that the listing ends.
use mathlib.Core.Path.{◌≡◌, refl, ap, ◌∙◌, sym, subst}
use mathlib.Core.Bool.{Bool, true, false, and-true}
use mathlib.Core.List.{List, [], ◌∷◌}
use mathlib.Core.Option.{Option, none, some}
use Prim.Native.Nat.{ℕ, ◌-◌, ◌≤◌, ◌<◌}
use native.Mathlib.Omega.{arith}
use lib.Dec.{ltb, eqb}
use borrow.Author.Tests.{ltb-true}
use Rattle.std.specs.Prelude.{if◌then◌else◌}
use Rattle.trees.specs.Tree.{Entry, listing}
use Rattle.trees.specs.Listing.{first_of}
use Rattle.trees.specs.Range.{front, keep, next}
use Rattle.words.specs.Sound.{Sound}
use Rattle.calls.specs.Refusal.{Refusal, number}
use Rattle.calls.specs.Call.{Walk, Call, Answer}
use Rattle.calls.specs.Reading.{Tells, answer_by}
use Rattle.calls.specs.Outcome.{Outcome}
use Rattle.calls.proofs.Histories.{answer_accepts}
use Rattle.decimal.specs.Decimal.{largest}
use Rattle.replies.specs.declared.Reply.{Reply}
use Rattle.walking.specs.Walks.{walk_from}
use Rattle.answering.specs.Answering.{refusal_reply, reply_of, Small, Replies}

-- The first entry that a test keeps passes it.
first_kept : (p : Entry → Bool) (xs : List Entry) (e : Entry) → first_of (keep p xs) ≡ some e → p e ≡ true
first_kept p [] e h = cc
first_kept p (x ∷ xs) e h = go (p x) refl h (first_kept p xs e)
  where
    go : (b : Bool) → p x ≡ b → first_of (if b then x ∷ keep p xs else keep p xs) ≡ some e → (first_of (keep p xs) ≡ some e → p e ≡ true) → p e ≡ true
    go true t h f = let i : x ≡ e = cc in ap p (sym i) ∙ t
    go false t h f = f h

found : (o : Option Entry) (e : Entry) → answer_by Answer.entry o ≡ some (Answer.entry e) → o ≡ some e
found none e h = cc
found (some x) e h = let i : x ≡ e = cc in ap some i

refused_no : (r : Refusal) (k v : ℕ) → Reply.Entry k v ≡ refusal_reply r → ⊥
refused_no r k v h = go (eqb (number r) 8) h
  where
    go : (b : Bool) → Reply.Entry k v ≡ (if b then Reply.End else Reply.Refused (number r)) → ⊥
    go true h = cc
    go false h = cc

-- Only an entry is written as one.
entry-written : (k v : ℕ) (a : Answer) → Reply.Entry k v ≡ reply_of a → (e : Entry) × (a ≡ Answer.entry e) × (k ≡ e.key)
entry-written k v (Answer.refused r) h = absurd (refused_no r k v h)
entry-written k v Answer.done h = cc
entry-written k v (Answer.slot q) h = cc
entry-written k v (Answer.number n) h = cc
entry-written k v (Answer.value x) h = cc
entry-written k v (Answer.entry e) h = (e, refl, cc)
entry-written k v (Answer.sign d) h = cc
entry-written k v (Answer.truth b) h = cc
entry-written k v (Answer.difference d) h = cc

-- So a line that is an entry is what an accepted step told.
told : {w : Walk} {ws ws' : List ℕ} {r : Reply} {k v : ℕ} → Replies (Call.step front w) ws r ws' → r ≡ Reply.Entry k v →
    (e : Entry) × (k ≡ e.key) × Tells ws w.slot (λ xs. answer_by Answer.entry (next front w.range xs)) (Answer.entry e) ws'
told {w} {ws} {ws'} {r} {k} {v} q h =
    let x = entry-written k v q.answer (sym h ∙ q.replies.reply) in
    (x.0, x.2, answer_accepts (subst (λ (a : Answer). Outcome (Call.step front w) ws a ws') x.1 q.outcome) (λ r z. cc))

pub entry_sound : {w : Walk} {ws ws' : List ℕ} {r : Reply} {k v : ℕ} → Replies (Call.step front w) ws r ws' → r ≡ Reply.Entry k v → Sound ws
entry_sound q h = (told q h).2.before

above : {s m k v : ℕ} {ws ws' : List ℕ} {r : Reply} → Replies (Call.step front (walk_from s (some m))) ws r ws' → r ≡ Reply.Entry k v → m < k
above {s} {m} q h =
    let x = told q h in
    let e = x.0 in
    let i = x.1 in
    let n = found (next front (walk_from s (some m)).range (listing x.2.tree)) e x.2.answer in
    let b : m < e.key = ltb-true m e.key (sym (and-true (ltb m e.key)) ∙ first_kept _ (listing x.2.tree) e n) in
    omega arith

-- What is left of the keys when a line has been given.
abbrev pub keys_left : Reply → ℕ
keys_left (Reply.Entry k v) = 4294967296 - k
keys_left _ = 0

pub keys_fall : {s m v : ℕ} {ws ws' : List ℕ} {q r : Reply} → Small q → q ≡ Reply.Entry m v →
    Replies (Call.step front (walk_from s (some m))) ws r ws' → keys_left r < keys_left q
keys_fall {s} {m} {v} {ws} {ws'} {q} {r} l e w =
    let n : m ≤ largest = subst Small e l in
    rw e (go r (λ k x h. above w h) w.replies.small n)
  where
    go : (r : Reply) → ((k x : ℕ) → r ≡ Reply.Entry k x → m < k) → Small r → m ≤ largest → keys_left r < 4294967296 - m
    go (Reply.Number n) f t h = omega arith
    go Reply.Done f t h = omega arith
    go (Reply.Refused n) f t h = omega arith
    go (Reply.Entry k x) f t h = omega (arith, f k x refl)
    go Reply.End f t h = omega arith
    go Reply.Unknown f t h = omega arith

-- What holds when a line has been given: it is that of a step after the last key before it, if any.
pub record Giving (ws : List ℕ) (slot : ℕ) (r : Reply) : Type 0 where
  pub last : Option ℕ
  pub line : Replies (Call.step front (walk_from slot last)) ws r ws
