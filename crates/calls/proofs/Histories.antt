-- Demand 3: whatever is called after a format, accepted or refused, the arena is sound, each slot is held exactly when the model has it and lists
-- what the model has, the free number is N less the different reachable nodes, and no version of n entries is taller than H(n).
use mathlib.Core.Path.{◌≡◌, ap, sym, ◌∙◌, subst}
use mathlib.Core.Logic.{⊎_elim}
use mathlib.Core.Bool.{Bool, true, false}
use mathlib.Core.List.{List}
use mathlib.Core.Option.{Option, none, some}
use Prim.Native.Nat.{ℕ, ◌+◌}
use native.Mathlib.Omega.{arith}
use lib.ListN.{length}
use Rattle.trees.specs.Tree.{Entry, Tree, listing}
use Rattle.trees.specs.Listing.{find, first_of, last_of}
use Rattle.trees.specs.Range.{next}
use Rattle.trees.specs.Difference.{Difference, next_difference}
use Rattle.words.specs.Reads.{Held}
use Rattle.words.specs.Sound.{AllReached, free_number}
use Rattle.calls.specs.Refusal.{Refusal}
use Rattle.calls.specs.Call.{Call, Answer}
use Rattle.calls.specs.Table.{tests}
use Rattle.calls.specs.Version.{VersionIs}
use Rattle.calls.specs.Given.{Given}
use Rattle.calls.specs.Reading.{Tells, TellsBoth, TellsFree, answer_by, value_of}
use Rattle.calls.specs.Writing.{Removed}
use Rattle.calls.specs.Outcome.{Accepted, Outcome}
use Rattle.calls.specs.History.{Model, no_versions, Calls, History, SlotAs, Keeps}
use Rattle.calls.proofs.Versions.{version_of}
use Rattle.calls.proofs.Decisions.{First, Either, either}
use Rattle.calls.proofs.Step.{model_has, formatted_keeps, step_keeps}

first_given : {ws : List ℕ} {c : Call} {r : Refusal} {rs : List Refusal} → First ws c r rs → Given ws r c
first_given (First.here g) = g
first_given (First.later n f) = first_given f

module _ (r : Refusal) where
  found_no : {A : Type 0} (f : A → Answer) → ((e : A) → f e ≡ Answer.refused r → ⊥) → (o : Option A) → answer_by f o ≡ some (Answer.refused r) → ⊥
  found_no f n none e = let z : ◌≡◌ {A = ℕ} 0 1 = cc in omega arith
  found_no f n (some x) e = n x (cc)

  value_no : (e : Entry) → value_of e ≡ Answer.refused r → ⊥
  value_no e h = let z : ◌≡◌ {A = ℕ} 0 1 = cc in omega arith

  entry_no : (e : Entry) → Answer.entry e ≡ Answer.refused r → ⊥
  entry_no e h = let z : ◌≡◌ {A = ℕ} 0 1 = cc in omega arith

  difference_no : (d : Difference) → Answer.difference d ≡ Answer.refused r → ⊥
  difference_no d h = let z : ◌≡◌ {A = ℕ} 0 1 = cc in omega arith

  slot_no : (q : ℕ) → Answer.refused r ≡ Answer.slot q → ⊥
  slot_no q e = let z : ◌≡◌ {A = ℕ} 0 1 = cc in omega arith

  removed_no : {ws ws' : List ℕ} {s k : ℕ} → Removed ws s k (Answer.refused r) ws' → ⊥
  removed_no (Removed.present g h) = slot_no g.hands_out.out g.hands_out.answer
  removed_no (Removed.absent x h g) = slot_no g.hands_out.out g.hands_out.answer

  truth_no : (b : Bool) → Answer.refused r ≡ Answer.truth b → ⊥
  truth_no b e = let z : ◌≡◌ {A = ℕ} 0 1 = cc in omega arith

  -- An accepted call answers no refusal.
  pub accepted_no : (c : Call) (ws ws' : List ℕ) → Accepted c ws (Answer.refused r) ws' → ⊥
  accepted_no (Call.format n v) ws ws' g = let e = g.answer in let z : ◌≡◌ {A = ℕ} 0 1 = cc in omega arith
  accepted_no Call.new ws ws' g = slot_no g.out g.answer
  accepted_no (Call.hold s) ws ws' g = slot_no g.hands_out.out g.hands_out.answer
  accepted_no (Call.release s) ws ws' g = let e = g.answer in let z : ◌≡◌ {A = ℕ} 0 1 = cc in omega arith
  accepted_no (Call.size s) ws ws' g = let e = g.answer in let z : ◌≡◌ {A = ℕ} 0 1 = cc in omega arith
  accepted_no Call.free_nodes ws ws' g = let e = g.answer in let z : ◌≡◌ {A = ℕ} 0 1 = cc in omega arith
  accepted_no (Call.get s k) ws ws' g = found_no value_of value_no (find k (listing g.tree)) g.answer
  accepted_no (Call.first s) ws ws' g = found_no Answer.entry entry_no (first_of (listing g.tree)) g.answer
  accepted_no (Call.last s) ws ws' g = found_no Answer.entry entry_no (last_of (listing g.tree)) g.answer
  accepted_no (Call.insert s e) ws ws' g = slot_no g.hands_out.out g.hands_out.answer
  accepted_no (Call.remove s k) ws ws' g = removed_no g
  accepted_no (Call.compare s t) ws ws' g = let e = g.answer in let z : ◌≡◌ {A = ℕ} 0 1 = cc in omega arith
  accepted_no (Call.equal s t) ws ws' g = let e = g.answer in let z : ◌≡◌ {A = ℕ} 0 1 = cc in omega arith
  accepted_no (Call.step d w) ws ws' g = found_no Answer.entry entry_no (next d w.range (listing g.tree)) g.answer
  accepted_no (Call.rescale_mark s) ws ws' g = let e = g.answer in let z : ◌≡◌ {A = ℕ} 0 1 = cc in omega arith
  accepted_no Call.soundness_test ws ws' g = ⊎_elim (λ x. truth_no true x.1) (λ x. truth_no false x.1) g.answer
  accepted_no (Call.difference x) ws ws' g =
      found_no Answer.difference difference_no (next_difference x.given (listing g.tree) (listing g.other)) g.answer

-- So an answer that is no refusal is that of an accepted call, and a refusal is the first one given.
pub answer_accepts : {c : Call} {ws : List ℕ} {a : Answer} {ws' : List ℕ} → Outcome c ws a ws' → ((r : Refusal) → a ≡ Answer.refused r → ⊥) →
    Accepted c ws a ws'
answer_accepts {c} {ws} {a} {ws'} o f = go (either o)
  where
    go : Either c (tests c) ws a ws' → Accepted c ws a ws'
    go (Either.refuses {r = r} g e w) = absurd (f r e)
    go (Either.accepts p h) = h

pub answer_refuses : {c : Call} {ws : List ℕ} {r : Refusal} {ws' : List ℕ} → Outcome c ws (Answer.refused r) ws' → First ws c r (tests c) × (ws' ≡ ws)
answer_refuses {c} {ws} {r} {ws'} o = go (either o)
  where
    go : Either c (tests c) ws (Answer.refused r) ws' → First ws c r (tests c) × (ws' ≡ ws)
    go (Either.refuses {r = q} f e w) = let z : q ≡ r = cc in (subst (λ (x : Refusal). First ws c x (tests c)) z f, w)
    go (Either.accepts p h) = absurd (accepted_no r c ws ws' h)

pub formats_keep : {n v : ℕ} {old ws : List ℕ} → Outcome (Call.format n v) old Answer.done ws → Keeps ws (no_versions n v)
formats_keep o = formatted_keeps (answer_accepts o λ r e. let z : ◌≡◌ {A = ℕ} 0 1 = cc in omega arith)

-- By the calls, with what they start from before where they lead.
calls_from : {ws : List ℕ} {m : Model} {ws' : List ℕ} {m' : Model} → Keeps ws m → Calls ws m ws' m' → Keeps ws' m'
calls_from K Calls.no_call = K
calls_from K (Calls.call h o) = step_keeps (calls_from K h) o

-- However a history starts.
pub calls_keep : {ws ws' : List ℕ} {m m' : Model} → Keeps ws m → Calls ws m ws' m' → Keeps ws' m'
calls_keep K h = calls_from K h

pub history : {ws : List ℕ} {m : Model} → History ws m → Keeps ws m
history h = calls_keep (formats_keep h.formats) h.calls

-- "a slot is held exactly when the history says so": where the model has a listing for it.
pub held_exactly : {ws : List ℕ} {m : Model} → Keeps ws m → (s : ℕ) →
    (Held ws s → (xs : List Entry) × (m.lists s ≡ some xs)) × ((xs : List Entry) → m.lists s ≡ some xs → Held ws s)
held_exactly {ws} K s =
    (λ h. (listing (K.sound.trees.tree s h), model_has K (version_of K.sound s h)), λ xs e. (subst (SlotAs ws s) e (K.slot_as s)).version.held)

-- "spoiling the arena in a call and answering UNSOUND from then on" is shut out: no call of a history finds the arena unsound.
pub never_unsound : {ws ws' : List ℕ} {m : Model} {c : Call} → History ws m → Outcome c ws (Answer.refused Refusal.unsound) ws' → ⊥
never_unsound {ws} {c = c} h o = no (first_given (answer_refuses o).0)
  where
    no : Given ws Refusal.unsound c → ⊥
    no (Given.unsound f) = f (history h).sound

model_listing : {ws : List ℕ} {m : Model} {s : ℕ} {t : Tree} {xs : List Entry} → Keeps ws m → VersionIs ws s t → m.lists s ≡ some xs →
    listing t ≡ xs
model_listing K x e = let k = model_has K x in cc

-- The calls that only read answer by the model: by the listing of the slot, of both slots, and N less the reachable nodes.
module _ {ws ws' : List ℕ} {m : Model} {a : Answer} (K : Keeps ws m) where
  pub tells_model : {s : ℕ} {xs : List Entry} {f : List Entry → Option Answer} → m.lists s ≡ some xs → Tells ws s f a ws' → f xs ≡ some a
  tells_model {f = f} e g = ap f (sym (model_listing K g.version e)) ∙ g.answer

  pub tells_both_model : {s t : ℕ} {xs ys : List Entry} {f : List Entry → List Entry → Option Answer} → m.lists s ≡ some xs → m.lists t ≡ some ys →
      TellsBoth ws s t f a ws' → f xs ys ≡ some a
  tells_both_model {f = f} d e g = rw (← model_listing K g.version d, ← model_listing K g.other_version e) g.answer

  pub tells_free_model : {xs : List ℕ} → AllReached ws xs → TellsFree ws a ws' → (f : ℕ) × (a ≡ Answer.number f) × (f + length xs ≡ m.n)
  tells_free_model {xs} r g = (free_number g.before, g.answer, K.free_is g.before xs r)
