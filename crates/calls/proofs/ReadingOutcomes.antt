-- For the functions that read: what they know makes the call's outcome. One lemma a call, for its answer and for its own refusal.
use mathlib.Core.Path.{◌≡◌, refl, ap, sym, ◌∙◌}
use mathlib.Core.Logic.{inl, inr}
use mathlib.Core.Bool.{Bool, true, false}
use mathlib.Core.List.{List}
use mathlib.Core.Option.{Option, none, some}
use Prim.Native.Nat.{ℕ}
use Rattle.trees.specs.Tree.{Entry, Tree, listing}
use Rattle.trees.specs.Listing.{find, first_of, last_of}
use Rattle.trees.specs.Range.{End, next, is_bad_range}
use Rattle.trees.specs.Order
use Rattle.trees.specs.Difference.{next_difference}
use Rattle.trees.specs.Lookup.{get, first, last, step}
use Rattle.trees.proofs.Lookups.{size-listing, get_find, first_end, last_end}
use Rattle.trees.proofs.Ranges.{step-next}
use Rattle.words.specs.Layout.{nodes, slot_size}
use Rattle.words.specs.Sound.{Sound, free_number}
use Rattle.calls.specs.Refusal.{Refusal}
use Rattle.calls.specs.Call.{Walk, Differences, Call, Answer}
use Rattle.calls.specs.Table.{tests}
use Rattle.calls.specs.Version.{VersionIs}
use Rattle.calls.specs.Given.{Given}
use Rattle.calls.specs.Reading.{Tells, TellsBoth, answer_by, or_refused, value_of, marked}
use Rattle.calls.specs.Outcome.{Accepted, Outcome}
use Rattle.calls.proofs.Versions.{version_fine, version_size}
use Rattle.calls.proofs.Decisions.{First, refused_outcome, accepted_outcome}
use Rattle.calls.proofs.Passing.{one_held, two_held, not_bad_range, past_version}
use Rattle.calls.proofs.NoneGiven.{NoneGiven, free_nodes_passed, soundness_test_passed, size_passed, rescale_mark_passed, get_passed, first_passed, last_passed, step_passed, compare_passed, equal_passed, difference_passed}

-- A call that looks for something, and refuses with r where there is nothing.
found_or_refused : {A : Type 0} {ws : List ℕ} (c : Call) (r : Refusal) (f : A → Answer) (o : Option A) → (o ≡ none → First ws c r (tests c)) →
    ((e : A) → o ≡ some e → NoneGiven ws c) → ((e : A) → o ≡ some e → Accepted c ws (f e) ws) → Outcome c ws (or_refused r f o) ws
found_or_refused c r f none missing passed accepts = refused_outcome (missing refl)
found_or_refused {ws = ws} c r f (some e) missing passed accepts = accepted_outcome c ws (f e) ws (passed e refl) (accepts e refl)

pub free_nodes_outcome : {ws : List ℕ} (S : Sound ws) → Outcome Call.free_nodes ws (Answer.number (free_number S)) ws
free_nodes_outcome {ws} S =
    accepted_outcome
    Call.free_nodes
    ws
    (Answer.number (free_number S))
    ws
    (free_nodes_passed S)
    (record { before = S; answer = refl; unchanged = refl })

-- "The soundness test answers yes exactly when the arena is sound, otherwise no, and writes nothing."
pub sound_outcome : {ws : List ℕ} → Sound ws → Outcome Call.soundness_test ws (Answer.truth true) ws
sound_outcome {ws} S =
    accepted_outcome Call.soundness_test ws (Answer.truth true) ws soundness_test_passed (record { answer = inl (S, refl); unchanged = refl })

pub not_sound_outcome : {ws : List ℕ} → (Sound ws → ⊥) → Outcome Call.soundness_test ws (Answer.truth false) ws
not_sound_outcome {ws} f =
    accepted_outcome Call.soundness_test ws (Answer.truth false) ws soundness_test_passed (record { answer = inr (f, refl); unchanged = refl })

module _ {ws : List ℕ} {s : ℕ} {t : Tree} (S : Sound ws) (x : VersionIs ws s t) where
  tells : {f : List Entry → Option Answer} {a : Answer} → f (listing t) ≡ some a → Tells ws s f a ws
  tells e = record { before = S; tree = t; version = x; answer = e; unchanged = refl }

  -- By its stored size.
  pub size_outcome : Outcome (Call.size s) ws (Answer.number (slot_size (nodes ws) ws s)) ws
  size_outcome =
      accepted_outcome
      (Call.size s)
      ws
      (Answer.number (slot_size (nodes ws) ws s))
      ws
      (size_passed S x.held)
      (tells (ap (λ (n : ℕ). some (Answer.number n)) (sym (size-listing t) ∙ sym (version_size S x))))

  -- "yes exactly when the version holds (0028,1053)"
  pub rescale_mark_outcome : (b : Bool) → marked (listing t) ≡ b → Outcome (Call.rescale_mark s) ws (Answer.truth b) ws
  rescale_mark_outcome b e =
      accepted_outcome
      (Call.rescale_mark s)
      ws
      (Answer.truth b)
      ws
      (rescale_mark_passed S x.held)
      (tells (ap (λ (y : Bool). some (Answer.truth y)) e))

  -- A call that looks for an entry in the version.
  looked : (c : Call) (r : Refusal) (f : Entry → Answer) (look : List Entry → Option Entry) → (look (listing t) ≡ none → First ws c r (tests c)) →
      ((e : Entry) → look (listing t) ≡ some e → NoneGiven ws c) →
      ((a : Answer) → Tells ws s (λ xs. answer_by f (look xs)) a ws → Accepted c ws a ws) → (o : Option Entry) → look (listing t) ≡ o →
      Outcome c ws (or_refused r f o) ws
  looked c r f look missing passed accepts o e =
      found_or_refused
      c
      r
      f
      o
      (λ n. missing (e ∙ n))
      (λ y s. passed y (e ∙ s))
      (λ y s. accepts (f y) (tells (ap (answer_by f) (e ∙ s))))

  -- By the descents of `get`, `first`, `last`.
  pub get_outcome : (k : ℕ) → Outcome (Call.get s k) ws (or_refused Refusal.absent value_of (get k t)) ws
  get_outcome k =
      looked
      (Call.get s k)
      Refusal.absent
      value_of
      (find k)
      (λ n. past_version refl S (one_held x.held) (First.here (Given.no_key x n)))
      (λ e f. get_passed S x k f)
      (λ a g. g)
      (get k t)
      (sym (get_find k t (version_fine S x).ordered))

  pub first_outcome : Outcome (Call.first s) ws (or_refused Refusal.absent Answer.entry (first t)) ws
  first_outcome =
      looked
      (Call.first s)
      Refusal.absent
      Answer.entry
      first_of
      (λ n. past_version refl S (one_held x.held) (First.here (Given.no_first x n)))
      (first_passed S x)
      (λ a g. g)
      (first t)
      (sym (first_end t))

  pub last_outcome : Outcome (Call.last s) ws (or_refused Refusal.absent Answer.entry (last t)) ws
  last_outcome =
      looked
      (Call.last s)
      Refusal.absent
      Answer.entry
      last_of
      (λ n. past_version refl S (one_held x.held) (First.here (Given.no_last x n)))
      (last_passed S x)
      (λ a g. g)
      (last t)
      (sym (last_end t))

module _ {ws : List ℕ} {w : Walk} {t : Tree} (S : Sound ws) (x : VersionIs ws w.slot t) (d : End) where
  pub bad_range_outcome : is_bad_range w.range.start w.range.end ≡ true → Outcome (Call.step d w) ws (Answer.refused Refusal.bad_range) ws
  bad_range_outcome h = refused_outcome (past_version refl S (one_held x.held) (First.here (Given.bad_range h)))

  stepped_to : is_bad_range w.range.start w.range.end ≡ false → (o : Option Entry) → next d w.range (listing t) ≡ o →
      Outcome (Call.step d w) ws (or_refused Refusal.ended Answer.entry o) ws
  stepped_to h =
      looked
      S
      x
      (Call.step d w)
      Refusal.ended
      Answer.entry
      (next d w.range)
      (λ n. past_version refl S (one_held x.held) (First.later (not_bad_range h) (First.here (Given.ended x n))))
      (step_passed S x d h)
      (λ a g. g)

  -- By the listing, and by the descents.
  pub next_outcome : is_bad_range w.range.start w.range.end ≡ false →
      Outcome (Call.step d w) ws (or_refused Refusal.ended Answer.entry (next d w.range (listing t))) ws
  next_outcome h = stepped_to h (next d w.range (listing t)) refl

  pub step_outcome : is_bad_range w.range.start w.range.end ≡ false →
      Outcome (Call.step d w) ws (or_refused Refusal.ended Answer.entry (step d w.range t)) ws
  step_outcome h = stepped_to h (step d w.range t) (sym (step-next d w.range t (version_fine S x).ordered))

module _ {ws : List ℕ} {s q : ℕ} {t u : Tree} (S : Sound ws) (x : VersionIs ws s t) (y : VersionIs ws q u) where
  tells_both : {f : List Entry → List Entry → Option Answer} {a : Answer} → f (listing t) (listing u) ≡ some a → TellsBoth ws s q f a ws
  tells_both e = record { before = S; tree = t; other = u; version = x; other_version = y; answer = e; unchanged = refl }

  pub compare_outcome : Outcome (Call.compare s q) ws (Answer.sign (Order.compare (listing t) (listing u))) ws
  compare_outcome =
      accepted_outcome
      (Call.compare s q)
      ws
      (Answer.sign (Order.compare (listing t) (listing u)))
      ws
      (compare_passed S x.held y.held)
      (tells_both refl)

  pub equal_outcome : Outcome (Call.equal s q) ws (Answer.truth (Order.equal (listing t) (listing u))) ws
  equal_outcome =
      accepted_outcome
      (Call.equal s q)
      ws
      (Answer.truth (Order.equal (listing t) (listing u)))
      ws
      (equal_passed S x.held y.held)
      (tells_both refl)

pub difference_outcome : {ws : List ℕ} {x : Differences} {t u : Tree} → Sound ws → VersionIs ws x.first t → VersionIs ws x.second u →
    Outcome (Call.difference x) ws (or_refused Refusal.ended Answer.difference (next_difference x.given (listing t) (listing u))) ws
difference_outcome {x = x} {t = t} {u = u} S v w =
    found_or_refused
    (Call.difference x)
    Refusal.ended
    Answer.difference
    (next_difference x.given (listing t) (listing u))
    (λ n. past_version refl S (two_held v.held w.held) (First.here (Given.no_difference v w n)))
    (λ d e. difference_passed S v w e)
    (λ d e. tells_both S v w (ap (answer_by Answer.difference) e))
