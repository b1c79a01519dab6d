-- What an answer can depend on, and that it depends on nothing else: arenas that agree on it answer every call alike.
use mathlib.Core.Path.{◌≡◌, ap, sym, ◌∙◌, subst}
use mathlib.Core.Logic.{◌⊎◌, inl, inr}
use mathlib.Core.Bool.{true, false}
use mathlib.Core.List.{List}
use mathlib.Core.Option.{Option}
use Prim.Native.Nat.{ℕ, ◌<◌}
use native.Mathlib.Omega.{arith}
use native.Mathlib.Decide.{dec_lt}
use lib.ListN.{length}
use Rattle.trees.specs.Tree.{Entry, Tree, listing, size}
use Rattle.trees.specs.Listing.{find, first_of, last_of}
use Rattle.trees.specs.Range.{next}
use Rattle.trees.proofs.Lookups.{size-listing}
use Rattle.words.specs.Layout.{slots}
use Rattle.words.specs.Reads.{Held}
use Rattle.words.specs.Sound.{Limits, Sound, free_number}
use Rattle.calls.specs.Refusal.{Refusal}
use Rattle.calls.specs.Call.{Call, Answer}
use Rattle.calls.specs.Table.{tests}
use Rattle.calls.specs.Version.{VersionIs, Lowest}
use Rattle.calls.specs.Given.{Given}
use Rattle.calls.specs.Reading.{Tells, TellsBoth, TellsSound}
use Rattle.calls.specs.Writing.{Removed}
use Rattle.calls.specs.Outcome.{Accepted, Outcome}
use Rattle.calls.proofs.Versions.{version_one}
use Rattle.calls.proofs.Decisions.{First, Either, either, first_or_passed, first_one}

-- All that an answer can depend on, one way.
pub record Sees (ws ws' : List ℕ) : Type 0 where
  pub long : length ws' ≡ length ws
  pub slots_is : slots ws' ≡ slots ws
  pub sound : Sound ws → Sound ws'
  pub held : (s : ℕ) → Held ws s → Held ws' s
  pub version : (s : ℕ) (t : Tree) → VersionIs ws s t → (t' : Tree) × VersionIs ws' s t' × (listing t' ≡ listing t)
  pub free : (S : Sound ws) (S' : Sound ws') → free_number S' ≡ free_number S

removed_slot : {s k : ℕ} {a : Answer} {v w : List ℕ} → Removed v s k a w → (q : ℕ) × Lowest v q × (a ≡ Answer.slot q)
removed_slot (Removed.present g f) = (g.hands_out.out, g.hands_out.lowest, g.hands_out.answer)
removed_slot (Removed.absent x f g) = (g.hands_out.out, g.hands_out.lowest, g.hands_out.answer)

module _ {ws ws' : List ℕ} (B : Sees ws ws') (B' : Sees ws' ws) where
  same_size : (t t' : Tree) → listing t' ≡ listing t → size t' ≡ size t
  same_size t t' e = size-listing t' ∙ ap length e ∙ sym (size-listing t)

  given_there : {r : Refusal} {c : Call} → Given ws r c → Given ws' r c
  given_there (Given.bad_shape {n = n} {v = v} f) = Given.bad_shape (λ h. f (subst (Limits n v) B.long h))
  given_there (Given.unsound f) = Given.unsound (λ S. f (B'.sound S))
  given_there (Given.no_version s o f) = Given.no_version s o (λ h. f (B'.held s h))
  given_there (Given.bad_range e) = Given.bad_range e
  given_there (Given.no_key {s = s} {k = k} {t = t} x e) = let y = B.version s t x in Given.no_key y.1 (ap (find k) y.2 ∙ e)
  given_there (Given.no_first {s = s} {t = t} x e) = let y = B.version s t x in Given.no_first y.1 (ap first_of y.2 ∙ e)
  given_there (Given.no_last {s = s} {t = t} x e) = let y = B.version s t x in Given.no_last y.1 (ap last_of y.2 ∙ e)
  given_there (Given.no_slot f) = Given.no_slot (λ s p. B.held s (f s (omega (arith, B.slots_is))))
  given_there (Given.insert_room {s = s} {t = t} S x h) =
      let y = B.version s t x in
      let S' = B.sound S in
      Given.insert_room S' y.1 (rw (B.free S S', same_size t y.0 y.2) h)
  given_there (Given.remove_room {s = s} {k = k} {t = t} S x f h) =
      let y = B.version s t x in
      let S' = B.sound S in
      Given.remove_room S' y.1 (ap (find k) y.2 ∙ f) (rw (B.free S S', same_size t y.0 y.2) h)
  given_there (Given.ended {d = d} {w = w} {t = t} x e) =
      let y = B.version w.slot t x in Given.ended y.1 (ap (next d w.range) y.2 ∙ e)
  given_there (Given.no_difference {x = x} {t = t} {u = u} v v' e) =
      let y = B.version x.first t v in
      let y' = B.version x.second u v' in
      Given.no_difference {x = x} y.1 y'.1 (rw (y.2, y'.2) e)

  lowest_same : {p q : ℕ} → Lowest ws p → Lowest ws' q → p ≡ q
  lowest_same {p} {q} l m = go (dec_lt p q) (dec_lt q p)
    where
      go : Dec (p < q) → Dec (q < p) → p ≡ q
      go (yes x) y = absurd (l.unheld (B'.held p (m.lower_held p x)))
      go (no x) (yes y) = absurd (m.unheld (B.held q (l.lower_held q y)))
      go (no x) (no y) = omega arith

  listings : {s : ℕ} {t t' : Tree} → VersionIs ws s t → VersionIs ws' s t' → listing t ≡ listing t'
  listings {s} {t} x x' = let y = B.version s t x in sym y.2 ∙ ap listing (version_one y.1 x')

  slots_same : {a b : Answer} {p q : ℕ} → Lowest ws p → Lowest ws' q → a ≡ Answer.slot p → b ≡ Answer.slot q → a ≡ b
  slots_same l m e f = e ∙ ap Answer.slot (lowest_same l m) ∙ sym f

  module _ {a b : Answer} {w w' : List ℕ} where
    tells_same : {s : ℕ} {f : List Entry → Option Answer} → Tells ws s f a w → Tells ws' s f b w' → a ≡ b
    tells_same {f = f} g h =
        let e = ap f (listings g.version h.version) in
        let x = g.answer in
        let y = h.answer in
        cc

    both_same : {s t : ℕ} {f : List Entry → List Entry → Option Answer} → TellsBoth ws s t f a w → TellsBoth ws' s t f b w' → a ≡ b
    both_same {f = f} g h =
        let d = listings g.version h.version in
        let e = listings g.other_version h.other_version in
        let z : f (listing g.tree) (listing g.other) ≡ f (listing h.tree) (listing h.other) = rw (d, e) in
        let x = g.answer in
        let y = h.answer in
        cc

    sound_same : TellsSound ws a w → TellsSound ws' b w' → a ≡ b
    sound_same g h = go g.answer h.answer
      where
        go : (Sound ws × (a ≡ Answer.truth true)) ⊎ ((Sound ws → ⊥) × (a ≡ Answer.truth false)) →
            (Sound ws' × (b ≡ Answer.truth true)) ⊎ ((Sound ws' → ⊥) × (b ≡ Answer.truth false)) → a ≡ b
        go (inl x) (inl y) = x.1 ∙ sym y.1
        go (inl x) (inr y) = absurd (y.0 (B.sound x.0))
        go (inr x) (inl y) = absurd (x.0 (B'.sound y.0))
        go (inr x) (inr y) = x.1 ∙ sym y.1

  accepted_same : (c : Call) (a b : Answer) (w w' : List ℕ) → Accepted c ws a w → Accepted c ws' b w' → a ≡ b
  accepted_same (Call.format n v) a b w w' g h = g.answer ∙ sym h.answer
  accepted_same Call.new a b w w' g h = slots_same g.lowest h.lowest g.answer h.answer
  accepted_same (Call.hold s) a b w w' g h = slots_same g.hands_out.lowest h.hands_out.lowest g.hands_out.answer h.hands_out.answer
  accepted_same (Call.release s) a b w w' g h = g.answer ∙ sym h.answer
  accepted_same (Call.size s) a b w w' g h = tells_same g h
  accepted_same Call.free_nodes a b w w' g h = g.answer ∙ ap Answer.number (sym (B.free g.before h.before)) ∙ sym h.answer
  accepted_same (Call.get s k) a b w w' g h = tells_same g h
  accepted_same (Call.first s) a b w w' g h = tells_same g h
  accepted_same (Call.last s) a b w w' g h = tells_same g h
  accepted_same (Call.insert s e) a b w w' g h =
      slots_same g.hands_out.lowest h.hands_out.lowest g.hands_out.answer h.hands_out.answer
  accepted_same (Call.remove s k) a b w w' g h =
      let x = removed_slot g in
      let y = removed_slot h in
      slots_same x.1 y.1 x.2 y.2
  accepted_same (Call.compare s t) a b w w' g h = both_same g h
  accepted_same (Call.equal s t) a b w w' g h = both_same g h
  accepted_same (Call.step d x) a b w w' g h = tells_same g h
  accepted_same (Call.rescale_mark s) a b w w' g h = tells_same g h
  accepted_same Call.soundness_test a b w w' g h = sound_same g h
  accepted_same (Call.difference x) a b w w' g h = both_same g h

first_there : {ws ws' : List ℕ} {c : Call} {r : Refusal} {rs : List Refusal} → Sees ws ws' → Sees ws' ws → First ws c r rs → First ws' c r rs
first_there B B' (First.here g) = First.here (given_there B B' g)
first_there B B' (First.later n f) = First.later (λ g. n (given_there B' B g)) (first_there B B' f)

pub seen_same : {ws ws' : List ℕ} {c : Call} {a b : Answer} {w w' : List ℕ} → Sees ws ws' → Sees ws' ws → Outcome c ws a w → Outcome c ws' b w' → a ≡ b
seen_same {ws} {ws'} {c} {a} {b} {w} {w'} B B' o p = go (either o) (either p)
  where
    go : Either c (tests c) ws a w → Either c (tests c) ws' b w' → a ≡ b
    go (Either.refuses f e x) (Either.refuses g e' x') = e ∙ ap Answer.refused (first_one (first_there B B' f) g) ∙ sym e'
    go (Either.refuses f e x) (Either.accepts q h) = absurd (first_or_passed (first_there B B' f) q)
    go (Either.accepts q h) (Either.refuses f e x) = absurd (first_or_passed (first_there B' B f) q)
    go (Either.accepts q h) (Either.accepts q' h') = accepted_same B B' c a b w w' h h'
