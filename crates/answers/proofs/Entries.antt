-- The first tests of a call, as the code makes them.
use mathlib.Core.Path.{◌≡◌, refl, ap, sym, ◌∙◌, subst}
use mathlib.Core.List.{List, [], ◌∷◌}
use Prim.Native.Nat.{ℕ, ◌≤◌, ◌<◌}
use native.Mathlib.Omega.{arith}
use lib.ListN.{length}
use Rattle.words.specs.Layout.{nodes, slots, slot_root, header_words, max_height}
use Rattle.words.specs.Counting.{occ}
use Rattle.words.specs.Reads.{Held}
use Rattle.words.specs.Sound.{Sound}
use Rattle.words.proofs.Counts.{same_eq}
use Rattle.arena.specs.Nodes.{SlotInside}
use Rattle.lookup.specs.Finding.{Rooted}
use Rattle.lookup.proofs.Versions.{version_rooted}
use Rattle.calls.specs.Refusal as calls
use Rattle.calls.specs.Call as call
use Rattle.calls.specs.Table.{slots_of, tests}
use Rattle.calls.specs.Outcome.{Outcome}
use Rattle.calls.proofs.Passing.{no_version_outcome}
use Rattle.answers.specs.declared.Refusal.{Refusal}
use Rattle.answers.specs.declared.Refusal.TheVariants.{NoVersion}
use Rattle.std.specs.Prelude.{Result, Ok, Err, IsErrAnd}
use Rattle.std.proofs.lemmas.Result.{err_from_is_err_and}
use Rattle.answers.specs.Answers.{refusal_of, answer_by}
use Rattle.answers.specs.Entering.{Entering, Enters}

module _ {ws : List ℕ} (S : Sound ws) where
  pub header_inside : header_words ≤ length ws
  header_inside = omega (arith, S.trees.limits.long_is)

  pub slot_inside : {s n v : ℕ} → v ≡ slots ws → s < v → n ≡ nodes ws → SlotInside n ws s
  slot_inside d l e = omega (arith, S.trees.limits.long_is)

module _ {ws : List ℕ} {s : ℕ} where
  pub enter_beyond : {v : ℕ} → v ≡ slots ws → v ≤ s → Enters ws s (Err NoVersion)
  enter_beyond e l = record { entering = (refl, λ h. omega (arith, h.inside)) }

  pub enter_above : {v : ℕ} → v ≡ slots ws → v < s → Enters ws s (Err NoVersion)
  enter_above e l = enter_beyond e (omega arith)

  pub enter_free : {n i : ℕ} → n ≡ nodes ws → i ≡ slot_root n ws s → i ≡ 4294967295 → Enters ws s (Err NoVersion)
  enter_free {n} {i} e r f = record { entering = (refl, λ h. h.held (ap (λ (m : ℕ). slot_root m ws s) (sym e) ∙ sym r ∙ f)) }

  pub enter_held : {v n i : ℕ} → v ≡ slots ws → s < v → n ≡ nodes ws → i ≡ slot_root n ws s → (i ≡ 4294967295 → ⊥) → Enters ws s (Ok i)
  enter_held {v} {n} {i} d l e r f =
      let z : i ≡ slot_root (nodes ws) ws s = r ∙ ap (λ (m : ℕ). slot_root m ws s) e in
      record { entering = (record { inside = omega arith; held = λ h. f (z ∙ h) }, z) }

-- Testing for more than V would refuse rightly too; that it lets V through, the read of the slot shows.
pub ruleset enter_outside = (enter_beyond, enter_above)

module _ {ws : List ℕ} {s : ℕ} {x : Result ℕ Refusal} (S : Sound ws) (g : Enters ws s x) where
  pub root_of : {i : ℕ} → x ≡ Ok i → Held ws s × (i ≡ slot_root (nodes ws) ws s)
  root_of e = subst (Entering ws s) e g.entering

  pub held_inside : {i n : ℕ} → x ≡ Ok i → n ≡ nodes ws → SlotInside n ws s
  held_inside e m = omega (arith, S.trees.limits.long_is, (root_of e).0.inside)

  pub rooted : {i : ℕ} → x ≡ Ok i → Rooted ws i max_height
  rooted {i} e = let y = root_of e in rw y.1 (version_rooted ws S s y.0)

  -- Any call that begins with the two tests and names the slot.
  pub version_refused : {c : call.Call} {rs : List calls.Refusal} {r : Refusal} → tests c ≡ calls.Refusal.unsound ∷ (calls.Refusal.no_version ∷ rs) →
      1 ≤ occ s (slots_of c) → x ≡ Err r → Outcome c ws (call.Answer.refused (refusal_of r)) ws
  version_refused {c} {rs} {r} starts named e =
      let y = subst (Entering ws s) e g.entering in
      rw y.0 (no_version_outcome starts S s named y.1)

-- The same of a call that passes the refusal of the way in on.
pub version_passed : {A : Type 0} {ws : List ℕ} {s : ℕ} {c : call.Call} {rs : List calls.Refusal} {r : Refusal} (f : A → call.Answer) →
    Sound ws → tests c ≡ calls.Refusal.unsound ∷ (calls.Refusal.no_version ∷ rs) → 1 ≤ occ s (slots_of c) → Enters ws s (Err r) →
    (y : Result A Refusal) → IsErrAnd y (λ e. e ≡ r) → Outcome c ws (answer_by f y) ws
version_passed f S starts named g y p =
    let q = err_from_is_err_and y p in rw (q.1, q.2) (version_refused S g starts named refl)

-- A slot that the call names first.
pub named-first : (s : ℕ) (xs : List ℕ) → 1 ≤ occ s (s ∷ xs)
unfolding occ
named-first s xs = omega (arith, same_eq s s refl)

-- One that it names second.
pub named_second : (s t : ℕ) → 1 ≤ occ t (s ∷ (t ∷ []))
unfolding occ
named_second s t = omega (arith, same_eq t t refl)
