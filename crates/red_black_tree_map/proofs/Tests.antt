-- What the test with which nearly every call begins gives the calls.
use Rattle.std.proofs.Common.{◌≡◌, ℕ, List, [], ◌∷◌, refl, ap, ◌∙◌, subst, arith, rules, Bool}
use Rattle.std.specs.Prelude.{Option, Some, None, Result, Ok, Err, IsErrAnd, IfOk, IfErr, ok_or, is_some}
use Rattle.std.proofs.Math.Option as math
use Rattle.std.proofs.lemmas.Result.{err_from_is_err_and}
use Rattle.words.specs.Sound.{Sound}
use Rattle.words.proofs.FreeNumber.{same_free}
use Rattle.soundness_laws.specs.Whole.{SoundWith}
use Rattle.calls.specs.Refusal as calls
use Rattle.calls.specs.Call.{Call, Answer}
use Rattle.calls.specs.Table.{tests}
use Rattle.calls.specs.Outcome.{Outcome}
use Rattle.calls.proofs.Passing.{unsound_outcome}
use Rattle.calls.proofs.ReadingOutcomes.{free_nodes_outcome, sound_outcome, not_sound_outcome}
use Rattle.soundness.specs.Verdict.{Verdict}
use Rattle.versions.specs.Free.{FreeIs}
use Rattle.answers.specs.declared.Refusal.{Refusal}
use Rattle.answers.specs.declared.Refusal.TheVariants.{Unsound}
use Rattle.answers.specs.Answers.{answer_by, number_answer}

abbrev pub first_test : List calls.Refusal → math.Option calls.Refusal
first_test [] = math.none
first_test (r ∷ rs) = math.some r

-- The verdict of the test, as the answer with which the calls go on.
pub tested_ok : (ws : List ℕ) (v : Option ℕ) → Verdict ws v → IfOk (ok_or v Unsound) (λ f. SoundWith ws f)
tested_ok ws (Some f) h = h
tested_ok ws None h = search rules

pub tested_err : (ws : List ℕ) (v : Option ℕ) → Verdict ws v → IfErr (ok_or v Unsound) (λ r. (r ≡ Unsound) × (Sound ws → ⊥))
tested_err ws (Some f) h = search rules
tested_err ws None h = (refl, h)

-- Whether there is a free number is whether the arena is sound.
sound_if : {ws : List ℕ} (v : Option ℕ) → Verdict ws v → Outcome Call.soundness_test ws (Answer.truth (is_some v)) ws
sound_if (Some f) h = sound_outcome h.0
sound_if None h = not_sound_outcome h

pub sound_told : {ws : List ℕ} (v : Option ℕ) → Verdict ws v → (b : Bool) → b ≡ is_some v → Outcome Call.soundness_test ws (Answer.truth b) ws
sound_told v says b e = rw e (sound_if v says)

module _ {ws : List ℕ} where
  -- Every call but format and the test itself begins with it.
  pub unsound_refused : {c : Call} → first_test (tests c) ≡ math.some calls.Refusal.unsound → (Sound ws → ⊥) → Outcome c ws (Answer.refused calls.Refusal.unsound) ws
  unsound_refused {c} h not_sound = go (tests c) refl h
    where
      go : (rs : List calls.Refusal) → tests c ≡ rs → first_test rs ≡ math.some calls.Refusal.unsound → Outcome c ws (Answer.refused calls.Refusal.unsound) ws
      go [] q z =
          absurd
          (let i : ◌≡◌ {A = ℕ} 0 1 = cc in
          omega arith)
      go (r ∷ rs) q z =
          let i : r ≡ calls.Refusal.unsound = cc in
          unsound_outcome (q ∙ ap (λ (x : calls.Refusal). x ∷ rs) i) not_sound

  -- A call that passes its refusal on.
  pub unsound_passed : {A : Type 0} {c : Call} {r : Refusal} (f : A → Answer) → first_test (tests c) ≡ math.some calls.Refusal.unsound →
      (r ≡ Unsound) × (Sound ws → ⊥) → (y : Result A Refusal) → IsErrAnd y (λ e. e ≡ r) → Outcome c ws (answer_by f y) ws
  unsound_passed f h e y p = let q = err_from_is_err_and y p in rw (q.1, q.2, e.0) (unsound_refused h e.1)

  pub tested_free : {f : ℕ} → SoundWith ws f → FreeIs ws f
  tested_free h = record { is = λ S. same_free ws S h.0 ∙ h.1 }

  -- The free number that the test found is the answer.
  pub free_told : (y : Result ℕ Refusal) → IfOk y (λ f. SoundWith ws f) → IfErr y (λ r. (r ≡ Unsound) × (Sound ws → ⊥)) → Outcome Call.free_nodes ws (number_answer y) ws
  free_told (Ok f) h g = subst (λ (n : ℕ). Outcome Call.free_nodes ws (Answer.number n) ws) h.1 (free_nodes_outcome h.0)
  free_told (Err r) h g = rw g.0 (unsound_refused refl g.1)
