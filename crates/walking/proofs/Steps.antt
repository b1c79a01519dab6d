-- One law for each way in which a walk's step returns, at either end.
use Rattle.std.proofs.Common.{◌≡◌, ℕ, List, Bool, true, false, sym, ◌∙◌, refl}
use Rattle.std.specs.Prelude.{Option, Result, Ok, ok_or}
use Rattle.trees.specs.Range.{is_bad_range}
use Rattle.trees.specs.Range as range
use Rattle.trees.specs.Lookup as lookup
use Rattle.words.specs.Sound.{Sound}
use Rattle.arena.specs.declared.Entry.{Entry}
use Rattle.lookup.specs.Finding.{Finds}
use Rattle.ranges.specs.Ranges.{bound_of, range_of}
use Rattle.calls.specs.Refusal as calls
use Rattle.calls.specs.Call as call
use Rattle.calls.specs.Outcome.{Outcome}
use Rattle.calls.proofs.Versions.{version_of}
use Rattle.calls.proofs.ReadingOutcomes.{bad_range_outcome, step_outcome}
use Rattle.answers.specs.declared.Refusal.{Refusal}
use Rattle.answers.specs.declared.Refusal.TheVariants.{End}
use Rattle.answers.specs.Answers.{entry_answer}
use Rattle.answers.specs.Entering.{Enters}
use Rattle.answers.proofs.Finding.{slot_held, by_found, entry_or}
use Rattle.walking.specs.declared.Walk.{Walk}
use Rattle.walking.specs.Walks.{walk_of}

module _ {ws : List ℕ} {x : Result ℕ Refusal} {i : ℕ} (w : Walk) (S : Sound ws) (g : Enters ws w.slot x) (e : x ≡ Ok i) (d : range.End) {b : Bool}
    (t : b ≡ is_bad_range (bound_of w.range.start) (bound_of w.range.end)) where
  pub step_bad : b ≡ true → Outcome (call.Call.step d (walk_of w)) ws (call.Answer.refused calls.Refusal.bad_range) ws
  step_bad y = bad_range_outcome S (version_of S w.slot (slot_held S g e)) d (sym t ∙ y)

  pub step_told : {f : Option Entry} {y : Result Entry Refusal} → b ≡ false → Finds ws i f (lookup.step d (range_of w.range)) → y ≡ ok_or f End →
      Outcome (call.Call.step d (walk_of w)) ws (entry_answer y) ws
  step_told {f} n m q =
      rw (q, entry_or End call.Answer.entry f)
      (by_found S g e calls.Refusal.ended call.Answer.entry m (step_outcome S (version_of S w.slot (slot_held S g e)) d (sym t ∙ n)) refl)
