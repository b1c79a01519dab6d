-- One law for each way in which the step returns.
use mathlib.Core.Path.{◌≡◌, sym, subst}
use mathlib.Core.List.{List}
use Prim.Native.Nat.{ℕ}
use Rattle.words.specs.Layout.{nodes}
use Rattle.words.specs.Sound.{Sound}
use Rattle.ranges.specs.Ranges.{last_of}
use Rattle.calls.specs.Call as call
use Rattle.calls.specs.Outcome.{Outcome}
use Rattle.calls.proofs.ReadingOutcomes.{difference_outcome}
use Rattle.answers.specs.declared.Refusal.{Refusal}
use Rattle.answers.specs.declared.Difference.{Difference}
use Rattle.std.specs.Prelude.{Result, Ok}
use Rattle.answers.specs.Answers.{difference_answer}
use Rattle.answers.specs.Entering.{Enters}
use Rattle.answers.proofs.Entries.{root_of}
use Rattle.answers.proofs.Finding.{slot_tree, slot_version, root_reads}
use Rattle.differing.specs.declared.Differences.{Differences}
use Rattle.differing.specs.Positions.{differences_of}
use Rattle.differing.specs.Nexts.{Ordered, Differs}
use Rattle.differing.proofs.Versions.{version_ordered}

pub entered_ordered : {ws : List ℕ} {x : Result ℕ Refusal} (S : Sound ws) {s i : ℕ} → Enters ws s x → x ≡ Ok i → Ordered ws i
entered_ordered {ws} S {s} g e = let y = root_of S g e in rw y.1 (version_ordered ws S s y.0)

pub difference_told : {ws : List ℕ} {x y : Result ℕ Refusal} {i j : ℕ} {r : Result Difference Refusal} (d : Differences) (S : Sound ws) →
    Enters ws d.first x → x ≡ Ok i → Enters ws d.second y → y ≡ Ok j → Differs ws i j (last_of d.given) r →
    Outcome (call.Call.difference (differences_of d)) ws (difference_answer r) ws
difference_told {ws} {r = r} d S g e h f D =
    subst
    (λ (a : call.Answer). Outcome (call.Call.difference (differences_of d)) ws a ws)
    (sym (D.says (nodes ws) (slot_tree S g e) (slot_tree S h f) (root_reads S g e) (root_reads S h f)))
    (difference_outcome S (slot_version S g e) (slot_version S h f))
