-- One law for each way in which compare and equal return.
use mathlib.Core.Path.{◌≡◌, refl, ap, sym, ◌∙◌, subst}
use mathlib.Core.Bool.{Bool}
use mathlib.Core.List.{List}
use Prim.Native.Nat.{ℕ}
use Rattle.trees.specs.Tree.{listing}
use Rattle.trees.specs.Order as order
use Rattle.words.specs.Sound.{Sound}
use Rattle.calls.specs.Call as call
use Rattle.calls.specs.Outcome.{Outcome}
use Rattle.calls.proofs.ReadingOutcomes.{compare_outcome, equal_outcome}
use Rattle.answers.specs.declared.Refusal.{Refusal}
use Rattle.std.specs.Prelude.{Result, Ok}
use Rattle.std.specs.declared.cmp.Ordering.{Ordering}
use Rattle.std.specs.declared.cmp.Ordering.TheVariants.{Less, Equal, Greater}
use Rattle.std.specs.Ordering.{is_eq}
use Rattle.answers.specs.Answers.{sign_of}
use Rattle.answers.specs.Entering.{Enters}
use Rattle.answers.proofs.Finding.{slot_tree, slot_version, root_reads}
use Rattle.comparing.specs.Ranks.{Compares}

same_eq : (d : Ordering) → order.is_same (sign_of d) ≡ is_eq d
same_eq Less = refl
same_eq Equal = refl
same_eq Greater = refl

module _ {ws : List ℕ} {s q : ℕ} {x y : Result ℕ Refusal} {i j : ℕ} {d : Ordering} (S : Sound ws) (g : Enters ws s x) (e : x ≡ Ok i)
    (h : Enters ws q y) (f : y ≡ Ok j) (C : Compares ws i j d) where
  compared : order.compare (listing (slot_tree S g e)) (listing (slot_tree S h f)) ≡ sign_of d
  compared = C.says (slot_tree S g e) (slot_tree S h f) (root_reads S g e) (root_reads S h f)

  pub compare_told : Outcome (call.Call.compare s q) ws (call.Answer.sign (sign_of d)) ws
  compare_told =
      subst (λ (z : order.Sign). Outcome (call.Call.compare s q) ws (call.Answer.sign z) ws) compared (compare_outcome S (slot_version S g e) (slot_version S h f))

  pub equal_told : (b : Bool) → b ≡ is_eq d → Outcome (call.Call.equal s q) ws (call.Answer.truth b) ws
  equal_told b z =
      subst
      (λ (c : Bool). Outcome (call.Call.equal s q) ws (call.Answer.truth c) ws)
      (ap order.is_same compared ∙ same_eq d ∙ sym z)
      (equal_outcome S (slot_version S g e) (slot_version S h f))
