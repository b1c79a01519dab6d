-- What a call does, RULES 4: the refusals are tested in order, and then it is accepted.
use Rattle.std.specs.Prelude.{◌≡◌, ◌⊎◌, List, [], ◌∷◌, ℕ, length}
use Rattle.std.proofs.Math.Option.{some}
use Rattle.trees.specs.Listing.{find, first_of, last_of}
use Rattle.trees.specs.Edit.{setting}
use Rattle.trees.specs.Range.{next}
use Rattle.trees.specs.Order
use Rattle.trees.specs.Difference.{next_difference}
use Rattle.calls.specs.Refusal.{Refusal}
use Rattle.calls.specs.Call.{Call, Answer}
use Rattle.calls.specs.Table.{tests}
use Rattle.calls.specs.Given.{Given}
use Rattle.calls.specs.Reading.{Tells, TellsBoth, TellsFree, TellsSound, answer_by, value_of, marked}
use Rattle.calls.specs.Writing.{Formatted, HandsOutRoot, HandsOutAgain, Edited, Removed, GivenUp}

-- What an accepted call answers and leaves: RULES 4.1 to 4.16 and 4.41, "answers, when accepted";
-- RULES 4.32 to 4.40.
abbrev pub Accepted : Call → List ℕ → Answer → List ℕ → Type 0
Accepted (Call.format n v) ws a ws' = Formatted n v ws a ws'
Accepted Call.new ws a ws' = HandsOutRoot ws 0 0 a ws'
Accepted (Call.hold s) ws a ws' = HandsOutAgain ws s a ws'
Accepted (Call.release s) ws a ws' = GivenUp ws s a ws'
Accepted (Call.size s) ws a ws' = Tells ws s (λ xs. some (Answer.number (length xs))) a ws'
Accepted Call.free_nodes ws a ws' = TellsFree ws a ws'
Accepted (Call.get s k) ws a ws' = Tells ws s (λ xs. answer_by value_of (find k xs)) a ws'
Accepted (Call.first s) ws a ws' = Tells ws s (λ xs. answer_by Answer.entry (first_of xs)) a ws'
Accepted (Call.last s) ws a ws' = Tells ws s (λ xs. answer_by Answer.entry (last_of xs)) a ws'
Accepted (Call.insert s e) ws a ws' = Edited ws s (setting e) a ws'
Accepted (Call.remove s k) ws a ws' = Removed ws s k a ws'
Accepted (Call.compare s t) ws a ws' = TellsBoth ws s t (λ xs ys. some (Answer.sign (Order.compare xs ys))) a ws'
Accepted (Call.equal s t) ws a ws' = TellsBoth ws s t (λ xs ys. some (Answer.truth (Order.equal xs ys))) a ws'
Accepted (Call.step d w) ws a ws' = Tells ws w.slot (λ xs. answer_by Answer.entry (next d w.range xs)) a ws'
Accepted (Call.rescale_mark s) ws a ws' = Tells ws s (λ xs. some (Answer.truth (marked xs))) a ws'
Accepted Call.soundness_test ws a ws' = TellsSound ws a ws'
Accepted (Call.difference x) ws a ws' =
    TellsBoth ws x.first x.second (λ xs ys. answer_by Answer.difference (next_difference x.given xs ys)) a ws'

-- RULES 4.18: "It answers the first that is due, and is accepted where none is." RULES 4.19: "A
-- refused call leaves every lent word as it was."
abbrev pub Decided : List Refusal → Call → List ℕ → Answer → List ℕ → Type 0
Decided [] c ws a ws' = Accepted c ws a ws'
Decided (r ∷ rs) c ws a ws' =
    (Given ws r c × (a ≡ Answer.refused r) × (ws' ≡ ws)) ⊎ ((Given ws r c → ⊥) × Decided rs c ws a ws')

-- The call c on the words ws answers a and leaves the words ws'.
pub record Outcome (c : Call) (ws : List ℕ) (a : Answer) (ws' : List ℕ) : Type 0 where
  pub decided : Decided (tests c) c ws a ws'
