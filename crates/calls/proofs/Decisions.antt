-- An outcome is the first refusal that is given, or what the accepted call does: one of the two, and no test need be decidable.
use mathlib.Core.Path.{◌≡◌, refl}
use mathlib.Core.Logic.{inl, inr}
use mathlib.Core.Bool.{Bool, true, ◌&&◌}
use mathlib.Core.List.{List, [], ◌∷◌}
use Prim.Native.Nat.{ℕ}
use lib.Dec.{ltb}
use Rattle.calls.specs.Refusal.{Refusal, number}
use Rattle.calls.specs.Call.{Call, Answer}
use Rattle.calls.specs.Table.{tests}
use Rattle.calls.specs.Given.{Given}
use Rattle.calls.specs.Outcome.{Accepted, Decided, Outcome}

-- "They are tested in the order of the table": the numbers of the refusals that a call tests ascend.
abbrev pub ascends : ℕ → List Refusal → Bool
ascends k [] = true
ascends k (r ∷ rs) = ltb k (number r) && ascends (number r) rs

pub tests_ascend : (c : Call) → ascends 0 (tests c) ≡ true
tests_ascend (Call.format n v) = refl
tests_ascend Call.new = refl
tests_ascend (Call.hold s) = refl
tests_ascend (Call.release s) = refl
tests_ascend (Call.size s) = refl
tests_ascend Call.free_nodes = refl
tests_ascend (Call.get s k) = refl
tests_ascend (Call.first s) = refl
tests_ascend (Call.last s) = refl
tests_ascend (Call.insert s e) = refl
tests_ascend (Call.remove s k) = refl
tests_ascend (Call.compare s t) = refl
tests_ascend (Call.equal s t) = refl
tests_ascend (Call.step d w) = refl
tests_ascend (Call.rescale_mark s) = refl
tests_ascend Call.soundness_test = refl
tests_ascend (Call.difference x) = refl

-- Of the refusals rs, r is the first that is given.
pub data First (ws : List ℕ) (c : Call) (r : Refusal) : List Refusal → Type 0 where
  here : {rs : List Refusal} → Given ws r c → First ws c r (r ∷ rs)
  later : {q : Refusal} {rs : List Refusal} → (Given ws q c → ⊥) → First ws c r rs → First ws c r (q ∷ rs)

-- None of them is given.
pub data Passed (ws : List ℕ) (c : Call) : List Refusal → Type 0 where
  all : Passed ws c []
  and : {r : Refusal} {rs : List Refusal} → (Given ws r c → ⊥) → Passed ws c rs → Passed ws c (r ∷ rs)

-- What an outcome is: a refusal, which changes no word, or an accepted call.
pub data Either (c : Call) (rs : List Refusal) (ws : List ℕ) (a : Answer) (ws' : List ℕ) : Type 0 where
  refuses : {r : Refusal} → First ws c r rs → a ≡ Answer.refused r → ws' ≡ ws → Either c rs ws a ws'
  accepts : Passed ws c rs → Accepted c ws a ws' → Either c rs ws a ws'

module _ (c : Call) (ws : List ℕ) (a : Answer) (ws' : List ℕ) where
  decided_either : (rs : List Refusal) → Decided rs c ws a ws' → Either c rs ws a ws'
  decided_either [] d = Either.accepts Passed.all d
  decided_either (r ∷ rs) (inl g) = Either.refuses (First.here g.0) g.1 g.2
  decided_either (r ∷ rs) (inr g) = go (decided_either rs g.1)
    where
      go : Either c rs ws a ws' → Either c (r ∷ rs) ws a ws'
      go (Either.refuses f e w) = Either.refuses (First.later g.0 f) e w
      go (Either.accepts p h) = Either.accepts (Passed.and g.0 p) h

  first_decides : {r : Refusal} {rs : List Refusal} → First ws c r rs → a ≡ Answer.refused r → ws' ≡ ws → Decided rs c ws a ws'
  first_decides (First.here g) e w = inl (g, e, w)
  first_decides (First.later n f) e w = inr (n, first_decides f e w)

  passed_decides : {rs : List Refusal} → Passed ws c rs → Accepted c ws a ws' → Decided rs c ws a ws'
  passed_decides Passed.all h = h
  passed_decides (Passed.and n p) h = inr (n, passed_decides p h)

  pub accepted_outcome : Passed ws c (tests c) → Accepted c ws a ws' → Outcome c ws a ws'
  accepted_outcome p h = record { decided = passed_decides p h }

pub either : {c : Call} {ws : List ℕ} {a : Answer} {ws' : List ℕ} → Outcome c ws a ws' → Either c (tests c) ws a ws'
either {c} {ws} {a} {ws'} o = decided_either c ws a ws' (tests c) o.decided

-- The other way: the first refusal that is given makes the outcome, and so does `accepted_outcome` where none is given.
pub refused_outcome : {c : Call} {ws : List ℕ} {r : Refusal} → First ws c r (tests c) → Outcome c ws (Answer.refused r) ws
refused_outcome {c} {ws} {r} f = record { decided = first_decides c ws (Answer.refused r) ws f refl refl }

-- "Given exactly when": a first refusal and no refusal given exclude one another, and a first refusal is one.
pub first_or_passed : {ws : List ℕ} {c : Call} {r : Refusal} {rs : List Refusal} → First ws c r rs → Passed ws c rs → ⊥
first_or_passed (First.here g) (Passed.and n p) = n g
first_or_passed (First.later n f) (Passed.and m p) = first_or_passed f p

pub first_one : {ws : List ℕ} {c : Call} {q r : Refusal} {rs : List Refusal} → First ws c q rs → First ws c r rs → q ≡ r
first_one (First.here g) (First.here h) = refl
first_one (First.here g) (First.later n f) = absurd (n g)
first_one (First.later n f) (First.here h) = absurd (n h)
first_one (First.later n f) (First.later m h) = first_one f h

-- What a caller learns: where no refusal is given, the call was accepted.
pub passed_accepts : {c : Call} {ws : List ℕ} {a : Answer} {ws' : List ℕ} → Passed ws c (tests c) → Outcome c ws a ws' → Accepted c ws a ws'
passed_accepts {c} {ws} {a} {ws'} p o = go (either o)
  where
    go : Either c (tests c) ws a ws' → Accepted c ws a ws'
    go (Either.refuses f e w) = absurd (first_or_passed f p)
    go (Either.accepts q h) = h
