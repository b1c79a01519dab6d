-- What the writing calls test first, and the answers of RULES 4.17 from theirs (RULES 13.15).
use Rattle.std.specs.Prelude.{◌≡◌, List, ℕ, ◌<◌, Option, Some, None, Result, Ok, Err}
use Rattle.words.specs.Layout.{nodes, slots, slot_root, slot_size}
use Rattle.words.specs.Reads.{Held}
use Rattle.words.specs.Sound.{Sound}
use Rattle.calls.specs.Call.{Answer}
use Rattle.calls.specs.Version.{Lowest}
use Rattle.answers.specs.declared.Refusal.{Refusal}
use Rattle.answers.specs.declared.Refusal.TheVariants.{BadShape, Unsound, NoVersion, BadRange, Absent, NoSlot, NoRoom, End}
use Rattle.answers.specs.Answers.{answer_by}
use Rattle.versions.specs.declared.Parent.{Parent}

abbrev pub slot_answer : Result ℕ Refusal → Answer
slot_answer a = answer_by Answer.slot a

abbrev pub done_answer : Result Unit Refusal → Answer
done_answer a = answer_by (λ u. Answer.done) a

-- RULES 4.27: "each of the V slots is held".
abbrev pub AllSlotsHeld : List ℕ → Type 0
AllSlotsHeld ws = (s : ℕ) → s < slots ws → Held ws s

-- RULES 4.21: the lowest slot not held; or every slot is held.
abbrev pub LowestAt : List ℕ → Option ℕ → Type 0
LowestAt ws (Some q) = Lowest ws q
LowestAt ws None = AllSlotsHeld ws

pub record LowestIs (ws : List ℕ) (r : Option ℕ) : Type 0 where
  pub is : LowestAt ws r

-- The version of slot s, and the slot to hand out.
pub record ParentOf (ws : List ℕ) (s : ℕ) (p : Parent) : Type 0 where
  pub held : Held ws s
  pub root_is : p.root ≡ slot_root (nodes ws) ws s
  pub size_is : p.size ≡ slot_size (nodes ws) ws s
  pub lowest : Lowest ws p.out

-- Of some slot, in a sound arena.
pub record Parents (ws : List ℕ) (p : Parent) : Type 0 where
  pub sound : Sound ws
  pub slot : ℕ
  pub of : ParentOf ws slot p

-- The refusals of these tests: RULES 4.24, 4.27, in this order (RULES 4.18).
abbrev pub Refuses : List ℕ → ℕ → Refusal → Type 0
Refuses ws s BadShape = ⊥
Refuses ws s Unsound = ⊥
Refuses ws s NoVersion = Held ws s → ⊥
Refuses ws s BadRange = ⊥
Refuses ws s Absent = ⊥
Refuses ws s NoSlot = Held ws s × AllSlotsHeld ws
Refuses ws s NoRoom = ⊥
Refuses ws s End = ⊥

abbrev pub Opening : List ℕ → ℕ → Result Parent Refusal → Type 0
Opening ws s (Ok p) = ParentOf ws s p
Opening ws s (Err r) = Refuses ws s r

pub record Opens (ws : List ℕ) (s : ℕ) (r : Result Parent Refusal) : Type 0 where
  pub is : Opening ws s r
