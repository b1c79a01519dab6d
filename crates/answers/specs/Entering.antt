-- The first two tests of nearly every call (RULES 4.23, 4.24), on a sound arena: the root of the
-- named slot, or NO_VERSION.
use Rattle.std.specs.Prelude.{◌≡◌, List, ℕ, Result, Ok, Err}
use Rattle.words.specs.Layout.{nodes, slot_root}
use Rattle.words.specs.Reads.{Held}
use Rattle.answers.specs.declared.Refusal.{Refusal}
use Rattle.answers.specs.declared.Refusal.TheVariants.{NoVersion}

abbrev pub Entering : List ℕ → ℕ → Result ℕ Refusal → Type 0
Entering ws s (Ok i) = Held ws s × (i ≡ slot_root (nodes ws) ws s)
Entering ws s (Err r) = (r ≡ NoVersion) × (Held ws s → ⊥)

pub record Enters (ws : List ℕ) (s : ℕ) (x : Result ℕ Refusal) : Type 0 where
  pub entering : Entering ws s x
