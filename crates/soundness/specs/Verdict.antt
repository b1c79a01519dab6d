-- What the test answers. RULES 4.40: "yes is its answer exactly for a sound arena, and no for any
-- other."
use Rattle.std.specs.Prelude.{Option, Some, None, List, ℕ}
use Rattle.words.specs.Sound.{Sound}
use Rattle.soundness_laws.specs.Queue.{Fresh}
use Rattle.soundness_laws.specs.Packed.{Room}
use Rattle.soundness_laws.specs.Whole.{SoundWith}

-- Sound, with the free number; or not sound.
abbrev pub Verdict : List ℕ → Option ℕ → Type 0
Verdict ws (Some f) = SoundWith ws f
Verdict ws None = Sound ws → ⊥

-- An arena within its limits, and scratch for each of its links.
pub record Scratch (ws memo ends queue : List ℕ) : Type 0 where
  pub fresh : Fresh ws memo queue
  pub room : Room ws memo ends
