-- Bytes stored in a buffer from a place on.
use Rattle.std.specs.Prelude.{ℕ, ◌+◌, ◌≤◌, ◌≡◌, List, length}
use Rattle.std.proofs.lemmas.List.Edits.{sets}

-- The bytes end within the buffer, from a place on.
pub record HasRoom (out : List ℕ) (at : ℕ) (bytes : List ℕ) : Type 0 where
  pub room : at + length bytes ≤ length out

-- The bytes were stored from a place on, no other was, and `next` is the place after them, within the buffer.
pub record Written (out : List ℕ) (at : ℕ) (bytes out' : List ℕ) (next : ℕ) : Type 0 where
  pub stored : out' ≡ sets out at bytes
  pub after : next ≡ at + length bytes
  pub inside : next ≤ length out'
