-- RULES 5: the height H that no version of n entries exceeds, and the reserves made of it.
use Rattle.std.specs.Prelude.{ℕ, zero, suc, ◌+◌, ◌*◌, ◌^◌, ◌≤◌, ◌<◌, leb, if◌then◌else◌}

-- RULES 5.2: "floor(log2(n)) is the e for which 2^e ≤ n < 2^(e + 1)."
pub record IsLog (n e : ℕ) : Type 0 where
  pub low : 2 ^ e ≤ n
  pub high : n < 2 ^ suc e

-- The greatest exponent from 0 to e whose power of two is at most n; 0 where there is none.
unfoldable pub lg_up_to : ℕ → ℕ → ℕ
lg_up_to zero n = 0
lg_up_to (suc e) n = if leb (2 ^ suc e) n then suc e else lg_up_to e n

-- RULES 5.2 for a 32-bit number, as a number that computes; `lg_log` proves it `IsLog` for each n
-- from 1.
unfoldable pub lg : ℕ → ℕ
unfolding lg_up_to
lg n = lg_up_to 31 n

-- RULES 5.1: "H(0) = 0, and H(n) = 2 × floor(log2(n + 1)) for every other n".
unfoldable pub H : ℕ → ℕ
unfolding lg
H zero = 0
H (suc n) = 2 * lg (suc n + 1)

-- RULES 5.3: "An insert needs H(n) + 1 free nodes, be its key new or not."
abbrev pub insert_reserve : ℕ → ℕ
insert_reserve n = H n + 1

-- RULES 5.4: "A remove needs 6 × H(n) + 2 free nodes where the version has the key."
abbrev pub remove_reserve : ℕ → ℕ
remove_reserve n = 6 * H n + 2
