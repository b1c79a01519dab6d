-- How a line is taken apart, from its front on: what the private functions are held to. `Reads` of
-- Text.antt is what the whole is held to.
use Rattle.std.specs.Prelude.{ℕ, zero, suc, List, [], ◌∷◌, eqb, if◌then◌else◌, Option, None, Some, option_map}
use Rattle.decimal.specs.Numbers.{number}

-- A space and a number.
unfoldable pub field : List ℕ → Option (ℕ × List ℕ)
field [] = None
field (b ∷ rest) = if eqb b 32 then number rest else None

-- The number that was found, before what is found behind it.
abbrev pub with_field : (List ℕ → Option (List ℕ)) → Option (ℕ × List ℕ) → Option (List ℕ)
with_field more None = None
with_field more (Some p) = option_map (λ ns. p.0 ∷ ns) (more p.1)

-- So many fields, up to the line's end.
unfoldable pub fields : ℕ → List ℕ → Option (List ℕ)
fields zero [] = Some []
fields zero (b ∷ rest) = None
fields (suc k) line = with_field (fields k) (field line)
