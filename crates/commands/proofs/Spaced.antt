-- Numbers after spaces, read from a line, are those whose text it is, both ways.
use Prim.Native.Nat.{ℕ, zero, suc, ◌≤◌}
use mathlib.Core.Path.{◌≡◌, refl, ap, ◌∙◌}
use mathlib.Core.Bool.{Bool, true, false}
use mathlib.Core.List.{List, [], ◌∷◌, ◌++◌}
use lib.Dec.{eqb}
use lib.ListN.{length}
use borrow.Author.Tests.{eqb-true}
use Rattle.std.specs.Prelude.{Option, None, Some, if◌then◌else◌}
use Rattle.decimal.specs.Decimal.{largest, digits}
use Rattle.decimal.specs.Numbers.{number}
use Rattle.decimal.proofs.Numbers.{Stops, Is, number-text, from_stops, number_is}
use Rattle.commands.specs.Parts.{field, with_field, fields}
use Rattle.commands.specs.Text.{spaced, Within}

pub field-text : (n : ℕ) (more : List ℕ) → n ≤ largest → Stops more → field (32 ∷ digits n ++ more) ≡ Some (n, more)
unfolding field
field-text n more s h = number-text n s more ∙ from_stops n more h

pub spaced_stops : (ns : List ℕ) → Stops (spaced ns)
unfolding spaced
spaced_stops [] = tt
spaced_stops (n ∷ ns) = refl

abbrev pub IsField : List ℕ → Option (ℕ × List ℕ) → Type 0
IsField line None = Unit {0}
IsField line (Some p) = (line ≡ 32 ∷ digits p.0 ++ p.1) × (p.0 ≤ largest)

after_space : (rest : List ℕ) (o : Option (ℕ × List ℕ)) → Is rest o → IsField (32 ∷ rest) o
after_space rest None h = tt
after_space rest (Some p) h = (ap (λ (l : List ℕ). 32 ∷ l) h.0, h.1)

pub field_is : (line : List ℕ) → IsField line (field line)
unfolding field
field_is [] = tt
field_is (b ∷ rest) = go (eqb b 32) refl
  where
    go : (d : Bool) → eqb b 32 ≡ d → IsField (b ∷ rest) (if d then number rest else None)
    go false e = tt
    go true e = rw (eqb-true b 32 e) (after_space rest (number rest) (number_is rest))

-- So many of them, up to the line's end.

pub fields-text : (ns : List ℕ) → Within ns → fields (length ns) (spaced ns) ≡ Some ns
unfolding fields spaced
fields-text [] w = refl
fields-text (n ∷ ns) w = rw (field-text n (spaced ns) w.0 (spaced_stops ns), fields-text ns w.1)

abbrev pub IsFields : ℕ → List ℕ → Option (List ℕ) → Type 0
IsFields k line None = Unit {0}
IsFields k line (Some ns) = (line ≡ spaced ns) × Within ns × (length ns ≡ k)

one_more : (k : ℕ) (line : List ℕ) (p : ℕ × List ℕ) (o : Option (List ℕ)) → IsField line (Some p) → IsFields k p.1 o →
    IsFields (suc k) line (with_field (λ _. o) (Some p))
unfolding spaced
one_more k line p None h i = tt
one_more k line p (Some ns) h i = (h.0 ∙ ap (λ (l : List ℕ). 32 ∷ digits p.0 ++ l) i.0, (h.1, i.1), ap suc i.2)

pub fields_is : (k : ℕ) (line : List ℕ) → IsFields k line (fields k line)
unfolding fields spaced
fields_is zero [] = (refl, tt, refl)
fields_is zero (b ∷ rest) = tt
fields_is (suc k) line = go (field line) (field_is line) (fields_is k)
  where
    go : (o : Option (ℕ × List ℕ)) → IsField line o → ((rest : List ℕ) → IsFields k rest (fields k rest)) → IsFields (suc k) line (with_field (fields k) o)
    go None h f = tt
    go (Some p) h f = one_more k line p (fields k p.1) h (f p.1)
