-- Fields found at a place of a line, by each way in which the functions return.
use Prim.Native.Nat.{ℕ, suc, ◌+◌, ◌-◌, ◌≤◌, ◌<◌}
use mathlib.Core.Path.{◌≡◌, refl, ap, ◌∙◌, sym}
use mathlib.Core.List.{List, [], ◌∷◌, ◌++◌, append_assoc}
use native.Mathlib.Omega.{arith}
use native.Mathlib.Numerals.{add-one}
use native.Mathlib.Nat.{sub-zero}
use lib.ListN.{length, get_or, take, drop, set, length-set, drop_of_length-le}
use lib.Seq.{drop-cons}
use borrow.Author.Tests.{eq-eqb, ne_eqb}
use Rattle.std.specs.Prelude.{Option, None, Some, option_map}
use Rattle.std.proofs.lemmas.Grind.{take-set_at}
use Rattle.std.proofs.lemmas.List.{append-nil, take_all}
use Rattle.decimal.specs.Numbers.{number, found_in, Finds}
use Rattle.commands.specs.Parts.{field, with_field, fields}

-- The space before a number.
module _ (line : List ℕ) (at : ℕ) where
  pub field_end : length line ≤ at → Finds line None (field (drop at line))
  unfolding field
  field_end h = record { found = rw (drop_of_length-le line h) }

  pub field_no_space : {b : ℕ} → at < length line → b ≡ get_or line at 0 → (b ≡ 32 → ⊥) → Finds line None (field (drop at line))
  unfolding field
  field_no_space {b} h e d = record { found = rw (drop-cons line at 0 h, ← e, ne_eqb b 32 d) }

  pub field_on : {b : ℕ} {f : Option (ℕ × ℕ)} → at < length line → b ≡ get_or line at 0 → b ≡ 32 → Finds line f (number (drop (at + 1) line)) →
      Finds line f (field (drop at line))
  unfolding field
  field_on {b} h e s w = record { found = w.found ∙ rw (add-one, drop-cons line at 0 h, ← e, eq-eqb b 32 s) }

-- So many fields, up to the line's end.

pub in_front : List ℕ → Option (List ℕ) → Option (List ℕ)
in_front xs o = option_map (λ ns. xs ++ ns) o

in_front_none : (o : Option (List ℕ)) → o ≡ in_front [] o
unfolding in_front
in_front_none None = refl
in_front_none (Some ns) = refl

in_front_more : (xs : List ℕ) (n : ℕ) (o : Option (List ℕ)) → in_front xs (option_map (λ ns. n ∷ ns) o) ≡ in_front (xs ++ n ∷ []) o
unfolding in_front
in_front_more xs n None = refl
in_front_more xs n (Some ns) = ap (λ (l : List ℕ). Some l) (sym (append_assoc xs (n ∷ []) ns))

-- The first k numbers are read, so that what is left decides.
pub record Taking (size : ℕ) (line numbers : List ℕ) (k at : ℕ) : Type 0 where
  pub room : length numbers ≡ size
  pub left : fields size line ≡ in_front (take k numbers) (fields (size - k) (drop at line))

pub taking_none : {size : ℕ} (line numbers : List ℕ) → length numbers ≡ size → Taking size line numbers 0 0
taking_none {size} line numbers e = record { room = e; left = rw sub-zero (in_front_none (fields size line)) }

module _ {size k at : ℕ} {line numbers : List ℕ} {f : Option (ℕ × ℕ)} (t : Taking size line numbers k at) (w : Finds line f (field (drop at line))) where
  next_field : k < size → fields (size - k) (drop at line) ≡ with_field (fields (size - (k + 1))) (found_in line f)
  unfolding fields
  next_field h =
      let e : size - k ≡ suc (size - (k + 1)) = omega arith in
      rw (e, w.found)

  pub taking_wrong : k < size → f ≡ None → None ≡ fields size line
  unfolding in_front
  taking_wrong h e = sym (t.left ∙ ap (in_front (take k numbers)) (next_field h ∙ ap (λ (o : Option (ℕ × ℕ)). with_field (fields (size - (k + 1))) (found_in line o)) e))

  pub taking_more : {n next : ℕ} → k < size → f ≡ Some (n, next) → Taking size line (set numbers k n) (k + 1) next
  taking_more {n} {next} h e =
      let left =
      t.left
      ∙ ap (in_front (take k numbers)) (next_field h ∙ ap (λ (o : Option (ℕ × ℕ)). with_field (fields (size - (k + 1))) (found_in line o)) e)
      ∙ in_front_more (take k numbers) n (fields (size - (k + 1)) (drop next line)) in
      record {
        room = length-set numbers k n ∙ t.room;
        left = rw (take-set_at numbers k (k + 1) n refl (omega (arith, t.room))) left;
      }

module _ {size k at : ℕ} {line numbers : List ℕ} (t : Taking size line numbers k at) (e : k ≡ size) where
  none_left : fields size line ≡ in_front (take k numbers) (fields 0 (drop at line))
  none_left = let z : size - k ≡ 0 = omega arith in rw z at t.left

  pub taking_longer : at < length line → None ≡ fields size line
  unfolding fields in_front
  taking_longer h = sym (rw (drop-cons line at 0 h) at none_left)

  pub taking_all : length line ≤ at → Some numbers ≡ fields size line
  unfolding fields in_front
  taking_all h = sym (rw (drop_of_length-le line h, take_all k numbers (omega (arith, t.room)), append-nil) at none_left)

-- What `field` and `fields` take.

pub ruleset spaces = (field_end, field_no_space, field_on)

pub ruleset takings = (taking_wrong, taking_longer, taking_all)
