-- Listings: entries by rising key (RULES 2.5), and what a lookup or an edit means over them
-- (RULES 6.13, 6.14).
use Rattle.std.specs.Prelude.{ℕ, ◌<◌, Bool, true, false, List, [], ◌∷◌, ltb, eqb, if◌then◌else◌}
use Rattle.std.proofs.Math.Option.{Option, none, some}
use Rattle.trees.specs.Tree.{Entry}

-- Of a list whose elements have numbers: every number is above k; each is below all that follow.
abbrev pub AboveBy : {A : Type 0} → (A → ℕ) → ℕ → List A → Type 0
AboveBy number k [] = Unit {0}
AboveBy number k (x ∷ xs) = (k < number x) × AboveBy number k xs

abbrev pub AscendingBy : {A : Type 0} → (A → ℕ) → List A → Type 0
AscendingBy number [] = Unit {0}
AscendingBy number (x ∷ xs) = AboveBy number (number x) xs × AscendingBy number xs

-- Every key is above k; every key is below k.
abbrev pub Above : ℕ → List Entry → Type 0
Above k xs = AboveBy (λ e. e.key) k xs

abbrev pub Below : ℕ → List Entry → Type 0
Below k [] = Unit {0}
Below k (e ∷ xs) = (e.key < k) × Below k xs

-- RULES 3.4: "In the listing .. each key is above the one before it": each is below all that
-- follow.
abbrev pub Ascending : List Entry → Type 0
Ascending xs = AscendingBy (λ e. e.key) xs

-- RULES 6.13: "`get`: the entry with the key, if one has it."
abbrev pub find : ℕ → List Entry → Option Entry
find k [] = none
find k (e ∷ xs) = if eqb k e.key then some e else find k xs

-- RULES 6.14: "`insert`: the entry with an equal key is replaced whole, so the size stays; a new
-- key goes to its place."
abbrev pub put : Entry → List Entry → List Entry
put x [] = x ∷ []
put x (e ∷ xs) =
    if ltb x.key e.key then x ∷ (e ∷ xs)
    else (if ltb e.key x.key then e ∷ put x xs
    else x ∷ xs)

-- RULES 6.14: "`remove`: the entry with the key goes; an absent key changes nothing."
abbrev pub cut : ℕ → List Entry → List Entry
cut k [] = []
cut k (e ∷ xs) = if eqb k e.key then xs else e ∷ cut k xs

-- RULES 6.13: "`first` and `last`: its two ends, if any."
abbrev pub first_of : {A : Type 0} → List A → Option A
first_of [] = none
first_of (e ∷ xs) = some e

abbrev pub or_else : Option Entry → Entry → Option Entry
or_else none e = some e
or_else (some f) e = some f

abbrev pub last_of : List Entry → Option Entry
last_of [] = none
last_of (e ∷ xs) = or_else (last_of xs) e

abbrev pub is_some : Option Entry → Bool
is_some none = false
is_some (some e) = true
