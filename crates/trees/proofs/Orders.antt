-- Comparison is an order: it answers 0 for equal listings only, and the opposite the other way round.
use Prim.Native.Nat.{ℕ}
use mathlib.Core.Path.{◌≡◌, refl, sym, ap, ◌∙◌}
use mathlib.Core.Bool.{true, false, true≢false}
use mathlib.Core.List.{List, [], ◌∷◌, ◌++◌, append-nil}
use native.Mathlib.Omega.{arith}
use borrow.Author.Tests.{lt-ltb, le-ltb}
use Rattle.heights.proofs.Choices.{compared}
use Rattle.trees.specs.Tree.{Entry}
use Rattle.trees.specs.Order.{Sign, less, same, more, compare_numbers, ◌and_then◌, compare_entries, compare, is_same, equal}

abbrev pub opposite : Sign → Sign
opposite less = more
opposite same = same
opposite more = less

numbers_opposite : (a b : ℕ) → compare_numbers b a ≡ opposite (compare_numbers a b)
numbers_opposite a b =
    compared
    (λ (s : Sign). compare_numbers b a ≡ opposite s)
    a
    b
    (λ h. rw (le-ltb b a (omega arith), lt-ltb a b h))
    (λ h. rw (lt-ltb b a h))
    (λ h. rw (le-ltb b a (omega arith), le-ltb a b (omega arith)))

numbers-equal : (a b : ℕ) → is_same (compare_numbers a b) ≡ true → a ≡ b
numbers-equal a b =
    compared
    (λ (s : Sign). is_same s ≡ true → a ≡ b)
    a
    b
    (λ h e. absurd (true≢false (sym e)))
    (λ h e. absurd (true≢false (sym e)))
    (λ h e. h)

pub numbers_self : (a : ℕ) → compare_numbers a a ≡ same
numbers_self a = rw (le-ltb a a (omega arith))

then_opposite : (s t : Sign) → opposite s and_then opposite t ≡ opposite (s and_then t)
then_opposite less t = refl
then_opposite same t = refl
then_opposite more t = refl

-- What is not the same decides.
pub then_decided : (s t : Sign) → is_same s ≡ false → s and_then t ≡ s
then_decided less t h = refl
then_decided same t h = absurd (true≢false h)
then_decided more t h = refl

then_same : (s t : Sign) → is_same (s and_then t) ≡ true → (is_same s ≡ true) × (is_same t ≡ true)
then_same less t h = absurd (true≢false (sym h))
then_same same t h = (refl, h)
then_same more t h = absurd (true≢false (sym h))

pub compare_opposite : (xs ys : List Entry) → compare ys xs ≡ opposite (compare xs ys)
compare_opposite [] [] = refl
compare_opposite [] (f ∷ ys) = refl
compare_opposite (e ∷ xs) [] = refl
compare_opposite (e ∷ xs) (f ∷ ys) =
    rw
    (numbers_opposite e.key f.key, numbers_opposite e.value f.value, compare_opposite xs ys)
    (ap (λ (s : Sign). s and_then opposite (compare xs ys)) (then_opposite (compare_numbers e.key f.key) (compare_numbers e.value f.value)) ∙
    then_opposite (compare_entries e f) (compare xs ys))

-- What both begin with alike decides nothing.
pub compare_front : (zs xs ys : List Entry) → compare (zs ++ xs) (zs ++ ys) ≡ compare xs ys
compare_front [] xs ys = refl
compare_front (e ∷ zs) xs ys = rw (numbers_self e.key, numbers_self e.value) (compare_front zs xs ys)

pub compare_self : (xs : List Entry) → compare xs xs ≡ same
compare_self xs = sym (ap (λ (l : List Entry). compare l l) (append-nil xs)) ∙ compare_front xs [] []

entry-equal : (e f : Entry) → e.key ≡ f.key → e.value ≡ f.value → e ≡ f
entry-equal e f k v =
    ap (λ (a : ℕ). record { key = a; value = e.value }) k ∙ ap (λ (b : ℕ). record { key = f.key; value = b }) v

pub entries_equal : (e f : Entry) → is_same (compare_entries e f) ≡ true → e ≡ f
entries_equal e f h =
    let a = then_same (compare_numbers e.key f.key) (compare_numbers e.value f.value) h in
    entry-equal e f (numbers-equal e.key f.key a.0) (numbers-equal e.value f.value a.1)

-- "Equal means compare 0", and compare 0 means the same entries.
pub equal_is : (xs ys : List Entry) → equal xs ys ≡ true → xs ≡ ys
equal_is [] [] h = refl
equal_is [] (f ∷ ys) h = absurd (true≢false (sym h))
equal_is (e ∷ xs) [] h = absurd (true≢false (sym h))
equal_is (e ∷ xs) (f ∷ ys) h =
    let a = then_same (compare_entries e f) (compare xs ys) h in
    let h = entries_equal e f a.0 in
    let t = equal_is xs ys a.1 in
    cc

pub is_equal : (xs ys : List Entry) → xs ≡ ys → equal xs ys ≡ true
is_equal xs ys e = rw (← e, compare_self xs)
