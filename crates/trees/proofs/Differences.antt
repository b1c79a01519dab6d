-- Laws of the differences of two listings: what both begin with drops out, those above a key are
-- the differences of what is above it, and there are none exactly where both are equal.
use Prim.Native.Nat.{ℕ, ◌<◌}
use mathlib.Core.Path.{◌≡◌, refl, sym, ap, ◌∙◌}
use mathlib.Core.Bool.{Bool, true, false, true≢false}
use mathlib.Core.List.{List, [], ◌∷◌, ◌++◌, map, append-nil}
use native.Mathlib.Omega.{arith}
use borrow.Author.Tests.{lt-ltb, le-ltb}
use Rattle.std.specs.Prelude.{if◌then◌else◌}
use Rattle.heights.proofs.Choices.{compared}
use Rattle.trees.specs.Tree.{Entry}
use Rattle.trees.specs.Order.{Sign, less, same, more, ◌and_then◌, compare_entries, compare, is_same, equal}
use Rattle.trees.specs.Range.{keep}
use Rattle.trees.specs.Difference.{Difference, only_first, only_second, in_both, differences, keep_tags}
use Rattle.trees.proofs.Orders.{numbers_self}
use Rattle.trees.proofs.Ranges.{Up, keyed}

pub differences_front : (zs xs ys : List Entry) → differences (zs ++ xs) (zs ++ ys) ≡ differences xs ys
unfolding differences
differences_front [] xs ys = refl
differences_front (e ∷ zs) xs ys =
    rw (le-ltb e.key e.key (omega arith), numbers_self e.value) (differences_front zs xs ys)

-- RULES 8.11: "a held slot named twice".
pub differences-same : (xs : List Entry) → differences xs xs ≡ []
unfolding differences
differences-same xs = ap (λ (l : List Entry). differences l l) (sym (append-nil xs)) ∙ differences_front xs [] []

module _ (p : ℕ → Bool) (up : Up p) where
  abbrev above : List Entry → List Entry
  above xs = keep (keyed p) xs

  second_above : (ys : List Entry) → keep_tags p (map only_second ys) ≡ map only_second (above ys)
  second_above [] = refl
  second_above (f ∷ ys) = go (p f.key) (second_above ys)
    where
      go : (b : Bool) → keep_tags p (map only_second ys) ≡ map only_second (above ys) →
          (if b then only_second f ∷ keep_tags p (map only_second ys) else keep_tags p (map only_second ys))
          ≡ map only_second (if b then f ∷ above ys else above ys)
      go true ih = ap (λ (l : List Difference). only_second f ∷ l) ih
      go false ih = ih

  first_above : (e : Entry) (xs : List Entry) (ds : List Difference) → ds ≡ differences xs [] → (b : Bool) →
      (if b then only_first e ∷ ds else ds) ≡ differences (if b then e ∷ xs else xs) []
  unfolding differences
  first_above e xs ds ih true = ap (λ (l : List Difference). only_first e ∷ l) ih
  first_above e xs ds ih false = ih

  -- Two next entries, by the tests of both: where a key passes, every greater one does.
  module _ (e f : Entry) (xs ys : List Entry) (ds : List Difference) where
    lesser : e.key < f.key → (b c : Bool) → (b ≡ true → c ≡ true) → ds ≡ differences xs (if c then f ∷ ys else ys) →
        (if b then only_first e ∷ ds else ds) ≡ differences (if b then e ∷ xs else xs) (if c then f ∷ ys else ys)
    unfolding differences
    lesser h true true k ih = rw (lt-ltb e.key f.key h) (ap (λ (l : List Difference). only_first e ∷ l) ih)
    lesser h true false k ih = absurd (true≢false (sym (k refl)))
    lesser h false c k ih = ih

    greater : f.key < e.key → (b c : Bool) → (c ≡ true → b ≡ true) → ds ≡ differences (if b then e ∷ xs else xs) ys →
        (if c then only_second f ∷ ds else ds) ≡ differences (if b then e ∷ xs else xs) (if c then f ∷ ys else ys)
    unfolding differences
    greater h true true k ih =
        rw (le-ltb e.key f.key (omega arith), lt-ltb f.key e.key h) (ap (λ (l : List Difference). only_second f ∷ l) ih)
    greater h false true k ih = absurd (true≢false (sym (k refl)))
    greater h b false k ih = ih

  same_key : (e f : Entry) (xs ys : List Entry) → e.key ≡ f.key → keep_tags p (differences xs ys) ≡ differences (above xs) (above ys) →
      (s b : Bool) → is_same (compare_entries e f) ≡ s → p e.key ≡ b → p f.key ≡ b →
      keep_tags p (if s then differences xs ys else in_both e f ∷ differences xs ys) ≡ differences (above (e ∷ xs)) (above (f ∷ ys))
  unfolding differences
  same_key e f xs ys h ih true true z t u = rw (t, u, z, le-ltb e.key f.key (omega arith), le-ltb f.key e.key (omega arith)) ih
  same_key e f xs ys h ih true false z t u = rw (t, u) ih
  same_key e f xs ys h ih false true z t u =
      rw
      (t, u, z, le-ltb e.key f.key (omega arith), le-ltb f.key e.key (omega arith))
      (ap (λ (l : List Difference). in_both e f ∷ l) ih)
  same_key e f xs ys h ih false false z t u = rw (t, u) ih

  pub differences_above : (xs ys : List Entry) → keep_tags p (differences xs ys) ≡ differences (above xs) (above ys)
  unfolding differences
  differences_above [] ys = second_above ys
  differences_above (e ∷ xs) [] = first_above e (above xs) (keep_tags p (differences xs [])) (differences_above xs []) (p e.key)
  differences_above (e ∷ xs) (f ∷ ys) =
      compared
      (λ (ds : List Difference). keep_tags p ds ≡ differences (above (e ∷ xs)) (above (f ∷ ys)))
      e.key
      f.key
      (λ h.
      lesser
      e
      f
      (above xs)
      (above ys)
      (keep_tags p (differences xs (f ∷ ys)))
      h
      (p e.key)
      (p f.key)
      (up e.key f.key (omega arith))
      (differences_above xs (f ∷ ys)))
      (λ h.
      greater
      e
      f
      (above xs)
      (above ys)
      (keep_tags p (differences (e ∷ xs) ys))
      h
      (p e.key)
      (p f.key)
      (up f.key e.key (omega arith))
      (differences_above (e ∷ xs) ys))
      (λ h. same_key e f xs ys h (differences_above xs ys) (is_same (compare_entries e f)) (p e.key) refl refl (ap p (sym h)))

-- No difference exactly where both are equal.
abbrev pub is_empty : List Difference → Bool
is_empty [] = true
is_empty (d ∷ ds) = false

pub differences-equal : (xs ys : List Entry) → is_empty (differences xs ys) ≡ equal xs ys
unfolding differences
differences-equal [] [] = refl
differences-equal [] (f ∷ ys) = refl
differences-equal (e ∷ xs) [] = refl
differences-equal (e ∷ xs) (f ∷ ys) =
    compared
    (λ (ds : List Difference). is_empty ds ≡ equal (e ∷ xs) (f ∷ ys))
    e.key
    f.key
    (λ h. rw (lt-ltb e.key f.key h))
    (λ h. rw (le-ltb e.key f.key (omega arith), lt-ltb f.key e.key h))
    (λ h. go (compare_entries e f) (differences-equal xs ys))
  where
    go : (s : Sign) → is_empty (differences xs ys) ≡ equal xs ys →
        is_empty (if is_same s then differences xs ys else in_both e f ∷ differences xs ys) ≡ is_same (s and_then compare xs ys)
    go less i = refl
    go same i = i
    go more i = refl
