-- Laws of `find`, `put` and `cut` in an ascending list that is split at an entry, as a tree's listing is at its root.
use Prim.Native.Nat.{ℕ, suc, ◌+◌, ◌<◌}
use mathlib.Core.Path.{◌≡◌, refl, ap}
use mathlib.Core.Bool.{Bool, true, false}
use mathlib.Core.List.{List, [], ◌∷◌, ◌++◌}
use mathlib.Core.Option.{Option, none, some}
use native.Mathlib.Omega.{arith}
use lib.Dec.{ltb, eqb}
use lib.ListN.{length}
use borrow.Author.Tests.{lt-ltb, le-ltb, ne_eqb, eq-eqb}
use Rattle.std.specs.Prelude.{if◌then◌else◌}
use Rattle.heights.proofs.Choices.{fork, compared}
use Rattle.trees.specs.Tree.{Entry}
use Rattle.trees.specs.Listing.{find, put, cut, is_some, Above, Below, Ascending}

-- What lies above a key lies above each lower one; below, likewise.
pub above_less : {k j : ℕ} → k < j → (xs : List Entry) → Above j xs → Above k xs
above_less h [] a = tt
above_less h (e ∷ xs) a = (omega arith, above_less h xs a.1)

pub below_less : {k j : ℕ} → k < j → (xs : List Entry) → Below k xs → Below j xs
below_less h [] a = tt
below_less h (e ∷ xs) a = (omega arith, below_less h xs a.1)

-- An ascending list, split at an entry.
pub record Split (xs : List Entry) (e : Entry) (ys : List Entry) : Type 0 where
  pub below : Below e.key xs
  pub before : Ascending xs
  pub above : Above e.key ys
  pub after : Ascending ys

pub split : (xs : List Entry) (e : Entry) (ys : List Entry) → Ascending (xs ++ (e ∷ ys)) → Split xs e ys
split [] e ys a = record { below = tt; before = tt; above = a.0; after = a.1 }
split (x ∷ xs) e ys a =
    let s = split xs e ys a.1 in
    record { below = (first xs a.0, s.below); before = (all xs a.0, s.before); above = s.above; after = s.after }
  where
    first : (xs : List Entry) → Above x.key (xs ++ (e ∷ ys)) → x.key < e.key
    first [] h = h.0
    first (_ ∷ xs) h = first xs h.1

    all : (xs : List Entry) → Above x.key (xs ++ (e ∷ ys)) → Above x.key xs
    all [] h = tt
    all (_ ∷ xs) h = (h.0, all xs h.1)

module _ (x : Entry) where
  pub put_left : (xs : List Entry) (e : Entry) (ys : List Entry) → x.key < e.key → put x (xs ++ (e ∷ ys)) ≡ put x xs ++ (e ∷ ys)
  put_left [] e ys h = rw (lt-ltb x.key e.key h)
  put_left (z ∷ xs) e ys h = go (ltb x.key z.key) (ltb z.key x.key) (put_left xs e ys h)
    where
      go : (b c : Bool) → put x (xs ++ (e ∷ ys)) ≡ put x xs ++ (e ∷ ys) →
          (if b then x ∷ (z ∷ (xs ++ (e ∷ ys))) else (if c then z ∷ put x (xs ++ (e ∷ ys)) else x ∷ (xs ++ (e ∷ ys))))
          ≡ (if b then x ∷ (z ∷ xs) else (if c then z ∷ put x xs else x ∷ xs)) ++ (e ∷ ys)
      go true c ih = refl
      go false true ih = ap (λ (l : List Entry). z ∷ l) ih
      go false false ih = refl

  pub put_right : (xs : List Entry) (e : Entry) (ys : List Entry) → Below e.key xs → e.key < x.key →
      put x (xs ++ (e ∷ ys)) ≡ xs ++ (e ∷ put x ys)
  put_right [] e ys b h = rw (le-ltb x.key e.key (omega arith), lt-ltb e.key x.key h)
  put_right (z ∷ xs) e ys b h =
      rw (le-ltb x.key z.key (omega arith), lt-ltb z.key x.key (omega arith))
      (ap (λ (l : List Entry). z ∷ l) (put_right xs e ys b.1 h))

  pub put_here : (xs : List Entry) (e : Entry) (ys : List Entry) → Below e.key xs → x.key ≡ e.key →
      put x (xs ++ (e ∷ ys)) ≡ xs ++ (x ∷ ys)
  put_here [] e ys b h = rw (le-ltb x.key e.key (omega arith), le-ltb e.key x.key (omega arith))
  put_here (z ∷ xs) e ys b h =
      rw (le-ltb x.key z.key (omega arith), lt-ltb z.key x.key (omega arith))
      (ap (λ (l : List Entry). z ∷ l) (put_here xs e ys b.1 h))

  -- `put` keeps the order.
  above_put : (j : ℕ) (xs : List Entry) → j < x.key → Above j xs → Above j (put x xs)
  above_put j [] h a = (h, tt)
  above_put j (z ∷ xs) h a =
      compared (Above j) x.key z.key (λ l. (h, a)) (λ l. (a.0, above_put j xs h a.1)) (λ l. (h, a.1))

  pub ascending_put : (xs : List Entry) → Ascending xs → Ascending (put x xs)
  ascending_put [] a = (tt, tt)
  ascending_put (z ∷ xs) a =
      compared
      Ascending
      x.key
      z.key
      (λ l. ((l, above_less l xs a.0), a))
      (λ l. (above_put z.key xs l a.0, ascending_put xs a.1))
      (λ l. (rw l a.0, a.1))

module _ (k : ℕ) where
  pub cut_none : (xs : List Entry) → Above k xs → cut k xs ≡ xs
  cut_none [] a = refl
  cut_none (x ∷ xs) a = rw (ne_eqb k x.key (omega arith)) (ap (λ (l : List Entry). x ∷ l) (cut_none xs a.1))

  pub cut_left : (xs : List Entry) (e : Entry) (ys : List Entry) → k < e.key → Above e.key ys →
      cut k (xs ++ (e ∷ ys)) ≡ cut k xs ++ (e ∷ ys)
  cut_left [] e ys h a = cut_none (e ∷ ys) (h, above_less h ys a)
  cut_left (x ∷ xs) e ys h a = go (eqb k x.key) (cut_left xs e ys h a)
    where
      go : (b : Bool) → cut k (xs ++ (e ∷ ys)) ≡ cut k xs ++ (e ∷ ys) →
          (if b then xs ++ (e ∷ ys) else x ∷ cut k (xs ++ (e ∷ ys))) ≡ (if b then xs else x ∷ cut k xs) ++ (e ∷ ys)
      go true ih = refl
      go false ih = ap (λ (l : List Entry). x ∷ l) ih

  pub cut_right : (xs : List Entry) (e : Entry) (ys : List Entry) → Below e.key xs → e.key < k →
      cut k (xs ++ (e ∷ ys)) ≡ xs ++ (e ∷ cut k ys)
  cut_right [] e ys b h = rw (ne_eqb k e.key (omega arith))
  cut_right (x ∷ xs) e ys b h =
      rw (ne_eqb k x.key (omega arith)) (ap (λ (l : List Entry). x ∷ l) (cut_right xs e ys b.1 h))

  pub cut_here : (xs : List Entry) (e : Entry) (ys : List Entry) → Below e.key xs → k ≡ e.key →
      cut k (xs ++ (e ∷ ys)) ≡ xs ++ ys
  cut_here [] e ys b h = rw (eq-eqb k e.key h)
  cut_here (x ∷ xs) e ys b h =
      rw (ne_eqb k x.key (omega arith)) (ap (λ (l : List Entry). x ∷ l) (cut_here xs e ys b.1 h))

  -- `cut` keeps the order.
  above_cut : (j : ℕ) (xs : List Entry) → Above j xs → Above j (cut k xs)
  above_cut j [] a = tt
  above_cut j (x ∷ xs) a = fork (Above j) (eqb k x.key) (λ _. a.1) (λ _. (a.0, above_cut j xs a.1))

  pub ascending_cut : (xs : List Entry) → Ascending xs → Ascending (cut k xs)
  ascending_cut [] a = tt
  ascending_cut (x ∷ xs) a =
      fork Ascending (eqb k x.key) (λ _. a.1) (λ _. (above_cut x.key xs a.0, ascending_cut xs a.1))

  pub find_none : (xs : List Entry) → Above k xs → find k xs ≡ none
  find_none [] a = refl
  find_none (x ∷ xs) a = rw (ne_eqb k x.key (omega arith)) (find_none xs a.1)

  pub find_left : (xs : List Entry) (e : Entry) (ys : List Entry) → k < e.key → Above e.key ys → find k (xs ++ (e ∷ ys)) ≡ find k xs
  find_left [] e ys h a = find_none (e ∷ ys) (h, above_less h ys a)
  find_left (x ∷ xs) e ys h a = ap (λ (o : Option Entry). if eqb k x.key then some x else o) (find_left xs e ys h a)

  pub find_right : (xs : List Entry) (e : Entry) (ys : List Entry) → Below e.key xs → e.key < k → find k (xs ++ (e ∷ ys)) ≡ find k ys
  find_right [] e ys b h = rw (ne_eqb k e.key (omega arith))
  find_right (x ∷ xs) e ys b h = rw (ne_eqb k x.key (omega arith)) (find_right xs e ys b.1 h)

  pub find_here : (xs : List Entry) (e : Entry) (ys : List Entry) → Below e.key xs → k ≡ e.key → find k (xs ++ (e ∷ ys)) ≡ some e
  find_here [] e ys b h = rw (eq-eqb k e.key h)
  find_here (x ∷ xs) e ys b h = rw (ne_eqb k x.key (omega arith)) (find_here xs e ys b.1 h)

-- How an edit changes the length: a new key adds one, an equal key none.
pub length_put : (x : Entry) (xs : List Entry) → Ascending xs →
    length (put x xs) ≡ length xs + (if is_some (find x.key xs) then 0 else 1)
length_put x [] a = refl
length_put x (z ∷ xs) a =
    compared
    (λ (ys : List Entry). length ys ≡ suc (length xs) + (if is_some (find x.key (z ∷ xs)) then 0 else 1))
    x.key
    z.key
    (λ l. rw (find_none x.key (z ∷ xs) (l, above_less l xs a.0)) (omega arith))
    (λ l. rw (ne_eqb x.key z.key (omega arith)) (omega (arith, length_put x xs a.1)))
    (λ l. rw (eq-eqb x.key z.key l) (omega arith))

-- A key that is there takes one away, an absent key none.
pub length_cut : (k : ℕ) (xs : List Entry) → length (cut k xs) + (if is_some (find k xs) then 1 else 0) ≡ length xs
length_cut k [] = refl
length_cut k (x ∷ xs) = go (eqb k x.key) (length_cut k xs)
  where
    go : (b : Bool) → length (cut k xs) + (if is_some (find k xs) then 1 else 0) ≡ length xs →
        length (if b then xs else x ∷ cut k xs) + (if is_some (if b then some x else find k xs) then 1 else 0) ≡ suc (length xs)
    go true ih = omega arith
    go false ih = omega arith
