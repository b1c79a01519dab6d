-- RULES 8.8, 8.9: each differing tag is in the differences once, with what differs, and no other;
-- and steps from no key on give them all, then END.
use Prim.Native.Nat.{ℕ, ◌<◌}
use mathlib.Core.Path.{◌≡◌, refl, sym, ap, ◌∙◌}
use mathlib.Core.Bool.{Bool, true, false}
use mathlib.Core.List.{List, [], ◌∷◌, map}
use mathlib.Core.Option.{Option, none, some}
use native.Mathlib.Omega.{arith}
use lib.Dec.{eqb}
use borrow.Author.Tests.{lt-ltb, le-ltb, eqb-true}
use Rattle.std.specs.Prelude.{if◌then◌else◌}
use Rattle.heights.proofs.Choices.{fork, compared}
use Rattle.trees.specs.Tree.{Entry}
use Rattle.trees.specs.Listing.{find, first_of, AboveBy, Above, Ascending}
use Rattle.trees.specs.Order.{compare_entries, is_same}
use Rattle.trees.specs.Range.{past}
use Rattle.trees.specs.Difference.{Difference, only_first, only_second, in_both, differences, tag_of}
use Rattle.trees.specs.Difference.{beyond, keep_tags, AscendingTags, find_tag, difference_at, Steps}
use Rattle.trees.proofs.Listings.{above_less, find_none}
use Rattle.trees.proofs.Ranges.{from_start_up}
use Rattle.trees.proofs.Kept.{first_passes, first_taken}

-- Every tag is above k.
abbrev Later : ℕ → List Difference → Type 0
Later k ds = AboveBy tag_of k ds

later_second : (k : ℕ) (ys : List Entry) → Above k ys → Later k (map only_second ys)
later_second k [] a = tt
later_second k (f ∷ ys) a = (a.0, later_second k ys a.1)

later_differences : (k : ℕ) (xs ys : List Entry) → Above k xs → Above k ys → Later k (differences xs ys)
unfolding differences
later_differences k [] ys a b = later_second k ys b
later_differences k (e ∷ xs) [] a b = (a.0, later_differences k xs [] a.1 tt)
later_differences k (e ∷ xs) (f ∷ ys) a b =
    compared
    (Later k)
    e.key
    f.key
    (λ _. (a.0, later_differences k xs (f ∷ ys) a.1 b))
    (λ _. (b.0, later_differences k (e ∷ xs) ys a b.1))
    (λ _.
    fork
    (Later k)
    (is_same (compare_entries e f))
    (λ _. later_differences k xs ys a.1 b.1)
    (λ _. (a.0, later_differences k xs ys a.1 b.1)))

second_ascend : (ys : List Entry) → Ascending ys → AscendingTags (map only_second ys)
second_ascend [] a = tt
second_ascend (f ∷ ys) a = (later_second f.key ys a.0, second_ascend ys a.1)

pub differences_ascend : (xs ys : List Entry) → Ascending xs → Ascending ys → AscendingTags (differences xs ys)
unfolding differences
differences_ascend [] ys a b = second_ascend ys b
differences_ascend (e ∷ xs) [] a b = (later_differences e.key xs [] a.0 tt, differences_ascend xs [] a.1 tt)
differences_ascend (e ∷ xs) (f ∷ ys) a b =
    compared
    AscendingTags
    e.key
    f.key
    (λ h. (later_differences e.key xs (f ∷ ys) a.0 (h, above_less h ys b.0), differences_ascend xs (f ∷ ys) a.1 b))
    (λ h. (later_differences f.key (e ∷ xs) ys (h, above_less h xs a.0) b.0, differences_ascend (e ∷ xs) ys a b.1))
    (λ h.
    fork
    AscendingTags
    (is_same (compare_entries e f))
    (λ _. differences_ascend xs ys a.1 b.1)
    (λ _. (later_differences e.key xs ys a.0 (rw h b.0), differences_ascend xs ys a.1 b.1)))

-- What stands at a tag, where an entry of one listing is the next, by whether it has the tag.
only_first_at : (e : Entry) (o q : Option Entry) (d : Option Difference) (b : Bool) → (b ≡ true → q ≡ none) → d ≡ difference_at o q →
    (if b then some (only_first e) else d) ≡ difference_at (if b then some e else o) q
only_first_at e o q d true n ih = rw (n refl)
only_first_at e o q d false n ih = ih

only_second_at : (f : Entry) (o q : Option Entry) (d : Option Difference) (b : Bool) → (b ≡ true → o ≡ none) → d ≡ difference_at o q →
    (if b then some (only_second f) else d) ≡ difference_at o (if b then some f else q)
only_second_at f o q d true n ih = rw (n refl)
only_second_at f o q d false n ih = ih

module _ (k : ℕ) where
  -- A tag that an entry has is in no listing all of whose keys are greater.
  has_not : (e : Entry) (ys : List Entry) → Above e.key ys → eqb k e.key ≡ true → find k ys ≡ none
  has_not e ys a t = find_none k ys (rw (eqb-true k e.key t) a)

  both_at : (e f : Entry) (xs ys : List Entry) → e.key ≡ f.key → Above e.key xs → Above f.key ys →
      find_tag k (differences xs ys) ≡ difference_at (find k xs) (find k ys) →
      (s b : Bool) → is_same (compare_entries e f) ≡ s → eqb k e.key ≡ b → eqb k f.key ≡ b →
      find_tag k (if s then differences xs ys else in_both e f ∷ differences xs ys) ≡ difference_at (find k (e ∷ xs)) (find k (f ∷ ys))
  both_at e f xs ys h a b ih true true z t u = rw (t, u, z) (ih ∙ rw (has_not e xs a t, has_not f ys b u))
  both_at e f xs ys h a b ih true false z t u = rw (t, u) ih
  both_at e f xs ys h a b ih false true z t u = rw (t, u, z)
  both_at e f xs ys h a b ih false false z t u = rw (t, u) ih

  second_at : (ys : List Entry) → find_tag k (map only_second ys) ≡ difference_at none (find k ys)
  second_at [] = refl
  second_at (f ∷ ys) =
      only_second_at f none (find k ys) (find_tag k (map only_second ys)) (eqb k f.key) (λ _. refl) (second_at ys)

  pub differences_at : (xs ys : List Entry) → Ascending xs → Ascending ys → find_tag k (differences xs ys) ≡ difference_at (find k xs) (find k ys)
  unfolding differences
  differences_at [] ys a b = second_at ys
  differences_at (e ∷ xs) [] a b =
      only_first_at e (find k xs) none (find_tag k (differences xs [])) (eqb k e.key) (λ _. refl) (differences_at xs [] a.1 tt)
  differences_at (e ∷ xs) (f ∷ ys) a b =
      compared
      (λ (ds : List Difference). find_tag k ds ≡ difference_at (find k (e ∷ xs)) (find k (f ∷ ys)))
      e.key
      f.key
      (λ h.
      only_first_at
      e
      (find k xs)
      (find k (f ∷ ys))
      (find_tag k (differences xs (f ∷ ys)))
      (eqb k e.key)
      (has_not e (f ∷ ys) (h, above_less h ys b.0))
      (differences_at xs (f ∷ ys) a.1 b))
      (λ h.
      only_second_at
      f
      (find k (e ∷ xs))
      (find k ys)
      (find_tag k (differences (e ∷ xs) ys))
      (eqb k f.key)
      (has_not f (e ∷ xs) (h, above_less h xs a.0))
      (differences_at (e ∷ xs) ys a b.1))
      (λ h.
      both_at
      e
      f
      xs
      ys
      h
      a.0
      b.0
      (differences_at xs ys a.1 b.1)
      (is_same (compare_entries e f))
      (eqb k e.key)
      refl
      refl
      (ap (eqb k) (sym h)))

-- From any key on the steps give what is above it, and from none all; then END.
pub steps_from : (xs ys : List Entry) → Ascending xs → Ascending ys → (ds : List Difference) (o : Option ℕ) →
    keep_tags (beyond o) (differences xs ys) ≡ ds → Steps xs ys o ds
steps_from xs ys a b [] o e = Steps.ended (ap first_of e)
steps_from xs ys a b (d ∷ ds) o e = Steps.given (ap first_of e) (steps_from xs ys a b ds (some (tag_of d)) left)
  where
    passes : beyond o (tag_of d) ≡ true
    passes = first_passes (λ (c : Difference). beyond o (tag_of c)) (differences xs ys) (ap first_of e)

    after : (c : Difference) → tag_of d < tag_of c → beyond (some (tag_of d)) (tag_of c) ≡ beyond o (tag_of c)
    after c l = lt-ltb (tag_of d) (tag_of c) l ∙ sym (from_start_up (past o) (tag_of d) (tag_of c) (omega arith) passes)

    left : keep_tags (beyond (some (tag_of d))) (differences xs ys) ≡ ds
    left =
        let z =
        first_taken
        tag_of
        (λ (c : Difference). beyond o (tag_of c))
        (λ (c : Difference). beyond (some (tag_of d)) (tag_of c))
        d
        (differences xs ys)
        (differences_ascend xs ys a b)
        after
        (λ c l. le-ltb (tag_of d) (tag_of c) l)
        (ap first_of e) in
        cc

pub differences_walked : (xs ys : List Entry) → Ascending xs → Ascending ys → Steps xs ys none (differences xs ys)
differences_walked xs ys a b = steps_from xs ys a b (differences xs ys) none (all_left (differences xs ys))
  where
    all_left : (ds : List Difference) → keep_tags (beyond none) ds ≡ ds
    all_left [] = refl
    all_left (d ∷ ds) = ap (λ (l : List Difference). d ∷ l) (all_left ds)
