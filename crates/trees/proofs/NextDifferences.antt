-- RULES 8.9, by the entries at each tag: a step's answer is above the last key given, it is how the
-- two listings differ at its tag, and between the two tags they do not differ.
use Prim.Native.Nat.{ℕ, ◌<◌, ◌≤◌}
use mathlib.Core.Path.{◌≡◌, refl, sym, ap, ◌∙◌}
use mathlib.Core.Bool.{Bool, true, false, true≢false}
use mathlib.Core.List.{List, [], ◌∷◌}
use mathlib.Core.Option.{Option, none, some}
use native.Mathlib.Omega.{arith}
use lib.Dec.{eqb}
use borrow.Author.Tests.{eq-eqb, ne_eqb}
use Rattle.std.specs.Prelude.{if◌then◌else◌}
use Rattle.trees.specs.Tree.{Entry}
use Rattle.trees.specs.Listing.{find, first_of, AboveBy, Ascending}
use Rattle.trees.specs.Difference.{Difference, differences, tag_of, beyond, keep_tags, next_difference, AscendingTags, find_tag, difference_at}
use Rattle.trees.proofs.DifferenceLaws.{differences_ascend, differences_at}

-- d is the first of the differences whose tag passes; look gives what stands at a tag.
pub record FirstAt (p : ℕ → Bool) (look : ℕ → Option Difference) (d : Difference) : Type 0 where
  pub passes : p (tag_of d) ≡ true
  pub stands : look (tag_of d) ≡ some d
  pub before : (k : ℕ) → p k ≡ true → k < tag_of d → look k ≡ none

abbrev pub AnswersAt : (ℕ → Bool) → (ℕ → Option Difference) → Option Difference → Type 0
AnswersAt p look none = (k : ℕ) → p k ≡ true → look k ≡ none
AnswersAt p look (some d) = FirstAt p look d

later_none : (k j : ℕ) (ds : List Difference) → k ≤ j → AboveBy tag_of j ds → find_tag k ds ≡ none
later_none k j [] l a = refl
later_none k j (d ∷ ds) l a = rw (ne_eqb k (tag_of d) (λ e. omega (arith, e))) (later_none k j ds l a.1)

module _ (p : ℕ → Bool) where
  -- A tag that passes is not one that does not.
  other_tag : (k j : ℕ) → p k ≡ true → p j ≡ false → eqb k j ≡ false
  other_tag k j t n = ne_eqb k j (λ e. true≢false (sym t ∙ ap p e ∙ n))

  skipped : (c : Difference) (cs : List Difference) → p (tag_of c) ≡ false → (o : Option Difference) → AnswersAt p (λ k. find_tag k cs) o →
      AnswersAt p (λ k. find_tag k (c ∷ cs)) o
  skipped c cs n none h = λ k t. rw (other_tag k (tag_of c) t n) (h k t)
  skipped c cs n (some d) h =
      record {
        passes = h.passes;
        stands = rw (other_tag (tag_of d) (tag_of c) h.passes n) h.stands;
        before = λ k t l. rw (other_tag k (tag_of c) t n) (h.before k t l);
      }

  taken : (c : Difference) (cs : List Difference) → p (tag_of c) ≡ true → AscendingTags (c ∷ cs) → FirstAt p (λ k. find_tag k (c ∷ cs)) c
  taken c cs t a =
      record {
        passes = t;
        stands = rw (eq-eqb (tag_of c) (tag_of c) refl);
        before = λ k _ l. rw (ne_eqb k (tag_of c) (λ e. omega (arith, e))) (later_none k (tag_of c) cs (omega arith) a.0);
      }

  first_answers_at : (ds : List Difference) → AscendingTags ds → AnswersAt p (λ k. find_tag k ds) (first_of (keep_tags p ds))
  first_answers_at [] a = λ k t. refl
  first_answers_at (c ∷ cs) a = go (p (tag_of c)) refl (first_answers_at cs a.1)
    where
      go : (b : Bool) → p (tag_of c) ≡ b → AnswersAt p (λ k. find_tag k cs) (first_of (keep_tags p cs)) →
          AnswersAt p (λ k. find_tag k (c ∷ cs)) (first_of (if b then c ∷ keep_tags p cs else keep_tags p cs))
      go true t h = taken c cs t a
      go false n h = skipped c cs n (first_of (keep_tags p cs)) h

-- A step's answer, by the entries that the two listings have at each tag.
pub next_answers_at : (o : Option ℕ) (xs ys : List Entry) → Ascending xs → Ascending ys →
    AnswersAt (beyond o) (λ k. difference_at (find k xs) (find k ys)) (next_difference o xs ys)
next_answers_at o xs ys a b = go (next_difference o xs ys) (first_answers_at (beyond o) (differences xs ys) (differences_ascend xs ys a b))
  where
    at : (k : ℕ) → find_tag k (differences xs ys) ≡ difference_at (find k xs) (find k ys)
    at k = differences_at k xs ys a b

    go : (n : Option Difference) → AnswersAt (beyond o) (λ k. find_tag k (differences xs ys)) n →
        AnswersAt (beyond o) (λ k. difference_at (find k xs) (find k ys)) n
    go none h = λ k t. sym (at k) ∙ h k t
    go (some d) h = record { passes = h.passes; stands = sym (at (tag_of d)) ∙ h.stands; before = λ k t l. sym (at k) ∙ h.before k t l }
