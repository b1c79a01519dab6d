-- "A front step answers the least entry in range that is above the former and below the latter; a
-- back step the greatest": no other does.
use Prim.Native.Nat.{ℕ, ◌<◌, ◌≤◌}
use mathlib.Core.Path.{◌≡◌, refl, sym, subst, ◌∙◌}
use mathlib.Core.Bool.{Bool, true, false, true≢false}
use mathlib.Core.List.Memᴰ
use mathlib.Core.List.{List, [], ◌∷◌, Memᴰ}
use mathlib.Core.Logic.{⊎_elim}
use mathlib.Core.Option.{Option, none, some}
use native.Mathlib.Omega.{arith}
use Rattle.heights.proofs.Choices.{fork}
use Rattle.trees.specs.Tree.{Entry}
use Rattle.trees.specs.Listing.{first_of, last_of, or_else, Above, Ascending}
use Rattle.trees.specs.Range.{End, front, back, Range, remains, keep, next}

-- e is nearer the end than f, or the same.
abbrev pub Nearer : End → Entry → Entry → Type 0
Nearer front e f = e.key ≤ f.key
Nearer back e f = f.key ≤ e.key

-- e is an entry of the listing, it passes, and of those that pass it is the nearest to the end.
pub record Extreme (d : End) (p : Entry → Bool) (xs : List Entry) (e : Entry) : Type 0 where
  pub among : Memᴰ e xs
  pub passes : p e ≡ true
  pub nearest : (f : Entry) → Memᴰ f xs → p f ≡ true → Nearer d e f

-- No answer means that no entry passes.
abbrev pub Answers : End → (Entry → Bool) → List Entry → Option Entry → Type 0
Answers d p xs none = (f : Entry) → Memᴰ f xs → p f ≡ true → ⊥
Answers d p xs (some e) = Extreme d p xs e

-- What holds of the first entry and of each entry after it holds of each.
each : {x : Entry} {xs : List Entry} (P : Entry → Type 0) → P x → ((f : Entry) → Memᴰ f xs → P f) → (f : Entry) → Memᴰ f (x ∷ xs) → P f
each {x} {xs} P h t f m = ⊎_elim (λ (e : f ≡ x). subst P (sym e) h) (λ (n : Memᴰ f xs). t f n) (Memᴰ.cases_cons m)

above_each : {k : ℕ} (xs : List Entry) → Above k xs → (f : Entry) → Memᴰ f xs → k < f.key
above_each [] a f m = absurd (Memᴰ.not-nil m)
above_each {k} (x ∷ xs) a f m = each (λ (y : Entry). k < y.key) a.0 (above_each xs a.1) f m

module _ (p : Entry → Bool) (x : Entry) (xs : List Entry) where
  -- An entry that does not pass changes no answer.
  skipped : (d : End) → p x ≡ false → (o : Option Entry) → Answers d p xs o → Answers d p (x ∷ xs) o
  skipped d n none h = each (λ (f : Entry). p f ≡ true → ⊥) (λ t. true≢false (sym t ∙ n)) h
  skipped d n (some e) h =
      record {
        among = Memᴰ.tail h.among;
        passes = h.passes;
        nearest = each (λ (f : Entry). p f ≡ true → Nearer d e f) (λ t. absurd (true≢false (sym t ∙ n))) h.nearest;
      }

  -- One that passes is the least, and it is the greatest where none after it passes.
  least : p x ≡ true → Above x.key xs → Extreme front p (x ∷ xs) x
  least t a =
      record {
        among = Memᴰ.head refl;
        passes = t;
        nearest = each (λ (f : Entry). p f ≡ true → x.key ≤ f.key) (λ _. omega arith) (λ f m _. omega (arith, above_each xs a f m));
      }

  greatest : p x ≡ true → Above x.key xs → (o : Option Entry) → Answers back p xs o → Answers back p (x ∷ xs) (or_else o x)
  greatest t a none h =
      record {
        among = Memᴰ.head refl;
        passes = t;
        nearest = each (λ (f : Entry). p f ≡ true → f.key ≤ x.key) (λ _. omega arith) (λ f m s. absurd (h f m s));
      }
  greatest t a (some e) h =
      record {
        among = Memᴰ.tail h.among;
        passes = h.passes;
        nearest = each (λ (f : Entry). p f ≡ true → f.key ≤ e.key) (λ _. omega (arith, above_each xs a e h.among)) h.nearest;
      }

module _ (p : Entry → Bool) where
  first_answers : (xs : List Entry) → Ascending xs → Answers front p xs (first_of (keep p xs))
  first_answers [] a = λ f m t. Memᴰ.not-nil m
  first_answers (x ∷ xs) a =
      fork
      (λ (ys : List Entry). Answers front p (x ∷ xs) (first_of ys))
      (p x)
      (λ t. least p x xs t a.0)
      (λ n. skipped p x xs front n (first_of (keep p xs)) (first_answers xs a.1))

  last_answers : (xs : List Entry) → Ascending xs → Answers back p xs (last_of (keep p xs))
  last_answers [] a = λ f m t. Memᴰ.not-nil m
  last_answers (x ∷ xs) a =
      fork
      (λ (ys : List Entry). Answers back p (x ∷ xs) (last_of ys))
      (p x)
      (λ t. greatest p x xs t a.0 (last_of (keep p xs)) (last_answers xs a.1))
      (λ n. skipped p x xs back n (last_of (keep p xs)) (last_answers xs a.1))

-- Of an ascending listing `next` gives the entry that RULES 7.4 words, and nothing exactly where
-- there is none.
pub next_answers : (d : End) (w : Range) (xs : List Entry) → Ascending xs → Answers d (remains w) xs (next d w xs)
next_answers front w xs a = first_answers (remains w) xs a
next_answers back w xs a = last_answers (remains w) xs a
