-- RULES 7: a front step takes the first of the entries that remain, a back step the last; so any
-- mixing of steps gives each entry in range exactly once, and after END at one end both ends give
-- END.
use mathlib.Core.Path.{◌≡◌, refl, ap, sym, ◌∙◌, subst}
use mathlib.Core.Bool.{Bool, true, false, and-eq-true_iff, and-false}
use mathlib.Core.List.{List, [], ◌∷◌, ◌++◌, append_assoc, append-nil}
use mathlib.Core.Option.{Option, none, some}
use Prim.Native.Nat.{ℕ, ◌≤◌, ◌<◌}
use native.Mathlib.Omega.{arith}
use borrow.Author.Tests.{lt-ltb, le-ltb}
use Rattle.std.specs.Prelude.{if◌then◌else◌}
use Rattle.trees.specs.Tree.{Entry}
use Rattle.trees.specs.Listing.{Above, Ascending, first_of, last_of, or_else}
use Rattle.trees.specs.Range.{End, front, back, Range, from_start, to_end, past, after_front, before_back, remains, keep, next, stepped}
use Rattle.trees.proofs.Ranges.{after_front_up, before_back_down}
use Rattle.trees.proofs.Kept.{above_keep, first_taken}
use Rattle.trees.proofs.Extremes.{next_answers, Answers}
use Rattle.calls.specs.Walking.{remaining, Walked}

-- The entries of a listing that pass keep its order.
pub ascending_keep : (p : Entry → Bool) (xs : List Entry) → Ascending xs → Ascending (keep p xs)
ascending_keep p [] a = tt
ascending_keep p (x ∷ xs) a = go (p x) (ascending_keep p xs a.1)
  where
    go : (b : Bool) → Ascending (keep p xs) → Ascending (if b then x ∷ keep p xs else keep p xs)
    go true r = (above_keep (λ (e : Entry). e.key) p x.key xs a.0, r)
    go false r = r

last_above : (k : ℕ) (xs : List Entry) (e : Entry) → Above k xs → last_of xs ≡ some e → k < e.key
last_above k [] e a h = absurd (let z : ◌≡◌ {A = ℕ} 0 1 = cc in omega arith)
last_above k (x ∷ xs) e a h = go (last_of xs) h (last_above k xs e a.1)
  where
    go : (o : Option Entry) → or_else o x ≡ some e → (o ≡ some e → k < e.key) → k < e.key
    go none h ih = let z : x ≡ e = cc in subst (λ (y : Entry). k < y.key) z a.0
    go (some f) h ih = ih h

keep_none : (p : Entry → Bool) (k : ℕ) (xs : List Entry) → Above k xs → ((y : Entry) → k < y.key → p y ≡ false) → keep p xs ≡ []
keep_none p k [] a f = refl
keep_none p k (x ∷ xs) a f = rw (f x a.0) (keep_none p k xs a.1 f)

first_none : (xs : List Entry) → first_of xs ≡ none → xs ≡ []
first_none [] h = refl
first_none (x ∷ xs) h = absurd (let z : ◌≡◌ {A = ℕ} 0 1 = cc in omega arith)

last_none : (xs : List Entry) → last_of xs ≡ none → xs ≡ []
last_none [] h = refl
last_none (x ∷ xs) h = absurd (go (last_of xs) h)
  where
    go : (o : Option Entry) → or_else o x ≡ none → ⊥
    go none h = let z : ◌≡◌ {A = ℕ} 0 1 = cc in omega arith
    go (some f) h = let z : ◌≡◌ {A = ℕ} 0 1 = cc in omega arith

-- The last that passes is taken out by a test that passes what comes before it only.
module _ (p p' : Entry → Bool) (e : Entry) where
  last_taken : (xs : List Entry) → Ascending xs → ((y : Entry) → y.key < e.key → p' y ≡ p y) → ((y : Entry) → e.key ≤ y.key → p' y ≡ false) →
      last_of (keep p xs) ≡ some e → keep p xs ≡ keep p' xs ++ (e ∷ [])
  last_taken [] a f g h = absurd (let z : ◌≡◌ {A = ℕ} 0 1 = cc in omega arith)
  last_taken (x ∷ xs) a f g h = go (p x) refl h (last_taken xs a.1 f g)
    where
      before : last_of (keep p xs) ≡ some e → x.key < e.key
      before q = last_above x.key (keep p xs) e (above_keep (λ (y : Entry). y.key) p x.key xs a.0) q

      only : (o : Option Entry) → last_of (keep p xs) ≡ o → p x ≡ true → or_else o x ≡ some e →
          (last_of (keep p xs) ≡ some e → keep p xs ≡ keep p' xs ++ (e ∷ [])) →
          x ∷ keep p xs ≡ (if p' x then x ∷ keep p' xs else keep p' xs) ++ (e ∷ [])
      only none q t h ih =
          let z : x ≡ e = cc in
          let k = ap (λ (y : Entry). y.key) z in
          rw
          (g x (omega arith), last_none (keep p xs) q, keep_none p' x.key xs a.0 (λ y l. g y (omega arith)))
          (ap (λ (y : Entry). y ∷ []) z)
      only (some y) q t h ih =
          let z : last_of (keep p xs) ≡ some e = q ∙ h in
          rw (f x (before z), t) (ap (λ (l : List Entry). x ∷ l) (ih z))

      go : (b : Bool) → p x ≡ b → last_of (if b then x ∷ keep p xs else keep p xs) ≡ some e →
          (last_of (keep p xs) ≡ some e → keep p xs ≡ keep p' xs ++ (e ∷ [])) →
          (if b then x ∷ keep p xs else keep p xs) ≡ (if p' x then x ∷ keep p' xs else keep p' xs) ++ (e ∷ [])
      go true t h ih = only (last_of (keep p xs)) refl t h ih
      go false t h ih = rw (f x (before h), t) (ih h)

-- What the caller keeps after a step that gave e lets through what is past e, as before, and
-- nothing up to e.
module _ (w : Range) (e : Entry) (passes : remains w e ≡ true) where
  after_e : after_front w e.key ≡ true
  after_e = ((and-eq-true_iff (after_front w e.key) (before_back w e.key)).0 passes).0

  before_e : before_back w e.key ≡ true
  before_e = ((and-eq-true_iff (after_front w e.key) (before_back w e.key)).0 passes).1

  front_past : (y : Entry) → e.key < y.key → remains (stepped front w e) y ≡ remains w y
  front_past y l =
      let a = after_front_up w e.key y.key (omega arith) after_e in
      let s = (and-eq-true_iff (from_start w.start y.key) (from_start (past w.given_front) y.key)).0 a in
      rw (s.0, s.1, lt-ltb e.key y.key l)

  front_gone : (y : Entry) → y.key ≤ e.key → remains (stepped front w e) y ≡ false
  front_gone y l = rw (le-ltb e.key y.key l, and-false (from_start w.start y.key))

  back_past : (y : Entry) → y.key < e.key → remains (stepped back w e) y ≡ remains w y
  back_past y l =
      let a = before_back_down w y.key e.key (omega arith) before_e in
      let s = (and-eq-true_iff (to_end w.end y.key) (to_end (past w.given_back) y.key)).0 a in
      rw (s.0, s.1, lt-ltb y.key e.key l)

  back_gone : (y : Entry) → e.key ≤ y.key → remains (stepped back w e) y ≡ false
  back_gone y l = rw (le-ltb y.key e.key l, and-false (to_end w.end y.key), and-false (after_front w y.key))

next_passes : (d : End) (w : Range) (xs : List Entry) (e : Entry) → Ascending xs → next d w xs ≡ some e → remains w e ≡ true
next_passes d w xs e a h = (subst (Answers d (remains w) xs) h (next_answers d w xs a)).passes

module _ (w : Range) (xs : List Entry) (e : Entry) (a : Ascending xs) where
  -- A front step takes the first of the entries that remain, a back step the last.
  pub front_takes : next front w xs ≡ some e → remaining w xs ≡ e ∷ remaining (stepped front w e) xs
  front_takes h =
      let t = next_passes front w xs e a h in
      first_taken (λ (y : Entry). y.key) (remains w) (remains (stepped front w e)) e xs a (front_past w e t) (front_gone w e t) h

  pub back_takes : next back w xs ≡ some e → remaining w xs ≡ remaining (stepped back w e) xs ++ (e ∷ [])
  back_takes h =
      let t = next_passes back w xs e a h in
      last_taken (remains w) (remains (stepped back w e)) e xs a (back_past w e t) (back_gone w e t) h

-- Any mixing: what front steps gave, what remains, and what back steps gave are the entries in
-- range, in listing order.
pub walked : {xs : List Entry} {w w' : Range} {fs bs : List Entry} → Ascending xs → Walked xs w fs bs w' → remaining w xs ≡ fs ++ (remaining w' xs ++ bs)
walked {xs} {w} a Walked.no_step = sym (append-nil (remaining w xs))
walked {xs} {w} a (Walked.front_step {fs = fs} {bs = bs} {w' = w'} {e = e} s h) =
    walked a s ∙ ap (λ (l : List Entry). fs ++ (l ++ bs)) (front_takes w' xs e a h) ∙ sym (append_assoc fs (e ∷ []) (remaining (stepped front w' e) xs ++ bs))
walked {xs} {w} a (Walked.back_step {fs = fs} {bs = bs} {w' = w'} {e = e} s h) =
    walked a s ∙ ap (λ (l : List Entry). fs ++ (l ++ bs)) (back_takes w' xs e a h) ∙
    ap (λ (l : List Entry). fs ++ l) (append_assoc (remaining (stepped back w' e) xs) (e ∷ []) bs)

-- Nothing left at one end is nothing left.
pub end_empty : (d : End) (w : Range) (xs : List Entry) → next d w xs ≡ none → remaining w xs ≡ []
end_empty front w xs h = first_none (remaining w xs) h
end_empty back w xs h = last_none (remaining w xs) h

-- At the end each entry in range was given exactly once, fronts ascending and backs descending.
pub walked_all : {xs : List Entry} {w w' : Range} {fs bs : List Entry} (d : End) → Ascending xs → Walked xs w fs bs w' → next d w' xs ≡ none →
    (remaining w xs ≡ fs ++ bs) × Ascending (fs ++ bs)
walked_all {xs} {w} {w'} {fs} {bs} d a s h =
    let e = walked a s ∙ ap (λ (l : List Entry). fs ++ (l ++ bs)) (end_empty d w' xs h) in
    (e, subst Ascending e (ascending_keep (remains w) xs a))

-- "After END both ends answer END, the version being unchanged."
pub after_end : (d d' : End) (w : Range) (xs : List Entry) → next d w xs ≡ none → next d' w xs ≡ none
after_end d front w xs h = ap first_of (end_empty d w xs h)
after_end d back w xs h = ap last_of (end_empty d w xs h)
