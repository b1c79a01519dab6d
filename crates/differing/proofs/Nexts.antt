-- What differs next: each arm of the code, and what it is of the two listings.
use mathlib.Core.Path.{◌≡◌, refl, ap, sym, ◌∙◌}
use mathlib.Core.Bool.{false}
use mathlib.Core.List.{List, [], ◌∷◌}
use mathlib.Core.Option.{Option, some}
use Prim.Native.Nat.{ℕ}
use Rattle.heights.proofs.Choices.{compared₂}
use Rattle.trees.specs.Tree as trees
use Rattle.trees.specs.Tree.{Tree, listing}
use Rattle.trees.specs.Listing.{first_of}
use Rattle.trees.specs.Range.{past}
use Rattle.trees.specs.Difference.{differences, beyond, next_difference}
use Rattle.trees.specs.Difference as spec
use Rattle.trees.proofs.Ranges.{from_start_up}
use Rattle.trees.proofs.Differences.{differences_front, differences_above}
use Rattle.words.specs.Layout.{max_height}
use Rattle.words.specs.Reads.{Reads}
use Rattle.lookup.specs.Finding.{found_of}
use Rattle.abreast.specs.declared.Heads.{Heads}
use Rattle.abreast.specs.Alike.{alike_heads}
use Rattle.abreast.specs.Sides.{listed, ahead, Starts, Parts}
use Rattle.abreast.proofs.Starting.{stands_root}
use Rattle.abreast.proofs.Listed.{listed-held}
use Rattle.answers.specs.declared.Refusal as refusals
use Rattle.answers.specs.declared.Difference as answers
use Rattle.std.specs.Prelude.{Result}
use Rattle.abreast.specs.declared.Side.{Side}
use Rattle.answers.specs.Answers.{difference_answer}
use Rattle.differing.specs.Filling.{rest, Descends, Fills}
use Rattle.differing.specs.Nexts.{heads_differ, or_ended, Ordered, Differs}

-- Listings that do not begin with one entry differ first in how they begin.
heads_first : (xs ys : List trees.Entry) → alike_heads (first_of xs) (first_of ys) ≡ false → first_of (differences xs ys) ≡ heads_differ (first_of xs) (first_of ys)
unfolding differences
heads_first [] [] h = refl
heads_first [] (f ∷ ys) h = refl
heads_first (e ∷ xs) [] h = refl
heads_first (e ∷ xs) (f ∷ ys) h =
    compared₂
    (λ (ds : List spec.Difference) (d : spec.Difference). first_of ds ≡ some d)
    e.key
    f.key
    (λ _. refl)
    (λ _. refl)
    (λ _. rw h)

parts_differ : {xs ys : List trees.Entry} {h : Heads} → Parts xs ys h → first_of (differences xs ys) ≡ heads_differ (found_of h.one) (found_of h.other)
parts_differ P =
    rw
    (P.one_is, P.other_is, differences_front P.alike P.one P.other, P.one_first, P.other_first)
    (heads_first P.one P.other (rw (← P.one_first, ← P.other_first) P.apart))

pub descends_root : {ws : List ℕ} {i : ℕ} {s : Side} → Starts i s → Ordered ws i → Descends ws s
descends_root b O =
    record {
      stands = stands_root b O.rooted;
      ordered = rw (b.link_is, listed-held O.rooted O.rooted.n O.rooted.tree O.rooted.reads) O.ordered;
    }

pub differs : {ws : List ℕ} {i j : ℕ} {o : Option ℕ} {one other one' other' : Side} {h : Heads} {r : Result answers.Difference refusals.Refusal} →
    Ordered ws i → Ordered ws j → Starts i one → Starts j other → Fills ws o one.link one' → Fills ws o other.link other' → Parts (ahead ws one') (ahead ws other') h →
    difference_answer r ≡ or_ended (heads_differ (found_of h.one) (found_of h.other)) → Differs ws i j o r
differs {ws} {i} {j} {o} {one} {other} {h = h} {r = r} I J b c F G P e = record { says = says }
  where
    says : (n : ℕ) (t u : Tree) → Reads n ws i t → Reads n ws j u → difference_answer r ≡ or_ended (next_difference o (listing t) (listing u))
    says n t u x y =
        let first : rest o (listed max_height ws one.link) ≡ rest o (listing t) = rw b.link_is (ap (rest o) (listed-held I.rooted n t x)) in
        let second : rest o (listed max_height ws other.link) ≡ rest o (listing u) = rw c.link_is (ap (rest o) (listed-held J.rooted n u y)) in
        let parts : Parts (rest o (listing t)) (rest o (listing u)) h = rw (← first, ← second, ← F.ahead_is, ← G.ahead_is) P in
        let next : next_difference o (listing t) (listing u) ≡ heads_differ (found_of h.one) (found_of h.other) =
        ap first_of (differences_above (beyond o) (from_start_up (past o)) (listing t) (listing u)) ∙ parts_differ parts in
        e ∙ ap or_ended (sym next)
