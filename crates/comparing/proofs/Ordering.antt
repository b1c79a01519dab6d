-- Entries in order, and what the entries with which two listings part say of them.
use Rattle.std.proofs.Common.{◌≡◌, ℕ, List, [], ◌∷◌, false, refl, sym, ◌∙◌, arith}
use Rattle.std.proofs.lemmas.Bool.Decides.{nat_tests}
use Rattle.std.specs.Prelude.{Option, Some, None}
use Rattle.std.specs.Option.{option_cmp}
use Rattle.std.specs.Ordering.{nat_cmp, ordering_then}
use Rattle.std.specs.declared.cmp.Ordering.{Ordering}
use Rattle.std.specs.declared.cmp.Ordering.TheVariants.{Less, Equal, Greater}
use Rattle.trees.specs.Tree as trees
use Rattle.trees.specs.Listing.{first_of}
use Rattle.trees.specs.Order.{compare_numbers, compare_entries, compare, ◌and_then◌}
use Rattle.trees.proofs.Orders.{compare_front, then_decided}
use Rattle.words.specs.Layout.{nodes}
use Rattle.arena.specs.declared.Entry.{Entry}
use Rattle.lookup.specs.Finding.{found_of}
use Rattle.answers.specs.Answers.{sign_of}
use Rattle.abreast.specs.declared.Heads.{Heads}
use Rattle.abreast.specs.Alike.{alike_heads}
use Rattle.abreast.specs.Sides.{Parts, PartsBelow}
use Rattle.comparing.specs.Ranks.{rank, Compares}

-- What the derived order of entries computes.
abbrev pub entry_cmp : Entry → Entry → Ordering
entry_cmp x y = ordering_then (nat_cmp x.key y.key) (nat_cmp x.value y.value)

numbers_ranked : (a b : ℕ) → sign_of (nat_cmp a b) ≡ compare_numbers a b
numbers_ranked a b = grind (arith, nat_tests)

then_ranked : (c d : Ordering) → sign_of (ordering_then c d) ≡ sign_of c and_then sign_of d
then_ranked Less d = refl
then_ranked Equal d = refl
then_ranked Greater d = refl

-- The derived order, in which none comes before any entry, is that of the rules.
entries_ranked : (x y : Option Entry) → sign_of (option_cmp entry_cmp x y) ≡ rank (found_of x) (found_of y)
entries_ranked None None = refl
entries_ranked None (Some y) = refl
entries_ranked (Some x) None = refl
entries_ranked (Some x) (Some y) =
    rw (then_ranked (nat_cmp x.key y.key) (nat_cmp x.value y.value), numbers_ranked x.key y.key, numbers_ranked x.value y.value)

ranked : (xs ys : List trees.Entry) → alike_heads (first_of xs) (first_of ys) ≡ false → compare xs ys ≡ rank (first_of xs) (first_of ys)
ranked [] [] h = refl
ranked [] (f ∷ ys) h = refl
ranked (e ∷ xs) [] h = refl
ranked (e ∷ xs) (f ∷ ys) h = then_decided (compare_entries e f) (compare xs ys) h

parts_ranked : {xs ys : List trees.Entry} {h : Heads} → Parts xs ys h → compare xs ys ≡ rank (found_of h.one) (found_of h.other)
parts_ranked P =
    rw
    (P.one_is, P.other_is, compare_front P.alike P.one P.other, P.one_first, P.other_first)
    (ranked P.one P.other (rw (← P.one_first, ← P.other_first) P.apart))

pub roots_compared : {ws : List ℕ} {i j : ℕ} {h : Heads} {d : Ordering} → PartsBelow ws i j h → d ≡ option_cmp entry_cmp h.one h.other → Compares ws i j d
roots_compared {ws} {h = h} B e =
    record { says = λ t u q w. parts_ranked (B.says (nodes ws) t u q w) ∙ sym (rw e (entries_ranked h.one h.other)) }

-- The same by cases: none against an entry, and two entries.
pub beginning_less : {ws : List ℕ} {i j : ℕ} {h : Heads} {y : Entry} → PartsBelow ws i j h → h.one ≡ None → h.other ≡ Some y → Compares ws i j Less
beginning_less B a b = roots_compared B (rw (a, b) refl)

pub both_compared : {ws : List ℕ} {i j : ℕ} {h : Heads} {x y : Entry} {d : Ordering} → PartsBelow ws i j h → h.one ≡ Some x → h.other ≡ Some y →
    d ≡ entry_cmp x y → Compares ws i j d
both_compared B a b e = roots_compared B (rw (a, b) e)
