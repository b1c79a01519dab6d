-- Two listings whose next entries are the same.
use mathlib.Core.Path.{◌≡◌, refl, ap, sym}
use mathlib.Core.Bool.{true, true≢false}
use mathlib.Core.List.{List, [], ◌∷◌}
use Rattle.trees.specs.Tree as trees
use Rattle.trees.specs.Listing.{first_of}
use Rattle.trees.proofs.Orders.{entries_equal}
use Rattle.abreast.specs.Alike.{alike_heads}

-- Two listings that begin with one entry.
pub record Same (xs ys : List trees.Entry) : Type 0 where
  pub entry : trees.Entry
  pub one : List trees.Entry
  pub other : List trees.Entry
  pub one_is : xs ≡ entry ∷ one
  pub other_is : ys ≡ entry ∷ other

pub same_heads : (xs ys : List trees.Entry) → alike_heads (first_of xs) (first_of ys) ≡ true → Same xs ys
same_heads [] ys h = absurd (true≢false (sym h))
same_heads (e ∷ xs) [] h = absurd (true≢false (sym h))
same_heads (e ∷ xs) (f ∷ ys) h =
    record { entry = e; one = xs; other = ys; one_is = refl; other_is = ap (λ (x : trees.Entry). x ∷ ys) (sym (entries_equal e f h)) }
