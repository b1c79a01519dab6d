-- The outer loop: both sides pass over what is alike.
use mathlib.Core.Path.{◌≡◌, ap, sym, ◌∙◌}
use mathlib.Core.Bool.{Bool, true, false}
use mathlib.Core.List.{List, [], ◌∷◌, ◌++◌, append_assoc}
use Prim.Native.Nat.{ℕ}
use native.Mathlib.Omega.{arith}
use Rattle.trees.specs.Tree.{Entry}
use Rattle.std.specs.Prelude.{Option}
use Rattle.arena.specs.declared.Entry as arena
use Rattle.lookup.specs.Finding.{found_of}
use Rattle.abreast.specs.declared.Side.{Side}
use Rattle.abreast.specs.Alike.{alike_heads}
use Rattle.abreast.specs.Sides.{waiting, ahead, Topped, Stands, Tops, Pops, Meets, Parts}
use Rattle.abreast.proofs.Tops.{topped}
use Rattle.abreast.proofs.Entries.{Same, same_heads}

no_top : (ws a : List ℕ) (p : ℕ) {e : Entry} {xs : List Entry} → waiting ws a p ≡ e ∷ xs → p ≡ 0 → ⊥
unfolding waiting
no_top ws a p {e} {xs} h z =
    let w : waiting ws a 0 ≡ e ∷ xs = rw z at h in
    let y : ◌≡◌ {A = ℕ} 0 1 = cc in
    omega arith

-- Beyond what is alike twice, and one entry.
beyond : {xs ys zs ts : List Entry} {e : Entry} (us vs : List Entry) → xs ≡ us ++ ys → ys ≡ vs ++ zs → zs ≡ e ∷ ts → xs ≡ (us ++ (vs ++ (e ∷ []))) ++ ts
beyond us vs h g k = rw (h, g, k) (simp append_assoc)

-- Two listings, of which the two sides have passed over what is alike.
pub record Passes (xs ys : List Entry) (ws : List ℕ) (s t : Side) : Type 0 where
  pub one : Stands ws s
  pub other : Stands ws t
  pub alike : List Entry
  pub one_is : xs ≡ alike ++ ahead ws s
  pub other_is : ys ≡ alike ++ ahead ws t

module _ {ws : List ℕ} {s t s' t' : Side} {one other : Option arena.Entry} {r : Bool}
    (M : Meets ws s t s' t') (h : Tops ws s' one) (g : Tops ws t' other)
    (k : r ≡ alike_heads (found_of one) (found_of other)) where
  -- What follows on either stack.
  abbrev pub front : List Entry
  front = waiting ws s'.stack s'.depth

  abbrev pub back : List Entry
  back = waiting ws t'.stack t'.depth

  pub passes_end : {xs ys : List Entry} → Passes xs ys ws s t → r ≡ false → Parts xs ys (record { one = one; other = other })
  passes_end P e =
      record {
        alike = P.alike ++ M.alike;
        one = front;
        other = back;
        one_is = P.one_is ∙ ap (λ (l : List Entry). P.alike ++ l) M.one_is ∙ sym (append_assoc P.alike M.alike front);
        other_is = P.other_is ∙ ap (λ (l : List Entry). P.alike ++ l) M.other_is ∙ sym (append_assoc P.alike M.alike back);
        one_first = h.first;
        other_first = g.first;
        apart = sym k ∙ e;
      }

  module _ (e : r ≡ true) where
    both : Same front back
    both = same_heads front back (rw (← h.first, ← g.first) (sym k ∙ e))

    pub one_topped : Topped ws s'.stack s'.depth
    one_topped = topped M.one (no_top ws s'.stack s'.depth both.one_is)

    pub other_topped : Topped ws t'.stack t'.depth
    other_topped = topped M.other (no_top ws t'.stack t'.depth both.other_is)

    module _ {x : Side} (X : Pops ws s' x) where
      one_next : front ≡ both.entry ∷ ahead ws x
      one_next = let z = X.waiting_is in let y = both.one_is in cc

      module _ {y : Side} (Y : Pops ws t' y) where
        other_next : back ≡ both.entry ∷ ahead ws y
        other_next = let z = Y.waiting_is in let y = both.other_is in cc

        pub passes_more : {xs ys : List Entry} → Passes xs ys ws s t → Passes xs ys ws x y
        passes_more P =
            record {
              one = X.stands;
              other = Y.stands;
              alike = P.alike ++ (M.alike ++ (both.entry ∷ []));
              one_is = beyond P.alike M.alike P.one_is M.one_is one_next;
              other_is = beyond P.alike M.alike P.other_is M.other_is other_next;
            }

-- Either stack has a top; which one has to go, the listings show.
pub ruleset both_topped = (one_topped, other_topped)
