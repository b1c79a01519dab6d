-- The slots, once all nodes are known.
use mathlib.Core.Path.{◌≡◌, refl, ap, sym, ◌∙◌}
use mathlib.Core.Bool.{Bool, true, false, not}
use mathlib.Core.Logic.{inl, inr, ⊎_elim}
use mathlib.Core.List.{List}
use Prim.Native.Nat.{ℕ, ◌+◌, ◌/◌, ◌%◌, ◌≤◌, ◌<◌}
use native.Mathlib.Omega.{arith}
use lib.ListN.{get_or}
use lib.Dec.{eqb}
use borrow.Author.Count.{below_more}
use Rattle.trees.specs.Tree.{red, Tree, size, is_red}
use Rattle.trees.specs.Shape.{Fine}
use Rattle.words.specs.Layout.{nodes, slots, code, slot_root, slot_size, not_held}
use Rattle.words.specs.Reads.{Reads, Held}
use Rattle.words.specs.Owned.{Version, Sized}
use Rattle.words.proofs.Holding.{reads_same, reads_link}
use Rattle.soundness_laws.specs.Answer.{Decides}
use Rattle.soundness_laws.specs.Summary.{Brief, Tells}
use Rattle.soundness_laws.proofs.Saying.{say_no, say_equal}
use Rattle.soundness_laws.proofs.Slots.{root_read, size_read}
use Rattle.soundness_laws.proofs.Joining.{shade_black, black_shade}
use Rattle.soundness_laws.specs.Packed.{dark, briefs}
use Rattle.soundness_laws.specs.Whole.{SlotRight}
use Rattle.soundness_laws.specs.Known.{Known, AllKnown}

-- n is the number of nodes, x the root and z the size of slot s, as they were read.
module _ (ws : List ℕ) (B : ℕ → Brief) (A : AllKnown ws B) (s : ℕ) (l : s < slots ws) (n : ℕ) (en : n ≡ nodes ws) (x : ℕ) (er : x ≡ slot_root n ws s) where
  ex : x ≡ slot_root (nodes ws) ws s
  ex = root_read ws s x n en er

  module _ (e : x ≡ not_held) (z : ℕ) (es : z ≡ slot_size n ws s) where
    ez : z ≡ slot_size (nodes ws) ws s
    ez = size_read ws s z n en es

    pub free_right : Decides (eqb z 0) (SlotRight ws s)
    free_right = say_equal (λ h. record { version = inl (sym ex ∙ e, sym ez ∙ h) }) (λ f v. go f v.version)
      where
        go : (z ≡ 0 → ⊥) → Version Sized (nodes ws) ws s → ⊥
        go f (inl w) = f (ez ∙ w.1)
        go f (inr w) =
            let m = A.within.n_high in
            ⊎_elim (λ q. omega (arith, ex)) (λ b. omega (arith, ex, b.1)) (reads_link (nodes ws) ws (slot_root (nodes ws) ws s) w.0 w.1)

  module _ (f : x ≡ not_held → ⊥) where
    used : Held ws s
    used = record { inside = l; held = λ e. f (ex ∙ e) }

    root_known : Known ws B x
    root_known = rw ex (A.roots s used)

    module _ (b : Brief) (eb : b ≡ B x) where
      there : (t : Tree) × Reads (nodes ws) ws (slot_root (nodes ws) ws s) t × Tells b t
      there = let K = root_known in rw (← ex, eb) (K.tree, K.holds, K.tells)

      -- Any version of the slot is this tree.
      version_is : SlotRight ws s → Fine there.0 × (slot_size (nodes ws) ws s ≡ size there.0)
      version_is v = go v.version
        where
          go : Version Sized (nodes ws) ws s → Fine there.0 × (slot_size (nodes ws) ws s ≡ size there.0)
          go (inl w) = absurd (f (ex ∙ w.0))
          go (inr w) =
              let e = reads_same (nodes ws) ws (slot_root (nodes ws) ws s) there.0 w.0 there.1 w.1 in
              (rw e w.2.0, w.2.1 ∙ ap size (sym e))

      root_red : b.color ≡ code red → Decides false (SlotRight ws s)
      root_red e =
          say_no (λ v.
          let w = (version_is v).0.root in
          omega (arith, there.2.color_is, black_shade (is_red there.0) w))

      module _ (z : ℕ) (es : z ≡ slot_size n ws s) where
        size_is : z ≡ slot_size (nodes ws) ws s
        size_is = size_read ws s z n en es

        slot_right : (b.color ≡ code red → ⊥) → Decides (eqb z b.size) (SlotRight ws s)
        slot_right g = say_equal yes_right (λ h v. h (size_is ∙ (version_is v).1 ∙ sym there.2.size_is))
          where
            yes_right : z ≡ b.size → SlotRight ws s
            yes_right h =
                let K = there in
                record {
                  version = inr (
                    K.0,
                    K.1,
                    (
                      record {
                        ordered = K.2.good.ordered;
                        root = shade_black (is_red K.0) (λ w. g (K.2.color_is ∙ w));
                        blacks = K.2.good.blacks;
                        shape = K.2.good.shape;
                      },
                      sym size_is ∙ h ∙ K.2.size_is,
                    ),
                  );
                }

-- Of the v slots those below s have been tested.
pub record SlotsTo (ws : List ℕ) (v s : ℕ) : Type 0 where
  pub v_is : v ≡ slots ws
  pub high : s ≤ v
  pub are : (k : ℕ) → k < s → SlotRight ws k

module _ (ws : List ℕ) (v s : ℕ) (t : SlotsTo ws v s) where
  module _ (l : s < v) (r : Bool) (d : Decides r (SlotRight ws s)) where
    pub slots_more : r ≡ true → SlotsTo ws v (s + 1)
    slots_more e = record { v_is = t.v_is; high = omega arith; are = below_more (SlotRight ws) s t.are (d.yes e) }

-- The same from the word t of the root x.
module _ (ws memo ends : List ℕ) (A : AllKnown ws (briefs memo ends)) (s : ℕ) (l : s < slots ws) (n : ℕ) (en : n ≡ nodes ws) (x : ℕ)
    (er : x ≡ slot_root n ws s) (f : x ≡ not_held → ⊥) (t : ℕ) (et : t ≡ get_or memo x 0) where
  pub word_red : t / dark % 2 ≡ code red → Decides (not (eqb (t / dark % 2) (code red))) (SlotRight ws s)
  unfolding briefs
  word_red e = rw e (root_red ws (briefs memo ends) A s l n en x er f (briefs memo ends x) refl (rw et at e))

  module _ (z : ℕ) (es : z ≡ slot_size n ws s) where
    pub word_right : (t / dark % 2 ≡ code red → ⊥) → Decides (eqb z (t % dark)) (SlotRight ws s)
    unfolding briefs
    word_right g = rw et (slot_right ws (briefs memo ends) A s l n en x er f (briefs memo ends x) refl z es (λ e. g (rw et e)))
