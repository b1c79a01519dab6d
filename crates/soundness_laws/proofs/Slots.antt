-- What is read of a slot, where the number n of nodes was read before it.
use mathlib.Core.Path.{◌≡◌, ◌∙◌, ap}
use mathlib.Core.List.{List}
use Prim.Native.Nat.{ℕ}
use Rattle.words.specs.Layout.{nodes, slot_root, slot_size}

module _ (ws : List ℕ) (s x n : ℕ) (en : n ≡ nodes ws) where
  pub root_read : x ≡ slot_root n ws s → x ≡ slot_root (nodes ws) ws s
  root_read e = e ∙ ap (λ (m : ℕ). slot_root m ws s) en

  pub size_read : x ≡ slot_size n ws s → x ≡ slot_size (nodes ws) ws s
  size_read e = e ∙ ap (λ (m : ℕ). slot_size m ws s) en
