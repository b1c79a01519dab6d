-- The model of a release by its cases: where no link is, where a name is left and where none is.
use mathlib.Core.Path.{◌≡◌, refl}
use mathlib.Core.List.{List}
use Prim.Native.Nat.{ℕ, zero, suc, ◌+◌, ◌-◌, ◌≤◌, ◌<◌}
use borrow.Author.Tests.{lt-ltb, le-ltb}
use Rattle.words.specs.Layout.{left, right, count}
use Rattle.words.specs.Model.{with_count, freeing, releasing, freed}

module _ (h : ℕ) (ws : List ℕ) where
  pub releasing_none : releasing h ws 0 ≡ ws
  unfolding releasing
  releasing_none = go h
    where
      go : (h : ℕ) → releasing h ws 0 ≡ ws
      go zero = refl
      go (suc h) = refl

  pub freed_none : freed h ws 0 ≡ 0
  unfolding freed
  freed_none = go h
    where
      go : (h : ℕ) → freed h ws 0 ≡ 0
      go zero = refl
      go (suc h) = refl

  module _ (i : ℕ) where
    pub releasing_more : 1 < count ws (suc i) → releasing (suc h) ws (suc i) ≡ with_count ws (suc i) (count ws (suc i) - 1)
    unfolding releasing
    releasing_more m = rw (lt-ltb 1 (count ws (suc i)) m)

    pub freed_more : 1 < count ws (suc i) → freed (suc h) ws (suc i) ≡ 0
    unfolding freed
    freed_more m = rw (lt-ltb 1 (count ws (suc i)) m)

    pub releasing_last : count ws (suc i) ≤ 1 →
        releasing (suc h) ws (suc i) ≡ releasing h (releasing h (freeing ws (suc i)) (left ws (suc i))) (right ws (suc i))
    unfolding releasing
    releasing_last m = rw (le-ltb 1 (count ws (suc i)) m)

    pub freed_last : count ws (suc i) ≤ 1 →
        freed (suc h) ws (suc i)
        ≡ freed h (freeing ws (suc i)) (left ws (suc i)) + freed h (releasing h (freeing ws (suc i)) (left ws (suc i))) (right ws (suc i)) + 1
    unfolding freed
    freed_last m = rw (le-ltb 1 (count ws (suc i)) m)
