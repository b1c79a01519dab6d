-- A summary that was packed is read back, and the others stay.
use mathlib.Core.Path.{◌≡◌, refl, ◌∙◌}
use mathlib.Core.List.{List}
use Prim.Native.Nat.{ℕ, ◌+◌, ◌*◌, ◌/◌, ◌%◌, ◌≤◌}
use native.Mathlib.Omega.{arith}
use lib.ListN.{length, get_or, set, length-set}
use lib.Seq.{get_or-set_same, get_or-set_other}
use Rattle.words.specs.Layout.{nodes}
use Rattle.soundness_laws.specs.Summary.{Brief, empty_brief}
use Rattle.soundness_laws.specs.Packed.{shape, dark, packed, briefs, Packable, Places, Room, Put}
use Rattle.soundness_laws.specs.Known.{Noted}

pub places : (ws memo ends : List ℕ) (x : ℕ) → Room ws memo ends → x ≤ nodes ws → Places memo ends x
places ws memo ends x r h = record { memo_room = omega (arith, r.memo_room); ends_room = omega (arith, r.ends_room) }

pub room_kept : (ws memo ends memo' ends' : List ℕ) → Room ws memo ends → length memo' ≡ length memo → length ends' ≡ length ends → Room ws memo' ends'
room_kept ws memo ends memo' ends' r m e = record { memo_room = omega (arith, r.memo_room); ends_room = omega (arith, r.ends_room) }

module _ (memo ends : List ℕ) (i : ℕ) (b : Brief) (p : Places memo ends i) (f : Packable b) where
  abbrev memo' : List ℕ
  memo' = set memo i (packed b)

  abbrev ends1 : List ℕ
  ends1 = set ends (2 * i) b.least

  abbrev ends' : List ℕ
  ends' = set ends1 (2 * i + 1) b.greatest

  word : get_or memo' i 0 ≡ packed b
  word = get_or-set_same memo i (packed b) 0 p.memo_room

  blacks_back : get_or memo' i 0 / shape ≡ b.blacks
  unfolding packed
  blacks_back = let w = word in omega (arith, f.size_low, f.color_low)

  size_back : get_or memo' i 0 % dark ≡ b.size
  unfolding packed
  size_back = let w = word in omega (arith, f.size_low, f.color_low)

  color_back : get_or memo' i 0 / dark % 2 ≡ b.color
  unfolding packed
  color_back = let w = word in omega (arith, f.size_low, f.color_low)

  least_back : get_or ends' (2 * i) 0 ≡ b.least
  least_back =
      get_or-set_other ends1 (2 * i + 1) (2 * i) b.greatest 0 (λ e. omega arith) ∙
      get_or-set_same ends (2 * i) b.least 0 (omega (arith, p.ends_room))

  greatest_back : get_or ends' (2 * i + 1) 0 ≡ b.greatest
  greatest_back = get_or-set_same ends1 (2 * i + 1) b.greatest 0 (omega (arith, p.ends_room, length-set ends (2 * i) b.least))

  back : briefs memo' ends' i ≡ b
  unfolding briefs
  back = rw (blacks_back, size_back, color_back, least_back, greatest_back)

  ends_other : (y : ℕ) → (y ≡ 2 * i → ⊥) → (y ≡ 2 * i + 1 → ⊥) → get_or ends' y 0 ≡ get_or ends y 0
  ends_other y g h = get_or-set_other ends1 (2 * i + 1) y b.greatest 0 h ∙ get_or-set_other ends (2 * i) y b.least 0 g

  others : (x : ℕ) → (x ≡ i → ⊥) → briefs memo' ends' x ≡ briefs memo ends x
  unfolding briefs
  others x g =
      let m = get_or-set_other memo i x (packed b) 0 g in
      let l = ends_other (2 * x) (λ e. g (omega arith)) (λ e. omega arith) in
      let r = ends_other (2 * x + 1) (λ e. omega arith) (λ e. g (omega arith)) in
      rw (m, l, r)

  packed_noted : Noted (briefs memo ends) (briefs memo' ends') i b
  packed_noted = record { here = back; other = others }

pub put_noted : (memo ends : List ℕ) (i : ℕ) (b : Brief) → Places memo ends i → Packable b → (w : ℕ) → w ≡ packed b → (memo' ends' : List ℕ) →
    Put memo ends i w b.least b.greatest memo' ends' → Noted (briefs memo ends) (briefs memo' ends') i b
put_noted memo ends i b p f w e memo' ends' u = rw (u.memo_is, u.ends_is, e) (packed_noted memo ends i b p f)

-- The empty tree's.
pub empty_noted : (memo ends : List ℕ) → Places memo ends 0 → (memo' ends' : List ℕ) → Put memo ends 0 (shape + dark) 0 0 memo' ends' →
    Noted (briefs memo ends) (briefs memo' ends') 0 empty_brief
unfolding packed
empty_noted memo ends p memo' ends' u =
    put_noted
    memo
    ends
    0
    empty_brief
    p
    (record { blacks_low = omega arith; size_low = omega arith; color_low = omega arith })
    (shape + dark)
    refl
    memo'
    ends'
    u
