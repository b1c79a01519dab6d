-- Bytes stored one after another.
use Prim.Native.Nat.{ℕ, suc, ◌+◌, ◌-◌, ◌/◌, ◌%◌, ◌≤◌, ◌<◌}
use mathlib.Core.Path.{◌≡◌, refl, ap, ◌∙◌, sym}
use mathlib.Core.List.{List, [], ◌∷◌, ◌++◌, append_assoc}
use native.Mathlib.Omega.{arith}
use native.Mathlib.Nat.{add-zero}
use borrow.Rule.Slice.PartMut.{put_mid}
use lib.ListN.{length, take, drop, set, length-append, length-set}
use lib.Seq.{sets, length-sets}
use Rattle.std.proofs.lemmas.List.Edits.{sets-eq, paste_all}
use Rattle.std.proofs.lemmas.Slice.{put_mid-paste}
use mir.Syntax.{w32}
use mir.Val.{Fits}
use Rattle.decimal.specs.Decimal.{digit, digits}
use Rattle.decimal.specs.Written.{HasRoom, Written}
use Rattle.decimal.proofs.Digits.{digits-one, digits_more, digits_short}

sets_append : (xs ys out : List ℕ) (at : ℕ) → sets out at (xs ++ ys) ≡ sets (sets out at xs) (at + length xs) ys
sets_append [] ys out at = rw add-zero
sets_append (x ∷ xs) ys out at =
    let e : suc at + length xs ≡ at + suc (length xs) = omega arith in
    sets_append xs ys (set out at x) (suc at) ∙ rw e

pub written_both : {a b c s t : List ℕ} {i j k : ℕ} → Written a i s b j → Written b j t c k → Written a i (s ++ t) c k
written_both {a} {b} {c} {s} {t} {i} {j} {k} w v =
    record {
      stored = v.stored ∙ ap (λ (o : List ℕ). sets o j t) w.stored ∙ ap (λ (n : ℕ). sets (sets a i s) n t) w.after ∙ sym (sets_append s t a i);
      after = omega (arith, w.after, v.after, length-append s t);
      inside = v.inside;
    }

one_byte : (out : List ℕ) (at b : ℕ) → at < length out → Written out at (b ∷ []) (set out at b) (at + 1)
one_byte out at b h = record { stored = refl; after = refl; inside = rw (length-set out at b) (omega arith) }

pub written_length : {a b s : List ℕ} {i j : ℕ} → Written a i s b j → length b ≡ length a
written_length {a} {b} {s} {i} {j} w = ap length w.stored ∙ length-sets a i s

-- A text, copied over the part that it takes.
pub copied : {out text new : List ℕ} {at : ℕ} → HasRoom out at text → new ≡ text →
    Written out at text (put_mid at (at + length text - at) out new) (at + length text)
copied {out} {text} {new} {at} r e =
    let s : put_mid at (at + length text - at) out new ≡ sets out at text =
    put_mid-paste at (at + length text - at) out new text (length text) e (omega arith) refl
    ∙ paste_all out at text (length text) refl
    ∙ sym (append_assoc (take at out) text (drop (at + length text) out))
    ∙ sym (sets-eq text out at r.room) in
    record { stored = s; after = refl; inside = rw (s, length-sets out at text) r.room }

-- Room for the parts of a text.

pub room_first : {out : List ℕ} (s t : List ℕ) {at : ℕ} → HasRoom out at (s ++ t) → HasRoom out at s
room_first s t h = record { room = omega (arith, h.room, length-append s t) }

pub room_rest : {a b s t : List ℕ} {i j : ℕ} → HasRoom a i (s ++ t) → Written a i s b j → HasRoom b j t
room_rest {a} {b} {s} {t} h w = record { room = omega (arith, h.room, length-append s t, w.after, written_length w) }

pub room_inside : {out rest : List ℕ} {at b : ℕ} → HasRoom out at (b ∷ rest) → at < length out
room_inside h = omega (arith, h.room)

-- A number, digit by digit.
module _ {out : List ℕ} {at : ℕ} (n : ℕ) (h : HasRoom out at (digits n)) where
  pub first_inside : n < 10 → at < length out
  first_inside s = room_inside (rw (digits-one n s) at h)

  pub higher_room : 10 ≤ n → HasRoom out at (digits (n / 10))
  higher_room s = room_first (digits (n / 10)) (digit (n % 10) ∷ []) (rw (digits_more n s) at h)

  pub last_inside : {out' : List ℕ} {next : ℕ} → 10 ≤ n → Written out at (digits (n / 10)) out' next → next < length out'
  last_inside s w = room_inside (room_rest (rw (digits_more n s) at h) w)

  pub one_written : {b : ℕ} → n < 10 → b ≡ digit n → Written out at (digits n) (set out at b) (at + 1)
  one_written {b} s e = rw (digits-one n s, e) (one_byte out at (digit n) (first_inside s))

  pub last_written : {out' : List ℕ} {next b : ℕ} → 10 ≤ n → b ≡ digit (n % 10) → Written out at (digits (n / 10)) out' next →
      Written out at (digits n) (set out' next b) (next + 1)
  last_written {out'} {next} {b} s e w =
      rw (digits_more n s, e) (written_both w (one_byte out' next (digit (n % 10)) (last_inside s w)))

-- A number of 32 bits has at most ten digits.
pub short : {n : ℕ} → Fits w32 n → length (digits n) ≤ 10
short {n} f = digits_short 9 n (omega (arith, f.fits))

-- Where the digits of a number go, and how far what was written reaches.

pub ruleset digit_places = (first_inside, last_inside, written_length)

pub ruleset reaches = (short, written_length)
