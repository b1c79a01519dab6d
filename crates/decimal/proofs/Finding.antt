-- A number found at a place of a line, by each way in which the functions return.
use Prim.Native.Nat.{ℕ, ◌+◌, ◌-◌, ◌*◌, ◌≤◌, ◌<◌}
use mathlib.Core.Path.{◌≡◌, refl, ap, ◌∙◌, sym}
use mathlib.Core.Bool.{Bool, true, false}
use mathlib.Core.List.{List, [], ◌∷◌}
use native.Mathlib.Omega.{arith}
use native.Mathlib.Numerals.{add-one}
use native.Mathlib.Decide.{dec_lt}
use lib.ListN.{length, get_or, drop, drop_of_length-le}
use lib.Seq.{drop-cons}
use Rattle.std.proofs.lemmas.Bool.Decides.{nat_tests}
use Rattle.std.specs.Prelude.{Option, None, Some, SomeIff, MatchOption}
use Rattle.std.specs.Char.{digit_value, NotDecimalDigitIn, IsDigitOf}
use Rattle.std.specs.Prelude.{if◌then◌else◌}
use Rattle.std.proofs.Common.{inl, inr}
use Rattle.std.proofs.lemmas.Option.{same_Some}
use Rattle.decimal.specs.Decimal.{largest}
use Rattle.decimal.specs.Numbers.{is_digit, digit_in, number_from, number, Finds}
use Rattle.decimal.proofs.Numbers.{from_digit, from_zero, from_large, from_other}

-- A digit, as the library reads one.

digit_yes : (b d : ℕ) → 48 ≤ b → b ≤ 57 → 48 + d ≡ b → is_digit b ≡ true
digit_yes b d h i e = grind (arith, nat_tests)

digit_no : (b : ℕ) → NotDecimalDigitIn 10 b → is_digit b ≡ false
digit_no b n = grind (arith, nat_tests, n)

pub digit_none : (line : List ℕ) (at : ℕ) → length line ≤ at → None ≡ digit_in (drop at line)
unfolding digit_in
digit_none line at h = rw (drop_of_length-le line h)

pub digit_read : (line : List ℕ) (at b : ℕ) (r : Option ℕ) → at < length line → b ≡ get_or line at 0 →
    SomeIff r (digit_value b < 10) (digit_value b) → MatchOption r (NotDecimalDigitIn 10 b) (IsDigitOf b) → r ≡ digit_in (drop at line)
unfolding digit_in
digit_read line at b None h e v k =
    let n : is_digit (get_or line at 0) ≡ false = rw (← e) (digit_no b k) in
    rw (drop-cons line at 0 h, n)
digit_read line at b (Some d) h e v k = go k
  where
    go : IsDigitOf b d → Some d ≡ digit_in (drop at line)
    go (inl i) =
        let n : is_digit (get_or line at 0) ≡ true = rw (← e) (digit_yes b d i.0.0 i.0.1 i.1) in
        let m : get_or line at 0 - 48 ≡ d = omega (arith, i.1) in
        rw (drop-cons line at 0 h, n, m)
    go (inr (inl i)) = absurd (omega (arith, v.0, v.1, i.0.0, i.1))
    go (inr (inr i)) = absurd (omega (arith, v.0, v.1, i.0.0, i.1))

-- A digit stands inside the line.
pub digit_inside : (line : List ℕ) (at d : ℕ) → digit_in (drop at line) ≡ Some d → at < length line
digit_inside line at d e = go (dec_lt at (length line))
  where
    go : Dec (at < length line) → at < length line
    go (yes h) = h
    go (no h) = let n : None ≡ Some d = digit_none line at (omega arith) ∙ e in cc

-- One step of reading a number, by what stands at its front.

no_digit : (v : ℕ) (text : List ℕ) → digit_in text ≡ None → number_from v text ≡ Some (v, text)
unfolding digit_in number_from
no_digit v [] e = refl
no_digit v (b ∷ rest) e = go (is_digit b) refl e
  where
    go : (t : Bool) → is_digit b ≡ t → (if t then Some (b - 48) else None) ≡ None → number_from v (b ∷ rest) ≡ Some (v, b ∷ rest)
    go true t e = cc
    go false t e = from_other v b rest t

none_first : (text : List ℕ) → digit_in text ≡ None → number text ≡ None
unfolding digit_in number
none_first [] e = refl
none_first (b ∷ rest) e = go (is_digit b) e
  where
    go : (t : Bool) → (if t then Some (b - 48) else None) ≡ None → (if t then number_from (b - 48) rest else None) ≡ None
    go true e = cc
    go false e = refl

-- The digit and what follows it.
record Front (text : List ℕ) (d : ℕ) : Type 0 where
  pub byte : ℕ
  pub rest : List ℕ
  pub text_is : text ≡ byte ∷ rest
  pub digit : is_digit byte ≡ true
  pub value : d ≡ byte - 48

front : (text : List ℕ) (d : ℕ) → digit_in text ≡ Some d → Front text d
unfolding digit_in
front [] d e = cc
front (b ∷ rest) d e = go (is_digit b) refl e
  where
    go : (t : Bool) → is_digit b ≡ t → (if t then Some (b - 48) else None) ≡ Some d → Front (b ∷ rest) d
    go true t e = record { byte = b; rest = rest; text_is = refl; digit = t; value = sym (same_Some (b - 48) d e) }
    go false t e = cc

-- What follows the digit is what stands at the next place.
rest_is : (line : List ℕ) (at d : ℕ) → digit_in (drop at line) ≡ Some d → (f : Front (drop at line) d) → f.rest ≡ drop (at + 1) line
rest_is line at d e f =
    let b = sym f.text_is ∙ drop-cons line at 0 (digit_inside line at d e) in
    rw add-one (cc)

one_more : {b d : ℕ} {text rest : List ℕ} (v : ℕ) → text ≡ b ∷ rest → is_digit b ≡ true → d ≡ b - 48 → 0 < v → v * 10 + d ≤ largest →
    number_from v text ≡ number_from (v * 10 + d) rest
one_more {b} {d} {text} {rest} v t e m p l = rw (t, m) (from_digit v b rest e p (omega arith))

first_is : {b d : ℕ} {text rest : List ℕ} → text ≡ b ∷ rest → is_digit b ≡ true → d ≡ b - 48 → number text ≡ number_from d rest
unfolding number
first_is t e m = rw (t, m, e)

module _ (line : List ℕ) (at value : ℕ) {r : Option ℕ} (e : r ≡ digit_in (drop at line)) where
  pub from_no_digit : r ≡ None → Finds line (Some (value, at)) (number_from value (drop at line))
  from_no_digit n = record { found = sym (no_digit value (drop at line) (sym e ∙ n)) }

  module _ {d : ℕ} (m : r ≡ Some d) where
    pub from_leading : value ≡ 0 → Finds line None (number_from value (drop at line))
    from_leading z =
        let f = front (drop at line) d (sym e ∙ m) in
        record { found = rw (f.text_is, z) (sym (from_zero f.byte f.rest f.digit)) }

    pub from_too_large : (value ≡ 0 → ⊥) → largest < value * 10 + d → Finds line None (number_from value (drop at line))
    from_too_large p l =
        let f = front (drop at line) d (sym e ∙ m) in
        record { found = rw f.text_is (sym (from_large value f.byte f.rest f.digit (omega arith) (omega (arith, f.value)))) }

    pub from_on : {o : Option (ℕ × ℕ)} → (value ≡ 0 → ⊥) → value * 10 + d ≤ largest → Finds line o (number_from (value * 10 + d) (drop (at + 1) line)) →
        Finds line o (number_from value (drop at line))
    from_on {o} p l w =
        let f = front (drop at line) d (sym e ∙ m) in
        let n = one_more value f.text_is f.digit f.value (omega arith) l in
        record { found = w.found ∙ ap (number_from (value * 10 + d)) (sym (rest_is line at d (sym e ∙ m) f)) ∙ sym n }

-- The first digit of a number.
module _ (line : List ℕ) (at : ℕ) {r : Option ℕ} (e : r ≡ digit_in (drop at line)) where
  pub number_no_digit : r ≡ None → Finds line None (number (drop at line))
  number_no_digit n = record { found = sym (none_first (drop at line) (sym e ∙ n)) }

  pub number_on : {d : ℕ} {o : Option (ℕ × ℕ)} → r ≡ Some d → Finds line o (number_from d (drop (at + 1) line)) → Finds line o (number (drop at line))
  number_on {d} {o} m w =
      let f = front (drop at line) d (sym e ∙ m) in
      record { found = w.found ∙ ap (number_from d) (sym (rest_is line at d (sym e ∙ m) f)) ∙ sym (first_is f.text_is f.digit f.value) }

-- What `number_from` and `number` take.

pub ruleset later_digits = (digit_inside, from_no_digit, from_leading, from_too_large, from_on)

pub ruleset first_digit = (digit_inside, number_no_digit, number_on)
