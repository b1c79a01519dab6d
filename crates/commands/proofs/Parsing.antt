-- A line is taken apart into the command whose text it is, both ways.
use Prim.Native.Nat.{ℕ}
use mathlib.Core.Path.{◌≡◌, refl, ap, ◌∙◌, sym, subst}
use mathlib.Core.Bool.{Bool, true}
use mathlib.Core.List.{List, [], ◌∷◌, ◌++◌}
use native.Mathlib.Omega.{arith}
use lib.ListN.{length, get_or, take, drop}
use Rattle.std.specs.Prelude.{Option, None, Some, option_map, if◌then◌else◌}
use Rattle.std.specs.Str.{bytes_eq}
use Rattle.std.proofs.lemmas.Slice.Eq.{bytes_eq-Decides}
use Rattle.std.proofs.lemmas.List.{take-append-drop}
use Rattle.std.proofs.lemmas.Option.{none-some, same_Some}
use Rattle.heights.proofs.Choices.{fork}
use Rattle.decimal.specs.Decimal.{digits, digits_within}
use Rattle.commands.specs.declared.Command.{Command}
use Rattle.commands.specs.Parts.{fields}
use Rattle.commands.specs.Text.{name, numbers, spaced, text, Within, Said, Reads}
use Rattle.commands.proofs.Spaced.{fields-text, fields_is, IsFields}

-- A line that begins with the word is the word and what follows.

abbrev begins : List ℕ → List ℕ → Bool
begins word line = bytes_eq (take (length word) line) word

pub begins_is : {rest : List ℕ} (word line : List ℕ) → begins word line ≡ true → rest ≡ drop (length word) line → line ≡ word ++ rest
begins_is word line e r =
    let w : take (length word) line ≡ word = (bytes_eq-Decides (take (length word) line) word).0 e in
    sym (take-append-drop (length word) line) ∙ ap (λ (l : List ℕ). l ++ drop (length word) line) w ∙ ap (λ (l : List ℕ). word ++ l) (sym r)

-- The commands of the numbers that stand behind the words.

abbrev pub as_new : List ℕ → Command
as_new ns = Command.New

abbrev pub as_hold : List ℕ → Command
as_hold ns = Command.Hold (get_or ns 0 0)

abbrev pub as_set : List ℕ → Command
as_set ns = Command.Set (get_or ns 0 0) (get_or ns 1 0) (get_or ns 2 0)

abbrev pub as_cut : List ℕ → Command
as_cut ns = Command.Cut (get_or ns 0 0) (get_or ns 1 0)

abbrev pub as_drop : List ℕ → Command
as_drop ns = Command.Drop (get_or ns 0 0)

abbrev pub as_get : List ℕ → Command
as_get ns = Command.Get (get_or ns 0 0) (get_or ns 1 0)

abbrev pub as_list : List ℕ → Command
as_list ns = Command.List (get_or ns 0 0)

abbrev pub word_new : List ℕ
word_new = name (as_new [])

abbrev pub word_hold : List ℕ
word_hold = name (as_hold [])

abbrev pub word_set : List ℕ
word_set = name (as_set [])

abbrev pub word_cut : List ℕ
word_cut = name (as_cut [])

abbrev pub word_drop : List ℕ
word_drop = name (as_drop [])

abbrev pub word_get : List ℕ
word_get = name (as_get [])

abbrev pub word_list : List ℕ
word_list = name (as_list [])

-- The whole line, word by word.
read : List ℕ → Option Command
read line =
    if begins word_new line then option_map as_new (fields 0 (drop 3 line))
    else (if begins word_hold line then option_map as_hold (fields 1 (drop 4 line))
    else (if begins word_set line then option_map as_set (fields 3 (drop 3 line))
    else (if begins word_cut line then option_map as_cut (fields 2 (drop 3 line))
    else (if begins word_drop line then option_map as_drop (fields 1 (drop 4 line))
    else (if begins word_get line then option_map as_get (fields 2 (drop 3 line))
    else (if begins word_list line then option_map as_list (fields 1 (drop 4 line))
    else None))))))

read_text : (c : Command) → Within (numbers c) → read (text c) ≡ Some c
unfolding read spaced
read_text Command.New w = rw (fields-text [] w)
read_text (Command.Hold s) w = rw (fields-text (s ∷ []) w)
read_text (Command.Set s k v) w = rw (fields-text (s ∷ k ∷ v ∷ []) w)
read_text (Command.Cut s k) w = rw (fields-text (s ∷ k ∷ []) w)
read_text (Command.Drop s) w = rw (fields-text (s ∷ []) w)
read_text (Command.Get s k) w = rw (fields-text (s ∷ k ∷ []) w)
read_text (Command.List s) w = rw (fields-text (s ∷ []) w)

-- What is said has that text.
abbrev Is : List ℕ → Option Command → Type 0
Is line (Some c) = Said line (Some c)
Is line None = Unit {0}

no_number : (ns : List ℕ) → length ns ≡ 0 → [] ≡ ns
no_number [] e = refl
no_number (a ∷ ns) e = absurd (omega arith)

one_number : (ns : List ℕ) → length ns ≡ 1 → get_or ns 0 0 ∷ [] ≡ ns
one_number [] e = absurd (omega arith)
one_number (a ∷ ns) e = ap (λ (l : List ℕ). a ∷ l) (no_number ns (omega arith))

two_numbers : (ns : List ℕ) → length ns ≡ 2 → get_or ns 0 0 ∷ get_or ns 1 0 ∷ [] ≡ ns
two_numbers [] e = absurd (omega arith)
two_numbers (a ∷ ns) e = ap (λ (l : List ℕ). a ∷ l) (one_number ns (omega arith))

three_numbers : (ns : List ℕ) → length ns ≡ 3 → get_or ns 0 0 ∷ get_or ns 1 0 ∷ get_or ns 2 0 ∷ [] ≡ ns
three_numbers [] e = absurd (omega arith)
three_numbers (a ∷ ns) e = ap (λ (l : List ℕ). a ∷ l) (two_numbers ns (omega arith))

word_is : (f : List ℕ → Command) (k : ℕ) (line : List ℕ) → ((ns : List ℕ) → name (f ns) ≡ name (f [])) →
    ((ns : List ℕ) → length ns ≡ k → numbers (f ns) ≡ ns) → begins (name (f [])) line ≡ true →
    Is line (option_map f (fields k (drop (length (name (f []))) line)))
word_is f k line n m e = go (fields k rest) (fields_is k rest)
  where
    rest : List ℕ
    rest = drop (length (name (f []))) line

    go : (o : Option (List ℕ)) → IsFields k rest o → Is line (option_map f o)
    go None i = tt
    go (Some ns) i = (begins_is (name (f [])) line e refl ∙ rw (n ns, m ns i.2, i.0), rw (m ns i.2) i.1)

read_is : (line : List ℕ) → Is line (read line)
unfolding read
read_is line =
    fork (Is line) (begins word_new line) (word_is as_new 0 line (λ ns. refl) no_number) λ _.
    fork (Is line) (begins word_hold line) (word_is as_hold 1 line (λ ns. refl) one_number) λ _.
    fork (Is line) (begins word_set line) (word_is as_set 3 line (λ ns. refl) three_numbers) λ _.
    fork (Is line) (begins word_cut line) (word_is as_cut 2 line (λ ns. refl) two_numbers) λ _.
    fork (Is line) (begins word_drop line) (word_is as_drop 1 line (λ ns. refl) one_number) λ _.
    fork (Is line) (begins word_get line) (word_is as_get 2 line (λ ns. refl) two_numbers) λ _.
    fork (Is line) (begins word_list line) (word_is as_list 1 line (λ ns. refl) one_number) λ _. tt

-- The reading is the one that the contract asks.
reads : (line : List ℕ) → Reads line (read line)
reads line = record { said = go (read line) refl (read_is line) }
  where
    go : (r : Option Command) → read line ≡ r → Is line r → Said line r
    go (Some c) e i = i
    go None e i = λ c w t. none-some c (sym (sym (read_text c w) ∙ ap read (sym t) ∙ e))

as_read : {line : List ℕ} {r : Option Command} → read line ≡ r → Reads line r
as_read {line} e = subst (Reads line) e (reads line)

-- Each way in which the function returns: behind the word there are such numbers, or there are not.

module _ {line : List ℕ} {o : Option (List ℕ)} where
  pub wrong : {r : Option Command} (f : List ℕ → Command) → Reads line (option_map f o) → o ≡ None → r ≡ None → Reads line r
  wrong f w e m = subst (Reads line) (ap (option_map f) e ∙ sym m) w

  pub right : {ns : List ℕ} (f : List ℕ → Command) → Reads line (option_map f o) → o ≡ Some ns → Reads line (Some (f ns))
  right f w e = subst (Reads line) (ap (option_map f) e) w

module _ {line rest : List ℕ} {o : Option (List ℕ)} where
  pub new_read : line ≡ word_new ++ rest → o ≡ fields 0 rest → Reads line (option_map as_new o)
  unfolding read
  new_read e n = as_read (ap read e ∙ ap (option_map as_new) (sym n))

  pub hold_read : line ≡ word_hold ++ rest → o ≡ fields 1 rest → Reads line (option_map as_hold o)
  unfolding read
  hold_read e n = as_read (ap read e ∙ ap (option_map as_hold) (sym n))

  pub set_read : line ≡ word_set ++ rest → o ≡ fields 3 rest → Reads line (option_map as_set o)
  unfolding read
  set_read e n = as_read (ap read e ∙ ap (option_map as_set) (sym n))

  pub cut_read : line ≡ word_cut ++ rest → o ≡ fields 2 rest → Reads line (option_map as_cut o)
  unfolding read
  cut_read e n = as_read (ap read e ∙ ap (option_map as_cut) (sym n))

  pub drop_read : line ≡ word_drop ++ rest → o ≡ fields 1 rest → Reads line (option_map as_drop o)
  unfolding read
  drop_read e n = as_read (ap read e ∙ ap (option_map as_drop) (sym n))

  pub get_read : line ≡ word_get ++ rest → o ≡ fields 2 rest → Reads line (option_map as_get o)
  unfolding read
  get_read e n = as_read (ap read e ∙ ap (option_map as_get) (sym n))

  pub list_read : line ≡ word_list ++ rest → o ≡ fields 1 rest → Reads line (option_map as_list o)
  unfolding read
  list_read e n = as_read (ap read e ∙ ap (option_map as_list) (sym n))

-- The text of a command is no other command's: the reading is the only one.
pub one_command : (c d : Command) → Within (numbers c) → Within (numbers d) → text c ≡ text d → c ≡ d
one_command c d v w e = same_Some c d (sym (read_text c v) ∙ ap read e ∙ read_text d w)

-- The sample's line `set 0 2625619 7`, RULES 9.16.
example_set :
    text (Command.Set 0 2625619 7)
    ≡ 115 ∷ 101 ∷ 116 ∷ 32 ∷ 48 ∷ 32 ∷ 50 ∷ 54 ∷ 50 ∷ 53 ∷ 54 ∷ 49 ∷ 57 ∷ 32 ∷ 55 ∷ []
unfolding spaced digits digits_within
example_set = refl
