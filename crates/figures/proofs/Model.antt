-- What the calls of the figures do, computed on plain trees with a free number; and that every outcome is what is computed, and one exists.
use mathlib.Core.Path.{◌≡◌, refl, ap, sym, ◌∙◌, subst}
use mathlib.Core.Bool.{Bool, true, false}
use mathlib.Core.List.{List}
use mathlib.Core.Option.{Option, none, some}
use Prim.Native.Nat.{ℕ, suc, ◌+◌, ◌-◌, ◌≤◌, ◌<◌}
use native.Mathlib.Omega.{arith}
use lib.Dec.{eqb, ltb}
use lib.ListN.{length}
use borrow.Author.Tests.{ltb-true, ltb-false, eqb-true, eqb-false}
use Rattle.std.specs.Prelude.{if◌then◌else◌}
use Rattle.heights.specs.Height.{insert_reserve, remove_reserve}
use Rattle.trees.specs.Tree.{Entry, Tree, leaf, listing, size, made}
use Rattle.trees.specs.Listing.{find}
use Rattle.trees.specs.Range.{End, Range, next, is_bad_range}
use Rattle.trees.specs.Difference.{next_difference}
use Rattle.trees.specs.Edit.{Edit, setting, cutting, edit}
use Rattle.words.specs.Layout.{slots}
use Rattle.words.specs.Reads.{Held}
use Rattle.words.specs.Sound.{Limits, Sound, free_number}
use Rattle.words.specs.Fresh.{was_free}
use Rattle.calls.specs.Refusal.{Refusal}
use Rattle.calls.specs.Reading.{or_refused}
use Rattle.calls.specs.Call.{Walk, Differences, Call, Answer}
use Rattle.calls.specs.Effect.{Effect, effect}
use Rattle.calls.specs.Version.{VersionIs, Lowest}
use Rattle.calls.specs.Writing.{Formatted, HandsOutRoot, Edited, Removed}
use Rattle.calls.specs.Outcome.{Accepted, Outcome}
use Rattle.calls.proofs.Versions.{version_one, version_size}
use Rattle.calls.proofs.OneSlot.{OneSlot, same_slots, held_before, carried, hands_out_one}
use Rattle.calls.proofs.Sharing.{no_root, shared_one, shared_version, shared_free}
use Rattle.calls.proofs.Formatting.{format_sound, format_free, format_not_held}
use Rattle.calls.proofs.FormatExists.{format_exists}
use Rattle.calls.proofs.Histories.{answer_accepts, answer_refuses}
use Rattle.calls.proofs.Determined.{determined}
use Rattle.calls.proofs.ReadingOutcomes.{free_nodes_outcome, size_outcome, bad_range_outcome, next_outcome, difference_outcome}
use Rattle.calls.proofs.ReadingLaws.{readers_write_nothing}
use Rattle.calls.proofs.WritingOutcomes.{new_outcome, insert_full, remove_full}
use Rattle.calls.proofs.Taken.{takes}
use Rattle.figures.specs.Figures.{bare}
use Rattle.figures.proofs.Places.{listing-bare, size-bare, bare-relabel, made_edit_bare, bare_edit_bare}
use Rattle.figures.proofs.Existing.{insert_exists, remove_exists}

-- No call of the figures gives a slot up, so that slots are handed out in order: those below `held` hold the trees, bare.
pub record State : Type 0 where
  pub v : ℕ
  pub free : ℕ
  pub held : ℕ
  pub trees : ℕ → Tree

pub record Played : Type 0 where
  pub answer : Answer
  pub state : State

-- A call that leaves all as it was, and one that hands out a slot for the tree u, whose fresh nodes it takes.
abbrev told : State → Answer → Played
told st a = record { answer = a; state = st }

abbrev hands : State → Tree → Played
hands st u =
    record {
      answer = Answer.slot st.held;
      state = record {
        v = st.v;
        free = st.free - made u;
        held = suc st.held;
        trees = λ s. if eqb s st.held then bare u else st.trees s;
      };
    }

abbrev reserving : State → ℕ → Tree → Played
reserving st m u = if ltb st.free m then told st (Answer.refused Refusal.no_room) else hands st u

abbrev walked : End → Range → List Entry → Answer
walked d w xs =
    if is_bad_range w.start w.end then Answer.refused Refusal.bad_range
    else or_refused Refusal.ended Answer.entry (next d w xs)

-- Nothing is played where a named slot is not held, all slots are, or the key to remove is absent: that is in no figure.
abbrev when : Bool → Option Played → Option Played
when b x = if b then x else none

abbrev found : Option Entry → Played → Option Played
found none p = none
found (some e) p = some p

abbrev pub play : State → Call → Option Played
play st (Call.format n v) = none
play st Call.new = when (ltb st.held st.v) (some (hands st leaf))
play st (Call.hold s) = none
play st (Call.release s) = none
play st (Call.size s) = when (ltb s st.held) (some (told st (Answer.number (size (st.trees s)))))
play st Call.free_nodes = some (told st (Answer.number st.free))
play st (Call.get s k) = none
play st (Call.first s) = none
play st (Call.last s) = none
play st (Call.insert s e) =
    let t = st.trees s in
    when (ltb s st.held) (when (ltb st.held st.v) (some (reserving st (insert_reserve (size t)) (edit (setting e) t))))
play st (Call.remove s k) =
    let t = st.trees s in
    when
    (ltb s st.held)
    (when (ltb st.held st.v) (found (find k (listing t)) (reserving st (remove_reserve (size t)) (edit (cutting k) t))))
play st (Call.compare s t) = none
play st (Call.equal s t) = none
play st (Call.step d w) = when (ltb w.slot st.held) (some (told st (walked d w.range (listing (st.trees w.slot)))))
play st (Call.rescale_mark s) = none
play st Call.soundness_test = none
play st (Call.difference x) =
    let t = st.trees x.first in
    let u = st.trees x.second in
    when
    (ltb x.first st.held)
    (when (ltb x.second st.held) (some (told st (or_refused Refusal.ended Answer.difference (next_difference x.given (listing t) (listing u))))))

-- After a format all nodes are free and no slot is held.
abbrev pub start : ℕ → ℕ → State
start n v = record { v = v; free = n; held = 0; trees = λ s. leaf }

-- The words show the state.
pub record Shown (ws : List ℕ) (s : ℕ) (t : Tree) : Type 0 where
  pub tree : Tree
  pub version : VersionIs ws s tree
  pub bare_is : bare tree ≡ t

pub record Shows (ws : List ℕ) (st : State) : Type 0 where
  pub sound : Sound ws
  pub v_is : slots ws ≡ st.v
  pub free_is : (S : Sound ws) → free_number S ≡ st.free
  pub shown : (s : ℕ) → s < st.held → Shown ws s (st.trees s)
  pub unheld : (s : ℕ) → st.held ≤ s → Held ws s → ⊥

-- What is played is an outcome, and whatever outcome the call has, it answers so and leaves words that show the state that is played.
pub record Agrees (c : Call) (ws : List ℕ) (p : Played) : Type 0 where
  pub exists : (w : List ℕ) × Outcome c ws p.answer w
  pub all : (a : Answer) (w : List ℕ) → Outcome c ws a w → (a ≡ p.answer) × Shows w p.state

module _ {c : Call} {ws : List ℕ} where
  -- Since outcomes are determined it is enough to look at those with the answer that is played.
  agrees : {p : Played} {w : List ℕ} → Outcome c ws p.answer w → ((w : List ℕ) → Outcome c ws p.answer w → Shows w p.state) →
      Agrees c ws p
  agrees {p} {w} o f =
      record {
        exists = (w, o);
        all = λ a w' o'. let e = (determined o' o).0 in (e, f w' (subst (λ (b : Answer). Outcome c ws b w') e o'));
      }

  refused_agrees : {st : State} {r : Refusal} → Shows ws st → Outcome c ws (Answer.refused r) ws → Agrees c ws (told st (Answer.refused r))
  refused_agrees K o = agrees o (λ w o'. rw (answer_refuses o').1 K)

  reads_agrees : {st : State} {a : Answer} → Shows ws st → effect c ≡ Effect.reads → Outcome c ws a ws → Agrees c ws (told st a)
  reads_agrees K e o = agrees o (λ w o'. rw (readers_write_nothing e o') K)

  -- A call that answers a slot was accepted.
  slot_accepts : {q : ℕ} {w : List ℕ} → Outcome c ws (Answer.slot q) w → Accepted c ws (Answer.slot q) w
  slot_accepts o = answer_accepts o λ r e. let z : ◌≡◌ {A = ℕ} 0 1 = cc in omega arith

-- Format, on any old contents.
pub format_plays : {n v : ℕ} {old : List ℕ} → Limits n v (length old) →
    Agrees (Call.format n v) old (record { answer = Answer.done; state = start n v })
format_plays {n} {v} {old} l =
    agrees (format_exists n v old l) λ w o. go w (answer_accepts o (λ r e. let z : ◌≡◌ {A = ℕ} 0 1 = cc in omega arith))
  where
    go : (w : List ℕ) → Formatted n v old Answer.done w → Shows w (start n v)
    go w f =
        record {
          sound = format_sound f;
          v_is = f.v_is;
          free_is = format_free f;
          shown = λ s p. absurd (omega arith);
          unheld = λ s p. format_not_held f s;
        }

module _ {ws : List ℕ} {st : State} (K : Shows ws st) where
  next_lowest : st.held < st.v → Lowest ws st.held
  next_lowest h =
      record {
        below = omega (arith, K.v_is);
        unheld = K.unheld st.held (omega arith);
        lower_held = λ s p. (K.shown s p).version.held;
      }

  size_is : (s : ℕ) (p : s < st.held) → size (K.shown s p).tree ≡ size (st.trees s)
  size_is s p = sym (size-bare (K.shown s p).tree) ∙ ap size (K.shown s p).bare_is

  listing_is : (s : ℕ) (p : s < st.held) → listing (K.shown s p).tree ≡ listing (st.trees s)
  listing_is s p = sym (listing-bare (K.shown s p).tree) ∙ ap listing (K.shown s p).bare_is

  -- The next slot is handed out for a tree t that is u, bare; every other slot is as it was.
  module _ {w : List ℕ} {t : Tree} (u : Tree) (d : OneSlot st.held ws w) (x : VersionIs w st.held t) (e : bare t ≡ bare u)
      (f : (S : Sound w) → free_number S + made u ≡ st.free) where
    handed : Shows w (hands st u).state
    handed =
        record {
          sound = d.sound;
          v_is = same_slots d.others ∙ K.v_is;
          free_is = λ S. omega (arith, f S);
          shown = λ s p. go s p (eqb s st.held) refl;
          unheld = λ s p h. K.unheld s (omega arith) (held_before d.others s (λ q. omega arith) h);
        }
      where
        go : (s : ℕ) → s < suc st.held → (b : Bool) → eqb s st.held ≡ b → Shown w s (if b then bare u else st.trees s)
        go s p true q = rw (eqb-true s st.held q) (record { tree = t; version = x; bare_is = e })
        go s p false q =
            let n = eqb-false s st.held q in
            let k = K.shown s (omega arith) in
            record { tree = k.tree; version = carried d n k.version; bare_is = k.bare_is }

  new_plays : st.held < st.v → Agrees Call.new ws (hands st leaf)
  new_plays h = agrees (new_outcome K.sound (next_lowest h)) (λ w o. go w (slot_accepts o))
    where
      go : (w : List ℕ) → HandsOutRoot ws 0 0 (Answer.slot st.held) w → Shows w (hands st leaf).state
      go w g =
          let q : g.out ≡ st.held = (let z = g.answer in cc) in
          rw
          (g.words_are, q)
          (handed
          leaf
          (shared_one ws 0 0 st.held leaf K.sound (next_lowest h) (no_root ws))
          (shared_version ws 0 0 st.held leaf K.sound (next_lowest h) (no_root ws))
          refl
          (λ S. omega (arith, shared_free ws 0 0 st.held leaf K.sound (next_lowest h) (no_root ws) S, K.free_is K.sound)))

  -- Insert, and remove of a present key.
  edited_shows : {s : ℕ} {d : Edit} {w : List ℕ} → s < st.held → Edited ws s d (Answer.slot st.held) w →
      Shows w (hands st (edit d (st.trees s))).state
  edited_shows {s} {d} {w} p g =
      let o = g.hands_out in
      let q : o.out ≡ st.held = (let z = o.answer in cc) in
      let b : bare g.parent ≡ st.trees s = ap bare (version_one g.version (K.shown s p).version) ∙ (K.shown s p).bare_is in
      handed
      (edit d (st.trees s))
      (subst (λ (i : ℕ). OneSlot i ws w) q (hands_out_one o))
      (subst (λ (i : ℕ). VersionIs w i o.tree) q o.version)
      (sym (bare-relabel (was_free ws) o.tree) ∙ ap bare o.tree_is ∙ bare_edit_bare d g.version ∙
      ap (λ (t : Tree). bare (edit d t)) b)
      (λ S. omega (
        arith,
        takes o K.sound S,
        K.free_is K.sound,
        made_edit_bare d g.version,
        ap (λ (t : Tree). made (edit d t)) b,
      ))

  removed_shows : {s k : ℕ} {w : List ℕ} {e : Entry} → s < st.held → find k (listing (st.trees s)) ≡ some e →
      Removed ws s k (Answer.slot st.held) w → Shows w (hands st (edit (cutting k) (st.trees s))).state
  removed_shows p f (Removed.present g h) = edited_shows p g
  removed_shows {s} {k} p f (Removed.absent x h g) =
      absurd
      (let z = ap (λ (t : Tree). find k (listing t)) (version_one x (K.shown s p).version) in
      let y = ap (find k) (listing_is s p) in
      let i : ◌≡◌ {A = ℕ} 0 1 = cc in
      omega arith)

  reserved : {c : Call} (m : ℕ) (u : Tree) → (st.free < m → Outcome c ws (Answer.refused Refusal.no_room) ws) →
      (m ≤ st.free → Agrees c ws (hands st u)) → Agrees c ws (reserving st m u)
  reserved {c} m u short enough = go (ltb st.free m) refl
    where
      go : (b : Bool) → ltb st.free m ≡ b → Agrees c ws (if b then told st (Answer.refused Refusal.no_room) else hands st u)
      go true q = refused_agrees K (short (ltb-true st.free m q))
      go false q = enough (let z = ltb-false st.free m q in omega arith)

  insert_plays : (s : ℕ) (e : Entry) → s < st.held → st.held < st.v →
      Agrees (Call.insert s e) ws (reserving st (insert_reserve (size (st.trees s))) (edit (setting e) (st.trees s)))
  insert_plays s e p h =
      let x = (K.shown s p).version in
      let f = K.free_is K.sound in
      let z = ap insert_reserve (size_is s p) in
      reserved
      (insert_reserve (size (st.trees s)))
      (edit (setting e) (st.trees s))
      (λ q. insert_full K.sound (next_lowest h) x e (omega arith))
      (λ q.
      agrees
      (insert_exists K.sound x (next_lowest h) e (omega arith)).1
      (λ w o. edited_shows p (slot_accepts o)))

  remove_plays : (s k : ℕ) {e : Entry} → s < st.held → st.held < st.v → find k (listing (st.trees s)) ≡ some e →
      Agrees (Call.remove s k) ws (reserving st (remove_reserve (size (st.trees s))) (edit (cutting k) (st.trees s)))
  remove_plays s k p h f =
      let x = (K.shown s p).version in
      let m = K.free_is K.sound in
      let z = ap remove_reserve (size_is s p) in
      let i = ap (find k) (listing_is s p) ∙ f in
      reserved
      (remove_reserve (size (st.trees s)))
      (edit (cutting k) (st.trees s))
      (λ q. remove_full K.sound (next_lowest h) x k i (omega arith))
      (λ q.
      agrees
      (remove_exists K.sound x (next_lowest h) k i (omega arith)).1
      (λ w o. removed_shows p f (slot_accepts o)))

  step_plays : (d : End) (w : Walk) → w.slot < st.held →
      Agrees (Call.step d w) ws (told st (walked d w.range (listing (st.trees w.slot))))
  step_plays d w p =
      let answers : List Entry → Type 0 = λ xs. Outcome (Call.step d w) ws (walked d w.range xs) ws in
      reads_agrees K refl (subst answers (listing_is w.slot p) (go (is_bad_range w.range.start w.range.end) refl))
    where
      x : VersionIs ws w.slot (K.shown w.slot p).tree
      x = (K.shown w.slot p).version

      after_range : Answer
      after_range = or_refused Refusal.ended Answer.entry (next d w.range (listing (K.shown w.slot p).tree))

      go : (b : Bool) → is_bad_range w.range.start w.range.end ≡ b →
          Outcome (Call.step d w) ws (if b then Answer.refused Refusal.bad_range else after_range) ws
      go true q = bad_range_outcome K.sound x d q
      go false q = next_outcome K.sound x d q

  difference_plays : (x : Differences) → x.first < st.held → x.second < st.held →
      Agrees
      (Call.difference x)
      ws
      (told
      st
      (or_refused Refusal.ended Answer.difference (next_difference x.given (listing (st.trees x.first)) (listing (st.trees x.second)))))
  difference_plays x p q =
      let answers : List Entry → List Entry → Type 0 =
      λ xs ys. Outcome (Call.difference x) ws (or_refused Refusal.ended Answer.difference (next_difference x.given xs ys)) ws in
      let o = difference_outcome K.sound (K.shown x.first p).version (K.shown x.second q).version in
      let one : answers (listing (st.trees x.first)) (listing (K.shown x.second q).tree) =
      subst (λ xs. answers xs (listing (K.shown x.second q).tree)) (listing_is x.first p) o in
      reads_agrees K refl (subst (λ ys. answers (listing (st.trees x.first)) ys) (listing_is x.second q) one)

  size_plays : (s : ℕ) → s < st.held → Agrees (Call.size s) ws (told st (Answer.number (size (st.trees s))))
  size_plays s p =
      let x = (K.shown s p).version in
      let answers : ℕ → Type 0 = λ n. Outcome (Call.size s) ws (Answer.number n) ws in
      reads_agrees K refl (subst answers (version_size K.sound x ∙ size_is s p) (size_outcome K.sound x))

  free_plays : Agrees Call.free_nodes ws (told st (Answer.number st.free))
  free_plays =
      let answers : ℕ → Type 0 = λ n. Outcome Call.free_nodes ws (Answer.number n) ws in
      reads_agrees K refl (subst answers (K.free_is K.sound) (free_nodes_outcome K.sound))

  -- What is played agrees.
  module _ {c : Call} {p : Played} where
    only : {q : Played} → some q ≡ some p → Agrees c ws q → Agrees c ws p
    only e g = subst (Agrees c ws) (cc) g

    never : ◌≡◌ {A = Option Played} none (some p) → Agrees c ws p
    never e = absurd (let z : ◌≡◌ {A = ℕ} 0 1 = cc in omega arith)

    under : (a b : ℕ) {x : Option Played} → when (ltb a b) x ≡ some p → (a < b → x ≡ some p → Agrees c ws p) → Agrees c ws p
    under a b {x} e f = go (ltb a b) refl e
      where
        go : (t : Bool) → ltb a b ≡ t → when t x ≡ some p → Agrees c ws p
        go true q e = f (ltb-true a b q) e
        go false q e = never e

    found_only : (o : Option Entry) {q : Played} → found o q ≡ some p → ((e : Entry) → o ≡ some e → Agrees c ws q) → Agrees c ws p
    found_only none e f = never e
    found_only (some x) e f = only e (f x refl)

  pub plays : (c : Call) (p : Played) → play st c ≡ some p → Agrees c ws p
  plays (Call.format n v) p e = never e
  plays Call.new p e = under st.held st.v e (λ h e. only e (new_plays h))
  plays (Call.hold s) p e = never e
  plays (Call.release s) p e = never e
  plays (Call.size s) p e = under s st.held e (λ h e. only e (size_plays s h))
  plays Call.free_nodes p e = only e free_plays
  plays (Call.get s k) p e = never e
  plays (Call.first s) p e = never e
  plays (Call.last s) p e = never e
  plays (Call.insert s x) p e = under s st.held e (λ h e. under st.held st.v e (λ l e. only e (insert_plays s x h l)))
  plays (Call.remove s k) p e =
      under s st.held e (λ h e. under st.held st.v e (λ l e. found_only (find k (listing (st.trees s))) e (λ x f. remove_plays s k h l f)))
  plays (Call.compare s t) p e = never e
  plays (Call.equal s t) p e = never e
  plays (Call.step d w) p e = under w.slot st.held e (λ h e. only e (step_plays d w h))
  plays (Call.rescale_mark s) p e = never e
  plays Call.soundness_test p e = never e
  plays (Call.difference x) p e = under x.first st.held e (λ h e. under x.second st.held e (λ l e. only e (difference_plays x h l)))
