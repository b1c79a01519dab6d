-- What RULES 4 and 7 say of the calls that read, over their outcomes: they write nothing; after END
-- both ends answer END; equal means compare 0; the rescale mark.
use mathlib.Core.Path.{◌≡◌, refl, ap, sym, ◌∙◌}
use mathlib.Core.Bool.{Bool, true, false, or-false}
use mathlib.Core.List.{List}
use mathlib.Core.Option.{none, some}
use Prim.Native.Nat.{ℕ}
use native.Mathlib.Omega.{arith}
use Rattle.trees.specs.Tree.{Entry, Tree, listing}
use Rattle.trees.specs.Listing.{find, is_some}
use Rattle.trees.specs.Range.{End, next, is_bad_range}
use Rattle.trees.specs.Order.{Sign, is_same}
use Rattle.trees.specs.Order
use Rattle.trees.proofs.Orders.{equal_is, is_equal}
use Rattle.words.specs.Sound.{Sound}
use Rattle.calls.specs.Refusal.{Refusal}
use Rattle.calls.specs.Call.{Walk, Call, Answer}
use Rattle.calls.specs.Version.{VersionIs}
use Rattle.calls.specs.Given.{Given}
use Rattle.calls.specs.Table.{tests}
use Rattle.calls.specs.Reading.{TellsBoth, rescale_slope, marked, or_refused}
use Rattle.calls.specs.Effect.{Effect, effect}
use Rattle.calls.specs.Outcome.{Accepted, Outcome}
use Rattle.calls.proofs.Versions.{version_one}
use Rattle.calls.proofs.Decisions.{First, Either, either}
use Rattle.calls.proofs.Histories.{answer_accepts, answer_refuses}
use Rattle.calls.proofs.Walks.{after_end}
use Rattle.calls.proofs.ReadingOutcomes.{next_outcome}
use Rattle.calls.proofs.Determined.{determined}

-- "Format, new, hold, release, insert and remove write to the arena; no other call does."
accepted_still : (c : Call) (ws : List ℕ) (a : Answer) (ws' : List ℕ) → effect c ≡ Effect.reads → Accepted c ws a ws' → ws' ≡ ws
accepted_still (Call.format n v) ws a ws' e g = absurd (let z : ◌≡◌ {A = ℕ} 0 1 = cc in omega arith)
accepted_still Call.new ws a ws' e g = absurd (let z : ◌≡◌ {A = ℕ} 0 1 = cc in omega arith)
accepted_still (Call.hold s) ws a ws' e g = absurd (let z : ◌≡◌ {A = ℕ} 0 1 = cc in omega arith)
accepted_still (Call.release s) ws a ws' e g = absurd (let z : ◌≡◌ {A = ℕ} 0 1 = cc in omega arith)
accepted_still (Call.size s) ws a ws' e g = g.unchanged
accepted_still Call.free_nodes ws a ws' e g = g.unchanged
accepted_still (Call.get s k) ws a ws' e g = g.unchanged
accepted_still (Call.first s) ws a ws' e g = g.unchanged
accepted_still (Call.last s) ws a ws' e g = g.unchanged
accepted_still (Call.insert s x) ws a ws' e g = absurd (let z : ◌≡◌ {A = ℕ} 0 1 = cc in omega arith)
accepted_still (Call.remove s k) ws a ws' e g = absurd (let z : ◌≡◌ {A = ℕ} 0 1 = cc in omega arith)
accepted_still (Call.compare s t) ws a ws' e g = g.unchanged
accepted_still (Call.equal s t) ws a ws' e g = g.unchanged
accepted_still (Call.step d w) ws a ws' e g = g.unchanged
accepted_still (Call.rescale_mark s) ws a ws' e g = g.unchanged
accepted_still Call.soundness_test ws a ws' e g = g.unchanged
accepted_still (Call.difference x) ws a ws' e g = g.unchanged

pub readers_write_nothing : {c : Call} {ws : List ℕ} {a : Answer} {ws' : List ℕ} → effect c ≡ Effect.reads → Outcome c ws a ws' → ws' ≡ ws
readers_write_nothing {c} {ws} {a} {ws'} e o = go (either o)
  where
    go : Either c (tests c) ws a ws' → ws' ≡ ws
    go (Either.refuses f q w) = w
    go (Either.accepts p g) = accepted_still c ws a ws' e g

-- What a step that answered END says: the range is a good one, and nothing is left of the version.
pub record Ended (ws : List ℕ) (d : End) (w : Walk) : Type 0 where
  pub good : is_bad_range w.range.start w.range.end ≡ false
  pub tree : Tree
  pub version : VersionIs ws w.slot tree
  pub nothing : next d w.range (listing tree) ≡ none

pub ended : {ws ws' : List ℕ} {d : End} {w : Walk} → Outcome (Call.step d w) ws (Answer.refused Refusal.ended) ws' → Ended ws d w
ended {ws} {d = d} {w = w} o = go (answer_refuses o).0
  where
    good : (b : Bool) → is_bad_range w.range.start w.range.end ≡ b → (Given ws Refusal.bad_range (Call.step d w) → ⊥) → b ≡ false
    good true e n = absurd (n (Given.bad_range e))
    good false e n = refl

    last : (Given ws Refusal.bad_range (Call.step d w) → ⊥) → Given ws Refusal.ended (Call.step d w) → Ended ws d w
    last n (Given.ended {t = t} x e) = record { good = good (is_bad_range w.range.start w.range.end) refl n; tree = t; version = x; nothing = e }

    go : First ws (Call.step d w) Refusal.ended (tests (Call.step d w)) → Ended ws d w
    go (First.later a (First.later b (First.later n (First.here g)))) = last n g
    go (First.later a (First.later b (First.later n (First.later m f)))) = elim f [ ]

-- "After END both ends answer END, the version being unchanged": in any sound arena in which the
-- slot lists the same.
pub end_stays : {ws ws' now now' : List ℕ} {d d' : End} {w : Walk} {t u : Tree} {a : Answer} →
    Outcome (Call.step d w) ws (Answer.refused Refusal.ended) ws' → VersionIs ws w.slot t → Sound now → VersionIs now w.slot u →
    listing u ≡ listing t → Outcome (Call.step d' w) now a now' → a ≡ Answer.refused Refusal.ended
end_stays {d = d} {d' = d'} {w = w} {t = t} {u = u} o x S y e p =
    let g = ended o in
    let n : next d w.range (listing u) ≡ none =
    ap (next d w.range) (e ∙ ap listing (version_one x g.version)) ∙ g.nothing in
    (determined p (next_outcome S y d' g.good)).0 ∙ ap (or_refused Refusal.ended Answer.entry) (after_end d d' w.range (listing u) n)

-- What two slots list, as compare and equal see it.
both : {ws ws' : List ℕ} {s t : ℕ} {x : Sign} → Outcome (Call.compare s t) ws (Answer.sign x) ws' →
    TellsBoth ws s t (λ xs ys. some (Answer.sign (Order.compare xs ys))) (Answer.sign x) ws'
both o = answer_accepts o λ r e. let z : ◌≡◌ {A = ℕ} 0 1 = cc in omega arith

pub both_equal : {ws ws' : List ℕ} {s t : ℕ} {b : Bool} → Outcome (Call.equal s t) ws (Answer.truth b) ws' →
    TellsBoth ws s t (λ xs ys. some (Answer.truth (Order.equal xs ys))) (Answer.truth b) ws'
both_equal o = answer_accepts o λ r e. let z : ◌≡◌ {A = ℕ} 0 1 = cc in omega arith

-- "Equal means compare 0."
pub equal-compare : {ws w w' : List ℕ} {s t : ℕ} {x : Sign} {b : Bool} → Outcome (Call.compare s t) ws (Answer.sign x) w →
    Outcome (Call.equal s t) ws (Answer.truth b) w' → b ≡ is_same x
equal-compare {x = x} {b = b} o p =
    let g = both o in
    let h = both_equal p in
    let e : x ≡ Order.compare (listing g.tree) (listing g.other) = (let z = g.answer in cc) in
    let f : b ≡ is_same (Order.compare (listing h.tree) (listing h.other)) = (let z = h.answer in cc) in
    f ∙ rw (version_one h.version g.version, version_one h.other_version g.other_version) (ap is_same (sym e))

-- Compare answers 0 exactly where the two list the same.
pub compare_same : {ws w : List ℕ} {s t : ℕ} {x : Sign} {u v : Tree} → VersionIs ws s u → VersionIs ws t v →
    Outcome (Call.compare s t) ws (Answer.sign x) w → (is_same x ≡ true → listing u ≡ listing v) × (listing u ≡ listing v → is_same x ≡ true)
compare_same {x = x} {u = u} {v = v} a b o =
    let g = both o in
    let e : is_same x ≡ Order.equal (listing u) (listing v) =
    (let z : x ≡ Order.compare (listing g.tree) (listing g.other) = (let y = g.answer in cc) in
    rw (z, version_one g.version a, version_one g.other_version b)) in
    (λ h. equal_is (listing u) (listing v) (sym e ∙ h), λ h. e ∙ is_equal (listing u) (listing v) h)

-- "(0028,1053) Rescale Slope is 2,625,619"; "yes exactly when the version holds (0028,1053)".
pub rescale_slope_is : rescale_slope ≡ 2625619
rescale_slope_is = refl

pub marked_is : (xs : List Entry) → marked xs ≡ is_some (find 2625619 xs)
marked_is xs = or-false (is_some (find 2625619 xs))
