-- RULES 8.8 to 8.11, of the answers to difference steps: which difference one gives, that an audit
-- gives them all, that END stays, and when the first step is END.
use mathlib.Core.Path.{◌≡◌, refl, ap, sym, ◌∙◌, subst}
use mathlib.Core.Bool.{Bool, true}
use mathlib.Core.List.{List, [], ◌∷◌}
use mathlib.Core.Option.{Option, none, some}
use Prim.Native.Nat.{ℕ}
use native.Mathlib.Omega.{arith}
use Rattle.trees.specs.Tree.{Entry, listing}
use Rattle.trees.specs.Listing.{find, first_of, Ascending}
use Rattle.trees.specs.Order.{equal}
use Rattle.trees.specs.Difference.{Difference, differences, tag_of, beyond, keep_tags, next_difference, difference_at, Steps}
use Rattle.trees.proofs.Orders.{equal_is}
use Rattle.trees.proofs.Differences.{differences-same, differences-equal, is_empty}
use Rattle.trees.proofs.DifferenceLaws.{differences_walked}
use Rattle.trees.proofs.NextDifferences.{AnswersAt, next_answers_at}
use Rattle.words.specs.Reads.{Held}
use Rattle.words.specs.Sound.{Sound}
use Rattle.calls.specs.Refusal.{Refusal}
use Rattle.calls.specs.Call.{Differences, Call, Answer}
use Rattle.calls.specs.Reading.{or_refused}
use Rattle.calls.specs.Outcome.{Outcome}
use Rattle.calls.specs.Auditing.{BothList, Audited}
use Rattle.calls.proofs.Versions.{version_of, version_fine}
use Rattle.calls.proofs.Step.{lists_version}
use Rattle.calls.proofs.Determined.{determined}
use Rattle.calls.proofs.ReadingOutcomes.{difference_outcome}
use Rattle.calls.proofs.ReadingLaws.{both_equal}

ended_none : (o : Option Difference) → or_refused Refusal.ended Answer.difference o ≡ Answer.refused Refusal.ended → o ≡ none
ended_none none e = refl
ended_none (some d) e = absurd (let z : ◌≡◌ {A = ℕ} 0 1 = cc in omega arith)

given_some : (d : Difference) (o : Option Difference) → or_refused Refusal.ended Answer.difference o ≡ Answer.difference d → o ≡ some d
given_some d none e = absurd (let z : ◌≡◌ {A = ℕ} 0 1 = cc in omega arith)
given_some d (some c) e = cc

module _ {ws : List ℕ} {x : Differences} {xs ys : List Entry} (B : BothList ws x xs ys) where
  told : Outcome (Call.difference x) ws (or_refused Refusal.ended Answer.difference (next_difference x.given xs ys)) ws
  told = rw (← B.one.listing_is, ← B.other.listing_is) (difference_outcome B.sound B.one.version B.other.version)

  told_as : {o : Option Difference} → next_difference x.given xs ys ≡ o → Outcome (Call.difference x) ws (or_refused Refusal.ended Answer.difference o) ws
  told_as e = subst (λ (o : Option Difference). Outcome (Call.difference x) ws (or_refused Refusal.ended Answer.difference o) ws) e told

  first_ascends : Ascending xs
  first_ascends = subst Ascending B.one.listing_is (version_fine B.sound B.one.version).ordered

  second_ascends : Ascending ys
  second_ascends = subst Ascending B.other.listing_is (version_fine B.sound B.other.version).ordered

  -- How the two versions differ at a tag, if they do.
  abbrev at : ℕ → Option Difference
  at k = difference_at (find k xs) (find k ys)

  by_tags : AnswersAt (beyond x.given) at (next_difference x.given xs ys)
  by_tags = next_answers_at x.given xs ys first_ascends second_ascends

  module _ {ws' : List ℕ} where
    pub difference_next : {d : Difference} → Outcome (Call.difference x) ws (Answer.difference d) ws' → next_difference x.given xs ys ≡ some d
    difference_next {d} o = given_some d (next_difference x.given xs ys) (determined told o).0

    pub difference_ended : Outcome (Call.difference x) ws (Answer.refused Refusal.ended) ws' → next_difference x.given xs ys ≡ none
    difference_ended o = ended_none (next_difference x.given xs ys) (determined told o).0

    -- A difference that a step gave is how the two differ at the first tag above the last key
    -- given.
    pub difference_first : {d : Difference} → Outcome (Call.difference x) ws (Answer.difference d) ws' → AnswersAt (beyond x.given) at (some d)
    difference_first o = subst (AnswersAt (beyond x.given) at) (difference_next o) by_tags

    -- END says that they differ at no tag above the last key given.
    pub difference_none : Outcome (Call.difference x) ws (Answer.refused Refusal.ended) ws' → AnswersAt (beyond x.given) at none
    difference_none o = subst (AnswersAt (beyond x.given) at) (difference_ended o) by_tags

    -- RULES 8.11: "two held slots that list the same".
    pub same_ends : {a : Answer} → xs ≡ ys → Outcome (Call.difference x) ws a ws' → a ≡ Answer.refused Refusal.ended
    same_ends e o =
        let z : differences xs ys ≡ [] = rw e (differences-same ys) in
        (determined o told).0 ∙
        ap (λ (ds : List Difference). or_refused Refusal.ended Answer.difference (first_of (keep_tags (beyond x.given) ds))) z

-- RULES 8.11: "a held slot named twice".
pub same_slot_ends : {ws ws' : List ℕ} {s : ℕ} {o : Option ℕ} {a : Answer} → Sound ws → Held ws s →
    Outcome (Call.difference (record { first = s; second = s; given = o })) ws a ws' → a ≡ Answer.refused Refusal.ended
same_slot_ends {ws} {s = s} {o = o} S h p = same_ends both refl p
  where
    both : BothList ws (record { first = s; second = s; given = o }) (listing (S.trees.tree s h)) (listing (S.trees.tree s h))
    both = record { sound = S; one = lists_version S (version_of S s h); other = lists_version S (version_of S s h) }

-- RULES 8.11: "Where no key was given it is END exactly where equal .. is yes."
pub ends_where_equal : {ws w w' : List ℕ} {s q : ℕ} {a : Answer} {b : Bool} → Outcome (Call.equal s q) ws (Answer.truth b) w →
    Outcome (Call.difference (record { first = s; second = q; given = none })) ws a w' →
    (a ≡ Answer.refused Refusal.ended → b ≡ true) × (b ≡ true → a ≡ Answer.refused Refusal.ended)
ends_where_equal {ws} {w' = w'} {s = s} {q = q} {a = a} {b = b} p o = (ended_equal, λ e. same_ends both (equal_is xs ys (sym told_equal ∙ e)) o)
  where
    xs : List Entry
    xs = listing (both_equal p).tree

    ys : List Entry
    ys = listing (both_equal p).other

    both : BothList ws (record { first = s; second = q; given = none }) xs ys
    both =
        record {
          sound = (both_equal p).before;
          one = lists_version (both_equal p).before (both_equal p).version;
          other = lists_version (both_equal p).before (both_equal p).other_version;
        }

    told_equal : b ≡ equal xs ys
    told_equal = let z = (both_equal p).answer in cc

    none_empty : (ds : List Difference) → first_of (keep_tags (beyond none) ds) ≡ none → is_empty ds ≡ true
    none_empty [] e = refl
    none_empty (d ∷ ds) e = absurd (let z : ◌≡◌ {A = ℕ} 0 1 = cc in omega arith)

    ended_equal : a ≡ Answer.refused Refusal.ended → b ≡ true
    ended_equal e =
        told_equal ∙ sym (differences-equal xs ys) ∙
        none_empty
        (differences xs ys)
        (difference_ended both (subst (λ (c : Answer). Outcome (Call.difference (record { first = s; second = q; given = none })) ws c w') e o))

-- RULES 8.10: "After END every later step answers END, as long as both versions are unchanged": in
-- any sound arena in which each of the two slots lists what it did.
pub difference_end_stays : {ws ws' now now' : List ℕ} {x : Differences} {xs ys : List Entry} {a : Answer} → BothList ws x xs ys →
    Outcome (Call.difference x) ws (Answer.refused Refusal.ended) ws' → BothList now x xs ys → Outcome (Call.difference x) now a now' →
    a ≡ Answer.refused Refusal.ended
difference_end_stays B o B' p = (determined p (told B')).0 ∙ ap (or_refused Refusal.ended Answer.difference) (difference_ended B o)

-- From one position there is one list of steps.
steps_one : {xs ys : List Entry} {o : Option ℕ} {ds es : List Difference} → Steps xs ys o ds → Steps xs ys o es → ds ≡ es
steps_one (Steps.ended e) (Steps.ended f) = refl
steps_one (Steps.ended e) (Steps.given f h) = absurd (let z : ◌≡◌ {A = ℕ} 0 1 = cc in omega arith)
steps_one (Steps.given e g) (Steps.ended f) = absurd (let z : ◌≡◌ {A = ℕ} 0 1 = cc in omega arith)
steps_one {xs} {ys} (Steps.given {d = d} {ds = ds} e g) (Steps.given {d = c} {ds = cs} f h) =
    let z : c ≡ d = cc in
    let i = steps_one g (subst (λ (b : Difference). Steps xs ys (some (tag_of b)) cs) z h) in
    cc

audited_steps : {xs ys : List Entry} {x : Differences} {ds : List Difference} → Audited xs ys x ds → Steps xs ys x.given ds
audited_steps (Audited.ended B o) = Steps.ended (difference_ended B o)
audited_steps (Audited.given B o g) = Steps.given (difference_next B o) (audited_steps g)

-- RULES 8.8, 8.9: an audit from no key on gives the differences of the two listings, all of them
-- and in order.
pub audited : {s q : ℕ} {xs ys : List Entry} {ds : List Difference} → Audited xs ys (record { first = s; second = q; given = none }) ds →
    ds ≡ differences xs ys
audited {xs = xs} {ys = ys} g = steps_one (audited_steps g) (go g)
  where
    go : {x : Differences} {es : List Difference} → Audited xs ys x es → Steps xs ys none (differences xs ys)
    go (Audited.ended B o) = differences_walked xs ys (first_ascends B) (second_ascends B)
    go (Audited.given B o h) = differences_walked xs ys (first_ascends B) (second_ascends B)

-- And there is such an audit, on any words on which the two slots list so.
steps_audited : {ws : List ℕ} {xs ys : List Entry} {x : Differences} {o : Option ℕ} {ds : List Difference} → BothList ws x xs ys → x.given ≡ o →
    Steps xs ys o ds → Audited xs ys x ds
steps_audited {xs = xs} {ys = ys} B e (Steps.ended n) = Audited.ended B (told_as B (ap (λ (k : Option ℕ). next_difference k xs ys) e ∙ n))
steps_audited {xs = xs} {ys = ys} B e (Steps.given n g) =
    Audited.given
    B
    (told_as B (ap (λ (k : Option ℕ). next_difference k xs ys) e ∙ n))
    (steps_audited (record { sound = B.sound; one = B.one; other = B.other }) refl g)

pub audit_exists : {ws : List ℕ} {s q : ℕ} {xs ys : List Entry} → BothList ws (record { first = s; second = q; given = none }) xs ys →
    Audited xs ys (record { first = s; second = q; given = none }) (differences xs ys)
audit_exists {xs = xs} {ys = ys} B = steps_audited B refl (differences_walked xs ys (first_ascends B) (second_ascends B))
