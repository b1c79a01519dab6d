-- What a C caller learns from the result alone: 0 means accepted, any other number is that of the refusal that is due first, and then nothing was written.
use mathlib.Core.Path.{◌≡◌, refl, sym, ap, ◌∙◌, subst}
use mathlib.Core.List.{List}
use Prim.Native.Nat.{ℕ, ◌≤◌}
use native.Mathlib.Omega.{arith}
use Rattle.calls.specs.Refusal.{Refusal, number}
use Rattle.calls.specs.Call.{Call, Answer}
use Rattle.calls.specs.Effect.{effect}
use Rattle.calls.specs.Table.{tests}
use Rattle.calls.specs.Outcome.{Accepted}
use Rattle.calls.specs.Alike.{renamed_by, SameBut}
use Rattle.calls.proofs.Decisions.{First, Passed, Either, either}
use Rattle.calls.proofs.Histories.{accepted_no}
use Rattle.calls.proofs.Determined.{determined}
use Rattle.passing.specs.Results.{status, written}
use Rattle.foamcorbel.specs.Gives.{Gives}

number_positive : (q : Refusal) → 1 ≤ number q
number_positive Refusal.bad_shape = omega arith
number_positive Refusal.unsound = omega arith
number_positive Refusal.no_version = omega arith
number_positive Refusal.bad_range = omega arith
number_positive Refusal.absent = omega arith
number_positive Refusal.no_slot = omega arith
number_positive Refusal.no_room = omega arith
number_positive Refusal.ended = omega arith

accepted_zero : (a : Answer) → ((q : Refusal) → a ≡ Answer.refused q → ⊥) → status a ≡ 0
accepted_zero (Answer.refused q) n = absurd (n q refl)
accepted_zero Answer.done n = refl
accepted_zero (Answer.slot q) n = refl
accepted_zero (Answer.number x) n = refl
accepted_zero (Answer.value x) n = refl
accepted_zero (Answer.entry e) n = refl
accepted_zero (Answer.sign d) n = refl
accepted_zero (Answer.truth b) n = refl
accepted_zero (Answer.difference d) n = refl

-- The first refusal that is due, and no lent word was changed.
pub record Refuses (c : Call) (ws out : List ℕ) (r : ℕ) (ws' out' : List ℕ) : Type 0 where
  pub refusal : Refusal
  pub due : First ws c refusal (tests c)
  pub result : r ≡ number refusal
  pub words_kept : ws' ≡ ws
  pub out_kept : out' ≡ out

-- No refusal is due, and the call does what it is to do.
pub record Accepts (c : Call) (ws : List ℕ) (a : Answer) (ws' : List ℕ) : Type 0 where
  pub none_due : Passed ws c (tests c)
  pub accepted : Accepted c ws a ws'

module _ {c : Call} {ws out : List ℕ} {r : ℕ} {ws' out' : List ℕ} (g : Gives c ws out r ws' out') where
  refused_result : {q : Refusal} → g.answer ≡ Answer.refused q → r ≡ number q
  refused_result e = g.passed.result ∙ ap status e

  refused_by : {q : Refusal} → First ws c q (tests c) → g.answer ≡ Answer.refused q → ws' ≡ ws → Refuses c ws out r ws' out'
  refused_by {q} f e w =
      record {
        refusal = q;
        due = f;
        result = refused_result e;
        words_kept = w;
        out_kept = g.passed.values ∙ ap (λ (a : Answer). written a out) e;
      }

  pub zero_accepted : r ≡ 0 → Accepts c ws g.answer ws'
  zero_accepted z = go (either g.outcome)
    where
      go : Either c (tests c) ws g.answer ws' → Accepts c ws g.answer ws'
      go (Either.refuses {r = q} f e w) = absurd (omega (arith, number_positive q, refused_result e))
      go (Either.accepts p h) = record { none_due = p; accepted = h }

  pub number_refused : 1 ≤ r → Refuses c ws out r ws' out'
  number_refused p = go (either g.outcome)
    where
      go : Either c (tests c) ws g.answer ws' → Refuses c ws out r ws' out'
      go (Either.refuses f e w) = refused_by f e w
      go (Either.accepts q h) =
          let no : (x : Refusal) → g.answer ≡ Answer.refused x → ⊥ =
          λ x e. accepted_no x c ws ws' (subst (λ (a : Answer). Accepted c ws a ws') e h) in
          absurd (omega (arith, g.passed.result, accepted_zero g.answer no))

-- Two runs on the same words give the same result and the same values; and the same words, but for the exceptions of docs/EXCEPTIONS.md.
pub same_results : {c : Call} {ws out : List ℕ} {r r' : ℕ} {w w' o o' : List ℕ} → Gives c ws out r w o → Gives c ws out r' w' o' →
    (r ≡ r') × (o ≡ o') × SameBut (renamed_by (effect c) ws) w w'
same_results {out = out} g h =
    let both = determined g.outcome h.outcome in (
      g.passed.result ∙ ap status both.0 ∙ sym h.passed.result,
      g.passed.values ∙ ap (λ (a : Answer). written a out) both.0 ∙ sym h.passed.values,
      both.1,
    )
