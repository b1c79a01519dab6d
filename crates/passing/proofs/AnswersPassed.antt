-- Each kind of answer, by the words that the code makes of what it holds.
use Rattle.std.proofs.Common.{◌≡◌, ℕ, List, [], ◌∷◌, length, set, refl, sym, ap, ◌∙◌, arith}
use Rattle.std.specs.Prelude.{Result, Ok, Err, IfOk, IfErr, IsOkAnd, MatchResult}
use Rattle.calls.specs.Call.{Answer}
use Rattle.answers.specs.declared.Refusal.{Refusal}
use Rattle.answers.specs.Answers.{refusal_number, answer_by}
use Rattle.passing.specs.Results.{status, written, PassedOn}

-- The answer a is passed on where v has the words w of what it holds, and the code hands them over.
module _ {A : Type 0} (f : A → Answer) (w : A → List ℕ) {out out' : List ℕ} {r : ℕ} (accepted : (x : A) → status (f x) ≡ 0)
    (words : (x : A) → written (f x) out ≡ w x) where
  pub passed : (a : Result A Refusal) (v : Result (List ℕ) Refusal) → MatchResult a (λ x. IsOkAnd v (λ ws. ws ≡ w x)) (λ e. v ≡ Err e) →
      IfOk v (λ ws. (r ≡ 0) × (out' ≡ ws)) → IfErr v (λ e. (r ≡ refusal_number e) × (out' ≡ out)) → PassedOn (answer_by f a) out r out'
  passed (Ok x) (Ok ws) m h g = record { result = h.0 ∙ sym (accepted x); values = h.1 ∙ m ∙ sym (words x) }
  passed (Ok x) (Err e) m h g = absurd m
  passed (Err e) (Ok ws) m h g = absurd (cc)
  passed (Err e) (Err q) m h g = let z : q ≡ e = cc in record { result = g.0 ∙ ap refusal_number z; values = g.1 }

-- Every word that is lent is written.
pub one_word : (out : List ℕ) (x : ℕ) → length out ≡ 1 → set out 0 x ≡ x ∷ []
one_word [] x e = absurd (omega arith)
one_word (o ∷ []) x e = refl
one_word (o ∷ (p ∷ os)) x e = absurd (omega arith)

pub two_words : (out : List ℕ) (x y : ℕ) → length out ≡ 2 → set (set out 0 x) 1 y ≡ x ∷ (y ∷ [])
two_words [] x y e = absurd (omega arith)
two_words (o ∷ []) x y e = absurd (omega arith)
two_words (o ∷ (p ∷ [])) x y e = refl
two_words (o ∷ (p ∷ (q ∷ os))) x y e = absurd (omega arith)
