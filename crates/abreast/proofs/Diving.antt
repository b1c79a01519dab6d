-- The inner loop: both sides go down to one link, and what is ahead stays.
use mathlib.Core.Path.{◌≡◌, ap, sym, ◌∙◌}
use mathlib.Core.List.{List, ◌++◌}
use Prim.Native.Nat.{ℕ, ◌+◌, ◌-◌}
use Rattle.words.specs.Layout.{max_height}
use Rattle.abreast.specs.declared.Side.{Side}
use Rattle.abreast.specs.Sides.{listed, waiting, ahead, Stands, Sinks, Meets}

-- A side that has gone down: what was ahead is ahead.
pub record Reaches (ws : List ℕ) (s t : Side) : Type 0 where
  pub stands : Stands ws t
  pub same_ahead : ahead ws t ≡ ahead ws s

pub reaches_on : {ws : List ℕ} {s t u : Side} → Reaches ws s t → Sinks ws t u → Reaches ws s u
reaches_on R S = record { stands = S.stands; same_ahead = S.same_ahead ∙ R.same_ahead }

-- How much deeper the two stacks can grow.
abbrev pub room : Side → Side → ℕ
room s t = (max_height - s.depth) + (max_height - t.depth)

pub meets : {ws : List ℕ} {s t s' t' : Side} → Reaches ws s s' → Reaches ws t t' → s'.link ≡ t'.link → Meets ws s t s' t'
unfolding ahead
meets {ws} {s' = s'} {t' = t'} R T e =
    record {
      one = R.stands.stacked;
      other = T.stands.stacked;
      alike = listed max_height ws s'.link;
      one_is = sym R.same_ahead;
      other_is = sym (ap (λ (m : ℕ). listed max_height ws m ++ waiting ws t'.stack t'.depth) e ∙ T.same_ahead);
    }
