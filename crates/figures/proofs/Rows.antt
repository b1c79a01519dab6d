-- The starred figures of RULES 10 hold: each row of the table is what the model computes.
use mathlib.Core.Path.{◌≡◌, refl, ◌∙◌, subst}
use mathlib.Core.Bool.{Bool, true, false, ◌&&◌, false≢true}
use mathlib.Core.List.{List, [], ◌∷◌, map}
use mathlib.Core.Option.{Option, none, some}
use Prim.Native.Nat.{ℕ}
use native.Mathlib.Omega.{arith}
use lib.Dec.{ltb, leb}
use borrow.Author.Tests.{ltb-true, leb-true}
use Rattle.std.specs.Prelude.{if◌then◌else◌}
use Rattle.heights.specs.Height.{lg_up_to, lg, H}
use Rattle.trees.specs.Lookup.{has}
use Rattle.trees.specs.Difference.{differences}
use Rattle.trees.specs.Insert.{balance, ins, insert}
use Rattle.trees.specs.Remove.{remove_balance, remove_balance_left, remove_balance_right, join, fuse_node, fuse, del_left, del_right, del, remove}
use Rattle.words.specs.Layout.{max_nodes, max_slots, arena_words}
use Rattle.words.specs.Sound.{Limits}
use Rattle.calls.specs.Call.{Call, Answer}
use Rattle.calls.specs.Outcome.{Outcome}
use Rattle.figures.specs.Figures.{Step, asks, holds, Row, height, run, Runs, Claim, All, table}
use Rattle.figures.proofs.Model.{State, Played, play, start, Shows, Agrees, format_plays, plays}

-- The steps, with what the model answers and holds; they break off where it plays nothing.
abbrev computed : State → List Step → List Step
computed st [] = []
computed st (asks c a ∷ xs) = elim (play st c) [ none ↦ [] | some p ↦ asks c p.answer ∷ computed p.state xs ]
computed st (holds s t ∷ xs) = if ltb s st.held then holds s (st.trees s) ∷ computed st xs else []

-- A call that is played, and then the further steps.
asked : {c : Call} {ws : List ℕ} {p : Played} {a : Answer} (xs : List Step) → Agrees c ws p → p.answer ≡ a →
    ((w : List ℕ) → Shows w p.state → Runs w xs) → Runs ws (asks c a ∷ xs)
asked {c} {ws} xs g e f =
    (subst (λ (b : Answer). (w : List ℕ) × Outcome c ws b w) e g.exists, λ b w o. let k = g.all b w o in (k.0 ∙ e, f w k.1))

-- Steps that are as computed hold.
runs : (xs : List Step) (ws : List ℕ) (st : State) → Shows ws st → computed st xs ≡ xs → Runs ws xs
runs [] ws st K e = tt
runs (asks c a ∷ xs) ws st K e = go (play st c) refl e (λ p w. runs xs w p.state)
  where
    go : (x : Option Played) → play st c ≡ x →
        elim x [ none ↦ [] | some p ↦ asks c p.answer ∷ computed p.state xs ] ≡ asks c a ∷ xs →
        ((p : Played) (w : List ℕ) → Shows w p.state → computed p.state xs ≡ xs → Runs w xs) → Runs ws (asks c a ∷ xs)
    go none q e f = absurd (let z : ◌≡◌ {A = ℕ} 0 1 = cc in omega arith)
    go (some p) q e f = asked xs (plays K c p q) (cc) (λ w k. f p w k (cc))
runs (holds s t ∷ xs) ws st K e = go (ltb s st.held) refl e (runs xs ws st K)
  where
    go : (b : Bool) → ltb s st.held ≡ b → (if b then holds s (st.trees s) ∷ computed st xs else []) ≡ holds s t ∷ xs →
        (computed st xs ≡ xs → Runs ws xs) → Runs ws (holds s t ∷ xs)
    go true q e f =
        let k = K.shown s (ltb-true s st.held q) in
        let z : st.trees s ≡ t = cc in
        ((k.tree, k.version, k.bare_is ∙ z), f (cc))
    go false q e f = absurd (let z : ◌≡◌ {A = ℕ} 0 1 = cc in omega arith)

-- A row with what is computed in the place of its figures, if there is an arena of its n and v.
abbrev lawful : ℕ → ℕ → Bool
lawful n v = (leb 1 n && leb n max_nodes) && (leb 1 v && leb v max_slots)

abbrev recomputed : Row → Option Row
recomputed (height n h) = some (height n (H n))
recomputed (run n v xs) = if lawful n v then some (run n v (computed (start n v) xs)) else none

both_true : (a b : Bool) → a && b ≡ true → (a ≡ true) × (b ≡ true)
both_true true b h = (refl, h)
both_true false b h = absurd (false≢true h)

limits : (n v : ℕ) → lawful n v ≡ true → Limits n v (arena_words n v)
limits n v h =
    let a = both_true (leb 1 n && leb n max_nodes) (leb 1 v && leb v max_slots) h in
    let b = both_true (leb 1 n) (leb n max_nodes) a.0 in
    let c = both_true (leb 1 v) (leb v max_slots) a.1 in
    record {
      n_low = leb-true 1 n b.0;
      n_high = leb-true n max_nodes b.1;
      v_low = leb-true 1 v c.0;
      v_high = leb-true v max_slots c.1;
      long_is = refl;
    }

run_claim : (n v : ℕ) (xs : List Step) → recomputed (run n v xs) ≡ some (run n v xs) → Claim (run n v xs)
run_claim n v xs e = go (lawful n v) refl e
  where
    go : (b : Bool) → lawful n v ≡ b → (if b then some (run n v (computed (start n v) xs)) else none) ≡ some (run n v xs) → Claim (run n v xs)
    go true q e = λ old l. asked xs (format_plays (rw l (limits n v q))) refl (λ w K. runs xs w (start n v) K (cc))
    go false q e = absurd (let z : ◌≡◌ {A = ℕ} 0 1 = cc in omega arith)

-- Rows that are as computed hold.
claims : (rs : List Row) → map recomputed rs ≡ map some rs → All Claim rs
claims [] e = tt
claims (height n h ∷ rs) e = (cc, claims rs (cc))
claims (run n v xs ∷ rs) e = (run_claim n v xs (cc), claims rs (cc))

pub figures : All Claim table
unfolding H lg lg_up_to has differences balance ins insert remove_balance remove_balance_left remove_balance_right join fuse_node fuse del_left del_right del remove
figures = claims table refl
