-- From what a plan holds to what a commit asks: the kept nodes of a planned tree are those of its parent, which are live.
use mathlib.Core.Path.{◌≡◌, refl, sym, ap, subst}
use mathlib.Core.Logic.{◌⊎◌, inl, inr}
use mathlib.Core.List.{List}
use Prim.Native.Nat.{ℕ, ◌+◌, ◌-◌}
use native.Mathlib.Omega.{arith}
use Rattle.trees.specs.Tree.{kept, Tree, leaf, node}
use Rattle.trees.proofs.Sharing.{At, AllKept}
use Rattle.words.specs.Layout.{left, right}
use Rattle.words.specs.Reads.{Reads}
use Rattle.words.specs.Owned.{Live, Owned}
use Rattle.words.proofs.OwnedLaws.{live_left, live_right}
use Rattle.words.proofs.Countups.{Shares}
use Rattle.words.proofs.Committing.{reads_made}
use Rattle.plan.specs.Held.{spot, Holds, none, shared, planned, Room}
use Rattle.plan.proofs.Holdings.{unique, reads_holds}
use Rattle.commit.specs.Planned.{spot_of, Plans}

module _ (Valid : ℕ → Tree → ℕ → Type 0) (n v : ℕ) (ws P : List ℕ) (o : Owned Valid n v ws P) where
  -- Every node of a tree whose root is live is.
  pub reads_live : (i : ℕ) (t : Tree) → (i ≡ 0) ⊎ Live n ws i → Reads n ws i t → AllKept (Live n ws) t
  reads_live i leaf l r = tt
  reads_live i (node p c a e b) (inl z) r = absurd (omega (arith, r.1.low))
  reads_live i (node p c a e b) (inr l) r = (
    subst (At (Live n ws)) (sym r.0) l,
    reads_live (left ws i) a (live_left Valid n v ws P o i l) r.2,
    reads_live (right ws i) b (live_right Valid n v ws P o i l) r.3,
  )

  -- A live node of the arena that a plan holds is read there.
  shared_reads : {plan : List ℕ} {link : ℕ} {t : Tree} → Holds ws plan link t → Live n ws link → Reads n ws link t
  shared_reads {plan} {link} {t} h l =
      let u = o.trees link l in
      let e = unique h (reads_holds plan link u.0 (subst (λ (m : ℕ). Reads m ws link u.0) (sym o.shaped.n_is) u.1)) in
      rw e u.1

  module _ (plan : List ℕ) (room : Room ws plan 0) where
    pub holds_plans : {link : ℕ} {t : Tree} → Holds ws plan link t → AllKept (Live n ws) t → Plans n plan link t
    holds_plans (none e) a = e
    holds_plans (shared {link = link} {c = c} {e = e} {l = l} {r = r} m hl hr) a =
        (refl, m.low, omega (arith, m.high, o.shaped.n_is), omega (arith, reads_made n ws link (node (kept link) c l e r) (shared_reads (shared m hl hr) a.0)))
    holds_plans (planned {link = link} {c = c} {e = e} {l = l} {r = r} m hl hr) a =
        let q = o.shaped.n_is in
        let s : spot_of n link ≡ spot ws link = ap (λ (k : ℕ). link - (k + 1)) (sym q) in
        let inside = room.room in (
          omega (arith, m.low),
          rw s (omega (arith, m.low, m.high)),
          rw s m.color_is,
          rw s m.entry_is,
          rw s (holds_plans hl a.1),
          rw s (holds_plans hr a.2),
        )

    pub holds_shares : {link : ℕ} {t : Tree} → Holds ws plan link t → AllKept (Live n ws) t → Shares n ws t
    holds_shares (none e) a = tt
    holds_shares (shared m hl hr) a = shared_reads (shared m hl hr) a.0
    holds_shares (planned m hl hr) a = (holds_shares hl a.1, holds_shares hr a.2)
