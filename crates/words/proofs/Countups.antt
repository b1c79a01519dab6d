-- The first half of a commit: the links at which a planned tree leaves its fresh nodes are counted up, and pending from then on.
use mathlib.Core.Path.{◌≡◌, refl, ◌∙◌, subst}
use mathlib.Core.Bool.{Bool, false}
use mathlib.Core.Logic.{◌⊎◌, inl, inr, ⊎_elim}
use mathlib.Core.List.{List, ◌++◌}
use Prim.Native.Nat.{ℕ, ◌+◌, ◌*◌, ◌≤◌}
use native.Mathlib.Omega.{arith}
use native.Mathlib.Decide.{ℕ_discrete}
use lib.ListN.{length}
use Rattle.trees.specs.Tree.{kept, fresh, Tree, leaf, node}
use Rattle.trees.proofs.Sharing.{AllKept}
use Rattle.words.specs.Layout.{node_words, header_words}
use Rattle.words.specs.Counting.{occ}
use Rattle.words.specs.Reads.{Reads}
use Rattle.words.specs.Owned.{names, Live, Owned, idles, Agree}
use Rattle.words.specs.Model.{raising}
use Rattle.words.specs.Fresh.{relabel}
use Rattle.words.specs.Commit.{frontier, raising_all}
use Rattle.words.proofs.Counts.{same_ne, occ_append}
use Rattle.words.proofs.Holding.{frame_all}
use Rattle.words.proofs.Changes.{Outside, outside_refl, outside_trans}
use Rattle.words.proofs.Recounting.{owned_long, raising_owned, raising_idles, raising_outside, raising_agree, raising_count}

-- Ownership looks at how often a link is pending, not at the order.
pub owned_occ : (Valid : ℕ → Tree → ℕ → Type 0) (n v : ℕ) (ws P P' : List ℕ) → ((x : ℕ) → occ x P' ≡ occ x P) → Owned Valid n v ws P →
    Owned Valid n v ws P'
unfolding names
owned_occ Valid n v ws P P' e o =
    record {
      shaped = o.shaped;
      bound = o.bound;
      trees = o.trees;
      counts = λ i p q. omega (arith, o.counts i p q, e i);
      pending = λ p h. o.pending p (omega (arith, e p));
      free = o.free;
      chain = o.chain;
      frees = o.frees;
      versions = o.versions;
    }

-- A tree whose kept nodes are not new reads as it is.
pub relabel-same : (b : ℕ → Bool) (t : Tree) → AllKept (λ i. b i ≡ false) t → relabel b t ≡ t
relabel-same b leaf a = refl
relabel-same b (node (kept i) c l e r) a = rw (a.0, relabel-same b l a.1, relabel-same b r a.2)
relabel-same b (node fresh c l e r) a = rw (relabel-same b l a.1, relabel-same b r a.2)

pub all_kept : (P Q : ℕ → Type 0) → ((i : ℕ) → P i → Q i) → (t : Tree) → AllKept P t → AllKept Q t
all_kept P Q f leaf a = tt
all_kept P Q f (node (kept i) c l e r) a = (f i a.0, all_kept P Q f l a.1, all_kept P Q f r a.2)
all_kept P Q f (node fresh c l e r) a = (tt, all_kept P Q f l a.1, all_kept P Q f r a.2)

-- Every kept part of a planned tree is in the arena.
abbrev pub Shares : ℕ → List ℕ → Tree → Type 0
Shares n ws leaf = Unit {0}
Shares n ws (node (kept i) c l e r) = Reads n ws i (node (kept i) c l e r)
Shares n ws (node fresh c l e r) = Shares n ws l × Shares n ws r

-- What a part of a commit keeps: what was live is live and has its words, and nothing outside the nodes changes but the head.
pub record Grows (n : ℕ) (ws ws' : List ℕ) : Type 0 where
  pub live : (j : ℕ) → Live n ws j → Live n ws' j
  pub agree : (j : ℕ) → Live n ws j → Agree ws ws' j
  pub outside : Outside n ws ws'

pub grows_refl : (n : ℕ) (ws : List ℕ) → Grows n ws ws
grows_refl n ws = record { live = λ j l. l; agree = λ j l k p q. refl; outside = outside_refl n ws }

pub grows_trans : (n : ℕ) (a b c : List ℕ) → Grows n a b → Grows n b c → Grows n a c
grows_trans n a b c x y =
    record {
      live = λ j l. y.live j (x.live j l);
      agree = λ j l k p q. y.agree j (x.live j l) k p q ∙ x.agree j l k p q;
      outside = outside_trans n a b c x.outside y.outside;
    }

-- Counting up: besides, every link holds what it held, and no node is taken or freed.
pub record Raised (n : ℕ) (ws ws' : List ℕ) : Type 0 where
  pub grows : Grows n ws ws'
  pub back : (j : ℕ) → Live n ws' j → Live n ws j
  pub reads : (i : ℕ) (t : Tree) → Reads n ws i t → Reads n ws' i t
  pub idle : idles n ws' ≡ idles n ws

raised_trans : (n : ℕ) (a b c : List ℕ) → Raised n a b → Raised n b c → Raised n a c
raised_trans n a b c x y =
    record {
      grows = grows_trans n a b c x.grows y.grows;
      back = λ j l. x.back j (y.back j l);
      reads = λ i t r. y.reads i t (x.reads i t r);
      idle = y.idle ∙ x.idle;
    }

module _ (n : ℕ) (ws : List ℕ) (long : node_words * n + header_words ≤ length ws) (i : ℕ) (l : (i ≡ 0) ⊎ Live n ws i) where
  link_high : i ≤ n
  link_high = ⊎_elim (λ e. omega arith) (λ m. m.1) l

  raised_back : (j : ℕ) → Live n (raising ws i) j → Live n ws j
  raised_back j m = go (ℕ_discrete i j) l
    where
      go : Dec (i ≡ j) → (i ≡ 0) ⊎ Live n ws i → Live n ws j
      go (yes e) (inl z) = absurd (omega (arith, m.0))
      go (yes e) (inr k) = subst (λ (x : ℕ). Live n ws x) e k
      go (no f) k = (m.0, m.1, omega (arith, raising_count n ws long i link_high j m.0 m.1, same_ne i j f, m.2))

  raised_one : Raised n ws (raising ws i)
  raised_one =
      record {
        grows = record {
          live = λ j m. (m.0, m.1, omega (arith, raising_count n ws long i link_high j m.0 m.1, m.2));
          agree = λ j m. raising_agree n ws long i link_high j m.0 m.1;
          outside = raising_outside n ws long i link_high;
        };
        back = raised_back;
        reads = frame_all n ws (raising ws i) (raising_agree n ws long i link_high);
        idle = raising_idles n ws long i l;
      }

module _ (Valid : ℕ → Tree → ℕ → Type 0) (n v : ℕ) where
  -- After counting up, the links at which the planned tree leaves its fresh nodes are pending.
  pub raising_all_owned : (t : Tree) (ws P : List ℕ) → Owned Valid n v ws P → AllKept (Live n ws) t →
      Owned Valid n v (raising_all ws t) (frontier t ++ P) × Raised n ws (raising_all ws t)
  raising_all_owned leaf ws P o a =
      (raising_owned Valid n v ws P 0 o (inl refl), raised_one n ws (owned_long Valid n v ws P o) 0 (inl refl))
  raising_all_owned (node (kept i) c l e r) ws P o a =
      (raising_owned Valid n v ws P i o (inr a.0), raised_one n ws (owned_long Valid n v ws P o) i (inr a.0))
  raising_all_owned (node fresh c l e r) ws P o a =
      let w = raising_all ws l in
      let x = raising_all_owned l ws P o a.1 in
      let y = raising_all_owned r w (frontier l ++ P) x.0 (all_kept (Live n ws) (Live n w) x.1.grows.live r a.2) in (
        owned_occ
            Valid
            n
            v
            (raising_all w r)
            (frontier r ++ (frontier l ++ P))
            ((frontier l ++ frontier r) ++ P)
            (λ z. omega (
              arith,
              occ_append z (frontier l ++ frontier r) P,
              occ_append z (frontier l) (frontier r),
              occ_append z (frontier r) (frontier l ++ P),
              occ_append z (frontier l) P,
            ))
            y.0,
        raised_trans n ws w (raising_all w r) x.1 y.1,
      )
