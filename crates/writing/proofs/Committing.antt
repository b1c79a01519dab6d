-- `commit_to`: what is planned can be counted up, built and put into its slot, and the law of a commit is about that.
use mathlib.Core.Path.{◌≡◌, ap, ◌∙◌, subst}
use mathlib.Core.List.{List, [], ◌++◌}
use Prim.Native.Nat.{ℕ, ◌+◌, ◌≤◌}
use native.Mathlib.Omega.{arith}
use lib.ListN.{length, length-append}
use Rattle.trees.specs.Tree.{kept, fresh, Tree, leaf, node, made}
use Rattle.words.specs.Layout.{nodes, slots, header_words}
use Rattle.words.specs.Owned.{Sized, Owned}
use Rattle.words.specs.Model.{slotting}
use Rattle.words.specs.Commit.{frontier, raising_all, Built, building}
use Rattle.words.proofs.Countups.{Shares, Raised, raising_all_owned}
use Rattle.words.proofs.Committing.{shares_kept, Commits, commits}
use Rattle.words.proofs.SoundOwned.{sound_owned}
use Rattle.words.proofs.Recounting.{idles_few}
use Rattle.arena.specs.Nodes.{SlotInside}
use Rattle.nodes.proofs.Raised.{owned_any}
use Rattle.plan.specs.Held.{Holds}
use Rattle.plan.proofs.Holdings.{unique}
use Rattle.commit.specs.Planned as commit
use Rattle.commit.proofs.Planning.{holds_plans, holds_shares}
use Rattle.writing.specs.Planned.{Planned, PutInSlot, Puts}

-- A planned tree leaves its fresh nodes at one place more than it has of them.
frontier_length : (t : Tree) → length (frontier t) ≤ made t + 1
frontier_length leaf = omega arith
frontier_length (node (kept i) c l e r) = omega arith
frontier_length (node fresh c l e r) = simp length-append (omega (arith, frontier_length l, frontier_length r))

pub commit_header : {ws plan : List ℕ} {link q : ℕ} → Planned ws plan link q → header_words ≤ length ws
commit_header k = omega (arith, k.sound.trees.limits.long_is)

module _ {ws plan : List ℕ} {link q n : ℕ} (k : Planned ws plan link q) (e : n ≡ nodes ws) where
  owned : Owned Sized (nodes ws) (slots ws) ws []
  owned = sound_owned ws k.sound

  plans : commit.Plans (nodes ws) plan link k.tree
  plans = holds_plans Sized (nodes ws) (slots ws) ws [] owned plan k.room k.holds k.live

  shares : Shares (nodes ws) ws k.tree
  shares = holds_shares Sized (nodes ws) (slots ws) ws [] owned plan k.room k.holds k.live

  pub commit_countable : commit.Countable n plan link 22
  commit_countable =
      rw
      e
      (record {
        tree = k.tree;
        plans = plans;
        low = k.low;
        few = omega (arith, k.fits, idles_few (nodes ws) ws, k.sound.trees.limits.n_high);
      })

  pub commit_raisable : commit.Raisable ws n plan link 22
  commit_raisable =
      rw
      e
      (record {
        tree = k.tree;
        plans = plans;
        low = k.low;
        v = slots ws;
        pending = [];
        owned = owned_any Sized (nodes ws) (slots ws) ws [] owned;
        live = k.live;
        few = omega (arith, frontier_length k.tree, k.fits, idles_few (nodes ws) ws, k.sound.trees.limits.n_high);
      })

  module _ {w : List ℕ} (R : commit.Raises ws w n plan link) where
    up : Owned Sized (nodes ws) (slots ws) (raising_all ws k.tree) (frontier k.tree ++ []) × Raised (nodes ws) ws (raising_all ws k.tree)
    up = raising_all_owned Sized (nodes ws) (slots ws) k.tree ws [] owned k.live

    w_is : w ≡ raising_all ws k.tree
    w_is = R.raises k.tree (rw e plans)

    pub commit_buildable : commit.Buildable w n plan link 22
    commit_buildable =
        rw
        (w_is, e)
        (record {
          tree = k.tree;
          plans = plans;
          low = k.low;
          v = slots ws;
          pending = [];
          owned = owned_any Sized (nodes ws) (slots ws) _ _ up.0;
          shares = shares_kept (nodes ws) ws (raising_all ws k.tree) k.tree (λ p u h. up.1.reads p u) shares;
          room = omega (arith, k.fits, up.1.idle);
        })

    module _ {w' : List ℕ} {r : ℕ} (B : commit.Builds w w' n plan link r) where
      abbrev built : Built
      built = building (raising_all ws k.tree) k.tree

      done : Commits Sized (nodes ws) (slots ws) [] ws k.tree built
      done = commits Sized (nodes ws) (slots ws) k.tree ws [] owned k.live shares k.fits

      words_is : w' ≡ built.words
      words_is = B.words k.tree (rw e plans) ∙ ap (λ (x : List ℕ). (building x k.tree).words) w_is

      link_is : r ≡ built.link
      link_is = B.link_is k.tree (rw e plans) ∙ ap (λ (x : List ℕ). (building x k.tree).link) w_is

      pub commit_inside : SlotInside n w' q
      commit_inside = rw words_is (omega (arith, done.owned.shaped.limits.long_is, k.below))

      pub commit_puts : {w'' : List ℕ} {z m : ℕ} → commit.Counts n plan link m → w'' ≡ slotting n w' q r z → Puts ws w'' plan link q z m
      commit_puts {w''} {z} {m} C f = record { puts = puts }
        where
          here : PutInSlot ws w'' k.tree q z m
          here =
              record {
                built = built;
                commits = done;
                takes = C.counts k.tree (rw e plans);
                words_are = f ∙ rw (e, words_is, link_is);
              }

          puts : (u : Tree) → Holds ws plan link u → PutInSlot ws w'' u q z m
          puts u h = subst (λ (t : Tree). PutInSlot ws w'' t q z m) (unique k.holds h) here
