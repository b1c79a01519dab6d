-- A round of the descent towards an end of a range: an entry in range is noted, and the descent
-- goes on to what is nearer that end, else away from it.
use mathlib.Core.Logic.{◌⊎◌, inl, inr}
use Rattle.std.proofs.Common.{◌≡◌, ℕ, ◌-◌, List, Bool, true, false, refl, sym, ap, ◌∙◌}
use Rattle.std.specs.Option.{option_or}
use Rattle.std.specs.Prelude.{Option, Some, None}
use Rattle.std.proofs.Math.Option as math
use Rattle.trees.specs.Tree.{Entry}
use Rattle.trees.specs.Listing.{or_else}
use Rattle.trees.specs.Range.{Range}
use Rattle.trees.specs.Lookup.{least, greatest}
use Rattle.arena.specs.Nodes.{entry_of, IsNode}
use Rattle.arena.specs.declared.Node.{Node}
use Rattle.arena.specs.declared.Entry as arena
use Rattle.lookup.specs.Finding.{found_of, Finds}
use Rattle.lookup.specs.declared.End.{End}
use Rattle.lookup.specs.declared.End.TheVariants.{Front, Back}
use Rattle.lookup.specs.Ends.{toward, away}
use Rattle.lookup.proofs.Descents.{at_none, at_node, rooted_toward, rooted_away}
use Rattle.lookup.proofs.Leading.{Leads, leads_on, leads_noting}
use Rattle.ranges.specs.Digging.{admits, dug}

noted_else : {o : math.Option Entry} (r : Option arena.Entry) (e : arena.Entry) → found_of r ≡ o → found_of (option_or r (Some e)) ≡ or_else o (entry_of e)
noted_else (Some x) e h = ap (λ (o : math.Option Entry). or_else o (entry_of e)) h
noted_else None e h = ap (λ (o : math.Option Entry). or_else o (entry_of e)) h

dug_none : {ws : List ℕ} {at : ℕ} (end : End) (w : Range) → at ≡ 0 → Finds ws at None (dug end w)
unfolding least greatest
dug_none Front w z = at_none None (dug Front w) z refl
dug_none Back w z = at_none None (dug Back w) z refl

-- Above a node in range stands what is found towards the end, or else its entry; above another,
-- what is found away from the end.
module _ {ws : List ℕ} {at : ℕ} {d : Node} (w : Range) (s : at ≡ 0 → ⊥) (m : IsNode ws at d) where
  dug_toward : (end : End) → true ≡ admits end w d.entry.key → (r : Option arena.Entry) → Finds ws (toward end d) r (dug end w) →
      Finds ws at (option_or r (Some d.entry)) (dug end w)
  unfolding least greatest
  dug_toward Front t r g =
      at_node (option_or r (Some d.entry)) (dug Front w) s m (λ n q c a b ha hb. rw (sym t) (noted_else r d.entry (g.says n a ha)))
  dug_toward Back t r g =
      at_node (option_or r (Some d.entry)) (dug Back w) s m (λ n q c a b ha hb. rw (sym t) (noted_else r d.entry (g.says n b hb)))

  dug_away : (end : End) → false ≡ admits end w d.entry.key → (r : Option arena.Entry) → Finds ws (away end d) r (dug end w) → Finds ws at r (dug end w)
  unfolding least greatest
  dug_away Front t r g = at_node r (dug Front w) s m (λ n q c a b ha hb. rw (sym t) (g.says n b hb))
  dug_away Back t r g = at_node r (dug Back w) s m (λ n q c a b ha hb. rw (sym t) (g.says n a ha))

module _ {ws : List ℕ} {i at h : ℕ} {noted : Option arena.Entry} (end : End) (w : Range) (L : Leads (dug end w) ws i at h noted) where
  pub dig_end : at ≡ 0 → Finds ws i noted (dug end w)
  dig_end z = L.leads None (dug_none end w z)

  module _ {d : Node} {t : Bool} {side link : ℕ} {next : Option arena.Entry} (s : at ≡ 0 → ⊥) (m : IsNode ws at d) (tested : t ≡ admits end w d.entry.key) where
    pub dig_noting : t ≡ true → side ≡ toward end d → link ≡ side → next ≡ Some d.entry → Leads (dug end w) ws i link (h - 1) next
    dig_noting y o l e =
        rw (l, o, e) (leads_noting L (rooted_toward L.rooted s end m refl) (dug_toward w s m end (sym y ∙ tested)))

    pub dig_on : t ≡ false → side ≡ away end d → link ≡ side → next ≡ noted → Leads (dug end w) ws i link (h - 1) next
    dig_on y o l e = rw (l, o, e) (leads_on L (rooted_away L.rooted s end m refl) (dug_away w s m end (sym y ∙ tested)))

  -- A round, whichever of the two ways it went.
  pub dig_round : {d : Node} {link : ℕ} {next : Option arena.Entry} → (at ≡ 0 → ⊥) → IsNode ws at d →
      (admits end w d.entry.key ≡ true × link ≡ toward end d × next ≡ Some d.entry) ⊎ (admits end w d.entry.key ≡ false × link ≡ away end d × next ≡ noted) →
      Leads (dug end w) ws i link (h - 1) next
  dig_round s m (inl x) = dig_noting s m refl x.0 refl x.1 x.2
  dig_round s m (inr x) = dig_on s m refl x.0 refl x.1 x.2
