-- Two arenas whose slots hold trees that are equal but for new nodes: links at the same place hold such trees, and a node stands beside one only.
use mathlib.Core.Path.{◌≡◌, refl, ap, sym, ◌∙◌, subst}
use mathlib.Core.Logic.{◌⊎◌, inl, inr, ⊎_elim}
use mathlib.Core.Bool.{Bool, true, false}
use mathlib.Core.List.{List}
use Prim.Native.Nat.{ℕ, ◌≤◌}
use native.Mathlib.Omega.{arith}
use Rattle.std.specs.Prelude.{if◌then◌else◌}
use Rattle.trees.specs.Tree.{Entry, Color, kept, fresh, Tree, leaf, node}
use Rattle.words.specs.Layout.{nodes, entry, left, right, color, code}
use Rattle.words.specs.Reads.{Reads, Held}
use Rattle.words.specs.Sound.{Sound}
use Rattle.words.specs.Fresh.{relabel_place, relabel}
use Rattle.calls.specs.Version.{VersionIs}
use Rattle.calls.specs.Alike.{Twins, at_slot, at_left, at_right}
use Rattle.calls.proofs.Versions.{version_one, version_fine}
use Rattle.calls.proofs.Facing.{Facing}
use Rattle.calls.proofs.Parts.{Part, whole, part_left, part_right, part_key, kept_same, NodeOf, reads_node}

-- Slot s holds a tree in each, and they are equal but for new nodes.
pub record BothHold (isNew : ℕ → Bool) (ws ws' : List ℕ) (s : ℕ) : Type 0 where
  pub tree : Tree
  pub tree' : Tree
  pub version : VersionIs ws s tree
  pub version' : VersionIs ws' s tree'
  pub alike : relabel isNew tree ≡ relabel isNew tree'

-- From ws to ws': so it is for each held slot, and a new node of ws' is in slot q only.
pub record Towards (isNew : ℕ → Bool) (q : ℕ) (ws ws' : List ℕ) : Type 0 where
  pub sound' : Sound ws'
  pub both : (s : ℕ) → Held ws s → BothHold isNew ws ws' s
  pub new_at : {s j : ℕ} {t l r : Tree} {c : Color} {e : Entry} → VersionIs ws' s t → Part t (node (kept j) c l e r) → isNew j ≡ true → s ≡ q

-- The links i and j stand at the same place of slot s's trees.
pub record Beside (isNew : ℕ → Bool) (ws ws' : List ℕ) (i j : ℕ) : Type 0 where
  pub slot : ℕ
  pub all' : Tree
  pub version' : VersionIs ws' slot all'
  pub here : Tree
  pub here' : Tree
  pub part' : Part all' here'
  pub reads : Reads (nodes ws) ws i here
  pub reads' : Reads (nodes ws') ws' j here'
  pub alike : relabel isNew here ≡ relabel isNew here'

-- The same node, unless both are new.
abbrev pub SamePlace : (ℕ → Bool) → ℕ → ℕ → Type 0
SamePlace isNew i j = (i ≡ j) ⊎ ((isNew i ≡ true) × (isNew j ≡ true))

-- Both are nodes, with the same contents, and their children stand at the same places.
pub record BothNodes (isNew : ℕ → Bool) (ws ws' : List ℕ) (i j : ℕ) : Type 0 where
  pub some_node : (1 ≤ i) × (1 ≤ j)
  pub entry_is : entry ws' j ≡ entry ws i
  pub color_is : color ws' j ≡ color ws i
  pub place : SamePlace isNew i j
  pub lefts : Beside isNew ws ws' (left ws i) (left ws' j)
  pub rights : Beside isNew ws ws' (right ws i) (right ws' j)

place_same : (isNew : ℕ → Bool) (i j : ℕ) → relabel_place isNew (kept i) ≡ relabel_place isNew (kept j) → SamePlace isNew i j
place_same isNew i j e = go (isNew i) (isNew j) refl refl e
  where
    go : (a b : Bool) → isNew i ≡ a → isNew j ≡ b → (if a then fresh else kept i) ≡ (if b then fresh else kept j) → SamePlace isNew i j
    go true true p q e = inr (p, q)
    go true false p q e = absurd (let z : ◌≡◌ {A = ℕ} 0 1 = cc in omega arith)
    go false true p q e = absurd (let z : ◌≡◌ {A = ℕ} 0 1 = cc in omega arith)
    go false false p q e = inl (cc)

module _ {isNew : ℕ → Bool} {ws ws' : List ℕ} {i j : ℕ} (b : Beside isNew ws ws' i j) where
  beside_trees : (t t' : Tree) → Part b.all' t' → Reads (nodes ws) ws i t → Reads (nodes ws') ws' j t' → relabel isNew t ≡ relabel isNew t' →
      ((i ≡ 0) × (j ≡ 0)) ⊎ BothNodes isNew ws ws' i j
  beside_trees leaf leaf p r r' q = inl (r, r')
  beside_trees leaf (node x' c' l' e' s') p r r' q = absurd (let z : ◌≡◌ {A = ℕ} 0 1 = cc in omega arith)
  beside_trees (node x c l e s) leaf p r r' q = absurd (let z : ◌≡◌ {A = ℕ} 0 1 = cc in omega arith)
  beside_trees (node x c l e s) (node x' c' l' e' s') p r r' q =
      let ee : e ≡ e' = cc in
      let ec : c ≡ c' = cc in
      let ex : relabel_place isNew x ≡ relabel_place isNew x' = cc in
      let el : relabel isNew l ≡ relabel isNew l' = cc in
      let es : relabel isNew s ≡ relabel isNew s' = cc in
      inr (record {
        some_node = (r.1.low, r'.1.low);
        entry_is = r'.1.entry_is ∙ sym ee ∙ sym r.1.entry_is;
        color_is = r'.1.color_is ∙ ap code (sym ec) ∙ sym r.1.color_is;
        place = place_same isNew i j (ap (relabel_place isNew) (sym r.0) ∙ ex ∙ ap (relabel_place isNew) r'.0);
        lefts = record { slot = b.slot; all' = b.all'; version' = b.version'; here = l; here' = l'; part' = part_left p; reads = r.2; reads' = r'.2; alike = el };
        rights = record { slot = b.slot; all' = b.all'; version' = b.version'; here = s; here' = s'; part' = part_right p; reads = r.3; reads' = r'.3; alike = es };
      })

  beside_nodes : ((i ≡ 0) × (j ≡ 0)) ⊎ BothNodes isNew ws ws' i j
  beside_nodes = beside_trees b.here b.here' b.part' b.reads b.reads' b.alike

  -- Node j in its version's tree.
  at_node : 1 ≤ j → NodeOf b.all' j (entry ws' j)
  at_node p = reads_node (nodes ws') ws' b.here' p b.part' b.reads'

module _ {isNew : ℕ → Bool} {q : ℕ} {ws ws' : List ℕ} (T : Towards isNew q ws ws') where
  pub beside : {i j : ℕ} → Twins ws ws' i j → Beside isNew ws ws' i j
  beside (at_slot s h) =
      let b = T.both s h in
      record {
        slot = s;
        all' = b.tree';
        version' = b.version';
        here = b.tree;
        here' = b.tree';
        part' = whole;
        reads = b.version.reads;
        reads' = b.version'.reads;
        alike = b.alike;
      }
  beside (at_left t p) = ⊎_elim (λ e. absurd (omega (arith, e.0))) (λ b. b.lefts) (beside_nodes (beside t))
  beside (at_right t p) = ⊎_elim (λ e. absurd (omega (arith, e.0))) (λ b. b.rights) (beside_nodes (beside t))

  pub twin_nodes : {i j : ℕ} → Twins ws ws' i j → ((i ≡ 0) × (j ≡ 0)) ⊎ BothNodes isNew ws ws' i j
  twin_nodes t = beside_nodes (beside t)

  -- Two new nodes beside one node have its key, and both are in slot q.
  new_one : {i j k : ℕ} → Twins ws ws' i j → Twins ws ws' i k → BothNodes isNew ws ws' i j → BothNodes isNew ws ws' i k → isNew j ≡ true →
      isNew k ≡ true → j ≡ k
  new_one {i} {j} {k} t t' m m' y y' =
      let b = beside t in
      let b' = beside t' in
      let a = at_node b m.some_node.1 in
      let a' = at_node b' m'.some_node.1 in
      let e = T.new_at b.version' a.part y in
      let e' = T.new_at b'.version' a'.part y' in
      let w : b'.all' ≡ b.all' = version_one (subst (λ (s : ℕ). VersionIs ws' s b'.all') (e' ∙ sym e) b'.version') b.version' in
      let key : (entry ws' j).key ≡ (entry ws' k).key = ap (λ (x : Entry). x.key) (m.entry_is ∙ sym m'.entry_is) in
      kept_same
      (part_key a.part (subst (λ (u : Tree). Part u (node (kept k) a'.color a'.lt (entry ws' k) a'.rt)) w a'.part) (version_fine T.sound' b.version').ordered key)

  pub twin_one : (i j k : ℕ) → Twins ws ws' i j → Twins ws ws' i k → j ≡ k
  twin_one i j k t t' =
      ⊎_elim
      (λ e. ⊎_elim (λ f. omega (arith, e.1, f.1)) (λ m. absurd (omega (arith, e.0, m.some_node.0))) (twin_nodes t'))
      (λ m. ⊎_elim (λ f. absurd (omega (arith, f.0, m.some_node.0))) (λ m'. go m m' m.place m'.place) (twin_nodes t'))
      (twin_nodes t)
    where
      go : BothNodes isNew ws ws' i j → BothNodes isNew ws ws' i k → SamePlace isNew i j → SamePlace isNew i k → j ≡ k
      go m m' (inl e) (inl f) = sym e ∙ f
      go m m' (inl e) (inr f) = new_one t t' m m' (ap isNew (sym e) ∙ f.0) f.1
      go m m' (inr e) (inl f) = new_one t t' m m' e.1 (ap isNew (sym f) ∙ e.0)
      go m m' (inr e) (inr f) = new_one t t' m m' e.1 f.1

  pub facing : Facing ws ws'
  facing =
      record {
        held = λ s h. (T.both s h).version'.held;
        some_node = λ t p. ⊎_elim (λ e. absurd (omega (arith, e.0))) (λ m. m.some_node.1) (twin_nodes t);
      }
