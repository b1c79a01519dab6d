-- Laws of `Holds`: a link holds one tree at most, and what a plan holds, one with the same nodes and more holds too.
use mathlib.Core.Path.{◌≡◌, refl, sym, subst, ◌∙◌}
use mathlib.Core.List.{List}
use Prim.Native.Nat.{ℕ, ◌≤◌, ◌<◌}
use native.Mathlib.Omega.{arith}
use Rattle.trees.specs.Tree.{Color, red, black, Tree, leaf, node, made}
use Rattle.words.specs.Layout.{nodes, left, right, code}
use Rattle.words.specs.Reads.{Reads}
use Rattle.plan.specs.Scratch.{used, plan_entry, plan_left, plan_right, plan_color}
use Rattle.plan.specs.Held.{spot, Holds, none, shared, planned}

pub code_same : (c d : Color) → code c ≡ code d → c ≡ d
code_same red red e = refl
code_same red black e = absurd (omega arith)
code_same black red e = absurd (omega arith)
code_same black black e = refl

pub is_leaf : {ws plan : List ℕ} {link : ℕ} {t : Tree} → link ≡ 0 → Holds ws plan link t → t ≡ leaf
is_leaf e (none f) = refl
is_leaf e (shared n l r) = absurd (let z = n.low in omega arith)
is_leaf e (planned n l r) = absurd (let z = n.low in omega arith)

-- Two trees held at one link are equal.
pub unique : {ws plan : List ℕ} {link : ℕ} {s t : Tree} → Holds ws plan link s → Holds ws plan link t → s ≡ t
unique (none e) h = sym (is_leaf e h)
unique (shared n l r) (none e) = is_leaf e (shared n l r)
unique (planned n l r) (none e) = is_leaf e (planned n l r)
unique (shared n l r) (planned n' l' r') = absurd (let a = n.high in let b = n'.low in omega arith)
unique (planned n l r) (shared n' l' r') = absurd (let a = n'.high in let b = n.low in omega arith)
unique (shared {c = c} {e = e} {l = a} {r = b} n l r) (shared {c = c'} {e = e'} {l = a'} {r = b'} n' l' r') =
    let ec : c ≡ c' = code_same c c' (sym n.color_is ∙ n'.color_is) in
    let ee : e ≡ e' = sym n.entry_is ∙ n'.entry_is in
    let el : a ≡ a' = unique l l' in
    let er : b ≡ b' = unique r r' in
    cc
unique (planned {c = c} {e = e} {l = a} {r = b} n l r) (planned {c = c'} {e = e'} {l = a'} {r = b'} n' l' r') =
    let ec : c ≡ c' = code_same c c' (sym n.color_is ∙ n'.color_is) in
    let ee : e ≡ e' = sym n.entry_is ∙ n'.entry_is in
    let el : a ≡ a' = unique l l' in
    let er : b ≡ b' = unique r r' in
    cc

-- Node j has the same words in the plans a and b.
pub record Agrees (a b : List ℕ) (j : ℕ) : Type 0 where
  pub entry_is : plan_entry b j ≡ plan_entry a j
  pub left_is : plan_left b j ≡ plan_left a j
  pub right_is : plan_right b j ≡ plan_right a j
  pub color_is : plan_color b j ≡ plan_color a j

pub frame : {ws a b : List ℕ} {link : ℕ} {t : Tree} → used a ≤ used b → ((j : ℕ) → j < used a → Agrees a b j) → Holds ws a link t → Holds ws b link t
frame u f (none e) = none e
frame u f (shared n l r) = shared n (frame u f l) (frame u f r)
frame {ws} {a} {b} {link} u f (planned {l = s} {r = t} n l r) =
    let z : spot ws link < used a = let p = n.low in let q = n.high in omega arith in
    let g = f (spot ws link) z in
    planned
    (record { low = n.low; high = (let q = n.high in omega arith); color_is = g.color_is ∙ n.color_is; entry_is = g.entry_is ∙ n.entry_is })
    (subst (λ (z : ℕ). Holds ws b z s) (sym g.left_is) (frame u f l))
    (subst (λ (z : ℕ). Holds ws b z t) (sym g.right_is) (frame u f r))

-- What the arena holds, a link holds beside any plan.
pub reads_holds : {ws : List ℕ} (plan : List ℕ) (link : ℕ) (t : Tree) → Reads (nodes ws) ws link t → Holds ws plan link t
reads_holds plan link leaf h = none h
reads_holds {ws} plan link (node p c l e r) h =
    rw h.0 (shared h.1 (reads_holds plan (left ws link) l h.2) (reads_holds plan (right ws link) r h.3))

-- A tree of which this call makes no node stands in the arena.
pub holds_reads : {ws plan : List ℕ} {link : ℕ} {t : Tree} → made t ≡ 0 → Holds ws plan link t → Reads (nodes ws) ws link t
holds_reads k (none e) = e
holds_reads k (shared n l r) = (refl, n, holds_reads (omega arith) l, holds_reads (omega arith) r)
holds_reads k (planned n l r) = absurd (omega arith)
