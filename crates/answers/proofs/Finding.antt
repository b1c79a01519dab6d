-- What a lookup at the root that was entered found is what it finds in the slot's tree.
use mathlib.Core.Path.{◌≡◌, refl, ap, sym, ◌∙◌, subst}
use mathlib.Core.List.{List}
use Rattle.std.specs.Prelude.{Option}
use Rattle.std.proofs.Math.Option as math
use Prim.Native.Nat.{ℕ}
use Rattle.trees.specs.Tree as trees
use Rattle.words.specs.Layout.{nodes}
use Rattle.words.specs.Reads.{Reads, Held}
use Rattle.words.specs.Sound.{Sound}
use Rattle.arena.specs.declared.Entry.{Entry}
use Rattle.lookup.specs.Finding.{found_of, Finds}
use Rattle.lookup.proofs.Versions.{version_finds}
use Rattle.calls.specs.Refusal as calls
use Rattle.calls.specs.Reading.{or_refused}
use Rattle.calls.specs.Call as call
use Rattle.calls.specs.Version.{VersionIs}
use Rattle.calls.specs.Outcome.{Outcome}
use Rattle.calls.proofs.Versions.{version_of}
use Rattle.std.specs.Prelude.{Result, Ok, ok_or, Some, None}
use Rattle.arena.specs.Nodes.{entry_of}
use Rattle.answers.specs.Answers.{refusal_of, answer_by}
use Rattle.answers.specs.declared.Refusal.{Refusal}
use Rattle.answers.specs.Entering.{Enters}
use Rattle.answers.proofs.Entries.{root_of}

module _ {ws : List ℕ} {s : ℕ} {x : Result ℕ Refusal} (S : Sound ws) (g : Enters ws s x) {i : ℕ} (e : x ≡ Ok i) where
  pub slot_held : Held ws s
  slot_held = (root_of S g e).0

  abbrev pub slot_tree : trees.Tree
  slot_tree = S.trees.tree s slot_held

  -- The root that was entered holds the slot's tree.
  pub slot_version : VersionIs ws s slot_tree
  slot_version = version_of S s slot_held

  pub root_reads : Reads (nodes ws) ws i slot_tree
  root_reads = subst (λ (k : ℕ). Reads (nodes ws) ws k slot_tree) (sym (root_of S g e).1) slot_version.reads

  pub found_in : (f : Option Entry) (look : trees.Tree → math.Option trees.Entry) → Finds ws i f look → found_of f ≡ look slot_tree
  found_in f look y = version_finds ws S s slot_held f look (subst (λ (j : ℕ). Finds ws j f look) (root_of S g e).1 y)

  -- The outcome that says what the tree has says what was found.
  pub by_found : {c : call.Call} (r : calls.Refusal) (a : trees.Entry → call.Answer) {f : Option Entry} {look : trees.Tree → math.Option trees.Entry} →
      Finds ws i f look → Outcome c ws (or_refused r a (look slot_tree)) ws → {y : Option Entry} → f ≡ y → Outcome c ws (or_refused r a (found_of y)) ws
  by_found {c} r a {f} {look} m o {y} z = subst (λ (q : math.Option trees.Entry). Outcome c ws (or_refused r a q) ws) (sym (found_in f look m) ∙ ap found_of z) o

-- What was found, or else a refusal: as the code says it, and as the rules do.
module _ (r : Refusal) (t : trees.Entry → call.Answer) where
  pub entry_or : (f : Option Entry) → answer_by (λ e. t (entry_of e)) (ok_or f r) ≡ or_refused (refusal_of r) t (found_of f)
  entry_or (Some e) = refl
  entry_or None = refl
