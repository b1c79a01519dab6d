-- Steps one after the other: what is left of the room, and what is still held.
use mathlib.Core.Path.{refl, ◌∙◌}
use mathlib.Core.List.{List}
use Prim.Native.Nat.{ℕ, ◌+◌, ◌≤◌}
use native.Mathlib.Omega.{arith}
use Rattle.plan.specs.Held.{Some, Room}
use Rattle.plan.specs.Steps.{Grown}

pub room_less : {ws plan : List ℕ} {j k : ℕ} → Room ws plan k → j ≤ k → Room ws plan j
room_less h le = record { arena = h.arena; room = (let r = h.room in omega arith); links = (let l = h.links in omega arith) }

pub no_growth : {ws plan : List ℕ} (k : ℕ) → Grown ws plan plan k
no_growth k = record { keeps = λ h. h; grows = omega arith; same = refl }

pub grow_to : {ws a b : List ℕ} {i j : ℕ} → Grown ws a b i → i ≤ j → Grown ws a b j
grow_to g le = record { keeps = λ h. g.keeps h; grows = (let u = g.grows in omega arith); same = g.same }

pub onward : {ws a b c : List ℕ} {i j k : ℕ} → Grown ws a b i → Grown ws b c j → i + j ≤ k → Grown ws a c k
onward g h le = record { keeps = λ x. h.keeps (g.keeps x); grows = (let u = g.grows in let v = h.grows in omega arith); same = h.same ∙ g.same }

pub some_kept : {ws a b : List ℕ} {k link : ℕ} → Grown ws a b k → Some ws a link → Some ws b link
some_kept g s = record { tree = s.tree; held = g.keeps s.held }
