-- RULES 9.20: "A walk is nine words: the slot; kind and key of the start; kind and key of the end;
-- whether the front gave a key, and which; whether the back did, and which."
use Rattle.std.specs.Prelude.{List, ℕ, eqb, get_or, if◌then◌else◌}
use Rattle.std.proofs.Math.Option.{Option, none, some}
use Rattle.trees.specs.Range.{Bound, included, excluded, unbounded}
use Rattle.calls.specs.Call.{Walk}

-- RULES 9.20: "A kind of 1 is included, 2 is excluded, all others are none": 0, by which a caller
-- writes none, and those beyond the known ones.
abbrev pub bound_in : ℕ → ℕ → Bound
bound_in kind key = if eqb kind 1 then included key else (if eqb kind 2 then excluded key else unbounded)

-- RULES 9.20: "Whether a key was given: 0 is no, all others are yes".
abbrev pub last_in : ℕ → ℕ → Option ℕ
last_in given key = if eqb given 0 then none else some key

abbrev pub walk_in : List ℕ → Walk
walk_in w =
    record {
      slot = get_or w 0 0;
      range = record {
        start = bound_in (get_or w 1 0) (get_or w 2 0);
        end = bound_in (get_or w 3 0) (get_or w 4 0);
        given_front = last_in (get_or w 5 0) (get_or w 6 0);
        given_back = last_in (get_or w 7 0) (get_or w 8 0);
      };
    }
