-- Rows by their keys and positions.
use Rattle.std.specs.Prelude.{ℕ, Bool, List, map, filter}
use Rattle.std.specs.Cmp.{IsTotalOrder}
use Rattle.std.specs.declared.cmp.Ordering.{Ordering}
use Rattle.myi_defs.specs.declared.types.Defs.{Defs}
use Rattle.myi_pack.specs.Packed.{Values}
use Rattle.myi_keylist.specs.PairOrder.{pair_with, pair_cmp}
use Rattle.myi_keylist.proofs.CallerLemmas.{pair_total}
use Rattle.myi_data.specs.Keys.{key_of}
use Rattle.myi_tablestate.specs.Matching.{Bounds, lies_between}
use Rattle.myi_readers.specs.declared.keyed_row.KeyedRow.{KeyedRow}

abbrev pub keyed_cmp : KeyedRow → KeyedRow → Ordering
keyed_cmp x y = pair_cmp x.pair y.pair

pub keyed_total : IsTotalOrder keyed_cmp
keyed_total = record {
  antisymm = λ x y. pair_total.antisymm x.pair y.pair;
  trans = λ x y z. pair_total.trans x.pair y.pair z.pair;
  congr = λ x y z. pair_total.congr x.pair y.pair z.pair;
}

-- a row at a position, by its key in the key of that number
abbrev pub keyed_of : Defs → ℕ → ℕ × Values → KeyedRow
keyed_of d k p = record { pair = pair_with (key_of d k p.1) p.0; row = p.1 }

abbrev pub all_keyed : Defs → ℕ → List (ℕ × Values) → List KeyedRow
all_keyed d k rows = map (keyed_of d k) rows

-- its key lies between the bounds
abbrev pub is_between : Defs → ℕ → Bounds → ℕ × Values → Bool
is_between d k b p = lies_between b (key_of d k p.1)

abbrev pub all_between : Defs → ℕ → Bounds → List (ℕ × Values) → List (ℕ × Values)
all_between d k b rows = filter (is_between d k b) rows

-- the position and the row
abbrev pub placed_of : KeyedRow → ℕ × Values
placed_of x = (x.pair.row, x.row)
