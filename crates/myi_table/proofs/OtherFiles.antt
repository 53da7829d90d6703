-- A table where files of other names than its two change.
use Rattle.std.proofs.Common.{◌≡◌, ℕ, List, [], Option, Some, ap, sym, subst, arith}
use Rattle.std.specs.Prelude.{unwrap_or}
use Rattle.std.proofs.lemmas.Option.{same_Some}
use Rattle.myi_base.specs.Holding.{Holding}
use Rattle.myi_keylist.specs.declared.pair.Pair.{Pair}
use Rattle.myi_state.specs.State.{TableState}
use Rattle.myi_state.specs.Standing.{StandsFor}
use Rattle.myi_slots.specs.SlotFile.{SlotFile, IsFileOf}
use Rattle.myi_keytrees.specs.Standing.{Stand, StandThen}
use Rattle.myi_keytrees.proofs.CallerLemmas.{stand_elsewhere, counted}
use Rattle.myi_rowtrees.specs.RowLists.{lists_of}
use Rattle.myi_table.specs.Table.{OpenTable, defs_in, HoldState}

file_there : (f : SlotFile) (s : TableState) (m n : Holding) → n f.name ≡ m f.name → IsFileOf f s m → IsFileOf f s n
file_there f s m n same is = record { counts = is.counts; stands = subst (λ (x : List ℕ). StandsFor f.defs s x) (ap (λ (o : Option (List ℕ)). unwrap_or o []) (sym same)) is.stands }

pub still_there : (t : OpenTable) (s : TableState) (m n : Holding) → n t.rows.rows.file.name ≡ m t.rows.rows.file.name → n t.rows.trees.cache.name ≡ m t.rows.trees.cache.name → HoldState t s m → HoldState t s n
still_there t s m n rows index h =
    let k = t.rows in
    let lists : List (List Pair) = lists_of (defs_in t) s.rows in
    let then : StandThen k.trees m h.own (Some n) k.trees lists = stand_elsewhere k.trees m n h.own lists index h.files.table.trees in
    let stand : Stand k.trees n h.own lists = subst (λ (q : Holding). Stand k.trees q h.own lists) (sym (same_Some n then.now then.held)) then.stand in
    record {
      whole = h.whole;
      own = h.own;
      files = record {
        table = record { table = h.files.table.table; rows = (file_there k.rows.file s m n rows h.files.table.rows.0, h.files.table.rows.1); trees = stand };
        reached = h.files.reached;
        behind = h.files.behind;
        counted = let same = counted k.trees k.trees m n h.own lists lists h.files.table.trees stand in let was = h.files.counted in omega (arith, same, was);
      };
    }
