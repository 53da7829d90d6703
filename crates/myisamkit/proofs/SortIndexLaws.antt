-- What the turn of a table leaves whose pages are sorted.
use Rattle.std.proofs.Common.{◌≡◌, ℕ, List, Option, sym, subst, inl, inr}
use Rattle.std.proofs.Math.Path.{fun_ext}
use Rattle.myi_base.specs.Holding.{Holding, Told}
use Rattle.myi_opening.specs.Opening as opening
use Rattle.myi_repair.specs.Names.{names_for, new_index_file, KeepsBoth}
use Rattle.myi_repair.specs.Faults.{RoseAtMost}
use Rattle.myi_sortindex.specs.Refusals.{table_in, Clears}
use Rattle.myi_sortindex.specs.Sorting.{IsSorted, index_trees, sorted_index, Sorts, OthersStay}
use Rattle.myisamkit.specs.declared.options.Options.{Options}
use Rattle.myisamkit.specs.Turns.{pages_turn, SortIndexDone, SortIndexCutOff}
use Rattle.myisamkit.proofs.TurnLaws.{some_same, ok_same, indexed_at}

-- the pages were sorted
pub sort_index_done : (o : Options) (name : List ℕ) (count : ℕ) (old new : Option Holding) → Told old new (Sorts name count) → Told old new (OthersStay name) → Told old new (SortIndexDone o name)
sort_index_done o name count old new done others = record {
  told = λ m told.
      let r = done.told m told in
      let k = others.told m told in
      let s = r.2 in
      let keeps = subst (λ n. OthersStay name m n) (some_same k.0 r.0 new k.1 r.1) k.2 in
      let sorted = subst (λ n. IsSorted s.table.rows s.table.index (sorted_index s.table.defs s.table.index) n) s.answer s.sorted in (
        r.0,
        r.1,
        record {
          files = subst (λ t. r.0 ≡ (pages_turn o name t m).files) (sym s.is) (fun_ext (indexed_at name _ m r.0 s.has_index s.gone keeps));
          sorted = λ t is. subst (λ (u : opening.Table). IsSorted u.rows u.index (sorted_index u.defs u.index) (index_trees u.defs u.index).pages) (ok_same s.table t (table_in name m) s.is is) sorted;
        },
      );
  untold = done.untold;
}

-- no pages were sorted
pub sorts_none : (o : Options) (told before after : ℕ) (name : List ℕ) (old new : Option Holding) → Told old new (KeepsBoth (names_for name)) → Told old new (OthersStay name)
    → (RoseAtMost told before after → Told old new (Clears (new_index_file name))) → Told old new (SortIndexCutOff o told before after name)
sorts_none o told before after name old new both others cleared = record {
  told = λ m is.
      let n = both.told m is in
      let k = others.told m is in (
        n.0,
        n.1,
        inl record {
          both = n.2;
          others = subst (λ h. OthersStay name m h) (some_same k.0 n.0 new k.1 n.1) k.2;
          cleared = λ rose. let z = (cleared rose).told m is in subst (λ h. Clears (new_index_file name) m h) (some_same z.0 n.0 new z.1 n.1) z.2;
        },
      );
  untold = both.untold;
}

-- memory was wanting behind it
pub sorted_behind : (o : Options) (told before after : ℕ) (name : List ℕ) (old new : Option Holding) → told ≡ 0 → Told old new (SortIndexDone o name) → Told old new (SortIndexCutOff o told before after name)
sorted_behind o told before after name old new none done = record {
  told = λ m is. let n = done.told m is in (n.0, n.1, inr (none, n.2));
  untold = done.untold;
}
