-- What a reading of a list leaves of its tables.
use Rattle.std.proofs.Common.{◌≡◌, List, [], ◌∷◌, length, map, Option, Some, None, Result, Ok, Err, IfErr, ℕ, refl, sym, ap, subst, ◌∙◌, inl, inr}
use Rattle.std.specs.Prelude.{◌≢◌}
use Rattle.myi_base.specs.Holding.{Holding, IfTold, Told}
use Rattle.myi_base.proofs.CallerLemmas.{told_more}
use Rattle.myi_opening.specs.Names.{rows_file, index_file}
use Rattle.myi_search.specs.Counting.{CountsOn}
use Rattle.myi_history.specs.History.{in_list}
use Rattle.myi_table.specs.declared.fault.ReadFault.{ReadFault}
use Rattle.myi_table.specs.declared.fault.ReadFault.TheVariants as reading
use Rattle.myi_table.specs.Faults as table_faults
use Rattle.myi_table.specs.Table as table
use Rattle.myi_table.specs.Table.{OpenTable}
use Rattle.myi_merge.specs.Merged.{OpenMerge, AreWhole, OfEach}
use Rattle.myi_merge.specs.Reading.{IsOnlyRead, AreCarried, NotDamaged}
use Rattle.myi_merge.specs.Changing.{IsIndexOfOne, KeepsAllButIndexes}
use Rattle.myi_merge.proofs.CallerLemmas.{kinds_apart}
use Rattle.myi_shell.specs.declared.fault.ShellFault.{ShellFault}
use Rattle.myi_shell.specs.declared.target.Target.TheVariants.{Many}
use Rattle.myi_shell.specs.Reading.{of_reading}
use Rattle.myi_shell.specs.Changing.{NothingDamaged}
use Rattle.myi_shell.specs.Targets.{IsCarried, IsUntouched, IsUntouchedOne, StillHolds}
use Rattle.myi_shell.proofs.TargetTouches.{each_of, each_long, same_index}
use Rattle.myi_shell.proofs.ListTouches.{list_carried, whole_then}

pub reads_still : (told next : Option Holding) (g h : OpenMerge) → h.method ≡ g.method → AreCarried told next g.tables h.tables → StillHolds told next (Many g) (Many h)
reads_still told next g h method carried = λ m held s stands.
    let k = carried.still m held (in_list s.beside s.table) stands.0 in
    let long = each_long g.tables h.tables (IsOnlyRead told next) carried.each in
    (k.0, k.1, (k.2, stands.1 ∙ sym (same_index g h method long)))

pub reads_carried : (told next : Option Holding) (g h : OpenMerge) → h.method ≡ g.method → AreCarried told next g.tables h.tables → IsCarried told next (Many g) (Many h)
reads_carried told next g h method carried =
    list_carried told next g h carried.kept method (each_of g.tables h.tables (IsOnlyRead told next) table.IsSame (λ t u r. r.same) carried.each)
    (each_of g.tables h.tables (IsOnlyRead told next) (λ t u. CountsOn t.rows.trees.cache u.rows.trees.cache) (λ t u r. r.counted) carried.each) carried.others

-- a data file is no index file of a table
no_index : (name : List ℕ) (names : List (List ℕ)) → IsIndexOfOne names (rows_file name) → ⊥
no_index name [] is = is
no_index name (n ∷ names) (inl is) = kinds_apart name n is
no_index name (n ∷ names) (inr is) = no_index name names is

abbrev names_in : List OpenTable → List (List ℕ)
names_in ts = map (λ (t : OpenTable). t.name) ts

pub reads_untouched : (told next : Option Holding) (g h : OpenMerge) → h.method ≡ g.method → AreCarried told next g.tables h.tables → IsUntouched told next (Many g) (Many h)
reads_untouched told next g h method carried = (
  method,
  each_of g.tables h.tables (IsOnlyRead told next) (IsUntouchedOne told next) (λ t u r. record {
    name = r.same.name;
    untouched = record {
      rows = told_more told next (KeepsAllButIndexes g.tables) (table.KeepsRows t.name) carried.indexes (λ m n held k. k (rows_file t.name) (no_index t.name (names_in g.tables)));
      mark = r.changed;
    };
  }) carried.each,
)

pub reads_whole : (told next : Option Holding) (g h : OpenMerge) → AreWhole g.tables → AreCarried told next g.tables h.tables → AreWhole h.tables
reads_whole told next g h whole carried = whole_then g.tables h.tables whole (each_of g.tables h.tables (IsOnlyRead told next) (λ t u. u.broken ≡ t.broken) (λ t u r. r.broken) carried.each)

-- ---- damage

pub scan_never : (told : Option Holding) (f : ReadFault) → NotDamaged f → NothingDamaged told (of_reading f)
scan_never told (reading.Broken by) never = tt
scan_never told (reading.Damaged at) never = absurd never
scan_never told reading.File never = tt
scan_never told reading.Memory never = tt

pub range_never : (told : Option Holding) (f : ReadFault) → table_faults.NeverDamaged told f → NothingDamaged told (of_reading f)
range_never told (reading.Broken by) never = tt
range_never told (reading.Damaged at) never = λ m held. absurd (let k : ◌≡◌ {A = Option Holding} None (Some m) = sym never ∙ held in cc)
range_never told reading.File never = tt
range_never told reading.Memory never = tt
