-- What sorting answers and leaves, by what its parts do.
use Rattle.std.proofs.Common.{◌≡◌, ◌⊎◌, inl, inr, ◌∙◌, ◌<◌, ◌≤◌, ◌^◌, ℕ, Bool, true, false, List, [], ◌∷◌, ◌++◌, length, map, Option, Some, None, unwrap_or, refl, sym, ap, subst, IsPermutation}
use Rattle.std.specs.Prelude.{Result, Ok, Err, slice_get, if◌then◌else◌}
use Rattle.std.proofs.lemmas.List.{append-nil}
use Rattle.std.proofs.lemmas.List.Sorted.{IsPermutation-map}
use Rattle.myi_base.specs.Holding.{Holding, HoldsBytes, IfTold, bytes_of}
use Rattle.myi_base.specs.Numbers.{AreBytes}
use Rattle.myi_defs.specs.declared.types.Defs.{Defs}
use Rattle.myi_defs.specs.Sound.{IsSound}
use Rattle.myi_defs.specs.Addressable.{is_addressable}
use Rattle.myi_defs.specs.ReadDefs.{AreDefs}
use Rattle.myi_defs.proofs.CallerLemmas.{sound}
use Rattle.myi_opening.specs.declared.fault.TableFault.{TableFault}
use Rattle.myi_opening.specs.Names.{rows_file, index_file}
use Rattle.myi_opening.specs.Opening.{Table, table, IsCutOff}
use Rattle.myi_opening.specs.Opening as opening
use Rattle.myi_opening.proofs.CallerLemmas.{table_opened, table_rows}
use Rattle.myi_pair.specs.declared.finding.Finding.{Finding}
use Rattle.myi_chain.specs.Readable.{Row}
use Rattle.myi_data.specs.Readable.{readable}
use Rattle.myi_data.specs.Stored.{SizedRow, values_in, stored_file}
use Rattle.myi_pair.specs.FirstRows.{AreDistinct}
use Rattle.myi_pair.specs.Clean.{values_of, sized_row, IsClean}
use Rattle.myi_pair.specs.Findings.{findings}
use Rattle.myi_pair.specs.RebuiltBytes.{rebuilt, rebuilt_index}
use Rattle.myi_pair.specs.Rebuilt.{CanBeRebuilt, Rebuilt}
use Rattle.myi_pair.proofs.CallerLemmas.{clean_where_none}
use Rattle.myi_check.specs.Checking.{findings_in, findings_by, Finds}
use Rattle.myi_check.specs.Checking as checking
use Rattle.myi_repair.specs.declared.gathering.Gathered.{Gathered}
use Rattle.myi_repair.specs.declared.report.Report.{Report}
use Rattle.myi_repair.specs.Names.{FourNames, names_for, KeepsBoth, Holds}
use Rattle.myi_repair.specs.Finishing.{IsWhole}
use Rattle.myi_repair.specs.Repaired.{Completes, CompletesPart}
use Rattle.myi_order.specs.declared.fault.OrderFault.{OrderFault}
use Rattle.myi_order.specs.declared.fault.OrderFault.TheVariants.{NoKey, Damaged}
use Rattle.myi_order.specs.Faults.{order_fault, CutsOff}
use Rattle.myi_order.specs.Analyzing.{clean_by}
use Rattle.myi_order.specs.InOrder.{in_order}
use Rattle.myi_order.specs.Sorting.{has_key, table_by, table_in, IsRefused, rows_of, LeavesOrdered, OldOrNewOf, OldOrNew}
use Rattle.myi_order.specs.NewOrder.{IsGathered, GathersInOrder}
use Rattle.myi_order.specs.SortedFiles.{SortsFiles, SortsPart}
use Rattle.myi_order.proofs.AnalyzeLaws.{IsOpened}
use Rattle.myi_order.proofs.OrderLaws.{is_in_order, order_same, order_distinct}
use Rattle.myi_order.proofs.NewOrderLaws.{ordered_storable, both_after}

ok_same : {A E : Type 0} (x y : A) → ◌≡◌ {A = Result A E} (Ok x) (Ok y) → x ≡ y
ok_same x y same = cc

err_same : {A E : Type 0} (x y : E) → ◌≡◌ {A = Result A E} (Err x) (Err y) → x ≡ y
err_same x y same = cc

-- ---- the two files

-- what was gathered was completed
pub sorted_files : (t : FourNames) (d : Defs) (size k now : ℕ) (g : Gathered) (said : Report) (m n o : Holding) → g.defs ≡ d → g.report.old_length ≡ size → GathersInOrder t k g m n → said ≡ g.report → Completes t g now n o → SortsFiles t d size k now said m o
sorted_files t d size k now g said m n o defs long gathered same done x there fits =
    let is : IsGathered t k x g n = gathered x there (fits ∙ sym long) in
    let holds : Holds t (stored_file g.defs (rows_of g.defs k x)) (rebuilt_index g.defs (rows_of g.defs k x) now) o = done (rows_of g.defs k x) is.rows is.written in (
      subst (λ e. Holds t (stored_file e (rows_of e k x)) (rebuilt_index e (rows_of e k x) now) o) defs holds,
      same
          ∙ ap (λ v. record { kept = v; repeats = g.report.repeats; old_length = g.report.old_length; new_length = g.report.new_length }) is.rows.kept
          ∙ ap (λ v. record { kept = length (rows_of g.defs k x); repeats = v; old_length = g.report.old_length; new_length = g.report.new_length }) is.none
          ∙ ap (λ v. record { kept = length (rows_of g.defs k x); repeats = 0; old_length = v; new_length = g.report.new_length }) (long ∙ sym fits)
          ∙ ap (λ v. record { kept = length (rows_of g.defs k x); repeats = 0; old_length = length x; new_length = v }) is.rows.long
          ∙ ap (λ e. record { kept = length (rows_of e k x); repeats = 0; old_length = length x; new_length = length (stored_file e (rows_of e k x)) }) defs,
    )

-- or in part, where gathering kept both files
pub sorted_part : (t : FourNames) (d : Defs) (size k now : ℕ) (g : Gathered) (m n o : Holding) → g.defs ≡ d → g.report.old_length ≡ size → GathersInOrder t k g m n → KeepsBoth t m n → CompletesPart t g now n o → SortsPart t d size k now m o
sorted_part t d size k now g m n o defs long gathered both part x there fits =
    let is : IsGathered t k x g n = gathered x there (fits ∙ sym long) in
    let whole : IsWhole t (stored_file g.defs (rows_of g.defs k x)) (rebuilt_index g.defs (rows_of g.defs k x) now) n o = part (rows_of g.defs k x) is.rows is.written in
    before (stored_file d (rows_of d k x)) (rebuilt_index d (rows_of d k x) now) (subst (λ e. IsWhole t (stored_file e (rows_of e k x)) (rebuilt_index e (rows_of e k x) now) n o) defs whole)
  where
    before : (e y : List ℕ) → IsWhole t e y n o → IsWhole t e y m o
    before e y (inl keeps) = inl (both_after t m n o keeps both)
    before e y (inr replaced) = inr (record { rows = replaced.rows; index = index replaced.index })
      where
        index : (o t.index ≡ n t.index) ⊎ (o t.index ≡ Some y) → (o t.index ≡ m t.index) ⊎ (o t.index ≡ Some y)
        index (inl same) = inl (same ∙ both.index)
        index (inr new) = inr new

-- where both stay they are the old ones
pub part_kept : (t : FourNames) (d : Defs) (size k now : ℕ) (m n : Holding) → KeepsBoth t m n → SortsPart t d size k now m n
part_kept t d size k now m n both x there fits = inl both

-- ---- what is refused

cut_by : (e : TableFault) → IsCutOff e → CutsOff (order_fault e)
cut_by e (inl file) = inl (ap order_fault file)
cut_by e (inr memory) = inr (ap order_fault memory)

-- a table that was not opened
pub not_opened : (name index rows : List ℕ) (k : ℕ) (old new : Option Holding) (e : TableFault) (f : OrderFault) → index ≡ index_file name → rows ≡ rows_file name → f ≡ order_fault e → new ≡ old → IsCutOff e ⊎ IfTold old (opening.HasNoTable index rows e)
    → CutsOff f ⊎ IsRefused name k f old new
unfolding table_in
not_opened name index rows k old new e f index_is rows_is is same (inl cut) = inl (subst CutsOff (sym is) (cut_by e cut))
not_opened name index rows k old new e f index_is rows_is is same (inr none) = inr (record {
  reason = λ m told. ap (table_by k) (ap (λ i. opening.table_in i (rows_file name) m) (sym index_is) ∙ ap (λ r. opening.table_in index r m) (sym rows_is) ∙ none m told) ∙ ap (λ (x : OrderFault). Err x) (sym is);
  same = same;
})

-- the table of these files is that of the name
opened_as : (name index rows : List ℕ) (d : Defs) (size : ℕ) (m : Holding) → index ≡ index_file name → rows ≡ rows_file name → (has : opening.HasTable index rows d size m) → opening.table_in (index_file name) (rows_file name) m ≡ Ok (table d has.data_file has.index_file)
opened_as name index rows d size m index_is rows_is has = ap (λ i. opening.table_in i (rows_file name) m) (sym index_is) ∙ ap (λ r. opening.table_in index r m) (sym rows_is) ∙ has.is

-- its data file is there
pub rows_opened : (name index rows : List ℕ) (d : Defs) (size : ℕ) (m : Holding) → index ≡ index_file name → rows ≡ rows_file name → opening.HasTable index rows d size m → (x : List ℕ) × (m (rows_file name) ≡ Some x) × (size ≡ length x)
rows_opened name index rows d size m index_is rows_is has =
    let here = opened_as name index rows d size m index_is rows_is has in
    (has.data_file, table_rows (index_file name) (rows_file name) (table d has.data_file has.index_file) m here, has.long)

-- a table without the key
pub no_key : (name index rows : List ℕ) (d : Defs) (size k : ℕ) (old new : Option Holding) → index ≡ index_file name → rows ≡ rows_file name → IfTold old (opening.HasTable index rows d size) → has_key d k ≡ false → new ≡ old → IsRefused name k (NoKey (length d.keys)) old new
unfolding table_in
no_key name index rows d size k old new index_is rows_is has lacks same = record {
  reason = λ m told.
      let t : Table = table d (has m told).data_file (has m told).index_file in
      ap (table_by k) (opened_as name index rows d size m index_is rows_is (has m told)) ∙ ap (λ (b : Bool). if b then clean_by t (findings t.defs t.rows t.index) else Err (NoKey (length t.defs.keys))) lacks;
  same = same;
}

not_by : (r : Result Table TableFault) (e : TableFault) → findings_by r ≡ Err e → r ≡ Err e
not_by (Err f) e is = ap (λ (x : TableFault). Err x) (err_same {A = List Finding} f e is)
not_by (Ok t) e is = absurd cc

refused_by : (name : List ℕ) (k : ℕ) (e : TableFault) (m : Holding) → checking.Refuses name e m → table_in name k m ≡ Err (order_fault e)
unfolding findings_in table_in
refused_by name k e m is = ap (table_by k) (not_by (opening.table_in (index_file name) (rows_file name) m) e is)

-- a check that was not made
pub not_checked : (name : List ℕ) (k : ℕ) (old new : Option Holding) (e : TableFault) (f : OrderFault) → f ≡ order_fault e → new ≡ old → IsCutOff e ⊎ IfTold old (checking.Refuses name e) → CutsOff f ⊎ IsRefused name k f old new
not_checked name k old new e f is same (inl cut) = inl (subst CutsOff (sym is) (cut_by e cut))
not_checked name k old new e f is same (inr none) = inr (record { reason = λ m told. refused_by name k e m (none m told) ∙ ap (λ (x : OrderFault). Err x) (sym is); same = same })

-- something was found
pub damaged : (name index rows : List ℕ) (d : Defs) (size k : ℕ) (found : Finding) (others : List Finding) (m : Holding) → index ≡ index_file name → rows ≡ rows_file name → opening.HasTable index rows d size m → has_key d k ≡ true → Finds name (found ∷ others) m → table_in name k m ≡ Err (Damaged found)
unfolding findings_in table_in
damaged name index rows d size k found others m index_is rows_is has key is =
    let t : Table = table d has.data_file has.index_file in
    let here = opened_as name index rows d size m index_is rows_is has in
    let all : findings d has.data_file has.index_file ≡ found ∷ others = ok_same {E = TableFault} (findings d has.data_file has.index_file) (found ∷ others) (sym (ap findings_by here) ∙ is) in
    ap (table_by k) here ∙ ap (λ (b : Bool). if b then clean_by t (findings t.defs t.rows t.index) else Err (NoKey (length t.defs.keys))) key ∙ ap (clean_by t) all

-- ---- a table that can be sorted

pub is_sortable : (name : List ℕ) (d : Defs) (size k : ℕ) (m : Holding) → (o : IsOpened name d size m) → has_key d k ≡ true → table_in name k m ≡ Ok (table d o.data_file o.index)
unfolding table_in
is_sortable name d size k m o key =
    let t : Table = table d o.data_file o.index in
    ap (table_by k) (table_opened (index_file name) (rows_file name) o.index o.data_file d m o.there o.rows_there o.read)
    ∙ ap (λ (b : Bool). if b then clean_by t (findings t.defs t.rows t.index) else Err (NoKey (length t.defs.keys))) key ∙ ap (clean_by t) o.none

values_sized : (d : Defs) (rows : List Row) → values_in (map (sized_row d) rows) ≡ map (values_of d) rows
values_sized d [] = refl
values_sized d (r ∷ rows) = ap (λ vs. values_of d r ∷ vs) (values_sized d rows)

-- the laws on tables that are made anew, as premises
abbrev pub NoLonger : Type 0
NoLonger = (d : Defs) (extend : Bool) (x : List ℕ) → AreDefs d → AreBytes x → (rows others : List SizedRow) → IsPermutation (map (sized_row d) (readable d extend x)) (rows ++ others) → length (stored_file d rows) ≤ length x

abbrev pub Shorter : Type 0
Shorter = (d : Defs) (longer shorter : ℕ) → IsSound d → shorter ≤ longer → is_addressable d longer ≡ true → is_addressable d shorter ≡ true

abbrev pub MadeAnew : Type 0
MadeAnew = (d : Defs) (rows : List SizedRow) (now : ℕ) → CanBeRebuilt d rows now → Rebuilt d rows now (rebuilt d rows now).0 (rebuilt d rows now).1

no_longer : (name : List ℕ) (d : Defs) (size k : ℕ) (m : Holding) → AreDefs d → HoldsBytes m → NoLonger → (o : IsOpened name d size m) → length (stored_file d (rows_of d k o.data_file)) ≤ length o.data_file
no_longer name d size k m are holds long o =
    let x : List ℕ = o.data_file in
    let here : bytes_of (rows_file name) m ≡ x = ap (λ (b : Option (List ℕ)). unwrap_or b []) o.rows_there in
    let bytes : AreBytes x = subst AreBytes here (holds (rows_file name)) in
    let permuted : IsPermutation (map (sized_row d) (readable d false x)) (rows_of d k x ++ []) = subst (IsPermutation (map (sized_row d) (readable d false x))) (sym (append-nil (rows_of d k x))) (IsPermutation-map (sized_row d) (readable d false x) (in_order d k (readable d false x)) (order_same d k (readable d false x))) in
    long d false x are bytes (rows_of d k x) [] permuted

can_be : (name : List ℕ) (d : Defs) (size k now : ℕ) (m : Holding) → AreDefs d → AreBytes d.raw → HoldsBytes m → now < 2 ^ 64 → NoLonger → Shorter → (o : IsOpened name d size m) → CanBeRebuilt d (rows_of d k o.data_file) now
can_be name d size k now m are header holds early long short o =
    let x : List ℕ = o.data_file in
    let here : bytes_of (rows_file name) m ≡ x = ap (λ (b : Option (List ℕ)). unwrap_or b []) o.rows_there in
    let bytes : AreBytes x = subst AreBytes here (holds (rows_file name)) in
    let clean : IsClean x o.index = clean_where_none d x o.index o.read o.none in
    let same : clean.defs ≡ d = ok_same (clean.defs) d (sym clean.read ∙ o.read) in
    let rows : List Row = readable d false x in
    let permuted : IsPermutation (map (sized_row d) rows) (rows_of d k x ++ []) = subst (IsPermutation (map (sized_row d) rows)) (sym (append-nil (rows_of d k x))) (IsPermutation-map (sized_row d) rows (in_order d k rows) (order_same d k rows)) in
    record {
      defined = are;
      header = header;
      storable = ordered_storable d k x are bytes;
      distinct = subst (AreDistinct d []) (sym (values_sized d (in_order d k rows))) (order_distinct d k rows (subst (λ e. AreDistinct e [] (map (values_of e) (readable e false x))) same clean.distinct));
      reached = short d (length x) (length (stored_file d (rows_of d k x))) (sound d are) (long d false x are bytes (rows_of d k x) [] permuted) (subst (λ e. is_addressable e (length x) ≡ true) same clean.addressable);
      time = early;
    }

pub leaves_ordered : (name : List ℕ) (t : FourNames) (d : Defs) (size k now : ℕ) (said : Report) (m n : Holding) → t ≡ names_for name → AreDefs d → AreBytes d.raw → HoldsBytes m → now < 2 ^ 64 → NoLonger → Shorter → MadeAnew → IsOpened name d size m → has_key d k ≡ true → SortsFiles t d size k now said m n → LeavesOrdered name k now said m n
leaves_ordered name t d size k now said m n named are header holds early long short made o key sorts =
    let x : List ℕ = o.data_file in
    let done = subst (λ u. SortsFiles u d size k now said m n) named sorts x o.rows_there (sym o.long) in
    record {
      table = table d x o.index;
      is = is_sortable name d size k m o key;
      holds = done.0;
      ordered = record {
        rows = is_in_order d k (readable d false x);
        shorter = no_longer name d size k m are holds long o;
        rebuilt = made d (rows_of d k x) now (can_be name d size k now m are header holds early long short o);
      };
      report = done.1;
    }

-- ---- old files or new ones

pub kept_both : (name : List ℕ) (t : FourNames) (k now : ℕ) (m n : Holding) → t ≡ names_for name → KeepsBoth t m n → OldOrNew name k now m n
kept_both name t k now m n named keeps = by (table_in name k m) (subst (λ u. KeepsBoth u m n) named keeps)
  where
    by : (table : Result Table OrderFault) → KeepsBoth (names_for name) m n → OldOrNewOf name k now table m n
    by (Err f) both = both
    by (Ok t) both = inl both

-- nothing was changed
pub kept_all : (name : List ℕ) (k now : ℕ) (m : Holding) → OldOrNew name k now m m
kept_all name k now m = kept_both name (names_for name) k now m m refl (record { rows = refl; index = refl })

pub sorted_or_kept : (name : List ℕ) (t : FourNames) (d : Defs) (size k now : ℕ) (m n : Holding) → t ≡ names_for name → IsOpened name d size m → has_key d k ≡ true → SortsPart t d size k now m n → OldOrNew name k now m n
sorted_or_kept name t d size k now m n named o key part =
    subst (λ (table : Result Table OrderFault). OldOrNewOf name k now table m n) (sym (is_sortable name d size k m o key)) (subst (λ u. SortsPart u d size k now m n) named part o.data_file o.rows_there (sym o.long))

-- a list without a first item
pub none_first : (xs : List Finding) → None ≡ slice_get xs 0 → xs ≡ []
none_first [] is = refl
none_first (x ∷ xs) is = absurd cc

-- what a check said of files that were opened before and stayed
pub checked_before : (name : List ℕ) (old mid : Option Holding) (e : TableFault) → mid ≡ old → IsCutOff e ⊎ IfTold mid (checking.Refuses name e) → IsCutOff e ⊎ IfTold old (checking.Refuses name e)
checked_before name old mid e same reason = subst (λ h. IsCutOff e ⊎ IfTold h (checking.Refuses name e)) same reason
