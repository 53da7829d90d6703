-- The new index file that is finished is the one of a table of the rows that were gathered.
use Rattle.std.proofs.Common.{◌≡◌, ℕ, suc, ◌+◌, ◌-◌, ◌*◌, ◌^◌, ◌<◌, Bool, List, [], ◌∷◌, ◌++◌, length, drop, Option, refl, sym, ap, subst, ◌∙◌, arith, length-append, Some, None, inl, inr}
use Rattle.std.specs.Prelude.{map, Result, Ok, Err}
use Rattle.std.proofs.lemmas.List.{append-nil, take_all, length-map}
use Rattle.myi_base.specs.Holding.{Holding, bytes_of, resized, overwritten}
use Rattle.myi_defs.specs.declared.types.Defs.{Defs}
use Rattle.myi_defs.specs.Sound.{IsSound}
use Rattle.myi_header.specs.Layout.{first_page_of}
use Rattle.myi_header.specs.StateOf.{state_of}
use Rattle.myi_header.specs.HeaderOf.{header_of}
use Rattle.myi_data.specs.Stored.{SizedRow, stored_file, block_count}
use Rattle.myi_keylist.specs.declared.pair.Pair.{Pair}
use Rattle.myi_btree.specs.LaidPages.{laid}
use Rattle.myi_btree.specs.Sizes.{fits_in}
use Rattle.myi_pair.specs.FirstRows.{key_numbers}
use Rattle.myi_keylist.specs.PairOrder.{sorted}
use Rattle.myi_pair.specs.Trees.{place_of, block_of_key}
use Rattle.myi_btree.specs.TreePages.{HasBehind}
use Rattle.myi_pair.specs.RebuiltBytes.{laid_trees, placed_from, key_lists, new_trees, new_state, rebuilt_state, rebuilt_index}
use Rattle.myi_pair.specs.RecoveredBytes.{kept, new_data, new_index}
use Rattle.myi_pair.specs.Recovered.{IsRepairable}
use Rattle.myi_header.proofs.CallerLemmas.{header-long}
use Rattle.myi_pair.proofs.CallerLemmas.{new_rest}
use Rattle.myi_pair.proofs.CallerLemmas.{recovered}
use Rattle.myi_base.specs.Numbers.{AreBytes}
use Rattle.myi_defs.specs.ReadDefs.{AreDefs}
use Rattle.myi_repair.proofs.OpenLaws.{is_opened}
use Rattle.myi_repair.specs.declared.report.Report.{Report}
use Rattle.myi_repair.specs.declared.gathering.Gathered.{Gathered}
use Rattle.myi_repair.specs.Names.{FourNames, names_for, Holds, KeepsBoth}
use Rattle.myi_repair.specs.Gathering.{IsOfRows, IsGathered, Gathers}
use Rattle.myi_repair.specs.declared.fault.RepairFault.{RepairFault}
use Rattle.myi_repair.specs.Opening.{Table, table_in}
use Rattle.myi_repair.specs.Repaired.{LeavesRepaired, OldOrNewOf, OldOrNew, Completes, CompletesPart, KeepsOrTakesRows}
use Rattle.myi_repair.specs.Building.{trees_of, Builds}
use Rattle.myi_repair.specs.Finishing.{state_set, finished_index, IsWhole, Finishes, FinishesPart, FinishesAlone}
use Rattle.myi_repair.proofs.FilesLaws.{resized_none, whole_before}
use Rattle.myi_rowkeys.proofs.CallerLemmas.{length-numbers}

-- ---- the trees

pub trees_same : (d : Defs) (lists : List (List Pair)) (rows : List SizedRow) → map sorted lists ≡ key_lists d (placed_from d 0 rows) → trees_of d lists ≡ new_trees d rows
unfolding new_trees
trees_same d lists rows is = ap (laid_trees d (first_page_of d) (key_numbers d)) is

roots_count : (d : Defs) (first : ℕ) (ks : List ℕ) (lists : List (List Pair)) → length lists ≡ length ks → length (laid_trees d first ks lists).roots ≡ length ks
roots_count d first [] lists same = refl
roots_count d first (k ∷ ks) [] same = absurd (omega arith)
roots_count d first (k ∷ ks) (pairs ∷ lists) same = ap suc (roots_count d (first + block_of_key d k * length (laid (fits_in (place_of d k)) (block_of_key d k) first pairs)) ks lists (omega arith))

pub count_roots : (d : Defs) (lists : List (List Pair)) → length lists ≡ length d.keys → length (trees_of d lists).roots ≡ length d.keys
count_roots d lists same =
    let numbers = length-numbers 1 (length d.keys) in
    roots_count d (first_page_of d) (key_numbers d) (map sorted lists) (omega (arith, length-map lists sorted, numbers)) ∙ numbers

-- ---- the file

resized_same : (n : ℕ) (x : List ℕ) → length x ≡ n → resized n x ≡ x
resized_same n x long =
    let none : n - length x ≡ 0 = omega arith in
    rw (none, take_all n x (omega arith)) (append-nil x)

-- a header written over the front of a file, and the file made as long as its pages reach
pub over_front : (first end : ℕ) (header bytes index : List ℕ) → length header ≡ first → HasBehind first end bytes index → resized end (overwritten 0 header index) ≡ header ++ bytes
over_front first end header bytes index long is =
    let whole : overwritten 0 header index ≡ header ++ bytes =
    ap (λ x. x ++ header ++ drop (0 + length header) index) (resized_none index) ∙ ap (λ n. header ++ drop n index) (omega (arith, long)) ∙ ap (λ b. header ++ b) is.behind in
    ap (resized end) whole ∙ resized_same end (header ++ bytes) (length-append header bytes ∙ omega (arith, long, is.long))

abbrev pub without_pairs : Gathered → Gathered
without_pairs g = record g { pairs = [] }

pub made_index : (t : FourNames) (rows : List SizedRow) (g h : Gathered) (now end : ℕ) (roots : List (Option ℕ)) (m n : Holding) → IsSound g.defs → h ≡ without_pairs g → length g.pairs ≡ length g.defs.keys → IsOfRows rows g
    → roots ≡ (trees_of g.defs g.pairs).roots → end ≡ (trees_of g.defs g.pairs).end → Builds g.defs g.pairs t.new_index m n → finished_index h roots end now (bytes_of t.new_index n) ≡ rebuilt_index g.defs rows now
unfolding rebuilt_index
made_index t rows g h now end roots m n s left counted is rooted ended built =
    let defs = g.defs in
    let trees : trees_of defs g.pairs ≡ new_trees defs rows = trees_same defs g.pairs rows is.pairs in
    let many : length roots ≡ length defs.keys = ap (λ (rs : List (Option ℕ)). length rs) rooted ∙ count_roots defs g.pairs counted in
    let set : state_set g roots end now ≡ rebuilt_state defs rows now =
    ap (λ x. new_state defs (state_of defs defs.raw) x g.split g.report.new_length roots end now) is.kept
    ∙ ap (λ x. new_state defs (state_of defs defs.raw) (length rows) x g.report.new_length roots end now) is.split
    ∙ ap (λ x. new_state defs (state_of defs defs.raw) (length rows) (block_count defs rows) x roots end now) is.long
    ∙ ap (λ rs. new_state defs (state_of defs defs.raw) (length rows) (block_count defs rows) (length (stored_file defs rows)) rs end now) (rooted ∙ ap (λ u. u.roots) trees)
    ∙ ap (λ e. new_state defs (state_of defs defs.raw) (length rows) (block_count defs rows) (length (stored_file defs rows)) (new_trees defs rows).roots e now) (ended ∙ ap (λ u. u.end) trees) in
    let long : length (header_of defs (state_set g roots end now)) ≡ first_page_of defs = header-long defs (state_set g roots end now) s many (new_rest defs s) in
    let behind : HasBehind (first_page_of defs) end (trees_of defs g.pairs).bytes (bytes_of t.new_index n) = subst (λ e. HasBehind (first_page_of defs) e (trees_of defs g.pairs).bytes (bytes_of t.new_index n)) (sym ended) built in
    ap (λ k. finished_index k roots end now (bytes_of t.new_index n)) left
    ∙ over_front (first_page_of defs) end (header_of defs (state_set g roots end now)) (trees_of defs g.pairs).bytes (bytes_of t.new_index n) long behind
    ∙ ap (λ s. header_of defs s ++ (trees_of defs g.pairs).bytes) set ∙ ap (λ u. header_of defs (rebuilt_state defs rows now) ++ u.bytes) trees

pub made_files : (t : FourNames) (rows : List SizedRow) (g h : Gathered) (now end : ℕ) (roots : List (Option ℕ)) (m n o : Holding) → IsSound g.defs → h ≡ without_pairs g → length g.pairs ≡ length g.defs.keys → IsOfRows rows g
    → roots ≡ (trees_of g.defs g.pairs).roots → end ≡ (trees_of g.defs g.pairs).end → Builds g.defs g.pairs t.new_index m n → n t.new_rows ≡ Some (stored_file g.defs rows) → Finishes t h roots end now n o → Holds t (stored_file g.defs rows) (rebuilt_index g.defs rows now) o
made_files t rows g h now end roots m n o s left counted is rooted ended built there done =
    subst (λ x. Holds t (stored_file g.defs rows) x o) (made_index t rows g h now end roots m n s left counted is rooted ended built) (done (stored_file g.defs rows) there)

-- what was gathered is of the kept rows
pub gathered_rows : (t : FourNames) (extend : Bool) (d : List ℕ) (g : Gathered) (m : Holding) → IsGathered t extend d g m → IsOfRows (kept g.defs extend d) g
unfolding new_data
gathered_rows t extend d g m is = record {
  kept = ap (λ (r : Report). r.kept) is.report;
  split = is.split;
  long = ap (λ (r : Report). r.new_length) is.report;
  pairs = is.pairs;
}

pub finished_is : (t : FourNames) (extend : Bool) (d : List ℕ) (g h : Gathered) (now end : ℕ) (roots : List (Option ℕ)) (m n : Holding) → IsSound g.defs → h ≡ without_pairs g → length g.pairs ≡ length g.defs.keys → IsGathered t extend d g m
    → roots ≡ (trees_of g.defs g.pairs).roots → end ≡ (trees_of g.defs g.pairs).end → Builds g.defs g.pairs t.new_index m n → finished_index h roots end now (bytes_of t.new_index n) ≡ new_index g.defs extend d now
unfolding new_index
finished_is t extend d g h now end roots m n s left counted is rooted ended built =
    made_index t (kept g.defs extend d) g h now end roots m n s left counted (gathered_rows t extend d g m is) rooted ended built

-- ---- the steps together

pub completed : (t u : FourNames) (rows : List SizedRow) (g h : Gathered) (now end : ℕ) (roots : List (Option ℕ)) (m n o : Holding) → IsSound g.defs → u ≡ t → h ≡ without_pairs g → length g.pairs ≡ length g.defs.keys → IsOfRows rows g → m t.new_rows ≡ Some (stored_file g.defs rows)
    → roots ≡ (trees_of g.defs g.pairs).roots → end ≡ (trees_of g.defs g.pairs).end → Builds g.defs g.pairs u.new_index m n → n u.new_rows ≡ m u.new_rows → Finishes t h roots end now n o → Holds t (stored_file g.defs rows) (rebuilt_index g.defs rows now) o
completed t u rows g h now end roots m n o s named left counted is written rooted ended built stay done =
    let there : n t.new_rows ≡ m t.new_rows = subst (λ v. n v.new_rows ≡ m v.new_rows) named stay in
    made_files t rows g h now end roots m n o s left counted is rooted ended (subst (λ v. Builds g.defs g.pairs v.new_index m n) named built) (there ∙ written) done

pub completed_part : (t u : FourNames) (rows : List SizedRow) (g h : Gathered) (now end : ℕ) (roots : List (Option ℕ)) (m n o : Holding) → IsSound g.defs → u ≡ t → h ≡ without_pairs g → length g.pairs ≡ length g.defs.keys → IsOfRows rows g → m t.new_rows ≡ Some (stored_file g.defs rows)
    → roots ≡ (trees_of g.defs g.pairs).roots → end ≡ (trees_of g.defs g.pairs).end → Builds g.defs g.pairs u.new_index m n → n u.new_rows ≡ m u.new_rows → KeepsBoth u m n → FinishesPart t h roots end now n o → IsWhole t (stored_file g.defs rows) (rebuilt_index g.defs rows now) m o
completed_part t u rows g h now end roots m n o s named left counted is written rooted ended built stay both part =
    let index = made_index t rows g h now end roots m n s left counted is rooted ended (subst (λ v. Builds g.defs g.pairs v.new_index m n) named built) in
    let there : n t.new_rows ≡ m t.new_rows = subst (λ v. n v.new_rows ≡ m v.new_rows) named stay in
    whole_before t (stored_file g.defs rows) (rebuilt_index g.defs rows now) m n o (subst (λ v. KeepsBoth v m n) named both)
    (subst (λ x. IsWhole t (stored_file g.defs rows) x n o) index (part (stored_file g.defs rows) (there ∙ written)))

-- the rows that are kept, in the working data file
kept_written : (t : FourNames) (extend : Bool) (d : List ℕ) (g : Gathered) (m : Holding) → IsGathered t extend d g m → m t.new_rows ≡ Some (stored_file g.defs (kept g.defs extend d))
unfolding new_data
kept_written t extend d g m is = is.written

-- their table made anew is the recovered bytes
kept_holds : (t : FourNames) (extend : Bool) (d : List ℕ) (defs : Defs) (now : ℕ) (n : Holding) → Holds t (stored_file defs (kept defs extend d)) (rebuilt_index defs (kept defs extend d) now) n → Holds t (new_data defs extend d) (new_index defs extend d now) n
unfolding new_data new_index
kept_holds t extend d defs now n holds = holds

kept_whole : (t : FourNames) (extend : Bool) (d : List ℕ) (defs : Defs) (now : ℕ) (m n : Holding) → IsWhole t (stored_file defs (kept defs extend d)) (rebuilt_index defs (kept defs extend d) now) m n → IsWhole t (new_data defs extend d) (new_index defs extend d now) m n
unfolding new_data new_index
kept_whole t extend d defs now m n whole = whole

pub repaired : (name : List ℕ) (t : FourNames) (extend : Bool) (now : ℕ) (g : Gathered) (said : Report) (m n o : Holding) → t ≡ names_for name → AreDefs g.defs → AreBytes g.defs.raw → now < 2 ^ 64 → Gathers t extend g m n → said ≡ g.report → Completes t g now n o → LeavesRepaired name extend now said m o
repaired name t extend now g said m n o named are header early gathers same completes =
    let gathered : Gathers (names_for name) extend g m n = subst (λ u. Gathers u extend g m n) named gathers in
    let done : Completes (names_for name) g now n o = subst (λ u. Completes u g now n o) named completes in
    let d : List ℕ = gathered.0 in
    let is = gathered.2 in
    let open_table = is_opened (names_for name) g.defs d m gathered.1 in
    let can : IsRepairable g.defs d now = record {
      defined = are;
      header = header;
      bytes = is.bytes;
      reached = open_table.reached;
      time = early;
    } in
    (g.defs, d, gathered.1, record { holds = kept_holds (names_for name) extend d g.defs now o (done (kept g.defs extend d) (gathered_rows (names_for name) extend d g n is) (kept_written (names_for name) extend d g n is)); recovered = recovered g.defs extend d now can; report = same ∙ is.report })

-- where both files stay they are the old ones
pub kept_both : (name : List ℕ) (t : FourNames) (extend : Bool) (now : ℕ) (m n : Holding) → t ≡ names_for name → KeepsBoth t m n → OldOrNew name extend now m n
kept_both name t extend now m n named keeps = by (table_in (names_for name) m) (subst (λ u. KeepsBoth u m n) named keeps)
  where
    by : (table : Result Table RepairFault) → KeepsBoth (names_for name) m n → OldOrNewOf name extend now table m n
    by (Err f) both = both
    by (Ok t) both = inl both

-- and what was gathered and completed in part leaves old ones or whole new ones
pub kept_or_whole : (name : List ℕ) (t : FourNames) (extend : Bool) (now : ℕ) (g : Gathered) (m n o : Holding) → t ≡ names_for name → Gathers t extend g m n → KeepsBoth t m n → CompletesPart t g now n o → OldOrNew name extend now m o
kept_or_whole name t extend now g m n o named gathers both part =
    let gathered : Gathers (names_for name) extend g m n = subst (λ u. Gathers u extend g m n) named gathers in
    let keeps : KeepsBoth (names_for name) m n = subst (λ u. KeepsBoth u m n) named both in
    let whole : CompletesPart (names_for name) g now n o = subst (λ u. CompletesPart u g now n o) named part in
    let d : List ℕ = gathered.0 in
    subst (λ (table : Result Table RepairFault). OldOrNewOf name extend now table m o) (sym gathered.1) (whole_before (names_for name) (new_data g.defs extend d) (new_index g.defs extend d now) m n o keeps (kept_whole (names_for name) extend d g.defs now n o (whole (kept g.defs extend d) (gathered_rows (names_for name) extend d g n gathered.2) (kept_written (names_for name) extend d g n gathered.2))))

-- Putting trees changes neither file, nor the working data file; and finishing leaves the data file, or gives it what that held.
pub rows_kept_or_taken : (t : FourNames) (g : Gathered) (roots : List (Option ℕ)) (end now : ℕ) (m n o : Holding) → n t.new_rows ≡ m t.new_rows → KeepsBoth t m n → FinishesPart t g roots end now n o → FinishesAlone t g roots end now n o → KeepsOrTakesRows t m o
rows_kept_or_taken t g roots end now m n o rows both part alone = by (n t.new_rows) refl
  where
    taken : (d x : List ℕ) → n t.new_rows ≡ Some d → IsWhole t d x n o → KeepsOrTakesRows t m o
    taken d x is (inl same) = inl (same.rows ∙ both.rows)
    taken d x is (inr new) = inr (d, sym rows ∙ is, new.rows)

    by : (there : Option (List ℕ)) → n t.new_rows ≡ there → KeepsOrTakesRows t m o
    by None is = inl ((alone is).rows ∙ both.rows)
    by (Some d) is = taken d _ is (part d is)
