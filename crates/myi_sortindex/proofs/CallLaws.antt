-- What a call answers and leaves, by what its parts do.
use Rattle.std.proofs.Common.{◌≡◌, ◌≢◌, ◌⊎◌, inl, inr, ℕ, ◌-◌, ◌≤◌, ◌^◌, Bool, true, false, cond, eqb, max, List, [], ◌∷◌, length, take, Option, Some, None, unwrap_or, refl, sym, ap, subst, ◌∙◌, arith, length-append, length-take}
use Rattle.std.specs.Prelude.{Result, Ok, Err, OnOk, OnErr, IfOk, IfErr, slice_get, MatchOption, replicate}
use Rattle.std.proofs.lemmas.List.{length-map, length-replicate}
use Rattle.myi_base.specs.Causes.{Rose, HasCause}
use Rattle.myi_base.specs.Numbers.{num_at, pointer_of}
use Rattle.std.proofs.lemmas.Bool.{eqb-false}
use Rattle.myi_base.specs.Holding.{Holding, Told, IfTold, Cuts, Writes, Renames, Keeps, Moves, Removes, bytes_of, overwritten}
use Rattle.myi_base.proofs.CallerLemmas.{told_more, told_then}
use Rattle.myi_io.specs.declared.files.FileErr.{FileErr}
use Rattle.myi_io.specs.declared.files.FileErr.TheVariants.{Failed}
use Rattle.myi_defs.specs.declared.types.Defs.{Defs}
use Rattle.myi_defs.specs.Sound.{IsSound}
use Rattle.myi_defs.specs.ReadDefs.{read_defs, AreDefs}
use Rattle.myi_defs.specs.Elsewhere.{AgreeOutsideState}
use Rattle.myi_header.specs.declared.state.State.{State}
use Rattle.myi_header.specs.Layout.{first_page_of}
use Rattle.myi_header.specs.StateOf.{state_of, has_mark, IsPlace}
use Rattle.myi_opening.specs.declared.fault.TableFault.{TableFault}
use Rattle.myi_opening.specs.Names.{rows_file, index_file}
use Rattle.myi_opening.specs.Opening.{Table, table, IsCutOff, HasTable, HasNoTable}
use Rattle.myi_opening.specs.Opening as opening
use Rattle.myi_opening.proofs.CallerLemmas.{table_index, table_rows, table_read}
use Rattle.myi_btree.specs.Walk.{Walked}
use Rattle.myi_pair.specs.declared.finding.Finding.{Finding}
use Rattle.myi_pair.specs.Clean.{IsClean}
use Rattle.myi_pair.specs.Findings.{findings}
use Rattle.myi_pair.proofs.CallerLemmas.{clean_where_none}
use Rattle.myi_check.specs.Checking.{findings_in, findings_by, Finds}
use Rattle.myi_header.specs.HeaderOf.{header_of}
use Rattle.myi_check.specs.Checking as checking
use Rattle.myi_repair.specs.Names.{names_for, new_index_file, AreApart, KeepsBoth}
use Rattle.myi_repair.proofs.CallerLemmas.{told_and}
use Rattle.myi_treecopy.proofs.CallerLemmas.{Frame}
use Rattle.myi_sortindex.specs.declared.fault.SortFault.{SortFault}
use Rattle.myi_sortindex.specs.declared.fault.SortFault.TheVariants as sort
use Rattle.myi_sortindex.specs.declared.laying.IndexCopy.{IndexCopy}
use Rattle.myi_sortindex.specs.declared.laying.LaidTrees.{LaidTrees}
use Rattle.myi_sortindex.specs.Refusals.{sort_fault, table_in, table_by, clean_by, Refuses, IsRefused, CutsOff, faults_told, Clears, IsCleared}
use Rattle.myi_sortindex.specs.Sorting.{IsSorted, Sorts, trees_laid}
use Rattle.myi_sortindex.specs.Laying.{Tree, AreTrees, IsOf, HasBytes, LaysAll, HaveNoRoom, IsCleanIndex, Replaces, KeepsIndex, OthersStayOf, state_laid}
use Rattle.myi_sortindex.proofs.RoomLaws.{trees_fit}
use Rattle.myi_sortindex.proofs.CleanLaws.{IsWritten, raw_state, some_block, same_defs, clean_trees, sorted_again, written_index}
use Rattle.myi_sortindex.proofs.TreeLaws.{walks_count}
use Rattle.myi_pair.specs.Trees.{HaveWalks}
use Rattle.myi_rowkeys.specs.TableKeys.{key_numbers}

-- ---- the new index file takes the old one's place

-- how long a file is that is made so long
pub cut_long : (name : List ℕ) (n : ℕ) (k m : Holding) → Cuts name n k m → length (bytes_of name m) ≡ n
cut_long name n k m cut =
    let xs : List ℕ = bytes_of name k in
    ap (λ (o : Option (List ℕ)). length (unwrap_or o [])) cut.here
    ∙ length-append (take n xs) (replicate (n - length xs) 0) ∙ omega (arith, length-take n xs, length-replicate {A = ℕ} (n - length xs) 0)

-- four steps
pub told_four : (a b c d e : Option Holding) (P Q R S T : Holding → Holding → Type 0) → Told a b P → Told b c Q → Told c d R → Told d e S → ((m k n o p : Holding) → P m k → Q k n → R n o → S o p → T m p) → Told a e T
told_four a b c d e P Q R S T one two three four all = record {
  told = λ m held.
      let x = one.told m held in
      let y = two.told x.0 x.1 in
      let z = three.told y.0 y.1 in
      let w = four.told z.0 z.1 in
      (w.0, w.1, all m x.0 y.0 z.0 w.0 x.2 y.2 z.2 w.2);
  untold = λ none. four.untold (three.untold (two.untold (one.untold none)));
}

-- a place that eight bytes say is one, or none
is_place : (n : ℕ) → IsPlace (pointer_of n)
is_place n = by (eqb n (2 ^ 64 - 1)) refl
  where
    by : (b : Bool) → eqb n (2 ^ 64 - 1) ≡ b → cond b None (Some n) ≢ Some (2 ^ 64 - 1)
    by true is same = absurd cc
    by false is same = eqb-false n (2 ^ 64 - 1) is (let e : n ≡ 2 ^ 64 - 1 = cc in e)

pub dellink_place : (d : Defs) (x : List ℕ) → IsPlace (state_of d x).dellink
unfolding state_of
dellink_place d x = is_place (num_at 52 8 x)

-- what of the header is known before the trees are
pub record HasHeader (d : Defs) (header : List ℕ) (laid : LaidTrees) : Type 0 where
  pub sound : IsSound d
  pub defs : AreDefs d
  pub raw : (x : List ℕ) → read_defs x ≡ Ok d → d.raw ≡ take (num_at 6 2 x) x
  pub bytes : header ≡ header_of d (state_laid (state_of d d.raw) laid)
  pub front : length header ≡ first_page_of d
  pub state : state_of d header ≡ state_laid (state_of d d.raw) laid
  pub marked : has_mark d header ≡ true
  pub elsewhere : AgreeOutsideState d.raw header

pub replaced : Frame → (c : IndexCopy) (d : Defs) (header : List ℕ) (laid : LaidTrees) (roots : List (Option ℕ)) (m k n o p : Holding) → HasHeader d header laid → c.index.now ≢ c.working.now → roots ≡ (state_of d d.raw).roots → Cuts c.working.now (first_page_of d) m k
    → LaysAll c d roots laid k n → Writes c.working.now 0 header n o → Renames c.working.now c.index.now o p → Replaces c.index.now c.working.now d laid.pages m p
replaced frame c d header laid roots m k n o p h apart roots_are cut lays writes renames rows x there read clean =
    let z : List ℕ = bytes_of c.working.now n in
    let y : List ℕ = overwritten 0 header z in
    let moved : Moves c.working.now c.index.now y o p = subst (λ b. MatchOption b (Keeps o p) (λ bytes. Moves c.working.now c.index.now bytes o p)) writes.here renames in
    let x_is : bytes_of c.index.now k ≡ x = ap (λ b. unwrap_or b []) (cut.others c.index.now apart ∙ there) in
    let written : IsWritten x z header laid d = record {
      sound = h.sound;
      defs = h.defs;
      raw = h.raw x read;
      trees = λ ts are is.
          subst (λ b. IsOf d b z laid (take (length (state_of d d.raw).roots) ts)) x_is
          (subst (λ (rs : List (Option ℕ)). IsOf d (bytes_of c.index.now k) z laid (take (length rs) ts)) roots_are
          (lays.first ts (subst (λ b. AreTrees d b 1 ts) (sym x_is) are) (is ∙ sym roots_are)));
      exact = λ ts are is.
          subst (λ b. HasBytes (first_page_of d) z laid (trees_laid d b (first_page_of d) 1 (take (length (state_of d d.raw).roots) (state_of d d.raw).roots))) x_is
          (subst (λ (rs : List (Option ℕ)). HasBytes (first_page_of d) z laid (trees_laid d (bytes_of c.index.now k) (first_page_of d) 1 (take (length rs) rs))) roots_are
          (lays.exact ts (subst (λ b. AreTrees d b 1 ts) (sym x_is) are) (is ∙ sym roots_are)));
      long = lays.long;
      bytes = h.bytes;
      front = h.front;
      state = h.state;
      marked = h.marked;
      elsewhere = h.elsewhere;
    } in
    let exact = written_index rows x z header laid d read written clean in (
      moved.there ∙ ap (λ b. Some b) exact.0,
      moved.gone (λ same. apart (sym same)),
      exact.1,
      subst (λ b. IsSorted rows x b laid.pages) exact.0 (sorted_again frame rows x z header laid d read written clean),
    )

-- ---- the trees of a clean index file have room

abbrev RoomFor : IndexCopy → Holding → Defs → Type 0
RoomFor c k d = HaveNoRoom c d (state_of d d.raw).roots k

room_there : (c : IndexCopy) (rows x : List ℕ) (k : Holding) (clean : IsClean rows x) → IsSound clean.defs → clean.defs.raw ≡ take (num_at 6 2 x) x → bytes_of c.index.now k ≡ x → c.limit ≡ max (state_of clean.defs clean.defs.raw).key_file_length (first_page_of clean.defs)
    → HaveNoRoom c clean.defs (state_of clean.defs clean.defs.raw).roots k → ⊥
room_there c rows x k clean sound raw x_is limit none =
    let d : Defs = clean.defs in
    let same = raw_state d x sound raw in
    let t = clean_trees rows x clean in
    let n : ℕ = length d.keys in
    let long : (state_of d d.raw).key_file_length ≡ length x = ap (λ (s : State). s.key_file_length) same ∙ clean.counts.key_file_length in
    let count : length t.trees ≡ n = sym (length-map t.trees (λ (u : Tree). u.1)) ∙ ap (λ (ws : List Walked). length ws) t.walks ∙ walks_count d x ((0, first_page_of d) ∷ []) 1 n (state_of d x).roots clean.walks clean.trees in
    none t.trees (subst (λ b. AreTrees d b 1 t.trees) (sym x_is) t.are) (t.roots ∙ ap (λ (s : State). s.roots) (sym same))
    (trees_fit d x (first_page_of d) n (state_of d x).roots t.trees (some_block d sound) count (subst (λ ws. HaveWalks d x ((0, first_page_of d) ∷ []) (key_numbers d) (state_of d x).roots ws) (sym t.walks) clean.trees) c.limit (omega (arith, limit, long)) (omega (arith, limit)))

pub has_room : (c : IndexCopy) (d : Defs) (roots : List (Option ℕ)) (m k : Holding) → IsSound d → ((x : List ℕ) → read_defs x ≡ Ok d → d.raw ≡ take (num_at 6 2 x) x) → c.index.now ≢ c.working.now → roots ≡ (state_of d d.raw).roots → c.limit ≡ max (state_of d d.raw).key_file_length (first_page_of d)
    → IsCleanIndex c.index.now d m → Cuts c.working.now (first_page_of d) m k → HaveNoRoom c d roots k → ⊥
has_room c d roots m k sound raw apart roots_are limit clean cut none =
    let x : List ℕ = clean.0 in
    let rows : List ℕ = clean.3.0 in
    let same : d ≡ clean.3.1.defs = same_defs rows x d clean.2 clean.3.1 in
    let x_is : bytes_of c.index.now k ≡ x = ap (λ b. unwrap_or b []) (cut.others c.index.now apart ∙ clean.1) in
    room_there c rows x k clean.3.1 (subst IsSound same sound) (subst (λ (e : Defs). e.raw ≡ take (num_at 6 2 x) x) same (raw x clean.2)) x_is
    (subst (λ (e : Defs). c.limit ≡ max (state_of e e.raw).key_file_length (first_page_of e)) same limit)
    (subst (λ (e : Defs). HaveNoRoom c e (state_of e e.raw).roots k) same (subst (λ rs. HaveNoRoom c d rs k) roots_are none))

-- a tree that is not laid is told only over files that tell nothing
pub only_untold : (old mid : Option Holding) (P : Holding → Holding → Type 0) (A Q : Holding → Type 0) (f : SortFault) → Told old mid P → IfTold old A → ((m k : Holding) → A m → P m k → Q k → ⊥) → CutsOff f ⊎ IfTold mid Q → CutsOff f ⊎ (old ≡ None)
only_untold None mid P A Q f told holds never fault = inr refl
only_untold (Some m) mid P A Q f told holds never (inl cut) = inl cut
only_untold (Some m) mid P A Q f told holds never (inr none) =
    let t = told.told m refl in
    absurd (never m t.0 (holds m refl) t.2 (none t.0 t.1))

-- ---- what is refused

ok_same : {A E : Type 0} (x y : A) → ◌≡◌ {A = Result A E} (Ok x) (Ok y) → x ≡ y
ok_same x y same = cc

err_same : {A E : Type 0} (x y : E) → ◌≡◌ {A = Result A E} (Err x) (Err y) → x ≡ y
err_same x y same = cc

not_by : (r : Result Table TableFault) (e : TableFault) → findings_by r ≡ Err e → r ≡ Err e
not_by (Err f) e is = ap (λ (x : TableFault). Err x) (err_same {A = List Finding} f e is)
not_by (Ok t) e is = absurd cc

cut_by : (e : TableFault) → IsCutOff e → CutsOff (sort_fault e)
cut_by e (inl file) = inl (ap sort_fault file)
cut_by e (inr memory) = inr (ap sort_fault memory)

refused_by : (name : List ℕ) (e : TableFault) (m : Holding) → checking.Refuses name e m → Refuses name (sort_fault e) m
unfolding findings_in table_in
refused_by name e m is = ap table_by (not_by (opening.table_in (index_file name) (rows_file name) m) e is)

-- a check that was not made
pub not_checked : (name : List ℕ) (old new : Option Holding) (e : TableFault) (f : SortFault) → f ≡ sort_fault e → new ≡ old → IsCutOff e ⊎ IfTold old (checking.Refuses name e) → CutsOff f ⊎ IsRefused name f old new
not_checked name old new e f is same (inl cut) = inl (subst CutsOff (sym is) (cut_by e cut))
not_checked name old new e f is same (inr none) = inr (record { reason = λ m told. subst (λ x. Refuses name x m) (sym is) (refused_by name e m (none m told)); same = same })

-- a table that was not opened
pub not_opened : (name index rows : List ℕ) (old new : Option Holding) (e : TableFault) (f : SortFault) → index ≡ index_file name → rows ≡ rows_file name → f ≡ sort_fault e → new ≡ old → IsCutOff e ⊎ IfTold old (HasNoTable index rows e) → CutsOff f ⊎ IsRefused name f old new
unfolding table_in
not_opened name index rows old new e f index_is rows_is is same (inl cut) = inl (subst CutsOff (sym is) (cut_by e cut))
not_opened name index rows old new e f index_is rows_is is same (inr none) = inr (record {
  reason = λ m told. ap table_by (ap (λ i. opening.table_in i (rows_file name) m) (sym index_is) ∙ ap (λ r. opening.table_in index r m) (sym rows_is) ∙ none m told) ∙ ap (λ (x : SortFault). Err x) (sym is);
  same = same;
})

-- something was found
found_by : (r : Result Table TableFault) (found : Finding) (others : List Finding) → findings_by r ≡ Ok (found ∷ others) → table_by r ≡ Err (sort.Damaged found)
found_by (Err f) found others is = absurd cc
found_by (Ok t) found others is = ap (clean_by t) (ok_same {E = TableFault} (findings t.defs t.rows t.index) (found ∷ others) is)

pub damaged : (name : List ℕ) (found : Finding) (others : List Finding) (m : Holding) → Finds name (found ∷ others) m → Refuses name (sort.Damaged found) m
unfolding findings_in table_in
damaged name found others m is = found_by (opening.table_in (index_file name) (rows_file name) m) found others is

-- a list that begins with an item
pub begins : (xs : List Finding) (x : Finding) → Some x ≡ slice_get xs 0 → (others : List Finding) × (xs ≡ x ∷ others)
begins [] x is = absurd cc
begins (y ∷ xs) x is = (xs, let e : y ≡ x = cc in ap (λ z. z ∷ xs) e)

-- files that tell nothing
pub refused_untold : (name : List ℕ) (old new : Option Holding) (P : Holding → Holding → Type 0) (f : SortFault) → Told old new P → CutsOff f ⊎ (old ≡ None) → CutsOff f ⊎ IsRefused name f old new
refused_untold name old new P f told (inl cut) = inl cut
refused_untold name old new P f told (inr none) = inr (record { reason = λ m held. absurd (let e = sym none ∙ held in cc); same = told.untold none ∙ sym none })

-- ---- a table with which nothing is wrong

pub record IsOpened (name : List ℕ) (d : Defs) (m : Holding) : Type 0 where
  pub data_file : List ℕ
  pub index : List ℕ
  pub is : table_in name m ≡ Ok (table d data_file index)
  pub rows_there : m (rows_file name) ≡ Some data_file
  pub there : m (index_file name) ≡ Some index
  pub read : read_defs index ≡ Ok d
  pub clean : IsClean data_file index

pub is_opened : (name index rows : List ℕ) (d : Defs) (size : ℕ) (m : Holding) → index ≡ index_file name → rows ≡ rows_file name → HasTable index rows d size m → Finds name [] m → IsOpened name d m
unfolding findings_in table_in
is_opened name index rows d size m index_is rows_is has none =
    let t : Table = table d has.data_file has.index_file in
    let here : opening.table_in (index_file name) (rows_file name) m ≡ Ok t = ap (λ i. opening.table_in i (rows_file name) m) (sym index_is) ∙ ap (λ r. opening.table_in index r m) (sym rows_is) ∙ has.is in
    let nothing : findings d has.data_file has.index_file ≡ [] = ok_same {E = TableFault} (findings d has.data_file has.index_file) [] (sym (ap findings_by here) ∙ none) in
    let read = table_read (index_file name) (rows_file name) t m here in
    record {
      data_file = has.data_file;
      index = has.index_file;
      is = ap table_by here ∙ ap (clean_by t) nothing;
      rows_there = table_rows (index_file name) (rows_file name) t m here;
      there = table_index (index_file name) (rows_file name) t m here;
      read = read;
      clean = clean_where_none d has.data_file has.index_file read nothing;
    }

pub clean_index : (name index : List ℕ) (d : Defs) (m : Holding) → index ≡ index_file name → IsOpened name d m → IsCleanIndex index d m
clean_index name index d m index_is o = (o.index, ap m index_is ∙ o.there, o.read, (o.data_file, o.clean))

pub sorts : (name index working : List ℕ) (d : Defs) (pages : ℕ) (m n : Holding) → AreApart (names_for name) → index ≡ index_file name → working ≡ new_index_file name → (o : IsOpened name d m) → Replaces index working d pages m n → OthersStayOf index working m n → Sorts name pages m n
sorts name index working d pages m n apart index_is working_is o put others =
    let r = put o.data_file o.index (ap m index_is ∙ o.there) o.read o.clean in
    record {
      table = table d o.data_file o.index;
      is = o.is;
      had_rows = o.rows_there;
      had_index = o.there;
      has_rows = others (rows_file name) (λ same. apart.rows-index (same ∙ index_is)) (λ same. apart.rows-new_index (same ∙ working_is)) ∙ o.rows_there;
      has_index = sym (ap n index_is) ∙ r.0;
      answer = r.2;
      sorted = r.3;
      gone = sym (ap n working_is) ∙ r.1;
    }

-- ---- what stays

pub both_kept : (name index working : List ℕ) (m n : Holding) → AreApart (names_for name) → index ≡ index_file name → working ≡ new_index_file name → KeepsIndex index m n → OthersStayOf index working m n → KeepsBoth (names_for name) m n
both_kept name index working m n apart index_is working_is kept others = record {
  rows = others (rows_file name) (λ same. apart.rows-index (same ∙ index_is)) (λ same. apart.rows-new_index (same ∙ working_is));
  index = subst (λ i. n i ≡ m i) index_is kept;
}

-- ---- of the whole call, by its last part

pub ok_sorts : (r : Result ℕ SortFault) (name index working : List ℕ) (d : Defs) (old mid new : Option Holding) → mid ≡ old → IfOk r (λ pages. Told mid new (Replaces index working d pages)) → Told mid new (OthersStayOf index working)
    → ((pages : ℕ) (m n : Holding) → old ≡ Some m → Replaces index working d pages m n → OthersStayOf index working m n → Sorts name pages m n) → IfOk r (λ pages. Told old new (Sorts name pages))
ok_sorts (Ok pages) name index working d old mid new same put others more =
    let both = told_and mid new (Replaces index working d pages) (OthersStayOf index working) put others in
    told_more old new (λ m n. Replaces index working d pages m n × OthersStayOf index working m n) (Sorts name pages) (subst (λ h. Told h new (λ m n. Replaces index working d pages m n × OthersStayOf index working m n)) same both) (λ m n held b. more pages m n held b.0 b.1)
ok_sorts (Err e) name index working d old mid new same put others more = tt

pub err_keeps : {T : Type 0} (r : Result T SortFault) (old mid new : Option Holding) (P Q R : Holding → Holding → Type 0) → mid ≡ old → OnErr r (Told mid new P) → Told mid new Q → ((m n : Holding) → P m n → Q m n → R m n) → OnErr r (Told old new R)
err_keeps (Ok x) old mid new P Q R same kept others more = tt
err_keeps (Err e) old mid new P Q R same kept others more =
    let both = told_and mid new P Q kept others in
    told_more old new (λ m n. P m n × Q m n) R (subst (λ h. Told h new (λ m n. P m n × Q m n)) same both) (λ m n held b. more m n b.0 b.1)

pub err_refused : {T : Type 0} (r : Result T SortFault) (name : List ℕ) (old mid new : Option Holding) (P : Holding → Holding → Type 0) → mid ≡ old → Told mid new P → IfErr r (λ f. CutsOff f ⊎ (mid ≡ None)) → IfErr r (λ f. CutsOff f ⊎ IsRefused name f old new)
err_refused (Ok x) name old mid new P same told fault = tt
err_refused (Err f) name old mid new P same told fault = subst (λ h. CutsOff f ⊎ IsRefused name f h new) same (refused_untold name mid new P f told fault)

-- ---- what is left of the working file

-- a part failed, and the working file was taken away
pub cleared_by : (working : List ℕ) (old mid new : Option Holding) (before between now : ℕ) (f : SortFault) (P : Holding → Holding → Type 0) (r : Result (Unit {0}) FileErr) → CutsOff f ⊎ (old ≡ None) → (f ≡ sort.File → Rose before between) → before ≤ between → Told old mid P
    → OnOk r (Told mid new (Removes working)) → OnErr r (Told mid new Keeps) → IfErr r (λ e. e ≡ Failed) → HasCause Failed between now r → IsCleared working old new before now f
cleared_by working old mid new before between now f P (Ok x) cut rose less first gone kept failed cause few = told_then old mid new P (Removes working) (Clears working) first gone (λ m n k one two. inr two.gone)
cleared_by working old mid new before between now f P (Err e) (inr none) rose less first gone kept failed cause few = record { told = λ m held. absurd (let e = sym none ∙ held in cc); untold = λ untold. kept.untold (first.untold untold) }
cleared_by working old mid new before between now f P (Err e) (inl cut) rose less first gone kept failed cause few =
    let more : Rose between now = cause.cause (ap (λ (x : FileErr). Err x) failed) in
    absurd (by cut more)
  where
    by : CutsOff f → Rose between now → ⊥
    by (inl file) more = omega (arith, few.0, few.1, rose file, more, less, ap faults_told file)
    by (inr memory) more = omega (arith, few.0, few.1, more, less, ap faults_told memory)
