-- What an analysis answers, by what its parts do.
use Rattle.std.proofs.Common.{◌≡◌, ◌⊎◌, inl, inr, ℕ, List, [], ◌∷◌, length, Option, Some, Result, Ok, Err, unwrap_or, sym, ap, subst, ◌∙◌, ◌^◌, ◌<◌, ◌≤◌, arith, length-take}
use Rattle.myi_base.specs.Holding.{Holding, IfTold, Told, Removes, bytes_of, overwritten}
use Rattle.myi_base.proofs.CallerLemmas.{told_then}
use Rattle.myi_base.specs.Numbers.{num_at}
use Rattle.std.specs.Prelude.{take, OnOk, OnErr, slice_get, IfErr}
use Rattle.myi_defs.specs.declared.types.Defs.{Defs}
use Rattle.myi_defs.specs.Sound.{IsSound}
use Rattle.myi_defs.specs.ReadDefs.{read_defs}
use Rattle.myi_opening.specs.declared.fault.TableFault.{TableFault}
use Rattle.myi_opening.specs.Names.{rows_file, index_file}
use Rattle.myi_opening.specs.Opening.{Table, table, IsCutOff}
use Rattle.myi_opening.specs.Opening as opening
use Rattle.myi_opening.proofs.CallerLemmas.{table_index, table_rows, table_read}
use Rattle.myi_pair.specs.declared.finding.Finding.{Finding}
use Rattle.myi_header.specs.Layout as header
use Rattle.std.specs.List.{AllByRecursion}
use Rattle.myi_pair.specs.Clean.{IsClean}
use Rattle.myi_pair.specs.Findings.{findings}
use Rattle.myi_pair.proofs.CallerLemmas.{clean_where_none}
use Rattle.myi_check.specs.Checking.{findings_in, findings_by, Finds}
use Rattle.myi_check.specs.Checking as checking
use Rattle.myi_rowkeys.specs.TableKeys.{key_numbers}
use Rattle.myi_repair.specs.Names.{names_for, new_index_file, AreApart}
use Rattle.myi_order.specs.declared.fault.OrderFault.{OrderFault}
use Rattle.myi_order.specs.declared.fault.OrderFault.TheVariants.{Damaged}
use Rattle.myi_order.specs.declared.fault.OrderFault.TheVariants as order
use Rattle.myi_base.specs.Causes.{Rose, HasCause}
use Rattle.myi_io.specs.declared.files.FileErr.{FileErr}
use Rattle.myi_io.specs.declared.files.FileErr.TheVariants.{Failed}
use Rattle.myi_order.specs.declared.key_parts.KeyParts.{KeyParts}
use Rattle.myi_header.specs.declared.analysis.NewNumbers.{NewNumbers}
use Rattle.myi_order.specs.declared.counting.Counted.{Counted}
use Rattle.myi_order.specs.Faults.{order_fault, CutsOff, faults_told, Clears, IsCleared}
use Rattle.myi_order.specs.KeyParts.{key_parts}
use Rattle.myi_order.specs.Counting.{CountsFile}
use Rattle.myi_header.specs.Analysis.{changed_place, rows_place, changed_bits, analyzed_bits, number_bytes, with_numbers}
use Rattle.myi_order.specs.Numbers.{all_per}
use Rattle.myi_order.specs.Storing.{with_new, Replaces, KeepsIndex, OthersStayOf, Stores}
use Rattle.myi_order.specs.Analyzing.{table_in, table_by, clean_by, Refuses, IsRefused, rows_in, Analyzes, KeepsBoth}
use Rattle.myi_header.proofs.CallerLemmas.{numbers-bits, numbers-read}
use Rattle.myi_order.proofs.ListedLaws.{parts_few, all_small}

ok_same : {A E : Type 0} (x y : A) → ◌≡◌ {A = Result A E} (Ok x) (Ok y) → x ≡ y
ok_same x y same = cc

err_same : {A E : Type 0} (x y : E) → ◌≡◌ {A = Result A E} (Err x) (Err y) → x ≡ y
err_same x y same = cc

-- ---- what is refused

not_by : (r : Result Table TableFault) (e : TableFault) → findings_by r ≡ Err e → r ≡ Err e
not_by (Err f) e is = ap (λ (x : TableFault). Err x) (err_same {A = List Finding} f e is)
not_by (Ok t) e is = absurd cc

cut_by : (e : TableFault) → IsCutOff e → CutsOff (order_fault e)
cut_by e (inl file) = inl (ap order_fault file)
cut_by e (inr memory) = inr (ap order_fault memory)

refused_by : (name : List ℕ) (e : TableFault) (m : Holding) → checking.Refuses name e m → Refuses name (order_fault e) m
unfolding findings_in table_in
refused_by name e m is = ap table_by (not_by (opening.table_in (index_file name) (rows_file name) m) e is)

-- a check that was not made
pub not_checked : (name : List ℕ) (old new : Option Holding) (e : TableFault) (f : OrderFault) → f ≡ order_fault e → new ≡ old → IsCutOff e ⊎ IfTold old (checking.Refuses name e) → CutsOff f ⊎ IsRefused name f old new
not_checked name old new e f is same (inl cut) = inl (subst CutsOff (sym is) (cut_by e cut))
not_checked name old new e f is same (inr none) = inr (record { reason = λ m told. subst (λ x. Refuses name x m) (sym is) (refused_by name e m (none m told)); same = same })

-- a table that was not opened
pub not_opened : (name index rows : List ℕ) (old new : Option Holding) (e : TableFault) (f : OrderFault) → index ≡ index_file name → rows ≡ rows_file name → f ≡ order_fault e → new ≡ old → IsCutOff e ⊎ IfTold old (opening.HasNoTable index rows e)
    → CutsOff f ⊎ IsRefused name f old new
unfolding table_in
not_opened name index rows old new e f index_is rows_is is same (inl cut) = inl (subst CutsOff (sym is) (cut_by e cut))
not_opened name index rows old new e f index_is rows_is is same (inr none) = inr (record {
  reason = λ m told. ap table_by (ap (λ i. opening.table_in i (rows_file name) m) (sym index_is) ∙ ap (λ r. opening.table_in index r m) (sym rows_is) ∙ none m told) ∙ ap (λ (x : OrderFault). Err x) (sym is);
  same = same;
})

-- something was found
found_by : (r : Result Table TableFault) (found : Finding) (others : List Finding) → findings_by r ≡ Ok (found ∷ others) → table_by r ≡ Err (Damaged found)
found_by (Err f) found others is = absurd cc
found_by (Ok t) found others is = ap (clean_by t) (ok_same {E = TableFault} (findings t.defs t.rows t.index) (found ∷ others) is)

pub damaged : (name : List ℕ) (found : Finding) (others : List Finding) (m : Holding) → Finds name (found ∷ others) m → Refuses name (Damaged found) m
unfolding findings_in table_in
damaged name found others m is = found_by (opening.table_in (index_file name) (rows_file name) m) found others is

-- ---- a table with which nothing is wrong

pub record IsOpened (name : List ℕ) (d : Defs) (size : ℕ) (m : Holding) : Type 0 where
  pub data_file : List ℕ
  pub index : List ℕ
  pub is : table_in name m ≡ Ok (table d data_file index)
  pub rows_there : m (rows_file name) ≡ Some data_file
  pub there : m (index_file name) ≡ Some index
  pub read : read_defs index ≡ Ok d
  pub long : size ≡ length data_file
  pub none : findings d data_file index ≡ []

pub is_opened : (name index rows : List ℕ) (d : Defs) (size : ℕ) (m : Holding) → index ≡ index_file name → rows ≡ rows_file name → opening.HasTable index rows d size m → Finds name [] m → IsOpened name d size m
unfolding findings_in table_in
is_opened name index rows d size m index_is rows_is has clean =
    let t : Table = table d has.data_file has.index_file in
    let here : opening.table_in (index_file name) (rows_file name) m ≡ Ok t = ap (λ i. opening.table_in i (rows_file name) m) (sym index_is) ∙ ap (λ r. opening.table_in index r m) (sym rows_is) ∙ has.is in
    let none : findings d has.data_file has.index_file ≡ [] = ok_same {E = TableFault} (findings d has.data_file has.index_file) [] (sym (ap findings_by here) ∙ clean) in
    record {
      data_file = has.data_file;
      index = has.index_file;
      is = ap table_by here ∙ ap (clean_by t) none;
      rows_there = table_rows (index_file name) (rows_file name) t m here;
      there = table_index (index_file name) (rows_file name) t m here;
      read = table_read (index_file name) (rows_file name) t m here;
      long = has.long;
      none = none;
    }

-- ---- what is stored

pub stored_by : (index working : List ℕ) (d : Defs) (c : Counted) (numbers : NewNumbers) (m n : Holding) → IsSound d → ((x : List ℕ) → read_defs x ≡ Ok d → d.raw ≡ take (num_at 6 2 x) x)
    → numbers.changed ≡ analyzed_bits (changed_bits d.raw) → numbers.place ≡ rows_place d → numbers.bytes.items ≡ number_bytes c.rows (all_per c.parts.items) → Replaces index working numbers m n → Stores index working d c m n
unfolding with_numbers
stored_by index working d c numbers m n good raw changed place bytes put = record {
  stored = λ x here read.
      let old : bytes_of index m ≡ x = ap (λ o. unwrap_or o []) here in
      let bits : numbers.changed ≡ analyzed_bits (changed_bits x) = changed ∙ ap analyzed_bits (numbers-bits d x good (raw x read)) in
      put.there
      ∙ ap (λ b. Some (with_new numbers b)) old
      ∙ ap (λ b. Some (overwritten numbers.place numbers.bytes.items (overwritten changed_place (b ∷ []) x))) bits
      ∙ ap (λ p. Some (overwritten p numbers.bytes.items (overwritten changed_place (analyzed_bits (changed_bits x) ∷ []) x))) place
      ∙ ap (λ b. Some (overwritten (rows_place d) b (overwritten changed_place (analyzed_bits (changed_bits x) ∷ []) x))) bytes;
  none = put.gone;
}

pub analyzed_by : (name index working : List ℕ) (d : Defs) (size : ℕ) (c : Counted) (m n : Holding) → IsSound d → ((x : List ℕ) → read_defs x ≡ Ok d → d.raw ≡ take (num_at 6 2 x) x) → c.rows < 256 ^ 8
    → ((file x : List ℕ) (e : Defs) (k : ℕ) (parts : List ℕ) → read_defs x ≡ Ok e → length parts ≤ header.key_parts e → k < 256 ^ 8 → AllByRecursion (λ v. v < 256 ^ 4) parts → IsClean file x → IsClean file (with_numbers e k parts x)) → index ≡ index_file name → working ≡ new_index_file name → (opened : IsOpened name d size m) → CountsFile d opened.data_file c → Stores index working d c m n
    → Analyzes name c.parts.items m n
analyzed_by name index working d size c m n good raw few stays index_is working_is opened counts put =
    let t : Table = table d opened.data_file opened.index in
    let here : m index ≡ Some opened.index = ap m index_is ∙ opened.there in
    record {
      table = t;
      is = opened.is;
      answer = counts.parts;
      stored = sym (ap n index_is) ∙ put.stored opened.index here opened.read
          ∙ ap (λ k. Some (with_numbers d k (all_per c.parts.items) opened.index)) counts.count
          ∙ ap (λ (ps : List KeyParts). Some (with_numbers d (length (rows_in t)) (all_per ps) opened.index)) counts.parts;
      gone = sym (ap n working_is) ∙ put.none;
      clean = stays opened.data_file opened.index d (length (rows_in t)) (all_per (key_parts d (rows_in t))) opened.read (parts_few d (rows_in t) good) (omega (arith, few, counts.count)) (all_small d (rows_in t) (key_numbers d))
          (clean_where_none d opened.data_file opened.index opened.read opened.none);
      numbers = numbers-read d (length (rows_in t)) (all_per (key_parts d (rows_in t))) opened.index good (record {
        long = omega (arith, ap (λ (xs : List ℕ). length xs) (raw opened.index opened.read), length-take (num_at 6 2 opened.index) opened.index);
        few = parts_few d (rows_in t) good;
        counted = omega (arith, few, counts.count);
        small = all_small d (rows_in t) (key_numbers d);
      });
    }

-- ---- what stays

pub both_kept : (name index working : List ℕ) (m n : Holding) → AreApart (names_for name) → index ≡ index_file name → working ≡ new_index_file name → KeepsIndex index m n → OthersStayOf index working m n → KeepsBoth name m n
both_kept name index working m n apart index_is working_is kept others = record {
  rows = others (rows_file name) (λ same. apart.rows-index (same ∙ index_is)) (λ same. apart.rows-new_index (same ∙ working_is));
  index = subst (λ i. n i ≡ m i) index_is kept;
}

-- ---- by names and by parts

pub replaces_named : (index working i w : List ℕ) (numbers : NewNumbers) (m n : Holding) → index ≡ i → working ≡ w → Replaces index working numbers m n → Replaces i w numbers m n
replaces_named index working i w numbers m n one other put = record {
  there = sym (ap n one) ∙ put.there ∙ ap (λ q. Some (with_new numbers (bytes_of q m))) one;
  gone = sym (ap n other) ∙ put.gone;
}

-- what holds anyway holds of an error
pub on_err : {A E : Type 0} (r : Result A E) (P : Type 0) → P → OnErr r P
on_err (Ok x) P p = tt
on_err (Err e) P p = p

-- the files before a step that left them as they were
pub told_from : (old mid new : Option Holding) (P : Holding → Holding → Type 0) → mid ≡ old → Told mid new P → Told old new P
told_from old mid new P same is = subst (λ h. Told h new P) same is

-- a list that begins with an item
pub begins : (xs : List Finding) (x : Finding) → Some x ≡ slice_get xs 0 → (others : List Finding) × (xs ≡ x ∷ others)
begins [] x is = absurd cc
begins (y ∷ xs) x is = (xs, let e : y ≡ x = cc in ap (λ z. z ∷ xs) e)

-- ---- what is left of the working file

-- a part failed, and the working file was taken away
pub cleared_by : (working : List ℕ) (old mid new : Option Holding) (before between now : ℕ) (f : OrderFault) (P : Holding → Holding → Type 0) (r : Result (Unit {0}) FileErr) → CutsOff f → (f ≡ order.File → Rose before between) → before ≤ between → Told old mid P
    → OnOk r (Told mid new (Removes working)) → IfErr r (λ e. e ≡ Failed) → HasCause Failed between now r → IsCleared working old new before now f
cleared_by working old mid new before between now f P (Ok x) cut rose less first gone failed cause few = told_then old mid new P (Removes working) (Clears working) first gone (λ m n k one two. inr two.gone)
cleared_by working old mid new before between now f P (Err e) cut rose less first gone failed cause few =
    let more : Rose between now = cause.cause (ap (λ (x : FileErr). Err x) failed) in
    absurd (by cut more)
  where
    by : CutsOff f → Rose between now → ⊥
    by (inl file) more = omega (arith, few.0, few.1, rose file, more, less, ap faults_told file)
    by (inr memory) more = omega (arith, few.0, few.1, more, less, ap faults_told memory)
