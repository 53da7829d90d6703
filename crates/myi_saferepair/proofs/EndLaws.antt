-- How a repair row by row ends: by finishing what was filled, by a fault, or by a repair as any other.
use Rattle.std.proofs.Common.{◌≡◌, ◌⊎◌, inl, inr, ℕ, ◌+◌, ◌^◌, ◌<◌, ◌≤◌, Bool, List, [], ◌∷◌, length, map, Option, Some, None, Ok, Err, unwrap_or, refl, sym, ap, subst, ◌∙◌, arith}
use Rattle.std.specs.Prelude.{Result, IfErr}
use Rattle.std.specs.List.{AllByRecursion}
use Rattle.myi_base.specs.Holding.{Holding, HoldsBytes, IfTold, Told, bytes_of}
use Rattle.myi_base.specs.Causes.{Rose}
use Rattle.myi_base.specs.Numbers.{AreBytes}
use Rattle.myi_base.proofs.CallerLemmas.{told_then}
use Rattle.myi_defs.specs.declared.types.Defs.{Defs}
use Rattle.myi_defs.specs.ReadDefs.{AreDefs}
use Rattle.myi_header.specs.StateOf.{state_of}
use Rattle.myi_header.specs.HeaderOf.{header_of}
use Rattle.myi_opening.specs.Opening.{table_in as opened_in, table_of}
use Rattle.myi_data.specs.Readable.{readable}
use Rattle.myi_data.specs.Stored.{stored_file, block_count, IsStorable}
use Rattle.myi_pair.specs.Clean.{sized_row}
use Rattle.myi_pair.specs.RebuiltBytes.{new_state}
use Rattle.myi_pair.specs.RecoveredBytes.{kept, new_data, new_index}
use Rattle.myi_pair.specs.Recovered.{IsRepairable}
use Rattle.myi_pair.proofs.CallerLemmas.{readable_storable, recovered}
use Rattle.myi_repair.specs.declared.fault.RepairFault.{RepairFault}
use Rattle.myi_repair.specs.declared.fault.RepairFault.TheVariants.{Absent, Def, TooLong, File, Memory}
use Rattle.myi_repair.specs.declared.report.Report.{Report}
use Rattle.myi_repair.specs.Names.{FourNames, names_for, AreApart, KeepsBut, KeepsBoth, Clears, working_left}
use Rattle.myi_repair.specs.Faults.{faults_told, RoseAtMost}
use Rattle.myi_repair.specs.Opening.{Table, table_in, table_by, IsTable, HasTable, CutsOff}
use Rattle.myi_repair.specs.Outcome.{IsRefused, Ends}
use Rattle.myi_repair.specs.Finishing.{state_set, finished_index, IsWhole, Finishes, FinishesPart}
use Rattle.myi_repair.specs.Repaired as any
use Rattle.myi_repair.proofs.CallerLemmas.{is_opened, both_after}
use Rattle.myi_saferepair.specs.declared.filling.Filled.{Filled}
use Rattle.myi_saferepair.specs.Recovered.{SafelyRecovered}
use Rattle.myi_saferepair.specs.Repaired.{LeavesRepaired, ReplacesData, OldOrNewOf, OldOrNew}
use Rattle.myi_saferepair.specs.Filling.{RootFits, Fills, WritesBoth}
use Rattle.myi_saferepair.proofs.RowLaws.{first_storable}
use Rattle.myi_saferepair.proofs.HeaderLaws.{AreFew}
use Rattle.myi_saferepair.proofs.CleanLaws.{Fronts, over_front, kept_state, finished_recovered, any_repair}

-- ---- the table of two files

opened_same : (index rows : List ℕ) (m n : Holding) → n index ≡ m index → n rows ≡ m rows → opened_in index rows n ≡ opened_in index rows m
unfolding opened_in
opened_same index rows m n one two = ap (λ (x : Option (List ℕ)). table_of x (n rows)) one ∙ ap (table_of (m index)) two

pub table_same : (t : FourNames) (m n : Holding) → KeepsBoth t m n → table_in t n ≡ table_in t m
unfolding table_in
table_same t m n both = ap table_by (opened_same t.index t.rows m n both.index both.rows)

ok_same : {A E : Type 0} (x y : A) → ◌≡◌ {A = Result A E} (Ok x) (Ok y) → x ≡ y
ok_same x y same = cc

no_error : {A E : Type 0} (x : A) (f : E) → ◌≡◌ {A = Result A E} (Ok x) (Err f) → ⊥
no_error x f same = cc

-- the working files alone were written
pub keeps_both : (t : FourNames) (m n : Holding) → AreApart t → WritesBoth t.new_rows t.new_index m n → KeepsBoth t m n
keeps_both t m n apart writes = record { rows = writes t.rows apart.rows-new_rows apart.rows-new_index; index = writes t.index apart.index-new_rows apart.index-new_index }

pub keeps_but : (t : FourNames) (m n : Holding) → WritesBoth t.new_rows t.new_index m n → KeepsBut t m n
keeps_but t m n writes q a b c d = writes q c d

-- ---- both files stay

pub both_old : (name : List ℕ) (t : FourNames) (extend : Bool) (now : ℕ) (m n : Holding) → t ≡ names_for name → KeepsBoth t m n → OldOrNew name extend now m n
both_old name t extend now m n named keeps = by (table_in (names_for name) m) (subst (λ (u : FourNames). KeepsBoth u m n) named keeps)
  where
    by : (table : Result Table RepairFault) → KeepsBoth (names_for name) m n → OldOrNewOf name extend now table m n
    by (Err f) both = both
    by (Ok t) both = inl both

-- ---- the table that is repaired

-- what is known of it
pub record IsKnown (t : FourNames) (d : Defs) (size now : ℕ) (m : Holding) : Type 0 where
  pub defined : AreDefs d
  pub header : AreBytes d.raw
  pub table : HasTable t d size m
  pub bytes : HoldsBytes m
  pub time : now < 2 ^ 64

repairable : (t : FourNames) (d : Defs) (size now : ℕ) (m : Holding) (k : IsKnown t d size now m) → IsRepairable d k.table.0 now
repairable t d size now m k =
    let o = is_opened t d k.table.0 m k.table.1 in
    record {
      defined = k.defined;
      header = k.header;
      bytes = subst AreBytes (ap (λ (x : Option (List ℕ)). unwrap_or x []) o.rows) (k.bytes t.rows);
      reached = o.reached;
      time = k.time;
    }

-- ---- what was filled and finished

all_mapped : {X Y : Type 0} (P : Y → Type 0) (f : X → Y) (xs : List X) → AllByRecursion (λ x. P (f x)) xs → AllByRecursion P (map f xs)
all_mapped P f [] all = tt
all_mapped P f (x ∷ xs) all = (all.0, all_mapped P f xs all.1)

kept_storable : (d : Defs) (extend : Bool) (b : List ℕ) → AreDefs d → AreBytes b → AllByRecursion (IsStorable d) (kept d extend b)
unfolding kept
kept_storable d extend b defined bytes = first_storable d (map (sized_row d) (readable d extend b)) (all_mapped (IsStorable d) (sized_row d) (readable d extend b) (readable_storable d extend b defined bytes))

data_is : (d : Defs) (extend : Bool) (b : List ℕ) → stored_file d (kept d extend b) ≡ new_data d extend b
unfolding new_data
data_is d extend b = refl

-- the index file that is finished is one that is recovered
index_recovered : Fronts → (t : FourNames) (extend : Bool) (f : Filled) (now : ℕ) (m k : Holding) → (is : Fills t extend f m k) → IsRepairable f.gathered.defs is.data_file now → length f.roots.items ≡ length f.gathered.defs.keys → AllByRecursion RootFits f.roots.items → f.end < 256 ^ 8
    → SafelyRecovered f.gathered.defs extend is.data_file now (new_data f.gathered.defs extend is.data_file) (finished_index f.gathered f.roots.items f.end now (bytes_of t.new_index k))
index_recovered law t extend f now m k is can count fit short =
    let d = f.gathered.defs in
    let b = is.data_file in
    let x = bytes_of t.new_index k in
    let long_is : f.gathered.report.new_length ≡ length (stored_file d (kept d extend b)) = ap (λ (r : Report). r.new_length) is.report ∙ ap (λ (y : List ℕ). length y) (sym (data_is d extend b)) in
    let kept_long : f.gathered.report.kept ≡ length (kept d extend b) = ap (λ (r : Report). r.kept) is.report in
    let few : AreFew d (length (kept d extend b)) (block_count d (kept d extend b)) (length (stored_file d (kept d extend b))) f.end now f.roots.items = record {
      raw = can.header;
      few_rows = subst (λ (n : ℕ). n < 256 ^ 8) kept_long is.few_rows;
      few_blocks = subst (λ (n : ℕ). n < 256 ^ 8) is.split is.few_blocks;
      short_data = subst (λ (n : ℕ). n < 256 ^ 8) long_is is.short;
      short_index = short;
      early = omega (arith, can.time);
      count = count;
      fit = fit;
    } in
    let state_is : state_set f.gathered f.roots.items f.end now ≡ kept_state d extend b f.end now f.roots.items =
    ap (λ (n : ℕ). new_state d (state_of d d.raw) n f.gathered.split f.gathered.report.new_length f.roots.items f.end now) kept_long
    ∙ ap (λ (n : ℕ). new_state d (state_of d d.raw) (length (kept d extend b)) n f.gathered.report.new_length f.roots.items f.end now) is.split
    ∙ ap (λ (n : ℕ). new_state d (state_of d d.raw) (length (kept d extend b)) (block_count d (kept d extend b)) n f.roots.items f.end now) long_is in
    subst (λ (h : List ℕ). SafelyRecovered d extend b now (new_data d extend b) (over_front f.end h x)) (sym (ap (header_of d) state_is))
    (finished_recovered law d extend b now f.end f.roots.items x can (kept_storable d extend b can.defined can.bytes) few is.trees (omega (arith, is.trees.full)))

-- what is known of a table whose working files were filled
pub record HasFilled (t : FourNames) (extend : Bool) (f : Filled) (now : ℕ) (m k : Holding) : Type 0 where
  pub fills : Fills t extend f m k
  pub defined : AreDefs f.gathered.defs
  pub header : AreBytes f.gathered.defs.raw
  pub count : length f.roots.items ≡ length f.gathered.defs.keys
  pub fit : AllByRecursion RootFits f.roots.items
  pub short : f.end < 256 ^ 8
  pub time : now < 2 ^ 64

can_repair : (t : FourNames) (extend : Bool) (f : Filled) (now : ℕ) (m k : Holding) (h : HasFilled t extend f now m k) → IsRepairable f.gathered.defs h.fills.data_file now
can_repair t extend f now m k h =
    let o = is_opened t f.gathered.defs h.fills.data_file m h.fills.table in
    record { defined = h.defined; header = h.header; bytes = h.fills.bytes; reached = o.reached; time = h.time }

pub finished : Fronts → (name : List ℕ) (t : FourNames) (extend : Bool) (f : Filled) (now : ℕ) (said : Report) (roots : List (Option ℕ)) (m k n : Holding) → t ≡ names_for name → HasFilled t extend f now m k → roots ≡ f.roots.items → said ≡ f.gathered.report → Finishes t f.gathered roots f.end now k n → LeavesRepaired name extend now said m n
finished law name t extend f now said roots m k n named before same said_is done =
    let u = names_for name in
    let has : HasFilled u extend f now m k = subst (λ (v : FourNames). HasFilled v extend f now m k) named before in
    let end_is : Finishes u f.gathered f.roots.items f.end now k n = subst (λ (rs : List (Option ℕ)). Finishes u f.gathered rs f.end now k n) same (subst (λ (v : FourNames). Finishes v f.gathered roots f.end now k n) named done) in
    let is = has.fills in (
      f.gathered.defs,
      is.data_file,
      is.table,
      record {
        index = finished_index f.gathered f.roots.items f.end now (bytes_of u.new_index k);
        holds = end_is (new_data f.gathered.defs extend is.data_file) is.stored;
        recovered = index_recovered law u extend f now m k is (can_repair u extend f now m k has) has.count has.fit has.short;
        report = said_is ∙ is.report;
      },
    )

index_before : (t : FourNames) (x : List ℕ) (m k n : Holding) → KeepsBoth t m k → (n t.index ≡ k t.index) ⊎ (n t.index ≡ Some x) → (n t.index ≡ m t.index) ⊎ (n t.index ≡ Some x)
index_before t x m k n stays (inl same) = inl (same ∙ stays.index)
index_before t x m k n stays (inr new) = inr new

-- what is whole beside the files that both stayed
whole_from : (name : List ℕ) (extend : Bool) (now : ℕ) (d : Defs) (b x : List ℕ) (m k n : Holding) → SafelyRecovered d extend b now (new_data d extend b) x → KeepsBoth (names_for name) m k → IsWhole (names_for name) (new_data d extend b) x k n → KeepsBoth (names_for name) m n ⊎ ReplacesData name extend now d b m n
whole_from name extend now d b x m k n is stays (inl keeps) = inl (both_after (names_for name) m k n keeps stays)
whole_from name extend now d b x m k n is stays (inr replaces) = inr (record { index = x; recovered = is; replaces = record { rows = replaces.rows; index = index_before (names_for name) x m k n stays replaces.index } })

old_or_new : (name : List ℕ) (extend : Bool) (now : ℕ) (d : Defs) (b : List ℕ) (m n : Holding) → IsTable (names_for name) d b m → KeepsBoth (names_for name) m n ⊎ ReplacesData name extend now d b m n → OldOrNew name extend now m n
old_or_new name extend now d b m n table whole = subst (λ (r : Result Table RepairFault). OldOrNewOf name extend now r m n) (sym table) whole

pub finished_part : Fronts → (name : List ℕ) (t : FourNames) (extend : Bool) (f : Filled) (now : ℕ) (roots : List (Option ℕ)) (m k n : Holding) → t ≡ names_for name → HasFilled t extend f now m k → KeepsBoth t m k → roots ≡ f.roots.items → FinishesPart t f.gathered roots f.end now k n → OldOrNew name extend now m n
finished_part law name t extend f now roots m k n named before both same done =
    let u = names_for name in
    let has : HasFilled u extend f now m k = subst (λ (v : FourNames). HasFilled v extend f now m k) named before in
    let stays : KeepsBoth u m k = subst (λ (v : FourNames). KeepsBoth v m k) named both in
    let end_is : FinishesPart u f.gathered f.roots.items f.end now k n = subst (λ (rs : List (Option ℕ)). FinishesPart u f.gathered rs f.end now k n) same (subst (λ (v : FourNames). FinishesPart v f.gathered roots f.end now k n) named done) in
    let is = has.fills in
    let x = finished_index f.gathered f.roots.items f.end now (bytes_of u.new_index k) in
    old_or_new name extend now f.gathered.defs is.data_file m n is.table
    (whole_from name extend now f.gathered.defs is.data_file x m k n (index_recovered law u extend f now m k is (can_repair u extend f now m k has) has.count has.fit has.short) stays (end_is (new_data f.gathered.defs extend is.data_file) is.stored))

-- ---- a repair as any other

-- what it leaves, where both files were as before
pub repaired_again : (name : List ℕ) (t : FourNames) (extend : Bool) (now : ℕ) (said : Report) (m k n : Holding) → t ≡ names_for name → KeepsBoth t m k → any.LeavesRepaired name extend now said k n → LeavesRepaired name extend now said m n
repaired_again name t extend now said m k n named both left =
    let d = left.0 in
    let b = left.1 in
    let is = left.3 in
    let stays : KeepsBoth (names_for name) m k = subst (λ (v : FourNames). KeepsBoth v m k) named both in
    (d, b, sym (table_same (names_for name) m k stays) ∙ left.2, record { index = new_index d extend b now; holds = is.holds; recovered = any_repair d extend b now (new_data d extend b) (new_index d extend b now) is.recovered; report = is.report })

pub whole_again : (name : List ℕ) (t : FourNames) (extend : Bool) (now : ℕ) (d : Defs) (size : ℕ) (m k n : Holding) → t ≡ names_for name → IsKnown t d size now m → KeepsBoth t m k → any.OldOrNew name extend now k n → OldOrNew name extend now m n
whole_again name t extend now d size m k n named before both left =
    let u = names_for name in
    let known : IsKnown u d size now m = subst (λ (v : FourNames). IsKnown v d size now m) named before in
    let stays : KeepsBoth u m k = subst (λ (v : FourNames). KeepsBoth v m k) named both in
    let b = known.table.0 in
    let whole : IsWhole u (new_data d extend b) (new_index d extend b now) k n = subst (λ (r : Result Table RepairFault). any.OldOrNewOf name extend now r k n) (table_same u m k stays ∙ known.table.1) left in
    old_or_new name extend now d b m n known.table.1
    (whole_from name extend now d b (new_index d extend b now) m k n (any_repair d extend b now (new_data d extend b) (new_index d extend b now) (recovered d extend b now (repairable u d size now m known))) stays whole)

-- how it ends

fault_cases : (f : RepairFault) → (faults_told f ≡ 0) ⊎ (f ≡ File)
fault_cases (Absent file) = inl refl
fault_cases (Def fault) = inl refl
fault_cases TooLong = inl refl
fault_cases File = inr refl
fault_cases Memory = inl refl

module _ (t : FourNames) (d : Defs) (size : ℕ) (old mid new : Option Holding) (before b0 b1 now : ℕ) (opened : IfTold old (HasTable t d size)) (both : Told old mid (KeepsBoth t)) (others : Told old mid (KeepsBut t)) (first : before ≤ b0) (later : b0 ≤ b1)
    (gone : (more : ℕ) → RoseAtMost more b0 b1 → Told old mid (λ m n. working_left t n ≤ more)) where
  refused : (f : RepairFault) → IsRefused t f mid new → IsRefused t f old new
  refused f is = record { reason = λ m held. absurd (never m held); same = same old refl }
    where
      never : (m : Holding) → old ≡ Some m → ⊥
      never m held =
          let k = both.told m held in
          let table = opened m held in
          no_error {E = RepairFault} (d, table.0) f (sym (table_same t m k.0 k.2 ∙ table.1) ∙ is.reason k.0 k.1)

      same : (o : Option Holding) → old ≡ o → new ≡ old
      same None none = is.same ∙ both.untold none ∙ sym none
      same (Some m) held = absurd (never m held)

  reasons : {X : Type 0} (result : Result X RepairFault) → IfErr result (λ f. CutsOff f ⊎ IsRefused t f mid new) → IfErr result (λ f. CutsOff f ⊎ IsRefused t f old new)
  reasons (Ok x) is = tt
  reasons (Err f) (inl cut) = inl cut
  reasons (Err f) (inr is) = inr (refused f is)

  clears : (more : ℕ) → RoseAtMost more b0 b1 → Told mid new (Clears more t) → Told old new (Clears more t)
  clears more few is = told_then old mid new (λ m n. working_left t n ≤ more) (Clears more t) (Clears more t) (gone more few) is (λ m n k left cleared. by m n k left cleared)
    where
      by : (m n k : Holding) → working_left t n ≤ more → Clears more t n k → Clears more t m k
      by m n k left (inl same) = inr (subst (λ (h : Holding). working_left t h ≤ more) (sym same) left)
      by m n k left (inr few_left) = inr few_left

  clear_by : (f : RepairFault) (more : ℕ) → RoseAtMost (faults_told f + more) before now → (f ≡ File → Rose b1 now) → b1 ≤ now → ((n : ℕ) → RoseAtMost (faults_told f + n) b1 now → Told mid new (Clears n t)) → (faults_told f ≡ 0) ⊎ (f ≡ File) → Told old new (Clears more t)
  clear_by f more few rose last is (inl none) = clears more (omega (arith, few.0, none, first, last), omega (arith, few.1, last)) (is more (omega (arith, few.0, first, later), few.1))
  clear_by f more few rose last is (inr file) = clears more (omega (arith, few.0, few.1, rose file, ap faults_told file, first), omega (arith, few.1, last)) (is more (omega (arith, few.0, first, later), few.1))

  cleared : {X : Type 0} (result : Result X RepairFault) → ((f : RepairFault) → result ≡ Err f → f ≡ File → Rose b1 now) → b1 ≤ now → IfErr result (λ f. (more : ℕ) → RoseAtMost (faults_told f + more) b1 now → Told mid new (Clears more t)) → IfErr result (λ f. (more : ℕ) → RoseAtMost (faults_told f + more) before now → Told old new (Clears more t))
  cleared (Ok x) rose last is = tt
  cleared (Err f) rose last is = λ more few. clear_by f more few (rose f refl) last is (fault_cases f)

  pub ends_again : {X : Type 0} (result : Result X RepairFault) → Ends t mid new b1 now result → Ends t old new before now result
  ends_again result ends = record {
    reason = reasons result ends.reason;
    cleared = cleared result (λ f is file. ends.cause.cause (is ∙ ap (λ (g : RepairFault). Err g) file)) ends.cause.later ends.cleared;
    others = told_then old mid new (KeepsBut t) (KeepsBut t) (KeepsBut t) others ends.others (λ m n k one two q a b c e. two q a b c e ∙ one q a b c e);
    cause = record { later = omega (arith, first, later, ends.cause.later); cause = λ failed. let rose = ends.cause.cause failed in omega (arith, rose, first, later) };
  }
