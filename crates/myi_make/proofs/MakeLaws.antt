-- How the parts of the making of a table compose, over plain holdings.
use Rattle.std.proofs.Common.{◌≡◌, ◌≢◌, ◌⊎◌, ◌<◌, ◌≤◌, ◌+◌, ◌*◌, ◌^◌, ◌∙◌, ℕ, zero, suc, true, false, List, [], Option, Some, None, Ok, Err, length, get_or, take, ap, sym, subst, refl, arith, inl, inr}
use Rattle.std.specs.Prelude.{codes, Result, unwrap_or}
use Rattle.std.proofs.lemmas.List.{length-append, append_cancel_left}
use Rattle.myi_base.specs.Numbers.{num_at, AreBytes}
use Rattle.myi_base.specs.Holding.{Holding, HoldsBytes, IfTold, Told, bytes_of}
use Rattle.myi_base.proofs.CallerLemmas.{told_then}
use Rattle.myi_defs.specs.declared.types.Defs.{Defs}
use Rattle.myi_defs.specs.Addressable.{is_addressable}
use Rattle.myi_frames.specs.Sizes.{least_size}
use Rattle.myi_opening.specs.Names.{rows_file, index_file}
use Rattle.myi_opening.specs.Opening as opening
use Rattle.myi_opening.specs.declared.fault.TableFault.{TableFault}
use Rattle.myi_opening.proofs.CallerLemmas.{table_opened}
use Rattle.myi_pair.specs.declared.finding.Finding.{Finding}
use Rattle.myi_pair.specs.Recovered.{IsRepairable}
use Rattle.myi_pair.proofs.CallerLemmas.{none_where_clean, with_raw, addressable_same}
use Rattle.myi_check.specs.Checking.{findings_by, findings_in, Finds, Refuses}
use Rattle.myi_repair.specs.declared.fault.RepairFault.{RepairFault}
use Rattle.myi_repair.specs.declared.report.Report.{Report}
use Rattle.myi_repair.specs.Names.{names_for, KeepsBut}
use Rattle.myi_repair.specs.Opening.{Table, table_in, table_by, IsTable}
use Rattle.myi_repair.specs.Opening as repair
use Rattle.myi_repair.specs.Outcome.{IsRefused}
use Rattle.myi_repair.specs.Repaired.{Repaired, LeavesRepaired}
use Rattle.myi_keyedrows.specs.Files.{defs_with}
use Rattle.myi_make.specs.declared.fault.MakeFault.{MakeFault}
use Rattle.myi_make.specs.Faults.{CutsOff, of_repair, of_check}
use Rattle.myi_make.specs.MadeTable.{defs, next_number, row_of, row_block, left_block, blocks_behind, damaged_file}
use Rattle.myi_make.specs.Making.{LeavesMade}
use Rattle.myi_make.specs.Filling.{Block, rows_behind, damaged_over, HasFilled, Damages, HasDamaged}
use Rattle.myi_make.specs.declared.make.Made.{Made}
use Rattle.myi_make.proofs.TextLaws.{defs_are, header_bytes, reached}
use Rattle.myi_make.proofs.SizeLaws.{row_short}
use Rattle.myi_make.proofs.BlockLaws.{length-left, length-row_block, block_short}
use Rattle.myi_make.proofs.AgainLaws.{repaired_again}
use Rattle.myi_make.proofs.DamageLaws.{all_rows}

-- ---- the damaged data file

least_some : (n : ℕ) → 0 < least_size n
unfolding least_size
least_some n = omega arith

one_short : (i x : ℕ) → length (left_block i (row_block (row_of i x))) ≤ 252
one_short i x = omega (arith, length-left i (row_block (row_of i x)), block_short (row_of i x) (row_short i x))

short_behind : (k i x : ℕ) → length (blocks_behind k i x) ≤ k * 252
short_behind zero i x = omega arith
short_behind (suc k) i x = omega (arith, length-append (left_block (i + 1) (row_block (row_of (i + 1) (next_number x)))) (blocks_behind k (i + 1) (next_number x)), one_short (i + 1) (next_number x), short_behind k (i + 1) (next_number x))

file_short : (count seed : ℕ) → length (damaged_file count seed) ≤ count * 252
unfolding damaged_file
file_short count seed = short_behind count 0 seed

some_behind : (k i x : ℕ) → 1 ≤ k → 0 < length (blocks_behind k i x)
some_behind zero i x some = absurd (omega (arith, some))
some_behind (suc k) i x some = omega (arith, length-append (left_block (i + 1) (row_block (row_of (i + 1) (next_number x)))) (blocks_behind k (i + 1) (next_number x)), length-left (i + 1) (row_block (row_of (i + 1) (next_number x))), length-row_block (row_of (i + 1) (next_number x)) (row_short (i + 1) (next_number x)), least_some (length (Rattle.myi_pack.specs.Spelling.spelling defs (row_of (i + 1) (next_number x)))))

file_some : (count seed : ℕ) → 1 ≤ count → 0 < length (damaged_file count seed)
unfolding damaged_file
file_some count seed some = some_behind count 0 seed some

there : (o : Option (List ℕ)) (b : List ℕ) → unwrap_or o [] ≡ b → 0 < length b → o ≡ Some b
there None b is some = absurd (let none : length {A = ℕ} [] ≡ length b = ap (λ (l : List ℕ). length l) is in omega (arith, none, some))
there (Some x) b is some = ap Some is

-- ---- the files

apart : (name : List ℕ) → index_file name ≢ rows_file name
apart name same = let other = ap (λ xs. get_or xs 3 0) (append_cancel_left name (codes ".MYI") (codes ".MYD") same) in omega (arith, other)

pub keeps_then : (name : List ℕ) (old mid new : Option Holding) → Told old mid (KeepsBut (names_for name)) → Told mid new (KeepsBut (names_for name)) → Told old new (KeepsBut (names_for name))
keeps_then name old mid new first second = told_then old mid new _ _ (KeepsBut (names_for name)) first second (λ m n k one two q rows index new_rows new_index. two q rows index new_rows new_index ∙ one q rows index new_rows new_index)

damaged : (name file : List ℕ) (count seed : ℕ) (blocks : List Block) (l m n : Holding) → 1 ≤ count → file ≡ rows_file name → HasFilled name count seed blocks l m → Damages file blocks m n → HasDamaged name count seed l n
damaged name file count seed blocks l m n some is has damages =
    let bytes : bytes_of (rows_file name) n ≡ damaged_file count seed =
    ap (λ (q : List ℕ). bytes_of q n) (sym is) ∙ damages.here ∙ ap (λ (q : List ℕ). damaged_over blocks (bytes_of q m)) is ∙ ap (damaged_over blocks) has.rows ∙ ap (λ (bs : List Block). damaged_over bs (rows_behind count 0 seed)) has.tenths ∙ all_rows count seed in
    record {
      rows = there (n (rows_file name)) (damaged_file count seed) bytes (file_some count seed some);
      index = record {
        index = has.index.index;
        there = damages.others (index_file name) (λ e. apart name (e ∙ is)) ∙ has.index.there;
        read = has.index.read;
        again = has.index.again;
      };
      others = λ q rows index new_rows new_index. damages.others q (λ e. rows (e ∙ is)) ∙ has.others q rows index new_rows new_index;
    }

pub damaged_told : (name file : List ℕ) (count seed : ℕ) (blocks : List Block) (old mid new : Option Holding) → 1 ≤ count → file ≡ rows_file name → Told old mid (HasFilled name count seed blocks) → Told mid new (Damages file blocks) → Told old new (HasDamaged name count seed)
damaged_told name file count seed blocks old mid new some is first second = told_then old mid new _ _ (HasDamaged name count seed) first second (λ l m n has damages. damaged name file count seed blocks l m n some is has damages)

-- ---- the table

-- the definitions of the table, as they are read of its index file
abbrev read_again : (name : List ℕ) (count seed : ℕ) (m n : Holding) → HasDamaged name count seed m n → Defs
read_again name count seed m n has = defs_with defs has.index.index

reached_again : (r : List ℕ) (end : ℕ) → end ≤ 2 ^ 40 → is_addressable (with_raw defs r) end ≡ true
reached_again r end less = addressable_same defs r end ∙ reached end less

table_is : (name : List ℕ) (count seed : ℕ) (m n : Holding) → count ≤ 100000 → (has : HasDamaged name count seed m n) → IsTable (names_for name) (read_again name count seed m n has) (damaged_file count seed) n
unfolding table_in
table_is name count seed m n few has =
    let d = damaged_file count seed in
    let again = read_again name count seed m n has in
    let near : is_addressable again (length d) ≡ true = reached_again (defs_with defs has.index.index).raw (length d) (omega (arith, file_short count seed, few)) in
    let by : table_by (Ok (opening.table again d has.index.index)) ≡ Ok (again, d) = rw near refl in
    ap table_by (table_opened (index_file name) (rows_file name) has.index.index d again n has.index.there has.rows has.index.read) ∙ by

same_table : (t u : Table) → ◌≡◌ {A = Result Table RepairFault} (Ok t) (Ok u) → t ≡ u
same_table t u e = cc

can_repair : (name : List ℕ) (count seed now : ℕ) (m n : Holding) → count ≤ 100000 → now < 2 ^ 64 → HoldsBytes n → HasDamaged name count seed m n → IsRepairable defs (damaged_file count seed) now
can_repair name count seed now m n few time bytes has = record {
  defined = defs_are;
  header = header_bytes;
  bytes = subst AreBytes (ap (λ o. unwrap_or o []) has.rows) (bytes (rows_file name));
  reached = reached (length (damaged_file count seed)) (omega (arith, file_short count seed, few));
  time = time;
}

repaired_is : (name : List ℕ) (count seed now : ℕ) (said : Report) (l m n : Holding) → count ≤ 100000 → now < 2 ^ 64 → HoldsBytes m → HasDamaged name count seed l m → LeavesRepaired name false now said m n → Repaired name false now defs (damaged_file count seed) said n
repaired_is name count seed now said l m n few time bytes has left =
    let again = read_again name count seed l m has in
    let same = same_table (left.0, left.1) (again, damaged_file count seed) (sym left.2 ∙ table_is name count seed l m few has) in
    let made : Repaired name false now again (damaged_file count seed) said n = subst (λ (t : Table). Repaired name false now t.0 t.1 said n) same left.3 in
    repaired_again defs (defs_with defs has.index.index).raw has.index.again name false now (damaged_file count seed) said n (can_repair name count seed now l m few time bytes has) made

pub repaired_told : (name : List ℕ) (count seed now : ℕ) (said : Report) (old mid new : Option Holding) → count ≤ 100000 → now < 2 ^ 64 → IfTold mid HoldsBytes → Told old mid (HasDamaged name count seed) → Told mid new (LeavesRepaired name false now said) → Told old new (λ m n. Repaired name false now defs (damaged_file count seed) said n)
repaired_told name count seed now said old mid new few time bytes first second = record {
  told = λ l held.
      let one = first.told l held in
      let two = second.told one.0 one.1 in (two.0, two.1, repaired_is name count seed now said l one.0 two.0 few time (bytes one.0 one.1) one.2 two.2);
  untold = λ none. second.untold (first.untold none);
}

-- a repair of it is not refused, where files tell
not_refused : (name : List ℕ) (count seed : ℕ) (f : RepairFault) (l m : Holding) → count ≤ 100000 → HasDamaged name count seed l m → repair.Refuses (names_for name) f m → ⊥
not_refused name count seed f l m few has refused = let e : ◌≡◌ {A = Result Table RepairFault} (Ok (read_again name count seed l m has, damaged_file count seed)) (Err f) = sym (table_is name count seed l m few has) ∙ refused in cc

pub refused_untold : (name : List ℕ) (count seed : ℕ) (f : RepairFault) (g : MakeFault) (old mid new : Option Holding) → count ≤ 100000 → g ≡ of_repair f → Told old mid (HasDamaged name count seed) → repair.CutsOff f ⊎ IsRefused (names_for name) f mid new → CutsOff g ⊎ (old ≡ None)
refused_untold name count seed f g old mid new few is told (inl (inl file)) = inl (inl (is ∙ ap of_repair file))
refused_untold name count seed f g old mid new few is told (inl (inr memory)) = inl (inr (is ∙ ap of_repair memory))
refused_untold name count seed f g old mid new few is told (inr why) = inr (by old refl)
  where
    by : (o : Option Holding) → old ≡ o → o ≡ None
    by None same = refl
    by (Some m) same = let t = told.told m same in absurd (not_refused name count seed f m t.0 few t.2 (why.reason t.0 t.1))

-- a check finds nothing in it
sound_after : (name : List ℕ) (now : ℕ) (d : List ℕ) (said : Report) (n : Holding) → Repaired name false now defs d said n → Finds name [] n
unfolding findings_in
sound_after name now d said n made =
    let y = Rattle.myi_pair.specs.RecoveredBytes.new_index defs false d now in
    let e = Rattle.myi_pair.specs.RecoveredBytes.new_data defs false d in
    let again = record defs { raw = take (num_at 6 2 defs.raw) y } in
    ap findings_by (table_opened (index_file name) (rows_file name) y e again n made.holds.index made.holds.rows made.recovered.rebuilt.definitions)
    ∙ ap Ok (none_where_clean again e y made.recovered.rebuilt.definitions made.recovered.rebuilt.clean)

found_none : (found : List Finding) → ◌≡◌ {A = Result (List Finding) TableFault} (Ok found) (Ok []) → found ≡ []
found_none found e = cc

pub none_found : (name : List ℕ) (now : ℕ) (d : List ℕ) (said : Report) (found : List Finding) (n : Holding) → Repaired name false now defs d said n → Finds name found n → found ≡ []
none_found name now d said found n made finds = found_none found (sym finds ∙ sound_after name now d said n made)

pub check_untold : (name : List ℕ) (now : ℕ) (d : List ℕ) (said : Report) (f : TableFault) (g : MakeFault) (old mid : Option Holding) → g ≡ of_check f → Told old mid (λ m n. Repaired name false now defs d said n) → opening.IsCutOff f ⊎ IfTold mid (Refuses name f) → CutsOff g ⊎ (old ≡ None)
check_untold name now d said f g old mid is told (inl (inl file)) = inl (inl (is ∙ ap of_check file))
check_untold name now d said f g old mid is told (inl (inr memory)) = inl (inr (is ∙ ap of_check memory))
check_untold name now d said f g old mid is told (inr why) = inr (by old refl)
  where
    clash : (r : Result (List Finding) TableFault) → r ≡ Ok [] → r ≡ Err f → ⊥
    clash (Ok x) one two = cc
    clash (Err x) one two = cc

    by : (o : Option Holding) → old ≡ o → o ≡ None
    by None same = refl
    by (Some m) same = let t = told.told m same in absurd (clash _ (sound_after name now d said t.0 t.2) (why t.0 t.1))

pub leaves_told : (name : List ℕ) (count seed now : ℕ) (made : Made) (old mid new : Option Holding) → new ≡ mid → Told old mid (λ m n. Repaired name false now defs (damaged_file count seed) made.report n) → IfTold mid (Finds name made.found.items) → Told old new (LeavesMade name count seed now made)
leaves_told name count seed now made old mid new same told finds = record {
  told = λ m held.
      let t = told.told m held in
      (t.0, same ∙ t.1, record { repaired = t.2; found = none_found name now (damaged_file count seed) made.report made.found.items t.0 t.2 (finds t.0 t.1) });
  untold = λ none. same ∙ told.untold none;
}
