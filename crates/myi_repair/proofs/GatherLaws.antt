-- What the loops that gather rows keep.
use Rattle.std.proofs.Common.{◌≡◌, ℕ, ◌+◌, ◌-◌, ◌≤◌, Bool, true, false, List, [], ◌∷◌, ◌++◌, length, take, Option, Some, None, Result, Ok, unwrap_or, refl, sym, ap, subst, ◌∙◌, arith, append_assoc}
use Rattle.std.specs.Prelude.{map}
use Rattle.std.specs.List.{AllByRecursion, filter}
use Rattle.std.proofs.lemmas.List.{append-nil, take_all, length-map, length_push}
use Rattle.std.proofs.Math.Nat.{one-le-pow}
use Rattle.myi_base.specs.Holding.{Holding, HoldsBytes, IfTold, Told, Cuts, bytes_of, OthersStay}
use Rattle.myi_base.proofs.CallerLemmas.{told_back, told_more, told_then}
use Rattle.myi_base.specs.Numbers.{AreBytes}
use Rattle.myi_base.specs.Ranges.{Range}
use Rattle.myi_defs.specs.declared.types.Defs.{Defs}
use Rattle.myi_defs.specs.Sound.{IsSound}
use Rattle.myi_defs.specs.ReadDefs.{AreDefs}
use Rattle.myi_defs.proofs.CallerLemmas.{sound}
use Rattle.myi_pack.specs.Packed.{Values}
use Rattle.myi_pack.specs.Unpacking.{row_of}
use Rattle.myi_pack.specs.Spelling.{fits, spelling}
use Rattle.myi_chain.specs.declared.piece.Piece.{Piece}
use Rattle.myi_chain.specs.declared.piece.ScanFault.{ScanFault}
use Rattle.myi_chain.specs.Chain.{ranges_at}
use Rattle.myi_chain.specs.Readable.{Row, rows_of}
use Rattle.myi_chain.specs.Pieces.{piece_bytes}
use Rattle.myi_chain.specs.declared.piece.Wanted.TheVariants.{Rows}
use Rattle.myi_chain.specs.ScanModel.{fresh_scan, IsSameScan, as_item, as_items}
use Rattle.myi_chain.proofs.CallerLemmas.{row_first}
use Rattle.myi_keylist.specs.declared.pair.Pair.{Pair}
use Rattle.myi_keylist.specs.PairOrder.{sorted}
use Rattle.myi_keylist.specs.Classes.{picked}
use Rattle.myi_keylist.specs.Columns.{has_flag, pointed}
use Rattle.myi_keylist.specs.FirstBy.{first_by, repeats_in}
use Rattle.myi_data.specs.Stored.{SizedRow, stored_file, block_count, IsStorable}
use Rattle.myi_data.specs.Readable.{items_in, readable}
use Rattle.myi_data.specs.Scanning.{TableScan, items_ahead, rows_ahead, IsAsKnown, AfterTable}
use Rattle.myi_data.proofs.CallerLemmas.{fresh_ahead, fresh_known, ahead_same, known_same}
use Rattle.myi_rowkeys.specs.TableKeys.{row_keys, unique_keys}
use Rattle.myi_rowkeys.specs.RowLists.{with_pairs, number_pairs, sorted_unique, any_repeat, AreNumberLists}
use Rattle.myi_rowkeys.proofs.CallerLemmas.{numbers_next, sorted_numbers, none_repeats, length-number_pairs, length-sorted_unique}
use Rattle.myi_pair.specs.Clean.{values_of, sized_row}
use Rattle.myi_pair.specs.FirstRows.{first_rows}
use Rattle.myi_pair.specs.RebuiltBytes.{placed_from, key_lists}
use Rattle.myi_pair.specs.RecoveredBytes.{kept, repeat_count, new_data}
use Rattle.myi_pair.proofs.CallerLemmas.{first_by_keys, readable_storable}
use Rattle.myi_repair.specs.declared.next_row.NextRow.{NextRow}
use Rattle.myi_repair.specs.declared.new_rows.NewRows.{NewRows}
use Rattle.myi_repair.specs.declared.gathering.Gathered.{Gathered}
use Rattle.myi_repair.specs.Names.{FourNames}
use Rattle.myi_repair.specs.Opening.{IsTable, HasTable}
use Rattle.myi_repair.specs.Sized.{AreSizedPairs}
use Rattle.myi_repair.specs.Keeping.{IsPrepared, is_chosen, flags_by, chosen, pointers_at, AreStorable, AreStored, HasWritten, Adds, WritesIf}
use Rattle.myi_repair.specs.Gathering.{IsOfRows, Gathers, sized_ahead, Reads, HasTaken, TakesChosen, TakesAll, all_chosen}
use Rattle.myi_repair.proofs.FilesLaws.{resized_none, told_and}
use Rattle.myi_repair.proofs.StoredLaws.{all_parts}
use Rattle.myi_repair.proofs.PointerLaws.{chosen_all, flags_given, lists_of_all, lists_of_kept}
use Rattle.myi_repair.proofs.SizedLaws.{all_sized, kept_sized}
use Rattle.myi_repair.proofs.OpenLaws.{is_opened}

-- ---- one row

-- what a call answered, and what it leaves
pub answered_of : (h : Option Holding) (old new : TableScan) (r : Result (Option (ℕ × Piece)) ScanFault) (o : Option (ℕ × Piece)) (x : ℕ × Piece) → r ≡ Ok o → o ≡ Some x → AfterTable Rows h old (as_items r) new → AfterTable Rows h old (Ok (Some (as_item x))) new
answered_of h old new r o x ok some leaves = subst (λ o. AfterTable Rows h old (as_items (Ok o)) new) some (subst (λ r. AfterTable Rows h old (as_items r) new) ok leaves)

pub ended_of : (h : Option Holding) (old new : TableScan) (r : Result (Option (ℕ × Piece)) ScanFault) (o : Option (ℕ × Piece)) → r ≡ Ok o → o ≡ None → AfterTable Rows h old (as_items r) new → AfterTable Rows h old (Ok None) new
ended_of h old new r o ok none leaves = subst (λ o. AfterTable Rows h old (as_items (Ok o)) new) none (subst (λ r. AfterTable Rows h old (as_items r) new) ok leaves)

-- a file of another name keeps its bytes
pub same_name : (file name : List ℕ) (m n : Holding) → (name ≡ file → ⊥) → OthersStay file m n → bytes_of name n ≡ bytes_of name m
same_name file name m n apart keeps = ap (λ o. unwrap_or o []) (keeps name apart)

rows_same : (s : TableScan) (m n : Holding) → bytes_of s.name n ≡ bytes_of s.name m → rows_ahead s n ≡ rows_ahead s m
rows_same s m n same = ap rows_of (ahead_same s m n same)

pub sized_same : (s : TableScan) (m n : Holding) → bytes_of s.name n ≡ bytes_of s.name m → sized_ahead s n ≡ sized_ahead s m
sized_same s m n same = ap (map (sized_row s.test)) (rows_same s m n same)

-- a row that was answered was read
pub reads : (d : Defs) (h : Option Holding) (old new : TableScan) (found : ℕ × Piece) (view : Values) (bytes : List ℕ) (next : NextRow) → IsSound d → old.test ≡ d → AfterTable Rows h old (Ok (Some (as_item found))) new → bytes ≡ piece_bytes found.1 → row_of d bytes ≡ Some view → fits d view ≡ true
    → next.bytes.items ≡ spelling d view → next.sizes.items ≡ map (λ b. b.1) new.blocks → Reads d h old new next
reads d h old new found view bytes next s tested answer shows read fit spelled sizes =
    let row : SizedRow = record { values = view; sizes = map (λ b. b.1) new.blocks } in
    record {
      row = row;
      prepared = record { fit = fit; bytes = spelled; sizes = sizes };
      rises = answer.0.rises;
      within = answer.0.within;
      first = λ m told.
          let given = row_first (items_ahead old m) (items_ahead new m) found.0 found.1 old.blocks new.blocks (answer.0.told m told) in
          let r : Row = given.0 in
          let values : values_of d r ≡ view = ap (λ b. unwrap_or (row_of d b) []) (sym (shows ∙ given.2.1)) ∙ ap (λ o. unwrap_or o []) read in
          let same : sized_row old.test r ≡ row =
          ap (λ t. sized_row t r) tested ∙ ap (λ v. record { values = v; sizes = map (λ (a : Range). a.1 - a.0) r.blocks }) values
          ∙ ap (λ ss. record { values = view; sizes = ss }) (ap (map (λ (a : Range). a.1 - a.0)) (sym given.2.2) ∙ block_sizes new.blocks) in
          ap (map (sized_row old.test)) given.1
          ∙ ap (λ q. q ∷ map (sized_row old.test) (rows_ahead new m)) same ∙ ap (λ t. row ∷ map (sized_row t) (rows_ahead new m)) (sym answer.0.same.test);
    }
  where
    block_sizes : (blocks : List (ℕ × ℕ)) → map (λ (a : Range). a.1 - a.0) (ranges_at blocks) ≡ map (λ b. b.1) blocks
    block_sizes [] = refl
    block_sizes (b ∷ blocks) = let e : (b.0 + b.1) - b.0 ≡ b.1 = omega arith in ap (λ n. n ∷ map (λ (a : Range). a.1 - a.0) (ranges_at blocks)) e ∙ ap (λ ns. b.1 ∷ ns) (block_sizes blocks)

-- no row was left
pub ended : (h : Option Holding) (old new : TableScan) → AfterTable Rows h old (Ok None) new → IfTold h (λ m. sized_ahead old m ≡ [])
ended h old new answer m told = ap (map (sized_row old.test)) (answer.0.told m told).0

-- ---- the loops

-- So far: the rows that came and those that are left are all, and the file holds the chosen ones if all can be stored.
abbrev pub TakesTo : Defs → TableScan → TableScan → List ℕ → (ℕ → Bool) → List SizedRow → Holding → Holding → Type 0
TakesTo d start now file choose rows m n = (rows ++ sized_ahead now n ≡ sized_ahead start m) × (AreStorable d rows → n file ≡ Some (stored_file d (chosen choose rows)))

pub record Taking (d : Defs) (start now : TableScan) (file : List ℕ) (choose : ℕ → Bool) (rows : List SizedRow) (w : NewRows) (old new : Option Holding) : Type 0 where
  pub written : HasWritten d choose rows w
  pub few : length rows ≤ now.place
  pub inside : length rows ≤ start.end
  pub told : Told old new (TakesTo d start now file choose rows)

pub taking_none : (d : Defs) (start : TableScan) (file : List ℕ) (choose : ℕ → Bool) (w : NewRows) (old new : Option Holding) → (start.name ≡ file → ⊥) → HasWritten d choose [] w → Told old new (Cuts file 0) → Taking d start start file choose [] w old new
unfolding stored_file
taking_none d start file choose w old new apart none cut = record {
  written = none;
  few = omega arith;
  inside = omega arith;
  told = told_more _ _ _ _ cut (λ m n held cuts. (sized_same start m n (same_name file start.name m n apart cuts.others), λ _. cuts.here ∙ ap Some (resized_none (bytes_of file m))));
}

-- a row that was read came
pub taking_more : (d : Defs) (start now next : TableScan) (file : List ℕ) (choose : ℕ → Bool) (b : Bool) (rows : List SizedRow) (w v : NewRows) (row : NextRow) (old mid new : Option Holding) → (next.name ≡ file → ⊥) → next.end ≤ start.end → Taking d start now file choose rows w old mid → (read : Reads d mid now next row)
    → choose (length rows) ≡ b → ((r : SizedRow) → IsPrepared d r row → Adds d b r w v) → Told mid new (λ m n. (r : SizedRow) → IsPrepared d r row → WritesIf d file b r w m n) → Told mid new (OthersStay file) → Taking d start next file choose (rows ++ read.row ∷ []) v old new
taking_more d start now next file choose b rows w v row old mid new apart ends so_far read is adds writes others =
    let r : SizedRow = read.row in
    let step : Told mid new (λ k n. (sized_ahead now k ≡ r ∷ sized_ahead next n) × WritesIf d file b r w k n) =
    told_more _ _ _ _ (told_and mid new (λ m n. (q : SizedRow) → IsPrepared d q row → WritesIf d file b q w m n) (OthersStay file) writes others) (λ k n held both.
    (read.first k held ∙ ap (λ rs. r ∷ rs) (sym (sized_same next k n (same_name file next.name k n apart both.1))), both.0 r read.prepared)) in
    record {
      written = adds r read.prepared choose rows is so_far.written;
      few = omega (arith, so_far.few, read.rises, length_push rows r);
      inside = omega (arith, so_far.few, read.rises, read.within, ends, length_push rows r);
      told = told_then _ _ _ _ _ _ so_far.told step (λ m k n before came. (
        append_assoc rows (r ∷ []) (sized_ahead next n) ∙ ap (λ rs. rows ++ rs) (sym came.0) ∙ before.0,
        λ can.
            let before_can : AreStorable d rows = (all_parts (IsStorable d) rows r can).0 in
            came.1 choose rows is so_far.written before_can (before.1 before_can),
      ));
    }

-- no row was left
pub taken_all : (d : Defs) (start now : TableScan) (file : List ℕ) (choose : ℕ → Bool) (rows : List SizedRow) (w : NewRows) (old new : Option Holding) → Taking d start now file choose rows w old new → IfTold new (λ m. sized_ahead now m ≡ []) → HasTaken d start file choose rows w old new
taken_all d start now file choose rows w old new so_far none = record {
  written = so_far.written;
  few = so_far.inside;
  told = record {
    told = λ m held.
        let after = so_far.told.told m held in
        (after.0, after.1, (sym (append-nil rows) ∙ ap (λ rs. rows ++ rs) (sym (none after.0 after.1)) ∙ after.2.0, after.2.1));
    untold = so_far.told.untold;
  };
}

-- a pointer for each row
pub written_long : (d : Defs) (choose : ℕ → Bool) (rows : List SizedRow) (w : NewRows) → HasWritten d choose rows w → length w.pointers ≡ length rows
written_long d choose rows w has = has.came.long

pub keys_more : (d : Defs) (rows : List SizedRow) (row : SizedRow) (n : ℕ) (old new : List (List Pair)) → n ≡ length rows → old ≡ number_pairs d rows → new ≡ with_pairs n (row_keys d row.values) old → new ≡ number_pairs d (rows ++ row ∷ [])
keys_more d rows row n old new count is step = step ∙ ap (with_pairs n (row_keys d row.values)) is ∙ ap (λ m. with_pairs m (row_keys d row.values) (number_pairs d rows)) count ∙ numbers_next d rows row

pub same_then : (a b c : TableScan) → IsSameScan a b → IsSameScan b c → IsSameScan a c
same_then a b c p q = record { name = q.name ∙ p.name; test = q.test ∙ p.test; extend = q.extend ∙ p.extend; end = omega (arith, p.end, q.end) }

-- the file that is scanned is as the scan knows it, also once the other was written
pub stays_known : (file : List ℕ) (h mid after : Option Holding) (old new : TableScan) → mid ≡ h → (old.name ≡ file → ⊥) → IsSameScan old new → ((m : Holding) → h ≡ Some m → IsAsKnown new m) → Told mid after (OthersStay file) → (n : Holding) → after ≡ Some n → IsAsKnown new n
stays_known file h mid after old new same apart is current others n now =
    let t = told_back mid after (OthersStay file) n others now in
    known_same new t.0 n (same_name file new.name t.0 n (λ e. apart (sym is.name ∙ e)) t.2) (current t.0 (sym same ∙ t.1))

-- ---- what was gathered of a table

pub fresh_rows : (name d : List ℕ) (defs : Defs) (extend : Bool) (m : Holding) → m name ≡ Some d → rows_ahead (fresh_scan name defs extend (length d)) m ≡ readable defs extend d
unfolding readable
fresh_rows name d defs extend m is =
    let file : bytes_of name m ≡ d = ap (λ o. unwrap_or o []) is in
    ap rows_of (fresh_ahead name defs extend (length d) m) ∙ ap (λ b. rows_of (items_in defs extend (take (length d) b))) file ∙ ap (λ b. rows_of (items_in defs extend b)) (take_all (length d) d (omega arith))

-- a scan of the whole data file that has read nothing goes by any file of that length
pub begins_known : (t : FourNames) (defs : Defs) (extend : Bool) (end : ℕ) (scan : TableScan) (m : Holding) → scan ≡ fresh_scan t.rows defs extend end → HasTable t defs end m → IsAsKnown scan m
begins_known t defs extend end scan m is table =
    let o = is_opened t defs table.0 m table.1 in
    let long : end ≡ length (bytes_of t.rows m) = table.2 ∙ ap (λ (b : Option (List ℕ)). length (unwrap_or b [])) (sym o.rows) in
    subst (λ (s : TableScan). IsAsKnown s m) (sym is) (fresh_known t.rows defs extend end m (λ _. omega (arith, long)))

-- so it does once another file was written
pub still_known : (t : FourNames) (defs : Defs) (extend : Bool) (end : ℕ) (scan : TableScan) (file : List ℕ) (before after : Option Holding) → scan ≡ fresh_scan t.rows defs extend end → file ≡ t.new_rows → (t.rows ≡ t.new_rows → ⊥) → IfTold before (HasTable t defs end) → Told before after (OthersStay file) → IfTold after (IsAsKnown scan)
still_known t defs extend end scan file before after is named apart tabled others n now =
    let t0 = told_back before after (OthersStay file) n others now in
    known_same scan t0.0 n (same_name file scan.name t0.0 n (λ e. apart (sym (ap (λ s. s.name) is) ∙ e ∙ named)) t0.2) (begins_known t defs extend end scan t0.0 is (tabled t0.0 t0.1))

-- the rows that came are those of the table
pub came_all : (t : FourNames) (defs : Defs) (extend : Bool) (d : List ℕ) (end : ℕ) (scan : TableScan) (rows : List SizedRow) (m : Holding) → scan ≡ fresh_scan t.rows defs extend end → end ≡ length d → IsTable t defs d m → rows ≡ sized_ahead scan m → rows ≡ map (sized_row defs) (readable defs extend d)
came_all t defs extend d end scan rows m is long table came =
    came ∙ ap (λ s. sized_ahead s m) (is ∙ ap (fresh_scan t.rows defs extend) long) ∙ ap (map (sized_row defs)) (fresh_rows t.rows d defs extend m (is_opened t defs d m table).rows)

all_mapped : {X Y : Type 0} (P : Y → Type 0) (f : X → Y) (xs : List X) → AllByRecursion (λ x. P (f x)) xs → AllByRecursion P (map f xs)
all_mapped P f [] all = tt
all_mapped P f (x ∷ xs) all = (all.0, all_mapped P f xs all.1)

-- the rows of the table can be stored
pub rows_storable : (t : FourNames) (defs : Defs) (extend : Bool) (d : List ℕ) (rows : List SizedRow) (m : Holding) → AreDefs defs → IsTable t defs d m → HoldsBytes m → rows ≡ map (sized_row defs) (readable defs extend d) → AreStorable defs rows
rows_storable t defs extend d rows m defined table are came =
    let o = is_opened t defs d m table in
    let file_is : bytes_of t.rows m ≡ d = ap (λ b. unwrap_or b []) o.rows in
    let bytes : AreBytes d = subst AreBytes file_is (are t.rows) in
    subst (AreStorable defs) (sym came) (all_mapped (IsStorable defs) (sized_row defs) (readable defs extend d) (readable_storable defs extend d defined bytes))

-- the chosen rows are the first ones of all: this was gathered
pub gathers : (t : FourNames) (defs : Defs) (extend : Bool) (d : List ℕ) (end : ℕ) (choose : ℕ → Bool) (rows : List SizedRow) (w : NewRows) (pairs : List (List Pair)) (g : Gathered) (m n : Holding) → end ≡ length d → IsTable t defs d m → HoldsBytes m → HasWritten defs choose rows w → AreStorable defs rows
    → rows ≡ map (sized_row defs) (readable defs extend d) → chosen choose rows ≡ first_rows defs rows → n t.new_rows ≡ Some (stored_file defs (chosen choose rows)) → map sorted pairs ≡ key_lists defs (placed_from defs 0 (chosen choose rows))
    → g ≡ record { defs = defs; report = record { kept = w.kept; repeats = length w.pointers - w.kept; old_length = end; new_length = w.end }; split = w.split; pairs = pairs } → Gathers t extend g m n
unfolding kept new_data
gathers t defs extend d end choose rows w pairs g m n long table are has can came first here listed made =
    let was : AreStored defs choose rows w = has.stored can in
    let o = is_opened t defs d m table in
    let file_is : bytes_of t.rows m ≡ d = ap (λ b. unwrap_or b []) o.rows in
    let keep : chosen choose rows ≡ kept defs extend d = first ∙ ap (first_rows defs) came in
    let count : length w.pointers ≡ length (readable defs extend d) = written_long defs choose rows w has ∙ ap (λ (rs : List SizedRow). length rs) came ∙ length-map (readable defs extend d) (sized_row defs) in
    let few : w.kept ≡ length (kept defs extend d) = was.kept ∙ ap (λ (rs : List SizedRow). length rs) keep in
    let repeats : length w.pointers - w.kept ≡ repeat_count defs extend d = omega (arith, count, few) in
    let size : w.end ≡ length (stored_file defs (kept defs extend d)) = was.end ∙ ap (λ rs. length (stored_file defs rs)) keep in
    subst (λ (x : Gathered). Gathers t extend x m n) (sym made) (
      d,
      table,
      record {
        bytes = subst AreBytes file_is (are t.rows);
        written = here ∙ ap (λ rs. Some (stored_file defs rs)) keep;
        report = ap (λ x. record { kept = x; repeats = length w.pointers - w.kept; old_length = end; new_length = w.end }) few
            ∙ ap (λ x. record { kept = length (kept defs extend d); repeats = x; old_length = end; new_length = w.end }) repeats
            ∙ ap (λ x. record { kept = length (kept defs extend d); repeats = repeat_count defs extend d; old_length = x; new_length = w.end }) long
            ∙ ap (λ x. record { kept = length (kept defs extend d); repeats = repeat_count defs extend d; old_length = length d; new_length = x }) size;
        split = was.split ∙ ap (block_count defs) keep;
        pairs = listed ∙ ap (λ rs. key_lists defs (placed_from defs 0 rs)) keep;
      },
    )

-- ---- the steps together

-- lists whose unique ones were sorted
pub lists_sorted : (d : Defs) (rows : List SizedRow) (lists sorts : List (List Pair)) → lists ≡ number_pairs d rows → sorts ≡ sorted_unique d.keys lists → AreNumberLists d rows sorts
lists_sorted d rows lists sorts is step = subst (AreNumberLists d rows) (sym (step ∙ ap (sorted_unique d.keys) is)) (sorted_numbers d rows)

pub length-sorts : (d : Defs) (rows : List SizedRow) (lists sorts : List (List Pair)) → lists ≡ number_pairs d rows → sorts ≡ sorted_unique d.keys lists → length sorts ≡ length d.keys
length-sorts d rows lists sorts is step = ap (λ (ls : List (List Pair)). length ls) step ∙ length-sorted_unique d.keys lists ∙ ap (λ (ls : List (List Pair)). length ls) is ∙ length-number_pairs d rows

abbrev pub gathered_of : Defs → ℕ → NewRows → List (List Pair) → Gathered
gathered_of defs end w pairs = record { defs = defs; report = record { kept = w.kept; repeats = length w.pointers - w.kept; old_length = end; new_length = w.end }; split = w.split; pairs = pairs }

-- no row repeated another
pub all_gathered : (t : FourNames) (defs : Defs) (extend : Bool) (end : ℕ) (scan : TableScan) (file : List ℕ) (w : NewRows) (lists sorts : List (List Pair)) (g : Gathered) (before after : Option Holding) → AreDefs defs → scan ≡ fresh_scan t.rows defs extend end → file ≡ t.new_rows → IfTold before (HasTable t defs end) → IfTold before HoldsBytes
    → TakesAll defs scan file w lists before after → sorts ≡ sorted_unique defs.keys lists → any_repeat defs.keys sorts ≡ false → g ≡ gathered_of defs end w (map (map (pointed w.pointers)) sorts) → Told before after (Gathers t extend g)
all_gathered t defs extend end scan file w lists sorts g before after defined is named tabled bytes took step none made =
    let s : IsSound defs = sound defs defined in
    let rows = took.0 in
    let has = took.1 in
    let are : AreNumberLists defs rows sorts = lists_sorted defs rows lists sorts took.2 step in
    let all : chosen all_chosen rows ≡ rows = chosen_all rows in
    told_more _ _ _ _ has.told (λ m n held both.
    let table = tabled m held in
    let came : rows ≡ map (sized_row defs) (readable defs extend table.0) = came_all t defs extend table.0 end scan rows m is table.2 table.1 both.0 in
    let can : AreStorable defs rows = rows_storable t defs extend table.0 rows m defined table.1 (bytes m held) came in
    gathers t defs extend table.0 end all_chosen rows w (map (map (pointed w.pointers)) sorts) g m n table.2 table.1 (bytes m held) has.written can came
    (all ∙ sym (first_by_keys defs rows ∙ none_repeats defs rows sorts are none))
    (subst (λ f. n f ≡ Some (stored_file defs (chosen all_chosen rows))) named (both.1 can))
    (lists_of_all defs rows sorts w.pointers s can are (has.written.stored can).pointers ∙ ap (λ rs. key_lists defs (placed_from defs 0 rs)) (sym all))
    made)

-- what was gathered of rows that were all written
pub of_all_rows : (defs : Defs) (end : ℕ) (rows : List SizedRow) (w : NewRows) (lists sorts : List (List Pair)) (g : Gathered) → IsSound defs → HasWritten defs all_chosen rows w → lists ≡ number_pairs defs rows → AreStorable defs rows
    → sorts ≡ sorted_unique defs.keys lists → g ≡ gathered_of defs end w (map (map (pointed w.pointers)) sorts) → IsOfRows rows g × (g.report.repeats ≡ 0)
of_all_rows defs end rows w lists sorts g s has is can step made =
    let was : AreStored defs all_chosen rows w = has.stored can in
    let all : chosen all_chosen rows ≡ rows = chosen_all rows in
    let kept : w.kept ≡ length rows = was.kept ∙ ap (λ (rs : List SizedRow). length rs) all in
    let none : length w.pointers - w.kept ≡ 0 = omega (arith, written_long defs all_chosen rows w has, kept) in
    subst (λ (x : Gathered). IsOfRows rows x × (x.report.repeats ≡ 0)) (sym made) (
      record {
        kept = kept;
        split = was.split ∙ ap (block_count defs) all;
        long = was.end ∙ ap (λ rs. length (stored_file defs rs)) all;
        pairs = lists_of_all defs rows sorts w.pointers s can (lists_sorted defs rows lists sorts is step) was.pointers;
      },
      none,
    )

-- what is known of the files once all rows were written
abbrev pub Known : FourNames → Defs → ℕ → TableScan → List ℕ → List SizedRow → Holding → Holding → Type 0
Known t defs end scan file rows m n = HasTable t defs end m × HoldsBytes m × (rows ≡ sized_ahead scan m) × OthersStay file m n

-- the first rows were written again
pub kept_gathered : (t : FourNames) (defs : Defs) (extend : Bool) (end : ℕ) (scan again : TableScan) (file : List ℕ) (flags : List Bool) (w v : NewRows) (lists sorts left : List (List Pair)) (g : Gathered) (before mid after : Option Holding) → AreDefs defs → (t.rows ≡ t.new_rows → ⊥)
    → scan ≡ fresh_scan t.rows defs extend end → again ≡ fresh_scan t.rows defs extend end → file ≡ t.new_rows → IfTold before (HasTable t defs end) → IfTold before HoldsBytes
    → TakesAll defs scan file w lists before mid → Told before mid (OthersStay file) → sorts ≡ sorted_unique defs.keys lists → length flags ≡ length w.pointers
    → ((all : List SizedRow) → length all ≡ length w.pointers → AreNumberLists defs all sorts → picked flags all ≡ first_by (repeats_in (unique_keys defs)) all)
    → TakesChosen defs again file (is_chosen flags) v mid after → left ≡ map (filter (has_flag flags)) sorts → g ≡ gathered_of defs end v (map (map (pointed v.pointers)) left) → Told before after (Gathers t extend g)
kept_gathered t defs extend end scan again file flags w v lists sorts left g before mid after defined apart is same named tabled bytes took others step long keeps second leaves made =
    let s : IsSound defs = sound defs defined in
    let rows = took.0 in
    let came = second.0 in
    let known : Told before mid (Known t defs end scan file rows) =
    told_more _ _ _ _ (told_and before mid _ _ took.1.told others) (λ m n held both. (tabled m held, bytes m held, both.0.0, both.1)) in
    told_then _ _ _ _ _ _ known second.1.told (λ m n o first next.
    let table = first.0 in
    let here : came ≡ sized_ahead again m = next.0 ∙ sized_same again m n (same_name file again.name m n (λ e. apart (sym (ap (λ a. a.name) same) ∙ e ∙ named)) first.3) in
    let all : came ≡ map (sized_row defs) (readable defs extend table.0) = came_all t defs extend table.0 end again came m same table.2 table.1 here in
    let one : rows ≡ came = came_all t defs extend table.0 end scan rows m is table.2 table.1 first.2 ∙ sym all in
    let are : AreNumberLists defs came sorts = subst (λ rs. AreNumberLists defs rs sorts) one (lists_sorted defs rows lists sorts took.2 step) in
    let many : length w.pointers ≡ length came = written_long defs all_chosen rows w took.1.written ∙ ap (λ (rs : List SizedRow). length rs) one in
    let set : flags_by (is_chosen flags) (length came) ≡ flags = flags_given flags (length came) (long ∙ many) in
    let can : AreStorable defs came = rows_storable t defs extend table.0 came m defined table.1 first.1 all in
    let picks : chosen (is_chosen flags) came ≡ picked flags came = ap (λ fs. picked fs came) set in
    gathers t defs extend table.0 end (is_chosen flags) came v (map (map (pointed v.pointers)) left) g m o table.2 table.1 first.1 second.1.written can all
    (picks ∙ keeps came (sym many) are ∙ sym (first_by_keys defs came))
    (subst (λ f. o f ≡ Some (stored_file defs (chosen (is_chosen flags) came))) named (next.1 can))
    (ap (λ ls. map sorted (map (map (pointed v.pointers)) ls)) leaves
    ∙ lists_of_kept defs came sorts flags v.pointers s can are (long ∙ many) ((second.1.written.stored can).pointers ∙ ap (λ fs. pointers_at defs 0 fs came) set)
    ∙ ap (λ rs. key_lists defs (placed_from defs 0 rs)) (sym picks))
    made)

-- ---- what was gathered can be laid, also where nothing is told

pub all_laid : (defs : Defs) (end : ℕ) (w : NewRows) (lists sorts : List (List Pair)) (scan : TableScan) (file : List ℕ) (g : Gathered) (before after : Option Holding) → IsSound defs → TakesAll defs scan file w lists before after → sorts ≡ sorted_unique defs.keys lists
    → g ≡ gathered_of defs end w (map (map (pointed w.pointers)) sorts) → AreSizedPairs g.defs g.pairs
all_laid defs end w lists sorts scan file g before after s took step made =
    subst (λ (x : Gathered). AreSizedPairs x.defs x.pairs) (sym made)
    (all_sized defs took.0 sorts w.pointers s (one-le-pow defs.rec_ref 256 (omega arith)) took.1.written.came.fit (lists_sorted defs took.0 lists sorts took.2 step) took.1.written.came.near)

pub kept_laid : (defs : Defs) (end : ℕ) (w v : NewRows) (lists sorts left : List (List Pair)) (scan again : TableScan) (file : List ℕ) (flags : List Bool) (choose : ℕ → Bool) (g : Gathered) (before mid other after : Option Holding) → IsSound defs → TakesAll defs scan file w lists before mid → sorts ≡ sorted_unique defs.keys lists
    → TakesChosen defs again file choose v other after → left ≡ map (filter (has_flag flags)) sorts → g ≡ gathered_of defs end v (map (map (pointed v.pointers)) left) → AreSizedPairs g.defs g.pairs
kept_laid defs end w v lists sorts left scan again file flags choose g before mid other after s took step second leaves made =
    subst (λ (x : Gathered). AreSizedPairs x.defs x.pairs) (sym made)
    (subst (λ ls. AreSizedPairs defs (map (map (pointed v.pointers)) ls)) (sym leaves)
    (kept_sized defs took.0 sorts v.pointers s (one-le-pow defs.rec_ref 256 (omega arith)) took.1.written.came.fit (lists_sorted defs took.0 lists sorts took.2 step) second.1.written.came.near flags))
