-- What the rows of a table come to, one after the other, and what is gathered of them.
use Rattle.std.proofs.Common.{◌≡◌, ◌≢◌, ℕ, ◌+◌, ◌-◌, ◌^◌, ◌<◌, ◌≤◌, Bool, true, false, List, [], ◌∷◌, ◌++◌, length, map, Option, Some, unwrap_or, refl, sym, ap, subst, ◌∙◌, arith, append_assoc}
use Rattle.std.proofs.lemmas.List.{length-map}
use Rattle.std.proofs.lemmas.List.{length_push}
use Rattle.myi_base.specs.Holding.{Holding, HoldsBytes, IfTold, Told, Cuts, bytes_of, resized, OthersStay}
use Rattle.myi_base.specs.Numbers.{AreBytes}
use Rattle.myi_base.proofs.CallerLemmas.{told_back}
use Rattle.myi_defs.specs.declared.types.Defs.{Defs}
use Rattle.myi_defs.specs.Addressable.{is_addressable}
use Rattle.myi_defs.specs.ReadDefs.{AreDefs}
use Rattle.myi_defs.specs.Sound.{IsSound}
use Rattle.myi_header.specs.Layout.{first_page_of}
use Rattle.myi_keycache.specs.Kept.{AllWritten}
use Rattle.myi_keycache.specs.Caching.{pages_of}
use Rattle.myi_btree.specs.declared.place.Place.{Place}
use Rattle.myi_chain.specs.ScanModel.{fresh_scan}
use Rattle.myi_data.specs.Readable.{readable}
use Rattle.myi_data.specs.Scanning.{TableScan, IsAsKnown}
use Rattle.myi_data.specs.Stored.{SizedRow, stored_file, block_count, IsStorable}
use Rattle.myi_data.proofs.CallerLemmas.{known_same}
use Rattle.myi_keytrees.specs.Trees.{kinds}
use Rattle.myi_keytrees.specs.Standing.{StillStand}
use Rattle.myi_keytrees.specs.InFile.{bytes_of_free}
use Rattle.myi_pair.specs.FirstRows.{key_numbers, first_rows}
use Rattle.myi_pair.specs.Clean.{sized_row}
use Rattle.myi_pair.specs.Trees.{place_of}
use Rattle.myi_pair.specs.RebuiltBytes.{placed_from, key_lists}
use Rattle.myi_pair.specs.RecoveredBytes.{kept, repeat_count, new_data}
use Rattle.myi_rowtrees.specs.Places.{places_of}
use Rattle.myi_repair.specs.declared.next_row.NextRow.{NextRow}
use Rattle.myi_repair.specs.declared.report.Report.{Report}
use Rattle.myi_repair.specs.declared.new_rows.NewRows.{NewRows}
use Rattle.myi_repair.specs.Names.{FourNames}
use Rattle.myi_repair.specs.Opening.{HasTable}
use Rattle.myi_repair.specs.Keeping.{AreStorable, HasWritten}
use Rattle.myi_repair.specs.Gathering.{report_of, sized_ahead, Reads, all_chosen}
use Rattle.myi_repair.proofs.CallerLemmas.{all_more, all_parts, chosen_all, short_enough, same_name, sized_same, begins_known, came_all, rows_storable, is_opened}
use Rattle.myi_saferepair.specs.declared.new_files.NewFiles.{NewFiles}
use Rattle.myi_saferepair.specs.declared.filling.Filled.{Filled}
use Rattle.myi_saferepair.specs.Filling.{free_from, TreesHold, HoldsRows, HoldsSome, IsFresh, WritesBoth, with_row, is_first, Takes, StaysWritten, Took, HasTrees, FillsWith, Fills}
use Rattle.myi_saferepair.proofs.RowLaws.{first_more, none_first, first_storable, front_all, count_kept}
use Rattle.myi_saferepair.proofs.TreeLaws.{placed_roots, trees_written}
use Rattle.myi_saferepair.proofs.TakeLaws.{same_told, end_is}

-- ---- the loop

-- so far these rows were written; those that came and those that are left are all
pub record FilledTo (d : Defs) (start now : TableScan) (file : List ℕ) (repeats : ℕ) (rows : List SizedRow) (new : NewFiles) (m n : Holding) : Type 0 where
  pub came : List SizedRow
  pub all : came ++ sized_ahead now n ≡ sized_ahead start m
  pub first : rows ≡ first_rows d came
  pub count : length rows + repeats ≡ length came
  pub few : length came ≤ now.place
  pub inside : length came ≤ start.end
  pub holds : HoldsRows d file rows new.trees n

pub record Filling (d : Defs) (start now : TableScan) (file : List ℕ) (repeats : ℕ) (new : NewFiles) (old told : Option Holding) : Type 0 where
  pub rows : List SizedRow
  pub written : HasWritten d all_chosen rows new.rows
  pub low : repeats ≤ now.place
  pub filled : Told old told (FilledTo d start now file repeats rows new)

pub filling_none : (d : Defs) (start : TableScan) (file index : List ℕ) (new : NewFiles) (old told : Option Holding) → start.name ≢ file → new.trees.cache.name ≢ file → IsFresh d index new → Told old told (Cuts file 0) → Filling d start start file 0 new old told
unfolding stored_file
filling_none d start file index new old told apart other fresh cut = record {
  rows = [];
  written = fresh.written;
  low = omega arith;
  filled = record {
    told = λ m held.
        let t = cut.told m held in (
          t.0,
          t.1,
          record {
            came = [];
            all = sized_same start m t.0 (same_name file start.name m t.0 apart t.2.others);
            first = sym (none_first d);
            count = omega arith;
            few = omega arith;
            inside = omega arith;
            holds = record { stored = t.2.here ∙ ap Some (none_left (bytes_of file m)); hold = fresh.stand t.0 };
          },
        );
    untold = cut.untold;
  };
}
  where
    none_left : (xs : List ℕ) → resized 0 xs ≡ []
    none_left xs = let e : 0 - length xs ≡ 0 = omega arith in rw e refl

-- a row that was read came
pub filling_more : (d : Defs) (start now next : TableScan) (file index : List ℕ) (repeats more : ℕ) (keeps : Bool) (row : NextRow) (old_new new : NewFiles) (old mid after : Option Holding) → IfTold old (λ m. AreStorable d (sized_ahead start m)) → next.name ≢ file → next.name ≢ index → next.end ≤ start.end
    → Filling d start now file repeats old_new old mid → (read : Reads d mid now next row) → StaysWritten d row keeps old_new new → Told mid after (Takes d file row keeps old_new new) → Told mid after (WritesBoth file index)
    → (keeps ≡ true → more ≡ repeats) → (keeps ≡ false → more ≡ repeats + 1) → Filling d start next file more new old after
filling_more d start now next file index repeats more keeps row old_new new old mid after storable apart other ends so_far read stays takes others same less = record {
  rows = with_row keeps so_far.rows read.row;
  written = stays read.row so_far.rows read.prepared so_far.written;
  low = lower keeps same less;
  filled = record {
    told = λ m held.
        let t = so_far.filled.told m held in
        let u = takes.told t.0 t.1 in
        let v = others.told t.0 t.1 in
        let v_is : v.0 ≡ u.0 = same_told after v.0 u.0 v.1 u.1 in
        (u.0, u.1, step m t.0 u.0 t.2 (read.first t.0 t.1) (storable m held) u.2 (subst (λ (n : Holding). WritesBoth file index t.0 n) v_is v.2));
    untold = λ none. takes.untold (so_far.filled.untold none);
  };
}
  where
    lower : (b : Bool) → (b ≡ true → more ≡ repeats) → (b ≡ false → more ≡ repeats + 1) → more ≤ next.place
    lower true one two = omega (arith, one refl, so_far.low, read.rises)
    lower false one two = omega (arith, two refl, so_far.low, read.rises)

    step : (m n k : Holding) → FilledTo d start now file repeats so_far.rows old_new m n → sized_ahead now n ≡ read.row ∷ sized_ahead next n → AreStorable d (sized_ahead start m) → Takes d file row keeps old_new new n k → WritesBoth file index n k
        → FilledTo d start next file more (with_row keeps so_far.rows read.row) new m k
    step m n k f first all_can take keep =
        let whole : f.came ++ (read.row ∷ sized_ahead next n) ≡ sized_ahead start m = ap (λ (rs : List SizedRow). f.came ++ rs) (sym first) ∙ f.all in
        let can : AreStorable d (f.came ++ (read.row ∷ sized_ahead next n)) = subst (AreStorable d) (sym whole) all_can in
        let can_came : AreStorable d (f.came ++ read.row ∷ []) = front_all (IsStorable d) (f.came ++ read.row ∷ []) (sized_ahead next n) (subst (AreStorable d) (sym (append_assoc f.came (read.row ∷ []) (sized_ahead next n))) can) in
        let parts = all_parts (IsStorable d) f.came read.row can_came in
        let can_rows : AreStorable d so_far.rows = subst (AreStorable d) (sym f.first) (first_storable d f.came parts.0) in
        let done = take read.row so_far.rows read.prepared so_far.written (all_more (IsStorable d) so_far.rows read.row can_rows parts.1) f.holds in
        let bytes : bytes_of next.name k ≡ bytes_of next.name n = ap (λ (o : Option (List ℕ)). unwrap_or o []) (keep next.name apart other) in
        record {
          came = f.came ++ read.row ∷ [];
          all = append_assoc f.came (read.row ∷ []) (sized_ahead next k) ∙ ap (λ (rs : List SizedRow). f.came ++ (read.row ∷ rs)) (sized_same next n k bytes) ∙ whole;
          first = ap (λ (b : Bool). with_row b so_far.rows read.row) done.0 ∙ ap (λ (rs : List SizedRow). with_row (is_first d rs read.row) rs read.row) f.first ∙ sym (first_more d f.came read.row);
          count = count_kept keeps so_far.rows f.came read.row repeats more f.count same less;
          few = omega (arith, f.few, read.rises, length_push f.came read.row);
          inside = omega (arith, f.few, read.rises, read.within, ends, length_push f.came read.row);
          holds = done.1;
        }

-- what takes need of the rows so far
pub holds_some : (d : Defs) (start now : TableScan) (file : List ℕ) (repeats : ℕ) (new : NewFiles) (old told : Option Holding) → Filling d start now file repeats new old told → IfTold told (HoldsSome d new)
holds_some d start now file repeats new old told f n held =
    let t = told_back old told (FilledTo d start now file repeats f.rows new) n f.filled held in
    (f.rows, t.2.holds.hold)

-- the file that is scanned is as the scan knows it, also once the others were written
pub known_still : (file index : List ℕ) (mid after : Option Holding) (now : TableScan) → now.name ≢ file → now.name ≢ index → IfTold mid (IsAsKnown now) → Told mid after (WritesBoth file index) → IfTold after (IsAsKnown now)
known_still file index mid after now apart other current others n held =
    let t = told_back mid after (WritesBoth file index) n others held in
    known_same now t.0 n (ap (λ (o : Option (List ℕ)). unwrap_or o []) (t.2 now.name apart other)) (current t.0 t.1)

pub writes_then : (file index : List ℕ) (told then next : Option Holding) → Told told then (WritesBoth file index) → Told then next (WritesBoth file index) → Told told next (WritesBoth file index)
writes_then file index told then next one two = record {
  told = λ m held.
      let t = one.told m held in
      let u = two.told t.0 t.1 in
      (u.0, u.1, λ q a b. u.2 q a b ∙ t.2 q a b);
  untold = λ none. two.untold (one.untold none);
}

pub writes_file : (file index : List ℕ) (told next : Option Holding) → Told told next (OthersStay file) → Told told next (WritesBoth file index)
writes_file file index told next stays = record { told = λ m held. let t = stays.told m held in (t.0, t.1, λ q a b. t.2 q a); untold = stays.untold }

-- ---- the table

-- the rows that a scan of the whole data file has left can be stored
pub ahead_storable : (t : FourNames) (defs : Defs) (extend : Bool) (end : ℕ) (scan : TableScan) (index : List ℕ) (before after : Option Holding) → AreDefs defs → scan ≡ fresh_scan t.rows defs extend end → t.rows ≢ index → IfTold before (HasTable t defs end) → IfTold before HoldsBytes → Told before after (OthersStay index)
    → IfTold after (λ m. AreStorable defs (sized_ahead scan m))
ahead_storable t defs extend end scan index before after defined is apart tabled bytes others n held =
    let u = told_back before after (OthersStay index) n others held in
    let table = tabled u.0 u.1 in
    let m = u.0 in
    let same : sized_ahead scan n ≡ sized_ahead scan m = sized_same scan m n (same_name index scan.name m n (λ e. apart (sym (ap (λ (s : TableScan). s.name) is) ∙ e)) u.2) in
    let came = came_all t defs extend table.0 end scan (sized_ahead scan m) m is table.2 table.1 refl in
    subst (AreStorable defs) (sym same) (rows_storable t defs extend table.0 (sized_ahead scan m) m defined table.1 (bytes m u.1) came)

-- a scan that has read nothing goes by the data file, also once another file was written
pub begins_still : (t : FourNames) (defs : Defs) (extend : Bool) (end : ℕ) (scan : TableScan) (index : List ℕ) (before after : Option Holding) → scan ≡ fresh_scan t.rows defs extend end → t.rows ≢ index → IfTold before (HasTable t defs end) → Told before after (OthersStay index) → IfTold after (IsAsKnown scan)
begins_still t defs extend end scan index before after is apart tabled others n held =
    let u = told_back before after (OthersStay index) n others held in
    known_same scan u.0 n (same_name index scan.name u.0 n (λ e. apart (sym (ap (λ (s : TableScan). s.name) is) ∙ e)) u.2) (begins_known t defs extend end scan u.0 is (tabled u.0 u.1))

kept_is : (d : Defs) (extend : Bool) (b : List ℕ) (came : List SizedRow) → came ≡ map (sized_row d) (readable d extend b) → first_rows d came ≡ kept d extend b
unfolding kept
kept_is d extend b came is = ap (first_rows d) is

data_is : (d : Defs) (extend : Bool) (b : List ℕ) → stored_file d (kept d extend b) ≡ new_data d extend b
unfolding new_data
data_is d extend b = refl

abbrev pub filled_of : NewFiles → ℕ → ℕ → Report
filled_of new repeats end = record { kept = new.rows.kept; repeats = repeats; old_length = end; new_length = new.rows.end }

-- the numbers of the rows that were written
pub record Counted (d : Defs) (extend : Bool) (b : List ℕ) (new : NewFiles) (repeats end : ℕ) : Type 0 where
  pub report : filled_of new repeats end ≡ report_of d extend b
  pub split : new.rows.split ≡ block_count d (kept d extend b)
  pub few_rows : new.rows.kept < 256 ^ 8
  pub few_blocks : new.rows.split < 256 ^ 8
  pub short : new.rows.end < 256 ^ 8

counts_are : (d : Defs) (extend : Bool) (b : List ℕ) (scan : TableScan) (file : List ℕ) (new : NewFiles) (repeats end : ℕ) (m n : Holding) → is_addressable d end ≡ true → end ≡ length b → scan.end ≡ end → (tk : Took d scan file repeats new m n) → tk.came ≡ map (sized_row d) (readable d extend b) → AreStorable d (first_rows d tk.came) → Counted d extend b new repeats end
counts_are d extend b scan file new repeats end m n reached long ends tk came can =
    let rows = first_rows d tk.came in
    let keep : rows ≡ kept d extend b = kept_is d extend b tk.came came in
    let was = tk.written.stored can in
    let kept_is_long : new.rows.kept ≡ length (kept d extend b) = was.kept ∙ ap (λ (rs : List SizedRow). length rs) (chosen_all rows ∙ keep) in
    let readable_long : length tk.came ≡ length (readable d extend b) = ap (λ (rs : List SizedRow). length rs) came ∙ length-map (readable d extend b) (sized_row d) in
    let repeats_is : repeats ≡ repeat_count d extend b = omega (arith, tk.count, readable_long, ap (λ (rs : List SizedRow). length rs) keep) in
    let size : new.rows.end ≡ length (new_data d extend b) = end_is d rows new.rows tk.written can ∙ ap (λ (rs : List SizedRow). length (stored_file d rs)) keep ∙ ap (λ (x : List ℕ). length x) (data_is d extend b) in
    let most : end ≤ 2 ^ 40 = short_enough d end reached in
    record {
      report = ap (λ (k : ℕ). record { kept = k; repeats = repeats; old_length = end; new_length = new.rows.end }) kept_is_long
          ∙ ap (λ (k : ℕ). record { kept = length (kept d extend b); repeats = k; old_length = end; new_length = new.rows.end }) repeats_is
          ∙ ap (λ (k : ℕ). record { kept = length (kept d extend b); repeats = repeat_count d extend b; old_length = k; new_length = new.rows.end }) long
          ∙ ap (λ (k : ℕ). record { kept = length (kept d extend b); repeats = repeat_count d extend b; old_length = length b; new_length = k }) size;
      split = was.split ∙ ap (block_count d) (chosen_all rows ∙ keep);
      few_rows = omega (arith, tk.count, tk.few, ends, most, was.kept, ap (λ (rs : List SizedRow). length rs) (chosen_all rows));
      few_blocks = omega (arith, tk.written.came.less, tk.written.came.short);
      short = omega (arith, tk.written.came.short);
    }

-- the trees that were written
trees_are : (d : Defs) (extend : Bool) (b : List ℕ) (scan : TableScan) (file index : List ℕ) (fresh new last : NewFiles) (repeats : ℕ) (roots : List (Option ℕ)) (m k n : Holding) (then after : Option Holding) → IsSound d → IsFresh d index fresh → then ≡ Some k → after ≡ Some n
    → (tk : Took d scan file repeats new m k) → first_rows d tk.came ≡ kept d extend b → StillStand then after new.trees last.trees → kinds new.trees.places ≡ map (place_of d) (key_numbers d) → last.trees.places ≡ new.trees.places → AllWritten (pages_of last.trees.cache) → bytes_of_free last.trees.room.free ≡ 0
    → roots ≡ map (λ (p : Place). p.root) last.trees.places → HasTrees d roots last.trees.room.end (kept d extend b) (bytes_of last.trees.cache.name n)
trees_are d extend b scan file index fresh new last repeats roots m k n then after s fresh_is then_is after_is tk keep stand kind places written none roots_are =
    let stands = stand k then_is (free_from (first_page_of d)) (key_lists d (placed_from d 0 (first_rows d tk.came))) tk.holds.hold in
    let now : stands.now ≡ n = same_told after stands.now n stands.held after_is in
    let here : TreesHold d (first_rows d tk.came) last.trees n = subst (λ (h : Holding). TreesHold d (first_rows d tk.came) last.trees h) now stands.stand in
    let hold : TreesHold d (kept d extend b) last.trees n = subst (λ (rs : List SizedRow). TreesHold d rs last.trees n) keep here in
    let kind_last : kinds last.trees.places ≡ map (place_of d) (key_numbers d) = ap kinds places ∙ kind in
    let placed : last.trees.places ≡ places_of d roots = placed_roots d last.trees.places kind_last ∙ ap (places_of d) (sym roots_are) in
    trees_written d (kept d extend b) fresh.trees last.trees m n roots s (fresh_is.stand m) fresh_is.empty fresh_is.room hold written none placed

-- the working files were filled
pub fills : (t : FourNames) (d : Defs) (extend : Bool) (end : ℕ) (scan : TableScan) (file index : List ℕ) (fresh new last : NewFiles) (repeats : ℕ) (roots : List (Option ℕ)) (before mid then after : Option Holding) → AreDefs d → IsSound d → scan ≡ fresh_scan t.rows d extend end → file ≡ t.new_rows → index ≡ t.new_index → t.rows ≢ t.new_index → t.new_rows ≢ t.new_index
    → is_addressable d end ≡ true → IfTold before (HasTable t d end) → IfTold before HoldsBytes → Told before mid (OthersStay index) → IsFresh d index fresh → Told mid then (Took d scan file repeats new) → kinds new.trees.places ≡ map (place_of d) (key_numbers d) → new.trees.cache.name ≡ index
    → StillStand then after new.trees last.trees → Told then after (OthersStay new.trees.cache.name) → last.trees.places ≡ new.trees.places → last.trees.cache.name ≡ new.trees.cache.name → last.rows ≡ new.rows → AllWritten (pages_of last.trees.cache) → bytes_of_free last.trees.room.free ≡ 0
    → roots ≡ map (λ (p : Place). p.root) last.trees.places → Told before after (FillsWith t extend d (filled_of last repeats end) last.rows.split roots last.trees.room.end)
fills t d extend end scan file index fresh new last repeats roots before mid then after defined s is named index_named apart other reached tabled bytes cut fresh_is took kind index_is stand stays places name_is same_rows written none roots_are = record {
  told = λ m held.
      let c = cut.told m held in
      let k = took.told c.0 c.1 in
      let a = stays.told k.0 k.1 in
      let table = tabled m held in
      let b : List ℕ = table.0 in
      let tk = k.2 in
      let ahead : sized_ahead scan c.0 ≡ sized_ahead scan m = sized_same scan m c.0 (same_name index scan.name m c.0 (λ e. apart (sym (ap (λ (u : TableScan). u.name) is) ∙ e ∙ index_named)) c.2) in
      let came : tk.came ≡ map (sized_row d) (readable d extend b) = came_all t d extend b end scan tk.came m is table.2 table.1 (tk.all ∙ ahead) in
      let keep : first_rows d tk.came ≡ kept d extend b = kept_is d extend b tk.came came in
      let can : AreStorable d (first_rows d tk.came) = first_storable d tk.came (rows_storable t d extend b tk.came m defined table.1 (bytes m held) came) in
      let ends : scan.end ≡ end = ap (λ (u : TableScan). u.end) is in
      let counts = counts_are d extend b scan file new repeats end c.0 k.0 reached table.2 ends tk came can in
      let trees = trees_are d extend b scan file index fresh new last repeats roots c.0 k.0 a.0 then after s fresh_is k.1 a.1 tk keep stand kind places written none roots_are in
      let opened = is_opened t d b m table.1 in
      let file_is : bytes_of t.rows m ≡ b = ap (λ (o : Option (List ℕ)). unwrap_or o []) opened.rows in
      let rows_stored : a.0 t.new_rows ≡ Some (new_data d extend b) =
      a.2 t.new_rows (λ e. other (e ∙ index_is ∙ index_named)) ∙ ap k.0 (sym named) ∙ tk.holds.stored ∙ ap (λ (rs : List SizedRow). Some (stored_file d rs)) keep ∙ ap (λ (x : List ℕ). Some x) (data_is d extend b) in (
        a.0,
        a.1,
        record {
          data_file = b;
          table = table.1;
          bytes = subst AreBytes file_is (bytes m held t.rows);
          stored = rows_stored;
          report = ap (λ (w : NewRows). record { kept = w.kept; repeats = repeats; old_length = end; new_length = w.end }) same_rows ∙ counts.report;
          split = ap (λ (w : NewRows). w.split) same_rows ∙ counts.split;
          few_rows = subst (λ (w : NewRows). w.kept < 256 ^ 8) (sym same_rows) counts.few_rows;
          few_blocks = subst (λ (w : NewRows). w.split < 256 ^ 8) (sym same_rows) counts.few_blocks;
          short = subst (λ (w : NewRows). w.end < 256 ^ 8) (sym same_rows) counts.short;
          trees = subst (λ (q : List ℕ). HasTrees d roots last.trees.room.end (kept d extend b) (bytes_of q a.0)) (name_is ∙ index_is ∙ index_named) trees;
        },
      );
  untold = λ gone. stays.untold (took.untold (cut.untold gone));
}

-- as it is told of what is answered
pub filled_as : (t : FourNames) (extend : Bool) (d : Defs) (said : Report) (blocks : ℕ) (roots : List (Option ℕ)) (end : ℕ) (f : Filled) (before after : Option Holding) → f.gathered.defs ≡ d → f.gathered.report ≡ said → f.gathered.split ≡ blocks → f.roots.items ≡ roots → f.end ≡ end
    → Told before after (FillsWith t extend d said blocks roots end) → Told before after (Fills t extend f)
filled_as t extend d said blocks roots end f before after one two three four five is =
    subst (λ (x : Defs). Told before after (FillsWith t extend x f.gathered.report f.gathered.split f.roots.items f.end)) (sym one)
    (subst (λ (x : Report). Told before after (FillsWith t extend d x f.gathered.split f.roots.items f.end)) (sym two)
    (subst (λ (x : ℕ). Told before after (FillsWith t extend d said x f.roots.items f.end)) (sym three)
    (subst (λ (x : List (Option ℕ)). Told before after (FillsWith t extend d said blocks x f.end)) (sym four)
    (subst (λ (x : ℕ). Told before after (FillsWith t extend d said blocks roots x)) (sym five) is))))
