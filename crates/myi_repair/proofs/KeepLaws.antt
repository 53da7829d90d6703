-- What was written once one more row has come.
use Rattle.std.proofs.Common.{◌≡◌, ℕ, ◌+◌, ◌^◌, ◌<◌, ◌≤◌, Bool, true, false, List, [], ◌∷◌, ◌++◌, length, Some, unwrap_or, refl, sym, ap, subst, ◌∙◌, arith, length-append}
use Rattle.std.specs.List.{AllByRecursion}
use Rattle.std.proofs.lemmas.Bool.{leb-true, and_parts}
use Rattle.std.proofs.lemmas.List.{length_push}
use Rattle.std.proofs.Math.Nat.{one-le-pow}
use Rattle.myi_base.specs.Holding.{Holding, Writes, overwritten}
use Rattle.myi_defs.specs.declared.types.Defs.{Defs}
use Rattle.myi_defs.specs.declared.types.RowFormat.{RowFormat}
use Rattle.myi_defs.specs.declared.types.RowFormat.TheVariants.{Static, Dynamic}
use Rattle.myi_defs.specs.Addressable.{is_addressable}
use Rattle.myi_defs.specs.Sound.{IsSound}
use Rattle.myi_defs.specs.ReadDefs.{AreDefs}
use Rattle.myi_defs.proofs.CallerLemmas.{sound}
use Rattle.myi_pack.specs.Packed.{Values}
use Rattle.myi_pack.specs.Unpacking.{row_of}
use Rattle.myi_pack.specs.Spelling.{fits, spelling}
use Rattle.myi_pack.proofs.CallerLemmas.{row-told, row-reads}
use Rattle.myi_keylist.specs.Classes.{picked}
use Rattle.myi_data.specs.Stored.{SizedRow, group_by, group, stored_by, stored, stored_file, block_count, IsStorable}
use Rattle.myi_data.proofs.CallerLemmas.{stored_long}
use Rattle.myi_pair.specs.KeyList.{pointer}
use Rattle.myi_pair.proofs.CallerLemmas.{length-slot, pointer_near}
use Rattle.myi_repair.specs.declared.next_row.NextRow.{NextRow}
use Rattle.myi_repair.specs.declared.new_rows.NewRows.{NewRows}
use Rattle.myi_repair.specs.Keeping.{IsPrepared, flags_by, chosen, AreStorable, HaveCome, AreStored, HasWritten, Adds, WritesIf}
use Rattle.myi_repair.proofs.FilesLaws.{appended}
use Rattle.myi_repair.proofs.StoredLaws.{laid_more, blocks_more, all_more, all_parts}
use Rattle.myi_repair.proofs.PointerLaws.{chosen_more, pointers_more}

-- none has come
pub written_none : (d : Defs) (choose : ℕ → Bool) (w : NewRows) → w.kept ≡ 0 → w.split ≡ 0 → w.end ≡ 0 → w.pointers ≡ [] → HasWritten d choose [] w
unfolding stored_file
written_none d choose w kept split end pointers = record {
  came = record {
    fit = tt;
    long = ap (λ (ps : List ℕ). length ps) pointers;
    near = subst (AllByRecursion (λ (p : ℕ). p < 256 ^ d.rec_ref)) (sym pointers) tt;
    few = omega (arith, kept);
    less = omega (arith, split);
    short = omega (arith, end);
  };
  stored = λ _. record { kept = kept; split = split; end = end; pointers = pointers };
}

-- one more has come, with its pointer
came_more : (d : Defs) (rows : List SizedRow) (row : SizedRow) (p : ℕ) (k l : NewRows) → HaveCome d rows k → fits d row.values ≡ true → l.pointers ≡ k.pointers ++ p ∷ [] → p < 256 ^ d.rec_ref → l.kept ≤ k.kept + 1 → l.split ≤ l.end → l.end ≤ 2 ^ 40 → HaveCome d (rows ++ row ∷ []) l
came_more d rows row p k l came fit pointers near few less short =
    let long : length l.pointers ≡ length k.pointers + 1 = ap (λ (ps : List ℕ). length ps) pointers ∙ length_push k.pointers p in
    record {
      fit = all_more (λ (r : SizedRow). fits d r.values ≡ true) rows row came.fit fit;
      long = omega (arith, long, came.long, length_push rows row);
      near = subst (AllByRecursion (λ (q : ℕ). q < 256 ^ d.rec_ref)) (sym pointers) (all_more (λ (q : ℕ). q < 256 ^ d.rec_ref) k.pointers p came.near near);
      few = omega (arith, few, long, came.few);
      less = less;
      short = short;
    }

-- a row was left out
pub left_out : (d : Defs) (row : SizedRow) (k l : NewRows) → fits d row.values ≡ true → l.kept ≡ k.kept → l.split ≡ k.split → l.end ≡ k.end → l.pointers ≡ k.pointers ++ 0 ∷ [] → IsSound d → Adds d false row k l
left_out d row k l fit kept split end pointers s choose rows is has =
    let same : chosen choose (rows ++ row ∷ []) ≡ chosen choose rows = chosen_more choose rows row false is in
    record {
      came = came_more d rows row 0 k l has.came fit pointers (one-le-pow d.rec_ref 256 (omega arith)) (omega (arith, kept)) (omega (arith, split, end, has.came.less)) (omega (arith, end, has.came.short));
      stored = λ can.
          let before : AreStorable d rows = (all_parts (IsStorable d) rows row can).0 in
          let was : AreStored d choose rows k = has.stored before in
          record {
            kept = kept ∙ was.kept ∙ ap (λ (rs : List SizedRow). length rs) (sym same);
            split = split ∙ was.split ∙ ap (block_count d) (sym same);
            end = end ∙ was.end ∙ ap (λ rs. length (stored_file d rs)) (sym same);
            pointers = pointers ∙ ap (λ ps. ps ++ 0 ∷ []) was.pointers ∙ sym (pointers_more d s choose rows row false k.end is was.end before);
          };
    }

pub short_enough : (d : Defs) (n : ℕ) → is_addressable d n ≡ true → n ≤ 2 ^ 40
unfolding is_addressable
short_enough d n reached = leb-true n (2 ^ 40) (and_parts _ _ reached).0

picked_stored : (d : Defs) (flags : List Bool) (rows : List SizedRow) → AreStorable d rows → AreStorable d (picked flags rows)
picked_stored d [] rows all = tt
picked_stored d (b ∷ flags) [] all = tt
picked_stored d (true ∷ flags) (r ∷ rows) all = (all.0, picked_stored d flags rows all.1)
picked_stored d (false ∷ flags) (r ∷ rows) all = picked_stored d flags rows all.1

-- a row was written at the end
pub added : (d : Defs) (row : SizedRow) (k l : NewRows) (blocks : ℕ) → IsSound d → fits d row.values ≡ true → l.kept ≡ k.kept + 1 → l.split ≡ k.split + blocks → blocks ≡ length (group d row) → l.end ≡ k.end + length (stored d k.end row) → k.end + blocks ≤ l.end → l.pointers ≡ k.pointers ++ pointer d k.end ∷ [] → is_addressable d l.end ≡ true → Adds d true row k l
added d row k l blocks s fit kept split count end less pointers reached choose rows is has =
    let same : chosen choose (rows ++ row ∷ []) ≡ chosen choose rows ++ row ∷ [] = chosen_more choose rows row true is in
    record {
      came = came_more d rows row (pointer d k.end) k l has.came fit pointers (pointer_near d k.end l.end s reached (omega (arith, less))) (omega (arith, kept)) (omega (arith, split, less, has.came.less)) (short_enough d l.end reached);
      stored = λ can.
          let before : AreStorable d rows = (all_parts (IsStorable d) rows row can).0 in
          let was : AreStored d choose rows k = has.stored before in
          let picks : AreStorable d (chosen choose rows) = picked_stored d (flags_by choose (length rows)) rows before in
          let size : length (stored d k.end row) ≡ length (stored d (length (stored_file d (chosen choose rows))) row) = ap (λ p. length (stored d p row)) was.end in
          record {
            kept = omega (arith, kept, was.kept, ap (λ (rs : List SizedRow). length rs) same, length-append (chosen choose rows) (row ∷ []));
            split = omega (arith, split, count, was.split, ap (block_count d) same, blocks_more d (chosen choose rows) row);
            end = omega (arith, end, size, was.end, ap (λ rs. length (stored_file d rs)) same, ap (λ (x : List ℕ). length x) (laid_more d s (chosen choose rows) row picks), length-append (stored_file d (chosen choose rows)) (stored d (length (stored_file d (chosen choose rows))) row));
            pointers = pointers ∙ ap (λ ps. ps ++ pointer d k.end ∷ []) was.pointers ∙ sym (pointers_more d s choose rows row true k.end is was.end before);
          };
    }

-- ---- its spelling

static_bytes : (d : Defs) (row : SizedRow) → d.format ≡ Static → stored d 0 row ≡ spelling d row.values
unfolding stored
static_bytes d row static = ap (λ f. stored_by f 0 row.sizes (spelling d row.values)) static

-- a row that fits is spelled in so few bytes that four count them
pub spelled_few : (d : Defs) (row : SizedRow) → IsSound d → fits d row.values ≡ true → length (spelling d row.values) < 2 ^ 32
spelled_few d row s fit = by d.format refl
  where
    by : (f : RowFormat) → d.format ≡ f → length (spelling d row.values) < 2 ^ 32
    by Dynamic e = row-told d row.values e fit
    by Static e =
        let can : IsStorable d row = record { fits = fit; held = λ dynamic long. absurd cc } in
        omega (arith, length-slot d row s e can, ap (λ (x : List ℕ). length x) (static_bytes d row e), stored_long d row s can 0, s.short_slot e)

pub put_bytes : (d : Defs) (row : SizedRow) (at : ℕ) (sizes : List ℕ) (b : List ℕ) → b ≡ spelling d row.values → sizes ≡ row.sizes → stored_by d.format at sizes b ≡ stored d at row
unfolding stored
put_bytes d row at sizes b is same = ap (stored_by d.format at sizes) is ∙ ap (λ ss. stored_by d.format at ss (spelling d row.values)) same

pub put_count : (d : Defs) (row : SizedRow) (sizes : List ℕ) (b : List ℕ) → b ≡ spelling d row.values → sizes ≡ row.sizes → length (group_by d.format sizes (length b)) ≡ length (group d row)
unfolding group
put_count d row sizes b is same = ap (λ (x : List ℕ). length (group_by d.format sizes (length x))) is ∙ ap (λ ss. length (group_by d.format ss (length (spelling d row.values)))) same

-- the values that a spelling is read as
pub read_back : (d : Defs) (row : SizedRow) (next : NextRow) (bytes : List ℕ) (view : Values) → AreDefs d → IsPrepared d row next → bytes ≡ next.bytes.items → row_of d bytes ≡ Some view → view ≡ row.values
read_back d row next bytes view are prepared same read =
    ap (λ o. unwrap_or o view) (sym read ∙ ap (row_of d) (same ∙ prepared.bytes) ∙ row-reads d row.values (sound d are) prepared.fit)

-- ---- the file

pub put_at_end : (file end_bytes row : List ℕ) (end : ℕ) (m n : Holding) → m file ≡ Some end_bytes → end ≡ length end_bytes → Writes file end row m n → n file ≡ Some (end_bytes ++ row)
put_at_end file end_bytes row end m n here is wrote =
    wrote.here ∙ ap (λ b. Some (overwritten end row (unwrap_or b []))) here ∙ ap (λ e. Some (overwritten e row end_bytes)) is ∙ ap Some (appended end_bytes row)

pub written_one : (d : Defs) (row : SizedRow) (k : NewRows) (file : List ℕ) (m n : Holding) → IsSound d → Writes file k.end (stored d k.end row) m n → WritesIf d file true row k m n
written_one d row k file m n s wrote choose rows is has can here =
    let kept : List SizedRow = chosen choose rows in
    let was : AreStored d choose rows k = has.stored can in
    let same : chosen choose (rows ++ row ∷ []) ≡ kept ++ row ∷ [] = chosen_more choose rows row true is in
    put_at_end file (stored_file d kept) (stored d k.end row) k.end m n here was.end wrote
    ∙ ap (λ p. Some (stored_file d kept ++ stored d p row)) was.end
    ∙ ap Some (sym (laid_more d s kept row (picked_stored d (flags_by choose (length rows)) rows can))) ∙ ap (λ rs. Some (stored_file d rs)) (sym same)

pub written_same : (d : Defs) (row : SizedRow) (k : NewRows) (file : List ℕ) (m : Holding) → WritesIf d file false row k m m
written_same d row k file m choose rows is has can here = here ∙ ap (λ rs. Some (stored_file d rs)) (sym (chosen_more choose rows row false is))
