-- What was met, and one item more.
use Rattle.std.proofs.Common.{◌≡◌, ℕ, zero, suc, ◌+◌, ◌-◌, Bool, true, false, List, [], ◌∷◌, ◌++◌, length, ◌⊎◌, inl, inr, Option, Some, Result, Ok, unwrap_or, refl, sym, ap, subst, ◌∙◌, arith, append_assoc}
use Rattle.std.specs.Prelude.{◌&&◌, map, replicate, sum_by}
use Rattle.std.specs.List.{AllByRecursion, Contains}
use Rattle.std.proofs.lemmas.List.{append-nil, map-append, length-map, length_push, length-append, length-replicate}
use Rattle.std.proofs.lemmas.List.Concat.{flat_map-append}
use Rattle.std.proofs.lemmas.List.Folds.{list_all-append}
use Rattle.std.proofs.lemmas.List.Elements.{Contains-append_left, Contains-append_right}
use Rattle.myi_base.specs.Holding.{Holding, IfTold}
use Rattle.myi_base.specs.Ranges.{Range, are_apart, is_apart}
use Rattle.myi_defs.specs.declared.types.Defs.{Defs}
use Rattle.myi_chain.specs.declared.piece.Piece.{Piece}
use Rattle.myi_chain.specs.declared.piece.Item.{Item}
use Rattle.myi_chain.specs.declared.piece.Item.TheVariants as item
use Rattle.myi_chain.specs.declared.piece.ScanFault.{ScanFault}
use Rattle.myi_chain.specs.declared.piece.Wanted.TheVariants.{Items}
use Rattle.myi_chain.specs.Chain.{ranges_at}
use Rattle.myi_chain.specs.Readable.{Row, row, free, row_in, free_in, rows_of, frees_of}
use Rattle.myi_chain.specs.Readable as chains
use Rattle.myi_chain.specs.Meeting.{ranges_of}
use Rattle.myi_chain.specs.Pieces.{piece_bytes}
use Rattle.myi_chain.specs.ScanModel.{ComesFirst, IsItem, IsSameScan, EndsInside}
use Rattle.myi_data.specs.Keys.{key_of}
use Rattle.myi_data.specs.Scanning.{TableScan, items_ahead, AfterTable}
use Rattle.myi_keys.specs.declared.values.KeySeg.{KeySeg}
use Rattle.myi_keylist.specs.declared.pair.Pair.{Pair}
use Rattle.myi_rowkeys.specs.TableKeys.{numbers_from, key_numbers, row_keys}
use Rattle.myi_rowkeys.specs.RowLists.{with_pairs}
use Rattle.myi_pair.specs.KeyList.{pointer, pair_of, pairs_of}
use Rattle.myi_pair.specs.Clean.{values_of, placed_row}
use Rattle.myi_pair.specs.Trees.{total}
use Rattle.myi_check.specs.declared.met.Met.{Met}
use Rattle.myi_check.specs.HeldBytes.{SameBytes, EndsNear}
use Rattle.myi_check.specs.Rows.{pair_lists, IsPlaceOf, ArePlacesOf}
use Rattle.myi_check.specs.Met.{held_of, HasFrees, HasMet, KeepsFrees, KeepsRows, NotesPairs, NotesBlocks, NotesFree, Takes, Reads, MeetsAll}
use Rattle.myi_check.proofs.HeldLemmas.{same_then, same_append, same_of}
use Rattle.myi_check.proofs.ByteCounts.{total-append, total_at, total_push}

-- ---- the pairs

pub no_pairs : (d : Defs) → replicate (length d.keys) [] ≡ pair_lists d []
no_pairs d = none 1 (length d.keys)
  where
    none : (at n : ℕ) → replicate n [] ≡ map (λ k. pairs_of d k (map (placed_row d) [])) (numbers_from at n)
    none at zero = refl
    none at (suc n) = ap (λ ls. [] ∷ ls) (none (suc at) n)

-- there are as many lists as before
pub length-with : (at : ℕ) (keys : List (List KeySeg)) (lists : List (List Pair)) → length (with_pairs at keys lists) ≡ length lists
length-with at [] lists = refl
length-with at (key ∷ keys) [] = refl
length-with at (key ∷ keys) (pairs ∷ lists) = ap suc (length-with at keys lists)

pairs_next : (d : Defs) (rows : List Row) (r : Row) → with_pairs (pointer d r.at) (row_keys d (values_of d r)) (pair_lists d rows) ≡ pair_lists d (rows ++ r ∷ [])
pairs_next d rows r = each (key_numbers d)
  where
    one : (k : ℕ) → pairs_of d k (map (placed_row d) rows) ++ pair_of d k (placed_row d r) ∷ [] ≡ pairs_of d k (map (placed_row d) (rows ++ r ∷ []))
    one k = sym (ap (map (pair_of d k)) (map-append (placed_row d) rows (r ∷ [])) ∙ map-append (pair_of d k) (map (placed_row d) rows) (placed_row d r ∷ []))

    each : (ks : List ℕ) → with_pairs (pointer d r.at) (map (λ k. key_of d k (values_of d r)) ks) (map (λ k. pairs_of d k (map (placed_row d) rows)) ks) ≡ map (λ k. pairs_of d k (map (placed_row d) (rows ++ r ∷ []))) ks
    each [] = refl
    each (k ∷ ks) =
        ap (λ ps. ps ∷ with_pairs (pointer d r.at) (map (λ j. key_of d j (values_of d r)) ks) (map (λ j. pairs_of d j (map (placed_row d) rows)) ks)) (one k)
        ∙ ap (λ ls. pairs_of d k (map (placed_row d) (rows ++ r ∷ [])) ∷ ls) (each ks)

-- ---- the places

places_kept : (rows more : List Row) (ps : List ℕ) → ArePlacesOf rows ps → ArePlacesOf (rows ++ more) ps
places_kept rows more [] all = tt
places_kept rows more (p ∷ ps) all =
    (record { row = all.0.row; among = Contains-append_left rows more all.0.row all.0.among; at = all.0.at }, places_kept rows more ps all.1)

places_push : (rows : List Row) (ps : List ℕ) (p : ℕ) → ArePlacesOf rows ps → IsPlaceOf rows p → ArePlacesOf rows (ps ++ p ∷ [])
places_push rows [] p all is = (is, tt)
places_push rows (q ∷ ps) p all is = (all.0, places_push rows ps p all.1 is)

places_next : (rows : List Row) (r : Row) (old new : List ℕ) → ArePlacesOf rows old → (new ≡ old) ⊎ (new ≡ old ++ r.at ∷ []) → ArePlacesOf (rows ++ r ∷ []) new
places_next rows r old new all (inl same) = subst (ArePlacesOf (rows ++ r ∷ [])) (sym same) (places_kept rows (r ∷ []) old all)
places_next rows r old new all (inr more) =
    let last : Contains (r ∷ []) r = (0, omega arith, refl) in
    let here : IsPlaceOf (rows ++ r ∷ []) r.at = record { row = r; among = Contains-append_right rows (r ∷ []) r last; at = refl } in
    subst (ArePlacesOf (rows ++ r ∷ [])) (sym more) (places_push (rows ++ r ∷ []) old r.at (places_kept rows (r ∷ []) old all) here)

-- ---- an item more

rows_with : (is : List chains.Item) (r : Row) → rows_of (is ++ row r ∷ []) ≡ rows_of is ++ r ∷ []
rows_with is r = flat_map-append row_in is (row r ∷ [])

rows_past : (is : List chains.Item) (a : Range) → rows_of (is ++ free a ∷ []) ≡ rows_of is
rows_past is a = flat_map-append row_in is (free a ∷ []) ∙ append-nil (rows_of is)

frees_with : (is : List chains.Item) (a : Range) → frees_of (is ++ free a ∷ []) ≡ frees_of is ++ a ∷ []
frees_with is a = flat_map-append free_in is (free a ∷ [])

frees_past : (is : List chains.Item) (r : Row) → frees_of (is ++ row r ∷ []) ≡ frees_of is
frees_past is r = flat_map-append free_in is (row r ∷ []) ∙ append-nil (frees_of is)

ranges_with : (rows : List Row) (r : Row) → ranges_of (rows ++ r ∷ []) ≡ ranges_of rows ++ r.blocks
ranges_with rows r = flat_map-append (λ (x : Row). x.blocks) rows (r ∷ []) ∙ ap (λ bs. ranges_of rows ++ bs) (append-nil r.blocks)

-- ---- the bytes of rows, and of deleted blocks

three : (a b c : Bool) → ((a && b) && c) ≡ ((a && c) && b)
three true true c = by c
  where
    by : (c : Bool) → c ≡ (c && true)
    by true = refl
    by false = refl
three true false c = by c
  where
    by : (c : Bool) → false ≡ (c && false)
    by true = refl
    by false = refl
three false b c = refl

-- the order of the ranges does not count
same_middle : (u more v : List Range) → SameBytes ((u ++ more) ++ v) ((u ++ v) ++ more)
same_middle u more v r some =
    list_all-append (are_apart r) (u ++ more) v ∙ ap (λ b. b && is_apart r v) (list_all-append (are_apart r) u more)
    ∙ three (is_apart r u) (is_apart r more) (is_apart r v)
    ∙ sym (list_all-append (are_apart r) (u ++ v) more ∙ ap (λ b. b && is_apart r more) (list_all-append (are_apart r) u v))

ranges_more : (is : List chains.Item) (r : Row) (more : List Range) → more ≡ r.blocks → ranges_of (rows_of (is ++ row r ∷ [])) ≡ ranges_of (rows_of is) ++ more
ranges_more is r more are = ap ranges_of (rows_with is r) ∙ ranges_with (rows_of is) r ∙ ap (λ bs. ranges_of (rows_of is) ++ bs) (sym are)

held_row : (t : Bool) (is : List chains.Item) (r : Row) (more old new : List Range) → more ≡ r.blocks → SameBytes (held_of t is) old → SameBytes (old ++ more) new → SameBytes (held_of t (is ++ row r ∷ [])) new
held_row true is r more old new are has adds =
    let rows = ranges_of (rows_of is) in
    let all : ranges_of (rows_of (is ++ row r ∷ [])) ++ frees_of (is ++ row r ∷ []) ≡ (rows ++ more) ++ frees_of is =
    ap (λ xs. xs ++ frees_of (is ++ row r ∷ [])) (ranges_more is r more are) ∙ ap (λ xs. (rows ++ more) ++ xs) (frees_past is r) in
    same_then _ _ _ (same_of _ _ all) (same_then _ _ _ (same_middle rows more (frees_of is)) (same_then _ _ _ (same_append (rows ++ frees_of is) old more has) adds))
held_row false is r more old new are has adds =
    same_then _ _ _ (same_of _ _ (ranges_more is r more are)) (same_then _ _ _ (same_append (ranges_of (rows_of is)) old more has) adds)

frees_row : (t : Bool) (is : List chains.Item) (r : Row) (old mid new : Met) → HasFrees t is old → KeepsFrees old mid → KeepsFrees mid new → HasFrees t (is ++ row r ∷ []) new
frees_row true is r old mid new has first second = record {
  places = second.deleted ∙ first.deleted ∙ has.places ∙ ap (map (λ (a : Range). a.0)) (sym (frees_past is r));
  empty = second.empty ∙ first.empty ∙ has.empty ∙ ap total (sym (frees_past is r));
}
frees_row false is r old mid new has first second = record {
  ranges = ap ranges_at (second.frees ∙ first.frees) ∙ has.ranges ∙ sym (frees_past is r);
  near = subst (AllByRecursion EndsNear) (sym (second.frees ∙ first.frees)) has.near;
}

pub row_taken : (d : Defs) (t : Bool) (r : Row) (blocks : List (ℕ × ℕ)) (old mid new : Met) → NotesPairs d r.at r.bytes old mid → NotesBlocks blocks mid new → ranges_at blocks ≡ r.blocks → Takes d t (row r) old new
row_taken d t r blocks old mid new pairs noted are is has =
    let all : ranges_of (rows_of (is ++ row r ∷ [])) ≡ ranges_of (rows_of is) ++ ranges_at blocks = ap ranges_of (rows_with is r) ∙ ranges_with (rows_of is) r ∙ ap (λ bs. ranges_of (rows_of is) ++ bs) (sym are) in
    let number : length (rows_of (is ++ row r ∷ [])) ≡ length (rows_of is) + 1 = ap (λ (rs : List Row). length rs) (rows_with is r) ∙ length_push (rows_of is) r in
    let count : length (ranges_of (rows_of (is ++ row r ∷ []))) ≡ length (ranges_of (rows_of is)) + length blocks = ap (λ (rs : List Range). length rs) all ∙ length-append (ranges_of (rows_of is)) (ranges_at blocks) ∙ ap (λ n. length (ranges_of (rows_of is)) + n) (length-map blocks (λ b. (b.0, b.0 + b.1))) in
    record {
      keys = λ on.
          let was : old.with_keys ≡ true = sym pairs.with_keys ∙ sym noted.with_keys ∙ on in
          let k = pairs.keys was in
          let view : values_of d r ≡ k.0 = ap (λ o. unwrap_or o []) k.1 in
          noted.keys ∙ k.2 ∙ ap (with_pairs (pointer d r.at) (row_keys d k.0)) (has.keys was)
          ∙ ap (λ v. with_pairs (pointer d r.at) (row_keys d v) (pair_lists d (rows_of is))) (sym view)
          ∙ pairs_next d (rows_of is) r ∙ ap (pair_lists d) (sym (rows_with is r));
      lists = ap (λ (ls : List (List Pair)). length ls) noted.keys ∙ pairs.lists ∙ has.lists;
      records = noted.records ∙ pairs.records ∙ ap (λ n. n + 1) has.records ∙ sym number;
      split = noted.split ∙ ap (λ n. n + length blocks) (pairs.split ∙ has.split) ∙ sym count;
      places = subst (λ (rs : List Row). ArePlacesOf rs new.places) (sym (rows_with is r))
          (subst (ArePlacesOf (rows_of is ++ r ∷ [])) (sym noted.places) (places_next (rows_of is) r old.places mid.places has.places pairs.places));
      row_bytes = noted.row_bytes ∙ ap (λ n. n + sum_by (λ (b : ℕ × ℕ). b.1) blocks) (pairs.row_bytes ∙ has.row_bytes) ∙ ap (λ n. total (ranges_of (rows_of is)) + n) (total_at blocks)
          ∙ sym (ap total all ∙ total-append (ranges_of (rows_of is)) (ranges_at blocks));
      held = held_row t is r (ranges_at blocks) mid.held new.held are (subst (SameBytes (held_of t is)) (sym pairs.held) has.held) noted.held;
      frees = frees_row t is r old mid new has.frees pairs.frees noted.frees;
    }

near_push : (bs : List (ℕ × ℕ)) (b : ℕ × ℕ) → AllByRecursion EndsNear bs → EndsNear b → AllByRecursion EndsNear (bs ++ b ∷ [])
near_push [] b all near = (near, tt)
near_push (x ∷ bs) b all near = (all.0, near_push bs b all.1 near)

rows_stay : (t : Bool) (at size : ℕ) (old new : Met) → NotesFree t at size old new → KeepsRows old new
rows_stay true at size old new noted = noted.rows
rows_stay false at size old new noted = noted.rows

held_free : (t : Bool) (is : List chains.Item) (at size : ℕ) (old new : Met) → NotesFree t at size old new → SameBytes (held_of t is) old.held → SameBytes (held_of t (is ++ free (at, at + size) ∷ [])) new.held
held_free true is at size old new noted has =
    let a : Range = (at, at + size) in
    let rows = ranges_of (rows_of is) in
    let all : ranges_of (rows_of (is ++ free a ∷ [])) ++ frees_of (is ++ free a ∷ []) ≡ (rows ++ frees_of is) ++ a ∷ [] =
    ap (λ xs. xs ++ frees_of (is ++ free a ∷ [])) (ap ranges_of (rows_past is a)) ∙ ap (λ xs. rows ++ xs) (frees_with is a) ∙ sym (append_assoc rows (frees_of is) (a ∷ [])) in
    same_then _ _ _ (same_of _ _ all) (same_then _ _ _ (same_append (rows ++ frees_of is) old.held (a ∷ []) has) noted.held)
held_free false is at size old new noted has =
    same_then _ _ _ (same_of _ _ (ap ranges_of (rows_past is (at, at + size)))) (subst (SameBytes (ranges_of (rows_of is))) (sym noted.held) has)

frees_more : (t : Bool) (is : List chains.Item) (at size : ℕ) (old new : Met) → NotesFree t at size old new → EndsNear (at, size) → HasFrees t is old → HasFrees t (is ++ free (at, at + size) ∷ []) new
frees_more true is at size old new noted near has =
    let a : Range = (at, at + size) in
    let long : size ≡ (at + size) - at = omega arith in
    record {
      places = noted.deleted ∙ ap (λ ps. ps ++ at ∷ []) has.places ∙ sym (ap (map (λ (x : Range). x.0)) (frees_with is a) ∙ map-append (λ (x : Range). x.0) (frees_of is) (a ∷ []));
      empty = noted.empty ∙ ap (λ n. n + size) has.empty ∙ ap (λ n. total (frees_of is) + n) long ∙ sym (ap total (frees_with is a) ∙ total_push (frees_of is) a);
    }
frees_more false is at size old new noted near has = record {
  ranges = ap ranges_at noted.frees ∙ map-append (λ (b : ℕ × ℕ). (b.0, b.0 + b.1)) old.frees.items ((at, size) ∷ []) ∙ ap (λ rs. rs ++ (at, at + size) ∷ []) has.ranges ∙ sym (frees_with is (at, at + size));
  near = subst (AllByRecursion EndsNear) (sym noted.frees) (near_push old.frees.items (at, size) has.near near);
}

pub free_taken : (d : Defs) (t : Bool) (at size : ℕ) (old new : Met) → NotesFree t at size old new → EndsNear (at, size) → Takes d t (free (at, at + size)) old new
free_taken d t at size old new noted near is has =
    let stay = rows_stay t at size old new noted in
    record {
      keys = λ on. stay.keys ∙ has.keys (sym stay.with_keys ∙ on) ∙ ap (pair_lists d) (sym (rows_past is (at, at + size)));
      lists = ap (λ (ls : List (List Pair)). length ls) stay.keys ∙ has.lists;
      records = stay.records ∙ has.records ∙ ap (λ (rs : List Row). length rs) (sym (rows_past is (at, at + size)));
      split = stay.split ∙ has.split ∙ ap (λ rs. length (ranges_of rs)) (sym (rows_past is (at, at + size)));
      places = subst (λ (rs : List Row). ArePlacesOf rs new.places) (sym (rows_past is (at, at + size))) (subst (ArePlacesOf (rows_of is)) (sym stay.places) has.places);
      row_bytes = stay.row_bytes ∙ has.row_bytes ∙ ap (λ rs. total (ranges_of rs)) (sym (rows_past is (at, at + size)));
      held = held_free t is at size old new noted has.held;
      frees = frees_more t is at size old new noted near has.frees;
    }

none_held : (t : Bool) (h : List Range) → h ≡ [] → SameBytes (held_of t []) h
none_held true h none = same_of [] h (sym none)
none_held false h none = same_of [] h (sym none)

none_free : (t : Bool) (met : Met) → met.frees.items ≡ [] → met.deleted ≡ [] → met.empty ≡ 0 → HasFrees t [] met
none_free true met frees deleted empty = record { places = deleted; empty = empty }
none_free false met frees deleted empty = record { ranges = ap ranges_at frees; near = subst (AllByRecursion EndsNear) (sym frees) tt }

-- nothing was met
pub none_met : (d : Defs) (t : Bool) (met : Met) → met.keys ≡ replicate (length d.keys) [] → met.places ≡ [] → met.records ≡ 0 → met.split ≡ 0 → met.held ≡ [] → met.frees.items ≡ [] → met.deleted ≡ [] → met.empty ≡ 0 → met.row_bytes ≡ 0 → HasMet d t [] met
none_met d t met keys places records split held frees deleted empty bytes = record {
  keys = λ on. keys ∙ no_pairs d;
  lists = ap (λ (ls : List (List Pair)). length ls) keys ∙ length-replicate {A = List Pair} (length d.keys) [];
  records = records;
  split = split;
  places = subst (ArePlacesOf []) (sym places) tt;
  row_bytes = bytes;
  held = none_held t met.held held;
  frees = none_free t met frees deleted empty;
}

-- ---- one call

-- what a call answered, and what it leaves
pub answered_row : (h : Option Holding) (old new : TableScan) (r : Result (Option Item) ScanFault) (o : Option Item) (i : Item) (at : ℕ) (p : Piece) → r ≡ Ok o → o ≡ Some i → i ≡ item.Row at p → AfterTable Items h old r new → AfterTable Items h old (Ok (Some (item.Row at p))) new
answered_row h old new r o i at p ok some is leaves = subst (λ x. AfterTable Items h old x new) (ok ∙ ap Ok (some ∙ ap Some is)) leaves

pub answered_free : (h : Option Holding) (old new : TableScan) (r : Result (Option Item) ScanFault) (o : Option Item) (i : Item) (at size : ℕ) → r ≡ Ok o → o ≡ Some i → i ≡ item.Free at size → AfterTable Items h old r new → AfterTable Items h old (Ok (Some (item.Free at size))) new
answered_free h old new r o i at size ok some is leaves = subst (λ x. AfterTable Items h old x new) (ok ∙ ap Ok (some ∙ ap Some is)) leaves

-- what comes first
first_item : (before after : List chains.Item) (found : Item) (old new : List (ℕ × ℕ)) → ComesFirst Items before after found old new → (first : chains.Item) × (before ≡ first ∷ after) × IsItem first found old new
first_item before after found old new comes = (comes.first, comes.next.2 ∙ ap (λ is. is ++ comes.first ∷ after) comes.next.1, comes.is)

-- a row is first
row_is : (first : chains.Item) (at : ℕ) (p : Piece) (old new : List (ℕ × ℕ)) (bytes : List ℕ) → bytes ≡ piece_bytes p → IsItem first (item.Row at p) old new → first ≡ row (record { at = at; bytes = bytes; blocks = ranges_at new })
row_is (row r) at p old new bytes same is =
    ap (λ x. row (record { at = x; bytes = r.bytes; blocks = r.blocks })) is.0
    ∙ ap (λ x. row (record { at = at; bytes = x; blocks = r.blocks })) (sym is.1 ∙ sym same)
    ∙ ap (λ x. row (record { at = at; bytes = bytes; blocks = x })) (sym is.2)
row_is (free a) at p old new bytes same is = absurd is

free_is : (first : chains.Item) (at size : ℕ) (old new : List (ℕ × ℕ)) → IsItem first (item.Free at size) old new → first ≡ free (at, at + size)
free_is (row r) at size old new is = absurd is
free_is (free a) at size old new is = ap (λ x. free x) is.0

pub row_read : (d : Defs) (together : Bool) (h : Option Holding) (s t : TableScan) (at : ℕ) (p : Piece) (bytes : List ℕ) (old mid new : Met) → AfterTable Items h s (Ok (Some (item.Row at p))) t → bytes ≡ piece_bytes p → NotesPairs d at bytes old mid → NotesBlocks t.blocks mid new → Reads d together h s t old new
row_read d together h s t at p bytes old mid new answer shows pairs blocks =
    let r : Row = record { at = at; bytes = bytes; blocks = ranges_at t.blocks } in
    record {
      item = row r;
      takes = row_taken d together r t.blocks old mid new pairs blocks refl;
      with_keys = blocks.with_keys ∙ pairs.with_keys;
      noting = blocks.together ∙ pairs.together;
      rises = answer.0.rises;
      within = answer.0.within;
      first = λ m told.
          let given = first_item _ _ _ _ _ (answer.0.told m told) in
          given.1 ∙ ap (λ i. i ∷ items_ahead t m) (row_is given.0 at p s.blocks t.blocks bytes shows given.2);
    }

pub free_read : (d : Defs) (together : Bool) (h : Option Holding) (s t : TableScan) (at size : ℕ) (old new : Met) → AfterTable Items h s (Ok (Some (item.Free at size))) t → NotesFree together at size old new → Reads d together h s t old new
free_read d together h s t at size old new answer noted = record {
  item = free (at, at + size);
  takes = free_taken d together at size old new noted answer.0.stands.1.1;
  with_keys = (rows_stay together at size old new noted).with_keys;
  noting = (rows_stay together at size old new noted).together;
  rises = answer.0.rises;
  within = answer.0.within;
  first = λ m told.
      let given = first_item _ _ _ _ _ (answer.0.told m told) in
      given.1 ∙ ap (λ i. i ∷ items_ahead t m) (free_is given.0 at size s.blocks t.blocks given.2);
}

-- the blocks of an answered row end at places of eight bytes
pub blocks_near : (end : ℕ) (bs : List (ℕ × ℕ)) → AllByRecursion (EndsInside end) bs → AllByRecursion EndsNear bs
blocks_near end [] all = tt
blocks_near end (b ∷ bs) all = (all.0.1, blocks_near end bs all.1)

-- ---- the loop

-- these were met so far, and with those that are left they are all
abbrev pub Meeting : Defs → Bool → Option Holding → TableScan → TableScan → List chains.Item → Met → Type 0
Meeting d t h start now is met = HasMet d t is met × IfTold h (λ m. is ++ items_ahead now m ≡ items_ahead start m)

pub meets_more : (d : Defs) (t : Bool) (h : Option Holding) (start now next : TableScan) (is : List chains.Item) (old new : Met) → Meeting d t h start now is old → (read : Reads d t h now next old new) → Meeting d t h start next (is ++ read.item ∷ []) new
meets_more d t h start now next is old new so_far read = (
  read.takes is so_far.0,
  λ m told. append_assoc is (read.item ∷ []) (items_ahead next m) ∙ ap (λ xs. is ++ xs) (sym (read.first m told)) ∙ so_far.1 m told,
)

pub met_all : (d : Defs) (t : Bool) (h : Option Holding) (start now : TableScan) (is : List chains.Item) (old new : Met) → Meeting d t h start now is old → new ≡ old → IfTold h (λ m. items_ahead now m ≡ []) → MeetsAll d t h start new
met_all d t h start now is old new so_far same none = (is, subst (HasMet d t is) (sym same) so_far.0, λ m told. sym (append-nil is) ∙ ap (λ xs. is ++ xs) (sym (none m told)) ∙ so_far.1 m told)

pub same_then_scan : (a b c : TableScan) → IsSameScan a b → IsSameScan b c → IsSameScan a c
same_then_scan a b c p q = record { name = q.name ∙ p.name; test = q.test ∙ p.test; extend = q.extend ∙ p.extend; end = omega (arith, p.end, q.end) }
