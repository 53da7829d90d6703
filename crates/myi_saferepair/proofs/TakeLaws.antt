-- What becomes of the new files where a row comes.
use Rattle.std.proofs.Common.{◌≡◌, ◌≢◌, ℕ, zero, suc, ◌^◌, ◌<◌, Bool, true, false, not, List, [], ◌∷◌, ◌++◌, length, map, Option, Some, None, refl, sym, ap, subst, ◌∙◌, arith}
use Rattle.std.proofs.lemmas.List.{length-map}
use Rattle.std.specs.List.{AllByRecursion, list_any}
use Rattle.myi_base.specs.Holding.{Holding, Told, OthersStay}
use Rattle.myi_defs.specs.declared.types.Defs.{Defs}
use Rattle.myi_defs.specs.Addressable.{is_addressable}
use Rattle.myi_defs.specs.Sound.{IsSound}
use Rattle.myi_header.specs.Layout.{first_page_of}
use Rattle.myi_pack.specs.Packed.{Values}
use Rattle.myi_keylist.specs.declared.pair.Pair.{Pair}
use Rattle.myi_keylist.specs.PairOrder.{pair_with}
use Rattle.myi_btree.specs.declared.place.Place.{Place}
use Rattle.myi_data.specs.Keys.{key_of}
use Rattle.myi_data.specs.Stored.{SizedRow, stored_file, IsStorable}
use Rattle.myi_keytrees.specs.Trees.{kinds}
use Rattle.myi_keytrees.specs.Standing.{Stand, StandThen, IfStand, StillStand}
use Rattle.myi_keytrees.proofs.CallerLemmas.{stand_elsewhere}
use Rattle.myi_pair.specs.FirstRows.{numbers_from, key_numbers, repeats_row}
use Rattle.myi_pair.specs.KeyList.{pointer}
use Rattle.myi_pair.specs.Trees.{place_of}
use Rattle.myi_pair.specs.RebuiltBytes.{placed_from, key_lists}
use Rattle.myi_pair.proofs.CallerLemmas.{pointer_near}
use Rattle.myi_rowtrees.specs.RowLists.{row_pairs, put_each, LackPointers, ArePointers}
use Rattle.myi_repair.specs.declared.next_row.NextRow.{NextRow}
use Rattle.myi_repair.specs.declared.new_rows.NewRows.{NewRows}
use Rattle.myi_repair.specs.Keeping.{IsPrepared, chosen, AreStorable, HasWritten, Adds, WritesIf}
use Rattle.myi_repair.specs.Gathering.{all_chosen}
use Rattle.myi_repair.proofs.CallerLemmas.{chosen_all, all_parts}
use Rattle.myi_saferepair.specs.declared.new_files.NewFiles.{NewFiles}
use Rattle.myi_saferepair.specs.Held.{AreHeld}
use Rattle.myi_saferepair.specs.Filling.{free_from, HoldsRows, Takes, StaysWritten}
use Rattle.myi_saferepair.proofs.OpenLaws.{none_reached}
use Rattle.myi_saferepair.proofs.KeyLaws.{next_lacks, row_put}
use Rattle.myi_saferepair.proofs.HeldLaws.{held_repeats}

-- files hold one thing
pub same_told : (h : Option Holding) (n o : Holding) → h ≡ Some n → h ≡ Some o → n ≡ o
same_told h n o one other = let e : Some n ≡ Some o = sym one ∙ other in cc

-- ---- as many trees as keys, and pairs

numbers_long : (low n : ℕ) → length (numbers_from low n) ≡ n
numbers_long low zero = refl
numbers_long low (suc n) = let more = numbers_long (suc low) n in omega (arith, more)

pub pairs_long : (d : Defs) (values : Values) (pointer : ℕ) (pairs : List Pair) → pairs ≡ row_pairs d values pointer → length pairs ≡ length d.keys
pairs_long d values pointer pairs is = ap (λ (ps : List Pair). length ps) is ∙ length-map (key_numbers d) (λ k. pair_with (key_of d k values) pointer) ∙ numbers_long 1 (length d.keys)

pub fit_long : (d : Defs) (places : List Place) → kinds places ≡ map (place_of d) (key_numbers d) → length places ≡ length d.keys
fit_long d places same =
    sym (length-map places (λ (p : Place). record p { root = None })) ∙ ap (λ (ps : List Place). length ps) same ∙ length-map (key_numbers d) (place_of d) ∙ numbers_long 1 (length d.keys)

room_each : (d : Defs) (row : ℕ) (ks : List ℕ) (places : List Place) → row < 256 ^ d.rec_ref → kinds places ≡ map (place_of d) ks → AllByRecursion (λ (p : Place). row < 256 ^ p.rec_ref) places
room_each d row ks [] near same = tt
room_each d row [] (p ∷ places) near same = absurd cc
room_each d row (k ∷ ks) (p ∷ places) near same =
    let first : record p { root = None } ≡ place_of d k = cc in
    let rest : kinds places ≡ map (place_of d) ks = cc in
    (subst (λ (n : ℕ). row < 256 ^ n) (sym (ap (λ (q : Place). q.rec_ref) first)) near, room_each d row ks places near rest)

pairs_room : (d : Defs) (values : Values) (row : ℕ) (ks : List ℕ) (places : List Place) → AllByRecursion (λ (p : Place). row < 256 ^ p.rec_ref) places → ArePointers places (map (λ k. pair_with (key_of d k values) row) ks)
pairs_room d values row [] places room = tt
pairs_room d values row (k ∷ ks) places room = (room, pairs_room d values row ks places room)

pub pointers_fit : (d : Defs) (values : Values) (at : ℕ) (pairs : List Pair) (places : List Place) → IsSound d → is_addressable d at ≡ true → kinds places ≡ map (place_of d) (key_numbers d) → pairs ≡ row_pairs d values (pointer d at) → ArePointers places pairs
pointers_fit d values at pairs places s reached same is =
    subst (ArePointers places) (sym is) (pairs_room d values (pointer d at) (key_numbers d) places (room_each d (pointer d at) (key_numbers d) places (pointer_near d at at s reached (omega arith)) same))

-- ---- the rows so far

-- the end is behind the rows that were written
pub end_is : (d : Defs) (rows : List SizedRow) (w : NewRows) → HasWritten d all_chosen rows w → AreStorable d rows → w.end ≡ length (stored_file d rows)
end_is d rows w has can = (has.stored can).end ∙ ap (λ (rs : List SizedRow). length (stored_file d rs)) (chosen_all rows)

-- row pointers reach the file where no row was written
pub start_reached : (d : Defs) (w : NewRows) → IsSound d → HasWritten d all_chosen [] w → is_addressable d w.end ≡ true
unfolding stored_file
start_reached d w s has =
    let none : w.end ≡ 0 = end_is d [] w has tt in
    ap (is_addressable d) none ∙ none_reached d s

-- what a search leaves
module _ (d : Defs) (row : SizedRow) (rows : List SizedRow) (file : List ℕ) (pairs : List Pair) (at : ℕ) (old new : NewFiles) (told next : Option Holding) (m : Holding) (held : told ≡ Some m) (apart : old.trees.cache.name ≢ file)
    (is : pairs ≡ row_pairs d row.values (pointer d at)) (holds : HoldsRows d file rows old.trees m) (stand : StillStand told next old.trees new.trees) (others : Told told next (OthersStay old.trees.cache.name)) where
  pub searched : StandThen old.trees m (free_from (first_page_of d)) next new.trees (key_lists d (placed_from d 0 rows))
  searched = stand m held (free_from (first_page_of d)) (key_lists d (placed_from d 0 rows)) holds.hold

  pub still_holds : HoldsRows d file rows new.trees searched.now
  still_holds =
      let t = others.told m held in
      let same = same_told next t.0 searched.now t.1 searched.held in
      record { stored = subst (λ (n : Holding). n file ≡ Some (stored_file d rows)) same (t.2 file (λ e. apart (sym e)) ∙ holds.stored); hold = searched.stand }

  pub repeats_is : (there : Bool) → IfStand told old.trees (λ n own lists. AreHeld d pairs lists there) → list_any (repeats_row d row) rows ≡ there
  repeats_is there answer =
      held_repeats d row (pointer d at) rows pairs there is (pairs_long d row.values (pointer d at) pairs is)
      (answer m held (free_from (first_page_of d)) (key_lists d (placed_from d 0 rows)) holds.hold)

-- a row that repeats one that was written is left out
pub left_out : (d : Defs) (file : List ℕ) (next_row : NextRow) (pairs : List Pair) (at : ℕ) (old new : NewFiles) (told next : Option Holding) → old.trees.cache.name ≢ file → ((row : SizedRow) → IsPrepared d row next_row → pairs ≡ row_pairs d row.values (pointer d at))
    → IfStand told old.trees (λ n own lists. AreHeld d pairs lists true) → StillStand told next old.trees new.trees → Told told next (OthersStay old.trees.cache.name) → Told told next (Takes d file next_row false old new)
left_out d file next_row pairs at old new told next apart is answer stand others = record {
  told = λ m held.
      let t = others.told m held in (
        t.0,
        t.1,
        λ row rows prepared written can holds.
            let here = still_holds d row rows file pairs at old new told next m held apart (is row prepared) holds stand others in
            let same = same_told next (searched d row rows file pairs at old new told next m held apart (is row prepared) holds stand others).now t.0 (searched d row rows file pairs at old new told next m held apart (is row prepared) holds stand others).held t.1 in
            let there : list_any (repeats_row d row) rows ≡ true = repeats_is d row rows file pairs at old new told next m held apart (is row prepared) holds stand others true answer in
            (ap not (sym there), subst (λ (n : Holding). HoldsRows d file rows new.trees n) same here),
      );
  untold = others.untold;
}

-- a row that repeats none is written, and its pairs are put
pub put_both : (d : Defs) (s : IsSound d) (file : List ℕ) (next_row : NextRow) (pairs : List Pair) (old mid new : NewFiles) (told then after next : Option Holding) → old.trees.cache.name ≢ file → mid.trees.cache.name ≡ old.trees.cache.name
    → ((row : SizedRow) → IsPrepared d row next_row → pairs ≡ row_pairs d row.values (pointer d old.rows.end))
    → IfStand told old.trees (λ n own lists. AreHeld d pairs lists false) → StillStand told then old.trees mid.trees → Told told then (OthersStay old.trees.cache.name)
    → Told then after (λ m n. (row : SizedRow) → IsPrepared d row next_row → WritesIf d file true row old.rows m n) → Told then after (OthersStay file)
    → IfStand after mid.trees (λ m own lists. LackPointers pairs lists → StandThen mid.trees m own next new.trees (put_each pairs lists)) → Told after next (OthersStay mid.trees.cache.name)
    → Told told next (Takes d file next_row true old new)
put_both d s file next_row pairs old mid new told then after next apart named is answer stand others writes stays put puts = record {
  told = λ m held.
      let t1 = others.told m held in
      let t2 = stays.told t1.0 t1.1 in
      let t3 = puts.told t2.0 t2.1 in (
        t3.0,
        t3.1,
        λ row rows prepared written can holds.
            let pair_is = is row prepared in
            let before : AreStorable d rows = (all_parts (IsStorable d) rows row can).0 in
            let found = searched d row rows file pairs old.rows.end old mid told then m held apart pair_is holds stand others in
            let here = still_holds d row rows file pairs old.rows.end old mid told then m held apart pair_is holds stand others in
            let one : found.now ≡ t1.0 = same_told then found.now t1.0 found.held t1.1 in
            let at_one : HoldsRows d file rows mid.trees t1.0 = subst (λ (n : Holding). HoldsRows d file rows mid.trees n) one here in
            let there : list_any (repeats_row d row) rows ≡ false = repeats_is d row rows file pairs old.rows.end old mid told then m held apart pair_is holds stand others false answer in
            let own = free_from (first_page_of d) in
            let lists = key_lists d (placed_from d 0 rows) in
            let elsewhere = stand_elsewhere mid.trees t1.0 t2.0 own lists (t2.2 mid.trees.cache.name (λ e. apart (sym named ∙ e))) at_one.hold in
            let two : elsewhere.now ≡ t2.0 = same_told (Some t2.0) elsewhere.now t2.0 elsewhere.held refl in
            let at_two : Stand mid.trees t2.0 own lists = subst (λ (n : Holding). Stand mid.trees n own lists) two elsewhere.stand in
            let ends : old.rows.end ≡ length (stored_file d rows) = end_is d rows old.rows written before in
            let lacks : LackPointers pairs lists = subst (λ (ps : List Pair). LackPointers ps lists) (sym pair_is) (next_lacks d rows row.values old.rows.end s before ends) in
            let done = put t2.0 t2.1 own lists at_two lacks in
            let three : done.now ≡ t3.0 = same_told next done.now t3.0 done.held t3.1 in
            let listed : put_each pairs lists ≡ key_lists d (placed_from d 0 (rows ++ row ∷ [])) = ap (λ (ps : List Pair). put_each ps lists) pair_is ∙ row_put d rows row old.rows.end s before ends in
            let w = writes.told t1.0 t1.1 in
            let w_is : w.0 ≡ t2.0 = same_told after w.0 t2.0 w.1 t2.1 in
            let file_then : t1.0 file ≡ Some (stored_file d (chosen all_chosen rows)) = at_one.stored ∙ ap (λ (rs : List SizedRow). Some (stored_file d rs)) (sym (chosen_all rows)) in
            let file_two : t2.0 file ≡ Some (stored_file d (rows ++ row ∷ [])) =
            subst (λ (n : Holding). n file ≡ Some (stored_file d (chosen all_chosen (rows ++ row ∷ [])))) w_is (w.2 row prepared all_chosen rows refl written before file_then)
            ∙ ap (λ (rs : List SizedRow). Some (stored_file d rs)) (chosen_all (rows ++ row ∷ [])) in (
              ap not (sym there),
              record {
                stored = t3.2 file (λ e. apart (sym named ∙ sym e)) ∙ file_two;
                hold = subst (λ (n : Holding). Stand new.trees n own (key_lists d (placed_from d 0 (rows ++ row ∷ [])))) three
                    (subst (λ (ls : List (List Pair)). Stand new.trees done.now own ls) listed done.stand);
              },
            ),
      );
  untold = λ none. puts.untold (stays.untold (others.untold none));
}

pub stays_in : (d : Defs) (next_row : NextRow) (old new : NewFiles) → ((row : SizedRow) → IsPrepared d row next_row → Adds d true row old.rows new.rows) → StaysWritten d next_row true old new
stays_in d next_row old new adds row rows prepared written = adds row prepared all_chosen rows refl written
