-- What the two files of a table are when it is closed.
use Rattle.std.proofs.Common.{◌≡◌, ◌≢◌, ℕ, Bool, true, zero, suc, ◌+◌, ◌^◌, ◌<◌, List, [], ◌∷◌, ◌++◌, length, take, drop, replicate, ◌-◌, map, All, HoldsAt, Option, Some, refl, sym, ap, subst, ◌∙◌, arith, inl, inr}
use Rattle.std.proofs.lemmas.Option.{same_Some}
use Rattle.std.specs.Prelude.{unwrap_or}
use Rattle.std.specs.List.{AllByRecursion}
use Rattle.myi_base.specs.Holding.{Holding, bytes_of, overwritten, Told, IfTold, OthersStay, Cuts, CutsOrKeeps, Writes, WritesPart}
use Rattle.myi_base.proofs.CallerLemmas.{told_then}
use Rattle.myi_defs.specs.declared.types.Defs.{Defs}
use Rattle.myi_defs.specs.ReadDefs.{AreDefs}
use Rattle.myi_defs.specs.Sound.{IsSound}
use Rattle.myi_defs.specs.Elsewhere.{AgreeOutsideState}
use Rattle.myi_header.specs.declared.state.State.{State}
use Rattle.myi_header.specs.Layout.{first_page_of}
use Rattle.myi_header.specs.StateOf.{IsPlace, state_of, has_mark}
use Rattle.myi_keycache.specs.Kept.{AllWritten}
use Rattle.myi_keycache.specs.Caching.{pages_of}
use Rattle.myi_btree.specs.declared.place.Place.{Place}
use Rattle.myi_btree.specs.declared.place.Room.{Room}
use Rattle.myi_search.specs.Counting.{CountsOn}
use Rattle.myi_insertion.specs.Rooms.{IsWhole}
use Rattle.myi_state.specs.State.{TableState}
use Rattle.myi_slots.specs.SlotFile.{SlotFile, counts_in}
use Rattle.myi_state.specs.declared.counts.Counts.{Counts}
use Rattle.myi_keytrees.specs.Trees.{Trees, kinds}
use Rattle.myi_keylist.specs.declared.pair.Pair.{Pair}
use Rattle.myi_keytrees.specs.Standing.{Stand, StillStand}
use Rattle.myi_keytrees.specs.InFile.{bytes_of_free, StandIn}
use Rattle.myi_rowtrees.specs.RowLists.{lists_of}
use Rattle.myi_tablestate.specs.Standing.{StandForTable}
use Rattle.myi_opening.specs.Names.{rows_file, index_file}
use Rattle.myi_keyedrows.specs.declared.keyed_rows.KeyedRows.{KeyedRows}
use Rattle.myi_keyedrows.specs.KeyedRows.{defs_of, IsFit, IsLeft}
use Rattle.myi_keyedrows.specs.Files.{AreOfKeys, HoldFiles, IsHeaderOf, closed_index, defs_with}
use Rattle.myi_keyedrows.proofs.CallerLemmas.{look_stands}
use Rattle.myi_table.specs.Table.{OpenTable, defs_in, HoldState, StillHolds, IfHolds, IsSame, KeepsRows}
use Rattle.myi_table.specs.Closing.{closing_state, HasState, TreesStand, IsClosed}
use Rattle.myi_table.specs.Tied.{IsTied}
use Rattle.myi_table.proofs.ChangeLemmas.{with_rows, still_rows, tied_again}

-- ---- pages that were written

-- the table with its trees after a call
abbrev pub with_trees : OpenTable → Trees → OpenTable
with_trees t trees = with_rows t (record { rows = t.rows.rows; trees = trees }) t.changed t.broken

pub written_holds : (told next : Option Holding) (t : OpenTable) (trees : Trees) → IsFit t.rows → StillStand told next t.rows.trees trees → Told told next (OthersStay t.rows.trees.cache.name) → trees.cache.name ≡ t.rows.trees.cache.name
    → StillHolds told next t (with_trees t trees)
written_holds told next t trees fit still others name =
    still_rows told next t (record { rows = t.rows.rows; trees = trees }) (record { defs = refl; file = refl; index = name }) (look_stands t.rows trees told next fit.apart still others)

-- the same trees with other pages kept
written_fit : (k : KeyedRows) (trees : Trees) → IsFit k → trees.places ≡ k.trees.places → trees.room ≡ k.trees.room → trees.cache.name ≡ k.trees.cache.name → IsFit (record { rows = k.rows; trees = trees })
written_fit k trees fit places room name = record {
  sound = fit.sound;
  each = ap length places ∙ fit.each;
  pointers = subst (AllByRecursion (λ (p : Place). p.rec_ref ≡ (defs_of k).rec_ref)) (sym places) fit.pointers;
  whole = subst IsWhole (sym room) fit.whole;
  apart = λ e. fit.apart (e ∙ name);
}

pub written_tied : (t : OpenTable) (trees : Trees) (defs : Defs) (index : List ℕ) → IsTied t defs index → trees.places ≡ t.rows.trees.places → trees.room ≡ t.rows.trees.room → trees.cache.name ≡ t.rows.trees.cache.name → CountsOn t.rows.trees.cache trees.cache
    → IsTied (with_trees t trees) defs index
written_tied t trees defs index tied places room name counted =
    tied_again t (record { rows = t.rows.rows; trees = trees }) t.changed t.broken defs index tied (written_fit t.rows trees tied.fit places room name) (ap kinds places) counted (record { defs = refl; file = refl; index = name })

some_page : (d : Defs) → IsSound d → 0 < first_page_of d
some_page d s = omega (arith, s.header, s.base_inside, s.base)

-- where all pages are written the trees stand in the file
abbrev pub WrittenStand : Type 0
WrittenStand = (trees : Trees) (m : Holding) (own : ℕ → ℕ) (lists : List (List Pair)) (first : ℕ) → 0 < first → AllWritten (pages_of trees.cache) → ((x : ℕ) → x < first → own x ≡ 0) → (s : Stand trees m own lists) → StandIn (bytes_of trees.cache.name m) first trees.room.end trees.places lists s.pages

pub written_stand : (told next : Option Holding) (old new : OpenTable) (defs : Defs) (index : List ℕ) → WrittenStand → IsTied new defs index → AllWritten (pages_of new.rows.trees.cache) → StillHolds told next old new → IfHolds told old (λ m s. IfTold next (TreesStand new s))
written_stand told next old new defs index law tied written still = λ m held s h n then.
    let g = still m held s h in
    let here : HoldState new s n = subst (λ (q : Holding). HoldState new s q) (same_Some g.0 n (sym g.1 ∙ then)) g.2 in
    let trees = here.files.table.trees in (
      trees.pages,
      subst (λ (name : List ℕ). StandIn (bytes_of name n) (first_page_of (defs_in new)) new.rows.trees.room.end new.rows.trees.places (lists_of (defs_in new) s.rows) trees.pages) tied.index_named
          (law new.rows.trees n here.own (lists_of (defs_in new) s.rows) (first_page_of (defs_in new)) (some_page (defs_in new) tied.fit.sound) written here.files.behind trees),
    )

-- ---- the data file

-- it stays where the index file is cut and its header is written
pub rows_closed : (told mid low end : Option Holding) (t now : OpenTable) (defs : Defs) (index h : List ℕ) (n : ℕ) → IsTied now defs index → now.name ≡ t.name → Told told mid (KeepsRows t.name) → Told mid low (Cuts index n) → Told low end (Writes index 0 h) → Told told end (KeepsRows t.name)
rows_closed told mid low end t now defs index h n tied name kept cut write =
    let apart : rows_file t.name ≢ index = λ e. tied.fit.apart (tied.rows_named ∙ ap rows_file name ∙ e ∙ tied.index ∙ sym tied.index_named) in
    told_then told low end _ _ (KeepsRows t.name) (told_then told mid low _ _ (KeepsRows t.name) kept cut (λ l m k keeps cuts. cuts.others (rows_file t.name) apart ∙ keeps)) write (λ l m k keeps writes. writes.others (rows_file t.name) apart ∙ keeps)

-- a call that failed changed no other file
pub cut_stays : (name : List ℕ) (size : ℕ) (m n : Holding) → CutsOrKeeps name size m n → OthersStay name m n
cut_stays name size m n (inl keeps) q other = ap (λ (h : Holding). h q) keeps
cut_stays name size m n (inr cuts) q other = cuts.others q other

pub write_stays : (name : List ℕ) (at : ℕ) (bytes : List ℕ) (m n : Holding) → WritesPart name at bytes m n → OthersStay name m n
write_stays name at bytes m n (inl keeps) q other = ap (λ (h : Holding). h q) keeps
write_stays name at bytes m n (inr (k, few, writes)) q other = writes.others q other

-- and where another file alone is changed
pub rows_stay : (told mid next : Option Holding) (t now : OpenTable) (defs : Defs) (index other : List ℕ) → IsTied now defs index → now.name ≡ t.name → other ≡ index → Told told mid (KeepsRows t.name) → Told mid next (OthersStay other) → Told told next (KeepsRows t.name)
rows_stay told mid next t now defs index other tied name is kept stay =
    let apart : rows_file t.name ≢ other = λ e. tied.fit.apart (tied.rows_named ∙ ap rows_file name ∙ e ∙ is ∙ tied.index ∙ sym tied.index_named) in
    told_then told mid next _ _ (KeepsRows t.name) kept stay (λ l m k keeps stays. stays (rows_file t.name) apart ∙ keeps)

-- ---- the state

-- one root more
root_more : (ps : List Place) (i : ℕ) (p : Place) → i < length ps → HoldsAt (λ (q : Place). q ≡ p) ps i → map (λ (q : Place). q.root) (take i ps) ++ (p.root ∷ []) ≡ map (λ (q : Place). q.root) (take (suc i) ps)
root_more [] i p few at = absurd (omega (arith, few))
root_more (q ∷ ps) zero p few at = ap {B = List (Option ℕ)} (λ (r : Place). r.root ∷ []) (sym (at q))
root_more (q ∷ ps) (suc i) p few at = ap (λ (rs : List (Option ℕ)). q.root ∷ rs) (root_more ps i p (omega (arith, few)) at)

pub roots_more : (ps : List Place) (i : ℕ) (p : Place) (root : Option ℕ) (old new : List (Option ℕ)) → i < length ps → HoldsAt (λ (q : Place). q ≡ p) ps i → root ≡ p.root → new ≡ old ++ (root ∷ []) → old ≡ map (λ (q : Place). q.root) (take i ps)
    → new ≡ map (λ (q : Place). q.root) (take (i + 1) ps)
roots_more ps i p root old new few at is more have =
    more ∙ ap (λ (rs : List (Option ℕ)). rs ++ (root ∷ [])) have ∙ ap (λ (r : Option ℕ). map (λ (q : Place). q.root) (take i ps) ++ (r ∷ [])) is ∙ root_more ps i p few at ∙ (let e : suc i ≡ i + 1 = omega arith in ap (λ j. map (λ (q : Place). q.root) (take j ps)) e)

place_more : (xs : List (Option ℕ)) (x : Option ℕ) → All IsPlace xs → IsPlace x → All IsPlace (xs ++ (x ∷ []))
place_more [] x all is zero d few = is
place_more [] x all is (suc k) d few = absurd (omega (arith, few))
place_more (y ∷ xs) x all is zero d few = all zero d (omega arith)
place_more (y ∷ xs) x all is (suc k) d few = place_more xs x (λ j e low. all (suc j) e (omega (arith, low))) is k d (omega (arith, few))

pub places_more : (old new : List (Option ℕ)) (x : Option ℕ) → new ≡ old ++ (x ∷ []) → All IsPlace old → IsPlace x → All IsPlace new
places_more old new x more all is = subst (λ (xs : List (Option ℕ)). All IsPlace xs) (sym more) (place_more old x all is)

-- what is lost and free is no more than the room begins at
pub few_lost : (t : OpenTable) (s : TableState) (m : Holding) → HoldState t s m → t.rows.trees.room.end < 2 ^ 64 → t.lost + bytes_of_free t.rows.trees.room.free < 2 ^ 64
few_lost t s m h small = let counted = h.files.counted in omega (arith, counted, small)

pub is_header : (t : OpenTable) (h : List ℕ) → HasState t h → t.lost + bytes_of_free t.rows.trees.room.free < 2 ^ 64 → IsHeaderOf t.rows t.lost h
is_header t h has few = record {
  long = has.long;
  mark = has.mark;
  elsewhere = has.elsewhere;
  numbers = ap counts_in has.state;
  roots = ap (λ (s : State). s.roots) has.state;
  end = ap (λ (s : State). s.key_file_length) has.state;
  empty = let e = ap (λ (s : State). s.key_empty) has.state in omega (arith, e, few);
}

abbrev pub FilesClosed : Type 0
FilesClosed = (k : KeyedRows) (lost : ℕ) (own : ℕ → ℕ) (s : TableState) (m : Holding) (h : List ℕ) → AreDefs (defs_of k) → AreOfKeys k → HoldFiles k lost own s m → AllWritten (pages_of k.trees.cache) → IsHeaderOf k lost h
    → StandForTable (defs_with (defs_of k) (closed_index k h m)) s (bytes_of k.rows.file.name m) (closed_index k h m)

-- ---- the header

all_taken : (h more : List ℕ) → take (length h) (h ++ more) ≡ h
all_taken [] more = refl
all_taken (x ∷ h) more = ap (λ (xs : List ℕ). x ∷ xs) (all_taken h more)

over_taken : (h z : List ℕ) → take (length h) (overwritten 0 h z) ≡ h
over_taken h z =
    let none : 0 - length z ≡ 0 = omega arith in
    ap (λ (n : ℕ). take (length h) ((take 0 z ++ replicate n 0) ++ h ++ drop (0 + length h) z)) none ∙ all_taken h (drop (0 + length h) z)

-- the state of closing rests on the header that was read, the numbers, the trees and what is lost
abbrev state_from : OpenTable → State → ℕ → Bool → Counts → List Place → Room → State
state_from t header lost changed counts places room = closing_state (record t {
  header = header;
  lost = lost;
  changed = changed;
  rows = record { rows = record t.rows.rows { file = record t.rows.rows.file { counts = counts } }; trees = record t.rows.trees { places = places; room = room } };
})

same_closing : (t now : OpenTable) → IsSame t now → now.changed ≡ t.changed → IsLeft t.rows now.rows → closing_state now ≡ closing_state t
same_closing t now same changed left =
    ap (λ (x : State). state_from t x now.lost now.changed now.rows.rows.file.counts now.rows.trees.places now.rows.trees.room) same.header
    ∙ ap (λ (x : ℕ). state_from t t.header x now.changed now.rows.rows.file.counts now.rows.trees.places now.rows.trees.room) same.lost
    ∙ ap (λ (x : Bool). state_from t t.header t.lost x now.rows.rows.file.counts now.rows.trees.places now.rows.trees.room) changed
    ∙ ap (λ (x : SlotFile). state_from t t.header t.lost t.changed x.counts now.rows.trees.places now.rows.trees.room) left.file
    ∙ ap (λ (x : List Place). state_from t t.header t.lost t.changed t.rows.rows.file.counts x now.rows.trees.room) left.places
    ∙ ap (λ (x : Room). state_from t t.header t.lost t.changed t.rows.rows.file.counts t.rows.trees.places x) left.room

same_state : (t now : OpenTable) (h : List ℕ) → IsSame t now → now.changed ≡ t.changed → IsLeft t.rows now.rows → HasState now h → HasState t h
same_state t now h same changed left has = record {
  long = has.long ∙ ap first_page_of same.defs;
  mark = subst (λ (d : Defs). has_mark d h ≡ true) same.defs has.mark;
  elsewhere = subst (λ (d : Defs). AgreeOutsideState d.raw h) same.defs has.elsewhere;
  state = ap (λ (d : Defs). state_of d h) (sym same.defs) ∙ has.state ∙ same_closing t now same changed left;
}

pub is_closed : FilesClosed → (t now : OpenTable) (s : TableState) (m n p : Holding) (h : List ℕ) (defs : Defs) (index : List ℕ) → IsTied now defs index → now.name ≡ t.name → defs_in now ≡ defs_in t → HasState t h → HoldState now s m → AllWritten (pages_of now.rows.trees.cache)
    → IsHeaderOf now.rows now.lost h → Cuts index now.rows.trees.room.end m n → Writes index 0 h n p → IsClosed t s p
is_closed law t now s m n p h defs index tied name same has hold written header cut write =
    let k = now.rows in
    let file = k.trees.cache.name in
    let e : index ≡ file = tied.index ∙ sym tied.index_named in
    let cuts : Cuts file k.trees.room.end m n = subst (λ (q : List ℕ). Cuts q k.trees.room.end m n) e cut in
    let writes : Writes file 0 h n p = subst (λ (q : List ℕ). Writes q 0 h n p) e write in
    let y = closed_index k h m in
    let there : p file ≡ Some y = writes.here ∙ ap (λ (f : Option (List ℕ)). Some (overwritten 0 h (unwrap_or f []))) cuts.here in
    let stays : p k.rows.file.name ≡ m k.rows.file.name = writes.others k.rows.file.name tied.fit.apart ∙ cuts.others k.rows.file.name tied.fit.apart in
    let named : rows_file t.name ≡ k.rows.file.name = ap rows_file (sym name) ∙ sym tied.rows_named in
    let bytes : bytes_of k.rows.file.name m ≡ bytes_of (rows_file t.name) p = ap (λ (f : Option (List ℕ)). unwrap_or f []) (sym stays) ∙ ap (λ (q : List ℕ). bytes_of q p) (sym named) in
    let stand = law k now.lost hold.own s m h (subst AreDefs (sym tied.defs) tied.are) tied.keys hold.files written header in
    record {
      index = y;
      there = ap p (ap index_file (sym name) ∙ sym tied.index_named) ∙ there;
      header = subst (λ (x : List ℕ). HasState t x) (sym (ap (λ (n : ℕ). take n y) (sym has.long) ∙ over_taken h _)) has;
      stand = subst (λ (b : List ℕ). StandForTable (defs_with (defs_in t) y) s b y) bytes (subst (λ (d : Defs). StandForTable (defs_with d y) s (bytes_of k.rows.file.name m) y) same stand);
    }

-- the files after the pages, the cut and the header were written
pub closed_here : FilesClosed → (told mid low end : Option Holding) (t now : OpenTable) (defs : Defs) (index h : List ℕ) (n : ℕ) → IsTied now defs index → IsSame t now → now.changed ≡ t.changed → IsLeft t.rows now.rows → StillHolds told mid t now → AllWritten (pages_of now.rows.trees.cache) → HasState now h
    → n ≡ now.rows.trees.room.end → n < 2 ^ 64 → Told mid low (Cuts index n) → Told low end (Writes index 0 h) → IfHolds told t (λ m s. IfTold end (IsClosed t s))
closed_here law told mid low end t now defs index h n tied same changed left still written has is few cut write = λ m held s hold p ended.
    let k = still m held s hold in
    let c = cut.told k.0 k.1 in
    let w = write.told c.0 c.1 in
    let small : now.rows.trees.room.end < 2 ^ 64 = subst (λ (j : ℕ). j < 2 ^ 64) is few in
    let header = is_header now h has (few_lost now s k.0 k.2 small) in
    let cuts : Cuts index now.rows.trees.room.end k.0 c.0 = subst (λ (j : ℕ). Cuts index j k.0 c.0) is c.2 in
    subst (λ (q : Holding). IsClosed t s q) (same_Some w.0 p (sym w.1 ∙ ended)) (is_closed law t now s k.0 c.0 w.0 h defs index tied same.name same.defs (same_state t now h same changed left has) k.2 written header cuts w.2)
