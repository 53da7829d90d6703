-- A table that is loaded is the one of its two files.
use Rattle.std.proofs.Common.{◌≡◌, ℕ, ◌+◌, ◌-◌, ◌*◌, ◌/◌, ◌^◌, ◌<◌, ◌≤◌, Bool, true, false, not, List, [], ◌++◌, length, take, drop, min, Option, Some, None, Result, Ok, Err, zero, suc, ◌∷◌, get_or, refl, sym, ap, subst, ◌∙◌, arith, inl, inr}
use Rattle.std.specs.Prelude.{◌≢◌, ◌⊎◌, nat_lt, if◌then◌else◌, map, replicate, codes}
use Rattle.std.specs.List.{AllByRecursion}
use Rattle.std.specs.Str.{bytes_eq}
use Rattle.std.proofs.lemmas.Bool.{ltb-true}
use Rattle.std.proofs.lemmas.List.{append_cancel_left, length-map, length-replicate, length-drop, length-take, take-append-drop, take-append-le, drop-append-le}
use Rattle.myi_base.specs.Numbers.{num_at, pointer_of}
use Rattle.myi_base.specs.Holding.{Holding, IfTold}
use Rattle.myi_base.specs.Items.{numbers}
use Rattle.myi_defs.specs.declared.types.Defs.{Defs}
use Rattle.myi_defs.specs.Layout.{mark}
use Rattle.myi_defs.specs.Sound.{IsSound}
use Rattle.myi_defs.specs.ReadDefs.{read_defs, AreDefs}
use Rattle.myi_defs.proofs.CallerLemmas.{sound, are_defs, raw-header}
use Rattle.myi_header.specs.declared.state.State.{State}
use Rattle.myi_header.specs.declared.state.StateFault.{StateFault}
use Rattle.myi_header.specs.declared.state.StateFault.TheVariants as sf
use Rattle.myi_header.specs.Layout.{layout_of}
use Rattle.myi_header.specs.StateOf.{state_of, has_mark, read_state}
use Rattle.myi_header.proofs.CallerLemmas.{state-take, state-rest}
use Rattle.myi_keycache.specs.Caching.{pages_of, IsCurrent}
use Rattle.myi_btree.specs.declared.place.Place.{Place}
use Rattle.myi_btree.specs.declared.place.Room.{Room}
use Rattle.myi_btree.specs.Sizes.{IsPlaced}
use Rattle.myi_state.specs.State.{TableState}
use Rattle.myi_slots.specs.SlotFile.{SlotFile, counts_in}
use Rattle.myi_insertion.specs.Rooms.{IsWhole}
use Rattle.myi_pair.specs.FirstRows.{key_numbers, numbers_from}
use Rattle.myi_pair.specs.Trees.{place_of}
use Rattle.myi_keytrees.specs.Trees.{kinds}
use Rattle.myi_tablestate.specs.Standing.{StandForTable}
use Rattle.myi_opening.specs.Names.{rows_file, index_file}
use Rattle.myi_opening.specs.declared.fault.TableFault.{TableFault}
use Rattle.myi_opening.specs.Opening as opening
use Rattle.myi_opening.proofs.CallerLemmas.{table_index, table_rows, table_read}
use Rattle.myi_rowtrees.specs.Places.{places_from, places_of}
use Rattle.myi_keyedrows.specs.declared.keyed_rows.KeyedRows.{KeyedRows}
use Rattle.myi_keyedrows.specs.KeyedRows.{defs_of}
use Rattle.myi_keyedrows.specs.Files.{used_end, room_begin, lost_bytes, IsOpened, HoldFiles}
use Rattle.myi_table.specs.declared.fault.LoadFault.TheVariants as load
use Rattle.myi_table.specs.Faults.{of_opening, of_state}
use Rattle.myi_table.specs.Table.{OpenTable, defs_in}
use Rattle.myi_table.specs.Loading.{marked_by, loaded_by, table_in, IsLoaded, IsCutOff, IsRefused}
use Rattle.myi_keycache.specs.Setup.{IsSetup}
use Rattle.myi_table.specs.Tied.{IsTied}

ok_same : {A E : Type 0} (x y : A) → ◌≡◌ {A = Result A E} (Ok x) (Ok y) → x ≡ y
ok_same x y same = cc

-- ---- the state of a header

-- the header has the mark, and this state
pub record IsRead (d : Defs) (x : List ℕ) (s : State) : Type 0 where
  pub mark : has_mark d x ≡ true
  pub state : s ≡ state_of d x

by_parts : (d : Defs) (x : List ℕ) (s : State) (short marked : Bool) → has_mark d x ≡ marked → (if short then Err sf.Short else if not marked then Err sf.Foreign else Ok (state_of d x)) ≡ Ok s → IsRead d x s
by_parts d x s true marked mark is = absurd cc
by_parts d x s false false mark is = absurd cc
by_parts d x s false true mark is = record { mark = mark; state = sym (ok_same {E = StateFault} (state_of d x) s is) }

pub read_parts : (d : Defs) (x : List ℕ) (s : State) → read_state d x ≡ Ok s → IsRead d x s
unfolding read_state
read_parts d x s is = by_parts d x s (nat_lt (length x) (length d.raw)) (has_mark d x) refl is

-- a header that is foreign has no mark
foreign_by : (s : State) (short marked : Bool) → ◌≡◌ {A = Result State StateFault} (if short then Err sf.Short else if not marked then Err sf.Foreign else Ok s) (Err sf.Foreign) → marked ≡ false
foreign_by s true marked is = absurd cc
foreign_by s false false is = refl
foreign_by s false true is = absurd cc

pub foreign_parts : (d : Defs) (x : List ℕ) → read_state d x ≡ Err sf.Foreign → has_mark d x ≡ false
unfolding read_state
foreign_parts d x is = foreign_by (state_of d x) (nat_lt (length x) (length d.raw)) (has_mark d x) is

-- ---- the file that begins with that header

front_part : (p n : ℕ) (h more : List ℕ) → p + n ≤ length h → take n (drop p (h ++ more)) ≡ take n (drop p h)
front_part p n h more le = rw (drop-append-le p h more (omega (arith, le)), take-append-le n (drop p h) more (omega (arith, le, length-drop p h))) refl

mark_longer : (d : Defs) (h more : List ℕ) → IsSound d → length d.raw ≤ length h → has_mark d (h ++ more) ≡ has_mark d h
unfolding has_mark
mark_longer d h more good le = ap (λ (b : List ℕ). bytes_eq b mark) (front_part ((layout_of d).base + 94) 6 h more (omega (arith, le, good.base, good.base_inside)))

pub mark_of_file : (d : Defs) (x : List ℕ) → read_defs x ≡ Ok d → has_mark d x ≡ has_mark d d.raw
mark_of_file d x read =
    let good : IsSound d = sound d (are_defs x d read) in
    let n = num_at 6 2 x in
    let whole : x ≡ d.raw ++ drop n x = sym (take-append-drop n x) ∙ ap (λ (f : List ℕ). f ++ drop n x) (sym (raw-header x d read)) in
    ap (has_mark d) whole ∙ mark_longer d d.raw (drop n x) good (omega arith)

pub state_of_file : (d : Defs) (x : List ℕ) → read_defs x ≡ Ok d → state_of d d.raw ≡ state_of d x
state_of_file d x read =
    let good : IsSound d = sound d (are_defs x d read) in
    let raw = raw-header x d read in
    ap (state_of d) raw ∙ state-take d (num_at 6 2 x) x good (let e = ap (λ (f : List ℕ). length f) raw in omega (arith, e, length-take (num_at 6 2 x) x))

-- ---- what is answered

pub is_table : (name : List ℕ) (m : Holding) (d : Defs) (b x : List ℕ) → opening.table_in (index_file name) (rows_file name) m ≡ Ok (opening.table d b x) → has_mark d d.raw ≡ true → table_in name m ≡ Ok (opening.table d b x)
unfolding table_in
is_table name m d b x is marked = ap loaded_by is ∙ ap (λ (c : Bool). marked_by c (opening.table d b x)) (mark_of_file d x (table_read (index_file name) (rows_file name) (opening.table d b x) m is) ∙ marked)

pub is_foreign : (name : List ℕ) (m : Holding) (d : Defs) (b x : List ℕ) → opening.table_in (index_file name) (rows_file name) m ≡ Ok (opening.table d b x) → has_mark d d.raw ≡ false → table_in name m ≡ Err load.Foreign
unfolding table_in
is_foreign name m d b x is marked = ap loaded_by is ∙ ap (λ (c : Bool). marked_by c (opening.table d b x)) (mark_of_file d x (table_read (index_file name) (rows_file name) (opening.table d b x) m is) ∙ marked)

pub is_refused : (name : List ℕ) (m : Holding) (f : TableFault) → opening.table_in (index_file name) (rows_file name) m ≡ Err f → table_in name m ≡ Err (of_opening f)
unfolding table_in
is_refused name m f is = ap loaded_by is

-- ---- the table

abbrev pub FilesOpened : Type 0
FilesOpened = (k : KeyedRows) (m : Holding) (s : TableState) (b x : List ℕ) → IsOpened k x → IsCurrent k.trees.cache m → m k.rows.file.name ≡ Some b → m k.trees.cache.name ≡ Some x → StandForTable (defs_of k) s b x
    → (own : ℕ → ℕ) × HoldFiles k (lost_bytes (defs_of k) (state_of (defs_of k) x)) own s m

-- the rows and trees of a table are as they were opened, by the state of the header
pub record AreOpened (t : OpenTable) (d : Defs) (begin : ℕ) : Type 0 where
  pub file : t.rows.rows.file ≡ record { name = rows_file t.name; defs = d; counts = counts_in t.header }
  pub noted : t.rows.rows.places ≡ None
  pub places : t.rows.trees.places ≡ places_of d t.header.roots
  pub placed : AllByRecursion IsPlaced t.rows.trees.places
  pub room : t.rows.trees.room ≡ record { end = begin; free = [] }
  pub begins : begin ≡ room_begin d t.header
  pub small : begin < 2 ^ 64
  pub index : t.rows.trees.cache.name ≡ index_file t.name
  pub kept : pages_of t.rows.trees.cache ≡ []
  pub current : (m : Holding) → IsCurrent t.rows.trees.cache m
  pub lost : t.lost ≡ min (t.header.key_empty + (begin - used_end d t.header)) (2 ^ 64 - 1)
  pub whole : t.broken ≡ None

pub is_loaded : FilesOpened → (t : OpenTable) (d : Defs) (begin : ℕ) (m : Holding) (b x : List ℕ) → AreOpened t d begin → opening.table_in (index_file t.name) (rows_file t.name) m ≡ Ok (opening.table d b x) → IsRead d d.raw t.header → IsLoaded t.name t m
is_loaded law t d begin m b x o is read =
    let table = opening.table d b x in
    let reads : read_defs x ≡ Ok d = table_read (index_file t.name) (rows_file t.name) table m is in
    let defs : defs_in t ≡ d = ap (λ (f : SlotFile). f.defs) o.file in
    let header : t.header ≡ state_of d x = read.state ∙ state_of_file d x reads in
    let again : state_of d x ≡ state_of (defs_in t) x = ap (λ (e : Defs). state_of e x) (sym defs) in
    let state : t.header ≡ state_of (defs_in t) x = header ∙ again in
    let begins : begin ≡ room_begin (defs_in t) (state_of (defs_in t) x) = o.begins ∙ ap (room_begin d) state ∙ ap (λ (e : Defs). room_begin e (state_of (defs_in t) x)) (sym defs) in
    let one : IsOpened t.rows x = record {
      numbers = ap (λ (f : SlotFile). f.counts) o.file ∙ ap counts_in state;
      noted = o.noted;
      roots = o.places ∙ ap (λ (s : State). places_of d s.roots) state ∙ ap (λ (e : Defs). places_of e (state_of (defs_in t) x).roots) (sym defs);
      placed = o.placed;
      room = o.room ∙ ap (λ (n : ℕ). record { end = n; free = [] }) begins;
      kept = o.kept;
    } in
    let rows_there : m t.rows.rows.file.name ≡ Some b = ap m (ap (λ (f : SlotFile). f.name) o.file) ∙ table_rows (index_file t.name) (rows_file t.name) table m is in
    let index : m t.rows.trees.cache.name ≡ Some x = ap m o.index ∙ table_index (index_file t.name) (rows_file t.name) table m is in
    let lost : lost_bytes d t.header ≡ lost_bytes (defs_in t) (state_of (defs_in t) x) = ap (lost_bytes d) state ∙ ap (λ (e : Defs). lost_bytes e (state_of (defs_in t) x)) (sym defs) in
    record {
      files = table;
      is = is_table t.name m d b x is read.mark;
      defs = defs;
      header = header;
      stands = λ s stand.
          let h = law t.rows m s b x one (o.current m) rows_there index (subst (λ (e : Defs). StandForTable e s b x) (sym defs) stand) in
          let end = ap (λ (r : Room). r.end) o.room in
          let counted = h.1.counted in
          let enough : lost_bytes (defs_in t) (state_of (defs_in t) x) ≡ t.lost = omega (arith, lost, o.lost, o.begins, o.small, end, counted) in
          record { whole = o.whole; own = h.0; files = subst (λ (n : ℕ). HoldFiles t.rows n h.0 s m) enough h.1 };
    }

-- ---- why there is none

pub refused_opening : (name i r : List ℕ) (told : Option Holding) (f : TableFault) → i ≡ index_file name → r ≡ rows_file name → opening.IsCutOff f ⊎ IfTold told (opening.HasNoTable i r f) → IsCutOff (of_opening f) ⊎ IfTold told (IsRefused name (of_opening f))
refused_opening name i r told f index rows (inl (inl cut)) = inl (inl (ap of_opening cut))
refused_opening name i r told f index rows (inl (inr cut)) = inl (inr (ap of_opening cut))
refused_opening name i r told f index rows (inr none) = inr (λ m held. is_refused name m f (ap (λ (a : List ℕ). opening.table_in a (rows_file name) m) (sym index) ∙ ap (λ (a : List ℕ). opening.table_in i a m) (sym rows) ∙ none m held))

-- the table that was opened is one by these names
pub opened_by : (name i r : List ℕ) (d : Defs) (size : ℕ) (m : Holding) → i ≡ index_file name → r ≡ rows_file name → (h : opening.HasTable i r d size m) → opening.table_in (index_file name) (rows_file name) m ≡ Ok (opening.table d h.data_file h.index_file)
opened_by name i r d size m index rows h = ap (λ (a : List ℕ). opening.table_in a (rows_file name) m) (sym index) ∙ ap (λ (a : List ℕ). opening.table_in i a m) (sym rows) ∙ h.is

short_by : (s : State) (short marked : Bool) → ◌≡◌ {A = Result State StateFault} (if short then Err sf.Short else if not marked then Err sf.Foreign else Ok s) (Err sf.Short) → short ≡ true
short_by s true marked is = refl
short_by s false false is = absurd cc
short_by s false true is = absurd cc

-- a header is not shorter than itself
no_short : (d : Defs) → read_state d d.raw ≡ Err sf.Short → ⊥
unfolding read_state
no_short d is = let less = short_by (state_of d d.raw) (nat_lt (length d.raw) (length d.raw)) (has_mark d d.raw) is in omega (arith, ltb-true (length d.raw) (length d.raw) less)

pub refused_state : (name i r : List ℕ) (told : Option Holding) (d : Defs) (size : ℕ) (f : StateFault) → i ≡ index_file name → r ≡ rows_file name → IfTold told (opening.HasTable i r d size) → (f ≢ sf.Memory → read_state d d.raw ≡ Err f) → IsCutOff (of_state f) ⊎ IfTold told (IsRefused name (of_state f))
refused_state name i r told d size sf.Short index rows opened refused = absurd (no_short d (refused (λ e. absurd cc)))
refused_state name i r told d size sf.Foreign index rows opened refused = inr (λ m held.
    let h = opened m held in
    is_foreign name m d h.data_file h.index_file (opened_by name i r d size m index rows h) (foreign_parts d d.raw (refused (λ e. absurd cc))))
refused_state name i r told d size sf.Memory index rows opened refused = inl (inr refl)

-- ---- what holds over any files

numbers_long : (at : ℕ) (ws x : List ℕ) → length (numbers at ws x) ≡ length ws
numbers_long at [] x = refl
numbers_long at (w ∷ ws) x = ap suc (numbers_long (at + w) ws x)

from_long : (at n : ℕ) → length (numbers_from at n) ≡ n
from_long at zero = refl
from_long at (suc n) = ap suc (from_long (suc at) n)

pub roots_long : (d : Defs) (x : List ℕ) → length (state_of d x).roots ≡ length d.keys
unfolding state_of
roots_long d x =
    let widths = replicate (length d.keys) 8 in
    length-map (numbers 124 widths x) pointer_of ∙ numbers_long 124 widths x ∙ length-replicate (length d.keys) 8

pub read_roots : (d : Defs) (x : List ℕ) (s : State) → IsRead d x s → length s.roots ≡ length d.keys
read_roots d x s read = ap (λ (t : State). length t.roots) read.state ∙ roots_long d x

kinds_from : (d : Defs) (ks : List ℕ) (roots : List (Option ℕ)) → length roots ≡ length ks → kinds (places_from d ks roots) ≡ map (place_of d) ks
kinds_from d [] roots long = refl
kinds_from d (k ∷ ks) [] long = absurd (omega (arith, long))
kinds_from d (k ∷ ks) (root ∷ roots) long = ap (λ (l : List Place). place_of d k ∷ l) (kinds_from d ks roots (omega (arith, long)))

names_apart : (name : List ℕ) → rows_file name ≢ index_file name
names_apart name = λ same. let other = ap (λ xs. get_or xs 3 0) (append_cancel_left name (codes ".MYD") (codes ".MYI") same) in omega (arith, other)

-- the same of trees and cache that the files do not tell
pub record AreFirst (t : OpenTable) (d : Defs) : Type 0 where
  pub each : length t.rows.trees.places ≡ length d.keys
  pub pointers : AllByRecursion (λ (p : Place). p.rec_ref ≡ d.rec_ref) t.rows.trees.places
  pub whole : IsWhole t.rows.trees.room
  pub setup : t.rows.trees.cache.setup ≡ t.setup
  pub allowed : IsSetup t.setup
  pub fewer : t.added.reads ≤ t.added.read_requests

pub is_tied : (t : OpenTable) (d : Defs) (begin : ℕ) (index : List ℕ) → AreDefs d → AreOpened t d begin → AreFirst t d → IsRead d d.raw t.header → index ≡ index_file t.name → IsTied t d index
is_tied t d begin index are o f read named =
    let good : IsSound d = sound d are in
    let defs : defs_in t ≡ d = ap (λ (g : SlotFile). g.defs) o.file in
    let rows_named : t.rows.rows.file.name ≡ rows_file t.name = ap (λ (g : SlotFile). g.name) o.file in
    let keys : kinds t.rows.trees.places ≡ map (place_of d) (key_numbers d) = ap kinds o.places ∙ kinds_from d (key_numbers d) t.header.roots (read_roots d d.raw t.header read ∙ sym (from_long 1 (length d.keys))) in
    record {
      are = are;
      defs = defs;
      fit = record {
        sound = subst IsSound (sym defs) good;
        each = f.each ∙ ap (λ (e : Defs). length e.keys) (sym defs);
        pointers = subst (λ (e : Defs). AllByRecursion (λ (p : Place). p.rec_ref ≡ e.rec_ref) t.rows.trees.places) (sym defs) f.pointers;
        whole = f.whole;
        apart = λ same. names_apart t.name (sym rows_named ∙ same ∙ o.index);
      };
      keys = keys ∙ ap (λ (e : Defs). map (place_of e) (key_numbers e)) (sym defs);
      rows_named = rows_named;
      index_named = o.index;
      index = named;
      rest = ap (λ (s : State). length s.rest) read.state ∙ state-rest d d.raw good (omega arith);
      setup = f.setup;
      allowed = f.allowed;
      fewer = f.fewer;
    }

-- ---- what the calls answered

pub are_opened : (t : OpenTable) (d : Defs) (file index : List ℕ) (used begin : ℕ) → file ≡ rows_file t.name → index ≡ index_file t.name → used ≡ used_end d t.header → begin ≡ (used + 1023) / 1024 * 1024 → begin < 2 ^ 64
    → t.lost ≡ min (t.header.key_empty + (begin - used)) (2 ^ 64 - 1) → t.rows.rows.file ≡ record { name = file; defs = d; counts = counts_in t.header } → t.rows.rows.places ≡ None → t.rows.trees.places ≡ places_of d t.header.roots
    → AllByRecursion IsPlaced t.rows.trees.places → t.rows.trees.room ≡ record { end = begin; free = [] } → t.rows.trees.cache.name ≡ index → pages_of t.rows.trees.cache ≡ [] → ((m : Holding) → IsCurrent t.rows.trees.cache m) → t.broken ≡ None → AreOpened t d begin
are_opened t d file index used begin rows_named named ends begins small lost rows noted places placed room cached kept current whole = record {
  file = rows ∙ ap (λ (n : List ℕ). record { name = n; defs = d; counts = counts_in t.header }) rows_named;
  noted = noted;
  places = places;
  placed = placed;
  room = room;
  begins = begins ∙ ap (λ (n : ℕ). (n + 1023) / 1024 * 1024) ends;
  small = small;
  index = cached ∙ named;
  kept = kept;
  current = current;
  lost = lost ∙ ap (λ (n : ℕ). min (t.header.key_empty + (begin - n)) (2 ^ 64 - 1)) ends;
  whole = whole;
}
