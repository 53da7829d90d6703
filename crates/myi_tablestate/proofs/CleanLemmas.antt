-- A pair of files that stands for a table is clean.
use Rattle.std.proofs.Common.{◌≡◌, ℕ, ◌+◌, ◌<◌, ◌⊎◌, inl, inr, Bool, true, false, ◌||◌, List, [], ◌∷◌, ◌++◌, length, map, Option, Some, None, refl, sym, ap, subst, ◌∙◌, arith}
use Rattle.std.specs.Prelude.{nat_le, option_and_then, option_map, if◌then◌else◌}
use Rattle.std.specs.List.{list_any}
use Rattle.std.specs.List.Sorted.{IsPermutation}
use Rattle.std.proofs.lemmas.Bool.{le-leb, lt-ltb}
use Rattle.std.proofs.lemmas.List.Sorted.{IsPermutation-refl, IsPermutation-trans, IsPermutation-cons, IsPermutation-middle, IsPermutation-map}
use Rattle.myi_base.specs.Ranges.{Range}
use Rattle.myi_defs.specs.declared.types.RowFormat.{RowFormat}
use Rattle.myi_defs.specs.declared.types.RowFormat.TheVariants.{Static, Dynamic}
use Rattle.myi_defs.specs.declared.types.Defs.{Defs}
use Rattle.myi_frames.specs.Block.{Block}
use Rattle.myi_pack.specs.Packed.{Values}
use Rattle.myi_chain.specs.Readable.{Row}
use Rattle.myi_chain.specs.Meeting.{ranges_of}
use Rattle.myi_dellist.specs.Areas.{Area, Holds}
use Rattle.myi_dellist.specs.Order.{put_in, in_order}
use Rattle.myi_dellist.specs.Standing.{first_or, IsPart}
use Rattle.myi_dellist.proofs.CallerLemmas.{tile-holds}
use Rattle.myi_data.specs.Readable.{readable, deleted}
use Rattle.myi_state.specs.declared.counts.Counts.{Counts}
use Rattle.myi_state.specs.State.{StoredRow, TableState, row_areas}
use Rattle.myi_state.specs.Sound.{IsState}
use Rattle.myi_state.specs.Numbers.{counts_of}
use Rattle.myi_state.specs.Standing.{range_of_area, stored_row, ListSlots, HolesStand, StandsFor}
use Rattle.myi_btree.specs.Walk.{Walked}
use Rattle.myi_pair.specs.FirstRows.{AreDistinct}
use Rattle.myi_pair.specs.KeyList.{PlacedRow, key_list}
use Rattle.myi_pair.specs.Trees.{AreKeyLists, total}
use Rattle.myi_pair.specs.Clean.{values_of, placed_row, covers, next_by, NamesByFormat, Follows, ListsDeleted, IsClean}
use Rattle.myi_tablestate.specs.Keyed.{values_in_rows}
use Rattle.myi_tablestate.specs.Listed.{placed}
use Rattle.myi_tablestate.specs.Standing.{HavePairs, StandForTable}

-- ---- each byte belongs to a block of a row or to a deleted one

any_left : (f : Range → Bool) (xs ys : List Range) → list_any f xs ≡ true → list_any f (xs ++ ys) ≡ true
any_left f [] ys is = absurd cc
any_left f (x ∷ xs) ys is = by (f x) is (any_left f xs ys)
  where
    by : (b : Bool) → (b || list_any f xs) ≡ true → (list_any f xs ≡ true → list_any f (xs ++ ys) ≡ true) → (b || list_any f (xs ++ ys)) ≡ true
    by true is more = refl
    by false is more = more is

any_right : (f : Range → Bool) (xs ys : List Range) → list_any f ys ≡ true → list_any f (xs ++ ys) ≡ true
any_right f [] ys is = is
any_right f (x ∷ xs) ys is = by (f x) (any_right f xs ys is)
  where
    by : (b : Bool) → list_any f (xs ++ ys) ≡ true → (b || list_any f (xs ++ ys)) ≡ true
    by true more = refl
    by false more = more

holds_covers : (p : ℕ) (areas : List Area) → Holds p areas → list_any (covers p) (map range_of_area areas) ≡ true
holds_covers p [] h = absurd h
holds_covers p (a ∷ areas) (inl h) = rw (le-leb a.at p h.0) (rw (lt-ltb p (a.at + a.size) h.1) refl)
holds_covers p (a ∷ areas) (inr h) = any_right (covers p) (range_of_area a ∷ []) (map range_of_area areas) (holds_covers p areas h)

holds_either : (p : ℕ) (xs ys : List Area) → Holds p (xs ++ ys) → Holds p xs ⊎ Holds p ys
holds_either p [] ys h = inr h
holds_either p (a ∷ xs) ys (inl h) = inl (inl h)
holds_either p (a ∷ xs) ys (inr h) = more (holds_either p xs ys h)
  where
    more : Holds p xs ⊎ Holds p ys → Holds p (a ∷ xs) ⊎ Holds p ys
    more (inl one) = inl (inr one)
    more (inr other) = inr other

put_holds : (p : ℕ) (a : Area) (areas : List Area) → Holds p (a ∷ areas) → Holds p (put_in a areas)
put_holds p a [] h = h
put_holds p a (b ∷ areas) h = by (nat_le a.at b.at) h (put_holds p a areas)
  where
    by : (t : Bool) → Holds p (a ∷ b ∷ areas) → (Holds p (a ∷ areas) → Holds p (put_in a areas)) → Holds p (if t then a ∷ b ∷ areas else b ∷ put_in a areas)
    by true h put = h
    by false (inl one) put = inr (put (inl one))
    by false (inr (inl other)) put = inl other
    by false (inr (inr more)) put = inr (put (inr more))

order_holds : (p : ℕ) (areas : List Area) → Holds p areas → Holds p (in_order areas)
order_holds p [] h = h
order_holds p (a ∷ areas) (inl h) = put_holds p a (in_order areas) (inl h)
order_holds p (a ∷ areas) (inr h) = put_holds p a (in_order areas) (inr (order_holds p areas h))

-- what is read of a file, by what it stands for
pub record IsRead (d : Defs) (s : TableState) (b : List ℕ) : Type 0 where
  pub rows : map (stored_row d) (readable d false b) ≡ s.rows
  pub ranges : ranges_of (readable d false b) ≡ map range_of_area (row_areas s.rows)
  pub gone : deleted d b ≡ map range_of_area (in_order s.space.holes)
  pub records : (counts_of s).records ≡ length (readable d false b)
  pub del : (counts_of s).del ≡ length (deleted d b)
  pub split : (counts_of s).split ≡ length (ranges_of (readable d false b))
  pub empty : (counts_of s).empty ≡ total (deleted d b)
  pub long : (counts_of s).length ≡ length b

all_covered : (d : Defs) (s : TableState) (b : List ℕ) → IsState d s → length b ≡ s.space.end → IsRead d s b → (p : ℕ) → p < length b → list_any (covers p) (ranges_of (readable d false b) ++ deleted d b) ≡ true
all_covered d s b i long r p inside =
    let own = row_areas s.rows in
    let goal = ap (λ (xs : List Range). list_any (covers p) (xs ++ deleted d b)) r.ranges ∙ ap (λ (xs : List Range). list_any (covers p) (map range_of_area own ++ xs)) r.gone in
    goal ∙ by (holds_either p own s.space.holes (tile-holds s.space.end (own ++ s.space.holes) i.tile p (omega (arith, inside, long))))
  where
    by : Holds p (row_areas s.rows) ⊎ Holds p s.space.holes → list_any (covers p) (map range_of_area (row_areas s.rows) ++ map range_of_area (in_order s.space.holes)) ≡ true
    by (inl h) = any_left (covers p) (map range_of_area (row_areas s.rows)) (map range_of_area (in_order s.space.holes)) (holds_covers p (row_areas s.rows) h)
    by (inr h) = any_right (covers p) (map range_of_area (row_areas s.rows)) (map range_of_area (in_order s.space.holes)) (holds_covers p (in_order s.space.holes) (order_holds p s.space.holes h))

-- ---- the list of deleted blocks has each of them once

put_permutes : (a : Area) (areas : List Area) → IsPermutation (put_in a areas) (a ∷ areas)
put_permutes a [] = IsPermutation-refl (a ∷ [])
put_permutes a (b ∷ areas) = by (nat_le a.at b.at) (put_permutes a areas)
  where
    by : (t : Bool) → IsPermutation (put_in a areas) (a ∷ areas) → IsPermutation (if t then a ∷ b ∷ areas else b ∷ put_in a areas) (a ∷ b ∷ areas)
    by true more = IsPermutation-refl (a ∷ b ∷ areas)
    by false more = IsPermutation-trans (b ∷ put_in a areas) (b ∷ a ∷ areas) (a ∷ b ∷ areas) (IsPermutation-cons b (put_in a areas) (a ∷ areas) more) (IsPermutation-middle (b ∷ []) a areas)

order_permutes : (areas : List Area) → IsPermutation (in_order areas) areas
order_permutes [] = IsPermutation-refl []
order_permutes (a ∷ areas) = IsPermutation-trans (put_in a (in_order areas)) (a ∷ in_order areas) (a ∷ areas) (put_permutes a (in_order areas)) (IsPermutation-cons a (in_order areas) areas (order_permutes areas))

place_in : Area → ℕ
place_in a = a.at

places_of : (areas : List Area) → map (λ (r : Range). r.0) (map range_of_area areas) ≡ map (λ (a : Area). a.at) areas
places_of [] = refl
places_of (a ∷ areas) = ap (λ (ps : List ℕ). a.at ∷ ps) (places_of areas)

follows_static : (d : Defs) (x : List ℕ) → d.format ≡ Static → (before : Option ℕ) (holes : List Area) → ListSlots d x holes → Follows d x before (first_or holes None) (map (λ (a : Area). a.at) holes)
follows_static d x static before [] l = refl
follows_static d x static before (h ∷ holes) l = (
  refl,
  subst (λ (f : RowFormat). NamesByFormat f x h.at before) (sym static) tt,
  subst (λ (o : Option ℕ). Follows d x (Some h.at) o (map (λ (a : Area). a.at) holes)) (sym (ap (λ (f : RowFormat). next_by f d x h.at) static ∙ l.1)) (follows_static d x static (Some h.at) holes l.2),
)

follows_dynamic : (d : Defs) (x : List ℕ) → d.format ≡ Dynamic → (before : Option ℕ) (holes : List Area) → IsPart x before holes None → Follows d x before (first_or holes None) (map (λ (a : Area). a.at) holes)
follows_dynamic d x dynamic before [] l = refl
follows_dynamic d x dynamic before (h ∷ holes) l =
    let next : next_by d.format d x h.at ≡ first_or holes None = ap (λ (f : RowFormat). next_by f d x h.at) dynamic ∙ ap (λ (o : Option Block). option_and_then (λ (b : Block). b.next) o) l.0 in (
      refl,
      subst (λ (f : RowFormat). NamesByFormat f x h.at before) (sym dynamic) (ap (λ (o : Option Block). option_map (λ (b : Block). b.prev) o) l.0),
      subst (λ (o : Option ℕ). Follows d x (Some h.at) o (map (λ (a : Area). a.at) holes)) (sym next) (follows_dynamic d x dynamic (Some h.at) holes l.1),
    )

follows_by : (d : Defs) (x : List ℕ) (f : RowFormat) → d.format ≡ f → (holes : List Area) → HolesStand f d x holes → Follows d x None (first_or holes None) (map (λ (a : Area). a.at) holes)
follows_by d x Static is holes stand = follows_static d x is None holes stand
follows_by d x Dynamic is holes stand = follows_dynamic d x is None holes stand.linked

lists_deleted : (d : Defs) (s : TableState) (b : List ℕ) → StandsFor d s b → deleted d b ≡ map range_of_area (in_order s.space.holes) → ListsDeleted d b (first_or s.space.holes None)
lists_deleted d s b k gone =
    let places = IsPermutation-map (λ (a : Area). a.at) (in_order s.space.holes) s.space.holes (order_permutes s.space.holes) in
    let same : map (λ (r : Range). r.0) (deleted d b) ≡ map (λ (a : Area). a.at) (in_order s.space.holes) = ap (λ (rs : List Range). map (λ (r : Range). r.0) rs) gone ∙ places_of (in_order s.space.holes) in (
      map (λ (a : Area). a.at) s.space.holes,
      subst (λ (ps : List ℕ). IsPermutation ps (map (λ (a : Area). a.at) s.space.holes)) (sym same) places,
      follows_by d b d.format refl s.space.holes k.holes,
    )

-- ---- the rows and their pairs

pub placed_read : (d : Defs) (rows : List Row) → map placed (map (stored_row d) rows) ≡ map (placed_row d) rows
placed_read d [] = refl
placed_read d (r ∷ rows) = ap (λ (ps : List PlacedRow). placed_row d r ∷ ps) (placed_read d rows)

pub values_read : (d : Defs) (rows : List Row) → values_in_rows (map (stored_row d) rows) ≡ map (values_of d) rows
values_read d [] = refl
values_read d (r ∷ rows) = ap (λ (vs : List Values). values_of d r ∷ vs) (values_read d rows)

key_lists : (d : Defs) (rows : List StoredRow) (placed_rows : List PlacedRow) → map placed rows ≡ placed_rows → (ks : List ℕ) (ws : List Walked) → HavePairs d rows ks ws → AreKeyLists d placed_rows ks ws
key_lists d rows placed_rows same [] ws have = have
key_lists d rows placed_rows same (k ∷ ks) [] have = absurd have
key_lists d rows placed_rows same (k ∷ ks) (w ∷ ws) have = (have.0 ∙ ap (key_list d k) same, key_lists d rows placed_rows same ks ws have.1)

pub is_clean : (d : Defs) (s : TableState) (b x : List ℕ) → StandForTable d s b x → IsRead d s b → IsClean b x
unfolding counts_of
is_clean d s b x t r =
    let n : ◌≡◌ {A = Counts} _ (counts_of s) = t.numbers in
    let rows : List Row = readable d false b in
    record {
      defs = d;
      read = t.read;
      mark = t.mark;
      addressable = t.addressable;
      covered = all_covered d s b t.rows.state t.rows.long r;
      list = subst (λ (o : Option ℕ). ListsDeleted d b o) (sym (ap (λ (c : Counts). c.dellink) n)) (lists_deleted d s b t.rows r.gone);
      counts = record {
        records = ap (λ (c : Counts). c.records) n ∙ r.records;
        del = ap (λ (c : Counts). c.del) n ∙ r.del;
        split = ap (λ (c : Counts). c.split) n ∙ r.split;
        key_file_length = t.long;
        data_file_length = ap (λ (c : Counts). c.length) n ∙ r.long;
        empty = ap (λ (c : Counts). c.empty) n ∙ r.empty;
      };
      walks = t.trees.walks;
      trees = t.trees.trees;
      lists = key_lists d s.rows (map (placed_row d) rows) (ap (λ (rs : List StoredRow). map placed rs) (sym r.rows) ∙ placed_read d rows) _ t.trees.walks t.trees.pairs;
      key_empty = t.trees.free;
      distinct = subst (λ (vs : List Values). AreDistinct d [] vs) (ap values_in_rows (sym r.rows) ∙ values_read d rows) t.table.distinct;
    }
