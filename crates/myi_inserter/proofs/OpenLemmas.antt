-- Rows and trees that were opened again beside a table, over other files that hold the same.
use Rattle.std.proofs.Common.{◌≡◌, ℕ, ◌<◌, List, [], ◌∷◌, None, sym, ap, subst, ◌∙◌, arith}
use Rattle.std.specs.List.{AllByRecursion}
use Rattle.myi_base.specs.Ranges.{Range}
use Rattle.myi_base.specs.Holding.{Holding, bytes_of}
use Rattle.myi_defs.specs.declared.types.Defs.{Defs}
use Rattle.myi_defs.specs.Sound.{IsSound}
use Rattle.myi_header.specs.Layout.{first_page_of}
use Rattle.myi_keylist.specs.declared.pair.Pair.{Pair}
use Rattle.myi_keycache.specs.Kept.{Page, is_unwritten, AllWritten}
use Rattle.myi_keycache.specs.Caching.{Caching, pages_of, IsCurrent}
use Rattle.myi_btree.specs.declared.place.Place.{Place}
use Rattle.myi_btree.specs.declared.place.Room.{Room}
use Rattle.myi_btree.specs.Sizes.{IsPlaced}
use Rattle.myi_state.specs.State.{TableState}
use Rattle.myi_state.specs.Standing.{StandsFor}
use Rattle.myi_blocks.specs.Places.{NotedFile, IsNotedFileOf}
use Rattle.myi_keytrees.specs.Standing.{HoldLists, Stand}
use Rattle.myi_keytrees.specs.InFile.{HaveWalks, EndAt, AreAscending, contents_of, bytes_owned}
use Rattle.myi_keytrees.proofs.CallerLemmas.{stand_in, opened}
use Rattle.myi_tablestate.specs.Keyed.{IsTable}
use Rattle.myi_rowtrees.specs.RowLists.{lists_of}
use Rattle.myi_keyedrows.specs.declared.keyed_rows.KeyedRows.{KeyedRows}
use Rattle.myi_keyedrows.specs.KeyedRows.{defs_of, HoldTable}
use Rattle.myi_table.specs.Table.{OpenTable, defs_in, HoldState}

some_page : (d : Defs) → IsSound d → 0 < first_page_of d
some_page d s = omega (arith, s.header, s.base_inside, s.base)

ascending : (cache : Caching) (m : Holding) (places : List Place) (lists : List (List Pair)) (pages : List (List ℕ)) → HoldLists cache m places lists pages → AreAscending lists
ascending cache m [] lists pages h = subst AreAscending (sym h.0) tt
ascending cache m (p ∷ places) [] pages h = absurd h
ascending cache m (p ∷ places) (l ∷ lists) [] h = absurd h
ascending cache m (p ∷ places) (l ∷ lists) (own ∷ pages) h = (h.0.ascend, ascending cache m places lists pages h.1)

pub base_stands : (t : OpenTable) (k : KeyedRows) (s : TableState) (m n : Holding) → IsSound (defs_in t) → k.rows ≡ record { file = t.rows.rows.file; places = None } → k.trees.places ≡ t.rows.trees.places → AllByRecursion IsPlaced k.trees.places
    → k.trees.room ≡ record { end = t.rows.trees.room.end; free = [] } → k.trees.cache.name ≡ t.rows.trees.cache.name → pages_of k.trees.cache ≡ [] → IsCurrent k.trees.cache n → HoldState t s m → AllWritten (pages_of t.rows.trees.cache)
    → bytes_of t.rows.rows.file.name n ≡ bytes_of t.rows.rows.file.name m → bytes_of t.rows.trees.cache.name n ≡ bytes_of t.rows.trees.cache.name m → (own : ℕ → ℕ) × HoldTable k own s n
base_stands t k s m n sound rows places placed room name none current hold written same_rows same_index =
    let d : Defs = defs_in t in
    let h = hold.files.table in
    let front : ℕ = first_page_of d in
    let busy : List Range = (0, front) ∷ [] in
    let i = stand_in t.rows.trees m hold.own (lists_of d s.rows) front (some_page d sound) written hold.files.behind h.trees in
    let bytes : bytes_of t.rows.trees.cache.name m ≡ bytes_of k.trees.cache.name n = sym same_index ∙ ap (λ (q : List ℕ). bytes_of q n) (sym name) in
    let have : HaveWalks (bytes_of k.trees.cache.name n) busy k.trees.places i.walks =
    subst (λ (ps : List Place). HaveWalks (bytes_of k.trees.cache.name n) busy ps i.walks) (sym places) (subst (λ (b : List ℕ). HaveWalks b busy t.rows.trees.places i.walks) bytes i.have) in
    let end : k.trees.room.end ≡ t.rows.trees.room.end = ap (λ (r : Room). r.end) room in
    let ends : EndAt k.trees.room.end k.trees.places i.walks = subst (λ (ps : List Place). EndAt k.trees.room.end ps i.walks) (sym places) (subst (λ (e : ℕ). EndAt e t.rows.trees.places i.walks) (sym end) i.before) in
    let ascend : AreAscending (contents_of i.walks) = subst AreAscending (sym i.contents) (ascending t.rows.trees.cache m t.rows.trees.places (lists_of d s.rows) h.trees.pages h.trees.hold) in
    let roomy : k.trees.room ≡ record { end = k.trees.room.end; free = [] } = room ∙ ap (λ (e : ℕ). record { end = e; free = [] }) (sym end) in
    let stand : Stand k.trees n (bytes_owned k.trees i.walks) (contents_of i.walks) = opened k.trees n front i.walks placed none current roomy ascend have ends in
    let same : defs_of k ≡ d = ap (λ (f : NotedFile). f.file.defs) rows in (
      bytes_owned k.trees i.walks,
      record {
        table = subst (λ (e : Defs). IsTable e s) (sym same) h.table;
        rows = subst (λ (f : NotedFile). IsNotedFileOf f s n) (sym rows) (record { counts = h.rows.0.counts; stands = subst (λ (b : List ℕ). StandsFor d s b) (sym same_rows) h.rows.0.stands }, tt);
        trees = subst (λ (ls : List (List Pair)). Stand k.trees n (bytes_owned k.trees i.walks) ls) (i.contents ∙ ap (λ (e : Defs). lists_of e s.rows) (sym same)) stand;
      },
    )

-- ---- no page is kept

none_unwritten : AllWritten []
unfolding is_unwritten
none_unwritten p n e = cc

pub none_kept : (pages : List Page) → pages ≡ [] → AllWritten pages
none_kept pages none = subst AllWritten (sym none) none_unwritten
