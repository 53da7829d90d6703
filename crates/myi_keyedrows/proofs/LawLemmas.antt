-- The laws that a change is proved by, together, and the object between two calls.
use Rattle.std.proofs.Common.{◌≡◌, ℕ, Bool, List, Option, None, Ok, Err, refl, sym, ap, subst, ◌∙◌}
use Rattle.myi_base.specs.Holding.{Holding, IfTold}
use Rattle.myi_defs.specs.declared.types.Defs.{Defs}
use Rattle.myi_defs.specs.Sound.{IsSound}
use Rattle.myi_pack.specs.Packed.{Values}
use Rattle.myi_keylist.specs.declared.pair.Pair.{Pair}
use Rattle.myi_btree.specs.declared.place.Place.{Place}
use Rattle.myi_state.specs.State.{TableState}
use Rattle.myi_state.specs.Changes.{Change, Refusal, step}
use Rattle.myi_state.specs.Sound.{MayCome}
use Rattle.myi_slots.specs.SlotFile.{SlotFile}
use Rattle.myi_insertion.specs.Rooms.{IsWhole}
use Rattle.myi_blocks.specs.Places.{NotedFile}
use Rattle.myi_keytrees.specs.Trees.{Trees, SameKinds, kinds}
use Rattle.myi_pair.specs.KeyList.{pointer}
use Rattle.myi_rowtrees.specs.RowLists.{row_pairs}
use Rattle.myi_tablestate.specs.Keyed.{IsTable, lacks_key, without_keys, keyed_step}
use Rattle.myi_keyedrows.specs.declared.keyed_rows.KeyedRows.{KeyedRows}
use Rattle.myi_keyedrows.specs.KeyedRows.{defs_of, IsFit, StillHold, IsKept}
use Rattle.myi_keyedrows.specs.Checking.{Looks, next_at}
use Rattle.myi_keyedrows.proofs.HoldLemmas.{fits_again, kept_follow, kept_long}
use Rattle.myi_keyedrows.proofs.StepLemmas.{KeyedLaws}
use Rattle.myi_slots.specs.SlotFile.{IsLong}
use Rattle.myi_keycache.specs.Caching.{Caching}
use Rattle.myi_search.specs.Counting.{CountsOn}
use Rattle.myi_search.proofs.CallerLemmas.{counts_none}

-- steps that are made, and tables that stay tables
pub record StepLaws : Type 0 where
  pub made : (d : Defs) (s : TableState) (c : Change) (at : ℕ) → lacks_key d s c ≡ None → (step d s c).reply ≡ Ok at → ((keyed_step d s c).reply ≡ Ok at) × ((keyed_step d s c).state ≡ (step d s c).state)
  pub refused : (d : Defs) (s : TableState) (c : Change) (r : Refusal) → lacks_key d s c ≡ None → (step d s c).reply ≡ Err r → (keyed_step d s c).reply ≡ Err (without_keys r)
  pub keep : (d : Defs) (s : TableState) (c : Change) → IsSound d → MayCome d c → IsTable d s → IsTable d (keyed_step d s c).state

pub laws_of : StepLaws → (d : Defs) (c : Change) → IsSound d → MayCome d c → KeyedLaws d c
laws_of laws d c sound may = record {
  made = λ s at none is. laws.made d s c at none is;
  refused = λ s r none is. laws.refused d s c r none is;
  keep = λ s t. laws.keep d s c sound may t;
}

-- ---- after a search

same_file : (old new : KeyedRows) → new.rows ≡ old.rows → new.rows.file ≡ old.rows.file
same_file old new same = ap (λ (r : NotedFile). r.file) same

pub looked_defs : (told next : Option Holding) (old new : KeyedRows) (d : Defs) → defs_of old ≡ d → Looks told next old new → defs_of new ≡ d
looked_defs told next old new d same l = ap (λ (r : NotedFile). r.file.defs) l.rows ∙ same

pub looked_file : (told next : Option Holding) (old new : KeyedRows) → Looks told next old new → new.rows.file ≡ old.rows.file
looked_file told next old new l = same_file old new l.rows

pub looked_fit : (told next : Option Holding) (old new : KeyedRows) → IsFit old → Looks told next old new → IsFit new
looked_fit told next old new fit l = fits_again old new fit (ap (λ (r : NotedFile). r.file.name) l.rows) (ap (λ (r : NotedFile). r.file.defs) l.rows) l.name (ap (λ (ps : List Place). kinds ps) l.places) (subst IsWhole (sym l.room) fit.whole)

pub looked_kept : (told next : Option Holding) (old new : KeyedRows) → IsKept told old → Looks told next old new → IsKept next new
looked_kept told next old new kept l = kept_follow old new told next l.others.untold l.stand kept

pub looked_long : (told next : Option Holding) (old new : KeyedRows) → IsKept told old → Looks told next old new → IfTold next (IsLong new.rows.file)
looked_long told next old new kept l = kept_long new next (looked_kept told next old new kept l)

-- ---- after a change of the data file

pub counted_fit : (old : KeyedRows) (rows : NotedFile) → IsFit old → rows.file ≡ record old.rows.file { counts = rows.file.counts } → IsFit (record { rows = rows; trees = old.trees })
counted_fit old rows fit same = fits_again old (record { rows = rows; trees = old.trees }) fit (ap (λ (f : SlotFile). f.name) same) (ap (λ (f : SlotFile). f.defs) same) refl refl fit.whole

pub both_fit : (old : KeyedRows) (rows : NotedFile) (trees : Trees) → IsFit old → rows.file ≡ record old.rows.file { counts = rows.file.counts } → trees.cache.name ≡ old.trees.cache.name → SameKinds old.trees.places trees.places → IsWhole trees.room → IsFit (record { rows = rows; trees = trees })
both_fit old rows trees fit same name kind whole = fits_again old (record { rows = rows; trees = trees }) fit (ap (λ (f : SlotFile). f.name) same) (ap (λ (f : SlotFile). f.defs) same) name kind whole

-- a refusal of a call on the data file leaves the object
pub refused_stays : (told next last : Option Holding) (old mid : KeyedRows) (rows : NotedFile) → StillHold told next old mid → rows ≡ mid.rows → last ≡ next → StillHold told last old (record { rows = rows; trees = mid.trees })
refused_stays told next last old mid rows still same held = λ m there own s h.
    let f = still m there own s h in
    let now : StillHold told next old (record { rows = rows; trees = mid.trees }) = subst (λ (r : NotedFile). StillHold told next old (record { rows = r; trees = mid.trees })) (sym same) still in
    let g = now m there own s h in
    record { now = g.now; held = held ∙ g.held; table = g.table; lent = g.lent }

-- ---- the pairs of a row that comes

-- the pairs of the row are those with the pointer of the position that it got
pub placed_pairs : (b : Bool) (d e : Defs) (row : Values) (pairs : List Pair) (p n at : ℕ) (old new : NotedFile) → e ≡ d → pairs ≡ row_pairs d row p → p ≡ pointer d n → n ≡ next_at b old.file.counts → at ≡ next_at b new.file.counts → new ≡ old → pairs ≡ row_pairs e row (pointer e at)
placed_pairs b d e row pairs p n at old new same is one two three counts =
    is ∙ ap (λ (q : ℕ). row_pairs d row q) (one ∙ ap (λ (q : ℕ). pointer d q) (two ∙ ap (λ (f : NotedFile). next_at b f.file.counts) (sym counts) ∙ sym three)) ∙ ap (λ (q : Defs). row_pairs q row (pointer q at)) (sym same)

-- ---- after a row was read

pub read_fit : (old new : KeyedRows) → IsFit old → new.rows.file ≡ old.rows.file → new.trees ≡ old.trees → IsFit new
read_fit old new fit same trees = fits_again old new fit (ap (λ (f : SlotFile). f.name) same) (ap (λ (f : SlotFile). f.defs) same) (ap (λ (t : Trees). t.cache.name) trees) (ap (λ (t : Trees). kinds t.places) trees) (subst (λ (t : Trees). IsWhole t.room) (sym trees) fit.whole)

pub read_kept : (told next : Option Holding) (old new : KeyedRows) → IsKept told old → StillHold told next old new → next ≡ told → IsKept next new
read_kept told next old new kept still same = kept_follow old new told next (λ none. same ∙ none) still kept

-- ---- the counters of the key cache

pub counted_none : (old : KeyedRows) (trees : Trees) → trees ≡ old.trees → CountsOn old.trees.cache trees.cache
counted_none old trees same = subst (λ (t : Trees). CountsOn old.trees.cache t.cache) (sym same) (counts_none old.trees.cache)

pub counted_back : (old mid : KeyedRows) (cache : Caching) → mid.trees ≡ old.trees → CountsOn mid.trees.cache cache → CountsOn old.trees.cache cache
counted_back old mid cache same on = subst (λ (t : Trees). CountsOn t.cache cache) same on
