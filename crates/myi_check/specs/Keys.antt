-- What the walks of all trees show, and how far a check of them has come.
use Rattle.std.specs.Prelude.{◌≡◌, ◌+◌, ◌-◌, ◌&&◌, ℕ, suc, true, is_none, List, [], ◌∷◌, ◌++◌, length, map, drop, if◌then◌else◌, Option, Some, None}
use Rattle.std.specs.List.{flat_map}
use Rattle.std.specs.Option.{option_to_list}
use Rattle.myi_base.specs.Holding.{Holding}
use Rattle.myi_base.specs.Ranges.{Range}
use Rattle.myi_defs.specs.declared.types.Defs.{Defs}
use Rattle.myi_header.specs.StateOf.{state_of}
use Rattle.myi_keylist.specs.declared.pair.Pair.{Pair}
use Rattle.myi_btree.specs.declared.place.Place.{Place}
use Rattle.myi_btree.specs.Events.{Event, first_bad}
use Rattle.myi_btree.specs.Used.{up_to_used}
use Rattle.myi_pair.specs.declared.finding.Finding.TheVariants as finding
use Rattle.myi_pair.specs.FirstRows.{numbers_from, is_unique}
use Rattle.myi_pair.specs.KeyList.{PlacedRow}
use Rattle.myi_pair.specs.Trees.{block_of_key, total}
use Rattle.myi_pair.specs.FirstBad.{walk_bad}
use Rattle.myi_pair.specs.Findings.{KeyWalk, key_walks, all_walks, all_walk, walk_pages, page_bytes, key_findings, told}
use Rattle.myi_check.specs.declared.header.StoredHeader.{StoredHeader}
use Rattle.myi_check.specs.declared.rows.ScannedFile.{ScannedFile}
use Rattle.myi_check.specs.Rows.{IsScanned, rows_in}
use Rattle.myi_check.specs.declared.busy.TreePages.{TreePages}
use Rattle.myi_check.specs.declared.walks.TreeKey.{TreeKey}
use Rattle.myi_check.specs.declared.walks.TreeWalk.{TreeWalk}
use Rattle.myi_check.specs.declared.keys.KeysFound.{KeysFound}
use Rattle.myi_check.specs.declared.keys.KeysSoFar.{KeysSoFar}
use Rattle.myi_check.specs.WalksBusy.{AreBusy}

-- These are the findings of the keys. Where each tree has a walk, so many bytes are in pages, and from 2^64 on 2^64 - 1.
pub record HasKeys (d : Defs) (x : List ℕ) (rows : List PlacedRow) (r : KeysFound) : Type 0 where
  pub findings : r.findings.items ≡ flat_map (key_findings d rows) (all_walks d x)
  pub page_bytes : r.page_bytes ≡ (if all_walk (all_walks d x) then Some (told (page_bytes d (all_walks d x))) else None)

-- the keys of a table with the mark were looked at, by the roots in its header and what a scan found of its data file
abbrev pub FindsKeys : List ℕ → ScannedFile → Defs → StoredHeader → KeysFound → Holding → Type 0
FindsKeys index file d header r m = (x data_file : List ℕ) → m index ≡ Some x → m file.name.now ≡ Some data_file
    → header.state.roots ≡ (state_of d x).roots → IsScanned d file data_file
    → header.marked ≡ true → HasKeys d x (rows_in d data_file) r

-- how the pages of a key are made, by its number, with its root
abbrev pub rooted_place : Defs → ℕ → Option ℕ → Place
rooted_place d k root = record { block_length = block_of_key d k; rec_ref = d.rec_ref; root = root }

-- a key as far as its tree is looked at
abbrev pub tree_key : Defs → ℕ → Option ℕ → TreeKey
tree_key d k root = record { place = rooted_place d k root; unique = is_unique d k }

-- the walks of the trees that are left behind so many keys, where these ranges are busy
abbrev pub walks_left : Defs → List ℕ → List Range → ℕ → List KeyWalk
walks_left d x ranges i = key_walks d x ranges (numbers_from (suc i) (length d.keys - i)) (drop i (state_of d x).roots)

-- the pages of a tree, where its walk met no bad place
abbrev pub tree_if : TreeWalk → ℕ → List TreePages
tree_if walk block = if walk.is_cut then [] else record { block_length = block; places = walk.places } ∷ []

-- the walk of a tree that meets these events was added, where these ranges were busy before it
pub record AddsMet (key : TreeKey) (list : List Pair) (met : List Event) (ranges : List Range) (old new : KeysSoFar) : Type 0 where
  pub findings : new.findings.items ≡ old.findings.items ++ map (λ at. finding.Key old.number at) (option_to_list (walk_bad key.unique None list met))
  pub walks : new.walks ≡ (old.walks && is_none (first_bad met))
  pub bytes : told new.page_bytes ≡ told (old.page_bytes + total (walk_pages key.place.block_length met))
  pub busy : AreBusy (ranges ++ walk_pages key.place.block_length met) new.busy

-- the same of a tree with these events, which is walked up to the first busy page
abbrev pub Adds : TreeKey → List Pair → List Event → KeysSoFar → KeysSoFar → Type 0
Adds key list es old new = (ranges : List Range) → AreBusy ranges old.busy → AddsMet key list (up_to_used key.place.block_length ranges es) ranges old new

-- What was found of so many keys, and what is left to be found, is all.
pub record HasSoFar (d : Defs) (x : List ℕ) (rows : List PlacedRow) (i : ℕ) (found : KeysSoFar) : Type 0 where
  pub ranges : List Range
  pub busy : AreBusy ranges found.busy
  pub findings : flat_map (key_findings d rows) (all_walks d x) ≡ found.findings.items ++ flat_map (key_findings d rows) (walks_left d x ranges i)
  pub walks : all_walk (all_walks d x) ≡ (found.walks && all_walk (walks_left d x ranges i))
  pub bytes : told (page_bytes d (all_walks d x)) ≡ told (found.page_bytes + page_bytes d (walks_left d x ranges i))
