-- An index file whose pages were sorted: the pages of each tree stand anew, each before those below it (as myisamchk lays an index
-- with --sort-index: MySQL Reference Manual, "Other myisamchk Options"; that no byte is left between them is this project's own).
use Rattle.std.specs.Prelude.{◌≡◌, ◌≢◌, ◌-◌, ◌+◌, ◌*◌, ◌/◌, ◌<◌, ℕ, suc, List, [], ◌∷◌, ◌++◌, length, map, sum_by, bit_and, Option, Some, None, Ok}
use Rattle.std.specs.List.{AllByRecursion}
use Rattle.myi_base.specs.Holding.{Holding}
use Rattle.myi_opening.specs.Names.{rows_file, index_file}
use Rattle.myi_opening.specs.Opening.{Table}
use Rattle.myi_defs.specs.declared.types.Defs.{Defs}
use Rattle.myi_defs.specs.Elsewhere.{AgreeOutsideState}
use Rattle.myi_header.specs.declared.state.State.{State}
use Rattle.myi_header.specs.Layout.{first_page_of}
use Rattle.myi_header.specs.StateOf.{state_of}
use Rattle.myi_header.specs.HeaderOf.{header_of}
use Rattle.myi_header.specs.Analysis.{not_sorted_pages}
use Rattle.myi_btree.specs.Walk.{Node, Places, Walked, content}
use Rattle.myi_btree.specs.LaidPages.{places_from}
use Rattle.myi_btree.specs.Nodes.{node_at}
use Rattle.myi_treecopy.specs.Copying.{pairs_on}
use Rattle.myi_treecopy.specs.LaidBytes.{Laying, whole_tree}
use Rattle.myi_rowkeys.specs.TableKeys.{key_numbers}
use Rattle.myi_pair.specs.Trees.{block_of_key}
use Rattle.myi_pair.specs.Clean.{IsClean}
use Rattle.myi_repair.specs.Names.{new_index_file}
use Rattle.myi_sortindex.specs.Refusals.{table_in}

-- the nodes of the pages of a key in an index file
abbrev pub nodes_of : Defs → ℕ → List ℕ → Places
nodes_of d k x = node_at d.rec_ref (block_of_key d k) x

-- the page at a place stands before its children
abbrev pub StandsFirst : Places → ℕ → Type 0
StandsFirst read place = (node : Node) → read place ≡ Some node → AllByRecursion (λ child. place < child) node.children

-- A tree whose walk was w stands anew, from a place on, and its walk is v: both have the same pairs in their order. Its pages stand
-- one behind the other, in the order in which both walks meet them; each has the pairs of the old one, and stands before its children.
pub record IsLaid (block : ℕ) (old new : Places) (start : ℕ) (w v : Walked) : Type 0 where
  pub pairs : content v ≡ content w
  pub places : v.pages ≡ places_from (length w.pages) block start
  pub pages : map (pairs_on new) v.pages ≡ map (pairs_on old) w.pages
  pub first : AllByRecursion (StandsFirst new) v.pages

-- the trees of these keys, whose walks were these, stand anew, one behind the other from one place on up to another, with those walks
abbrev pub AreLaid : Defs → List ℕ → List ℕ → ℕ → ℕ → List ℕ → List Walked → List Walked → Type 0
AreLaid d x y start end [] ws vs = (ws ≡ []) × (vs ≡ []) × (start ≡ end)
AreLaid d x y start end (k ∷ ks) [] vs = ⊥
AreLaid d x y start end (k ∷ ks) (w ∷ ws) [] = ⊥
AreLaid d x y start end (k ∷ ks) (w ∷ ws) (v ∷ vs) =
    IsLaid (block_of_key d k) (nodes_of d k x) (nodes_of d k y) start w v × AreLaid d x y (start + block_of_key d k * length w.pages) end ks ws vs

-- the changed bits without the one that says that the pages do not stand in their order
abbrev pub sorted_bits : ℕ → ℕ
sorted_bits bits = bit_and bits (255 - not_sorted_pages)

-- the state of a sorted index file with these roots that ends at a place, by the state before
abbrev pub sorted_state : List (Option ℕ) → ℕ → State → State
sorted_state roots end old = record old { changed = sorted_bits old.changed; key_file_length = end; key_empty = 0; roots = roots }

-- The index file x of a data file was sorted and is y: both are clean with that data file. The trees of y fill it from the first page
-- place on, and so many are their pages. Of the header only the roots, the length, the number of free bytes and that bit differ.
pub record IsSorted (rows x y : List ℕ) (pages : ℕ) : Type 0 where
  pub old : IsClean rows x
  pub new : IsClean rows y
  pub laid : AreLaid old.defs x y (first_page_of old.defs) (length y) (key_numbers old.defs) old.walks new.walks
  pub count : pages ≡ sum_by (λ (w : Walked). length w.pages) new.walks
  pub state : state_of old.defs y ≡ sorted_state (state_of old.defs y).roots (length y) (state_of old.defs x)
  pub elsewhere : AgreeOutsideState old.defs.raw y

-- ---- the bytes of a sorted index file

-- the bytes of a tree that is laid from a place on, by its root
abbrev pub root_bytes : Laying → Option ℕ → ℕ → List ℕ
root_bytes lay None start = []
root_bytes lay (Some root) start = lay root start

-- the bytes of the tree of a key in an index file, laid from a place on
abbrev pub tree_bytes : Defs → List ℕ → ℕ → Option ℕ → ℕ → List ℕ
tree_bytes d x k root start = root_bytes (whole_tree d.rec_ref (block_of_key d k) x) root start

-- where the root of a tree stands that is laid from a place on
abbrev pub root_at : ℕ → Option ℕ → Option ℕ
root_at start None = None
root_at start (Some root) = Some start

-- trees that are laid one behind the other: their bytes, their roots, and how many pages they have
pub record TreesLaid : Type 0 where
  pub bytes : List ℕ
  pub roots : List (Option ℕ)
  pub pages : ℕ

abbrev pub no_trees : TreesLaid
no_trees = record { bytes = []; roots = []; pages = 0 }

-- a tree from a place on, on pages of so many bytes, and others behind it
abbrev pub tree_then : ℕ → ℕ → Option ℕ → List ℕ → TreesLaid → TreesLaid
tree_then start block root bytes others = record { bytes = bytes ++ others.bytes; roots = root_at start root ∷ others.roots; pages = length bytes / block + others.pages }

-- the trees of the keys from a number on with these roots, laid from a place on
abbrev pub trees_laid : Defs → List ℕ → ℕ → ℕ → List (Option ℕ) → TreesLaid
trees_laid d x start k [] = no_trees
trees_laid d x start k (root ∷ roots) =
    let bytes = tree_bytes d x k root start in
    tree_then start (block_of_key d k) root bytes (trees_laid d x (start + length bytes) (suc k) roots)

-- the trees of all keys of an index file, laid from the first page place on
unfoldable pub index_trees : Defs → List ℕ → TreesLaid
index_trees d x = trees_laid d x (first_page_of d) 1 (state_of d x).roots

-- the index file with these trees: the header with their roots, the bits, the length and no free bytes, and behind it the trees
abbrev pub index_with : Defs → List ℕ → TreesLaid → List ℕ
index_with d x trees = header_of d (sorted_state trees.roots (first_page_of d + length trees.bytes) (state_of d x)) ++ trees.bytes

-- the index file of which the pages are sorted
unfoldable pub sorted_index : Defs → List ℕ → List ℕ
sorted_index d x = index_with d x (index_trees d x)

-- ---- what a call leaves

-- The table of this name was not refused. Its data file is as before. Its index file is the sorted one, which is clean with that data
-- file, and has so many pages. The working file is gone.
pub record Sorts (name : List ℕ) (pages : ℕ) (m n : Holding) : Type 0 where
  pub table : Table
  pub is : table_in name m ≡ Ok table
  pub had_rows : m (rows_file name) ≡ Some table.rows
  pub had_index : m (index_file name) ≡ Some table.index
  pub has_rows : n (rows_file name) ≡ Some table.rows
  pub has_index : n (index_file name) ≡ Some (sorted_index table.defs table.index)
  pub answer : pages ≡ (index_trees table.defs table.index).pages
  pub sorted : IsSorted table.rows table.index (sorted_index table.defs table.index) pages
  pub gone : n (new_index_file name) ≡ None

-- files of other names than the index file and the working file hold what they held
abbrev pub OthersStay : List ℕ → Holding → Holding → Type 0
OthersStay name m n = (q : List ℕ) → q ≢ index_file name → q ≢ new_index_file name → n q ≡ m q
