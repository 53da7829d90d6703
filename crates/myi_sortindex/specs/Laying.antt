-- The trees of an index file that were laid so far into another one, key after key.
use Rattle.std.specs.Prelude.{◌≡◌, ◌≢◌, ◌≤◌, ◌+◌, ◌*◌, ◌/◌, ℕ, suc, List, [], ◌∷◌, length, map, take, drop, sum_by, Option, Some, None, Ok}
use Rattle.myi_base.specs.Holding.{Holding, bytes_of}
use Rattle.myi_base.specs.Holding as holding
use Rattle.myi_defs.specs.declared.types.Defs.{Defs}
use Rattle.myi_defs.specs.ReadDefs.{read_defs}
use Rattle.myi_header.specs.declared.state.State.{State}
use Rattle.myi_header.specs.Layout.{first_page_of}
use Rattle.myi_btree.specs.declared.place.Place.{Place}
use Rattle.myi_btree.specs.Walk.{Places, Walked, walk_of, content}
use Rattle.myi_btree.specs.LaidPages.{places_from}
use Rattle.myi_btree.specs.Nodes.{node_at}
use Rattle.myi_treecopy.specs.Copying.{pairs_on}
use Rattle.myi_treecopy.specs.LaidBytes.{whole_tree}
use Rattle.myi_treecopy.specs.declared.fault.CopyFault.{CopyFault}
use Rattle.myi_treecopy.specs.declared.fault.CopyFault.TheVariants as copy
use Rattle.myi_pair.specs.declared.finding.Finding.TheVariants as finding
use Rattle.myi_pair.specs.Trees.{block_of_key, no_walk}
use Rattle.myi_pair.specs.Clean.{IsClean}
use Rattle.myi_sortindex.specs.declared.fault.SortFault.{SortFault}
use Rattle.myi_sortindex.specs.declared.fault.SortFault.TheVariants as sort
use Rattle.myi_sortindex.specs.declared.laying.IndexCopy.{IndexCopy}
use Rattle.myi_sortindex.specs.declared.laying.LaidTrees.{LaidTrees}
use Rattle.myi_sortindex.specs.Sorting.{nodes_of, sorted_bits, IsSorted, root_bytes, root_at, TreesLaid, trees_laid, index_trees, sorted_index}

-- a tree has this walk from its root, whatever its height
abbrev pub HasTreeWalk : Places → Option ℕ → Walked → Type 0
HasTreeWalk read None w = w ≡ no_walk
HasTreeWalk read (Some root) w = (height : ℕ) × (walk_of read height root ≡ Some w)

-- a tree by its root and its walk
abbrev pub Tree : Type 0
Tree = Option ℕ × Walked

-- the trees of the keys from a number on
abbrev pub AreTrees : Defs → List ℕ → ℕ → List Tree → Type 0
AreTrees d x k [] = Unit {0}
AreTrees d x k (t ∷ ts) = HasTreeWalk (nodes_of d k x) t.0 t.1 × AreTrees d x (suc k) ts

-- the place behind trees that are laid from a place on
abbrev pub end_of : Defs → ℕ → ℕ → List Tree → ℕ
end_of d start k [] = start
end_of d start k (t ∷ ts) = end_of d (start + block_of_key d k * length t.1.pages) (suc k) ts

-- the roots of trees that are laid from a place on
abbrev pub roots_from : Defs → ℕ → ℕ → List Tree → List (Option ℕ)
roots_from d start k [] = []
roots_from d start k (t ∷ ts) = root_at start t.0 ∷ roots_from d (start + block_of_key d k * length t.1.pages) (suc k) ts

-- how many pages trees have
abbrev pub page_count : List Tree → ℕ
page_count ts = sum_by (λ (t : Tree). length t.1.pages) ts

-- a tree stands anew from a place on, with the walk v
pub record LaysTree (block : ℕ) (old new : Places) (start : ℕ) (t : Tree) (v : Walked) : Type 0 where
  pub walk : HasTreeWalk new (root_at start t.0) v
  pub pairs : content v ≡ content t.1
  pub places : v.pages ≡ places_from (length t.1.pages) block start
  pub pages : map (pairs_on new) v.pages ≡ map (pairs_on old) t.1.pages

-- these trees stand anew, one behind the other, from a place on
abbrev pub LaysTrees : Defs → List ℕ → List ℕ → ℕ → ℕ → List Tree → Type 0
LaysTrees d x y start k [] = Unit {0}
LaysTrees d x y start k (t ∷ ts) =
    ((v : Walked) × LaysTree (block_of_key d k) (nodes_of d k x) (nodes_of d k y) start t v) × LaysTrees d x y (start + block_of_key d k * length t.1.pages) (suc k) ts

-- these trees are what was laid
pub record IsOf (d : Defs) (x y : List ℕ) (laid : LaidTrees) (ts : List Tree) : Type 0 where
  pub trees : LaysTrees d x y (first_page_of d) 1 ts
  pub end : laid.end ≡ end_of d (first_page_of d) 1 ts
  pub roots : laid.roots.items ≡ roots_from d (first_page_of d) 1 ts
  pub count : laid.pages ≡ page_count ts

-- these bytes of trees from a place on, their roots and how many pages they have are what was laid
pub record HasBytes (first : ℕ) (y : List ℕ) (laid : LaidTrees) (trees : TreesLaid) : Type 0 where
  pub bytes : drop first y ≡ trees.bytes
  pub end : laid.end ≡ first + length trees.bytes
  pub roots : laid.roots.items ≡ trees.roots
  pub count : laid.pages ≡ trees.pages

-- The trees of so many keys were laid, of which these are the roots. The working file ends where they end.
pub record LaysFirst (c : IndexCopy) (d : Defs) (roots : List (Option ℕ)) (count : ℕ) (laid : LaidTrees) (m n : Holding) : Type 0 where
  pub long : length (bytes_of c.working.now n) ≡ laid.end
  pub others : holding.OthersStay c.working.now m n
  pub first : (ts : List Tree) → AreTrees d (bytes_of c.index.now m) 1 ts → map (λ (t : Tree). t.0) ts ≡ roots → IsOf d (bytes_of c.index.now m) (bytes_of c.working.now n) laid (take count ts)
  pub exact : (ts : List Tree) → AreTrees d (bytes_of c.index.now m) 1 ts → map (λ (t : Tree). t.0) ts ≡ roots
      → HasBytes (first_page_of d) (bytes_of c.working.now n) laid (trees_laid d (bytes_of c.index.now m) (first_page_of d) 1 (take count roots))

-- such a tree is what was laid last
pub record IsNext (place : Place) (x y : List ℕ) (old new : LaidTrees) (t : Tree) : Type 0 where
  pub walked : Walked
  pub tree : LaysTree place.block_length (node_at place.rec_ref place.block_length x) (node_at place.rec_ref place.block_length y) old.end t walked
  pub end : new.end ≡ old.end + place.block_length * length t.1.pages
  pub count : new.pages ≡ old.pages + length t.1.pages

-- these bytes of a tree are what was laid last
pub record PutsBytes (block : ℕ) (y : List ℕ) (old new : LaidTrees) (bytes : List ℕ) : Type 0 where
  pub there : drop old.end y ≡ bytes
  pub count : new.pages ≡ old.pages + length bytes / block

-- One more tree was laid, from the end on, on pages that are made so. The working file ended there, and ends behind it.
pub record LaysNext (c : IndexCopy) (place : Place) (root : Option ℕ) (old new : LaidTrees) (m n : Holding) : Type 0 where
  pub long : length (bytes_of c.working.now n) ≡ new.end
  pub kept : take (length (bytes_of c.working.now m)) (bytes_of c.working.now n) ≡ bytes_of c.working.now m
  pub others : holding.OthersStay c.working.now m n
  pub tree : (w : Walked) → HasTreeWalk (node_at place.rec_ref place.block_length (bytes_of c.index.now m)) root w
      → IsNext place (bytes_of c.index.now m) (bytes_of c.working.now n) old new (root, w)
  pub exact : (w : Walked) → HasTreeWalk (node_at place.rec_ref place.block_length (bytes_of c.index.now m)) root w
      → PutsBytes place.block_length (bytes_of c.working.now n) old new (root_bytes (whole_tree place.rec_ref place.block_length (bytes_of c.index.now m)) root old.end)

-- no tree stands below the root that has room before the limit, from a place on
abbrev pub HasNoRoom : IndexCopy → Place → Option ℕ → ℕ → Holding → Type 0
HasNoRoom c place root start m = (w : Walked) → HasTreeWalk (node_at place.rec_ref place.block_length (bytes_of c.index.now m)) root w → start + place.block_length * length w.pages ≤ c.limit → ⊥

-- the trees of these roots are not there, or have no room before the limit
abbrev pub HaveNoRoom : IndexCopy → Defs → List (Option ℕ) → Holding → Type 0
HaveNoRoom c d roots m = (ts : List Tree) → AreTrees d (bytes_of c.index.now m) 1 ts → map (λ (t : Tree). t.0) ts ≡ roots → end_of d (first_page_of d) 1 ts ≤ c.limit → ⊥

-- the index file begins with these definitions, and is clean with some data file
abbrev pub IsCleanIndex : List ℕ → Defs → Holding → Type 0
IsCleanIndex index d m = (x : List ℕ) × (m index ≡ Some x) × (read_defs x ≡ Ok d) × ((rows : List ℕ) × IsClean rows x)

-- the trees of the index file were laid into the working file, whose roots, end and count these are
abbrev pub LaysAll : IndexCopy → Defs → List (Option ℕ) → LaidTrees → Holding → Holding → Type 0
LaysAll c d roots laid m n = LaysFirst c d roots (length roots) laid m n

-- the index file, where it is clean with a data file, was sorted and has so many pages: it is the sorted one, and the working file is gone
abbrev pub Replaces : List ℕ → List ℕ → Defs → ℕ → Holding → Holding → Type 0
Replaces index working d pages m n = (rows x : List ℕ) → m index ≡ Some x → read_defs x ≡ Ok d → IsClean rows x
    → (n index ≡ Some (sorted_index d x)) × (n working ≡ None) × (pages ≡ (index_trees d x).pages) × IsSorted rows x (sorted_index d x) pages

-- files of other names than these two hold what they held
abbrev pub OthersStayOf : List ℕ → List ℕ → Holding → Holding → Type 0
OthersStayOf index working m n = (q : List ℕ) → q ≢ index → q ≢ working → n q ≡ m q

-- the index file is as before
abbrev pub KeepsIndex : List ℕ → Holding → Holding → Type 0
KeepsIndex index m n = n index ≡ m index

-- a state with the roots and the end of trees that were laid
abbrev pub state_laid : State → LaidTrees → State
state_laid s laid = record s { changed = sorted_bits s.changed; key_file_length = laid.end; key_empty = 0; roots = laid.roots.items }

-- why the tree of a key is not laid, by why it is not copied
abbrev pub copy_fault : ℕ → CopyFault → SortFault
copy_fault key (copy.Damaged at) = sort.Damaged (finding.Key key at)
copy_fault key copy.File = sort.File
copy_fault key copy.Memory = sort.Memory
