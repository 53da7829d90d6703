-- What building a tree does to a key cache and the files.
use Rattle.std.specs.Prelude.{◌≡◌, ◌⊎◌, ℕ, ◌+◌, ◌≤◌, true, List, [], ◌∷◌, length, Option, Some}
use Rattle.myi_base.specs.Holding.{Holding, Told, overwritten, OthersStay}
use Rattle.std.specs.List.{AllByRecursion, flat_map}
use Rattle.myi_keys.specs.Limits.{IsKey}
use Rattle.myi_keypage.specs.Page.{Page as IndexPage, page_bytes, is_node, IsBranching, IsWritable}
use Rattle.myi_keypage.specs.Fitting.{used_length}
use Rattle.myi_keypage.specs.Writing.{filled_up}
use Rattle.myi_keycache.specs.Kept.{Page, is_kept}
use Rattle.myi_keycache.specs.Caching.{pages_of, Caching, lends, contents, IsCurrent, CanPut, Stays, Puts}
use Rattle.myi_keylist.specs.declared.pair.Pair.{Pair}
use Rattle.myi_btree.specs.declared.place.Place.{Place}
use Rattle.myi_btree.specs.Walk.{Node}
use Rattle.myi_btree.specs.Nodes.{page_of_node}
use Rattle.myi_btree.specs.Sizes.{fits_in}
use Rattle.myi_btree.specs.CachedTrees.{RoseBy}
use Rattle.myi_btree.specs.LaidPages.{IsLaidAt, laid, root_of}

-- the pages that building puts for these pairs, from a place on
abbrev pub laid_at : Place → ℕ → List Pair → List Node
laid_at place first pairs = laid (fits_in place) place.block_length first pairs

-- the tree of these pairs, built from a place on
abbrev pub built_at : Place → ℕ → List Pair → Place
built_at place first pairs = record place { root = root_of place.block_length first (laid_at place first pairs) }

-- a page with zeros behind its used bytes
abbrev pub whole_page : Place → IndexPage → List ℕ
whole_page place page = filled_up (page_bytes place.rec_ref page) place.block_length

-- the page of a node
unfoldable pub page_for : Place → Node → List ℕ
page_for place node = whole_page place (page_of_node node)

-- the pages of these nodes, one behind the other
abbrev pub pages_bytes : Place → List Node → List ℕ
pages_bytes place nodes = flat_map (page_for place) nodes

-- the key of each pair is a key
abbrev pub AreKeys : List Pair → Type 0
AreKeys pairs = AllByRecursion (λ (p : Pair). IsKey p.key) pairs

-- a node that can be written as a page of the tree, and whose pairs have keys
pub record IsWritten (place : Place) (node : Node) : Type 0 where
  pub page : IsWritable place.rec_ref (page_of_node node)
  pub branching : IsBranching (page_of_node node)
  pub keys : AreKeys node.pairs
  pub fits : used_length place.rec_ref (is_node (page_of_node node)) (page_of_node node).entries ≤ place.block_length

-- a page was put, and files of other names hold what they held
abbrev pub PutsPage : ℕ → List ℕ → Caching → Caching → Holding → Holding → Type 0
PutsPage at bytes old new m n = Puts at bytes old new m n × OthersStay old.name m n

-- nothing was put, and files of other names hold what they held
abbrev pub PutsNone : Caching → Caching → Holding → Holding → Type 0
PutsNone old new m n = Stays old new m n × OthersStay old.name m n

-- a page was put, where it could be
abbrev pub MayPut : ℕ → List ℕ → Caching → Caching → Holding → Holding → Type 0
MayPut at bytes old new m n = CanPut old m at (length bytes) → PutsPage at bytes old new m n

-- none was put, where the file is as the cache's last call left it
abbrev pub NotPut : Caching → Caching → Holding → Holding → Type 0
NotPut old new m n = IsCurrent old m → PutsNone old new m n

-- the setup of the cache and its counters of reads stay, and write requests may have risen
pub record PutsOnly (old new : Caching) : Type 0 where
  pub setup : new.setup ≡ old.setup
  pub read_requests : new.counters.read_requests ≡ old.counters.read_requests
  pub reads : new.counters.reads ≡ old.counters.reads
  pub requests : (n : ℕ) × RoseBy n old.counters.write_requests new.counters.write_requests

-- Other files hold what they held, where they tell it; and whatever they tell, each page that is kept was kept before, or has
-- this length and lies from this place on.
pub record LaysOnly (before after : Option Holding) (len first : ℕ) (old new : Caching) : Type 0 where
  pub others : Told before after (OthersStay old.name)
  pub kept : (p n : ℕ) → is_kept (pages_of new) p n ≡ true → (is_kept (pages_of old) p n ≡ true) ⊎ ((n ≡ len) × (first ≤ p))

-- so many write requests were counted
abbrev pub CountsPuts : ℕ → Caching → Caching → Type 0
CountsPuts n old new = RoseBy n old.counters.write_requests new.counters.write_requests

-- the pages of these nodes are lent, one behind the other from a place on
abbrev pub AreLent : Place → Caching → Holding → ℕ → List Node → Type 0
AreLent place cache m first [] = Unit {0}
AreLent place cache m first (node ∷ nodes) = (lends cache m first place.block_length ≡ Some (page_for place node)) × AreLent place cache m (first + place.block_length) nodes

-- a file over which the pages of these nodes were written, one behind the other from a place on
abbrev pub laid_over : Place → ℕ → List Node → List ℕ → List ℕ
laid_over place first [] file = file
laid_over place first (node ∷ nodes) file = laid_over place (first + place.block_length) nodes (overwritten first (page_for place node) file)

-- no page that is kept ends behind this place
abbrev pub EndBefore : List Page → ℕ → Type 0
EndBefore pages end = (p n : ℕ) → is_kept pages p n ≡ true → p + n ≤ end

-- pages may be put from a place on: the cache's file is as its last call left it, and no page that is kept ends behind it
pub record CanLay (cache : Caching) (m : Holding) (first : ℕ) : Type 0 where
  pub current : IsCurrent cache m
  pub before : EndBefore (pages_of cache) first

-- of each range before this place the same is lent, and files of other names hold what they held
pub record Spares (first : ℕ) (old new : Caching) (m n : Holding) : Type 0 where
  pub current : IsCurrent new n
  pub lent : (p len : ℕ) (x : List ℕ) → p + len ≤ first → lends old m p len ≡ Some x → lends new n p len ≡ Some x
  pub others : OthersStay old.name m n

-- each page that is kept was kept before, or is one of so many from a place on
abbrev pub AddsLaid : Place → ℕ → ℕ → List Page → List Page → Type 0
AddsLaid place first count old new = (p n : ℕ) → is_kept new p n ≡ true → (is_kept old p n ≡ true) ⊎ ((n ≡ place.block_length) × IsLaidAt place.block_length first count p)

-- the pages of these nodes were put from a place on, and nothing else
pub record Lays (place : Place) (first : ℕ) (nodes : List Node) (old new : Caching) (m n : Holding) : Type 0 where
  pub spares : Spares first old new m n
  pub there : AreLent place new n first nodes
  pub contents : contents new n ≡ laid_over place first nodes (contents old m)
  pub kept : AddsLaid place first (length nodes) (pages_of old) (pages_of new)

-- the pages were put, where they could be
abbrev pub MayLay : Place → ℕ → List Node → Caching → Caching → Holding → Holding → Type 0
MayLay place first nodes old new m n = CanLay old m first → Lays place first nodes old new m n

-- nothing before this place was changed, where pages could be put from there on
abbrev pub NotLaid : ℕ → Caching → Caching → Holding → Holding → Type 0
NotLaid first old new m n = CanLay old m first → Spares first old new m n
