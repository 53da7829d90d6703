-- A search that is under way: what it has gone into, and what that says of the tree.
use Rattle.std.specs.Prelude.{◌≡◌, ℕ, suc, ◌+◌, ◌<◌, ◌≤◌, Bool, true, List, [], length, Option, Some, None}
use Rattle.std.specs.List.{list_all, AllByRecursion}
use Rattle.std.specs.Option.{option_or, option_to_list}
use Rattle.myi_base.specs.Holding.{Holding}
use Rattle.myi_keypage.specs.PageItems.{Item}
use Rattle.myi_keypage.specs.Views.{ViewedPage, entries_after, children_of, with_child}
use Rattle.myi_keycache.specs.Caching.{Caching, pages_of}
use Rattle.myi_keylist.specs.declared.pair.Pair.{Pair}
use Rattle.myi_btree.specs.declared.place.Place.{Place}
use Rattle.myi_btree.specs.Walk.{◌>>=◌, each, Node, node_with, Places, Walked, walk_of, content}
use Rattle.myi_btree.specs.Nodes.{pair_in}
use Rattle.myi_btree.specs.CachedTrees.{is_among, AddsAmong, IsClosed}
use Rattle.myi_btree.specs.Serving.{View, nodes_at, Serves, CanAsk}
use Rattle.myi_search.specs.Path.{next_child, Comes, IsStopped, Arrives}
use Rattle.myi_search.specs.Passing.{first_kept, IsParted}

-- the node that a view of a page shows, and none where a key of it is no key's code
abbrev pub node_shown : ViewedPage → Option Node
node_shown s = each pair_in (entries_after [] s.items) >>= λ pairs. Some (node_with pairs (with_child s.first (children_of s.items)))

-- a search went into a page: the child that is next, and the best pair then
pub record Enters (test : Pair → Bool) (page : Option Node) (child : Option ℕ) (old new : Option Pair) : Type 0 where
  pub node : Node
  pub stands : page ≡ Some node
  pub next : next_child test node.pairs node.children ≡ child
  pub best : new ≡ option_or (first_kept test node.pairs) old

-- a page is the root of a tree with more levels than these
abbrev pub IsHigher : Places → ℕ → ℕ → Type 0
IsHigher read level place = (more : ℕ) × (w : Walked) × (level < more) × (walk_of read more place ≡ Some w)

-- a search of a tree, of which it went into these pages, comes to a page of it: what it keeps there, or else the best pair so far, is
-- what the tree keeps
pub record Below (read : Places) (test : Pair → Bool) (height : ℕ) (w : Walked) (seen : List ℕ) (at : ℕ) (best : Option Pair) : Type 0 where
  pub level : ℕ
  pub part : Walked
  pub walks : walk_of read level at ≡ Some part
  pub sum : length seen + level ≡ height
  pub higher : AllByRecursion (IsHigher read level) seen
  pub keeps : IsParted test (content w) → IsParted test (content part) × (option_or (first_kept test (content part)) best ≡ first_kept test (content w))

-- or it went into a leaf last
pub record AtEnd (test : Pair → Bool) (height : ℕ) (w : Walked) (seen : List ℕ) (best : Option Pair) : Type 0 where
  pub sum : length seen ≡ suc height
  pub keeps : IsParted test (content w) → best ≡ first_kept test (content w)

abbrev pub InTree : Places → (Pair → Bool) → ℕ → Walked → List ℕ → Option ℕ → Option Pair → Type 0
InTree read test height w seen (Some at) best = Below read test height w seen at best
InTree read test height w seen None best = AtEnd test height w seen best

abbrev pub OnPath : Places → (Pair → Bool) → ℕ → List ℕ → Option ℕ → Type 0
OnPath read test root seen (Some at) = Comes read test root seen at
OnPath read test root seen None = Arrives read test (Some root)

-- what holds of the pages that a search went into, also where it was refused
pub record Went (place : Place) (v : View) (told : Option Holding) (cache : Caching) (root : ℕ) (seen : List ℕ) : Type 0 where
  pub serves : Serves place v told cache
  pub named : (test : ℕ → Bool) → IsClosed (nodes_at place v) test → test root ≡ true → list_all test seen ≡ true
  pub few : (height : ℕ) (w : Walked) → walk_of (nodes_at place v) height root ≡ Some w → length seen ≤ suc height

-- a search went into these pages and goes into this one next
pub record Going (place : Place) (test : Pair → Bool) (v : View) (told : Option Holding) (cache : Caching) (root : ℕ) (seen : List ℕ) (down : Option ℕ) (best : Option Pair) : Type 0 where
  pub went : Went place v told cache root seen
  pub asked : list_all v.asked (option_to_list down) ≡ true
  pub path : OnPath (nodes_at place v) test root seen down
  pub tree : (height : ℕ) (w : Walked) → walk_of (nodes_at place v) height root ≡ Some w → InTree (nodes_at place v) test height w seen down best

-- no more was asked for and read than so many pages, and those alone came to be kept
pub record Asked (place : Place) (old new : Caching) (before after : ℕ) (seen : List ℕ) : Type 0 where
  pub requests : new.counters.read_requests ≤ old.counters.read_requests + length seen
  pub reads : after ≤ before + length seen
  pub added : AddsAmong place (is_among seen) (pages_of old) (pages_of new)

-- of some pages this holds, as of those that a search asked for
abbrev pub AskedSome : Place → Option Holding → Option Holding → Caching → Caching → ℕ → ℕ → ℕ → Type 0
AskedSome place told next old new before after root = (seen : List ℕ) × Asked place old new before after seen
    × ((v : View) → CanAsk place v told old root → Went place v next new root seen)

-- a search that came to a leaf
pub record Ends (place : Place) (test : Pair → Bool) (v : View) (root : ℕ) (best : Option Pair) : Type 0 where
  pub arrives : Arrives (nodes_at place v) test (Some root)
  pub keeps : (height : ℕ) (w : Walked) → walk_of (nodes_at place v) height root ≡ Some w → IsParted test (content w) → best ≡ first_kept test (content w)

-- a search that met no page, or one again
pub record Stops (place : Place) (test : Pair → Bool) (v : View) (root at : ℕ) : Type 0 where
  pub stopped : IsStopped (nodes_at place v) test (Some root) at
  pub never : (height : ℕ) (w : Walked) → walk_of (nodes_at place v) height root ≡ Some w → ⊥

-- what is still to be read of a page: of the pairs that are left the same is kept and the same child is next as of all
pub record Seeking (test : Pair → Bool) (s : ViewedPage) (code : List ℕ) (rest : List Item) (child : Option ℕ) : Type 0 where
  pub none : each pair_in (entries_after code rest) ≡ None → each pair_in (entries_after [] s.items) ≡ None
  pub some : (ys : List Pair) → each pair_in (entries_after code rest) ≡ Some ys → (zs : List Pair) × (each pair_in (entries_after [] s.items) ≡ Some zs)
      × (first_kept test zs ≡ first_kept test ys)
      × (next_child test zs (with_child s.first (children_of s.items)) ≡ next_child test ys (with_child child (children_of rest)))
