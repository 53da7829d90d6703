-- The bytes of a tree that is laid anew: a page with its children's new places, behind it what stands below its first child, then what
-- stands below the second, and so on (as myisamchk lays an index with --sort-index).
use Rattle.std.specs.Prelude.{ℕ, zero, suc, ◌+◌, List, [], ◌∷◌, ◌++◌, length, take, drop, Option, Some, None}
use Rattle.myi_keypage.specs.Page.{Page, page_bytes}
use Rattle.myi_keypage.specs.Children.{with_children}
use Rattle.myi_keypage.specs.Views.{page_in}

-- how the tree below a place is laid from another place on
abbrev pub Laying : Type 0
Laying = ℕ → ℕ → List ℕ

-- the trees below these places, one behind the other from a place on, and where they begin
abbrev pub all_laid : Laying → List ℕ → ℕ → List ℕ
all_laid lay [] first = []
all_laid lay (c ∷ cs) first = lay c first ++ all_laid lay cs (first + length (lay c first))

abbrev pub beginnings : Laying → List ℕ → ℕ → List ℕ
beginnings lay [] first = []
beginnings lay (c ∷ cs) first = first ∷ beginnings lay cs (first + length (lay c first))

-- these bytes of a page with children in the place of its own: what stands behind the page stays
abbrev pub with_places : ℕ → List ℕ → Page → List ℕ → List ℕ
with_places rec_ref bytes p places = page_bytes rec_ref (with_children places p) ++ drop (length (page_bytes rec_ref p)) bytes

-- a page of so many bytes, and what stands below its children behind it
abbrev pub page_laid : ℕ → ℕ → Laying → List ℕ → Option Page → ℕ → List ℕ
page_laid rec_ref block lay bytes None start = bytes
page_laid rec_ref block lay bytes (Some p) start = with_places rec_ref bytes p (beginnings lay p.children (start + block)) ++ all_laid lay p.children (start + block)

-- the tree of a file whose leaves stand so many levels below a place, laid from another place on
abbrev pub tree_laid : ℕ → ℕ → List ℕ → ℕ → Laying
tree_laid rec_ref block file zero at start = take block (drop at file)
tree_laid rec_ref block file (suc height) at start = page_laid rec_ref block (tree_laid rec_ref block file height) (take block (drop at file)) (page_in rec_ref (take block (drop at file))) start

-- the most levels that a tree has below its root: one with more has 2^64 pages at least
unfoldable pub most_levels : ℕ
most_levels = 64

-- a tree of any height, laid from a place on
unfoldable pub whole_tree : ℕ → ℕ → List ℕ → Laying
whole_tree rec_ref block file at start = tree_laid rec_ref block file most_levels at start
