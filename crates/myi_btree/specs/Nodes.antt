-- The node that bytes are: a page each of whose keys is the code of a key.
use Rattle.std.specs.Prelude.{ℕ, ◌%◌, ◌==◌, List, Option, Some, None, Result, Ok, Err, if◌then◌else◌}
use Rattle.myi_keypage.specs.declared.entry.Entry.{Entry}
use Rattle.myi_keypage.specs.Page.{Page, page_with}
use Rattle.myi_keypage.specs.Views.{page_in}
use Rattle.myi_keys.specs.declared.values.KeySeg.{KeySeg}
use Rattle.myi_keys.specs.declared.codes.KeyFault.{KeyFault}
use Rattle.myi_keys.specs.Decoding.{key_at}
use Rattle.myi_keycache.specs.Lent.{bytes_at}
use Rattle.myi_keylist.specs.declared.pair.Pair.{Pair}
use Rattle.myi_keylist.specs.PairOrder.{pair_with}
pub use Rattle.myi_keylist.specs.PairEntries.{entry_of, entries_of}
use Rattle.myi_btree.specs.declared.node.NodeData.{NodeData}
use Rattle.myi_btree.specs.Walk.{◌>>=◌, each, Node, node_with, Places}

-- what a node of the code is
abbrev pub node_view : NodeData → Node
node_view n = node_with n.pairs.items n.children.items

-- the page that a node stands as
abbrev pub page_of_node : Node → Page
page_of_node node = page_with (entries_of node.pairs) node.children

abbrev pub ok_or_none : Result (List KeySeg) KeyFault → Option (List KeySeg)
ok_or_none (Ok key) = Some key
ok_or_none (Err fault) = None

-- the key that bytes are the code of
unfoldable pub key_in : List ℕ → Option (List KeySeg)
key_in code = ok_or_none (key_at code)

unfoldable pub pair_in : Entry → Option Pair
pair_in e = key_in e.key >>= λ key. Some (pair_with key e.row)

-- the node that bytes are, and none where they are no page or a key of it is no key's code
unfoldable pub node_in : ℕ → List ℕ → Option Node
node_in rec_ref bytes = page_in rec_ref bytes >>= λ page. each pair_in page.entries >>= λ pairs. Some (node_with pairs page.children)

-- the nodes of an index file, on pages of so many bytes
unfoldable pub node_at : ℕ → ℕ → List ℕ → Places
node_at rec_ref block x at = if at % 1024 == 0 then bytes_at x at block >>= node_in rec_ref else None
