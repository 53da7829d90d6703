use Rattle.std.proofs.Common.{ℕ, List, [], ◌∷◌}
use Rattle.myi_header.specs.Layout.{first_page_of}
use Rattle.myi_header.specs.StateOf.{state_of}
use Rattle.myi_defs.proofs.CallerLemmas.{sound, are_defs}
use Rattle.myi_keyedrows.specs.KeyedRows.{defs_of}
use Rattle.myi_keyedrows.proofs.OpenLemmas.{opened_files}
use Rattle.myi_keyedrows.proofs.laws.opened_files_stand.Goals as goal

pub returns : goal.returns
returns c = λ k m s b x o current there_rows there_index t. opened_files k m s b x o current there_rows there_index t
    (λ i. c.key_lists_are_in_order.ensures.strict (defs_of k) s i (sound (defs_of k) (are_defs x (defs_of k) t.read)) t.table.state)
    (c.trees_of_pairs_are_trees.ensures.there (defs_of k) x ((0, first_page_of (defs_of k)) ∷ []) (state_of (defs_of k) x).roots t.trees.walks t.trees.trees)
