-- A table with two unique keys, and what is kept of three rows: the second row repeats the first key of the first, and
-- the third repeats only a key of the second, which is not kept.
use Rattle.std.proofs.Common.{◌≡◌, ℕ, [], ◌∷◌, true, Some, take, refl}
use Rattle.myi_defs.specs.declared.types.RowFormat.TheVariants.{Static}
use Rattle.myi_defs.specs.declared.types.FieldKind.TheVariants.{Normal}
use Rattle.myi_defs.specs.declared.types.SegType.TheVariants.{LongInt}
use Rattle.myi_defs.specs.declared.types.Segment.{Segment}
use Rattle.myi_defs.specs.declared.types.Key.{Key}
use Rattle.myi_defs.specs.declared.types.Defs.{Defs}
use Rattle.myi_pack.specs.Spelling.{spelling}
use Rattle.myi_keys.specs.Weights.{weights}
use Rattle.myi_data.specs.Keys.{key_of}
use Rattle.myi_data.specs.Stored.{SizedRow, group, stored, stored_file}
use Rattle.myi_base.specs.Numbers.{num_bytes}
use Rattle.myi_keypage.specs.Page.{page_bytes}
use Rattle.myi_btree.specs.Building.{page_for}
use Rattle.myi_pair.specs.KeyList.{key_list}
use Rattle.myi_pair.specs.RebuiltBytes.{placed_from, laid_trees}
use Rattle.myi_pair.specs.FirstRows.{repeats, first_rows}

segment_at : ℕ → ℕ → Segment
segment_at start field = record { seg = LongInt; language = 0; null_bit = 0; null_pos = 0; length = 4; start = start; field = field }

key_at : ℕ → ℕ → Key
key_at start field = record { unique = true; block_length = 1024; segments = segment_at start field ∷ [] }

table : Defs
table = record {
  format = Static;
  fields = record { kind = Normal; length = 1; start = 0 } ∷ record { kind = Normal; length = 4; start = 1 } ∷ record { kind = Normal; length = 4; start = 5 } ∷ [];
  keys = key_at 1 1 ∷ key_at 5 2 ∷ [];
  rec_ref = 6;
  key_ref = 4;
  row_length = 9;
  slot_length = 9;
  raw = [];
}

row_with : ℕ → ℕ → SizedRow
row_with a b = record { values = (255 ∷ []) ∷ (a ∷ 0 ∷ 0 ∷ 0 ∷ []) ∷ (b ∷ 0 ∷ 0 ∷ 0 ∷ []) ∷ []; sizes = [] }

two_are_kept : first_rows table (row_with 1 10 ∷ row_with 1 20 ∷ row_with 2 20 ∷ []) ≡ row_with 1 10 ∷ row_with 2 20 ∷ []
unfolding table key_at segment_at row_with first_rows repeats key_of weights
two_are_kept = refl

in_eighteen_bytes : stored_file table (row_with 1 10 ∷ row_with 2 20 ∷ []) ≡ 255 ∷ 1 ∷ 0 ∷ 0 ∷ 0 ∷ 10 ∷ 0 ∷ 0 ∷ 0 ∷ 255 ∷ 2 ∷ 0 ∷ 0 ∷ 0 ∷ 20 ∷ 0 ∷ 0 ∷ 0 ∷ []
unfolding table row_with stored_file stored group spelling
in_eighteen_bytes = refl

-- the page of the first key: 24 bytes are used, and of the second entry's key only the last byte stands
first_page : take 24 (laid_trees table 1024 (1 ∷ []) (key_list table 1 (placed_from table 0 (row_with 1 10 ∷ row_with 2 20 ∷ [])) ∷ [])).bytes
    ≡ 0 ∷ 24 ∷ 0 ∷ 5 ∷ 5 ∷ 128 ∷ 0 ∷ 0 ∷ 1 ∷ 0 ∷ 0 ∷ 0 ∷ 0 ∷ 0 ∷ 0 ∷ 4 ∷ 1 ∷ 2 ∷ 0 ∷ 0 ∷ 0 ∷ 0 ∷ 0 ∷ 1 ∷ []
unfolding table key_at segment_at row_with key_list key_of weights group spelling page_for page_bytes num_bytes
first_page = refl

one_root : (laid_trees table 1024 (1 ∷ []) (key_list table 1 (placed_from table 0 (row_with 1 10 ∷ row_with 2 20 ∷ [])) ∷ [])).roots ≡ Some 1024 ∷ []
unfolding table key_at segment_at row_with key_list key_of weights group spelling num_bytes
one_root = refl
