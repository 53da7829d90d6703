-- What the files show of the numbers that a header has, and the tests of the header by them.
use Rattle.std.specs.Prelude.{◌≡◌, ◌-◌, ◌==◌, ℕ, Bool, true, false, List, [], ◌∷◌, length, Option, Some, None, if◌then◌else◌}
use Rattle.std.specs.Option.{option_map}
use Rattle.myi_defs.specs.declared.types.Defs.{Defs}
use Rattle.myi_header.specs.declared.state.State.{State}
use Rattle.myi_header.specs.Layout.{first_page_of}
use Rattle.myi_chain.specs.Meeting.{ranges_of}
use Rattle.myi_data.specs.Readable.{readable, deleted}
use Rattle.myi_pair.specs.declared.finding.HeaderItem.{HeaderItem}
use Rattle.myi_pair.specs.declared.finding.HeaderItem.TheVariants.{Mark, Records, Del, Split, KeyFileLength, DataFileLength, Empty, KeyEmpty}
use Rattle.myi_pair.specs.Trees.{total}
use Rattle.myi_pair.specs.Findings.{all_walks, all_walk, page_bytes}
use Rattle.myi_check.specs.declared.header.Shown.{Shown}

-- a number is the one that is shown, where one is
abbrev pub agrees : ℕ → Option ℕ → Bool
agrees n None = true
agrees n (Some m) = n == m

-- each item of the header with whether it is what is shown
abbrev pub shown_tests : Bool → State → Shown → List (HeaderItem × Bool)
shown_tests marked s shown =
    (Mark, marked)
    ∷ (Records, s.records == shown.records)
    ∷ (Del, s.del == shown.del)
    ∷ (Split, s.split == shown.split)
    ∷ (KeyFileLength, s.key_file_length == shown.key_file_length)
    ∷ (DataFileLength, s.data_file_length == shown.data_file_length)
    ∷ (Empty, s.empty == shown.empty)
    ∷ (KeyEmpty, agrees s.key_empty shown.key_empty)
    ∷ []

-- how many bytes pages have, where each tree has a walk
abbrev pub pages_shown : Defs → List ℕ → Option ℕ
pages_shown d x = if all_walk (all_walks d x) then Some (page_bytes d (all_walks d x)) else None

-- the bytes from the place of the first page on that belong to no page, by how many belong to pages
abbrev pub room_left : Defs → ℕ → Option ℕ → Option ℕ
room_left d size pages = option_map (λ n. size - first_page_of d - n) pages

-- these numbers are those of the two files
pub record AreShown (d : Defs) (rows x : List ℕ) (shown : Shown) : Type 0 where
  pub records : shown.records ≡ length (readable d false rows)
  pub del : shown.del ≡ length (deleted d rows)
  pub split : shown.split ≡ length (ranges_of (readable d false rows))
  pub key_file_length : shown.key_file_length ≡ length x
  pub data_file_length : shown.data_file_length ≡ length rows
  pub empty : shown.empty ≡ total (deleted d rows)
  pub key_empty : shown.key_empty ≡ room_left d (length x) (pages_shown d x)
