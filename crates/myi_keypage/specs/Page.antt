-- A page of an index, and the one spelling of each page. The first two bytes and the order of entries and
-- children are those of MySQL Internals Manual, ".MYI"; the rest is this project's own.
use Rattle.std.specs.Prelude.{◌≡◌, ℕ, suc, ◌+◌, ◌/◌, ◌%◌, ◌^◌, ◌<◌, Bool, List, [], ◌∷◌, ◌++◌, length, drop, nat_lt, ◌==◌, if◌then◌else◌}
use Rattle.std.specs.List.{AllByRecursion}
use Rattle.myi_base.specs.Numbers.{num_bytes}
use Rattle.myi_keypage.specs.declared.entry.Entry.{Entry}

abbrev pub entry_with : List ℕ → ℕ → Entry
entry_with key row = record { key = key; row = row }

-- the entries in their order, and the places of the children; a leaf has none, a node one more than entries
pub record Page : Type 0 where
  pub entries : List Entry
  pub children : List ℕ

abbrev pub page_with : List Entry → List ℕ → Page
page_with entries children = record { entries = entries; children = children }

-- a number below 65,536 in its shortest form: one byte below 255, else 255 and two bytes
abbrev pub number_bytes : ℕ → List ℕ
number_bytes n = if nat_lt n 255 then n ∷ [] else 255 ∷ n / 256 ∷ n % 256 ∷ []

-- how many bytes two keys share at their front
abbrev pub shared : List ℕ → List ℕ → ℕ
shared [] ys = 0
shared (x ∷ xs) [] = 0
shared (x ∷ xs) (y ∷ ys) = if x == y then suc (shared xs ys) else 0

-- a child in seven bytes: its place divided by 1024
abbrev pub child_bytes : ℕ → List ℕ
child_bytes place = num_bytes 7 (place / 1024)

-- an entry as it stands: the length of its prefix, that of the rest of its key, the rest, the row pointer
abbrev pub packed_bytes : ℕ → ℕ → List ℕ → ℕ → List ℕ
packed_bytes rec_ref prefix rest row = number_bytes prefix ++ number_bytes (length rest) ++ rest ++ num_bytes rec_ref row

-- an entry behind the key before it in the page, whose longest shared front is left out
abbrev pub entry_bytes : ℕ → List ℕ → Entry → List ℕ
entry_bytes rec_ref before e =
    let prefix = shared before e.key in
    packed_bytes rec_ref prefix (drop prefix e.key) e.row

-- entries behind a key, and the child after each
abbrev pub entries_bytes : ℕ → List ℕ → List Entry → List ℕ → List ℕ
entries_bytes rec_ref before [] children = []
entries_bytes rec_ref before (e ∷ es) [] = entry_bytes rec_ref before e ++ entries_bytes rec_ref e.key es []
entries_bytes rec_ref before (e ∷ es) (c ∷ cs) = entry_bytes rec_ref before e ++ child_bytes c ++ entries_bytes rec_ref e.key es cs

-- what follows the first two bytes: in a node the first child, and then the entries
abbrev pub body_bytes : ℕ → Page → List ℕ
body_bytes rec_ref page = children_first page.children
  where
    children_first : List ℕ → List ℕ
    children_first [] = entries_bytes rec_ref [] page.entries []
    children_first (c ∷ cs) = child_bytes c ++ entries_bytes rec_ref [] page.entries cs

abbrev pub is_node : Page → Bool
is_node page = nat_lt 0 (length page.children)

-- the first two bytes: the top bit for a node, and the used length in the other 15
abbrev pub head_bytes : Bool → ℕ → List ℕ
head_bytes node used = ((if node then 128 else 0) + used / 256) ∷ used % 256 ∷ []

-- the used bytes of a page
unfoldable pub page_bytes : ℕ → Page → List ℕ
page_bytes rec_ref page = head_bytes (is_node page) (length (body_bytes rec_ref page) + 2) ++ body_bytes rec_ref page

-- a place that seven bytes of a page can name
abbrev pub IsPlace : ℕ → Type 0
IsPlace place = (place % 1024 ≡ 0) × (place / 1024 < 2 ^ 54)

-- no children, or one more than entries
abbrev pub IsBranching : Page → Type 0
IsBranching page = elim page.children [ [] ↦ Unit {0} | c ∷ cs ↦ length cs ≡ length page.entries ]

-- which pages have a spelling
pub record IsWritable (rec_ref : ℕ) (page : Page) : Type 0 where
  pub some : 0 < length page.entries
  pub rows : AllByRecursion (λ (e : Entry). e.row < 256 ^ rec_ref) page.entries
  pub places : AllByRecursion IsPlace page.children
  pub used : length (body_bytes rec_ref page) + 2 < 32768

-- the bytes are the page: they begin with its spelling, and what follows is not read
pub record IsPage (rec_ref : ℕ) (bytes : List ℕ) (page : Page) : Type 0 where
  pub has : IsWritable rec_ref page
  pub branching : IsBranching page
  pub text : (rest : List ℕ) × (bytes ≡ page_bytes rec_ref page ++ rest)
