-- What a key cache lends of a range: a page that it keeps, and else the bytes of the file.
use Rattle.std.specs.Prelude.{◌≡◌, ◌+◌, ◌&&◌, ℕ, Bool, not, nat_le, List, [], ◌∷◌, length, take, drop, Option, Some, None, if◌then◌else◌}
use Rattle.std.specs.Option.{option_or}
use Rattle.std.specs.List.{list_any}
use Rattle.myi_base.specs.Ranges.{are_apart}
use Rattle.myi_base.specs.Holding.{Holding, bytes_of, overwritten}
use Rattle.myi_keycache.specs.Kept.{Page, range_of, kept}

-- the bytes of a range of the file, and none where the file ends before
unfoldable pub bytes_at : List ℕ → ℕ → ℕ → Option (List ℕ)
bytes_at file at len = if nat_le len (length (drop at file)) then Some (take len (drop at file)) else None

-- what the file of this name has of a range
abbrev pub Has : List ℕ → ℕ → ℕ → Option (List ℕ) → Holding → Type 0
Has name at len bytes m = bytes_at (bytes_of name m) at len ≡ bytes

-- an unwritten page has a byte of the range
abbrev pub meets_unwritten : List Page → ℕ → ℕ → Bool
meets_unwritten pages at len = list_any (λ page. page.unwritten && not (are_apart (range_of page) (at, at + len))) pages

-- What is lent of a range: the page of this place and length where it is kept. Else it is the file's bytes,
-- but nothing where an unwritten page has a part of them.
unfoldable pub lent : List Page → List ℕ → ℕ → ℕ → Option (List ℕ)
lent pages file at len = option_or (kept pages at len) (if meets_unwritten pages at len then None else bytes_at file at len)

-- the file as it is once all unwritten pages are written
unfoldable pub flushed : List Page → List ℕ → List ℕ
flushed [] file = file
flushed (page ∷ pages) file = if page.unwritten then overwritten page.at page.bytes (flushed pages file) else flushed pages file
