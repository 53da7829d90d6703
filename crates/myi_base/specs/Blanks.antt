-- Blanks at the end of a text. Columns of a fixed length are filled up with them (MySQL Reference Manual, "The CHAR and
-- VARCHAR Types").
use Rattle.std.specs.Prelude.{◌-◌, ◌==◌, ℕ, Bool, List, length, take}
use Rattle.std.specs.List.{suffix_len}

-- the byte that texts are filled up with
abbrev pub is_blank : ℕ → Bool
is_blank b = b == 0x20

-- all trailing blanks taken off
abbrev pub without_blanks : List ℕ → List ℕ
without_blanks bytes = take (length bytes - suffix_len is_blank bytes) bytes
