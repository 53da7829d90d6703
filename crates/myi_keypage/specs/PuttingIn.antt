-- A leaf with an entry put in.
use Rattle.std.specs.Prelude.{◌≡◌, ◌^◌, ◌<◌, ℕ, zero, suc, List, [], ◌∷◌, ◌++◌, take, drop}
use Rattle.std.specs.List.{AllByRecursion}
use Rattle.myi_keypage.specs.declared.entry.Entry.{Entry}
use Rattle.myi_keypage.specs.Page.{entries_bytes}

-- entries with another one behind so many of them
abbrev pub with_entry : ℕ → Entry → List Entry → List Entry
with_entry i e es = (take i es ++ e ∷ []) ++ drop i es

-- the key that stands before entry i of entries behind a key
abbrev pub key_before : List ℕ → List Entry → ℕ → List ℕ
key_before before es zero = before
key_before before [] (suc i) = before
key_before before (e ∷ es) (suc i) = key_before e.key es i

-- the bytes are entries of a leaf behind a key
pub record AreEntries (rec_ref : ℕ) (before : List ℕ) (es : List Entry) (text : List ℕ) : Type 0 where
  pub text_is : text ≡ entries_bytes rec_ref before es []
  pub rows : AllByRecursion (λ (e : Entry). e.row < 256 ^ rec_ref) es
