-- The entry at an index is that of the pair there.
use Rattle.std.proofs.Common.{◌≡◌, ℕ, zero, suc, ◌<◌, List, [], ◌∷◌, length, get_or, refl, arith}
use Rattle.myi_keypage.specs.declared.entry.Entry.{Entry}
use Rattle.myi_keylist.specs.declared.pair.Pair.{Pair}
use Rattle.myi_keylist.specs.PairEntries.{entry_of, entries_of}

pub entry_at : (pairs : List Pair) (i : ℕ) (other : Entry) (d : Pair) → i < length pairs → get_or (entries_of pairs) i other ≡ entry_of (get_or pairs i d)
entry_at [] i other d inside = absurd (omega arith)
entry_at (p ∷ pairs) zero other d inside = refl
entry_at (p ∷ pairs) (suc i) other d inside = entry_at pairs i other d (omega arith)
