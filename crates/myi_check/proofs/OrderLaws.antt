-- Findings in the order of their sections.
use Rattle.std.proofs.Common.{◌≡◌, ℕ, ◌+◌, ◌≤◌, List, [], ◌∷◌, ◌++◌, map, Option, Some, None, sym, subst, arith, append-nil}
use Rattle.std.specs.Option.{option_to_list}
use Rattle.myi_pair.specs.declared.finding.Finding.{Finding}
use Rattle.myi_pair.specs.declared.finding.HeaderItem.{HeaderItem}
use Rattle.myi_pair.specs.declared.finding.Finding.TheVariants as finding
use Rattle.myi_check.specs.Sections.{section_of, AreInOrder, AreInSections}

bounds : (low high : ℕ) (fs : List Finding) → AreInOrder low high fs → low ≤ high
bounds low high [] h = h
bounds low high (f ∷ fs) h = omega (arith, h.0, h.1)

lower : (low more high : ℕ) (fs : List Finding) → more ≤ low → AreInOrder low high fs → AreInOrder more high fs
lower low more high [] le h = omega (arith, le, h)
lower low more high (f ∷ fs) le h = (omega (arith, le, h.0), h.1, h.2)

pub wider : (low high more : ℕ) (fs : List Finding) → high ≤ more → AreInOrder low high fs → AreInOrder low more fs
wider low high more [] le h = omega (arith, le, h)
wider low high more (f ∷ fs) le h = (h.0, omega (arith, le, h.1), wider (section_of f + 1) high more fs le h.2)

both : (low mid high : ℕ) (u v : List Finding) → AreInOrder low mid u → AreInOrder mid high v → AreInOrder low high (u ++ v)
both low mid high [] v first second = lower mid low high v first second
both low mid high (f ∷ u) v first second = (first.0, omega (arith, first.1, bounds mid high v second), both (section_of f + 1) mid high u v first.2 second)

-- what is found of the next key, if something is
pub key_more : (number : ℕ) (fs : List Finding) (bad : Option ℕ) → AreInOrder 2 (1 + number) fs → AreInOrder 2 (1 + (number + 1)) (fs ++ map (λ at. finding.Key number at) (option_to_list bad))
key_more number fs None h = subst (AreInOrder 2 (1 + (number + 1))) (sym (append-nil fs)) (wider 2 (1 + number) (1 + (number + 1)) fs (omega arith) h)
key_more number fs (Some at) h = both 2 (1 + number) (1 + (number + 1)) fs (finding.Key number at ∷ []) h (omega arith, omega arith, omega arith)

header_first : (item : Option HeaderItem) → AreInOrder 0 1 (map finding.Header (option_to_list item))
header_first None = omega arith
header_first (Some i) = (omega arith, omega arith, omega arith)

deleted_next : (listed : Option ℕ) → AreInOrder 1 2 (map finding.Deleted (option_to_list listed))
deleted_next None = omega arith
deleted_next (Some at) = (omega arith, omega arith, omega arith)

rows_last : (gap : Option ℕ) → AreInOrder 256 257 (map finding.Rows (option_to_list gap))
rows_last None = omega arith
rows_last (Some at) = (omega arith, omega arith, omega arith)

-- the findings of all sections, one after the other
pub all_in_order : (item : Option HeaderItem) (listed gap : Option ℕ) (keys all : List Finding) → AreInOrder 2 256 keys
    → all ≡ map finding.Header (option_to_list item) ++ (map finding.Deleted (option_to_list listed) ++ (keys ++ map finding.Rows (option_to_list gap))) → AreInSections all
all_in_order item listed gap keys all order are =
    subst AreInSections (sym are)
    (both 0 1 257 (map finding.Header (option_to_list item)) _ (header_first item)
    (both 1 2 257 (map finding.Deleted (option_to_list listed)) _ (deleted_next listed)
    (both 2 256 257 keys (map finding.Rows (option_to_list gap)) order (rows_last gap))))
