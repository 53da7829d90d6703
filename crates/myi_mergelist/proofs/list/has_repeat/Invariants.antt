use Rattle.std.proofs.Common.{◌≡◌, List, ℕ, map, take, bytes_eq}
use Rattle.std.specs.List.{IsDistinct, list_any}
use Rattle.std.specs.Ordering.{nat_cmp}
use Rattle.std.specs.Cmp.Lexicographic.{slice_cmp}
use Rattle.std.specs.BTreeSet.{contains_by}
use Rattle.myi_mergelist.proofs.list.has_repeat.Given as goal

abbrev pub invariant-loop-name : goal.invariant-loop-name
invariant-loop-name l = record {
  met : (q : List ℕ) → contains_by (λ k. slice_cmp nat_cmp q k.now) l.met ≡ list_any (bytes_eq q) (map (λ s. s.now) (take l.name-index l.names));
  apart : IsDistinct bytes_eq (map (λ s. s.now) (take l.name-index l.names));
}
