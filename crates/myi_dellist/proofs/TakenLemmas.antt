-- The list once its first blocks are taken, and once bytes are written elsewhere.
use Rattle.std.proofs.Common.{ℕ, ◌+◌, ◌^◌, ◌<◌, ◌≤◌, ◌⊎◌, inl, inr, List, [], ◌∷◌, ◌++◌, length, Option, Some, None, sym, subst, arith}
use Rattle.std.specs.List.{AllByRecursion}
use Rattle.myi_base.specs.Holding.{overwritten}
use Rattle.myi_frames.proofs.CallerLemmas.{block-elsewhere, length-overwritten}
use Rattle.myi_dellist.specs.Areas.{Area, IsApart, AreInside}
use Rattle.myi_dellist.specs.Standing.{hole_block, first_or, last_or, IsPart, HasList, with_prev, LeavesList}
use Rattle.myi_dellist.proofs.LinkLemmas.{IsOn, apart_test, part_split, all_split, apart_split, prev_part, prev_length, prev_keeps, list_on, on_list}

pub first-taken : (d : List ℕ) (taken holes : List Area) → HasList d (taken ++ holes) → LeavesList holes d (with_prev holes None None d)
first-taken d taken holes l =
    let on = all_split (IsOn (length d)) taken holes (list_on d (taken ++ holes) l) in
    let parts = part_split d None None taken holes l.linked in
    let apart = apart_split taken holes l.apart in
    let len = prev_length d holes None None on.1 tt tt in
    record {
      list = on_list (with_prev holes None None d) holes (omega (arith, len, l.short))
          (prev_part d (last_or taken None) None None holes on.1 apart.1 tt tt parts.1)
          (subst (λ (n : ℕ). AllByRecursion (IsOn n) holes) (sym len) on.1) apart.1;
      keeps = record { long = len; bytes = λ p n le far. prev_keeps d holes None None p n on.1 tt tt le far };
    }

part_elsewhere : (d bytes : List ℕ) (at : ℕ) (prev next : Option ℕ) (holes : List Area) → AllByRecursion (IsApart (record { at = at; size = length bytes })) holes → IsPart d prev holes next → IsPart (overwritten at bytes d) prev holes next
part_elsewhere d bytes at prev next [] far part = tt
part_elsewhere d bytes at prev next (a ∷ holes) far part = (
  block-elsewhere d bytes at a.at (hole_block a (first_or holes next) prev) part.0 (apart_test a.at (a.at + a.size) at (at + length bytes) (other far.0)),
  part_elsewhere d bytes at (Some a.at) next holes far.1 part.1,
)
  where
    other : (at + length bytes ≤ a.at) ⊎ (a.at + a.size ≤ at) → (a.at + a.size ≤ at) ⊎ (at + length bytes ≤ a.at)
    other (inl le) = inr le
    other (inr le) = inl le

inside_longer : (n m : ℕ) (holes : List Area) → n ≤ m → AreInside n holes → AreInside m holes
inside_longer n m [] le i = tt
inside_longer n m (a ∷ holes) le i = (omega (arith, i.0), inside_longer n m holes le i.1)

pub written-elsewhere : (d bytes : List ℕ) (at : ℕ) (holes : List Area) → HasList d holes → at + length bytes < 2 ^ 64 → AllByRecursion (IsApart (record { at = at; size = length bytes })) holes → HasList (overwritten at bytes d) holes
written-elsewhere d bytes at holes l lt far =
    let len = length-overwritten at bytes d in
    record {
      linked = part_elsewhere d bytes at None None holes far l.linked;
      sizes = l.sizes;
      inside = inside_longer (length d) (length (overwritten at bytes d)) holes (omega (arith, len)) l.inside;
      apart = l.apart;
      short = omega (arith, len, l.short);
    }
