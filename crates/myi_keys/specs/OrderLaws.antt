-- The order of keys is total and agrees with equality, as the comparisons of the key types claim.
use Rattle.std.proofs.Common.{◌≡◌, ℕ, List, [], ◌∷◌, refl, ap, subst, ◌∙◌}
use Rattle.std.proofs.lemmas.Cmp.{nat_list_cmp_total, lists_total, tied_itself}
use Rattle.std.proofs.lemmas.Map.Lookups.{exact_bytes}
use Rattle.std.specs.Ordering.{ordering_reverse, ordering_then}
use Rattle.std.specs.Cmp.{IsTotalOrder}
use Rattle.std.specs.declared.cmp.Ordering.{Ordering}
use Rattle.std.specs.declared.cmp.Ordering.TheVariants.{Less, Equal, Greater}
use Rattle.myi_keys.specs.declared.values.KeySeg.{KeySeg}
use Rattle.myi_keys.specs.declared.values.KeySeg.TheVariants.{Absent, Weights}
use Rattle.myi_keys.specs.Order.{seg_cmp, key_cmp}

-- ---- the order is total

seg_antisymm : (x y : KeySeg) → seg_cmp x y ≡ ordering_reverse (seg_cmp y x)
seg_antisymm Absent Absent = refl
seg_antisymm Absent (Weights w) = refl
seg_antisymm (Weights v) Absent = refl
seg_antisymm (Weights v) (Weights w) = nat_list_cmp_total.antisymm v w

seg_trans : (x y z : KeySeg) → seg_cmp x y ≡ Less → seg_cmp y z ≡ Less → seg_cmp x z ≡ Less
seg_trans Absent Absent z first second = absurd cc
seg_trans Absent (Weights w) Absent first second = absurd cc
seg_trans Absent (Weights w) (Weights u) first second = refl
seg_trans (Weights v) Absent z first second = absurd cc
seg_trans (Weights v) (Weights w) Absent first second = absurd cc
seg_trans (Weights v) (Weights w) (Weights u) first second = nat_list_cmp_total.trans v w u first second

seg_congr : (x y z : KeySeg) → seg_cmp x y ≡ Equal → seg_cmp x z ≡ seg_cmp y z
seg_congr Absent Absent z same = refl
seg_congr Absent (Weights w) z same = absurd cc
seg_congr (Weights v) Absent z same = absurd cc
seg_congr (Weights v) (Weights w) Absent same = refl
seg_congr (Weights v) (Weights w) (Weights u) same = nat_list_cmp_total.congr v w u same

pub seg_total : IsTotalOrder seg_cmp
seg_total = record { antisymm = seg_antisymm; trans = seg_trans; congr = seg_congr }

pub key_total : IsTotalOrder key_cmp
key_total = lists_total seg_total

-- ---- and agrees with equality

seg_exact : (x y : KeySeg) → seg_cmp x y ≡ Equal → x ≡ y
seg_exact Absent Absent same = refl
seg_exact Absent (Weights w) same = absurd cc
seg_exact (Weights v) Absent same = absurd cc
seg_exact (Weights v) (Weights w) same = ap (λ (u : List ℕ). Weights u) (exact_bytes v w same)

then_equal : (a b : Ordering) → ordering_then a b ≡ Equal → (a ≡ Equal) × (b ≡ Equal)
then_equal Less b same = absurd cc
then_equal Equal b same = (refl, same)
then_equal Greater b same = absurd cc

pub key_exact : (one other : List KeySeg) → key_cmp one other ≡ Equal → one ≡ other
key_exact [] [] same = refl
key_exact [] (t ∷ other) same = absurd cc
key_exact (s ∷ one) [] same = absurd cc
key_exact (s ∷ one) (t ∷ other) same =
    let both = then_equal (seg_cmp s t) (key_cmp one other) same in
    ap (λ (u : KeySeg). u ∷ one) (seg_exact s t both.0) ∙ ap (λ (us : List KeySeg). t ∷ us) (key_exact one other both.1)

pub key_equal : (one other : List KeySeg) → one ≡ other → key_cmp one other ≡ Equal
key_equal one other same = subst (λ (k : List KeySeg). key_cmp one k ≡ Equal) same (tied_itself key_total one)
