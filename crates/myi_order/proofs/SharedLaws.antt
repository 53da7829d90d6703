-- How many segments two keys share decides which prefixes they share.
use Rattle.std.proofs.Common.{◌≡◌, ℕ, zero, suc, ◌+◌, ◌≤◌, Bool, true, false, cond, ◌&&◌, List, [], ◌∷◌, length, take, refl, sym, ap, ◌∙◌, arith}
use Rattle.std.proofs.Math.Dec.{leb, leb-zero, leb-suc-zero, leb-suc-suc}
use Rattle.std.specs.Ordering.{ordering_then, is_eq}
use Rattle.std.specs.declared.cmp.Ordering.{Ordering}
use Rattle.std.specs.declared.cmp.Ordering.TheVariants.{Less, Equal, Greater}
use Rattle.myi_keys.specs.declared.values.KeySeg.{KeySeg}
use Rattle.myi_keys.specs.declared.values.KeySeg.TheVariants.{Absent, Weights}
use Rattle.myi_keys.specs.Limits.{is_complete}
use Rattle.myi_keys.specs.Order.{seg_cmp, key_cmp}
use Rattle.myi_keys.specs.Comparing.{number_front, seg_front, segs_front}
use Rattle.myi_keylist.specs.declared.pair.Pair.{Pair}
use Rattle.myi_keylist.specs.Repeats.{keys_of}
use Rattle.myi_order.specs.Prefixes.{shares_prefix, prefix_ends}
use Rattle.myi_order.specs.Shared.{is_shared, shared, ended}

and_false : (b : Bool) → (b && false) ≡ false
and_false false = refl
and_false true = refl

shared_cond : (c : Bool) (s t : KeySeg) (a b : List KeySeg) → is_shared s t ≡ c → shared (s ∷ a) (t ∷ b) ≡ cond c (suc (shared a b)) 0
unfolding shared
shared_cond c s t a b is = ap (λ d. cond d (suc (shared a b)) 0) is

pub decides : (j : ℕ) (a b : List KeySeg) → j ≤ length a → j ≤ length b → shares_prefix j a b ≡ leb j (shared a b)
decides zero a b few fewer = sym (leb-zero (shared a b))
decides (suc j) [] b few fewer = absurd (omega arith)
decides (suc j) (s ∷ a) [] few fewer = absurd (omega arith)
decides (suc j) (Absent ∷ a) (t ∷ b) few fewer = sym (ap (leb (suc j)) (shared_cond false Absent t a b refl) ∙ leb-suc-zero j)
decides (suc j) (Weights w ∷ a) (t ∷ b) few fewer = by (seg_cmp (Weights w) t) refl (decides j a b (omega arith) (omega arith))
  where
    by : (o : Ordering) → seg_cmp (Weights w) t ≡ o → shares_prefix j a b ≡ leb j (shared a b) → (is_complete (take j a) && is_eq (ordering_then (seg_cmp (Weights w) t) (key_cmp (take j a) (take j b)))) ≡ leb (suc j) (shared (Weights w ∷ a) (t ∷ b))
    by Less is rest =
        ap (λ o. is_complete (take j a) && is_eq (ordering_then o (key_cmp (take j a) (take j b)))) is ∙ and_false (is_complete (take j a))
        ∙ sym (ap (leb (suc j)) (shared_cond false (Weights w) t a b (ap is_eq is)) ∙ leb-suc-zero j)
    by Equal is rest =
        ap (λ o. is_complete (take j a) && is_eq (ordering_then o (key_cmp (take j a) (take j b)))) is ∙ rest
        ∙ sym (ap (leb (suc j)) (shared_cond true (Weights w) t a b (ap is_eq is)) ∙ leb-suc-suc j (shared a b))
    by Greater is rest =
        ap (λ o. is_complete (take j a) && is_eq (ordering_then o (key_cmp (take j a) (take j b)))) is ∙ and_false (is_complete (take j a))
        ∙ sym (ap (leb (suc j)) (shared_cond false (Weights w) t a b (ap is_eq is)) ∙ leb-suc-zero j)

-- ---- read of codes

none_shared : (s : KeySeg) → is_shared s Absent ≡ false
none_shared Absent = refl
none_shared (Weights w) = refl

no_seg : (seg_front []).0 ≡ Absent
unfolding seg_front number_front
no_seg = refl

-- what two codes share begins with their first segments
pub step_on : (n : ℕ) (one other : List ℕ) → shared (segs_front (suc n) one) (segs_front (suc n) other)
    ≡ cond (is_shared (seg_front one).0 (seg_front other).0) (suc (shared (segs_front n (seg_front one).1) (segs_front n (seg_front other).1))) 0
unfolding shared segs_front
step_on n [] other = sym (ap (λ s. cond (is_shared s (seg_front other).0) (suc (shared (segs_front n (seg_front []).1) (segs_front n (seg_front other).1))) 0) no_seg)
step_on n (b ∷ bs) [] = sym (ap (λ c. cond c (suc (shared (segs_front n (seg_front (b ∷ bs)).1) (segs_front n (seg_front []).1))) 0) (ap (is_shared (seg_front (b ∷ bs)).0) no_seg ∙ none_shared (seg_front (b ∷ bs)).0))
step_on n (b ∷ bs) (c ∷ cs) = refl

pub no_more : (one other : List ℕ) → shared (segs_front 0 one) (segs_front 0 other) ≡ 0
unfolding shared segs_front
no_more one other = refl

-- ---- in a list

-- a prefix ends at a pair that shares less of it with the next
pub ends_more : (j n : ℕ) (p q : Pair) (rest : List Pair) → suc j ≤ n → length p.key ≡ n → length q.key ≡ n
    → prefix_ends (suc j) (keys_of (p ∷ q ∷ rest)) ≡ ended (suc j) (shared p.key q.key) + prefix_ends (suc j) (keys_of (q ∷ rest))
unfolding prefix_ends
ends_more j n p q rest few one other =
    ap (λ c. cond {A = ℕ} c 0 1 + prefix_ends (suc j) (keys_of (q ∷ rest))) (decides (suc j) p.key q.key (omega (arith, one)) (omega (arith, other)))

-- at the last pair each prefix ends
pub ends_last : (j : ℕ) (p : Pair) → prefix_ends j (keys_of (p ∷ [])) ≡ 1
unfolding prefix_ends
ends_last j p = refl

pub ends_nowhere : (j : ℕ) → prefix_ends j (keys_of []) ≡ 0
unfolding prefix_ends
ends_nowhere j = refl
