-- What the loops count.
use Rattle.std.proofs.Common.{◌≡◌, ℕ, zero, suc, ◌+◌, ◌-◌, ◌<◌, ◌≤◌, ◌⊎◌, inl, inr, Bool, true, false, cond, List, [], ◌∷◌, ◌++◌, length, get_or, drop, take, map, set, refl, sym, ap, subst, ◌∙◌, arith, IsSorted, get_or-set_same, get_or-set_other, length-set}
use Rattle.std.proofs.Math.Dec.{leb}
use Rattle.std.proofs.lemmas.Bool.{cases_lt, le-leb, leb-true}
use Rattle.std.proofs.lemmas.List.{ext_get_or, get_or-map, length-map, take_at}
use Rattle.std.proofs.lemmas.List.FromFn.{get_or-map-range_with_len, length-map-range_with_len}
use Rattle.myi_keys.specs.declared.values.KeySeg.{KeySeg}
use Rattle.myi_keys.specs.Comparing.{seg_front, segs_front}
use Rattle.myi_keylist.specs.declared.pair.Pair.{Pair}
use Rattle.myi_keylist.specs.PairOrder.{pair_cmp}
use Rattle.myi_keylist.specs.Repeats.{keys_of}
use Rattle.myi_order.specs.Prefixes.{distinct_prefixes, prefix_ends, per, per_each}
use Rattle.myi_order.specs.Shared.{is_shared, shared, ended, average}
use Rattle.myi_order.proofs.PrefixLaws.{ends_in_order, per_is}
use Rattle.myi_order.proofs.SharedLaws.{step_on, no_more}

-- ---- segments that two codes share

module _ (count : ℕ) (left others behind behind_others : List ℕ) (first second : KeySeg) (total : ℕ) where
  told : count < 16 → seg_front left ≡ (first, behind) → seg_front others ≡ (second, behind_others)
      → count + shared (segs_front (16 - count) left) (segs_front (16 - count) others) ≡ total
      → count + cond (is_shared first second) (suc (shared (segs_front (16 - (count + 1)) behind) (segs_front (16 - (count + 1)) behind_others))) 0 ≡ total
  told few front fronts so_far =
      let m : 16 - count ≡ suc (16 - (count + 1)) = omega arith in
      let next : count + shared (segs_front (suc (16 - (count + 1))) left) (segs_front (suc (16 - (count + 1))) others) ≡ total = subst (λ n. count + shared (segs_front n left) (segs_front n others) ≡ total) m so_far in
      ap (λ (f : KeySeg × List ℕ). count + cond (is_shared f.0 second) (suc (shared (segs_front (16 - (count + 1)) f.1) (segs_front (16 - (count + 1)) behind_others))) 0) (sym front)
      ∙ ap (λ (f : KeySeg × List ℕ). count + cond (is_shared (seg_front left).0 f.0) (suc (shared (segs_front (16 - (count + 1)) (seg_front left).1) (segs_front (16 - (count + 1)) f.1))) 0) (sym fronts)
      ∙ ap (λ n. count + n) (sym (step_on (16 - (count + 1)) left others))
      ∙ next

  pub differ : (b : Bool) → count < 16 → seg_front left ≡ (first, behind) → seg_front others ≡ (second, behind_others) → b ≡ is_shared first second → b ≡ false
      → count + shared (segs_front (16 - count) left) (segs_front (16 - count) others) ≡ total → count ≡ total
  differ b few front fronts answer none so_far =
      omega (arith, told few front fronts so_far, ap (λ c. cond c (suc (shared (segs_front (16 - (count + 1)) behind) (segs_front (16 - (count + 1)) behind_others))) 0) (sym answer ∙ none))

  pub pass : (b : Bool) → count < 16 → seg_front left ≡ (first, behind) → seg_front others ≡ (second, behind_others) → b ≡ is_shared first second → b ≡ true
      → count + shared (segs_front (16 - count) left) (segs_front (16 - count) others) ≡ total
      → (count + 1) + shared (segs_front (16 - (count + 1)) behind) (segs_front (16 - (count + 1)) behind_others) ≡ total
  pass b few front fronts answer both so_far =
      omega (arith, told few front fronts so_far, ap (λ c. cond c (suc (shared (segs_front (16 - (count + 1)) behind) (segs_front (16 - (count + 1)) behind_others))) 0) (sym answer ∙ both))

pub all_passed : (left others : List ℕ) (n count total : ℕ) → n ≡ 0 → count + shared (segs_front n left) (segs_front n others) ≡ total → count ≡ total
all_passed left others n count total none so_far =
    omega (arith, subst (λ m. count + shared (segs_front m left) (segs_front m others) ≡ total) none so_far, no_more left others)

-- ---- numbers that are raised

pub record Raised (old new : List ℕ) (shared index : ℕ) : Type 0 where
  pub below : (j : ℕ) → j < shared → get_or new j 0 ≡ get_or old j 0
  pub done : (j : ℕ) → shared ≤ j → j < index → get_or new j 0 ≡ get_or old j 0 + 1
  pub left : (j : ℕ) → index ≤ j → get_or new j 0 ≡ get_or old j 0
  pub long : length new ≡ length old

pub raise : (old new : List ℕ) (shared index : ℕ) → shared ≤ index → index < length new → Raised old new shared index → Raised old (set new index (get_or new index 0 + 1)) shared (index + 1)
raise old new shared index low inside was = record {
  below = λ j few. get_or-set_other new index j _ 0 (omega (arith, few, low)) ∙ was.below j few;
  done = λ j few more. either j few more;
  left = λ j few. get_or-set_other new index j _ 0 (omega (arith, few)) ∙ was.left j (omega (arith, few));
  long = length-set new index _ ∙ was.long;
}
  where
    by : (j : ℕ) → shared ≤ j → (j < index) ⊎ (j ≡ index) → get_or (set new index (get_or new index 0 + 1)) j 0 ≡ get_or old j 0 + 1
    by j few (inl less) = get_or-set_other new index j _ 0 (omega (arith, less)) ∙ was.done j few less
    by j few (inr same) =
        subst (λ k. get_or (set new index (get_or new index 0 + 1)) k 0 ≡ get_or old k 0 + 1) (sym same)
        (get_or-set_same new index (get_or new index 0 + 1) 0 inside ∙ ap (λ n. n + 1) (was.left index (omega arith)))

    either : (j : ℕ) → shared ≤ j → j < index + 1 → get_or (set new index (get_or new index 0 + 1)) j 0 ≡ get_or old j 0 + 1
    either j few more = by j few (elim (cases_lt j index) [ inl low ↦ inl low | inr high ↦ inr (omega (arith, high, more)) ])

-- the numbers of prefixes that are longer than what is shared were raised
pub raised : (old new : List ℕ) (shared index : ℕ) → length new ≤ index → Raised old new shared index → (j : ℕ) → j < length old → get_or new j 0 ≡ get_or old j 0 + ended (j + 1) shared
raised old new shared index end was j inside = elim (cases_lt j shared) [
  | inl low ↦ was.below j low ∙ sym (ap (λ b. get_or old j 0 + cond b 0 1) (le-leb (j + 1) shared (omega (arith, low))) ∙ omega arith)
  | inr high ↦ was.done j high (omega (arith, inside, end, was.long)) ∙ sym (ap (λ b. get_or old j 0 + cond b 0 1) (above (leb (j + 1) shared) refl high))
]
  where
    above : (b : Bool) → leb (j + 1) shared ≡ b → shared ≤ j → leb (j + 1) shared ≡ false
    above false is high = is
    above true is high = absurd (omega (arith, leb-true (j + 1) shared is, high))

-- ---- prefixes that end

pub ended_few : (j n : ℕ) → ended j n ≤ 1
ended_few j n = by (leb j n)
  where
    by : (b : Bool) → cond {A = ℕ} b 0 1 ≤ 1
    by false = omega arith
    by true = omega arith

-- ---- rows to each prefix

one_per : (pairs : List Pair) (j count : ℕ) → IsSorted pair_cmp pairs → count ≡ prefix_ends j (keys_of pairs) → average (length pairs) count ≡ per j (keys_of pairs)
one_per pairs j count order is =
    ap (average (length pairs)) (is ∙ sym (ends_in_order j pairs order))
    ∙ ap (λ n. average n (distinct_prefixes j (keys_of pairs))) (sym (length-map pairs (λ (p : Pair). p.key)))
    ∙ sym (per_is j (keys_of pairs))

pub all_per : (pairs : List Pair) (segments : ℕ) (counts : List ℕ) → IsSorted pair_cmp pairs → length counts ≡ segments
    → ((j : ℕ) → j < segments → get_or counts j 0 ≡ prefix_ends (j + 1) (keys_of pairs)) → map (average (length pairs)) counts ≡ per_each segments (keys_of pairs)
all_per pairs segments counts order long counted =
    ext_get_or 0 (map (average (length pairs)) counts) (per_each segments (keys_of pairs))
    (length-map counts (average (length pairs)) ∙ long ∙ sym (length-map-range_with_len (λ j. per j (keys_of pairs)) 1 segments))
    (λ j few.
    let inside : j < length counts = omega (arith, few, length-map counts (average (length pairs))) in
    get_or-map (average (length pairs)) counts j 0 0 inside
    ∙ one_per pairs (j + 1) (get_or counts j 0) order (counted j (omega (arith, inside, long)))
    ∙ sym (get_or-map-range_with_len (λ j. per j (keys_of pairs)) 1 segments j (j + 1) 0 (omega (arith, inside, long)) (omega arith)))

-- ---- one more number of a loop, and numbers that are written over others

pub one_more : {X : Type 0} (f : X → X) (xs ys : List X) (i : ℕ) (d y : X) → i < length xs → ys ≡ map f (take i xs) ++ drop i xs → y ≡ f (get_or ys i d) → set ys i y ≡ map f (take (i + 1) xs) ++ drop (i + 1) xs
one_more f xs ys i d y few is made = rw made (rw is (go f xs i d few))
  where
    go : {X : Type 0} (f : X → X) (xs : List X) (i : ℕ) (d : X) → i < length xs → set (map f (take i xs) ++ drop i xs) i (f (get_or (map f (take i xs) ++ drop i xs) i d)) ≡ map f (take (i + 1) xs) ++ drop (i + 1) xs
    go f [] i d few = absurd (omega arith)
    go f (z ∷ xs) zero d few = refl
    go f (z ∷ xs) (suc i) d few = let e : suc i + 1 ≡ suc (i + 1) = omega arith in rw e (ap (λ zs. f z ∷ zs) (go f xs i d (omega arith)))

pub written : (n : ℕ) (counts after left more : List ℕ) (f : ℕ → ℕ) → length counts ≡ n → after ≡ map f (take n (counts ++ left)) → take n (after ++ more) ≡ map f counts
written n counts after left more f long is =
    let made : after ≡ map f counts = is ∙ ap (map f) (take_at counts left n long) in
    take_at after more n (ap (λ (xs : List ℕ). length xs) made ∙ length-map counts f ∙ long) ∙ made
