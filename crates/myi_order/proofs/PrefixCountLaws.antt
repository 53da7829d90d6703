-- What is counted when a pair comes, and when all came.
use Rattle.std.proofs.Common.{◌≡◌, ℕ, suc, ◌+◌, ◌^◌, ◌<◌, ◌≤◌, Bool, true, false, cond, min, List, [], ◌∷◌, ◌++◌, length, get_or, map, take, drop, replicate, Option, Some, None, Result, Ok, Err, refl, sym, ap, subst, ◌∙◌, arith, IsSorted, append_assoc, append-nil}
use Rattle.std.specs.Prelude.{◌==◌, ◌/◌, is_some, OnOk}
use Rattle.std.specs.List.{AllByRecursion}
use Rattle.std.proofs.lemmas.Bool.{le-leb, lt-leb}
use Rattle.std.proofs.lemmas.List.{length_push, get_or-replicate, length-replicate, drop_all, take_all}
use Rattle.myi_keylist.specs.declared.pair.Pair.{Pair}
use Rattle.myi_keylist.specs.PairOrder.{pair_cmp}
use Rattle.myi_keylist.specs.Repeats.{keys_of}
use Rattle.myi_btree.specs.Events.{Event, pair}
use Rattle.myi_order.specs.Prefixes.{most_per, prefix_ends, per_each}
use Rattle.myi_order.specs.Shared.{shared, ended, average}
use Rattle.myi_order.specs.declared.prefixes.PrefixCount.{PrefixCount}
use Rattle.myi_order.specs.PrefixCounts.{HaveSegments, with_last, shared_by_last, HasCounted, pairs_of, CountsTo}
use Rattle.myi_order.proofs.SharedLaws.{ends_more, ends_last, ends_nowhere}
use Rattle.myi_order.proofs.CountLaws.{all_per}

-- ---- no pair came

pub none_counted : (c : PrefixCount) (n : ℕ) → c.last ≡ None → c.rows ≡ 0 → c.ended.items ≡ replicate n 0 → HasCounted [] c
none_counted c n none rows zeros = record {
  rows = rows;
  segments = λ m all. subst (λ l. HaveSegments m (with_last l [])) (sym none) tt;
  ended = λ rest all j few.
      let long : length c.ended.items ≡ n = ap (λ (xs : List ℕ). length xs) zeros ∙ length-replicate {A = ℕ} n 0 in
      let here : get_or c.ended.items j 0 ≡ 0 = ap (λ xs. get_or xs j 0) zeros ∙ get_or-replicate n j 0 0 (omega (arith, few, long)) in
      omega (arith, here, ap (λ l. prefix_ends (j + 1) (keys_of (with_last l rest))) none);
}

pub none_room : (ended : List ℕ) (n : ℕ) → ended ≡ replicate n 0 → (j : ℕ) → j < length ended → get_or ended j 0 + 0 ≤ 0
none_room ended n zeros j few =
    let long : length ended ≡ n = ap (λ (xs : List ℕ). length xs) zeros ∙ length-replicate {A = ℕ} n 0 in
    let here : get_or ended j 0 ≡ 0 = ap (λ xs. get_or xs j 0) zeros ∙ get_or-replicate n j 0 0 (omega (arith, few, long)) in
    omega (arith, here)

-- ---- a pair comes

all_front : (n : ℕ) (xs ys : List Pair) → HaveSegments n (xs ++ ys) → HaveSegments n xs
all_front n [] ys all = tt
all_front n (x ∷ xs) ys all = (all.0, all_front n xs ys all.1)

all_behind : (n : ℕ) (xs ys : List Pair) → HaveSegments n (xs ++ ys) → HaveSegments n ys
all_behind n [] ys all = all
all_behind n (x ∷ xs) ys all = all_behind n xs ys all.1

ended_none : (j n : ℕ) → j < n → ended (j + 1) n ≡ 0
ended_none j n few = ap (λ b. cond {A = ℕ} b 0 1) (le-leb (j + 1) n (omega (arith, few)))

ends_step : (l : Option Pair) (n j s a b : ℕ) (p : Pair) (rest : List Pair) → j < n → HaveSegments n (with_last l []) → length p.key ≡ n → s ≡ shared_by_last l n p → b ≡ a + ended (j + 1) s
    → b + prefix_ends (j + 1) (keys_of (p ∷ rest)) ≡ a + prefix_ends (j + 1) (keys_of (with_last l (p ∷ rest)))
ends_step None n j s a b p rest few all long is raised = omega (arith, raised, ap (ended (j + 1)) is, ended_none j n few)
ends_step (Some q) n j s a b p rest few all long is raised =
    let one : j + 1 ≡ suc j = omega arith in
    let more = ends_more j n q p rest (omega (arith, few)) all.0 long in
    omega (
      arith,
      raised,
      ap (ended (j + 1)) is,
      more,
      ap (λ k. prefix_ends k (keys_of (q ∷ p ∷ rest))) one,
      ap (λ k. prefix_ends k (keys_of (p ∷ rest))) one,
      ap (λ k. ended k (shared q.key p.key)) one,
    )

-- numbers that are written over others
pub whole : (new items : List ℕ) (len : ℕ) → len ≡ length items → length new ≡ length items → take len (new ++ drop (length new) items) ≡ new
whole new items len e f =
    let none : drop (length new) items ≡ [] = drop_all (length new) items (omega (arith, f)) in
    ap (λ (t : List ℕ). take len (new ++ t)) none ∙ ap (take len) (append-nil new) ∙ take_all len new (omega (arith, e, f))

module _ (old new : PrefixCount) (p : Pair) (s : ℕ) (counts : List ℕ) (e : new.ended.items ≡ counts) (rows : new.rows ≡ old.rows + 1) (last : new.last ≡ Some p) (is : s ≡ shared_by_last old.last (length old.ended.items) p) (long : length counts ≡ length old.ended.items)
    (raised : (j : ℕ) → j < length old.ended.items → get_or counts j 0 ≡ get_or old.ended.items j 0 + ended (j + 1) s) where
  pub note_counted : (seen : List Pair) → HasCounted seen old → HasCounted (seen ++ p ∷ []) new
  note_counted seen has = record {
    rows = rows ∙ ap (λ n. n + 1) has.rows ∙ sym (length_push seen p);
    segments = λ n all. subst (λ l. HaveSegments n (with_last l [])) (sym last) (all_behind n seen (p ∷ []) all);
    ended = λ rest all j few.
        let n = length old.ended.items in
        let same : length new.ended.items ≡ n = ap (λ (xs : List ℕ). length xs) e ∙ long in
        let inside : j < n = omega (arith, few, same) in
        let whole : HaveSegments n (seen ++ p ∷ rest) = subst (λ ps. HaveSegments n ps) (append_assoc seen (p ∷ []) rest) (subst (λ k. HaveSegments k ((seen ++ p ∷ []) ++ rest)) same all) in
        let was = has.ended (p ∷ rest) whole j inside in
        let front : HaveSegments n (with_last old.last []) = has.segments n (all_front n seen (p ∷ rest) whole) in
        let step = ends_step old.last n j s (get_or old.ended.items j 0) (get_or counts j 0) p rest inside front (all_behind n seen (p ∷ rest) whole).0 is (raised j inside) in
        ap (λ (xs : List ℕ). get_or xs j 0 + prefix_ends (j + 1) (keys_of (with_last new.last rest))) e ∙ ap (λ l. get_or counts j 0 + prefix_ends (j + 1) (keys_of (with_last l rest))) last ∙ step ∙ was ∙ ap (λ ps. prefix_ends (j + 1) (keys_of ps)) (sym (append_assoc seen (p ∷ []) rest));
  }

-- ---- all came

pub none_last : (l : Option Pair) (a : ℕ) → is_some l ≡ false → a ≡ a + length (with_last l [])
none_last None a none = omega arith
none_last (Some p) a none = absurd cc

pub one_last : (l : Option Pair) (a j : ℕ) → is_some l ≡ true → a + ended (j + 1) 0 ≡ a + length (with_last l [])
one_last None a j some = absurd cc
one_last (Some p) a j some = ap (λ b. a + cond {A = ℕ} b 0 1) (lt-leb (j + 1) 0 (omega arith))

last_ends : (l : Option Pair) (j : ℕ) → prefix_ends j (keys_of (with_last l [])) ≡ length (with_last l [])
last_ends None j = ends_nowhere j
last_ends (Some p) j = ends_last j p

pub all_ended : (pairs : List Pair) (c : PrefixCount) (counts : List ℕ) → HasCounted pairs c → HaveSegments (length c.ended.items) pairs → IsSorted pair_cmp pairs → length counts ≡ length c.ended.items
    → ((j : ℕ) → j < length c.ended.items → get_or counts j 0 ≡ get_or c.ended.items j 0 + length (with_last c.last [])) → map (average c.rows) counts ≡ per_each (length c.ended.items) (keys_of pairs)
all_ended pairs c counts has segments order long ends =
    ap (λ n. map (average n) counts) has.rows
    ∙ all_per pairs (length c.ended.items) counts order long (λ j few.
    let all : HaveSegments (length c.ended.items) (pairs ++ []) = subst (λ ps. HaveSegments (length c.ended.items) ps) (sym (append-nil pairs)) segments in
    omega (arith, ends j few, has.ended [] all j few, last_ends c.last (j + 1), ap (λ ps. prefix_ends (j + 1) (keys_of ps)) (append-nil pairs)))

average_small : (r p : ℕ) → average r p < 256 ^ 4
average_small r p = by (p == 0)
  where
    by : (b : Bool) → cond b 0 (min most_per (r / p)) < 256 ^ 4
    by true = omega arith
    by false = omega arith

pub averages_small : (r : ℕ) (counts : List ℕ) → AllByRecursion (λ n. n < 256 ^ 4) (map (average r) counts)
averages_small r [] = tt
averages_small r (p ∷ counts) = (average_small r p, averages_small r counts)

-- ---- the events of a tree

pub counts_pair : (old new : PrefixCount) (p : Pair) (at : ℕ) → ((seen : List Pair) → HasCounted seen old → HasCounted (seen ++ p ∷ []) new) → (all left : List Event) → CountsTo old all (pair p at ∷ left) → CountsTo new all left
counts_pair old new p at more all left to = record {
  seen = to.seen ++ p ∷ [];
  pairs = to.pairs ∙ sym (append_assoc to.seen (p ∷ []) (pairs_of left));
  has = more to.seen to.has;
}

pub counts_first : (c : PrefixCount) → HasCounted [] c → (all : List Event) → CountsTo c all all
counts_first c has all = record { seen = []; pairs = refl; has = has }

-- the pairs of all events came
pub counts_all : (c : PrefixCount) (all : List Event) → CountsTo c all [] → HasCounted (pairs_of all) c
counts_all c all to = subst (λ ps. HasCounted ps c) (sym (to.pairs ∙ append-nil to.seen)) to.has

pub on_ok_more : {A E : Type 0} (r : Result A E) (P Q : Type 0) → (P → Q) → OnOk r P → OnOk r Q
on_ok_more (Ok x) P Q f p = f p
on_ok_more (Err e) P Q f p = tt
