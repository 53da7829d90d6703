-- Pairs that are put into the lists of their keys one after the other, or taken out.
use Rattle.std.proofs.Common.{◌≡◌, ◌≢◌, ℕ, zero, suc, ◌+◌, ◌^◌, ◌<◌, ◌≤◌, Bool, true, false, ◌||◌, List, [], ◌∷◌, length, map, take, Option, Some, refl, sym, ap, subst, ◌∙◌, arith}
use Rattle.std.specs.Prelude.{slice_index_or}
use Rattle.std.specs.List.{AllByRecursion}
use Rattle.std.specs.Ordering.{is_eq, nat_cmp, ordering_then}
use Rattle.std.specs.declared.cmp.Ordering.{Ordering}
use Rattle.std.specs.declared.cmp.Ordering.TheVariants.{Less, Equal, Greater}
use Rattle.std.proofs.lemmas.Bool.Decides.{nat_tests}
use Rattle.myi_base.specs.Holding.{Holding}
use Rattle.myi_keys.specs.Order.{key_cmp}
use Rattle.myi_keycache.specs.Caching.{Caching}
use Rattle.myi_keylist.specs.declared.pair.Pair.{Pair}
use Rattle.myi_keylist.specs.PairOrder.{pair_cmp, put_pair}
use Rattle.myi_btree.specs.declared.place.Place.{Place}
use Rattle.myi_insertion.specs.Removal.{has_pair, without_pair}
use Rattle.myi_keytrees.specs.Trees.{Trees, kinds, SameKinds}
use Rattle.myi_keytrees.specs.Standing.{list_of, put_in, taken_out, HoldLists, StandThen, IfStand}
use Rattle.myi_keytrees.proofs.CallerLemmas.{stand_follow}
use Rattle.myi_rowtrees.specs.RowLists.{put_each, take_each, LackPointer, LackPointers, ArePointers}

-- ---- one more pair

-- the list of a key into which nothing was put is as before
pub untouched_put : (ps : List Pair) (lists : List (List Pair)) (i : ℕ) → list_of (put_each (take i ps) lists) i ≡ list_of lists i
untouched_put [] lists zero = refl
untouched_put [] lists (suc i) = refl
untouched_put (p ∷ ps) lists zero = refl
untouched_put (p ∷ ps) [] (suc i) = refl
untouched_put (p ∷ ps) (xs ∷ lists) (suc i) = untouched_put ps lists i

pub one_more_put : (ps : List Pair) (lists : List (List Pair)) (i : ℕ) (p : Pair) → i < length ps → length lists ≡ length ps → slice_index_or ps i p ≡ p → put_in i p (put_each (take i ps) lists) ≡ put_each (take (i + 1) ps) lists
one_more_put [] lists i p few same at = absurd (omega (arith, few))
one_more_put (q ∷ ps) [] i p few same at = absurd (omega (arith, same))
one_more_put (q ∷ ps) (xs ∷ lists) zero p few same at = ap (λ (t : Pair). put_pair t xs ∷ lists) (sym at)
one_more_put (q ∷ ps) (xs ∷ lists) (suc i) p few same at =
    let e : suc i + 1 ≡ suc (i + 1) = omega arith in
    ap (λ (ls : List (List Pair)). put_pair q xs ∷ ls) (one_more_put ps lists i p (omega (arith, few)) (omega (arith, same)) at) ∙ ap (λ (n : ℕ). put_each (take n (q ∷ ps)) (xs ∷ lists)) (sym e)

-- ---- no pair with the pointer

rows_equal : (o : Ordering) (m n : ℕ) → is_eq (ordering_then o (nat_cmp m n)) ≡ true → m ≡ n
rows_equal Less m n is = absurd cc
rows_equal Greater m n is = absurd cc
rows_equal Equal m n is = grind (arith, nat_tests, is)

not_true : (b : Bool) → (b ≡ true → ⊥) → b ≡ false
not_true true never = absurd (never refl)
not_true false never = refl

both_false : (a b : Bool) → a ≡ false → b ≡ false → (a || b) ≡ false
both_false a b one other = rw one other

pub lacks_pair : (p : Pair) (xs : List Pair) → AllByRecursion (λ (q : Pair). q.row ≢ p.row) xs → has_pair p xs ≡ false
lacks_pair p [] all = refl
lacks_pair p (q ∷ xs) all =
    both_false (is_eq (pair_cmp p q)) (has_pair p xs) (not_true (is_eq (pair_cmp p q)) (λ is. all.0 (sym (rows_equal (key_cmp p.key q.key) p.row q.row is)))) (lacks_pair p xs all.1)

pub lacks_in : (p : Pair) (lists : List (List Pair)) (i : ℕ) → LackPointer p.row lists → has_pair p (list_of lists i) ≡ false
lacks_in p [] i all = refl
lacks_in p (xs ∷ lists) zero all = lacks_pair p xs all.0
lacks_in p (xs ∷ lists) (suc i) all = lacks_in p lists i all.1

pub lacks_of : (ps : List Pair) (lists : List (List Pair)) (i : ℕ) (p : Pair) → i < length ps → slice_index_or ps i p ≡ p → LackPointers ps lists → LackPointer p.row lists
lacks_of [] lists i p few at all = absurd (omega (arith, few))
lacks_of (q ∷ ps) lists zero p few at all = subst (λ (t : Pair). LackPointer t.row lists) at all.0
lacks_of (q ∷ ps) lists (suc i) p few at all = lacks_of ps lists i p (omega (arith, few)) at all.1

-- ---- as many lists as trees

pub lists_long : (cache : Caching) (m : Holding) (places : List Place) (lists : List (List Pair)) (pages : List (List ℕ)) → HoldLists cache m places lists pages → length lists ≡ length places
lists_long cache m [] lists pages hold = ap (λ (ls : List (List Pair)). length ls) hold.0
lists_long cache m (place ∷ places) [] pages hold = absurd hold
lists_long cache m (place ∷ places) (xs ∷ lists) [] hold = absurd hold
lists_long cache m (place ∷ places) (xs ∷ lists) (own ∷ pages) hold = let more = lists_long cache m places lists pages hold.1 in omega (arith, more)

-- ---- the same kinds of pages

pub same_count : (old new : List Place) → SameKinds old new → length new ≡ length old
same_count [] [] same = refl
same_count [] (q ∷ new) same = absurd cc
same_count (p ∷ old) [] same = absurd cc
same_count (p ∷ old) (q ∷ new) same = let more = same_count old new (ap (λ (ps : List Place). Rattle.std.proofs.Common.drop 1 ps) same) in omega (arith, more)

-- a pointer has room in the pages of these trees
abbrev HasRoom : ℕ → List Place → Type 0
HasRoom row places = AllByRecursion (λ (place : Place). row < 256 ^ place.rec_ref) places

pub room_kinds : (row : ℕ) (places : List Place) → HasRoom row places → HasRoom row (kinds places)
room_kinds row [] all = tt
room_kinds row (p ∷ places) all = (all.0, room_kinds row places all.1)

kinds_room : (row : ℕ) (places : List Place) → HasRoom row (kinds places) → HasRoom row places
kinds_room row [] all = tt
kinds_room row (p ∷ places) all = (all.0, kinds_room row places all.1)

same_room : (row : ℕ) (old new : List Place) → SameKinds old new → HasRoom row old → HasRoom row new
same_room row old new same all = kinds_room row new (subst (λ (ps : List Place). HasRoom row ps) (sym same) (room_kinds row old all))

pub same_pointers : (old new : List Place) (ps : List Pair) → SameKinds old new → ArePointers old ps → ArePointers new ps
same_pointers old new [] same all = tt
same_pointers old new (p ∷ ps) same all = (same_room p.row old new same all.0, same_pointers old new ps same all.1)

pub room_at : (row i : ℕ) (places : List Place) (d : Place) → HasRoom row places → i < length places → row < 256 ^ (slice_index_or places i d).rec_ref
room_at row i [] d all few = absurd (omega (arith, few))
room_at row zero (p ∷ places) d all few = all.0
room_at row (suc i) (p ∷ places) d all few = room_at row i places d all.1 (omega (arith, few))

pub room_of : (ps : List Pair) (i : ℕ) (p : Pair) (places : List Place) → ArePointers places ps → i < length ps → slice_index_or ps i p ≡ p → HasRoom p.row places
room_of [] i p places all few at = absurd (omega (arith, few))
room_of (q ∷ ps) zero p places all few at = subst (λ (t : Pair). HasRoom t.row places) at all.0
room_of (q ∷ ps) (suc i) p places all few at = room_of ps i p places all.1 (omega (arith, few)) at

-- ---- one call more

-- the first so many of these pairs were put
abbrev pub PutsFirst : Option Holding → Option Holding → Trees → Trees → List Pair → ℕ → Type 0
PutsFirst told next old new ps i = IfStand told old (λ m own lists. LackPointers ps lists → StandThen old m own next new (put_each (take i ps) lists))

pub put_step : (old mid new : Trees) (told then next : Option Holding) (ps : List Pair) (i : ℕ) (p : Pair) → PutsFirst told then old mid ps i
    → IfStand then mid (λ m own lists. has_pair p (list_of lists i) ≡ false → StandThen mid m own next new (put_in i p lists))
    → i < length ps → length ps ≡ length old.places → slice_index_or ps i p ≡ p → PutsFirst told next old new ps (i + 1)
put_step old mid new told then next ps i p before inserted few each at = λ m held own lists s lacks.
    let one = before m held own lists s lacks in
    let none = ap (λ (xs : List Pair). has_pair p xs) (untouched_put ps lists i) ∙ lacks_in p lists i (lacks_of ps lists i p few at lacks) in
    let two = inserted one.now one.held own (put_each (take i ps) lists) one.stand none in
    let long = lists_long old.cache m old.places lists s.pages s.hold in
    subst (λ (ls : List (List Pair)). StandThen old m own next new ls) (one_more_put ps lists i p few (long ∙ sym each) at)
    (stand_follow old mid new m own then next (put_each (take i ps) lists) (put_in i p (put_each (take i ps) lists)) one two)

pub put_never : (old mid : Trees) (told then : Option Holding) (ps : List Pair) (i : ℕ) → PutsFirst told then old mid ps i → IfStand then mid (λ m own lists. ⊥) → IfStand told old (λ m own lists. LackPointers ps lists → ⊥)
put_never old mid told then ps i before never = λ m held own lists s lacks.
    let one = before m held own lists s lacks in
    never one.now one.held own (put_each (take i ps) lists) one.stand

take_all : {A : Type 0} (xs : List A) (n : ℕ) → length xs ≤ n → take n xs ≡ xs
take_all [] zero few = refl
take_all [] (suc n) few = refl
take_all (x ∷ xs) zero few = absurd (omega (arith, few))
take_all {A} (x ∷ xs) (suc n) few = ap (λ (ys : List A). x ∷ ys) (take_all xs n (omega (arith, few)))

pub put_whole : (old new : Trees) (told next : Option Holding) (ps : List Pair) (i : ℕ) → PutsFirst told next old new ps i → length ps ≤ i → IfStand told old (λ m own lists. LackPointers ps lists → StandThen old m own next new (put_each ps lists))
put_whole old new told next ps i put all = λ m held own lists s lacks. subst (λ (qs : List Pair). StandThen old m own next new (put_each qs lists)) (take_all ps i all) (put m held own lists s lacks)

-- ---- pairs that are taken out

untouched_take : (ps : List Pair) (lists : List (List Pair)) (i : ℕ) → list_of (take_each (take i ps) lists) i ≡ list_of lists i
untouched_take [] lists zero = refl
untouched_take [] lists (suc i) = refl
untouched_take (p ∷ ps) lists zero = refl
untouched_take (p ∷ ps) [] (suc i) = refl
untouched_take (p ∷ ps) (xs ∷ lists) (suc i) = untouched_take ps lists i

one_more_take : (ps : List Pair) (lists : List (List Pair)) (i : ℕ) (p : Pair) → i < length ps → length lists ≡ length ps → slice_index_or ps i p ≡ p → taken_out i p (take_each (take i ps) lists) ≡ take_each (take (i + 1) ps) lists
one_more_take [] lists i p few same at = absurd (omega (arith, few))
one_more_take (q ∷ ps) [] i p few same at = absurd (omega (arith, same))
one_more_take (q ∷ ps) (xs ∷ lists) zero p few same at = ap (λ (t : Pair). without_pair t xs ∷ lists) (sym at)
one_more_take (q ∷ ps) (xs ∷ lists) (suc i) p few same at =
    let e : suc i + 1 ≡ suc (i + 1) = omega arith in
    ap (λ (ls : List (List Pair)). without_pair q xs ∷ ls) (one_more_take ps lists i p (omega (arith, few)) (omega (arith, same)) at) ∙ ap (λ (n : ℕ). take_each (take n (q ∷ ps)) (xs ∷ lists)) (sym e)

-- the first so many of these pairs were taken out
abbrev pub TakesFirst : Option Holding → Option Holding → Trees → Trees → List Pair → ℕ → Type 0
TakesFirst told next old new ps i = IfStand told old (λ m own lists. StandThen old m own next new (take_each (take i ps) lists))

pub take_step : (old mid new : Trees) (told then next : Option Holding) (ps : List Pair) (i : ℕ) (p : Pair) → TakesFirst told then old mid ps i
    → IfStand then mid (λ m own lists. StandThen mid m own next new (taken_out i p lists))
    → i < length ps → length ps ≡ length old.places → slice_index_or ps i p ≡ p → TakesFirst told next old new ps (i + 1)
take_step old mid new told then next ps i p before removed few each at = λ m held own lists s.
    let one = before m held own lists s in
    let two = removed one.now one.held own (take_each (take i ps) lists) one.stand in
    let long = lists_long old.cache m old.places lists s.pages s.hold in
    subst (λ (ls : List (List Pair)). StandThen old m own next new ls) (one_more_take ps lists i p few (long ∙ sym each) at)
    (stand_follow old mid new m own then next (take_each (take i ps) lists) (taken_out i p (take_each (take i ps) lists)) one two)

pub take_never : (old mid : Trees) (told then : Option Holding) (ps : List Pair) (i : ℕ) → TakesFirst told then old mid ps i → IfStand then mid (λ m own lists. ⊥) → IfStand told old (λ m own lists. ⊥)
take_never old mid told then ps i before never = λ m held own lists s.
    let one = before m held own lists s in
    never one.now one.held own (take_each (take i ps) lists) one.stand

pub take_whole : (old new : Trees) (told next : Option Holding) (ps : List Pair) (i : ℕ) → TakesFirst told next old new ps i → length ps ≤ i → IfStand told old (λ m own lists. StandThen old m own next new (take_each ps lists))
take_whole old new told next ps i took all = λ m held own lists s. subst (λ (qs : List Pair). StandThen old m own next new (take_each qs lists)) (take_all ps i all) (took m held own lists s)
