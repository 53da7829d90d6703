-- Pairs that are put in place of others, one key after the other.
use Rattle.std.proofs.Common.{◌≡◌, ℕ, zero, suc, ◌+◌, ◌^◌, ◌<◌, ◌≤◌, Bool, true, false, List, [], ◌∷◌, length, take, drop, map, Option, refl, sym, ap, subst, ◌∙◌, arith}
use Rattle.std.specs.Prelude.{◌≢◌, slice_index_or, slice_set}
use Rattle.std.specs.List.{AllByRecursion}
use Rattle.std.specs.Ordering.{is_eq}
use Rattle.std.specs.declared.cmp.Ordering.{Ordering}
use Rattle.std.specs.declared.cmp.Ordering.TheVariants.{Less, Equal, Greater}
use Rattle.myi_base.specs.Holding.{Holding}
use Rattle.myi_defs.specs.declared.types.Defs.{Defs}
use Rattle.myi_pack.specs.Packed.{Values}
use Rattle.myi_keys.specs.declared.values.KeySeg.{KeySeg}
use Rattle.myi_keys.specs.Order.{key_cmp}
use Rattle.myi_keylist.specs.declared.pair.Pair.{Pair}
use Rattle.myi_keylist.specs.PairOrder.{pair_with, put_pair}
use Rattle.myi_insertion.specs.Removal.{has_pair, without_pair}
use Rattle.myi_data.specs.Keys.{key_of}
use Rattle.myi_state.specs.State.{StoredRow}
use Rattle.myi_btree.specs.declared.place.Place.{Place}
use Rattle.myi_keytrees.specs.Trees.{Trees, SameKinds}
use Rattle.myi_keytrees.specs.Standing.{list_of, put_in, taken_out, StandThen, IfStand}
use Rattle.myi_keytrees.proofs.CallerLemmas.{stand_follow}
use Rattle.myi_tablestate.specs.Listed.{listed}
use Rattle.myi_rowtrees.specs.RowLists.{take_each, moved_in, move_each, LackPointer, LackPointers}
use Rattle.myi_rowtrees.proofs.EachLemmas.{lists_long, lacks_pair, lacks_of}

-- ---- one pair

same_set : (lists : List (List Pair)) (i : ℕ) → slice_set lists i (list_of lists i) ≡ lists
same_set [] zero = refl
same_set [] (suc i) = refl
same_set (xs ∷ lists) zero = refl
same_set (xs ∷ lists) (suc i) = ap (λ (ls : List (List Pair)). xs ∷ ls) (same_set lists i)

set_twice : (lists : List (List Pair)) (i : ℕ) (xs ys : List Pair) → slice_set (slice_set lists i xs) i ys ≡ slice_set lists i ys
set_twice [] zero xs ys = refl
set_twice [] (suc i) xs ys = refl
set_twice (zs ∷ lists) zero xs ys = refl
set_twice (zs ∷ lists) (suc i) xs ys = ap (λ (ls : List (List Pair)). zs ∷ ls) (set_twice lists i xs ys)

read_set : (lists : List (List Pair)) (i : ℕ) (xs : List Pair) → i < length lists → list_of (slice_set lists i xs) i ≡ xs
read_set [] i xs few = absurd (omega (arith, few))
read_set (zs ∷ lists) zero xs few = refl
read_set (zs ∷ lists) (suc i) xs few = read_set lists i xs (omega (arith, few))

moved_alike : (p q : Pair) (xs : List Pair) (same : Bool) → is_eq (key_cmp p.key q.key) ≡ same → same ≡ true → moved_in p q xs ≡ xs
moved_alike p q xs same is alike = rw (is ∙ alike) refl

moved_apart : (p q : Pair) (xs : List Pair) → is_eq (key_cmp p.key q.key) ≡ false → moved_in p q xs ≡ put_pair q (without_pair p xs)
moved_apart p q xs is = rw is refl

abbrev Moves : Option Holding → Option Holding → Trees → Trees → ℕ → Pair → Pair → Type 0
Moves told next old new key p q = IfStand told old (λ m own lists. has_pair q (without_pair p (list_of lists key)) ≡ false → StandThen old m own next new (slice_set lists key (moved_in p q (list_of lists key))))

pub moved_none : (told : Option Holding) (t : Trees) (key : ℕ) (p q : Pair) → is_eq (key_cmp p.key q.key) ≡ true → Moves told told t t key p q
moved_none told t key p q is = λ m held own lists s none.
    subst (λ (ls : List (List Pair)). StandThen t m own told t ls) (sym (ap (λ (xs : List Pair). slice_set lists key xs) (moved_alike p q (list_of lists key) true is refl) ∙ same_set lists key))
    (record { now = m; held = held; stand = s; lent = λ at len x some off e. e })

pub moved_both : (told then next : Option Holding) (old mid new : Trees) (key : ℕ) (p q : Pair) → is_eq (key_cmp p.key q.key) ≡ false → key < length old.places
    → IfStand told old (λ m own lists. StandThen old m own then mid (taken_out key p lists))
    → IfStand then mid (λ m own lists. has_pair q (list_of lists key) ≡ false → StandThen mid m own next new (put_in key q lists))
    → Moves told next old new key p q
moved_both told then next old mid new key p q is few took put = λ m held own lists s none.
    let one = took m held own lists s in
    let long = lists_long old.cache m old.places lists s.pages s.hold in
    let out = without_pair p (list_of lists key) in
    let read = read_set lists key out (omega (arith, few, long)) in
    let two = put one.now one.held own (taken_out key p lists) one.stand (ap (λ (xs : List Pair). has_pair q xs) read ∙ none) in
    subst (λ (ls : List (List Pair)). StandThen old m own next new ls)
    (ap (λ (xs : List Pair). slice_set (taken_out key p lists) key (put_pair q xs)) read ∙ set_twice lists key out (put_pair q out) ∙ ap (λ (xs : List Pair). slice_set lists key xs) (sym (moved_apart p q (list_of lists key) is)))
    (stand_follow old mid new m own then next (taken_out key p lists) (put_in key q (taken_out key p lists)) one two)

pub moved_never : (told mid_told : Option Holding) (old mid : Trees) (key : ℕ) (p : Pair) → IfStand told old (λ m own lists. StandThen old m own mid_told mid (taken_out key p lists)) → IfStand mid_told mid (λ m own lists. ⊥) → IfStand told old (λ m own lists. ⊥)
moved_never told mid_told old mid key p took never = λ m held own lists s.
    let one = took m held own lists s in
    never one.now one.held own (taken_out key p lists) one.stand

-- a pointer has room in the page of a key as before
pub same_room_at : (old new : List Place) (key row : ℕ) (d : Place) → SameKinds old new → row < 256 ^ (slice_index_or old key d).rec_ref → row < 256 ^ (slice_index_or new key d).rec_ref
same_room_at [] [] key row d same less = less
same_room_at [] (q ∷ new) key row d same less = absurd cc
same_room_at (p ∷ old) [] key row d same less = absurd cc
same_room_at (p ∷ old) (q ∷ new) zero row d same less = let e : q.rec_ref ≡ p.rec_ref = ap (λ (ps : List Place). (slice_index_or ps 0 p).rec_ref) same in subst (λ (n : ℕ). row < 256 ^ n) (sym e) less
same_room_at (p ∷ old) (q ∷ new) (suc key) row d same less = same_room_at old new key row d (ap (λ (ps : List Place). drop 1 ps) same) less

-- ---- one key more

untouched_move : (ps qs : List Pair) (lists : List (List Pair)) (i : ℕ) → list_of (move_each (take i ps) (take i qs) lists) i ≡ list_of lists i
untouched_move [] qs lists zero = refl
untouched_move [] qs lists (suc i) = refl
untouched_move (p ∷ ps) qs lists zero = refl
untouched_move (p ∷ ps) [] lists (suc i) = refl
untouched_move (p ∷ ps) (q ∷ qs) [] (suc i) = refl
untouched_move (p ∷ ps) (q ∷ qs) (xs ∷ lists) (suc i) = untouched_move ps qs lists i

one_more_move : (ps qs : List Pair) (lists : List (List Pair)) (i : ℕ) (p q : Pair) → i < length ps → length qs ≡ length ps → length lists ≡ length ps → slice_index_or ps i p ≡ p → slice_index_or qs i q ≡ q
    → slice_set (move_each (take i ps) (take i qs) lists) i (moved_in p q (list_of lists i)) ≡ move_each (take (i + 1) ps) (take (i + 1) qs) lists
one_more_move [] qs lists i p q few both same at to = absurd (omega (arith, few))
one_more_move (a ∷ ps) [] lists i p q few both same at to = absurd (omega (arith, both))
one_more_move (a ∷ ps) (b ∷ qs) [] i p q few both same at to = absurd (omega (arith, same))
one_more_move (a ∷ ps) (b ∷ qs) (xs ∷ lists) zero p q few both same at to = ap (λ (t : Pair). moved_in t q xs ∷ lists) (sym at) ∙ ap (λ (t : Pair). moved_in a t xs ∷ lists) (sym to)
one_more_move (a ∷ ps) (b ∷ qs) (xs ∷ lists) (suc i) p q few both same at to =
    let e : suc i + 1 ≡ suc (i + 1) = omega arith in
    ap (λ (ls : List (List Pair)). moved_in a b xs ∷ ls) (one_more_move ps qs lists i p q (omega (arith, few)) (omega (arith, both)) (omega (arith, same)) at to)
    ∙ ap (λ (n : ℕ). move_each (take n (a ∷ ps)) (take n (b ∷ qs)) (xs ∷ lists)) (sym e)

-- a list from which a pair was taken has none with the pointer of another
lacks_out : (ps : List Pair) (lists : List (List Pair)) (i n : ℕ) (p : Pair) → i < length ps → length lists ≡ length ps → slice_index_or ps i p ≡ p → LackPointer n (take_each ps lists) → AllByRecursion (λ (t : Pair). t.row ≢ n) (without_pair p (list_of lists i))
lacks_out [] lists i n p few same at all = absurd (omega (arith, few))
lacks_out (a ∷ ps) [] i n p few same at all = absurd (omega (arith, same))
lacks_out (a ∷ ps) (xs ∷ lists) zero n p few same at all = subst (λ (t : Pair). AllByRecursion (λ (u : Pair). u.row ≢ n) (without_pair t xs)) at all.0
lacks_out (a ∷ ps) (xs ∷ lists) (suc i) n p few same at all = lacks_out ps lists i n p (omega (arith, few)) (omega (arith, same)) at all.1

-- the first so many pairs were moved
abbrev pub MovesFirst : Option Holding → Option Holding → Trees → Trees → List Pair → List Pair → ℕ → Type 0
MovesFirst told next old new ps qs i = IfStand told old (λ m own lists. LackPointers qs (take_each ps lists) → StandThen old m own next new (move_each (take i ps) (take i qs) lists))

pub move_step : (old mid new : Trees) (told then next : Option Holding) (ps qs : List Pair) (i : ℕ) (p q : Pair) → MovesFirst told then old mid ps qs i → Moves then next mid new i p q
    → i < length qs → length ps ≡ length old.places → length qs ≡ length old.places → slice_index_or ps i p ≡ p → slice_index_or qs i q ≡ q → MovesFirst told next old new ps qs (i + 1)
move_step old mid new told then next ps qs i p q before moves few each others at to = λ m held own lists s lacks.
    let one = before m held own lists s lacks in
    let long = lists_long old.cache m old.places lists s.pages s.hold in
    let now = move_each (take i ps) (take i qs) lists in
    let same = untouched_move ps qs lists i in
    let less : i < length ps = omega (arith, few, each, others) in
    let none = lacks_pair q (without_pair p (list_of lists i)) (lacks_out ps lists i q.row p less (omega (arith, long, each)) at (lacks_of qs (take_each ps lists) i q few to lacks)) in
    let two = moves one.now one.held own now one.stand (ap (λ (xs : List Pair). has_pair q (without_pair p xs)) same ∙ none) in
    subst (λ (ls : List (List Pair)). StandThen old m own next new ls)
    (ap (λ (xs : List Pair). slice_set now i (moved_in p q xs)) same ∙ one_more_move ps qs lists i p q less (omega (arith, each, others)) (omega (arith, long, each)) at to)
    (stand_follow old mid new m own then next now (slice_set now i (moved_in p q (list_of now i))) one two)

pub move_never : (old mid : Trees) (told then : Option Holding) (ps qs : List Pair) (i : ℕ) → MovesFirst told then old mid ps qs i → IfStand then mid (λ m own lists. ⊥) → IfStand told old (λ m own lists. LackPointers qs (take_each ps lists) → ⊥)
move_never old mid told then ps qs i before never = λ m held own lists s lacks.
    let one = before m held own lists s lacks in
    never one.now one.held own (move_each (take i ps) (take i qs) lists) one.stand

take_all : {A : Type 0} (xs : List A) (n : ℕ) → length xs ≤ n → take n xs ≡ xs
take_all [] zero few = refl
take_all [] (suc n) few = refl
take_all (x ∷ xs) zero few = absurd (omega (arith, few))
take_all {A} (x ∷ xs) (suc n) few = ap (λ (ys : List A). x ∷ ys) (take_all xs n (omega (arith, few)))

pub move_whole : (old new : Trees) (told next : Option Holding) (ps qs : List Pair) (i : ℕ) → MovesFirst told next old new ps qs i → length ps ≤ i → length qs ≤ i → IfStand told old (λ m own lists. LackPointers qs (take_each ps lists) → StandThen old m own next new (move_each ps qs lists))
move_whole old new told next ps qs i moved all both = λ m held own lists s lacks.
    subst (λ (rs : List Pair). StandThen old m own next new (move_each rs qs lists)) (take_all ps i all)
    (subst (λ (rs : List Pair). StandThen old m own next new (move_each (take i ps) rs lists)) (take_all qs i both) (moved m held own lists s lacks))

-- ---- the rows of a table

abbrev pairs_by : Defs → Values → ℕ → List ℕ → List Pair
pairs_by d values pointer ks = map (λ k. pair_with (key_of d k values) pointer) ks

-- what becomes of the list of a key where a row gets other values
pub record ListMoves (d : Defs) (values was : Values) (pointer old : ℕ) (rows new : List StoredRow) : Type 0 where
  pub apart : (k : ℕ) → listed d k new ≡ put_pair (pair_with (key_of d k values) pointer) (without_pair (pair_with (key_of d k was) old) (listed d k rows))
  pub alike : (k : ℕ) → key_of d k values ≡ key_of d k was → listed d k new ≡ listed d k rows

equal_of : (o : Ordering) → is_eq o ≡ true → o ≡ Equal
equal_of Less is = absurd cc
equal_of Equal is = refl
equal_of Greater is = absurd cc

list_moved : (d : Defs) (values was : Values) (pointer old : ℕ) (rows new : List StoredRow) (k : ℕ) (same : Bool) → is_eq (key_cmp (key_of d k was) (key_of d k values)) ≡ same
    → ((a b : List KeySeg) → key_cmp a b ≡ Equal → a ≡ b) → ListMoves d values was pointer old rows new
    → listed d k new ≡ moved_in (pair_with (key_of d k was) old) (pair_with (key_of d k values) pointer) (listed d k rows)
list_moved d values was pointer old rows new k true is total f =
    f.alike k (sym (total (key_of d k was) (key_of d k values) (equal_of (key_cmp (key_of d k was) (key_of d k values)) is)))
    ∙ sym (moved_alike (pair_with (key_of d k was) old) (pair_with (key_of d k values) pointer) (listed d k rows) true is refl)
list_moved d values was pointer old rows new k false is total f =
    f.apart k ∙ sym (moved_apart (pair_with (key_of d k was) old) (pair_with (key_of d k values) pointer) (listed d k rows) is)

pub each_in_place : (d : Defs) (values was : Values) (pointer old : ℕ) (rows new : List StoredRow) (ks : List ℕ) → ((a b : List KeySeg) → key_cmp a b ≡ Equal → a ≡ b) → ListMoves d values was pointer old rows new
    → map (λ k. listed d k new) ks ≡ move_each (pairs_by d was old ks) (pairs_by d values pointer ks) (map (λ k. listed d k rows) ks)
each_in_place d values was pointer old rows new [] total f = refl
each_in_place d values was pointer old rows new (k ∷ ks) total f =
    ap (λ (xs : List Pair). xs ∷ map (λ k. listed d k new) ks) (list_moved d values was pointer old rows new k (is_eq (key_cmp (key_of d k was) (key_of d k values))) refl total f)
    ∙ ap (λ (ls : List (List Pair)). moved_in (pair_with (key_of d k was) old) (pair_with (key_of d k values) pointer) (listed d k rows) ∷ ls) (each_in_place d values was pointer old rows new ks total f)
