-- Trees that were just opened have no pair.
use Rattle.std.proofs.Common.{◌≡◌, ℕ, zero, suc, ◌+◌, ◌-◌, ◌/◌, ◌^◌, ◌<◌, ◌≤◌, ◌&&◌, true, List, [], ◌∷◌, ◌++◌, length, map, take, replicate, unwrap_or, Option, Some, None, refl, sym, ap, subst, ◌∙◌, arith}
use Rattle.std.specs.Prelude.{nat_le, nat_lt, HoldsAt}
use Rattle.std.specs.List.{AllByRecursion}
use Rattle.std.proofs.lemmas.Bool.{lt-ltb, and_from}
use Rattle.std.proofs.lemmas.List.{take_all}
use Rattle.std.proofs.Math.Nat.{pow-le-pow_right, div-eq_of_lt}
use Rattle.std.specs.List.Sorted.{IsStrictlySortedBy}
use Rattle.myi_base.specs.Ranges.{Range}
use Rattle.myi_base.specs.Holding.{Holding, bytes_of}
use Rattle.myi_defs.specs.declared.types.Defs.{Defs}
use Rattle.myi_defs.specs.declared.types.RowFormat.{RowFormat}
use Rattle.myi_defs.specs.declared.types.RowFormat.TheVariants.{Static, Dynamic}
use Rattle.myi_defs.specs.Addressable.{pointers, is_addressable}
use Rattle.myi_defs.specs.Sound.{IsSound}
use Rattle.myi_header.specs.Layout.{first_page_of}
use Rattle.myi_keycache.specs.Caching.{pages_of, IsCurrent}
use Rattle.myi_keylist.specs.declared.pair.Pair.{Pair}
use Rattle.myi_btree.specs.declared.place.Place.{Place}
use Rattle.myi_btree.specs.declared.place.Room.{Room}
use Rattle.myi_btree.specs.Sizes.{IsPlaced}
use Rattle.myi_btree.specs.Walk.{Walked}
use Rattle.myi_insertion.specs.Covers.{stock}
use Rattle.myi_keytrees.specs.Trees.{Trees, kinds}
use Rattle.myi_keytrees.specs.Standing.{cover_each, Stand}
use Rattle.myi_keytrees.proofs.CallerLemmas.{opened}
use Rattle.myi_keytrees.specs.InFile.{no_walk, HaveWalks, EndAt, AreAscending, contents_of, pages_of_walks, bytes_owned}
use Rattle.myi_pair.specs.FirstRows.{numbers_from, key_numbers}
use Rattle.myi_pair.specs.KeyList.{key_list}
use Rattle.myi_pair.specs.Trees.{place_of}
use Rattle.myi_rowtrees.specs.Places.{places_from, places_of}
use Rattle.myi_saferepair.specs.Filling.{free_from, TreesHold, RootFits}

-- no tree has a root
abbrev pub AreEmpty : List Place → Type 0
AreEmpty places = AllByRecursion (λ (p : Place). p.root ≡ None) places

empty_walks : List Place → List Walked
empty_walks places = map (λ (p : Place). no_walk) places

have_none : (file : List ℕ) (busy : List Range) (places : List Place) → AreEmpty places → HaveWalks file busy places (empty_walks places)
unfolding empty_walks
have_none file busy [] none = refl
have_none file busy (p ∷ places) none = rw none.0 (refl, have_none file _ places none.1)

end_none : (end : ℕ) (places : List Place) → EndAt end places (empty_walks places)
unfolding empty_walks
end_none end [] = tt
end_none end (p ∷ places) = (tt, end_none end places)

ascend_none : (places : List Place) → AreAscending (contents_of (empty_walks places))
unfolding empty_walks IsStrictlySortedBy
ascend_none [] = tt
ascend_none (p ∷ places) = (tt, ascend_none places)

cover_none : (places : List Place) (x : ℕ) → cover_each places (pages_of_walks (empty_walks places)) x ≡ 0
unfolding empty_walks
cover_none [] x = refl
cover_none (p ∷ places) x = omega (arith, cover_none places x)

lists_none : (d : Defs) (ks : List ℕ) (places : List Place) → length places ≡ length ks → contents_of (empty_walks places) ≡ map (λ k. key_list d k []) ks
unfolding empty_walks key_list
lists_none d [] [] same = refl
lists_none d [] (p ∷ places) same = absurd (omega (arith, same))
lists_none d (k ∷ ks) [] same = absurd (omega (arith, same))
lists_none d (k ∷ ks) (p ∷ places) same = ap (λ (ls : List (List Pair)). [] ∷ ls) (lists_none d ks places (omega (arith, same)))

-- the same bytes, however they are counted
stand_for : (t : Trees) (m : Holding) (own other : ℕ → ℕ) (lists : List (List Pair)) → Stand t m own lists → ((x : ℕ) → own x ≡ other x) → Stand t m other lists
stand_for t m own other lists s same = record {
  placed = s.placed;
  pages = s.pages;
  current = s.current;
  hold = s.hold;
  spare = s.spare;
  owned = λ x. s.owned x ∙ same x;
  once = λ x. subst (λ (n : ℕ). n ≤ 1) (same x) (s.once x);
}

pub fresh_stand : (d : Defs) (t : Trees) (m : Holding) → AllByRecursion IsPlaced t.places → AreEmpty t.places → length t.places ≡ length (key_numbers d) → pages_of t.cache ≡ [] → IsCurrent t.cache m → t.room ≡ record { end = first_page_of d; free = [] } → TreesHold d [] t m
fresh_stand d t m placed empty many none current room =
    let own_room : t.room ≡ record { end = t.room.end; free = [] } = room ∙ ap (λ (r : Room). record { end = r.end; free = [] }) (sym room) in
    let stands = opened t m (first_page_of d) (empty_walks t.places) placed none current own_room (ascend_none t.places) (have_none (bytes_of t.cache.name m) ((0, first_page_of d) ∷ []) t.places empty) (end_none t.room.end t.places) in
    subst (λ (ls : List (List Pair)). Stand t m (free_from (first_page_of d)) ls) (lists_none d (key_numbers d) t.places many)
    (stand_for t m (bytes_owned t (empty_walks t.places)) (free_from (first_page_of d)) (contents_of (empty_walks t.places)) stands
    (λ x. omega (arith, cover_none t.places x, ap (λ (r : Room). stock r x) room)))

-- ---- the places of trees without roots

none_each : (d : Defs) (ks : List ℕ) (n : ℕ) → AreEmpty (places_from d ks (replicate n None))
none_each d [] n = tt
none_each d (k ∷ ks) zero = tt
none_each d (k ∷ ks) (suc n) = (refl, none_each d ks n)

pub none_placed : (d : Defs) (roots : List (Option ℕ)) (n : ℕ) → roots ≡ replicate n None → AreEmpty (places_of d roots)
none_placed d roots n is = subst (λ (rs : List (Option ℕ)). AreEmpty (places_of d rs)) (sym is) (none_each d (key_numbers d) n)

kinds_each : (d : Defs) (ks : List ℕ) (roots : List (Option ℕ)) → length roots ≡ length ks → kinds (places_from d ks roots) ≡ map (place_of d) ks
kinds_each d [] [] same = refl
kinds_each d [] (r ∷ roots) same = absurd (omega (arith, same))
kinds_each d (k ∷ ks) [] same = absurd (omega (arith, same))
kinds_each d (k ∷ ks) (r ∷ roots) same = ap (λ (ps : List Place). place_of d k ∷ ps) (kinds_each d ks roots (omega (arith, same)))

pub kinds_placed : (d : Defs) (roots : List (Option ℕ)) → length roots ≡ length (key_numbers d) → kinds (places_of d roots) ≡ map (place_of d) (key_numbers d)
kinds_placed d roots same = kinds_each d (key_numbers d) roots same

pub numbers_long : (low n : ℕ) → length (numbers_from low n) ≡ n
numbers_long low zero = refl
numbers_long low (suc n) = let more = numbers_long (suc low) n in omega (arith, more)

take_none : (n : ℕ) → ◌≡◌ {A = List (Option ℕ)} (take n []) []
take_none zero = refl
take_none (suc n) = refl

-- an empty list that is made longer by roots that are none
pub longer_none : (now old : List (Option ℕ)) (n len k : ℕ) → now ≡ take n old ++ replicate (n - len) None → old ≡ [] → len ≡ 0 → n ≡ k → now ≡ replicate k None
longer_none now old n len k is empty none same =
    let e : n - len ≡ k = omega (arith, none, same) in
    is ∙ ap (λ (xs : List (Option ℕ)). take n xs ++ replicate (n - len) None) empty ∙ ap (λ (xs : List (Option ℕ)). xs ++ replicate (n - len) None) (take_none n) ∙ ap {B = List (Option ℕ)} (λ (m : ℕ). replicate m None) e

-- row pointers reach a file without bytes
pub none_reached : (d : Defs) → IsSound d → is_addressable d 0 ≡ true
unfolding is_addressable
none_reached d s =
    let room : 256 ^ 2 ≤ 256 ^ d.rec_ref = pow-le-pow_right (omega arith) s.rec_ref_least in
    by d.format refl (lt-ltb 0 (256 ^ d.rec_ref - 1) (omega arith))
  where
    by : (f : RowFormat) → d.format ≡ f → nat_lt 0 (256 ^ d.rec_ref - 1) ≡ true → (nat_le 0 (2 ^ 40) && nat_lt (pointers f d.slot_length 0) (256 ^ d.rec_ref - 1)) ≡ true
    by Static is e =
        let none : 0 / d.slot_length ≡ 0 = div-eq_of_lt (omega (arith, s.slot_pointer is)) in
        and_from (nat_le 0 (2 ^ 40)) (nat_lt (0 / d.slot_length) (256 ^ d.rec_ref - 1)) refl (ap (λ n. nat_lt n (256 ^ d.rec_ref - 1)) none ∙ e)
    by Dynamic is e = and_from (nat_le 0 (2 ^ 40)) (nat_lt 0 (256 ^ d.rec_ref - 1)) refl e

-- ---- the roots of trees, one after the other

root_more : (ps : List Place) (i : ℕ) (p : Place) → i < length ps → HoldsAt (λ (q : Place). q ≡ p) ps i → map (λ (q : Place). q.root) (take i ps) ++ (p.root ∷ []) ≡ map (λ (q : Place). q.root) (take (suc i) ps)
root_more [] i p few at = absurd (omega (arith, few))
root_more (q ∷ ps) zero p few at = ap {B = List (Option ℕ)} (λ (r : Place). r.root ∷ []) (sym (at q))
root_more (q ∷ ps) (suc i) p few at = ap (λ (rs : List (Option ℕ)). q.root ∷ rs) (root_more ps i p (omega (arith, few)) at)

pub roots_more : (ps : List Place) (i : ℕ) (p : Place) (root : Option ℕ) (old new : List (Option ℕ)) → i < length ps → HoldsAt (λ (q : Place). q ≡ p) ps i → root ≡ p.root → new ≡ old ++ (root ∷ []) → old ≡ map (λ (q : Place). q.root) (take i ps)
    → new ≡ map (λ (q : Place). q.root) (take (i + 1) ps)
roots_more ps i p root old new few at is more have =
    more ∙ ap (λ (rs : List (Option ℕ)). rs ++ (root ∷ [])) have ∙ ap (λ (r : Option ℕ). map (λ (q : Place). q.root) (take i ps) ++ (r ∷ [])) is ∙ root_more ps i p few at ∙ (let e : suc i ≡ i + 1 = omega arith in ap (λ j. map (λ (q : Place). q.root) (take j ps)) e)

pub roots_all : (ps : List Place) (n : ℕ) → length ps ≤ n → map (λ (q : Place). q.root) (take n ps) ≡ map (λ (q : Place). q.root) ps
roots_all ps n all = ap (λ (qs : List Place). map (λ (q : Place). q.root) qs) (take_all n ps all)

-- a root that is no greatest number can be stored
pub some_fits : (at : ℕ) → at < 2 ^ 64 → (at ≡ 2 ^ 64 - 1 → ⊥) → RootFits (Some at)
some_fits at below differs = (λ e. differs (inside e), omega (arith, below))
  where
    inside : Some at ≡ Some (2 ^ 64 - 1) → at ≡ 2 ^ 64 - 1
    inside e = ap (λ (o : Option ℕ). unwrap_or o at) e
