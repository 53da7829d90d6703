-- What searches leave, one after the other, and that the list of each tree is in order.
use Rattle.std.proofs.Common.{◌≡◌, ℕ, zero, suc, ◌<◌, Bool, Some, None, Option, List, [], ◌∷◌, length, slice_index_or, refl, sym, subst, ◌∙◌, arith, inl, inr}
use Rattle.std.specs.Prelude.{Err, Result, IfErr}
use Rattle.std.specs.List.Sorted.{IsStrictlySortedBy}
use Rattle.std.proofs.lemmas.Option.{same_Some}
use Rattle.myi_base.specs.Holding.{Holding}
use Rattle.myi_keycache.specs.Caching.{Caching}
use Rattle.myi_keylist.specs.declared.pair.Pair.{Pair}
use Rattle.myi_keylist.specs.PairOrder.{pair_cmp}
use Rattle.myi_btree.specs.declared.place.Place.{Place}
use Rattle.myi_btree.specs.declared.fault.TreeFault.{TreeFault}
use Rattle.myi_btree.specs.CachedTrees.{ReadsOnly}
use Rattle.myi_keytrees.specs.Trees.{Trees}
use Rattle.myi_keytrees.specs.Standing.{list_of, HoldLists, Stand, IfStand, StillStand, CanSearch}
use Rattle.myi_keytrees.proofs.CallerLemmas.{stand_follow}
use Rattle.myi_ranges.specs.Ranges.{Searched}

list_strict : (cache : Caching) (m : Holding) (places : List Place) (lists : List (List Pair)) (pages : List (List ℕ)) (k : ℕ) → HoldLists cache m places lists pages → k < length places → IsStrictlySortedBy pair_cmp (slice_index_or lists k [])
list_strict cache m [] lists pages k hold lt = absurd (omega (arith, lt))
list_strict cache m (p ∷ ps) [] pages k hold lt = absurd hold
list_strict cache m (p ∷ ps) (xs ∷ lists) [] k hold lt = absurd hold
list_strict cache m (p ∷ ps) (xs ∷ lists) (g ∷ pages) zero hold lt = hold.0.ascend
list_strict cache m (p ∷ ps) (xs ∷ lists) (g ∷ pages) (suc k) hold lt = list_strict cache m ps lists pages k hold.1 (omega (arith, lt))

pub strict_list : (t : Trees) (m : Holding) (own : ℕ → ℕ) (lists : List (List Pair)) (k : ℕ) → Stand t m own lists → k < length t.places → IsStrictlySortedBy pair_cmp (list_of lists k)
strict_list t m own lists k s lt = list_strict t.cache m t.places lists s.pages k s.hold lt

pub searched : (told next : Option Holding) (old new : Trees) → StillStand told next old new → new.places ≡ old.places → new.room ≡ old.room → ReadsOnly told next old.cache new.cache → Searched told next old new
searched told next old new stand places room reads = record {
  stand = stand;
  places = places;
  room = room;
  name = reads.name;
  written = λ all. ((λ p n e. all p n (reads.unwritten p n e)), reads.clean all);
  others = reads.others;
}

pub untouched : (told : Option Holding) (t : Trees) → Searched told told t t
untouched told t = record {
  stand = λ m held own lists s. record { now = m; held = held; stand = s; lent = λ at len x some off e. e };
  places = refl;
  room = refl;
  name = refl;
  written = λ all. (all, refl);
  others = record { told = λ m held. (m, held, λ q off. refl); untold = λ e. e };
}

pub follow : (told mid next : Option Holding) (a b c : Trees) → Searched told mid a b → Searched mid next b c → Searched told next a c
follow told mid next a b c one two = record {
  stand = λ m held own lists s. let f = one.stand m held own lists s in stand_follow a b c m own mid next lists lists f (two.stand f.now f.held own lists f.stand);
  places = two.places ∙ one.places;
  room = two.room ∙ one.room;
  name = two.name ∙ one.name;
  written = λ all. let f = one.written all in let g = two.written f.0 in (g.0, g.1 ∙ f.1);
  others = record {
    told = λ m held.
        let x = one.others.told m held in
        let y = two.others.told x.0 x.1 in
        (y.0, y.1, λ q off. y.2 q (λ e. off (e ∙ one.name)) ∙ x.2 q off);
    untold = λ e. two.others.untold (one.others.untold e);
  };
}

pub can_again : (writable : Bool) (told next : Option Holding) (old new : Trees) → Searched told next old new → CanSearch writable told old → CanSearch writable next new
can_again writable told next old new f (inl all) = inl (f.written all).0
can_again writable told next old new f (inr can) = inr (can.0, λ n held. by told refl n held)
  where
    never : {A : Type 0} (n : Holding) → None ≡ Some n → A
    never n e = absurd cc

    by : (o : Option Holding) → told ≡ o → (n : Holding) → next ≡ Some n → (own : ℕ → ℕ) × (lists : List (List Pair)) × Stand new n own lists
    by None e n held = never n (sym (f.others.untold e) ∙ held)
    by (Some m) e n held =
        let was = can.1 m e in
        let g = f.stand m e was.0 was.1 was.2 in
        (was.0, was.1, subst (λ (q : Holding). Stand new q was.0 was.1) (same_Some g.now n (sym g.held ∙ held)) g.stand)

-- what holds of the lists before a search that follows one, where it held of them then
pub before_search : (told mid : Option Holding) (a b : Trees) (P : List (List Pair) → Type 0) → Searched told mid a b → IfStand mid b (λ m own lists. P lists) → IfStand told a (λ m own lists. P lists)
before_search told mid a b P f found = λ m held own lists s. let g = f.stand m held own lists s in found g.now g.held own lists g.stand

pub if_err : {T : Type 0} (r : Result T TreeFault) (x : TreeFault) (P : TreeFault → Type 0) → r ≡ Err x → P x → IfErr r P
if_err r x P e h = rw e h
