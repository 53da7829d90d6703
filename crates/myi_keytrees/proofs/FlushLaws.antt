-- What was put is written, and all trees still stand; calls follow one another.
use Rattle.std.proofs.Common.{◌≡◌, ℕ, ◌<◌, true, Bool, Some, Option, List, [], ◌∷◌, refl, sym, ap, subst, ◌∙◌, is_some, inr}
use Rattle.std.specs.Prelude.{IsTrue, All, unwrap_or}
use Rattle.std.specs.List.{AllByRecursion}
use Rattle.std.proofs.lemmas.Option.{same_Some}
use Rattle.myi_base.specs.Holding.{Holding, Told}
use Rattle.myi_keycache.specs.Kept.{is_kept, NoOtherMeets, SameKept}
use Rattle.myi_keycache.specs.Lent.{lent}
use Rattle.myi_keycache.specs.Caching.{Caching, pages_of, IsClean, IsCurrent, SameLent}
use Rattle.myi_keylist.specs.declared.pair.Pair.{Pair}
use Rattle.myi_btree.specs.declared.place.Place.{Place}
use Rattle.myi_btree.specs.declared.place.Room.{Room}
use Rattle.myi_insertion.specs.CachedChanges.{NoneInRoom}
use Rattle.myi_keytrees.specs.Trees.{Trees}
use Rattle.myi_keytrees.specs.Standing.{HoldLists, Stand, StandThen, StillStand, CanSearch}
use Rattle.myi_keytrees.proofs.SearchLaws.{tree_stays}

all_map : {A : Type 0} (P Q : A → Type 0) (xs : List A) → ((x : A) → P x → Q x) → AllByRecursion P xs → AllByRecursion Q xs
all_map P Q [] f all = tt
all_map P Q (x ∷ xs) f all = (f x all.0, all_map P Q xs f all.1)

-- no page is kept that was not
abbrev KeepsNoOther : Caching → Caching → Type 0
KeepsNoOther old new = (p n : ℕ) → is_kept (pages_of new) p n ≡ true → is_kept (pages_of old) p n ≡ true

kept_back : (old new : Caching) → SameKept (pages_of old) (pages_of new) → KeepsNoOther old new
kept_back old new same p n e = ap is_some (sym (same p n)) ∙ e

meets_none : (old new : Caching) (at len : ℕ) → KeepsNoOther old new → NoOtherMeets (is_kept (pages_of old)) at len → NoOtherMeets (is_kept (pages_of new)) at len
meets_none old new at len back none = λ p n e. none p n (back p n e)

all_hold : (old : Caching) (m : Holding) (new : Caching) (n : Holding) (ps : List Place) (lists : List (List Pair)) (pages : List (List ℕ)) → SameLent old m new n → KeepsNoOther old new → HoldLists old m ps lists pages → HoldLists new n ps lists pages
all_hold old m new n [] lists pages same back hold = hold
all_hold old m new n (p ∷ ps) [] pages same back hold = absurd hold
all_hold old m new n (p ∷ ps) (xs ∷ lists) [] same back hold = absurd hold
all_hold old m new n (p ∷ ps) (xs ∷ lists) (g ∷ pages) same back hold = (
  record {
    tree = tree_stays p old m new n p.root xs g same hold.0.tree;
    ascend = hold.0.ascend;
    meets = all_map (λ at. NoOtherMeets (is_kept (pages_of old)) at p.block_length) (λ at. NoOtherMeets (is_kept (pages_of new)) at p.block_length) g (λ at none. meets_none old new at p.block_length back none) hold.0.meets;
  },
  all_hold old m new n ps lists pages same back hold.1,
)

room_none : (old new : Caching) (room : Room) → KeepsNoOther old new → NoneInRoom old room → NoneInRoom new room
room_none old new room back none = record {
  free = all_map (λ (r : ℕ × ℕ). 0 < r.1 → NoOtherMeets (is_kept (pages_of old)) r.0 r.1) (λ (r : ℕ × ℕ). 0 < r.1 → NoOtherMeets (is_kept (pages_of new)) r.0 r.1) room.free (λ r f some. meets_none old new r.0 r.1 back (f some)) none.free;
  end = λ p n e. none.end p n (back p n e);
}

pub flush_stands : (t : Trees) (told next : Option Holding) (new : Caching) → SameKept (pages_of t.cache) (pages_of new) → Told told next (λ m n. IsCurrent t.cache m → IsCurrent new n × SameLent t.cache m new n)
    → StillStand told next t (record { places = t.places; room = t.room; cache = new })
flush_stands t told next new same flushed = λ m held own lists s.
    let then = flushed.told m held in
    let both = then.2 s.current in
    let back = kept_back t.cache new same in
    record {
      now = then.0;
      held = then.1;
      stand = record {
        placed = s.placed;
        pages = s.pages;
        current = both.0;
        hold = all_hold t.cache m new then.0 t.places lists s.pages both.1 back s.hold;
        spare = room_none t.cache new t.room back s.spare;
        owned = s.owned;
        once = s.once;
      };
      lent = λ at len x some off e. both.1 at len x e;
    }

-- ---- another file

told_both : (m n : Holding) (P : Holding → Holding → Type 0) → P m n → Told (Some m) (Some n) P
told_both m n P both = record {
  told = λ q held. (n, refl, subst (λ (x : Holding). P x n) (same_Some m q held) both);
  untold = λ none. absurd cc;
}

pub stand_elsewhere : (t : Trees) (m n : Holding) (own : ℕ → ℕ) (lists : List (List Pair)) → n t.cache.name ≡ m t.cache.name → Stand t m own lists → StandThen t m own (Some n) t lists
stand_elsewhere t m n own lists same s =
    let bytes = ap (λ (o : Option (List ℕ)). unwrap_or o []) same in
    flush_stands t (Some m) (Some n) t.cache (λ at len. refl)
    (told_both m n (λ x y. IsCurrent t.cache x → IsCurrent t.cache y × SameLent t.cache x t.cache y)
    (λ current. (
      record { clean = subst (λ (b : List ℕ). All (IsClean b) (pages_of t.cache)) (sym bytes) current.clean; placed = current.placed },
      λ at len x e. ap (λ (b : List ℕ). lent (pages_of t.cache) b at len) bytes ∙ e,
    ))) m refl own lists s

-- ---- one call after another

pub stand_start : (t : Trees) (m : Holding) (own : ℕ → ℕ) (lists : List (List Pair)) → Stand t m own lists → StandThen t m own (Some m) t lists
stand_start t m own lists s = record { now = m; held = refl; stand = s; lent = λ at len x some off e. e }

pub stand_follow : (a b c : Trees) (m : Holding) (own : ℕ → ℕ) (told next : Option Holding) (xs ys : List (List Pair)) (f : StandThen a m own told b xs) → StandThen b f.now own next c ys → StandThen a m own next c ys
stand_follow a b c m own told next xs ys f g = record {
  now = g.now;
  held = g.held;
  stand = g.stand;
  lent = λ at len x some off e. g.lent at len x some off (f.lent at len x some off e);
}

pub stand_search : (a b : Trees) (m : Holding) (own : ℕ → ℕ) (told : Option Holding) (lists : List (List Pair)) (writable : Bool) → IsTrue writable → StandThen a m own told b lists → CanSearch writable told b
stand_search a b m own told lists writable can f = inr (can, λ n held. (own, lists, subst (λ (q : Holding). Stand b q own lists) (same_Some f.now n (sym f.held ∙ held)) f.stand))
