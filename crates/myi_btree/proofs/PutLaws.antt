-- Putting pages one behind the other.
use Rattle.std.proofs.Common.{◌≡◌, ℕ, zero, suc, ◌+◌, ◌*◌, ◌<◌, ◌≤◌, true, Option, Some, List, [], ◌∷◌, ◌++◌, length, refl, sym, ap, subst, ◌∙◌, arith, inl, inr}
use Rattle.std.proofs.lemmas.Bool.{le-leb, or_left}
use Rattle.std.proofs.lemmas.List.{length-append}
use Rattle.myi_base.specs.Ranges.{are_apart}
use Rattle.myi_base.specs.Holding.{Holding, Told, overwritten, OthersStay}
use Rattle.myi_base.proofs.CallerLemmas.{told_same, told_more, told_then}
use Rattle.myi_keycache.specs.Kept.{Page, AddsOnly}
use Rattle.myi_keycache.specs.Caching.{pages_of, Caching, lends, contents, IsCurrent, CanPut, Puts}
use Rattle.myi_keycache.proofs.CallerLemmas.{stays_start}
use Rattle.myi_btree.specs.declared.place.Place.{Place}
use Rattle.myi_btree.specs.Walk.{Node}
use Rattle.myi_btree.specs.Building.{page_for, PutsPage, PutsNone, MayPut, NotPut, MayLay, NotLaid, AreLent, laid_over, EndBefore, CanLay, Spares, AddsLaid, Lays, LaysOnly, PutsOnly, CountsPuts}
use Rattle.myi_btree.proofs.ServeLaws.{rose_on}

-- ranges that end before another begins have no byte of it
apart_before : (p n at size : ℕ) → p + n ≤ at → are_apart (p, p + n) (at, at + size) ≡ true
apart_before p n at size le = or_left _ _ (le-leb (p + n) at le)

pub can_put : (cache : Caching) (m : Holding) (at size : ℕ) → IsCurrent cache m → EndBefore (pages_of cache) at → CanPut cache m at size
can_put cache m at size current before = record { current = current; apart = λ p n kept. inr (apart_before p n at size (before p n kept)) }

lent_still : (place : Place) (old new : Caching) (m n : Holding) (first at : ℕ) (bytes : List ℕ) (nodes : List Node) → length bytes ≡ place.block_length → first + place.block_length * length nodes ≡ at
    → Puts at bytes old new m n → AreLent place old m first nodes → AreLent place new n first nodes
lent_still place old new m n first at bytes [] len at_is puts there = tt
lent_still place old new m n first at bytes (node ∷ nodes) len at_is puts there = (
  puts.lent first place.block_length (page_for place node) (apart_before first place.block_length at (length bytes) (omega arith)) there.0,
  lent_still place old new m n (first + place.block_length) at bytes nodes len (omega arith) puts there.1,
)

lent_more : (place : Place) (cache : Caching) (m : Holding) (first at : ℕ) (nodes : List Node) (node : Node) → first + place.block_length * length nodes ≡ at
    → AreLent place cache m first nodes → lends cache m at place.block_length ≡ Some (page_for place node) → AreLent place cache m first (nodes ++ node ∷ [])
lent_more place cache m first at [] node at_is there last = let e : at ≡ first = omega arith in (subst (λ (t : ℕ). lends cache m t place.block_length ≡ Some (page_for place node)) e last, tt)
lent_more place cache m first at (d ∷ nodes) node at_is there last = (there.0, lent_more place cache m (first + place.block_length) at nodes node (omega arith) there.1 last)

over_more : (place : Place) (first at : ℕ) (nodes : List Node) (node : Node) (file : List ℕ) → first + place.block_length * length nodes ≡ at
    → laid_over place first (nodes ++ node ∷ []) file ≡ overwritten at (page_for place node) (laid_over place first nodes file)
over_more place first at [] node file at_is = let e : first ≡ at = omega arith in ap (λ (t : ℕ). overwritten t (page_for place node) file) e
over_more place first at (d ∷ nodes) node file at_is = over_more place (first + place.block_length) at nodes node (overwritten first (page_for place d) file) (omega arith)

-- kept pages end before the place behind those that were laid
pub ends : (place : Place) (first count : ℕ) (old new : List Page) → EndBefore old first → AddsLaid place first count old new → EndBefore new (first + place.block_length * count)
ends place first count old new before adds p n kept =
    elim (adds p n kept) [
      | inl was ↦ let k = before p n was in omega (arith, times_le place.block_length count)
      | inr laid ↦ let s = laid.1 in let k = room place.block_length count s.0 s.1 in omega (arith, laid.0, s.2)
    ]
  where
    times_le : (b c : ℕ) → 0 ≤ b * c
    times_le b c = omega arith

    room : (b c i : ℕ) → i < c → b * i + b ≤ b * c
    room b zero i lt = absurd (omega arith)
    room b (suc c) zero lt = omega arith
    room b (suc c) (suc i) lt = omega (arith, room b c i (omega arith))

pub lays_none : (place : Place) (first : ℕ) (cache : Caching) (m : Holding) → IsCurrent cache m → Lays place first [] cache cache m m
lays_none place first cache m current = record {
  spares = record { current = current; lent = λ p len x le e. e; others = λ q ne. refl };
  there = tt;
  contents = refl;
  kept = λ p n kept. inl kept;
}

pub lays_more : (place : Place) (first at : ℕ) (nodes : List Node) (node : Node) (old mid new : Caching) (m k n : Holding)
    → length (page_for place node) ≡ place.block_length → first + place.block_length * length nodes ≡ at → mid.name ≡ old.name → CanLay old m first → Lays place first nodes old mid m k
    → (CanPut mid k at (length (page_for place node)) → PutsPage at (page_for place node) mid new k n) → AddsOnly at (length (page_for place node)) (pages_of mid) (pages_of new)
    → Lays place first (nodes ++ node ∷ []) old new m n
lays_more place first at nodes node old mid new m k n len at_is name can lays put adds =
    let end : EndBefore (pages_of mid) (first + place.block_length * length nodes) = ends place first (length nodes) (pages_of old) (pages_of mid) can.before lays.kept in
    let end1 : EndBefore (pages_of mid) at = subst (λ (t : ℕ). EndBefore (pages_of mid) t) at_is end in
    let puts = put (can_put mid k at (length (page_for place node)) lays.spares.current end1) in
    let more : suc (length nodes) ≡ length (nodes ++ node ∷ []) = omega (arith, length-append nodes (node ∷ [])) in
    record {
      spares = record {
        current = puts.0.current;
        lent = λ p l x le e. puts.0.lent p l x (apart_before p l at (length (page_for place node)) (omega arith)) (lays.spares.lent p l x le e);
        others = λ q ne. puts.1 q (λ same. ne (same ∙ name)) ∙ lays.spares.others q ne;
      };
      there = lent_more place new n first at nodes node at_is (lent_still place mid new k n first at (page_for place node) nodes len at_is puts.0 lays.there) (subst (λ (t : ℕ). lends new n at t ≡ Some (page_for place node)) len puts.0.there);
      contents = puts.0.contents ∙ ap (overwritten at (page_for place node)) lays.contents ∙ sym (over_more place first at nodes node (contents old m) at_is);
      kept = λ p l kept. elim (adds p l kept) [
        | inl was ↦ elim (lays.kept p l was) [ inl older ↦ inl older | inr laid ↦ let s = laid.1 in inr (laid.0, (s.0, omega (arith, s.1), s.2)) ]
        | inr now ↦ inr (now.1 ∙ len, (length nodes, omega arith, now.0 ∙ sym at_is))
      ];
    }

-- a put that was refused
pub spares_more : (place : Place) (first : ℕ) (nodes : List Node) (old mid new : Caching) (m k n : Holding) → mid.name ≡ old.name → Lays place first nodes old mid m k
    → (IsCurrent mid k → PutsNone mid new k n) → Spares first old new m n
spares_more place first nodes old mid new m k n name lays put =
    let puts = put lays.spares.current in
    record {
      current = puts.0.current;
      lent = λ p l x le e. puts.0.lent p l x (lays.spares.lent p l x le e);
      others = λ q ne. puts.1 q (λ same. ne (same ∙ name)) ∙ lays.spares.others q ne;
    }

-- ---- where the files tell what they hold

pub told_none : (a : Option Holding) (cache : Caching) → Told a a (NotPut cache cache)
told_none a cache = told_same a a _ refl (λ m held current. (stays_start cache m current, λ q other. refl))

pub told_start : (a : Option Holding) (place : Place) (first : ℕ) (cache : Caching) → Told a a (MayLay place first [] cache cache)
told_start a place first cache = told_same a a _ refl (λ m held can. lays_none place first cache m can.current)

pub told_next : (a b c : Option Holding) (place : Place) (first at : ℕ) (nodes : List Node) (node : Node) (old mid new : Caching)
    → length (page_for place node) ≡ place.block_length → first + place.block_length * length nodes ≡ at → mid.name ≡ old.name
    → Told a b (MayLay place first nodes old mid)
    → Told b c (MayPut at (page_for place node) mid new) → AddsOnly at (length (page_for place node)) (pages_of mid) (pages_of new)
    → Told a c (MayLay place first (nodes ++ node ∷ []) old new)
told_next a b c place first at nodes node old mid new len at_is name done put adds =
    told_then a b c _ _ _ done put (λ m k n laid puts can. lays_more place first at nodes node old mid new m k n len at_is name can (laid can) puts adds)

pub told_refused : (a b c : Option Holding) (place : Place) (first : ℕ) (nodes : List Node) (old mid new : Caching) → mid.name ≡ old.name
    → Told a b (MayLay place first nodes old mid)
    → Told b c (NotPut mid new)
    → Told a c (NotLaid first old new)
told_refused a b c place first nodes old mid new name done put =
    told_then a b c _ _ _ done put (λ m k n laid puts can. spares_more place first nodes old mid new m k n name (laid can) puts)

pub told_spares : (a b : Option Holding) (place : Place) (first : ℕ) (nodes : List Node) (old new : Caching) → Told a b (MayLay place first nodes old new) → Told a b (NotLaid first old new)
told_spares a b place first nodes old new done = told_more a b _ _ done (λ m n held laid can. (laid can).spares)

-- ---- what is counted

pub puts_none : (a : Caching) → PutsOnly a a
puts_none a = record { setup = refl; read_requests = refl; reads = refl; requests = (0, omega arith) }

pub puts_on : (a b c : Caching) → PutsOnly a b → PutsOnly b c → PutsOnly a c
puts_on a b c x y = record {
  setup = y.setup ∙ x.setup;
  read_requests = y.read_requests ∙ x.read_requests;
  reads = y.reads ∙ x.reads;
  requests = (x.requests.0 + y.requests.0, rose_on x.requests.0 y.requests.0 a.counters.write_requests b.counters.write_requests c.counters.write_requests x.requests.1 y.requests.1);
}

-- ---- what holds at any answer

pub lays_still : (a b : Option Holding) (len first : ℕ) (cache : Caching) → b ≡ a → LaysOnly a b len first cache cache
lays_still a b len first cache same = record { others = told_same a b _ same (λ m held q other. refl); kept = λ p n k. inl k }

pub lays_put : (a b : Option Holding) (len size at : ℕ) (old new : Caching) → size ≡ len → Told a b (OthersStay old.name) → AddsOnly at size (pages_of old) (pages_of new) → LaysOnly a b len at old new
lays_put a b len size at old new is others adds = record {
  others = others;
  kept = λ p n k. elim (adds p n k) [
    | inl was ↦ inl was
    | inr one ↦ inr (one.1 ∙ is, let e = one.0 in omega (arith, e))
  ];
}

pub lays_then : (a b c : Option Holding) (len first at : ℕ) (old mid new : Caching) → first ≤ at → mid.name ≡ old.name → LaysOnly a b len first old mid → LaysOnly b c len at mid new → LaysOnly a c len first old new
lays_then a b c len first at old mid new le name x y = record {
  others = told_then a b c _ _ _ x.others y.others (λ m k n one two q other. two q (λ e. other (e ∙ name)) ∙ one q other);
  kept = λ p n k. elim (y.kept p n k) [
    | inl was ↦ x.kept p n was
    | inr one ↦ inr (one.0, let e = one.1 in omega (arith, le, e))
  ];
}

pub counts_both : (xs ys : List Node) (a b c : Caching) → CountsPuts (length xs) a b → CountsPuts (length ys) b c → CountsPuts (length (xs ++ ys)) a c
counts_both xs ys a b c x y = subst (λ (n : ℕ). CountsPuts n a c) (sym (length-append xs ys)) (rose_on (length xs) (length ys) a.counters.write_requests b.counters.write_requests c.counters.write_requests x y)
