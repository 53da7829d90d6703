-- How a change comes to damage: the path that it goes down, page by page.
use Rattle.std.proofs.Common.{◌≡◌, ℕ, zero, suc, ◌<◌, ◌≤◌, ◌||◌, Bool, true, false, Option, Some, None, List, [], ◌∷◌, ◌++◌, length, get_or, take, drop, refl, sym, ap, subst, ◌∙◌, inl, inr, arith}
use Rattle.std.specs.List.{AllByRecursion}
use Rattle.std.specs.Ordering.{is_eq}
use Rattle.std.proofs.lemmas.Option.{same_Some}
use Rattle.myi_base.specs.Holding.{Holding, Told, bytes_of}
use Rattle.myi_keycache.specs.Kept.{ChangesNone, AllWritten}
use Rattle.myi_keycache.specs.Lent.{bytes_at}
use Rattle.myi_keycache.specs.Caching.{pages_of, Caching, lends, CanGet, Stays}
use Rattle.myi_keycache.proofs.CallerLemmas.{lends_file}
use Rattle.myi_keylist.specs.declared.pair.Pair.{Pair}
use Rattle.myi_keylist.specs.PairOrder.{pair_cmp}
use Rattle.myi_btree.specs.declared.place.Place.{Place}
use Rattle.myi_btree.specs.Walk.{Places, node_with}
use Rattle.myi_btree.specs.CachedTrees.{node_lent}
use Rattle.myi_search.specs.Path.{next_child, HasNext, Leads}
use Rattle.myi_insertion.specs.Strips.{Branches}
use Rattle.myi_insertion.specs.Ordered.{BeginsBehind, begins_with}
use Rattle.myi_insertion.specs.Removal.{has_pair}
use Rattle.myi_insertion.specs.Damage.{IsInFile, ShowsSame, goes_behind, goes_last, LacksPage, AreNeighbours, IsNearPath, IsNearPair, IsMissing, IsDamage}

-- ---- a page is asked for

pub can_ask : (cache : Caching) (m : Holding) (at len : ℕ) → IsInFile cache m → CanGet cache m at len
can_ask cache m at len file = record { current = file.current; apart = λ p n u. absurd (file.written p n u) }

same_bytes : (place : Place) (one two : Caching) (m n : Holding) (at : ℕ) → lends one m at place.block_length ≡ lends two n at place.block_length → node_lent place one m at ≡ node_lent place two n at
unfolding node_lent
same_bytes place one two m n at e = rw e refl

pub shows_told : (place : Place) (told next : Option Holding) (old new : Caching) (at : ℕ) → (AllWritten (pages_of old) → next ≡ told) → Told told next (λ m n. CanGet old m at place.block_length → Stays old new m n)
    → ChangesNone (pages_of old) (pages_of new) → new.name ≡ old.name → Told told next (λ m n. IsInFile old m → ShowsSame place old m new n)
shows_told place told next old new at clean stays none name = record {
  told = λ m held. let t = stays.told m held in (t.0, t.1, λ file. shows m t.0 file (t.2 (can_ask old m at place.block_length file)) (same_Some t.0 m (sym t.1 ∙ clean file.written ∙ held)));
  untold = stays.untold;
}
  where
    shows : (m n : Holding) → IsInFile old m → Stays old new m n → n ≡ m → ShowsSame place old m new n
    shows m n file kept same =
        let written : AllWritten (pages_of new) = λ p k u. file.written p k (none p k u) in
        record {
          file = record { current = kept.current; written = written };
          shown = λ p. same_bytes place new old n m p
              (lends_file new n p place.block_length written kept.current ∙ ap (λ (q : List ℕ). bytes_at (bytes_of q n) p place.block_length) name ∙ ap (λ (q : Holding). bytes_at (bytes_of old.name q) p place.block_length) same
              ∙ sym (lends_file old m p place.block_length file.written file.current));
        }

-- ---- the child that is next

-- the first of some pairs is not passed by
abbrev pub Halts : (Pair → Bool) → List Pair → Type 0
Halts test [] = Unit {0}
Halts test (q ∷ qs) = test q ≡ false

pub halts_behind : (p : Pair) (qs : List Pair) → BeginsBehind p qs → Halts (goes_behind p) qs
halts_behind p [] h = tt
halts_behind p (q ∷ qs) h = h

pub goes_by_all : (ps : List Pair) → AllByRecursion (λ q. goes_last q ≡ true) ps
goes_by_all [] = tt
goes_by_all (p ∷ ps) = (refl, goes_by_all ps)

pub halts_behind_all : (ps : List Pair) (i : ℕ) → length ps ≤ i → Halts goes_last (drop i ps)
halts_behind_all [] zero le = tt
halts_behind_all [] (suc i) le = tt
halts_behind_all (p ∷ ps) zero le = absurd (omega (arith, le))
halts_behind_all (p ∷ ps) (suc i) le = halts_behind_all ps i (omega (arith, le))

next_at : (test : Pair → Bool) (ps : List Pair) (cs : List ℕ) (i : ℕ) → length cs ≡ suc (length ps) → i ≤ length ps → AllByRecursion (λ q. test q ≡ true) (take i ps) → Halts test (drop i ps) → next_child test ps cs ≡ Some (get_or cs i 0)
next_at test ps [] i count le by halts = absurd (omega (arith, count))
next_at test [] (c ∷ cs) zero count le by halts = refl
next_at test [] (c ∷ cs) (suc i) count le by halts = absurd (omega (arith, le))
next_at test (p ∷ ps) (c ∷ cs) zero count le by halts = rw halts refl
next_at test (p ∷ ps) (c ∷ cs) (suc i) count le by halts = rw by.0 (next_at test ps cs i (omega (arith, count)) (omega (arith, le)) by.1 halts)

pub branching : (ps : List Pair) (cs : List ℕ) → Branches ps cs → 0 < length cs → length cs ≡ suc (length ps)
branching ps cs (inl none) some = absurd (omega (arith, some, ap length none))
branching ps cs (inr k) some = k

pub goes_into : (read : Places) (test : Pair → Bool) (at i child : ℕ) (ps : List Pair) (cs : List ℕ) → read at ≡ Some (node_with ps cs) → Branches ps cs → 0 < length cs → i ≤ length ps → AllByRecursion (λ q. test q ≡ true) (take i ps) → Halts test (drop i ps)
    → child ≡ get_or cs i 0 → HasNext read test at (Some child)
goes_into read test at i child ps cs stands br some le by halts is = record { node = node_with ps cs; stands = stands; next = next_at test ps cs i (branching ps cs br some) le by halts ∙ ap Some (sym is) }

-- ---- one page further up

leads_same : (one two : Places) (test : Pair → Bool) (from : ℕ) (path : List ℕ) (at : ℕ) → ((p : ℕ) → one p ≡ two p) → Leads one test from path at → Leads two test from path at
leads_same one two test from [] at same h = h
leads_same one two test from (p ∷ path) at same h =
    let next = h.2 in
    (h.0, h.1, record { node = next.node; stands = sym (same from) ∙ next.stands; next = next.next }, leads_same one two test h.1 path at same h.3)

leads_up : (one two : Places) (test : Pair → Bool) (at child : ℕ) (path : List ℕ) (end : ℕ) → ((p : ℕ) → one p ≡ two p) → HasNext two test at (Some child) → Leads one test child path end → Leads two test at (at ∷ path) end
leads_up one two test at child path end same next h = (refl, child, next, leads_same one two test child path end same h)

pub lacks_up : (one two : Places) (test : Pair → Bool) (at child q : ℕ) → ((p : ℕ) → one p ≡ two p) → HasNext two test at (Some child) → LacksPage one test child q → LacksPage two test at q
lacks_up one two test at child q same next h = (at ∷ h.0, leads_up one two test at child h.0 q same next h.1, sym (same q) ∙ h.2)

pub near_up : (one two : Places) (test : Pair → Bool) (at child q : ℕ) → ((p : ℕ) → one p ≡ two p) → HasNext two test at (Some child) → IsNearPath one test child q → IsNearPath two test at q
near_up one two test at child q same next (inl h) = inl (lacks_up one two test at child q same next h)
near_up one two test at child q same next (inr (path, page, node, c, leads, stands, into, beside)) = inr (at ∷ path, page, node, c, leads_up one two test at child path page same next leads, sym (same page) ∙ stands, into, beside)

near_same : (one two : Places) (test : Pair → Bool) (at q : ℕ) → ((p : ℕ) → one p ≡ two p) → IsNearPath one test at q → IsNearPath two test at q
near_same one two test at q same (inl (path, leads, none)) = inl (path, leads_same one two test at path q same leads, sym (same q) ∙ none)
near_same one two test at q same (inr (path, page, node, c, leads, stands, into, beside)) = inr (path, page, node, c, leads_same one two test at path page same leads, sym (same page) ∙ stands, into, beside)

pub pair_up : (one two : Places) (p : Pair) (at child q : ℕ) → ((r : ℕ) → one r ≡ two r) → HasNext two (goes_behind p) at (Some child) → IsNearPair one p child q → IsNearPair two p at q
pair_up one two p at child q same next (inl h) = inl (near_up one two (goes_behind p) at child q same next h)
pair_up one two p at child q same next (inr (c, (path, page, node, leads, stands, has, into), near)) =
    inr (c, (at ∷ path, page, node, leads_up one two (goes_behind p) at child path page same next leads, sym (same page) ∙ stands, has, into), near_same one two goes_last c q same near)

-- ---- the page itself

pub lacks_here : (read : Places) (test : Pair → Bool) (at q : ℕ) → q ≡ at → read at ≡ None → LacksPage read test at q
lacks_here read test at q e none = ([], e, ap read e ∙ none)

pub beside_here : (read : Places) (test : Pair → Bool) (at child q : ℕ) (ps : List Pair) (cs : List ℕ) → read at ≡ Some (node_with ps cs) → HasNext read test at (Some child) → AreNeighbours child q cs → IsNearPath read test at q
beside_here read test at child q ps cs stands next beside =
    let same = same_Some next.node (node_with ps cs) (sym next.stands ∙ stands) in
    inr ([], at, node_with ps cs, child, refl, stands, ap (λ (n : _). next_child test n.pairs n.children) (sym same) ∙ next.next, beside)

has_behind : (p : Pair) (i : ℕ) (ps : List Pair) → begins_with p (drop i ps) ≡ true → has_pair p ps ≡ true
has_behind p zero [] e = e
has_behind p (suc i) [] e = e
has_behind p zero (q ∷ ps) e = rw e refl
has_behind p (suc i) (q ∷ ps) e = by (is_eq (pair_cmp p q)) (has_behind p i ps e)
  where
    by : (b : Bool) → has_pair p ps ≡ true → (b || has_pair p ps) ≡ true
    by true h = refl
    by false h = h

pub found_here : (one two : Places) (p : Pair) (at i child q : ℕ) (ps : List Pair) (cs : List ℕ) → ((r : ℕ) → one r ≡ two r) → two at ≡ Some (node_with ps cs) → HasNext two (goes_behind p) at (Some child) → begins_with p (drop i ps) ≡ true → IsNearPath one goes_last child q → IsNearPair two p at q
found_here one two p at i child q ps cs same stands next found near =
    let is = same_Some next.node (node_with ps cs) (sym next.stands ∙ stands) in
    inr (child, ([], at, node_with ps cs, refl, stands, has_behind p i ps found, ap (λ (n : _). next_child (goes_behind p) n.pairs n.children) (sym is) ∙ next.next), near_same one two goes_last child q same near)

-- ---- neighbours

two_at : (k : ℕ) (cs : List ℕ) → suc k < length cs → cs ≡ take k cs ++ get_or cs k 0 ∷ get_or cs (suc k) 0 ∷ drop (suc (suc k)) cs
two_at k [] lt = absurd (omega (arith, lt))
two_at zero (c ∷ []) lt = absurd (omega (arith, lt))
two_at zero (c ∷ d ∷ cs) lt = refl
two_at (suc k) (c ∷ cs) lt = ap (λ (t : List ℕ). c ∷ t) (two_at k cs (omega (arith, lt)))

pub neighbours : (i other : ℕ) (ps : List Pair) (cs : List ℕ) → Branches ps cs → 0 < length cs → 0 < length ps → i ≤ length ps → (i ≡ 0 → other ≡ get_or cs 1 0) → ((k : ℕ) → i ≡ suc k → other ≡ get_or cs k 0) → AreNeighbours (get_or cs i 0) other cs
neighbours zero other ps cs br some more le first second =
    let e = two_at 0 cs (omega (arith, branching ps cs br some, more)) in
    ([], drop 2 cs, inl (e ∙ ap (λ (o : ℕ). get_or cs 0 0 ∷ o ∷ drop 2 cs) (sym (first refl))))
neighbours (suc k) other ps cs br some more le first second =
    let e = two_at k cs (omega (arith, branching ps cs br some, le)) in
    (take k cs, drop (suc (suc k)) cs, inr (e ∙ ap (λ (o : ℕ). take k cs ++ o ∷ get_or cs (suc k) 0 ∷ drop (suc (suc k)) cs) (sym (second k refl))))

-- ---- the root

pub missing_in : (read : Places) (p : Pair) (root q : ℕ) (place : Option ℕ) → place ≡ Some root → LacksPage read (goes_behind p) root q → IsMissing read p place q
missing_in read p root q place is h = rw is h

pub damage_in : (read : Places) (p : Pair) (root q : ℕ) (place : Option ℕ) → place ≡ Some root → IsNearPair read p root q → IsDamage read p place q
damage_in read p root q place is h = rw is h

pub beside_at : (i other q : ℕ) (cs : List ℕ) → q ≡ other → AreNeighbours (get_or cs i 0) other cs → AreNeighbours (get_or cs i 0) q cs
beside_at i other q cs e h = subst (λ (o : ℕ). AreNeighbours (get_or cs i 0) o cs) (sym e) h
