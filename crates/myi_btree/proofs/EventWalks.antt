-- Where a walk meets no bad place its events are the pairs and pages of the walk.
use Rattle.std.proofs.Common.{◌≡◌, ℕ, ◌||◌, Bool, true, false, leb, Some, None, List, [], ◌∷◌, ◌++◌, map, refl, sym, ap, subst, ◌∙◌}
use Rattle.std.specs.List.{AllByRecursion}
use Rattle.std.proofs.lemmas.Bool.{and_from, and_parts}
use Rattle.myi_base.specs.Ranges.{Range, are_apart, is_apart, AreDisjoint}
use Rattle.myi_btree.specs.Walk.{Places, Walked, AreNodes}
use Rattle.myi_btree.specs.Visit.{page_range, is_new, AreNew, HasWalk}
use Rattle.myi_btree.specs.Events.{Event, events, Meets, first_bad, pages_in, walked_in}
use Rattle.myi_btree.proofs.EventLaws.{walk_shows, shown_walk, passes, passed, walk_depth, Shows}

pub apart_both : (r s : Range) → are_apart r s ≡ true → are_apart s r ≡ true
apart_both r s e = swap (leb r.1 s.0) (leb s.1 r.0) e
  where
    swap : (a b : Bool) → (a || b) ≡ true → (b || a) ≡ true
    swap true true e = refl
    swap true false e = refl
    swap false true e = refl
    swap false false e = e

apart_parts : (block : ℕ) (r : Range) (met : List ℕ) (p : ℕ) → is_apart r (map (page_range block) (met ++ p ∷ [])) ≡ true → (is_apart r (map (page_range block) met) ≡ true) × (are_apart r (page_range block p) ≡ true)
apart_parts block r [] p e = let k = and_parts (are_apart r (page_range block p)) true e in (refl, k.0)
apart_parts block r (q ∷ qs) p e =
    let k = and_parts (are_apart r (page_range block q)) (is_apart r (map (page_range block) (qs ++ p ∷ []))) e in
    let rest = apart_parts block r qs p k.1 in
    (and_from (are_apart r (page_range block q)) (is_apart r (map (page_range block) qs)) k.0 rest.0, rest.1)

pub apart_from : (block : ℕ) (r : Range) (met : List ℕ) (p : ℕ) → is_apart r (map (page_range block) met) ≡ true → are_apart r (page_range block p) ≡ true → is_apart r (map (page_range block) (met ++ p ∷ [])) ≡ true
apart_from block r [] p e f = and_from (are_apart r (page_range block p)) true f refl
apart_from block r (q ∷ qs) p e f =
    let k = and_parts (are_apart r (page_range block q)) (is_apart r (map (page_range block) qs)) e in
    and_from (are_apart r (page_range block q)) (is_apart r (map (page_range block) (qs ++ p ∷ []))) k.0 (apart_from block r qs p k.1 f)

abbrev AllNew : ℕ → List ℕ → List ℕ → Type 0
AllNew block met places = AllByRecursion (λ p. is_new block p met ≡ true) places

-- pages that are new behind those that were met and one more
fewer_met : (block : ℕ) (met : List ℕ) (p : ℕ) (ps : List ℕ) → AllNew block (met ++ p ∷ []) ps → AllNew block met ps × (is_apart (page_range block p) (map (page_range block) ps) ≡ true)
fewer_met block met p [] h = (tt, refl)
fewer_met block met p (q ∷ qs) h =
    let k = apart_parts block (page_range block q) met p h.0 in
    let rest = fewer_met block met p qs h.1 in
    ((k.0, rest.0), and_from (are_apart (page_range block p) (page_range block q)) (is_apart (page_range block p) (map (page_range block) qs)) (apart_both (page_range block q) (page_range block p) k.1) rest.1)

more_met : (block : ℕ) (met : List ℕ) (p : ℕ) (ps : List ℕ) → AllNew block met ps → is_apart (page_range block p) (map (page_range block) ps) ≡ true → AllNew block (met ++ p ∷ []) ps
more_met block met p [] h e = tt
more_met block met p (q ∷ qs) h e =
    let k = and_parts (are_apart (page_range block p) (page_range block q)) (is_apart (page_range block p) (map (page_range block) qs)) e in
    (apart_from block (page_range block q) met p h.0 (apart_both (page_range block p) (page_range block q) k.0), more_met block met p qs h.1 k.1)

new_disjoint : (block : ℕ) (met ps : List ℕ) → AreNew block met ps → AllNew block met ps × AreDisjoint (map (page_range block) ps)
new_disjoint block met [] h = (tt, tt)
new_disjoint block met (p ∷ ps) h =
    let k = new_disjoint block (met ++ p ∷ []) ps h.1 in
    let f = fewer_met block met p ps k.0 in
    ((h.0, f.0), (f.1, k.1))

disjoint_new : (block : ℕ) (met ps : List ℕ) → AllNew block met ps → AreDisjoint (map (page_range block) ps) → AreNew block met ps
disjoint_new block met [] h d = tt
disjoint_new block met (p ∷ ps) h d = (h.0, disjoint_new block (met ++ p ∷ []) ps (more_met block met p ps h.1 d.0) d.1)

none_met : (block : ℕ) (ps : List ℕ) → AllNew block [] ps
none_met block [] = tt
none_met block (p ∷ ps) = (refl, none_met block ps)

shown_is : (es : List Event) (w : Walked) → Shows es w.pairs w.pages → w ≡ walked_in es
shown_is es w s = rw (s.pairs, s.pages) refl

pub meets_walk : (block : ℕ) (read : Places) (place : ℕ) (es : List Event) → AreNodes read → Meets block read place es → first_bad es ≡ None → HasWalk block read place (walked_in es)
meets_walk block read place es nodes m none =
    let p = passed block [] (events read m.height place) (subst (λ (t : List Event). first_bad t ≡ None) m.is none) in
    let w = shown_walk read m.height place p.none in
    let s = walk_shows read nodes m.height place w.0 w.1 in
    let same : es ≡ events read m.height place = m.is ∙ p.same in
    let is : w.0 ≡ walked_in es = shown_is (events read m.height place) w.0 s ∙ ap (λ (t : List Event). walked_in t) (sym same) in
    record { height = m.height; walk = w.1 ∙ ap (λ (t : Walked). Some t) is; disjoint = subst (λ (t : List Event). AreDisjoint (map (page_range block) (pages_in t))) (sym same) (new_disjoint block [] (pages_in (events read m.height place)) p.new).1 }

-- the events of a walk
pub record MeetsWalk (block : ℕ) (read : Places) (place : ℕ) (w : Walked) : Type 0 where
  pub events : List Event
  pub meets : Meets block read place events
  pub none : first_bad events ≡ None
  pub is : walked_in events ≡ w

pub walk_meets : (block : ℕ) (read : Places) (place : ℕ) (w : Walked) → AreNodes read → HasWalk block read place w → MeetsWalk block read place w
walk_meets block read place w nodes h =
    let s = walk_shows read nodes h.height place w h.walk in
    let new : AreNew block [] (pages_in (events read h.height place)) = subst (λ (t : List ℕ). AreNew block [] t) (sym s.pages) (disjoint_new block [] w.pages (none_met block w.pages) h.disjoint) in
    record {
      events = events read h.height place;
      meets = record { height = h.height; depth = walk_depth block read h.height place [] w h.walk; is = sym (passes block [] (events read h.height place) s.none new) };
      none = s.none;
      is = sym (shown_is (events read h.height place) w s);
    }
