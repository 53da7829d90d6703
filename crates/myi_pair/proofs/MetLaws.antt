-- A tree has a walk apart from busy ranges exactly where its walk meets no bad place.
use Rattle.std.proofs.Common.{◌≡◌, ℕ, ◌<◌, Bool, true, false, cond, List, [], ◌∷◌, map, None, refl, sym, ap, subst, ◌∙◌}
use Rattle.myi_base.specs.Ranges.{Range, is_apart}
use Rattle.myi_btree.specs.Walk.{Places, Walked, AreNodes}
use Rattle.myi_btree.specs.Visit.{page_range, HasWalk}
use Rattle.myi_btree.specs.Events.{Event, page, pair, bad, first_bad, pages_in, walked_in}
use Rattle.myi_btree.specs.Used.{up_to_used}
use Rattle.myi_btree.specs.TreeEvents.{events_from, AreWithin}
use Rattle.myi_btree.proofs.CallerLemmas.{meets_once, meets_walk, walk_meets, events_met}
use Rattle.myi_pair.specs.Trees.{AreFree}

-- events that no busy range ends
pub record IsFree (block : ℕ) (busy : List Range) (es : List Event) : Type 0 where
  pub none : first_bad es ≡ None
  pub free : AreFree busy (map (page_range block) (pages_in es))
  pub same : up_to_used block busy es ≡ es

used_none : (block : ℕ) (busy : List Range) (es : List Event) → first_bad (up_to_used block busy es) ≡ None → IsFree block busy es
used_none block busy [] e = record { none = refl; free = tt; same = refl }
used_none block busy (page at ∷ es) e = by (is_apart (page_range block at) busy) refl e (used_none block busy es)
  where
    by : (b : Bool) → is_apart (page_range block at) busy ≡ b → first_bad (cond b (page at ∷ up_to_used block busy es) (bad at ∷ [])) ≡ None → (first_bad (up_to_used block busy es) ≡ None → IsFree block busy es) → IsFree block busy (page at ∷ es)
    by true is e ih =
        let k = ih e in
        record { none = k.none; free = (is, k.free); same = ap (λ (b : Bool). cond b (page at ∷ up_to_used block busy es) (bad at ∷ [])) is ∙ ap (λ (more : List Event). page at ∷ more) k.same }
    by false is e ih = absurd cc
used_none block busy (pair p at ∷ es) e = let k = used_none block busy es e in record { none = k.none; free = k.free; same = ap (λ (more : List Event). pair p at ∷ more) k.same }
used_none block busy (bad at ∷ es) e = absurd cc

none_used : (block : ℕ) (busy : List Range) (es : List Event) → first_bad es ≡ None → AreFree busy (map (page_range block) (pages_in es)) → up_to_used block busy es ≡ es
none_used block busy [] e free = refl
none_used block busy (page at ∷ es) e free =
    ap (λ (b : Bool). cond b (page at ∷ up_to_used block busy es) (bad at ∷ [])) free.0 ∙ ap (λ (more : List Event). page at ∷ more) (none_used block busy es e free.1)
none_used block busy (pair p at ∷ es) e free = ap (λ (more : List Event). pair p at ∷ more) (none_used block busy es e free)
none_used block busy (bad at ∷ es) e free = absurd cc

-- the walk of a tree, by what it meets where ranges are busy
pub record IsWalked (block : ℕ) (read : Places) (root : ℕ) (busy : List Range) (es : List Event) : Type 0 where
  pub has : HasWalk block read root (walked_in es)
  pub free : AreFree busy (map (page_range block) (pages_in es))

pub met_walk : (len block : ℕ) (read : Places) (root : ℕ) (busy : List Range) → 0 < block → AreWithin len block read → AreNodes read → first_bad (up_to_used block busy (events_from len block read root)) ≡ None
    → IsWalked block read root busy (up_to_used block busy (events_from len block read root))
met_walk len block read root busy some within nodes e =
    let k = used_none block busy (events_from len block read root) e in
    let walked : IsWalked block read root busy (events_from len block read root) = record { has = meets_walk block read root (events_from len block read root) nodes (events_met len block read root some within) k.none; free = k.free } in
    subst (IsWalked block read root busy) (sym k.same) walked

-- what is met is all of a walk
pub record MeetsAll (block : ℕ) (w : Walked) (es : List Event) : Type 0 where
  pub none : first_bad es ≡ None
  pub is : walked_in es ≡ w

pub walk_met : (len block : ℕ) (read : Places) (root : ℕ) (busy : List Range) (w : Walked) → 0 < block → AreWithin len block read → AreNodes read → HasWalk block read root w → AreFree busy (map (page_range block) w.pages)
    → MeetsAll block w (up_to_used block busy (events_from len block read root))
walk_met len block read root busy w some within nodes has free =
    let m = walk_meets block read root w nodes has in
    let same : m.events ≡ events_from len block read root = meets_once block read root m.events (events_from len block read root) m.meets (events_met len block read root some within) in
    let pages : pages_in m.events ≡ w.pages = ap (λ (v : Walked). v.pages) m.is in
    let passes : up_to_used block busy m.events ≡ m.events = none_used block busy m.events m.none (subst (λ (ps : List ℕ). AreFree busy (map (page_range block) ps)) (sym pages) free) in
    let all : MeetsAll block w (up_to_used block busy m.events) = subst (MeetsAll block w) (sym passes) (record { none = m.none; is = m.is }) in
    subst (λ (es : List Event). MeetsAll block w (up_to_used block busy es)) same all
