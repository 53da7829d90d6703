-- Tables of a list that are loaded one after the other.
use Rattle.std.proofs.Common.{◌≡◌, ℕ, ◌+◌, ◌<◌, List, [], ◌∷◌, ◌++◌, length, take, drop, map, get_or, refl, ap, sym, ◌∙◌, add-one}
use Rattle.std.specs.List.{AllByRecursion}
use Rattle.std.proofs.Math.Seq.{drop-cons}
use Rattle.std.proofs.lemmas.List.{take_more, map-append, take-append-drop}
use Rattle.myi_base.specs.Holding.{Holding}
use Rattle.myi_table.specs.Table.{OpenTable, defs_in}
use Rattle.myi_table.specs.Loading.{IsLoaded}
use Rattle.myi_keycache.specs.declared.setup.CacheSetup.{CacheSetup}
use Rattle.myi_keycache.specs.declared.setup.Counters.{Counters}
use Rattle.myi_table.specs.Counting.{sum_of, no_counts}
use Rattle.myi_merge.specs.Merged.{IsLike, IsLikeFirst, AreAlike, counted_by}
use Rattle.myi_merge.specs.declared.fault.MergeFault.{MergeFault}
use Rattle.myi_merge.specs.declared.fault.MergeFault.TheVariants as fault
use Rattle.myi_merge.specs.Loading.{EachLoaded, IsFresh, StopsAtMember, StopsAmong, MayDiffer, TellsOfOne, TellsAmong}

pub all_push : {A : Type 0} (P : A → Type 0) (xs : List A) (x : A) → AllByRecursion P xs → P x → AllByRecursion P (xs ++ x ∷ [])
all_push P [] x all p = (p, tt)
all_push P (y ∷ ys) x all p = (all.0, all_push P ys x all.1 p)

-- one more table that is like the first
pub alike_push : (ts : List OpenTable) (t : OpenTable) → AreAlike ts → IsLikeFirst ts t → AreAlike (ts ++ t ∷ [])
alike_push [] t all like = tt
alike_push (first ∷ others) t all like = all_push (λ (u : OpenTable). IsLike (defs_in first) (defs_in u)) others t all like

-- one more table that is loaded
pub each_push : (names : List (List ℕ)) (ts : List OpenTable) (name : List ℕ) (t : OpenTable) (m : Holding) → EachLoaded names ts m → IsLoaded name t m → EachLoaded (names ++ name ∷ []) (ts ++ t ∷ []) m
each_push [] [] name t m each one = (one, tt)
each_push [] (u ∷ us) name t m each one = elim each [ ]
each_push (q ∷ qs) [] name t m each one = elim each [ ]
each_push (q ∷ qs) (u ∷ us) name t m each one = (each.0, each_push qs us name t m each.1 one)

-- the names up to one of them
pub names_more : {A : Type 0} (f : A → List ℕ) (xs : List A) (i : ℕ) (d : A) → i < length xs → map f (take (i + 1) xs) ≡ map f (take i xs) ++ f (get_or xs i d) ∷ []
names_more f xs i d lt = ap (map f) (take_more xs i d lt) ∙ map-append f (take i xs) (get_or xs i d ∷ [])

-- and all names around it
pub names_around : {A : Type 0} (f : A → List ℕ) (xs : List A) (i : ℕ) (d : A) → i < length xs → map f xs ≡ map f (take i xs) ++ f (get_or xs i d) ∷ map f (drop (i + 1) xs)
names_around f xs i d lt =
    ap (map f) (sym (take-append-drop i xs)) ∙ map-append f (take i xs) (drop i xs) ∙ ap (λ (q : List (List ℕ)). map f (take i xs) ++ q) (rw (add-one, drop-cons xs i d lt) refl)

-- ---- refusals

-- a table is refused behind tables that are there and alike
pub stops_member : (names before after : List (List ℕ)) (name : List ℕ) (ts : List OpenTable) (f : MergeFault) (m : Holding) → names ≡ before ++ name ∷ after → EachLoaded before ts m → AreAlike ts → StopsAtMember name f m → StopsAmong names f m
stops_member names before after name ts (fault.Absent file) m parts loaded alike stopped = record { before = before; name = name; after = after; parts = parts; tables = ts; loaded = loaded; alike = alike; stopped = stopped }
stops_member names before after name ts fault.List m parts loaded alike stopped = elim stopped [ ]
stops_member names before after name ts (fault.Differs table) m parts loaded alike stopped = elim stopped [ ]
stops_member names before after name ts (fault.Def table def) m parts loaded alike stopped = record { before = before; name = name; after = after; parts = parts; tables = ts; loaded = loaded; alike = alike; stopped = stopped }
stops_member names before after name ts (fault.Foreign table) m parts loaded alike stopped = record { before = before; name = name; after = after; parts = parts; tables = ts; loaded = loaded; alike = alike; stopped = stopped }
stops_member names before after name ts fault.File m parts loaded alike stopped = tt
stops_member names before after name ts fault.Memory m parts loaded alike stopped = tt

-- ---- whatever files tell

-- no table is told of that may not differ
pub may_differ : (before : List (List ℕ)) (f : MergeFault) → MayDiffer [] f → MayDiffer before f
may_differ before (fault.Absent file) may = tt
may_differ before fault.List may = tt
may_differ before (fault.Differs table) may = absurd (may refl)
may_differ before (fault.Def table def) may = tt
may_differ before (fault.Foreign table) may = tt
may_differ before fault.File may = tt
may_differ before fault.Memory may = tt

pub tells_among : (names : List (List ℕ)) (f : MergeFault) → TellsOfOne names f → TellsAmong names f
tells_among names (fault.Absent file) one = one
tells_among names fault.List one = one
tells_among names (fault.Differs table) one = one
tells_among names (fault.Def table def) one = one
tells_among names (fault.Foreign table) one = one
tells_among names fault.File one = tt
tells_among names fault.Memory one = tt

-- where no table stands before it is like the first
pub like_none : (ts : List OpenTable) (t : OpenTable) → map (λ (u : OpenTable). u.name) ts ≡ [] → IsLikeFirst ts t
like_none [] t none = tt
like_none (u ∷ us) t none = absurd cc

-- nothing is counted in tables that are fresh
pub fresh_counted : (setup : CacheSetup) (ts : List OpenTable) → AllByRecursion (IsFresh setup) ts → counted_by ts ≡ no_counts
fresh_counted setup [] fresh = refl
fresh_counted setup (t ∷ ts) fresh =
    ap (λ (c : Counters). sum_of (sum_of c t.added) (counted_by ts)) fresh.0.counted ∙ ap (λ (c : Counters). sum_of (sum_of no_counts c) (counted_by ts)) fresh.0.added ∙ ap (λ (c : Counters). sum_of (sum_of no_counts no_counts) c) (fresh_counted setup ts fresh.1)
