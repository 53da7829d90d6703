-- The tables of a list, one by one, before and behind a call.
use Rattle.std.proofs.Common.{◌≡◌, ◌+◌, ◌-◌, ◌<◌, ◌≤◌, ℕ, zero, suc, List, [], ◌∷◌, ◌++◌, length, slice_get, Option, Some, None, refl, sym, ap, subst, ◌∙◌, arith, inl, inr}
use Rattle.std.specs.Prelude.{◌≢◌, ◌⊎◌, true, IfSome}
use Rattle.myi_pack.specs.Packed.{Values}
use Rattle.myi_pack.specs.Spelling.{fits}
use Rattle.std.proofs.lemmas.Option.{same_Some}
use Rattle.myi_base.specs.Holding.{Holding, Told}
use Rattle.myi_base.proofs.CallerLemmas.{told_more}
use Rattle.myi_defs.specs.declared.types.Defs.{Defs}
use Rattle.myi_defs.specs.Sound.{IsSound}
use Rattle.std.specs.List.{AllByRecursion}
use Rattle.myi_keycache.specs.declared.setup.Counters.{Counters}
use Rattle.myi_keycache.specs.Counts.{raised}
use Rattle.myi_search.specs.Counting.{GoesOn, CountsOn}
use Rattle.myi_mergelist.specs.declared.list.InsertMethod.{InsertMethod}
use Rattle.myi_mergelist.specs.declared.list.InsertMethod.TheVariants.{First, Last}
use Rattle.myi_table.specs.Table as table
use Rattle.myi_table.specs.Table.{OpenTable}
use Rattle.myi_table.specs.Counting.{sum_of}
use Rattle.myi_merge.specs.Merged.{OpenMerge, IsMerge, IsLike, IsSoundTable, OfEach, counted_by}
use Rattle.myi_merge.proofs.CallerLemmas.{fits_like, like_at}
use Rattle.myi_shell.specs.declared.target.Target.TheVariants.{Many}
use Rattle.myi_merge.specs.Merging.{KeepBut}
use Rattle.myi_merge.specs.Changing.{target, target_by, Keeps, KeepEach, ChangesTarget, OfTarget}
use Rattle.myi_shell.specs.Carrying as one
use Rattle.myi_shell.specs.Targets.{index_by, index_in, taking_by, defs_at, defs_in, AreNotBelow, IsUntouchedOne, TouchesAt}
use Rattle.myi_shell.proofs.TargetTouches.{each_itself, each_long, same_index}

-- ---- the table that takes the rows

inside_by : (m : Option InsertMethod) (n : ℕ) → 0 < n → index_by (target_by m n) < n
inside_by None n some = some
inside_by (Some First) n some = some
inside_by (Some Last) n some = omega (arith, some)

-- its number is one of the list's
pub index_inside : (g : OpenMerge) → IsMerge g → index_in g < length g.tables
index_inside g is = inside_by g.method (length g.tables) is.some

pub found_at : (ts : List OpenTable) (i : ℕ) → i < length ts → (t : OpenTable) × (slice_get ts i ≡ Some t)
found_at [] i lt = absurd (omega (arith, lt))
found_at (t ∷ ts) zero lt = (t, refl)
found_at (t ∷ ts) (suc i) lt = found_at ts i (omega (arith, lt))

pub all_get : (P : OpenTable → Type 0) (ts : List OpenTable) (i : ℕ) (t : OpenTable) → AllByRecursion P ts → slice_get ts i ≡ Some t → P t
all_get P [] i t all at = absurd cc
all_get P (u ∷ ts) zero t all at = subst P (same_Some u t at) all.0
all_get P (u ∷ ts) (suc i) t all at = all_get P ts i t all.1 at

pub list_sound : (g : OpenMerge) → IsMerge g → IsSound (defs_at (slice_get g.tables (index_in g)))
list_sound g is =
    let k = found_at g.tables (index_in g) (index_inside g is) in
    let sound : IsSoundTable k.0 = all_get IsSoundTable g.tables (index_in g) k.0 is.sound k.1 in
    subst (λ (o : Option OpenTable). IsSound (defs_at o)) (sym k.1) sound.sound

-- ---- one by one

-- what holds of the tables of each number holds of each
pub each_at : (P : OpenTable → OpenTable → Type 0) (ts us : List OpenTable) → length us ≡ length ts → ((i : ℕ) (t u : OpenTable) → slice_get ts i ≡ Some t → slice_get us i ≡ Some u → P t u) → OfEach ts us P
each_at P [] [] long h = tt
each_at P [] (u ∷ us) long h = absurd (omega (arith, long))
each_at P (t ∷ ts) [] long h = absurd (omega (arith, long))
each_at P (t ∷ ts) (u ∷ us) long h = (h 0 t u refl refl, each_at P ts us (omega (arith, long)) (λ i a b at there. h (suc i) a b at there))

pub at_each : (P : OpenTable → OpenTable → Type 0) (ts us : List OpenTable) (i : ℕ) (t u : OpenTable) → OfEach ts us P → slice_get ts i ≡ Some t → slice_get us i ≡ Some u → P t u
at_each P [] us i t u h at there = absurd cc
at_each P (a ∷ ts) [] i t u h at there = absurd h
at_each P (a ∷ ts) (b ∷ us) zero t u h at there = subst (λ (z : OpenTable). P z u) (same_Some a t at) (subst (λ (z : OpenTable). P a z) (same_Some b u there) h.0)
at_each P (a ∷ ts) (b ∷ us) (suc i) t u h at there = at_each P ts us i t u h.1 at there

same_or : (j i : ℕ) → (j ≡ i) ⊎ (j ≡ i → ⊥)
same_or zero zero = inl refl
same_or zero (suc i) = inr (λ e. omega (arith, e))
same_or (suc j) zero = inr (λ e. omega (arith, e))
same_or (suc j) (suc i) = next (same_or j i)
  where
    next : (j ≡ i) ⊎ (j ≡ i → ⊥) → (suc j ≡ suc i) ⊎ (suc j ≡ suc i → ⊥)
    next (inl e) = inl (ap suc e)
    next (inr e) = inr (λ q. e (omega (arith, q)))

-- lists that have the same at each place
pub same_list : (ts us : List OpenTable) → length us ≡ length ts → ((j : ℕ) → slice_get us j ≡ slice_get ts j) → us ≡ ts
same_list [] [] long h = refl
same_list [] (u ∷ us) long h = absurd (omega (arith, long))
same_list (t ∷ ts) [] long h = absurd (omega (arith, long))
same_list (t ∷ ts) (u ∷ us) long h = ap (λ (z : OpenTable). z ∷ us) (same_Some u t (h 0)) ∙ ap (λ (zs : List OpenTable). t ∷ zs) (same_list ts us (omega (arith, long)) (λ j. h (suc j)))

-- of a list of which one table changed
pub target_each : (g h : OpenMerge) (P : OpenTable → OpenTable → Type 0) → ((t : OpenTable) → P t t) → ChangesTarget g h → OfTarget g h P → OfEach g.tables h.tables P
target_each g h P itself changes of = each_at P g.tables h.tables changes.many (λ i t u at there. at_one i t u at there (target g) refl)
  where
    same : (i : ℕ) (t u : OpenTable) → slice_get g.tables i ≡ Some t → slice_get h.tables i ≡ Some u → target g ≢ Some i → P t u
    same i t u at there off = subst (λ (z : OpenTable). P t z) (same_Some t u (sym at ∙ sym (changes.others i off) ∙ there)) (itself t)

    at_one : (i : ℕ) (t u : OpenTable) → slice_get g.tables i ≡ Some t → slice_get h.tables i ≡ Some u → (o : Option ℕ) → target g ≡ o → P t u
    at_one i t u at there None is = same i t u at there (λ e. let bad : ◌≡◌ {A = Option ℕ} None (Some i) = sym is ∙ e in cc)
    at_one i t u at there (Some j) is = by_place (same_or j i)
      where
        by_place : (j ≡ i) ⊎ (j ≡ i → ⊥) → P t u
        by_place (inl e) = of i t u (is ∙ ap Some e) at there
        by_place (inr e) = same i t u at there (λ q. e (same_Some j i (sym is ∙ q)))

-- ---- counters

raised_on : (a b c d : ℕ) → a ≤ c → b ≤ d → raised a b ≤ raised c d
raised_on a b c d first second = omega (arith, first, second)

sums_below : (a b c d : Counters) → AreNotBelow a c → AreNotBelow b d → AreNotBelow (sum_of a b) (sum_of c d)
sums_below a b c d first second = record {
  read_requests = raised_on _ _ _ _ second.read_requests first.read_requests;
  reads = raised_on _ _ _ _ second.reads first.reads;
  write_requests = raised_on _ _ _ _ second.write_requests first.write_requests;
  writes = raised_on _ _ _ _ second.writes first.writes;
}

-- what a table counted, and what was added
abbrev pub counted_one : OpenTable → Counters
counted_one t = sum_of t.rows.trees.cache.counters t.added

pub lists_below : (ts us : List OpenTable) → OfEach ts us (λ t u. AreNotBelow (counted_one t) (counted_one u)) → AreNotBelow (counted_by ts) (counted_by us)
lists_below [] [] h = record { read_requests = omega arith; reads = omega arith; write_requests = omega arith; writes = omega arith }
lists_below [] (u ∷ us) h = absurd h
lists_below (t ∷ ts) [] h = absurd h
lists_below (t ∷ ts) (u ∷ us) h = sums_below (counted_one t) (counted_by ts) (counted_one u) (counted_by us) h.0 (lists_below ts us h.1)

sum_on : (a b x y : ℕ) → y ≡ x → GoesOn a b → raised x a ≤ raised y b
sum_on a b x y same on = omega (arith, on, same)

pub one_below : (t u : OpenTable) → table.IsSame t u → CountsOn t.rows.trees.cache u.rows.trees.cache → AreNotBelow (counted_one t) (counted_one u)
one_below t u same on = record {
  read_requests = sum_on _ _ _ _ (ap (λ (k : Counters). k.read_requests) same.added) on.read_requests;
  reads = sum_on _ _ _ _ (ap (λ (k : Counters). k.reads) same.added) on.reads;
  write_requests = sum_on _ _ _ _ (ap (λ (k : Counters). k.write_requests) same.added) on.write_requests;
  writes = sum_on _ _ _ _ (ap (λ (k : Counters). k.writes) same.added) on.writes;
}

-- ---- definitions, and which table takes the rows

defs_get : (ts us : List OpenTable) (i : ℕ) → OfEach ts us table.IsSame → defs_at (slice_get us i) ≡ defs_at (slice_get ts i)
defs_get [] [] i h = refl
defs_get [] (u ∷ us) i h = absurd h
defs_get (t ∷ ts) [] i h = absurd h
defs_get (t ∷ ts) (u ∷ us) zero h = h.0.defs
defs_get (t ∷ ts) (u ∷ us) (suc i) h = defs_get ts us i h.1

pub list_defs : (g h : OpenMerge) → h.method ≡ g.method → OfEach g.tables h.tables table.IsSame → defs_at (slice_get h.tables (index_in h)) ≡ defs_at (slice_get g.tables (index_in g))
list_defs g h method each = ap (λ i. defs_at (slice_get h.tables i)) (same_index g h method (each_long g.tables h.tables table.IsSame each)) ∙ defs_get g.tables h.tables (index_in g) each

pub list_takes : (g h : OpenMerge) → h.method ≡ g.method → length h.tables ≡ length g.tables → taking_by (target h) ≡ taking_by (target g)
list_takes g h method long = ap (λ (m : Option InsertMethod). taking_by (target_by m (length h.tables))) method ∙ ap (λ (n : ℕ). taking_by (target_by g.method n)) long

-- ---- files

-- a table whose data file holds what it held
pub itself_untouched : (told next : Option Holding) (t : OpenTable) → Told told next (table.KeepsRows t.name) → IsUntouchedOne told next t t
itself_untouched told next t rows = record { name = refl; untouched = record { rows = rows; mark = refl } }

pub keeps_each : (told next : Option Holding) (ts : List OpenTable) → Told told next (KeepEach ts) → OfEach ts ts (IsUntouchedOne told next)
keeps_each told next [] keep = tt
keeps_each told next (t ∷ ts) keep = (
  itself_untouched told next t (told_more told next (KeepEach (t ∷ ts)) (table.KeepsRows t.name) keep (λ m n held k. k.0.rows)),
  keeps_each told next ts (told_more told next (KeepEach (t ∷ ts)) (KeepEach ts) keep (λ m n held k. k.1)),
)

-- all but the table of that number are as they were
pub touches_one : (told next : Option Holding) (k i : ℕ) (ts us : List OpenTable) (t u : OpenTable) → Told told next (KeepBut i ts) → length us ≡ length ts → slice_get ts i ≡ Some t → slice_get us i ≡ Some u
    → ((j : ℕ) → (j ≡ i → ⊥) → slice_get us j ≡ slice_get ts j) → one.IsTouchedBy told next t u 0 k → TouchesAt told next 0 k i ts us
touches_one told next k i [] us t u keep long at there others touched = absurd cc
touches_one told next k i (a ∷ ts) [] t u keep long at there others touched = absurd (omega (arith, long))
touches_one told next k zero (a ∷ ts) (b ∷ us) t u keep long at there others touched = (
  subst (λ (z : OpenTable). one.IsTouchedBy told next z b 0 k) (sym (same_Some a t at)) (subst (λ (z : OpenTable). one.IsTouchedBy told next t z 0 k) (sym (same_Some b u there)) touched),
  subst (λ (zs : List OpenTable). OfEach ts zs (IsUntouchedOne told next)) (sym (same_list ts us (omega (arith, long)) (λ j. others (suc j) (λ e. omega (arith, e))))) (keeps_each told next ts keep),
)
touches_one told next k (suc i) (a ∷ ts) (b ∷ us) t u keep long at there others touched = (
  subst (λ (z : OpenTable). IsUntouchedOne told next a z) (sym (same_Some b a (others 0 (λ e. omega (arith, e))))) (itself_untouched told next a (told_more told next (KeepBut (suc i) (a ∷ ts)) (table.KeepsRows a.name) keep (λ m n held q. q.0.rows))),
  touches_one told next k i ts us t u (told_more told next (KeepBut (suc i) (a ∷ ts)) (KeepBut i ts) keep (λ m n held q. q.1)) (omega (arith, long)) at there (λ j off. others (suc j) (λ e. off (omega (arith, e)))) touched,
)

-- ---- the first table, and the one that takes the rows, are alike

pub record AreLike (g : OpenMerge) : Type 0 where
  pub first : OpenTable
  pub taker : OpenTable
  pub is_first : slice_get g.tables 0 ≡ Some first
  pub is_taker : slice_get g.tables (index_in g) ≡ Some taker
  pub like : IsLike (table.defs_in first) (table.defs_in taker)

pub are_like : (g : OpenMerge) → IsMerge g → AreLike g
are_like g is =
    let f = found_at g.tables 0 is.some in
    let t = found_at g.tables (index_in g) (index_inside g is) in
    record { first = f.0; taker = t.0; is_first = f.1; is_taker = t.1; like = like_at g.tables f.0 (index_in g) t.0 is.alike f.1 t.1 }

turned : (d e : Defs) → IsLike d e → IsLike e d
turned d e like = record { format = sym like.format; fields = sym like.fields; keys = sym like.keys }

pub fits_first : (g : OpenMerge) (row : Values) → IsMerge g → fits (defs_in (Many g)) row ≡ true → IfSome (slice_get g.tables 0) (λ (t : OpenTable). fits (table.defs_in t) row ≡ true)
fits_first g row is fit =
    let a = are_like g is in
    let of_taker : fits (table.defs_in a.taker) row ≡ true = subst (λ (o : Option OpenTable). fits (defs_at o) row ≡ true) a.is_taker fit in
    subst (λ (o : Option OpenTable). IfSome o (λ (t : OpenTable). fits (table.defs_in t) row ≡ true)) (sym a.is_first) (fits_like (table.defs_in a.taker) (table.defs_in a.first) row (turned (table.defs_in a.first) (table.defs_in a.taker) a.like) of_taker)

pub key_first : (g : OpenMerge) (key : ℕ) → IsMerge g → key < length (defs_in (Many g)).keys → IfSome (slice_get g.tables 0) (λ (t : OpenTable). key < length (table.defs_in t).keys)
key_first g key is lt =
    let a = are_like g is in
    let of_taker : key < length (table.defs_in a.taker).keys = subst (λ (o : Option OpenTable). key < length (defs_at o).keys) a.is_taker lt in
    let same : length (table.defs_in a.first).keys ≡ length (table.defs_in a.taker).keys = ap length a.like.keys in
    subst (λ (o : Option OpenTable). IfSome o (λ (t : OpenTable). key < length (table.defs_in t).keys)) (sym a.is_first) (omega (arith, of_taker, same))
