-- What a cut leaves of a page: each of the two parts uses at least half of it, less two of the longest entries.
use Rattle.std.proofs.Common.{◌≡◌, ◌⊎◌, ℕ, zero, suc, ◌+◌, ◌*◌, ◌-◌, ◌/◌, ◌<◌, ◌≤◌, min, Bool, true, false, cond, List, [], ◌∷◌, ◌++◌, length, take, drop, refl, sym, ap, subst, ◌∙◌, append_assoc, arith, inl, inr}
use Rattle.std.specs.List.{AllByRecursion}
use Rattle.std.proofs.lemmas.Bool.{cases_lt}
use Rattle.std.proofs.lemmas.List.{map-append, take_all, take-append-drop}
use Rattle.myi_keypage.specs.declared.entry.Entry.{Entry}
use Rattle.myi_keypage.specs.Page.{entry_with, shared, entry_bytes}
use Rattle.myi_keypage.specs.Fitting.{entries_length, used_length}
use Rattle.myi_keylist.specs.declared.pair.Pair.{Pair}
use Rattle.myi_btree.specs.declared.place.Place.{Place}
use Rattle.myi_btree.specs.Nodes.{entry_of, entries_of}
use Rattle.myi_btree.specs.Sizes.{IsPlaced}
use Rattle.myi_insertion.specs.Written.{IsWellFilled}
use Rattle.myi_insertion.specs.Filled.{TakeAtMost}
use Rattle.myi_insertion.specs.Halves.{UseHalf}
use Rattle.myi_insertion.proofs.CutLaws.{Fit, beyond}
use Rattle.myi_insertion.proofs.WriteLaws.{entries-take, entries-drop, length-entries}

-- how long an entry is at most, and how much longer behind another key than at the front of a page
abbrev pub AreShort : Type 0
AreShort = (rec_ref : ℕ) (before : List ℕ) (e : Entry) → length (entry_bytes rec_ref before e) ≤ length e.key + 6 + rec_ref

abbrev pub GrowLittle : Type 0
GrowLittle = (rec_ref : ℕ) (before : List ℕ) (e z : Entry) → shared before z.key ≤ shared e.key z.key → length (entry_bytes rec_ref e.key z) ≤ length (entry_bytes rec_ref before z) + 2

-- what taking entries out does
abbrev pub PartsUse : Type 0
PartsUse = (rec_ref : ℕ) (node : Bool) (xs ys zs : List Entry) → used_length rec_ref node (xs ++ zs) ≤ used_length rec_ref node (xs ++ (ys ++ zs))

abbrev AllTake : ℕ → ℕ → List Entry → Type 0
AllTake rec_ref most es = AllByRecursion (λ (e : Entry). length e.key + 13 + rec_ref ≤ most) es

entries_take : (place : Place) (most : ℕ) (ps : List Pair) → TakeAtMost place most ps → AllTake place.rec_ref most (entries_of ps)
entries_take place most [] all = tt
entries_take place most (p ∷ ps) all = (all.0, entries_take place most ps all.1)

child_most : (node : Bool) → cond node 7 0 ≤ 7
child_most true = omega arith
child_most false = omega arith

one_takes : AreShort → (rec_ref : ℕ) (node : Bool) (most : ℕ) (before : List ℕ) (e : Entry) → length e.key + 13 + rec_ref ≤ most → length (entry_bytes rec_ref before e) + cond node 7 0 ≤ most
one_takes short rec_ref node most before e le = omega (arith, short rec_ref before e, child_most node, le)

-- one entry more takes at most so many bytes
one_more : AreShort → (rec_ref : ℕ) (node : Bool) (most n : ℕ) (before : List ℕ) (es : List Entry) → AllTake rec_ref most es → entries_length rec_ref node before (take (suc n) es) ≤ entries_length rec_ref node before (take n es) + most
one_more short rec_ref node most zero before [] all = omega arith
one_more short rec_ref node most (suc n) before [] all = omega arith
one_more short rec_ref node most zero before (e ∷ es) all = omega (arith, one_takes short rec_ref node most before e all.0)
one_more short rec_ref node most (suc n) before (e ∷ es) all = omega (arith, one_more short rec_ref node most n e.key es all.1)

-- at the front of a page entries take at most two bytes less
at_front : GrowLittle → (rec_ref : ℕ) (node : Bool) (before : List ℕ) (es : List Entry) → entries_length rec_ref node before es ≤ entries_length rec_ref node [] es + 2
at_front little rec_ref node before [] = omega arith
at_front little rec_ref node before (e ∷ es) = let h = little rec_ref [] (entry_with before 0) e (omega arith) in omega (arith, h)

-- what is used where an entry is set aside
set_apart : AreShort → GrowLittle → (rec_ref : ℕ) (node : Bool) (most n : ℕ) (before : List ℕ) (es : List Entry) → AllTake rec_ref most es
    → entries_length rec_ref node before es ≤ entries_length rec_ref node before (take n es) + most + (entries_length rec_ref node [] (drop (suc n) es) + 2)
set_apart short little rec_ref node most zero before [] all = omega arith
set_apart short little rec_ref node most (suc n) before [] all = omega arith
set_apart short little rec_ref node most zero before (e ∷ es) all = omega (arith, one_takes short rec_ref node most before e all.0, at_front little rec_ref node e.key es)
set_apart short little rec_ref node most (suc n) before (e ∷ es) all = omega (arith, set_apart short little rec_ref node most n e.key es all.1)

-- the same of pairs
more_used : AreShort → (place : Place) (node : Bool) (most n : ℕ) (ps : List Pair) → TakeAtMost place most ps
    → used_length place.rec_ref node (entries_of (take (suc n) ps)) ≤ used_length place.rec_ref node (entries_of (take n ps)) + most
more_used short place node most n ps all =
    let a = entries-take (suc n) ps in
    let b = entries-take n ps in
    rw (a, b) (let h = one_more short place.rec_ref node most n [] (entries_of ps) (entries_take place most ps all) in omega (arith, h))

apart_used : AreShort → GrowLittle → (place : Place) (node : Bool) (most n : ℕ) (ps : List Pair) → TakeAtMost place most ps
    → used_length place.rec_ref node (entries_of ps) ≤ used_length place.rec_ref node (entries_of (take n ps)) + most + used_length place.rec_ref node (entries_of (drop (suc n) ps))
apart_used short little place node most n ps all =
    let a = entries-take n ps in
    let b = entries-drop (suc n) ps in
    rw (a, b) (let h = set_apart short little place.rec_ref node most n [] (entries_of ps) (entries_take place most ps all) in omega (arith, h))

-- so many pairs fit into half a page, or there is none
few_used : (place : Place) (node : Bool) (ps : List Pair) (half n : ℕ) → IsPlaced place → Fit place node (entries_of ps) (place.block_length / 2) half → n ≤ half → n ≤ length ps
    → used_length place.rec_ref node (entries_of (take n ps)) ≤ place.block_length / 2
few_used place node ps half zero placed fit le inside = let l = placed.least in omega (arith, child_most node, l)
few_used place node ps half (suc n) placed fit le inside =
    let a = entries-take (suc n) ps in
    rw a ((fit (suc n) (omega arith) (omega (arith, inside, length-entries ps))).0 le)

-- not all of the pairs fit
all_used : (place : Place) (node : Bool) (ps : List Pair) (most : ℕ) → Fit place node (entries_of ps) place.block_length most → most < length ps → place.block_length < used_length place.rec_ref node (entries_of ps)
all_used place node ps most fit lt =
    subst (λ (t : List Pair). place.block_length < used_length place.rec_ref node (entries_of t)) (take_all (length ps) ps (omega arith)) (beyond place node ps place.block_length most (length ps) fit (omega (arith, lt)) (omega arith) lt)

-- the first part
pub front_half : AreShort → (place : Place) (node : Bool) (ps : List Pair) (most n : ℕ) → Fit place node (entries_of ps) place.block_length most → most < length ps → IsWellFilled place node ps n → UseHalf place node ps (take n ps)
front_half short place node ps most n fit lt (inl half) = λ top all. omega (arith, half)
front_half short place node ps most n fit lt (inr (inl one)) = λ top all.
    let s : n + 1 ≡ suc n = omega arith in
    let m = more_used short place node top n ps all in
    let k = subst (λ (t : ℕ). place.block_length < used_length place.rec_ref node (entries_of (take t ps))) s one in
    omega (arith, k, m)
front_half short place node ps most n fit lt (inr (inr two)) = λ top all.
    let m = more_used short place node top n ps all in
    let m2 = more_used short place node top (suc n) ps all in
    let whole = subst (λ (t : List Pair). place.block_length < used_length place.rec_ref node (entries_of t)) (sym (take_all (suc (suc n)) ps (omega (arith, two)))) (all_used place node ps most fit lt) in
    omega (arith, m, m2, whole)

-- the other one
pub back_half : AreShort → GrowLittle → (place : Place) (node : Bool) (ps : List Pair) (most half n : ℕ) → IsPlaced place → Fit place node (entries_of ps) place.block_length most → Fit place node (entries_of ps) (place.block_length / 2) half → most < length ps
    → n ≤ half + 1 → 0 < n → n ≤ length ps → UseHalf place node ps (drop (suc n) ps)
back_half short little place node ps most half zero placed fit halves lt le some inside = absurd (omega arith)
back_half short little place node ps most half (suc n) placed fit halves lt le some inside = λ top all.
    let whole = all_used place node ps most fit lt in
    let few = few_used place node ps half n placed halves (omega (arith, le)) (omega (arith, inside)) in
    let m = more_used short place node top n ps all in
    let a = apart_used short little place node top (suc n) ps all in
    omega (arith, whole, few, m, a)

-- a page with pairs put in uses no fewer bytes
pub grown_used : PartsUse → (place : Place) (node : Bool) (i : ℕ) (ps mid grown : List Pair) → grown ≡ (take i ps ++ mid) ++ drop i ps → used_length place.rec_ref node (entries_of ps) ≤ used_length place.rec_ref node (entries_of grown)
grown_used parts place node i ps mid grown is =
    let a : List Entry = entries_of (take i ps) in
    let m : List Entry = entries_of mid in
    let b : List Entry = entries_of (drop i ps) in
    let was : entries_of ps ≡ a ++ b = ap entries_of (sym (take-append-drop i ps)) ∙ map-append entry_of (take i ps) (drop i ps) in
    let now : entries_of grown ≡ a ++ (m ++ b) = ap entries_of (is ∙ append_assoc (take i ps) mid (drop i ps)) ∙ map-append entry_of (take i ps) (mid ++ drop i ps) ∙ ap (λ (t : List Entry). a ++ t) (map-append entry_of mid (drop i ps)) in
    rw (was, now) (parts place.rec_ref node a m b)
