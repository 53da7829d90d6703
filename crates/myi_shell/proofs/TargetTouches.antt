-- A target and its data files, by how many changes are accepted.
use Rattle.std.proofs.Common.{◌≡◌, ◌+◌, ◌<◌, ◌≤◌, ℕ, zero, suc, List, [], ◌∷◌, length, Option, Some, None, Result, Ok, Err, OnOk, refl, sym, ap, subst, ◌∙◌, arith}
use Rattle.myi_base.specs.Holding.{Holding}
use Rattle.myi_mergelist.specs.declared.list.InsertMethod.{InsertMethod}
use Rattle.myi_table.specs.Table.{OpenTable}
use Rattle.myi_merge.specs.Merged.{OpenMerge, OfEach}
use Rattle.myi_merge.specs.Changing.{target_by}
use Rattle.myi_shell.specs.Carrying as one
use Rattle.myi_shell.specs.declared.target.Target.{Target}
use Rattle.myi_shell.specs.declared.target.Target.TheVariants.{One, Many}
use Rattle.myi_shell.specs.Targets.{index_by, index_in, IsUntouchedOne, IsUntouched, TouchesAt, IsTouchedBy}
use Rattle.myi_shell.proofs.TouchLemmas as table

-- ---- tables of a list, one by one

pub each_of : (ts us : List OpenTable) (P Q : OpenTable → OpenTable → Type 0) → ((t u : OpenTable) → P t u → Q t u) → OfEach ts us P → OfEach ts us Q
each_of [] [] P Q f h = tt
each_of [] (u ∷ us) P Q f h = absurd h
each_of (t ∷ ts) [] P Q f h = absurd h
each_of (t ∷ ts) (u ∷ us) P Q f h = (f t u h.0, each_of ts us P Q f h.1)

pub each_itself : (ts : List OpenTable) (P : OpenTable → OpenTable → Type 0) → ((t : OpenTable) → P t t) → OfEach ts ts P
each_itself [] P f = tt
each_itself (t ∷ ts) P f = (f t, each_itself ts P f)

pub each_then : (ts us vs : List OpenTable) (P Q R : OpenTable → OpenTable → Type 0) → ((t u v : OpenTable) → P t u → Q u v → R t v) → OfEach ts us P → OfEach us vs Q → OfEach ts vs R
each_then [] [] [] P Q R f h k = tt
each_then [] [] (v ∷ vs) P Q R f h k = absurd k
each_then [] (u ∷ us) vs P Q R f h k = absurd h
each_then (t ∷ ts) [] vs P Q R f h k = absurd h
each_then (t ∷ ts) (u ∷ us) [] P Q R f h k = absurd k
each_then (t ∷ ts) (u ∷ us) (v ∷ vs) P Q R f h k = (f t u v h.0 k.0, each_then ts us vs P Q R f h.1 k.1)

pub each_long : (ts us : List OpenTable) (P : OpenTable → OpenTable → Type 0) → OfEach ts us P → length us ≡ length ts
each_long [] [] P h = refl
each_long [] (u ∷ us) P h = absurd h
each_long (t ∷ ts) [] P h = absurd h
each_long (t ∷ ts) (u ∷ us) P h = ap suc (each_long ts us P h.1)

-- ---- untouched

one_none : (told next : Option Holding) (t : OpenTable) → next ≡ told → IsUntouchedOne told next t t
one_none told next t is = record { name = refl; untouched = table.untouched_none told next t is }

one_then : (told mid next : Option Holding) (t u v : OpenTable) → IsUntouchedOne told mid t u → IsUntouchedOne mid next u v → IsUntouchedOne told next t v
one_then told mid next t u v h k = record { name = k.name ∙ h.name; untouched = table.untouched_then told mid next t u v h.name h.untouched k.untouched }

pub untouched_none : (told next : Option Holding) (t : Target) → next ≡ told → IsUntouched told next t t
untouched_none told next (One t) is = one_none told next t is
untouched_none told next (Many g) is = (refl, each_itself g.tables (IsUntouchedOne told next) (λ t. one_none told next t is))

pub untouched_then : (told mid next : Option Holding) (old half new : Target) → IsUntouched told mid old half → IsUntouched mid next half new → IsUntouched told next old new
untouched_then told mid next (One t) (One u) (One v) h k = one_then told mid next t u v h k
untouched_then told mid next (One t) (One u) (Many v) h k = absurd k
untouched_then told mid next (One t) (Many u) v h k = absurd h
untouched_then told mid next (Many t) (One u) v h k = absurd h
untouched_then told mid next (Many t) (Many u) (One v) h k = absurd k
untouched_then told mid next (Many t) (Many u) (Many v) h k = (
  k.0 ∙ h.0,
  each_then t.tables u.tables v.tables (IsUntouchedOne told mid) (IsUntouchedOne mid next) (IsUntouchedOne told next) (one_then told mid next) h.1 k.1,
)

-- ---- by how many changes were accepted

one_same : (told next : Option Holding) (before now : ℕ) (t u : OpenTable) → now ≡ before → IsUntouchedOne told next t u → one.IsTouchedBy told next t u before now
one_same told next before now t u is h = table.touched_same told next t u before now h.name is h.untouched

at_same : (told next : Option Holding) (before now i : ℕ) (ts us : List OpenTable) → now ≡ before → OfEach ts us (IsUntouchedOne told next) → TouchesAt told next before now i ts us
at_same told next before now i [] [] is h = tt
at_same told next before now i [] (u ∷ us) is h = absurd h
at_same told next before now i (t ∷ ts) [] is h = absurd h
at_same told next before now zero (t ∷ ts) (u ∷ us) is h = (one_same told next before now t u is h.0, h.1)
at_same told next before now (suc i) (t ∷ ts) (u ∷ us) is h = (h.0, at_same told next before now i ts us is h.1)

pub touched_same : (told next : Option Holding) (old new : Target) (before now : ℕ) → now ≡ before → IsUntouched told next old new → IsTouchedBy told next old new before now
touched_same told next (One t) (One u) before now is h = one_same told next before now t u is h
touched_same told next (One t) (Many u) before now is h = absurd h
touched_same told next (Many t) (One u) before now is h = absurd h
touched_same told next (Many t) (Many u) before now is h = (omega (arith, is), h.0, at_same told next before now (index_in t) t.tables u.tables is h.1)

pub touched_none : (told next : Option Holding) (t : Target) (n : ℕ) → next ≡ told → IsTouchedBy told next t t n n
touched_none told next t n is = touched_same told next t t n n refl (untouched_none told next t is)

at_then : (told mid next : Option Holding) (before between now i : ℕ) (ts us vs : List OpenTable) → TouchesAt told mid before between i ts us → TouchesAt mid next between now i us vs → TouchesAt told next before now i ts vs
at_then told mid next before between now i [] [] [] h k = tt
at_then told mid next before between now i [] [] (v ∷ vs) h k = absurd k
at_then told mid next before between now i [] (u ∷ us) vs h k = absurd h
at_then told mid next before between now i (t ∷ ts) [] vs h k = absurd h
at_then told mid next before between now zero (t ∷ ts) (u ∷ us) [] h k = absurd k
at_then told mid next before between now (suc i) (t ∷ ts) (u ∷ us) [] h k = absurd k
at_then told mid next before between now zero (t ∷ ts) (u ∷ us) (v ∷ vs) h k = (
  table.touched_then told mid next t u v before between now h.0 k.0,
  each_then ts us vs (IsUntouchedOne told mid) (IsUntouchedOne mid next) (IsUntouchedOne told next) (one_then told mid next) h.1 k.1,
)
at_then told mid next before between now (suc i) (t ∷ ts) (u ∷ us) (v ∷ vs) h k = (one_then told mid next t u v h.0 k.0, at_then told mid next before between now i ts us vs h.1 k.1)

at_long : (told next : Option Holding) (before now i : ℕ) (ts us : List OpenTable) → TouchesAt told next before now i ts us → length us ≡ length ts
at_long told next before now i [] [] h = refl
at_long told next before now i [] (u ∷ us) h = absurd h
at_long told next before now i (t ∷ ts) [] h = absurd h
at_long told next before now zero (t ∷ ts) (u ∷ us) h = ap suc (each_long ts us (IsUntouchedOne told next) h.1)
at_long told next before now (suc i) (t ∷ ts) (u ∷ us) h = ap suc (at_long told next before now i ts us h.1)

pub same_index : (g h : OpenMerge) → h.method ≡ g.method → length h.tables ≡ length g.tables → index_in h ≡ index_in g
same_index g h method long = ap (λ (m : Option InsertMethod). index_by (target_by m (length h.tables))) method ∙ ap (λ (n : ℕ). index_by (target_by g.method n)) long

pub touched_then : (told mid next : Option Holding) (old half new : Target) (before between now : ℕ) → IsTouchedBy told mid old half before between → IsTouchedBy mid next half new between now → IsTouchedBy told next old new before now
touched_then told mid next (One t) (One u) (One v) before between now h k = table.touched_then told mid next t u v before between now h k
touched_then told mid next (One t) (One u) (Many v) before between now h k = absurd k
touched_then told mid next (One t) (Many u) v before between now h k = absurd h
touched_then told mid next (Many t) (One u) v before between now h k = absurd h
touched_then told mid next (Many t) (Many u) (One v) before between now h k = absurd k
touched_then told mid next (Many t) (Many u) (Many v) before between now h k =
    let i : index_in u ≡ index_in t = same_index t u h.1 (at_long told mid before between (index_in t) t.tables u.tables h.2) in
    let more : TouchesAt mid next between now (index_in t) u.tables v.tables = subst (λ (j : ℕ). TouchesAt mid next between now j u.tables v.tables) i k.2 in
    (let a = h.0 in let b = k.0 in omega (arith, a, b), k.1 ∙ h.1, at_then told mid next before between now (index_in t) t.tables u.tables v.tables h.2 more)

at_from : (told next : Option Holding) (before now k i : ℕ) (ts us : List OpenTable) → now ≡ before + k → TouchesAt told next 0 k i ts us → TouchesAt told next before now i ts us
at_from told next before now k i [] [] is h = tt
at_from told next before now k i [] (u ∷ us) is h = absurd h
at_from told next before now k i (t ∷ ts) [] is h = absurd h
at_from told next before now k zero (t ∷ ts) (u ∷ us) is h = (table.touched_from told next t u before now k is h.0, h.1)
at_from told next before now k (suc i) (t ∷ ts) (u ∷ us) is h = (h.0, at_from told next before now k i ts us is h.1)

-- of a target before which others were accepted
pub touched_from : (told next : Option Holding) (old new : Target) (before now k : ℕ) → now ≡ before + k → IsTouchedBy told next old new 0 k → IsTouchedBy told next old new before now
touched_from told next (One t) (One u) before now k is h = table.touched_from told next t u before now k is h
touched_from told next (One t) (Many u) before now k is h = absurd h
touched_from told next (Many t) (One u) before now k is h = absurd h
touched_from told next (Many t) (Many u) before now k is h = (omega (arith, is), h.1, at_from told next before now k (index_in t) t.tables u.tables is h.2)

pub touched_as : (told next : Option Holding) (old new : Target) (before now first last : ℕ) → before ≡ first → now ≡ last → IsTouchedBy told next old new before now → IsTouchedBy told next old new first last
touched_as told next old new before now first last one two touched = subst (λ n. IsTouchedBy told next old new first n) two (subst (λ n. IsTouchedBy told next old new n now) one touched)

-- ---- of calls that end well

pub touched_ok : {E : Type 0} (told next : Option Holding) (old new : Target) (before now k : ℕ) (result : Result (Unit {0}) E) → OnOk result (now ≡ before + k) → IsTouchedBy told next old new 0 k → OnOk result (IsTouchedBy told next old new before now)
touched_ok told next old new before now k (Ok done) is t = touched_from told next old new before now k is t
touched_ok told next old new before now k (Err f) is t = tt

pub untouched_ok : {E : Type 0} (told next : Option Holding) (old new : Target) (before now : ℕ) (result : Result (Unit {0}) E) → now ≡ before → IsUntouched told next old new → OnOk result (IsTouchedBy told next old new before now)
untouched_ok told next old new before now (Ok done) is un = touched_same told next old new before now is un
untouched_ok told next old new before now (Err f) is un = tt

pub behind_ok : {E : Type 0} (told mid next : Option Holding) (old half new : Target) (before between now : ℕ) (result : Result (Unit {0}) E) → IsTouchedBy told mid old half before between → OnOk result (IsTouchedBy mid next half new between now)
    → OnOk result (IsTouchedBy told next old new before now)
behind_ok told mid next old half new before between now (Ok done) one two = touched_then told mid next old half new before between now one two
behind_ok told mid next old half new before between now (Err f) one two = tt
