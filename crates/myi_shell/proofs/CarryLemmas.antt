-- Calls on a target one after the other.
use Rattle.std.proofs.Common.{◌≡◌, ◌≤◌, ℕ, List, [], ◌∷◌, length, map, slice_get, Option, Some, None, Result, Ok, Err, IfOk, OnOk, IfErr, OnErr, refl, sym, ap, subst, ◌∙◌, arith}
use Rattle.std.specs.Prelude.{suc, zero}
use Rattle.myi_base.specs.Causes.{Rose, HasCause}
use Rattle.myi_base.specs.Holding.{Holding, Told}
use Rattle.myi_io.specs.declared.sink.SinkErr.{SinkErr}
use Rattle.myi_io.specs.declared.sink.SinkErr.TheVariants as sink
use Rattle.myi_base.proofs.CallerLemmas.{told_same, told_then}
use Rattle.myi_defs.specs.declared.types.Defs.{Defs}
use Rattle.myi_keycache.specs.declared.setup.Counters.{Counters}
use Rattle.myi_table.specs.Table as table
use Rattle.myi_table.specs.Table.{OpenTable, KeepsOthers}
use Rattle.myi_merge.specs.Merged.{OfEach}
use Rattle.myi_merge.specs.Changing.{KeepsOtherFiles, IsFileOfOne}
use Rattle.myi_shell.specs.declared.fault.ShellFault.{ShellFault}
use Rattle.myi_shell.specs.declared.fault.ShellFault.TheVariants as fault
use Rattle.myi_shell.specs.declared.target.Target.{Target}
use Rattle.myi_shell.specs.declared.target.Target.TheVariants.{One, Many}
use Rattle.myi_shell.specs.Targets.{AreNotBelow, IsKept, IsSameTable, IsSame, ChangesItsOwn, IsCarried, StillHolds}
use Rattle.myi_shell.specs.Changing.{NothingDamaged}
use Rattle.myi_shell.specs.Running.{of_sink}
use Rattle.myi_shell.proofs.TargetTouches.{each_itself, each_then}

-- ---- the tables

pub one_itself : (t : OpenTable) → table.IsSame t t
one_itself t = record { name = refl; setup = refl; header = refl; lost = refl; defs = refl; added = refl }

one_same_then : (old half new : OpenTable) → table.IsSame old half → table.IsSame half new → table.IsSame old new
one_same_then old half new one two = record {
  name = two.name ∙ one.name;
  setup = two.setup ∙ one.setup;
  header = two.header ∙ one.header;
  lost = two.lost ∙ one.lost;
  defs = two.defs ∙ one.defs;
  added = two.added ∙ one.added;
}

-- a table that a call leaves is the same one
pub same_table : (t u : OpenTable) → table.IsSame t u → IsSameTable t u
same_table t u same = record { name = same.name; setup = same.setup; header = same.header; lost = same.lost; defs = same.defs }

table_then : (old half new : OpenTable) → IsSameTable old half → IsSameTable half new → IsSameTable old new
table_then old half new one two = record {
  name = two.name ∙ one.name;
  setup = two.setup ∙ one.setup;
  header = two.header ∙ one.header;
  lost = two.lost ∙ one.lost;
  defs = two.defs ∙ one.defs;
}

pub same_none : (t : Target) → IsSame t t
same_none (One t) = same_table t t (one_itself t)
same_none (Many g) = (refl, each_itself g.tables table.IsSame one_itself)

pub same_then : (old half new : Target) → IsSame old half → IsSame half new → IsSame old new
same_then (One t) (One u) (One v) h k = table_then t u v h k
same_then (One t) (One u) (Many v) h k = absurd k
same_then (One t) (Many u) v h k = absurd h
same_then (Many t) (One u) v h k = absurd h
same_then (Many t) (Many u) (One v) h k = absurd k
same_then (Many t) (Many u) (Many v) h k = (k.0 ∙ h.0, each_then t.tables u.tables v.tables table.IsSame table.IsSame table.IsSame one_same_then h.1 k.1)

-- ---- files of other names

abbrev pub names_in : List OpenTable → List (List ℕ)
names_in ts = map (λ (t : OpenTable). t.name) ts

pub names_same : (ts us : List OpenTable) → OfEach ts us table.IsSame → names_in us ≡ names_in ts
names_same [] [] h = refl
names_same [] (u ∷ us) h = absurd h
names_same (t ∷ ts) [] h = absurd h
names_same (t ∷ ts) (u ∷ us) h = ap (λ (n : List ℕ). n ∷ names_in us) h.0.name ∙ ap (λ (ns : List (List ℕ)). t.name ∷ ns) (names_same ts us h.1)

one_others : (told mid next : Option Holding) (old half : List ℕ) → half ≡ old → Told told mid (KeepsOthers old) → Told mid next (KeepsOthers half) → Told told next (KeepsOthers old)
one_others told mid next old half same one two =
    let keep = KeepsOthers old in
    told_then told mid next keep keep keep one (subst (λ (name : List ℕ). Told mid next (KeepsOthers name)) same two) (λ m n k first second q here there. second q here there ∙ first q here there)

abbrev KeepsBut : List (List ℕ) → Holding → Holding → Type 0
KeepsBut names m n = (q : List ℕ) → (IsFileOfOne names q → ⊥) → n q ≡ m q

many_others : (told mid next : Option Holding) (old half : List (List ℕ)) → half ≡ old → Told told mid (KeepsBut old) → Told mid next (KeepsBut half) → Told told next (KeepsBut old)
many_others told mid next old half same one two =
    let keep = KeepsBut old in
    told_then told mid next keep keep keep one (subst (λ (names : List (List ℕ)). Told mid next (KeepsBut names)) same two) (λ m n k first second q none. second q none ∙ first q none)

pub others_then : (told mid next : Option Holding) (old half : Target) → IsSame old half → ChangesItsOwn told mid old → ChangesItsOwn mid next half → ChangesItsOwn told next old
others_then told mid next (One t) (One u) same one two = one_others told mid next t.name u.name same.name one two
others_then told mid next (One t) (Many u) same one two = absurd same
others_then told mid next (Many t) (One u) same one two = absurd same
others_then told mid next (Many t) (Many u) same one two = many_others told mid next (names_in t.tables) (names_in u.tables) (names_same t.tables u.tables same.1) one two

others_none : (told next : Option Holding) (t : Target) → next ≡ told → ChangesItsOwn told next t
others_none told next (One t) is = told_same told next (KeepsOthers t.name) is (λ m held q here there. refl)
others_none told next (Many g) is = told_same told next (KeepsBut (names_in g.tables)) is (λ m held q none. refl)

-- files that tell what they hold go on to
pub told_on : (told next : Option Holding) (t : Target) (m : Holding) → ChangesItsOwn told next t → told ≡ Some m → (n : Holding) × (next ≡ Some n)
told_on told next (One t) m others held = let k = others.told m held in (k.0, k.1)
told_on told next (Many g) m others held = let k = others.told m held in (k.0, k.1)

-- ---- counters

pub below_none : (a : Counters) → AreNotBelow a a
below_none a = record { read_requests = omega arith; reads = omega arith; write_requests = omega arith; writes = omega arith }

pub below_then : (a b c : Counters) → AreNotBelow a b → AreNotBelow b c → AreNotBelow a c
below_then a b c h k =
    let r1 = h.read_requests in let r2 = k.read_requests in
    let s1 = h.reads in let s2 = k.reads in
    let t1 = h.write_requests in let t2 = k.write_requests in
    let u1 = h.writes in let u2 = k.writes in
    record { read_requests = omega (arith, r1, r2); reads = omega (arith, s1, s2); write_requests = omega (arith, t1, t2); writes = omega (arith, u1, u2) }

-- ---- calls

-- nothing was called
pub carried_none : (told next : Option Holding) (t : Target) → next ≡ told → IsKept told t → IsCarried told next t t
carried_none told next t is kept = record {
  kept = subst (λ (o : Option Holding). IsKept o t) (sym is) kept;
  same = same_none t;
  defs = refl;
  takes = refl;
  others = others_none told next t is;
  counted = below_none _;
}

pub carried_then : (told mid next : Option Holding) (old half new : Target) → IsCarried told mid old half → IsCarried mid next half new → IsCarried told next old new
carried_then told mid next old half new one two = record {
  kept = two.kept;
  same = same_then old half new one.same two.same;
  defs = two.defs ∙ one.defs;
  takes = two.takes ∙ one.takes;
  others = others_then told mid next old half one.same one.others two.others;
  counted = below_then _ _ _ one.counted two.counted;
}

pub still_none : (told next : Option Holding) (t : Target) → next ≡ told → StillHolds told next t t
still_none told next t is = λ m held s h. (m, is ∙ held, h)

pub still_then : (told mid next : Option Holding) (old half new : Target) → StillHolds told mid old half → StillHolds mid next half new → StillHolds told next old new
still_then told mid next old half new one two = λ m held s h. let k = one m held s h in two k.0 k.1 s k.2

pub never_before : (told mid : Option Holding) (old half : Target) (f : ShellFault) → IsCarried told mid old half → NothingDamaged mid f → NothingDamaged told f
never_before told mid old half (fault.Damaged at) carried never = λ m held. let k = told_on told mid old m carried.others held in never k.0 k.1
never_before told mid old half fault.File carried never = tt
never_before told mid old half fault.Sink carried never = never
never_before told mid old half fault.Memory carried never = tt

-- ---- causes

err_of : {T F : Type 0} (f g : F) → ◌≡◌ {A = Result T F} (Err f) (Err g) → f ≡ g
err_of f g e = cc

rose_then : (before half now : ℕ) → before ≤ half → Rose half now → Rose before now
rose_then before half now later rose = omega (arith, later, rose)

-- a call that fails behind others
pub cause_then : {T U F : Type 0} (failed : F) (before half now : ℕ) (result : Result T F) (called : Result U F) {f g : F} → before ≤ half → result ≡ Err f → f ≡ g → called ≡ Err g → HasCause failed half now called → HasCause failed before now result
cause_then failed before half now result called {f} {g} later is same was cause = record {
  later = let l = cause.later in omega (arith, later, l);
  cause = λ e. rose_then before half now later (cause.cause (was ∙ ap Err (sym same ∙ err_of f failed (sym is ∙ e))));
}

pub never_all : {U : Type 0} (told mid : Option Holding) (old half : Target) (result : Result U ShellFault) → IsCarried told mid old half → IfErr result (NothingDamaged mid) → IfErr result (NothingDamaged told)
never_all told mid old half (Ok done) carried never = tt
never_all told mid old half (Err f) carried never = never_before told mid old half f carried never

-- the output failed
pub sink_cause : {T U : Type 0} (before now : ℕ) (result : Result T ShellFault) (written : Result U SinkErr) (g : ShellFault) (f : SinkErr) → result ≡ Err g → g ≡ of_sink f → written ≡ Err f → HasCause sink.Failed before now written → HasCause fault.Sink before now result
sink_cause before now result written g sink.Failed is same was cause = record { later = cause.later; cause = λ e. cause.cause was }
sink_cause before now result written g sink.Memory is same was cause = record { later = cause.later; cause = λ e. absurd (let bad : fault.Memory ≡ fault.Sink = sym same ∙ err_of g fault.Sink (sym is ∙ e) in cc) }

pub on_err : {T E : Type 0} {P : Type 0} (result : Result T E) → P → OnErr result P
on_err (Ok done) p = tt
on_err (Err f) p = p

pub if_err : {T E : Type 0} {P : Type 0} (result : Result T E) → P → IfErr result (λ f. P)
if_err (Ok done) p = tt
if_err (Err f) p = p

pub not_ok : {T E : Type 0} (P : T → Type 0) {f : E} (result : Result T E) → result ≡ Err f → IfOk result P
not_ok {T} {E} P {f} result is = subst (λ r. IfOk r P) (sym is) tt

pub not_on_ok : {T E : Type 0} (P : Type 0) {f : E} (result : Result T E) → result ≡ Err f → OnOk result P
not_on_ok {T} {E} P {f} result is = subst (λ r. OnOk r P) (sym is) tt

pub on_ok_all : {T E : Type 0} {P : Type 0} (result : Result T E) → P → OnOk result P
on_ok_all (Ok done) p = p
on_ok_all (Err f) p = tt
