-- A table and its data file, by how many changes are accepted.
use Rattle.std.proofs.Common.{◌≡◌, ◌<◌, ◌≤◌, ◌+◌, ℕ, zero, suc, true, List, Option, Result, Ok, Err, IfOk, OnOk, IfErr, OnErr, refl, sym, ap, subst, ◌∙◌, inl, inr, arith}
use Rattle.std.specs.Prelude.{◌≢◌, ◌⊎◌}
use Rattle.myi_base.specs.Holding.{Holding, Told, OthersStay}
use Rattle.myi_base.proofs.CallerLemmas.{told_same, told_then}
use Rattle.myi_opening.specs.Names.{rows_file, index_file}
use Rattle.myi_table.specs.declared.fault.ChangeFault.{ChangeFault}
use Rattle.myi_table.specs.declared.fault.ChangeFault.TheVariants as change
use Rattle.myi_table.specs.Table.{OpenTable, IfReply, KeepsRows}
use Rattle.myi_shell.specs.declared.changes.Reply.{Reply}
use Rattle.myi_shell.specs.declared.fault.ShellFault.{ShellFault}
use Rattle.myi_shell.specs.Changing.{count_of, replied, at_place}
use Rattle.myi_shell.specs.Carrying.{IsUntouched, IsTouchedBy}

-- ---- untouched

pub untouched_none : (told next : Option Holding) (t : OpenTable) → next ≡ told → IsUntouched told next t t
untouched_none told next t is = record { rows = told_same told next (KeepsRows t.name) is (λ m held. refl); mark = refl }

pub untouched_then : (told mid next : Option Holding) (old half new : OpenTable) → half.name ≡ old.name → IsUntouched told mid old half → IsUntouched mid next half new → IsUntouched told next old new
untouched_then told mid next old half new named one two =
    let keep = KeepsRows old.name in
    record {
      rows = told_then told mid next keep keep keep one.rows (subst (λ (q : List ℕ). Told mid next (KeepsRows q)) named two.rows) (λ m n k first second. second ∙ first);
      mark = two.mark ∙ one.mark;
    }

-- a call that changes the index file alone
pub untouched_by : (told next : Option Holding) (old new : OpenTable) → rows_file old.name ≢ index_file old.name → Told told next (OthersStay (index_file old.name)) → new.changed ≡ old.changed → IsUntouched told next old new
untouched_by told next old new apart others mark = record {
  rows = record { told = λ m held. let k = others.told m held in (k.0, k.1, k.2 (rows_file old.name) apart); untold = others.untold };
  mark = mark;
}

-- ---- by how many changes were accepted

pub touched_same : (told next : Option Holding) (old new : OpenTable) (before now : ℕ) → new.name ≡ old.name → now ≡ before → IsUntouched told next old new → IsTouchedBy told next old new before now
touched_same told next old new before now named is un = record {
  name = named;
  later = omega (arith, is);
  none = λ e. un;
  some = λ more. absurd (omega (arith, is, more));
}

pub touched_none : (told next : Option Holding) (t : OpenTable) (n : ℕ) → next ≡ told → IsTouchedBy told next t t n n
touched_none told next t n is = touched_same told next t t n n refl refl (untouched_none told next t is)

more_or_same : (a b : ℕ) → a ≤ b → (a < b) ⊎ (b ≡ a)
more_or_same zero zero le = inr refl
more_or_same zero (suc b) le = inl (omega arith)
more_or_same (suc a) zero le = absurd (omega (arith, le))
more_or_same (suc a) (suc b) le = one_more (more_or_same a b (omega (arith, le))) where
  one_more : (a < b) ⊎ (b ≡ a) → (suc a < suc b) ⊎ (suc b ≡ suc a)
  one_more (inl lt) = inl (omega (arith, lt))
  one_more (inr is) = inr (ap suc is)

pub touched_then : (told mid next : Option Holding) (old half new : OpenTable) (before between now : ℕ) → IsTouchedBy told mid old half before between → IsTouchedBy mid next half new between now → IsTouchedBy told next old new before now
touched_then told mid next old half new before between now one two = record {
  name = two.name ∙ one.name;
  later = let a = one.later in let b = two.later in omega (arith, a, b);
  none = λ e.
      let a = one.later in
      let b = two.later in
      untouched_then told mid next old half new one.name (one.none (omega (arith, a, b, e))) (two.none (omega (arith, a, b, e)));
  some = marked (more_or_same between now two.later);
}
  where
    marked : (between < now) ⊎ (now ≡ between) → before < now → new.changed ≡ true
    marked (inl more) lt = two.some more
    marked (inr same) lt = (two.none same).mark ∙ one.some (omega (arith, same, lt))

-- of a table before which others were accepted
pub touched_from : (told next : Option Holding) (old new : OpenTable) (before now k : ℕ) → now ≡ before + k → IsTouchedBy told next old new 0 k → IsTouchedBy told next old new before now
touched_from told next old new before now k is touched = record {
  name = touched.name;
  later = omega (arith, is);
  none = λ e. touched.none (omega (arith, is, e));
  some = λ lt. touched.some (omega (arith, is, lt));
}

pub touched_as : (told next : Option Holding) (old new : OpenTable) (before now first last : ℕ) → before ≡ first → now ≡ last → IsTouchedBy told next old new before now → IsTouchedBy told next old new first last
touched_as told next old new before now first last one two touched = subst (λ n. IsTouchedBy told next old new first n) two (subst (λ n. IsTouchedBy told next old new n now) one touched)

-- ---- what a change of a table says

made_one : (told next : Option Holding) (old new : OpenTable) → new.name ≡ old.name → new.changed ≡ true → IsTouchedBy told next old new 0 1
made_one told next old new named marked = record { name = named; later = omega arith; none = λ e. absurd (omega (arith, e)); some = λ lt. marked }

refused : (told next : Option Holding) (old new : OpenTable) → new.name ≡ old.name → Told told next (KeepsRows old.name) → new.changed ≡ old.changed → IsTouchedBy told next old new 0 0
refused told next old new named rows mark = touched_same told next old new 0 0 named refl (record { rows = rows; mark = mark })

pub touched : (told next : Option Holding) (old new : OpenTable) (made : Result ℕ ChangeFault) → new.name ≡ old.name → IfErr made (λ f. IfReply f (Told told next (KeepsRows old.name))) → OnOk made (new.changed ≡ true) → OnErr made (new.changed ≡ old.changed)
    → IfOk (replied made) (λ r. IsTouchedBy told next old new 0 (count_of r))
touched told next old new (Ok at) named rows marked unmarked = made_one told next old new named marked
touched told next old new (Err (change.Broken by)) named rows marked unmarked = tt
touched told next old new (Err (change.NoRow at)) named rows marked unmarked = refused told next old new named rows unmarked
touched told next old new (Err (change.Duplicate key at)) named rows marked unmarked = refused told next old new named rows unmarked
touched told next old new (Err change.Full) named rows marked unmarked = refused told next old new named rows unmarked
touched told next old new (Err (change.Damaged at)) named rows marked unmarked = tt
touched told next old new (Err change.File) named rows marked unmarked = tt
touched told next old new (Err change.Memory) named rows marked unmarked = tt

pub touched_at : {U : Type 0} (told next : Option Holding) (old new : OpenTable) (at : ℕ) (made : Result U ChangeFault) → new.name ≡ old.name → IfErr made (λ f. IfReply f (Told told next (KeepsRows old.name))) → OnOk made (new.changed ≡ true) → OnErr made (new.changed ≡ old.changed)
    → IfOk (replied (at_place at made)) (λ r. IsTouchedBy told next old new 0 (count_of r))
touched_at told next old new at (Ok done) named rows marked unmarked = made_one told next old new named marked
touched_at told next old new at (Err f) named rows marked unmarked = touched told next old new (Err f) named rows tt unmarked

-- of an answer that is told so
pub told_touched : (told next : Option Holding) (old new : OpenTable) (result mine : Result Reply ShellFault) → result ≡ mine → IfOk mine (λ r. IsTouchedBy told next old new 0 (count_of r)) → IfOk result (λ r. IsTouchedBy told next old new 0 (count_of r))
told_touched told next old new result mine is h = let P : Result Reply ShellFault → Type 0 = λ q. IfOk q (λ r. IsTouchedBy told next old new 0 (count_of r)) in subst P (sym is) h

-- ---- of calls that end well

pub touched_ok : {E : Type 0} (told next : Option Holding) (old new : OpenTable) (before now k : ℕ) (result : Result (Unit {0}) E) → OnOk result (now ≡ before + k) → IsTouchedBy told next old new 0 k → OnOk result (IsTouchedBy told next old new before now)
touched_ok told next old new before now k (Ok done) is t = touched_from told next old new before now k is t
touched_ok told next old new before now k (Err f) is t = tt

pub untouched_ok : {E : Type 0} (told next : Option Holding) (old new : OpenTable) (before now : ℕ) (result : Result (Unit {0}) E) → new.name ≡ old.name → now ≡ before → IsUntouched told next old new → OnOk result (IsTouchedBy told next old new before now)
untouched_ok told next old new before now (Ok done) named is un = touched_same told next old new before now named is un
untouched_ok told next old new before now (Err f) named is un = tt

pub behind_ok : {E : Type 0} (told mid next : Option Holding) (old half new : OpenTable) (before between now : ℕ) (result : Result (Unit {0}) E) → IsTouchedBy told mid old half before between → OnOk result (IsTouchedBy mid next half new between now)
    → OnOk result (IsTouchedBy told next old new before now)
behind_ok told mid next old half new before between now (Ok done) one two = touched_then told mid next old half new before between now one two
behind_ok told mid next old half new before between now (Err f) one two = tt
