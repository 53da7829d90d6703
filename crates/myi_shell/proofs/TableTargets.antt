-- What a call on one table says of the target.
use Rattle.std.proofs.Common.{◌≡◌, ◌+◌, ◌≤◌, ℕ, Bool, List, [], ◌∷◌, length, Option, Some, None, Result, Ok, Err, IfOk, IfErr, OnOk, refl, sym, ap, subst, ◌∙◌, arith}
use Rattle.std.specs.Prelude.{option_map}
use Rattle.myi_base.specs.Holding.{Holding, IfTold}
use Rattle.myi_keycache.specs.declared.setup.Counters.{Counters}
use Rattle.myi_keycache.specs.Counts.{raised}
use Rattle.myi_search.specs.Counting.{GoesOn}
use Rattle.myi_state.specs.State.{TableState}
use Rattle.myi_state.specs.Changes.{Change}
use Rattle.myi_tablestate.specs.Keyed.{keyed_step, if_made}
use Rattle.myi_script.specs.declared.types.Act.{Act}
use Rattle.myi_history.specs.Answers.{answer_on}
use Rattle.myi_history.specs.History.{in_table, table_change, accepted_of, stepped_by}
use Rattle.myi_history.specs.Text.{by_reply, reply_said}
use Rattle.myi_history.specs.RoundTexts.{answer_of}
use Rattle.myi_table.specs.Table as table
use Rattle.myi_table.specs.Table.{OpenTable}
use Rattle.myi_shell.specs.declared.fault.ShellFault.{ShellFault}
use Rattle.myi_shell.specs.declared.fault.ShellFault.TheVariants as fault
use Rattle.myi_shell.specs.declared.changes.Reply.{Reply}
use Rattle.myi_shell.specs.declared.changes.Reply.TheVariants as reply
use Rattle.myi_shell.specs.declared.changes.Changed.{Changed}
use Rattle.myi_shell.specs.declared.target.Target.{Target}
use Rattle.myi_shell.specs.declared.target.Target.TheVariants.{One}
use Rattle.myi_shell.specs.Carrying as one
use Rattle.myi_shell.proofs.CarryLemmas.{same_table}
use Rattle.myi_shell.specs.Changing.{IsChanged, IsChangedBy, NeverDamaged, NothingDamaged, reply_of, count_by, table_changed}
use Rattle.myi_shell.specs.Targets.{Standing, moved, counted_in, AreNotBelow, IsCarried, IsUntouchedOne, HoldsThen, IfHolds}

-- ---- changes

told_as : (r : Reply) → answer_of (table_changed r).answer ≡ by_reply in_table (reply_of r)
told_as (reply.Made at) = refl
told_as (reply.NoRow at) = refl
told_as (reply.Duplicate key at) = refl
told_as reply.Full = refl

counts_as : (c : Change) (r : Reply) → count_by (table_changed r).made ≡ length (if_made c [] (reply_of r))
counts_as c (reply.Made at) = refl
counts_as c (reply.NoRow at) = refl
counts_as c (reply.Duplicate key at) = refl
counts_as c reply.Full = refl

one_changed : (old new : OpenTable) (s : Standing) (together : Bool) (a : Option Act) (next : Option Holding) (asked : Option Change) (r : Option Reply) → table_change together a ≡ asked → IsChanged old s.table asked next new r
    → IsChangedBy in_table (One old) s together a next (One new) (option_map table_changed r)
one_changed old new s together a next None None is h = record {
  said = λ n. ap (λ (q : Option Change). reply_said in_table (table.defs_in old) n s.table q) (sym is);
  count = ap (λ (q : Option Change). length (accepted_of (table.defs_in old) s.table q)) (sym is);
  state = subst (λ (q : Option Change). HoldsThen next (One new) (moved s (stepped_by (table.defs_in old) s.table q))) (sym is) h;
}
one_changed old new s together a next None (Some r) is h = absurd h
one_changed old new s together a next (Some c) None is h = absurd h
one_changed old new s together a next (Some c) (Some r) is h = record {
  said = λ n. ap (λ q. answer_on n q ∷ []) (told_as r ∙ ap (by_reply in_table) (sym h.reply)) ∙ ap (λ (q : Option Change). reply_said in_table (table.defs_in old) n s.table q) (sym is);
  count = counts_as c r ∙ ap (λ q. length (if_made c [] q)) (sym h.reply) ∙ ap (λ (q : Option Change). length (accepted_of (table.defs_in old) s.table q)) (sym is);
  state = subst (λ (q : Option Change). HoldsThen next (One new) (moved s (stepped_by (table.defs_in old) s.table q))) (sym is) h.state;
}

pub table_changes : (told next : Option Holding) (old new : OpenTable) (together : Bool) (a : Act) (r : Option Reply) → table.IfHolds told old (λ m s. IsChanged old s (table_change together (Some a)) next new r)
    → IfHolds told (One old) (λ m s. IsChangedBy in_table (One old) s together (Some a) next (One new) (option_map table_changed r))
table_changes told next old new together a r changed = λ m held s h. one_changed old new s together (Some a) next (table_change together (Some a)) r refl (changed m held s.table h)

-- ---- counters

sum_on : (a b x : ℕ) → GoesOn a b → raised x a ≤ raised x b
sum_on a b x on = omega (arith, on)

sums_on : (told next : Option Holding) (t u : OpenTable) → one.IsCarried told next t u → AreNotBelow (counted_in (One t)) (counted_in (One u))
sums_on told next t u carried =
    let one = t.rows.trees.cache.counters in
    let two = u.rows.trees.cache.counters in
    let same : (f : Counters → ℕ) → raised (f t.added) (f two) ≡ raised (f u.added) (f two) = λ f. ap (λ (k : Counters). raised (f k) (f two)) (sym carried.same.added) in
    record {
      read_requests = subst (λ n. raised t.added.read_requests one.read_requests ≤ n) (same (λ k. k.read_requests)) (sum_on _ _ t.added.read_requests carried.counted.read_requests);
      reads = subst (λ n. raised t.added.reads one.reads ≤ n) (same (λ k. k.reads)) (sum_on _ _ t.added.reads carried.counted.reads);
      write_requests = subst (λ n. raised t.added.write_requests one.write_requests ≤ n) (same (λ k. k.write_requests)) (sum_on _ _ t.added.write_requests carried.counted.write_requests);
      writes = subst (λ n. raised t.added.writes one.writes ≤ n) (same (λ k. k.writes)) (sum_on _ _ t.added.writes carried.counted.writes);
    }

-- ---- what a call leaves

pub table_carried : (told next : Option Holding) (t u : OpenTable) → one.IsCarried told next t u → IsCarried told next (One t) (One u)
table_carried told next t u carried = record {
  kept = carried.kept;
  same = same_table t u carried.same;
  defs = carried.same.defs;
  takes = refl;
  others = carried.others;
  counted = sums_on told next t u carried;
}

pub table_untouched : (told next : Option Holding) (t u : OpenTable) → one.IsCarried told next t u → one.IsUntouched told next t u → IsUntouchedOne told next t u
table_untouched told next t u carried untouched = record { name = carried.same.name; untouched = untouched }

pub nothing_damaged : (told : Option Holding) (t : OpenTable) (f : ShellFault) → table.IsKept told t → t.broken ≡ None → NeverDamaged told t f → NothingDamaged told f
nothing_damaged told t (fault.Damaged at) kept whole never = λ m held. let k = kept whole m held in never m held k.0 k.1
nothing_damaged told t fault.File kept whole never = tt
nothing_damaged told t fault.Sink kept whole never = never
nothing_damaged told t fault.Memory kept whole never = tt

pub none_damaged : {T : Type 0} (told : Option Holding) (t : OpenTable) (result : Result T ShellFault) → table.IsKept told t → t.broken ≡ None → IfErr result (NeverDamaged told t) → IfErr result (NothingDamaged told)
none_damaged told t (Ok done) kept whole never = tt
none_damaged told t (Err f) kept whole never = nothing_damaged told t f kept whole never

-- ---- calls that end well

pub holds_one : {T E : Type 0} (told : Option Holding) (t : OpenTable) (P : Holding → TableState → Type 0) (result : Result T E) → OnOk result (table.IfHolds told t P) → OnOk result (IfHolds told (One t) (λ m s. P m s.table))
holds_one told t P (Ok done) h = λ m held s stands. h m held s.table stands
holds_one told t P (Err f) h = tt
