use Rattle.std.proofs.Common.{◌+◌, ◌-◌, ℕ, List, cond, length, refl, arith}
use Rattle.myi_keypage.specs.Page.{entry_with, entry_bytes}
use Rattle.myi_keypage.specs.declared.entry.Entry.{Entry}
use Rattle.myi_keypage.proofs.FitLaws.{fit_exactly, fronts_used, counts_step, counts_now}
use Rattle.myi_keypage.proofs.WriteLaws.{keyed_at}
use Rattle.myi_keypage.proofs.fit.fitting_of.Goals as goal

pub returns-then-left-need-clause-exact : goal.returns-then-left-need-clause-exact
returns-then-left-need-clause-exact g c =
    let es : List Entry = g.L.EntryList.entries c.args.entries.now in
    let done : ℕ = c.args.room - c.loop-i.left in
    let k = keyed_at es c.loop-i.i c.code-key.result.now (omega arith) c.code-key.ensures in
    let e : Entry = entry_with c.code-key.result.now k.0 in
    let last : ℕ = done + (length (entry_bytes c.args.rec_ref c.loop-i.before.now e) + cond c.args.node 7 0) in
    let now = counts_now c.args.rec_ref c.args.node es c.loop-i.i c.loop-i.before.now done c.loop-i.invariant.so_far in
    let step = counts_step c.args.rec_ref c.args.node es c.loop-i.i c.loop-i.before.now done last e (omega arith) k.1 refl c.loop-i.invariant.so_far in
    let next = counts_now c.args.rec_ref c.args.node es (c.loop-i.i + 1) e.key last step in
    fit_exactly c.args.rec_ref c.args.node es c.args.room c.loop-i.i (omega (arith, now)) (λ lt. omega (arith, next, c.entry_length.ensures.value k.0, c.loop-i.invariant.child, c.loop-i.invariant.within))

pub loop-i-preserved : goal.loop-i-preserved
loop-i-preserved g c =
    let es : List Entry = g.L.EntryList.entries c.args.entries.now in
    let k = keyed_at es c.loop-i.i c.code-key.result.now (omega arith) c.code-key.ensures in
    record {
      child = c.loop-i.invariant.child;
      bound = c.loop-i.invariant.bound;
      within = omega (arith, c.loop-i.invariant.within);
      so_far = counts_step c.args.rec_ref c.args.node es c.loop-i.i c.loop-i.before.now _ _ (entry_with c.code-key.result.now k.0) (omega arith) k.1
          (omega (arith, c.entry_length.ensures.value k.0, c.loop-i.invariant.child, c.loop-i.invariant.within)) c.loop-i.invariant.so_far;
    }

pub returns-clause-exact : goal.returns-clause-exact
returns-clause-exact g c = λ count some inside.
    let es : List Entry = g.L.EntryList.entries c.args.entries.now in
    let now = counts_now c.args.rec_ref c.args.node es c.loop-i.i c.loop-i.before.now _ c.loop-i.invariant.so_far in
    (λ le. omega (arith, now, fronts_used c.args.rec_ref c.args.node count c.loop-i.i es (omega arith)), λ fit. omega arith)
