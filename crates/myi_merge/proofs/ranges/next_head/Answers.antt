use Rattle.std.proofs.Common.{◌≡◌, ℕ, suc, ◌+◌, ◌≤◌, true, false, Option, sym, ap, subst, ◌∙◌, arith}
use Rattle.myi_defs.specs.declared.types.Defs.{Defs}
use Rattle.myi_pack.specs.Packed.{Values}
use Rattle.myi_pack.specs.Spelling.{fits}
use Rattle.myi_data.specs.Keys.{key_of}
use Rattle.std.specs.Prelude.{IfSome}
use Rattle.myi_ranges.specs.Ranges.{Answers, searches, ReadInFew}
use Rattle.myi_table.specs.Table.{defs_in}
use Rattle.myi_merge.proofs.ReadLemmas.{fits_row, untold}
use Rattle.myi_merge.proofs.ranges.next_head.Goals as goal

pub returns-in_default-clause-head : goal.returns-in_default-clause-head
returns-in_default-clause-head g c = λ m told s h. record {
  answers = subst (λ (o : Option (ℕ × Values)). Answers (defs_in c.args.table.now) s c.args.rows.now c.next_in_range-next.new.rows o) c.in_default.is (c.in_ok-at.ensures.row m told s h);
  key = tt;
}

pub returns-then-not-fits-clause-never : goal.returns-then-not-fits-clause-never
returns-then-not-fits-clause-never g c = untold (g.F.Files.holds c.args.files.now) (λ m told.
    let d : Defs = defs_in c.args.table.now in
    let kept = c.requires.kept c.in_ok-at.ensures.whole m told in
    let answers = subst (λ (o : Option (ℕ × Values)). Answers d kept.0 c.args.rows.now c.next_in_range-next.new.rows o) c.in-Some.is (c.in_ok-at.ensures.row m told kept.0 kept.1) in
    let fit : fits d c.in-Some.row ≡ true = fits_row d kept.0 c.args.rows.now c.next_in_range-next.new.rows c.in-Some.at c.in-Some.row kept.1.files.table.table.fit answers in
    let bad : false ≡ true = sym c.if-not-fits.true ∙ c.fits.ensures ∙ ap (λ (e : Defs). fits e c.in-Some.row) (c.defs.ensures.defs ∙ c.in_ok-at.ensures.same.defs) ∙ fit in
    cc)

pub returns-clause-head : goal.returns-clause-head
returns-clause-head g c = λ m told s h. record {
  answers = subst (λ (o : Option (ℕ × Values)). Answers (defs_in c.args.table.now) s c.args.rows.now c.next_in_range-next.new.rows o) c.in-Some.is (c.in_ok-at.ensures.row m told s h);
  key =
      let next : c.args.key + 1 ≡ suc c.args.rows.now.key = let same = c.requires.key in omega (arith, same) in
      c.in_ok-key.ensures ∙ ap (λ (e : Defs). key_of e (c.args.key + 1) c.in-Some.row) (c.defs-2.ensures.defs ∙ c.in_ok-at.ensures.same.defs) ∙ ap (λ (k : ℕ). key_of (defs_in c.args.table.now) k c.in-Some.row) next;
}

pub returns-in_default-clause-few : goal.returns-in_default-clause-few
returns-in_default-clause-few g c = λ m told s h.
    subst (λ (o : Option (ℕ × Values)). ReadInFew (defs_in c.args.table.now) s c.args.rows.now o (g.F.Files.reads c.args.files.now) (g.F.Files.reads c.next_in_range-next.new.files)) c.in_default.is (c.in_ok-at.ensures.few m told s h)

pub returns-clause-few : goal.returns-clause-few
returns-clause-few g c = λ m told s h.
    subst (λ (o : Option (ℕ × Values)). ReadInFew (defs_in c.args.table.now) s c.args.rows.now o (g.F.Files.reads c.args.files.now) (g.F.Files.reads c.next_in_range-next.new.files)) c.in-Some.is (c.in_ok-at.ensures.few m told s h)

pub returns-clause-once : goal.returns-clause-once
returns-clause-once g c = subst (λ (o : Option (ℕ × Values)). IfSome o (λ found. searches c.next_in_range-next.new.rows.reached ≤ 1)) c.in-Some.is c.in_ok-at.ensures.onward

pub returns-in_err-at-clause-only : goal.returns-in_err-at-clause-only
returns-in_err-at-clause-only g c =
    let one = c.next_in_range-next.ensures in
    record { still = one.still; same = one.same; broken = one.broken; changed = one.changed; left = one.left; counted = one.counted }

pub returns-in_default-clause-only : goal.returns-in_default-clause-only
returns-in_default-clause-only g c =
    let one = c.next_in_range-next.ensures in
    record { still = one.still; same = one.same; broken = one.broken; changed = one.changed; left = one.left; counted = one.counted }

pub returns-then-not-fits-clause-only : goal.returns-then-not-fits-clause-only
returns-then-not-fits-clause-only g c =
    let one = c.next_in_range-next.ensures in
    record { still = one.still; same = one.same; broken = one.broken; changed = one.changed; left = one.left; counted = one.counted }

pub returns-in_err-key-clause-only : goal.returns-in_err-key-clause-only
returns-in_err-key-clause-only g c =
    let one = c.next_in_range-next.ensures in
    record { still = one.still; same = one.same; broken = one.broken; changed = one.changed; left = one.left; counted = one.counted }

pub returns-clause-only : goal.returns-clause-only
returns-clause-only g c =
    let one = c.next_in_range-next.ensures in
    record { still = one.still; same = one.same; broken = one.broken; changed = one.changed; left = one.left; counted = one.counted }
