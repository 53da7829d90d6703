use Rattle.std.proofs.Common.{ap, sym, ◌∙◌, [], List, ℕ, Bor}
use Rattle.std.specs.List.{list_any}
use Rattle.std.specs.Ordering.{nat_cmp}
use Rattle.std.specs.Cmp.Lexicographic.{slice_cmp}
use Rattle.std.specs.BTreeMap.{is_at}
use Rattle.myi_mergelist.proofs.NameLemmas.{was_met, was_new, met_more, apart_more, twice, no_names}
use Rattle.myi_mergelist.proofs.list.has_repeat.Goals as goal

pub loop-name-init : goal.loop-name-init
loop-name-init c = record {
  met = λ q. ap (list_any (is_at (λ k. slice_cmp nat_cmp q k.now))) c.new-met.ensures.empty;
  apart = no_names;
}

pub returns-then-not-branch-clause-alike : goal.returns-then-not-branch-clause-alike
returns-then-not-branch-clause-alike c = λ e once.
    let d : Bor (List ℕ) = record { ref_ptr = (0, 0); now = [] } in
    twice (λ s. s.now) c.args.names.now c.loop-name.name-index d c.loop-name-test.true
    (sym (c.loop-name.invariant.met _) ∙ was_met _ c.in_ok-insert.field-0 c.in_ok-insert.ensures.added c.if-not-branch.true) once

pub loop-name-preserved : goal.loop-name-preserved
loop-name-preserved c =
    let d : Bor (List ℕ) = record { ref_ptr = (0, 0); now = [] } in
    record {
      met = λ q. met_more (λ s. s.now) c.args.names.now c.loop-name.name-index d q _ _ c.loop-name-test.true (c.loop-name.invariant.met q) (let k : Bor (List ℕ) = record { ref_ptr = (0, 0); now = q } in c.in_ok-insert.ensures.updates.0 k);
      apart = apart_more (λ s. s.now) c.args.names.now c.loop-name.name-index d c.loop-name-test.true c.loop-name.invariant.apart (sym (c.loop-name.invariant.met _) ∙ was_new _ c.in_ok-insert.field-0 c.in_ok-insert.ensures.added c.if-not-branch.false);
    }
