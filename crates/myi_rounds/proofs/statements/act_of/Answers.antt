use Rattle.std.proofs.Common.{rules, ◌≡◌, true, false, ℕ, sym, subst, arith}
use Rattle.std.specs.Prelude.{nat_lt}
use Rattle.std.specs.List.Sorted.{IsPartitionPoint}
use Rattle.std.proofs.lemmas.List.Sorted.{IsPartitionPoint-from_clause}
use Rattle.myi_script.specs.declared.types.Line.{Line}
use Rattle.myi_rounds.proofs.StatementLemmas.{is_parted, act_found, act_missed, act_none}
use Rattle.myi_rounds.proofs.statements.act_of.Goals as goal

pub returns-then-at-lines : goal.returns-then-at-lines
returns-then-at-lines c =
    let n = c.args.line in
    let ls = c.args.lines.now in
    let point : IsPartitionPoint (λ (l : Line). nat_lt l.line n ≡ true) (λ (l : Line). nat_lt l.line n ≡ false) ls c.partition_point-at.result = IsPartitionPoint-from_clause (λ (l : Line). nat_lt l.line n) ls _ c.partition_point-at.ensures.partitioned (is_parted n 1 ls c.requires.grow) (λ x b f' k. search rules) in
    sym (act_none n ls (subst (λ (i : ℕ). IsPartitionPoint (λ (l : Line). nat_lt l.line n ≡ true) (λ (l : Line). nat_lt l.line n ≡ false) ls i) c.if-at-lines.true point))

pub returns-then-one-line : goal.returns-then-one-line
returns-then-one-line c =
    let n = c.args.line in
    let ls = c.args.lines.now in
    let point : IsPartitionPoint (λ (l : Line). nat_lt l.line n ≡ true) (λ (l : Line). nat_lt l.line n ≡ false) ls c.partition_point-at.result = IsPartitionPoint-from_clause (λ (l : Line). nat_lt l.line n) ls _ c.partition_point-at.ensures.partitioned (is_parted n 1 ls c.requires.grow) (λ x b f' k. search rules) in
    act_found n 1 ls c.partition_point-at.result c.index-lines-at.result c.requires.grow point (omega (arith, c.partition_point-at.ensures.bound, c.if-at-lines.false)) c.index-lines-at.is c.if-one-line.true

pub returns-else-one-line : goal.returns-else-one-line
returns-else-one-line c =
    let n = c.args.line in
    let ls = c.args.lines.now in
    let point : IsPartitionPoint (λ (l : Line). nat_lt l.line n ≡ true) (λ (l : Line). nat_lt l.line n ≡ false) ls c.partition_point-at.result = IsPartitionPoint-from_clause (λ (l : Line). nat_lt l.line n) ls _ c.partition_point-at.ensures.partitioned (is_parted n 1 ls c.requires.grow) (λ x b f' k. search rules) in
    act_missed n 1 ls c.partition_point-at.result c.index-lines-at.result c.requires.grow point (omega (arith, c.partition_point-at.ensures.bound, c.if-at-lines.false)) c.index-lines-at.is c.if-one-line.false
