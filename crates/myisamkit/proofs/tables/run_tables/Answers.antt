use Rattle.std.proofs.Common.{arith, ◌≡◌, ◌≢◌, ◌<◌, ◌≤◌, length, true, map, drop, ◌+◌, string_bytes, sym, subst, ap, ◌∙◌, Err}
use Rattle.std.specs.Prelude.{IfErr, OnErr}
use Rattle.std.proofs.lemmas.Result.{err_from_is_err_and}
use Rattle.myi_base.specs.Holding.{Told, IfTold}
use Rattle.myisamkit.specs.declared.status.Status.TheVariants as status
use Rattle.myisamkit.specs.Reading.{is_table, tables_left, names_none, names_behind}
use Rattle.myisamkit.specs.Statuses.{IsFault}
use Rattle.myisamkit.specs.Runs.{TablesSaidPart, TablesStop}
use Rattle.myisamkit.specs.Turns.{MayFind}
use Rattle.myisamkit.proofs.TableLaws.{Reached, reached_none, reached_next, worse_keeps, left_here, none_left, run_said, run_done, stops_told, part_told}
use Rattle.myisamkit.proofs.tables.run_tables.Goals as goal

pub loop-word-init : goal.loop-word-init
loop-word-init g c = record {
  plain = λ e. e;
  usage = λ e. absurd cc;
  findings = λ e. absurd cc;
  later = omega arith;
  sink_later = omega arith;
  untold = λ e. e;
  so_far = λ m held. (
    m,
    held,
    subst (λ k. Reached c.args.options.now c.args.now (tables_left names_none (map (λ w. string_bytes w) c.args.words.now)) (tables_left k (map (λ w. string_bytes w) c.args.words.now)) status.Ok m m (g.O.Sink.written c.args.out.now) (g.O.Sink.written c.args.out.now)) (sym c.new-names.ensures)
        (reached_none c.args.options.now c.args.now (tables_left names_none (map (λ w. string_bytes w) c.args.words.now)) m (g.O.Sink.written c.args.out.now)),
  );
}

pub returns-clause-said : goal.returns-clause-said
returns-clause-said g c =
    let past : length c.args.words.now ≤ c.loop-word.word-index = omega arith in
    run_said _ _ _ _ _ _ _ _ _ (none_left (λ w. string_bytes w) c.args.words.now c.loop-word.word-index c.loop-word.names past) c.loop-word.invariant.so_far

pub returns-clause-done : goal.returns-clause-done
returns-clause-done g c =
    let past : length c.args.words.now ≤ c.loop-word.word-index = omega arith in
    run_done _ _ _ _ _ _ _ _ _ (none_left (λ w. string_bytes w) c.args.words.now c.loop-word.word-index c.loop-word.names past) c.loop-word.invariant.untold c.loop-word.invariant.so_far

pub returns-in_err-table-clause-part : goal.returns-in_err-table-clause-part
returns-in_err-table-clause-part g c =
    let e = err_from_is_err_and c.from_residual.result c.from_residual.ensures.1 in
    let within : c.loop-word.word-index < length c.args.words.now = omega arith in
    let one : is_table c.loop-word.names c.as_str-word.result.now ≡ true = sym c.take.ensures.named ∙ c.if-not-take.false in
    let here = left_here (λ w. string_bytes w) c.args.words.now c.loop-word.word-index c.word-item.result c.as_str-word.result.now c.table_name.result.now c.loop-word.names within c.word-item.is c.as_str-word.ensures.value one c.table_name.ensures in
    subst
    (λ r. OnErr r (IfTold (g.F.Files.holds c.args.files.now) (TablesSaidPart c.args.options.now c.args.now (tables_left names_none (map (λ w. string_bytes w) c.args.words.now)) (g.O.Sink.written c.args.out.now) (g.O.Sink.written c.run_table.new.out))))
    (sym (e.1 ∙ ap Err e.2))
    (part_told _ _ _ _ _ _ _ _ _ _ _ _ here c.loop-word.invariant.so_far c.in_err-table.ensures.part)

pub returns-in_err-table-clause-stops : goal.returns-in_err-table-clause-stops
returns-in_err-table-clause-stops g c =
    let e = err_from_is_err_and c.from_residual.result c.from_residual.ensures.1 in
    let within : c.loop-word.word-index < length c.args.words.now = omega arith in
    let one : is_table c.loop-word.names c.as_str-word.result.now ≡ true = sym c.take.ensures.named ∙ c.if-not-take.false in
    let here = left_here (λ w. string_bytes w) c.args.words.now c.loop-word.word-index c.word-item.result c.as_str-word.result.now c.table_name.result.now c.loop-word.names within c.word-item.is c.as_str-word.ensures.value one c.table_name.ensures in
    subst
    (λ r. IfErr r (λ stop. Told (g.F.Files.holds c.args.files.now) (g.F.Files.holds c.run_table.new.files) (TablesStop c.args.options.now c.args.now (g.F.Files.faults c.args.files.now) (g.F.Files.faults c.run_table.new.files) (tables_left names_none (map (λ w. string_bytes w) c.args.words.now)) stop)))
    (sym (e.1 ∙ ap Err e.2))
    (stops_told _ _ _ _ _ _ _ _ _ _ _ _ _ _ _ _ c.loop-word.invariant.later here c.loop-word.invariant.untold c.loop-word.invariant.so_far c.in_err-table.ensures.stops)

pub loop-word-preserved : goal.loop-word-preserved
loop-word-preserved g c =
    let within : c.loop-word.word-index < length c.args.words.now = omega arith in
    let one : is_table c.loop-word.names c.as_str-word.result.now ≡ true = sym c.take.ensures.named ∙ c.if-not-take.false in
    let here = left_here (λ w. string_bytes w) c.args.words.now c.loop-word.word-index c.word-item.result c.as_str-word.result.now c.table_name.result.now c.loop-word.names within c.word-item.is c.as_str-word.ensures.value one c.table_name.ensures in
    record {
      plain = subst (λ s. IsFault s → ⊥) (sym c.worse-status.ensures) (worse_keeps (λ s. IsFault s → ⊥) _ _ c.loop-word.invariant.plain c.in_ok-table.ensures.plain);
      usage = subst (λ s. s ≢ status.Usage) (sym c.worse-status.ensures) (worse_keeps (λ s. s ≢ status.Usage) _ _ c.loop-word.invariant.usage c.in_ok-table.ensures.usage);
      findings = subst (λ s. s ≡ status.Findings → MayFind c.args.options.now) (sym c.worse-status.ensures) (worse_keeps (λ s. s ≡ status.Findings → MayFind c.args.options.now) _ _ c.loop-word.invariant.findings c.in_ok-table.ensures.findings);
      later = omega (arith, c.loop-word.invariant.later, c.in_ok-table.ensures.file.later);
      sink_later = omega (arith, c.loop-word.invariant.sink_later, c.in_ok-table.ensures.sink.later);
      untold = λ e. c.in_ok-table.ensures.done.untold (c.loop-word.invariant.untold e);
      so_far = λ m0 told.
          let r = c.loop-word.invariant.so_far m0 told in
          let n = c.in_ok-table.ensures.done.told r.0 r.1 in (
            n.0,
            n.1,
            subst (λ k. Reached c.args.options.now c.args.now (tables_left names_none (map (λ w. string_bytes w) c.args.words.now)) (tables_left k (map (λ w. string_bytes w) (drop (c.loop-word.word-index + 1) c.args.words.now))) c.worse-status.result m0 n.0 (g.O.Sink.written c.args.out.now) (g.O.Sink.written c.run_table.new.out)) (sym c.take.ensures.behind)
                (subst (λ s. Reached c.args.options.now c.args.now (tables_left names_none (map (λ w. string_bytes w) c.args.words.now)) (tables_left (names_behind c.loop-word.names c.as_str-word.result.now) (map (λ w. string_bytes w) (drop (c.loop-word.word-index + 1) c.args.words.now))) s m0 n.0 (g.O.Sink.written c.args.out.now) (g.O.Sink.written c.run_table.new.out)) (sym c.worse-status.ensures)
                (reached_next _ _ _ _ _ _ _ _ _ _ _ _ _ (subst (λ l. Reached c.args.options.now c.args.now (tables_left names_none (map (λ w. string_bytes w) c.args.words.now)) l c.loop-word.status m0 r.0 (g.O.Sink.written c.args.out.now) (g.O.Sink.written c.loop-word.out)) here r.2) (c.in_ok-table.ensures.status r.0 r.1) n.2 (c.in_ok-table.ensures.said r.0 r.1))),
          );
    }
