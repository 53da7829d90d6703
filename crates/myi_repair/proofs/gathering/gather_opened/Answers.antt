use Rattle.std.proofs.Common.{rules, ◌≡◌, ◌∙◌, List, length, map, arith, sym, ap, subst}
use Rattle.myi_base.proofs.CallerLemmas.{told_then}
use Rattle.myi_defs.proofs.CallerLemmas.{sound}
use Rattle.std.specs.List.{filter}
use Rattle.myi_keylist.specs.declared.pair.Pair.{Pair}
use Rattle.myi_keylist.specs.Columns.{has_flag}
use Rattle.myi_rowkeys.proofs.CallerLemmas.{length-number_pairs}
use Rattle.myi_repair.specs.Names.{names_of}
use Rattle.myi_repair.specs.Keeping.{is_chosen}
use Rattle.myi_repair.specs.Gathering.{TakesChosen, all_chosen}
use Rattle.myi_repair.proofs.KeepLaws.{short_enough}
use Rattle.myi_repair.proofs.GatherLaws.{begins_known, still_known, all_gathered, all_laid, kept_gathered, kept_laid, lists_sorted, length-sorts, written_long}
use Rattle.myi_repair.proofs.gathering.gather_opened.Goals as goal

pub scan_of-requires : goal.scan_of-requires
scan_of-requires g c = sound c.args.opened.defs c.requires.defs

pub scan_of-requires-2 : goal.scan_of-requires-2
scan_of-requires-2 g c = sound c.args.opened.defs c.requires.defs

pub take_rows-requires-clause-current : goal.take_rows-requires-clause-current
take_rows-requires-clause-current g c κs lives m held = begins_known (names_of c.args.table.now) c.args.opened.defs c.args.extend c.args.opened.length c.in_ok-scan.scan m c.in_ok-scan.ensures (c.requires.table m held)

pub sort_unique-requires : goal.sort_unique-requires
sort_unique-requires g c = ap (λ (ls : List (List Pair)). length ls) c.in_ok-rows.ensures.took.2 ∙ length-number_pairs c.args.opened.defs c.in_ok-rows.ensures.took.0

pub has_repeat-requires : goal.has_repeat-requires
has_repeat-requires g c = length-sorts c.args.opened.defs c.in_ok-rows.ensures.took.0 c.in_ok-rows.keys c.sort_unique.new.self c.in_ok-rows.ensures.took.2 c.sort_unique.ensures

pub returns-then-not-has_repeat-clause-gathered : goal.returns-then-not-has_repeat-clause-gathered
returns-then-not-has_repeat-clause-gathered g c =
    all_gathered (names_of c.args.table.now) c.args.opened.defs c.args.extend c.args.opened.length c.in_ok-scan.scan c.as_str-file.result.now c.in_ok-rows.rows c.in_ok-rows.keys c.sort_unique.new.self c.into_gathered.result _ _ c.requires.defs
    c.in_ok-scan.ensures c.as_str-file.ensures.value c.requires.table (λ m held. g.met.F.Files.told_bytes c.args.files.now m held) c.in_ok-rows.ensures.took c.sort_unique.ensures (sym c.has_repeat.ensures ∙ c.if-not-has_repeat.true) c.into_gathered.ensures

pub returns-then-not-has_repeat-clause-pairs : goal.returns-then-not-has_repeat-clause-pairs
returns-then-not-has_repeat-clause-pairs g c =
    all_laid c.args.opened.defs c.args.opened.length c.in_ok-rows.rows c.in_ok-rows.keys c.sort_unique.new.self c.in_ok-scan.scan c.as_str-file.result.now c.into_gathered.result _ _ (sound c.args.opened.defs c.requires.defs) c.in_ok-rows.ensures.took c.sort_unique.ensures c.into_gathered.ensures

pub keep_first-requires-clause-all : goal.keep_first-requires-clause-all
keep_first-requires-clause-all g c = length-sorts c.args.opened.defs c.in_ok-rows.ensures.took.0 c.in_ok-rows.keys c.sort_unique.new.self c.in_ok-rows.ensures.took.2 c.sort_unique.ensures

pub keep_first-requires-clause-few : goal.keep_first-requires-clause-few
keep_first-requires-clause-few g c =
    let took = c.in_ok-rows.ensures.took in
    let many = written_long c.args.opened.defs all_chosen took.0 c.in_ok-rows.rows took.1.written in
    let end : c.in_ok-scan.scan.end ≡ c.args.opened.length = ap (λ s. s.end) c.in_ok-scan.ensures in
    omega (arith, c.len.ensures, many, took.1.few, end, short_enough c.args.opened.defs c.args.opened.length c.requires.reached)

pub keep_first-requires-clause-lists : goal.keep_first-requires-clause-lists
keep_first-requires-clause-lists g c =
    let took = c.in_ok-rows.ensures.took in
    let many = written_long c.args.opened.defs all_chosen took.0 c.in_ok-rows.rows took.1.written in
    (took.0, omega (arith, c.len.ensures, many), lists_sorted c.args.opened.defs took.0 c.in_ok-rows.keys c.sort_unique.new.self took.2 c.sort_unique.ensures)

pub keep_rows-requires-clause-current : goal.keep_rows-requires-clause-current
keep_rows-requires-clause-current g c κs lives n now =
    still_known (names_of c.args.table.now) c.args.opened.defs c.args.extend c.args.opened.length c.in_ok-again.again c.as_str-file.result.now _ _ c.in_ok-again.ensures c.as_str-file.ensures.value c.requires.apart.rows-new_rows c.requires.table c.take_rows.ensures.ends.others n now

pub returns-in_err-kept-clause-ends : goal.returns-in_err-kept-clause-ends
returns-in_err-kept-clause-ends g c = record {
  cut = search rules;
  others = told_then _ _ _ _ _ _ c.take_rows.ensures.ends.others c.keep_rows.ensures.ends.others (λ m k n one two q differs. two q (λ e. differs (e ∙ c.as_str-file.ensures.value)) ∙ one q (λ e. differs (e ∙ c.as_str-file.ensures.value)));
  cause = search rules;
}

pub returns-clause-ends : goal.returns-clause-ends
returns-clause-ends g c = record {
  cut = search rules;
  others = told_then _ _ _ _ _ _ c.take_rows.ensures.ends.others c.keep_rows.ensures.ends.others (λ m k n one two q differs. two q (λ e. differs (e ∙ c.as_str-file.ensures.value)) ∙ one q (λ e. differs (e ∙ c.as_str-file.ensures.value)));
  cause = search rules;
}

pub returns-clause-gathered : goal.returns-clause-gathered
returns-clause-gathered g c =
    let flags = c.in_ok-flags.ensures in
    let number : c.len.result ≡ length c.in_ok-rows.rows.pointers = c.len.ensures in
    let given = c.deref.ensures.value in
    let same = c.deref-2.ensures.value in
    kept_gathered (names_of c.args.table.now) c.args.opened.defs c.args.extend c.args.opened.length c.in_ok-scan.scan c.in_ok-again.again c.as_str-file.result.now c.in_ok-flags.flags.items c.in_ok-rows.rows c.in_ok-kept.kept c.in_ok-rows.keys c.sort_unique.new.self c.retain.new.self c.into_gathered-2.result _ _ _
    c.requires.defs c.requires.apart.rows-new_rows c.in_ok-scan.ensures c.in_ok-again.ensures c.as_str-file.ensures.value c.requires.table (λ m held. g.met.F.Files.told_bytes c.args.files.now m held) c.in_ok-rows.ensures.took c.take_rows.ensures.ends.others c.sort_unique.ensures
    (flags.long ∙ number) (λ all many are. flags.kept all (many ∙ sym number) are)
    (subst (λ fs. TakesChosen c.args.opened.defs c.in_ok-again.again c.as_str-file.result.now (is_chosen fs) c.in_ok-kept.kept (g.F.Files.holds c.take_rows.new.files) (g.F.Files.holds c.keep_rows.new.files)) given c.in_ok-kept.ensures.took)
    (c.retain.ensures ∙ ap (λ fs. map (filter (has_flag fs)) c.sort_unique.new.self) same) c.into_gathered-2.ensures

pub returns-clause-pairs : goal.returns-clause-pairs
returns-clause-pairs g c =
    kept_laid c.args.opened.defs c.args.opened.length c.in_ok-rows.rows c.in_ok-kept.kept c.in_ok-rows.keys c.sort_unique.new.self c.retain.new.self c.in_ok-scan.scan c.in_ok-again.again c.as_str-file.result.now c.in_ok-flags.flags.items (is_chosen c.deref.result.now) c.into_gathered-2.result _ _ _ _
    (sound c.args.opened.defs c.requires.defs) c.in_ok-rows.ensures.took c.sort_unique.ensures c.in_ok-kept.ensures.took (c.retain.ensures ∙ ap (λ fs. map (filter (has_flag fs)) c.sort_unique.new.self) c.deref-2.ensures.value) c.into_gathered-2.ensures
