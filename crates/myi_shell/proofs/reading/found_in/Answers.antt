use Rattle.std.proofs.Common.{◌∙◌, Option, refl, sym, subst, arith}
use Rattle.myi_defs.specs.declared.types.Defs.{Defs}
use Rattle.myi_history.specs.Lines.{IsRange, ReadsRange}
use Rattle.myi_history.specs.History.{in_list}
use Rattle.myi_table.specs.Table as table
use Rattle.myi_table.specs.Table.{OpenTable}
use Rattle.myi_merge.specs.Merged.{IsLike}
use Rattle.myi_merge.specs.Reading.{AnswersMerged}
use Rattle.std.specs.Prelude.{IfSome}
use Rattle.myi_shell.specs.declared.target.Target.TheVariants.{Many}
use Rattle.myi_shell.specs.Targets.{defs_at, defs_in}
use Rattle.myi_shell.proofs.ListLemmas.{are_like, key_first}
use Rattle.myi_shell.proofs.ListReads.{each_state, list_scan, list_nothing, list_range, key_of_range}
use Rattle.myi_shell.proofs.ListCarries.{reads_carried, reads_untouched, reads_whole}
use Rattle.myi_shell.proofs.CarryLemmas.{carried_none, still_none}
use Rattle.myi_shell.proofs.TargetTouches.{untouched_none}
use Rattle.myi_shell.proofs.reading.found_in.Goals as goal

pub range-requires-clause-key : goal.range-requires-clause-key
range-requires-clause-key g c κs within =
    let d = defs_in (Many c.args.merge.now) in
    let r : IsRange d c.in-Over.range = subst (ReadsRange d) c.in-Over.is c.requires.range in
    key_first c.args.merge.now c.in_ok-range-in-Over.range.key c.defs.ensures.list (key_of_range d c.in-Over.range c.in_ok-range-in-Over.range c.in_ok-range-in-Over.ensures r)

pub returns-in_err-scan-in-Scan-clause-carried : goal.returns-in_err-scan-in-Scan-clause-carried
returns-in_err-scan-in-Scan-clause-carried g c = carried_none (g.F.Files.holds c.args.files.now) (g.F.Files.holds c.scan.new.files) (Many c.args.merge.now) c.scan.ensures.holds c.requires.kept

pub returns-in_err-scan-in-Scan-clause-untouched : goal.returns-in_err-scan-in-Scan-clause-untouched
returns-in_err-scan-in-Scan-clause-untouched g c = untouched_none (g.F.Files.holds c.args.files.now) (g.F.Files.holds c.scan.new.files) (Many c.args.merge.now) c.scan.ensures.holds

pub returns-in_ok-scan-in-Scan-clause-carried : goal.returns-in_ok-scan-in-Scan-clause-carried
returns-in_ok-scan-in-Scan-clause-carried g c = carried_none (g.F.Files.holds c.args.files.now) (g.F.Files.holds c.scan.new.files) (Many c.args.merge.now) c.scan.ensures.holds c.requires.kept

pub returns-in_ok-scan-in-Scan-clause-untouched : goal.returns-in_ok-scan-in-Scan-clause-untouched
returns-in_ok-scan-in-Scan-clause-untouched g c = untouched_none (g.F.Files.holds c.args.files.now) (g.F.Files.holds c.scan.new.files) (Many c.args.merge.now) c.scan.ensures.holds

pub returns-in_err-range-in-Over-clause-carried : goal.returns-in_err-range-in-Over-clause-carried
returns-in_err-range-in-Over-clause-carried g c = carried_none (g.F.Files.holds c.args.files.now) (g.F.Files.holds c.args.files.now) (Many c.args.merge.now) refl c.requires.kept

pub returns-in_err-range-in-Over-clause-untouched : goal.returns-in_err-range-in-Over-clause-untouched
returns-in_err-range-in-Over-clause-untouched g c = untouched_none (g.F.Files.holds c.args.files.now) (g.F.Files.holds c.args.files.now) (Many c.args.merge.now) refl

pub returns-in_err-range-in-Over-2-clause-carried : goal.returns-in_err-range-in-Over-2-clause-carried
returns-in_err-range-in-Over-2-clause-carried g c = reads_carried (g.F.Files.holds c.args.files.now) (g.F.Files.holds c.range.new.files) c.args.merge.now c.range.new.self c.range.ensures.method c.range.ensures.carried

pub returns-in_err-range-in-Over-2-clause-untouched : goal.returns-in_err-range-in-Over-2-clause-untouched
returns-in_err-range-in-Over-2-clause-untouched g c = reads_untouched (g.F.Files.holds c.args.files.now) (g.F.Files.holds c.range.new.files) c.args.merge.now c.range.new.self c.range.ensures.method c.range.ensures.carried

pub returns-in_err-range-in-Over-2-clause-whole : goal.returns-in_err-range-in-Over-2-clause-whole
returns-in_err-range-in-Over-2-clause-whole g c = reads_whole (g.F.Files.holds c.args.files.now) (g.F.Files.holds c.range.new.files) c.args.merge.now c.range.new.self c.requires.whole c.range.ensures.carried

pub returns-in_ok-range-in-Over-2-clause-carried : goal.returns-in_ok-range-in-Over-2-clause-carried
returns-in_ok-range-in-Over-2-clause-carried g c = reads_carried (g.F.Files.holds c.args.files.now) (g.F.Files.holds c.range.new.files) c.args.merge.now c.range.new.self c.range.ensures.method c.range.ensures.carried

pub returns-in_ok-range-in-Over-2-clause-untouched : goal.returns-in_ok-range-in-Over-2-clause-untouched
returns-in_ok-range-in-Over-2-clause-untouched g c = reads_untouched (g.F.Files.holds c.args.files.now) (g.F.Files.holds c.range.new.files) c.args.merge.now c.range.new.self c.range.ensures.method c.range.ensures.carried

pub returns-in_ok-range-in-Over-2-clause-whole : goal.returns-in_ok-range-in-Over-2-clause-whole
returns-in_ok-range-in-Over-2-clause-whole g c = reads_whole (g.F.Files.holds c.args.files.now) (g.F.Files.holds c.range.new.files) c.args.merge.now c.range.new.self c.requires.whole c.range.ensures.carried

pub returns-in_ok-scan-in-Scan-clause-rows : goal.returns-in_ok-scan-in-Scan-clause-rows
returns-in_ok-scan-in-Scan-clause-rows g c = λ m held s h.
    let ss = in_list s.beside s.table in
    list_scan (defs_in (Many c.args.merge.now)) ss c.args.act.now c.in_ok-scan-in-Scan.field-0.items c.in-Scan.is (c.in_ok-scan-in-Scan.ensures.rows m held ss h.0)

pub returns-in_ok-range-in-Over-2-clause-rows : goal.returns-in_ok-range-in-Over-2-clause-rows
returns-in_ok-range-in-Over-2-clause-rows g c = λ m held s h.
    let d = defs_in (Many c.args.merge.now) in
    let ss = in_list s.beside s.table in
    let ts = c.args.merge.now.tables in
    let range = c.in_ok-range-in-Over.range in
    let a = are_like c.args.merge.now c.defs.ensures.list in
    let r : IsRange d c.in-Over.range = subst (ReadsRange d) c.in-Over.is c.requires.range in
    let like : IsLike (table.defs_in a.first) d = subst (λ (o : Option OpenTable). IsLike (table.defs_in a.first) (defs_at o)) (sym a.is_taker) a.like in
    let answers = subst (λ (o : Option OpenTable). IfSome o (λ (t : OpenTable). AnswersMerged (table.defs_in t) ts ss range (g.F.Files.reads c.args.files.now) (g.F.Files.reads c.range.new.files) c.in_ok-range-in-Over-2.field-0.items)) a.is_first (c.in_ok-range-in-Over-2.ensures.rows m held ss h.0) in
    list_range (table.defs_in a.first) d ts ss c.args.act.now c.in-Over.range range c.in_ok-range-in-Over-2.field-0.items _ _ c.in-Over.is c.in_ok-range-in-Over.ensures r like (each_state ts ss m h.0) answers

pub returns-in_default : goal.returns-in_default
returns-in_default g c =
    let told = g.F.Files.holds c.args.files.now in
    let list = Many c.args.merge.now in
    record {
      rows = λ m held s h. c.new.ensures.items ∙ list_nothing (defs_in list) (in_list s.beside s.table) c.args.act.now c.in_default.not-Scan c.in_default.not-Over;
      still = still_none told told list refl;
      carried = carried_none told told list refl c.requires.kept;
      untouched = untouched_none told told list refl;
      whole = c.requires.whole;
      refused = tt;
      cause = record { later = omega arith; cause = λ e. cc };
    }
