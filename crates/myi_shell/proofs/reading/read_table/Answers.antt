use Rattle.std.proofs.Common.{◌≡◌, ◌++◌, [], ◌∷◌, Some}
use Rattle.myi_history.specs.Answers.{rows, answer_on}
use Rattle.myi_history.specs.Reads.{found}
use Rattle.myi_history.specs.RoundTexts.{text_of}
use Rattle.myi_table.specs.Table.{defs_in}
use Rattle.myi_shell.specs.Stepping.{seen_rows}
use Rattle.myi_shell.proofs.TableTargets.{holds_one, none_damaged}
use Rattle.myi_shell.proofs.reading.read_table.Goals as goal

pub returns-clause-said : goal.returns-clause-said
returns-clause-said g c =
    holds_one (g.F.Files.holds c.args.files.now) c.args.table.now (λ m s. c.read.new.texts ≡ c.args.texts.now ++ text_of (answer_on c.args.line (rows (seen_rows c.args.view.below (found (defs_in c.args.table.now) s (Some c.args.act.now))) c.args.view.number)) ∷ [])
    c.read.result c.read.ensures.said

pub returns-clause-still : goal.returns-clause-still
returns-clause-still g c = λ m held s h. c.read.ensures.still m held s.table h

pub returns-clause-refused : goal.returns-clause-refused
returns-clause-refused g c = none_damaged (g.F.Files.holds c.args.files.now) c.args.table.now c.read.result c.requires.kept c.requires.whole c.read.ensures.refused
