use Rattle.std.proofs.Common.{◌∙◌, sym, refl, Some, None}
use Rattle.myi_base.specs.Holding.{bytes_of}
use Rattle.myi_state.specs.State.{row_at}
use Rattle.myi_slots.proofs.RowSteps.{reads-row, answer-some, answer-none, row-missing, row-found}
use Rattle.myi_slots.proofs.static_file.StaticFile.read_at.Goals as goal

pub returns-in-Some-clause-told : goal.returns-in-Some-clause-told
returns-in-Some-clause-told g c m held s k =
    answer-some c.args.at (row_at c.args.at s.rows) c.in-Some.row (reads-row c.args.self.now c.args.at m (Some c.in-Some.row) c.read_row.ensures.sound c.read_row.ensures.format (sym c.in-Some.is ∙ c.in_ok-row.ensures.told m held (c.requires.long m held)) s k)

pub returns-in-None-clause-told : goal.returns-in-None-clause-told
returns-in-None-clause-told g c m held s k =
    answer-none c.args.at (row_at c.args.at s.rows) (reads-row c.args.self.now c.args.at m None c.read_row.ensures.sound c.read_row.ensures.format (sym c.in-None.is ∙ c.in_ok-row.ensures.told m held (c.requires.long m held)) s k)

pub returns-in-Some-clause-there : goal.returns-in-Some-clause-there
returns-in-Some-clause-there g c m held = sym c.in-Some.is ∙ c.in_ok-row.ensures.told m held (c.requires.long m held)

pub returns-in-Some-clause-stood : goal.returns-in-Some-clause-stood
returns-in-Some-clause-stood g c m held = row-found c.args.self.now.defs (bytes_of c.args.self.now.name m) c.args.at c.in-Some.row (sym c.in-Some.is ∙ c.in_ok-row.ensures.told m held (c.requires.long m held))

pub returns-in-None-clause-causes : goal.returns-in-None-clause-causes
returns-in-None-clause-causes g c = (refl, λ m held. row-missing c.args.self.now.defs (bytes_of c.args.self.now.name m) c.args.at (sym c.in-None.is ∙ c.in_ok-row.ensures.told m held (c.requires.long m held)))
