use Rattle.std.proofs.Common.{sym, subst}
use Rattle.std.specs.List.{AllByRecursion}
use Rattle.myi_check.specs.HeldBytes.{EndsNear}
use Rattle.myi_check.specs.Met.{NotesBlocks}
use Rattle.myi_check.proofs.MetLemmas.{answered_row, answered_free, row_read, free_read, blocks_near}
use Rattle.myi_check.proofs.met.Met.read.Goals as goal

pub note_pairs-requires-clause-all : goal.note_pairs-requires-clause-all
note_pairs-requires-clause-all g c = c.requires.met.1.lists

pub note_blocks-requires : goal.note_blocks-requires
note_blocks-requires g c =
    let h = g.F.Files.holds c.args.files.now in
    let new = c.next_item.follows.lender-at-none in
    let answer = answered_row h c.args.scan.now new _ _ _ c.in-Ok-Some-Row.at c.in-Ok-Some-Row.piece c.in-Ok-Some-Row.is c.in-Ok-Some-Row.field-0-is c.in-Ok-Some-Row.field-0-0-is c.next_item.follows.holds-at-none in
    subst (AllByRecursion EndsNear) (sym c.blocks-in-Ok-Some-Row.ensures) (blocks_near _ _ answer.0.stands.1.1)

pub note_free-requires : goal.note_free-requires
note_free-requires g c =
    let answer = answered_free (g.F.Files.holds c.args.files.now) c.args.scan.now c.next_item.follows.lender-at-none _ _ _ c.in-Ok-Some-Free.at c.in-Ok-Some-Free.size c.in-Ok-Some-Free.is c.in-Ok-Some-Free.field-0-is c.in-Ok-Some-Free.field-0-0-is c.next_item.follows.holds-at-none in
    answer.0.stands.1.1

pub returns-in_ok-note_blocks-in-Ok-Some-Row-clause-read : goal.returns-in_ok-note_blocks-in-Ok-Some-Row-clause-read
returns-in_ok-note_blocks-in-Ok-Some-Row-clause-read g c =
    let h = g.F.Files.holds c.args.files.now in
    let new = c.next_item.follows.lender-at-none in
    let answer = answered_row h c.args.scan.now new _ _ _ c.in-Ok-Some-Row.at c.in-Ok-Some-Row.piece c.in-Ok-Some-Row.is c.in-Ok-Some-Row.field-0-is c.in-Ok-Some-Row.field-0-0-is c.next_item.follows.holds-at-none in
    row_read c.args.defs.now c.args.self.now.together h c.args.scan.now new c.in-Ok-Some-Row.at c.in-Ok-Some-Row.piece c.bytes.result.now c.args.self.now c.note_pairs.new.self c.note_blocks.new.self answer c.bytes.ensures c.in_ok-note_pairs-in-Ok-Some-Row.ensures
    (subst (λ bs. NotesBlocks bs c.note_pairs.new.self c.note_blocks.new.self) c.blocks-in-Ok-Some-Row.ensures c.in_ok-note_blocks-in-Ok-Some-Row.ensures)

pub returns-in_ok-note_free-in-Ok-Some-Free-clause-read : goal.returns-in_ok-note_free-in-Ok-Some-Free-clause-read
returns-in_ok-note_free-in-Ok-Some-Free-clause-read g c =
    let h = g.F.Files.holds c.args.files.now in
    let new = c.next_item.follows.lender-at-none in
    let answer = answered_free h c.args.scan.now new _ _ _ c.in-Ok-Some-Free.at c.in-Ok-Some-Free.size c.in-Ok-Some-Free.is c.in-Ok-Some-Free.field-0-is c.in-Ok-Some-Free.field-0-0-is c.next_item.follows.holds-at-none in
    free_read c.args.defs.now c.args.self.now.together h c.args.scan.now new c.in-Ok-Some-Free.at c.in-Ok-Some-Free.size c.args.self.now c.note_free.new.self answer c.in_ok-note_free-in-Ok-Some-Free.ensures
