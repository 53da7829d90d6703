use Rattle.std.proofs.Common.{◌≡◌, ◌∙◌, true, Bool, subst, sym, ap, arith}
use Rattle.std.specs.Prelude.{IfOk, IfErr}
use Rattle.myi_base.specs.Holding.{IfTold}
use Rattle.myi_slots.specs.SlotFile.{SlotFile, ByCause, Never}
use Rattle.myi_blocks.specs.RowReading.{StandsAt, IsRowAt, LacksRow}
use Rattle.myi_blocks.specs.Places.{NotedFile, HasNoted}
use Rattle.myi_blocks.proofs.NoteLemmas.{reply-row}
use Rattle.myi_blocks.proofs.block_file.BlockFile.read_at.Goals as goal

pub returns-clause-told : goal.returns-clause-told
returns-clause-told g c m held s k =
    let same : c.self.inside.blocks ≡ c.args.self.now.file = ap (λ (f : NotedFile). f.file) c.self.view_is ∙ c.look_up.ensures.file in
    let h = g.F.Files.holds c.args.files.now in
    let told : IfOk c.read_row.result (λ row. IfTold h (IsRowAt c.args.self.now.file c.args.at row)) =
    subst (λ (f : SlotFile). IfOk c.read_row.result (λ row. IfTold h (IsRowAt f c.args.at row))) same (subst (λ o. IfOk c.read_row.result (λ row. IfTold o (IsRowAt c.self.inside.blocks c.args.at row))) c.look_up.ensures.holds c.read_row.ensures.told) in
    let err : IfErr c.read_row.result (ByCause Never ⊥ (λ p. IfTold h (LacksRow c.args.self.now.file c.args.at))) =
    subst (λ (f : SlotFile). IfErr c.read_row.result (ByCause Never ⊥ (λ p. IfTold h (LacksRow f c.args.at)))) same (subst (λ o. IfErr c.read_row.result (ByCause Never ⊥ (λ p. IfTold o (LacksRow c.self.inside.blocks c.args.at)))) c.look_up.ensures.holds c.read_row.ensures.err) in
    let has : HasNoted c.args.at true c.look_up.new.self.places = subst (λ (b : Bool). HasNoted c.args.at b c.look_up.new.self.places) c.if-not-has.false c.has.ensures in
    reply-row c.args.self.now.file s c.args.at m h c.look_up.new.self.places c.read_row.result c.look_up.ensures.format k.0 held has (c.look_up.ensures.kept m held s k) told err

pub returns-clause-there : goal.returns-clause-there
returns-clause-there g c =
    let same : c.self.inside.blocks ≡ c.args.self.now.file = ap (λ (f : NotedFile). f.file) c.self.view_is ∙ c.look_up.ensures.file in
    let h = g.F.Files.holds c.args.files.now in
    subst (λ (f : SlotFile). IfOk c.read_row.result (λ row. IfTold h (IsRowAt f c.args.at row))) same (subst (λ o. IfOk c.read_row.result (λ row. IfTold o (IsRowAt c.self.inside.blocks c.args.at row))) c.look_up.ensures.holds c.read_row.ensures.told)

pub returns-clause-few : goal.returns-clause-few
returns-clause-few g c noted m held r stands =
    let same : c.self.inside.blocks ≡ c.args.self.now.file = ap (λ (f : NotedFile). f.file) c.self.view_is ∙ c.look_up.ensures.file in
    omega (arith, c.look_up.ensures.once noted, c.read_row.ensures.few m (c.look_up.ensures.holds ∙ held) r (subst (λ (f : SlotFile). StandsAt f c.args.at m r) (sym same) stands))
