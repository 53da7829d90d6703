use Rattle.std.proofs.Common.{◌≡◌, ◌∙◌, true, false, length, refl, sym, ap, subst}
use Rattle.std.specs.Prelude.{OnOk}
use Rattle.myi_base.specs.Holding.{Told}
use Rattle.myi_base.proofs.CallerLemmas.{told_same}
use Rattle.myi_defs.proofs.CallerLemmas.{sound}
use Rattle.myi_data.specs.Stored.{SizedRow}
use Rattle.myi_repair.specs.Keeping.{IsPrepared, Adds, WritesIf, is_chosen}
use Rattle.myi_repair.proofs.KeepLaws.{written_same}
use Rattle.myi_repair.proofs.new_rows.NewRows.put_chosen.Goals as goal

pub returns-then-is_set-clause-added : goal.returns-then-is_set-clause-added
returns-then-is_set-clause-added g c =
    let is : true ≡ is_chosen c.args.flags.now (length c.args.self.now.pointers) = sym c.if-is_set.true ∙ c.is_set.ensures ∙ ap (is_chosen c.args.flags.now) c.len.ensures in
    subst (λ b. OnOk c.put.result ((row : SizedRow) → IsPrepared c.args.defs.now row c.args.next.now → Adds c.args.defs.now b row c.args.self.now c.put.new.self)) is c.put.ensures.added

pub returns-then-is_set-clause-written : goal.returns-then-is_set-clause-written
returns-then-is_set-clause-written g c =
    let is : true ≡ is_chosen c.args.flags.now (length c.args.self.now.pointers) = sym c.if-is_set.true ∙ c.is_set.ensures ∙ ap (is_chosen c.args.flags.now) c.len.ensures in
    subst (λ b. OnOk c.put.result (Told (g.F.Files.holds c.args.files.now) (g.F.Files.holds c.put.new.files) (λ m n. (row : SizedRow) → IsPrepared c.args.defs.now row c.args.next.now → WritesIf c.args.defs.now c.args.file.now b row c.args.self.now m n))) is c.put.ensures.written

pub returns-clause-added : goal.returns-clause-added
returns-clause-added g c row prepared =
    let is : false ≡ is_chosen c.args.flags.now (length c.args.self.now.pointers) = sym c.if-is_set.false ∙ c.is_set.ensures ∙ ap (is_chosen c.args.flags.now) c.len.ensures in
    subst (λ b. Adds c.args.defs.now b row c.args.self.now c.leave_out.new.self) is (c.in_ok-leave_out.ensures c.args.defs.now row (sound c.args.defs.now c.requires.defs) prepared.fit)

pub returns-clause-written : goal.returns-clause-written
returns-clause-written g c =
    let is : false ≡ is_chosen c.args.flags.now (length c.args.self.now.pointers) = sym c.if-is_set.false ∙ c.is_set.ensures ∙ ap (is_chosen c.args.flags.now) c.len.ensures in
    told_same _ _ _ refl (λ m held row prepared. subst (λ b. WritesIf c.args.defs.now c.args.file.now b row c.args.self.now m m) is (written_same c.args.defs.now row c.args.self.now c.args.file.now m))
