use Rattle.std.proofs.Common.{◌≡◌, ◌+◌, ◌<◌, ◌≤◌, ◌^◌, ◌∙◌, List, ℕ, length, Result, Ok, Err, ap, sym, subst, arith}
use Rattle.std.specs.Prelude.{OnOk, OnErr, IfOk}
use Rattle.myi_base.specs.Holding.{Told, Writes, WritesPart}
use Rattle.myi_defs.specs.declared.types.RowFormat.TheVariants.{Dynamic}
use Rattle.myi_frames.specs.Sizes.{least_size}
use Rattle.myi_frames.specs.Writing.{whole_spec}
use Rattle.myi_frames.proofs.CallerLemmas.{length-block, least-writable}
use Rattle.myi_data.specs.Stored.{Share, own_block, stored_by}
use Rattle.myi_data.proofs.CallerLemmas.{group_alone, stored_alone}
use Rattle.myi_repair.specs.Giant.{bytes_taken}
use Rattle.myi_repair.proofs.GiantLaws.{on_ok}
use Rattle.myi_repair.proofs.writing.put_packed.Goals as goal

pub returns-in-Static-clause-ok : goal.returns-in-Static-clause-ok
returns-in-Static-clause-ok g c = rw c.in-Static.is c.write_row.ensures.ok

pub returns-in-Static-clause-err : goal.returns-in-Static-clause-err
returns-in-Static-clause-err g c = rw c.in-Static.is c.write_row.ensures.err

pub returns-in-Static-clause-end : goal.returns-in-Static-clause-end
returns-in-Static-clause-end g c = rw c.in-Static.is c.write_row.ensures.end

pub returns-in-Static-clause-count : goal.returns-in-Static-clause-count
returns-in-Static-clause-count g c = rw c.in-Static.is c.write_row.ensures.count

-- the block that is written is that of the row
written : (block packed : List ℕ) (at : ℕ) (sizes : List ℕ) → block ≡ own_block packed → length packed < 2 ^ 24 → block ≡ stored_by Dynamic at sizes packed
written block packed at sizes is short = is ∙ sym (stored_alone Dynamic at sizes packed (λ _. short))

pub returns-in_ok-fill_block-in-Dynamic-clause-ok : goal.returns-in_ok-fill_block-in-Dynamic-clause-ok
returns-in_ok-fill_block-in-Dynamic-clause-ok g c =
    let block = written c.deref.result.now c.args.row.bytes.now c.args.at c.args.row.sizes.now (c.deref.ensures.value ∙ c.in_ok-fill_block-in-Dynamic.ensures) (omega (arith, c.if-row.false)) in
    rw c.in-Dynamic.is (subst (λ b. OnOk c.write_row-in-Dynamic.result (Told (g.F.Files.holds c.args.files.now) (g.F.Files.holds c.write_row-in-Dynamic.new.files) (Writes c.args.file.now c.args.at b))) block c.write_row-in-Dynamic.ensures.ok)

pub returns-in_ok-fill_block-in-Dynamic-clause-err : goal.returns-in_ok-fill_block-in-Dynamic-clause-err
returns-in_ok-fill_block-in-Dynamic-clause-err g c =
    let block = written c.deref.result.now c.args.row.bytes.now c.args.at c.args.row.sizes.now (c.deref.ensures.value ∙ c.in_ok-fill_block-in-Dynamic.ensures) (omega (arith, c.if-row.false)) in
    rw c.in-Dynamic.is (subst (λ b. OnErr c.write_row-in-Dynamic.result (Told (g.F.Files.holds c.args.files.now) (g.F.Files.holds c.write_row-in-Dynamic.new.files) (WritesPart c.args.file.now c.args.at b))) block c.write_row-in-Dynamic.ensures.err)

pub returns-in_ok-fill_block-in-Dynamic-clause-end : goal.returns-in_ok-fill_block-in-Dynamic-clause-end
returns-in_ok-fill_block-in-Dynamic-clause-end g c =
    let block = written c.deref.result.now c.args.row.bytes.now c.args.at c.args.row.sizes.now (c.deref.ensures.value ∙ c.in_ok-fill_block-in-Dynamic.ensures) (omega (arith, c.if-row.false)) in
    rw c.in-Dynamic.is (subst (λ b. IfOk c.write_row-in-Dynamic.result (λ r. r.0 ≡ c.args.at + length b)) block c.write_row-in-Dynamic.ensures.end)

pub returns-in_ok-fill_block-in-Dynamic-clause-count : goal.returns-in_ok-fill_block-in-Dynamic-clause-count
returns-in_ok-fill_block-in-Dynamic-clause-count g c =
    let one = ap (λ (s : List Share). length s) (group_alone Dynamic c.args.row.sizes.now (length c.args.row.bytes.now) (λ _. omega (arith, c.if-row.false))) in
    rw c.in-Dynamic.is (subst (λ n. IfOk c.write_row-in-Dynamic.result (λ r. r.1 ≡ n)) (sym one) c.write_row-in-Dynamic.ensures.count)

-- the block of a row has bytes
block_some : (block packed : List ℕ) → block ≡ own_block packed → length packed < 2 ^ 24 → 0 < length block
block_some block packed is short =
    let w = (least-writable (length packed) short).0 in
    omega (arith, ap (λ (b : List ℕ). length b) is, length-block (whole_spec (length packed)) packed (least_size (length packed)) w, w.least)

in_all : {E : Type 0} (r : Result (ℕ × ℕ) E) (P Q : Type 0) (at : ℕ) → Q → IfOk r (λ x. Q → at + x.1 ≤ x.0) → IfOk r (λ x. P → at + x.1 ≤ x.0)
in_all (Ok x) P Q at q all = λ p. all q
in_all (Err e) P Q at q all = tt

pub returns-in_ok-fill_block-in-Dynamic-clause-less : goal.returns-in_ok-fill_block-in-Dynamic-clause-less
returns-in_ok-fill_block-in-Dynamic-clause-less g c =
    in_all c.write_row-in-Dynamic.result _ _ c.args.at (block_some c.deref.result.now c.args.row.bytes.now (c.deref.ensures.value ∙ c.in_ok-fill_block-in-Dynamic.ensures) (omega (arith, c.if-row.false))) c.write_row-in-Dynamic.ensures.less

-- one block or slot takes the whole row
alone : (n : ℕ) → n + 0 ≡ n
alone n = omega arith

pub returns-in-Static-clause-whole : goal.returns-in-Static-clause-whole
returns-in-Static-clause-whole g c = rw c.in-Static.is (on_ok _ _ (alone (length c.args.row.bytes.now)))

pub returns-in_ok-fill_block-in-Dynamic-clause-whole : goal.returns-in_ok-fill_block-in-Dynamic-clause-whole
returns-in_ok-fill_block-in-Dynamic-clause-whole g c =
    let one = ap (λ (s : List Share). bytes_taken s) (group_alone Dynamic c.args.row.sizes.now (length c.args.row.bytes.now) (λ _. omega (arith, c.if-row.false))) in
    rw c.in-Dynamic.is (on_ok _ _ (one ∙ alone (length c.args.row.bytes.now)))
