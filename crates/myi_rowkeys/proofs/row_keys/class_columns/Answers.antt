use Rattle.std.proofs.Common.{arith, length, refl, ap, subst, ◌≡◌, ◌*◌, ◌+◌, ◌≤◌, ◌∙◌, ℕ, List}
use Rattle.std.proofs.lemmas.Nat.{mul-le}
use Rattle.myi_defs.specs.declared.types.Key.{Key}
use Rattle.myi_keylist.specs.Columns.{AreColumns}
use Rattle.myi_rowkeys.proofs.ColumnLemmas.{unique_before, column_step, list_long}
use Rattle.myi_rowkeys.proofs.row_keys.class_columns.Goals as goal

keys_few : (i rows last more next : ℕ) → last ≤ i * rows → more ≡ rows → next ≤ last + more → next ≤ (i + 1) * rows
keys_few i rows last more next few same step = let e : (i + 1) * rows ≡ i * rows + rows = omega arith in omega (arith, few, same, step, e)

below : (i n rows : ℕ) → i ≤ n → i * rows ≤ n * rows
below i n rows few = mul-le i rows n rows few (omega arith)

pub push_if_unique-requires : goal.push_if_unique-requires
push_if_unique-requires c =
    let given = c.requires.lists in
    let i = c.loop-index.index in
    let long = list_long c.args.defs.now given.0 c.args.lists.now i c.index-lists-index.result given.2 (omega (arith, c.requires.all)) (omega arith) c.index-lists-index.is ∙ given.1 in
    let few = below i 64 c.args.rows (omega (arith, c.requires.all, c.requires.sound.few_keys)) in
    omega (arith, long, few, c.loop-index.invariant.few, c.requires.few)

pub loop-index-preserved : goal.loop-index-preserved
loop-index-preserved c =
    let given = c.requires.lists in
    let i = c.loop-index.index in
    let d = c.args.defs.now in
    let long = list_long d given.0 c.args.lists.now i c.index-lists-index.result given.2 (omega (arith, c.requires.all)) (omega arith) c.index-lists-index.is ∙ given.1 in
    let same : length c.as_slice-keys.result.now ≡ length d.keys = ap (λ (ks : List Key). length ks) c.as_slice-keys.ensures in
    record {
      few = keys_few i c.args.rows c.loop-index.last _ _ c.loop-index.invariant.few long c.in_ok-last.ensures.few;
      columns = λ all count are.
          column_step d i c.index-keys-index.result c.as_slice-keys.result.now all c.args.rows c.loop-index.last _ c.loop-index.columns.items _ c.args.lists.now c.index-lists-index.result c.as_slice-keys.ensures (omega (arith, same, c.requires.all)) c.index-keys-index.is
          count are c.index-lists-index.is (omega arith) _ refl c.in_ok-last.ensures.column (c.loop-index.invariant.columns all count are);
    }

pub returns-clause-columns : goal.returns-clause-columns
returns-clause-columns c all count are =
    let n : c.loop-index.index ≡ length c.args.defs.now.keys = omega (arith, c.requires.all) in
    subst (λ m. AreColumns (unique_before c.args.defs.now all m) c.args.rows 0 c.loop-index.last c.loop-index.columns.items) n (c.loop-index.invariant.columns all count are)

pub returns-clause-few : goal.returns-clause-few
returns-clause-few c =
    let few = below c.loop-index.index 64 c.args.rows (omega (arith, c.requires.all, c.requires.sound.few_keys)) in
    omega (arith, few, c.loop-index.invariant.few)
