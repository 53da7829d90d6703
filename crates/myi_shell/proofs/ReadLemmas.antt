-- What a read of the table finds is what its statement finds.
use Rattle.std.proofs.Common.{◌≡◌, ◌<◌, ◌++◌, ◌-◌, [], ◌∷◌, ℕ, suc, List, map, length, Some, sym, ap, subst, ◌∙◌, arith}
use Rattle.myi_defs.specs.declared.types.Defs.{Defs}
use Rattle.myi_pack.specs.Packed.{Values}
use Rattle.myi_state.specs.State.{TableState}
use Rattle.myi_state.specs.Sound.{IsState}
use Rattle.myi_tablestate.specs.Listed.{placed}
use Rattle.myi_tablestate.specs.Matching.{AreMatching}
use Rattle.myi_script.specs.declared.types.Act.{Act}
use Rattle.myi_script.specs.declared.types.Act.TheVariants as act
use Rattle.myi_script.specs.declared.types.Range as script
use Rattle.myi_history.specs.Answers.{rows, answer_on}
use Rattle.myi_history.specs.Lines.{IsRange}
use Rattle.myi_history.specs.Reads as reads
use Rattle.myi_history.specs.RoundTexts.{LineText, text_of}
use Rattle.myi_history.proofs.CallerLemmas.{matching_once}
use Rattle.myi_table.specs.declared.ranges.Range.{Range}
use Rattle.myi_table.specs.Reading.{bounds_of, AnswersRange}
use Rattle.myi_shell.specs.declared.reading.Snapshot.{Snapshot}
use Rattle.myi_shell.specs.Stepping.{seen_rows}
use Rattle.myi_rounds.specs.Reads.{table_range}

pub in_table : (d : Defs) (r : script.Range) (q : Range) (places keys : ℕ) → q ≡ table_range r → places ≡ keys → keys ≡ length d.keys → IsRange d r → q.key < places
in_table d r q places keys is one two range =
    let low = range.key.0 in
    let high = range.key.1 in
    let same : q.key ≡ r.key - 1 = ap (λ (x : Range). x.key) is in
    omega (arith, low, high, same, one, two)

said : (d : Defs) (v : Snapshot) (s : TableState) (o a : Act) (texts : List LineText) (line : ℕ) (found : List (ℕ × Values)) → o ≡ a → found ≡ reads.found d s (Some a)
    → texts ++ text_of (answer_on line (rows (seen_rows v.below found) v.number)) ∷ [] ≡ texts ++ text_of (answer_on line (rows (seen_rows v.below (reads.found d s (Some o))) v.number)) ∷ []
said d v s o a texts line found is same =
    ap (λ rs. texts ++ text_of (answer_on line (rows (seen_rows v.below rs) v.number)) ∷ []) same ∙ ap (λ x. texts ++ text_of (answer_on line (rows (seen_rows v.below (reads.found d s (Some x))) v.number)) ∷ []) (sym is)

pub found_scan : (d : Defs) (o : Act) (s : TableState) (texts : List LineText) (line : ℕ) (v : Snapshot) (found : List (ℕ × Values)) → o ≡ act.Scan → found ≡ map placed s.rows
    → texts ++ text_of (answer_on line (rows (seen_rows v.below found) v.number)) ∷ [] ≡ texts ++ text_of (answer_on line (rows (seen_rows v.below (reads.found d s (Some o))) v.number)) ∷ []
found_scan d o s texts line v found is all = said d v s o act.Scan texts line found is all

key_back : (k : ℕ) → 0 < k → suc (k - 1) ≡ k
key_back k some = omega (arith, some)

pub found_range : (d : Defs) (o : Act) (r : script.Range) (q : Range) (s : TableState) (texts : List LineText) (line : ℕ) (v : Snapshot) (found items : List (ℕ × Values)) (before after : ℕ)
    → o ≡ act.Over r → q ≡ table_range r → IsRange d r → IsState d s → found ≡ items → AnswersRange d s q before after items
    → texts ++ text_of (answer_on line (rows (seen_rows v.below found) v.number)) ∷ [] ≡ texts ++ text_of (answer_on line (rows (seen_rows v.below (reads.found d s (Some o))) v.number)) ∷ []
found_range d o r q s texts line v found items before after is asked range state same answers =
    let key : suc q.key ≡ r.key = ap (λ (x : Range). suc x.key) asked ∙ key_back r.key range.key.0 in
    let one : AreMatching d r.key (bounds_of q) s.rows answers.found = subst (λ k. AreMatching d k (bounds_of q) s.rows answers.found) key answers.matching in
    let two : AreMatching d r.key (reads.bounds_of r) s.rows answers.found = subst (λ (x : Range). AreMatching d r.key (bounds_of x) s.rows answers.found) asked one in
    let rows_are : answers.found ≡ reads.rows_between d r.key (reads.bounds_of r) s.rows = matching_once d s r.key (reads.bounds_of r) answers.found state two in
    said d v s o (act.Over r) texts line found is (same ∙ answers.rows ∙ ap (map placed) rows_are)
