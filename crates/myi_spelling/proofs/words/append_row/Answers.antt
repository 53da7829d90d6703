use Rattle.std.proofs.Common.{◌≡◌, ℕ, List, ◌∷◌, ◌++◌, ◌+◌, ◌-◌, nat_eq, length, take, drop, ap, sym, ◌∙◌, arith}
use Rattle.std.specs.List.{flat_map, starts_with}
use Rattle.myi_base.specs.Numbers.{low_num_bytes}
use Rattle.myi_tail.specs.Rows.{bytes_words}
use Rattle.myi_tail.specs.Spelled.{bytes_in}
use Rattle.myi_tail.proofs.CallerLemmas.{bytes-bytes_in}
use Rattle.myi_spelling.proofs.WordLemmas.{appended, behind_old, none_short, none_other, row_stands, same_row}
use Rattle.myi_spelling.proofs.words.append_row.Goals as goal

pub returns-in_default-word_count-clause-row : goal.returns-in_default-word_count-clause-row
returns-in_default-word_count-clause-row c =
    same_row c.args.words.now c.in-Some.size.now c.in-Some.rest.now c.in-Some.ensures.cases.0 (none_short c.in-Some.size.now c.in-Some.rest.now c.in_default-word_count.ensures)

pub returns-then-not-begin_with_words_of-clause-row : goal.returns-then-not-begin_with_words_of-clause-row
returns-then-not-begin_with_words_of-clause-row c =
    let old : List ℕ = c.args.bytes.now.items in
    let rest : List ℕ = c.in-Some.rest.now in
    let n : ℕ = c.in-Some.size.now in
    let k : ℕ = c.in-Some-word_count.count in
    let counted = c.in-Some-word_count.ensures in
    let size = counted.0 in
    let fits = counted.1 in
    let begin : c.len-begin.result ≡ length old = let l = c.len-begin.ensures in omega arith in
    let items : c.truncate.new.self.items ≡ old ++ bytes_in n rest =
    c.truncate.ensures.items ∙ ap (take (c.len-begin.result + n)) c.append_words.ensures.bytes
    ∙ ap (λ b. take (b + n) (old ++ flat_map (low_num_bytes 8) (take k rest))) begin ∙ appended old n k rest (omega arith) counted.1 in
    let row : take (length c.deref.result.now - c.len-begin.result) (drop c.len-begin.result c.deref.result.now) ≡ bytes_in n rest =
    behind_old c.deref.result.now old (bytes_in n rest) c.len-begin.result (c.deref.ensures.value ∙ items) begin in
    same_row c.args.words.now n rest c.in-Some.ensures.cases.0 (none_other n rest (ap (λ r. starts_with nat_eq rest (bytes_words r)) (sym row) ∙ sym c.if-not-begin_with_words_of.ensures))

pub returns-clause-row : goal.returns-clause-row
returns-clause-row c =
    let old : List ℕ = c.args.bytes.now.items in
    let rest : List ℕ = c.in-Some.rest.now in
    let n : ℕ = c.in-Some.size.now in
    let k : ℕ = c.in-Some-word_count.count in
    let counted = c.in-Some-word_count.ensures in
    let size = counted.0 in
    let fits = counted.1 in
    let begin : c.len-begin.result ≡ length old = let l = c.len-begin.ensures in omega arith in
    let items : c.truncate.new.self.items ≡ old ++ bytes_in n rest =
    c.truncate.ensures.items ∙ ap (take (c.len-begin.result + n)) c.append_words.ensures.bytes
    ∙ ap (λ b. take (b + n) (old ++ flat_map (low_num_bytes 8) (take k rest))) begin ∙ appended old n k rest (omega arith) counted.1 in
    let row : take (length c.deref.result.now - c.len-begin.result) (drop c.len-begin.result c.deref.result.now) ≡ bytes_in n rest =
    behind_old c.deref.result.now old (bytes_in n rest) c.len-begin.result (c.deref.ensures.value ∙ items) begin in
    let stands = row_stands n k rest counted.0 counted.1 (ap (λ r. starts_with nat_eq rest (bytes_words r)) (sym row) ∙ sym c.if-not-begin_with_words_of.ensures) in
    let words : c.args.words.now ≡ n ∷ rest = c.in-Some.ensures.cases.0 in record {
      row = bytes_in n rest;
      of_bytes = bytes-bytes_in n rest;
      stands = words ∙ stands.0 ∙ ap (λ l. length (bytes_in n rest) ∷ (bytes_words (bytes_in n rest) ++ drop (k + 1) l)) (sym words);
      counted = stands.1;
      bytes = items;
    }
