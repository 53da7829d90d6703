-- The rows that a reader knows, where its words are the first of those of inserted rows.
use Rattle.std.proofs.Common.{◌≡◌, ℕ, zero, suc, List, [], ◌∷◌, ◌++◌, length, take, sym, ap, ◌∙◌}
use Rattle.std.specs.List.{take_while}
use Rattle.std.proofs.lemmas.List.{append-nil, take-map}
use Rattle.myi_defs.specs.declared.types.Defs.{Defs}
use Rattle.myi_defs.specs.Sound.{IsSound}
use Rattle.myi_pack.specs.Packed.{Values}
use Rattle.myi_pack.specs.Spelling.{spelling}
use Rattle.myi_tail.specs.Prefix.{BeginsWith}
use Rattle.myi_snapshots.specs.Appended.{AllFit, AllAreBytes}
use Rattle.myi_snapshots.specs.Known.{is_row, known_rows, packed_rows, words_of_rows}
use Rattle.myi_snapshots.proofs.CallerLemmas.{read, first}
use Rattle.myi_readers.specs.declared.reader.TableReader.{TableReader}
use Rattle.myi_readers.specs.Reader.{IsReader, AreKnown, rows_known}
use Rattle.myi_readers.proofs.ReaderLemmas.{none_spelled}

first_fit : (d : Defs) (n : ℕ) (rows : List Values) → AllFit d rows → AllFit d (take n rows)
first_fit d zero rows fit = tt
first_fit d (suc n) [] fit = tt
first_fit d (suc n) (x ∷ xs) fit = (fit.0, first_fit d n xs fit.1)

-- the words of rows that fit spell these rows and no others
all_spelled : (d : Defs) (rows : List Values) → IsSound d → AllFit d rows → AllAreBytes d rows → known_rows d (words_of_rows d rows) ≡ packed_rows d rows
all_spelled d rows sound fit bytes =
    ap (known_rows d) (sym (append-nil (words_of_rows d rows))) ∙ read d rows [] sound fit bytes
    ∙ ap (λ (l : List (List ℕ)). packed_rows d rows ++ take_while (is_row d) l) none_spelled ∙ append-nil (packed_rows d rows)

pub first_known : (r : TableReader) (inserted : List Values) → IsReader r → AllFit r.defs inserted → AllAreBytes r.defs inserted → BeginsWith (words_of_rows r.defs inserted) r.seat.known → AreKnown r (take (length (rows_known r)) inserted)
first_known r inserted is fit bytes front =
    let n : ℕ = length (rows_known r) in record {
      packed = first r.defs (words_of_rows r.defs inserted) r.seat.known front ∙ ap (take n) (all_spelled r.defs inserted is.sound fit bytes) ∙ take-map (spelling r.defs) n inserted;
      fit = first_fit r.defs n inserted fit;
    }
