pub use Rattle.myi_tail.proofs.RowLemmas.{length-words_of, words_of-chunk, bytes-bytes_in, row_back}
pub use Rattle.myi_tail.proofs.RowLaws.{read, found, once, first_spelled}
