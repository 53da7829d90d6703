pub use Rattle.myi_spelling.proofs.RowLaws.{read, passing, of_bytes, first_spelled, begin_with_rows, few_rows, few_bytes}
