-- What the crates above cite. Each lemma states a clause of the law of its group in src/laws.rt.

-- packings_are_read
pub use Rattle.myi_pack.proofs.RowLaws.{row-takes}
-- spellings_are_shortest
pub use Rattle.myi_pack.proofs.RowSpelling.{row-fits, row-spelled, row-reads, row-least}
pub use Rattle.myi_pack.proofs.WidthLaws.{row-told}
-- shorter_forms_win
pub use Rattle.myi_pack.proofs.WinningLaws.{row-wins}
-- views_go_on
pub use Rattle.myi_pack.proofs.ViewLemmas.{next_rest}
