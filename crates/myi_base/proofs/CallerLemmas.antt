-- What the crates above cite: the laws of src/laws.rt as lemmas, and how what one call tells follows from
-- what another tells. The latter hold of any relation of what files hold, which no clause can say.
pub use Rattle.myi_base.proofs.NumberLaws.{length-num_bytes, length-low_num_bytes, num-num_bytes, low_num-low_num_bytes, num-below, low_num-below, num-take, low_num-take, bytes-num_bytes, bytes-low_num_bytes, num_bytes-num, low_num_bytes-low_num}
pub use Rattle.myi_base.proofs.BytesLaws.{bytes-take, bytes-drop, bytes-append, bytes-none, bytes-zeros}
pub use Rattle.myi_base.proofs.BlankLaws.{blanks_short, blanks_only, no_blank_left}
pub use Rattle.myi_base.proofs.ItemLaws.{numbers-spelling, length-spelling, numbers-take}
pub use Rattle.myi_base.proofs.ToldLemmas.{told_same, told_more, told_then, told_back, ok_not_err}
