use Rattle.std.proofs.Common.{◌∙◌, sym}
use Rattle.std.proofs.lemmas.Bool.Decides.{Decides-eqb, not_from_Decides}
use Rattle.std.proofs.lemmas.Slice.Eq.{slice_eq-Decides}
use Rattle.myi_make.proofs.filling.have_one_header.Goals as goal

pub returns-clause-same : goal.returns-clause-same
returns-clause-same c = λ same. sym c.as_slice-read.ensures ∙ (slice_eq-Decides Decides-eqb _ _ _ c.eq.ensures).0 same ∙ c.as_slice-made.ensures

pub returns-clause-other : goal.returns-clause-other
returns-clause-other c = λ other equal. not_from_Decides _ (slice_eq-Decides Decides-eqb _ _ _ c.eq.ensures) other (c.as_slice-read.ensures ∙ equal ∙ sym c.as_slice-made.ensures)
