-- What the crates above cite. Each lemma states a clause of the law of its group in src/laws.rt.

-- definitions_are_sound
pub use Rattle.myi_defs.proofs.SoundLaws.{sound}
pub use Rattle.myi_defs.proofs.ReadLemmas.{are_defs, raw-header}
-- definitions_rest_on_the_header
pub use Rattle.myi_defs.proofs.ElsewhereLaws.{read_defs-take, elsewhere}
-- empty_tables_print_again
pub use Rattle.myi_defs.proofs.PrintLemmas.{printed-again, print_reads}
