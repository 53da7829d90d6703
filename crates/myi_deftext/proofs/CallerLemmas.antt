-- What the crates above cite. Each lemma states a clause of the law of its group in src/laws.rt.

-- texts_are_read_by_the_grammar
pub use Rattle.myi_deftext.proofs.ParseLaws.{made}
pub use Rattle.myi_deftext.proofs.BytesLaws.{text_defs, text_bytes}
-- the lines of a text, and the header of its definitions
pub use Rattle.myi_deftext.proofs.GrammarLaws.{one_table}
pub use Rattle.myi_deftext.proofs.TableHeaderLaws.{format_is, pointer_is, row_is, fields_are, keys_are}
