pub mod CallerLemmas
pub mod TextLemmas
pub mod SaysLaws
pub mod GrammarLaws
pub mod ParseLaws
pub mod BytesLaws
pub mod TableHeaderLaws
