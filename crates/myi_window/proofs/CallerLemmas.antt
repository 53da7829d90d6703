-- What the crates above cite. Each lemma states what `slide` or `bytes_from` of src/window.rt gives of an excerpt.

pub use Rattle.myi_window.proofs.ExcerptLemmas.{front_take, front_drop, take_both, take_add, cut_at_end, excerpt_front, excerpt_inside, front_to_end, excerpt_here, short_excerpt}
