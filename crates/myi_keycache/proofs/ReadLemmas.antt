-- A read of a file, and a fault that is handed on.
use Rattle.std.proofs.Common.{◌≡◌, ℕ, ◌≤◌, ◌<◌, List, ◌++◌, length, take, drop, min, Some, None, Err, refl, sym, ap, ◌∙◌, arith}
use Rattle.std.proofs.lemmas.Bool.{lt-leb}
use Rattle.std.proofs.lemmas.List.{drop_all, append-nil}
use Rattle.myi_base.specs.Holding.{filled}
use Rattle.myi_base.specs.Causes.{HasCause}
use Rattle.myi_keycache.specs.Lent.{bytes_at}
use Rattle.myi_keycache.proofs.RangeLemmas.{taken}

-- a buffer that a read filled is the range of the file
pub filled_page : (file into new : List ℕ) (at count : ℕ) → length into ≤ count → count ≡ min (length into) (length (drop at file)) → new ≡ filled at into file → bytes_at file at (length into) ≡ Some new
filled_page file into new at count full told bytes =
    let long : length into ≤ length (drop at file) = omega arith in
    let whole : filled at into file ≡ take (length into) (drop at file) = ap (λ (t : List ℕ). take (length into) (drop at file) ++ t) (drop_all (length (drop at file)) into long) ∙ append-nil (take (length into) (drop at file)) in
    taken file at (length into) long ∙ ap Some (sym (bytes ∙ whole))

-- a read that gave too few bytes met the file's end
pub short_page : (file into : List ℕ) (at count : ℕ) → count < length into → count ≡ min (length into) (length (drop at file)) → bytes_at file at (length into) ≡ None
unfolding bytes_at
short_page file into at count few told = rw (lt-leb _ _ (short_rest count)) refl
  where
    short_rest : (count : ℕ) → length (drop at file) < length into
    short_rest count = omega arith

-- a fault that is handed on has its cause
pub cause_goes_on : {T U E : Type 0} (failed fault : E) (before after : ℕ) → HasCause {T = T} failed before after (Err fault) → HasCause {T = U} failed before after (Err fault)
cause_goes_on failed fault before after h = record { later = h.later; cause = λ e. let same : fault ≡ failed = cc in h.cause (ap Err same) }
