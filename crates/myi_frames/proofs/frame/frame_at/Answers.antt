use Rattle.std.proofs.Common.{ℕ, ◌+◌, ◌≤◌, ◌⊎◌, subst, sym, length}
use Rattle.myi_frames.proofs.BlockLemmas.{seen-block}
use Rattle.myi_frames.specs.Block.{header_of}
use Rattle.myi_frames.specs.Seeing.{Sees}
use Rattle.myi_frames.proofs.frame.frame_at.Goals as goal

pub returns-clause-block : goal.returns-clause-block
returns-clause-block c = λ d long part.
    let a = c.args in
    let W : ℕ → Type 0 = λ n. (20 ≤ length a.bytes.now) ⊎ (n ≤ a.at + length a.bytes.now) in
    let S : ℕ → Type 0 = λ n. Sees c.seen_at.result a.bytes.now (header_of a.bytes.now a.at n) in
    seen-block c.seen_at.result a.bytes.now d a.at (subst W (sym long) c.requires.window) part (subst S (sym long) c.seen_at.ensures.seen)
