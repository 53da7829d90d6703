use Rattle.std.proofs.Common.{◌≤◌, ℕ, ◌-◌, take, drop, ap, sym, ◌∙◌, subst, arith}
use Rattle.std.specs.Prelude.{slice_index}
use Rattle.myi_spelling.proofs.PieceLemmas.{piece_at}
use Rattle.myi_spelling.proofs.rows.piece.Goals as goal

pub slice_bounds-result-count : goal.slice_bounds-result-count
slice_bounds-result-count c =
    let p = piece_at 0 c.args.bytes.now c.args.ends.now c.args.i c.requires.ends c.requires.there in
    subst (λ (b : ℕ). b ≤ slice_index c.args.ends.now c.args.i) (sym c.begin_of.ensures) p.1

pub slice_bounds-result-start : goal.slice_bounds-result-start
slice_bounds-result-start c =
    let p = piece_at 0 c.args.bytes.now c.args.ends.now c.args.i c.requires.ends c.requires.there in
    omega (arith, p.1, p.2, c.begin_of.ensures)

pub slice_bounds-result-end : goal.slice_bounds-result-end
slice_bounds-result-end c =
    let p = piece_at 0 c.args.bytes.now c.args.ends.now c.args.i c.requires.ends c.requires.there in
    omega (arith, p.1, p.2, c.begin_of.ensures)

pub returns : goal.returns
returns c =
    let p = piece_at 0 c.args.bytes.now c.args.ends.now c.args.i c.requires.ends c.requires.there in
    ap (λ b. take (slice_index c.args.ends.now c.args.i - b) (drop b c.args.bytes.now)) c.begin_of.ensures ∙ sym p.0
