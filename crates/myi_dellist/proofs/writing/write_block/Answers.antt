use Rattle.std.proofs.Common.{◌≡◌, ◌+◌, ◌-◌, ◌≤◌, ◌∙◌, ℕ, length, take, replicate, refl, ap, arith}
use Rattle.std.proofs.lemmas.List.{length-take-le, take-replicate}
use Rattle.myi_dellist.proofs.PutLemmas.{IsParted, parts_filled, parts_whole}
use Rattle.myi_dellist.proofs.writing.write_block.Goals as goal

pub returns-then-unused-eq0-clause-ok : goal.returns-then-unused-eq0-clause-ok
returns-then-unused-eq0-clause-ok g c =
    let b = c.args.bytes.now in
    let r = c.frame_header-header_length.result in
    let n : ℕ = r.1 in
    let few : n ≤ length r.0 = omega (arith, c.frame_header-header_length.ensures.most) in
    let long : length (take n r.0) ≡ n = length-take-le n r.0 few in
    let p : IsParted c.args.spec.now b c.args.size (take n r.0) (replicate (c.args.size - (length (take n r.0) + length b)) 0) c.args.at (c.args.at + n) (c.args.at + n + length b) = record {
      is = c.frame_header-header_length.ensures.header;
      begins = omega (arith, long);
      follows = omega arith;
      unused = refl;
    } in
    let none : c.args.size - (length (take n r.0) + length b) ≡ 0 = omega (arith, long, c.if-unused-eq0.true) in
    parts_filled _ _ _ _ _ _ _ _ p _ _ _ _ (ap (λ (k : ℕ). replicate k 0) none) c.in_ok-write_at.ensures.ok c.in_ok-write_at-2.ensures.ok

pub returns-clause-ok : goal.returns-clause-ok
returns-clause-ok g c =
    let b = c.args.bytes.now in
    let r = c.frame_header-header_length.result in
    let n : ℕ = r.1 in
    let few : n ≤ length r.0 = omega (arith, c.frame_header-header_length.ensures.most) in
    let long : length (take n r.0) ≡ n = length-take-le n r.0 few in
    let unused : ℕ = c.args.size - n - length b in
    let same : unused ≡ c.args.size - (length (take n r.0) + length b) = omega (arith, long) in
    let p : IsParted c.args.spec.now b c.args.size (take n r.0) (take unused (replicate 260 0)) c.args.at (c.args.at + n) (c.args.at + n + length b) = record {
      is = c.frame_header-header_length.ensures.header;
      begins = omega (arith, long);
      follows = omega arith;
      unused = take-replicate unused 260 0 (omega (arith, c.requires.unused)) ∙ ap (λ (k : ℕ). replicate k 0) same;
    } in
    parts_whole _ _ _ _ _ _ _ _ p _ _ _ _ _ c.in_ok-write_at.ensures.ok c.in_ok-write_at-2.ensures.ok c.in_ok-write_at-3.ensures.ok
