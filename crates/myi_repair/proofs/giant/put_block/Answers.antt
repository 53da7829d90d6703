use Rattle.std.proofs.Common.{◌≡◌, ◌+◌, ◌-◌, ◌≤◌, ℕ, length, take, arith}
use Rattle.std.proofs.lemmas.List.{length-take-le}
use Rattle.myi_repair.proofs.GiantLaws.{on_err, IsParted, header_part, bytes_part, unused_part, parts_filled, parts_whole}
use Rattle.myi_repair.proofs.giant.put_block.Goals as goal

pub returns-in_err-write_at-clause-err : goal.returns-in_err-write_at-clause-err
returns-in_err-write_at-clause-err g c =
    let b = c.args.bytes.now in
    let r = c.frame_header-header_length.result in
    let n : ℕ = r.1 in
    let few : n ≤ length r.0 = omega (arith, c.frame_header-header_length.ensures.most) in
    let long : length (take n r.0) ≡ n = length-take-le n r.0 few in
    let p : IsParted c.args.spec.now b c.args.size (take n r.0) (c.args.at + n) (c.args.at + n + length b) (c.args.at + c.args.size - (c.args.at + n + length b)) c.args.at = record {
      is = c.frame_header-header_length.ensures.header;
      begins = omega (arith, long);
      follows = omega arith;
      unused = omega (arith, long, c.frame_header-header_length.ensures.inside);
    } in
    on_err c.from_residual.result _ (header_part _ _ _ _ _ _ _ _ _ _ p _ c.in_err-write_at.ensures.err)

pub returns-in_err-write_at-2-clause-err : goal.returns-in_err-write_at-2-clause-err
returns-in_err-write_at-2-clause-err g c =
    let b = c.args.bytes.now in
    let r = c.frame_header-header_length.result in
    let n : ℕ = r.1 in
    let few : n ≤ length r.0 = omega (arith, c.frame_header-header_length.ensures.most) in
    let long : length (take n r.0) ≡ n = length-take-le n r.0 few in
    let p : IsParted c.args.spec.now b c.args.size (take n r.0) (c.args.at + n) (c.args.at + n + length b) (c.args.at + c.args.size - (c.args.at + n + length b)) c.args.at = record {
      is = c.frame_header-header_length.ensures.header;
      begins = omega (arith, long);
      follows = omega arith;
      unused = omega (arith, long, c.frame_header-header_length.ensures.inside);
    } in
    on_err c.from_residual-in_err-write_at-2.result _ (bytes_part _ _ _ _ _ _ _ _ _ _ p _ _ c.in_ok-write_at.ensures.ok c.in_err-write_at-2.ensures.err)

pub returns-then-end-behind-clause-ok : goal.returns-then-end-behind-clause-ok
returns-then-end-behind-clause-ok g c =
    let b = c.args.bytes.now in
    let r = c.frame_header-header_length.result in
    let n : ℕ = r.1 in
    let few : n ≤ length r.0 = omega (arith, c.frame_header-header_length.ensures.most) in
    let long : length (take n r.0) ≡ n = length-take-le n r.0 few in
    let p : IsParted c.args.spec.now b c.args.size (take n r.0) (c.args.at + n) (c.args.at + n + length b) (c.args.at + c.args.size - (c.args.at + n + length b)) c.args.at = record {
      is = c.frame_header-header_length.ensures.header;
      begins = omega (arith, long);
      follows = omega arith;
      unused = omega (arith, long, c.frame_header-header_length.ensures.inside);
    } in
    parts_filled _ _ _ _ _ _ _ _ _ _ p _ _ (omega (arith, c.if-end-behind.true)) c.in_ok-write_at.ensures.ok c.in_ok-write_at-2.ensures.ok

pub returns-in_err-put_unused-clause-err : goal.returns-in_err-put_unused-clause-err
returns-in_err-put_unused-clause-err g c =
    let b = c.args.bytes.now in
    let r = c.frame_header-header_length.result in
    let n : ℕ = r.1 in
    let few : n ≤ length r.0 = omega (arith, c.frame_header-header_length.ensures.most) in
    let long : length (take n r.0) ≡ n = length-take-le n r.0 few in
    let p : IsParted c.args.spec.now b c.args.size (take n r.0) (c.args.at + n) (c.args.at + n + length b) (c.args.at + c.args.size - (c.args.at + n + length b)) c.args.at = record {
      is = c.frame_header-header_length.ensures.header;
      begins = omega (arith, long);
      follows = omega arith;
      unused = omega (arith, long, c.frame_header-header_length.ensures.inside);
    } in
    on_err c.from_residual-in_err-put_unused.result _ (unused_part _ _ _ _ _ _ _ _ _ _ p _ _ _ c.in_ok-write_at.ensures.ok c.in_ok-write_at-2.ensures.ok c.in_err-put_unused.ensures.err)

pub returns-clause-ok : goal.returns-clause-ok
returns-clause-ok g c =
    let b = c.args.bytes.now in
    let r = c.frame_header-header_length.result in
    let n : ℕ = r.1 in
    let few : n ≤ length r.0 = omega (arith, c.frame_header-header_length.ensures.most) in
    let long : length (take n r.0) ≡ n = length-take-le n r.0 few in
    let p : IsParted c.args.spec.now b c.args.size (take n r.0) (c.args.at + n) (c.args.at + n + length b) (c.args.at + c.args.size - (c.args.at + n + length b)) c.args.at = record {
      is = c.frame_header-header_length.ensures.header;
      begins = omega (arith, long);
      follows = omega arith;
      unused = omega (arith, long, c.frame_header-header_length.ensures.inside);
    } in
    parts_whole _ _ _ _ _ _ _ _ _ _ p _ _ _ c.in_ok-write_at.ensures.ok c.in_ok-write_at-2.ensures.ok c.in_ok-put_unused.ensures.ok
