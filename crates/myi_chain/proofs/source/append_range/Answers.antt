use Rattle.std.proofs.Common.{◌≡◌, ◌∙◌, ◌++◌, ◌+◌, ◌-◌, ℕ, List, length, take, drop, ap, subst, arith}
use Rattle.std.specs.Prelude.{replicate}
use Rattle.std.proofs.lemmas.Grind.{common_steps}
use Rattle.myi_base.specs.Holding.{bytes_of}
use Rattle.myi_chain.proofs.SourceLemmas.{appended, grown_size}
use Rattle.myi_chain.proofs.source.append_range.Goals as goal

pub returns-clause-told : goal.returns-clause-told
returns-clause-told g c m held long =
    let old : List ℕ = c.args.joined.now.items in
    let grown : List ℕ = c.deref_mut.result.now in
    let d = bytes_of c.args.name.now m in
    let start : c.len-start.result ≡ length old = omega arith in
    let sum : c.len-start.result + c.args.len ≡ length old + c.args.len = omega (arith, start) in
    let count : c.args.joined.now.len ≡ length old = omega arith in
    let kept : take c.resize.new.self.len (c.fill.new.into ++ drop (length c.fill.new.into) c.resize.new.self.items) ≡ c.fill.new.into = grind (arith, common_steps) in
    let is : grown ≡ take (length old + c.args.len) old ++ replicate (length old + c.args.len - length old) 0 =
    c.deref_mut.ensures.value ∙ c.in_ok-resize.ensures.items
    ∙ ap (λ k. take k old ++ replicate (k - c.args.joined.now.len) 0) sum ∙ ap (λ v. take (length old + c.args.len) old ++ replicate (length old + c.args.len - v) 0) count in
    let size : length grown ≡ length old + c.args.len = grown_size old grown c.args.len is in
    let filled = c.in_ok-count.ensures.told m held (omega (arith, size, start, long)) in
    let all = appended old grown c.fill.new.into d c.args.len c.in_ok-count.count c.args.at is (omega (arith, filled.0, start)) (subst (λ n. c.fill.new.into ≡ take n grown ++ take c.in_ok-count.count (drop c.args.at d)) start filled.1) in
    (all.0, kept ∙ all.1)
