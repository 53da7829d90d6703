use Rattle.std.proofs.Common.{◌≡◌, ◌≤◌, ◌∙◌, ℕ, List, length, take, drop, ap, arith}
use Rattle.std.proofs.lemmas.List.{take-take}
use Rattle.myi_base.specs.Holding.{bytes_of}
use Rattle.myi_window.specs.Excerpt.{bytes_from}
use Rattle.myi_window.proofs.CallerLemmas.{excerpt_front}
use Rattle.myi_check.proofs.head_reads.HeadReads.read.Goals as goal

pub returns-clause-told : goal.returns-clause-told
returns-clause-told g c m held stands =
    let here = c.args.at in
    let window = c.look_about.new.self.window in
    let d : List ℕ = bytes_of c.args.name.now m in
    let long : 20 ≤ length (bytes_from here window) = omega (arith, c.if-held-lt-LEAST_SIZE.false, ap (λ (xs : List ℕ). length xs) c.bytes_from-held.ensures) in
    let copied : take 20 c.copy_from_slice.new.self ≡ take 20 (bytes_from here window) = ap (take 20) (c.copy_from_slice.ensures.after ∙ ap (take 20) c.bytes_from-held.ensures) ∙ take-take 20 20 (bytes_from here window) (omega arith) in
    copied ∙ ap (take 20) (excerpt_front here window d (c.in_ok-look_about.ensures.stands m held stands)) ∙ take-take 20 (length (bytes_from here window)) (drop here d) long
