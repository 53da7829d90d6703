use Rattle.std.proofs.Common.{rules, ◌≡◌, List, ℕ, map, subst, sym, All, ◌∙◌, ap}
use Rattle.std.proofs.lemmas.List.{map-id}
use Rattle.std.proofs.lemmas.Iterator.Consumers.{YieldsList-end}
use Rattle.std.proofs.lemmas.Iterator.Adapters.{YieldsList-from_vec}
use Rattle.myi_tail.specs.Prefix.{BeginsWith}
use Rattle.myi_tail.specs.Seats.{Closing, TailReader, closing}
use Rattle.myi_tail.specs.Rule.{IsKnown}
use Rattle.myi_tail.proofs.KeptLemmas.{all_known_prefixes}
use Rattle.myi_tail.proofs.tail.Tail.close.Goals as goal

pub returns-clause-known : goal.returns-clause-known
returns-clause-known c =
    let start = c.args.self.appender in
    let whole = YieldsList-end (YieldsList-from_vec {s = c.into_iter-reader-iterator.result} c.args.self.readers.items (search rules) (search rules)) c.loop-reader.yielded c.loop-reader.reader-iterator c.loop-reader.yielded_by c.next.result c.next.new.self c.in-None.is c.next.ensures.steps in
    let same : c.loop-reader.yielded ≡ c.args.self.readers.items = sym (map-id c.loop-reader.yielded) ∙ whole.0 in
    let end : c.loop-reader.closing ≡ closing start (map (λ (r : TailReader). r.known) c.args.self.readers.items) = c.loop-reader.invariant.2 ∙ ap (λ (rs : List TailReader). closing start (map (λ (r : TailReader). r.known) rs)) same in
    let all = subst (λ (z : Closing). All (IsKnown z.published z.words) z.joined) end c.look_at_count.ensures.known in
    subst (λ (v : List ℕ). All (λ (r : TailReader). BeginsWith v r.known) c.args.self.readers.items) (sym (search rules))
    (all_known_prefixes start.published start.words c.args.self.readers.items all)
