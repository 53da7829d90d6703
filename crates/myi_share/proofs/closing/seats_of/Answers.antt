use Rattle.std.proofs.Common.{rules, ◌≡◌, List, [], ◌∷◌, ◌++◌, map, sym, ap, ◌∙◌}
use Rattle.std.proofs.lemmas.List.{map-append}
use Rattle.myi_tail.specs.Seats.{TailReader}
use Rattle.myi_readers.specs.declared.file_reader.Reader.{Reader}
use Rattle.myi_share.specs.Taking.{counted, all_counted}
use Rattle.myi_share.proofs.TakeLemmas.{added_more, below_then, more_counted, one_counted}
use Rattle.myi_share.proofs.closing.seats_of.Goals as goal

pub loop-reader-preserved : goal.loop-reader-preserved
loop-reader-preserved g c =
    let was = c.loop-reader.invariant in
    let r = c.in-Some.reader in
    let seats = c.loop-reader.seats.items in
    let pushed : c.push.new.self.items ≡ seats ++ r.table.seat ∷ [] = search rules in (
      tt,
      tt,
      pushed ∙ ap (λ (l : List TailReader). l ++ r.table.seat ∷ []) was.2 ∙ sym (map-append (λ (q : Reader g.row.R.Denot). q.table.seat) c.loop-reader.yielded (r ∷ [])),
      added_more c.args.table.now c.loop-reader.table c.add_counters.new.self (map counted c.loop-reader.yielded) (map counted (c.loop-reader.yielded ++ r ∷ [])) (counted r) c.counters.result was.3 c.add_counters.ensures c.counters.ensures.counters (map-append counted c.loop-reader.yielded (r ∷ [])),
    )

pub returns-in_err-push-clause-counts : goal.returns-in_err-push-clause-counts
returns-in_err-push-clause-counts g c =
    let half = c.loop-reader.table in
    let new = c.add_counters.new.self in
    below_then (all_counted c.args.table.now) (all_counted half) (all_counted new) (more_counted c.args.table.now half (map counted c.loop-reader.yielded) c.loop-reader.invariant.3) (one_counted half new c.counters.result c.add_counters.ensures)

pub returns-clause-counts : goal.returns-clause-counts
returns-clause-counts g c = more_counted c.args.table.now c.loop-reader.table (map counted c.loop-reader.yielded) c.loop-reader.invariant.3
