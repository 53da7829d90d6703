use Rattle.myi_rounds.proofs.job.run_side_by_side.Goals as goal

pub for_each_mut-requires-clause-accepts : goal.for_each_mut-requires-clause-accepts
for_each_mut-requires-clause-accepts g c κs within i p lt at = (record { owned = c.type_bounds.send-R.owned; leaving = λ k d u. tt }, record { shared = c.type_bounds.sync-G.shared })
