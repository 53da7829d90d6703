use Rattle.std.proofs.Common.{rules, ◌≡◌, ◌∙◌, sym, subst, All, length, List, [], ◌∷◌}
use Rattle.std.proofs.lemmas.List.Elements.{All-append, All-cons, All-nil}
use Rattle.std.proofs.lemmas.Iterator.Consumers.{YieldsList-turn}
use Rattle.std.proofs.lemmas.Iterator.Adapters.{YieldsList-from_vec}
use Rattle.case_lines.specs.declared.untold.UntoldReader.{UntoldReader}
use Rattle.myi_readers.specs.declared.file_reader.Reader.{Reader}
use Rattle.myi_share_tests.specs.declared.job.Job.{Job}
use Rattle.myi_share_tests.specs.declared.job.Job.TheVariants as job
use Rattle.myi_share_tests.specs.Parts.{of_inserter, IsReadPart}
use Rattle.myi_share_tests.specs.Jobs.{part_of}
use Rattle.myi_share_tests.proofs.round.jobs_of.Goals as goal

pub loop-reader-preserved : goal.loop-reader-preserved
loop-reader-preserved c =
    let part = of_inserter c.args.shares.inserter.table in
    let t = YieldsList-turn (YieldsList-from_vec {s = c.into_iter-reader-iterator.result} c.args.shares.readers.items (search rules) (search rules)) c.loop-reader.yielded c.loop-reader.reader-iterator c.loop-reader.yielded_by c.next.result c.next.new.self c.in-Some.reader c.in-Some.is c.next.ensures.steps in
    let mine = subst (λ (r : Reader UntoldReader). IsReadPart part r.table) (sym t.1) (c.requires.readers (length c.loop-reader.yielded) c.in-Some.reader t.0) in
    let next = job.Read c.new-read.result in
    (tt, tt, subst (λ (js : List Job). All (λ (j : Job). part_of j ≡ part) js) (sym (search rules)) (All-append (λ (j : Job). part_of j ≡ part) c.loop-reader.jobs.items (next ∷ []) c.loop-reader.invariant.2 (All-cons (λ (j : Job). part_of j ≡ part) next [] (c.new-read.ensures ∙ mine.0) (All-nil (λ (j : Job). part_of j ≡ part)))))
