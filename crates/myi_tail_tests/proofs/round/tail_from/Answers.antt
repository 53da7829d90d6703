use Rattle.std.proofs.Common.{rules, ◌≡◌, ◌∙◌, ap, sym, subst, All, length, Option, IfSome, List, [], ◌∷◌}
use Rattle.std.proofs.lemmas.List.Elements.{All-append, All-cons, All-nil}
use Rattle.std.proofs.lemmas.Iterator.Consumers.{YieldsList-turn}
use Rattle.std.proofs.lemmas.Iterator.Adapters.{YieldsList-from_vec}
use Rattle.myi_tail.specs.Seats.{TailReader, Appending}
use Rattle.myi_tail_tests.specs.Jobs.{tail_of}
use Rattle.myi_tail_tests.proofs.round.tail_from.Goals as goal

pub loop-job-preserved-in-Append : goal.loop-job-preserved-in-Append
loop-job-preserved-in-Append c =
    let t = YieldsList-turn (YieldsList-from_vec {s = c.into_iter-job-iterator.result} c.args.jobs.items (search rules) (search rules)) c.loop-job.yielded c.loop-job.job-iterator c.loop-job.yielded_by c.next.result c.next.new.self c.in-Some.job c.in-Some.is c.next.ensures.steps in
    (tt, tt, λ id all. (ap tail_of (sym c.in-Append.is) ∙ (ap tail_of t.1 ∙ all (length c.loop-job.yielded) c.in-Some.job t.0), (c.loop-job.invariant.2 id all).1))

pub loop-job-preserved : goal.loop-job-preserved
loop-job-preserved c =
    let t = YieldsList-turn (YieldsList-from_vec {s = c.into_iter-job-iterator.result} c.args.jobs.items (search rules) (search rules)) c.loop-job.yielded c.loop-job.job-iterator c.loop-job.yielded_by c.next.result c.next.new.self c.in-Some.job c.in-Some.is c.next.ensures.steps in (
      tt,
      tt,
      λ id all.
          let mine = ap tail_of (sym c.in-Read.is) ∙ (ap tail_of t.1 ∙ all (length c.loop-job.yielded) c.in-Some.job t.0) in
          let was = c.loop-job.invariant.2 id all in
          (was.0, subst (λ (rs : List TailReader). All (λ (r : TailReader). r.tail ≡ id) rs) (sym (search rules)) (All-append (λ (r : TailReader). r.tail ≡ id) c.loop-job.readers.items (c.in-Read.read.reader ∷ []) was.1 (All-cons (λ (r : TailReader). r.tail ≡ id) c.in-Read.read.reader [] mine (All-nil (λ (r : TailReader). r.tail ≡ id))))),
    )

pub returns-in-Some-found : goal.returns-in-Some-found
returns-in-Some-found c id all =
    let was = c.loop-job.invariant.2 id all in
    (subst (λ (o : Option Appending). IfSome o (λ a. a.tail ≡ id)) c.in-Some-found.is was.0, was.1)
