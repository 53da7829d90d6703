use Rattle.std.proofs.Common.{length, ap}
use Rattle.myi_keytrees.specs.Trees.{Trees}
use Rattle.myi_keytrees.specs.Standing.{list_of}
use Rattle.myi_ranges.proofs.LeftLemmas.{comes_on, comes_off}
use Rattle.myi_ranges.proofs.CostLemmas.{rose_on}
use Rattle.myi_ranges.proofs.TreeLemmas.{strict_list}
use Rattle.myi_ranges.proofs.ranges.go_on.Goals as goal

pub returns-then-there-clause-next : goal.returns-then-there-clause-next
returns-then-there-clause-next g c = λ m held own lists s st.
    comes_on (list_of lists c.args.key) c.args.after c.advance.new.cursor (strict_list c.args.trees.now m own lists c.args.key s c.requires.key) (rw c.if-there.true at c.in_ok-there.ensures.next m held own lists s st)

pub returns-else-there-clause-next : goal.returns-else-there-clause-next
returns-else-there-clause-next g c = λ m held own lists s st.
    comes_off (list_of lists c.args.key) c.args.after c.advance.new.cursor (rw c.if-there.false at c.in_ok-there.ensures.next m held own lists s st)

pub returns-in_err-there-clause-few : goal.returns-in_err-there-clause-few
returns-in_err-there-clause-few g c = λ m held own lists s.
    rose_on c.args.after.ahead (length (list_of lists c.args.key)) (g.F.Files.reads c.args.files.now) (g.F.Files.reads c.advance.new.files) (λ some. ap g.F.Files.reads (c.advance.ensures.quiet some).1) (c.advance.ensures.few m held own lists s)

pub returns-in_err-there-clause-asked : goal.returns-in_err-there-clause-asked
returns-in_err-there-clause-asked g c = λ m held own lists s.
    rose_on c.args.after.ahead (length (list_of lists c.args.key)) c.args.trees.now.cache.counters.read_requests c.advance.new.self.cache.counters.read_requests (λ some. ap (λ (t : Trees). t.cache.counters.read_requests) (c.advance.ensures.quiet some).2) (c.advance.ensures.asked m held own lists s)

pub returns-then-there-clause-few : goal.returns-then-there-clause-few
returns-then-there-clause-few g c = λ m held own lists s.
    rose_on c.args.after.ahead (length (list_of lists c.args.key)) (g.F.Files.reads c.args.files.now) (g.F.Files.reads c.advance.new.files) (λ some. ap g.F.Files.reads (c.advance.ensures.quiet some).1) (c.advance.ensures.few m held own lists s)

pub returns-then-there-clause-asked : goal.returns-then-there-clause-asked
returns-then-there-clause-asked g c = λ m held own lists s.
    rose_on c.args.after.ahead (length (list_of lists c.args.key)) c.args.trees.now.cache.counters.read_requests c.advance.new.self.cache.counters.read_requests (λ some. ap (λ (t : Trees). t.cache.counters.read_requests) (c.advance.ensures.quiet some).2) (c.advance.ensures.asked m held own lists s)

pub returns-else-there-clause-few : goal.returns-else-there-clause-few
returns-else-there-clause-few g c = λ m held own lists s.
    rose_on c.args.after.ahead (length (list_of lists c.args.key)) (g.F.Files.reads c.args.files.now) (g.F.Files.reads c.advance.new.files) (λ some. ap g.F.Files.reads (c.advance.ensures.quiet some).1) (c.advance.ensures.few m held own lists s)

pub returns-else-there-clause-asked : goal.returns-else-there-clause-asked
returns-else-there-clause-asked g c = λ m held own lists s.
    rose_on c.args.after.ahead (length (list_of lists c.args.key)) c.args.trees.now.cache.counters.read_requests c.advance.new.self.cache.counters.read_requests (λ some. ap (λ (t : Trees). t.cache.counters.read_requests) (c.advance.ensures.quiet some).2) (c.advance.ensures.asked m held own lists s)
