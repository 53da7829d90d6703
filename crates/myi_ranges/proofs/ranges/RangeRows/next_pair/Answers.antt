use Rattle.std.proofs.Common.{◌≡◌, [], length, subst}
use Rattle.myi_search.specs.Cursor.{CursorAt}
use Rattle.myi_search.proofs.CallerLemmas.{counts_none}
use Rattle.myi_keytrees.specs.Standing.{list_of}
use Rattle.myi_ranges.specs.declared.ranges.Reached.{Reached}
use Rattle.myi_ranges.specs.declared.ranges.Reached.TheVariants.{Behind}
use Rattle.myi_ranges.specs.Ranges.{left_of, ReadsAhead, ComesTo, searches, RoseBySearches}
use Rattle.myi_ranges.proofs.LeftLemmas.{comes_first, end_none}
use Rattle.myi_ranges.proofs.CostLemmas.{still}
use Rattle.myi_ranges.proofs.ranges.RangeRows.next_pair.Goals as goal

pub returns-in_ok-first-in-Start-clause-next : goal.returns-in_ok-first-in-Start-clause-next
returns-in_ok-first-in-Start-clause-next g c = λ m held own lists s st.
    let list = list_of lists c.args.self.now.key in
    subst (λ (r : Reached). ComesTo r list c.in_ok-first-in-Start.first) c.in-Start.ensures.value
    (comes_first list c.in_ok-start-in-Start.start c.in_ok-first-in-Start.first c.in_ok-start-in-Start.ensures (c.in_ok-first-in-Start.ensures.next m held own lists s))

pub returns-in_ok-first-in-Key-clause-next : goal.returns-in_ok-first-in-Key-clause-next
returns-in_ok-first-in-Key-clause-next g c = λ m held own lists s st.
    subst (λ (r : Reached). ComesTo r (list_of lists c.args.self.now.key) c.in_ok-first-in-Key.first) c.in-Key.ensures.value (c.in_ok-first-in-Key.ensures.next m held own lists s)

pub returns-in_ok-next-in-Behind-clause-next : goal.returns-in_ok-next-in-Behind-clause-next
returns-in_ok-next-in-Behind-clause-next g c = λ m held own lists s.
    let list = list_of lists c.args.self.now.key in
    subst (λ (r : Reached). ReadsAhead r list → ComesTo r list c.in_ok-next-in-Behind.next) c.in-Behind.ensures.value (c.in_ok-next-in-Behind.ensures.next m held own lists s)

pub returns-in-End-clause-next : goal.returns-in-End-clause-next
returns-in-End-clause-next g c = λ m held own lists s st.
    let list = list_of lists c.args.self.now.key in
    subst (λ (r : Reached). left_of r list ≡ []) c.in-End.ensures.value (end_none list)

pub returns-in_err-first-in-Start-clause-few : goal.returns-in_err-first-in-Start-clause-few
returns-in_err-first-in-Start-clause-few g c = λ m held own lists s.
    subst (λ (r : Reached). RoseBySearches (searches r) (length (list_of lists c.args.self.now.key)) 0 (g.F.Files.reads c.args.files.now) (g.F.Files.reads c.go_on.new.files)) c.in-Start.ensures.value (subst (λ (t : CursorAt). RoseBySearches (searches (Behind t)) (length (list_of lists c.args.self.now.key)) 0 (g.F.Files.reads c.args.files.now) (g.F.Files.reads c.go_on.new.files)) c.in_ok-start-in-Start.ensures (c.go_on.ensures.few m held own lists s))

pub returns-in_err-first-in-Start-clause-asked : goal.returns-in_err-first-in-Start-clause-asked
returns-in_err-first-in-Start-clause-asked g c = λ m held own lists s.
    subst (λ (r : Reached). RoseBySearches (searches r) (length (list_of lists c.args.self.now.key)) 0 c.args.trees.now.cache.counters.read_requests c.go_on.new.trees.cache.counters.read_requests) c.in-Start.ensures.value (subst (λ (t : CursorAt). RoseBySearches (searches (Behind t)) (length (list_of lists c.args.self.now.key)) 0 c.args.trees.now.cache.counters.read_requests c.go_on.new.trees.cache.counters.read_requests) c.in_ok-start-in-Start.ensures (c.go_on.ensures.asked m held own lists s))

pub returns-in_ok-first-in-Start-clause-few : goal.returns-in_ok-first-in-Start-clause-few
returns-in_ok-first-in-Start-clause-few g c = λ m held own lists s.
    subst (λ (r : Reached). RoseBySearches (searches r) (length (list_of lists c.args.self.now.key)) 0 (g.F.Files.reads c.args.files.now) (g.F.Files.reads c.go_on.new.files)) c.in-Start.ensures.value (subst (λ (t : CursorAt). RoseBySearches (searches (Behind t)) (length (list_of lists c.args.self.now.key)) 0 (g.F.Files.reads c.args.files.now) (g.F.Files.reads c.go_on.new.files)) c.in_ok-start-in-Start.ensures (c.go_on.ensures.few m held own lists s))

pub returns-in_ok-first-in-Start-clause-asked : goal.returns-in_ok-first-in-Start-clause-asked
returns-in_ok-first-in-Start-clause-asked g c = λ m held own lists s.
    subst (λ (r : Reached). RoseBySearches (searches r) (length (list_of lists c.args.self.now.key)) 0 c.args.trees.now.cache.counters.read_requests c.go_on.new.trees.cache.counters.read_requests) c.in-Start.ensures.value (subst (λ (t : CursorAt). RoseBySearches (searches (Behind t)) (length (list_of lists c.args.self.now.key)) 0 c.args.trees.now.cache.counters.read_requests c.go_on.new.trees.cache.counters.read_requests) c.in_ok-start-in-Start.ensures (c.go_on.ensures.asked m held own lists s))

pub returns-in_err-first-in-Key-clause-few : goal.returns-in_err-first-in-Key-clause-few
returns-in_err-first-in-Key-clause-few g c = λ m held own lists s.
    subst (λ (r : Reached). RoseBySearches (searches r) (length (list_of lists c.args.self.now.key)) 0 (g.F.Files.reads c.args.files.now) (g.F.Files.reads c.first_from.new.files)) c.in-Key.ensures.value (c.first_from.ensures.few m held own lists s)

pub returns-in_err-first-in-Key-clause-asked : goal.returns-in_err-first-in-Key-clause-asked
returns-in_err-first-in-Key-clause-asked g c = λ m held own lists s.
    subst (λ (r : Reached). RoseBySearches (searches r) (length (list_of lists c.args.self.now.key)) 0 c.args.trees.now.cache.counters.read_requests c.first_from.new.trees.cache.counters.read_requests) c.in-Key.ensures.value (c.first_from.ensures.asked m held own lists s)

pub returns-in_ok-first-in-Key-clause-few : goal.returns-in_ok-first-in-Key-clause-few
returns-in_ok-first-in-Key-clause-few g c = λ m held own lists s.
    subst (λ (r : Reached). RoseBySearches (searches r) (length (list_of lists c.args.self.now.key)) 0 (g.F.Files.reads c.args.files.now) (g.F.Files.reads c.first_from.new.files)) c.in-Key.ensures.value (c.first_from.ensures.few m held own lists s)

pub returns-in_ok-first-in-Key-clause-asked : goal.returns-in_ok-first-in-Key-clause-asked
returns-in_ok-first-in-Key-clause-asked g c = λ m held own lists s.
    subst (λ (r : Reached). RoseBySearches (searches r) (length (list_of lists c.args.self.now.key)) 0 c.args.trees.now.cache.counters.read_requests c.first_from.new.trees.cache.counters.read_requests) c.in-Key.ensures.value (c.first_from.ensures.asked m held own lists s)

pub returns-in_err-next-in-Behind-clause-few : goal.returns-in_err-next-in-Behind-clause-few
returns-in_err-next-in-Behind-clause-few g c = λ m held own lists s.
    subst (λ (r : Reached). RoseBySearches (searches r) (length (list_of lists c.args.self.now.key)) 0 (g.F.Files.reads c.args.files.now) (g.F.Files.reads c.go_on-in-Behind.new.files)) c.in-Behind.ensures.value (c.go_on-in-Behind.ensures.few m held own lists s)

pub returns-in_err-next-in-Behind-clause-asked : goal.returns-in_err-next-in-Behind-clause-asked
returns-in_err-next-in-Behind-clause-asked g c = λ m held own lists s.
    subst (λ (r : Reached). RoseBySearches (searches r) (length (list_of lists c.args.self.now.key)) 0 c.args.trees.now.cache.counters.read_requests c.go_on-in-Behind.new.trees.cache.counters.read_requests) c.in-Behind.ensures.value (c.go_on-in-Behind.ensures.asked m held own lists s)

pub returns-in_ok-next-in-Behind-clause-few : goal.returns-in_ok-next-in-Behind-clause-few
returns-in_ok-next-in-Behind-clause-few g c = λ m held own lists s.
    subst (λ (r : Reached). RoseBySearches (searches r) (length (list_of lists c.args.self.now.key)) 0 (g.F.Files.reads c.args.files.now) (g.F.Files.reads c.go_on-in-Behind.new.files)) c.in-Behind.ensures.value (c.go_on-in-Behind.ensures.few m held own lists s)

pub returns-in_ok-next-in-Behind-clause-asked : goal.returns-in_ok-next-in-Behind-clause-asked
returns-in_ok-next-in-Behind-clause-asked g c = λ m held own lists s.
    subst (λ (r : Reached). RoseBySearches (searches r) (length (list_of lists c.args.self.now.key)) 0 c.args.trees.now.cache.counters.read_requests c.go_on-in-Behind.new.trees.cache.counters.read_requests) c.in-Behind.ensures.value (c.go_on-in-Behind.ensures.asked m held own lists s)

pub returns-in_err-start-in-Start-clause-few : goal.returns-in_err-start-in-Start-clause-few
returns-in_err-start-in-Start-clause-few g c = λ m held own lists s. still (searches c.args.self.now.reached) (length (list_of lists c.args.self.now.key)) (g.F.Files.reads c.args.files.now)

pub returns-in_err-start-in-Start-clause-asked : goal.returns-in_err-start-in-Start-clause-asked
returns-in_err-start-in-Start-clause-asked g c = λ m held own lists s. still (searches c.args.self.now.reached) (length (list_of lists c.args.self.now.key)) c.args.trees.now.cache.counters.read_requests

pub returns-in-End-clause-few : goal.returns-in-End-clause-few
returns-in-End-clause-few g c = λ m held own lists s. still (searches c.args.self.now.reached) (length (list_of lists c.args.self.now.key)) (g.F.Files.reads c.args.files.now)

pub returns-in-End-clause-asked : goal.returns-in-End-clause-asked
returns-in-End-clause-asked g c = λ m held own lists s. still (searches c.args.self.now.reached) (length (list_of lists c.args.self.now.key)) c.args.trees.now.cache.counters.read_requests

pub returns-in_err-start-in-Start-clause-counted : goal.returns-in_err-start-in-Start-clause-counted
returns-in_err-start-in-Start-clause-counted g c = counts_none c.args.trees.now.cache

pub returns-in-End-clause-counted : goal.returns-in-End-clause-counted
returns-in-End-clause-counted g c = counts_none c.args.trees.now.cache
