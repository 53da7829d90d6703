use Rattle.std.proofs.Common.{ℕ, Option, length, sym, subst, ◌∙◌}
use Rattle.std.proofs.lemmas.Result.{err_from_is_err_and}
use Rattle.myi_search.specs.Cursor.{CursorAt}
use Rattle.myi_search.specs.Least.{IsLeastRow}
use Rattle.myi_search.proofs.CallerLemmas.{counts_on}
use Rattle.myi_keytrees.specs.Standing.{list_of, IfStand}
use Rattle.myi_ranges.specs.declared.ranges.Reached.TheVariants.{Behind}
use Rattle.myi_ranges.specs.Ranges.{searches, RoseBySearches}
use Rattle.myi_ranges.proofs.LeftLemmas.{comes_at, comes_past}
use Rattle.myi_ranges.proofs.CostLemmas.{rose_one_of_two, rose_two}
use Rattle.myi_ranges.proofs.TreeLemmas.{strict_list, searched, follow, can_again, before_search, if_err}
use Rattle.myi_ranges.proofs.ranges.first_from.Goals as goal

pub returns-in_ok-first-in-Some-clause-next : goal.returns-in_ok-first-in-Some-clause-next
returns-in_ok-first-in-Some-clause-next g c = λ m held own lists s.
    let list = list_of lists c.args.key in
    comes_at c.args.low list c.in-Some.row c.in_ok-first-in-Some.first (strict_list c.args.trees.now m own lists c.args.key s c.requires.key) c.in_ok-first-in-Some.ensures
    (subst (λ (o : Option ℕ). IsLeastRow c.args.low list o) c.in-Some.is (c.in_ok-found.ensures.least m held own lists s))

pub go_on-requires-clause-kept : goal.go_on-requires-clause-kept
go_on-requires-clause-kept g c κs within =
    let told = g.F.Files.holds c.args.files.now in
    let mid = g.F.Files.holds c.find.new.files in
    can_again g.F.Files.writable told mid c.args.trees.now c.find.new.self (searched told mid c.args.trees.now c.find.new.self c.find.ensures.stand c.find.ensures.places c.find.ensures.room c.find.ensures.cache) c.requires.kept

pub returns-in_ok-first-in-None-clause-next : goal.returns-in_ok-first-in-None-clause-next
returns-in_ok-first-in-None-clause-next g c = λ m held own lists s.
    let then = c.find.ensures.stand m held own lists s in
    let list = list_of lists c.args.key in
    comes_past c.args.low list c.in_ok-before-in-None.before c.in_ok-first-in-None.first c.in_ok-before-in-None.ensures (subst (λ (o : Option ℕ). IsLeastRow c.args.low list o) c.in-None.is (c.in_ok-found.ensures.least m held own lists s))
    (c.in_ok-first-in-None.ensures.next then.now then.held own lists then.stand)

pub returns-in_err-first-in-None-clause-never : goal.returns-in_err-first-in-None-clause-never
returns-in_err-first-in-None-clause-never g c =
    let told = g.F.Files.holds c.args.files.now in
    let mid = g.F.Files.holds c.find.new.files in
    let e = err_from_is_err_and c.from_residual-in_err-first-in-None.result c.from_residual-in_err-first-in-None.ensures.1 in
    if_err c.from_residual-in_err-first-in-None.result e.0 _ e.1
    (λ p d. before_search told mid c.args.trees.now c.find.new.self (λ lists. ⊥) (searched told mid c.args.trees.now c.find.new.self c.find.ensures.stand c.find.ensures.places c.find.ensures.room c.find.ensures.cache)
    (c.in_err-first-in-None.ensures.never p (sym e.2 ∙ d)))

pub returns-in_err-first-in-None-clause-searched : goal.returns-in_err-first-in-None-clause-searched
returns-in_err-first-in-None-clause-searched g c =
    let told = g.F.Files.holds c.args.files.now in
    let mid = g.F.Files.holds c.find.new.files in
    let next = g.F.Files.holds c.go_on.new.files in
    follow told mid next c.args.trees.now c.find.new.self c.go_on.new.trees (searched told mid c.args.trees.now c.find.new.self c.find.ensures.stand c.find.ensures.places c.find.ensures.room c.find.ensures.cache) c.go_on.ensures.searched

pub returns-in_err-first-in-None-clause-few : goal.returns-in_err-first-in-None-clause-few
returns-in_err-first-in-None-clause-few g c = λ m held own lists s.
    let told = g.F.Files.holds c.args.files.now in
    let mid = g.F.Files.holds c.find.new.files in
    let start = g.F.Files.reads c.args.files.now in
    let read = g.F.Files.reads c.find.new.files in
    let last = g.F.Files.reads c.go_on.new.files in
    rose_two (length (list_of lists c.args.key)) start read last (c.find.ensures.few m held own lists s)
    (before_search told mid c.args.trees.now c.find.new.self (λ ls. RoseBySearches 1 (length (list_of ls c.args.key)) 0 read last) (searched told mid c.args.trees.now c.find.new.self c.find.ensures.stand c.find.ensures.places c.find.ensures.room c.find.ensures.cache)
    (subst (λ (t : CursorAt). IfStand mid c.find.new.self (λ m own ls. RoseBySearches (searches (Behind t)) (length (list_of ls c.args.key)) 0 read last)) c.in_ok-before-in-None.ensures c.go_on.ensures.few) m held own lists s)

pub returns-in_err-first-in-None-clause-asked : goal.returns-in_err-first-in-None-clause-asked
returns-in_err-first-in-None-clause-asked g c = λ m held own lists s.
    let told = g.F.Files.holds c.args.files.now in
    let mid = g.F.Files.holds c.find.new.files in
    let start = c.args.trees.now.cache.counters.read_requests in
    let read = c.find.new.self.cache.counters.read_requests in
    let last = c.go_on.new.trees.cache.counters.read_requests in
    rose_two (length (list_of lists c.args.key)) start read last (c.find.ensures.asked m held own lists s)
    (before_search told mid c.args.trees.now c.find.new.self (λ ls. RoseBySearches 1 (length (list_of ls c.args.key)) 0 read last) (searched told mid c.args.trees.now c.find.new.self c.find.ensures.stand c.find.ensures.places c.find.ensures.room c.find.ensures.cache)
    (subst (λ (t : CursorAt). IfStand mid c.find.new.self (λ m own ls. RoseBySearches (searches (Behind t)) (length (list_of ls c.args.key)) 0 read last)) c.in_ok-before-in-None.ensures c.go_on.ensures.asked) m held own lists s)

pub returns-in_ok-first-in-None-clause-searched : goal.returns-in_ok-first-in-None-clause-searched
returns-in_ok-first-in-None-clause-searched g c =
    let told = g.F.Files.holds c.args.files.now in
    let mid = g.F.Files.holds c.find.new.files in
    let next = g.F.Files.holds c.go_on.new.files in
    follow told mid next c.args.trees.now c.find.new.self c.go_on.new.trees (searched told mid c.args.trees.now c.find.new.self c.find.ensures.stand c.find.ensures.places c.find.ensures.room c.find.ensures.cache) c.go_on.ensures.searched

pub returns-in_ok-first-in-None-clause-few : goal.returns-in_ok-first-in-None-clause-few
returns-in_ok-first-in-None-clause-few g c = λ m held own lists s.
    let told = g.F.Files.holds c.args.files.now in
    let mid = g.F.Files.holds c.find.new.files in
    let start = g.F.Files.reads c.args.files.now in
    let read = g.F.Files.reads c.find.new.files in
    let last = g.F.Files.reads c.go_on.new.files in
    rose_two (length (list_of lists c.args.key)) start read last (c.find.ensures.few m held own lists s)
    (before_search told mid c.args.trees.now c.find.new.self (λ ls. RoseBySearches 1 (length (list_of ls c.args.key)) 0 read last) (searched told mid c.args.trees.now c.find.new.self c.find.ensures.stand c.find.ensures.places c.find.ensures.room c.find.ensures.cache)
    (subst (λ (t : CursorAt). IfStand mid c.find.new.self (λ m own ls. RoseBySearches (searches (Behind t)) (length (list_of ls c.args.key)) 0 read last)) c.in_ok-before-in-None.ensures c.go_on.ensures.few) m held own lists s)

pub returns-in_ok-first-in-None-clause-asked : goal.returns-in_ok-first-in-None-clause-asked
returns-in_ok-first-in-None-clause-asked g c = λ m held own lists s.
    let told = g.F.Files.holds c.args.files.now in
    let mid = g.F.Files.holds c.find.new.files in
    let start = c.args.trees.now.cache.counters.read_requests in
    let read = c.find.new.self.cache.counters.read_requests in
    let last = c.go_on.new.trees.cache.counters.read_requests in
    rose_two (length (list_of lists c.args.key)) start read last (c.find.ensures.asked m held own lists s)
    (before_search told mid c.args.trees.now c.find.new.self (λ ls. RoseBySearches 1 (length (list_of ls c.args.key)) 0 read last) (searched told mid c.args.trees.now c.find.new.self c.find.ensures.stand c.find.ensures.places c.find.ensures.room c.find.ensures.cache)
    (subst (λ (t : CursorAt). IfStand mid c.find.new.self (λ m own ls. RoseBySearches (searches (Behind t)) (length (list_of ls c.args.key)) 0 read last)) c.in_ok-before-in-None.ensures c.go_on.ensures.asked) m held own lists s)

pub returns-in_err-found-clause-few : goal.returns-in_err-found-clause-few
returns-in_err-found-clause-few g c = λ m held own lists s. rose_one_of_two (length (list_of lists c.args.key)) (g.F.Files.reads c.args.files.now) (g.F.Files.reads c.find.new.files) (c.find.ensures.few m held own lists s)

pub returns-in_err-found-clause-asked : goal.returns-in_err-found-clause-asked
returns-in_err-found-clause-asked g c = λ m held own lists s. rose_one_of_two (length (list_of lists c.args.key)) c.args.trees.now.cache.counters.read_requests c.find.new.self.cache.counters.read_requests (c.find.ensures.asked m held own lists s)

pub returns-in_err-first-in-Some-clause-few : goal.returns-in_err-first-in-Some-clause-few
returns-in_err-first-in-Some-clause-few g c = λ m held own lists s. rose_one_of_two (length (list_of lists c.args.key)) (g.F.Files.reads c.args.files.now) (g.F.Files.reads c.find.new.files) (c.find.ensures.few m held own lists s)

pub returns-in_err-first-in-Some-clause-asked : goal.returns-in_err-first-in-Some-clause-asked
returns-in_err-first-in-Some-clause-asked g c = λ m held own lists s. rose_one_of_two (length (list_of lists c.args.key)) c.args.trees.now.cache.counters.read_requests c.find.new.self.cache.counters.read_requests (c.find.ensures.asked m held own lists s)

pub returns-in_ok-first-in-Some-clause-few : goal.returns-in_ok-first-in-Some-clause-few
returns-in_ok-first-in-Some-clause-few g c = λ m held own lists s. rose_one_of_two (length (list_of lists c.args.key)) (g.F.Files.reads c.args.files.now) (g.F.Files.reads c.find.new.files) (c.find.ensures.few m held own lists s)

pub returns-in_ok-first-in-Some-clause-asked : goal.returns-in_ok-first-in-Some-clause-asked
returns-in_ok-first-in-Some-clause-asked g c = λ m held own lists s. rose_one_of_two (length (list_of lists c.args.key)) c.args.trees.now.cache.counters.read_requests c.find.new.self.cache.counters.read_requests (c.find.ensures.asked m held own lists s)

pub returns-in_err-before-in-None-clause-few : goal.returns-in_err-before-in-None-clause-few
returns-in_err-before-in-None-clause-few g c = λ m held own lists s. rose_one_of_two (length (list_of lists c.args.key)) (g.F.Files.reads c.args.files.now) (g.F.Files.reads c.find.new.files) (c.find.ensures.few m held own lists s)

pub returns-in_err-before-in-None-clause-asked : goal.returns-in_err-before-in-None-clause-asked
returns-in_err-before-in-None-clause-asked g c = λ m held own lists s. rose_one_of_two (length (list_of lists c.args.key)) c.args.trees.now.cache.counters.read_requests c.find.new.self.cache.counters.read_requests (c.find.ensures.asked m held own lists s)

pub returns-in_err-first-in-None-clause-counted : goal.returns-in_err-first-in-None-clause-counted
returns-in_err-first-in-None-clause-counted g c = counts_on c.args.trees.now.cache c.find.new.self.cache c.go_on.new.trees.cache c.find.ensures.counted c.go_on.ensures.counted

pub returns-in_ok-first-in-None-clause-counted : goal.returns-in_ok-first-in-None-clause-counted
returns-in_ok-first-in-None-clause-counted g c = counts_on c.args.trees.now.cache c.find.new.self.cache c.go_on.new.trees.cache c.find.ensures.counted c.go_on.ensures.counted
