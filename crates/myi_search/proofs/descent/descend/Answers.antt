use Rattle.std.proofs.Common.{Ok, Err, sym, ◌∙◌}
use Rattle.std.proofs.lemmas.Result.{err_from_is_err_and}
use Rattle.myi_search.specs.Passing.{passes, best_of}
use Rattle.myi_search.proofs.Serving.{if_err}
use Rattle.myi_search.proofs.ToldLaws.{Begins, run_told, no_pairs, found_told, arrives_told, stopped_told, never_told, asked_told, few_told, added_told, stays_told}
use Rattle.myi_search.proofs.RunLaws.{no_run}
use Rattle.myi_search.proofs.descent.descend.Goals as goal

pub returns-in_err-go_down-clause-stopped : goal.returns-in_err-go_down-clause-stopped
returns-in_err-go_down-clause-stopped g c =
    let begin : Begins c.args.place.now (g.F.Files.holds c.args.files.now) c.args.cache.now = λ m held current. c.walks_begin.ensures.begins g.F.Files.writable c.args.place.now (g.F.Files.holds c.args.files.now) c.args.cache.now m c.in-Some.root c.requires.kept held current c.in-Some.is in
    let e = err_from_is_err_and c.from_residual.result c.from_residual.ensures.1 in
    let h = stopped_told {T = Unit {0}} (Err c.in_err-go_down.field-0.0) c.args.place.now (passes c.args.bound.now) (g.F.Files.holds c.args.files.now) c.args.cache.now c.in-Some.root c.in-Some.is begin c.in_err-go_down.ensures.stops in
    if_err c.from_residual.result e.0 _ e.1 (λ p d. h p (sym e.2 ∙ d))

pub returns-in_err-go_down-clause-never : goal.returns-in_err-go_down-clause-never
returns-in_err-go_down-clause-never g c =
    let begin : Begins c.args.place.now (g.F.Files.holds c.args.files.now) c.args.cache.now = λ m held current. c.walks_begin.ensures.begins g.F.Files.writable c.args.place.now (g.F.Files.holds c.args.files.now) c.args.cache.now m c.in-Some.root c.requires.kept held current c.in-Some.is in
    let e = err_from_is_err_and c.from_residual.result c.from_residual.ensures.1 in
    let h = never_told {T = Unit {0}} (Err c.in_err-go_down.field-0.0) c.args.place.now (passes c.args.bound.now) (g.F.Files.holds c.args.files.now) c.args.cache.now c.in-Some.root c.in-Some.is begin c.in_err-go_down.ensures.stops in
    if_err c.from_residual.result e.0 _ e.1 (λ p d. h p (sym e.2 ∙ d))

pub returns-in_err-go_down-clause-stays : goal.returns-in_err-go_down-clause-stays
returns-in_err-go_down-clause-stays g c =
    let begin : Begins c.args.place.now (g.F.Files.holds c.args.files.now) c.args.cache.now = λ m held current. c.walks_begin.ensures.begins g.F.Files.writable c.args.place.now (g.F.Files.holds c.args.files.now) c.args.cache.now m c.in-Some.root c.requires.kept held current c.in-Some.is in
    stays_told c.args.place.now (g.F.Files.holds c.args.files.now) (g.F.Files.holds c.go_down.new.files) c.args.cache.now c.go_down.new.cache (g.F.Files.reads c.args.files.now) (g.F.Files.reads c.go_down.new.files) c.in-Some.root c.in-Some.is begin c.go_down.ensures.asked c.go_down.ensures.cache

pub returns-in_err-go_down-clause-added : goal.returns-in_err-go_down-clause-added
returns-in_err-go_down-clause-added g c =
    let begin : Begins c.args.place.now (g.F.Files.holds c.args.files.now) c.args.cache.now = λ m held current. c.walks_begin.ensures.begins g.F.Files.writable c.args.place.now (g.F.Files.holds c.args.files.now) c.args.cache.now m c.in-Some.root c.requires.kept held current c.in-Some.is in
    added_told c.args.place.now (g.F.Files.holds c.args.files.now) (g.F.Files.holds c.go_down.new.files) c.args.cache.now c.go_down.new.cache (g.F.Files.reads c.args.files.now) (g.F.Files.reads c.go_down.new.files) c.in-Some.root c.in-Some.is begin c.go_down.ensures.asked

pub returns-in_err-go_down-clause-asked : goal.returns-in_err-go_down-clause-asked
returns-in_err-go_down-clause-asked g c =
    let begin : Begins c.args.place.now (g.F.Files.holds c.args.files.now) c.args.cache.now = λ m held current. c.walks_begin.ensures.begins g.F.Files.writable c.args.place.now (g.F.Files.holds c.args.files.now) c.args.cache.now m c.in-Some.root c.requires.kept held current c.in-Some.is in
    asked_told c.args.place.now (g.F.Files.holds c.args.files.now) (g.F.Files.holds c.go_down.new.files) c.args.cache.now c.go_down.new.cache (g.F.Files.reads c.args.files.now) (g.F.Files.reads c.go_down.new.files) c.in-Some.root c.in-Some.is begin c.go_down.ensures.asked

pub returns-in_err-go_down-clause-few : goal.returns-in_err-go_down-clause-few
returns-in_err-go_down-clause-few g c =
    let begin : Begins c.args.place.now (g.F.Files.holds c.args.files.now) c.args.cache.now = λ m held current. c.walks_begin.ensures.begins g.F.Files.writable c.args.place.now (g.F.Files.holds c.args.files.now) c.args.cache.now m c.in-Some.root c.requires.kept held current c.in-Some.is in
    few_told c.args.place.now (g.F.Files.holds c.args.files.now) (g.F.Files.holds c.go_down.new.files) c.args.cache.now c.go_down.new.cache (g.F.Files.reads c.args.files.now) (g.F.Files.reads c.go_down.new.files) c.in-Some.root c.in-Some.is begin c.go_down.ensures.asked

pub returns-clause-stays : goal.returns-clause-stays
returns-clause-stays g c =
    let begin : Begins c.args.place.now (g.F.Files.holds c.args.files.now) c.args.cache.now = λ m held current. c.walks_begin.ensures.begins g.F.Files.writable c.args.place.now (g.F.Files.holds c.args.files.now) c.args.cache.now m c.in-Some.root c.requires.kept held current c.in-Some.is in
    stays_told c.args.place.now (g.F.Files.holds c.args.files.now) (g.F.Files.holds c.go_down.new.files) c.args.cache.now c.go_down.new.cache (g.F.Files.reads c.args.files.now) (g.F.Files.reads c.go_down.new.files) c.in-Some.root c.in-Some.is begin c.go_down.ensures.asked c.go_down.ensures.cache

pub returns-clause-added : goal.returns-clause-added
returns-clause-added g c =
    let begin : Begins c.args.place.now (g.F.Files.holds c.args.files.now) c.args.cache.now = λ m held current. c.walks_begin.ensures.begins g.F.Files.writable c.args.place.now (g.F.Files.holds c.args.files.now) c.args.cache.now m c.in-Some.root c.requires.kept held current c.in-Some.is in
    added_told c.args.place.now (g.F.Files.holds c.args.files.now) (g.F.Files.holds c.go_down.new.files) c.args.cache.now c.go_down.new.cache (g.F.Files.reads c.args.files.now) (g.F.Files.reads c.go_down.new.files) c.in-Some.root c.in-Some.is begin c.go_down.ensures.asked

pub returns-clause-asked : goal.returns-clause-asked
returns-clause-asked g c =
    let begin : Begins c.args.place.now (g.F.Files.holds c.args.files.now) c.args.cache.now = λ m held current. c.walks_begin.ensures.begins g.F.Files.writable c.args.place.now (g.F.Files.holds c.args.files.now) c.args.cache.now m c.in-Some.root c.requires.kept held current c.in-Some.is in
    asked_told c.args.place.now (g.F.Files.holds c.args.files.now) (g.F.Files.holds c.go_down.new.files) c.args.cache.now c.go_down.new.cache (g.F.Files.reads c.args.files.now) (g.F.Files.reads c.go_down.new.files) c.in-Some.root c.in-Some.is begin c.go_down.ensures.asked

pub returns-clause-few : goal.returns-clause-few
returns-clause-few g c =
    let begin : Begins c.args.place.now (g.F.Files.holds c.args.files.now) c.args.cache.now = λ m held current. c.walks_begin.ensures.begins g.F.Files.writable c.args.place.now (g.F.Files.holds c.args.files.now) c.args.cache.now m c.in-Some.root c.requires.kept held current c.in-Some.is in
    few_told c.args.place.now (g.F.Files.holds c.args.files.now) (g.F.Files.holds c.go_down.new.files) c.args.cache.now c.go_down.new.cache (g.F.Files.reads c.args.files.now) (g.F.Files.reads c.go_down.new.files) c.in-Some.root c.in-Some.is begin c.go_down.ensures.asked

pub returns-clause-found : goal.returns-clause-found
returns-clause-found g c =
    let begin : Begins c.args.place.now (g.F.Files.holds c.args.files.now) c.args.cache.now = λ m held current. c.walks_begin.ensures.begins g.F.Files.writable c.args.place.now (g.F.Files.holds c.args.files.now) c.args.cache.now m c.in-Some.root c.requires.kept held current c.in-Some.is in
    found_told {T = Unit {0}} (Ok tt) c.args.place.now (passes c.args.bound.now) (g.F.Files.holds c.args.files.now) c.args.cache.now c.in-Some.root (best_of c.go_down.new.reached) c.in-Some.is begin c.in_ok-go_down.ensures.ends

pub returns-clause-arrives : goal.returns-clause-arrives
returns-clause-arrives g c =
    let begin : Begins c.args.place.now (g.F.Files.holds c.args.files.now) c.args.cache.now = λ m held current. c.walks_begin.ensures.begins g.F.Files.writable c.args.place.now (g.F.Files.holds c.args.files.now) c.args.cache.now m c.in-Some.root c.requires.kept held current c.in-Some.is in
    arrives_told {T = Unit {0}} (Ok tt) c.args.place.now (passes c.args.bound.now) (g.F.Files.holds c.args.files.now) c.args.cache.now c.in-Some.root (best_of c.go_down.new.reached) c.in-Some.is begin c.in_ok-go_down.ensures.ends

pub returns-in_default-clause-run : goal.returns-in_default-clause-run
returns-in_default-clause-run g c = λ on m held current height pairs has parted.
    no_run (passes c.args.bound.now) pairs c.args.reached.now.run (no_pairs c.args.place.now c.args.cache.now m c.args.place.now.root height pairs c.in_default.is has) c.requires.empty

pub returns-clause-run : goal.returns-clause-run
returns-clause-run g c =
    let begin : Begins c.args.place.now (g.F.Files.holds c.args.files.now) c.args.cache.now = λ m held current. c.walks_begin.ensures.begins g.F.Files.writable c.args.place.now (g.F.Files.holds c.args.files.now) c.args.cache.now m c.in-Some.root c.requires.kept held current c.in-Some.is in
    run_told {T = Unit {0}} (Ok tt) c.args.reached.now.gathers c.args.place.now (passes c.args.bound.now) (g.F.Files.holds c.args.files.now) c.args.cache.now c.in-Some.root c.go_down.new.reached.run c.in-Some.is begin c.in_ok-go_down.ensures.run
