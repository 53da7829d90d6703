use Rattle.std.proofs.Common.{◌≡◌, ℕ, List, All, sym, subst, ◌∙◌, arith}
use Rattle.std.proofs.lemmas.List.{map-id, take_all}
use Rattle.myi_tail.specs.Prefix.{BeginsWith}
use Rattle.myi_tail.specs.Seats.{TailReader}
use Rattle.myi_readers.specs.declared.file_reader.Reader.{Reader}
use Rattle.myi_share.proofs.TakeLemmas.{all_along}
use Rattle.myi_share.proofs.closing.published.Goals as goal

pub close-requires : goal.close-requires
close-requires g c =
    let seats = c.in_ok-seats.seats.items in
    all_along (λ (s : TailReader). s) (λ (r : Reader g.row.R.Denot). r.table.seat) (λ (s : TailReader). s.tail ≡ c.args.appender.tail) seats c.args.readers.items (map-id seats ∙ c.in_ok-seats.ensures.seats) c.requires.tail

pub returns-clause-known : goal.returns-clause-known
returns-clause-known g c =
    let seats = c.in_ok-seats.seats.items in
    let all = c.args.appender.words in
    let words : c.in_ok-words.words.items ≡ all = c.in_ok-words.ensures.words ∙ take_all c.args.appender.published all (omega (arith, c.requires.all)) in
    let known = subst (λ (v : List ℕ). All (λ (s : TailReader). BeginsWith v s.known) seats) words c.in_ok-words.ensures.known in
    all_along (λ (r : Reader g.row.R.Denot). r.table.seat) (λ (s : TailReader). s) (λ (s : TailReader). BeginsWith all s.known) c.args.readers.items seats (sym (map-id seats ∙ c.in_ok-seats.ensures.seats)) known
