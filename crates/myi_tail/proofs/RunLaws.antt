-- The rule holds at each moment of a run, and so what it says of the readers.
use Rattle.std.proofs.Common.{ℕ, List, [], ◌∷◌, All, subst}
use Rattle.std.proofs.lemmas.List.Elements.{All-cons, All-nil}
use Rattle.myi_tail.specs.Prefix.{BeginsWith}
use Rattle.myi_tail.specs.Rule.{Moment, Kept}
use Rattle.myi_tail.specs.Runs.{new_table, IsStep, stores_word, stores_count, looks_at_count, loads_count, loads_word, splits_seat, joins_seat, IsRun, ReadersFollow}
use Rattle.myi_tail.proofs.RuleLaws.{opens, stores_word as word_stored, stores_count as count_stored, looks_at_count as count_looked_at, loads_count as count_loaded, loads_word as word_loaded, splits_seat as seat_split, joins_seat as seat_joined, published_cells, seen_published, known_published}

kept_after : (before after : Moment) → Kept before → IsStep before after → Kept after
kept_after before after k (stores_word seat a word step) = (word_stored seat a word before after k step).0
kept_after before after k (stores_count seat a step) = (count_stored seat a before after k step).0
kept_after before after k (looks_at_count seat a step) = (count_looked_at seat a before after k step).0.0
kept_after before after k (loads_count seat r count step) = (count_loaded seat r count before after k step).0.0
kept_after before after k (loads_word seat r word step) = (word_loaded seat r word before after k step).0.0
kept_after before after k (splits_seat seat a step) = (seat_split seat a before after k step).0
kept_after before after k (joins_seat seat other a r step) = (seat_joined seat other a r before after k step).0

kept_follows : (m : Moment) → Kept m → ReadersFollow m
kept_follows m k seat r here =
    (seen_published m k seat r here, subst (λ (words : List ℕ). BeginsWith words r.known) (published_cells m k) (known_published m k seat r here))

run_followed : (m : Moment) (run : List Moment) → Kept m → IsRun m run → All ReadersFollow run
run_followed m [] k is = All-nil ReadersFollow
run_followed m (n ∷ later) k is =
    let kept = kept_after m n k is.0 in
    All-cons ReadersFollow n later (kept_follows n kept) (run_followed n later kept is.1)

pub opening_followed : (words : ℕ) (run : List Moment) → IsRun (new_table words) run → All ReadersFollow run
opening_followed words run is = run_followed (new_table words) run (opens words) is
