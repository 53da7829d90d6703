use Rattle.myi_defs.proofs.CallerLemmas.{print_reads, printed-again}
use Rattle.myi_defs.proofs.laws.empty_tables_print_again.Goals as goal

pub returns : goal.returns
returns c = record { read = print_reads; again = printed-again }
