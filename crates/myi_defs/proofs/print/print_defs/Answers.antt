use Rattle.std.proofs.Common.{ap, ◌∙◌, arith, length}
use Rattle.myi_defs.specs.declared.header.Front.{Front}
use Rattle.myi_defs.specs.Header.{front}
use Rattle.myi_defs.proofs.PrintLemmas.{header_facts, print_reads}
use Rattle.myi_defs.proofs.print.print_defs.Goals as goal

pub read-front-requires : goal.read-front-requires
read-front-requires c =
    let fact = header_facts c.args.defs.now c.requires in
    omega (arith, fact.long, ap length c.as_slice-raw.ensures)

pub empty_header-requires-clause-base : goal.empty_header-requires-clause-base
empty_header-requires-clause-base c =
    let fact = header_facts c.args.defs.now c.requires in
    let same = c.read-front.ensures.value ∙ ap front c.as_slice-raw.ensures in
    omega (arith, fact.inside, ap (λ (f : Front). f.base_pos) same, ap length c.as_slice-raw.ensures)

pub empty_header-requires-clause-front_length : goal.empty_header-requires-clause-front_length
empty_header-requires-clause-front_length c =
    let fact = header_facts c.args.defs.now c.requires in
    omega (arith, fact.long, ap length c.as_slice-raw.ensures)

pub empty_header-requires-clause-short : goal.empty_header-requires-clause-short
empty_header-requires-clause-short c =
    let fact = header_facts c.args.defs.now c.requires in
    let same = c.read-front.ensures.value ∙ ap front c.as_slice-raw.ensures in
    omega (arith, fact.size, ap (λ (f : Front). f.header_length) same, ap length c.as_slice-raw.ensures)

pub returns-clause-read : goal.returns-clause-read
returns-clause-read c =
    rw (c.in_ok-empty_header.ensures, c.as_slice-raw.ensures) (print_reads c.args.defs.now c.requires)
