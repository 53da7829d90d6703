use Rattle.std.proofs.Common.{arith, inl, inr, sym, ◌∙◌}
use Rattle.myi_keypage.proofs.view.read_page.Goals as goal
use Rattle.myi_keypage.proofs.view.read_page.Goals.{then-used-lt-HEAD_LENGTH-via-then-used-lt-HEAD_LENGTH, then-used-lt-HEAD_LENGTH-via-else-used-lt-HEAD_LENGTH+then-bytes-used}
use Rattle.myi_keypage.proofs.PageIs.{if_found, if_none, expected}
use Rattle.myi_keypage.proofs.ShownIn.{shown_short, shown_odd, shown_even}

pub returns-clause-found : goal.returns-clause-found
returns-clause-found c = if_found c.args.rec_ref c.args.bytes.now c.view_of.result (λ i. omega (arith, c.type_inv.bytes i)) (omega arith) (omega arith) (omega arith) c.view_of.ensures

pub returns-clause-none : goal.returns-clause-none
returns-clause-none c = if_none c.args.rec_ref c.args.bytes.now c.view_of.result c.view_of.ensures

pub returns-then-bytes-lt-HEAD_LENGTH-clause-none : goal.returns-then-bytes-lt-HEAD_LENGTH-clause-none
returns-then-bytes-lt-HEAD_LENGTH-clause-none c = λ page h. omega (arith, (expected _ _ page h).two, c.if-bytes-lt-HEAD_LENGTH.true)

pub returns-then-used-lt-HEAD_LENGTH-clause-none : goal.returns-then-used-lt-HEAD_LENGTH-clause-none
returns-then-used-lt-HEAD_LENGTH-clause-none c = λ page h. let x = expected _ _ page h in
    elim c.then-used-lt-HEAD_LENGTH.branch [
      | then-used-lt-HEAD_LENGTH-via-then-used-lt-HEAD_LENGTH w ↦ omega (arith, x.used, w.if-used-lt-HEAD_LENGTH.true)
      | then-used-lt-HEAD_LENGTH-via-else-used-lt-HEAD_LENGTH+then-bytes-used w ↦ omega (arith, x.used, x.most, w.if-bytes-used.true)
    ]

pub returns-then-bytes-lt-HEAD_LENGTH-clause-shown : goal.returns-then-bytes-lt-HEAD_LENGTH-clause-shown
returns-then-bytes-lt-HEAD_LENGTH-clause-shown c = shown_short c.args.rec_ref c.args.bytes.now c.if-bytes-lt-HEAD_LENGTH.true

pub returns-then-used-lt-HEAD_LENGTH-clause-shown : goal.returns-then-used-lt-HEAD_LENGTH-clause-shown
returns-then-used-lt-HEAD_LENGTH-clause-shown c = elim c.then-used-lt-HEAD_LENGTH.branch [
  | then-used-lt-HEAD_LENGTH-via-then-used-lt-HEAD_LENGTH w ↦ shown_odd c.args.rec_ref c.args.bytes.now c.if-bytes-lt-HEAD_LENGTH.false (inl w.if-used-lt-HEAD_LENGTH.true)
  | then-used-lt-HEAD_LENGTH-via-else-used-lt-HEAD_LENGTH+then-bytes-used w ↦ shown_odd c.args.rec_ref c.args.bytes.now c.if-bytes-lt-HEAD_LENGTH.false (inr w.if-bytes-used.true)
]

pub returns-clause-shown : goal.returns-clause-shown
returns-clause-shown c = c.view_of.ensures ∙ sym (shown_even c.args.rec_ref c.args.bytes.now c.if-bytes-lt-HEAD_LENGTH.false c.if-used-lt-HEAD_LENGTH.false c.if-bytes-used.false)
