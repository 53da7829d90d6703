use Rattle.std.proofs.Common.{◌≡◌, arith, refl}
use Rattle.std.specs.Prelude.{true}
use Rattle.myi_frames.specs.Block.{is_place}
use Rattle.myi_frames.proofs.FormLemmas.{below_width, data-room}
use Rattle.myi_frames.proofs.BlockLemmas.{place_test}
use Rattle.myi_frames.proofs.head.read_header.Goals as goal

pub block_size-size-requires-clause-rec_len : goal.block_size-size-requires-clause-rec_len
block_size-size-requires-clause-rec_len c =
    below_width c.in-Some.form.rec_len 4 _ c.in-Some.ensures.narrow.rec_len c.number_at-rec_len.ensures.below

pub block_size-size-requires-clause-whole : goal.block_size-size-requires-clause-whole
block_size-size-requires-clause-whole c =
    λ e. below_width c.in-Some.form.rec_len 3 _ (c.in-Some.ensures.narrow.whole e) c.number_at-rec_len.ensures.below

pub block_size-size-requires-clause-len : goal.block_size-size-requires-clause-len
block_size-size-requires-clause-len c =
    below_width c.in-Some.form.len 3 _ c.in-Some.ensures.narrow.len c.number_at-len.ensures.below

pub block_size-size-requires-clause-unused : goal.block_size-size-requires-clause-unused
block_size-size-requires-clause-unused c =
    below_width c.in-Some.form.unused 1 _ c.in-Some.ensures.narrow.unused c.number_at-unused.ensures.below

pub overflow_cast-result-2 : goal.overflow_cast-result-2
overflow_cast-result-2 c =
    omega (arith, below_width c.in-Some.form.rec_len 4 c.number_at-rec_len.result c.in-Some.ensures.narrow.rec_len c.number_at-rec_len.ensures.below)

pub returns-clause-place : goal.returns-clause-place
returns-clause-place c =
    let form = c.in-Some.form in
    let test : is_place c.args.at c.block_size-size.result c.args.file_len ≡ true = cc (c.is_place.ensures, c.if-not-is_place.false) in
    let place = place_test c.args.at c.block_size-size.result c.args.file_len test in
    let size = c.block_size-size.ensures.size in
    let rec_len = c.number_at-rec_len in
    let len = c.number_at-len in
    let held = c.data_len.ensures in
    let start = c.header_len-start.ensures in
    let long = c.in-Some.ensures.narrow.long in
    let room = data-room form.kind c.header_len-start.result form.rec_len form.len rec_len.result len.result c.number_at-unused.result (omega arith) (omega arith) rec_len.ensures.below len.ensures.below (omega (arith, size, place.least)) in
    (refl, place, record { multiple = place.multiple; least = place.least; room = rw (held, size) room })
