use Rattle.std.proofs.Common.{[], ◌∷◌, ◌++◌, length, ap, sym, ◌∙◌, subst, arith}
use Rattle.std.proofs.lemmas.List.{length-drop}
use Rattle.myi_base.specs.Numbers.{AreBytes}
use Rattle.myi_tail.specs.Prefix.{BeginsWith}
use Rattle.myi_spelling.specs.Pieces.{Reading, pieces, words_for}
use Rattle.myi_spelling.proofs.PieceLemmas.{sizes, left_is, grown, counted_row}
use Rattle.myi_spelling.proofs.rows.SpelledRows.read_row.Goals as goal

pub append_row-requires : goal.append_row-requires
append_row-requires c =
    let s = sizes 0 c.self.inside.bytes.items c.self.inside.ends.items c.self.invariant.ends in
    let long = s.0 in
    let room = ap (λ (r : Reading). r.room) c.self.view_is in
    let left = ap length (left_is c.self.inside.place c.args.words.now) in
    omega (arith, length-drop c.self.inside.place c.args.words.now, c.requires.room, c.self.invariant.place, c.self.invariant.fits, c.self.invariant.bytes_memory)

pub push_reserved-requires : goal.push_reserved-requires
push_reserved-requires c =
    let a = c.in-Some.ensures.row in
    let s = sizes 0 c.self.inside.bytes.items c.self.inside.ends.items c.self.invariant.ends in
    let few = s.1 in
    let room = ap (λ (r : Reading). r.room) c.self.view_is in
    let words = counted_row c.self.inside.place c.args.words.now c.in-Some.count c.self.inside.bytes.items c.append_row.new.bytes.items a in
    let here = words.0 in
    let more = words.1 in
    omega (arith, c.requires.room, c.self.invariant.place, c.self.invariant.ends_memory)

pub invariant_of-self-2 : goal.invariant_of-self-2
invariant_of-self-2 c =
    let begins : BeginsWith c.args.words.now (words_for (pieces 0 c.self.inside.bytes.items c.self.inside.ends.items)) =
    subst (λ (r : Reading). BeginsWith c.args.words.now (words_for r.rows)) (sym c.self.view_is) c.requires.more in
    let g = grown c.args.words.now c.self.inside.bytes.items c.self.inside.ends.items c.append_row.new.bytes.items c.push_reserved.new.self.items c.self.inside.place c.in-Some.count c.len.result
    c.self.invariant.ends c.self.invariant.place begins c.in-Some.ensures.row c.push_reserved.ensures.items (let l = c.len.ensures in omega arith) in
    let room = ap (λ (r : Reading). r.room) c.self.view_is in
    let fits = g.fits in record {
      bytes = subst AreBytes c.deref.ensures.value c.slices_are_bytes.ensures;
      ends = g.ends_so;
      place = g.place_so;
      fits = omega (arith, c.requires.room);
      bytes_memory = omega (arith, c.append_row.ensures.memory, c.self.invariant.bytes_memory);
      ends_memory = omega (arith, c.push_reserved.ensures.capacity, c.self.invariant.ends_memory);
    }

pub returns : goal.returns
returns c =
    let begins : BeginsWith c.args.words.now (words_for (pieces 0 c.self.inside.bytes.items c.self.inside.ends.items)) =
    subst (λ (r : Reading). BeginsWith c.args.words.now (words_for r.rows)) (sym c.self.view_is) c.requires.more in
    let a = c.in-Some.ensures.row in
    let g = grown c.args.words.now c.self.inside.bytes.items c.self.inside.ends.items c.append_row.new.bytes.items c.push_reserved.new.self.items c.self.inside.place c.in-Some.count c.len.result
    c.self.invariant.ends c.self.invariant.place begins a c.push_reserved.ensures.items (let l = c.len.ensures in omega arith) in
    record {
      row = record {
        row = a.row;
        of_bytes = a.of_bytes;
        added = (λ i. record { rows = g.rows i; room = c.self.inside.room }) ∙ ap (λ (r : Reading). record r { rows = r.rows ++ a.row ∷ [] }) c.self.view_is;
        more = g.more;
      };
    }
