use Rattle.std.proofs.Common.{◌≡◌, ◌+◌, ◌++◌, ℕ, length, drop, subst, ◌∙◌, arith}
use Rattle.std.proofs.lemmas.List.{take_rest}
use Rattle.myi_keypage.specs.Page.{shared, entry_bytes, child_bytes}
use Rattle.myi_keypage.specs.Shifting.{HasEntries}
use Rattle.myi_keypage.proofs.ShiftLaws.{going_on, gone, small_sum, child_shifted}
use Rattle.myi_keypage.proofs.shift.shift_entries.Goals as goal

pub shift_child-at-requires-clause-room : goal.shift_child-at-requires-clause-room
shift_child-at-requires-clause-room c =
    let r = c.requires.left in
    let i = c.entries.invariant.left r.0 r.1 r.3 r.4 r.2 r.5 in
    let n = going_on c.args.rec_ref c.args.by c.entries.page c.entries.at c.args.used i.done i.before i.entries i.children r.2 i.has c.entries-test.true in
    let size : c.entry_size-at.result ≡ length (entry_bytes c.args.rec_ref i.before n.entry) = c.entry_size-at.ensures.value (shared i.before n.entry.key) n.entry.row (drop (shared i.before n.entry.key) n.entry.key) (child_bytes n.child ++ n.back) n.prefix n.key n.row (take_rest c.entries.page c.entries.at ∙ n.here) in
    omega (arith, size, n.room)

pub shift_child-at-requires-clause-small : goal.shift_child-at-requires-clause-small
shift_child-at-requires-clause-small c =
    let r = c.requires.left in
    let i = c.entries.invariant.left r.0 r.1 r.3 r.4 r.2 r.5 in
    let n = going_on c.args.rec_ref c.args.by c.entries.page c.entries.at c.args.used i.done i.before i.entries i.children r.2 i.has c.entries-test.true in
    let size : c.entry_size-at.result ≡ length (entry_bytes c.args.rec_ref i.before n.entry) = c.entry_size-at.ensures.value (shared i.before n.entry.key) n.entry.row (drop (shared i.before n.entry.key) n.entry.key) (child_bytes n.child ++ n.back) n.prefix n.key n.row (take_rest c.entries.page c.entries.at ∙ n.here) in
    let start : length (i.done ++ entry_bytes c.args.rec_ref i.before n.entry) ≡ c.entries.at + c.entry_size-at.result = omega (arith, n.start, size) in
    small_sum c.entries.page (i.done ++ entry_bytes c.args.rec_ref i.before n.entry) n.back (c.entries.at + c.entry_size-at.result) n.child c.args.by n.there start n.one n.two

pub entries-preserved : goal.entries-preserved
entries-preserved c = record {
  left = λ done before entries children rest has.
      let i = c.entries.invariant.left done before entries children rest has in
      let n = going_on c.args.rec_ref c.args.by c.entries.page c.entries.at c.args.used i.done i.before i.entries i.children rest i.has c.entries-test.true in
      let size : c.entry_size-at.result ≡ length (entry_bytes c.args.rec_ref i.before n.entry) = c.entry_size-at.ensures.value (shared i.before n.entry.key) n.entry.row (drop (shared i.before n.entry.key) n.entry.key) (child_bytes n.child ++ n.back) n.prefix n.key n.row (take_rest c.entries.page c.entries.at ∙ n.here) in
      let start : length (i.done ++ entry_bytes c.args.rec_ref i.before n.entry) ≡ c.entries.at + c.entry_size-at.result = omega (arith, n.start, size) in
      let new = child_shifted c.entries.page c.shift_child-at.new.page (i.done ++ entry_bytes c.args.rec_ref i.before n.entry) n.back (c.entries.at + c.entry_size-at.result) n.child c.args.by n.there start n.one n.two c.shift_child-at.ensures.front c.shift_child-at.ensures.back in
      let at : c.entries.at + length (entry_bytes c.args.rec_ref i.before n.entry) + 7 ≡ c.shift_child-at.result = omega (arith, size, c.shift_child-at.ensures.end) in
      record {
        done = (i.done ++ entry_bytes c.args.rec_ref i.before n.entry) ++ child_bytes (n.child + c.args.by);
        before = n.entry.key;
        entries = n.others;
        children = n.left;
        has = subst (λ (t : ℕ). HasEntries c.args.rec_ref c.args.by c.shift_child-at.new.page t c.args.used ((i.done ++ entry_bytes c.args.rec_ref i.before n.entry) ++ child_bytes (n.child + c.args.by)) n.entry.key n.others n.left rest) at (n.then c.shift_child-at.new.page new);
        same = n.whole ∙ i.same;
      };
}

pub returns-clause-text : goal.returns-clause-text
returns-clause-text c = λ done before entries children rest has.
    let i = c.entries.invariant.left done before entries children rest has in
    gone c.args.rec_ref c.args.by c.entries.page c.entries.at c.args.used i.done i.before i.entries i.children rest i.has (omega (arith, c.entries-test.false)) ∙ i.same
