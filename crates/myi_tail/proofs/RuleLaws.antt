-- The rule holds of a new table, each kind of step keeps it, and what it says of the words that are known.
use Rattle.std.proofs.Common.{◌≡◌, ◌≢◌, ℕ, zero, suc, ◌+◌, ◌-◌, ◌<◌, ◌≤◌, List, [], ◌∷◌, ◌++◌, length, take, drop, replicate, All, get_or, set, sym, refl, ap, ◌∙◌, subst, ⊎_elim, arith, le_refl, le_trans, length-set, length-append, add-one, get_or-set_other, get_or-set_same}
use Rattle.std.proofs.lemmas.List.{get_or-replicate, length-replicate, take-take, take_more_set, length-drop, get_or-drop, get_or-take}
use Rattle.std.proofs.lemmas.List.Elements.{All-append, All-cons, All-nil}
use mathlib.Core.Option.{some, some-ne-none}
use lib.ListN.{get_elem?}
use Rattle.atomic_table.proofs.Lists.{at_longer, at_snoc, set_else}
use Rattle.myi_tail.specs.declared.table.View.{View}
use Rattle.myi_tail.specs.declared.table.View.TheVariants.{Appends, Reads, Spent}
use Rattle.myi_tail.specs.Prefix.{BeginsWith}
use Rattle.myi_tail.specs.Rule.{Moment, IsKnown, IsOther, Kept, Keeps}
use Rattle.myi_tail.specs.Plays.{opening}
use Rattle.myi_tail.specs.Steps.{AppenderView, ReaderView, appends, reads, StoresWord, StoresCount, LooksAtCount, LoadsCount, LoadsWord, SplitsSeat, JoinsSeat}
use Rattle.myi_tail.proofs.KeptLemmas.{known_longer, known_more, known_next, known_prefix, appender_is, reader_is, other_turned, appender_turned}

keeps_at : (m n : Moment) (words : List ℕ) (published : ℕ) → m.cells ≡ n.cells → m.views ≡ n.views → Keeps m words published → Keeps n words published
keeps_at m n words published cells views k = subst (λ (z : Moment). Keeps z words published) (λ i. record { cells = cells i; views = views i }) k

pub opens : (n : ℕ) → Kept record { cells = replicate (n + 1) 0; views = opening (n + 1) ∷ [] }
opens n =
    let long : length (replicate {A = ℕ} (n + 1) 0) ≡ n + 1 = length-replicate (n + 1) 0 in
    record {
      words = [];
      published = 0;
      appender = 0;
      joined = [];
      appends = ap (λ size. some (opening size)) (sym long);
      fits = omega arith;
      within = omega arith;
      counted = get_or-replicate (n + 1) 0 0 0 (omega arith);
      stored = refl;
      all_known = λ k d h. absurd (omega arith);
      others = λ seat v apart e. alone seat v apart e;
    }
  where
    alone : (seat : ℕ) (v : View) → seat ≢ 0 → get_elem? (opening (n + 1) ∷ []) seat ≡ some v → IsOther (length (replicate {A = ℕ} (n + 1) 0)) [] 0 v
    alone zero v apart e = absurd (apart refl)
    alone (suc seat) v apart e = absurd (some-ne-none v (sym e))

other_longer : (size : ℕ) (words : List ℕ) (published x : ℕ) → published ≤ length words → (v : View)
    → IsOther size words published v → IsOther size (words ++ x ∷ []) published v
other_longer size words published x le (Appends n stored count joined) k = k
other_longer size words published x le (Reads n seen known) k = (k.0, k.1, known_longer seen words known x (le_trans k.1 le) k.2)
other_longer size words published x le Spent k = tt

other_more : (size : ℕ) (words : List ℕ) (published more : ℕ) → published ≤ more → (v : View) → IsOther size words published v → IsOther size words more v
other_more size words published more le (Appends n stored count joined) k = k
other_more size words published more le (Reads n seen known) k = (k.0, le_trans k.1 le, k.2)
other_more size words published more le Spent k = tt

drop-set-next : (cells : List ℕ) (n x : ℕ) → drop 1 (set cells (n + 1) x) ≡ set (drop 1 cells) n x
drop-set-next [] n x = refl
drop-set-next (c ∷ cells) n x = ap (λ k. drop 1 (set (c ∷ cells) k x)) (add-one n)

drop-set-first : (cells : List ℕ) (x : ℕ) → drop 1 (set cells 0 x) ≡ drop 1 cells
drop-set-first [] x = refl
drop-set-first (c ∷ cells) x = refl

-- the words with one more, as the cells hold them
stored_more : (cells words : List ℕ) (x : ℕ) → length words + 1 < length cells → BeginsWith (drop 1 cells) words → BeginsWith (drop 1 (set cells (length words + 1) x)) (words ++ x ∷ [])
stored_more cells words x room stored =
    let n : length (words ++ x ∷ []) ≡ length words + 1 = length-append words (x ∷ []) in
    let behind : length (drop 1 cells) ≡ length cells - 1 = length-drop 1 cells in
    ap (λ l. l ++ x ∷ []) stored ∙ sym (take_more_set (drop 1 cells) (length words) x (omega arith))
    ∙ ap (λ l. take (length words + 1) l) (sym (drop-set-next cells (length words) x)) ∙ ap (λ k. take k (drop 1 (set cells (length words + 1) x))) (sym n)

pub stores_word : (seat : ℕ) (a : AppenderView) (word : ℕ) (before after : Moment) (k : Kept before) → StoresWord seat a word before after
    → Keeps after (k.words ++ word ∷ []) k.published
stores_word seat a word before after k step =
    let is = appender_is before k seat a step.view.was in
    let room : length k.words + 1 < length before.cells = subst (λ (z : AppenderView). length z.words + 1 < z.size) is.1 step.room in
    let more : length (k.words ++ word ∷ []) ≡ length k.words + 1 = length-append k.words (word ∷ []) in
    let cells : List ℕ = set before.cells (length k.words + 1) word in
    let long : length cells ≡ length before.cells = length-set before.cells (length k.words + 1) word in
    let within = k.within in
    keeps_at _ after (k.words ++ word ∷ []) k.published
    (sym (step.cells ∙ ap (λ (z : AppenderView). set before.cells (length z.words + 1) word) is.1))
    (sym (step.view.becomes ∙ (λ i. set before.views (is.0 i) (appends record (is.1 i) { words = (is.1 i).words ++ word ∷ [] }))))
    (appender_turned before k cells (k.words ++ word ∷ []) k.published k.joined long (omega arith) (omega arith)
    (get_or-set_other before.cells (length k.words + 1) 0 word 0 (λ e. omega arith) ∙ k.counted)
    (stored_more before.cells k.words word room k.stored)
    (λ j d h. known_longer k.published k.words (get_or k.joined j d) word within (k.all_known j d h))
    (other_longer (length before.cells) k.words k.published word within))

pub stores_count : (seat : ℕ) (a : AppenderView) (before after : Moment) (k : Kept before) → StoresCount seat a before after
    → Keeps after k.words (length k.words)
stores_count seat a before after k step =
    let is = appender_is before k seat a step.view.was in
    let cells : List ℕ = set before.cells 0 (length k.words) in
    let long : length cells ≡ length before.cells = length-set before.cells 0 (length k.words) in
    let fits = k.fits in
    let within = k.within in
    keeps_at _ after k.words (length k.words)
    (sym (step.cells ∙ ap (λ (z : AppenderView). set before.cells 0 (length z.words)) is.1))
    (sym (step.view.becomes ∙ (λ i. set before.views (is.0 i) (appends record (is.1 i) { published = length (is.1 i).words }))))
    (appender_turned before k cells k.words (length k.words) k.joined long (omega arith) (le_refl (length k.words))
    (get_or-set_same before.cells 0 (length k.words) 0 (omega arith))
    (k.stored ∙ ap (λ l. take (length k.words) l) (sym (drop-set-first before.cells (length k.words))))
    (λ j d h. known_more k.published (length k.words) k.words (get_or k.joined j d) within (k.all_known j d h))
    (other_more (length before.cells) k.words k.published (length k.words) within))

pub loads_count : (seat : ℕ) (r : ReaderView) (count : ℕ) (before after : Moment) (k : Kept before) → LoadsCount seat r count before after
    → Keeps after k.words k.published × (count ≡ k.published) × (r.seen ≤ count)
loads_count seat r count before after k step =
    let is = reader_is before k seat r step.view.was in
    let found : count ≡ k.published = step.found ∙ k.counted in
    let seen : r.seen ≤ k.published = is.1.1 in (
      keeps_at _ after k.words k.published (sym step.cells) (sym step.view.becomes)
          (other_turned before k seat (reads record r { seen = count }) is.0
          (is.1.0, (let le : count ≤ k.published = omega arith in le), known_more r.seen count k.words r.known (omega arith) is.1.2)),
      found,
      omega arith,
    )

pub loads_word : (seat : ℕ) (r : ReaderView) (word : ℕ) (before after : Moment) (k : Kept before) → LoadsWord seat r word before after
    → Keeps after k.words k.published × (word ≡ get_or k.words (length r.known) 0)
loads_word seat r word before after k step =
    let is = reader_is before k seat r step.view.was in
    let seen : r.seen ≤ k.published = is.1.1 in
    let within = k.within in
    let below = step.below in
    let inside : length r.known < length k.words = omega arith in
    let there : get_or before.cells (length r.known + 1) 0 ≡ get_or k.words (length r.known) 0 =
    ap (λ j. get_or before.cells j 0) (let swapped : length r.known + 1 ≡ 1 + length r.known = omega arith in swapped)
    ∙ sym (get_or-drop 1 before.cells (length r.known) 0) ∙ sym (get_or-take (length k.words) (drop 1 before.cells) (length r.known) 0 inside)
    ∙ ap (λ l. get_or l (length r.known) 0) (sym k.stored) in
    let word_is = step.found ∙ there in (
      keeps_at _ after k.words k.published (sym step.cells) (sym step.view.becomes)
          (other_turned before k seat (reads record r { known = r.known ++ word ∷ [] }) is.0
          (is.1.0, seen, known_next r.seen k.words r.known word below (omega arith) word_is is.1.2)),
      word_is,
    )

pub splits_seat : (seat : ℕ) (a : AppenderView) (before after : Moment) (k : Kept before) → SplitsSeat seat a before after
    → Keeps after k.words k.published
splits_seat seat a before after k step =
    let is = appender_is before k seat a step.was in
    let size : a.size ≡ length before.cells = ap (λ (z : AppenderView). z.size) is.1 in
    let new : View = Reads a.size 0 [] in
    keeps_at record { cells = before.cells; views = before.views ++ new ∷ [] } after k.words k.published (sym step.cells) (sym step.views) (
      record {
        words = k.words;
        published = k.published;
        appender = k.appender;
        joined = k.joined;
        appends = at_longer before.views (new ∷ []) k.appender _ k.appends;
        fits = k.fits;
        within = k.within;
        counted = k.counted;
        stored = k.stored;
        all_known = k.all_known;
        others = λ by v other e. ⊎_elim (k.others by v other)
            (λ (same : new ≡ v). subst (IsOther (length before.cells) k.words k.published) same (size, omega arith, record { front = refl; within = omega arith }))
            (at_snoc before.views new v by e);
      },
      refl,
      refl,
    )

pub joins_seat : (seat other : ℕ) (a : AppenderView) (r : ReaderView) (before after : Moment) (k : Kept before) → JoinsSeat seat other a r before after
    → Keeps after k.words k.published
joins_seat seat other a r before after k step =
    let is = appender_is before k seat a step.was in
    let was = reader_is before k other r step.other_was in
    let noted : All (IsKnown k.published k.words) (k.joined ++ r.known ∷ []) =
    All-append (IsKnown k.published k.words) k.joined (r.known ∷ []) k.all_known
    (All-cons (IsKnown k.published k.words) r.known [] (known_more r.seen k.published k.words r.known was.1.1 was.1.2) (All-nil (IsKnown k.published k.words))) in
    let first = appender_turned before k before.cells k.words k.published (k.joined ++ r.known ∷ []) refl k.fits k.within k.counted k.stored noted (λ v o. o) in
    let both : View = Appends (length before.cells) k.words k.published (k.joined ++ r.known ∷ []) in
    let still = reader_is record { cells = before.cells; views = set before.views k.appender both } first.0 other r (set_else before.views k.appender other both was.0 ∙ step.other_was) in
    let second = other_turned record { cells = before.cells; views = set before.views k.appender both } first.0 other Spent still.0 tt in
    keeps_at _ after k.words k.published (sym step.cells)
    (sym (step.views ∙ (λ i. set (set before.views (is.0 i) (appends record (is.1 i) { joined = (is.1 i).joined ++ r.known ∷ [] })) other Spent)))
    (second.0, second.1 ∙ first.1, second.2 ∙ first.2)

-- what is known

pub published_cells : (m : Moment) (k : Kept m) → take k.published k.words ≡ take (get_or m.cells 0 0) (drop 1 m.cells)
published_cells m k =
    ap (λ l. take k.published l) k.stored ∙ take-take k.published (length k.words) (drop 1 m.cells) k.within ∙ ap (λ n. take n (drop 1 m.cells)) (sym k.counted)

pub seen_published : (m : Moment) → Kept m → (seat : ℕ) (r : ReaderView) → get_elem? m.views seat ≡ some (reads r) → r.seen ≤ get_or m.cells 0 0
seen_published m k seat r here = subst (λ n. r.seen ≤ n) (sym k.counted) (reader_is m k seat r here).1.1

pub known_published : (m : Moment) (k : Kept m) (seat : ℕ) (r : ReaderView) → get_elem? m.views seat ≡ some (reads r) → BeginsWith (take k.published k.words) r.known
known_published m k seat r here =
    let is = (reader_is m k seat r here).1 in
    known_prefix k.published k.words r.known (known_more r.seen k.published k.words r.known is.1 is.2)

pub joined_known : (m : Moment) (k : Kept m) (seat : ℕ) (a : AppenderView) → get_elem? m.views seat ≡ some (appends a) → All (IsKnown a.published a.words) a.joined
joined_known m k seat a here = subst (λ (z : AppenderView). All (IsKnown z.published z.words) z.joined) (sym (appender_is m k seat a here).1) k.all_known

pub joined_published : (m : Moment) (k : Kept m) (seat : ℕ) (a : AppenderView) → get_elem? m.views seat ≡ some (appends a) → All (BeginsWith (take k.published k.words)) a.joined
joined_published m k seat a here =
    subst (λ (z : AppenderView). All (BeginsWith (take k.published k.words)) z.joined) (sym (appender_is m k seat a here).1)
    (λ j d h. known_prefix k.published k.words (get_or k.joined j d) (k.all_known j d h))

pub looks_at_count : (seat : ℕ) (a : AppenderView) (before after : Moment) (k : Kept before) → LooksAtCount seat a before after
    → Keeps after k.words k.published × All (IsKnown a.published a.words) a.joined
looks_at_count seat a before after k step =
    (subst (λ (m : Moment). Keeps m k.words k.published) (sym step.same) (k, refl, refl), joined_known before k seat a step.was)
