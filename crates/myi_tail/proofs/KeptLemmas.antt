-- The rule of the table: what it says of the view at a seat, and how it is kept where one view changes.
use Rattle.std.proofs.Common.{◌≡◌, ◌≢◌, ℕ, zero, suc, ◌+◌, ◌<◌, ◌≤◌, List, [], ◌∷◌, ◌++◌, length, take, drop, map, All, get_or, set, sym, refl, ap, ◌∙◌, subst, ⊎_elim, arith, le_trans, length-append, add-one}
use Rattle.std.proofs.lemmas.List.{take-append-le, take-take, get_or-map, length-map}
use Rattle.std.proofs.Math.Seq.{take-suc}
use mathlib.Core.Logic.{dite}
use mathlib.Core.Option.{some, some-injective, some-ne-none}
use native.Mathlib.Decide.{ℕ_discrete}
use lib.ListN.{get_elem?}
use Rattle.atomic_table.proofs.Lists.{at_set, set_here, set_else}
use Rattle.myi_tail.specs.declared.table.View.{View}
use Rattle.myi_tail.specs.declared.table.View.TheVariants.{Appends, Reads, Spent}
use Rattle.myi_tail.specs.Prefix.{BeginsWith}
use Rattle.myi_tail.specs.Seats.{TailReader}
use Rattle.myi_tail.specs.Rule.{Moment, IsKnown, IsOther, Kept}
use Rattle.myi_tail.specs.Steps.{AppenderView, ReaderView, appends, reads}

pub at_inside : {A : Type 0} (l : List A) (i : ℕ) (a : A) → get_elem? l i ≡ some a → i < length l
at_inside [] i a e = absurd (some-ne-none a (sym e))
at_inside (x ∷ xs) zero a e = omega arith
at_inside (x ∷ xs) (suc i) a e = let inside = at_inside xs i a e in omega arith

-- how the first of the words stay

pub known_longer : (count : ℕ) (words known : List ℕ) (x : ℕ) → count ≤ length words → IsKnown count words known → IsKnown count (words ++ x ∷ []) known
known_longer count words known x le k =
    let within = k.within in
    let short : length known ≤ length words = omega arith in
    record { front = k.front ∙ sym (take-append-le (length known) words (x ∷ []) short); within = within }

pub known_more : (count more : ℕ) (words known : List ℕ) → count ≤ more → IsKnown count words known → IsKnown more words known
known_more count more words known le k = record { front = k.front; within = le_trans k.within le }

pub known_next : (count : ℕ) (words known : List ℕ) (x : ℕ) → length known < count → count ≤ length words → x ≡ get_or words (length known) 0
    → IsKnown count words known → IsKnown count words (known ++ x ∷ [])
known_next count words known x lt le is k =
    let n : length (known ++ x ∷ []) ≡ length known + 1 = length-append known (x ∷ []) in
    let inside : length known < length words = omega arith in record {
      front = ap (λ l. l ++ x ∷ []) k.front ∙ ap (λ y. take (length known) words ++ y ∷ []) is
          ∙ sym (take-suc words (length known) 0 inside) ∙ ap (λ m. take m words) (sym (add-one (length known)) ∙ sym n);
      within = omega arith;
    }

pub known_prefix : (count : ℕ) (words known : List ℕ) → IsKnown count words known → BeginsWith (take count words) known
known_prefix count words known k = k.front ∙ sym (take-take (length known) count words k.within)

-- which seat has which view

abbrev tag : View → ℕ
tag (Appends size words published joined) = 0
tag (Reads size seen known) = 1
tag Spent = 2

abbrev appender_in : View → AppenderView
appender_in (Appends size words published joined) = record { size = size; words = words; published = published; joined = joined }
appender_in v = record { size = 0; words = []; published = 0; joined = [] }

module _ (m : Moment) (k : Kept m) where
  -- the appender's view, by the rule
  abbrev pub appender_of : AppenderView
  appender_of = record { size = length m.cells; words = k.words; published = k.published; joined = k.joined }

  pub appender_is : (seat : ℕ) (a : AppenderView) → get_elem? m.views seat ≡ some (appends a) → (seat ≡ k.appender) × (a ≡ appender_of)
  appender_is seat a here = dite (ℕ_discrete seat k.appender)
      (λ same. (same, ap appender_in (some-injective (appends a) (appends appender_of) (sym here ∙ ap (λ i. get_elem? m.views i) same ∙ k.appends))))
      (λ apart. absurd (k.others seat (appends a) apart here))

  pub reader_is : (seat : ℕ) (r : ReaderView) → get_elem? m.views seat ≡ some (reads r) → (seat ≢ k.appender) × IsOther (length m.cells) k.words k.published (reads r)
  reader_is seat r here =
      let apart : seat ≢ k.appender = λ same. let tags : tag (reads r) ≡ tag (appends appender_of) = ap tag (some-injective (reads r) (appends appender_of) (sym here ∙ ap (λ i. get_elem? m.views i) same ∙ k.appends)) in absurd (omega arith) in
      (apart, k.others seat (reads r) apart here)

-- A step changes the cells or not, and one view.

-- the rule after a change of a view that is not the appender's
pub other_turned : (m : Moment) (k : Kept m) (seat : ℕ) (w : View) → seat ≢ k.appender → IsOther (length m.cells) k.words k.published w
    → (l : Kept record { cells = m.cells; views = set m.views seat w }) × (l.words ≡ k.words) × (l.published ≡ k.published)
other_turned m k seat w apart is = (
  record {
    words = k.words;
    published = k.published;
    appender = k.appender;
    joined = k.joined;
    appends = set_else m.views seat k.appender w (λ e. apart (sym e)) ∙ k.appends;
    fits = k.fits;
    within = k.within;
    counted = k.counted;
    stored = k.stored;
    all_known = k.all_known;
    others = λ by v other e. ⊎_elim (λ (t : (by ≡ seat) × (w ≡ v)). subst (IsOther (length m.cells) k.words k.published) t.1 is)
        (λ (t : (by ≢ seat) × (get_elem? m.views by ≡ some v)). k.others by v other t.1) (at_set m.views seat by w v e);
  },
  refl,
  refl,
)

-- the rule after a change of the appender's view, and of the cells with it
pub appender_turned : (m : Moment) (k : Kept m) (cells words : List ℕ) (published : ℕ) (joined : List (List ℕ)) → length cells ≡ length m.cells
    → length words < length cells → published ≤ length words → get_or cells 0 0 ≡ published → BeginsWith (drop 1 cells) words
    → All (IsKnown published words) joined → ((v : View) → IsOther (length m.cells) k.words k.published v → IsOther (length m.cells) words published v)
    → (l : Kept record { cells = cells; views = set m.views k.appender (Appends (length m.cells) words published joined) }) × (l.words ≡ words) × (l.published ≡ published)
appender_turned m k cells words published joined long fits within counted stored all_known others_stay =
    let w : View = Appends (length m.cells) words published joined in (
      record {
        words = words;
        published = published;
        appender = k.appender;
        joined = joined;
        appends = set_here m.views k.appender w (at_inside m.views k.appender _ k.appends) ∙ ap (λ n. some (Appends n words published joined)) (sym long);
        fits = fits;
        within = within;
        counted = counted;
        stored = stored;
        all_known = all_known;
        others = λ by v other e. subst (λ n. IsOther n words published v) (sym long)
            (others_stay v (k.others by v other (sym (set_else m.views k.appender by w other) ∙ e)));
      },
      refl,
      refl,
    )

-- what these readers know are the first of the published words
pub all_known_prefixes : (count : ℕ) (words : List ℕ) (readers : List TailReader) → All (IsKnown count words) (map (λ (r : TailReader). r.known) readers)
    → All (λ (r : TailReader). BeginsWith (take count words) r.known) readers
all_known_prefixes count words readers all k d h =
    let long : length (map (λ (r : TailReader). r.known) readers) ≡ length readers = length-map readers (λ (r : TailReader). r.known) in
    known_prefix count words (get_or readers k d).known
    (subst (IsKnown count words) (get_or-map (λ (r : TailReader). r.known) readers k d [] h) (all k [] (omega arith)))
