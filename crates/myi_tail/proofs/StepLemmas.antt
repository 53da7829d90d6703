-- What a step of the table asks, as `atomic_table` says it, of a seat whose view is known.
use Rattle.std.proofs.Common.{◌≡◌, ℕ, ◌+◌, ◌<◌, List, [], ◌∷◌, ◌++◌, length, get_or, set, sym, refl, ap, ◌∙◌, subst, arith}
use Rattle.std.proofs.lemmas.List.{set-get_or}
use mathlib.Core.Option.{none}
use Rattle.atomic_table.specs.Table.{State, step, keeps, Allows, Splits, Joins}
use Rattle.atomic_table.proofs.Lists.{set_again, set_else}
use Rattle.myi_tail.specs.declared.table.View.{View}
use Rattle.myi_tail.specs.declared.table.View.TheVariants.{Appends, Reads, Spent}
use Rattle.myi_tail.specs.Rule.{Moment, Kept}
use Rattle.myi_tail.specs.Plays.{Seated, new_reader, with_joined, WordStored, CountStored, CountLoaded, WordLoaded, CountLookedAt}
use Rattle.myi_tail.proofs.KeptLemmas.{reader_is}
use Rattle.myi_tail.proofs.RuleLaws.{stores_word, stores_count, looks_at_count, loads_count, loads_word, splits_seat, joins_seat}

abbrev moment : State ℕ View → Moment
moment s = record { cells = s.words; views = s.views }

abbrev pub Rule : State ℕ View → Type 0
Rule s = Kept record { cells = s.words; views = s.views }

-- a load leaves the cells
same_cells : (s : State ℕ View) (cell : ℕ) → set s.words cell (get_or s.words cell 0) ≡ s.words
same_cells s cell = set-get_or s.words cell 0

stores : (slots id cell word size : ℕ) (words : List ℕ) (published : ℕ) (joined : List (List ℕ)) → cell ≡ length words + 1 → cell < size
    → Allows Rule slots id (Appends size words published joined, []) cell (λ _. word) (λ _. WordStored (step slots cell word 0 none) (Appends size words published joined, []) word)
stores slots id cell word size words published joined next inside s k _ here _ =
    let w : View = Appends size (words ++ word ∷ []) published joined in
    let l = stores_word id record { size = size; words = words; published = published; joined = joined } word (moment s) record { cells = set s.words cell word; views = set s.views id w } k record {
      room = omega arith;
      cells = ap (λ c. set s.words c word) next;
      view = record { was = here; becomes = refl };
    } in
    (w, keeps, tt, l.0, refl)

publishes : (slots id count size : ℕ) (words : List ℕ) (published : ℕ) (joined : List (List ℕ)) → count ≡ length words
    → Allows Rule slots id (Appends size words published joined, []) 0 (λ _. count) (λ _. CountStored (step slots 0 count 0 none) (Appends size words published joined, []) count)
publishes slots id count size words published joined all s k _ here _ =
    let w : View = Appends size words (length words) joined in
    let l = stores_count id record { size = size; words = words; published = published; joined = joined } (moment s) record { cells = set s.words 0 count; views = set s.views id w } k record {
      cells = ap (λ c. set s.words 0 c) all;
      view = record { was = here; becomes = refl };
    } in
    (w, keeps, tt, l.0, refl)

looks : (slots id size : ℕ) (words : List ℕ) (published : ℕ) (joined : List (List ℕ))
    → Allows Rule slots id (Appends size words published joined, []) 0 (λ x. x) (CountLookedAt (step slots 0 0 0 none) (Appends size words published joined, []))
looks slots id size words published joined s k _ here _ =
    let w : View = Appends size words published joined in
    let same : record { cells = set s.words 0 (get_or s.words 0 0); views = set s.views id w } ≡ moment s =
    λ i. record { cells = same_cells s 0 i; views = set_again s.views id w here i } in
    let l = looks_at_count id record { size = size; words = words; published = published; joined = joined } (moment s) record { cells = set s.words 0 (get_or s.words 0 0); views = set s.views id w } k record { was = here; same = same } in
    (w, keeps, tt, l.0.0, (refl, l.1))

counts : (slots id size seen : ℕ) (known : List ℕ)
    → Allows Rule slots id (Reads size seen known, []) 0 (λ x. x) (CountLoaded (step slots 0 0 0 none) (Reads size seen known, []))
counts slots id size seen known s k _ here _ =
    let count : ℕ = get_or s.words 0 0 in
    let w : View = Reads size count known in
    let is = reader_is (moment s) k id record { size = size; seen = seen; known = known } here in
    let l = loads_count id record { size = size; seen = seen; known = known } count (moment s) record { cells = set s.words 0 count; views = set s.views id w } k record {
      found = refl;
      cells = same_cells s 0;
      view = record { was = here; becomes = refl };
    } in
    let cells : size ≡ length s.words = is.1.0 in
    let published : count ≡ k.published = l.1 in
    let within = k.within in
    let fits = k.fits in
    (w, keeps, tt, l.0.0, (refl, (l.2, (let below : count < size = omega arith in below))))

loads : (slots id cell size seen : ℕ) (known : List ℕ) → cell ≡ length known + 1 → length known < seen
    → Allows Rule slots id (Reads size seen known, []) cell (λ x. x) (WordLoaded (step slots cell 0 0 none) (Reads size seen known, []))
loads slots id cell size seen known next below s k _ here _ =
    let word : ℕ = get_or s.words cell 0 in
    let w : View = Reads size seen (known ++ word ∷ []) in
    let l = loads_word id record { size = size; seen = seen; known = known } word (moment s) record { cells = set s.words cell word; views = set s.views id w } k record {
      below = below;
      found = ap (λ c. get_or s.words c 0) next;
      cells = same_cells s cell;
      view = record { was = here; becomes = refl };
    } in
    (w, keeps, tt, l.0.0, refl)

splits : (id size : ℕ) (words : List ℕ) (published : ℕ) (joined : List (List ℕ))
    → Splits Rule id (Appends size words published joined) (Appends size words published joined) (Reads size 0 [])
splits id size words published joined s k here =
    (splits_seat id record { size = size; words = words; published = published; joined = joined } (moment s)
    record { cells = s.words; views = set s.views id (Appends size words published joined) ++ Reads size 0 [] ∷ [] } k record {
      was = here;
      cells = refl;
      views = ap (λ l. l ++ Reads size 0 [] ∷ []) (set_again s.views id (Appends size words published joined) here);
    }).0

joins : (id size : ℕ) (words : List ℕ) (published : ℕ) (joined : List (List ℕ)) (other n seen : ℕ) (known : List ℕ)
    → Joins Rule id (Appends size words published joined) other (Reads n seen known) (Appends size words published (joined ++ known ∷ [])) Spent
joins id size words published joined other n seen known s k here apart there =
    let both : View = Appends size words published (joined ++ known ∷ []) in
    (joins_seat id other record { size = size; words = words; published = published; joined = joined } record { size = n; seen = seen; known = known } (moment s)
    record { cells = s.words; views = set (set s.views id both) other Spent } k record {
      was = here;
      other_was = sym (set_else s.views id other both apart) ∙ there;
      cells = refl;
      views = refl;
    }).0

-- the same, of a seat `me` that is known to have this view and no slots

pub may_store : (slots id : ℕ) (me : Seated) (cell word size : ℕ) (words : List ℕ) (published : ℕ) (joined : List (List ℕ)) → me ≡ (Appends size words published joined, []) → cell ≡ length words + 1 → cell < size
    → Allows Rule slots id me cell (λ _. word) (λ _. WordStored (step slots cell word 0 none) me word)
may_store slots id me cell word size words published joined is next inside =
    subst (λ (z : Seated). Allows Rule slots id z cell (λ _. word) (λ _. WordStored (step slots cell word 0 none) z word)) (sym is) (stores slots id cell word size words published joined next inside)

pub may_publish : (slots id : ℕ) (me : Seated) (count size : ℕ) (words : List ℕ) (published : ℕ) (joined : List (List ℕ)) → me ≡ (Appends size words published joined, []) → count ≡ length words
    → Allows Rule slots id me 0 (λ _. count) (λ _. CountStored (step slots 0 count 0 none) me count)
may_publish slots id me count size words published joined is all =
    subst (λ (z : Seated). Allows Rule slots id z 0 (λ _. count) (λ _. CountStored (step slots 0 count 0 none) z count)) (sym is) (publishes slots id count size words published joined all)

pub may_look : (slots id : ℕ) (me : Seated) (size : ℕ) (words : List ℕ) (published : ℕ) (joined : List (List ℕ)) → me ≡ (Appends size words published joined, [])
    → Allows Rule slots id me 0 (λ x. x) (CountLookedAt (step slots 0 0 0 none) me)
may_look slots id me size words published joined is =
    subst (λ (z : Seated). Allows Rule slots id z 0 (λ x. x) (CountLookedAt (step slots 0 0 0 none) z)) (sym is) (looks slots id size words published joined)

pub may_count : (slots id : ℕ) (me : Seated) (size seen : ℕ) (known : List ℕ) → me ≡ (Reads size seen known, [])
    → Allows Rule slots id me 0 (λ x. x) (CountLoaded (step slots 0 0 0 none) me)
may_count slots id me size seen known is =
    subst (λ (z : Seated). Allows Rule slots id z 0 (λ x. x) (CountLoaded (step slots 0 0 0 none) z)) (sym is) (counts slots id size seen known)

pub may_load : (slots id : ℕ) (me : Seated) (cell size seen : ℕ) (known : List ℕ) → me ≡ (Reads size seen known, []) → cell ≡ length known + 1 → length known < seen
    → Allows Rule slots id me cell (λ x. x) (WordLoaded (step slots cell 0 0 none) me)
may_load slots id me cell size seen known is next below =
    subst (λ (z : Seated). Allows Rule slots id z cell (λ x. x) (WordLoaded (step slots cell 0 0 none) z)) (sym is) (loads slots id cell size seen known next below)

pub may_split : (id : ℕ) (me : Seated) (size : ℕ) (words : List ℕ) (published : ℕ) (joined : List (List ℕ)) → me ≡ (Appends size words published joined, [])
    → Splits Rule id me.0 me.0 (new_reader me.0)
may_split id me size words published joined is =
    subst (λ (z : Seated). Splits Rule id z.0 z.0 (new_reader z.0)) (sym is) (splits id size words published joined)

pub may_join : (id : ℕ) (me : Seated) (size : ℕ) (words : List ℕ) (published : ℕ) (joined : List (List ℕ)) (other : ℕ) (you : Seated) (n seen : ℕ) (known : List ℕ)
    → me ≡ (Appends size words published joined, []) → you ≡ (Reads n seen known, []) → Joins Rule id me.0 other you.0 (with_joined me.0 you.0) Spent
may_join id me size words published joined other you n seen known is are =
    subst (λ (z : Seated × Seated). Joins Rule id z.0.0 other z.1.0 (with_joined z.0.0 z.1.0) Spent) (λ i. (sym is i, sym are i)) (joins id size words published joined other n seen known)
