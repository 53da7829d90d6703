-- What a walk that asks has met, once one more event was met, and when it is over.
use Rattle.std.proofs.Common.{◌≡◌, ℕ, ◌+◌, ◌≤◌, ◌&&◌, Bool, true, false, not, Option, Some, None, List, [], ◌∷◌, ◌++◌, length, drop, refl, sym, ap, subst, ◌∙◌, arith, append_assoc, append-nil}
use Rattle.std.specs.Prelude.{is_none, is_some}
use Rattle.std.specs.Option.{option_or}
use Rattle.std.specs.List.{AllByRecursion, Contains}
use Rattle.std.proofs.lemmas.Cmp.{tied_itself}
use Rattle.std.proofs.lemmas.List.{length_push, length-append, length-map, drop_all}
use Rattle.std.proofs.lemmas.List.Sorted.{length_permutation}
use Rattle.std.proofs.Math.Seq.{drop-append_seam}
use Rattle.myi_keylist.specs.declared.pair.Pair.{Pair}
use Rattle.myi_keylist.specs.PairOrder.{sorted}
use Rattle.myi_keylist.proofs.CallerLemmas.{pair_total, sorted_permutes}
use Rattle.myi_keys.specs.declared.values.KeySeg.{KeySeg}
use Rattle.myi_btree.specs.Events.{Event, pair}
use Rattle.myi_defs.specs.declared.types.Defs.{Defs}
use Rattle.myi_data.specs.Readable.{readable}
use Rattle.myi_pair.specs.FirstBad.{repeats_last, walk_bad}
use Rattle.myi_pair.specs.KeyList.{pair_of}
use Rattle.myi_pair.specs.Clean.{placed_row}
use Rattle.myi_check.specs.declared.busy.BusyPages.{BusyPages}
use Rattle.myi_check.specs.declared.pairs_met.PairsMet.{PairsMet}
use Rattle.myi_check.specs.declared.walks.TreeKey.{TreeKey}
use Rattle.myi_check.specs.declared.walks.TreeWalk.{TreeWalk}
use Rattle.myi_check.specs.Walks.{last_key, is_next, bad_with, ShowsApart}
use Rattle.myi_check.specs.Asked.{IsAbove, IsNextAsked, AsksApart, row_pairs}
use Rattle.myi_check.specs.Rows.{rows_in}
use Rattle.myi_check.proofs.PairsLaws.{noted_next}
use Rattle.myi_check.proofs.ShowsLaws.{apart_pair}
use Rattle.myi_check.proofs.AskedLaws.{rising_more, below_more, of_more, rising_all}

-- a pair is the next one of a list that has it behind those that were met
next_itself : (unique : Bool) (last : Option (List KeySeg)) (p : Pair) (rest : List Pair) → (unique && repeats_last last p.key) ≡ false → is_next unique last (p ∷ rest) p ≡ true
next_itself unique last p rest apart = rw (tied_itself pair_total p, apart) refl

noted : (unique : Bool) (seen rest : List Pair) (old new : PairsMet) (p : Pair) (at : ℕ) (left : List Event) → old.count ≡ length seen → new ≡ record old { count = old.count + 1; last = Some p } → (unique && repeats_last (last_key old) p.key) ≡ false
    → bad_with unique (seen ++ p ∷ rest) old (pair p at ∷ left) ≡ bad_with unique (seen ++ p ∷ rest) new left
noted unique seen rest old new p at left count is apart = by old.bad refl
  where
    pairs : List Pair
    pairs = seen ++ p ∷ rest

    here : drop old.count pairs ≡ p ∷ rest
    here = ap (λ n. drop n pairs) count ∙ drop-append_seam seen (p ∷ rest)

    by : (o : Option ℕ) → old.bad ≡ o → bad_with unique pairs old (pair p at ∷ left) ≡ bad_with unique pairs new left
    by None e = noted_next unique pairs old new p at left e (omega (arith, count, length-append seen (p ∷ rest))) (ap (λ (t : List Pair). is_next unique (last_key old) t p) here ∙ next_itself unique (last_key old) p rest apart) (ap (λ m. m.count) is) (ap last_key is) (ap (λ m. m.bad) is ∙ e)
    by (Some b) e = ap (λ (o : Option ℕ). option_or o (walk_bad unique (last_key old) (drop old.count pairs) (pair p at ∷ left))) e
        ∙ sym (ap (λ (o : Option ℕ). option_or o (walk_bad unique (last_key new) (drop new.count pairs) left)) (ap (λ m. m.bad) is ∙ e))

-- a pair was asked
pub pair_asked : (Of : Pair → Type 0) (key : TreeKey) (busy : BusyPages) (old new : TreeWalk) (p : Pair) (at : ℕ) (all left : List Event) → new.is_cut ≡ old.is_cut → new.places ≡ old.places → new.bytes ≡ old.bytes → new.met ≡ record old.met { count = old.met.count + 1; last = Some p }
    → IsNextAsked Of key.unique old.met p → AsksApart Of key busy old all (pair p at ∷ left) → AsksApart Of key busy new all left
pair_asked Of key busy old new p at all left cut places bytes is next a = record {
  seen = a.seen ++ p ∷ [];
  count = ap (λ m. m.count) is ∙ ap (λ n. n + 1) a.count ∙ sym (length_push a.seen p);
  rising = rising_more a.seen p a.rising (a.below p next.above);
  below = λ r above. below_more a.seen p r (a.below p next.above) (subst (λ (o : Option Pair). IsAbove o r) (ap (λ m. m.last) is) above);
  of = of_more Of a.seen p a.of next.of;
  shows = λ rest. subst (λ (ps : List Pair). ShowsApart key ps busy new all left) (sym (append_assoc a.seen (p ∷ []) rest))
      (apart_pair key (a.seen ++ p ∷ rest) busy old new p at all left cut places bytes (λ _. ap (λ m. m.bad) is) (λ left. noted key.unique a.seen rest old.met new.met p at left a.count is next.apart) (a.shows (p ∷ rest)));
}

-- a page was met
pub page_asked : (Of : Pair → Type 0) (key : TreeKey) (busy : BusyPages) (old new : TreeWalk) (all left more : List Event) → new.met ≡ old.met → ((pairs : List Pair) → ShowsApart key pairs busy old all more → ShowsApart key pairs busy new all left)
    → AsksApart Of key busy old all more → AsksApart Of key busy new all left
page_asked Of key busy old new all left more is shows a = record {
  seen = a.seen;
  count = ap (λ m. m.count) is ∙ a.count;
  rising = a.rising;
  below = λ p above. a.below p (subst (λ (o : Option Pair). IsAbove o p) (ap (λ m. m.last) is) above);
  of = a.of;
  shows = λ rest. shows (a.seen ++ rest) (a.shows rest);
}

-- nothing was met
pub first_asked : (Of : Pair → Type 0) (key : TreeKey) (busy : BusyPages) (walk : TreeWalk) (all : List Event) → walk.met ≡ record { count = 0; last = None; bad = None } → ((pairs : List Pair) → ShowsApart key pairs busy walk all all) → AsksApart Of key busy walk all all
first_asked Of key busy walk all met shows = record {
  seen = [];
  count = ap (λ m. m.count) met;
  rising = tt;
  below = λ p above. tt;
  of = tt;
  shows = shows;
}

-- As many pairs were met as a list has, of which each is one of the list: they are the list in order.
pub all_asked : (Of : Pair → Type 0) (key : TreeKey) (busy : BusyPages) (walk : TreeWalk) (all : List Event) (list : List Pair) → ((p : Pair) → Of p → Contains list p) → walk.met.count ≡ length list → (a : AsksApart Of key busy walk all []) → ShowsApart key (sorted list) busy walk all []
all_asked Of key busy walk all list is count a =
    let seen : a.seen ≡ sorted list = rising_all list a.seen a.rising (each a.seen a.of) (sym a.count ∙ count) in
    subst (λ (ps : List Pair). ShowsApart key ps busy walk all []) (append-nil a.seen ∙ seen) (a.shows [])
  where
    each : (ps : List Pair) → AllByRecursion Of ps → AllByRecursion (Contains list) ps
    each [] of = tt
    each (p ∷ ps) of = (is p of.0, each ps of.1)

-- ---- no pair is left

none_bad : (unique : Bool) (list : List Pair) (met : PairsMet) → is_none met.bad ≡ true → length list ≤ met.count → None ≡ bad_with unique list met []
none_bad unique list met good few = by met.bad refl good
  where
    by : (o : Option ℕ) → met.bad ≡ o → is_none o ≡ true → None ≡ bad_with unique list met []
    by None e g = sym (ap (λ (o : Option ℕ). option_or o (walk_bad unique (last_key met) (drop met.count list) [])) e ∙ ap (λ (t : List Pair). walk_bad unique (last_key met) t []) (drop_all met.count list few))
    by (Some b) e g = absurd cc

pub none_after : (unique : Bool) (list : List Pair) (met : PairsMet) → is_none met.bad ≡ true → met.count ≡ length list → None ≡ bad_with unique (sorted list) met []
none_after unique list met good count = none_bad unique (sorted list) met good (omega (arith, count, length_permutation list (sorted list) (sorted_permutes list)))

-- a key has as many pairs as there are rows
pub pairs_many : (d : Defs) (k : ℕ) (x : List ℕ) → length (row_pairs d k x) ≡ length (readable d false x)
pairs_many d k x = length-map (rows_in d x) (pair_of d k) ∙ length-map (readable d false x) (placed_row d)

-- the test of a loop
pub is_good : (o : Option ℕ) (r : Bool) → is_some o ≡ not r → r ≡ true → is_none o ≡ true
is_good None r e t = refl
is_good (Some b) r e t = let k : true ≡ false = e ∙ ap not t in absurd cc
