-- What a change of a tree does to what a key cache lends.
use Rattle.std.proofs.Common.{◌≡◌, ◌⊎◌, ℕ, zero, suc, ◌+◌, ◌%◌, ◌<◌, ◌≤◌, true, Bool, false, cond, eqb, Some, None, List, [], ◌∷◌, ◌++◌, length, refl, sym, ap, subst, ◌∙◌, arith, inl, inr, Option}
use Rattle.std.specs.List.{AllByRecursion, Contains}
use Rattle.std.proofs.lemmas.Bool.{or_left, le-leb}
use Rattle.std.proofs.lemmas.List.Elements.{Contains-append_left, Contains-append_right, Contains-append_cases}
use Rattle.myi_base.specs.Ranges.{are_apart}
use Rattle.myi_base.specs.Holding.{Holding, OthersStay}
use Rattle.myi_keycache.specs.Kept.{is_kept, NoOtherMeets, AddsOnly}
use Rattle.myi_keycache.specs.Caching.{pages_of, Caching, lends, IsCurrent, CanPut, Stays, Puts}
use Rattle.myi_btree.specs.declared.place.Place.{Place}
use Rattle.myi_btree.specs.declared.place.Room.{Room}
use Rattle.myi_btree.specs.Walk.{◌>>=◌, Node, Walked, walk_of}
use Rattle.myi_btree.specs.Nodes.{node_in}
use Rattle.myi_btree.specs.CachedTrees.{node_lent, NoneMeets}
use Rattle.myi_btree.proofs.CallerLemmas.{bind_some}
use Rattle.myi_insertion.specs.Covers.{within, cover, covers, from_end, stock, AreClear, Trades, StillStands}
use Rattle.myi_insertion.specs.Rooms.{Takes, Gives}
use Rattle.myi_insertion.specs.CachedChanges.{CanChange, IsOld, Exchanges, Changes}
use Rattle.myi_insertion.proofs.FrameLaws.{same_walk}
use Rattle.myi_insertion.proofs.CoverLaws.{ranges_apart, in_cover, in_covers, only_one, no_one, first_one, two_pages, two_ranges, before_end}
use Rattle.myi_insertion.proofs.SettleLaws.{cover-append, all_of}
use Rattle.myi_insertion.proofs.RoomLaws.{stock_taken, stock_given}

pub all_from : {A : Type 0} (P : A → Type 0) (xs : List A) → ((x : A) → Contains xs x → P x) → AllByRecursion P xs
all_from P [] f = tt
all_from P (x ∷ xs) f = (f x (first_one x xs), all_from P xs (λ y h. f y (Contains-append_right (x ∷ []) xs y h)))

-- ---- a step

none_given : {A : Type 0} (p : ℕ) → Contains [] p → A
none_given p h = absurd (no_one p h)

-- nothing was done
pub change_none : (place : Place) (cache : Caching) (m : Holding) (pages : List ℕ) (room : Room) → IsCurrent cache m → Changes place cache m pages room cache m pages room
change_none place cache m pages room current = record {
  balance = λ x. refl;
  current = current;
  lent = λ p len x some off e. e;
  added = λ p len kept. inl kept;
  origin = λ p h. inl h;
  stay = λ p h. inl h;
  given_up = λ p h. none_given p h;
  free = λ r h. inl h;
  rest = λ r h. inl h;
  end = omega arith;
  name = refl;
  others = λ q ne. refl;
}

-- a page that is asked for
pub change_get : (place : Place) (old : Caching) (m : Holding) (olds : List ℕ) (before : Room) (new : Caching) (n : Holding) (at : ℕ) → Contains olds at → Stays old new m n → AddsOnly at place.block_length (pages_of old) (pages_of new) → new.name ≡ old.name → OthersStay old.name m n → Changes place old m olds before new n olds before
change_get place old m olds before new n at here stays added name others = record {
  balance = λ x. refl;
  current = stays.current;
  lent = λ p len x some off e. stays.lent p len x e;
  added = λ p len kept. elim (added p len kept) [ inl was ↦ inl was | inr is ↦ inr (is.1, inl (subst (λ (t : ℕ). Contains olds t) (sym is.0) here)) ];
  origin = λ p h. inl h;
  stay = λ p h. inl h;
  given_up = λ p h. none_given p h;
  free = λ r h. inl h;
  rest = λ r h. inl h;
  end = omega arith;
  name = name;
  others = others;
}

-- a page that is put
pub change_put : (place : Place) (old : Caching) (m : Holding) (olds : List ℕ) (before : Room) (new : Caching) (n : Holding) (at : ℕ) (bytes : List ℕ) → 0 < place.block_length → length bytes ≡ place.block_length → Contains olds at → Puts at bytes old new m n
    → AddsOnly at (length bytes) (pages_of old) (pages_of new) → new.name ≡ old.name → OthersStay old.name m n → Changes place old m olds before new n olds before
change_put place old m olds before new n at bytes pos long here puts added name others = record {
  balance = λ x. refl;
  current = puts.current;
  lent = λ p len x some off e.
      let apart : are_apart (p, p + len) (at, at + length bytes) ≡ true = ranges_apart p len at (length bytes) some (omega (arith, long))
      (λ b. let k = off b in let c = in_cover place.block_length olds at b here in let w = ap (λ (t : ℕ). within at t b) long in omega arith) in
      puts.lent p len x apart e;
  added = λ p len kept. elim (added p len kept) [ inl was ↦ inl was | inr is ↦ inr (is.1 ∙ long, inl (subst (λ (t : ℕ). Contains olds t) (sym is.0) here)) ];
  origin = λ p h. inl h;
  stay = λ p h. inl h;
  given_up = λ p h. none_given p h;
  free = λ r h. inl h;
  rest = λ r h. inl h;
  end = omega arith;
  name = name;
  others = others;
}

between : (q p : ℕ) (us vs : List ℕ) → Contains (us ++ q ∷ vs) p → Contains (us ++ vs) p ⊎ (q ≡ p)
between q p us vs h = elim (Contains-append_cases us (q ∷ vs) p h) [
  | inl a ↦ inl (Contains-append_left us vs p a)
  | inr b ↦ elim (Contains-append_cases (q ∷ []) vs p b) [ inl c ↦ inr (only_one q p c) | inr d ↦ inl (Contains-append_right us vs p d) ]
]

still_between : (q p : ℕ) (us vs : List ℕ) → Contains (us ++ vs) p → Contains (us ++ q ∷ vs) p
still_between q p us vs h = elim (Contains-append_cases us vs p h) [
  | inl a ↦ Contains-append_left us (q ∷ vs) p a
  | inr b ↦ Contains-append_right us (q ∷ vs) p (Contains-append_right (q ∷ []) vs p b)
]

was_free : (len q : ℕ) (before after : Room) → Takes len q before after → Contains before.free (q, len) ⊎ (before.end ≤ q)
was_free len q before after (inl t) = inl (subst (λ (fs : List (ℕ × ℕ)). Contains fs (q, len)) (sym t.was) (Contains-append_right t.front ((q, len) ∷ t.back) (q, len) (first_one (q, len) t.back)))
was_free len q before after (inr t) = inr (omega (arith, t.at_end))

still_free : (len q : ℕ) (before after : Room) (r : ℕ × ℕ) → Takes len q before after → Contains after.free r → Contains before.free r
still_free len q before after r (inl t) h =
    let k : Contains (t.front ++ t.back) r = subst (λ (fs : List (ℕ × ℕ)). Contains fs r) t.left h in
    subst (λ (fs : List (ℕ × ℕ)). Contains fs r) (sym t.was) (elim (Contains-append_cases t.front t.back r k) [
      | inl a ↦ Contains-append_left t.front ((q, len) ∷ t.back) r a
      | inr b ↦ Contains-append_right t.front ((q, len) ∷ t.back) r (Contains-append_right ((q, len) ∷ []) t.back r b)
    ])
still_free len q before after r (inr t) h = subst (λ (fs : List (ℕ × ℕ)). Contains fs r) t.free h

taken_rest : (len q : ℕ) (us vs : List ℕ) (before after : Room) (r : ℕ × ℕ) → Takes len q before after → Contains before.free r → Contains after.free r ⊎ ((r.1 ≡ len) × Contains (us ++ q ∷ vs) r.0)
taken_rest len q us vs before after r (inl t) h =
    let k : Contains (t.front ++ (q, len) ∷ t.back) r = subst (λ (fs : List (ℕ × ℕ)). Contains fs r) t.was h in
    elim (Contains-append_cases t.front ((q, len) ∷ t.back) r k) [
      | inl a ↦ inl (subst (λ (fs : List (ℕ × ℕ)). Contains fs r) (sym t.left) (Contains-append_left t.front t.back r a))
      | inr b ↦ elim (Contains-append_cases ((q, len) ∷ []) t.back r b) [
        | inl c ↦
            let e : (q, len) ≡ r = only_one (q, len) r c in
            inr (ap (λ (r : ℕ × ℕ). r.1) (sym e), Contains-append_right us (q ∷ vs) r.0 (subst (λ (t : ℕ). Contains (q ∷ vs) t) (ap (λ (r : ℕ × ℕ). r.0) e) (first_one q vs)))
        | inr d ↦ inl (subst (λ (fs : List (ℕ × ℕ)). Contains fs r) (sym t.left) (Contains-append_right t.front t.back r d))
      ]
    ]
taken_rest len q us vs before after r (inr t) h = inl (subst (λ (fs : List (ℕ × ℕ)). Contains fs r) (sym t.free) h)

end_up : (len q : ℕ) (before after : Room) → Takes len q before after → before.end ≤ after.end
end_up len q before after (inl t) = omega (arith, t.end)
end_up len q before after (inr t) = omega (arith, t.end)

-- a page that is taken from the room
pub change_take : (place : Place) (cache : Caching) (m : Holding) (us vs : List ℕ) (before after : Room) (q : ℕ) → IsCurrent cache m → Takes place.block_length q before after → Changes place cache m (us ++ vs) before cache m (us ++ q ∷ vs) after
change_take place cache m us vs before after q current t = record {
  balance = λ x. let s = stock_taken place.block_length q before after t x in omega (arith, cover-append place.block_length us (q ∷ vs) x, cover-append place.block_length us vs x);
  current = current;
  lent = λ p len x some off e. e;
  added = λ p len kept. inl kept;
  origin = λ p h. elim (between q p us vs h) [
    | inl old ↦ inl old
    | inr is ↦ subst (λ (t : ℕ). IsOld place.block_length (us ++ vs) before t) is (inr (was_free place.block_length q before after t))
  ];
  stay = λ p h. inl (still_between q p us vs h);
  given_up = λ p h. none_given p h;
  free = λ r h. inl (still_free place.block_length q before after r t h);
  rest = λ r h. taken_rest place.block_length q us vs before after r t h;
  end = end_up place.block_length q before after t;
  name = refl;
  others = λ q ne. refl;
}

-- a page that is given up
pub exchange_give : (place : Place) (cache : Caching) (m : Holding) (us vs : List ℕ) (before after : Room) (q : ℕ) → IsCurrent cache m → Gives place.block_length q before after → Exchanges place cache m (us ++ q ∷ vs) before cache m (us ++ vs) after (q ∷ [])
exchange_give place cache m us vs before after q current t = record {
  balance = λ x. let s = stock_given place.block_length q before after t x in omega (arith, cover-append place.block_length us (q ∷ vs) x, cover-append place.block_length us vs x);
  current = current;
  lent = λ p len x some off e. e;
  added = λ p len kept. inl kept;
  origin = λ p h. inl (still_between q p us vs h);
  stay = λ p h. elim (between q p us vs h) [ inl old ↦ inl old | inr is ↦ inr (subst (λ (t : ℕ). Contains (q ∷ []) t) is (first_one q [])) ];
  given_up = λ p h.
      let e : q ≡ p = only_one q p h in (
        subst (λ (t : ℕ). IsOld place.block_length (us ++ q ∷ vs) before t) e (inl (Contains-append_right us (q ∷ vs) q (first_one q vs))),
        subst (λ (t : ℕ). Contains (us ++ vs) t ⊎ Contains after.free (t, place.block_length)) e
            (inr (subst (λ (fs : List (ℕ × ℕ)). Contains fs (q, place.block_length)) (sym t.free) (Contains-append_right before.free ((q, place.block_length) ∷ []) (q, place.block_length) (first_one (q, place.block_length) [])))),
      );
  free = λ r h. elim (Contains-append_cases before.free ((q, place.block_length) ∷ []) r (subst (λ (fs : List (ℕ × ℕ)). Contains fs r) t.free h)) [
    | inl old ↦ inl old
    | inr one ↦
        let e : (q, place.block_length) ≡ r = only_one (q, place.block_length) r one in
        inr (ap (λ (r : ℕ × ℕ). r.1) (sym e), subst (λ (t : ℕ). Contains (q ∷ []) t) (ap (λ (r : ℕ × ℕ). r.0) e) (first_one q []))
  ];
  rest = λ r h. inl (subst (λ (fs : List (ℕ × ℕ)). Contains fs r) (sym t.free) (Contains-append_left before.free ((q, place.block_length) ∷ []) r h));
  end = omega (arith, t.end);
  name = refl;
  others = λ q ne. refl;
}

-- the pages in another order: one of them is named first
pub change_front : (place : Place) (cache : Caching) (m : Holding) (us vs : List ℕ) (room : Room) (q : ℕ) → IsCurrent cache m → Changes place cache m (us ++ q ∷ vs) room cache m (q ∷ (us ++ vs)) room
change_front place cache m us vs room q current = record {
  balance = λ x. omega (arith, cover-append place.block_length us (q ∷ vs) x, cover-append place.block_length us vs x);
  current = current;
  lent = λ p len x some off e. e;
  added = λ p len kept. inl kept;
  origin = λ p h. elim (between q p [] (us ++ vs) h) [
    | inl old ↦ inl (still_between q p us vs old)
    | inr is ↦ inl (subst (λ (t : ℕ). Contains (us ++ q ∷ vs) t) is (Contains-append_right us (q ∷ vs) q (first_one q vs)))
  ];
  stay = λ p h. elim (between q p us vs h) [
    | inl old ↦ inl (still_between q p [] (us ++ vs) old)
    | inr is ↦ inl (subst (λ (t : ℕ). Contains (q ∷ (us ++ vs)) t) is (first_one q (us ++ vs)))
  ];
  given_up = λ p h. none_given p h;
  free = λ r h. inl h;
  rest = λ r h. inl h;
  end = omega arith;
  name = refl;
  others = λ q ne. refl;
}

-- ---- steps that follow

pub exchange_then : (place : Place) (a : Caching) (m : Holding) (olds : List ℕ) (r0 : Room) (b : Caching) (n : Holding) (mids : List ℕ) (r1 : Room) (c : Caching) (k : Holding) (news : List ℕ) (r2 : Room) (us vs : List ℕ)
    → Exchanges place a m olds r0 b n mids r1 us → Exchanges place b n mids r1 c k news r2 vs → Exchanges place a m olds r0 c k news r2 (us ++ vs)
exchange_then place a m olds r0 b n mids r1 c k news r2 us vs f g = record {
  balance = λ x. let p = f.balance x in let q = g.balance x in omega arith;
  current = g.current;
  lent = λ p len x some off e. g.lent p len x some (λ y. let o = off y in let s = f.balance y in omega arith) (f.lent p len x some off e);
  added = λ p len kept. elim (g.added p len kept) [
    | inl was ↦ elim (f.added p len was) [
      | inl old ↦ inl old
      | inr is ↦ elim is.1 [ inl mid ↦ inr (is.0, goes p mid) | inr up ↦ inr (is.0, inr (Contains-append_left us vs p up)) ]
    ]
    | inr is ↦ elim is.1 [ inl now ↦ inr (is.0, inl now) | inr up ↦ inr (is.0, inr (Contains-append_right us vs p up)) ]
  ];
  origin = λ p h. was p (g.origin p h);
  stay = λ p h. elim (f.stay p h) [ inl mid ↦ goes p mid | inr up ↦ inr (Contains-append_left us vs p up) ];
  given_up = λ p h. elim (Contains-append_cases us vs p h) [
    | inl up ↦ let w = f.given_up p up in (w.0, elim w.1 [ inl mid ↦ ends p mid | inr free ↦ over p free ])
    | inr up ↦ let w = g.given_up p up in (was p w.0, w.1)
  ];
  free = λ r h. elim (g.free r h) [
    | inl mid ↦ elim (f.free r mid) [ inl old ↦ inl old | inr up ↦ inr (up.0, Contains-append_left us vs r.0 up.1) ]
    | inr up ↦ inr (up.0, Contains-append_right us vs r.0 up.1)
  ];
  rest = λ r h. elim (f.rest r h) [
    | inl free ↦ g.rest r free
    | inr mid ↦ elim (ends r.0 mid.1) [ inl now ↦ inr (mid.0, now) | inr free ↦ inl (subst (λ (n : ℕ). Contains r2.free (r.0, n)) (sym mid.0) free) ]
  ];
  end = (let e = f.end in let d = g.end in omega arith);
  name = g.name ∙ f.name;
  others = λ q ne. g.others q (λ e. ne (e ∙ f.name)) ∙ f.others q ne;
}
  where
    block : ℕ
    block = place.block_length

    goes : (p : ℕ) → Contains mids p → Contains news p ⊎ Contains (us ++ vs) p
    goes p h = elim (g.stay p h) [ inl now ↦ inl now | inr up ↦ inr (Contains-append_right us vs p up) ]

    ends : (p : ℕ) → Contains mids p → Contains news p ⊎ Contains r2.free (p, block)
    ends p h = elim (g.stay p h) [ inl now ↦ inl now | inr up ↦ (g.given_up p up).1 ]

    over : (p : ℕ) → Contains r1.free (p, block) → Contains news p ⊎ Contains r2.free (p, block)
    over p h = elim (g.rest (p, block) h) [ inl free ↦ inr free | inr now ↦ inl now.1 ]

    was : (p : ℕ) → IsOld block mids r1 p → IsOld block olds r0 p
    was p (inl mid) = f.origin p mid
    was p (inr (inl free)) = elim (f.free (p, block) free) [ inl old ↦ inr (inl old) | inr up ↦ (f.given_up p up.1).0 ]
    was p (inr (inr past)) = inr (inr (let e = f.end in omega arith))

pub change_then : (place : Place) (a : Caching) (m : Holding) (olds : List ℕ) (r0 : Room) (b : Caching) (n : Holding) (mids : List ℕ) (r1 : Room) (c : Caching) (k : Holding) (news : List ℕ) (r2 : Room)
    → Changes place a m olds r0 b n mids r1 → Changes place b n mids r1 c k news r2 → Changes place a m olds r0 c k news r2
change_then place a m olds r0 b n mids r1 c k news r2 f g = exchange_then place a m olds r0 b n mids r1 c k news r2 [] [] f g

among : (us olds vs : List ℕ) (p : ℕ) → Contains olds p → Contains ((us ++ olds) ++ vs) p
among us olds vs p h = Contains-append_left (us ++ olds) vs p (Contains-append_right us olds p h)

-- a change of some of the pages is one of all
pub exchange_part : (place : Place) (a : Caching) (m : Holding) (us olds vs : List ℕ) (r0 : Room) (b : Caching) (n : Holding) (news : List ℕ) (r1 : Room) (given : List ℕ)
    → Exchanges place a m olds r0 b n news r1 given → Exchanges place a m ((us ++ olds) ++ vs) r0 b n ((us ++ news) ++ vs) r1 given
exchange_part place a m us olds vs r0 b n news r1 given f = record {
  balance = λ x. let p = f.balance x in omega (arith, cover-append place.block_length (us ++ news) vs x, cover-append place.block_length us news x, cover-append place.block_length (us ++ olds) vs x, cover-append place.block_length us olds x);
  current = f.current;
  lent = λ p len x some off e. f.lent p len x some (λ y. let o = off y in omega (arith, cover-append place.block_length (us ++ olds) vs y, cover-append place.block_length us olds y)) e;
  added = λ p len kept. elim (f.added p len kept) [
    | inl was ↦ inl was
    | inr is ↦ elim is.1 [ inl now ↦ inr (is.0, inl (among us news vs p now)) | inr up ↦ inr (is.0, inr up) ]
  ];
  origin = λ p h. elim (Contains-append_cases (us ++ news) vs p h) [
    | inr v ↦ inl (Contains-append_right (us ++ olds) vs p v)
    | inl w ↦ elim (Contains-append_cases us news p w) [
      | inl u ↦ inl (Contains-append_left (us ++ olds) vs p (Contains-append_left us olds p u))
      | inr new ↦ was p (f.origin p new)
    ]
  ];
  stay = λ p h. elim (Contains-append_cases (us ++ olds) vs p h) [
    | inr v ↦ inl (Contains-append_right (us ++ news) vs p v)
    | inl w ↦ elim (Contains-append_cases us olds p w) [
      | inl u ↦ inl (Contains-append_left (us ++ news) vs p (Contains-append_left us news p u))
      | inr old ↦ elim (f.stay p old) [ inl now ↦ inl (among us news vs p now) | inr up ↦ inr up ]
    ]
  ];
  given_up = λ p h. let w = f.given_up p h in (was p w.0, elim w.1 [ inl now ↦ inl (among us news vs p now) | inr free ↦ inr free ]);
  free = f.free;
  rest = λ r h. elim (f.rest r h) [ inl free ↦ inl free | inr now ↦ inr (now.0, among us news vs r.0 now.1) ];
  end = f.end;
  name = f.name;
  others = f.others;
}
  where
    was : (p : ℕ) → IsOld place.block_length olds r0 p → IsOld place.block_length ((us ++ olds) ++ vs) r0 p
    was p (inl old) = inl (among us olds vs p old)
    was p (inr other) = inr other

pub change_part : (place : Place) (a : Caching) (m : Holding) (us olds vs : List ℕ) (r0 : Room) (b : Caching) (n : Holding) (news : List ℕ) (r1 : Room)
    → Changes place a m olds r0 b n news r1 → Changes place a m ((us ++ olds) ++ vs) r0 b n ((us ++ news) ++ vs) r1
change_part place a m us olds vs r0 b n news r1 f = exchange_part place a m us olds vs r0 b n news r1 [] f

-- ---- what may be changed may still be changed

stock_end : (room : Room) (x : ℕ) → from_end room.end x ≤ stock room x
unfolding stock
stock_end room x = omega arith

stock_free : (room : Room) (x : ℕ) → covers room.free x ≤ stock room x
unfolding stock
stock_free room x = omega arith

stock_both : (room : Room) (x : ℕ) → covers room.free x + from_end room.end x ≤ stock room x
unfolding stock
stock_both room x = omega arith

meets_still : (place : Place) (old : Caching) (m : Holding) (olds : List ℕ) (before : Room) (new : Caching) (n : Holding) (news : List ℕ) (after : Room) (given : List ℕ) → 0 < place.block_length → CanChange place old m olds before → Exchanges place old m olds before new n news after given
    → (at len : ℕ) → 0 < len → NoOtherMeets (is_kept (pages_of old)) at len
    → ((p : ℕ) → Contains news p ⊎ Contains after.free (p, place.block_length) → ((p ≡ at) × (place.block_length ≡ len)) ⊎ ((x : ℕ) → within p place.block_length x + within at len x ≤ 1)) → NoOtherMeets (is_kept (pages_of new)) at len
meets_still place old m olds before new n news after given pos can f at len some was off = λ p k kept. elim (f.added p k kept) [
  | inl old_one ↦ was p k old_one
  | inr is ↦ elim (off p (elim is.1 [ inl now ↦ inl now | inr up ↦ (f.given_up p up).1 ])) [
    | inl same ↦ inl (same.0, is.0 ∙ same.1)
    | inr apart ↦ inr (ranges_apart p k at len (omega (arith, is.0)) some (λ x. let o = apart x in let e = ap (λ (t : ℕ). within p t x) is.0 in omega arith))
  ]
]

old_meets : (place : Place) (old : Caching) (m : Holding) (olds : List ℕ) (before : Room) → 0 < place.block_length → CanChange place old m olds before → (q : ℕ) → IsOld place.block_length olds before q → NoOtherMeets (is_kept (pages_of old)) q place.block_length
old_meets place old m olds before pos can q (inl page) = all_of (λ at. NoOtherMeets (is_kept (pages_of old)) at place.block_length) olds q can.meets page
old_meets place old m olds before pos can q (inr (inl free)) = all_of (λ (r : ℕ × ℕ). 0 < r.1 → NoOtherMeets (is_kept (pages_of old)) r.0 r.1) before.free (q, place.block_length) can.spare.free free pos
old_meets place old m olds before pos can q (inr (inr past)) = λ p k kept. inr (before_it p k (let e = can.spare.end p k kept in omega arith))
  where
    before_it : (p k : ℕ) → p + k ≤ q → are_apart (p, p + k) (q, q + place.block_length) ≡ true
    before_it p k le = or_left _ _ (le-leb (p + k) q le)

pub exchange_can : (place : Place) (old : Caching) (m : Holding) (olds : List ℕ) (before : Room) (new : Caching) (n : Holding) (news : List ℕ) (after : Room) (given : List ℕ) → 0 < place.block_length → CanChange place old m olds before → Exchanges place old m olds before new n news after given
    → CanChange place new n news after
exchange_can place old m olds before new n news after given pos can f =
    let block : ℕ = place.block_length in
    let clear : AreClear block news after = λ x. let a = can.clear x in let b = f.balance x in omega arith in
    let one : (x : ℕ) → cover block news x ≤ 1 = λ x. let c = clear x in omega arith in
    let free_one : (x : ℕ) → covers after.free x ≤ 1 = λ x. let c = clear x in let d = stock_free after x in omega arith in
    record {
      current = f.current;
      meets = all_from (λ at. NoOtherMeets (is_kept (pages_of new)) at block) news (λ q h.
          meets_still place old m olds before new n news after given pos can f q block pos (old_meets place old m olds before pos can q (f.origin q h)) (λ p hp. elim hp [
            | inl now ↦ elim (two_pages block news p q one now h) [ inl same ↦ inl (same, refl) | inr apart ↦ inr apart ]
            | inr free ↦ inr (λ x. let c = clear x in let a = in_cover block news q x h in let b = in_covers after.free (p, block) x free in let d = stock_free after x in omega arith)
          ]));
      spare = record {
        free = all_from (λ (r : ℕ × ℕ). 0 < r.1 → NoOtherMeets (is_kept (pages_of new)) r.0 r.1) after.free (λ r h some.
            meets_still place old m olds before new n news after given pos can f r.0 r.1 some (free_meets r (f.free r h) some) (λ p hp. elim hp [
              | inl now ↦ inr (λ x. let c = clear x in let a = in_cover block news p x now in let b = in_covers after.free r x h in let d = stock_free after x in omega arith)
              | inr free ↦ elim (two_ranges after.free (p, block) r free_one free h) [ inl same ↦ inl (ap (λ (r : ℕ × ℕ). r.0) same, ap (λ (r : ℕ × ℕ). r.1) same) | inr apart ↦ inr apart ]
            ]));
        end = λ p k kept. elim (f.added p k kept) [
          | inl was ↦ let e = can.spare.end p k was in let d = f.end in omega arith
          | inr is ↦ let e = ends p (elim is.1 [ inl now ↦ inl now | inr up ↦ (f.given_up p up).1 ]) in omega (arith, is.0)
        ];
      };
      clear = clear;
    }
  where
    free_meets : (r : ℕ × ℕ) → Contains before.free r ⊎ ((r.1 ≡ place.block_length) × Contains given r.0) → 0 < r.1 → NoOtherMeets (is_kept (pages_of old)) r.0 r.1
    free_meets r (inl free) some = all_of (λ (r : ℕ × ℕ). 0 < r.1 → NoOtherMeets (is_kept (pages_of old)) r.0 r.1) before.free r can.spare.free free some
    free_meets r (inr up) some = subst (λ (n : ℕ). NoOtherMeets (is_kept (pages_of old)) r.0 n) (sym up.0) (old_meets place old m olds before pos can r.0 ((f.given_up r.0 up.1).0))

    ends : (p : ℕ) → Contains news p ⊎ Contains after.free (p, place.block_length) → p + place.block_length ≤ after.end
    ends p (inl now) = before_end p place.block_length after.end pos (λ x. let c = can.clear x in let b = f.balance x in let a = in_cover place.block_length news p x now in let d = stock_end after x in omega arith)
    ends p (inr free) = before_end p place.block_length after.end pos (λ x. let c = can.clear x in let b = f.balance x in let a = in_covers after.free (p, place.block_length) x free in let d = stock_both after x in omega arith)

pub can_still : (place : Place) (old : Caching) (m : Holding) (olds : List ℕ) (before : Room) (new : Caching) (n : Holding) (news : List ℕ) (after : Room) → 0 < place.block_length → CanChange place old m olds before → Changes place old m olds before new n news after → CanChange place new n news after
can_still place old m olds before new n news after pos can f = exchange_can place old m olds before new n news after [] pos can f

pub can_put : (place : Place) (cache : Caching) (m : Holding) (pages : List ℕ) (room : Room) (at len : ℕ) → len ≡ place.block_length → CanChange place cache m pages room → Contains pages at → CanPut cache m at len
can_put place cache m pages room at len long can here = record {
  current = can.current;
  apart = subst (λ (t : ℕ). NoOtherMeets (is_kept (pages_of cache)) at t) (sym long) (all_of (λ at. NoOtherMeets (is_kept (pages_of cache)) at place.block_length) pages at can.meets here);
}

-- ---- what is read

pub lent_node : (place : Place) (old : Caching) (m : Holding) (new : Caching) (n : Holding) (at : ℕ) (node : Node) → ((x : List ℕ) → lends old m at place.block_length ≡ Some x → lends new n at place.block_length ≡ Some x) → node_lent place old m at ≡ Some node → node_lent place new n at ≡ Some node
unfolding node_lent
lent_node place old m new n at node same e = by (eqb (at % 1024) 0) e
  where
    by : (b : Bool) → cond b (lends old m at place.block_length >>= node_in place.rec_ref) None ≡ Some node → cond b (lends new n at place.block_length >>= node_in place.rec_ref) None ≡ Some node
    by true e = let a = bind_some (lends old m at place.block_length) (node_in place.rec_ref) node e in rw (same a.0 a.1) a.2
    by false e = absurd cc

pub exchange_trades : (place : Place) (old : Caching) (m : Holding) (olds : List ℕ) (before : Room) (new : Caching) (n : Holding) (news : List ℕ) (after : Room) (given : List ℕ) → 0 < place.block_length → Exchanges place old m olds before new n news after given
    → Trades place.block_length (node_lent place old m) (node_lent place new n) olds before after news
exchange_trades place old m olds before new n news after given pos f = record {
  balance = f.balance;
  spares = λ p off node e. lent_node place old m new n p node (λ x. f.lent p place.block_length x pos off) e;
}

pub change_trades : (place : Place) (old : Caching) (m : Holding) (olds : List ℕ) (before : Room) (new : Caching) (n : Holding) (news : List ℕ) (after : Room) → 0 < place.block_length → Changes place old m olds before new n news after
    → Trades place.block_length (node_lent place old m) (node_lent place new n) olds before after news
change_trades place old m olds before new n news after pos f = exchange_trades place old m olds before new n news after [] pos f

-- ---- other trees

-- a tree whose pages have none of the bytes still stands, and is met by no other page that is kept where none met it
pub other_stands : (place other : Place) (old : Caching) (m : Holding) (olds : List ℕ) (before : Room) (new : Caching) (n : Holding) (news : List ℕ) (after : Room) (given : List ℕ) (h at : ℕ) (w : Walked) → 0 < other.block_length → Exchanges place old m olds before new n news after given → walk_of (node_lent other old m) h at ≡ Some w
    → ((x : ℕ) → cover other.block_length w.pages x + (cover place.block_length olds x + stock before x) ≤ 1) → walk_of (node_lent other new n) h at ≡ Some w
other_stands place other old m olds before new n news after given h at w pos f e off =
    same_walk (node_lent other old m) (node_lent other new n) h at w e (all_from (StillStands (node_lent other old m) (node_lent other new n)) w.pages (λ p here node was.
    lent_node other old m new n p node (λ x is. f.lent p other.block_length x pos (λ b. let k = off b in let c = in_cover other.block_length w.pages p b here in omega arith) is) was))

pub other_clear : (place other : Place) (old : Caching) (m : Holding) (olds : List ℕ) (before : Room) (new : Caching) (n : Holding) (news : List ℕ) (after : Room) (given pages : List ℕ) → 0 < place.block_length → 0 < other.block_length → Exchanges place old m olds before new n news after given → NoneMeets other old pages
    → ((x : ℕ) → cover other.block_length pages x + (cover place.block_length olds x + stock before x) ≤ 1) → NoneMeets other new pages
other_clear place other old m olds before new n news after given pages pos some f none off =
    all_from (λ at. NoOtherMeets (is_kept (pages_of new)) at other.block_length) pages (λ q here p k kept. elim (f.added p k kept) [
      | inl was ↦ all_of (λ at. NoOtherMeets (is_kept (pages_of old)) at other.block_length) pages q none here p k was
      | inr is ↦ inr (ranges_apart p k q other.block_length (omega (arith, is.0)) some (λ x.
          let o = off x in let b = f.balance x in let c = in_cover other.block_length pages q x here in let d = owned p x is.1 in let e = ap (λ (t : ℕ). within p t x) is.0 in omega arith))
    ])
  where
    owned : (p x : ℕ) → Contains news p ⊎ Contains given p → within p place.block_length x ≤ cover place.block_length news x + stock after x
    owned p x (inl now) = let d = in_cover place.block_length news p x now in omega arith
    owned p x (inr up) = elim ((f.given_up p up).1) [
      | inl now ↦ let d = in_cover place.block_length news p x now in omega arith
      | inr free ↦ let d = in_covers after.free (p, place.block_length) x free in let e = stock_free after x in omega arith
    ]

pub same_reading : (place : Place) (root : Option ℕ) (cache : Caching) (m : Holding) (at : ℕ) → node_lent (record place { root = root }) cache m at ≡ node_lent place cache m at
unfolding node_lent
same_reading place root cache m at = refl
