-- The order of the pages when the age of the first hot one was looked at.
use Rattle.std.proofs.Common.{◌≡◌, ◌+◌, ◌-◌, ◌≤◌, ◌<◌, Bool, true, false, [], ◌∷◌, ◌++◌, length, insert, refl, sym, ap, subst, ◌∙◌, inl, inr}
use Rattle.std.specs.Prelude.{nat_lt}
use Rattle.std.proofs.lemmas.Bool.{cases_lt}
use Rattle.std.proofs.lemmas.List.{map-append}
use Rattle.myi_keycache.specs.Midpoint.{age_limit, aged}
use Rattle.myi_keycache.specs.Order.{Order, Split, with_page, contents_of, lists_in, Alike}
use Rattle.myi_keycache.proofs.StaysLemmas.{moved, alike_same}
use Rattle.myi_keycache.proofs.OrderLemmas.{split}
use Rattle.myi_keycache.proofs.MidpointLemmas.{aged_none, aged_young, aged_old}

-- what is said of the order when the age was looked at
pub record Aged (o new : Order) : Type 0 where
  pub lists : lists_in new ≡ aged o.setup (lists_in o)
  pub setup : new.setup ≡ o.setup
  pub alike : Alike (contents_of o.pages) (contents_of new.pages)

pub still : (o : Order) (test : Bool) → test ≡ false → ((s : Split o.pages o.warm) → test ≡ nat_lt (age_limit o.setup) (o.accesses - s.page.last)) → Aged o o
still o test is old = record {
  lists = elim (cases_lt o.warm (length o.pages)) [
    | inl lt ↦ let s = split o.pages o.warm lt in sym (aged_young o.setup o.pages o.warm o.accesses s (sym (old s) ∙ is))
    | inr ge ↦ sym (aged_none o.setup o.pages o.warm o.accesses ge)
  ];
  setup = refl;
  alike = alike_same (contents_of o.pages);
}

pub some_hot : (o : Order) (test : Bool) → test ≡ true → (length o.pages ≤ o.warm → test ≡ false) → o.warm < length o.pages
some_hot o test is none = elim (cases_lt o.warm (length o.pages)) [
  | inl lt ↦ lt
  | inr ge ↦ let both : true ≡ false = sym is ∙ none ge in absurd cc
]

pub first_moves : (o mid new : Order) (s : Split o.pages o.warm) → mid ≡ record o { pages = with_page s (record s.page { hits = 0 }) }
    → ((s1 : Split mid.pages mid.warm) → new ≡ record mid { pages = insert (s1.front ++ s1.back) 0 s1.page; warm = mid.warm + 1 })
    → new ≡ record o { pages = insert (s.front ++ s.back) 0 (record s.page { hits = 0 }); warm = o.warm + 1 }
first_moves o mid new s is =
    subst (λ (m : Order). ((s1 : Split m.pages m.warm) → new ≡ record m { pages = insert (s1.front ++ s1.back) 0 s1.page; warm = m.warm + 1 }) → new ≡ record o { pages = insert (s.front ++ s.back) 0 (record s.page { hits = 0 }); warm = o.warm + 1 })
    (sym is) (λ f. f (record { front = s.front; page = record s.page { hits = 0 }; back = s.back; is = refl; long = s.long }))

pub went : (o new : Order) (s : Split o.pages o.warm) → nat_lt (age_limit o.setup) (o.accesses - s.page.last) ≡ true → new ≡ record o { pages = insert (s.front ++ s.back) 0 (record s.page { hits = 0 }); warm = o.warm + 1 } → Aged o new
went o new s old is = subst (Aged o) (sym is) (record {
  lists = sym (aged_old o.setup o.pages o.warm o.accesses s old);
  setup = refl;
  alike =
      let was : contents_of o.pages ≡ contents_of s.front ++ s.page.page ∷ contents_of s.back = ap contents_of s.is ∙ map-append _ s.front (s.page ∷ s.back) in
      let rest : contents_of s.front ++ contents_of s.back ≡ contents_of (s.front ++ s.back) = sym (map-append _ s.front s.back) in
      subst (λ l. Alike l (s.page.page ∷ contents_of (s.front ++ s.back))) (sym was) (moved (contents_of s.front) s.page.page (contents_of s.back) [] (contents_of (s.front ++ s.back)) rest);
})
