-- What contracts see of a tail's appender and of its readers.
use Rattle.std.specs.Prelude.{◌≡◌, ℕ, ◌-◌, List, [], length, refl}
use Rattle.std.specs.Coded.{Coded, code_by, coded×, coded_ℕ, coded_list}
use Rattle.atomic_table.specs.Seated.{TableId, table_id_coded}

-- what tells one tail from another
abbrev pub TailId : Type 0
TailId = TableId

-- how many words a tail has room for: its table's, less the count
abbrev pub room_of : TailId → ℕ
room_of tail = tail.words - 1

-- an appender: its tail, the words that it stored, and how many of them are published
pub record Appending : Type 0 where
  pub tail : TailId
  pub words : List ℕ
  pub published : ℕ

-- a reader: its tail, the count that it loaded last, and the words that it knows
pub record TailReader : Type 0 where
  pub tail : TailId
  pub seen : ℕ
  pub known : List ℕ

-- an appender that takes its readers back, and what those that it has back know
pub record Closing : Type 0 where
  pub tail : TailId
  pub words : List ℕ
  pub published : ℕ
  pub joined : List (List ℕ)

-- how many words may still be stored
abbrev pub free_words : Appending → ℕ
free_words a = room_of a.tail - length a.words

-- a reader of this tail that has loaded nothing yet
pub record IsNew (tail : TailId) (r : TailReader) : Type 0 where
  pub of_tail : r.tail ≡ tail
  pub unseen : r.seen ≡ 0
  pub unknown : r.known ≡ []

-- the appender with these readers back
abbrev pub closing : Appending → List (List ℕ) → Closing
closing a joined = record { tail = a.tail; words = a.words; published = a.published; joined = joined }

-- the three as products, for the proofs alone
abbrev pub appending_code : Coded Appending
appending_code = code_by (TableId × (List ℕ × ℕ)) (coded× table_id_coded (coded× (coded_list coded_ℕ) coded_ℕ))
    (λ e. (e.tail, (e.words, e.published))) (λ p. record { tail = p.0; words = p.1.0; published = p.1.1 }) (λ _. refl)

abbrev pub reader_code : Coded TailReader
reader_code = code_by (TableId × (ℕ × List ℕ)) (coded× table_id_coded (coded× coded_ℕ (coded_list coded_ℕ)))
    (λ e. (e.tail, (e.seen, e.known))) (λ p. record { tail = p.0; seen = p.1.0; known = p.1.1 }) (λ _. refl)

abbrev pub closing_code : Coded Closing
closing_code = code_by (TableId × (List ℕ × (ℕ × List (List ℕ)))) (coded× table_id_coded (coded× (coded_list coded_ℕ) (coded× coded_ℕ (coded_list (coded_list coded_ℕ)))))
    (λ e. (e.tail, (e.words, (e.published, e.joined)))) (λ p. record { tail = p.0; words = p.1.0; published = p.1.1.0; joined = p.1.1.1 }) (λ _. refl)
