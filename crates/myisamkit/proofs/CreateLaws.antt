-- What the making of a table from a text comes to.
use Rattle.std.proofs.Common.{◌≡◌, ◌≢◌, ◌⊎◌, ℕ, Bool, true, false, List, [], Option, Some, None, Result, Ok, Err, refl, sym, ap, subst, ◌∙◌, inl, inr}
use Rattle.std.specs.Prelude.{if◌then◌else◌, IfOk, IfErr, OnOk, OnErr}
use Rattle.std.specs.Str.{bytes_eq}
use Rattle.std.proofs.Math.Path.{fun_ext}
use Rattle.std.proofs.lemmas.Slice.Eq.{bytes_eq-Decides}
use Rattle.myi_base.specs.Holding.{Holding, IfTold, Told}
use Rattle.myi_base.specs.HandsOn.{HandsOn}
use Rattle.myi_io.specs.declared.sink.SinkErr.{SinkErr}
use Rattle.myi_io.specs.declared.sink.SinkErr.TheVariants as sink
use Rattle.myi_base.proofs.CallerLemmas.{told_same, told_more}
use Rattle.myi_defs.specs.declared.types.Defs.{Defs}
use Rattle.myi_deftext.specs.declared.parse.TextFault.{TextFault}
use Rattle.myi_defs.specs.EmptyTable.{empty_header}
use Rattle.myi_deftext.specs.ParseText.{parse_text}
use Rattle.myi_defs.proofs.CallerLemmas.{print_reads}
use Rattle.myi_deftext.proofs.CallerLemmas.{text_defs, text_bytes}
use Rattle.myi_pair.proofs.CallerLemmas.{empty_is_clean}
use Rattle.myi_create.specs.declared.fault.CreateFault.{CreateFault}
use Rattle.myi_create.specs.Names.{ThreeNames, names_for}
use Rattle.myi_create.specs.Creating.{by_text, definitions_of, Makes, MakesPart, Creates, IsCutOff, IsRefused}
use Rattle.myisamkit.specs.declared.status.Status.{Status}
use Rattle.myisamkit.specs.declared.status.Status.TheVariants as status
use Rattle.myisamkit.specs.declared.status.Stop.{Stop}
use Rattle.myisamkit.specs.declared.status.Stop.TheVariants as stop
use Rattle.myisamkit.specs.Stops.{status_of_stop}
use Rattle.myisamkit.specs.Lines.{created_line}
use Rattle.myisamkit.specs.Creates.{made, made_turn, create_turn, reason_line, reason_status, IsEmptyTable, CreateDone, CreateLeaves}
use Rattle.myisamkit.proofs.TurnLaws.{not_named}

-- the files are made, name by name
made_at : (t : ThreeNames) (header : List ℕ) (m n : Holding) → Makes t header m n → (q : List ℕ) → n q ≡ made t header m q
made_at t header m n makes q = by_rows (bytes_eq q t.rows) refl
  where
    by_work : (b : Bool) → bytes_eq q t.new_index ≡ b → q ≢ t.rows → q ≢ t.index → n q ≡ (if b then None else m q)
    by_work true is rows index = ap n ((bytes_eq-Decides q t.new_index).0 is) ∙ makes.working
    by_work false other rows index = makes.others q rows index (not_named q t.new_index other)

    by_index : (b : Bool) → bytes_eq q t.index ≡ b → q ≢ t.rows → n q ≡ (if b then Some header else (if bytes_eq q t.new_index then None else m q))
    by_index true is rows = ap n ((bytes_eq-Decides q t.index).0 is) ∙ makes.index
    by_index false other rows = by_work (bytes_eq q t.new_index) refl rows (not_named q t.index other)

    by_rows : (b : Bool) → bytes_eq q t.rows ≡ b → n q ≡ (if b then Some [] else (if bytes_eq q t.index then Some header else (if bytes_eq q t.new_index then None else m q)))
    by_rows true is = ap n ((bytes_eq-Decides q t.rows).0 is) ∙ makes.rows
    by_rows false other = by_index (bytes_eq q t.index) refl (not_named q t.rows other)

-- a table was made
made_files : (name file : List ℕ) (m n : Holding) → Creates name file m n → n ≡ (create_turn name file m).files
made_files name file m n c = subst (λ r. n ≡ (made_turn name file r m).files) (sym c.stands_for) (fun_ext (made_at (names_for name) (empty_header c.defs.raw) m n c.made))

pub made_told : (name file : List ℕ) (old new : Option Holding) → Told old new (Creates name file) → Told old new (λ m n. n ≡ (create_turn name file m).files)
made_told name file old new is = told_more old new (Creates name file) (λ m n. n ≡ (create_turn name file m).files) is (λ m n held c. made_files name file m n c)

pub made_said : (name file said : List ℕ) (old new : Option Holding) → said ≡ created_line name → Told old new (Creates name file) → IfTold old (λ m. said ≡ (create_turn name file m).text)
made_said name file said old new line is m told = line ∙ sym (ap (λ r. (made_turn name file r m).text) (is.told m told).2.stands_for)

pub made_status : (name file : List ℕ) (old new : Option Holding) → Told old new (Creates name file) → IfTold old (λ m. status.Ok ≡ (create_turn name file m).status)
made_status name file old new is m told = sym (ap (λ r. (made_turn name file r m).status) (is.told m told).2.stands_for)

-- a text was refused
abbrev pub Why : List ℕ → CreateFault → Option Holding → Option Holding → Type 0
Why file f old new = IsCutOff f ⊎ IsRefused file f old new

pub refused_said : {A E : Type 0} (text : A → List ℕ) (r : Result A E) (name file : List ℕ) (f : CreateFault) (old new : Option Holding) → Why file f old new → IfOk r (λ x. text x ≡ reason_line name file f) → IfOk r (λ x. IsCutOff f → ⊥) → IfOk r (λ x. IfTold old (λ m. text x ≡ (create_turn name file m).text))
refused_said text (Err e) name file f old new why said never = tt
refused_said text (Ok x) name file f old new (inl cut) said never = absurd (never cut)
refused_said text (Ok x) name file f old new (inr why) said never = λ m told. said ∙ sym (ap (λ r. (made_turn name file r m).text) (why.reason m told))

pub refused_status : {A E : Type 0} (s : A → Status) (r : Result A E) (name file : List ℕ) (f : CreateFault) (old new : Option Holding) → Why file f old new → IfOk r (λ x. s x ≡ reason_status f) → IfOk r (λ x. IsCutOff f → ⊥) → IfOk r (λ x. IfTold old (λ m. s x ≡ (create_turn name file m).status))
refused_status s (Err e) name file f old new why said never = tt
refused_status s (Ok x) name file f old new (inl cut) said never = absurd (never cut)
refused_status s (Ok x) name file f old new (inr why) said never = λ m told. said ∙ sym (ap (λ r. (made_turn name file r m).status) (why.reason m told))

pub refused_files : {A E : Type 0} (r : Result A E) (name file : List ℕ) (f : CreateFault) (old new : Option Holding) → Why file f old new → IfOk r (λ x. IsCutOff f → ⊥) → OnOk r (Told old new (λ m n. n ≡ (create_turn name file m).files))
refused_files (Err e) name file f old new why never = tt
refused_files (Ok x) name file f old new (inl cut) never = absurd (never cut)
refused_files (Ok x) name file f old new (inr why) never = told_same old new (λ m n. n ≡ (create_turn name file m).files) why.same (λ m told. sym (ap (λ r. (made_turn name file r m).files) (why.reason m told)))

pub part_kept : (name file : List ℕ) (old new : Option Holding) → new ≡ old → Told old new (MakesPart (names_for name) file)
part_kept name file old new same = told_same old new (MakesPart (names_for name) file) same (λ m told. record { rows = inl refl; index = refl; others = λ q rows index work. refl })

pub on_err_part : {A E : Type 0} (r : Result A E) (P : Type 0) → P → OnErr r P
on_err_part (Ok x) P holds = tt
on_err_part (Err e) P holds = holds

-- what a stop leaves: the output fails behind the work
pub stop_cut : (name file : List ℕ) (s : Stop) (old new : Option Holding) → s ≢ stop.Sink → Told old new (MakesPart (names_for name) file) → Told old new (CreateLeaves name file (status_of_stop s))
stop_cut name file stop.File old new other part = part
stop_cut name file stop.Memory old new other part = told_more old new (MakesPart (names_for name) file) (CreateLeaves name file status.Memory) part (λ m n held p. inl p)
stop_cut name file stop.Sink old new other part = absurd (other refl)

-- what is made is an empty table
of_text : (bytes : List ℕ) (d : Defs) (r : Result Defs TextFault) → parse_text bytes ≡ r → by_text r ≡ Ok d → IsEmptyTable d (empty_header d.raw)
of_text bytes d (Err f) is e = absurd cc
of_text bytes d (Ok c) is e =
    let same : c ≡ d = cc in
    let parsed : parse_text bytes ≡ Ok d = is ∙ ap Ok same in
    record { read = print_reads d (text_defs bytes d parsed); clean = empty_is_clean d (text_defs bytes d parsed) (text_bytes bytes d parsed) }

of_file : (file : Option (List ℕ)) (d : Defs) → definitions_of file ≡ Ok d → IsEmptyTable d (empty_header d.raw)
of_file None d e = absurd cc
of_file (Some bytes) d e = of_text bytes d (parse_text bytes) refl e

pub done_told : (name file : List ℕ) (old new : Option Holding) → Told old new (λ m n. n ≡ (create_turn name file m).files) → Told old new (CreateDone name file)
done_told name file old new is = told_more old new (λ m n. n ≡ (create_turn name file m).files) (CreateDone name file) is (λ m n held files. record { files = files; made = λ d e. of_file (m file) d e })

pub said_cut : (name file : List ℕ) (e : SinkErr) (s : Stop) (old new : Option Holding) → HandsOn (sink.Failed, stop.Sink) (sink.Memory, stop.Memory) e s → Told old new (CreateDone name file) → Told old new (CreateLeaves name file (status_of_stop s))
said_cut name file e s old new (inl failed) done = subst (λ k. Told old new (CreateLeaves name file (status_of_stop k))) (sym failed.1) done
said_cut name file e s old new (inr memory) done =
    subst (λ k. Told old new (CreateLeaves name file (status_of_stop k))) (sym memory.1)
    (told_more old new (CreateDone name file) (CreateLeaves name file status.Memory) done (λ m n held p. inr p))

pub err_is : {T E : Type 0} (r : Result T E) (e : E) (P : E → Type 0) → r ≡ Err e → P e → IfErr r P
err_is (Ok x) e P is holds = absurd cc
err_is {T} {E} (Err f) e P is holds = subst P (same f e is) holds
  where
    same : (f e : E) → ◌≡◌ {A = Result T E} (Err f) (Err e) → e ≡ f
    same f e is = cc
