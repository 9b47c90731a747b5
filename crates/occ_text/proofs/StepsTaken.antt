-- What is read of the tokens of a step is spelled so, and what it is spelled as is read again.
use Rattle.std.proofs.Common.{◌≡◌, ℕ, ◌^◌, ◌-◌, ◌+◌, Bool, true, false, cond, List, [], ◌∷◌, ◌++◌, length, map, Option, Some, None, lit<, refl, sym, ap, subst, ◌∙◌, arith}
use Rattle.std.specs.Prelude.{option_map, option_and_then, codes}
use Rattle.std.specs.Str.{bytes_eq}
use Rattle.std.specs.Fmt.{decimal}
use Rattle.std.proofs.lemmas.List.Elements.{All-cons}
use Rattle.occ_text.specs.declared.versions.Version.{Version}
use Rattle.occ_text.specs.declared.steps.Act.{Act}
use Rattle.occ_text.specs.declared.steps.Act.TheVariants as acts
use Rattle.occ_types.specs.Spelling.{key_text, row_text}
use Rattle.occ_text.specs.Spelling.{end_text, IsToken, AreTokens}
use Rattle.occ_text.specs.Reading.{is_token, number_of}
use Rattle.occ_text.specs.Operations.{operation_text}
use Rattle.occ_text.specs.OperationReading.{operations_of}
use Rattle.occ_text.specs.Fields.{Tokens, next_token, at_end, read_form, readers, by_word, ◌⊗◌}
use Rattle.occ_text.specs.Steps.{Step, Does, Get, Scan, Put, Delete, Forge, RawRead, Alone, Show, Checkpoint, act_word, step_tokens, StepFits}
use Rattle.occ_text.specs.StepReading as reading
use Rattle.occ_text.specs.StepReading.{act_form, other_forms, forms, next_step, alone_step, alone_of_tokens, step_of_tokens}
use Rattle.occ_text.proofs.Numbers.{number_takes, number_again}
use Rattle.occ_text.proofs.Escapes.{some_is, bind_value, map_value}
use Rattle.occ_text.proofs.Words.{IsToken-from_test}
use Rattle.occ_text.proofs.Spelled.{IsToken-decimal}
use Rattle.occ_text.proofs.OperationTokens.{operations_take, operations_again, AreTokens-operations}
use Rattle.occ_text.proofs.Readers.{word_is, this_word}
use Rattle.occ_text.proofs.TokenLists.{more_tokens}
use Rattle.occ_text.specs.ValueFields as fields
use Rattle.occ_text.proofs.ValueFields.{name_field, key_field, end_field, row_field}
use Rattle.occ_text.proofs.Fields.{IsField, IsSpelled, EachTakes, number_field, lettered_field, one_and_other, alone_takes, behind_takes, by_word-takes, alone_spelled, behind_spelled, end-takes, append_nil}

-- ---- acts

differs : (word other : List ℕ) (b : Bool) → bytes_eq word other ≡ b → (word ≡ other → ⊥) → bytes_eq word other ≡ false
differs word other true is none = absurd (none (word_is word other is))
differs word other false is none = is

passed_by : (version : Version) (word : List ℕ) (tokens : Tokens) (some : List Act) → ((act : Act) → word ≡ act_word act → ⊥)
    → by_word (readers (map act_form some ++ other_forms version)) (word, tokens) ≡ by_word (readers (other_forms version)) (word, tokens)
passed_by version word tokens [] none = refl
passed_by version word tokens (act ∷ some) none = rw (differs word (act_word act) (bytes_eq word (act_word act)) refl (none act)) (passed_by version word tokens some none)

-- the word of no act is that of another form, if it is one
pub other_read : (version : Version) (word : List ℕ) (tokens : Tokens) → ((act : Act) → word ≡ act_word act → ⊥) → next_step version (word, tokens) ≡ by_word (readers (other_forms version)) (word, tokens)
unfolding next_step
other_read version word tokens none = passed_by version word tokens reading.acts none

-- the word of an act is that of its own form
pub act_read : (version : Version) (act : Act) (tokens : Tokens) → next_step version (act_word act, tokens) ≡ read_form (act_form act) tokens
unfolding next_step
act_read version acts.Begin tokens = refl
act_read version acts.Abandon tokens = refl
act_read version acts.Submit tokens = refl
act_read version acts.Close tokens = refl
act_read version acts.Enter tokens = refl
act_read version acts.Serial tokens = refl
act_read version acts.Decide tokens = refl
act_read version acts.Write tokens = refl
act_read version acts.Finish tokens = refl
act_read version acts.BackUp tokens = refl

act_alone : (act : Act) → bytes_eq (act_word act) (codes "alone") ≡ false
act_alone acts.Begin = refl
act_alone acts.Abandon = refl
act_alone acts.Submit = refl
act_alone acts.Close = refl
act_alone acts.Enter = refl
act_alone acts.Serial = refl
act_alone acts.Decide = refl
act_alone acts.Write = refl
act_alone acts.Finish = refl
act_alone acts.BackUp = refl

IsToken-act : (act : Act) → IsToken (act_word act)
unfolding is_token
IsToken-act acts.Begin = IsToken-from_test _ refl
IsToken-act acts.Abandon = IsToken-from_test _ refl
IsToken-act acts.Submit = IsToken-from_test _ refl
IsToken-act acts.Close = IsToken-from_test _ refl
IsToken-act acts.Enter = IsToken-from_test _ refl
IsToken-act acts.Serial = IsToken-from_test _ refl
IsToken-act acts.Decide = IsToken-from_test _ refl
IsToken-act acts.Write = IsToken-from_test _ refl
IsToken-act acts.Finish = IsToken-from_test _ refl
IsToken-act acts.BackUp = IsToken-from_test _ refl

-- ---- what stands behind a word

session_field : IsField reading.session (λ n. 21)
session_field = lettered_field (codes "S") (number_field 255 (lit< tt))

start_field : IsField reading.start (λ n. 21)
start_field = lettered_field (codes "START") (number_field (2 ^ 64 - 1) (lit< tt))

of_key : (version : Version) → IsField (reading.session ⊗ fields.name ⊗ fields.key version) (λ p. 21 + (17 + (length (key_text p.1.1) + 1)))
of_key version = one_and_other session_field (one_and_other name_field (key_field version))

of_row : (version : Version) → IsField (reading.session ⊗ fields.name ⊗ fields.key version ⊗ fields.row) (λ p. 21 + (17 + ((length (key_text p.1.1.0) + 1) + (length (row_text p.1.1.1) + 1))))
of_row version = one_and_other session_field (one_and_other name_field (one_and_other (key_field version) row_field))

of_ends : (version : Version) → IsField (reading.session ⊗ fields.name ⊗ fields.end version ⊗ fields.end version) (λ p. 21 + (17 + ((length (end_text p.1.1.0) + 1) + (length (end_text p.1.1.1) + 1))))
of_ends version = one_and_other session_field (one_and_other name_field (one_and_other (end_field version) (end_field version)))

of_numbers : IsField (reading.session ⊗ reading.transaction ⊗ reading.start) (λ p. 63)
of_numbers = one_and_other session_field (one_and_other (number_field (2 ^ 32 - 1) (lit< tt)) start_field)

of_raw : (version : Version) → IsField (reading.session ⊗ reading.transaction ⊗ reading.start ⊗ fields.name ⊗ fields.key version) (λ p. 21 + (21 + (21 + (17 + (length (key_text p.1.1.1.1) + 1)))))
of_raw version =
    one_and_other session_field (one_and_other (number_field (2 ^ 32 - 1) (lit< tt)) (one_and_other start_field (one_and_other name_field (key_field version))))

-- ---- what is read is spelled so

others_take : (version : Version) → EachTakes step_tokens (StepFits version) (readers (other_forms version))
unfolding read_form
others_take version = (
  behind_takes step_tokens (StepFits version) (codes "get") (λ p. Get p.0 p.1.0 p.1.1) (of_key version) (λ p. refl) (λ p f. (f.0, f.1.0, f.1.1)),
  (
    behind_takes step_tokens (StepFits version) (codes "put") (λ p. Put p.0 p.1.0 p.1.1.0 p.1.1.1) (of_row version) (λ p. refl) (λ p f. (f.0, f.1.0, f.1.1.0, f.1.1.1)),
    (
      behind_takes step_tokens (StepFits version) (codes "scan") (λ p. Scan p.0 p.1.0 p.1.1.0 p.1.1.1) (of_ends version) (λ p. refl) (λ p f. (f.0, f.1.0, f.1.1.0, f.1.1.1)),
      (
        behind_takes step_tokens (StepFits version) (codes "delete") (λ p. Delete p.0 p.1.0 p.1.1) (of_key version) (λ p. refl) (λ p f. (f.0, f.1.0, f.1.1)),
        (
          behind_takes step_tokens (StepFits version) (codes "forge") (λ p. Forge p.0 p.1.0 p.1.1) of_numbers (λ p. refl) (λ p f. (f.0, f.1.0, f.1.1)),
          (
            behind_takes step_tokens (StepFits version) (codes "rawread") (λ p. RawRead p.0 p.1.0 p.1.1.0 p.1.1.1.0 p.1.1.1.1) (of_raw version) (λ p. refl) (λ p f. (f.0, f.1.0, f.1.1.0, f.1.1.1.0, f.1.1.1.1)),
            (
              alone_takes step_tokens (StepFits version) (codes "show") Show refl tt,
              (alone_takes step_tokens (StepFits version) (codes "checkpoint") Checkpoint refl tt, tt),
            ),
          ),
        ),
      ),
    ),
  ),
)

acts_take : (version : Version) (some : List Act) → EachTakes step_tokens (StepFits version) (readers (map act_form some ++ other_forms version))
unfolding read_form
acts_take version [] = others_take version
acts_take version (act ∷ some) = (behind_takes step_tokens (StepFits version) (act_word act) (Does act) session_field (λ n. refl) (λ n f. f), acts_take version some)

step_takes : (version : Version) (word : List ℕ) (tokens : Tokens) (p : Step × Tokens) → next_step version (word, tokens) ≡ Some p → (word ∷ tokens ≡ step_tokens p.0 ++ p.1) × StepFits version p.0
unfolding next_step
step_takes version word tokens p h = by_word-takes step_tokens (StepFits version) (readers (forms version)) word tokens p (acts_take version reading.acts) h

-- what was read of some tokens
pub record Read (version : Version) (tokens : List (List ℕ)) (step : Step) : Type 0 where
  pub spelled : tokens ≡ step_tokens step
  pub fits : StepFits version step

run_takes : (version : Version) (session : List ℕ) (tokens : List (List ℕ)) (step : Step) → alone_step version session tokens ≡ Some step → Read version (codes "alone" ∷ session ∷ tokens) step
unfolding alone_step
run_takes version session tokens step h =
    let s = bind_value (number_of 255 session) _ step h in
    let o = bind_value (operations_of version tokens) _ step s.2 in
    let n = number_takes 255 session s.0 s.1 in
    let all = operations_take version tokens o.0 o.1 in
    subst (Read version (codes "alone" ∷ session ∷ tokens)) (some_is (Alone s.0 o.0) step o.2) (record {
      spelled = λ i. codes "alone" ∷ n.0 i ∷ all.spelled i;
      fits = (n.1, all.some, all.each);
    })

alone_tokens_take : (version : Version) (tokens : List (List ℕ)) (step : Step) → alone_of_tokens version tokens ≡ Some step → Read version (codes "alone" ∷ tokens) step
unfolding alone_of_tokens
alone_tokens_take version [] step h = absurd cc
alone_tokens_take version (session ∷ tokens) step h = run_takes version session tokens step h

next_take : (version : Version) (word : List ℕ) (tokens : Tokens) (step : Step) → option_and_then (λ (s : Step × Tokens). option_map (λ end. s.0) (at_end s.1)) (next_step version (word, tokens)) ≡ Some step → Read version (word ∷ tokens) step
next_take version word tokens step h =
    let s = bind_value (next_step version (word, tokens)) _ step h in
    let e = map_value (at_end s.0.1) (λ u. s.0.0) step s.2 in
    let t = step_takes version word tokens s.0 s.1 in
    subst (Read version (word ∷ tokens)) e.2 (record { spelled = t.0 ∙ ap (λ (l : Tokens). step_tokens s.0.0 ++ l) (end-takes s.0.1 e.0 e.1) ∙ append_nil (step_tokens s.0.0); fits = t.1 })

pub tokens_take : (version : Version) (tokens : List (List ℕ)) (step : Step) → step_of_tokens version tokens ≡ Some step → Read version tokens step
unfolding step_of_tokens
tokens_take version [] step h = absurd cc
tokens_take version (word ∷ tokens) step h =
    this_word (Read version) (codes "alone") word tokens (alone_of_tokens version tokens) _ step _ refl (alone_tokens_take version tokens step) (next_take version word tokens step) h

-- ---- what is spelled so is read again

pub record Again (version : Version) (step : Step) : Type 0 where
  pub words : AreTokens (step_tokens step)
  pub same : step_of_tokens version (step_tokens step) ≡ Some step

-- a step that isn't a run alone
other_again : (version : Version) (word : List ℕ) (rest : Tokens) (step : Step) {most : ℕ} → bytes_eq word (codes "alone") ≡ false → step_tokens step ≡ word ∷ rest
    → IsSpelled (λ tokens. option_and_then (next_step version) (next_token tokens)) (word ∷ rest) step most → Again version step
unfolding step_of_tokens
other_again version word rest step other is s =
    let read : next_step version (word, rest) ≡ Some (step, []) = ap (λ (l : Tokens). next_step version (word, l)) (sym (append_nil rest)) ∙ s.again [] in
    record {
      words = subst AreTokens (sym is) s.words;
      same = ap (step_of_tokens version) is ∙ rw other (ap (option_and_then (λ (p : Step × Tokens). option_map (λ end. p.0) (at_end p.1))) read);
    }

pub step_again : (version : Version) (step : Step) → StepFits version step → Again version step
unfolding step_of_tokens alone_of_tokens alone_step next_step read_form is_token
step_again version (Does act session) fits =
    other_again version _ _ (Does act session) (act_alone act) refl (behind_spelled (Does act) session session_field (IsToken-act act) (λ rest. act_read version act rest) fits)
step_again version (Get session table key) fits =
    other_again version _ _ (Get session table key) refl refl (behind_spelled (λ p. Get p.0 p.1.0 p.1.1) (session, (table, key)) (of_key version) (IsToken-from_test (codes "get") refl) (λ rest. refl) (fits.0, (fits.1, fits.2)))
step_again version (Put session table key row) fits =
    other_again version _ _ (Put session table key row) refl refl
    (behind_spelled (λ p. Put p.0 p.1.0 p.1.1.0 p.1.1.1) (session, (table, (key, row))) (of_row version) (IsToken-from_test (codes "put") refl) (λ rest. refl) (fits.0, (fits.1, (fits.2, fits.3))))
step_again version (Scan session table lower upper) fits =
    other_again version _ _ (Scan session table lower upper) refl refl
    (behind_spelled (λ p. Scan p.0 p.1.0 p.1.1.0 p.1.1.1) (session, (table, (lower, upper))) (of_ends version) (IsToken-from_test (codes "scan") refl) (λ rest. refl) (fits.0, (fits.1, (fits.2, fits.3))))
step_again version (Delete session table key) fits =
    other_again version _ _ (Delete session table key) refl refl (behind_spelled (λ p. Delete p.0 p.1.0 p.1.1) (session, (table, key)) (of_key version) (IsToken-from_test (codes "delete") refl) (λ rest. refl) (fits.0, (fits.1, fits.2)))
step_again version (Forge session number start) fits =
    other_again version _ _ (Forge session number start) refl refl (behind_spelled (λ p. Forge p.0 p.1.0 p.1.1) (session, (number, start)) of_numbers (IsToken-from_test (codes "forge") refl) (λ rest. refl) (fits.0, (fits.1, fits.2)))
step_again version (RawRead session number start table key) fits =
    other_again version _ _ (RawRead session number start table key) refl refl
    (behind_spelled (λ p. RawRead p.0 p.1.0 p.1.1.0 p.1.1.1.0 p.1.1.1.1) (session, (number, (start, (table, key)))) (of_raw version) (IsToken-from_test (codes "rawread") refl) (λ rest. refl)
    (fits.0, (fits.1, (fits.2, (fits.3, fits.4)))))
step_again version (Alone session operations) fits = record {
  words = more_tokens (codes "alone") (decimal session ∷ map operation_text operations) (IsToken-from_test (codes "alone") refl)
      (record { some = omega arith; each = All-cons IsToken (decimal session) (map operation_text operations) (IsToken-decimal session (omega (arith, fits.0))) (AreTokens-operations version operations fits.2) });
  same = rw (number_again 255 session (lit< tt) fits.0, operations_again version operations fits.1 fits.2) refl;
}
step_again version Show fits = other_again version _ _ Show refl refl (alone_spelled (IsToken-from_test (codes "show") refl) (λ rest. refl))
step_again version Checkpoint fits = other_again version _ _ Checkpoint refl refl (alone_spelled (IsToken-from_test (codes "checkpoint") refl) (λ rest. refl))
