-- The forms of lines as the grammar has them: what each line brings behind it (our own choice).
use Rattle.std.specs.Prelude.{ℕ, List, [], ◌∷◌, map, codes}
use Rattle.occ_text.specs.Fields.{Tokens, Field, told_as, AreSame}
use Rattle.occ_text.specs.Spelling.{line_text}
use Rattle.occ_text.specs.StepReading.{told_forms}
use Rattle.occ_text.specs.declared.versions.Version.TheVariants.{Two}
use Rattle.occ_print.specs.declared.sections.Section.TheVariants.{Base, Store}
use Rattle.occ_reading.specs.NumberLines.{head_line, mark_line}
use Rattle.occ_reading.specs.RowLines.{asked_forms, write_forms, pair_field, at_field}

-- the line of a field, as the formats are told
abbrev pub told_line : {X : Type 0} → Field X → List ℕ
told_line field = line_text field.letters

-- behind the line of `steps`; behind that of a base, its rows before the count of the log, and its numbers before them; behind the counts of the log, of a row's writes and of its reads; of a range's rows; of the marks; and of the state
abbrev pub brought : List (List (List ℕ))
brought =
    told_forms
    ∷ (codes "log K" ∷ [])
    ∷ (told_line (at_field Two Base []) ∷ [])
    ∷ (told_line (mark_line Base 0) ∷ [])
    ∷ (told_line (head_line 0) ∷ [])
    ∷ map (λ form. line_text (told_as form)) (write_forms Two [])
    ∷ map (λ form. line_text (told_as form)) (asked_forms Two [])
    ∷ (told_line (pair_field Two [] 0) ∷ [])
    ∷ (told_line (mark_line Store 0) ∷ [])
    ∷ (told_line (at_field Two Store []) ∷ [])
    ∷ []

-- lists that have the same lines, each as the one of its place
abbrev pub EachSame : List (List (List ℕ)) → List (List (List ℕ)) → Type 0
EachSame [] [] = Unit {0}
EachSame (ones ∷ more) (others ∷ rest) = AreSame ones others × EachSame more rest
EachSame [] (others ∷ rest) = ⊥
EachSame (ones ∷ more) [] = ⊥
