-- Which line leads on from a place of a schedule, and that no text of a schedule is malformed.
use Rattle.std.proofs.Common.{◌≡◌, ℕ, List, [], ◌∷◌, get_or, Some, lit<, refl, ap, arith}
use Rattle.std.specs.Prelude.{codes}
use Rattle.std.proofs.lemmas.List.Elements.{All-nil, All-cons, All-append}
use Rattle.occ_types.specs.Schema.{Table}
use Rattle.occ_text.specs.declared.versions.Version as versions
use Rattle.occ_text.specs.declared.versions.Version.TheVariants.{One, Two}
use Rattle.occ_text.specs.Headers.{Header, Within, LimitsFit, table_text, version_text}
use Rattle.occ_text.specs.HeaderTaking.{TablesSoFar}
use Rattle.occ_text.specs.Languages.{LeadOn, start, Stopped}
use Rattle.occ_text.specs.Line.{IsLine, lines_text}
use Rattle.occ_text.specs.Reading.{is_token}
use Rattle.occ_text.specs.ScheduleLines.{Place, Version, Sessions, Queue, Keep, Tables, Steps, HasLine, ScheduleFits, grammar, schedule_lines, schedules, steps_text, with_tables}
use Rattle.occ_text.specs.Steps.{Step, step_text, step_tokens}
use Rattle.occ_text.proofs.Fields.{line_of_words, words_have_no_feed}
use Rattle.occ_text.proofs.HeaderLines.{same_version}
use Rattle.occ_text.proofs.LanguageLaws.{IsRight, by_reading, by_count, only_place, sound_on, never_stops, stops_once}
use Rattle.occ_text.proofs.Openings.{schedule_leads}
use Rattle.occ_text.proofs.StepLines.{step_reads}
use Rattle.occ_text.proofs.StepsTaken.{step_again}
use Rattle.occ_text.proofs.TableLines.{further_right, no_tables_yet}
use Rattle.occ_text.proofs.TokenLists.{one_token, two_tokens}
use Rattle.occ_text.proofs.Words.{IsToken-from_test}

-- ---- what holds of each place that lines lead to: what they told fits

abbrev Sound : Place → Type 0
Sound Version = Unit {0}
Sound (Sessions version) = Unit {0}
Sound (Queue version sessions) = Within 1 64 sessions
Sound (Keep version sessions queue) = Within 1 64 sessions × Within 1 1024 queue
Sound (Tables limits tables) = LimitsFit limits × TablesSoFar limits.version tables
Sound (Steps header before) = ScheduleFits header before

-- ---- lines of versions, of `steps` and of a step

pub version_is_line : (version : versions.Version) → IsLine (version_text version)
unfolding is_token
version_is_line One = line_of_words (codes "occ" ∷ codes "1" ∷ []) (two_tokens (IsToken-from_test (codes "occ") refl) (IsToken-from_test (codes "1") refl)) (omega arith)
version_is_line Two = line_of_words (codes "occ" ∷ codes "2" ∷ []) (two_tokens (IsToken-from_test (codes "occ") refl) (IsToken-from_test (codes "2") refl)) (omega arith)

steps_is_line : IsLine (codes "steps")
unfolding is_token
steps_is_line = line_of_words (codes "steps" ∷ []) (one_token (IsToken-from_test (codes "steps") refl)) (omega arith)

steps_is_no_table : (table : Table) → codes "steps" ≡ table_text table → ⊥
steps_is_no_table table e = let f : 115 ≡ 116 = ap (λ (l : List ℕ). get_or l 0 0) e in absurd (omega (arith, f))

step_is_line : (version : versions.Version) (step : Step) → HasLine version step → IsLine (step_text step)
step_is_line version step has =
    let words = (step_again version step has.fits).words in
    record { no_feed = words_have_no_feed (step_tokens step) words.some words.each; short = has.short }

-- ---- what holds of the lines of each place

each_right : (p : Place) → Sound p → IsRight Sound (grammar p)
unfolding is_token
each_right Version s = record { alone = λ version fits. version_is_line version; one = λ a b f g e. ap Sessions (same_version a b e); sound = λ version fits. tt }
each_right (Sessions version) s = by_count (codes "sessions") 1 64 (IsToken-from_test _ refl) (omega arith) (lit< tt) (λ n within. within)
each_right (Queue version sessions) s = by_count (codes "queue") 1 1024 (IsToken-from_test _ refl) (omega arith) (lit< tt) (λ n within. (s, within))
each_right (Keep version sessions queue) s =
    by_count (codes "keep") 1 4096 (IsToken-from_test _ refl) (omega arith) (lit< tt) (λ n within. (record { sessions = s.0; queue = s.1; keep = within }, no_tables_yet version))
each_right (Tables limits tables) s =
    further_right {version = limits.version} {spell = steps_text} {fits = λ steps. Unit {0}} {behind = λ steps. Steps (with_tables limits tables) []} tables (Tables limits) (λ steps fits. steps_is_line) (λ steps table e. steps_is_no_table table e) (λ a b f g e. refl)
    (λ table fits. (s.0, fits))
    (λ steps good fits. record { opening = record { sessions = s.0.sessions; queue = s.0.queue; keep = s.0.keep; tables = good; kinds = s.1.kinds }; each = All-nil (HasLine limits.version) })
each_right (Steps header before) s =
    by_reading (λ line. step_reads header.version line) (step_is_line header.version) (λ step has. has.fits)
    (λ step has. record { opening = s.opening; each = All-append (HasLine header.version) before (step ∷ []) s.each (All-cons (HasLine header.version) step [] has (All-nil (HasLine header.version))) })

-- ---- all of it

-- lines lead from the beginning to one place at most
pub leads_to_one : (lines : List (List ℕ)) (p q : Place) → LeadOn schedules Version lines p → LeadOn schedules Version lines q → p ≡ q
leads_to_one lines p q h k = only_place schedules Sound each_right lines Version p q tt h k

-- what lines tell that lead to where a text may end fits
pub told_fits : (lines : List (List ℕ)) (header : Header) (steps : List Step) → LeadOn schedules Version lines (Steps header steps) → ScheduleFits header steps
told_fits lines header steps h = sound_on schedules Sound each_right lines Version (Steps header steps) tt h

-- no text of a schedule is malformed
pub schedule_never_stops : (header : Header) (steps : List Step) → ScheduleFits header steps → (number : ℕ) → Stopped schedules Version (start (Some (lines_text (schedule_lines header steps)))) number → ⊥
schedule_never_stops header steps fits number h = never_stops schedules Sound each_right (schedule_lines header steps) Version (Steps header steps) tt (schedule_leads header steps fits) tt 0 number h

-- a text is malformed at one line at most
pub stops_at_one : (text : List ℕ) (number other : ℕ) → Stopped schedules Version (start (Some text)) number → Stopped schedules Version (start (Some text)) other → number ≡ other
stops_at_one text number other h k = stops_once schedules Sound each_right Version tt text number other h k
