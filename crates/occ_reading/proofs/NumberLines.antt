-- The lines of numbers are fields: what is read is spelled so, what is spelled so is read again, and they are lines.
use Rattle.std.proofs.Common.{◌≡◌, ◌+◌, ℕ, zero, suc, ◌^◌, ◌-◌, ◌==◌, ◌<◌, ◌≤◌, not, true, List, ◌∷◌, length, Option, Some, None, lit<, refl, sym, ap, ◌∙◌, arith, []}
use Rattle.occ_reading.proofs.Common.{BaseHead, BaseHeadFits, Began, BeganFits, Conflict, CountsFit, HeadFits, IfSome, IsField, IsLine, IsSession, IsToken, IsToken-from_test, MarkFits, Reads, Section, Stand, StandFits, TooOld, Within, after_word, alone_spelled, alone_takes, base_head_line, base_of_line, base_text, began_of_line, began_text, began_unless, behind_spelled, behind_takes, both_fields, codes, count_field, count_of_line, count_reads, count_text, counts_line, field_is_line, field_reads, fitting_field, head_from, head_line, head_parts, is_token, lettered_field, mark_line, ne_eqb, next_session, next_stand, number, number64, number_as, number_field, number_word, one_and_other, option_map, session, shaped_field, stand, stand_tokens, tested_field, within, words_field}
use Rattle.occ_sets.specs.declared.log_rows.Standing.TheVariants.{Open, Writing, Done, Back}
use Rattle.occ_text.proofs.Fields.{IsSpelled}
use Rattle.occ_text.proofs.HeaderLines.{count_is_line}
use Rattle.occ_print.specs.declared.sections.Section.TheVariants as sections
use Rattle.occ_reading.specs.declared.number_lines.Began.TheVariants as begun
use Rattle.occ_text.proofs.TextLines.{first_byte}

pub wide : 2 ^ 64 - 1 < 2 ^ 64
wide = lit< tt

pub number64_field : IsField number64 (λ n. 21)
number64_field = number_field (2 ^ 64 - 1) wide

pub number_as_field : (letters : List ℕ) → IsField (number_as letters) (λ n. 21)
number_as_field letters = lettered_field letters number64_field

from_1 : (n : ℕ) → not (n == 0) ≡ true → 1 ≤ n
from_1 zero h = absurd cc
from_1 (suc n) h = omega arith

session_field : (sessions : ℕ) → sessions < 2 ^ 64 → IsField (session sessions) (λ n. 21)
unfolding next_session
session_field sessions small =
    lettered_field (codes "S") (fitting_field (IsSession sessions) (tested_field (λ (n : ℕ). not (n == 0)) (number_field sessions small))
    (λ n fits. record { first = from_1 n fits.1; last = fits.0 }) (λ n fits. (fits.last, ap not (ne_eqb n 0 (λ e. omega (arith, fits.first, e))))))

stand_field : (writes : ℕ) → writes ≤ 2 ^ 64 - 1 → IsField (stand writes) (λ s. 40)
unfolding next_stand is_token
stand_field writes few =
    words_field (stand writes) (
    (codes "open", _)
    ∷ (codes "writing", _)
    ∷ (codes "done", _)
    ∷ (codes "conflict", _)
    ∷ (codes "tooold", _)
    ∷ []) (λ s. 40) (λ tokens. refl) (
      alone_takes stand_tokens (StandFits writes) (codes "open") (Open tt) refl tt,
      (
        behind_takes stand_tokens (StandFits writes) (codes "writing") Writing (number_field writes small) (λ n. refl) (λ n fits. fits),
        (
          behind_takes stand_tokens (StandFits writes) (codes "done") Done number64_field (λ n. refl) (λ n fits. fits),
          (
            alone_takes stand_tokens (StandFits writes) (codes "conflict") (Back Conflict) refl tt,
            (alone_takes stand_tokens (StandFits writes) (codes "tooold") (Back TooOld) refl tt, tt),
          ),
        ),
      ),
    ) spelled
  where
    small : writes < 2 ^ 64
    small = omega (arith, few)

    spelled : (s : Stand) → StandFits writes s → IsSpelled (next_stand writes) (stand_tokens s) s 40
    spelled (Open tt) fits = within (alone_spelled (IsToken-from_test _ refl) (λ rest. refl)) (omega arith)
    spelled (Writing done) fits = within (behind_spelled Writing done (number_field writes small) (IsToken-from_test _ refl) (λ rest. refl) fits) (omega arith)
    spelled (Done number) fits = within (behind_spelled Done number number64_field (IsToken-from_test _ refl) (λ rest. refl) fits) (omega arith)
    spelled (Back Conflict) fits = within (alone_spelled (IsToken-from_test _ refl) (λ rest. refl)) (omega arith)
    spelled (Back TooOld) fits = within (alone_spelled (IsToken-from_test _ refl) (λ rest. refl)) (omega arith)

pub head_field : (sessions : ℕ) → sessions < 2 ^ 64 → IsField (head_line sessions) (λ head. 191)
unfolding is_token
head_field sessions small =
    after_word (IsToken-from_test (codes "row") refl)
    (shaped_field head_from head_parts (HeadFits sessions) (λ p. refl) (λ head. refl)
    (one_and_other (number_as_field _) (one_and_other (session_field sessions small) (one_and_other (number_as_field _) (one_and_other (number_as_field _)
    (one_and_other (number_as_field _) (one_and_other (number_as_field _) (both_fields _ (number_as_field _) stand_field)))))))
    (λ p f. record { place = f.0; session = f.1.0; number = f.1.1.0; start = f.1.1.1.0; finish = f.1.1.1.1.0; reads = f.1.1.1.1.1.0; writes = f.1.1.1.1.1.1.0; stand = f.1.1.1.1.1.1.1 })
    (λ head f. (f.place, (f.session, (f.number, (f.start, (f.finish, (f.reads, (f.writes, f.stand)))))))))

number_word-IsToken : (section : Section) → IsToken (number_word section)
unfolding is_token
number_word-IsToken sections.Base = IsToken-from_test (codes "last") refl
number_word-IsToken sections.Store = IsToken-from_test (codes "mark") refl

pub number_word_width : (section : Section) → length (number_word section) ≤ 10
number_word_width sections.Base = omega arith
number_word_width sections.Store = omega arith

pub mark_field : (section : Section) (sessions : ℕ) → sessions < 2 ^ 64 → IsField (mark_line section sessions) (λ mark. length (number_word section) + 1 + 42)
mark_field section sessions small =
    after_word (number_word-IsToken section)
    (shaped_field (λ p. record { session = p.0; number = p.1 }) (λ mark. (mark.session, mark.number)) (MarkFits sessions) (λ p. refl) (λ mark. refl)
    (one_and_other (session_field sessions small) (number_as_field _))
    (λ p f. record { session = f.0; number = f.1 }) (λ mark f. (f.session, f.number)))

pub base_field : IsField base_head_line (λ head. 68)
unfolding is_token
base_field =
    after_word (IsToken-from_test (codes "base") refl)
    (shaped_field (λ p. record { place = p.0; numbers = p.1.0; rows = p.1.1 }) (λ head. (head.place, (head.numbers, head.rows))) BaseHeadFits (λ p. refl) (λ head. refl)
    (one_and_other (lettered_field _ (session_field (2 ^ 64 - 1) wide)) (one_and_other (number_as_field _) (number_as_field _)))
    (λ p f. record { place = f.0; numbers = f.1.0; rows = f.1.1 }) (λ head f. (f.place, (f.numbers, f.rows))))

pub counts_field : IsField counts_line (λ counts. 54)
unfolding is_token
counts_field =
    after_word (IsToken-from_test (codes "counter") refl)
    (shaped_field (λ p. record { counter = p.0; low = p.1 }) (λ counts. (counts.counter, counts.low)) CountsFit (λ p. refl) (λ counts. refl)
    (one_and_other (number_as_field _) (after_word (IsToken-from_test (codes "low") refl) (number_as_field _)))
    (λ p f. record { counter = f.0; low = f.1 }) (λ counts f. (f.counter, f.low)))

-- ---- the readers are right

pub base_reads : (line : List ℕ) (head : Option BaseHead) → head ≡ base_of_line line → Reads base_text BaseHeadFits line head
unfolding base_of_line
base_reads line head is = field_reads base_field is

-- ---- how the log begins

IsToken-log : IsToken (codes "log")
unfolding is_token
IsToken-log = IsToken-from_test (codes "log") refl

log_reads : (line : List ℕ) → Reads (count_text (codes "log")) (Within 0 (2 ^ 64 - 1)) line (count_of_line (codes "log") 0 (2 ^ 64 - 1) line)
log_reads line = count_reads (codes "log") 0 (2 ^ 64 - 1) line _ wide IsToken-log refl

log_is_no_base : (rows : ℕ) (head : BaseHead) → count_text (codes "log") rows ≡ base_text head → ⊥
log_is_no_base rows head e = let f : 108 ≡ 98 = ap first_byte e in absurd (omega (arith, f))

-- what was read of a line as a count of rows, and what as a base, gives how the log begins
began_reads_by : (line : List ℕ) (rows : Option ℕ) (head : Option BaseHead) → Reads (count_text (codes "log")) (Within 0 (2 ^ 64 - 1)) line rows → Reads base_text BaseHeadFits line head → Reads began_text BeganFits line (began_unless rows head)
began_reads_by line rows head log base = record { found = found rows head log.found base.found; again = again }
  where
    found : (rows : Option ℕ) (head : Option BaseHead) → IfSome rows (λ n. (line ≡ count_text (codes "log") n) × Within 0 (2 ^ 64 - 1) n) → IfSome head (λ h. (line ≡ base_text h) × BaseHeadFits h)
        → IfSome (began_unless rows head) (λ began. (line ≡ began_text began) × BeganFits began)
    found (Some n) head log base = log
    found None (Some h) log base = base
    found None None log base = tt

    no_log : (rows : Option ℕ) (other : BaseHead) → IfSome rows (λ n. (line ≡ count_text (codes "log") n) × Within 0 (2 ^ 64 - 1) n) → line ≡ base_text other → rows ≡ None
    no_log (Some n) other log e = absurd (log_is_no_base n other (sym log.0 ∙ e))
    no_log None other log e = refl

    again : (began : Began) → BeganFits began → line ≡ began_text began → began_unless rows head ≡ Some began
    again (begun.Log n) fits e = ap (λ r. began_unless r head) (log.again n fits e)
    again (begun.Base other) fits e = ap (λ r. began_unless r head) (no_log rows other log.found e) ∙ ap (option_map begun.Base) (base.again other fits e)

pub began_reads : (line : List ℕ) → Reads began_text BeganFits line (began_of_line line)
began_reads line = began_reads_by line _ _ (log_reads line) (base_reads line _ refl)

pub began_line-again : (began : Began) → BeganFits began → began_of_line (began_text began) ≡ Some began
began_line-again began fits = (began_reads (began_text began)).again began fits refl

pub began_is_line : (began : Began) → BeganFits began → IsLine (began_text began)
began_is_line (begun.Log rows) fits = count_is_line (codes "log") 0 (2 ^ 64 - 1) rows IsToken-log (omega arith) wide fits
began_is_line (begun.Base head) fits = field_is_line head base_field (omega arith) fits
