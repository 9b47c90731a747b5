-- What is written of sessions, one after another.
use Rattle.std.proofs.Common.{◌≡◌, ℕ, zero, suc, ◌+◌, ◌<◌, Bool, true, false, cond, List, [], ◌∷◌, ◌++◌, length, map, take, drop, get_or, filter, Option, Result, Ok, Err, ◌⊎◌, inl, inr, refl, sym, ap, subst, ◌∙◌, append_assoc, take-append-drop, arith}
use Rattle.std.specs.Bool.{Decides}
use Rattle.std.specs.List.{flat_map}
use Rattle.std.specs.Ordering.{nat_cmp}
use Rattle.std.specs.FinMap.{FinMap}
use Rattle.std.specs.Result.{IsErrAnd}
use Rattle.std.specs.Io.KnownBytes.{Appends, Keeps}
use Rattle.std.proofs.KnownBytes.{Appends-nil, Appends-kept, Appends-trans}
use Rattle.std.proofs.lemmas.List.{append-nil, map-append, take_more, drop_more, length-append, length-take}
use Rattle.std.proofs.lemmas.List.Elements.{filter-append}
use Rattle.occ_types.specs.Schema.{Schema}
use Rattle.occ_model.specs.Log.{LogRow, Base, Audited}
use Rattle.occ_model.specs.State.{State}
use Rattle.occ_text.specs.declared.faults.WriteFault.{WriteFault}
use Rattle.occ_text.specs.declared.faults.WriteFault.TheVariants as faults
use Rattle.occ_text.specs.Line.{lines_text}
use Rattle.occ_text.specs.Sending.{Sends, PushGives}
use Rattle.occ_text.specs.Printing.{Pushed, PushedFront, PrintGives}
use Rattle.occ_text.specs.declared.headers.Limits.{Limits}
use Rattle.occ_print.specs.Books.{Book, book_text, header_of, audit_line}
use Rattle.occ_print.proofs.Printing.{Printed, Pushed-nothing, lines_then, front_then, front_behind, front_before, front_amid}
use Rattle.occ_run.specs.Reports.{is_of, rows_of, standing_line, row_lines, session_lines, sessions_lines, book_at, told_lines, report_lines, AuditGives, ReportGives, AppendsFront}

-- ---- session by session

module _ (log : List LogRow) (marks : FinMap nat_cmp ℕ) where
  sessions-append : (from : ℕ) (xs ys : List ℕ) → sessions_lines log marks from (xs ++ ys) ≡ sessions_lines log marks from xs ++ sessions_lines log marks (from + length xs) ys
  sessions-append from [] ys = ap (λ (n : ℕ). sessions_lines log marks n ys) (omega arith)
  sessions-append from (x ∷ xs) ys =
      ap (λ l. session_lines log marks from x ++ l) (sessions-append (suc from) xs ys ∙ ap (λ (n : ℕ). sessions_lines log marks (suc from) xs ++ sessions_lines log marks n ys) (omega arith))
      ∙ sym (append_assoc (session_lines log marks from x) (sessions_lines log marks (suc from) xs) (sessions_lines log marks (from + length (x ∷ xs)) ys))

  abbrev so_far : List ℕ → List (List ℕ)
  so_far = sessions_lines log marks 1

  counted : (xs : List ℕ) (i : ℕ) → i < length xs → 1 + length (take i xs) ≡ i + 1
  counted xs i lt = let n = length-take i xs in omega arith

  more : (xs : List ℕ) (i : ℕ) (x : ℕ) → i < length xs → x ≡ get_or xs i x → so_far (take (i + 1) xs) ≡ so_far (take i xs) ++ session_lines log marks (i + 1) x
  more xs i x lt is =
      ap so_far (take_more xs i x lt ∙ ap (λ y. take i xs ++ y ∷ []) (sym is)) ∙ sessions-append 1 (take i xs) (x ∷ [])
      ∙ ap (λ l. so_far (take i xs) ++ l) (append-nil (session_lines log marks (1 + length (take i xs)) x) ∙ ap (λ (n : ℕ). session_lines log marks n x) (counted xs i lt))

  at : (xs : List ℕ) (i : ℕ) (x : ℕ) → i < length xs → x ≡ get_or xs i x → so_far xs ≡ so_far (take i xs) ++ session_lines log marks (i + 1) x ++ sessions_lines log marks (suc (1 + length (take i xs))) (drop (i + 1) xs)
  at xs i x lt is =
      ap so_far (sym (take-append-drop i xs) ∙ ap (λ l. take i xs ++ l) (drop_more xs i x lt ∙ ap (λ y. y ∷ drop (i + 1) xs) (sym is)))
      ∙ sessions-append 1 (take i xs) (x ∷ drop (i + 1) xs)
      ∙ ap (λ (n : ℕ). so_far (take i xs) ++ (session_lines log marks n x ++ sessions_lines log marks (suc (1 + length (take i xs))) (drop (i + 1) xs))) (counted xs i lt)
      ∙ sym (append_assoc (so_far (take i xs)) (session_lines log marks (i + 1) x) (sessions_lines log marks (suc (1 + length (take i xs))) (drop (i + 1) xs)))

  pub session_more : (a b c : Option (List ℕ)) (old mid new : List ℕ) (xs : List ℕ) (i x session : ℕ) → i < length xs → x ≡ get_or xs i x → session ≡ i + 1
      → Pushed a b old mid (lines_text (sessions_lines log marks 1 (take i xs))) → Pushed b c mid new (lines_text (session_lines log marks session x)) → Pushed a c old new (lines_text (sessions_lines log marks 1 (take (i + 1) xs)))
  session_more a b c old mid new xs i x session lt is same h k =
      subst (λ l. Pushed a c old new (lines_text l)) (sym (more xs i x lt is))
      (lines_then (Ok tt) a b c old mid new (so_far (take i xs)) (session_lines log marks (i + 1) x) h (subst (λ (n : ℕ). Pushed b c mid new (lines_text (session_lines log marks n x))) same k))

  pub session_front : (a b c : Option (List ℕ)) (old mid new : List ℕ) (xs : List ℕ) (i x session : ℕ) → i < length xs → x ≡ get_or xs i x → session ≡ i + 1
      → Pushed a b old mid (lines_text (sessions_lines log marks 1 (take i xs))) → PushedFront b c mid new (lines_text (session_lines log marks session x)) → PushedFront a c old new (lines_text (sessions_lines log marks 1 xs))
  session_front a b c old mid new xs i x session lt is same h k =
      subst (λ l. PushedFront a c old new (lines_text l)) (sym (at xs i x lt is))
      (front_amid a b c old mid new (so_far (take i xs)) (session_lines log marks (i + 1) x) (sessions_lines log marks (suc (1 + length (take i xs))) (drop (i + 1) xs)) h
      (subst (λ (n : ℕ). PushedFront b c mid new (lines_text (session_lines log marks n x))) same k))

-- ---- the rows of a session

-- a row of another session has no line
pub row_skipped : (session : ℕ) (row : LogRow) (test : Bool) (a : Option (List ℕ)) (old : List ℕ) → test ≡ is_of session row → test ≡ false → Pushed a a old old (lines_text (row_lines session row))
row_skipped session row test a old is fails = subst (λ (b : Bool). Pushed a a old old (lines_text (cond b (standing_line row ∷ []) []))) (sym (sym is ∙ fails)) (Pushed-nothing a old)

-- a row of the session has one
pub row_printed : (r : Printed) (session : ℕ) (row : LogRow) (test : Bool) (a b : Option (List ℕ)) (old new bytes : List ℕ) → test ≡ is_of session row → test ≡ true → bytes ≡ standing_line row → PrintGives r a b old new (lines_text (bytes ∷ []))
    → PrintGives r a b old new (lines_text (row_lines session row))
row_printed r session row test a b old new bytes is holds same h =
    subst (λ (q : Bool). PrintGives r a b old new (lines_text (cond q (standing_line row ∷ []) []))) (sym (sym is ∙ holds)) (subst (λ l. PrintGives r a b old new (lines_text (l ∷ []))) same h)

-- a row, as it is counted
pub one_counted : (rows session : ℕ) (row : LogRow) (test : Bool) → test ≡ is_of session row → test ≡ true → rows + 1 ≡ rows + length (rows_of session (row ∷ []))
one_counted rows session row test is holds = subst (λ (b : Bool). rows + 1 ≡ rows + length (cond b (row ∷ []) [])) (sym holds ∙ is) refl

pub none_counted : (rows session : ℕ) (row : LogRow) (test : Bool) → test ≡ is_of session row → test ≡ false → rows ≡ rows + length (rows_of session (row ∷ []))
none_counted rows session row test is fails = subst (λ (b : Bool). rows ≡ rows + length (cond b (row ∷ []) [])) (sym fails ∙ is) (omega arith)

-- one row more, as they are counted
pub rows_more : {X : Type 0} (view : X → LogRow) (session : ℕ) (xs : List X) (i : ℕ) (x : X) (rows now : ℕ) → i < length xs → x ≡ get_or xs i x → rows ≡ length (rows_of session (map view (take i xs))) → now ≡ rows + length (rows_of session (view x ∷ []))
    → now ≡ length (rows_of session (map view (take (i + 1) xs)))
rows_more view session xs i x rows now lt is so_far more =
    let all : map view (take (i + 1) xs) ≡ map view (take i xs) ++ view x ∷ [] = ap (map view) (take_more xs i x lt ∙ ap (λ y. take i xs ++ y ∷ []) (sym is)) ∙ map-append view (take i xs) (x ∷ []) in
    more ∙ ap (λ (n : ℕ). n + length (rows_of session (view x ∷ []))) so_far
    ∙ sym (ap (λ l. length (rows_of session l)) all ∙ ap length (filter-append (is_of session) (map view (take i xs)) (view x ∷ [])) ∙ length-append (rows_of session (map view (take i xs))) (rows_of session (view x ∷ [])))

-- ---- the audit

nothing_pushed : (a b : Option (List ℕ)) (old new : List ℕ) → Keeps a b → new ≡ old → PushedFront a b old new []
nothing_pushed a b old new kept same = record {
  front = [];
  rest = [];
  whole = refl;
  sends = record { sent = []; written = Appends-kept a a b [] (Appends-nil a) kept; whole = append-nil old ∙ sym same };
}

-- the line of an audit wasn't pushed
pub audit_cut : (fault : WriteFault) (result : Result Bool WriteFault) (a b : Option (List ℕ)) (old new bytes : List ℕ) (Claim : Type 0) (holds : Bool) → IsErrAnd result (λ e. e ≡ fault) → bytes ≡ lines_text (audit_line holds ∷ [])
    → Decides holds Claim → PushGives {T = Unit {0}} (Err fault) a b old new bytes → AuditGives (Pushed a b old new) (PushedFront a b old new) result Claim
audit_cut fault (Ok whole) a b old new bytes Claim holds ends is decides h = absurd ends
audit_cut faults.Write (Err e) a b old new bytes Claim holds ends is decides h =
    inr (holds, decides, record { front = lines_text (audit_line holds ∷ []); rest = []; whole = sym (append-nil (lines_text (audit_line holds ∷ []))); sends = subst (λ l. Sends a b (old ++ l) new) is h })
audit_cut faults.Memory (Err e) a b old new bytes Claim holds ends is decides h = inl (nothing_pushed a b old new h.0 h.1)

pub audit_pushed : (a b : Option (List ℕ)) (old new bytes : List ℕ) (holds : Bool) → bytes ≡ lines_text (audit_line holds ∷ []) → Sends a b (old ++ bytes) new × (length new < 8192) → Pushed a b old new (lines_text (audit_line holds ∷ []))
audit_pushed a b old new bytes holds is h = record { sends = subst (λ l. Sends a b (old ++ l) new) is h.0; few = λ k. h.1 }

-- ---- the whole

-- no more is pushed behind what was
front_no_more : (a b c : Option (List ℕ)) (old mid new text : List ℕ) → Pushed a b old mid text → PushedFront b c mid new [] → PushedFront a c old new text
front_no_more a b c old mid new text h k = subst (PushedFront a c old new) (append-nil text) (front_then a b c old mid new text [] h k)

-- the audit behind what is told: it holds
pub behind_told : (result : Result Bool WriteFault) (a b c : Option (List ℕ)) (old mid new : List ℕ) (told : List (List ℕ)) (Claim : Type 0) → Claim → Pushed a b old mid (lines_text told)
    → AuditGives (Pushed b c mid new) (PushedFront b c mid new) result Claim → ReportGives (Pushed a c old new) (PushedFront a c old new) result (told ++ audit_line true ∷ [])
behind_told (Ok holds) a b c old mid new told Claim claim h k =
    let holds = k.0.1 claim in
    (holds, lines_then (Ok tt) a b c old mid new told (audit_line true ∷ []) h (subst (λ (q : Bool). Pushed b c mid new (lines_text (audit_line q ∷ []))) holds k.1))
behind_told (Err fault) a b c old mid new told Claim claim h (inl k) = front_before a c old new told (audit_line true ∷ []) (front_no_more a b c old mid new (lines_text told) h k)
behind_told (Err fault) a b c old mid new told Claim claim h (inr k) =
    front_behind a b c old mid new told (audit_line true ∷ []) h (subst (λ (q : Bool). PushedFront b c mid new (lines_text (audit_line q ∷ []))) (k.1.1 claim) k.2)

-- a beginning of what is told was pushed alone
pub cut_in_told : {E : Type 0} (Q : E → Type 0) (result : Result Bool E) (a b : Option (List ℕ)) (old new : List ℕ) (told : List (List ℕ)) → IsErrAnd result Q → PushedFront a b old new (lines_text told)
    → ReportGives (Pushed a b old new) (PushedFront a b old new) result (told ++ audit_line true ∷ [])
cut_in_told Q (Ok holds) a b old new told is h = absurd is
cut_in_told Q (Err fault) a b old new told is h = front_before a b old new told (audit_line true ∷ []) h

-- ---- what the writer has at last

-- a beginning was pushed, and nothing is sent any more
pub unsent : {E : Type 0} (Q : E → Type 0) (result : Result Bool E) (a b : Option (List ℕ)) (old held : List ℕ) (lines : List (List ℕ)) → IsErrAnd result Q → old ≡ [] → PushedFront a b old held (lines_text lines)
    → ReportGives (Appends a b) (AppendsFront a b) result lines
unsent Q (Ok holds) a b old held lines is empty h = absurd is
unsent Q (Err fault) a b old held lines is empty h =
    let all = ap (λ l. l ++ h.front) (sym empty) ∙ h.sends.whole in
    record { front = h.sends.sent; rest = held ++ h.rest; whole = h.whole ∙ ap (λ l. l ++ h.rest) all ∙ append_assoc h.sends.sent held h.rest; written = h.sends.written }

-- all was pushed, and then a part of it was sent
pub amid_flush : {E : Type 0} (Q : E → Type 0) (result : Result Bool E) (a b c : Option (List ℕ)) (old held new : List ℕ) (lines : List (List ℕ)) → IsErrAnd result Q → old ≡ [] → Pushed a b old held (lines_text lines) → Sends b c held new
    → ReportGives (Appends a c) (AppendsFront a c) result lines
amid_flush Q (Ok holds) a b c old held new lines is empty h k = absurd is
amid_flush Q (Err fault) a b c old held new lines is empty h k =
    let all = ap (λ l. l ++ lines_text lines) (sym empty) ∙ h.sends.whole in
    record {
      front = h.sends.sent ++ k.sent;
      rest = new;
      whole = all ∙ ap (λ l. h.sends.sent ++ l) k.whole ∙ sym (append_assoc h.sends.sent k.sent new);
      written = Appends-trans a b c h.sends.sent k.sent h.sends.written k.written;
    }

-- all was pushed and sent
pub flushed : (a b c : Option (List ℕ)) (old held : List ℕ) (lines : List (List ℕ)) → old ≡ [] → Pushed a b old held (lines_text lines) → Appends b c held → Appends a c (lines_text lines)
flushed a b c old held lines empty h k =
    subst (Appends a c) (sym (ap (λ l. l ++ lines_text lines) (sym empty) ∙ h.sends.whole)) (Appends-trans a b c h.sends.sent held h.sends.written k)

-- ---- the book, part by part

abbrev the_book : Limits → Schema → Base → List LogRow → FinMap nat_cmp ℕ → State → ℕ → ℕ → Book
the_book limits tables base log marks state counter low = record { header = header_of limits tables; base = base; log = log; marks = marks; state = state; counter = counter; low = low }

pub same_book : (limits : Limits) (schema tables : Schema) (folded base : Base) (rows log : List LogRow) (seen marks : FinMap nat_cmp ℕ) (content state : State) (count counter lowest low : ℕ)
    → schema ≡ tables → folded ≡ base → rows ≡ log → seen ≡ marks → content ≡ state → count ≡ counter → lowest ≡ low
    → the_book limits schema folded rows seen content count lowest ≡ the_book limits tables base log marks state counter low
same_book limits schema tables folded base rows log seen marks content state count counter lowest low a f b m c d e = λ j. the_book limits (a j) (f j) (b j) (m j) (c j) (d j) (e j)

-- ---- what is told

pub whole_told : (r : Printed) (whole : Bool) (a b : Option (List ℕ)) (old new : List ℕ) (book : Book) (refused : List ℕ) → whole ≡ true → PrintGives r a b old new (book_text book) → PrintGives r a b old new (lines_text (told_lines whole book refused))
whole_told r whole a b old new book refused is h = subst (λ (w : Bool). PrintGives r a b old new (lines_text (told_lines w book refused))) (sym is) h

pub sessions_told : (r : Printed) (whole : Bool) (a b : Option (List ℕ)) (old new : List ℕ) (book : Book) (refused : List ℕ) → whole ≡ false → PrintGives r a b old new (lines_text (sessions_lines book.log book.marks 1 refused))
    → PrintGives r a b old new (lines_text (told_lines whole book refused))
sessions_told r whole a b old new book refused is h = subst (λ (w : Bool). PrintGives r a b old new (lines_text (told_lines w book refused))) (sym is) h

-- the same book, said otherwise
pub report_same : {E : Type 0} (a b : Option (List ℕ)) (old new : List ℕ) (result : Result Bool E) (whole : Bool) (said book : Book) (refused : List ℕ) → said ≡ book
    → ReportGives (Pushed a b old new) (PushedFront a b old new) result (report_lines whole said refused) → ReportGives (Pushed a b old new) (PushedFront a b old new) result (report_lines whole book refused)
report_same a b old new result whole said book refused same t = subst (λ (k : Book). ReportGives (Pushed a b old new) (PushedFront a b old new) result (report_lines whole k refused)) same t

pub audited_same : (said book : Book) → said ≡ book → Audited book.base book.marks book.state book.log → Audited said.base said.marks said.state said.log
audited_same said book same t = subst (λ (b : Book). Audited b.base b.marks b.state b.log) (sym same) t
