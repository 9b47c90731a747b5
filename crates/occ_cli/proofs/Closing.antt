-- What stands behind the answers of a replay: its book and the audit of it.
use Rattle.std.proofs.Common.{◌≡◌, ℕ, Bool, true, List, [], ◌∷◌, Option, Result, Ok, Err, refl, sym, subst, ◌∙◌, inl, inr, append-nil, Decides, IsErrAnd, nat_cmp}
use Rattle.occ_cli.proofs.Common.{Keeps, Appends-nil, Appends-kept, Schema, Base, LogRow, State, WriteFault, lines_text, Pushed, PushedFront, IsAudited, PushGives, AuditGives, ClosingGives, lines_then, front_before, front_behind}
use Rattle.std.specs.FinMap.{FinMap}
use Rattle.occ_text.specs.declared.headers.Limits.{Limits}
use Rattle.occ_text.specs.declared.faults.WriteFault.TheVariants as faults
use Rattle.occ_print.specs.Books.{Book, book_lines, book_text, audit_line}
use Rattle.occ_cli.proofs.Schedules.{front_no_more}

nothing_pushed : (a b : Option (List ℕ)) (old new : List ℕ) → Keeps a b → new ≡ old → PushedFront a b old new []
nothing_pushed a b old new kept same = record {
  front = [];
  rest = [];
  whole = refl;
  sends = record { sent = []; written = Appends-kept a a b [] (Appends-nil a) kept; whole = append-nil old ∙ sym same };
}

-- the line of an audit
said_so : {T : Type 0} (result : Result T WriteFault) (a b : Option (List ℕ)) (old new : List ℕ) (Claim : Type 0) (holds : Bool) → Decides holds Claim → PushGives result a b old new (lines_text (audit_line holds ∷ []))
    → AuditGives (Pushed a b old new) (PushedFront a b old new) result Claim
said_so (Ok done) a b old new Claim holds decides h = (holds, decides, record { sends = h.0; few = λ k. h.1 })
said_so (Err faults.Write) a b old new Claim holds decides h =
    (holds, decides, record { front = lines_text (audit_line holds ∷ []); rest = []; whole = sym (append-nil (lines_text (audit_line holds ∷ []))); sends = h })
said_so (Err faults.Memory) a b old new Claim holds decides h = inl (nothing_pushed a b old new h.0 h.1)

pub audit_said : {T : Type 0} (result : Result T WriteFault) (a b : Option (List ℕ)) (old new bytes : List ℕ) (Claim : Type 0) (holds : Bool) → bytes ≡ lines_text (audit_line holds ∷ [])
    → Decides holds Claim → PushGives result a b old new bytes → AuditGives (Pushed a b old new) (PushedFront a b old new) result Claim
audit_said result a b old new bytes Claim holds is decides h = said_so result a b old new Claim holds decides (subst (PushGives result a b old new) is h)

-- the audit behind the book
behind_book : {T : Type 0} (result : Result T WriteFault) (a b c : Option (List ℕ)) (old mid new : List ℕ) (book : Book) → IsAudited book → Pushed a b old mid (book_text book)
    → AuditGives (Pushed b c mid new) (PushedFront b c mid new) result (IsAudited book) → ClosingGives (Pushed a c old new) (PushedFront a c old new) result book
behind_book (Ok done) a b c old mid new book audited h k =
    (audited, lines_then (Ok tt) a b c old mid new (book_lines book) (audit_line true ∷ []) h (subst (λ (holds : Bool). Pushed b c mid new (lines_text (audit_line holds ∷ []))) (k.1.1 audited) k.2))
behind_book (Err faults.Write) a b c old mid new book audited h k =
    (audited, front_behind a b c old mid new (book_lines book) (audit_line true ∷ []) h (subst (λ (holds : Bool). PushedFront b c mid new (lines_text (audit_line holds ∷ []))) (k.1.1 audited) k.2))
behind_book (Err faults.Memory) a b c old mid new book audited h (inl k) = (audited, front_before a c old new (book_lines book) (audit_line true ∷ []) (front_no_more a b c old mid new (book_text book) h k))
behind_book (Err faults.Memory) a b c old mid new book audited h (inr k) =
    (audited, front_behind a b c old mid new (book_lines book) (audit_line true ∷ []) h (subst (λ (holds : Bool). PushedFront b c mid new (lines_text (audit_line holds ∷ []))) (k.1.1 audited) k.2))

-- a beginning of the book was pushed alone
pub cut_in_book : {T : Type 0} (Q : WriteFault → Type 0) (result : Result T WriteFault) (a b : Option (List ℕ)) (old new : List ℕ) (said book : Book) → IsErrAnd result Q → said ≡ book → IsAudited book → PushedFront a b old new (book_text said)
    → ClosingGives (Pushed a b old new) (PushedFront a b old new) result book
cut_in_book Q (Ok done) a b old new said book is same audited h = absurd is
cut_in_book Q (Err fault) a b old new said book is same audited h =
    (audited, front_before a b old new (book_lines book) (audit_line true ∷ []) (subst (λ (x : Book). PushedFront a b old new (book_text x)) same h))

pub closing : {T : Type 0} (result : Result T WriteFault) (a b c : Option (List ℕ)) (old mid new : List ℕ) (said book : Book) → said ≡ book → IsAudited book → Pushed a b old mid (book_text said)
    → AuditGives (Pushed b c mid new) (PushedFront b c mid new) result (IsAudited said) → ClosingGives (Pushed a c old new) (PushedFront a c old new) result book
closing result a b c old mid new said book same audited h k =
    subst (λ (x : Book). ClosingGives (Pushed a c old new) (PushedFront a c old new) result x) same (behind_book result a b c old mid new said (subst IsAudited (sym same) audited) h k)

abbrev the_book : Limits → Schema → Base → List LogRow → FinMap nat_cmp ℕ → State → ℕ → ℕ → Book
the_book limits tables base log marks state counter low = record {
  header = record { version = limits.version; sessions = limits.sessions; queue = limits.queue; keep = limits.keep; tables = tables };
  base = base;
  log = log;
  marks = marks;
  state = state;
  counter = counter;
  low = low;
}

-- the same book, part by part
pub same_book : (limits : Limits) (schema tables : Schema) (folded base : Base) (rows log : List LogRow) (seen marks : FinMap nat_cmp ℕ) (content state : State) (count counter lowest low : ℕ)
    → schema ≡ tables → folded ≡ base → rows ≡ log → seen ≡ marks → content ≡ state → count ≡ counter → lowest ≡ low
    → the_book limits schema folded rows seen content count lowest ≡ the_book limits tables base log marks state counter low
same_book limits schema tables folded base rows log seen marks content state count counter lowest low a f b m c d e = λ j. the_book limits (a j) (f j) (b j) (m j) (c j) (d j) (e j)
