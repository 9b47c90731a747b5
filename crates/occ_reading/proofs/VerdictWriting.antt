-- Writing a verdict, and what an audit leaves.
use Rattle.std.proofs.Common.{◌≡◌, ℕ, Bool, List, ◌++◌, Option, Some, None, Result, Ok, Err, inl, inr, refl, sym, ap, subst, ◌∙◌, append_assoc, []}
use Rattle.occ_reading.proofs.Common.{Appends, Appends-trans, AuditGives, Audited, Book, Decides, FailsFrom, HasFailed, IsBookText, IsErrAnd, Judged, Keeps-refl, PushGives, ReadFault, Sends, Source, Torn, Trouble, VerdictFront, VerdictGives, books, point, prepend_known, read_trouble, start, verdict_text, write_trouble}
use Rattle.occ_text.specs.declared.faults.WriteFault.{WriteFault}
use Rattle.occ_reading.specs.Places.{Version}
use Rattle.occ_text.specs.declared.faults.ReadFault.TheVariants as reads
use Rattle.occ_text.specs.declared.faults.WriteFault.TheVariants as faults
use Rattle.occ_text.specs.declared.trouble.Trouble.TheVariants as troubles

front_of : (verdict : Bool) (a b : Option (List ℕ)) (bytes held : List ℕ) → bytes ≡ verdict_text verdict → Sends a b bytes held → VerdictFront verdict a b
front_of verdict a b bytes held is s = record { front = s.sent; rest = held; whole = sym is ∙ s.whole; written = s.written }

pub push_failed : {X : Type 0} (fault : WriteFault) (result : Result X WriteFault) (verdict : Bool) (a b : Option (List ℕ)) (bytes old held : List ℕ) → IsErrAnd result (λ e. e ≡ fault) → bytes ≡ verdict_text verdict → old ≡ []
    → PushGives {T = Unit {0}} (Err fault) a b old held bytes → VerdictGives result verdict a b
push_failed fault (Ok x) verdict a b bytes old held was is none g = absurd was
push_failed fault (Err faults.Write) verdict a b bytes old held was is none g =
    front_of verdict a b (old ++ bytes) held (ap (λ (l : List ℕ). l ++ bytes) none ∙ is) (subst (λ (f : WriteFault). PushGives {T = Unit {0}} (Err f) a b old held bytes) (sym was) g)
push_failed fault (Err faults.Memory) verdict a b bytes old held was is none g =
    let kept = subst (λ (f : WriteFault). PushGives {T = Unit {0}} (Err f) a b old held bytes) (sym was) g in kept.0

-- all was pushed, and then none or a part of it was sent
pub flush_failed : {X : Type 0} (result : Result X WriteFault) (verdict : Bool) (a b c : Option (List ℕ)) (bytes old held new : List ℕ) → IsErrAnd result (λ e. e ≡ faults.Write) → bytes ≡ verdict_text verdict → old ≡ []
    → Sends a b (old ++ bytes) held → Sends b c held new → VerdictGives result verdict a c
flush_failed (Ok x) verdict a b c bytes old held new was is none p f = absurd was
flush_failed {X} (Err e) verdict a b c bytes old held new was is none p f =
    subst (λ (d : WriteFault). VerdictGives {X = X} (Err d) verdict a c) (sym was) (record {
      front = p.sent ++ f.sent;
      rest = new;
      whole = sym (ap (λ (l : List ℕ). l ++ bytes) none ∙ is) ∙ p.whole ∙ ap (λ (l : List ℕ). p.sent ++ l) f.whole ∙ sym (append_assoc p.sent f.sent new);
      written = Appends-trans a b c p.sent f.sent p.written f.written;
    })

pub all_written : (verdict : Bool) (a b c : Option (List ℕ)) (bytes old held : List ℕ) → bytes ≡ verdict_text verdict → old ≡ [] → Sends a b (old ++ bytes) held → Appends b c held → Appends a c (verdict_text verdict)
all_written verdict a b c bytes old held is none p sent =
    subst (Appends a c) (sym p.whole ∙ ap (λ (l : List ℕ). l ++ bytes) none ∙ is) (Appends-trans a b c p.sent held p.written sent)

-- nothing was read ahead
known_nil : (known : Option (List ℕ)) → prepend_known [] known ≡ known
known_nil None = refl
known_nil (Some bytes) = refl

-- memory was refused before anything was written
pub refused : (result : Result Bool Trouble) (text after a : Option (List ℕ)) → IsErrAnd result (λ e. e ≡ troubles.Memory) → AuditGives result text after a a
refused (Ok verdict) text after a is = absurd is
refused (Err e) text after a is = subst (λ (t : Trouble). AuditGives (Err t) text after a a) (sym is) (Keeps-refl a)

-- the text is none of a book, or wasn't read, or memory was refused for it: nothing was written yet
untouched : (fault : ReadFault) (text after a : Option (List ℕ)) (left : List ℕ) → (fault ≡ reads.Read → left ≡ []) → FailsFrom books fault Version (start text) (prepend_known left after) → AuditGives (Err (read_trouble fault)) text after a a
untouched (reads.Malformed n) text after a left emptied t = (Keeps-refl a, inl t)
untouched reads.Read text after a left emptied t =
    (Keeps-refl a, subst (Torn books Version (start text)) (ap (λ (l : List ℕ). prepend_known l after) (emptied refl) ∙ known_nil after) t)
untouched reads.TooManyLines text after a left emptied t = (Keeps-refl a, inr (t, refl))
untouched reads.Memory text after a left emptied t = Keeps-refl a

pub stopped : (fault : ReadFault) (result : Result Bool Trouble) (unread : List ℕ) (n : ℕ) (text after a : Option (List ℕ)) (input : Source) → IsErrAnd result (λ e. e ≡ read_trouble fault) → unread ≡ [] → n ≡ 0
    → (fault ≡ reads.Read → HasFailed input) → FailsFrom books fault Version (point (prepend_known unread text) n) (prepend_known input.unread after) → AuditGives result text after a a
stopped fault (Ok verdict) unread n text after a input is none begun cause t = absurd is
stopped fault (Err e) unread n text after a input is none begun cause t =
    let left = prepend_known input.unread after in
    let emptied : fault ≡ reads.Read → input.unread ≡ [] = λ read. let failed = cause read in failed.emptied in
    subst (λ (d : Trouble). AuditGives (Err d) text after a a) (sym is) (untouched fault text after a input.unread emptied
    (subst (λ (known : Option (List ℕ)). FailsFrom books fault Version (start known) left) (ap (λ (l : List ℕ). prepend_known l text) none ∙ known_nil text) (subst (λ (k : ℕ). FailsFrom books fault Version (point (prepend_known unread text) k) left) begun t)))

pub write_failed : (fault : WriteFault) (result : Result Bool Trouble) (verdict : Bool) (text after a b : Option (List ℕ)) → Judged verdict text → IsErrAnd result (λ e. e ≡ write_trouble fault) → VerdictGives {X = Unit {0}} (Err fault) verdict a b → AuditGives result text after a b
write_failed fault (Ok answer) verdict text after a b judged is g = absurd is
write_failed faults.Write (Err e) verdict text after a b judged is g = subst (λ (t : Trouble). AuditGives (Err t) text after a b) (sym is) (verdict, judged, g)
write_failed faults.Memory (Err e) verdict text after a b judged is g = subst (λ (t : Trouble). AuditGives (Err t) text after a b) (sym is) g

from_start : (unread : List ℕ) (known : Option (List ℕ)) (book : Book) → unread ≡ [] → IsBookText (prepend_known unread known) book → IsBookText known book
from_start unread known book none is = subst (λ (text : Option (List ℕ)). IsBookText text book) (ap (λ (l : List ℕ). prepend_known l known) none ∙ known_nil known) is

-- the verdict on the book that was taken is right of the text
pub judged : (verdict : Bool) (unread : List ℕ) (known : Option (List ℕ)) (book : Book) → unread ≡ [] → IsBookText (prepend_known unread known) book → Decides verdict (Audited book.base book.marks book.state book.log) → Judged verdict known
judged verdict unread known book none is right = record { book = book; read = from_start unread known book none is; right = right }
