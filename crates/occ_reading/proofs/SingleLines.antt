-- Single lines that are taken from an input, and what is left where the line that is wanted doesn't stand.
use Rattle.std.proofs.Common.{◌≡◌, ℕ, List, ◌∷◌, ◌++◌, Option, Some, Result, Ok, Err, sym, ap, subst, ◌∙◌, []}
use Rattle.occ_reading.proofs.Common.{Consumes, Gives, IfOk, IsErrAnd, IsSpelled, LineFault, NoneTaken, NoneTaken-narrower, OtherLine, ReadFault, ShownLine, Taken, Unread, read_fault, told, widened}
use Rattle.occ_text.specs.declared.tokens.Unread.TheVariants as unread
use Rattle.occ_text.specs.declared.faults.ReadFault.TheVariants as faults

-- what a reader of lines answers is whose text the line is, and all that fits is read again
pub record ReadsLine {X Y : Type 0} (view : X → Y) (spell : Y → List ℕ) (fits : Y → Type 0) (shown : List ℕ) (read : Result X Unread) : Type 0 where
  pub found : IfOk read (λ x. (shown ≡ spell (view x)) × fits (view x))
  pub again : (y : Y) → fits y → shown ≡ spell y → Gives view read (Some y)

-- a line is read, or it can't stand
pub line_read : {X Y : Type 0} (view : X → Y) (spell : Y → List ℕ) (fits : Y → Type 0) (read : Result X Unread) (result : Result X ReadFault) (shown : List ℕ) (a b : Option (List ℕ)) (n first last : ℕ)
    → ShownLine shown a b n first last → ReadsLine view spell fits shown read → result ≡ told read n → Taken view spell fits result a b first last
line_read {X} view spell fits (Ok x) result shown a b n first last line reads is =
    subst (λ (r : Result X ReadFault). Taken view spell fits r a b first last) (sym is) (subst (λ (l : List ℕ). Consumes a b (l ++ 10 ∷ [])) (sym line.same ∙ reads.found.0) line.taken.0, reads.found.1, line.taken.1)
line_read {X} view spell fits (Err unread.Malformed) result shown a b n first last line reads is =
    subst (λ (r : Result X ReadFault). Taken view spell fits r a b first last) (sym is)
    (OtherLine line.line b line.taken.0 line.taken.2 (λ p. let e = reads.again p.0 p.1 (line.same ∙ p.2) in cc e), line.here ∙ line.taken.1)
line_read {X} view spell fits (Err unread.Memory) result shown a b n first last line reads is =
    subst (λ (r : Result X ReadFault). Taken view spell fits r a b first last) (sym is) tt

-- what a line tells that was read
pub told_alone : {X Y : Type 0} (view : X → Y) (spell : Y → List ℕ) (fits : Y → Type 0) (shown : List ℕ) (read : Result X Unread) (x : X) → ReadsLine view spell fits shown read → read ≡ Ok x → (y : Y) → fits y → shown ≡ spell y → y ≡ view x
told_alone view spell fits shown read x reads is y fit same = let e : Some y ≡ Some (view x) = subst (λ r. Gives view r (Some y)) is (reads.again y fit same) in cc e

-- a line that was read can't stand, since what it alone tells isn't wanted here
pub line_barred : {Y : Type 0} (spell : Y → List ℕ) (fits wanted : Y → Type 0) (x : Y) (shown : List ℕ) (a b : Option (List ℕ)) (n first last : ℕ) → ShownLine shown a b n first last → ((y : Y) → fits y → shown ≡ spell y → y ≡ x) → (wanted x → ⊥)
    → NoneTaken (IsSpelled spell (λ y. fits y × wanted y)) (faults.Malformed n) a b first
line_barred spell fits wanted x shown a b n first last line alone unwanted =
    (OtherLine line.line b line.taken.0 line.taken.2 (λ p. unwanted (subst wanted (alone p.0 p.1.0 (line.same ∙ p.2)) p.1.1)), line.here ∙ line.taken.1)

-- a line that wasn't read is none of those that are wanted here
pub narrowed : {X Y : Type 0} (view : X → Y) (spell : Y → List ℕ) (fits wanted : Y → Type 0) (fault : ReadFault) (result : Result X ReadFault) (a b : Option (List ℕ)) (first last : ℕ) → IsErrAnd result (λ e. e ≡ fault)
    → NoneTaken (IsSpelled spell fits) fault a b first → Taken view spell (λ y. fits y × wanted y) result a b first last
narrowed view spell fits wanted fault (Ok x) a b first last is t = absurd is
narrowed {Y = Y} view spell fits wanted fault (Err e) a b first last is t =
    subst (λ (f : ReadFault). NoneTaken (IsSpelled spell (λ y. fits y × wanted y)) f a b first) (sym is)
    (NoneTaken-narrower (IsSpelled spell fits) (IsSpelled spell (λ y. fits y × wanted y)) fault a b first (λ line p. (p.0, p.1.0, p.2)) t)

pub widened_is : {X : Type 0} (result : Result X LineFault) (fault : LineFault) → IsErrAnd result (λ e. e ≡ fault) → IsErrAnd (widened result) (λ e. e ≡ read_fault fault)
widened_is (Ok x) fault is = absurd is
widened_is (Err e) fault is = ap read_fault is
