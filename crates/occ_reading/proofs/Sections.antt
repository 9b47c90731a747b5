-- The parts of a book: its tables, its base, its closing marks, its state and its end.
use Rattle.std.proofs.Common.{T, ◌≡◌, ℕ, zero, suc, ◌-◌, ◌^◌, ◌<◌, ◌≤◌, Bool, true, false, List, ◌∷◌, ◌++◌, map, length, Option, Some, None, refl, sym, ap, subst, ◌∙◌, arith, append_assoc, []}
use Rattle.occ_reading.proofs.Common.{AllByRecursion, AllFit, AtFits, Audit, Base, BaseFits, BaseHead, BaseHeadFits, Began, BeganFits, Book, BookFits, Consumes, Consumes-trans, CountsFit, Ended, EntryFits, FailsFrom, FinMap, Frame, IfSome, IsAtEnd, IsBaseOf, IsBookText, Key, KindsFit, Less, Limits, LimitsFit, Log, LogRow, LogRowFits, Mark, Marked, Object, Place, Position, ReadFault, Row, Schema, State, Took, Version, Within, append-nil, base_line, base_lines, base_text, began_text, behind_began, book_lines, books, but_first, check_key, check_key_in, check_tables, codes, cond, count_text, counts_text, empty_base, entries, entry_line, fails, flat_map, folded_lines, frame_of, front_lines, insert, is_behind, len, len-empty, len-entries, limits_lines, lines_text, mark_lines, min-eq_left, nat_cmp, nat_cmp_is, nat_cmp_total, nat_tests, none, number_line, numbers_to_come, object_cmp, object_cmp_total, row_count, row_lines, rows_to_come, spelled, state_lines, table_text, ◌==◌, ◌and◌}
use Rattle.occ_reading.specs.declared.number_lines.Counts.{Counts}
use Rattle.occ_model.specs.State.{put}
use Rattle.occ_print.specs.declared.sections.Section.TheVariants as sections
use Rattle.occ_reading.specs.Places as places
use Rattle.occ_reading.specs.declared.number_lines.Began.TheVariants as begun
use Rattle.occ_reading.proofs.TableNames.{checked_place}
use Rattle.occ_reading.proofs.PartPlaces.{ending_of}
use Rattle.occ_reading.proofs.Rising.{Added, SoFar, added, less, no_entries}

-- ---- numbers of sessions

-- the session of the last line, or none at 0
abbrev pub last_session : ℕ → Option ℕ
last_session zero = None
last_session (suc n) = Some (suc n)

less_than : (a b : ℕ) → a < b → nat_cmp a b ≡ Less
less_than a b lt = sym (nat_cmp_is a b Less lt)

session_above : (last session : ℕ) → last < session → IfSome (last_session last) (λ key. nat_cmp key session ≡ Less)
session_above zero session lt = tt
session_above (suc n) session lt = less_than (suc n) session lt

is_last : (last session : ℕ) → last < session → last_session session ≡ Some session
is_last last zero lt = absurd (omega arith)
is_last last (suc n) lt = refl

-- one more mark goes last
pub mark_added : (last count : ℕ) (old new : Marked) (mark : Mark) → SoFar (last_session last) count old.marks → last < mark.session → new ≡ record old { marks = insert old.marks mark.session mark.number }
    → Added count old.marks new.marks mark.session mark.number
mark_added last count old new mark so_far lt is =
    added nat_cmp_total (last_session last) count old.marks new.marks mark.session mark.number so_far (session_above last mark.session lt) (ap (λ (m : Marked). m.marks) is)

pub mark_last : (last count : ℕ) (mark : Mark) (marks : FinMap nat_cmp ℕ) → last < mark.session → SoFar (Some mark.session) count marks → SoFar (last_session mark.session) count marks
mark_last last count mark marks lt so_far = subst (λ (o : Option ℕ). SoFar o count marks) (sym (is_last last mark.session lt)) so_far

-- a count, and so many marks
pub marks_taken : {p q r : Place} {a b c : Position} (sessions n : ℕ) (marks : FinMap nat_cmp ℕ) → Took books p q a b (count_text (codes "marks") n ∷ []) → Took books q r b c (map (number_line sections.Store) (entries marks)) × AllFit (EntryFits sessions) n (entries marks)
    → Took books p r a c (mark_lines marks) × AllByRecursion (EntryFits sessions) (entries marks)
marks_taken sessions n marks first all =
    let count : n ≡ len marks = sym all.1.1 ∙ sym (len-entries marks) in
    (spelled (ap (λ (k : ℕ). count_text (codes "marks") k ∷ map (number_line sections.Store) (entries marks)) count) (first and all.0), all.1.0)

-- ---- rows of tables

pub place_there : (schema : Schema) (tables place : ℕ) (key : Key) → tables ≡ length schema → check_key schema place key ≡ None → place < tables
place_there schema tables place key all good = subst (λ (k : ℕ). place < k) (sym all) (checked_place schema place (λ table. check_key_in table key) good)

object_above : (last : Option Object) (object : Object) → is_behind last object ≡ true → IfSome last (λ key. object_cmp key object ≡ Less)
object_above None object h = tt
object_above (Some last) object h = less (object_cmp last object) (subst T (sym h) tt)

put-is : (state : State) (object : Object) (row : Row) → put state (object, Some row) ≡ insert state object row
unfolding put
put-is state object row = refl

-- one more row goes last
pub row_added : (last : Option Object) (count : ℕ) (state new : State) (entry : Object × Row) → SoFar last count state → is_behind last entry.0 ≡ true → new ≡ put state (entry.0, Some entry.1) → Added count state new entry.0 entry.1
row_added last count state new entry so_far up is = added object_cmp_total last count state new entry.0 entry.1 so_far (object_above last entry.0 up) (is ∙ put-is state entry.0 entry.1)

-- a count, and so many rows
pub state_taken : {p q r : Place} {a b c : Position} (version : Version) (schema : Schema) (n : ℕ) (state : State) → Took books p q a b (count_text (codes "state") n ∷ []) × Within 0 (2 ^ 64 - 1) n
    → Took books q r b c (map (entry_line sections.Store schema) (entries state)) × AllFit (AtFits version schema) n (entries state) → Took books p r a c (state_lines schema state) × (AllByRecursion (AtFits version schema) (entries state) × (len state ≤ 2 ^ 64 - 1))
state_taken version schema n state first all =
    let is : n ≡ len state = sym all.1.1 ∙ sym (len-entries state) in
    let small : len state ≤ 2 ^ 64 - 1 = subst (λ (k : ℕ). k ≤ 2 ^ 64 - 1) is first.1.most_count in
    let count : n ≡ row_count state = is ∙ sym (min-eq_left small) in
    (spelled (ap (λ (k : ℕ). count_text (codes "state") k ∷ map (entry_line sections.Store schema) (entries state)) count) (first.0 and all.0), (all.1.0, small))

-- ---- the base

-- the lines of a base behind its first one
pub folded_taken : {p q r : Place} {a b c : Position} (version : Version) (schema : Schema) (sessions : ℕ) (head : BaseHead) (last : FinMap nat_cmp ℕ) (state : State) (base : Base) → BaseHeadFits head → base ≡ record { state = state; last = last; place = head.place }
    → Took books p q a b (map (number_line sections.Base) (entries last)) × AllFit (EntryFits sessions) head.numbers (entries last)
    → Took books q r b c (map (entry_line sections.Base schema) (entries state)) × AllFit (AtFits version schema) head.rows (entries state)
    → Took books p r a c (map (number_line sections.Base) (entries base.last) ++ map (entry_line sections.Base schema) (entries base.state)) × (BaseFits version schema sessions base × IsBaseOf head base)
folded_taken {p} {q} {r} {a} {b} {c} version schema sessions head last state base fits is numbers rows =
    let counted : head.numbers ≡ len last = sym numbers.1.1 ∙ sym (len-entries last) in
    let long : head.rows ≡ len state = sym rows.1.1 ∙ sym (len-entries state) in
    let few : len state ≤ 2 ^ 64 - 1 = subst (λ (k : ℕ). k ≤ 2 ^ 64 - 1) long fits.rows in
    let count : head.rows ≡ row_count state = long ∙ sym (min-eq_left few) in
    subst (λ (x : Base). Took books p r a c (map (number_line sections.Base) (entries x.last) ++ map (entry_line sections.Base schema) (entries x.state)) × (BaseFits version schema sessions x × IsBaseOf head x)) (sym is) (
      numbers.0 and rows.0,
      (
        record {
          place = fits.place.last;
          last = numbers.1.0;
          objects = few;
          state = rows.1.0;
          nothing = λ none. let first = fits.place.first in absurd (omega (arith, none, first));
        },
        record { spelled = λ i. base_line head.place (counted i) (count i); place = refl },
      ),
    )

-- nothing was folded
nothing_fits : (version : Version) (schema : Schema) (sessions : ℕ) → BaseFits version schema sessions empty_base
nothing_fits version schema sessions = record {
  place = omega arith;
  last = subst (AllByRecursion (EntryFits sessions)) (sym (no_entries empty_base.last refl)) tt;
  objects = subst (λ (k : ℕ). k ≤ 2 ^ 64 - 1) (sym (len-empty object_cmp Row)) (omega arith);
  state = subst (AllByRecursion (AtFits version schema)) (sym (no_entries empty_base.state refl)) tt;
  nothing = λ none. refl;
}

-- what a front is by how the log begins
abbrev pub FrontTaken : Version → Schema → ℕ → Began → Base → ℕ → Position → Position → Type 0
FrontTaken version schema sessions began base rows a b =
    Took books (behind_began (frame_of version schema sessions) began) (rows_to_come (frame_of version schema sessions) rows) a b (but_first (front_lines schema base rows))
    × (BaseFits version schema sessions base × (front_lines schema base rows ≡ began_text began ∷ but_first (front_lines schema base rows)))

pub log_front : {a : Position} (version : Version) (schema : Schema) (sessions rows : ℕ) (began : Began) (base : Base) → began ≡ begun.Log rows → base ≡ empty_base → FrontTaken version schema sessions began base rows a a
log_front {a} version schema sessions rows began base is nothing =
    subst (λ (k : Began). FrontTaken version schema sessions k base rows a a) (sym is) (subst (λ (b : Base). FrontTaken version schema sessions (begun.Log rows) b rows a a) (sym nothing) (none, (nothing_fits version schema sessions, refl)))

-- a base, and how many rows follow
pub base_front : {a b c : Position} (version : Version) (schema : Schema) (sessions rows : ℕ) (began : Began) (head : BaseHead) (base : Base) → began ≡ begun.Base head → BeganFits began
    → Took books (numbers_to_come sections.Base (frame_of version schema sessions) head.rows head.numbers 0) (Log (frame_of version schema sessions)) a b (map (number_line sections.Base) (entries base.last) ++ map (entry_line sections.Base schema) (entries base.state))
    × (BaseFits version schema sessions base × IsBaseOf head base)
    → Took books (Log (frame_of version schema sessions)) (rows_to_come (frame_of version schema sessions) rows) b c (count_text (codes "log") rows ∷ []) → FrontTaken version schema sessions began base rows a c
base_front {a} {b} {c} version schema sessions rows began head base is fits folded next =
    let log = count_text (codes "log") rows ∷ [] in
    let first = (subst BeganFits is fits).place.first in
    let same = folded.1.1.place in
    let some : (base.place == 0) ≡ false = grind (arith, nat_tests) in
    let whole : folded_lines schema base ++ log ≡ front_lines schema base rows = ap (λ (t : Bool). cond t [] (folded_lines schema base) ++ log) (sym some) in
    subst (λ (k : Began). FrontTaken version schema sessions k base rows a c) (sym is) (
      spelled (ap but_first whole) (folded.0 and next),
      (folded.1.0, sym whole ∙ ap (λ (l : List ℕ). l ∷ but_first (folded_lines schema base ++ log)) (sym folded.1.1.spelled) ∙ ap (λ (l : List (List ℕ)). base_text head ∷ but_first l) whole),
    )

pub front_fails : {a b : Position} {lines : List (List ℕ)} (fault : ReadFault) (c : Option (List ℕ)) (frame : Frame) (began : Began) (head : BaseHead) → began ≡ begun.Base head → Took books (numbers_to_come sections.Base frame head.rows head.numbers 0) (Log frame) a b lines
    → FailsFrom books fault (Log frame) b c → FailsFrom books fault (behind_began frame began) a c
front_fails {a} fault c frame began head is l t = subst (λ (k : Began). FailsFrom books fault (behind_began frame k) a c) (sym is) (fails fault c l t)

-- ---- the whole

all_of : (a b : Option (List ℕ)) (bs : List ℕ) → Consumes a b bs → IsAtEnd b → IfSome a (λ bytes. bytes ≡ bs)
all_of None b bs p q = tt
all_of (Some x) None bs p q = absurd p
all_of (Some x) (Some y) bs p q = p ∙ ap (λ (l : List ℕ). bs ++ l) q ∙ append-nil bs

-- the lines of a book, and what stands behind it, are the whole text
pub book_text_is : {a b : Position} (book : Book) → Took books places.Version Audit a b (book_lines book) × BookFits book → Ended books Audit b → IsBookText a.left book
book_text_is {a} {b} book taken end = record {
  lines = end.lines;
  ending = ending_of end.lines end.place end.took.leads;
  whole = all_of a.left end.rest.left _ (Consumes-trans a.left b.left end.rest.left _ (lines_text end.lines) taken.0.taken end.took.taken) end.whole;
  fits = taken.1;
}

pub whole_book : {a b c d e f g h : Position} {p q r s t u : Place} (limits : Limits) (tables : Schema) (began : Began) (base : Base) (rows : ℕ) (log : List LogRow) (marks : FinMap nat_cmp ℕ) (state : State) (counts : Counts)
    → Took books places.Version p a b (limits_lines limits) → LimitsFit limits → Took books p q b c (map table_text tables ++ began_text began ∷ []) × ((check_tables tables ≡ None) × KindsFit limits.version tables × BeganFits began)
    → Took books q r c d (but_first (front_lines tables base rows)) × (BaseFits limits.version tables limits.sessions base × (front_lines tables base rows ≡ began_text began ∷ but_first (front_lines tables base rows)))
    → Took books r s d e (flat_map (row_lines tables) log) × AllFit (LogRowFits limits.version tables limits.sessions) rows log → rows ≤ 2 ^ 64 - 1
    → Took books s t e f (mark_lines marks) × AllByRecursion (EntryFits limits.sessions) (entries marks)
    → Took books t u f g (state_lines tables state) × (AllByRecursion (AtFits limits.version tables) (entries state) × (len state ≤ 2 ^ 64 - 1))
    → Took books u Audit g h (counts_text counts ∷ []) × CountsFit counts
    → (book : Book) → book ≡ record { header = record { version = limits.version; sessions = limits.sessions; queue = limits.queue; keep = limits.keep; tables = tables }; base = base; log = log; marks = marks; state = state; counter = counts.counter; low = counts.low }
    → Took books places.Version Audit a h (book_lines book) × BookFits book
whole_book {a} {h = h} limits tables began base rows log marks state counts first limited opening front logged few marked stated counted book is =
    let s = limits_lines limits in
    let t = map table_text tables in
    let k = base_lines tables base in
    let r = flat_map (row_lines tables) log in
    let numbered : ℕ → List (List ℕ) = λ n. count_text (codes "log") n ∷ [] in
    let opened : (t ++ began_text began ∷ []) ++ but_first (front_lines tables base rows) ≡ t ++ (k ++ numbered (length log)) =
    append_assoc t (began_text began ∷ []) (but_first (front_lines tables base rows)) ∙ ap (λ (l : List (List ℕ)). t ++ l) (sym front.1.1 ∙ ap (λ (n : ℕ). k ++ numbered n) (sym logged.1.1)) in
    let upto_log = first and spelled opened (opening.0 and front.0) and logged.0 in
    let turned : (s ++ (t ++ (k ++ numbered (length log)))) ++ r ≡ ((s ++ t) ++ k) ++ (numbered (length log) ++ r) =
    ap (λ (x : List (List ℕ)). x ++ r) (sym (append_assoc s t (k ++ numbered (length log))) ∙ sym (append_assoc (s ++ t) k (numbered (length log)))) ∙ append_assoc ((s ++ t) ++ k) (numbered (length log)) r in
    subst (λ (x : Book). Took books places.Version Audit a h (book_lines x) × BookFits x) (sym is) (
      spelled turned upto_log and marked.0 and stated.0 and counted.0,
      record {
        header = record { sessions = limited.sessions; queue = limited.queue; keep = limited.keep; tables = opening.1.0; kinds = opening.1.1 };
        base = front.1.0;
        rows = subst (λ (n : ℕ). n ≤ 2 ^ 64 - 1) (sym logged.1.1) few;
        log = logged.1.0;
        marks = marked.1;
        objects = stated.1.1;
        state = stated.1.0;
        counts = counted.1;
      },
    )
