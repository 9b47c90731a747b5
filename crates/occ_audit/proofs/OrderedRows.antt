-- How rows stay in order one after another, and what a row or a mark says against it.
use Rattle.std.proofs.Common.{◌≡◌, ◌≢◌, ℕ, zero, suc, ◌+◌, ◌<◌, ◌≤◌, Bool, true, false, cond, List, [], ◌∷◌, ◌++◌, take, length, get_or, Option, None, Some, refl, sym, ap, subst, ◌∙◌, arith, ◌==◌, BTreeMap, nat_cmp, length-append, slice_get, IsSomeAnd, MatchOption, unwrap_or, is_eq}
use Rattle.std.proofs.lemmas.Bool.{eq-eqb}
use Rattle.std.proofs.lemmas.List.{append-nil, length-map, length-take-le}
use Rattle.std.specs.FinMap as finite
use Rattle.occ_model.proofs.Orders.{Counts-push, numbers-append, places-append, length-places, placed_at}
use Rattle.occ_model.specs.Log.{InOrder}
use Rattle.occ_audit.proofs.Common.{AreLast, AreNumbered, ArePlaced, Base, Counts, FinMap, LogRow, get, last_folded, last_of, log_of, log_row_of, lookup, numbers, unsigned_Decides}
use Rattle.occ_audit.proofs.Orders.{IsNoted, closed-alike, noted, numbers-cons}
use Rattle.occ_sets.specs.declared.log_rows.LogRow as code_row
use Rattle.occ_audit.specs.declared.findings.Disorder.{Disorder}
use Rattle.occ_audit.specs.declared.findings.Disorder.TheVariants as disorders
use Rattle.occ_audit.specs.Counting.{IsRowDisorder, MarksGive, RowGives}
use Rattle.occ_audit.specs.Findings.{AreOrdered, IsDisorder, IsMisplaced, IsMisnumbered, IsMismarked, IsTold, due_number}
use Rattle.occ_audit.proofs.Prefixes.{prefix-all, prefix-more, prefix-next, prefix-seen}

-- the numbers of a session with one row more
numbers-push : (session : ℕ) (rows : List LogRow) (row : LogRow) → numbers session (rows ++ row ∷ []) ≡ cond (row.session == session) (numbers session rows ++ row.number ∷ []) (numbers session rows)
numbers-push session rows row =
    numbers-append session rows (row ∷ []) ∙ ap (λ l. numbers session rows ++ l) (numbers-cons session row []) ∙ by (row.session == session)
  where
    by : (b : Bool) → numbers session rows ++ cond b (row.number ∷ []) [] ≡ cond b (numbers session rows ++ row.number ∷ []) (numbers session rows)
    by true = refl
    by false = append-nil (numbers session rows)

-- the number after the last one that is kept of a session is the due one
pub due-last : (base : Base) (last : BTreeMap ℕ ℕ) (rows : List LogRow) (session : ℕ) → AreLast base last rows → suc (last_of base last session) ≡ due_number base rows session
due-last base last rows session are = ap suc (are session)

-- one row more
pub record IsNextRow (base : Base) (last next : BTreeMap ℕ ℕ) (rows : List LogRow) (row : LogRow) : Type 0 where
  pub ordered : AreOrdered base rows
  pub are : AreLast base last rows
  pub place : row.place ≡ base.place + length rows
  pub number : row.number ≡ suc (last_of base last row.session)
  pub is : IsNoted last next row.session row.number

module _ (base : Base) (last next : BTreeMap ℕ ℕ) (rows : List LogRow) (row : LogRow) (n : IsNextRow base last next rows row) where
  placed-more : ArePlaced base.place (rows ++ row ∷ [])
  placed-more =
      subst (Counts base.place) (sym (places-append rows (row ∷ [])))
      (Counts-push base.place row.place _ n.ordered.placed (n.place ∙ ap (λ k. base.place + k) (sym (length-places rows))))

  numbered-one : (session : ℕ) (b : Bool) → (b ≡ true → row.session ≡ session) → Counts (suc (last_folded base session)) (cond b (numbers session rows ++ row.number ∷ []) (numbers session rows))
  numbered-one session true own =
      let at = n.number ∙ ap (λ s. suc (last_of base last s)) (own refl) ∙ ap suc (n.are session) in
      Counts-push (suc (last_folded base session)) row.number (numbers session rows) (n.ordered.numbered session) (omega (arith, at))
  numbered-one session false own = n.ordered.numbered session

  numbered-more : AreNumbered base (rows ++ row ∷ [])
  numbered-more session =
      subst (Counts (suc (last_folded base session))) (sym (numbers-push session rows row))
      (numbered-one session (row.session == session) (unsigned_Decides row.session session).0)

  last-one : (session : ℕ) (b : Bool) → (b ≡ true → row.session ≡ session) → cond b row.number (last_of base last session) ≡ last_folded base session + length (cond b (numbers session rows ++ row.number ∷ []) (numbers session rows))
  last-one session true own =
      let at = n.number ∙ ap (λ s. suc (last_of base last s)) (own refl) ∙ ap suc (n.are session) in
      let longer = length-append (numbers session rows) (row.number ∷ []) in
      omega (arith, at, longer)
  last-one session false own = n.are session

  last-more : AreLast base next (rows ++ row ∷ [])
  last-more session =
      noted base last next row.session row.number session n.is
      ∙ last-one session (row.session == session) (unsigned_Decides row.session session).0
      ∙ ap (λ ns. last_folded base session + length ns) (sym (numbers-push session rows row))

  pub ordered-more : AreOrdered base (rows ++ row ∷ []) × AreLast base next (rows ++ row ∷ [])
  ordered-more = (record { placed = placed-more; numbered = numbered-more }, last-more)

-- the number of a row counts those of its session before it
numbered_at : (n : ℕ) (log : List LogRow) (i : ℕ) (row : LogRow) → Counts n (numbers row.session log) → slice_get log i ≡ Some row → row.number ≡ n + length (numbers row.session (take i log))
numbered_at n [] i row counts at = cc
numbered_at n (x ∷ xs) zero row counts at =
    let same : x ≡ row = cc in
    let own = ap (λ b. cond b (row.number ∷ numbers row.session xs) (numbers row.session xs)) (eq-eqb row.session row.session refl) in
    let first = subst (Counts n) (ap (λ r. numbers row.session (r ∷ xs)) same ∙ numbers-cons row.session row xs ∙ own) counts in
    let is : row.number ≡ n = first.0 in
    omega arith
numbered_at n (x ∷ xs) (suc i) row counts at =
    by (x.session == row.session) (λ m c. numbered_at m xs i row c at) (subst (Counts n) (numbers-cons row.session x xs) counts)
    ∙ ap (λ ns. n + length ns) (sym (numbers-cons row.session x (take i xs)))
  where
    by : (b : Bool) → ((m : ℕ) → Counts m (numbers row.session xs) → row.number ≡ m + length (numbers row.session (take i xs)))
        → Counts n (cond b (x.number ∷ numbers row.session xs) (numbers row.session xs)) → row.number ≡ n + length (cond b (x.number ∷ numbers row.session (take i xs)) (numbers row.session (take i xs)))
    by true later c = let is = later (suc n) c.1 in omega (arith, is)
    by false later c = later n c

-- what is told of an element that is there
pub at_some : {X P : Type 0} (o : Option X) (Q : X → Type 0) → IsSomeAnd o Q → ((x : X) → o ≡ Some x → Q x → P) → P
at_some None Q q f = absurd q
at_some (Some x) Q q f = f x refl q

pub not-placed : (base : Base) (log : List LogRow) (row : ℕ) (due : Option ℕ) → IsMisplaced base log row due → ArePlaced base.place log → ⊥
not-placed base log row due wrong placed =
    at_some (slice_get log row) (λ at. at.place ≢ base.place + row) wrong.apart (λ at there apart. apart (placed_at base.place row log at placed there))

pub not-numbered : (base : Base) (log : List LogRow) (row : ℕ) (due : Option ℕ) → IsMisnumbered base log row due → AreNumbered base log → ⊥
not-numbered base log row due wrong numbered =
    at_some (slice_get log row) (λ at. (at.place ≡ base.place + row) × (at.number ≢ due_number base (take row log) at.session) × IsTold due (due_number base (take row log) at.session)) wrong.apart
    (λ at there apart. let is = numbered_at (suc (last_folded base at.session)) log row at (numbered at.session) there in apart.1 (omega (arith, is)))

pub not-closed : (base : Base) (marks : FinMap nat_cmp ℕ) (log : List LogRow) (session : ℕ) (due : Option ℕ) → IsMismarked base marks log session due → InOrder base marks log → ⊥
not-closed base marks log session due wrong order =
    at_some (finite.get marks session) (λ mark. mark ≢ due_number base log session) wrong.apart
    (λ mark there apart. let is = order.closed session mark there in apart (omega (arith, is)))

-- no row yet
pub ordered-none : (base : Base) (last : BTreeMap ℕ ℕ) → last.entries ≡ [] → AreOrdered base [] × AreLast base last []
ordered-none base last none = (
  record { placed = tt; numbered = λ session. tt },
  λ session.
      let kept : last_of base last session ≡ last_folded base session = ap (λ es. unwrap_or (lookup (λ x. is_eq (nat_cmp session x)) es) (last_folded base session)) none in
      omega (arith, kept),
)

-- what a row is out of order for is so of the log
pub disorder-found : (base : Base) (marks : FinMap nat_cmp ℕ) (log : List LogRow) (d : Disorder) → IsRowDisorder base log d → IsDisorder base marks log d
disorder-found base marks log (disorders.Place row due) wrong = wrong
disorder-found base marks log (disorders.Number row due) wrong = wrong
disorder-found base marks log (disorders.Mark session due) wrong = absurd wrong

-- what is found of the marks behind rows that are in order
pub marks-found : (base : Base) (marks : FinMap nat_cmp ℕ) (last : BTreeMap ℕ ℕ) (log : List LogRow) → AreOrdered base log → AreLast base last log → (found : Option Disorder) → MarksGive base marks last found → MatchOption found (InOrder base marks log) (IsDisorder base marks log)
marks-found base marks last log rows are None closed = record {
  places = rows.placed;
  numbered = rows.numbered;
  closed = (closed-alike base marks last log are).0 closed;
}
marks-found base marks last log rows are (Some (disorders.Place row due)) wrong = absurd wrong
marks-found base marks last log rows are (Some (disorders.Number row due)) wrong = absurd wrong
marks-found base marks last log rows are (Some (disorders.Mark session due)) wrong =
    let is = due-last base last log session are in
    record {
      rows = rows;
      before = λ other mark less at. wrong.0 other mark less at ∙ due-last base last log other are;
      apart = subst (λ n. IsSomeAnd (finite.get marks session) (λ mark. mark ≢ n)) is wrong.1;
      told = subst (IsTold due) is wrong.2;
    }

module _ {Z O : Type 0} (base : Base) (log : List (code_row.LogRow Z O)) (i : ℕ) (row : code_row.LogRow Z O) (h : i < length log) (at : row ≡ get_or log i row) (before : AreOrdered base (log_of (take i log))) where
  seen-before : AreOrdered base (take i (log_of log))
  seen-before = subst (AreOrdered base) (prefix-seen log_row_of log i) before

  pub misplaced : (due : Option ℕ) → row.place ≢ base.place + i → IsTold due (base.place + i) → IsMisplaced base (log_of log) i due
  misplaced due apart told = record {
    before = seen-before;
    apart = subst (λ o. IsSomeAnd o (λ r. r.place ≢ base.place + i)) (sym (prefix-next log_row_of log i row h at)) apart;
    told = told;
  }

  pub misnumbered : (due : Option ℕ) (last : BTreeMap ℕ ℕ) → AreLast base last (log_of (take i log)) → row.place ≡ base.place + i → row.number ≢ suc (last_of base last row.session) → IsTold due (suc (last_of base last row.session)) → IsMisnumbered base (log_of log) i due
  misnumbered due last are place apart told =
      let is = due-last base last (log_of (take i log)) row.session are ∙ ap (λ rows. due_number base rows row.session) (prefix-seen log_row_of log i) in
      record {
        before = seen-before;
        apart = subst (λ o. IsSomeAnd o (λ r. (r.place ≡ base.place + i) × (r.number ≢ due_number base (take i (log_of log)) r.session) × IsTold due (due_number base (take i (log_of log)) r.session)))
            (sym (prefix-next log_row_of log i row h at))
            (place, λ e. apart (e ∙ sym is), subst (IsTold due) is told);
      }

  -- what is out of order of the row
  pub row-out : (last : BTreeMap ℕ ℕ) → AreLast base last (log_of (take i log)) → (d : Disorder) → RowGives base.place i (last_of base last row.session) row.place row.number (Some d) → IsRowDisorder base (log_of log) d
  row-out last are (disorders.Place r due) wrong = subst (λ n. IsMisplaced base (log_of log) n due) (sym wrong.0) (misplaced due wrong.1 wrong.2)
  row-out last are (disorders.Number r due) wrong = subst (λ n. IsMisnumbered base (log_of log) n due) (sym wrong.0) (misnumbered due last are wrong.1 wrong.2 wrong.3)
  row-out last are (disorders.Mark session due) wrong = absurd wrong

  -- nothing is
  pub row-in : (last next : BTreeMap ℕ ℕ) → AreLast base last (log_of (take i log)) → RowGives base.place i (last_of base last row.session) row.place row.number None → IsNoted last next row.session row.number
      → AreOrdered base (log_of (take (i + 1) log)) × AreLast base next (log_of (take (i + 1) log))
  row-in last next are right noted =
      let size : length (log_of (take i log)) ≡ i = length-map (take i log) log_row_of ∙ length-take-le i log (omega (arith, h)) in
      subst (λ rows. AreOrdered base rows × AreLast base next rows) (prefix-more log_row_of log i row h at)
      (ordered-more base last next (log_of (take i log)) (log_row_of row) (record {
        ordered = before;
        are = are;
        place = right.0 ∙ ap (λ n. base.place + n) (sym size);
        number = right.1;
        is = noted;
      }))

-- all rows are in order
pub rows-all : {Z O : Type 0} (base : Base) (log : List (code_row.LogRow Z O)) (i : ℕ) (last : BTreeMap ℕ ℕ) → length log ≤ i → AreOrdered base (log_of (take i log)) × AreLast base last (log_of (take i log)) → AreOrdered base (log_of log) × AreLast base last (log_of log)
rows-all base log i last h before = subst (λ rows. AreOrdered base rows × AreLast base last rows) (prefix-all log_row_of log i h) before
