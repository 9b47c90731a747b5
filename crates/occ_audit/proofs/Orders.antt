-- How places, numbers and closing marks are counted along a log.
use Rattle.std.proofs.Common.{◌≡◌, ℕ, zero, suc, ◌+◌, ◌<◌, ◌≤◌, Bool, true, false, cond, List, [], ◌∷◌, ◌++◌, length, get_or, drop, Option, None, Some, refl, sym, ap, subst, ◌∙◌, arith, add-one, map, filter, unwrap_or, ◌==◌, BTreeMap, nat_cmp, is_eq}
use Rattle.occ_audit.proofs.Common.{decided, lookup, FinMap, find, get-entries, unsigned_tied, unsigned_Decides, LogRow, Base, Counts, numbers, last_folded, drop_at, AreNumbered, AreClosed, AreLast, last_of, log_row_of, log_of, Iff, of_cond, via}
use Rattle.std.specs.FinMap as finite
use Rattle.std.specs.BTreeMap.{get}
use Rattle.occ_book.specs.Marks.{mark_at, marks_listed}
use Rattle.occ_sets.specs.declared.log_rows.LogRow as code_row

abbrev pub places : List LogRow → List ℕ
places log = map (λ row. row.place) log

-- The numbers of a session count on from a first one where those that are left count on from its last.
pub record Counted (first : ℕ) (whole : List ℕ) (last : ℕ) (left : List ℕ) : Type 0 where
  pub counts : Iff (Counts (suc first) whole) (Counts (suc last) left)
  pub counted : last + length left ≡ first + length whole

-- of each session, from its last one in a base on
abbrev pub AreCounted : Base → List LogRow → List LogRow → BTreeMap ℕ ℕ → Type 0
AreCounted base whole left last = (session : ℕ) → Counted (last_folded base session) (numbers session whole) (last_of base last session) (numbers session left)

pub numbers-cons : (session : ℕ) (row : LogRow) (left : List LogRow) → numbers session (row ∷ left) ≡ cond (row.session == session) (row.number ∷ numbers session left) (numbers session left)
numbers-cons session row left = of_cond (map (λ r. r.number)) (row.session == session) (row ∷ filter (λ r. r.session == session) left) (filter (λ r. r.session == session) left)

-- what is kept of each session after a number of one
abbrev pub IsNoted : BTreeMap ℕ ℕ → BTreeMap ℕ ℕ → ℕ → ℕ → Type 0
IsNoted m n session number = (q : ℕ) → get nat_cmp n q ≡ cond (is_eq (nat_cmp session q)) (Some number) (get nat_cmp m q)

pub noted : (base : Base) (m n : BTreeMap ℕ ℕ) (session number q : ℕ) → IsNoted m n session number → last_of base n q ≡ cond (session == q) number (last_of base m q)
noted base m n session number q is =
    ap (λ o. unwrap_or o (last_folded base q)) (is q ∙ ap (λ b. cond b (Some number) (get nat_cmp m q)) (unsigned_tied session q))
    ∙ of_cond (λ o. unwrap_or o (last_folded base q)) (session == q) (Some number) (get nat_cmp m q)

-- a number may be one of the session's, and then it is the next
counted-one : (first last number : ℕ) (whole left : List ℕ) (b : Bool) → (b ≡ true → number ≡ suc last) → Counted first whole last (cond b (number ∷ left) left) → Counted first whole (cond b number last) left
counted-one first last number whole left false due c = c
counted-one first last number whole left true due c =
    let next = due refl in
    record {
      counts = via c.counts (λ h. subst (λ n. Counts (suc n) left) (sym next) h.1, λ h. (next, subst (λ n. Counts (suc n) left) next h));
      counted = let k = c.counted in omega arith;
    }

counted-more : (base : Base) (whole left : List LogRow) (row : LogRow) (m n : BTreeMap ℕ ℕ) → AreCounted base whole (row ∷ left) m → row.number ≡ suc (last_of base m row.session) → IsNoted m n row.session row.number → AreCounted base whole left n
counted-more base whole left row m n c due is session =
    let first = last_folded base session in
    let all = numbers session whole in
    subst (λ l. Counted first all l (numbers session left)) (sym (noted base m n row.session row.number session is))
    (counted-one first (last_of base m session) row.number all (numbers session left) (row.session == session)
    (λ e. due ∙ ap (λ s. suc (last_of base m s)) ((unsigned_Decides row.session session).0 e))
    (subst (Counted first all (last_of base m session)) (numbers-cons session row left) (c session)))

-- at first nothing is kept of any session
pub counted-none : (base : Base) (whole : List LogRow) (last : BTreeMap ℕ ℕ) → last.entries ≡ [] → AreCounted base whole whole last
counted-none base whole last none session =
    subst (λ l. Counted (last_folded base session) (numbers session whole) l (numbers session whole))
    (sym (ap (λ es. unwrap_or (lookup (λ x. is_eq (nat_cmp session x)) es) (last_folded base session)) none))
    (record { counts = (λ h. h, λ h. h); counted = refl })

-- and at last all are counted
pub counted-all : (base : Base) (whole left : List LogRow) (last : BTreeMap ℕ ℕ) → left ≡ [] → AreCounted base whole left last → AreNumbered base whole × AreLast base last whole
counted-all base whole left last nothing c = (
  λ session. (c session).counts.1 (subst (λ l. Counts (suc (last_of base last session)) (numbers session l)) (sym nothing) tt),
  λ session.
      let none_left = ap (λ l. length (numbers session l)) nothing in
      let all = (c session).counted in
      omega arith,
)

-- a mark that is found among those of so many sessions from one on is of one of these
found-within : (marks : FinMap nat_cmp ℕ) (first count session mark : ℕ) → find nat_cmp session (marks_listed marks first count) ≡ Some mark → (first ≤ session) × (session < first + count)
found-within marks first zero session mark e = cc
found-within marks first (suc count) session mark e = decided (session == first)
    (λ here. let same : session ≡ first = (unsigned_Decides session first).0 here in (omega arith, omega arith))
    (λ apart. let later = found-within marks (suc first) count session mark (skipped (finite.get marks first) apart e) in (omega (arith, later.0), omega (arith, later.1)))
  where
    skipped : (slot : Option ℕ) → (session == first) ≡ false → find nat_cmp session (mark_at first slot ++ marks_listed marks (suc first) count) ≡ Some mark → find nat_cmp session (marks_listed marks (suc first) count) ≡ Some mark
    skipped None apart f = f
    skipped (Some other) apart f =
        sym (ap (λ b. cond b (Some other) (find nat_cmp session (marks_listed marks (suc first) count))) (unsigned_tied session first ∙ apart)) ∙ f

-- each mark is of one of the sessions, where the marks in their order are those of the sessions in theirs
mark-within : (marks : FinMap nat_cmp ℕ) (sessions session mark : ℕ) → finite.entries marks ≡ marks_listed marks 1 sessions → finite.get marks session ≡ Some mark → (1 ≤ session) × (session ≤ sessions)
mark-within marks sessions session mark listed at =
    let h = found-within marks 1 sessions session mark (ap (find nat_cmp session) (sym listed) ∙ sym (get-entries marks session) ∙ at) in
    (h.0, omega (arith, h.1))

-- the marks of the sessions up to one are due
abbrev pub AreClosedTo : ℕ → Base → FinMap nat_cmp ℕ → BTreeMap ℕ ℕ → Type 0
AreClosedTo to base marks last = (session mark : ℕ) → session ≤ to → finite.get marks session ≡ Some mark → mark ≡ suc (last_of base last session)

pub closed-none : (base : Base) (marks : FinMap nat_cmp ℕ) (sessions : ℕ) (last : BTreeMap ℕ ℕ) → finite.entries marks ≡ marks_listed marks 1 sessions → AreClosedTo 0 base marks last
closed-none base marks sessions last listed session mark h at =
    let within = mark-within marks sessions session mark listed at in absurd (omega (arith, within.0))

pub closed-all : (base : Base) (marks : FinMap nat_cmp ℕ) (sessions to : ℕ) (last : BTreeMap ℕ ℕ) → finite.entries marks ≡ marks_listed marks 1 sessions → sessions ≤ to → AreClosedTo to base marks last → AreClosed base marks last
closed-all base marks sessions to last listed all closed session mark at =
    let within = mark-within marks sessions session mark listed at in closed session mark (omega (arith, within.1)) at

module _ {Z O : Type 0} (base : Base) (whole : List LogRow) (log : List (code_row.LogRow Z O)) (i : ℕ) (row : code_row.LogRow Z O) (m : BTreeMap ℕ ℕ) (h : i < length log) (at : row ≡ get_or log i row) (c : AreCounted base whole (log_of (drop i log)) m) where
  here : AreCounted base whole (log_row_of row ∷ log_of (drop (i + 1) log)) m
  here = subst (λ rows. AreCounted base whole (log_of rows) m) (drop_at log i row row h at) c

  -- one more row is counted
  pub rows-counted : (n : BTreeMap ℕ ℕ) → row.number ≡ suc (last_of base m row.session) → IsNoted m n row.session row.number → AreCounted base whole (log_of (drop (i + 1) log)) n
  rows-counted n due is = counted-more base whole (log_of (drop (i + 1) log)) (log_row_of row) m n here due is

  -- a number that is not due
  pub rows-uncounted : (row.number ≡ suc (last_of base m row.session) → ⊥) → AreNumbered base whole → ⊥
  rows-uncounted undue numbered =
      let left = log_of (drop (i + 1) log) in
      let own = ap (λ b. cond b (row.number ∷ numbers row.session left) (numbers row.session left)) ((unsigned_Decides row.session row.session).1 refl) in
      undue (subst (Counts (suc (last_of base m row.session))) (numbers-cons row.session (log_row_of row) left ∙ own) ((here row.session).counts.0 (numbered row.session))).0

-- closing marks are due by what is kept of the sessions just where they are so by the log
pub closed-alike : (base : Base) (marks : FinMap nat_cmp ℕ) (last : BTreeMap ℕ ℕ) (log : List LogRow) → AreLast base last log → Iff (AreClosed base marks last) ((session mark : ℕ) → finite.get marks session ≡ Some mark → mark ≡ last_folded base session + length (numbers session log) + 1)
closed-alike base marks last log are = (
  λ closed session mark at. rw add-one (closed session mark at ∙ ap suc (are session)),
  λ closed session mark at. rw add-one at (closed session mark at) ∙ ap suc (sym (are session)),
)
