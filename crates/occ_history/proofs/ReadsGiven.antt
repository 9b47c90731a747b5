-- What was answered to a transaction is what its read phase has.
use Rattle.std.proofs.Common.{◌≡◌, ℕ, ◌+◌, ◌≤◌, ◌⊎◌, ⊎_elim, Bool, true, false, not, cond, List, [], ◌∷◌, ◌++◌, Option, None, Some, refl, sym, ap, subst, ◌∙◌, arith}
use Rattle.std.specs.Prelude.{◌==◌, is_some}
use Rattle.std.proofs.lemmas.Bool.{eqb-true, eq-eqb}
use Rattle.std.specs.Ordering.{nat_cmp, eq_by_cmp}
use Rattle.std.specs.Cmp.{nat_cmp_total, Equal-is, tied_itself}
use Rattle.std.specs.FinMap as finite
use Rattle.std.specs.FinMap.{FinMap}
use Rattle.occ_types.specs.Question.{Question}
use Rattle.occ_types.specs.declared.fault.Fault.{Fault}
use Rattle.occ_model.specs.State.{Observation, answer}
use Rattle.occ_model.specs.World.{World, ReadPhase, phase_cmp, due, entered_count, reads_under, has_mark}
use Rattle.occ_model.specs.Event.{Event, Read, Forget, Enter, Decide, WriteOne, Finish, BackUp, SerialEnd, RunAlone, Checkpoint, Refused, Answered, Forgotten}
use Rattle.occ_model.specs.Invariant.{Invariant}
use Rattle.occ_model.proofs.Tests.{decided, clash, and_true, both_true}
use Rattle.occ_model.proofs.Phases.{phase_cmp_total, phase_cmp-IsAntisymmetric}
use Rattle.occ_model.proofs.Polls.{last_is}
use Rattle.occ_model.proofs.Orders.{tied, apart}
use Rattle.occ_history.specs.History.{Happened}
use Rattle.occ_history.specs.Orders.{is_this, noted, given_after, given, enters}

-- an event more
pub given-more : (session number : ℕ) (so_far : List Observation) (log : List Happened) (happened : Happened)
    → given_after session number so_far (log ++ happened ∷ []) ≡ noted session number (given_after session number so_far log) happened.0 happened.1
given-more session number so_far [] happened = refl
given-more session number so_far (first ∷ others) happened = given-more session number (noted session number so_far first.0 first.1) others happened

cond-same : {A : Type 0} (b : Bool) (x : A) → cond b x x ≡ x
cond-same true x = refl
cond-same false x = refl

-- a refusal gives nothing
pub noted-refused : (session number : ℕ) (so_far : List Observation) (event : Event) (fault : Fault) → noted session number so_far event (Refused fault) ≡ so_far
noted-refused session number so_far (Read s n start question) fault = cond-same (is_this s n session number) so_far
noted-refused session number so_far (Forget s n) fault = cond-same (is_this s n session number) so_far
noted-refused session number so_far (Enter s item) fault = refl
noted-refused session number so_far (Decide s) fault = refl
noted-refused session number so_far (WriteOne s) fault = refl
noted-refused session number so_far (Finish s) fault = refl
noted-refused session number so_far (BackUp s) fault = refl
noted-refused session number so_far (SerialEnd s item) fault = refl
noted-refused session number so_far (RunAlone s n operations) fault = refl
noted-refused session number so_far Checkpoint fault = refl

pub enters-refused : (event : Event) (fault : Fault) → enters event (Refused fault) ≡ false
enters-refused (Read s n start question) fault = refl
enters-refused (Forget s n) fault = refl
enters-refused (Enter s item) fault = refl
enters-refused (Decide s) fault = refl
enters-refused (WriteOne s) fault = refl
enters-refused (Finish s) fault = refl
enters-refused (BackUp s) fault = refl
enters-refused (SerialEnd s item) fault = refl
enters-refused (RunAlone s n operations) fault = refl
enters-refused Checkpoint fault = refl

-- An open session's read phases, from the number that is due on, have what was answered.
abbrev pub AreGiven : List Happened → World → Type 0
AreGiven log world = (session number : ℕ) → has_mark world session ≡ false → due world session ≤ number → reads_under world session number ≡ given session number log

-- no fewer entered, so the number that is due is no smaller
pub due_up : (old new : World) → Invariant old → Invariant new → (session : ℕ) → entered_count old session ≤ entered_count new session → due old session ≤ due new session
due_up old new was is session up = let a = last_is old session was in let b = last_is new session is in omega arith

-- A step at which no read phase and no mark changes, and that answers no read.
pub given_still : (log : List Happened) (happened : Happened) (old new : World) → AreGiven log old → Invariant old → Invariant new
    → ((session number : ℕ) → reads_under new session number ≡ reads_under old session number)
    → ((session : ℕ) → has_mark new session ≡ has_mark old session)
    → ((session : ℕ) → entered_count old session ≤ entered_count new session)
    → ((session number : ℕ) (so_far : List Observation) → noted session number so_far happened.0 happened.1 ≡ so_far)
    → AreGiven (log ++ happened ∷ []) new
given_still log happened old new are was is reads marks up noted_same session number unmarked from =
    let d = due_up old new was is session (up session) in
    reads session number
    ∙ are session number (sym (marks session) ∙ unmarked) (omega arith)
    ∙ sym (given-more session number [] log happened ∙ noted_same session number (given session number log))

-- whether two keys are one, as the map tests it and as a history does
key_same : (s n t m : ℕ) → is_this s n t m ≡ true → eq_by_cmp phase_cmp (t, m) (s, n) ≡ true
key_same s n t m e =
    let parts = and_true (s == t) (n == m) e in
    let a = eqb-true s t parts.0 in
    let b = eqb-true n m parts.1 in
    subst (λ (k : ℕ × ℕ). eq_by_cmp phase_cmp (t, m) k ≡ true) (λ i. (sym a i, sym b i)) (self (t, m))
  where
    self : (k : ℕ × ℕ) → eq_by_cmp phase_cmp k k ≡ true
    self k = (Equal-is (phase_cmp k k)).1 (tied_itself phase_cmp_total k)

key_other : (s n t m : ℕ) → is_this s n t m ≡ false → eq_by_cmp phase_cmp (t, m) (s, n) ≡ false
key_other s n t m e = decided (eq_by_cmp phase_cmp (t, m) (s, n))
    (λ same. let k = phase_cmp-IsAntisymmetric (t, m) (s, n) ((Equal-is (phase_cmp (t, m) (s, n))).0 same) in
    clash (is_this s n t m) (this s n t m (ap (λ (p : ℕ × ℕ). p.0) (sym k)) (ap (λ (p : ℕ × ℕ). p.1) (sym k))) e)
    (λ other. other)
  where
    this : (s n t m : ℕ) → s ≡ t → n ≡ m → is_this s n t m ≡ true
    this s n t m a b = both_true (s == t) (n == m) (eq-eqb s t a) (eq-eqb n m b)

-- the reads that a read phase has
abbrev phase_reads : Option ReadPhase → List Observation
phase_reads o = elim o as (λ _. List Observation) [ None ↦ [] | Some phase ↦ phase.reads ]

pub given_read : (log : List Happened) (old : World) (s n start : ℕ) (question : Question) → AreGiven log old
    → (new : World) → ((session : ℕ) → has_mark new session ≡ has_mark old session) → ((session : ℕ) → due new session ≡ due old session)
    → new.phases ≡ finite.insert old.phases (s, n) (record { start = start; reads = reads_under old s n ++ (question, answer question old.table) ∷ [] })
    → AreGiven (log ++ (Read s n start question, Answered (answer question old.table)) ∷ []) new
given_read log old s n start question are new marks dues phases session number unmarked from =
    let before = are session number (sym (marks session) ∙ unmarked) (subst (λ d. d ≤ number) (dues session) from) in
    let phase : ReadPhase = record { start = start; reads = reads_under old s n ++ (question, answer question old.table) ∷ [] } in
    let at : finite.get new.phases (session, number) ≡ cond (eq_by_cmp phase_cmp (session, number) (s, n)) (Some phase) (finite.get old.phases (session, number)) =
    ap (λ m. finite.get m (session, number)) phases ∙ finite.get-insert phase_cmp_total old.phases (s, n) phase (session, number) in
    decided (is_this s n session number)
    (λ same.
    let k = key_same s n session number same in
    let parts = and_true (s == session) (n == number) same in
    let a = eqb-true s session parts.0 in
    let b = eqb-true n number parts.1 in
    ap phase_reads (at ∙ ap (λ c. cond c (Some phase) (finite.get old.phases (session, number))) k)
    ∙ (λ i. reads_under old (a i) (b i) ++ (question, answer question old.table) ∷ [])
    ∙ ap (λ l. l ++ (question, answer question old.table) ∷ []) before
    ∙ sym (given-more session number [] log (Read s n start question, Answered (answer question old.table)) ∙ ap (λ c. cond c (given session number log ++ (question, answer question old.table) ∷ []) (given session number log)) same))
    (λ other.
    ap phase_reads (at ∙ ap (λ c. cond c (Some phase) (finite.get old.phases (session, number))) (key_other s n session number other))
    ∙ before
    ∙ sym (given-more session number [] log (Read s n start question, Answered (answer question old.table)) ∙ ap (λ c. cond c (given session number log ++ (question, answer question old.table) ∷ []) (given session number log)) other))

pub given_forget : (log : List Happened) (old : World) (s n : ℕ) → AreGiven log old → AreGiven (log ++ (Forget s n, Forgotten (finite.contains_key old.phases (s, n))) ∷ []) (record old { phases = finite.remove old.phases (s, n) })
given_forget log old s n are session number unmarked from =
    let before = are session number unmarked from in
    let had = finite.contains_key old.phases (s, n) in
    let at : finite.get (finite.remove old.phases (s, n)) (session, number) ≡ cond (eq_by_cmp phase_cmp (session, number) (s, n)) None (finite.get old.phases (session, number)) =
    finite.get-remove phase_cmp_total old.phases (s, n) (session, number) in
    decided (is_this s n session number)
    (λ same.
    let parts = and_true (s == session) (n == number) same in
    let a = eqb-true s session parts.0 in
    let b = eqb-true n number parts.1 in
    let here : phase_reads (finite.get old.phases (s, n)) ≡ given session number log = (λ i. reads_under old (a i) (b i)) ∙ before in
    ap phase_reads (at ∙ ap (λ c. cond c None (finite.get old.phases (session, number))) (key_same s n session number same))
    ∙ sym (given-more session number [] log (Forget s n, Forgotten had) ∙ ap (λ c. cond c (cond had [] (given session number log)) (given session number log)) same ∙ gone (finite.get old.phases (s, n)) (given session number log) here))
    (λ other.
    ap phase_reads (at ∙ ap (λ c. cond c None (finite.get old.phases (session, number))) (key_other s n session number other))
    ∙ before
    ∙ sym (given-more session number [] log (Forget s n, Forgotten had) ∙ ap (λ c. cond c (cond had [] (given session number log)) (given session number log)) other))
  where
    gone : (o : Option ReadPhase) (so_far : List Observation) → phase_reads o ≡ so_far → cond (is_some o) [] so_far ≡ []
    gone None so_far e = sym e
    gone (Some phase) so_far e = refl

-- A session closes: its read phases are gone, and it has a mark.
pub given_close : (log : List Happened) (happened : Happened) (old : World) (s mark : ℕ) → AreGiven log old
    → ((session number : ℕ) (so_far : List Observation) → noted session number so_far happened.0 happened.1 ≡ so_far)
    → AreGiven (log ++ happened ∷ []) (record old { marks = finite.insert old.marks s mark; phases = finite.retain_keys old.phases (λ p. not (p.0 == s)) })
given_close log happened old s mark are noted_same session number unmarked from = decided (session == s)
    (λ same. let e = eqb-true session s same in
    clash (is_some (finite.get (finite.insert old.marks s mark) session))
    (ap is_some (finite.get-insert nat_cmp_total old.marks s mark session ∙ ap (λ c. cond c (Some mark) (finite.get old.marks session)) (subst (λ k. eq_by_cmp nat_cmp session k ≡ true) e (tied session))))
    unmarked)
    (λ other.
    let ne : session ≡ s → ⊥ = λ e. clash (session == s) (eq-eqb session s e) other in
    let unmarked' : has_mark old session ≡ false = ap is_some (sym (finite.get-insert nat_cmp_total old.marks s mark session ∙ ap (λ c. cond c (Some mark) (finite.get old.marks session)) (apart session s ne))) ∙ unmarked in
    ap phase_reads (finite.get-retain_keys old.phases (λ p. not (p.0 == s)) (session, number) (λ y e. ap (λ (p : ℕ × ℕ). not (p.0 == s)) (sym (phase_cmp-IsAntisymmetric (session, number) y e)))
    ∙ ap (λ b. cond (not b) (finite.get old.phases (session, number)) None) other)
    ∙ are session number unmarked' from
    ∙ sym (given-more session number [] log happened ∙ noted_same session number (given session number log)))

-- A row comes: the read phase of its number is gone, and the next number of its session is due.
pub given_comes : (log : List Happened) (happened : Happened) (old new : World) (s n : ℕ) → AreGiven log old
    → ((session : ℕ) → has_mark new session ≡ has_mark old session)
    → ((session : ℕ) → due old session ≤ due new session) → n + 1 ≤ due new s
    → (new.phases ≡ finite.remove old.phases (s, n)) ⊎ (new.phases ≡ old.phases)
    → ((session number : ℕ) (so_far : List Observation) → noted session number so_far happened.0 happened.1 ≡ so_far)
    → AreGiven (log ++ happened ∷ []) new
given_comes log happened old new s n are marks dues next phases noted_same session number unmarked from =
    let up = dues session in
    let reads : reads_under new session number ≡ reads_under old session number = ⊎_elim
    (λ removed. decided (is_this s n session number)
    (λ same.
    let parts = and_true (s == session) (n == number) same in
    let a = eqb-true s session parts.0 in
    let b = eqb-true n number parts.1 in
    let next' : number + 1 ≤ due new session = subst (λ (k : ℕ × ℕ). k.1 + 1 ≤ due new k.0) (λ i. (a i, b i)) next in
    absurd (omega arith))
    (λ other.
    ap (λ (m : FinMap phase_cmp ReadPhase). phase_reads (finite.get m (session, number))) removed
    ∙ ap phase_reads (finite.get-remove phase_cmp_total old.phases (s, n) (session, number) ∙ ap (λ c. cond c None (finite.get old.phases (session, number))) (key_other s n session number other))))
    (λ kept. ap (λ (m : FinMap phase_cmp ReadPhase). phase_reads (finite.get m (session, number))) kept)
    phases in
    reads
    ∙ are session number (sym (marks session) ∙ unmarked) (omega arith)
    ∙ sym (given-more session number [] log happened ∙ noted_same session number (given session number log))
