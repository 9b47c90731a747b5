-- What a finding says of a log: that it is the first of all that its audit says no for. All of it is our own choice, over the claim that is audited.
use Rattle.std.specs.Prelude.{◌≡◌, ◌≢◌, ℕ, suc, ◌+◌, ◌<◌, ◌^◌, true, List, take, length, slice_get, Option, Some, SomeIff, IsSomeAnd}
use Rattle.std.specs.declared.cmp.Ordering.TheVariants.{Less}
use Rattle.std.specs.Ordering.{nat_cmp}
use Rattle.std.specs.FinMap.{FinMap, get}
use Rattle.occ_types.specs.Object.{Object, object_cmp}
use Rattle.occ_types.specs.PlainData.{object_of}
use Rattle.occ_model.specs.State.{State, Answer, answer}
use Rattle.occ_model.specs.Log.{AreAnswers, Base, Explained, InOrder, LogRow, is_committed, last_folded, numbers, serial, settled}
use Rattle.occ_sets.specs.PlainSets.{answer_of}
use Rattle.occ_audit.specs.Order.{ArePlaced, AreNumbered}
use Rattle.occ_audit.specs.declared.findings.Disorder.{Disorder}
use Rattle.occ_audit.specs.declared.findings.Disorder.TheVariants as disorders
use Rattle.occ_audit.specs.declared.findings.Finding as code_finding
use Rattle.occ_audit.specs.declared.findings.Finding.TheVariants as findings

-- a number that is told, unless it is too great for 64 bits
abbrev pub IsTold : Option ℕ → ℕ → Type 0
IsTold told number = SomeIff told (number < 2 ^ 64) number

-- the number that is due in a session behind some rows
abbrev pub due_number : Base → List LogRow → ℕ → ℕ
due_number base rows session = suc (last_folded base session + length (numbers session rows))

-- rows that follow a base in order
pub record AreOrdered (base : Base) (rows : List LogRow) : Type 0 where
  pub placed : ArePlaced base.place rows
  pub numbered : AreNumbered base rows

-- the rows before one are in order, and the place of that one isn't the next
pub record IsMisplaced (base : Base) (log : List LogRow) (row : ℕ) (due : Option ℕ) : Type 0 where
  pub before : AreOrdered base (take row log)
  pub apart : IsSomeAnd (slice_get log row) (λ at. at.place ≢ base.place + row)
  pub told : IsTold due (base.place + row)

-- the rows before one are in order, and so is its place, but its number isn't the next of its session
pub record IsMisnumbered (base : Base) (log : List LogRow) (row : ℕ) (due : Option ℕ) : Type 0 where
  pub before : AreOrdered base (take row log)
  pub apart : IsSomeAnd (slice_get log row) (λ at. (at.place ≡ base.place + row) × (at.number ≢ due_number base (take row log) at.session) × IsTold due (due_number base (take row log) at.session))

-- all rows are in order, and so are the marks of the sessions before one, but that of this one isn't its next number
pub record IsMismarked (base : Base) (marks : FinMap nat_cmp ℕ) (log : List LogRow) (session : ℕ) (due : Option ℕ) : Type 0 where
  pub rows : AreOrdered base log
  pub before : (other mark : ℕ) → other < session → get marks other ≡ Some mark → mark ≡ due_number base log other
  pub apart : IsSomeAnd (get marks session) (λ mark. mark ≢ due_number base log session)
  pub told : IsTold due (due_number base log session)

-- the first that is out of order
abbrev pub IsDisorder : Base → FinMap nat_cmp ℕ → List LogRow → Disorder → Type 0
IsDisorder base marks log (disorders.Place row due) = IsMisplaced base log row due
IsDisorder base marks log (disorders.Number row due) = IsMisnumbered base log row due
IsDisorder base marks log (disorders.Mark session due) = IsMismarked base marks log session due

-- The rows before one are explained, and so are its reads before one; but it is committed, and serial replay of the rows before it has another answer to that read.
pub record IsWrongRead (state : State) (log : List LogRow) (row read : ℕ) (replayed : Answer) : Type 0 where
  pub before : Explained state (take row log)
  pub apart : IsSomeAnd (slice_get log row) (λ at.
      (is_committed at.standing ≡ true)
      × AreAnswers (serial state (take row log)) (take read at.reads)
      × IsSomeAnd (slice_get at.reads read) (λ seen. (seen.1 ≢ replayed) × (replayed ≡ answer seen.0 (serial state (take row log)))))

-- an object of which two states have different rows, and the first one
pub record IsFirstApart (one other : State) (object : Object) : Type 0 where
  pub apart : get one object ≢ get other object
  pub before : (p : Object) → object_cmp p object ≡ Less → get one p ≡ get other p

-- the first of all that the audit of a log and of the tables says no for
abbrev pub IsFinding : {Z : Type 0} → Base → FinMap nat_cmp ℕ → State → List LogRow → code_finding.Finding Z → Type 0
IsFinding base marks table log (findings.Order disorder) = IsDisorder base marks log disorder
IsFinding base marks table log (findings.Read wrong) =
    InOrder base marks log × IsWrongRead base.state log wrong.row wrong.read (answer_of wrong.replayed)
IsFinding base marks table log (findings.Object apart) =
    InOrder base marks log
    × Explained base.state log
    × IsFirstApart (settled table log) (serial base.state log) (object_of apart.object)
    × (apart.settled ≡ get (settled table log) (object_of apart.object))
    × (apart.replayed ≡ get (serial base.state log) (object_of apart.object))
