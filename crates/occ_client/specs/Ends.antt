-- How an open transaction ends: by a serial end where no transaction is active, and else step by step (Kung and Robinson, sections 4 and 5).
use Rattle.std.specs.Prelude.{◌≡◌, ℕ, Bool, true, false, nat_lt, List, [], ◌∷◌, length, None, Some, Result, Ok, Err}
use Rattle.occ_types.specs.Object.{Object}
use Rattle.occ_types.specs.declared.fault.Fault.{Fault}
use Rattle.occ_model.specs.Log.{rest}
use Rattle.occ_model.specs.World.{World, latest, active_count}
use Rattle.occ_model.specs.Event.{Request, Enter, Decide, WriteOne, Finish, BackUp, SerialEnd, Reply, Refused, Entered, Decided, Wrote, NoMore, Finished, BackedUp, EndedBack}
use Rattle.occ_model.specs.Step.{Step}
use Rattle.occ_model.specs.declared.verdict.Verdict.{Verdict}
use Rattle.occ_model.specs.declared.verdict.Verdict.TheVariants as verdicts
use Rattle.occ_sets.specs.Sets.{Copied}

abbrev pub is_refusal : Reply → Bool
is_refusal (Refused fault) = true
is_refusal reply = false

-- single writes of a session's transaction, one after another
abbrev pub WritesEach : ℕ → List Object → World → World → Type 0
WritesEach session [] old new = new ≡ old
WritesEach session (object ∷ objects) old new = (next : World) × Step old (WriteOne session) (Wrote object) next × WritesEach session objects next new

-- the next single write, by whether one was left
abbrev pub WritesNext : ℕ → World → Result Bool Fault → World → Type 0
WritesNext session old (Ok true) new = (object : Object) × Step old (WriteOne session) (Wrote object) new
WritesNext session old (Ok false) new = Step old (WriteOne session) NoMore new
WritesNext session old (Err fault) new = Step old (WriteOne session) (Refused fault) new

-- the write phase finishes, or stops at a single write that is refused
abbrev pub FinishesOrStops : ℕ → World → Reply → World → Type 0
FinishesOrStops session old (Refused fault) new = Step old (WriteOne session) (Refused fault) new
FinishesOrStops session old (Finished tn) new = Step old (Finish session) (Finished tn) new
FinishesOrStops session old reply new = ⊥

-- a write phase, or what is left of one
pub record WritesOut (session : ℕ) (old : World) (reply : Reply) (new : World) : Type 0 where
  pub objects : List Object
  pub last : World
  pub each : WritesEach session objects old last
  pub ends : FinishesOrStops session last reply new

-- how many single writes of the session's transaction are left
abbrev pub writes_left : World → ℕ → ℕ
writes_left world session = elim (latest session world.log) [ None ↦ 0 | Some row ↦ length (rest row) ]

-- what follows the decision
abbrev pub Follows : Verdict → ℕ → World → Reply → World → Type 0
Follows verdicts.Commit session old reply new = WritesOut session old reply new
Follows (verdicts.BackUp cause) session old reply new = (number : ℕ) × Step old (BackUp session) (BackedUp number) new × (reply ≡ EndedBack cause)

-- the transaction enters, is decided and ends, or is refused at its entry; it has stopped where it entered and a single write is refused
pub data EndsBySteps (session : ℕ) (copy : Copied) (old : World) (stopped : Bool) (reply : Reply) (new : World) : Type 0 where
  outside : (fault : Fault) → reply ≡ Refused fault → stopped ≡ false → Step old (Enter session (Request copy.number copy.start copy.writes)) reply new → EndsBySteps session copy old stopped reply new
  inside : (place : ℕ) (entered decided : World) (verdict : Verdict) → stopped ≡ is_refusal reply
      → Step old (Enter session (Request copy.number copy.start copy.writes)) (Entered place place) entered
      → Step entered (Decide session) (Decided verdict) decided → Follows verdict session decided reply new → EndsBySteps session copy old stopped reply new

-- a serial end where no transaction is active
abbrev pub EndsBeside : Bool → ℕ → Copied → World → Bool → Reply → World → Type 0
EndsBeside true session copy old stopped reply new = EndsBySteps session copy old stopped reply new
EndsBeside false session copy old stopped reply new = Step old (SerialEnd session (Request copy.number copy.start copy.writes)) reply new × (stopped ≡ false)

abbrev pub Ends : ℕ → Copied → World → Bool → Reply → World → Type 0
Ends session copy old stopped reply new = EndsBeside (nat_lt 0 (active_count old)) session copy old stopped reply new
