-- A run, from the text of a workload to what it writes (our own choice).
use Rattle.std.specs.Prelude.{◌≡◌, ◌⊎◌, ◌<◌, ◌^◌, ◌-◌, ℕ, Bool, true, false, List, [], map, length, Option, Result, Ok, Err}
use Rattle.std.specs.List.{list_any, flat_map}
use Rattle.std.specs.Io.KnownBytes.{IsAtEnd}
use Rattle.occ_types.specs.Schema.{Schema}
use Rattle.occ_model.specs.Invariant.{Invariant}
use Rattle.occ_model.specs.Step.{Run}
use Rattle.occ_model.specs.World as model
use Rattle.occ_model.specs.World.{World}
use Rattle.occ_history.specs.History.{Happened}
use Rattle.occ_store.specs.Names.{Named, opened_as}
use Rattle.occ_text.specs.declared.headers.Limits.{Limits}
use Rattle.occ_text.specs.declared.trouble.Trouble.{Trouble}
use Rattle.occ_text.specs.declared.trouble.Trouble.TheVariants.{Read, Write, Memory, Malformed}
use Rattle.occ_text.specs.declared.faults.ReadFault.{ReadFault}
use Rattle.occ_text.specs.declared.faults.WriteFault.{WriteFault}
use Rattle.occ_text.specs.declared.faults.WriteFault.TheVariants as write_faults
use Rattle.occ_text.specs.Languages.{Position, point, Took, Stopped, Torn, Uncounted, FailsFrom}
use Rattle.occ_text.specs.Line.{lines_text}
use Rattle.occ_run.specs.declared.runs.Ran as code
use Rattle.occ_run.specs.declared.runs.Ran.TheVariants.{Audit, GaveUp}
use Rattle.occ_run.specs.declared.workloads.Settings.{Settings}
use Rattle.occ_run.specs.declared.workloads.Workload as workloads
use Rattle.occ_run.specs.TransactionLines.{Transaction}
use Rattle.occ_run.specs.Workloads.{Version, Transactions, workload_lines, loads}
use Rattle.occ_run.specs.Plans.{Planned, planned, plan_of}
use Rattle.occ_run.specs.Clients.{ClientView, AllPlayed, is_starved, gave_up}
use Rattle.occ_run.specs.Reports.{book_at, report_lines}

-- The store of a run at its end, as the lock shows it: all that happened since it was opened is a history of the model, and led to it. It has the law, and the tables, sessions and window with which it was opened. In that history each session handed in what its transactions ask for, and closed; of each is told how many of these had an operation that was refused.
pub record RunState (named : Named) (retries : ℕ) (plans : List Planned) : Type 0 where
  pub world : World
  pub story : List Happened
  pub ran : Run (opened_as named) story world
  pub law : Invariant world
  pub opened_so : world.settings ≡ named.settings
  pub refused : List ℕ
  pub each : length refused ≡ named.settings.sessions
  pub played : AllPlayed named retries plans story 1 refused

-- what is written of it
abbrev pub report_of : {named : Named} {retries : ℕ} {plans : List Planned} → Bool → Limits → RunState named retries plans → List ℕ
report_of whole limits state = lines_text (report_lines whole (book_at limits state.world) state.refused)

-- the text of a workload, and the transactions that it has
pub record IsWorkload (before : Option (List ℕ)) (settings : Settings) (schema : Schema) (plans : List Planned) : Type 0 where
  pub transactions : List Transaction
  pub rest : Position
  pub took : Took loads Version (Transactions settings schema transactions) (point before 0) rest (workload_lines settings schema transactions)
  pub ended : IsAtEnd rest.left
  pub named : plans ≡ map (planned schema) transactions

-- what reading a workload leaves, by its outcome
module _ {Z : Type 0} where
  abbrev pub ReadGives : Option (List ℕ) → Result (workloads.Workload Z) ReadFault → Option (List ℕ) → Type 0
  ReadGives before (Ok workload) after = IsWorkload before workload.settings workload.schema (map plan_of workload.plans.items)
  ReadGives before (Err fault) after = FailsFrom loads fault Version (point before 0) after

-- how its store is opened
abbrev pub opened_by : Settings → Schema → model.Settings
opened_by settings schema = record { schema = schema; sessions = settings.limits.sessions; keep = settings.limits.keep }

module _ (whole : Bool) (Wrote WroteFront : List ℕ → Type 0) where
  -- what writing it all leaves, by its outcome
  abbrev pub ReportedAs : Named → ℕ → List Planned → Limits → Result Bool WriteFault → Type 0
  ReportedAs named retries plans limits (Ok holds) = (state : RunState named retries plans) × (holds ≡ true) × Wrote (report_of whole limits state)
  ReportedAs named retries plans limits (Err write_faults.Write) = (state : RunState named retries plans) × WroteFront (report_of whole limits state)
  ReportedAs named retries plans limits (Err write_faults.Memory) = WroteFront [] ⊎ ((state : RunState named retries plans) × WroteFront (report_of whole limits state))

module _ {Z : Type 0} where
  -- No client gave up where a run audits, and those gave up whom it names. Where one wanted memory, it does neither.
  abbrev pub OrderGives : List ClientView → Result (code.Ran Z) Trouble → Type 0
  OrderGives clients (Ok (Audit holds)) = (list_any is_starved clients ≡ false) × (flat_map gave_up clients ≡ [])
  OrderGives clients (Ok (GaveUp sessions)) = (list_any is_starved clients ≡ false) × (flat_map gave_up clients ≡ sessions.items)
  OrderGives clients (Err trouble) = Unit {0}

module _ {Z : Type 0} (whole : Bool) (Wrote WroteFront : List ℕ → Type 0) where
  -- what running a workload in a store leaves, by its outcome
  abbrev pub RunEnds : Named → ℕ → List Planned → Limits → Result (code.Ran Z) Trouble → Type 0
  RunEnds named retries plans limits (Ok (Audit holds)) = ReportedAs whole Wrote WroteFront named retries plans limits (Ok holds)
  RunEnds named retries plans limits (Ok (GaveUp sessions)) = (0 < length sessions.items) × Wrote []
  RunEnds named retries plans limits (Err Write) = ReportedAs whole Wrote WroteFront named retries plans limits (Err write_faults.Write)
  RunEnds named retries plans limits (Err Memory) = ReportedAs whole Wrote WroteFront named retries plans limits (Err write_faults.Memory)
  RunEnds named retries plans limits (Err Read) = ⊥
  RunEnds named retries plans limits (Err (Malformed number)) = ⊥

  -- the same of some store that was opened so
  abbrev pub OpensAs : model.Settings → ℕ → List Planned → Limits → Result (code.Ran Z) Trouble → Type 0
  OpensAs opened retries plans limits result = (named : Named) × (named.settings ≡ opened) × RunEnds named retries plans limits result

  -- what running the workload of a text leaves, in a store that was opened with its settings
  abbrev pub LoadEnds : Option (List ℕ) → Result (code.Ran Z) Trouble → Type 0
  LoadEnds before result = (settings : Settings) × (schema : Schema) × (plans : List Planned) × IsWorkload before settings schema plans
      × OpensAs (opened_by settings schema) settings.retries plans settings.limits result

  -- what a whole run leaves: it read a workload and ran it; or the text is none, or couldn't be read, and nothing was written; or memory was refused while it was read
  abbrev pub RunGives : Option (List ℕ) → Result (code.Ran Z) Trouble → Option (List ℕ) → Type 0
  RunGives before (Err (Malformed number)) after = (Stopped loads Version (point before 0) number ⊎ (Uncounted loads Version (point before 0) × (number ≡ 2 ^ 64 - 1))) × Wrote []
  RunGives before (Err Read) after = Torn loads Version (point before 0) after × Wrote []
  RunGives before (Err Memory) after = WroteFront [] ⊎ LoadEnds before (Err Memory)
  RunGives before result after = LoadEnds before result
