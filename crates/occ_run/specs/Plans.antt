-- What is kept of a workload that was read: its transactions, with the places of the tables that they name (our own choice).
use Rattle.std.specs.Prelude.{◌≡◌, ◌+◌, ℕ, List, [], ◌∷◌, ◌++◌, map, length, Option, None, Some, Result, Ok, Err}
use Rattle.std.specs.List.{position}
use Rattle.std.specs.Io.KnownBytes.{IsAtEnd}
use Rattle.occ_types.specs.Schema.{Schema, has_name}
use Rattle.occ_model.specs.Operations as model
use Rattle.occ_sets.specs.Operations.{ops_of}
use Rattle.occ_text.specs.declared.faults.ReadFault.{ReadFault}
use Rattle.occ_text.specs.Operations as texts
use Rattle.occ_text.specs.Operations.{operation_of}
use Rattle.occ_run.specs.declared.transaction_lines.Transaction as read
use Rattle.occ_run.specs.declared.workloads.Plan as code
use Rattle.occ_run.specs.declared.workloads.Settings.{Settings}
use Rattle.occ_run.specs.declared.workloads.Workload.{Workload}
use Rattle.occ_run.specs.TransactionLines.{Transaction, transaction_text}
use Rattle.occ_text.specs.Languages.{Position, Stays, Took, FailsFrom}
use Rattle.occ_run.specs.Workloads.{Version, Transactions, workload_lines, HasRoom, loads}

-- the place of the table with a name, or the one behind the last table, where no table stands
abbrev pub place_named : Schema → List ℕ → ℕ
place_named schema name = elim (position (has_name name) schema) [ None ↦ length schema | Some place ↦ place ]

-- an operation, with the place of the table that it names
abbrev pub operation_named : Schema → texts.Operation → model.Operation
operation_named schema (texts.Get name key) = model.Get (place_named schema name) key
operation_named schema (texts.Scan name lower upper) = model.Scan (place_named schema name) lower upper
operation_named schema (texts.Put name key row) = model.Put (place_named schema name) key row
operation_named schema (texts.Delete name key) = model.Delete (place_named schema name) key
operation_named schema (texts.Add name key amount) = model.Add (place_named schema name) key amount

-- a transaction whose operations have the places of their tables
pub record Planned : Type 0 where
  pub session : ℕ
  pub operations : List model.Operation

abbrev pub planned : Schema → Transaction → Planned
planned schema transaction = record { session = transaction.session; operations = map (operation_named schema) transaction.operations }

module _ {Z : Type 0} where
  -- the plain transactions
  abbrev pub transaction_of : read.Transaction Z → Transaction
  transaction_of transaction = record { session = transaction.session; operations = map operation_of transaction.operations.items }

  abbrev pub plan_of : code.Plan Z → Planned
  plan_of plan = record { session = plan.session; operations = ops_of plan.operations.items }

-- behind so many transactions comes the line of one more, or the text ends
abbrev pub PlanTaken : {X : Type 0} → (X → Planned) → Result (Option X) ReadFault → Settings → Schema → ℕ → Position → Position → Type 0
PlanTaken view (Ok None) settings schema count a b = IsAtEnd a.left × Stays a b
PlanTaken view (Ok (Some x)) settings schema count a b =
    (transaction : Transaction) × (view x ≡ planned schema transaction) × HasRoom settings.retries (count + 1)
    × ((before : List Transaction) → length before ≡ count → Took loads (Transactions settings schema before) (Transactions settings schema (before ++ transaction ∷ [])) a b (transaction_text transaction ∷ []))
PlanTaken view (Err fault) settings schema count a b = (before : List Transaction) → length before ≡ count → FailsFrom loads fault (Transactions settings schema before) a b.left

-- all lines of transactions are taken, up to the end of the text
abbrev pub PlansTaken : {X : Type 0} → (X → List Planned) → Result X ReadFault → Settings → Schema → Position → Position → Type 0
PlansTaken view (Ok plans) settings schema a b =
    (transactions : List Transaction) × (rest : Position) × Took loads (Transactions settings schema []) (Transactions settings schema transactions) a rest (map transaction_text transactions) × IsAtEnd rest.left
    × (view plans ≡ map (planned schema) transactions) × Stays rest b
PlansTaken view (Err fault) settings schema a b = FailsFrom loads fault (Transactions settings schema []) a b.left

module _ {Z : Type 0} where
  -- a whole workload is taken
  abbrev pub WorkloadTaken : Result (Workload Z) ReadFault → Position → Position → Type 0
  WorkloadTaken (Ok workload) a b =
      (transactions : List Transaction) × (rest : Position) × Took loads Version (Transactions workload.settings workload.schema transactions) a rest (workload_lines workload.settings workload.schema transactions) × IsAtEnd rest.left
      × (map plan_of workload.plans.items ≡ map (planned workload.schema) transactions) × Stays rest b
  WorkloadTaken (Err fault) a b = FailsFrom loads fault Version a b.left
