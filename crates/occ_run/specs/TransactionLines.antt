-- The lines of transactions in a workload, as plain data, with the one spelling of each, and how such a line is read (our own choice).
use Rattle.std.specs.Prelude.{◌<◌, ◌≤◌, ℕ, List, ◌∷◌, Option, Some, None, All, length, map, nat_le, if◌then◌else◌, codes}
use Rattle.std.specs.Fmt.{decimal}
use Rattle.occ_types.specs.declared.limits.TheConstants.{MAX_OPERATIONS}
pub use Rattle.occ_text.specs.Reading.{◌>>=◌}
use Rattle.occ_text.specs.Reading.{tokens_of}
use Rattle.occ_text.specs.Spelling.{line_text}
use Rattle.occ_text.specs.Headers.{Within}
use Rattle.occ_text.specs.Fields.{Tokens, next_word, next_number}
use Rattle.occ_text.specs.Operations.{Operation, operation_text, OperationFits}
use Rattle.occ_text.specs.OperationReading.{operations_of}
use Rattle.occ_text.specs.declared.versions.Version.{Version}

-- a session, and what it does, in this order
pub record Transaction : Type 0 where
  pub session : ℕ
  pub operations : List Operation

-- txn S OP ..
abbrev pub transaction_tokens : Transaction → Tokens
transaction_tokens transaction = codes "txn" ∷ decimal transaction.session ∷ map operation_text transaction.operations

-- its line, without its line feed
abbrev pub transaction_text : Transaction → List ℕ
transaction_text transaction = line_text (transaction_tokens transaction)

-- what has a line in a workload of so many sessions: a session of these, and 1 to 256 operations that have tokens
pub record TransactionFits (version : Version) (sessions : ℕ) (transaction : Transaction) : Type 0 where
  pub session : Within 1 sessions transaction.session
  pub some : 0 < length transaction.operations
  pub few : length transaction.operations ≤ MAX_OPERATIONS
  pub each : All (OperationFits version) transaction.operations

-- sessions are numbered from 1, and a transaction has at most 256 operations
abbrev pub if_transaction : ℕ → List Operation → Option Transaction
if_transaction session operations = if nat_le 1 session then (if nat_le (length operations) MAX_OPERATIONS then Some (record { session = session; operations = operations }) else None) else None

-- the transaction of some tokens
unfoldable pub transaction_of_tokens : Version → ℕ → Tokens → Option Transaction
transaction_of_tokens version sessions tokens = do
  word ← next_word (codes "txn") tokens
  session ← next_number sessions word.1
  operations ← operations_of version session.1
  if_transaction session.0 operations

-- the transaction of a line
unfoldable pub transaction_of_line : Version → ℕ → List ℕ → Option Transaction
transaction_of_line version sessions line = do
  tokens ← tokens_of line
  transaction_of_tokens version sessions tokens
