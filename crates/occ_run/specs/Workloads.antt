-- Where a workload stands behind some of its lines, and which lines may come next there (our own choice; decided line by line, so that a workload is malformed at the first line that can't stand).
use Rattle.std.specs.Prelude.{◌≡◌, ◌≤◌, ◌+◌, ◌*◌, ◌^◌, ℕ, List, [], ◌∷◌, ◌++◌, map, length, Option, None, Some, All, if◌then◌else◌, codes}
use Rattle.std.specs.Str.{bytes_eq}
use Rattle.occ_types.specs.Schema.{Table, Schema, check_tables}
use Rattle.occ_text.specs.declared.headers.Limits.{Limits}
use Rattle.occ_text.specs.declared.versions.Version as versions
use Rattle.occ_text.specs.declared.versions.Version.TheVariants.{One, Two}
use Rattle.occ_text.specs.Headers.{Within, KindsFit, LimitsFit, count_text, table_text}
use Rattle.occ_text.specs.Languages.{Grammar, Language, lines_of, counts_of}
use Rattle.occ_text.specs.TableTaking.{further_lines}
use Rattle.occ_run.specs.TransactionLines.{Transaction, transaction_text, TransactionFits}
use Rattle.occ_run.specs.declared.workloads.Settings.{Settings}

-- ---- the lines of a workload

abbrev pub load_text : versions.Version → List ℕ
load_text One = codes "load 1"
load_text Two = codes "load 2"

-- the version that a line says
unfoldable pub load_version : List ℕ → Option versions.Version
load_version line = if bytes_eq line (codes "load 1") then Some One else (if bytes_eq line (codes "load 2") then Some Two else None)

-- the line behind those of tables
abbrev pub begin_text : Unit {0} → List ℕ
begin_text begin = codes "begin"

abbrev pub limits_of : versions.Version → ℕ → ℕ → ℕ → Limits
limits_of version sessions queue keep = record { version = version; sessions = sessions; queue = queue; keep = keep }

abbrev pub settings_of : Limits → ℕ → ℕ → Settings
settings_of limits validators retries = record { limits = limits; validators = validators; retries = retries }

abbrev pub settings_lines : Settings → List (List ℕ)
settings_lines settings =
    load_text settings.limits.version
    ∷ count_text (codes "sessions") settings.limits.sessions
    ∷ count_text (codes "queue") settings.limits.queue
    ∷ count_text (codes "keep") settings.limits.keep
    ∷ count_text (codes "validators") settings.validators
    ∷ count_text (codes "retries") settings.retries
    ∷ []

abbrev pub workload_lines : Settings → Schema → List Transaction → List (List ℕ)
workload_lines settings schema transactions = settings_lines settings ++ ((map table_text schema ++ codes "begin" ∷ []) ++ map transaction_text transactions)

-- ---- what has such lines

-- counts within their limits
pub record SettingsFit (settings : Settings) : Type 0 where
  pub limits : LimitsFit settings.limits
  pub validators : Within 1 64 settings.validators
  pub retries : Within 0 16 settings.retries

-- the log has room for all tries of so many transactions, and for running each of them alone
abbrev pub HasRoom : (retries count : ℕ) → Type 0
HasRoom retries count = count * (retries + 2) ≤ 2 ^ 20

-- a transaction that has a line: of at most 8,192 bytes
pub record HasLine (settings : Settings) (transaction : Transaction) : Type 0 where
  pub fits : TransactionFits settings.limits.version settings.limits.sessions transaction
  pub short : length (transaction_text transaction) ≤ 8192

-- counts within their limits, tables that make a schema, with kinds of keys that the version has, and transactions that have lines, for which the log has room
pub record WorkloadFits (settings : Settings) (schema : Schema) (transactions : List Transaction) : Type 0 where
  pub counts : SettingsFit settings
  pub tables : check_tables schema ≡ None
  pub kinds : KindsFit settings.limits.version schema
  pub each : All (HasLine settings) transactions
  pub room : HasRoom settings.retries (length transactions)

-- ---- which line leads on, and where to

-- what comes next
pub data Place : Type 0 where
  Version : Place
  Sessions : versions.Version → Place
  Queue : versions.Version → (sessions : ℕ) → Place
  Keep : versions.Version → (sessions : ℕ) → (queue : ℕ) → Place
  Validators : Limits → Place
  Retries : Limits → (validators : ℕ) → Place
  Tables : Settings → (tables : List Table) → Place
  -- behind some transactions, where the text may end
  Transactions : Settings → Schema → (before : List Transaction) → Place

abbrev pub MayCome : Settings → List Transaction → Transaction → Type 0
MayCome settings before transaction = HasLine settings transaction × HasRoom settings.retries (length before + 1)

abbrev pub grammar : Place → Grammar Place
grammar Version = lines_of load_text (λ version. Unit {0}) Sessions
grammar (Sessions version) = counts_of (codes "sessions") 1 64 (Queue version)
grammar (Queue version sessions) = counts_of (codes "queue") 1 1024 (Keep version sessions)
grammar (Keep version sessions queue) = counts_of (codes "keep") 1 4096 (λ keep. Validators (limits_of version sessions queue keep))
grammar (Validators limits) = counts_of (codes "validators") 1 64 (Retries limits)
grammar (Retries limits validators) = counts_of (codes "retries") 0 16 (λ retries. Tables (settings_of limits validators retries) [])
grammar (Tables settings tables) = further_lines settings.limits.version begin_text (λ begin. Unit {0}) tables (Tables settings) (λ begin. Transactions settings tables [])
grammar (Transactions settings schema before) = lines_of transaction_text (MayCome settings before) (λ transaction. Transactions settings schema (before ++ transaction ∷ []))

-- a text may end here
abbrev pub MayEnd : Place → Type 0
MayEnd (Transactions settings schema before) = Unit {0}
MayEnd place = ⊥

-- workloads
abbrev pub loads : Language
loads = record { Place = Place; grammar = grammar; MayEnd = MayEnd }
