-- The lines of a workload that fits lead from the beginning to where it may end.
use Rattle.std.proofs.Common.{◌≡◌, ℕ, ◌+◌, ◌≤◌, List, [], ◌∷◌, ◌++◌, length, map, None, sym, ap, subst, refl, arith, append_assoc, length-append}
use Rattle.std.specs.Prelude.{All, codes}
use Rattle.std.proofs.Math.Nat.{mul-le-mul_right}
use Rattle.std.proofs.lemmas.List.{append-nil}
use Rattle.std.proofs.lemmas.List.Elements.{All-head, All-tail}
use Rattle.occ_types.specs.Schema.{Schema, check_tables}
use Rattle.occ_text.specs.declared.versions.Version.{Version}
use Rattle.occ_text.specs.Headers.{count_text}
use Rattle.occ_text.specs.Languages.{LeadOn}
use Rattle.occ_text.specs.TableTaking.{OneTable, Behind}
use Rattle.occ_run.specs.declared.workloads.Settings.{Settings}
use Rattle.occ_run.specs.TransactionLines.{Transaction, transaction_text}
use Rattle.occ_run.specs.Workloads as places
use Rattle.occ_run.specs.Workloads.{Tables, Transactions, SettingsFit, WorkloadFits, HasLine, HasRoom, settings_lines, workload_lines, loads}
use Rattle.occ_text.proofs.LinesTaken.{Path, stay, on, along}
use Rattle.occ_text.proofs.TableLines.{tables_lead, schema_so_far}

-- the last two counts
last_counts_lead : (settings : Settings) → SettingsFit settings
    → Path loads (places.Validators settings.limits) (Tables settings []) (count_text (codes "validators") settings.validators ∷ count_text (codes "retries") settings.retries ∷ [])
last_counts_lead settings fits =
    let retries : Path loads (places.Retries settings.limits settings.validators) (Tables settings []) (count_text (codes "retries") settings.retries ∷ []) =
    on {q = Tables settings []} (settings.retries, fits.retries, refl, refl) stay in
    on {q = places.Retries settings.limits settings.validators} (settings.validators, fits.validators, refl, refl) retries

settings_lead : (settings : Settings) → SettingsFit settings → Path loads places.Version (Tables settings []) (settings_lines settings)
settings_lead settings fits =
    let limits = settings.limits in
    on {q = places.Sessions limits.version} (limits.version, tt, refl, refl) (on {q = places.Queue limits.version limits.sessions} (limits.sessions, fits.limits.sessions, refl, refl)
    (on {q = places.Keep limits.version limits.sessions limits.queue} (limits.queue, fits.limits.queue, refl, refl) (on {q = places.Validators limits} (limits.keep, fits.limits.keep, refl, refl)
    (last_counts_lead settings fits))))

-- ---- transactions

-- there is room for fewer
room_before : (retries count all : ℕ) → count ≤ all → HasRoom retries all → HasRoom retries count
room_before retries count all few room = let n = mul-le-mul_right {m = count} {n = all} (retries + 2) few in omega (arith, n, room)

transactions_lead : (settings : Settings) (schema : Schema) (before after : List Transaction) → HasRoom settings.retries (length (before ++ after)) → All (HasLine settings) after
    → Path loads (Transactions settings schema before) (Transactions settings schema (before ++ after)) (map transaction_text after)
transactions_lead settings schema before [] room each = record { leads = ap (Transactions settings schema) (append-nil before) }
transactions_lead settings schema before (transaction ∷ after) room each =
    let turned = append_assoc before (transaction ∷ []) after in
    let few : length before + 1 ≤ length (before ++ transaction ∷ after) = omega (arith, length-append before (transaction ∷ after)) in
    let more = transactions_lead settings schema (before ++ transaction ∷ []) after (subst (λ (l : List Transaction). HasRoom settings.retries (length l)) (sym turned) room) (All-tail (HasLine settings) transaction after each) in
    on (transaction, (All-head (HasLine settings) transaction after each, room_before settings.retries (length before + 1) (length (before ++ transaction ∷ after)) few room), refl, refl)
    (subst (λ (all : List Transaction). Path loads (Transactions settings schema (before ++ transaction ∷ [])) (Transactions settings schema all) (map transaction_text after)) turned more)

-- ---- all of it

pub workload_leads : (settings : Settings) (schema : Schema) (transactions : List Transaction) → WorkloadFits settings schema transactions → LeadOn loads places.Version (workload_lines settings schema transactions) (Transactions settings schema transactions)
workload_leads settings schema transactions fits =
    let opening = along (tables_lead {language = loads} {version = settings.limits.version} (Tables settings) (λ tables table h. (OneTable table, h, refl, refl)) [] schema (schema_so_far settings.limits.version schema fits.tables fits.kinds)) (begins settings schema fits.tables) in
    let path = along (settings_lead settings fits.counts) (along opening (transactions_lead settings schema [] transactions fits.room fits.each)) in
    path.leads
  where
    begins : (settings : Settings) (schema : Schema) → check_tables schema ≡ None → Path loads (Tables settings schema) (Transactions settings schema []) (codes "begin" ∷ [])
    begins settings schema good = on (Behind tt, (good, tt), refl, refl) stay
