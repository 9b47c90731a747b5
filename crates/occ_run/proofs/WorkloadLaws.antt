-- Which line leads on from a place of a workload, and that no text of a workload is malformed.
use Rattle.std.proofs.Common.{◌≡◌, ℕ, ◌^◌, ◌<◌, List, [], ◌∷◌, ◌++◌, Some, lit<, refl, sym, subst, arith}
use Rattle.std.specs.Prelude.{codes}
use Rattle.std.proofs.lemmas.List.{length_push}
use Rattle.std.proofs.lemmas.List.Elements.{All-nil, All-cons, All-append}
use Rattle.occ_types.specs.Schema.{Schema}
use Rattle.occ_text.specs.declared.versions.Version as versions
use Rattle.occ_text.specs.declared.versions.Version.TheVariants.{One, Two}
use Rattle.occ_text.specs.Spelling.{AreTokens, line_text}
use Rattle.occ_text.specs.Reading.{is_token}
use Rattle.occ_text.specs.Headers.{Within, LimitsFit}
use Rattle.occ_text.specs.HeaderTaking.{TablesSoFar}
use Rattle.occ_text.specs.Languages.{LeadOn, point, Stopped}
use Rattle.occ_text.specs.Line.{HasNoFeed, IsLine, lines_text}
use Rattle.occ_text.proofs.Fields.{line_of_words, words_have_no_feed}
use Rattle.occ_text.proofs.LanguageLaws.{IsRight, by_reading, by_count, only_place, sound_on, never_stops, stops_once}
use Rattle.occ_text.proofs.TableLines.{further_right, no_tables_yet}
use Rattle.occ_text.proofs.TokenLists.{two_tokens}
use Rattle.occ_text.proofs.Words.{IsToken-from_test}
use Rattle.occ_run.specs.declared.workloads.Settings.{Settings}
use Rattle.occ_run.specs.TransactionLines.{Transaction, transaction_tokens}
use Rattle.occ_run.specs.Workloads as places
use Rattle.occ_run.specs.Workloads.{Place, Version, Sessions, Queue, Keep, Validators, Retries, Tables, Transactions, MayCome, begin_text, load_text, workload_lines, SettingsFit, HasLine, WorkloadFits, HasRoom, grammar, loads}
use Rattle.occ_run.proofs.Openings.{load_reads, begin_is_no_table, IsLine-begin}
use Rattle.occ_run.proofs.TransactionLines.{transaction_reads, words}
use Rattle.occ_run.proofs.WorkloadLeads.{workload_leads}

-- ---- what holds of each place that lines lead to: what they told fits

abbrev Sound : Place → Type 0
Sound Version = Unit {0}
Sound (Sessions version) = Unit {0}
Sound (Queue version sessions) = Within 1 64 sessions
Sound (Keep version sessions queue) = Within 1 64 sessions × Within 1 1024 queue
Sound (Validators limits) = LimitsFit limits
Sound (Retries limits validators) = LimitsFit limits × Within 1 64 validators
Sound (Tables settings tables) = SettingsFit settings × TablesSoFar settings.limits.version tables
Sound (Transactions settings schema before) = WorkloadFits settings schema before

-- ---- lines of tables, of counts and of versions

feedless : (tokens : List (List ℕ)) → AreTokens tokens → HasNoFeed (line_text tokens)
feedless tokens are = words_have_no_feed tokens are.some are.each

load_is_line : (version : versions.Version) → IsLine (load_text version)
unfolding is_token
load_is_line One = line_of_words (codes "load" ∷ codes "1" ∷ []) (two_tokens (IsToken-from_test (codes "load") refl) (IsToken-from_test (codes "1") refl)) (omega arith)
load_is_line Two = line_of_words (codes "load" ∷ codes "2" ∷ []) (two_tokens (IsToken-from_test (codes "load") refl) (IsToken-from_test (codes "2") refl)) (omega arith)

small_sessions : (sessions : ℕ) → Within 1 64 sessions → sessions < 2 ^ 64
small_sessions sessions within = let most = within.most_count in omega arith

-- ---- what holds of the lines of each place

each_right : (p : Place) → Sound p → IsRight Sound (grammar p)
unfolding is_token
each_right Version s = by_reading load_reads (λ version fits. load_is_line version) (λ version fits. fits) (λ version fits. tt)
each_right (Sessions version) s = by_count (codes "sessions") 1 64 (IsToken-from_test _ refl) (omega arith) (lit< tt) (λ n within. within)
each_right (Queue version sessions) s = by_count (codes "queue") 1 1024 (IsToken-from_test _ refl) (omega arith) (lit< tt) (λ n within. (s, within))
each_right (Keep version sessions queue) s = by_count (codes "keep") 1 4096 (IsToken-from_test _ refl) (omega arith) (lit< tt) (λ n within. record { sessions = s.0; queue = s.1; keep = within })
each_right (Validators limits) s = by_count (codes "validators") 1 64 (IsToken-from_test _ refl) (omega arith) (lit< tt) (λ n within. (s, within))
each_right (Retries limits validators) s = by_count (codes "retries") 0 16 (IsToken-from_test _ refl) (omega arith) (lit< tt) (λ n within. (record { limits = s.0; validators = s.1; retries = within }, no_tables_yet limits.version))
each_right (Tables settings tables) s =
    further_right {version = settings.limits.version} {spell = begin_text} {fits = λ begin. Unit {0}} {behind = λ begin. Transactions settings tables []} tables (Tables settings) (λ begin fits. IsLine-begin) (λ begin table e. begin_is_no_table table e) (λ a b f g e. refl) (λ table fits. (s.0, fits))
    (λ begin good fits. record { counts = s.0; tables = good; kinds = s.1.kinds; each = All-nil (HasLine settings); room = omega arith })
each_right (Transactions settings schema before) s =
    let version = settings.limits.version in
    let sessions = settings.limits.sessions in
    let small = small_sessions sessions s.counts.limits.sessions in
    by_reading (λ line. transaction_reads version sessions line small) (λ transaction fits. record { no_feed = feedless (transaction_tokens transaction) (words version sessions transaction small fits.0.fits); short = fits.0.short })
    (λ transaction fits. fits.0.fits) sound
  where
    sound : (transaction : Transaction) → MayCome settings before transaction → WorkloadFits settings schema (before ++ transaction ∷ [])
    sound transaction fits = record {
      counts = s.counts;
      tables = s.tables;
      kinds = s.kinds;
      each = All-append (HasLine settings) before (transaction ∷ []) s.each (All-cons (HasLine settings) transaction [] fits.0 (All-nil (HasLine settings)));
      room = subst (HasRoom settings.retries) (sym (length_push before transaction)) fits.1;
    }

-- lines lead from the beginning to one place at most
pub leads_to_one : (lines : List (List ℕ)) (p q : Place) → LeadOn loads Version lines p → LeadOn loads Version lines q → p ≡ q
leads_to_one lines p q h k = only_place loads Sound each_right lines Version p q tt h k

-- what lines tell that lead to where a text may end fits
pub told_fits : (lines : List (List ℕ)) (settings : Settings) (schema : Schema) (transactions : List Transaction) → LeadOn loads Version lines (Transactions settings schema transactions) → WorkloadFits settings schema transactions
told_fits lines settings schema transactions h = sound_on loads Sound each_right lines Version (Transactions settings schema transactions) tt h

-- no text of a workload is malformed
pub workload_never_stops : (settings : Settings) (schema : Schema) (transactions : List Transaction) → WorkloadFits settings schema transactions
    → (number : ℕ) → Stopped loads Version (point (Some (lines_text (workload_lines settings schema transactions))) 0) number → ⊥
workload_never_stops settings schema transactions fits number h =
    never_stops loads Sound each_right (workload_lines settings schema transactions) Version (Transactions settings schema transactions) tt (workload_leads settings schema transactions fits) tt 0 number h

-- a text is malformed at one line at most
pub stops_at_one : (text : List ℕ) (number other : ℕ) → Stopped loads Version (point (Some text) 0) number → Stopped loads Version (point (Some text) 0) other → number ≡ other
stops_at_one text number other h k = stops_once loads Sound each_right Version tt text number other h k
