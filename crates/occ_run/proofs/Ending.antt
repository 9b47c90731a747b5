-- A whole run, put together from its parts.
use Rattle.std.proofs.Common.{◌≡◌, ℕ, Bool, true, List, [], Option, Result, Ok, Err, ◌⊎◌, inl, inr, refl, sym, ap, subst, ◌∙◌, IfErr}
use Rattle.std.specs.Result.{IsErrAnd}
use Rattle.std.specs.Io.KnownBytes.{Appends, prepend_known}
use Rattle.std.proofs.KnownBytes.{Appends-nil, prepend_known-nil}
use Rattle.occ_types.specs.Schema.{Schema}
use Rattle.occ_model.specs.World as model
use Rattle.occ_store.specs.Names.{Named, unnamed}
use Rattle.occ_text.specs.declared.headers.Limits.{Limits}
use Rattle.occ_text.specs.declared.faults.ReadFault.{ReadFault}
use Rattle.occ_text.specs.declared.faults.ReadFault.TheVariants as faults
use Rattle.occ_text.specs.declared.faults.WriteFault.{WriteFault}
use Rattle.occ_text.specs.declared.faults.WriteFault.TheVariants as write_faults
use Rattle.occ_text.specs.declared.trouble.Trouble.{Trouble}
use Rattle.occ_text.specs.declared.trouble.Trouble.TheVariants as troubles
use Rattle.occ_text.specs.Faults.{read_trouble, write_trouble}
use Rattle.occ_text.specs.Languages.{Position, point, FailsFrom}
use Rattle.occ_text.specs.Line.{Source, HasFailed}
use Rattle.occ_run.specs.declared.runs.Ran as code
use Rattle.occ_run.specs.declared.runs.Ran.TheVariants.{Audit, GaveUp}
use Rattle.occ_run.specs.declared.workloads.Settings.{Settings}
use Rattle.occ_run.specs.declared.workloads.Workload as workloads
use Rattle.occ_run.specs.Workloads.{Version, loads}
use Rattle.occ_run.specs.Plans.{Planned, WorkloadTaken}
use Rattle.occ_run.specs.Clients.{ClientView}
use Rattle.occ_run.specs.Reports.{AppendsFront, ReportGives, book_at, report_lines}
use Rattle.occ_run.specs.Runs.{IsWorkload, RunState, ReadGives, OrderGives, ReportedAs, RunEnds, OpensAs, RunGives, opened_by}

-- nothing was written
pub nothing_written : (w : Option (List ℕ)) → AppendsFront w w []
nothing_written w = record { front = []; rest = []; whole = refl; written = Appends-nil w }

-- ---- reading

pub read_refused : {Z : Type 0} (result : Result (workloads.Workload Z) ReadFault) (before after : Option (List ℕ)) → IsErrAnd result (λ e. e ≡ faults.Memory) → ReadGives before result after
read_refused (Ok workload) before after is = absurd is
read_refused (Err e) before after is = subst (λ (f : ReadFault). FailsFrom loads f Version (point before 0) after) (sym is) tt

-- where a read failed, nothing that was read is left
pub emptied : {X : Type 0} (result : Result X ReadFault) (input : Source) → IfErr result (λ fault. fault ≡ faults.Read → HasFailed input) → IfErr result (λ fault. fault ≡ faults.Read → input.unread ≡ [])
emptied (Ok x) input h = tt
emptied (Err e) input h = λ is. (h is).emptied

pub read_whole : {Z : Type 0} (result : Result (workloads.Workload Z) ReadFault) (unread left : List ℕ) (before after : Option (List ℕ)) (number last : ℕ) → unread ≡ [] → number ≡ 0 → IfErr result (λ fault. fault ≡ faults.Read → left ≡ [])
    → WorkloadTaken result (point (prepend_known unread before) number) (point (prepend_known left after) last) → ReadGives before result after
read_whole {Z} result unread left before after number last empty none emptied t =
    by result emptied (subst (λ (p : Position). WorkloadTaken result p (point (prepend_known left after) last)) start t)
  where
    start : point (prepend_known unread before) number ≡ point before 0
    start = ap (λ u. point (prepend_known u before) number) empty ∙ ap (λ b. point b number) (prepend_known-nil before) ∙ ap (point before) none

    by : (result : Result (workloads.Workload Z) ReadFault) → IfErr result (λ fault. fault ≡ faults.Read → left ≡ []) → WorkloadTaken result (point before 0) (point (prepend_known left after) last) → ReadGives before result after
    by (Ok workload) emptied t = record { transactions = t.0; rest = t.1; took = t.2; ended = t.3; named = t.4 }
    by (Err (faults.Malformed n)) emptied t = t
    by (Err faults.Read) emptied t = subst (λ a. FailsFrom loads faults.Read Version (point before 0) a) (ap (λ l. prepend_known l after) (emptied refl) ∙ prepend_known-nil after) t
    by (Err faults.TooManyLines) emptied t = t
    by (Err faults.Memory) emptied t = tt

-- ---- running

module _ {Z : Type 0} (whole : Bool) where
  abbrev stops : Trouble → Result (code.Ran Z) Trouble
  stops trouble = Err trouble

  -- the text is none of a workload, or couldn't be read, or memory was refused for it
  pub unread_ends : (w before after : Option (List ℕ)) (fault : ReadFault) (result : Result (code.Ran Z) Trouble) → IsErrAnd result (λ e. e ≡ read_trouble fault) → FailsFrom loads fault Version (point before 0) after
      → RunGives whole (Appends w w) (AppendsFront w w) before result after
  unread_ends w before after fault (Ok ran) is t = absurd is
  unread_ends w before after fault (Err e) is t = subst (λ (trouble : Trouble). RunGives whole (Appends w w) (AppendsFront w w) before (stops trouble) after) (sym is) (by fault t)
    where
      by : (fault : ReadFault) → FailsFrom loads fault Version (point before 0) after → RunGives whole (Appends w w) (AppendsFront w w) before (stops (read_trouble fault)) after
      by (faults.Malformed n) t = (inl t, Appends-nil w)
      by faults.Read t = (t, Appends-nil w)
      by faults.TooManyLines t = (inr (t, refl), Appends-nil w)
      by faults.Memory t = inl (nothing_written w)

  -- a workload was read, and run
  pub ran : (w v : Option (List ℕ)) (before after : Option (List ℕ)) (result : Result (code.Ran Z) Trouble) (settings : Settings) (schema : Schema) (plans : List Planned) → IsWorkload before settings schema plans
      → OpensAs whole (Appends w v) (AppendsFront w v) (opened_by settings schema) settings.retries plans settings.limits result → RunGives whole (Appends w v) (AppendsFront w v) before result after
  ran w v before after (Ok (Audit holds)) settings schema plans read t = (settings, schema, plans, read, t)
  ran w v before after (Ok (GaveUp sessions)) settings schema plans read t = (settings, schema, plans, read, t)
  ran w v before after (Err troubles.Write) settings schema plans read t = (settings, schema, plans, read, t)
  ran w v before after (Err troubles.Memory) settings schema plans read t = inr (settings, schema, plans, read, t)
  ran w v before after (Err troubles.Read) settings schema plans read t = absurd t.2
  ran w v before after (Err (troubles.Malformed n)) settings schema plans read t = absurd t.2

  -- memory was refused, and nothing was written
  pub refused_ends : (w : Option (List ℕ)) (named : Named) (retries : ℕ) (plans : List Planned) (limits : Limits) (result : Result (code.Ran Z) Trouble) → IsErrAnd result (λ e. e ≡ troubles.Memory) → RunEnds whole (Appends w w) (AppendsFront w w) named retries plans limits result
  refused_ends w named retries plans limits (Ok ran) is = absurd is
  refused_ends w named retries plans limits (Err e) is = subst (λ (trouble : Trouble). RunEnds whole (Appends w w) (AppendsFront w w) named retries plans limits (stops trouble)) (sym is) (inl (nothing_written w))

  -- the store was opened so
  pub opened_so : (w v : Option (List ℕ)) (named : Named) (opened : model.Settings) (retries : ℕ) (plans : List Planned) (limits : Limits) (result : Result (code.Ran Z) Trouble) → named.settings ≡ opened → RunEnds whole (Appends w v) (AppendsFront w v) named retries plans limits result
      → OpensAs whole (Appends w v) (AppendsFront w v) opened retries plans limits result
  opened_so w v named opened retries plans limits result is t = (named, is, t)

  -- memory was refused before there was a store
  pub unopened : (w : Option (List ℕ)) (opened : model.Settings) (retries : ℕ) (plans : List Planned) (limits : Limits) (result : Result (code.Ran Z) Trouble) → IsErrAnd result (λ e. e ≡ troubles.Memory)
      → OpensAs whole (Appends w w) (AppendsFront w w) opened retries plans limits result
  unopened w opened retries plans limits result is = (record unnamed { settings = opened }, refl, refused_ends w (record unnamed { settings = opened }) retries plans limits result is)

  -- it wasn't all written
  pub cut_ends : (w v : Option (List ℕ)) (named : Named) (retries : ℕ) (plans : List Planned) (limits : Limits) (fault : WriteFault) (result : Result (code.Ran Z) Trouble) → IsErrAnd result (λ e. e ≡ write_trouble fault)
      → ReportedAs whole (Appends w v) (AppendsFront w v) named retries plans limits (Err fault) → RunEnds whole (Appends w v) (AppendsFront w v) named retries plans limits result
  cut_ends w v named retries plans limits fault (Ok ran) is t = absurd is
  cut_ends w v named retries plans limits fault (Err e) is t = subst (λ (trouble : Trouble). RunEnds whole (Appends w v) (AppendsFront w v) named retries plans limits (stops trouble)) (sym is) (by fault t)
    where
      by : (fault : WriteFault) → ReportedAs whole (Appends w v) (AppendsFront w v) named retries plans limits (Err fault) → RunEnds whole (Appends w v) (AppendsFront w v) named retries plans limits (stops (write_trouble fault))
      by write_faults.Write t = t
      by write_faults.Memory t = t

-- a run that ended in an error names nobody
pub names_nobody : {Z : Type 0} (Q : Trouble → Type 0) (clients : List ClientView) (result : Result (code.Ran Z) Trouble) → IsErrAnd result Q → OrderGives clients result
names_nobody Q clients (Ok ran) is = absurd is
names_nobody Q clients (Err e) is = tt

module _ (whole : Bool) where
  -- what was written of a state of the store
  pub reported : (w v : Option (List ℕ)) (named : Named) (retries : ℕ) (plans : List Planned) (limits : Limits) (result : Result Bool WriteFault) (state : RunState named retries plans)
      → ReportGives (Appends w v) (AppendsFront w v) result (report_lines whole (book_at limits state.world) state.refused) → ReportedAs whole (Appends w v) (AppendsFront w v) named retries plans limits result
  reported w v named retries plans limits (Ok holds) state t = (state, t.0, t.1)
  reported w v named retries plans limits (Err write_faults.Write) state t = (state, t)
  reported w v named retries plans limits (Err write_faults.Memory) state t = inr (state, t)

  -- memory was refused before anything was written
  pub unreported : (w : Option (List ℕ)) (named : Named) (retries : ℕ) (plans : List Planned) (limits : Limits) (result : Result Bool WriteFault) → IsErrAnd result (λ e. e ≡ write_faults.Memory) → ReportedAs whole (Appends w w) (AppendsFront w w) named retries plans limits result
  unreported w named retries plans limits (Ok holds) is = absurd is
  unreported w named retries plans limits (Err e) is = subst (λ (fault : WriteFault). ReportedAs whole (Appends w w) (AppendsFront w w) named retries plans limits (Err fault)) (sym is) (inl (nothing_written w))
