-- What a worker does in one holding, from what its calls say.
use Rattle.std.specs.Prelude.{⊤, IsOkUnless}
use Rattle.std.proofs.Common.{◌≡◌, ◌⊎◌, ◌+◌, ◌-◌, ◌≤◌, ◌<◌, arith, ℕ, suc, Bool, true, false, cond, nat_lt, List, map, Option, None, Some, Result, Ok, Err, IfOk, [], ◌∷◌, ◌++◌, is_some, length, inl, inr, refl, sym, ap, subst, ◌∙◌, MatchOption, OnOk, OnErr}
use Rattle.std.specs.Result.{result_err}
use Rattle.std.proofs.lemmas.Result.{IfOk-weaker, on_err_weaker}
use Rattle.std.specs.List.{All}
use Rattle.std.proofs.lemmas.List.Elements.{All-head, All-tail, All-append, All-cons, All-nil}
use Rattle.occ_types.specs.declared.fault.Fault.{Fault}
use Rattle.occ_types.specs.declared.fault.Fault.TheVariants as faults
use Rattle.occ_types.specs.Object.{Object}
use Rattle.occ_types.specs.Question.{Question}
use Rattle.occ_model.specs.Invariant.{Invariant}
use Rattle.std.specs.FinMap.{FinMap}
use Rattle.std.specs.Ordering.{nat_cmp}
use Rattle.occ_model.specs.Log.{Base, LogRow}
use Rattle.occ_model.specs.State.{State}
use Rattle.occ_types.specs.Schema.{Schema}
use Rattle.occ_model.specs.World.{Settings, World, active_count, low, opened}
use Rattle.occ_model.specs.Event.{Event, Request, SerialEnd, Reply, Refused}
use Rattle.occ_model.specs.Operations.{Operation}
use Rattle.occ_model.specs.Step.{Step}
use Rattle.occ_sets.specs.Sets.{Copied}
use Rattle.occ_client.specs.Clients.{Client, begin_refusal, ending, count_end, spent, after_alone, after_end, fresh_client, Commits, CommitsNext, StaysOrStops}
use Rattle.occ_client.specs.Ends.{EndsBeside}
use Rattle.occ_client.specs.declared.ending.End.{End}
use Rattle.occ_open.specs.Transactions.{Gets, Scans, Abandons, WantsOwn, WantsRange, OrStarves, WithOpen, begun, open_after}
use Rattle.occ_sharing.specs.Sharing.{Worker, InOneHolding, one_more, IsWorldOf, IsHeldOf, IsIdle, IsKept, Begins, Leaves, EndsAtOnce, RunsAloneNext, Shows}

pub is_then : (settings : Settings) (before lent : World) → lent ≡ before → IsWorldOf settings before → IsWorldOf settings lent
is_then settings before lent same is = subst (λ (w : World). IsWorldOf settings w) (sym same) is

-- what is put back fits the place
pub held_after : (settings place : Settings) (after : World) (idle lent : List Client) → place ≡ settings → All (IsIdle settings.sessions) idle → lent ≡ idle → IsWorldOf settings after
    → IsHeldOf place after lent
held_after settings place after idle lent here are_idle same is = subst (λ (s : Settings). IsHeldOf s after lent) (sym here)
    (record { is_of = is; are_idle = subst (λ (l : List Client). All (IsIdle settings.sessions) l) (sym same) are_idle })

pub held_same : (settings place : Settings) (world : World) (idle : List Client) → place ≡ settings → IsHeldOf settings world idle → IsHeldOf place world idle
held_same settings place world idle here is = subst (λ (s : Settings). IsHeldOf s world idle) (sym here) is

pub in_one : (old new : Worker) (before after : World) (leased : Bool) (Did : World → World → Type 0)
    → IsWorldOf old.settings before → Invariant before → leased ≡ is_some old.lease → MatchOption old.lease ⊤ (λ world. before ≡ world)
    → MatchOption new.lease ⊤ (λ world. world ≡ after) → (leased ≡ true → is_some new.lease ≡ true) → new.settings ≡ old.settings → new.holdings ≡ one_more old.holdings → Did before after
    → InOneHolding old new Did
in_one old new before after leased Did is lawful leased_is begins leaves keeps same counted did = record {
  before = before;
  after = after;
  is_of = is;
  lawful = lawful;
  begins = begins;
  leaves = leaves;
  keeps = λ some. keeps (leased_is ∙ some);
  same = same;
  counted = counted;
  did = did;
}

-- an end of a client that has no write phase, beside no active transaction
pub ends_once : (client : Client) (old : World) (stopped : Bool) (reply : Reply) (new : World) → client.writing ≡ false → active_count old ≡ 0
    → Commits client old stopped reply new → EndsAtOnce client old reply new × (stopped ≡ false)
ends_once client old stopped reply new off quiet commits = go client.current (subst (λ (b : Bool). CommitsNext b client old stopped reply new) off commits)
  where
    go : (current : Option Copied)
        → MatchOption current ((reply ≡ Refused faults.NoReadOpen) × (new ≡ old) × (stopped ≡ false)) (λ copy. EndsBeside (nat_lt 0 (active_count old)) client.session copy old stopped reply new)
        → WithOpen current old reply new (λ copy. Step old (SerialEnd client.session (Request copy.number copy.start copy.writes)) reply new) × (stopped ≡ false)
    go None none = ((none.0, none.1), none.2)
    go (Some copy) ends = subst (λ (n : ℕ). EndsBeside (nat_lt 0 n) client.session copy old stopped reply new) quiet ends

-- it stays open where it is refused
stays : (inside mid : Client) → mid.writing ≡ false → StaysOrStops inside mid → IsKept inside mid
stays inside mid off (inl kept) = kept
stays inside mid off (inr stops) = let e : mid.writing ≡ true = ap (λ (c : Client). c.writing) stops.1 in absurd (clash (sym off ∙ e))
  where
    clash : false ≡ true → ⊥
    clash e = cc e

-- what was done with the parts was done with the whole
moved : (Did : Client → Client → World → Type 0) (old inside mid new : Client) (before lent : World) → inside ≡ old → new ≡ mid → lent ≡ before → Did inside mid lent → Did old new before
moved Did old inside mid new before lent is given same did =
    subst (λ (w : World). Did old new w) same (subst (λ (c : Client). Did old c lent) (sym given) (subst (λ (c : Client). Did c mid lent) is did))

module _ (old inside mid new : Client) (before lent : World) (is : inside ≡ old) (given : new ≡ mid) (same : lent ≡ before) where
  pub began_in : (came : Result ⊤ Fault) → result_err came ≡ begin_refusal lent inside
      → OnOk came (mid ≡ record inside { current = Some (begun inside.next lent.counter); returned = mid.returned }) → OnErr came (mid ≡ inside)
      → Begins old new came before before
  began_in came refusal ok err = moved (λ c d w. Begins c d came w w) old inside mid new before lent is given same (record { refusal = refusal; ok = ok; err = err; world = refl })

  pub got_in : (object : Object) (reply : Reply) (after : World) → mid ≡ record inside { returned = mid.returned }
      → OrStarves ((inside.returned ≡ true) ⊎ WantsOwn lent.settings.schema object inside.current) lent reply after (Gets lent inside.session object inside.current reply after)
      → IsKept old new × OrStarves ((old.returned ≡ true) ⊎ WantsOwn before.settings.schema object old.current) before reply after (Gets before old.session object old.current reply after)
  got_in object reply after kept read = moved
      (λ c d w. IsKept c d × OrStarves ((c.returned ≡ true) ⊎ WantsOwn w.settings.schema object c.current) w reply after (Gets w c.session object c.current reply after))
      old inside mid new before lent is given same (kept, read)

  pub scanned_in : (question : Question) (reply : Reply) (after : World) → mid ≡ record inside { returned = mid.returned }
      → OrStarves ((inside.returned ≡ true) ⊎ WantsRange lent.settings.schema question inside.current) lent reply after (Scans lent inside.session question inside.current reply after)
      → IsKept old new × OrStarves ((old.returned ≡ true) ⊎ WantsRange before.settings.schema question old.current) before reply after (Scans before old.session question old.current reply after)
  scanned_in question reply after kept read = moved
      (λ c d w. IsKept c d × OrStarves ((c.returned ≡ true) ⊎ WantsRange w.settings.schema question c.current) w reply after (Scans w c.session question c.current reply after))
      old inside mid new before lent is given same (kept, read)

  pub abandoned_in : (reply : Reply) (after : World) → Abandons lent inside.session inside.current reply after
      → mid ≡ record inside { current = open_after inside.current reply; returned = mid.returned }
      → Abandons before old.session old.current reply after × (new ≡ record old { current = open_after old.current reply; returned = new.returned })
  abandoned_in reply after step left = moved
      (λ c d w. Abandons w c.session c.current reply after × (d ≡ record c { current = open_after c.current reply; returned = d.returned }))
      old inside mid new before lent is given same (step, left)

  pub committed_in : (came : Result End Fault) (after : World) → inside.writing ≡ false → active_count lent ≡ 0
      → Commits inside lent mid.writing (ending came) after → IfOk came (λ end. mid ≡ after_end end inside) → OnErr came (StaysOrStops inside mid)
      → EndsAtOnce old before (ending came) after × IfOk came (λ end. new ≡ count_end end (spent old)) × OnErr came (IsKept old new)
  committed_in came after off quiet step ok err =
      let once : EndsAtOnce inside lent (ending came) after × (mid.writing ≡ false) = ends_once inside lent mid.writing (ending came) after off quiet step in
      moved (λ c d w. EndsAtOnce c w (ending came) after × IfOk came (λ end. d ≡ count_end end (spent c)) × OnErr came (IsKept c d)) old inside mid new before lent is given same (
        once.0,
        IfOk-weaker came (λ end. mid ≡ after_end end inside) (λ end. mid ≡ count_end end (spent inside)) (λ (end : End) (e : mid ≡ after_end end inside). e ∙ ap (λ (b : Bool). count_end end (cond b (record inside { current = None; writing = false }) (spent inside))) off) ok,
        on_err_weaker came (stays inside mid once.1) err,
      )

  pub ran_in : {X Z : Type 0} (came : Result X Z) (Back : Type 0) (operations : List Operation) (reply : Reply) (after : World) → RunsAloneNext inside operations lent reply after
      → OnOk came (mid ≡ after_alone inside) → OnErr came (mid ≡ inside) → Back
      → RunsAloneNext old operations before reply after × OnOk came (new ≡ after_alone old) × OnErr came (new ≡ old) × Back
  ran_in came Back operations reply after step ok err back = moved
      (λ c d w. RunsAloneNext c operations w reply after × OnOk came (d ≡ after_alone c) × OnErr came (d ≡ c) × Back)
      old inside mid new before lent is given same (step, ok, err, back)

pub stepped : (event : Event) (reply : Reply) (before lent after : World) → lent ≡ before → Step lent event reply after → Step before event reply after
stepped event reply before lent after same step = subst (λ (w : World). Step w event reply after) same step

pub mapped : {X Y : Type 0} (f : X → Y) (xs : List X) → length (map f xs) ≡ length xs
mapped f [] = refl
mapped f (x ∷ xs) = ap (λ (n : ℕ). suc n) (mapped f xs)

-- what a book tells of a world
pub shown : {B : Type 0} (came : Result B Fault) (base : B → Base) (marks : B → FinMap nat_cmp ℕ) (state : B → State) (log : B → List LogRow) (lower counter : B → ℕ)
    (lent before : World) → lent ≡ before → IfOk came (λ book. base book ≡ lent.base) → IfOk came (λ book. marks book ≡ lent.marks) → IfOk came (λ book. state book ≡ lent.table)
    → IfOk came (λ book. log book ≡ lent.log) → IfOk came (λ book. lower book ≡ low lent) → IfOk came (λ book. counter book ≡ lent.counter)
    → IfOk came (λ book. Shows (record { base = base book; marks = marks book; state = state book; log = log book; low = lower book; counter = counter book }) before)
shown (Ok book) base marks state log lower counter lent before same b m s l o c = subst
    (λ (w : World). Shows (record { base = base book; marks = marks book; state = state book; log = log book; low = lower book; counter = counter book }) w) same
    (λ i. record { base = b i; marks = m i; state = s i; log = l i; low = o i; counter = c i })
shown (Err fault) base marks state log lower counter lent before same b m s l o c = tt

-- the last of those that no worker had is one of them
last : (sessions : ℕ) (rest : List Client) (client : Client) → All (IsIdle sessions) (rest ++ client ∷ []) → IsIdle sessions client
last sessions [] client all = All-head (IsIdle sessions) client [] all
last sessions (first ∷ rest) client all = last sessions rest client (All-tail (IsIdle sessions) first (rest ++ client ∷ []) all)

pub last_of : (sessions : ℕ) (idle rest : List Client) (client : Client) {new : Client} → All (IsIdle sessions) idle → idle ≡ rest ++ client ∷ [] → new ≡ client → IsIdle sessions new
last_of sessions idle rest client all are is = subst (λ (c : Client). IsIdle sessions c) (sym is) (last sessions rest client (subst (λ (l : List Client). All (IsIdle sessions) l) are all))

-- one more client that has done nothing
pub added : (sessions : ℕ) (idle new : List Client) (client : Client) → All (IsIdle sessions) idle → new ≡ idle ++ client ∷ [] → IsIdle sessions client → All (IsIdle sessions) new
added sessions idle new client all are is = subst (λ (l : List Client). All (IsIdle sessions) l) (sym are)
    (All-append (IsIdle sessions) idle (client ∷ []) all (All-cons (IsIdle sessions) client [] is (All-nil (IsIdle sessions))))

-- a client that is made anew
pub fresh : (sessions before : ℕ) (client : Client) → before < sessions
    → client ≡ fresh_client (sessions - before) → IsIdle sessions client
fresh sessions before client below is = subst (λ (c : Client). IsIdle sessions c) (sym is)
    (record { first = omega (arith, below); last = omega arith; none = refl; done = refl })

-- a store that was just opened, of which all sessions are idle
pub opened_held : (schema copy : Schema) (sessions keep : ℕ) (world first : World) (idle clients : List Client) → copy ≡ schema → world ≡ first
    → first ≡ opened (record { schema = copy; sessions = sessions; keep = keep }) → idle ≡ clients → All (IsIdle sessions) clients
    → IsHeldOf (record { schema = schema; sessions = sessions; keep = keep }) world idle
opened_held schema copy sessions keep world first idle clients same is opens are all =
    let whole : world ≡ opened (record { schema = schema; sessions = sessions; keep = keep }) =
    is ∙ opens ∙ ap (λ (s : Schema). opened (record { schema = s; sessions = sessions; keep = keep })) same in
    record {
      is_of = subst (λ (w : World). IsWorldOf (record { schema = schema; sessions = sessions; keep = keep }) w) (sym whole) (record { opened = refl; quiet = refl });
      are_idle = subst (λ (l : List Client). All (IsIdle sessions) l) (sym are) all;
    }

-- those that no worker has, lent out of what lies in the place
pub idle_then : (settings mid : Settings) (idle lent : List Client) → mid ≡ settings → lent ≡ idle → All (IsIdle settings.sessions) idle → All (IsIdle mid.sessions) lent
idle_then settings mid idle lent is same all =
    subst (λ (s : Settings). All (IsIdle s.sessions) lent) (sym is) (subst (λ (l : List Client). All (IsIdle settings.sessions) l) (sym same) all)

-- with a client put back it fits the place, too
pub held_back : (settings mid place : Settings) (before lent : World) (idle : List Client) → place ≡ mid → mid ≡ settings → lent ≡ before → IsWorldOf settings before
    → All (IsIdle mid.sessions) idle → IsHeldOf place lent idle
held_back settings mid place before lent idle here is same is_of all = held_after settings place lent idle idle (here ∙ is)
    (subst (λ (s : Settings). All (IsIdle s.sessions) idle) is all) refl (is_then settings before lent same is_of)

-- the client went back, or stayed where there was no memory
pub left_in : (old mid back new : Client) (came : Result ⊤ Fault) (Same : Type 0) (before lent : World) → mid ≡ old → new ≡ back → lent ≡ before
    → OnOk came (back.session ≡ 0) → OnErr came ((back ≡ mid) × Same) → IsOkUnless came faults.Memory → Leaves old new came before lent
left_in old mid back new (Ok done) Same before lent is given same ok err memory =
    record { ok = ap (λ (c : Client). c.session) given ∙ ok; err = tt; fault = tt; world = same }
left_in old mid back new (Err fault) Same before lent is given same ok err memory =
    record { ok = tt; err = given ∙ err.0 ∙ is; fault = memory; world = same }
