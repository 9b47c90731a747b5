-- A step that is played as a want of memory is one that may want it.
use Rattle.std.proofs.Common.{◌≡◌, ℕ, List, Option, Some, None, Result, Ok, Err, refl, sym, ap, subst, ◌∙◌, arith, Bool, true, false, is_some, IsSomeAnd, IsOkAnd, nat_lt, length, slice_set, ◌-◌, MatchOption, [], ◌∷◌}
use Rattle.occ_cli.proofs.Common.{lt-ltb, Question, One, Row, Schema, Fault, LogRow, rest, own, Write, World, latest, Event, Item, Reply, Operation, takes_memory, puts_next, has_writes_left, Step, starved, taken, Copied, Replayed, Client, Given, Wants, WantsGet, CopyWantsGet, WantsScan, Starved, Plays, ByBoth, Enters, StarvesItem, HandsIn, handed_in, operations_named, Abandons, Begins, Submits, Closes, Writes, Gets, Scans, Tells, next_item, still_waiting, kept_after, client_of, object_named, place_named, span_named, next_number, submitted, mark_of, check_key, check_question, unless, write_fault, written}
use Rattle.occ_types.specs.Object.{Object}
use Rattle.occ_open.specs.Transactions.{Unless}
use Rattle.occ_open.specs.Transactions as transactions
use Rattle.occ_types.specs.declared.fault.Fault.TheVariants as faults
use Rattle.occ_model.specs.State as states
use Rattle.occ_model.specs.Event as events
use Rattle.occ_model.specs.Step.{refused}
use Rattle.occ_model.proofs.Headlines.{not_told}
use Rattle.occ_text.specs.Steps as steps
use Rattle.occ_text.specs.declared.steps.Act.TheVariants as acts
use Rattle.occ_cli.specs.Answers.{Answer}
use Rattle.occ_cli.specs.Answers as says
use Rattle.occ_cli.proofs.OtherFaults.{is_want, wants, by_key, by_question, refusal_other, client_other, number_other, submitted_other, mark_other, write_other, handed_in_other}

-- the answer that tells of it
abbrev hungry : Answer
hungry = says.refused faults.Memory

-- the store starves only where nothing else refuses an event, and it takes memory
starved_store : (old new : World) (event : Event) (reply : Reply) → Step old event reply new → reply ≡ events.Refused faults.Memory → Wants old event × (new ≡ old)
starved_store old new event reply (refused fault why told same) is =
    let fault_is : fault ≡ faults.Memory = cc in
    let want : is_want (Some fault) ≡ true = ap (λ f. is_want (Some f)) fault_is in
    let other : is_want (Some fault) ≡ false = sym (ap is_want why) ∙ refusal_other old event in
    cc
starved_store old new event reply (starved none takes told same) is = ((none, takes), same)
starved_store old new event reply (taken none does) is = absurd (not_told old new event faults.Memory (subst (λ r. Rattle.occ_model.specs.Step.Taken old event r new) is does))

starved_told : (old new : World) (event : Event) → Tells old event hungry new → Wants old event × (new ≡ old)
starved_told old new event tells =
    let reply_is : tells.0 ≡ events.Refused faults.Memory = let said = tells.2 in cc in
    starved_store old new event tells.0 tells.1 reply_is

module _ {X : Type 0} where
  -- what isn't refused for it is not refused
  met : {Y : Type 0} (r : Result X Fault) (before after : Y) (P : X → Type 0) → wants r ≡ false → Given r before hungry after P → IsOkAnd r P
  met (Ok x) before after P other given = given
  met (Err fault) before after P other given =
      let said = given.0 in
      let fault_is : fault ≡ faults.Memory = cc in
      let want : wants {X = X} (Err fault) ≡ true = ap (λ f. wants {X = X} (Err f)) fault_is in
      cc

  and_so : (r : Result X Fault) (P Q : X → Type 0) → ((x : X) → P x → Q x) → IsOkAnd r P → IsOkAnd r Q
  and_so (Ok x) P Q so is = so x is
  and_so (Err fault) P Q so is = absurd is

  out_of : {Q : Type 0} (r : Result X Fault) (P : X → Type 0) → ((x : X) → P x → Q) → IsOkAnd r P → Q
  out_of (Ok x) P so is = so x is
  out_of (Err fault) P so is = absurd is

-- nothing changed where neither the store nor the clients did
unchanged : (old new : Replayed) → new.world ≡ old.world → new.clients ≡ old.clients → new ≡ old
unchanged old new world clients = λ i. record { world = world i; clients = clients i }

-- of the clients alone

no_begin : (counter : ℕ) (old new : Client) → Begins counter old hungry new → ⊥
no_begin counter old new begins = out_of (next_number old) _ (λ number said. let is = said.0 in cc is) (met (next_number old) old new _ (number_other old) begins)

no_submit : (old new : Client) → Submits old hungry new → ⊥
no_submit old new submits = out_of (submitted old) _ (λ copy said. let is = said.0 in cc is) (met (submitted old) old new _ (submitted_other old) submits)

no_close : (old new : Client) → Closes old hungry new → ⊥
no_close old new closes = out_of (mark_of old) _ (λ number said. let is = said.0 in cc is) (met (mark_of old) old new _ (mark_other old) closes)

no_list : (schema : Schema) (list : List Operation) (old new : Client) → HandsIn schema list old hungry new → ⊥
no_list schema list old new hands = out_of (handed_in schema list old) _ (λ number said. let is = said.0 in cc is) (met (handed_in schema list old) old new _ (handed_in_other schema list old) hands)

no_write : (schema : Schema) (object : Object) (row : Option Row) (old new : Client) → Writes schema object row old hungry new → ⊥
no_write schema object row old new writes =
    let write : Result (Option Copied) Fault = unless (write_fault schema object row old.copy) (written old.copy object row) in
    out_of write _ (λ next said. let is = said.0 in cc is) (met write old new _ (write_other schema object row old) writes)

-- of the store

starves_item : (asks : Item → Event) (old new : World) (client next : Client) (item : Option Item)
    → MatchOption item ((hungry ≡ says.Empty) × (next ≡ client) × (new ≡ old))
    (λ i. (reply : Reply) × Step old (asks i) reply new × (hungry ≡ says.Replied reply) × (next ≡ record client { queue = still_waiting client; kept = kept_after i reply }))
    → IsSomeAnd item (λ i. Wants old (asks i) × (next ≡ record client { queue = still_waiting client; kept = Some i })) × (new ≡ old)
starves_item asks old new client next None h = let is = h.0 in cc is
starves_item asks old new client next (Some i) h =
    let said = h.2 in
    let reply_is : h.0 ≡ events.Refused faults.Memory = cc in
    let starves = starved_store old new (asks i) h.0 h.1 reply_is in
    ((starves.0, h.3 ∙ ap (λ r. record client { queue = still_waiting client; kept = kept_after i r }) reply_is), starves.1)

starves_both : (asks : Item → Event) (old : Replayed) (session : ℕ) (new : Replayed) → new.world ≡ old.world
    → ByBoth old session hungry new (λ client next. Enters asks old.world client hungry next new.world)
    → IsOkAnd (client_of old.clients session) (λ client. (next : Client) × StarvesItem asks old.world client next × (new ≡ record old { clients = slice_set old.clients (session - 1) next }))
starves_both asks old session new same h = and_so (client_of old.clients session) _ _
    (λ client m. (m.0, (starves_item asks old.world new.world client m.0 (next_item client) m.1).0, λ i. record { world = same i; clients = m.2 i }))
    (met (client_of old.clients session) old new _ (client_other old.clients session) h)

-- a reply that tells of it
reply_of_want : (reply : Reply) → hungry ≡ says.Replied reply → reply ≡ events.Refused faults.Memory
reply_of_want reply told = cc

-- what isn't refused for it goes on
fed : (fault : Option Fault) (old new : World) (reply : Reply) (Goes : Type 0) → is_want fault ≡ false → reply ≡ events.Refused faults.Memory → Unless fault old reply new Goes → (fault ≡ None) × Goes
fed None old new reply Goes other is goes = (refl, goes)
fed (Some fault) old new reply Goes other is goes =
    let said = goes.0 in
    let fault_is : fault ≡ faults.Memory = cc in
    let want : is_want (Some fault) ≡ true = ap (λ f. is_want (Some f)) fault_is in
    cc

wants_get : (old new : World) (session : ℕ) (object : Object) (client : Client) → Gets old session object client hungry new → WantsGet old session object client
wants_get old new session object client gets = go client.copy gets.1
  where
    starving : gets.0 ≡ events.Refused faults.Memory
    starving = reply_of_want gets.0 gets.2

    own_row : (event : Event) (row : Option (Option Row)) → MatchOption row (Step old event gets.0 new) (λ r. (gets.0 ≡ events.Answered (states.Found r)) × (new ≡ old)) → MatchOption row (Wants old event) (λ r. is_some r ≡ true)
    own_row event None m = (starved_store old new event gets.0 m starving).0
    own_row event (Some r) m = let is = m.0 in let want = starving in cc

    go : (copy : Option Copied) → transactions.Gets old session object copy gets.0 new → IsSomeAnd copy (CopyWantsGet old session object)
    go None g = let is = g.0 in let want = starving in cc
    go (Some copy) g =
        let f = fed (check_key old.settings.schema object.0 object.1) old new gets.0 _ (by_key old.settings.schema object.0 object.1) starving g in
        (f.0, own_row (events.Read session copy.number copy.start (One object.0 object.1)) (own copy.writes object) f.1)

wants_scan : (old new : World) (session : ℕ) (question : Question) (client : Client) → Scans old session question client hungry new → WantsScan old question client
wants_scan old new session question client scans = go client.copy scans.1
  where
    starving : scans.0 ≡ events.Refused faults.Memory
    starving = reply_of_want scans.0 scans.2

    go : (copy : Option Copied) → transactions.Scans old session question copy scans.0 new → IsSomeAnd copy (λ c. check_question old.settings.schema question ≡ None)
    go None g = let is = g.0 in let want = starving in cc
    go (Some copy) g = (fed (check_question old.settings.schema question) old new scans.0 _ (by_question old.settings.schema question) starving g).0

-- a write that would put a row is left
put_left : (world : World) (session : ℕ) → puts_next world session ≡ true → has_writes_left world session ≡ true
put_left world session puts = go (latest session world.log) puts
  where
    of_rest : (writes : List Write) → (elim writes as (λ _. Bool) [ [] ↦ false | write ∷ others ↦ is_some write.1 ]) ≡ true → nat_lt 0 (length writes) ≡ true
    of_rest [] is = cc
    of_rest (write ∷ others) is = lt-ltb 0 (length (write ∷ others)) (omega arith)

    go : (o : Option LogRow) → (elim o as (λ _. Bool) [ None ↦ false | Some row ↦ elim (rest row) as (λ _. Bool) [ [] ↦ false | write ∷ others ↦ is_some write.1 ] ]) ≡ true
        → (elim o as (λ _. Bool) [ None ↦ false | Some row ↦ nat_lt 0 (length (rest row)) ]) ≡ true
    go None is = cc
    go (Some row) is = of_rest (rest row) is

-- an event that takes no memory
never : (old new : World) (event : Event) → takes_memory old event ≡ false → Tells old event hungry new → ⊥
never old new event takes tells = let wants_it = (starved_told old new event tells).0.1 in cc

no_abandon : (old new : World) (session : ℕ) (client next : Client) → Abandons old session client hungry next new → ⊥
no_abandon old new session client next h = go client.copy h.1.0
  where
    go : (copy : Option Copied) → transactions.Abandons old session copy h.0 new → ⊥
    go None g = let is = g.0 in let want = reply_of_want h.0 h.2 in cc
    go (Some c) g = never old new (events.Forget session c.number) refl (h.0, g, h.2)

-- whatever is played so is a step that may want memory
pub plays_starved : (old : Replayed) (step : steps.Step) (new : Replayed) → new.world ≡ old.world → Plays old step (says.refused faults.Memory) new → Starved old step new
plays_starved old (steps.Does acts.Begin session) new same h = out_of (client_of old.clients session) _ (λ client m. no_begin old.world.counter client m.0 m.1) (met (client_of old.clients session) old new _ (client_other old.clients session) h)
plays_starved old (steps.Does acts.Abandon session) new same h = out_of (client_of old.clients session) _ (λ client m. no_abandon old.world new.world session client m.0 m.1) (met (client_of old.clients session) old new _ (client_other old.clients session) h)
plays_starved old (steps.Does acts.Submit session) new same h = out_of (client_of old.clients session) _ (λ client m. no_submit client m.0 m.1) (met (client_of old.clients session) old new _ (client_other old.clients session) h)
plays_starved old (steps.Does acts.Close session) new same h = out_of (client_of old.clients session) _ (λ client m. no_close client m.0 m.1) (met (client_of old.clients session) old new _ (client_other old.clients session) h)
plays_starved old (steps.Does acts.Enter session) new same h = starves_both (events.Enter session) old session new same h
plays_starved old (steps.Does acts.Serial session) new same h = starves_both (events.SerialEnd session) old session new same h
plays_starved old (steps.Does acts.Decide session) new same h = never old.world new.world (events.Decide session) refl h.0
plays_starved old (steps.Does acts.Write session) new same h =
    let starves = (starved_told old.world new.world (events.WriteOne session) h.0).0 in
    ((starves.0, put_left old.world session starves.1), unchanged old new same h.1)
plays_starved old (steps.Does acts.Finish session) new same h = never old.world new.world (events.Finish session) refl h.0
plays_starved old (steps.Does acts.BackUp session) new same h = never old.world new.world (events.BackUp session) refl h.0
plays_starved old (steps.Get session name key) new same h =
    let asks = met (client_of old.clients session) old new _ (client_other old.clients session) h in
    (and_so (client_of old.clients session) _ _ (λ client m. wants_get old.world new.world session (object_named old.world.settings.schema name key) client m.0) asks, unchanged old new same (out_of (client_of old.clients session) _ (λ client m. m.1) asks))
plays_starved old (steps.Scan session name lower upper) new same h =
    let asks = met (client_of old.clients session) old new _ (client_other old.clients session) h in
    (and_so (client_of old.clients session) _ _ (λ client m. wants_scan old.world new.world session (span_named old.world.settings.schema name lower upper) client m.0) asks, unchanged old new same (out_of (client_of old.clients session) _ (λ client m. m.1) asks))
plays_starved old (steps.Put session name key row) new same h = absurd (out_of (client_of old.clients session) _ (λ client m. no_write old.world.settings.schema (object_named old.world.settings.schema name key) (Some row) client m.0 m.1) (met (client_of old.clients session) old new _ (client_other old.clients session) h))
plays_starved old (steps.Delete session name key) new same h = absurd (out_of (client_of old.clients session) _ (λ client m. no_write old.world.settings.schema (object_named old.world.settings.schema name key) None client m.0 m.1) (met (client_of old.clients session) old new _ (client_other old.clients session) h))
plays_starved old (steps.Forge session number start) new same h =
    ((starved_told old.world new.world (events.Enter session (events.Request number start [])) h.0).0, unchanged old new same h.1)
plays_starved old (steps.RawRead session number start name key) new same h =
    ((starved_told old.world new.world (events.Read session number start (One (place_named old.world.settings.schema name) key)) h.0).0, unchanged old new same h.1)
plays_starved old (steps.Alone session list) new same h = absurd (out_of (client_of old.clients session) _ (λ client m. no_list old.world.settings.schema (operations_named old.world.settings.schema list) client m.0 m.1) (met (client_of old.clients session) old new _ (client_other old.clients session) h))
plays_starved old steps.Show new same h = let is = h.0 in cc is
plays_starved old steps.Checkpoint new same h = ((starved_told old.world new.world events.Checkpoint h.0).0, unchanged old new same h.1)
