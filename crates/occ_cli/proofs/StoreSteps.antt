-- What a step of a replay does to the store: nothing, or one step of it.
use Rattle.std.proofs.Common.{◌≡◌, ℕ, ◌-◌, List, [], Option, Some, None, Result, Ok, Err, refl, sym, ◌∙◌, ap, subst, inl, inr, slice_set, MatchOption}
use Rattle.occ_cli.proofs.Common.{Fault, Write, Event, Item, Reply, Step, Question, One, Row, own, Copied, AtMostOneStep, Plays, Begins, Abandons, Submits, Closes, HandsIn, operations_named, Writes, Gets, Scans, next_item, still_waiting, kept_after, object_named, place_named, Client, Replayed, Given, client_of, span_named, Tells, ByClient, ByBoth, ByAsking, Enters, check_key, check_question, overlaid}
use Rattle.occ_types.specs.Object.{Object}
use Rattle.occ_open.specs.Transactions.{Unless}
use Rattle.occ_open.specs.Transactions as transactions
use Rattle.occ_model.specs.State as states
use Rattle.occ_model.specs.Event as events
use Rattle.occ_model.proofs.Headlines.{refusals_leave}
use Rattle.occ_text.specs.Steps as steps
use Rattle.occ_text.specs.declared.steps.Act.TheVariants as acts
use Rattle.occ_cli.specs.Answers.{Answer}
use Rattle.occ_cli.specs.Answers as says

-- where a refusal is answered, the store replied it
abbrev pub IsSaid : Answer → Reply → Type 0
IsSaid answer reply = (fault : Fault) → answer ≡ says.refused fault → reply ≡ events.Refused fault

told_said : (reply : Reply) (answer : Answer) → answer ≡ says.Replied reply → IsSaid answer reply
told_said reply answer tells fault is = cc

-- the own writes leave a refusal as it is
overlaid_refused : (question : Question) (writes : List Write) (reply : Reply) (fault : Fault) → overlaid question writes reply ≡ events.Refused fault → reply ≡ events.Refused fault
overlaid_refused question writes (events.Answered given) fault is = cc
overlaid_refused question writes reply fault is = is

-- whatever is played, the store stands as it was, or it did one step, whose refusal is answered as such
module _ {C : Type 0} (old new : Replayed) (answer : Answer) (stays : new.world ≡ old.world → C) (does : (event : Event) (reply : Reply) → Step old.world event reply new.world → IsSaid answer reply → C) where
  given_by : {X Y : Type 0} (r : Result X Fault) (before after : Y) (P : X → Type 0) → (after ≡ before → new.world ≡ old.world) → ((x : X) → P x → C) → Given r before answer after P → C
  given_by (Ok x) before after P same by h = by x h
  given_by (Err fault) before after P same by h = stays (same h.1)

  tells_by : (event : Event) → Tells old.world event answer new.world → C
  tells_by event h = does event h.0 h.1 (told_said h.0 answer h.2)

  -- the same of what the open transaction is replied
  module _ (reply : Reply) (told : answer ≡ says.Replied reply) where
    unless_by : (fault : Option Fault) (Goes : Type 0) → (Goes → C) → Unless fault old.world reply new.world Goes → C
    unless_by None Goes by h = by h
    unless_by (Some fault) Goes by h = stays h.1

    own_by : (event : Event) (row : Option (Option Row)) → MatchOption row (Step old.world event reply new.world) (λ r. (reply ≡ events.Answered (states.Found r)) × (new.world ≡ old.world)) → C
    own_by event None h = does event reply h (told_said reply answer told)
    own_by event (Some row) h = stays h.1

    got_by : (session : ℕ) (object : Object) (copy : Option Copied) → transactions.Gets old.world session object copy reply new.world → C
    got_by session object None h = stays h.1
    got_by session object (Some copy) h =
        unless_by (check_key old.world.settings.schema object.0 object.1) _ (own_by (events.Read session copy.number copy.start (One object.0 object.1)) (own copy.writes object)) h

    scanned_by : (session : ℕ) (question : Question) (copy : Option Copied) → transactions.Scans old.world session question copy reply new.world → C
    scanned_by session question None h = stays h.1
    scanned_by session question (Some copy) h = unless_by (check_question old.world.settings.schema question) _
        (λ m. does (events.Read session copy.number copy.start question) m.0 m.1 (λ fault is. overlaid_refused question copy.writes m.0 fault (sym m.2 ∙ told_said reply answer told fault is))) h

    abandoned_by : (session : ℕ) (copy : Option Copied) → transactions.Abandons old.world session copy reply new.world → C
    abandoned_by session None h = stays h.1
    abandoned_by session (Some copy) h = does (events.Forget session copy.number) reply h (told_said reply answer told)

  item_by : (asks : Item → Event) (client next : Client) (item : Option Item)
      → MatchOption item ((answer ≡ says.Empty) × (next ≡ client) × (new.world ≡ old.world))
      (λ i. (reply : Reply) × Step old.world (asks i) reply new.world × (answer ≡ says.Replied reply) × (next ≡ record client { queue = still_waiting client; kept = kept_after i reply }))
      → C
  item_by asks client next None h = stays h.2
  item_by asks client next (Some i) h = does (asks i) h.0 h.1 (told_said h.0 answer h.2)

  both_by : (session : ℕ) (Moves : Client → Client → Type 0) → ((client next : Client) → Moves client next → C) → ByBoth old session answer new Moves → C
  both_by session Moves by h =
      given_by (client_of old.clients session) old new (λ client. (next : Client) × Moves client next × (new.clients ≡ slice_set old.clients (session - 1) next))
      (ap (λ (r : Replayed). r.world)) (λ client m. by client m.0 m.1) h

  client_by : (session : ℕ) (Moves : Client → Client → Type 0) → ByClient old session answer new Moves → C
  client_by session Moves h =
      given_by (client_of old.clients session) old new (λ client. (next : Client) × Moves client next × (new ≡ record old { clients = slice_set old.clients (session - 1) next }))
      (ap (λ (r : Replayed). r.world)) (λ client m. stays (ap (λ (r : Replayed). r.world) m.2)) h

  asking_by : (session : ℕ) (Asks : Client → Type 0) → ((client : Client) → Asks client → C) → ByAsking old session answer new Asks → C
  asking_by session Asks by h =
      given_by (client_of old.clients session) old new (λ client. Asks client × (new.clients ≡ old.clients)) (ap (λ (r : Replayed). r.world)) (λ client m. by client m.0) h

  pub plays_by : (step : steps.Step) → Plays old step answer new → C
  plays_by (steps.Does acts.Begin session) h = client_by session (λ client next. Begins old.world.counter client answer next) h
  plays_by (steps.Does acts.Abandon session) h =
      both_by session (λ client next. Abandons old.world session client answer next new.world) (λ client next m. abandoned_by m.0 m.2 session client.copy m.1.0) h
  plays_by (steps.Does acts.Submit session) h = client_by session (λ client next. Submits client answer next) h
  plays_by (steps.Does acts.Close session) h = client_by session (λ client next. Closes client answer next) h
  plays_by (steps.Does acts.Enter session) h =
      both_by session (λ client next. Enters (events.Enter session) old.world client answer next new.world) (λ client next m. item_by (events.Enter session) client next (next_item client) m) h
  plays_by (steps.Does acts.Serial session) h =
      both_by session (λ client next. Enters (events.SerialEnd session) old.world client answer next new.world) (λ client next m. item_by (events.SerialEnd session) client next (next_item client) m) h
  plays_by (steps.Does acts.Decide session) h = tells_by (events.Decide session) h.0
  plays_by (steps.Does acts.Write session) h = tells_by (events.WriteOne session) h.0
  plays_by (steps.Does acts.Finish session) h = tells_by (events.Finish session) h.0
  plays_by (steps.Does acts.BackUp session) h = tells_by (events.BackUp session) h.0
  plays_by (steps.Get session name key) h =
      asking_by session (λ client. Gets old.world session (object_named old.world.settings.schema name key) client answer new.world) (λ client g. got_by g.0 g.2 session (object_named old.world.settings.schema name key) client.copy g.1) h
  plays_by (steps.Scan session name lower upper) h =
      asking_by session (λ client. Scans old.world session (span_named old.world.settings.schema name lower upper) client answer new.world) (λ client g. scanned_by g.0 g.2 session (span_named old.world.settings.schema name lower upper) client.copy g.1) h
  plays_by (steps.Put session name key row) h = client_by session (λ client next. Writes old.world.settings.schema (object_named old.world.settings.schema name key) (Some row) client answer next) h
  plays_by (steps.Delete session name key) h = client_by session (λ client next. Writes old.world.settings.schema (object_named old.world.settings.schema name key) None client answer next) h
  plays_by (steps.Forge session number start) h = tells_by (events.Enter session (events.Request number start [])) h.0
  plays_by (steps.RawRead session number start name key) h = tells_by (events.Read session number start (One (place_named old.world.settings.schema name) key)) h.0
  plays_by (steps.Alone session list) h =
      client_by session (λ client next. HandsIn old.world.settings.schema (operations_named old.world.settings.schema list) client answer next) h
  plays_by steps.Show h = stays (ap (λ (r : Replayed). r.world) h.1)
  plays_by steps.Checkpoint h = tells_by events.Checkpoint h.0

-- whatever is played, the store does at most one step
pub plays_steps : (old : Replayed) (step : steps.Step) (answer : Answer) (new : Replayed) → Plays old step answer new → AtMostOneStep old.world new.world
plays_steps old step answer new h =
    plays_by {C = AtMostOneStep old.world new.world} old new answer (λ same. inl same) (λ event reply stepped said. inr (event, reply, stepped)) step h

-- where a refusal is played, the store stands as it was
pub refused_stays : (old : Replayed) (step : steps.Step) (fault : Fault) (new : Replayed) → Plays old step (says.refused fault) new → new.world ≡ old.world
refused_stays old step fault new h =
    plays_by {C = new.world ≡ old.world} old new (says.refused fault) (λ same. same)
    (λ event reply stepped said. refusals_leave old.world new.world event fault (subst (λ (r : Reply). Step old.world event r new.world) (said fault refl) stepped)) step h
