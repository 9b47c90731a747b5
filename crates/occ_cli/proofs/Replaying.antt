-- Exits and calls of a replay, over plain data.
use Rattle.std.proofs.Common.{IsErrAnd, IsTrue, ◌↔◌, Bool, false, ◌≡◌, ℕ, zero, suc, ◌-◌, ◌<◌, ◌⊎◌, List, length, get_or, Option, Some, Result, Ok, Err, refl, sym, ap, subst, ◌∙◌, inl, inr, arith, ◌≢◌, slice_get, slice_set, MatchOption, MatchResult, IsOkAnd, IfOk, OnErr, ok_or}
use Rattle.std.proofs.lemmas.Bool.{false≢true}
use Rattle.std.proofs.lemmas.Option.{slice_get_past, slice_get_read}
use Rattle.occ_cli.proofs.Common.{err_from_is_err_and, set-get_or, Fault, World, Event, Item, Reply, Step, item_of, Played, PlayedIn, PutOff, Starved, Plays, next_item, still_waiting, kept_after, Client, Replayed, Given, client_of, ByStore, ByClient, ByBoth, ByAsking, Enters, played}
use Rattle.occ_types.specs.declared.fault.Refused as code_refused
use Rattle.occ_types.specs.declared.fault.Fault.TheVariants as faults
use Rattle.occ_model.specs.Event as events
use Rattle.occ_core.specs.declared.steps.Step as code_step
use Rattle.occ_core.specs.declared.steps.Step.TheVariants as calls
use Rattle.occ_core.specs.declared.replies.Reply as code_reply
use Rattle.occ_core.specs.declared.replies.Reply.TheVariants as replies
use Rattle.occ_core.specs.Core.{Seen}
use Rattle.occ_core.specs.Runs.{Answers, IsPutOff, event_of, reply_of, handed_back, owed}
use Rattle.occ_queue.specs.declared.items.Item as code_item
use Rattle.occ_text.specs.Steps as steps
use Rattle.occ_cli.specs.declared.answers.Answer as code_answer
use Rattle.occ_cli.specs.declared.answers.Answer.TheVariants as answers
use Rattle.occ_cli.specs.Answers.{Answer, answer_of}
use Rattle.occ_cli.specs.Answers as says
use Rattle.occ_cli.proofs.Starving.{plays_starved}
use Rattle.occ_cli.proofs.StoreSteps.{refused_stays}

module _ {Z : Type 0} where
  -- a step was refused for want of memory
  starves : (old : Replayed) (step : steps.Step) (new : Replayed) (r : Result (code_answer.Answer Z) Fault) → played r ≡ says.refused faults.Memory
      → Played r (Starved old step new) (λ answer. Plays old step answer new) → Starved old step new
  starves old step new r is (inl memory) = memory.1
  starves old step new r is (inr so) =
      let plays = subst (λ (a : Answer). Plays old step a new) is so in
      plays_starved old step new (refused_stays old step faults.Memory new plays) plays

  -- memory wasn't refused
  plays_so : (old : Replayed) (step : steps.Step) (new : Replayed) (r : Result (code_answer.Answer Z) Fault) → played r ≢ says.refused faults.Memory
      → Played r (Starved old step new) (λ answer. Plays old step answer new) → Plays old step (played r) new
  plays_so old step new r other (inl memory) = absurd (other memory.0)
  plays_so old step new r other (inr so) = so

  -- a step is done that didn't want memory, and its answer is no want of it
  pub fed_so : (starved : Bool) (old : Replayed) (step : steps.Step) (new : Replayed) (r : Result (code_answer.Answer Z) Fault) → (IsTrue starved ↔ played r ≡ says.refused faults.Memory) → starved ≡ false
      → Played r (Starved old step new) (λ answer. Plays old step answer new) → Plays old step (played r) new × (played r ≢ says.refused faults.Memory)
  fed_so starved old step new r tells otherwise so =
      let fed : played r ≢ says.refused faults.Memory = λ (want : played r ≡ says.refused faults.Memory). false≢true (sym otherwise ∙ tells.1 want) in
      (plays_so old step new r fed so, fed)

  -- what a step ends with: its answer, unless that is a want of memory
  abbrev pub EndsWith : {E : Type 0} → Result (code_answer.Answer Z) E → Answer → Type 0
  EndsWith result given = MatchResult result (λ answer. (given ≢ says.refused faults.Memory) × (answer_of answer ≡ given)) (λ e. given ≡ says.refused faults.Memory)

  pub ends_ok : {E : Type 0} (old : Replayed) (step : steps.Step) (new : Replayed) (r : Result (code_answer.Answer Z) Fault) (result : Result (code_answer.Answer Z) E)
      → EndsWith result (played r) → Played r (Starved old step new) (λ answer. Plays old step answer new) → IfOk result (λ answer. Plays old step (answer_of answer) new)
  ends_ok old step new r (Ok answer) is so = subst (λ (a : Answer). Plays old step a new) (sym is.1) (plays_so old step new r is.0 so)
  ends_ok old step new r (Err e) is so = tt

  pub ends_fed : {E : Type 0} (given : Answer) (result : Result (code_answer.Answer Z) E) → EndsWith result given → IfOk result (λ answer. answer_of answer ≢ says.refused faults.Memory)
  ends_fed given (Ok answer) is = subst (λ (a : Answer). a ≢ says.refused faults.Memory) (sym is.1) is.0
  ends_fed given (Err e) is = tt

  pub ends_err : {E : Type 0} (old : Replayed) (step : steps.Step) (new : Replayed) (r : Result (code_answer.Answer Z) Fault) (result : Result (code_answer.Answer Z) E)
      → EndsWith result (played r) → Played r (Starved old step new) (λ answer. Plays old step answer new) → OnErr result (Starved old step new)
  ends_err old step new r (Ok answer) is so = tt
  ends_err old step new r (Err e) is so = starves old step new r is so

module _ {Z : Type 0} where
  -- an item that an entry or a serial end hands back is kept
  owed_kept : (session : ℕ) (item : code_item.Item Z) (reply : Reply)
      → (owed (calls.Enter session item) reply ≡ kept_after (item_of item) reply) × (owed (calls.SerialEnd session item) reply ≡ kept_after (item_of item) reply)
  owed_kept session item (events.Refused fault) = (refl, refl)
  owed_kept session item reply = (refl, refl)

  -- what the store replied to an item that it was handed
  pub record IsHandedOver (asks : Item → Event) (item : code_item.Item Z) (old : World) (reply : code_reply.Reply Z) (new : World) : Type 0 where
    pub step : Step old (asks (item_of item)) (reply_of reply) new
    pub back : handed_back reply ≡ kept_after (item_of item) (reply_of reply)

  pub by_entry : (old : Seen) (session : ℕ) (item : code_item.Item Z) (reply : code_reply.Reply Z) (new : Seen)
      → Answers old (calls.Enter session item) reply new → IsHandedOver (events.Enter session) item old.world reply new.world
  by_entry old session item reply new (inl step, back, _) = record { step = step; back = back ∙ (owed_kept session item (reply_of reply)).0 }
  by_entry old session item reply new (inr off, back, _) = absurd off

  pub by_serial_end : (old : Seen) (session : ℕ) (item : code_item.Item Z) (reply : code_reply.Reply Z) (new : Seen)
      → Answers old (calls.SerialEnd session item) reply new → IsHandedOver (events.SerialEnd session) item old.world reply new.world
  by_serial_end old session item reply new (inl step, back, _) = record { step = step; back = back ∙ (owed_kept session item (reply_of reply)).1 }
  by_serial_end old session item reply new (inr off, back, _) = absurd off

  module _ (asks : Item → Event) (old : World) (client : Client) (item : code_item.Item Z) (next : Client) (new : World) (is : Some (item_of item) ≡ next_item client) where
    -- what the store replied to the item that was next
    pub entered_so : (reply : code_reply.Reply Z) → IsHandedOver asks item old reply new
        → next ≡ record client { queue = still_waiting client; kept = handed_back reply } → Enters asks old client (says.Replied (reply_of reply)) next new
    entered_so reply over left =
        subst
        (λ (o : Option Item). MatchOption o ((says.Replied (reply_of reply) ≡ says.Empty) × (next ≡ client) × (new ≡ old))
        (λ i. (r : Reply) × Step old (asks i) r new × (says.Replied (reply_of reply) ≡ says.Replied r) × (next ≡ record client { queue = still_waiting client; kept = kept_after i r })))
        is (reply_of reply, over.step, refl, left ∙ ap (λ (k : Option Item). record client { queue = still_waiting client; kept = k }) over.back)

    -- the store refused it, and it is kept
    pub refused_so : (refused : code_refused.Refused (code_item.Item Z)) (known : Fault) → IsHandedOver asks item old (replies.RefusedItem refused) new → known ≡ refused.fault
        → next ≡ record client { queue = still_waiting client; kept = Some (item_of refused.value) } → Enters asks old client (says.Replied (events.Refused known)) next new
    refused_so refused known over told_as left =
        subst (λ (f : Fault). Enters asks old client (says.Replied (events.Refused f)) next new) (sym told_as) (entered_so (replies.RefusedItem refused) over left)

-- a step of the store that is never put off
pub never_off : {M P : Type 0} → (M × ⊥) ⊎ P → P
never_off (inl off) = absurd off.1
never_off (inr so) = so

-- a session that doesn't exist has no client
pub no_client : (clients : List Client) (session : ℕ) → (session ≡ 0) ⊎ ((session ≡ 0 → ⊥) × (length clients < session)) → client_of clients session ≡ Err faults.NoSession
no_client clients zero _ = refl
no_client clients (suc place) (inl none) = absurd (omega (arith, none))
no_client clients (suc place) (inr above) =
    let behind : length clients < suc place = above.1 in
    ap (λ (o : Option Client). ok_or o faults.NoSession) (slice_get_past clients place (omega arith))

-- the client of a session stands at its place
pub client_at : (clients : List Client) (session place : ℕ) (client : Client) → session ≡ suc place → place < length clients → client ≡ get_or clients place client → client_of clients session ≡ Ok client
client_at clients zero place client is lt at = absurd (omega arith)
client_at clients (suc p) place client is lt at =
    let same : p ≡ place = omega arith in
    ap (λ (k : ℕ). ok_or (slice_get clients k) faults.NoSession) same ∙ ap (λ (o : Option Client). ok_or o faults.NoSession) (slice_get_read clients (length clients) place client refl lt at)

-- a client in its own place changes nothing
set_same : (clients : List Client) (place : ℕ) (client next : Client) → client ≡ get_or clients place client → next ≡ client → slice_set clients place next ≡ clients
set_same clients place client next at same = ap (λ (c : Client). slice_set clients place c) (same ∙ at) ∙ set-get_or clients place client

-- the replay of a store with these clients
abbrev pub replay_of : List Client → Seen → Replayed
replay_of clients core = record { world = core.world; clients = clients }

module _ {Z : Type 0} where
  -- a call that is answered by what the store replied
  abbrev replying : code_reply.Reply Z → Result (code_answer.Answer Z) Fault
  replying reply = Ok (answers.Replied reply)

  -- a step of the store alone, which may be put off or not
  abbrev CalledBy : Type 0 → Replayed → Event → code_reply.Reply Z → Replayed → Type 0
  CalledBy Off old event reply new = Played (replying reply) Off (λ answer. ByStore old event answer new)

  stepped : (Off : Type 0) (old : Replayed) (event : Event) (reply : code_reply.Reply Z) (next : World) → Step old.world event (reply_of reply) next ⊎ ⊥ → CalledBy Off old event reply (record old { world = next })
  stepped Off old event reply next (inl step) = inr ((reply_of reply, step, refl), refl)
  stepped Off old event reply next (inr off) = absurd off

  write_stepped : (clients : List Client) (old : Seen) (session : ℕ) (reply : code_reply.Reply Z) (next : Seen) → Step old.world (events.WriteOne session) (reply_of reply) next.world ⊎ IsPutOff old (calls.WriteOne session) reply next
      → CalledBy (PutOff {Z = Z} (calls.WriteOne session) (replay_of clients old) (replay_of clients next)) (replay_of clients old) (events.WriteOne session) reply (replay_of clients next)
  write_stepped clients old session reply next (inl step) = inr ((reply_of reply, step, refl), refl)
  write_stepped clients old session (replies.Refused fault) next (inr off) = inl (ap says.refused off.2, ((off.0, off.1), ap (replay_of clients) off.3))
  write_stepped clients old session reply next (inr off) = absurd off

  by_call : (clients : List Client) (old : Seen) (call : code_step.Step Z) (reply : code_reply.Reply Z) (next : Seen) → Answers old call reply next → CalledBy (PutOff call (replay_of clients old) (replay_of clients next)) (replay_of clients old) (event_of call) reply (replay_of clients next)
  by_call clients old (calls.WriteOne session) reply next h = write_stepped clients old session reply next h.0
  by_call clients old call reply next h = stepped _ (replay_of clients old) (event_of call) reply next.world h.0

  -- the same of a replay that is seen so
  pub by_calling : (core : Seen) (clients : List Client) (self : Replayed) → replay_of clients core ≡ self → (call : code_step.Step Z) (reply : code_reply.Reply Z) (next : Seen) → Answers core call reply next
      → CalledBy (PutOff call self (replay_of clients next)) self (event_of call) reply (replay_of clients next)
  by_calling core clients self view call reply next h =
      subst (λ (s : Replayed). CalledBy (PutOff call s (replay_of clients next)) s (event_of call) reply (replay_of clients next)) view
      (by_call clients core call reply next h)

module _ {Z : Type 0} (world : World) (clients : List Client) (self : Replayed) (view : record { world = world; clients = clients } ≡ self) (r : Result (code_answer.Answer Z) Fault) where
  -- what the lemmas start from
  abbrev before : Replayed
  before = record { world = world; clients = clients }

  -- there is no such session
  no_seat : (shown : List Client) (session : ℕ) (f : Fault) (P : Answer → Client → Type 0) → shown ≡ clients → IsErrAnd r (λ e. e ≡ f) → client_of shown session ≡ Err f
      → Given (client_of self.clients session) self (played r) self (P (played r))
  no_seat shown session f P showing is none =
      let told = err_from_is_err_and r is in
      let seen : shown ≡ self.clients = showing ∙ ap (λ (s : Replayed). s.clients) view in
      let at : client_of self.clients session ≡ Err f = sym (ap (λ (l : List Client). client_of l session) seen) ∙ none in
      let refused : Given (client_of self.clients session) self (says.refused f) self (P (says.refused f)) =
      subst (λ (g : Result Client Fault). Given g self (says.refused f) self (P (says.refused f))) (sym at) (refl, refl) in
      subst (λ (x : Result (code_answer.Answer Z) Fault). Given (client_of self.clients session) self (played x) self (P (played x))) (sym (told.1 ∙ ap Err told.2)) refused

  -- a client that asks the store isn't there
  pub no_asker : (shown : List Client) (session : ℕ) (f : Fault) (Asks : Answer → Client → Type 0) → shown ≡ clients → IsErrAnd r (λ e. e ≡ f) → client_of shown session ≡ Err f
      → ByAsking self session (played r) self (Asks (played r))
  no_asker shown session f Asks showing is none = no_seat shown session f (λ answer c. Asks answer c × (self.clients ≡ self.clients)) showing is none

  -- a client that moves alone isn't there
  pub no_mover : (shown : List Client) (session : ℕ) (f : Fault) (Moves : Answer → Client → Client → Type 0) → shown ≡ clients → IsErrAnd r (λ e. e ≡ f) → client_of shown session ≡ Err f
      → ByClient self session (played r) self (Moves (played r))
  no_mover shown session f Moves showing is none =
      no_seat shown session f (λ answer c. (n : Client) × Moves answer c n × (self ≡ record self { clients = slice_set self.clients (session - 1) n })) showing is none

  -- a client that moves with the store isn't there
  pub no_partner : (shown : List Client) (session : ℕ) (f : Fault) (Moves : Answer → Client → Client → Type 0) → shown ≡ clients → IsErrAnd r (λ e. e ≡ f) → client_of shown session ≡ Err f
      → ByBoth self session (played r) self (Moves (played r))
  no_partner shown session f Moves showing is none =
      no_seat shown session f (λ answer c. (n : Client) × Moves answer c n × (self.clients ≡ slice_set self.clients (session - 1) n)) showing is none

  module _ (shown : List Client) (showing : shown ≡ clients) (session place : ℕ) (there : (session ≡ suc place) × (place < length shown)) (client : Client) (at : client ≡ get_or clients place client) where
    is_seated : client_of clients session ≡ Ok client
    is_seated = client_at clients session place client there.0 (subst (λ (l : List Client). place < length l) showing there.1) at

    is_place : place ≡ session - 1
    is_place = let is : session ≡ suc place = there.0 in omega arith

    -- there is a client, and the call does what it does with it
    seated : (new : Replayed) (P : Replayed → Answer → Client → Type 0) → P before (played r) client → Given (client_of self.clients session) self (played r) new (P self (played r))
    seated new P does =
        subst (λ (s : Replayed). Given (client_of s.clients session) s (played r) new (P s (played r))) view
        (subst (λ (g : Result Client Fault). Given g before (played r) new (P before (played r))) (sym is_seated) does)

    -- there is a client, of which that holds
    seated_so : (P : World → Client → Type 0) → P world client → IsOkAnd (client_of self.clients session) (P self.world)
    seated_so P so =
        subst (λ (s : Replayed). IsOkAnd (client_of s.clients session) (P s.world)) view
        (subst (λ (g : Result Client Fault). IsOkAnd g (P world)) (sym is_seated) so)

    -- a step of one client alone that takes no memory
    pub by_sure_client : (next : Client) (Moves : World → Answer → Client → Client → Type 0) → Moves world (played r) client next
        → ByClient self session (played r) (record { world = world; clients = slice_set clients place next }) (Moves self.world (played r))
    by_sure_client next Moves does =
        let after : Replayed = record { world = world; clients = slice_set clients place next } in
        let moved : after ≡ record before { clients = slice_set clients (session - 1) next } = ap (λ (k : ℕ). record before { clients = slice_set clients k next }) is_place in
        seated after (λ old answer c. (n : Client) × Moves old.world answer c n × (after ≡ record old { clients = slice_set old.clients (session - 1) n })) (next, does, moved)

    -- a step of one client alone
    pub by_client : (next : Client) (Wanting : World → Client → Type 0) (Moves : World → Answer → Client → Client → Type 0) → PlayedIn client next r (Wanting world client) (λ answer. Moves world answer client next)
        → PlayedIn self (record { world = world; clients = slice_set clients place next }) r (IsOkAnd (client_of self.clients session) (Wanting self.world)) (λ answer. ByClient self session answer (record { world = world; clients = slice_set clients place next }) (Moves self.world answer))
    by_client next Wanting Moves (inl memory) = inl (memory.0, (seated_so Wanting memory.1.0, ap (λ (l : List Client). record { world = world; clients = l }) (set_same clients place client next at memory.1.1) ∙ view))
    by_client next Wanting Moves (inr does) = inr (by_sure_client next Moves does)

    -- a step of a client that asks the store
    pub by_asking : (next : World) (Wanting : World → Client → Type 0) (Asks : World → Answer → Client → Type 0) → PlayedIn world next r (Wanting world client) (λ answer. Asks world answer client)
        → PlayedIn self (record { world = next; clients = clients }) r (IsOkAnd (client_of self.clients session) (Wanting self.world)) (λ answer. ByAsking self session answer (record { world = next; clients = clients }) (Asks self.world answer))
    by_asking next Wanting Asks (inl memory) = inl (memory.0, (seated_so Wanting memory.1.0, ap (λ (w : World). record { world = w; clients = clients }) memory.1.1 ∙ view))
    by_asking next Wanting Asks (inr does) = inr (seated (record { world = next; clients = clients }) (λ old answer c. Asks old.world answer c × (clients ≡ old.clients)) (does, refl))

    -- a step of a client with the store
    pub by_both : (next : Client) (later : World) (Moves : World → Answer → Client → Client → Type 0) → Moves world (played r) client next
        → ByBoth self session (played r) (record { world = later; clients = slice_set clients place next }) (Moves self.world (played r))
    by_both next later Moves does =
        let moved : slice_set clients place next ≡ slice_set clients (session - 1) next = ap (λ (k : ℕ). slice_set clients k next) is_place in
        seated (record { world = later; clients = slice_set clients place next })
        (λ old answer c. (n : Client) × Moves old.world answer c n × (slice_set clients place next ≡ slice_set old.clients (session - 1) n)) (next, does, moved)
