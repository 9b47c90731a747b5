-- A client's end of a transaction, by whether the one before it was in its write phase.
use Rattle.std.proofs.Common.{◌≡◌, ℕ, Bool, true, false, cond, Option, None, Some, refl, sym, ap, subst, ◌∙◌, MatchOption}
use Rattle.occ_types.specs.declared.fault.Fault.{Fault}
use Rattle.occ_types.specs.declared.fault.Fault.TheVariants as faults
use Rattle.occ_model.specs.World.{World}
use Rattle.occ_model.specs.Event.{Event, Reply, Refused}
use Rattle.occ_model.specs.Step.{Step}
use Rattle.occ_sets.specs.Sets.{Copied}
use Rattle.occ_client.specs.Clients.{Client, close_refusal, HasNext, Commits, CommitsNext, after_end, count_end, spent, IsLastEnd}
use Rattle.occ_client.specs.Ends.{Ends, WritesOut, is_refusal}
use Rattle.occ_client.specs.declared.ending.End.{End}
use Rattle.occ_client.specs.declared.ending.End.TheVariants as ends
use Rattle.occ_open.specs.Transactions.{Unless}

-- the write phase goes on
pub goes_on : (client : Client) (old : World) (stopped : Bool) (reply : Reply) (new : World) → client.writing ≡ true
    → WritesOut client.session old reply new → stopped ≡ is_refusal reply → Commits client old stopped reply new
goes_on client old stopped reply new on phase is = subst (λ (b : Bool). CommitsNext b client old stopped reply new) (sym on) (phase, is)

-- the open transaction ends
pub one_ends : (client : Client) (old : World) (stopped : Bool) (reply : Reply) (new : World) → client.writing ≡ false
    → MatchOption client.current ((reply ≡ Refused faults.NoReadOpen) × (new ≡ old) × (stopped ≡ false)) (λ copy. Ends client.session copy old stopped reply new)
    → Commits client old stopped reply new
one_ends client old stopped reply new off ended = subst (λ (b : Bool). CommitsNext b client old stopped reply new) (sym off) ended

-- ---- the client then

none_writing : (next : ℕ) (writing : Bool) (current : Option Copied) → HasNext next writing current → writing ≡ true → current ≡ None
none_writing next writing None has on = refl
none_writing next writing (Some copy) has on = cc

pub phase_done : (inside client : Client) → inside ≡ client → HasNext inside.next inside.writing inside.current → client.writing ≡ true
    → record inside { writing = false } ≡ record client { current = None; writing = false }
phase_done inside client is has on =
    ap (λ (c : Option Copied). record inside { current = c; writing = false }) (none_writing inside.next inside.writing inside.current has (ap (λ (c : Client). c.writing) is ∙ on))
    ∙ ap (λ (c : Client). record c { current = None; writing = false }) is

pub after_phase : (end : End) (client new : Client) → client.writing ≡ true → new ≡ count_end end (record client { current = None; writing = false }) → new ≡ after_end end client
after_phase end client new on is = is ∙ sym (ap (λ (b : Bool). count_end end (cond b (record client { current = None; writing = false }) (spent client))) on)

pub after_one : (end : End) (client new : Client) → client.writing ≡ false → new ≡ count_end end (spent client) → new ≡ after_end end client
after_one end client new off is = is ∙ sym (ap (λ (b : Bool). count_end end (cond b (record client { current = None; writing = false }) (spent client))) off)

-- none is open after an end
pub none_after : (end : End) (client new : Client) → new ≡ after_end end client → new.current ≡ None
none_after end client new is = ap (λ (c : Client). c.current) is ∙ same end (cond client.writing (record client { current = None; writing = false }) (spent client)) ∙ go client.writing
  where
    same : (end : End) (c : Client) → (count_end end c).current ≡ c.current
    same (ends.Committed tn) c = refl
    same (ends.BackedUp cause) c = refl

    go : (b : Bool) → (cond b (record client { current = None; writing = false }) (spent client)).current ≡ None
    go true = refl
    go false = refl

pub last_end : (client : Client) (before : World) (stopped : Bool) (reply : Reply) (world : World) → Commits client before stopped reply world → IsLastEnd reply world
last_end client before stopped reply world ends = record { before = before; client = client; stopped = stopped; ends = ends }

-- ---- closing and abandoning

-- nothing hinders the closing mark of a client, nor what it runs alone
pub unhindered : (event : ℕ → ℕ → Event) (inside client : Client) → inside ≡ client → (old : World) (reply : Reply) (new : World) → None ≡ close_refusal client
    → Step old (event inside.session inside.next) reply new
    → Unless (close_refusal client) old reply new (Step old (event client.session client.next) reply new)
unhindered event inside client is old reply new free step =
    subst (λ (f : Option Fault). Unless f old reply new (Step old (event client.session client.next) reply new)) free
    (subst (λ (c : Client). Step old (event c.session c.next) reply new) is step)
