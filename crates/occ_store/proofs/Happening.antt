-- What the events do, seen from outside.
use Rattle.std.proofs.Common.{◌≡◌, ℕ, Option, None, Some, Result, Ok, Err, inl, inr, List, [], ◌∷◌, ◌++◌, refl, ap, sym, ◌∙◌, subst}
use Rattle.boxcar.specs.Table.{Where}
use Rattle.occ_types.specs.declared.fault.Fault.{Fault}
use Rattle.occ_types.specs.Object.{Object}
use Rattle.occ_model.specs.Log.{Case}
use Rattle.occ_model.specs.World.{World}
use Rattle.occ_model.specs.Event.{Item, Event, Enter, Decide, BackUp, Reply, Decided, Wrote, NoMore}
use Rattle.occ_model.specs.declared.verdict.Cause.{Cause}
use Rattle.occ_board.specs.declared.words.Words.{Words}
use Rattle.occ_model.specs.Replies.{replied}
use Rattle.occ_core.specs.Replies.{wrote, written_in}
use Rattle.occ_core.specs.declared.writing.SingleWrite.{SingleWrite}
use Rattle.occ_core.specs.declared.writing.SingleWrite.TheVariants as writes
use Rattle.occ_types.specs.declared.fault.Fault.TheVariants.{WrongCase}
use Rattle.occ_model.specs.declared.verdict.Verdict.{Verdict}
use Rattle.occ_filed.specs.Filed.{Filed, Moves, Enters, DecidesBy}
use Rattle.occ_store.specs.Lanes.{DecidesAs}
use Rattle.occ_store.proofs.Keeping.{judged_step}
use Rattle.occ_store.specs.Locked.{Locked, IsVisitor, stored, Happens, Tells, ReadsSo, IsSameBeside, EntersAs, BacksUp}
use Rattle.occ_store.specs.Locked.{told as words_told}
use Rattle.occ_store.specs.Names.{Named, opened_as}
use mathlib.Core.List.{IsPrefix}
use Rattle.occ_model.specs.Step.{Step, Run}
use Rattle.occ_history.specs.History.{Happened, FrontView, StoryView, IsWhole, adding}
use Rattle.occ_history.proofs.Standing.{run-more}

-- what is replied by a value is stored as the value says
pub stored_by : {X : Type 0} (words : Words) (session : ℕ) (answer : X → Reply) (result : Result X Fault) → ((x : X) → stored words session (answer x) ≡ words)
    → stored words session (replied answer result) ≡ words
stored_by words session answer (Ok x) same = same x
stored_by words session answer (Err fault) same = refl

-- a single write stores nothing
pub stored_write : (words : Words) (session : ℕ) (world : World) (write : SingleWrite) → stored words session (wrote world write) ≡ words
stored_write words session world (writes.Wrote row write) = go (written_in world row write)
  where
    go : (o : Option Object) → stored words session (elim o as (λ _. Reply) [ None ↦ NoMore | Some object ↦ Wrote object ]) ≡ words
    go None = refl
    go (Some object) = refl
stored_write words session world writes.NoMore = refl

-- what is answered, and stored nowhere, moves the world and the totals alone
pub same_beside : {X : Type 0} (me now : FrontView) (old new : Locked) (session : ℕ) (event : Event) (answer : X → Reply) (result : Result X Fault)
    → ((x : X) → stored old.words session (answer x) ≡ old.words) → Happens me old session event (replied answer result) now new → IsSameBeside old new
same_beside me now old new session event answer result same happened = record {
  words = happened.1 ∙ stored_by old.words session answer result same;
  file = ap (λ (f : Filed). f.file) happened.0.1;
  tokens = ap (λ (f : Filed). f.tokens) happened.0.1;
}

-- so it reads so, where it is who visits
pub reads_so : {X : Type 0} (old new : Locked) (session : ℕ) (event : Event) (answer : X → Reply) (result : Result X Fault)
    → ((x : X) → stored old.words session (answer x) ≡ old.words) → Happens old.visitor old session event (replied answer result) new.visitor new → ReadsSo old event (replied answer result) new
reads_so old new session event answer result same happened = (same_beside old.visitor new.visitor old new session event answer result same happened, happened.2)

-- the story leads on by an event
pub ran_on : (named : Named) (story after : StoryView) (old new : World) (event : Event) (reply : Reply)
    → Run (opened_as named) story.log old → Step old event reply new → after ≡ record story { log = story.log ++ (event, reply) ∷ [] } → Run (opened_as named) after.log new
ran_on named story after old new event reply ran step added =
    subst (λ (s : StoryView). Run (opened_as named) s.log new) (sym added) (run-more story.log event reply (opened_as named) old new ran step)

-- the same where the event that was told is the same as another
pub ran_on_so : (named : Named) (story after : StoryView) (old new : World) (event other : Event) (reply : Reply) → event ≡ other
    → Run (opened_as named) story.log old → Step old other reply new → after ≡ record story { log = story.log ++ (event, reply) ∷ [] } → Run (opened_as named) after.log new
ran_on_so named story after old new event other reply same ran step = ran_on named story after old new event reply ran (subst (λ e. Step old e reply new) (sym same) step)

-- who has added an event was not lent out
pub still_here : (me now : FrontView) (log : List Happened) (happened : Happened) (reading : ℕ) → IsVisitor me.party reading → now ≡ adding me log happened → IsVisitor now.party reading
still_here me now log happened reading here seen = subst (λ (f : FrontView). IsVisitor f.party reading) (sym seen) here

module _ (filed : Filed) (words : Words) (story : StoryView) (visitor : FrontView) (old : Locked)
    (is : ◌≡◌ {A = Locked} (record { filed = filed; words = words; story = story; visitor = visitor }) old)
    (me now : FrontView) (new : Filed) (after : Words) (told : StoryView) (visits : FrontView) (event : Event) (reply : Reply)
    (added : told ≡ record story { log = story.log ++ (event, reply) ∷ [] }) (before : IsPrefix me.seen story.log) (whole : IsWhole me story.log) (seen : now ≡ adding me story.log (event, reply)) where
  tells : Step filed.world event reply new.world
      → Tells me (record { filed = filed; words = words; story = story; visitor = visitor }) event reply now (record { filed = new; words = after; story = told; visitor = visits })
  tells step = record { step = step; told = added; before = before; whole = whole; seen = seen }

  pub happens : (session : ℕ) → after ≡ stored words session reply → Moves filed event reply new
      → Happens me old session event reply now (record { filed = new; words = after; story = told; visitor = visits })
  happens session stores moves =
      subst (λ o. Happens me o session event reply now (record { filed = new; words = after; story = told; visitor = visits })) is (moves, stores, tells moves.0)

  -- told by an event that is the same
  pub happens_so : (other : Event) → event ≡ other → (session : ℕ) → after ≡ stored words session reply → Moves filed other reply new
      → Happens me old session other reply now (record { filed = new; words = after; story = told; visitor = visits })
  happens_so other same session stores moves =
      subst (λ e. Happens me old session e reply now (record { filed = new; words = after; story = told; visitor = visits })) same
      (happens session stores (subst (λ e. Moves filed e reply new) (sym same) moves))

  pub enters : (session : ℕ) (item : Item) (token : Option (Where Case)) → event ≡ Enter session item → after ≡ stored words session reply → Enters filed session item token reply new
      → EntersAs me old session item token reply now (record { filed = new; words = after; story = told; visitor = visits })
  enters session item token is_entry stores moves =
      subst (λ o. EntersAs me o session item token reply now (record { filed = new; words = after; story = told; visitor = visits })) is (
        moves,
        stores,
        subst (λ e. Tells me (record { filed = filed; words = words; story = story; visitor = visitor }) e reply now (record { filed = new; words = after; story = told; visitor = visits })) is_entry
            (tells (subst (λ e. Step filed.world e reply new.world) (sym is_entry) moves.0)),
      )

  pub backs_up : (session : ℕ) (kept : Cause) → event ≡ BackUp session → after ≡ words_told words session kept new.world reply → Moves filed (BackUp session) reply new
      → BacksUp me old session kept reply now (record { filed = new; words = after; story = told; visitor = visits })
  backs_up session kept is_back_up stores moves =
      subst (λ o. BacksUp me o session kept reply now (record { filed = new; words = after; story = told; visitor = visits })) is (
        moves,
        stores,
        subst (λ e. Tells me (record { filed = filed; words = words; story = story; visitor = visitor }) e reply now (record { filed = new; words = after; story = told; visitor = visits })) is_back_up
            (tells (subst (λ e. Step filed.world e reply new.world) (sym is_back_up) moves.0)),
      )

-- the same of who visits
pub happens_visiting : (filed : Filed) (words : Words) (story : StoryView) (visitor : FrontView) (old : Locked)
    → ◌≡◌ {A = Locked} (record { filed = filed; words = words; story = story; visitor = visitor }) old
    → (now : FrontView) (new : Filed) (after : Words) (told : StoryView) (event : Event) (reply : Reply)
    → told ≡ record story { log = story.log ++ (event, reply) ∷ [] } → IsPrefix visitor.seen story.log → IsWhole visitor story.log → now ≡ adding visitor story.log (event, reply)
    → (session : ℕ) → after ≡ stored words session reply → Moves filed event reply new
    → Happens old.visitor old session event reply now (record { filed = new; words = after; story = told; visitor = now })
happens_visiting filed words story visitor old is now new after told event reply added before whole seen session stores moves =
    subst (λ (o : Locked). Happens o.visitor o session event reply now (record { filed = new; words = after; story = told; visitor = now })) is
    (happens filed words story visitor _ refl visitor now new after told now event reply added before whole seen session stores moves)

-- a decision by a verdict on a judged case
module _ (filed : Filed) (words : Words) (story : StoryView) (visitor : FrontView) (old : Locked)
    (is : ◌≡◌ {A = Locked} (record { filed = filed; words = words; story = story; visitor = visitor }) old)
    (me : FrontView) (new : Filed) (session : ℕ) (judged : Where Case) (result : Result Verdict Fault) (decides : DecidesBy filed session judged.index result new) where
  pub wrongly_judged : result ≡ Err WrongCase → DecidesAs me session (Some judged) old result me (record { filed = new; words = words; story = story; visitor = visitor })
  wrongly_judged wrong =
      subst (λ (o : Locked). DecidesAs me session (Some judged) o result me (record { filed = new; words = words; story = story; visitor = visitor })) is
      (decides, refl, inr (wrong, refl, refl))

  pub rightly_judged : (result ≡ Err WrongCase → ⊥) → (now : FrontView) (told : StoryView)
      → told ≡ record story { log = story.log ++ (Decide session, replied Decided result) ∷ [] } → IsPrefix me.seen story.log → IsWhole me story.log → now ≡ adding me story.log (Decide session, replied Decided result)
      → DecidesAs me session (Some judged) old result now (record { filed = new; words = words; story = told; visitor = visitor })
  rightly_judged right now told added before whole seen =
      subst (λ (o : Locked). DecidesAs me session (Some judged) o result now (record { filed = new; words = words; story = told; visitor = visitor })) is
      (decides, refl, inl (record { step = judged_step filed new session judged.index result decides right; told = added; before = before; whole = whole; seen = seen }))
