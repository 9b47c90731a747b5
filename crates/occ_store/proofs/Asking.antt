-- What a question of a transaction comes to, whatever it asks: nothing moves, or an event does.
use Rattle.std.proofs.Common.{◌≡◌, ℕ, Option, None, Some, inl, inr, MatchOption, List, Result, Ok, Err, refl, sym, ap, subst, ◌∙◌}
use Rattle.occ_types.specs.declared.fault.Fault.{Fault}
use Rattle.occ_types.specs.Object.{Object}
use Rattle.occ_types.specs.Question.{Question, One, Span}
use Rattle.occ_types.specs.Row.{Row}
use Rattle.occ_types.specs.Schema.{Schema, check_key, check_question}
use Rattle.occ_model.specs.State.{Found}
use Rattle.occ_model.specs.Overlay.{own}
use Rattle.occ_model.specs.Paging.{Told}
use Rattle.occ_model.specs.Event.{Event, Reply, Read, Forget, Answered}
use Rattle.occ_sets.specs.Sets.{Copied}
use Rattle.occ_open.specs.Transactions.{UnlessBy, WithOpenBy, GetsBy, ScansBy, AbandonsBy, OrStarvesBy}
use Rattle.occ_types.specs.Key.{Key}
use Rattle.occ_open.specs.Pages.{PageForm, PageOf, ScansPageBy, paging, seen}
use Rattle.occ_open.specs.declared.pages.Page as code_page
use Rattle.occ_open.proofs.Moving.{starves_so, gets_so, scans_so, pages_so, abandons_so}
use Rattle.occ_history.specs.History.{FrontView}
use Rattle.occ_store.specs.Locked.{Locked, world_of, visited, reader_of, ReadsSo, Tells}
use Rattle.occ_model.specs.World.{Settings}
use Rattle.occ_model.specs.Step.{Run}
use Rattle.occ_store.specs.Names.{Named, opened_as}
use Rattle.occ_store.specs.Standing.{StandsIn, StandsInWhere}
use Rattle.occ_store.specs.Transactions.{TransactionView, IsReader, AsksOrStarvesBy, WantsMemory, StaysOn, ReadsOn, AsksOn, AsksOrStarves, AbandonsOn, AbandonsIn, AsksPageOn, AsksPage}
use Rattle.occ_store.proofs.Histories.{reads_for, tells_party, tells_stands, tells_stands_where}

module _ {Stays : Type 0} {Moves : Event → Reply → Type 0} (Comes : Type 0) (remains : Stays → Comes) (goes : (event : Event) (reply : Reply) → Moves event reply → Comes) where
  unless_to : (known : Option Fault) (reply : Reply) (Goes : Type 0) → (Goes → Comes) → UnlessBy known Stays reply Goes → Comes
  unless_to None reply Goes does is = does is
  unless_to (Some fault) reply Goes does told = remains told.1

  open_to : (current : Option Copied) (reply : Reply) (Goes : Copied → Type 0) → ((copy : Copied) → Goes copy → Comes) → WithOpenBy current Stays reply Goes → Comes
  open_to None reply Goes does none = remains none.1
  open_to (Some copy) reply Goes does is = does copy is

  own_to : (written : Option (Option Row)) (reply : Reply) (Asks : Type 0) → (Asks → Comes) → MatchOption written Asks (λ row. (reply ≡ Answered (Found row)) × Stays) → Comes
  own_to None reply Asks does asks = does asks
  own_to (Some row) reply Asks does told = remains told.1

  pub gets_to : (schema : Schema) (session : ℕ) (object : Object) (current : Option Copied) (reply : Reply) → GetsBy schema Stays Moves session object current reply → Comes
  gets_to schema session object current reply = open_to current reply _ (λ copy.
      unless_to (check_key schema object.0 object.1) reply _
      (own_to (own copy.writes object) reply _ (goes (Read session copy.number copy.start (One object.0 object.1)) reply)))

  pub scans_to : (schema : Schema) (session : ℕ) (question : Question) (current : Option Copied) (reply : Reply) → ScansBy schema Stays Moves session question current reply → Comes
  scans_to schema session question current reply = open_to current reply _ (λ copy.
      unless_to (check_question schema question) reply _ (λ asked. goes (Read session copy.number copy.start question) asked.0 asked.1))

  pub abandons_to : (session : ℕ) (current : Option Copied) (reply : Reply) → AbandonsBy Stays Moves session current reply → Comes
  abandons_to session current reply = open_to current reply _ (λ copy. goes (Forget session copy.number) reply)

  pub starves_to : (Wanting : Type 0) (reply : Reply) (Is : Type 0) → (Is → Comes) → OrStarvesBy Wanting Stays reply Is → Comes
  starves_to Wanting reply Is does (inl starves) = remains starves.2
  starves_to Wanting reply Is does (inr is) = does is

  page_to : {Z : Type 0} (event : Event) (tells : List (Key × Row) → Told) (result : Result (code_page.Page Z) Fault) → PageOf (Moves event) tells result → Comes
  page_to event tells (Ok page) read = goes event _ read.1
  page_to event tells (Err fault) refused = goes event _ refused

  pub pages_to : {Z : Type 0} (schema : Schema) (session : ℕ) (form : PageForm) (asked : Question) (current : Option Copied) (result : Result (code_page.Page Z) Fault) → ScansPageBy schema Stays Moves session form asked current result → Comes
  pages_to schema session form asked current result = starves_to _ (paging result) _ (open_to current (paging result) _ (λ copy.
      unless_to (check_question schema form.range) (paging result) _ (page_to (Read session copy.number copy.start asked) (seen form copy.writes) result)))

  pub asks_to : (schema : Schema) (transaction : TransactionView) (question : Question) (reply : Reply) → AsksOrStarvesBy schema Stays Moves transaction question reply → Comes
  asks_to schema transaction (One table key) reply = starves_to _ reply _ (gets_to schema transaction.session (table, key) transaction.draft reply)
  asks_to schema transaction (Span table lower upper) reply = starves_to _ reply _ (scans_to schema transaction.session (Span table lower upper) transaction.draft reply)

-- told by other words of how the store moves
module _ {Stays Remains : Type 0} (remains : Stays → Remains) {Moves Goes : Event → Reply → Type 0} (goes : (event : Event) (reply : Reply) → Moves event reply → Goes event reply) where
  pub asks_so : (schema : Schema) (transaction : TransactionView) (question : Question) (reply : Reply) → AsksOrStarvesBy schema Stays Moves transaction question reply → AsksOrStarvesBy schema Remains Goes transaction question reply
  asks_so schema transaction (One table key) reply =
      starves_so remains (WantsMemory schema transaction (One table key)) reply _ _ (gets_so remains goes schema transaction.session (table, key) transaction.draft reply)
  asks_so schema transaction (Span table lower upper) reply =
      starves_so remains (WantsMemory schema transaction (Span table lower upper)) reply _ _ (scans_so remains goes schema transaction.session (Span table lower upper) transaction.draft reply)

-- ---- of the locked state

-- A question on the locked state, of who visits it, as one of whose front that is: it was lent before, and is back after.
module _ (before : TransactionView) (shared lent came back : Locked) (reply : Reply) (front again : FrontView)
    (lends : lent ≡ visited shared before.front) (gives : back ≡ visited came again) (own : front ≡ came.visitor) (other : again ≡ shared.visitor) (reader : IsReader before.front.party before.session) where
  -- the locked state reads for the transaction's session meanwhile
  own_session : reader_of lent.visitor.party ≡ before.session
  own_session = ap (λ (l : Locked). reader_of l.visitor.party) lends ∙ reads_for before.front.party before.session reader

  -- where nothing moved, all is as it was
  visit_stays : came ≡ lent → StaysOn before.front shared front back
  visit_stays same =
      let from_lent = same ∙ lends in (
        own ∙ ap (λ (l : Locked). l.visitor) from_lent,
        gives ∙ (λ i. visited (from_lent i) (other i)),
      )

  visit_reads : (event : Event) (given : Reply) → ReadsSo lent event given came → ReadsOn before.front shared front back event given
  visit_reads event given reads =
      let moved = subst (λ (l : Locked). ReadsSo l event given came) lends reads in
      let mine = subst (λ (f : FrontView). Tells before.front shared event given f came) (sym own) moved.1 in
      subst (λ (l : Locked). ReadsOn before.front shared front l event given) (sym gives) (record { words = moved.0.words; file = moved.0.file; tokens = moved.0.tokens }, mine)

  pub read_on : (event : Event) (given : Reply) → ReadsSo lent event given came → ReadsOn before.front shared front back event given
  read_on = visit_reads

  pub asked_on : (question : Question) → AsksOrStarvesBy (world_of lent).settings.schema (came ≡ lent) (λ event given. ReadsSo lent event given came) (record before { session = reader_of lent.visitor.party }) question reply
      → AsksOrStarvesBy (world_of shared).settings.schema (StaysOn before.front shared front back) (ReadsOn before.front shared front back) before question reply
  asked_on question asks = asks_so visit_stays visit_reads (world_of shared).settings.schema before question reply
      (subst (λ (l : Locked). AsksOrStarvesBy (world_of l).settings.schema (came ≡ lent) (λ event given. ReadsSo lent event given came) before question reply) lends
      (subst (λ (n : ℕ). AsksOrStarvesBy (world_of lent).settings.schema (came ≡ lent) (λ event given. ReadsSo lent event given came) (record before { session = n }) question reply) own_session asks))

  pub abandoned_on : AbandonsBy (came ≡ lent) (λ event given. ReadsSo lent event given came) (reader_of lent.visitor.party) before.draft reply
      → AbandonsOn before shared reply front back
  abandoned_on asks = abandons_so visit_stays visit_reads before.session before.draft reply
      (subst (λ (n : ℕ). AbandonsBy (came ≡ lent) (λ event given. ReadsSo lent event given came) n before.draft reply) own_session asks)

  pub paged_on : {Z : Type 0} (form : PageForm) (result : Result (code_page.Page Z) Fault)
      → ScansPageBy (world_of lent).settings.schema (came ≡ lent) (λ event given. ReadsSo lent event given came) (reader_of lent.visitor.party) form (form.asks (world_of lent)) before.draft result
      → AsksPageOn before shared form result (record before { front = front }) back
  paged_on form result page = (
    refl,
    pages_so visit_stays visit_reads (world_of shared).settings.schema before.session form (form.asks (world_of shared)) before.draft result
        (subst (λ (l : Locked). ScansPageBy (world_of l).settings.schema (came ≡ lent) (λ event given. ReadsSo lent event given came) before.session form (form.asks (world_of l)) before.draft result) lends
        (subst (λ (n : ℕ). ScansPageBy (world_of lent).settings.schema (came ≡ lent) (λ event given. ReadsSo lent event given came) n form (form.asks (world_of lent)) before.draft result) own_session page)),
  )

-- whose front it is stays
pub asked_party : (before : TransactionView) (shared : Locked) (front : FrontView) (back : Locked) (question : Question) (reply : Reply)
    → AsksOrStarvesBy (world_of shared).settings.schema (StaysOn before.front shared front back) (ReadsOn before.front shared front back) before question reply → front.party ≡ before.front.party
asked_party before shared front back question reply = asks_to (front.party ≡ before.front.party) (λ (stays : StaysOn before.front shared front back). ap (λ (f : FrontView). f.party) stays.0)
    (λ event given (reads : ReadsOn before.front shared front back event given). tells_party before.front front shared back event given reads.1) (world_of shared).settings.schema before question reply

-- and what is asked on the locked state, to which the story led, stands in the history
pub asks_stands : (named : Named) (before after : TransactionView) (shared back : Locked) (question : Question) (reply : Reply)
    → Run (opened_as named) shared.story.log (world_of shared) → (world_of shared).settings ≡ named.settings → AsksOn before shared question reply after back → AsksOrStarves named before question reply after
asks_stands named before after shared back question reply ran settings asks = (
  asks.0,
  subst (λ (s : Settings). AsksOrStarvesBy s.schema (after.front ≡ before.front) (λ event given. StandsIn named before.front event given after.front) before question reply) settings
      (asks_so (λ (stays : StaysOn before.front shared after.front back). stays.0) (λ event given (reads : ReadsOn before.front shared after.front back event given). tells_stands named before.front after.front shared back event given ran reads.1) (world_of shared).settings.schema before question reply asks.1),
)

pub abandoned_party : (before : TransactionView) (shared : Locked) (front : FrontView) (back : Locked) (reply : Reply) → AbandonsOn before shared reply front back → front.party ≡ before.front.party
abandoned_party before shared front back reply = abandons_to (front.party ≡ before.front.party) (λ (stays : StaysOn before.front shared front back). ap (λ (f : FrontView). f.party) stays.0)
    (λ event given (reads : ReadsOn before.front shared front back event given). tells_party before.front front shared back event given reads.1) before.session before.draft reply

pub paged_party : {Z : Type 0} (before after : TransactionView) (shared back : Locked) (form : PageForm) (result : Result (code_page.Page Z) Fault) → AsksPageOn before shared form result after back → after.front.party ≡ before.front.party
paged_party before after shared back form result asks = pages_to (after.front.party ≡ before.front.party) (λ (stays : StaysOn before.front shared after.front back). ap (λ (f : FrontView). f.party) stays.0)
    (λ event given (reads : ReadsOn before.front shared after.front back event given). tells_party before.front after.front shared back event given reads.1) (world_of shared).settings.schema before.session form (form.asks (world_of shared)) before.draft result asks.1

pub abandons_stand : (named : Named) (before : TransactionView) (front : FrontView) (shared back : Locked) (reply : Reply)
    → Run (opened_as named) shared.story.log (world_of shared) → AbandonsOn before shared reply front back → AbandonsIn named before reply front
abandons_stand named before front shared back reply ran =
    abandons_so (λ (stays : StaysOn before.front shared front back). stays.0) (λ event given (reads : ReadsOn before.front shared front back event given). tells_stands named before.front front shared back event given ran reads.1) before.session before.draft reply

pub pages_stand : {Z : Type 0} (named : Named) (before after : TransactionView) (shared back : Locked) (form : PageForm) (result : Result (code_page.Page Z) Fault)
    → Run (opened_as named) shared.story.log (world_of shared) → (world_of shared).settings ≡ named.settings → AsksPageOn before shared form result after back → AsksPage named before form result after
pages_stand named before after shared back form result ran settings asks =
    let asked = form.asks (world_of shared) in (
      asks.0,
      (
        asked,
        subst (λ (s : Settings). ScansPageBy s.schema (after.front ≡ before.front) (λ event given. StandsInWhere named (λ old. form.asks old ≡ asked) before.front event given after.front) before.session form asked before.draft result) settings
            (pages_so (λ (stays : StaysOn before.front shared after.front back). stays.0) (λ event given (reads : ReadsOn before.front shared after.front back event given). tells_stands_where named before.front after.front shared back event given ran reads.1 (λ old. form.asks old ≡ asked) refl)
            (world_of shared).settings.schema before.session form asked before.draft result asks.1),
      ),
    )
