-- What a transaction asks of a store, told by other words of how the store moves.
use Rattle.std.proofs.Common.{◌≡◌, ℕ, Option, None, Some, inl, inr, MatchOption, List, Result, Ok, Err}
use Rattle.occ_types.specs.declared.fault.Fault.{Fault}
use Rattle.occ_types.specs.Key.{Key}
use Rattle.occ_types.specs.Object.{Object}
use Rattle.occ_types.specs.Question.{Question, One}
use Rattle.occ_types.specs.Row.{Row}
use Rattle.occ_types.specs.Schema.{Schema, check_key, check_question}
use Rattle.occ_model.specs.State.{Found}
use Rattle.occ_model.specs.Overlay.{own}
use Rattle.occ_model.specs.Paging.{Told}
use Rattle.occ_model.specs.Event.{Event, Reply, Read, Forget, Answered}
use Rattle.occ_sets.specs.Sets.{Copied}
use Rattle.occ_open.specs.declared.pages.Page as code
use Rattle.occ_open.specs.Pages.{PageForm, PageOf, ScansPageBy, paging, seen}
use Rattle.occ_open.specs.Transactions.{UnlessBy, WithOpenBy, GetsBy, ScansBy, AbandonsBy, OrStarvesBy, overlaid}

-- a page, by other words of what the store replies
page_so : {Z : Type 0} {Replies Does : Reply → Type 0} (does : (reply : Reply) → Replies reply → Does reply) (tells : List (Key × Row) → Told) (result : Result (code.Page Z) Fault)
    → PageOf Replies tells result → PageOf Does tells result
page_so does tells (Ok page) (rows, replied, told) = (rows, does _ replied, told)
page_so does tells (Err fault) refused = does _ refused

module _ {Stays Remains : Type 0} (remains : Stays → Remains) where
  unless_so : (known : Option Fault) (reply : Reply) (Goes Does : Type 0) → (Goes → Does) → UnlessBy known Stays reply Goes → UnlessBy known Remains reply Does
  unless_so None reply Goes Does does goes = does goes
  unless_so (Some fault) reply Goes Does does told = (told.0, remains told.1)

  open_so : (current : Option Copied) (reply : Reply) (Goes Does : Copied → Type 0) → ((copy : Copied) → Goes copy → Does copy)
      → WithOpenBy current Stays reply Goes → WithOpenBy current Remains reply Does
  open_so None reply Goes Does does none = (none.0, remains none.1)
  open_so (Some copy) reply Goes Does does goes = does copy goes

  own_so : (written : Option (Option Row)) (reply : Reply) (Asks Does : Type 0) → (Asks → Does)
      → MatchOption written Asks (λ row. (reply ≡ Answered (Found row)) × Stays) → MatchOption written Does (λ row. (reply ≡ Answered (Found row)) × Remains)
  own_so None reply Asks Does does asks = does asks
  own_so (Some row) reply Asks Does does told = (told.0, remains told.1)

  -- a call that wants memory
  pub starves_so : (Wanting : Type 0) (reply : Reply) (Is Was : Type 0) → (Is → Was) → OrStarvesBy Wanting Stays reply Is → OrStarvesBy Wanting Remains reply Was
  starves_so Wanting reply Is Was was (inl wants) = inl (wants.0, wants.1, remains wants.2)
  starves_so Wanting reply Is Was was (inr is) = inr (was is)

  module _ {Moves Goes : Event → Reply → Type 0} (goes : (event : Event) (reply : Reply) → Moves event reply → Goes event reply) where
    -- the calls of an open transaction
    pub gets_so : (schema : Schema) (session : ℕ) (object : Object) (current : Option Copied) (reply : Reply)
        → GetsBy schema Stays Moves session object current reply → GetsBy schema Remains Goes session object current reply
    gets_so schema session object current reply = open_so current reply _ _ (λ copy.
        unless_so (check_key schema object.0 object.1) reply _ _
        (own_so (own copy.writes object) reply _ _ (goes (Read session copy.number copy.start (One object.0 object.1)) reply)))

    pub scans_so : (schema : Schema) (session : ℕ) (question : Question) (current : Option Copied) (reply : Reply)
        → ScansBy schema Stays Moves session question current reply → ScansBy schema Remains Goes session question current reply
    scans_so schema session question current reply = open_so current reply _ _ (λ copy.
        unless_so (check_question schema question) reply _ _
        (λ (asked : (given : Reply) × Moves (Read session copy.number copy.start question) given × (reply ≡ overlaid question copy.writes given)).
        (asked.0, goes (Read session copy.number copy.start question) asked.0 asked.1, asked.2)))

    pub pages_so : {Z : Type 0} (schema : Schema) (session : ℕ) (form : PageForm) (asked : Question) (current : Option Copied) (result : Result (code.Page Z) Fault)
        → ScansPageBy schema Stays Moves session form asked current result → ScansPageBy schema Remains Goes session form asked current result
    pages_so schema session form asked current result = starves_so _ (paging result) _ _ (open_so current (paging result) _ _ (λ copy.
        unless_so (check_question schema form.range) (paging result) _ _
        (page_so (goes (Read session copy.number copy.start asked)) (seen form copy.writes) result)))

    pub abandons_so : (session : ℕ) (current : Option Copied) (reply : Reply) → AbandonsBy Stays Moves session current reply → AbandonsBy Remains Goes session current reply
    abandons_so session current reply = open_so current reply _ _ (λ copy. goes (Forget session copy.number) reply)
