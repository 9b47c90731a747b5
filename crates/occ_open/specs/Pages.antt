-- What a page of a range is: what it asks a store for, and what it tells of the answer (our own choice).
use Rattle.std.specs.Prelude.{◌≡◌, ℕ, ◌+◌, ◌≤◌, length, List, Option, None, Result, Vec, MatchResult}
use Rattle.std.specs.Option.{option_or}
use Rattle.occ_types.specs.declared.fault.Fault.{Fault}
use Rattle.occ_types.specs.declared.keys.Key as code_key
use Rattle.occ_types.specs.Key.{Key}
use Rattle.occ_types.specs.PlainData.{end_of}
use Rattle.occ_types.specs.Question.{Question, Span}
use Rattle.occ_types.specs.Row.{Row}
use Rattle.occ_types.specs.Schema.{Schema, check_question}
use Rattle.occ_model.specs.Event.{Event, Reply, Answered, Read, Refused}
use Rattle.occ_model.specs.Overlay.{overlay}
use Rattle.occ_model.specs.Paging.{Told, page_size, rows_answered, first_in, last_in, first_question, last_question}
use Rattle.occ_model.specs.Replies.{replied}
use Rattle.occ_model.specs.State.{Write, Rows, answer}
use Rattle.occ_model.specs.Step.{Step}
use Rattle.occ_model.specs.World.{World}
use Rattle.occ_open.specs.declared.pages.Page as code
use Rattle.occ_open.specs.declared.pages.PageEnd.{PageEnd}
use Rattle.occ_open.specs.declared.pages.PageEnd.TheVariants.{First, Last}
use Rattle.occ_open.specs.Replies.{copying}
use Rattle.occ_open.specs.Transactions.{WantsRange, UnlessBy, WithOpenBy, OrStarvesBy}
use Rattle.occ_sets.specs.PlainSets.{rows_of}
use Rattle.occ_sets.specs.Sets.{Copied}

-- the part of a range that ends at a key, or begins there; where there is none, the range
abbrev pub side_of : PageEnd → ℕ → Option Key → Option Key → Option Key → Question
side_of First table lower upper key = Span table lower (option_or key upper)
side_of Last table lower upper key = Span table (option_or key lower) upper

-- what a page of some rows tells
abbrev pub tells_of : PageEnd → ℕ → List (Key × Row) → Told
tells_of First = first_in
tells_of Last = last_in

-- what a page asks for in a world
abbrev pub asks_of : PageEnd → ℕ → Option Key → Option Key → ℕ → World → Question
asks_of First table lower upper most world = first_question world.settings.schema world.table table lower upper most
asks_of Last table lower upper most world = last_question world.settings.schema world.table table lower upper most

-- A page of a range, at either end of it.
pub record PageForm : Type 0 where
  -- the range
  pub range : Question
  -- how many rows the page shows at most
  pub size : ℕ
  -- what it asks for in a world
  pub asks : World → Question
  -- what it tells of the rows that it is answered: those that it shows, and its rest
  pub tells : List (Key × Row) → Told
  -- the part of the range on its side of a rest
  pub side : Option Key → Question

abbrev pub page_form : PageEnd → ℕ → Option Key → Option Key → ℕ → PageForm
page_form end table lower upper most = record {
  range = Span table lower upper;
  size = page_size most;
  asks = asks_of end table lower upper most;
  tells = tells_of end (page_size most);
  side = side_of end table lower upper;
}

-- the rows of a question in a world
abbrev pub rows_in : World → Question → List (Key × Row)
rows_in world question = rows_answered (answer question world.table)

-- How a store means to answer a page: at which end of its range, what it asks for, its rest, and the part of the range that it shows.
pub record Plan : Type 0 where
  pub end : PageEnd
  pub asked : Question
  pub rest : Option Key
  pub shown : Question

-- where a range fits the schema of a world
abbrev pub Fits : World → PageForm → Type 0
Fits world form = check_question world.settings.schema form.range ≡ None

pub record IsPlan (world : World) (form : PageForm) (plan : Plan) : Type 0 where
  pub asked : plan.asked ≡ form.asks world
  pub shown : plan.shown ≡ form.side plan.rest
  -- the page is that of the whole range, and its question is answered one row more than it shows at most
  pub rest : Fits world form → plan.rest ≡ (form.tells (rows_in world form.range)).1
  pub whole : Fits world form → form.tells (rows_in world (form.asks world)) ≡ form.tells (rows_in world form.range)
  pub side : Fits world form → rows_in world (form.side plan.rest) ≡ (form.tells (rows_in world form.range)).0
  pub few : Fits world form → length (rows_in world (form.asks world)) ≤ form.size + 1

-- a plan for some range that fits
abbrev pub IsPlanned : World → Plan → Type 0
IsPlanned world plan = (table : ℕ) × (lower : Option Key) × (upper : Option Key) × (most : ℕ)
    × IsPlan world (page_form plan.end table lower upper most) plan × Fits world (page_form plan.end table lower upper most)

-- what a page tells of the rows that it is answered, with the own writes over those that it shows
abbrev pub seen : PageForm → List Write → List (Key × Row) → Told
seen form writes rows =
    let told = form.tells rows in
    (rows_answered (overlay (form.side told.1) writes (Rows told.0)), told.1)

module _ {Z : Type 0} where
  -- what a page tells: its rows, and its rest
  abbrev pub told : code.Page Z → Told
  told page = (rows_of page.rows.items, end_of page.rest)

  -- a page as a reply, which has its rows alone
  abbrev pub paging : Result (code.Page Z) Fault → Reply
  paging = replied (λ page. Answered (Rows (rows_of page.rows.items)))

  -- a page tells of what its question is answered; or the question is refused
  abbrev pub PageOf : (Replies : Reply → Type 0) → (List (Key × Row) → Told) → Result (code.Page Z) Fault → Type 0
  PageOf Replies tells result = MatchResult result
      (λ page. (rows : List (Key × Row)) × Replies (Answered (Rows rows)) × (told page ≡ tells rows))
      (λ fault. Replies (Refused fault))

  -- A page as a transaction sees it, with its own writes, by what it means that the store stays, and that an event moves it, with this reply: of its copy, and where one has to be open.
  abbrev pub CopyPagesBy : Schema → (Stays : Type 0) → (Moves : Event → Reply → Type 0) → ℕ → PageForm → Question → Copied → Result (code.Page Z) Fault → Type 0
  CopyPagesBy schema Stays Moves session form asked copy result =
      UnlessBy (check_question schema form.range) Stays (paging result) (PageOf (Moves (Read session copy.number copy.start asked)) (seen form copy.writes) result)

  abbrev pub PagesBy : Schema → (Stays : Type 0) → (Moves : Event → Reply → Type 0) → ℕ → PageForm → Question → Option Copied → Result (code.Page Z) Fault → Type 0
  PagesBy schema Stays Moves session form asked current result =
      WithOpenBy current Stays (paging result) (λ copy. CopyPagesBy schema Stays Moves session form asked copy result)

  -- the same in the model, whose worlds move by its steps
  abbrev pub Pages : World → ℕ → PageForm → Option Copied → Result (code.Page Z) Fault → World → Type 0
  Pages old session form current result new =
      PagesBy old.settings.schema (new ≡ old) (λ event reply. Step old event reply new) session form (form.asks old) current result

  -- the page, or there is no memory for it
  abbrev pub ScansPageBy : Schema → (Stays : Type 0) → (Moves : Event → Reply → Type 0) → ℕ → PageForm → Question → Option Copied → Result (code.Page Z) Fault → Type 0
  ScansPageBy schema Stays Moves session form asked current result =
      OrStarvesBy (WantsRange schema form.range current) Stays (paging result) (PagesBy schema Stays Moves session form asked current result)

  abbrev pub ScansPage : World → ℕ → PageForm → Option Copied → Result (code.Page Z) Fault → World → Type 0
  ScansPage old session form current result new =
      ScansPageBy old.settings.schema (new ≡ old) (λ event reply. Step old event reply new) session form (form.asks old) current result

  -- the rows that a plan makes, of whichever range it is for
  abbrev pub PlannedBy : World → (Stays : Type 0) → (Moves : Event → Reply → Type 0) → ℕ → Plan → Copied → Result (Vec (code_key.Key Z × Row) Z) Fault → Type 0
  PlannedBy world Stays Moves session plan copy result = (table : ℕ) (lower upper : Option Key) (most : ℕ) → let form = page_form plan.end table lower upper most in
      IsPlan world form plan → Fits world form
      → OrStarvesBy (Fits world form) Stays (copying result) (MatchResult result
      (λ shown. (rows : List (Key × Row)) × Moves (Read session copy.number copy.start plan.asked) (Answered (Rows rows)) × ◌≡◌ {A = Told} (rows_of shown.items, plan.rest) (seen form copy.writes rows))
      (λ fault. Moves (Read session copy.number copy.start plan.asked) (Refused fault)))
