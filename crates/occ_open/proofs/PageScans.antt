-- A page of a range, by the rows that it is answered.
use Rattle.std.proofs.Common.{◌≡◌, ◌≤◌, ◌+◌, ◌-◌, ℕ, zero, suc, Bool, true, false, List, [], ◌∷◌, length, take, drop, Option, None, Some, is_some, slice_get, Result, Ok, Err, Vec, inr, refl, sym, ap, subst, ◌∙◌, arith}
use Rattle.std.specs.Option.{option_or}
use Rattle.std.proofs.lemmas.List.{length-drop, length-map, take-map, take_all}
use Rattle.occ_types.specs.declared.fault.Fault.{Fault}
use Rattle.occ_types.specs.Key.{Key}
use Rattle.occ_types.specs.PlainData.{end_of}
use Rattle.occ_types.specs.declared.keys.Key as code_key
use Rattle.occ_types.specs.Row.{Row}
use Rattle.occ_types.specs.Question.{Question, Span}
use Rattle.occ_types.specs.Schema.{Table, check_question}
use Rattle.occ_model.specs.Event.{Event, Reply, Read, Answered, Refused}
use Rattle.occ_model.specs.Overlay.{overlay}
use Rattle.occ_model.specs.Paging.{Told, page_size, rows_answered, rows_between, first_key, first_in, last_in, last_behind, first_end, last_begin}
use Rattle.occ_model.specs.State.{State, Write, Rows}
unfoldable use Rattle.occ_model.specs.State.{answer}
use Rattle.occ_model.specs.World.{World}
use Rattle.occ_model.proofs.PageRows.{some_size}
use Rattle.occ_sets.specs.Overlays.{rows_over}
use Rattle.occ_sets.specs.Sets.{Copied}
use Rattle.occ_sets.proofs.Agreement.{overlay-Span}
use Rattle.occ_sets.specs.PlainSets.{rows_of}
use Rattle.occ_open.specs.declared.pages.PageEnd.{PageEnd}
use Rattle.occ_open.specs.declared.pages.PageEnd.TheVariants.{First, Last}
use Rattle.occ_open.specs.Pages.{PageForm, page_form, side_of, tells_of, asks_of, rows_in, Plan, Fits, IsPlan, IsPlanned, PlannedBy, seen}
use Rattle.occ_open.specs.Transactions.{IsSpan}

pub some_end : {Z : Type 0} (end : Option (code_key.Key Z)) → is_some (end_of end) ≡ is_some end
some_end None = refl
some_end (Some key) = refl

no_key : (rows : List (Key × Row)) → is_some (first_key rows) ≡ false → length rows ≡ 0
no_key [] e = refl
no_key (row ∷ rows) e = cc

some_key : (rows : List (Key × Row)) → is_some (first_key rows) ≡ true → 1 ≤ length rows
some_key [] e = cc
some_key (row ∷ rows) e = omega arith

alone_last : (size count : ℕ) (rows : List (Key × Row)) → 1 ≤ size → length rows - size ≡ count → is_some (last_behind count rows).1 ≡ false → rows ≡ (last_behind count rows).0
alone_last size zero rows one is none = refl
alone_last size (suc before) rows one is none =
    let empty = no_key (drop (suc before) rows) none in
    let left = length-drop (suc before) rows in
    absurd (omega (arith, one, is, empty, left))

-- where it has no rest, it shows them all
pub shows_all : (end : PageEnd) (size : ℕ) (rows : List (Key × Row)) → 1 ≤ size → is_some (tells_of end size rows).1 ≡ false → rows ≡ (tells_of end size rows).0
shows_all First size rows one none =
    let empty = no_key (drop size rows) none in
    let left = length-drop size rows in
    sym (take_all size rows (omega (arith, empty, left)))
shows_all Last size rows one none = alone_last size (length rows - size) rows one refl none

-- and else all but the last one, or the first one
pub shows_before : (size : ℕ) (rows : List (Key × Row)) → is_some (first_in size rows).1 ≡ true → length rows ≤ size + 1 → take (length rows - 1) rows ≡ (first_in size rows).0
shows_before size rows some few =
    let more = some_key (drop size rows) some in
    let left = length-drop size rows in
    let count : length rows - 1 ≡ size = omega (arith, more, left, few) in
    ap (λ n. take n rows) count

after_first : (size count : ℕ) (rows : List (Key × Row)) → length rows - size ≡ count → is_some (last_behind count rows).1 ≡ true → length rows ≤ size + 1 → drop 1 rows ≡ (last_behind count rows).0
after_first size zero rows is some few = cc
after_first size (suc before) rows is some few =
    let count : 1 ≡ suc before = omega (arith, is, few) in
    ap (λ n. drop n rows) count

pub shows_behind : (size : ℕ) (rows : List (Key × Row)) → is_some (last_in size rows).1 ≡ true → length rows ≤ size + 1 → drop 1 rows ≡ (last_in size rows).0
shows_behind size rows some few = after_first size (length rows - size) rows refl some few

module _ {Z : Type 0} where
  pub taken_rows : (rows : List (code_key.Key Z × Row)) → rows_of (take (length rows - 1) rows) ≡ take (length (rows_of rows) - 1) (rows_of rows)
  taken_rows rows =
      let count : length rows - 1 ≡ length (rows_of rows) - 1 = ap (λ n. n - 1) (sym (length-map rows _)) in
      ap (λ n. rows_of (take n rows)) count ∙ sym (take-map _ (length (rows_of rows) - 1) rows)

  pub dropped_rows : (rows : List (code_key.Key Z × Row)) → rows_of (drop 1 rows) ≡ drop 1 (rows_of rows)
  dropped_rows [] = refl
  dropped_rows (row ∷ rows) = refl

-- What a question for a range is answered has rows.
rows_are : (question : Question) → IsSpan question → (state : State) → answer question state ≡ Rows (rows_answered (answer question state))
unfolding answer
rows_are question (table, lower, upper, is) state = subst (λ q. answer q state ≡ Rows (rows_answered (answer q state))) (sym is) refl

overlays : (question : Question) → IsSpan question → (writes : List Write) (rows : List (Key × Row)) → rows_over question writes rows ≡ rows_answered (overlay question writes (Rows rows))
overlays question (table, lower, upper, is) writes rows =
    subst (λ q. rows_over q writes rows ≡ rows_answered (overlay q writes (Rows rows))) (sym is)
    (ap rows_answered (overlay-Span table lower upper writes rows))

-- The page that a plan makes of the rows that its question is answered.
module _ (world : World) (plan : Plan) (table : ℕ) (lower upper : Option Key) (most : ℕ)
    (p : IsPlan world (page_form plan.end table lower upper most) plan) (fits : Fits world (page_form plan.end table lower upper most))
    (rows : List (Key × Row)) (answered : answer plan.asked world.table ≡ Rows rows) where
  abbrev form : PageForm
  form = page_form plan.end table lower upper most

  asked_rows : rows_in world (form.asks world) ≡ rows
  asked_rows = ap (λ q. rows_in world q) (sym p.asked) ∙ ap rows_answered answered

  of_whole : form.tells rows ≡ form.tells (rows_in world form.range)
  of_whole = ap form.tells (sym asked_rows) ∙ p.whole fits

  rest_of : plan.rest ≡ (form.tells rows).1
  rest_of = p.rest fits ∙ sym (λ i. (of_whole i).1)

  few_of : length rows ≤ page_size most + 1
  few_of = subst (λ (l : List (Key × Row)). length l ≤ page_size most + 1) asked_rows (p.few fits)

  -- the rows that it shows, as its cut says them
  module _ (shown : List (Key × Row))
      (cut : (size : ℕ) → 1 ≤ size → plan.rest ≡ (tells_of plan.end size rows).1 → length rows ≤ size + 1 → shown ≡ (tells_of plan.end size rows).0) (span : IsSpan plan.shown) where
    shown_of : shown ≡ (form.tells rows).0
    shown_of = cut (page_size most) (some_size most) rest_of few_of

    -- they are what its side of the range has
    pub shown_answered : answer plan.shown world.table ≡ Rows shown
    shown_answered =
        rows_are plan.shown span world.table
        ∙ ap Rows (ap (λ q. rows_in world q) p.shown ∙ p.side fits ∙ sym (λ i. (of_whole i).0) ∙ sym shown_of)

    -- and with the own writes over them they are seen
    pub page_seen : (writes : List Write) (over : List (Key × Row)) → over ≡ rows_over plan.shown writes shown → ◌≡◌ {A = Told} (over, plan.rest) (seen form writes rows)
    page_seen writes over is =
        let side : plan.shown ≡ form.side (form.tells rows).1 = p.shown ∙ ap form.side rest_of in
        let laid : over ≡ rows_answered (overlay (form.side (form.tells rows).1) writes (Rows (form.tells rows).0)) =
        is ∙ overlays plan.shown span writes shown ∙ (λ i. rows_answered (overlay (side i) writes (Rows (shown_of i)))) in
        λ i. (laid i, rest_of i)

module _ {Z : Type 0} (world : World) (Stays : Type 0) (Moves : Event → Reply → Type 0) (session : ℕ) (plan : Plan) (copy : Copied) (asked side : Question) (is_asked : asked ≡ plan.asked) (is_side : side ≡ plan.shown) where
  -- a plan's question is answered: its page has what it shows of that, with the own writes over it
  pub planned_rows : (rows shown : List (Key × Row)) (over : Vec (code_key.Key Z × Row) Z) → answer asked world.table ≡ Rows rows → Moves (Read session copy.number copy.start asked) (Answered (Rows rows))
      → ((size : ℕ) → 1 ≤ size → plan.rest ≡ (tells_of plan.end size rows).1 → length rows ≤ size + 1 → shown ≡ (tells_of plan.end size rows).0) → IsSpan plan.shown
      → (answer side world.table ≡ Rows shown → rows_of over.items ≡ rows_over side copy.writes shown)
      → PlannedBy world Stays Moves session plan copy (Ok over)
  planned_rows rows shown over answered moved cut span laid = λ table lower upper most p fits.
      let same = subst (λ q. answer q world.table ≡ Rows rows) is_asked answered in
      let there = shown_answered world plan table lower upper most p fits rows same shown cut span in
      inr (
        rows,
        subst (λ q. Moves (Read session copy.number copy.start q) (Answered (Rows rows))) is_asked moved,
        page_seen world plan table lower upper most p fits rows same shown cut span copy.writes (rows_of over.items)
            (laid (subst (λ q. answer q world.table ≡ Rows shown) (sym is_side) there) ∙ ap (λ q. rows_over q copy.writes shown) is_side),
      )

  -- or it is refused
  pub planned_refused : (fault : Fault) (result : Result (Vec (code_key.Key Z × Row) Z) Fault) → result ≡ Err fault → Moves (Read session copy.number copy.start asked) (Refused fault)
      → PlannedBy world Stays Moves session plan copy result
  planned_refused fault result is moved = subst (PlannedBy world Stays Moves session plan copy) (sym is)
      (λ table lower upper most p fits. inr (subst (λ q. Moves (Read session copy.number copy.start q) (Refused fault)) is_asked moved))

-- what a plan shows may be asked for
pub side_answered : (world : World) (plan : Plan) → IsPlanned world plan → (asked side : Question) → asked ≡ plan.asked → side ≡ plan.shown → IsSpan plan.shown
    → (rows shown : List (Key × Row)) → answer asked world.table ≡ Rows rows
    → ((size : ℕ) → 1 ≤ size → plan.rest ≡ (tells_of plan.end size rows).1 → length rows ≤ size + 1 → shown ≡ (tells_of plan.end size rows).0)
    → answer side world.table ≡ Rows shown
side_answered world plan (table, lower, upper, most, p, fits) asked side is_asked is_side span rows shown answered cut =
    subst (λ q. answer q world.table ≡ Rows shown) (sym is_side)
    (shown_answered world plan table lower upper most p fits rows (subst (λ q. answer q world.table ≡ Rows rows) is_asked answered) shown cut span)

-- A page asks for a range, and shows one.
pub side_span : (end : PageEnd) (table : ℕ) (lower upper key : Option Key) → IsSpan (side_of end table lower upper key)
side_span First table lower upper key = (table, lower, option_or key upper, refl)
side_span Last table lower upper key = (table, option_or key lower, upper, refl)

pub asks_span : (end : PageEnd) (table : ℕ) (lower upper : Option Key) (most : ℕ) (world : World) → IsSpan (asks_of end table lower upper most world)
asks_span First table lower upper most world = by (check_question world.settings.schema (Span table lower upper)) (slice_get world.settings.schema table)
  where
    by : (check : Option Fault) (found : Option Table) → IsSpan (elim check as (λ _. Question) [
      | Some fault ↦ Span table lower upper
      | None ↦ elim found as (λ _. Question) [
        | None ↦ Span table lower upper
        | Some definition ↦ Span table lower (first_end definition upper (drop (page_size most) (rows_between world.table table lower upper)))
      ]
    ])
    by (Some fault) found = (table, lower, upper, refl)
    by None None = (table, lower, upper, refl)
    by None (Some definition) = (table, lower, first_end definition upper (drop (page_size most) (rows_between world.table table lower upper)), refl)
asks_span Last table lower upper most world = by (check_question world.settings.schema (Span table lower upper))
  where
    by : (check : Option Fault) → IsSpan (elim check as (λ _. Question) [
      | Some fault ↦ Span table lower upper
      | None ↦ Span table (last_begin lower (length (rows_between world.table table lower upper) - page_size most) (rows_between world.table table lower upper)) upper
    ])
    by (Some fault) = (table, lower, upper, refl)
    by None = (table, last_begin lower (length (rows_between world.table table lower upper) - page_size most) (rows_between world.table table lower upper), upper, refl)

pub plan_spans : (world : World) (end : PageEnd) (table : ℕ) (lower upper : Option Key) (most : ℕ) (plan : Plan) → IsPlan world (page_form end table lower upper most) plan → IsSpan plan.asked × IsSpan plan.shown
plan_spans world end table lower upper most plan p = (
  subst IsSpan (sym p.asked) (asks_span end table lower upper most world),
  subst IsSpan (sym p.shown) (side_span end table lower upper plan.rest),
)
